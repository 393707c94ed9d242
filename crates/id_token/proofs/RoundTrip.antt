-- The claim set that is written for an ID Token has its claims.
use Rattle.std.proofs.Common.{◌≡◌, ◌<◌, ◌^◌, ℕ, List, Ok, codes, refl, sym}
use Rattle.std.specs.Prelude.{IfSome, IsTrue}
use Rattle.claim_set.specs.Reading.{claims_read}
use Rattle.claim_set.specs.Building.{HasNone}
use Rattle.claim_set.proofs.Building.{get-put_all, without_all-put_all}
use Rattle.claim_set.proofs.KindLaws.{or_else_none}
use Rattle.claim_set.proofs.PutClaims.{data_texts-audience}
use Rattle.jws_compact.specs.Jws.{Sealed}
use Rattle.jws_compact.proofs.Opening.{sealed_verdict}
use Rattle.id_token.specs.declared.claims.IdClaims.{IdClaims}
use Rattle.id_token.specs.Claims.{id_entries, id_names, id_members, is_subject}
use Rattle.id_token.specs.Reading.{id_read}
use Rattle.id_token.specs.Token.{HasClaims}
use Rattle.id_token.proofs.Standing.{id_of-has}

module _ (x : IdClaims) (none : HasNone id_names x.more) (s : IsTrue (is_subject x.sub)) (e : x.exp < 2 ^ 40) (i : x.iat < 2 ^ 40) (a : IfSome x.auth_time (λ n. n < 2 ^ 40)) where
  pub has-id_members : HasClaims (id_members x) x
  unfolding id_members
  has-id_members = record {
    iss = rw (get-put_all (codes "iss") (id_entries x) x.more) refl;
    sub = rw (get-put_all (codes "sub") (id_entries x) x.more) refl;
    aud = rw (get-put_all (codes "aud") (id_entries x) x.more, data_texts-audience) refl;
    exp = rw (get-put_all (codes "exp") (id_entries x) x.more) refl;
    iat = rw (get-put_all (codes "iat") (id_entries x) x.more) refl;
    auth_time = rw (get-put_all (codes "auth_time") (id_entries x) x.more, none.1.1.0, or_else_none) refl;
    azp = rw (get-put_all (codes "azp") (id_entries x) x.more, none.1.1.1.0, or_else_none) refl;
    nonce = rw (get-put_all (codes "nonce") (id_entries x) x.more, none.1.1.1.1.1.1.1.1.0, or_else_none) refl;
    sid = rw (get-put_all (codes "sid") (id_entries x) x.more, none.1.1.1.1.1.1.1.1.1.0, or_else_none) refl;
    at_hash = rw (get-put_all (codes "at_hash") (id_entries x) x.more, none.0, or_else_none) refl;
    c_hash = rw (get-put_all (codes "c_hash") (id_entries x) x.more, none.1.1.1.1.0, or_else_none) refl;
    more = sym (without_all-put_all (id_entries x) x.more refl none);
    is_subject = s;
    exp_fits = e;
    iat_fits = i;
    auth_time_fits = a;
  }

  pub id_read-sealed : (k h p t : List ℕ) → Sealed k h p t → claims_read p ≡ Ok (id_members x) → id_read k t ≡ Ok x
  unfolding id_read
  id_read-sealed k h p t sealed reads = rw (sealed_verdict k h p t sealed, reads) (id_of-has (id_members x) x has-id_members)
