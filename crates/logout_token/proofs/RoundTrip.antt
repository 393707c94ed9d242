-- The claim set that is written for a logout token has its claims.
use Rattle.std.proofs.Common.{◌≡◌, ◌<◌, ◌^◌, ℕ, List, ◌||◌, is_some, Ok, codes, refl}
use Rattle.std.specs.Prelude.{IsTrue}
use Rattle.serde_json.specs.Data.{no_members}
use Rattle.claim_set.specs.Reading.{claims_read, claims_text}
use Rattle.claim_set.proofs.Building.{get-put_all}
use Rattle.claim_set.proofs.KindLaws.{or_else_none}
use Rattle.claim_set.proofs.PutClaims.{data_texts-audience}
use Rattle.jws_compact.specs.Jws.{Sealed, header_bytes, seal_text, typ_of}
use Rattle.jws_compact.specs.declared.sealing.Typ.TheVariants.{LogoutJwt}
use Rattle.jws_compact.proofs.Opening.{sealed_verdict}
use Rattle.jws_compact.proofs.Written.{typ_of-header_bytes}
use Rattle.logout_token.specs.declared.claims.LogoutClaims.{LogoutClaims}
use Rattle.logout_token.specs.LogoutToken.{logout_entries, logout_members, logout_read, logout_text}
use Rattle.logout_token.specs.Token.{HasLogoutClaims, IsLogoutTyp}
use Rattle.logout_token.proofs.Standing.{logout_of-has, IsLogoutTyp-fits}

pub written_typ : IsLogoutTyp (typ_of (header_bytes LogoutJwt))
written_typ = IsLogoutTyp-fits (typ_of (header_bytes LogoutJwt)) (rw (typ_of-header_bytes LogoutJwt) refl)

module _ (x : LogoutClaims) (names : IsTrue (is_some x.sub || is_some x.sid)) (e : x.exp < 2 ^ 40) (i : x.iat < 2 ^ 40) where
  pub has-logout_members : HasLogoutClaims (logout_members x) x
  unfolding logout_members
  has-logout_members = record {
    iss = rw (get-put_all (codes "iss") (logout_entries x) no_members) refl;
    aud = rw (get-put_all (codes "aud") (logout_entries x) no_members, data_texts-audience) refl;
    iat = rw (get-put_all (codes "iat") (logout_entries x) no_members) refl;
    exp = rw (get-put_all (codes "exp") (logout_entries x) no_members) refl;
    jti = rw (get-put_all (codes "jti") (logout_entries x) no_members) refl;
    sub = rw (get-put_all (codes "sub") (logout_entries x) no_members, or_else_none) refl;
    sid = rw (get-put_all (codes "sid") (logout_entries x) no_members, or_else_none) refl;
    event = record { inside = _; event = no_members; events_are = get-put_all (codes "events") (logout_entries x) no_members; event_is = refl };
    no_nonce = get-put_all (codes "nonce") (logout_entries x) no_members;
    names = names;
    iat_fits = i;
    exp_fits = e;
  }

  pub logout_read-sealed : (k p t : List ℕ) → Sealed k (header_bytes LogoutJwt) p t → claims_read p ≡ Ok (logout_members x) → logout_read k t ≡ Ok x
  unfolding logout_read
  logout_read-sealed k p t sealed reads =
      rw (sealed_verdict k (header_bytes LogoutJwt) p t sealed, reads) (logout_of-has (logout_members x) x has-logout_members (typ_of (header_bytes LogoutJwt)) written_typ)

-- ---- what `seal_logout` answers

pub text_of_payload : (k p t : List ℕ) (x : LogoutClaims) → t ≡ seal_text k LogoutJwt p → p ≡ claims_text (logout_members x) → t ≡ logout_text k x
unfolding logout_text
text_of_payload k p t x e f = rw (e, f)
