-- A forged ID Token is unchanged if its subject is, and otherwise is read with the other subject.
use Rattle.std.proofs.Common.{◌≡◌, ◌||◌, Bool, true, false, cond, length, nat_le, Some, None, Ok, refl, sym, ap, ◌∙◌, le-leb, leb-true}
use Rattle.std.specs.Prelude.{option_and_then}
use Rattle.std.specs.Result.{result_ok}
use Rattle.std.proofs.lemmas.Bool.{and_parts, and_from}
use Rattle.sso_base.specs.Words.{Text}
use Rattle.sso_base.proofs.RowLaws.{bytes_true}
use Rattle.claim_set.specs.Reading.{claims_text}
use Rattle.client_registry.specs.declared.records.Client.{Client}
use Rattle.client_registry.specs.Secrets.{is_old, has_secret}
use Rattle.id_token.specs.declared.claims.IdClaims.{IdClaims}
use Rattle.id_token.specs.Claims.{id_members, is_subject}
use Rattle.id_token.specs.Sealing.{id_text, HasTexts, IsSealable}
use Rattle.id_token.proofs.Fitting.{fits-id_members}
use Rattle.id_token.proofs.Written.{id_read-id_text}
use Rattle.rp_request.specs.Opened.{id_read_for}
use Rattle.rp_request.proofs.Opened.{id_alike}
use Rattle.web_requests.specs.Forging.{may_be_sealed, resealed, forged_id}

pub sealable : (x : IdClaims) → IsSealable x → may_be_sealed x ≡ true
sealable x s = and_from (is_subject x.sub) (nat_le (length (claims_text (id_members x))) 6000) s.subject (le-leb (length (claims_text (id_members x))) 6000 s.short)

-- the secret is one of the client's secrets
pub own_secret : (client : Client) → has_secret client.secret client ≡ true
own_secret client = ap (λ b. b || is_old client.secret client.old_secret) (bytes_true client.secret client.secret refl)

pub read_for : (client : Client) (secret : Text) (x : IdClaims) → has_secret secret client ≡ true → IsSealable x → id_read_for client (id_text secret x) ≡ Ok x
read_for client secret x own s = id_alike client secret (id_text secret x) x own (id_read-id_text secret x s)

pub opened : (client : Client) (secret user : Text) (x : IdClaims) → has_secret secret client ≡ true → IsSealable x → forged_id user (id_text secret x) client ≡ resealed client.secret user x
opened client secret user x own s = ap (λ r. option_and_then (resealed client.secret user) (result_ok r)) (read_for client secret x own s)

-- with its own subject
pub own_subject : (client : Client) (secret : Text) (x : IdClaims) → has_secret secret client ≡ true → IsSealable x → forged_id x.sub (id_text secret x) client ≡ Some (id_text client.secret x)
own_subject client secret x own s = opened client secret x.sub x own s ∙ ap (λ b. cond b (Some (id_text client.secret x)) None) (sealable x s)

-- ---- with another subject

one_text : (s t : Text) → Some s ≡ Some t → s ≡ t
one_text s t h = cc

resealed_at : (secret : Text) (y : IdClaims) (b : Bool) (id : Text) → may_be_sealed y ≡ b → cond b (Some (id_text secret y)) None ≡ Some id → (may_be_sealed y ≡ true) × (id_text secret y ≡ id)
resealed_at secret y true id is h = (is, one_text (id_text secret y) id h)
resealed_at secret y false id is h = absurd (cc)

pub with_subject : (x : IdClaims) (user : Text) → HasTexts x → IsSealable x → may_be_sealed (record x { sub = user }) ≡ true → IsSealable (record x { sub = user })
with_subject x user t s may =
    let y : IdClaims = record x { sub = user } in
    let parts = and_parts (is_subject user) (nat_le (length (claims_text (id_members y))) 6000) may in
    record {
      others = s.others;
      subject = parts.0;
      exp = s.exp;
      iat = s.iat;
      auth_time = s.auth_time;
      fits = fits-id_members y (record { iss = t.iss; aud = t.aud; azp = t.azp; nonce = t.nonce; sid = t.sid; at_hash = t.at_hash; c_hash = t.c_hash; more = t.more }) parts.0 s.exp s.iat s.auth_time;
      short = leb-true (length (claims_text (id_members y))) 6000 parts.1;
    }

pub other_subject : (client : Client) (secret user : Text) (x : IdClaims) (id : Text) → has_secret secret client ≡ true → HasTexts x → IsSealable x → forged_id user (id_text secret x) client ≡ Some id
    → id_read_for client id ≡ Ok (record x { sub = user })
other_subject client secret user x id own t s h =
    let y : IdClaims = record x { sub = user } in
    let made = resealed_at client.secret y (may_be_sealed y) id refl (sym (opened client secret user x own s) ∙ h) in
    ap (id_read_for client) (sym made.1) ∙ read_for client client.secret y (own_secret client) (with_subject x user t s made.0)
