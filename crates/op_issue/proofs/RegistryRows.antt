-- What stands in a registry at the number of a client and of a user.
use Rattle.std.proofs.Common.{◌≡◌, ◌≤◌, ◌<◌, ℕ, zero, suc, true, List, [], ◌∷◌, length, get_or, nat_le, Option, Some, None, is_some, slice_get, refl, arith}
use Rattle.std.specs.Prelude.{IsTrue}
use Rattle.std.specs.List.{AllByRecursion, list_all}
use Rattle.std.proofs.lemmas.Bool.{leb-true}
use Rattle.registered_url.specs.declared.web_url.WebUrl.{WebUrl}
use Rattle.registered_url.specs.Rule.{url_of}
use Rattle.registered_url.proofs.Keeping.{urls_keep}
use Rattle.configuration_rows.specs.declared.kind.Alphabet.TheVariants.{ClientId}
use Rattle.configuration_rows.specs.Kinds.{allows, is_within, is_name}
use Rattle.client_registry.specs.declared.records.Client.{Client}
use Rattle.client_registry.specs.Configuration.{Configuration, subject_at}
use Rattle.client_registry.specs.Numbers.{id_in, client_id}
use Rattle.client_registry.specs.Registered.{AreApart, IsClient, IsSubject, IsRegistry}
use Rattle.sso_base.specs.Words.{Text}
use Rattle.sso_base.proofs.Spelling.{both_true}
use Rattle.jws_compact.proofs.Ascii.{ascii_bytes}
use Rattle.id_token.specs.Claims.{is_subject}
use Rattle.claim_set.proofs.PlainTexts.{is_plain}
use Rattle.configuration_rows.proofs.PlainTexts.{visible_are_plain, client_id_is_plain}

-- a text of printable ASCII that is not long
pub record IsPlainTo (most : ℕ) (t : Text) : Type 0 where
  pub plain : is_plain t ≡ true
  pub short : length t ≤ most

-- ---- the issuer

plain_url : (t : Text) (o : Option WebUrl) → url_of t ≡ o → is_some o ≡ true → is_plain t ≡ true
plain_url t None is h = absurd (cc)
plain_url t (Some u) is h = visible_are_plain t (urls_keep t u is).1.visible

pub issuer_is_plain : (c : Configuration) → IsRegistry c → IsPlainTo 200 c.provider.issuer
issuer_is_plain c r = record { plain = plain_url c.provider.issuer (url_of c.provider.issuer) refl r.issuer; short = r.short_issuer }

-- ---- the id of a client

plain_id : (t : Text) → is_name ClientId 1 64 t ≡ true → IsPlainTo 64 t
plain_id t h =
    let parts = both_true (is_within 1 64 (length t)) (list_all (allows ClientId) t) h in
    record {
      plain = client_id_is_plain t parts.1;
      short = leb-true (length t) 64 (both_true (nat_le 1 (length t)) (nat_le (length t) 64) parts.0).1;
    }

no_id : IsPlainTo 64 []
no_id = record { plain = refl; short = omega arith }

plain_id_in : (ks : List Client) (n : ℕ) → AllByRecursion IsClient ks → IsPlainTo 64 (id_in (slice_get ks n))
plain_id_in [] n h = no_id
plain_id_in (k ∷ ks) zero h = plain_id k.id h.0.id
plain_id_in (k ∷ ks) (suc n) h = plain_id_in ks n h.1

pub client_id_is_short : (c : Configuration) (n : ℕ) → IsRegistry c → IsPlainTo 64 (client_id c n)
client_id_is_short c n r = plain_id_in c.clients n r.client_rules

-- ---- a subject

all_at : {X : Type 0} (P : X → Type 0) (xs : List X) (i : ℕ) (d : X) → AllByRecursion P xs → i < length xs → P (get_or xs i d)
all_at P [] i d h l = absurd (omega (arith, l))
all_at P (x ∷ xs) zero d h l = h.0
all_at P (x ∷ xs) (suc i) d h l = all_at P xs i d h.1 (omega (arith, l))

subject_of_registry : (c : Configuration) (client user : ℕ) → IsRegistry c → client < length c.clients → user < length c.users → IsSubject (subject_at c client user)
subject_of_registry c client user r k u =
    let there : client < length c.subjects = omega (arith, k, r.rows) in
    let long = (all_at (λ row. (length row ≡ length c.users) × AreApart row) c.subjects client [] r.subjects there).0 in
    let rules = all_at (λ row. AllByRecursion IsSubject row) c.subjects client [] r.subject_rules there in
    all_at IsSubject (get_or c.subjects client []) user [] rules (omega (arith, u, long))

subject_test : (t : Text) → IsSubject t → IsTrue (is_subject t)
subject_test t h =
    let parts = both_true (nat_le 1 (length t)) (nat_le (length t) 255) h.within in
    rw (parts.0, parts.1, ascii_bytes t h.ascii)

pub subject_is_one : (c : Configuration) (client user : ℕ) → IsRegistry c → client < length c.clients → user < length c.users → IsTrue (is_subject (subject_at c client user))
subject_is_one c client user r k u = subject_test (subject_at c client user) (subject_of_registry c client user r k u)

pub subject_is_short : (c : Configuration) (client user : ℕ) → IsRegistry c → client < length c.clients → user < length c.users → length (subject_at c client user) ≤ 255
subject_is_short c client user r k u =
    let rule = subject_of_registry c client user r k u in
    leb-true (length (subject_at c client user)) 255 (both_true (nat_le 1 (length (subject_at c client user))) (nat_le (length (subject_at c client user)) 255) rule.within).1
