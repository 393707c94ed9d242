-- URLs and endpoints are texts in UTF-8.
use Rattle.std.proofs.Common.{◌≡◌, ℕ, List, [], ◌∷◌, ◌++◌, ◌&&◌, Bool, true, false, nat_lt, length, take, take_at, Option, Some, None, is_some, refl, ap, ◌∙◌, subst, arith}
use Rattle.std.specs.List.{list_all}
use Rattle.std.specs.Str.{IsUtf8}
use Rattle.std.proofs.lemmas.Grind.{common_steps}
use Rattle.std.proofs.lemmas.Bool.Decides.{nat_tests}
use Rattle.std.proofs.lemmas.Str.{IsUtf8-take, IsUtf8-append, IsCharBoundary-at_seam}
use Rattle.json.proofs.Printed.Utf8.{IsUtf8-are_ascii}
use Rattle.sso_base.specs.Texts.{is_ascii}
use Rattle.registered_url.specs.declared.web_url.WebUrl.{WebUrl}
use Rattle.registered_url.specs.Rule.{is_visible, url_of}
use Rattle.registered_url.proofs.Keeping.{urls_keep}
use Rattle.registered_url.proofs.PathBelow.{is_any_slash, IsCutFrom}
use Rattle.client_registry.specs.Records.{without_slash, endpoint}
use Rattle.client_registry.proofs.Slashes.{Cut, cut_of}
use Rattle.discovery_doc.specs.Document.{IsUrl}

-- ---- a text that keeps the rule for URLs is visible ASCII

pub both : (a b : Bool) → (a && b) ≡ true → (a ≡ true) × (b ≡ true)
both true true h = (refl, refl)
both true false h = absurd (cc)
both false b h = absurd (cc)

visible_is_ascii : (b : ℕ) → nat_lt b 127 ≡ true → nat_lt b 128 ≡ true
visible_is_ascii b h = grind (arith, common_steps)

visible_are_ascii : (t : List ℕ) → list_all is_visible t ≡ true → is_ascii t ≡ true
visible_are_ascii [] h = refl
visible_are_ascii (b ∷ t) h =
    let parts = both (is_visible b) (list_all is_visible t) h in
    rw (visible_is_ascii b (both (nat_lt 32 b) (nat_lt b 127) parts.0).1) (visible_are_ascii t parts.1)

url_at : (t : List ℕ) (o : Option WebUrl) → url_of t ≡ o → is_some o ≡ true → IsUtf8 t
url_at t None is h = absurd (cc)
url_at t (Some u) is h = IsUtf8-are_ascii t (visible_are_ascii t (urls_keep t u is).1.visible)

pub IsUtf8-url : (t : List ℕ) → IsUrl t → IsUtf8 t
IsUtf8-url t h = url_at t (url_of t) refl h

-- ---- a text without its last slash

before_tail : (t front tail : List ℕ) → t ≡ front ++ tail → is_ascii tail ≡ true → IsUtf8 t → IsUtf8 front
before_tail t front tail is ascii u =
    let cut = IsUtf8-take t (length front) u (IsCharBoundary-at_seam t front tail is (IsUtf8-are_ascii tail ascii)) in
    subst IsUtf8 (ap (take (length front)) is ∙ take_at front tail (length front) refl) cut

slash_is_ascii : (e : ℕ) → is_any_slash e ≡ true → nat_lt e 128 ≡ true
slash_is_ascii e h = grind (arith, nat_tests, h)

cut_is_ascii : (front tail : List ℕ) → IsCutFrom front tail → is_ascii tail ≡ true
cut_is_ascii front [] h = refl
cut_is_ascii front (e ∷ []) h = rw (slash_is_ascii e h)
cut_is_ascii front (e ∷ f ∷ rest) h = absurd h

IsUtf8-without_slash : (t : List ℕ) → IsUtf8 t → IsUtf8 (without_slash t)
IsUtf8-without_slash t u =
    let c : Cut t = cut_of t in
    before_tail t (without_slash t) c.tail c.whole (cut_is_ascii (without_slash t) c.tail c.cut) u

pub IsUtf8-endpoint : (issuer path : List ℕ) → IsUtf8 issuer → IsUtf8 path → IsUtf8 (endpoint issuer path)
IsUtf8-endpoint issuer path u v = IsUtf8-append (without_slash issuer) path (IsUtf8-without_slash issuer u) v
