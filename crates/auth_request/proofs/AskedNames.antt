-- The claims that are asked for are the standard claims among the names of a part.
use Rattle.std.proofs.Common.{◌≡◌, ℕ, List, ◌∷◌, Bool, true, false, ◌&&◌, cond, codes, Ordering, Less, Equal, Greater, is_eq, Option, Some, None, is_some, option_and_then, refl, sym, ap, ◌∙◌, true≢false}
use Rattle.std.specs.Ordering.{match_ordering, nat_cmp}
use Rattle.std.specs.Cmp.Lexicographic.{slice_cmp}
use Rattle.std.specs.Str.{bytes_eq}
use Rattle.std.proofs.lemmas.Map.Text.{is_eq-slice_cmp}
use Rattle.std.proofs.lemmas.Slice.Eq.{bytes_eq-Decides}
use Rattle.serde_json.specs.Data.{Data, null, boolean, number, string, array, object, Members, no_members, member}
use Rattle.serde_json.specs.Find.{get, get_member, as_object}
use Rattle.serde_json.specs.Read.{read}
use Rattle.claim_set.proofs.Fitting.{skips}
use Rattle.sso_base.specs.Texts.{has_text}
use Rattle.oidc_words.specs.Claims.{is_standard_claim}
use Rattle.auth_request.specs.ClaimsParameter.{is_claims_request, standard_names, names_of, claims_of}

and_none : (b : Bool) → (b && false) ≡ false
and_none true = refl
and_none false = refl

equal : (o : Ordering) (a b : Option Data) → is_eq o ≡ true → match_ordering o a b a ≡ b
equal Less a b e = absurd (true≢false (sym e))
equal Equal a b e = refl
equal Greater a b e = absurd (true≢false (sym e))

finds : (q k : List ℕ) (d : Data) (ms : Members) → bytes_eq q k ≡ true → get_member q (member k d ms) ≡ Some d
finds q k d ms is = equal (slice_cmp nat_cmp q k) (get_member q ms) (Some d) (is_eq-slice_cmp q k ∙ is)

one_more : (q k : List ℕ) (d : Data) (ms : Members) (same standard : Bool) → bytes_eq q k ≡ same → is_standard_claim k ≡ standard
    → has_text q (standard_names ms) ≡ (is_standard_claim q && is_some (get_member q ms))
    → has_text q (cond standard (k ∷ standard_names ms) (standard_names ms)) ≡ (is_standard_claim q && is_some (get_member q (member k d ms)))
one_more q k d ms true true is there h =
    let one : is_standard_claim q ≡ true = ap is_standard_claim ((bytes_eq-Decides q k).0 is) ∙ there in
    rw (is, finds q k d ms is, one) refl
one_more q k d ms true false is there h =
    let one : is_standard_claim q ≡ false = ap is_standard_claim ((bytes_eq-Decides q k).0 is) ∙ there in
    rw (h, one) refl
one_more q k d ms false true is there h = rw (is, skips q k d ms is) h
one_more q k d ms false false is there h = rw (skips q k d ms is) h

names : (q : List ℕ) (ms : Members) → has_text q (standard_names ms) ≡ (is_standard_claim q && is_some (get_member q ms))
names q no_members = sym (and_none (is_standard_claim q))
names q (member k d ms) = one_more q k d ms (bytes_eq q k) (is_standard_claim k) refl refl (names q ms)

in_part : (q : List ℕ) (o : Option Data) → has_text q (names_of (option_and_then as_object o)) ≡ (is_standard_claim q && is_some (option_and_then (get q) o))
in_part q None = sym (and_none (is_standard_claim q))
in_part q (Some null) = sym (and_none (is_standard_claim q))
in_part q (Some (boolean b)) = sym (and_none (is_standard_claim q))
in_part q (Some (number n)) = sym (and_none (is_standard_claim q))
in_part q (Some (string s)) = sym (and_none (is_standard_claim q))
in_part q (Some (array ds)) = sym (and_none (is_standard_claim q))
in_part q (Some (object ms)) = names q ms

pub id_names : (t : List ℕ) (d : Data) (q : List ℕ) → read t ≡ Some d → is_claims_request d ≡ true → has_text q (claims_of (Some t)).id_asked ≡ (is_standard_claim q && is_some (option_and_then (get q) (get (codes "id_token") d)))
unfolding claims_of
id_names t d q is fits = rw (is, fits) (in_part q (get (codes "id_token") d))

pub info_names : (t : List ℕ) (d : Data) (q : List ℕ) → read t ≡ Some d → is_claims_request d ≡ true → has_text q (claims_of (Some t)).info_asked ≡ (is_standard_claim q && is_some (option_and_then (get q) (get (codes "userinfo") d)))
unfolding claims_of
info_names t d q is fits = rw (is, fits) (in_part q (get (codes "userinfo") d))
