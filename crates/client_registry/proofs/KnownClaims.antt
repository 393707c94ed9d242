-- The claims that a configuration gives users are standard claims, each of its kind.
use Rattle.std.proofs.Common.{◌≡◌, ◌&&◌, ◌^◌, ℕ, Bool, true, false, cond, nat_lt, List, codes, Option, Some, None, is_some, option_map, option_and_then, unwrap_or, Ordering, Less, Equal, Greater, refl, sym, ap, ◌∙◌, subst, true≢false}
use Rattle.std.specs.Ordering.{match_ordering, nat_cmp}
use Rattle.std.specs.Str.{bytes_eq}
use Rattle.std.specs.Cmp.Lexicographic.{slice_cmp}
use Rattle.std.proofs.lemmas.Slice.Eq.{bytes_eq-Decides}
use Rattle.toml.specs.Data as toml
use Rattle.serde_json.specs.Data.{Data, boolean, number, unsigned, string, object, Members, no_members, member, put}
use Rattle.serde_json.specs.Find.{get_member, as_str, as_bool, as_object}
use Rattle.serde_json.proofs.Views.{get_member-put, get_member-put_other}
use Rattle.claim_set.specs.Kinds.{if_small, small_number}
use Rattle.oidc_words.specs.declared.claims.ClaimKind.{ClaimKind}
use Rattle.oidc_words.specs.declared.claims.ClaimKind.TheVariants.{Text, Flag, Seconds, Address}
use Rattle.oidc_words.specs.Claims.{kind_of}
use Rattle.configuration_rows.specs.Values.{as_natural}
use Rattle.configuration_rows.specs.Claims.{text_value, texts_onto, kind_value, claim_value, claims_onto, claims_in}
use Rattle.client_registry.specs.ClaimKinds.{are_texts, is_address, has_kind, AreKnown}
use Rattle.client_registry.specs.Records.{user_claims}

same_value : {A : Type 0} (a b : A) → Some a ≡ Some b → a ≡ b
same_value a b h = cc

no_value : {A B : Type 0} (a : A) → None ≡ Some a → B
no_value a h = absurd (cc)

-- ---- the kinds of values

text_is : (o : Option (List ℕ)) (v : Data) → option_map string o ≡ Some v → is_some (as_str v) ≡ true
text_is None v h = no_value v h
text_is (Some t) v h = subst (λ x. is_some (as_str x) ≡ true) (same_value (string t) v h) refl

flag_is : (o : Option Bool) (v : Data) → option_map boolean o ≡ Some v → is_some (as_bool v) ≡ true
flag_is None v h = no_value v h
flag_is (Some b) v h = subst (λ x. is_some (as_bool x) ≡ true) (same_value (boolean b) v h) refl

small_is : (n : ℕ) (t : Bool) (v : Data) → nat_lt n (2 ^ 40) ≡ t → option_map (λ m. number (unsigned m)) (cond t (Some n) None) ≡ Some v → is_some (small_number v) ≡ true
small_is n true v is h = subst (λ x. is_some (small_number x) ≡ true) (same_value (number (unsigned n)) v h) (rw is refl)
small_is n false v is h = no_value v h

seconds_is : (o : Option ℕ) (v : Data) → option_map (λ m. number (unsigned m)) (option_and_then if_small o) ≡ Some v → is_some (small_number v) ≡ true
seconds_is None v h = no_value v h
seconds_is (Some n) v h = small_is n (nat_lt n (2 ^ 40)) v refl h

module _ (P : Members → Type 0) where
  at_order : (o : Ordering) (a b c : Members) → P a → P b → P c → P (match_ordering o a b c)
  at_order Less a b c p q r = p
  at_order Equal a b c p q r = q
  at_order Greater a b c p q r = r

both : (a b : Bool) → (a && b) ≡ true → (a ≡ true) × (b ≡ true)
both true b h = (refl, h)
both false b h = absurd (true≢false (sym h))

texts_put : (k : List ℕ) (d : Data) (ms : Members) → is_some (as_str d) ≡ true → are_texts ms ≡ true → are_texts (put k d ms) ≡ true
texts_put k d no_members h g = rw h refl
texts_put k d (member l e ms) h g =
    let parts = both (is_some (as_str e)) (are_texts ms) g in
    at_order (λ m. are_texts m ≡ true) (slice_cmp nat_cmp k l) (member k d (member l e ms)) (member l d ms) (member l e (put k d ms))
    (rw (h, parts.0) parts.1) (rw h parts.1) (rw parts.0 (texts_put k d ms h parts.1))

texts_step : (o : Option Data) (k : List ℕ) (d : toml.Data) (rest : toml.Members) (claims ms : Members) → text_value d ≡ o → are_texts claims ≡ true
    → ((v : Data) → are_texts (put k v claims) ≡ true → texts_onto rest (put k v claims) ≡ Some ms → are_texts ms ≡ true)
    → option_and_then (λ v. texts_onto rest (put k v claims)) o ≡ Some ms → are_texts ms ≡ true
texts_step None k d rest claims ms is h goes e = no_value ms e
texts_step (Some v) k d rest claims ms is h goes e = goes v (texts_put k v claims (text_is (toml.as_str d) v is) h) e

texts_made : (rest : toml.Members) (claims ms : Members) → are_texts claims ≡ true → texts_onto rest claims ≡ Some ms → are_texts ms ≡ true
texts_made toml.no_members claims ms h e = subst (λ x. are_texts x ≡ true) (same_value claims ms e) h
texts_made (toml.member k d rest) claims ms h e = texts_step (text_value d) k d rest claims ms refl h (λ v g f. texts_made rest (put k v claims) ms g f) e

object_is : (o : Option Members) (v : Data) → ((ms : Members) → o ≡ Some ms → are_texts ms ≡ true) → option_map object o ≡ Some v → is_address (as_object v) ≡ true
object_is None v k h = no_value v h
object_is (Some ms) v k h = subst (λ x. is_address (as_object x) ≡ true) (same_value (object ms) v h) (k ms refl)

texts_in : (o : Option toml.Members) (ms : Members) → option_and_then (λ rest. texts_onto rest no_members) o ≡ Some ms → are_texts ms ≡ true
texts_in None ms h = no_value ms h
texts_in (Some rest) ms h = texts_made rest no_members ms refl h

value_has_kind : (o : Option ClaimKind) (d : toml.Data) (v : Data) → kind_value o d ≡ Some v → has_kind o v ≡ true
value_has_kind None d v h = no_value v h
value_has_kind (Some Text) d v h = text_is (toml.as_str d) v h
value_has_kind (Some Flag) d v h = flag_is (toml.as_bool d) v h
value_has_kind (Some Seconds) d v h = seconds_is (as_natural d) v h
value_has_kind (Some Address) d v h = object_is (option_and_then (λ rest. texts_onto rest no_members) (toml.as_table d)) v (texts_in (toml.as_table d)) h

-- ---- the claims that are put

known_at : (q k : List ℕ) (v d : Data) (ms : Members) (t : Bool) → bytes_eq q k ≡ t → has_kind (kind_of k) v ≡ true → AreKnown ms → get_member q (put k v ms) ≡ Some d → has_kind (kind_of q) d ≡ true
known_at q k v d ms true is h old e =
    let same : q ≡ k = (bytes_eq-Decides q k).0 is in
    let value : v ≡ d = same_value v d (sym (get_member-put k v ms) ∙ ap (λ x. get_member x (put k v ms)) (sym same) ∙ e) in
    ap (λ x. has_kind (kind_of x) d) same ∙ ap (has_kind (kind_of k)) (sym value) ∙ h
known_at q k v d ms false is h old e = old q d (sym (get_member-put_other q k v ms (λ same. true≢false (sym ((bytes_eq-Decides q k).1 same) ∙ is))) ∙ e)

pub known_put : (k : List ℕ) (v : Data) (ms : Members) → has_kind (kind_of k) v ≡ true → AreKnown ms → AreKnown (put k v ms)
known_put k v ms h old q d e = known_at q k v d ms (bytes_eq q k) refl h old e

pub known_none : AreKnown no_members
known_none q d e = no_value d e

known_step : (o : Option Data) (k : List ℕ) (d : toml.Data) (rest : toml.Members) (claims ms : Members) → claim_value k d ≡ o → AreKnown claims
    → ((v : Data) → AreKnown (put k v claims) → claims_onto rest (put k v claims) ≡ Some ms → AreKnown ms)
    → option_and_then (λ v. claims_onto rest (put k v claims)) o ≡ Some ms → AreKnown ms
known_step None k d rest claims ms is h goes e = no_value ms e
known_step (Some v) k d rest claims ms is h goes e = goes v (known_put k v claims (value_has_kind (kind_of k) d v is) h) e

known_made : (rest : toml.Members) (claims ms : Members) → AreKnown claims → claims_onto rest claims ≡ Some ms → AreKnown ms
known_made toml.no_members claims ms h e = subst AreKnown (same_value claims ms e) h
known_made (toml.member k d rest) claims ms h e = known_step (claim_value k d) k d rest claims ms refl h (λ v g f. known_made rest (put k v claims) ms g f) e

known_table : (o : Option toml.Members) (ms : Members) → option_and_then (λ rest. claims_onto rest no_members) o ≡ Some ms → AreKnown ms
known_table None ms e = no_value ms e
known_table (Some rest) ms e = known_made rest no_members ms known_none e

known_in : (o : Option toml.Data) (ms : Members) → option_and_then claims_in o ≡ Some ms → AreKnown ms
known_in None ms e = no_value ms e
known_in (Some d) ms e = known_table (toml.as_table d) ms e

known_or : (o : Option Members) → ((ms : Members) → o ≡ Some ms → AreKnown ms) → AreKnown (unwrap_or o no_members)
known_or None h = known_none
known_or (Some ms) h = h ms refl

pub users_are_known : (d : toml.Data) → AreKnown (user_claims d)
users_are_known d = known_or (option_and_then claims_in (toml.get (codes "claims") d)) (known_in (toml.get (codes "claims") d))
