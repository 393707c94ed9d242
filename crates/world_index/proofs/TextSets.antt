-- The texts of a set, as keys of strings and as the list of their bytes; and the sets of clients, of which one has one more text.
use Rattle.std.proofs.Common.{◌≡◌, ◌≢◌, ℕ, zero, suc, ◌<◌, ◌==◌, ◌&&◌, ◌||◌, Bool, true, false, cond, List, [], ◌∷◌, ◌++◌, length, map, slice_index_or, string_bytes, inl, inr, refl, sym, ap, ◌∙◌, subst}
use Rattle.std.specs.declared.string.String.{String}
use Rattle.std.specs.List.{AllByRecursion, list_any, slice_set}
use Rattle.std.specs.Str.{bytes_eq}
use Rattle.std.specs.String.{string_eq}
use Rattle.std.specs.HashSet.{HashSet, UpdatesBy}
use Rattle.std.proofs.lemmas.Bool.{eqb-true, eqb-false}
use Rattle.std.proofs.lemmas.List.{get_or-set_same, get_or-set_other}
use Rattle.std.proofs.lemmas.Map.Text.{hash_set_updates_text}
use Rattle.sso_base.specs.Texts.{has_text}
use Rattle.sso_base.specs.Words.{Text}
use Rattle.sso_base.proofs.RowLaws.{bool_cases}
use Rattle.world_index.specs.Writing.{is_written_for}

pub keys_have : {Y : Type 0} (t : Text) (keys : List (String Y)) → list_any (λ k. bytes_eq t (string_bytes k)) keys ≡ has_text t (map string_bytes keys)
keys_have t [] = refl
keys_have t (k ∷ keys) = ap (λ b. bytes_eq t (string_bytes k) || b) (keys_have t keys)

or_when : (b c : Bool) → cond b true c ≡ (b || c)
or_when true c = refl
or_when false c = refl

-- a key was added
pub key_added : {Y S : Type 0} (bs : List ℕ) (before after : HashSet (String Y) S) → UpdatesBy string_eq (λ k. bytes_eq bs (string_bytes k)) before after true → (t : Text) → has_text t (map string_bytes after.keys) ≡ (bytes_eq bs t || has_text t (map string_bytes before.keys))
key_added bs before after updates t =
    sym (keys_have t after.keys)
    ∙ hash_set_updates_text bs before after true updates t
    ∙ or_when (bytes_eq bs t) (list_any (λ k. bytes_eq t (string_bytes k)) before.keys)
    ∙ ap (λ b. bytes_eq bs t || b) (keys_have t before.keys)

-- ---- one set for each client

abbrev pub AreEmpty : List (List Text) → Type 0
AreEmpty sets = AllByRecursion (λ (s : List Text). s ≡ []) sets

empty_at : (sets : List (List Text)) (k : ℕ) → AreEmpty sets → slice_index_or sets k [] ≡ []
empty_at [] k empty = refl
empty_at (s ∷ sets) zero empty = empty.0
empty_at (s ∷ sets) (suc k) empty = empty_at sets k empty.1

pub none_written : (sets : List (List Text)) → AreEmpty sets → (t : Text) (client : ℕ) → is_written_for sets t client ≡ false
none_written sets empty t client = ap (has_text t) (empty_at sets client empty)

pub empty_pushed : (sets : List (List Text)) → AreEmpty sets → AreEmpty (sets ++ [] ∷ [])
empty_pushed [] empty = (refl, tt)
empty_pushed (s ∷ sets) empty = (empty.0, empty_pushed sets empty.1)

-- ---- a text of one client was added

index_set_same : (sets : List (List Text)) (n : ℕ) (s : List Text) → n < length sets → slice_index_or (slice_set sets n s) n [] ≡ s
index_set_same sets n s low = get_or-set_same sets n s [] low

-- the set of a client has one more text
pub noted_for : (sets : List (List Text)) (n : ℕ) (s : List Text) (text : Text) → n < length sets → ((t : Text) → has_text t s ≡ (bytes_eq text t || has_text t (slice_index_or sets n []))) → (t : Text) (other : ℕ) → is_written_for (slice_set sets n s) t other ≡ ((n == other && bytes_eq text t) || is_written_for sets t other)
noted_for sets n s text low added t other =
    let G : Bool → Bool = λ b. (b && bytes_eq text t) || is_written_for sets t other in
    elim (bool_cases (n == other)) [
      | inl e ↦
          (let same : n ≡ other = eqb-true n other e in
          let P : ℕ → Type 0 = λ i. is_written_for (slice_set sets n s) t i ≡ (bytes_eq text t || is_written_for sets t i) in
          subst P same (ap (has_text t) (index_set_same sets n s low) ∙ added t) ∙ sym (ap G e))
      | inr e ↦
          (let apart : other ≢ n = λ is. eqb-false n other e (sym is) in
          ap (has_text t) (get_or-set_other sets n other s [] apart) ∙ sym (ap G e))
    ]
