-- A claim that was put is read by its name.
use Rattle.std.proofs.Common.{◌≡◌, ◌<◌, ◌^◌, ℕ, List, [], ◌∷◌, Bool, true, nat_lt, Some, option_map, refl, ap, Ok, arith}
use Rattle.std.proofs.lemmas.Grind.{common_steps}
use Rattle.serde_json.specs.Data.{Members, put, string, number, unsigned, boolean, array, object}
use Rattle.serde_json.proofs.Views.{get_member-put}
use Rattle.claim_set.specs.Claims.{text_items}
use Rattle.claim_set.specs.Kinds.{text_claim, number_claim, flag_claim, texts_claim, member_claim, item_texts, data_texts}
use Rattle.claim_set.specs.Building.{audience}

pub text-put : (k t : List ℕ) (ms : Members) → text_claim k (put k (string t) ms) ≡ Ok (Some t)
text-put k t ms = rw (get_member-put k (string t) ms)

is_small : (n : ℕ) → n < 2 ^ 40 → nat_lt n (2 ^ 40) ≡ true
is_small n h = grind (arith, common_steps)

pub number-put : (k : List ℕ) (n : ℕ) (ms : Members) → n < 2 ^ 40 → number_claim k (put k (number (unsigned n)) ms) ≡ Ok (Some n)
number-put k n ms h = rw (get_member-put k (number (unsigned n)) ms, is_small n h)

pub flag-put : (k : List ℕ) (b : Bool) (ms : Members) → flag_claim k (put k (boolean b) ms) ≡ Ok (Some b)
flag-put k b ms = rw (get_member-put k (boolean b) ms)

pub lone_text-put : (k t : List ℕ) (ms : Members) → texts_claim k (put k (string t) ms) ≡ Ok (Some (t ∷ []))
lone_text-put k t ms = rw (get_member-put k (string t) ms)

item_texts-text_items : (ts : List (List ℕ)) → item_texts (text_items ts) ≡ Some ts
item_texts-text_items [] = refl
item_texts-text_items (t ∷ ts) = ap (option_map (λ rest. t ∷ rest)) (item_texts-text_items ts)

pub texts-put : (k : List ℕ) (ts : List (List ℕ)) (ms : Members) → texts_claim k (put k (array (text_items ts)) ms) ≡ Ok (Some ts)
texts-put k ts ms = rw (get_member-put k (array (text_items ts)) ms, item_texts-text_items ts)

pub data_texts-audience : (ts : List (List ℕ)) → data_texts (audience ts) ≡ Some ts
data_texts-audience [] = refl
data_texts-audience (t ∷ []) = refl
data_texts-audience (t ∷ s ∷ ts) = item_texts-text_items (t ∷ s ∷ ts)

pub audience-put : (k : List ℕ) (ts : List (List ℕ)) (ms : Members) → texts_claim k (put k (audience ts) ms) ≡ Ok (Some ts)
audience-put k ts ms = rw (get_member-put k (audience ts) ms, data_texts-audience ts)

pub member-put : (k : List ℕ) (ns ms : Members) → member_claim k (put k (object ns) ms) ≡ Ok (Some ns)
member-put k ns ms = rw (get_member-put k (object ns) ms)
