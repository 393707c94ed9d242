-- Legal histories: their beginnings, one more pair, and how many pairs they have.
use Rattle.std.proofs.Common.{◌≡◌, ◌≤◌, ◌<◌, ◌^◌, ℕ, suc, ◌+◌, ◌*◌, List, [], ◌∷◌, ◌++◌, length, reverse, refl, sym, subst, arith}
use Rattle.std.proofs.lemmas.List.{reverse-append}
use Rattle.std.proofs.lemmas.List.Sums.{sum_by-cons, sum_by-append}
use Rattle.sso_base.specs.declared.history.Entry.{Entry}
use Rattle.sso_base.specs.declared.history.Pair.{Pair}
use Rattle.sso_base.specs.Legal.{last_moment, IsEntry, IsLegalBy}
use Rattle.sso_base.specs.Weights.{empty_weight}
use Rattle.sso_base.specs.Journal.{most_weight, most_stored_pairs, most_pairs, history_weight, IsLegalHistoryBy}

part_low : (most all front rest : ℕ) → all ≡ front + rest → all ≤ most → front ≤ most
part_low most all front rest h low = omega (arith, h, low)

one_more : (n w v all : ℕ) → 1024 * n ≤ w → 1024 ≤ v → all ≡ v + w → 1024 * suc n ≤ all
one_more n w v all low least is = omega (arith, low, least, is)

few_by : (most n w : ℕ) → most < 2 ^ 63 → 1024 * n ≤ w → w ≤ most → n ≤ most_pairs
few_by most n w short low light = omega (arith, short, low, light)

few_stored_by : (n w : ℕ) → 1024 * n ≤ w → w ≤ most_weight → n ≤ most_stored_pairs
few_stored_by n w low light = omega (arith, low, light)

last_by : (a b c d : ℕ) → a ≡ b + c → c ≡ 0 + d → a ≡ b + d
last_by a b c d h k = omega (arith, h, k)

sum_low : (most all before more : ℕ) → all ≡ before + more → before + more ≤ most → all ≤ most
sum_low most all before more is low = omega (arith, is, low)

module _ {A R : Type 0} (weighs : A → ℕ) where
  abbrev of_pair : Pair A R → ℕ
  of_pair p = weighs p.entry.ask

  pub weight_more : (history : List (Pair A R)) (p : Pair A R) → history_weight weighs (history ++ p ∷ []) ≡ history_weight weighs history + weighs p.entry.ask
  weight_more history p =
      last_by (history_weight weighs (history ++ p ∷ [])) (history_weight weighs history) (history_weight weighs (p ∷ [])) (weighs p.entry.ask) (sum_by-append of_pair history (p ∷ [])) refl

  -- a beginning weighs no more
  pub light_beginning : (most : ℕ) (front rest : List (Pair A R)) → history_weight weighs (front ++ rest) ≤ most → history_weight weighs front ≤ most
  light_beginning most front rest low =
      part_low most (history_weight weighs (front ++ rest)) (history_weight weighs front) (history_weight weighs rest) (sum_by-append of_pair front rest) low

  each_weighs : ((asked : A) → empty_weight ≤ weighs asked) → (history : List (Pair A R)) → 1024 * length history ≤ history_weight weighs history
  each_weighs least [] = omega arith
  each_weighs least (p ∷ history) =
      one_more (length history) (history_weight weighs history) (of_pair p) (history_weight weighs (p ∷ history)) (each_weighs least history) (least p.entry.ask) (sum_by-cons of_pair p history)

  -- a history has at most 2^53 pairs, since no ask weighs less than one that holds no texts
  pub few_pairs : ((asked : A) → empty_weight ≤ weighs asked) → (most : ℕ) → most < 2 ^ 63 → (history : List (Pair A R)) → history_weight weighs history ≤ most → length history ≤ most_pairs
  few_pairs least most short history light = few_by most (length history) (history_weight weighs history) short (each_weighs least history) light

  -- one that is stored has at most 262,144
  pub few_stored_pairs : ((asked : A) → empty_weight ≤ weighs asked) → (history : List (Pair A R)) → history_weight weighs history ≤ most_weight → length history ≤ most_stored_pairs
  few_stored_pairs least history light = few_stored_by (length history) (history_weight weighs history) (each_weighs least history) light

pub past_more : {A R : Type 0} (history : List (Pair A R)) (p : Pair A R) → reverse (history ++ p ∷ []) ≡ p ∷ reverse history
past_more history p = reverse-append history (p ∷ [])

module _ {A R : Type 0} (IsAsk : A → Type 0) (answer : List (Pair A R) → Entry A → R) where
  -- what was legal before the latest pairs
  pub earlier_is_legal : (later earlier : List (Pair A R)) → IsLegalBy IsAsk answer (later ++ earlier) → IsLegalBy IsAsk answer earlier
  earlier_is_legal [] earlier legal = legal
  earlier_is_legal (p ∷ later) earlier legal = earlier_is_legal later earlier legal.0

  -- a pair of a legal past is answered after its own past
  pub legal_reply : (later earlier : List (Pair A R)) (p : Pair A R) → IsLegalBy IsAsk answer (later ++ p ∷ earlier) → p.reply ≡ answer earlier p.entry
  legal_reply [] earlier p legal = legal.3
  legal_reply (q ∷ later) earlier p legal = legal_reply later earlier p legal.0

  module _ (weighs : A → ℕ) (most : ℕ) where
    -- each beginning of a legal history is legal
    pub beginning_is_legal : (front rest : List (Pair A R)) → IsLegalHistoryBy IsAsk answer weighs most (front ++ rest) → IsLegalHistoryBy IsAsk answer weighs most front
    beginning_is_legal front rest legal =
        let L : List (Pair A R) → Type 0 = λ past. IsLegalBy IsAsk answer past in
        record {
          past = earlier_is_legal (reverse rest) (reverse front) (subst L (reverse-append front rest) legal.past);
          light = light_beginning weighs most front rest legal.light;
        }

    -- one more pair, for which there is room
    pub longer_is_legal : (history : List (Pair A R)) (p : Pair A R) → IsLegalHistoryBy IsAsk answer weighs most history → IsEntry IsAsk p.entry → last_moment (reverse history) ≤ p.entry.at
        → p.reply ≡ answer (reverse history) p.entry → history_weight weighs history + weighs p.entry.ask ≤ most → IsLegalHistoryBy IsAsk answer weighs most (history ++ p ∷ [])
    longer_is_legal history p legal entry order reply room =
        let L : List (Pair A R) → Type 0 = λ past. IsLegalBy IsAsk answer past in
        record {
          past = subst L (sym (past_more history p)) (legal.past, entry, order, reply);
          light = sum_low most (history_weight weighs (history ++ p ∷ [])) (history_weight weighs history) (weighs p.entry.ask) (weight_more weighs history p) room;
        }
