-- One more request and its reply, and one that has no room.
use Rattle.std.proofs.Common.{◌≡◌, ℕ, suc, ◌+◌, ◌<◌, List, [], ◌∷◌, ◌++◌, length, refl, sym, ap, subst, ◌∙◌, length-append, arith}
use Rattle.std.proofs.lemmas.List.Sums.{sum_by-cons}
use Rattle.sso_base.specs.declared.asked.Asked.{Asked}
use Rattle.sso_base.specs.declared.history.Pair.{Pair}
use Rattle.sso_base.specs.Journal.{extended, entry_of, history_weight}
use Rattle.sso_base.specs.Asked.{history_by, asks_weight, FillsHistory}
use Rattle.sso_base.proofs.Histories.{weight_more}

lower : (n m : ℕ) → suc n ≡ suc m → n ≡ m
lower n m e = omega (arith, e)

pub asked_more : {A R : Type 0} (h : List (Pair A R)) (asks : List (Asked A)) (replies : List R) (a : Asked A) (r : R) → length replies ≡ length asks
    → history_by h (asks ++ a ∷ []) (replies ++ r ∷ []) ≡ extended (history_by h asks replies) a.at a.fresh a.ask r
asked_more h [] [] a r e = refl
asked_more h [] (s ∷ replies) a r e = cc
asked_more h (b ∷ asks) [] a r e = cc
asked_more h (b ∷ asks) (s ∷ replies) a r e = asked_more (extended h b.at b.fresh b.ask s) asks replies a r (lower (length replies) (length asks) e)

pub both_longer : {A B : Type 0} (xs new : List A) (ys : List B) (x : A) (y : B) → new ≡ xs ++ x ∷ [] → length xs ≡ length ys → length new ≡ length (ys ++ y ∷ [])
both_longer xs new ys x y is e =
    let one = ap (λ l. length l) is in
    let left = length-append xs (x ∷ []) in
    let right = length-append ys (y ∷ []) in
    omega (arith, one, left, right, e)

-- the history of requests and replies, after one more step
pub told_on : {A R : Type 0} (asks : List (Asked A)) (replies new : List R) (a : Asked A) (r : R) (before after : List (Pair A R)) → before ≡ history_by [] asks replies → length replies ≡ length asks → new ≡ replies ++ r ∷ []
    → after ≡ extended before a.at a.fresh a.ask r → after ≡ history_by [] (asks ++ a ∷ []) new
told_on {A} {R} asks replies new a r before after told each pushed step =
    step ∙ ap (λ (h : List (Pair A R)). extended h a.at a.fresh a.ask r) told ∙ sym (asked_more [] asks replies a r each) ∙ ap (λ (l : List R). history_by [] (asks ++ a ∷ []) l) (sym pushed)

moved : (all before more rest one : ℕ) → all ≡ before + more + rest → one ≡ more + rest → all ≡ before + one
moved all before more rest one is so = omega (arith, is, so)

-- the requests of a history weigh what the history weighs
pub weight_by : {A R : Type 0} (weighs : A → ℕ) (h : List (Pair A R)) (asks : List (Asked A)) (replies : List R) → length replies ≡ length asks
    → history_weight weighs (history_by h asks replies) ≡ history_weight weighs h + asks_weight weighs asks
weight_by weighs h [] [] e = omega arith
weight_by weighs h [] (s ∷ replies) e = cc
weight_by weighs h (a ∷ asks) [] e = cc
weight_by {A} {R} weighs h (a ∷ asks) (s ∷ replies) e =
    let p : Pair A R = record { entry = entry_of h a.at a.fresh a.ask; reply = s } in
    let rest = weight_by weighs (extended h a.at a.fresh a.ask s) asks replies (lower (length replies) (length asks) e) in
    moved (history_weight weighs (history_by (extended h a.at a.fresh a.ask s) asks replies)) (history_weight weighs h) (weighs a.ask) (asks_weight weighs asks) (asks_weight weighs (a ∷ asks))
    (rest ∙ ap (λ n. n + asks_weight weighs asks) (weight_more weighs h p)) (sum_by-cons (λ (b : Asked A). weighs b.ask) a asks)

none_before : (w whole same part : ℕ) → w ≡ whole → whole ≡ same → same ≡ 0 + part → w ≡ part
none_before w whole same part is so none = omega (arith, is, so, none)

-- the core's refusal of the next request
pub fills_at : {A R : Type 0} (weighs : A → ℕ) (most most_here w : ℕ) (all front : List (Asked A)) (next : Asked A) (rest left : List (Asked A)) (replies : List R) (before : List (Pair A R))
    → all ≡ front ++ left → left ≡ next ∷ rest → before ≡ history_by [] front replies → length replies ≡ length front → most_here ≡ most
    → (w ≡ history_weight weighs before) × (most_here < w + weighs next.ask) → FillsHistory weighs most all w
fills_at weighs most most_here w all front next rest left replies before parts first told each same full = record {
  front = front;
  next = next;
  rest = rest;
  all = parts ∙ ap (λ l. front ++ l) first;
  weighs_so = none_before w (history_weight weighs before) (history_weight weighs (history_by [] front replies)) (asks_weight weighs front) full.0 (ap (λ h. history_weight weighs h) told) (weight_by weighs [] front replies each);
  full = subst (λ n. n < w + weighs next.ask) same full.1;
}
