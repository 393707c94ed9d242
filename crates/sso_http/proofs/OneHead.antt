-- Bytes begin with at most one head, and a prefix without a head is shorter than it.
use Rattle.std.proofs.Common.{◌≡◌, ℕ, ◌+◌, ◌<◌, ◌≤◌, ◌||◌, Bool, true, false, List, [], ◌∷◌, ◌++◌, length, take, drop, reverse, inl, inr, refl, sym, ◌∙◌, ap, arith}
use Rattle.std.proofs.lemmas.Bool.{cases_lt, false≢true}
use Rattle.std.proofs.lemmas.List.{append_assoc, append_cancel_left, reverse-append, reverse-reverse, length-append, take-append-drop, take-append-le}
use Rattle.sso_http.specs.Lines.{IsHead, HasNoHead}
use Rattle.sso_http.specs.Reading.{has_head, ends_head, IsUnended, IsEnded}
use Rattle.sso_http.proofs.HeadLines.{only_lines, lines_end}

or_true : (b : Bool) → (b || true) ≡ true
or_true true = refl
or_true false = refl

later : (t s : List ℕ) → has_head s ≡ true → has_head (t ++ s) ≡ true
later [] s h = h
later (b ∷ t) s h = ap (λ c. ends_head (b ∷ (t ++ s)) || c) (later t s h) ∙ or_true (ends_head (b ∷ (t ++ s)))

head_has : (head : List ℕ) → IsEnded head → has_head (reverse head) ≡ true
head_has head i = ap has_head i.parts ∙ ap (λ b. b || has_head i.seen) i.ends

front_has : (head d : List ℕ) → IsEnded head → has_head (reverse (head ++ d)) ≡ true
front_has head d i = ap has_head (reverse-append head d) ∙ later (reverse d) (reverse head) (head_has head i)

-- if the reader saw no end, there is no head
pub unended : (bytes : List ℕ) → IsUnended bytes → HasNoHead bytes
unended bytes none head rest e i =
    false≢true (sym none ∙ ap (λ l. has_head (reverse l)) e ∙ front_has head rest (lines_end head i))

-- if it saw the first end, there is one
pub ended_head : (old bytes : List ℕ) (b : ℕ) → bytes ≡ old ++ b ∷ [] → IsUnended old → ends_head (b ∷ reverse old) ≡ true → IsHead bytes
ended_head old bytes b e none ends =
    only_lines bytes (record { last = b; seen = reverse old; parts = ap (λ l. reverse l) e ∙ reverse-append old (b ∷ []); first = none; ends = ends })

take_front : (a r : List ℕ) → take (length a) (a ++ r) ≡ a
take_front [] r = refl
take_front (x ∷ a) r = ap (λ (l : List ℕ). x ∷ l) (take_front a r)

front_of_front : (a r p x : List ℕ) → a ++ r ≡ p ++ x → length a ≤ length p → a ≡ take (length a) p
front_of_front a r p x e short = sym (take_front a r) ∙ ap (λ l. take (length a) l) e ∙ take-append-le (length a) p x short

pub same_long : (a r p x : List ℕ) → a ++ r ≡ p ++ x → length a ≡ length p → a ≡ p
same_long a r p x e long =
    let whole : take (length p) (p ++ []) ≡ p = take_front p [] in
    let cut : take (length p) (p ++ []) ≡ take (length p) p = take-append-le (length p) p [] (omega arith) in
    front_of_front a r p x e (omega (arith, long)) ∙ ap (λ n. take n p) long ∙ sym cut ∙ whole

pub same_rest : (a r p x : List ℕ) → a ++ r ≡ p ++ x → a ≡ p → r ≡ x
same_rest a r p x e same = append_cancel_left p r x (ap (λ l. l ++ r) (sym same) ∙ e)

-- a head is longer than a prefix without one
pub behind : (head r p x : List ℕ) → IsHead head → head ++ r ≡ p ++ x → HasNoHead p → length p < length head
behind head r p x i e none =
    elim (cases_lt (length p) (length head)) [
      | inl longer ↦ longer
      | inr short ↦
          (let n : ℕ = length head in
          let begins : head ++ drop n p ≡ p = ap (λ l. l ++ drop n p) (front_of_front head r p x e short) ∙ take-append-drop n p in
          absurd (none head (drop n p) (sym begins) i))
    ]

not_shorter : (h k r q : List ℕ) → IsHead h → IsHead k → h ++ r ≡ k ++ q → length k ≤ length h
not_shorter h k r q i j' e =
    let j = lines_end k j' in
    let p : List ℕ = reverse j.seen in
    let parts : k ≡ p ++ j.last ∷ [] = sym (reverse-reverse k) ∙ ap (λ l. reverse l) j.parts ∙ reverse-append (j.last ∷ []) j.seen in
    let split : h ++ r ≡ p ++ j.last ∷ q = e ∙ ap (λ l. l ++ q) parts ∙ append_assoc p (j.last ∷ []) q in
    let none : has_head (reverse p) ≡ false = ap (λ l. has_head l) (reverse-reverse j.seen) ∙ j.first in
    let short = behind h r p (j.last ∷ q) i split (unended p none) in
    let long : length k ≡ length p + 1 = ap (λ l. length l) parts ∙ length-append p (j.last ∷ []) in
    omega (arith, short, long)

pub same_head : (h k r q : List ℕ) → IsHead h → IsHead k → h ++ r ≡ k ++ q → h ≡ k
same_head h k r q i j e =
    let below = not_shorter h k r q i j e in
    let above = not_shorter k h q r j i (sym e) in
    same_long h r k q e (omega (arith, below, above))

pub one_head : (h k r q : List ℕ) → IsHead h → IsHead k → h ++ r ≡ k ++ q → (h ≡ k) × (r ≡ q)
one_head h k r q i j e =
    let same = same_head h k r q i j e in
    (same, same_rest h r k q e same)
