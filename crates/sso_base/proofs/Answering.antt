-- What is answered where a function says what to answer, and two relations say in literal words when it answers and when
-- it refuses; want of memory alone is free.
use Rattle.std.proofs.Common.{◌≡◌, ◌⊎◌, inl, inr, Result, Ok, Err, IfErr}
use Rattle.std.specs.Prelude.{IfOk, IsErrAnd}

not_both : {A E Z : Type 0} (r : Result A E) (a : A) (e : E) → r ≡ Ok a → r ≡ Err e → Z
not_both (Ok b) a e h g = absurd (cc)
not_both (Err d) a e h g = absurd (cc)

same_refusal : {A E : Type 0} (r : Result A E) (d e : E) → r ≡ Err d → r ≡ Err e → e ≡ d
same_refusal (Ok b) d e h g = absurd (cc)
same_refusal (Err c) d e h g = cc

abbrev pub Refuses : {A E : Type 0} → E → Result A E → Result A E → Type 0
Refuses memory should r = IfErr r (λ e. (e ≡ memory) ⊎ (should ≡ Err e))

abbrev pub Answers : {A E : Type 0} → Result A E → Result A E → Type 0
Answers should r = IfOk r (λ a. should ≡ Ok a)

pub if_answered : {A E : Type 0} (should : Result A E) (P : A → Type 0) → ((a : A) → should ≡ Ok a → P a) → (r : Result A E) → Answers should r → IfOk r P
if_answered should P f (Ok a) h = f a h
if_answered should P f (Err e) h = tt

pub only_at : {A E : Type 0} (memory : E) (should : Result A E) (a : A) → should ≡ Ok a → (e : E) → (e ≡ memory) ⊎ (should ≡ Err e) → e ≡ memory
only_at memory should a is e (inl h) = h
only_at memory should a is e (inr h) = not_both should a e is h

pub only_memory : {A E : Type 0} (memory : E) (should : Result A E) (a : A) → should ≡ Ok a → (r : Result A E) → Refuses memory should r → IfErr r (λ e. e ≡ memory)
only_memory memory should a is (Ok b) h = tt
only_memory memory should a is (Err e) h = only_at memory should a is e h

same_answer : {A E : Type 0} (r : Result A E) (a b : A) → r ≡ Ok a → r ≡ Ok b → b ≡ a
same_answer (Ok c) a b h g = cc
same_answer (Err e) a b h g = absurd (cc)

pub only_answer : {A E : Type 0} (should : Result A E) (a : A) → should ≡ Ok a → (r : Result A E) → Answers should r → IfOk r (λ b. b ≡ a)
only_answer should a is (Ok b) h = same_answer should a b is h
only_answer should a is (Err e) h = tt

cause_at : {A E : Type 0} (memory : E) (should : Result A E) (P : E → Type 0) → ((e : E) → should ≡ Err e → P e) → (e : E) → (e ≡ memory) ⊎ (should ≡ Err e) → (e ≡ memory) ⊎ P e
cause_at memory should P f e (inl h) = inl h
cause_at memory should P f e (inr h) = inr (f e h)

pub if_refused : {A E : Type 0} (memory : E) (should : Result A E) (P : E → Type 0) → ((e : E) → should ≡ Err e → P e) → (r : Result A E) → Refuses memory should r → IfErr r (λ e. (e ≡ memory) ⊎ P e)
if_refused memory should P f (Ok a) h = tt
if_refused memory should P f (Err e) h = cause_at memory should P f e h

is_at : {A E : Type 0} (memory : E) (should : Result A E) (d : E) → should ≡ Err d → (e : E) → (e ≡ memory) ⊎ (should ≡ Err e) → (e ≡ memory) ⊎ (e ≡ d)
is_at memory should d is e (inl h) = inl h
is_at memory should d is e (inr h) = inr (same_refusal should d e is h)

pub is_refused : {A E : Type 0} (memory : E) (should : Result A E) (d : E) → should ≡ Err d → (r : Result A E) → Answers should r → Refuses memory should r → IsErrAnd r (λ e. (e ≡ memory) ⊎ (e ≡ d))
is_refused memory should d is (Ok a) ok err = not_both should a d ok is
is_refused memory should d is (Err e) ok err = is_at memory should d is e err
