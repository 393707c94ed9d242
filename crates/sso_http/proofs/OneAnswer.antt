-- No two answers are of the same bytes.
use Rattle.std.proofs.Common.{◌≡◌, ℕ, ◌+◌, ◌<◌, ◌⊎◌, List, [], ◌++◌, length, Some, Result, Ok, Err, inl, inr, refl, sym, ◌∙◌, ap, subst, arith}
use Rattle.std.proofs.lemmas.List.{append_assoc, length-append}
use Rattle.httparse.specs.Grammar.{RequestHead}
use Rattle.httparse.proofs.GrammarLemmas.{request_unique}
use Rattle.sso_base.specs.declared.http.Ask.{Ask}
use Rattle.sso_http.specs.Lines.{HasNoHead}
use Rattle.sso_http.specs.Input.{most_head}
use Rattle.sso_http.specs.Judging.{judgement, IsHeadOf, IsJudged}
use Rattle.sso_http.specs.Requests.{IsShortHead, with_body, Answers, IsOfBytes}
use Rattle.sso_http.specs.declared.judge.Judged.{Judged}
use Rattle.sso_http.specs.declared.no.HttpNo.{HttpNo}
use Rattle.sso_http.specs.declared.no.HttpNo.TheVariants.{NoMemory, ReadFault, EndedEarly, HeadTooLong, BadHead}
use Rattle.sso_http.proofs.OneHead.{same_head, same_long, same_rest, behind}

abbrev Told : Type 0
Told = Result Ask HttpNo

-- ---- the four kinds of answers

-- the input ended, and has no head
record Ended (bytes x : List ℕ) (a : Told) : Type 0 where
  front : List ℕ
  parts : bytes ≡ front ++ x
  short : length front < most_head
  none : HasNoHead front
  left : x ≡ []
  is : a ≡ Err EndedEarly

-- the head does not end
record Endless (bytes x : List ℕ) (a : Told) : Type 0 where
  front : List ℕ
  parts : bytes ≡ front ++ x
  long : length front ≡ most_head
  none : HasNoHead front
  is : a ≡ Err HeadTooLong

-- there is a head, and it is none of the grammar
record Bad (bytes x : List ℕ) (a : Told) : Type 0 where
  head : List ℕ
  parts : bytes ≡ head ++ x
  short : IsShortHead head
  bad : (h : RequestHead) → ¬ (IsHeadOf head h)
  is : a ≡ Err BadHead

record Whole (j : Judged) (more x : List ℕ) (a : Told) : Type 0 where
  body : List ℕ
  parts : more ≡ body ++ x
  long : length body ≡ j.count
  is : a ≡ Ok (with_body j body)

record Part (j : Judged) (more x : List ℕ) (a : Told) : Type 0 where
  short : length more < j.count
  left : x ≡ []
  is : a ≡ Err EndedEarly

-- what a judgement leads to, where these bytes follow the head
abbrev After : Result Judged HttpNo → List ℕ → List ℕ → Told → Type 0
After (Ok j) more x a = Whole j more x a ⊎ Part j more x a
After (Err e) more x a = (x ≡ more) × (a ≡ Err e)

-- there is a head of the grammar, and it is judged
record Headed (first second bytes x : List ℕ) (a : Told) : Type 0 where
  head : List ℕ
  more : List ℕ
  parts : bytes ≡ head ++ more
  short : IsShortHead head
  told : Result Judged HttpNo
  judged_so : IsJudged first second head told
  after : After told more x a

abbrev Kinds : List ℕ → List ℕ → List ℕ → List ℕ → Told → Type 0
Kinds first second bytes x a = (Ended bytes x a ⊎ Endless bytes x a) ⊎ (Bad bytes x a ⊎ Headed first second bytes x a)

-- ---- each answer is of one of them

some_inj : (a b : List ℕ) → Some a ≡ Some b → a ≡ b
some_inj a b e = cc

refused : (first second bytes x head : List ℕ) (e : HttpNo) → bytes ≡ head ++ x → IsShortHead head → IsJudged first second head (Err e) → Kinds first second bytes x (Err e)
refused first second bytes x head e parts short j =
    inr (inr (record { head = head; more = x; parts = parts; short = short; told = Err e; judged_so = j; after = (refl, refl) }))

kind_of : (first second bytes x : List ℕ) (a : Told) → IsOfBytes a → Answers first second bytes x a → Kinds first second bytes x a
kind_of first second bytes x (Ok ask) o r =
    inr (inr (record {
      head = r.head;
      more = r.body ++ x;
      parts = some_inj bytes ((r.head ++ r.body) ++ x) r.given ∙ append_assoc r.head r.body x;
      short = r.request.short;
      told = Ok r.request.judged;
      judged_so = r.request.judged_so;
      after = inl (record { body = r.body; parts = refl; long = r.request.whole; is = ap Ok r.request.asks });
    }))
kind_of first second bytes x (Err NoMemory) o r = absurd o
kind_of first second bytes x (Err ReadFault) o r = absurd o
kind_of first second bytes x (Err EndedEarly) o r =
    let whole : bytes ≡ r.bytes ++ x = some_inj bytes (r.bytes ++ x) r.given in
    elim r.cause.1 [
      | inl none ↦ inl (inl (record { front = r.bytes; parts = whole; short = none.0; none = none.1; left = r.cause.0; is = refl }))
      | inr part ↦
          (let head : List ℕ = part.0 in
          let body : List ℕ = part.1 in
          let long : length (body ++ x) ≡ length body + length x = length-append body x in
          let none : length x ≡ 0 = ap (λ (l : List ℕ). length l) r.cause.0 in
          inr (inr (record {
            head = head;
            more = body ++ x;
            parts = whole ∙ ap (λ (l : List ℕ). l ++ x) part.2 ∙ append_assoc head body x;
            short = part.3.short;
            told = Ok part.3.judged;
            judged_so = part.3.judged_so;
            after = inr (record { short = omega (arith, long, none, part.3.part); left = r.cause.0; is = refl });
          })))
    ]
kind_of first second bytes x (Err HeadTooLong) o r =
    inl (inr (record { front = r.bytes; parts = some_inj bytes (r.bytes ++ x) r.given; long = r.cause.0; none = r.cause.1; is = refl }))
kind_of first second bytes x (Err BadHead) o r =
    inr (inl (record { head = r.bytes; parts = some_inj bytes (r.bytes ++ x) r.given; short = r.cause.0; bad = r.cause.1; is = refl }))
kind_of first second bytes x (Err e) o r = refused first second bytes x r.bytes e (some_inj bytes (r.bytes ++ x) r.given) r.cause.0 r.cause.1

-- ---- no two kinds are of the same bytes

size : (bytes a x : List ℕ) → bytes ≡ a ++ x → length bytes ≡ length a + length x
size bytes a x e = ap (λ (l : List ℕ). length l) e ∙ length-append a x

empty : (x : List ℕ) → x ≡ [] → length x ≡ 0
empty x e = ap (λ (l : List ℕ). length l) e

ended_endless : (bytes x y : List ℕ) (a b : Told) → Ended bytes x a → Endless bytes y b → ⊥
ended_endless bytes x y a b p q =
    let m = size bytes p.front x p.parts in
    let n = size bytes q.front y q.parts in
    let none = empty x p.left in
    absurd (omega (arith, m, n, none, p.short, q.long))

ended_head : (bytes x head more : List ℕ) (a : Told) → Ended bytes x a → IsShortHead head → bytes ≡ head ++ more → ⊥
ended_head bytes x head more a p s e =
    let longer = behind head more p.front x s.head (sym e ∙ p.parts) p.none in
    let m = size bytes p.front x p.parts in
    let n = size bytes head more e in
    let none = empty x p.left in
    absurd (omega (arith, m, n, none, longer))

endless_head : (bytes x head more : List ℕ) (a : Told) → Endless bytes x a → IsShortHead head → bytes ≡ head ++ more → ⊥
endless_head bytes x head more a p s e =
    let longer = behind head more p.front x s.head (sym e ∙ p.parts) p.none in
    absurd (omega (arith, longer, p.long, s.within))

one_head : (bytes h k r q : List ℕ) → IsShortHead h → IsShortHead k → bytes ≡ h ++ r → bytes ≡ k ++ q → h ≡ k
one_head bytes h k r q i j e f = same_head h k r q i.head j.head (sym e ∙ f)

bad_headed : (first second bytes x y : List ℕ) (a b : Told) → Bad bytes x a → Headed first second bytes y b → ⊥
bad_headed first second bytes x y a b p q =
    let same = one_head bytes q.head p.head q.more x q.short p.short q.parts p.parts in
    p.bad q.judged_so.head (subst (λ (l : List ℕ). IsHeadOf l q.judged_so.head) same q.judged_so.reads)

-- ---- nor two of one kind

abbrev Same : List ℕ → List ℕ → Told → Told → Type 0
Same x y a b = (a ≡ b) × (x ≡ y)

one_judgement : (first second head : List ℕ) (t u : Result Judged HttpNo) → IsJudged first second head t → IsJudged first second head u → t ≡ u
one_judgement first second head t u i j =
    let same = request_unique head i.head j.head [] [] i.reads.0 j.reads.0 in
    sym i.told_is ∙ ap (λ h. judgement first second h) same.0 ∙ j.told_is

whole_part : (j : Judged) (more x y : List ℕ) (a b : Told) → Whole j more x a → Part j more y b → ⊥
whole_part j more x y a b p q =
    let m = size more p.body x p.parts in
    absurd (omega (arith, m, p.long, q.short))

one_whole : (j : Judged) (more x y : List ℕ) (a b : Told) → Whole j more x a → Whole j more y b → Same x y a b
one_whole j more x y a b p q =
    let e : p.body ++ x ≡ q.body ++ y = sym p.parts ∙ q.parts in
    let same : p.body ≡ q.body = same_long p.body x q.body y e (p.long ∙ sym q.long) in
    (p.is ∙ ap (λ l. Ok (with_body j l)) same ∙ sym q.is, same_rest p.body x q.body y e same)

one_after : (t : Result Judged HttpNo) (more x y : List ℕ) (a b : Told) → After t more x a → After t more y b → Same x y a b
one_after (Ok j) more x y a b (inl p) (inl q) = one_whole j more x y a b p q
one_after (Ok j) more x y a b (inl p) (inr q) = absurd (whole_part j more x y a b p q)
one_after (Ok j) more x y a b (inr p) (inl q) = absurd (whole_part j more y x b a q p)
one_after (Ok j) more x y a b (inr p) (inr q) = (p.is ∙ sym q.is, p.left ∙ sym q.left)
one_after (Err e) more x y a b p q = (p.1 ∙ sym q.1, p.0 ∙ sym q.0)

one_headed : (first second bytes x y : List ℕ) (a b : Told) → Headed first second bytes x a → Headed first second bytes y b → Same x y a b
one_headed first second bytes x y a b p q =
    let same = one_head bytes p.head q.head p.more q.more p.short q.short p.parts q.parts in
    let more = same_rest p.head p.more q.head q.more (sym p.parts ∙ q.parts) same in
    let told = one_judgement first second q.head p.told q.told (subst (λ (l : List ℕ). IsJudged first second l p.told) same p.judged_so) q.judged_so in
    let after : After q.told q.more x a = subst (λ t. After t q.more x a) told (subst (λ (l : List ℕ). After p.told l x a) more p.after) in
    one_after q.told q.more x y a b after q.after

one_endless : (bytes x y : List ℕ) (a b : Told) → Endless bytes x a → Endless bytes y b → Same x y a b
one_endless bytes x y a b p q =
    let e : p.front ++ x ≡ q.front ++ y = sym p.parts ∙ q.parts in
    let same = same_long p.front x q.front y e (p.long ∙ sym q.long) in
    (p.is ∙ sym q.is, same_rest p.front x q.front y e same)

one_bad : (bytes x y : List ℕ) (a b : Told) → Bad bytes x a → Bad bytes y b → Same x y a b
one_bad bytes x y a b p q =
    let same = one_head bytes p.head q.head x y p.short q.short p.parts q.parts in
    (p.is ∙ sym q.is, same_rest p.head x q.head y (sym p.parts ∙ q.parts) same)

one_kind : (first second bytes x y : List ℕ) (a b : Told) → Kinds first second bytes x a → Kinds first second bytes y b → Same x y a b
one_kind first second bytes x y a b (inl (inl p)) (inl (inl q)) = (p.is ∙ sym q.is, p.left ∙ sym q.left)
one_kind first second bytes x y a b (inl (inl p)) (inl (inr q)) = absurd (ended_endless bytes x y a b p q)
one_kind first second bytes x y a b (inl (inl p)) (inr (inl q)) = absurd (ended_head bytes x q.head y a p q.short q.parts)
one_kind first second bytes x y a b (inl (inl p)) (inr (inr q)) = absurd (ended_head bytes x q.head q.more a p q.short q.parts)
one_kind first second bytes x y a b (inl (inr p)) (inl (inl q)) = absurd (ended_endless bytes y x b a q p)
one_kind first second bytes x y a b (inl (inr p)) (inl (inr q)) = one_endless bytes x y a b p q
one_kind first second bytes x y a b (inl (inr p)) (inr (inl q)) = absurd (endless_head bytes x q.head y a p q.short q.parts)
one_kind first second bytes x y a b (inl (inr p)) (inr (inr q)) = absurd (endless_head bytes x q.head q.more a p q.short q.parts)
one_kind first second bytes x y a b (inr (inl p)) (inl (inl q)) = absurd (ended_head bytes y p.head x b q p.short p.parts)
one_kind first second bytes x y a b (inr (inl p)) (inl (inr q)) = absurd (endless_head bytes y p.head x b q p.short p.parts)
one_kind first second bytes x y a b (inr (inl p)) (inr (inl q)) = one_bad bytes x y a b p q
one_kind first second bytes x y a b (inr (inl p)) (inr (inr q)) = absurd (bad_headed first second bytes x y a b p q)
one_kind first second bytes x y a b (inr (inr p)) (inl (inl q)) = absurd (ended_head bytes y p.head p.more b q p.short p.parts)
one_kind first second bytes x y a b (inr (inr p)) (inl (inr q)) = absurd (endless_head bytes y p.head p.more b q p.short p.parts)
one_kind first second bytes x y a b (inr (inr p)) (inr (inl q)) = absurd (bad_headed first second bytes y x b a q p)
one_kind first second bytes x y a b (inr (inr p)) (inr (inr q)) = one_headed first second bytes x y a b p q

pub one_answer : (first second bytes x y : List ℕ) (a b : Told) → IsOfBytes a → IsOfBytes b → Answers first second bytes x a → Answers first second bytes y b → (a ≡ b) × (x ≡ y)
one_answer first second bytes x y a b o u p q = one_kind first second bytes x y a b (kind_of first second bytes x a o p) (kind_of first second bytes y b u q)
