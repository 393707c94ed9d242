-- Calls of a link, one after another.
use Rattle.std.proofs.Common.{◌≡◌, ℕ, zero, suc, ◌+◌, ◌-◌, ◌^◌, ◌<◌, ◌≤◌, min, List, [], ◌∷◌, ◌++◌, length, take, slice_index_or, Option, Result, Ok, Err, refl, ap, sym, ◌∙◌, subst, arith}
use Rattle.std.proofs.lemmas.List.{take_more, map-append}
use Rattle.sso_base.specs.Faults.{Rose}
use Rattle.server_desk.specs.Doors.{grown}
use Rattle.server_desk.specs.declared.link.LinkNo.{LinkNo}
use Rattle.server_desk.specs.declared.link.LinkNo.TheVariants.{NoMemory, Failed}
use Rattle.server_desk.specs.Links.{Exchange, LinkState, after_exchange, TookCall}
use Rattle.serving.specs.declared.sending.Sending.{Sending}
use Rattle.serving.specs.LinkCalls.{LinkCall, after_calls, sent_by, grown_by, failures_of, failures, TookCalls}

after_both : (before : Option (List Exchange)) (xs ys : List LinkCall) → after_calls before (xs ++ ys) ≡ after_calls (after_calls before xs) ys
after_both before [] ys = refl
after_both before (x ∷ xs) ys = after_both (after_exchange before x.sent.to x.sent.bytes x.answer) xs ys

grown_both : (xs ys : List LinkCall) (count : ℕ) → grown_by (length (xs ++ ys)) count ≡ grown_by (length ys) (grown_by (length xs) count)
grown_both [] ys count = refl
grown_both (x ∷ xs) ys count = grown_both xs ys (grown count)

failures_both : (xs ys : List LinkCall) → failures (xs ++ ys) ≡ failures xs + failures ys
failures_both [] ys = omega arith
failures_both (x ∷ xs) ys = let more = failures_both xs ys in omega arith

-- counts within 64 bits grow as sums, up to the greatest
pub grown_as_sum : (steps count : ℕ) → count ≤ 2 ^ 64 - 1 → grown_by steps count ≡ min (count + steps) (2 ^ 64 - 1)
grown_as_sum zero count low = omega arith
grown_as_sum (suc steps) count low =
    let once : grown count ≤ 2 ^ 64 - 1 = omega arith in
    let more : grown_by steps (grown count) ≡ min (grown count + steps) (2 ^ 64 - 1) = grown_as_sum steps (grown count) once in
    let sum : min (grown count + steps) (2 ^ 64 - 1) ≡ min (count + suc steps) (2 ^ 64 - 1) = omega arith in
    more ∙ sum

-- faults of calls, and of more behind them
rose_both : (a b c m n : ℕ) → min (a + m) (2 ^ 64 - 1) ≤ b → min (b + n) (2 ^ 64 - 1) ≤ c → min (a + (m + n)) (2 ^ 64 - 1) ≤ c
rose_both a b c m n first second = omega arith

rose_once : (old new : ℕ) (answer : Result (List ℕ) LinkNo)
    → old ≤ new → (answer ≡ Err Failed → Rose old new) → min (old + (failures_of answer + 0)) (2 ^ 64 - 1) ≤ new
rose_once old new (Ok back) later failed = omega arith
rose_once old new (Err Failed) later failed = let rose : min (old + 1) (2 ^ 64 - 1) ≤ new = failed refl in omega arith
rose_once old new (Err NoMemory) later failed = omega arith

pub took_none : (link : LinkState) → TookCalls link link []
took_none link = record { told = refl; counted = refl; later = omega arith; failed = omega arith }

pub took_one : (old new : LinkState) (s : Sending) (answer : Result (List ℕ) LinkNo)
    → TookCall old new s.to s.bytes answer → TookCalls old new (record { sent = s; answer = answer } ∷ [])
took_one old new s answer took = record {
  told = took.told;
  counted = took.counted;
  later = took.later;
  failed = rose_once old.faults new.faults answer took.later took.failed;
}

pub took_both : (old mid new : LinkState) (xs ys : List LinkCall) → TookCalls old mid xs → TookCalls mid new ys → TookCalls old new (xs ++ ys)
took_both old mid new xs ys first second = record {
  told = second.told ∙ ap (λ (o : Option (List Exchange)). after_calls o ys) first.told ∙ sym (after_both old.exchanges xs ys);
  counted = second.counted ∙ ap (λ (n : ℕ). grown_by (length ys) n) first.counted ∙ sym (grown_both xs ys old.calls);
  later = let a = first.later in let b = second.later in omega arith;
  failed =
      subst (λ (n : ℕ). min (old.faults + n) (2 ^ 64 - 1) ≤ new.faults) (sym (failures_both xs ys))
      (rose_both old.faults mid.faults new.faults (failures xs) (failures ys) first.failed second.failed);
}

-- where one of the calls failed, the faults rose
pub took_failed : (old new : LinkState) (calls : List LinkCall) → TookCalls old new calls → 0 < failures calls → Rose old.faults new.faults
took_failed old new calls took some = let rose = took.failed in omega arith

-- the last of these calls failed
pub failed_last : (before calls after : List LinkCall) (call : LinkCall)
    → calls ≡ before ++ call ∷ [] → call.answer ≡ Err Failed → 0 < failures (calls ++ after)
failed_last before calls after call is failed =
    let once : failures_of call.answer ≡ 1 = ap (λ (answer : Result (List ℕ) LinkNo). failures_of answer) failed in
    let whole = failures_both calls after in
    let parts = failures_both before (call ∷ []) in
    let same : failures calls ≡ failures (before ++ call ∷ []) = ap (λ (l : List LinkCall). failures l) is in
    omega arith

pub failures_ahead : (xs ys : List LinkCall) → 0 < failures xs → 0 < failures (xs ++ ys)
failures_ahead xs ys some = let whole = failures_both xs ys in omega arith

pub failures_behind : (xs ys : List LinkCall) → 0 < failures ys → 0 < failures (xs ++ ys)
failures_behind xs ys some = let whole = failures_both xs ys in omega arith

-- the link was called so that these were sent
abbrev pub SentSo : LinkState → LinkState → List Sending → Type 0
SentSo old new all = (calls : List LinkCall) × (sent_by calls ≡ all) × TookCalls old new calls

pub one_more : (old mid new : LinkState) (all : List Sending) (i : ℕ) (s : Sending) (answer : Result (List ℕ) LinkNo)
    → SentSo old mid (take i all) → i < length all → s ≡ slice_index_or all i s → TookCall mid new s.to s.bytes answer → SentSo old new (take (i + 1) all)
one_more old mid new all i s answer sofar here is took =
    let call : LinkCall = record { sent = s; answer = answer } in (
      sofar.0 ++ call ∷ [],
      map-append (λ (x : LinkCall). x.sent) sofar.0 (call ∷ []) ∙ ap (λ (l : List Sending). l ++ s ∷ []) sofar.1 ∙ ap (λ (x : Sending). take i all ++ x ∷ []) is ∙ sym (take_more all i s here),
      took_both old mid new sofar.0 (call ∷ []) sofar.2 (took_one mid new s answer took),
    )
