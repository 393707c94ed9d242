-- What the bytes of a trace say, and the causes of the refusals.
use Rattle.std.proofs.Common.{◌≡◌, ◌<◌, ◌≤◌, ◌==◌, ℕ, ◌+◌, List, [], ◌∷◌, ◌++◌, length, Bool, true, false, cond, nat_lt, Option, Some, None, Result, Ok, Err, ◌⊎◌, inl, inr, refl, sym, ap, subst, ◌∙◌, arith}
use Rattle.std.specs.Prelude.{IfErr}
use Rattle.std.specs.List.{count_by}
use Rattle.std.proofs.lemmas.Bool.{ltb-true, ltb-false, lt-ltb, le-ltb}
use Rattle.std.proofs.lemmas.List.Splits.{length-slice_split}
use Rattle.client_registry.specs.Configuration.{Configuration}
use Rattle.trace_lines.specs.declared.no.Fault.{Fault}
use Rattle.trace_lines.specs.declared.no.Fault.TheVariants.{LineTooLong, Word, Number, Backwards, NoSuchReply, NoSuchParty}
use Rattle.trace_lines.specs.declared.no.TraceNo.{TraceNo}
use Rattle.trace_lines.specs.declared.no.TraceNo.TheVariants as no
use Rattle.trace_lines.specs.declared.line.Line.{Line}
use Rattle.trace_lines.specs.Header.{seed_of}
use Rattle.trace_lines.specs.Faults.{IsLeast, refusal_of}
use Rattle.trace_lines.specs.Guilt.{line_faults}
use Rattle.trace_lines.specs.Trace.{Told, lines_read, lines_of, told_by, headed, told_of, trace_told, IsHeaded, HasNoHeader, IsTrace, IsFirstBad}
use Rattle.trace_lines.proofs.LeastFault.{some_same}
use Rattle.trace_lines.proofs.Accepting.{ok_same, err_same, read_goes, goes_read, StopsAt, refused_stops, stops_refused, accepted_goes, goes_accepted}

-- ---- the three kinds of bytes

data Kind (c : Configuration) (bytes : List ℕ) : Type 0 where
  too_long : (long : 4194304 < length bytes) (told : trace_told c bytes ≡ Err no.Size) → Kind c bytes
  headless : (lacks : HasNoHeader bytes) (told : trace_told c bytes ≡ Err no.Header) → Kind c bytes
  with_lines : (seed : List ℕ) (lines : List (List ℕ)) (is : IsHeaded bytes seed lines) (told : trace_told c bytes ≡ told_by seed (lines_read c 2 [] lines)) → Kind c bytes

long_told : (c : Configuration) (bytes : List ℕ) → nat_lt 4194304 (length bytes) ≡ true → trace_told c bytes ≡ Err no.Size
unfolding trace_told
long_told c bytes is = ap (λ b. cond b (Err no.Size) (told_of c (lines_of bytes))) is

short_told : (c : Configuration) (bytes : List ℕ) → nat_lt 4194304 (length bytes) ≡ false → trace_told c bytes ≡ told_of c (lines_of bytes)
unfolding trace_told
short_told c bytes is = ap (λ b. cond b (Err no.Size) (told_of c (lines_of bytes))) is

-- bytes have a first line
some_lines : (bytes : List ℕ) → lines_of bytes ≡ [] → ⊥
some_lines bytes none =
    let count : length (lines_of bytes) ≡ count_by (λ (b : ℕ). b == 10) bytes + 1 = length-slice_split (λ (b : ℕ). b == 10) bytes in
    let zero_lines : length (lines_of bytes) ≡ 0 = ap length none in
    omega arith

by_seed : (c : Configuration) (bytes first : List ℕ) (lines : List (List ℕ)) (seed : Option (List ℕ)) → length bytes ≤ 4194304 → lines_of bytes ≡ first ∷ lines → seed_of first ≡ seed → trace_told c bytes ≡ headed c seed lines → Kind c bytes
by_seed c bytes first lines None short are is told = headless (record { short = short; first = first; lines = lines; lines_are = are; no_seed = is }) told
by_seed c bytes first lines (Some seed) short are is told = with_lines seed lines (record { short = short; header = first; lines_are = are; seed_is = is }) told

by_lines : (c : Configuration) (bytes : List ℕ) (lines : List (List ℕ)) → length bytes ≤ 4194304 → lines_of bytes ≡ lines → trace_told c bytes ≡ told_of c lines → Kind c bytes
by_lines c bytes [] short are told = absurd (some_lines bytes are)
by_lines c bytes (first ∷ lines) short are told = by_seed c bytes first lines (seed_of first) short are refl told

by_size : (c : Configuration) (bytes : List ℕ) (b : Bool) → nat_lt 4194304 (length bytes) ≡ b → Kind c bytes
by_size c bytes true is = too_long (ltb-true 4194304 (length bytes) is) (long_told c bytes is)
by_size c bytes false is = by_lines c bytes (lines_of bytes) (ltb-false 4194304 (length bytes) is) refl (short_told c bytes is)

kind_of : (c : Configuration) (bytes : List ℕ) → Kind c bytes
kind_of c bytes = by_size c bytes (nat_lt 4194304 (length bytes)) refl

-- ---- refusals that differ

fault_number : TraceNo → ℕ
fault_number no.NoMemory = 0
fault_number no.Size = 0
fault_number no.Header = 0
fault_number (no.LineTooLong n) = n
fault_number (no.Word n) = n
fault_number (no.Number n) = n
fault_number (no.Backwards n) = n
fault_number (no.NoSuchReply n) = n
fault_number (no.NoSuchParty n) = n

fault_in : TraceNo → Option Fault
fault_in no.NoMemory = None
fault_in no.Size = None
fault_in no.Header = None
fault_in (no.LineTooLong n) = Some LineTooLong
fault_in (no.Word n) = Some Word
fault_in (no.Number n) = Some Number
fault_in (no.Backwards n) = Some Backwards
fault_in (no.NoSuchReply n) = Some NoSuchReply
fault_in (no.NoSuchParty n) = Some NoSuchParty

number_kept : (n : ℕ) (e : Fault) → fault_number (refusal_of n e) ≡ n
unfolding fault_number
number_kept n LineTooLong = refl
number_kept n Word = refl
number_kept n Number = refl
number_kept n Backwards = refl
number_kept n NoSuchReply = refl
number_kept n NoSuchParty = refl

fault_kept : (n : ℕ) (e : Fault) → fault_in (refusal_of n e) ≡ Some e
unfolding fault_in
fault_kept n LineTooLong = refl
fault_kept n Word = refl
fault_kept n Number = refl
fault_kept n Backwards = refl
fault_kept n NoSuchReply = refl
fault_kept n NoSuchParty = refl

err_ok : {A E : Type 0} (r : Result A E) (x : A) (e : E) → r ≡ Err e → r ≡ Ok x → ⊥
err_ok r x e h k = cc

-- the refusal of a line tells its number and fault
same_number : (n m : ℕ) (e f : Fault) → refusal_of n e ≡ refusal_of m f → n ≡ m
same_number n m e f h = sym (number_kept n e) ∙ ap fault_number h ∙ number_kept m f

same_fault : (n m : ℕ) (e f : Fault) → refusal_of n e ≡ refusal_of m f → e ≡ f
same_fault n m e f h = some_same e f (sym (fault_kept n e) ∙ ap fault_in h ∙ fault_kept m f)

none_some : (e : Fault) → None ≡ Some e → ⊥
none_some e h = cc

size_has_none : fault_in no.Size ≡ None
unfolding fault_in
size_has_none = refl

header_has_none : fault_in no.Header ≡ None
unfolding fault_in
header_has_none = refl

not_size : (n : ℕ) (e : Fault) → no.Size ≡ refusal_of n e → ⊥
not_size n e h = none_some e (sym size_has_none ∙ ap fault_in h ∙ fault_kept n e)

not_header : (n : ℕ) (e : Fault) → no.Header ≡ refusal_of n e → ⊥
not_header n e h = none_some e (sym header_has_none ∙ ap fault_in h ∙ fault_kept n e)

header_not_size : no.Header ≡ no.Size → ⊥
header_not_size h = cc

size_not_header : no.Size ≡ no.Header → ⊥
size_not_header h = cc

-- ---- lines that were told

told_refused : (seed : List ℕ) (r : Result (List Line) TraceNo) (why : TraceNo) → told_by seed r ≡ Err why → r ≡ Err why
told_refused seed (Ok lines) why h = absurd (cc)
told_refused seed (Err e) why h = ap (λ x. Err x) (err_same (told_by seed (Err e)) e why refl h)

told_lines : (seed : List ℕ) (r : Result (List Line) TraceNo) (told : Told) → told_by seed r ≡ Ok told → r ≡ Ok told.lines
told_lines seed (Ok lines) told h =
    let t : Told = record { seed = seed; lines = lines } in
    ap (λ x. Ok x) (ap (λ (u : Told). u.lines) (ok_same (told_by seed (Ok lines)) t told refl h))
told_lines seed (Err e) told h = absurd (cc)

told_seed : (seed : List ℕ) (r : Result (List Line) TraceNo) (told : Told) → told_by seed r ≡ Ok told → seed ≡ told.seed
told_seed seed (Ok lines) told h =
    let t : Told = record { seed = seed; lines = lines } in
    ap (λ (u : Told). u.seed) (ok_same (told_by seed (Ok lines)) t told refl h)
told_seed seed (Err e) told h = absurd (cc)

-- ---- causes

bad_of_stop : (c : Configuration) (bytes seed : List ℕ) (lines : List (List ℕ)) (n : ℕ) (e : Fault) → IsHeaded bytes seed lines → StopsAt c 2 [] lines (refusal_of n e) → IsFirstBad c bytes n e
bad_of_stop c bytes seed lines n e head stop =
    let number : n ≡ 2 + length stop.front = same_number n (2 + length stop.front) e stop.fault stop.is in
    record {
      seed = seed;
      front = stop.front;
      line = stop.line;
      rest = stop.rest;
      headed = subst (λ ls. IsHeaded bytes seed ls) stop.split head;
      before = stop.middle;
      accepted = goes_accepted c stop.front stop.middle stop.goes;
      refused = subst (λ (f : Fault). IsLeast f (line_faults c stop.middle stop.line)) (sym (same_fault n (2 + length stop.front) e stop.fault stop.is)) stop.refused;
      number_is = omega arith;
    }

pub refused_first_bad : (c : Configuration) (bytes : List ℕ) (n : ℕ) (e : Fault) → trace_told c bytes ≡ Err (refusal_of n e) → IsFirstBad c bytes n e
refused_first_bad c bytes n e h = elim (kind_of c bytes) [
  | too_long long told ↦ absurd (not_size n e (err_same (trace_told c bytes) no.Size (refusal_of n e) told h))
  | headless lacks told ↦ absurd (not_header n e (err_same (trace_told c bytes) no.Header (refusal_of n e) told h))
  | with_lines seed lines is told ↦
      bad_of_stop c bytes seed lines n e is (refused_stops c 2 [] lines (refusal_of n e) (told_refused seed (lines_read c 2 [] lines) (refusal_of n e) (sym told ∙ h)))
]

pub size_refused : (c : Configuration) (bytes : List ℕ) → trace_told c bytes ≡ Err no.Size → 4194304 < length bytes
size_refused c bytes h = elim (kind_of c bytes) [
  | too_long long told ↦ long
  | headless lacks told ↦ absurd (header_not_size (err_same (trace_told c bytes) no.Header no.Size told h))
  | with_lines seed lines is told ↦
      let stop = refused_stops c 2 [] lines no.Size (told_refused seed (lines_read c 2 [] lines) no.Size (sym told ∙ h)) in
      absurd (not_size (2 + length stop.front) stop.fault stop.is)
]

pub header_refused : (c : Configuration) (bytes : List ℕ) → trace_told c bytes ≡ Err no.Header → HasNoHeader bytes
header_refused c bytes h = elim (kind_of c bytes) [
  | too_long long told ↦ absurd (size_not_header (err_same (trace_told c bytes) no.Size no.Header told h))
  | headless lacks told ↦ lacks
  | with_lines seed lines is told ↦
      let stop = refused_stops c 2 [] lines no.Header (told_refused seed (lines_read c 2 [] lines) no.Header (sym told ∙ h)) in
      absurd (not_header (2 + length stop.front) stop.fault stop.is)
]

pub told_trace : (c : Configuration) (bytes : List ℕ) (told : Told) → trace_told c bytes ≡ Ok told → IsTrace c bytes told
told_trace c bytes told h = elim (kind_of c bytes) [
  | too_long long is ↦ absurd (err_ok (trace_told c bytes) told no.Size is h)
  | headless lacks is ↦ absurd (err_ok (trace_told c bytes) told no.Header is h)
  | with_lines seed lines head is ↦
      let same : told_by seed (lines_read c 2 [] lines) ≡ Ok told = sym is ∙ h in
      record {
        lines = lines;
        headed = subst (λ s. IsHeaded bytes s lines) (told_seed seed (lines_read c 2 [] lines) told same) head;
        accepted = goes_accepted c lines told.lines (read_goes c 2 [] lines told.lines (told_lines seed (lines_read c 2 [] lines) told same));
      }
]

-- ---- the other way round

pub long_refused : (c : Configuration) (bytes : List ℕ) → 4194304 < length bytes → trace_told c bytes ≡ Err no.Size
long_refused c bytes long = long_told c bytes (lt-ltb 4194304 (length bytes) long)

pub headless_refused : (c : Configuration) (bytes : List ℕ) → HasNoHeader bytes → trace_told c bytes ≡ Err no.Header
headless_refused c bytes is =
    short_told c bytes (le-ltb 4194304 (length bytes) is.short)
    ∙ ap (told_of c) is.lines_are
    ∙ ap (λ s. headed c s is.lines) is.no_seed

headed_told : (c : Configuration) (bytes seed : List ℕ) (lines : List (List ℕ)) → IsHeaded bytes seed lines → trace_told c bytes ≡ told_by seed (lines_read c 2 [] lines)
headed_told c bytes seed lines is =
    short_told c bytes (le-ltb 4194304 (length bytes) is.short)
    ∙ ap (told_of c) is.lines_are
    ∙ ap (λ s. headed c s lines) is.seed_is

pub trace_is_told : (c : Configuration) (bytes : List ℕ) (told : Told) → IsTrace c bytes told → trace_told c bytes ≡ Ok told
trace_is_told c bytes told is =
    headed_told c bytes told.seed is.lines is.headed
    ∙ ap (told_by told.seed) (goes_read c 2 [] is.lines told.lines (accepted_goes c is.lines told.lines is.accepted))

pub first_bad_refused : (c : Configuration) (bytes : List ℕ) (n : ℕ) (e : Fault) → IsFirstBad c bytes n e → trace_told c bytes ≡ Err (refusal_of n e)
first_bad_refused c bytes n e is =
    let number : 2 + length is.front ≡ n = let k : n ≡ length is.front + 2 = is.number_is in omega arith in
    headed_told c bytes is.seed (is.front ++ is.line ∷ is.rest) is.headed
    ∙ ap (told_by is.seed) (stops_refused c 2 [] is.front is.line is.rest is.before e (accepted_goes c is.front is.before is.accepted) is.refused)
    ∙ ap (λ k. Err (refusal_of k e)) number

-- ---- what a call tells

failed_same : {A : Type 0} (f e : TraceNo) → (let r : Result A TraceNo = Err f in r ≡ Err e) → f ≡ e
failed_same {A = A} f e h = let r : Result A TraceNo = Err f in err_same r f e refl h

-- where a call answers what is told, or that memory ran out, another refusal of it is told
pub caused : {A : Type 0} (r : Result A TraceNo) (t : Result Told TraceNo) (e : TraceNo) → IfErr r (λ f. (f ≡ no.NoMemory) ⊎ (t ≡ Err f)) → r ≡ Err e → (e ≡ no.NoMemory → ⊥) → t ≡ Err e
caused {A = A} (Ok x) t e h is other = absurd (cc)
caused {A = A} (Err f) t e h is other =
    let same : f ≡ e = failed_same {A = A} f e is in
    elim h [ inl none ↦ absurd (other (sym same ∙ none)) | inr told ↦ told ∙ ap (λ x. Err x) same ]

memory_has_none : fault_in no.NoMemory ≡ None
unfolding fault_in
memory_has_none = refl

not_memory : (n : ℕ) (e : Fault) → refusal_of n e ≡ no.NoMemory → ⊥
not_memory n e h = none_some e (sym memory_has_none ∙ ap fault_in (sym h) ∙ fault_kept n e)

size_not_memory : no.Size ≡ no.NoMemory → ⊥
size_not_memory h = cc

header_not_memory : no.Header ≡ no.NoMemory → ⊥
header_not_memory h = cc

pub line_caused : {A : Type 0} (c : Configuration) (bytes : List ℕ) (r : Result A TraceNo) (n : ℕ) (e : Fault) → IfErr r (λ f. (f ≡ no.NoMemory) ⊎ (trace_told c bytes ≡ Err f)) → r ≡ Err (refusal_of n e) → IsFirstBad c bytes n e
line_caused c bytes r n e h is = refused_first_bad c bytes n e (caused r (trace_told c bytes) (refusal_of n e) h is (not_memory n e))

pub size_caused : {A : Type 0} (c : Configuration) (bytes : List ℕ) (r : Result A TraceNo) → IfErr r (λ f. (f ≡ no.NoMemory) ⊎ (trace_told c bytes ≡ Err f)) → r ≡ Err no.Size → 4194304 < length bytes
size_caused c bytes r h is = size_refused c bytes (caused r (trace_told c bytes) no.Size h is size_not_memory)

pub header_caused : {A : Type 0} (c : Configuration) (bytes : List ℕ) (r : Result A TraceNo) → IfErr r (λ f. (f ≡ no.NoMemory) ⊎ (trace_told c bytes ≡ Err f)) → r ≡ Err no.Header → HasNoHeader bytes
header_caused c bytes r h is = header_refused c bytes (caused r (trace_told c bytes) no.Header h is header_not_memory)
