-- A line is parsed if it has no fault; otherwise the first of its faults is returned.
use Rattle.std.proofs.Common.{◌≡◌, ◌<◌, ◌≤◌, ℕ, Bool, true, false, cond, nat_lt, List, [], length, Option, Some, None, Ok, Err, refl, sym, ap, ◌∙◌, arith}
use Rattle.std.proofs.lemmas.Bool.{ltb-false}
use Rattle.client_registry.specs.Configuration.{Configuration}
use Rattle.trace_lines.specs.declared.no.Fault.{Fault}
use Rattle.trace_lines.specs.declared.line.Line.{Line}
use Rattle.trace_lines.specs.declared.no.Fault.TheVariants.{LineTooLong}
use Rattle.trace_lines.specs.Faults.{onto, fault_if, least, IsLeast}
use Rattle.trace_lines.specs.LineWords.{words_in}
use Rattle.trace_lines.specs.Guilt.{words_faults, is_skipped, line_faults}
use Rattle.trace_lines.specs.Said.{line_said}
use Rattle.trace_lines.specs.Trace.{unless_fault, line_read}
use Rattle.trace_lines.proofs.LeastFault.{least_is, is_least, none_least, too_long_stays}

read_none : {A : Type 0} (o : Option Fault) (x y : A) → unless_fault o x ≡ Ok y → o ≡ None
read_none None x y h = refl
read_none (Some e) x y h = absurd (cc)

read_same : {A : Type 0} (o : Option Fault) (x y : A) → unless_fault o x ≡ Ok y → y ≡ x
read_same None x y h = cc
read_same (Some e) x y h = absurd (cc)

read_some : {A : Type 0} (o : Option Fault) (x : A) (e : Fault) → unless_fault o x ≡ Err e → o ≡ Some e
read_some None x e h = absurd (cc)
read_some (Some f) x e h = cc

pub line_guiltless : (c : Configuration) (before : List Line) (line : List ℕ) (said : Option Line) → line_read c before line ≡ Ok said → line_faults c before line ≡ []
line_guiltless c before line said h = none_least (line_faults c before line) (read_none (least (line_faults c before line)) (line_said c line) said h)

pub line_says : (c : Configuration) (before : List Line) (line : List ℕ) (said : Option Line) → line_read c before line ≡ Ok said → said ≡ line_said c line
line_says c before line said h = read_same (least (line_faults c before line)) (line_said c line) said h

pub line_refused : (c : Configuration) (before : List Line) (line : List ℕ) (e : Fault) → line_read c before line ≡ Err e → IsLeast e (line_faults c before line)
line_refused c before line e h = least_is e (line_faults c before line) (read_some (least (line_faults c before line)) (line_said c line) e h)

pub guiltless_read : (c : Configuration) (before : List Line) (line : List ℕ) → line_faults c before line ≡ [] → line_read c before line ≡ Ok (line_said c line)
guiltless_read c before line none = ap (λ es. unless_fault (least es) (line_said c line)) none

pub guilty_refused : (c : Configuration) (before : List Line) (line : List ℕ) (e : Fault) → IsLeast e (line_faults c before line) → line_read c before line ≡ Err e
guilty_refused c before line e l = ap (λ o. unless_fault o (line_said c line)) (is_least e (line_faults c before line) l)

long_read : (o : Option Fault) (es : List Fault) (said : Option Line) → o ≡ Some LineTooLong → unless_fault (least (onto o es)) said ≡ Err LineTooLong
long_read o es said is = ap (λ p. unless_fault (least (onto p es)) said) is ∙ ap (λ p. unless_fault p said) (too_long_stays es)

too_long : (count : ℕ) (b : Bool) → nat_lt 65536 count ≡ b → 65536 < count → fault_if b LineTooLong ≡ Some LineTooLong
too_long count true is long = refl
too_long count false is long = let short : count ≤ 65536 = ltb-false 65536 count is in absurd (omega arith)

-- a line that is too long is refused for that
pub long_refused : (c : Configuration) (before : List Line) (line : List ℕ) → 65536 < length line → Err LineTooLong ≡ line_read c before line
long_refused c before line long =
    sym (long_read (fault_if (nat_lt 65536 (length line)) LineTooLong) (cond (is_skipped line) [] (words_faults c before (words_in line))) (line_said c line)
    (too_long (length line) (nat_lt 65536 (length line)) refl long))
