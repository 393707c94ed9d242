-- Pairs that are taken in one after another give what the whole list gives.
use Rattle.std.proofs.Common.{◌≡◌, ℕ, List, Bool, true, false, ◌&&◌, Option, Some, None, is_some, Result, Ok, Err, refl, sym, ◌∙◌, ap}
use Rattle.sso_base.specs.Words.{Text}
use Rattle.sso_base.specs.Refusals.{and_then}
use Rattle.request_params.specs.Form.{Pair, form_pairs}
use Rattle.request_params.specs.Reading.{first_repeated, unless_twice}
use Rattle.request_params.proofs.InOrder.{taken_in_order}
use Rattle.auth_answer.specs.declared.heard.Heard.{Heard}
use Rattle.auth_answer.specs.declared.parts.Parts.{Parts}
use Rattle.auth_answer.specs.declared.no.AnswerNo.{AnswerNo}
use Rattle.auth_answer.specs.declared.no.AnswerNo.TheVariants.{Twice}
use Rattle.auth_answer.specs.Parts.{part_text, part_name_of, part_of, no_parts, parts_by, with_part, parts_in, heard_of_parts, with_pair, with_pairs}
use Rattle.auth_answer.specs.Reading.{names_part, heard_pairs, unless_repeated, answer_read}
use Rattle.auth_answer.proofs.PartNames.{part_named, part_name_some, part_of-parts_by, parts_by-same}

and_true : (b : Bool) → b ≡ (b && true)
and_true true = refl
and_true false = refl

-- ---- the whole form

abbrev tell : Result Parts AnswerNo → Result Heard AnswerNo
tell r = and_then r (λ parts. Ok (heard_of_parts parts))

told : (o : Option Text) (parts : Parts) → tell (unless_twice Twice o parts) ≡ unless_repeated o (heard_of_parts parts)
told None parts = refl
told (Some name) parts = refl

taken : (form : List ℕ) → tell (with_pairs no_parts (form_pairs form)) ≡ answer_read form
unfolding answer_read
taken form =
    ap tell (
    taken_in_order part_text part_name_of part_of parts_by with_part Twice (λ (p : Pair). true) names_part with_pair
    part_name_some part_of-parts_by parts_by-same (λ name value parts. refl) (λ p. sym (part_named p.0) ∙ and_true (is_some (part_name_of p.0))) (λ parts p. refl)
    (form_pairs form)
    )
    ∙ told (first_repeated (heard_pairs form)) (parts_in (heard_pairs form))

pub taken_ok : (form : List ℕ) (parts : Parts) → with_pairs no_parts (form_pairs form) ≡ Ok parts → answer_read form ≡ Ok (heard_of_parts parts)
taken_ok form parts is = sym (taken form) ∙ ap tell is

pub taken_err : (form : List ℕ) (e : AnswerNo) → with_pairs no_parts (form_pairs form) ≡ Err e → answer_read form ≡ Err e
taken_err form e is = sym (taken form) ∙ ap tell is
