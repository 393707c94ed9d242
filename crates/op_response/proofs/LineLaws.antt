-- The lines of answers and refusals.
use Rattle.std.proofs.Common.{◌≡◌, Bool, true, [], ◌∷◌, codes, Option, is_some, sym, ap, ◌∙◌}
use Rattle.std.proofs.lemmas.List.{append_cancel_left}
use Rattle.sso_base.specs.Words.{Word, Text}
use Rattle.oidc_words.specs.declared.errors.Refusal.{Refusal}
use Rattle.auth_answer.specs.declared.answer.Answer.{Answer}
use Rattle.oidc_words.specs.Errors.{error_text, error_of}
use Rattle.oidc_words.proofs.ErrorCodes.{error_of-error_text}
use Rattle.op_exchange.specs.declared.reply.OpReply.TheVariants as reply
use Rattle.oidc_words.specs.Words.{spaced}
use Rattle.op_response.specs.Lines.{line_of}

abbrev words : Bool → Bool → Bool → Text
words code id access = spaced ((true, codes "answer") ∷ (code, codes "code") ∷ (id, codes "id_token") ∷ (access, codes "token") ∷ [])

pub parts_are_told : (a b : Answer) (given other : Option Word) → is_some a.code ≡ is_some b.code → is_some a.id ≡ is_some b.id → is_some a.access ≡ is_some b.access → line_of (reply.Answered a given) ≡ line_of (reply.Answered b other)
unfolding line_of
parts_are_told a b given other code id access =
    ap (λ x. words x (is_some a.id) (is_some a.access)) code
    ∙ ap (λ x. words (is_some b.code) x (is_some a.access)) id
    ∙ ap (λ x. words (is_some b.code) (is_some b.id) x) access

pub code_is_told : (a b : Refusal) (given other : Option Word) → line_of (reply.Refused a given) ≡ line_of (reply.Refused b other) → a.code ≡ b.code
unfolding line_of
code_is_told a b given other e =
    let same = append_cancel_left (codes "error ") (error_text a.code) (error_text b.code) e in
    sym (error_of-error_text a.code) ∙ ap error_of same ∙ error_of-error_text b.code
