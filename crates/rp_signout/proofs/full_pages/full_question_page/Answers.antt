use Rattle.std.proofs.Common.{◌≡◌, ◌++◌, ap, ◌∙◌}
use Rattle.std.proofs.lemmas.Result.{IfOk-weaker}
use Rattle.sso_base.specs.Words.{Text, word_text}
use Rattle.html_pages.specs.Documents.{closing}
use Rattle.rp_signout.specs.Pages.{question_content, full_question_page}
use Rattle.rp_signout.proofs.full_pages.full_question_page.Goals as goal

pub returns : goal.returns
returns c =
    let site : Text = c.as_str.result.now in
    let prefix : Text = c.as_str-2.result.now in
    let word : Text = c.as_str-3.result.now in
    let written : c.push_question.new.page ++ closing ≡ full_question_page site prefix word =
    ap (λ (t : Text). t ++ closing) (c.in_ok-push_question.ensures ∙ ap (λ (t : Text). t ++ question_content prefix word) c.in_ok-page.ensures) in
    let of_word : word ≡ word_text c.args.word.now = c.as_str-3.ensures.value ∙ c.in_ok-word.ensures in
    IfOk-weaker c.end.result _ _
    (λ b is. is
    ∙ written
    ∙ ap (λ (t : Text). full_question_page t prefix word) c.as_str.ensures.value
    ∙ ap (λ (t : Text). full_question_page c.args.site.now t word) c.as_str-2.ensures.value
    ∙ ap (λ (t : Text). full_question_page c.args.site.now c.args.prefix.now t) of_word) c.end.ensures
