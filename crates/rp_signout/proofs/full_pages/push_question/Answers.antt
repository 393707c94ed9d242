use Rattle.std.proofs.Common.{◌≡◌, ◌++◌, codes}
use Rattle.std.proofs.lemmas.Result.{on_ok_weaker}
use Rattle.sso_base.specs.Words.{Text}
use Rattle.html_pages.specs.Forms.{form, hidden}
use Rattle.html_pages.proofs.Pushes.{pushed}
use Rattle.rp_signout.specs.Pages.{confirm_path, word_field, question_buttons}
use Rattle.rp_signout.proofs.full_pages.push_question.Goals as goal

pub returns : goal.returns
returns c =
    let s : Text = c.args.page.now in
    let posted : Text = form (c.args.prefix.now ++ confirm_path) in
    let word : Text = hidden word_field c.args.word.now in
    let a : Text = codes "<p>An application asks to sign you out of this site.</p>\n" in
    let b : Text = a ++ posted in
    let d : Text = b ++ word in
    let two : c.push_form.new.self ≡ s ++ b = pushed s c.push.new.self c.push_form.new.self a posted c.in_ok-push.ensures c.in_ok-push_form.ensures in
    let three : c.push_hidden.new.self ≡ s ++ d = pushed s c.push_form.new.self c.push_hidden.new.self b word two c.in_ok-push_hidden.ensures in
    on_ok_weaker c.push_question_buttons.result (pushed s c.push_hidden.new.self c.push_question_buttons.new.page d question_buttons three)
    c.push_question_buttons.ensures
