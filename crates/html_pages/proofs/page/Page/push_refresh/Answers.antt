use Rattle.std.proofs.Common.{◌≡◌, ◌++◌, codes}
use Rattle.std.proofs.lemmas.Result.{on_ok_weaker}
use Rattle.sso_base.specs.Words.{Text}
use Rattle.html_pages.specs.Documents.{refresh_url}
use Rattle.html_pages.proofs.Pushes.{pushed}
use Rattle.html_pages.proofs.page.Page.push_refresh.Goals as goal

pub returns : goal.returns
returns c =
    let s : Text = c.args.self.now in
    let a : Text = codes "<meta http-equiv=\"refresh\" content=\"" in
    let b : Text = a ++ c.args.seconds.now in
    let to : Text = c.args.prefix.now ++ c.args.path.now in
    let two : c.push-2.new.self ≡ s ++ b = pushed s c.push.new.self c.push-2.new.self a c.args.seconds.now c.in_ok-push.ensures c.in_ok-push-2.ensures in
    on_ok_weaker c.push_refresh_url.result (pushed s c.push-2.new.self c.push_refresh_url.new.self b (refresh_url to) two) c.push_refresh_url.ensures
