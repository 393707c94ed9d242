use Rattle.std.proofs.Common.{◌≡◌, ◌++◌, codes}
use Rattle.std.proofs.lemmas.Result.{on_ok_weaker}
use Rattle.sso_base.specs.Words.{Text}
use Rattle.html_pages.specs.Escaping.{escaped}
use Rattle.html_pages.specs.Documents.{top_text}
use Rattle.html_pages.proofs.Pushes.{pushed}
use Rattle.html_pages.proofs.page.Page.push_top.Goals as goal

pub returns : goal.returns
unfolding top_text
returns c =
    let s : Text = c.args.self.now in
    let site : Text = escaped c.args.site.now in
    let heading : Text = escaped c.args.heading.now in
    let a : Text = codes "</head>\n<body>\n<main>\n<p class=\"site\">" in
    let b : Text = a ++ site in
    let d : Text = b ++ codes "</p>\n<h1>" in
    let e : Text = d ++ heading in
    let two : c.push_text.new.self ≡ s ++ b = pushed s c.push.new.self c.push_text.new.self a site c.in_ok-push.ensures c.in_ok-push_text.ensures in
    let three : c.push-2.new.self ≡ s ++ d = pushed s c.push_text.new.self c.push-2.new.self b (codes "</p>\n<h1>") two c.in_ok-push-2.ensures in
    let four : c.push_text-2.new.self ≡ s ++ e = pushed s c.push-2.new.self c.push_text-2.new.self d heading three c.in_ok-push_text-2.ensures in
    on_ok_weaker c.push-3.result (pushed s c.push_text-2.new.self c.push-3.new.self e (codes "</h1>\n") four) c.push-3.ensures
