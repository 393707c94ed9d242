use Rattle.std.proofs.Common.{◌≡◌, ◌++◌, codes, ap, ◌∙◌}
use Rattle.std.proofs.lemmas.Result.{on_ok_weaker}
use Rattle.sso_base.specs.Words.{Text}
use Rattle.html_pages.specs.Escaping.{escaped}
use Rattle.html_pages.specs.Documents.{style, head_text}
use Rattle.html_pages.proofs.Pushes.{pushed}
use Rattle.html_pages.proofs.PostedTags.{before_heading}
use Rattle.html_pages.proofs.page.Page.push_head.Goals as goal

pub returns : goal.returns
unfolding head_text
returns c =
    let s : Text = c.args.self.now in
    let heading : Text = escaped c.args.heading.now in
    let site : Text = escaped c.args.site.now in
    let a : Text = before_heading in
    let b : Text = a ++ heading in
    let d : Text = b ++ codes " - " in
    let e : Text = d ++ site in
    let f : Text = e ++ codes "</title>\n<style>" in
    let g : Text = f ++ style in
    let two : c.push_text.new.self ≡ s ++ b = pushed s c.push.new.self c.push_text.new.self a heading c.in_ok-push.ensures c.in_ok-push_text.ensures in
    let three : c.push-2.new.self ≡ s ++ d = pushed s c.push_text.new.self c.push-2.new.self b (codes " - ") two c.in_ok-push-2.ensures in
    let four : c.push_text-2.new.self ≡ s ++ e = pushed s c.push-2.new.self c.push_text-2.new.self d site three c.in_ok-push_text-2.ensures in
    let five : c.push-3.new.self ≡ s ++ f = pushed s c.push_text-2.new.self c.push-3.new.self e (codes "</title>\n<style>") four c.in_ok-push-3.ensures in
    let styled : c.push-4.new.self ≡ c.push-3.new.self ++ style = c.in_ok-push-4.ensures ∙ ap (λ (t : Text). c.push-3.new.self ++ t) c.style.ensures in
    let six : c.push-4.new.self ≡ s ++ g = pushed s c.push-3.new.self c.push-4.new.self f style five styled in
    on_ok_weaker c.push-5.result (pushed s c.push-4.new.self c.push-5.new.self g (codes "</style>\n") six) c.push-5.ensures
