use Rattle.std.proofs.Common.{rules, ap, ap₂, ◌≡◌, ◌∙◌, codes, true}
use Rattle.std.proofs.lemmas.Result.{IfOk-weaker}
use Rattle.clap.specs.Walk.{rule_of}
use Rattle.clap.specs.Simple.{app_of, app_of_fields, new_rule, with_rule, on_top}
use Rattle.command_line.specs.Positionals.{bare, flat, required_rule}
use Rattle.command_line.proofs.positionals.flat_command.Goals as goal

pub returns : goal.returns
unfolding flat
returns c =
    let name_is : rule_of c.required-name.result ≡ required_rule (codes "name") = search rules in
    let first_is : rule_of c.required-first.result ≡ required_rule (codes "first") = search rules in
    let second_is : rule_of c.new-second.result ≡ new_rule (codes "second") = search rules in
    let third_is : rule_of c.new-third.result ≡ new_rule (codes "third") = search rules in
    let bare_is : app_of c.disable_help_flag.result ≡ bare =
    ap app_of_fields c.disable_help_flag.ensures
    ∙ ap (on_top (λ s. record s { disable_help_flag = true })) (ap app_of_fields c.no_binary_name.ensures
    ∙ ap (on_top (λ s. record s { no_binary_name = true })) c.new-3.ensures.app) in
    IfOk-weaker c.arg-4.result _ _ (λ command adds. adds.shape (search rules)
    ∙ ap₂ with_rule (c.in_ok-arg-3.ensures.shape (search rules)
    ∙ ap₂ with_rule (c.in_ok-arg-2.ensures.shape (search rules)
    ∙ ap₂ with_rule (c.in_ok-arg.ensures.shape (search rules)
    ∙ ap₂ with_rule bare_is name_is) first_is) second_is) third_is) c.arg-4.ensures
