use Rattle.std.proofs.Common.{ℕ, ◌<◌, Bool, List, length, sym, ◌∙◌, subst, arith}
use Rattle.client_registry.specs.Configuration.{Configuration}
use Rattle.op_issue.specs.declared.sign_out.SignOut.{SignOut}
use Rattle.sso_places.specs.Told.{told_clients}
use Rattle.sso_places.specs.Tokens.{TokenText}
use Rattle.running_world.specs.Noting.{AreNoted, ArePartlyNoted, logout_written}
use Rattle.running_world.proofs.WrittenTexts.{TextLists, more_noted, more_partly, tokens_for, tokens_up_to, tokens_behind, tokens_more, tokens_within}
use Rattle.running_world.proofs.writing.note_logouts.Goals as goal

pub returns-in_err-note_logout-clause-either : goal.returns-in_err-note_logout-clause-either
returns-in_err-note_logout-clause-either c =
    let r : Configuration = c.args.registry.now in
    let out : SignOut = c.sign_out_of-out.result in
    let told : List Bool = c.args.session.now.clients in
    let i : ℕ = c.loop-client.client in
    let low : i < length r.clients = omega arith in
    let before : TextLists = c.args.written.now in
    let after : TextLists = c.note_logout.new.written in
    let P : List TokenText → Type 0 = λ ts. ArePartlyNoted before after ts in
    let O : SignOut → Type 0 = λ o. ArePartlyNoted before after (tokens_for r o told (told_clients r told)) in
    subst O c.sign_out_of-out.ensures
    (subst P (sym (tokens_within r out told i low))
    (more_partly before c.loop-client.written after (tokens_up_to r out told i) (logout_written r out told i) (tokens_behind r out told i) c.loop-client.invariant.noted c.in_err-note_logout.ensures.either))

pub loop-client-preserved : goal.loop-client-preserved
loop-client-preserved c =
    let r : Configuration = c.args.registry.now in
    let out : SignOut = c.sign_out_of-out.result in
    let told : List Bool = c.args.session.now.clients in
    let i : ℕ = c.loop-client.client in
    let low : i < length r.clients = omega arith in
    let after : TextLists = c.note_logout.new.written in
    let N : List TokenText → Type 0 = λ ts. AreNoted c.args.written.now after ts in
    record {
      count = c.note_logout.ensures.count ∙ c.loop-client.invariant.count;
      noted = subst N (sym (tokens_more r out told i low))
          (more_noted c.args.written.now c.loop-client.written after (tokens_up_to r out told i) (logout_written r out told i) c.loop-client.invariant.noted c.in_ok-note_logout.ensures.ok);
    }
