use Rattle.std.proofs.Common.{◌≡◌, ℕ, length, Option, None, sym, ◌∙◌, ap, subst}
use Rattle.std.specs.Option.{option_copied}
use Rattle.auth_request.specs.declared.wish.Wish.{Wish}
use Rattle.code_grant.specs.declared.rows.TurnRow.{TurnRow}
use Rattle.code_grant.specs.declared.rows.SessionRow.{SessionRow}
use Rattle.op_exchange.specs.Replied.{code_in}
use Rattle.op_answer.specs.Turns.{turn_started}
use Rattle.op_answer.specs.Sessions.{session_set, client_of_wish, is_answered}
use Rattle.op_answer.specs.Codes.{code_made_by}
use Rattle.op_tables.specs.declared.made.Made.{Made}
use Rattle.op_core.specs.Making.{wish_for, wish_found, session_of_turn, session_for, session_found, client_found, session_put_by, session_put, code_put, access_put_by, access_put}
use Rattle.op_core.specs.Outcome.{used_for, used_found, MakesRows}
use Rattle.op_core.specs.Providing.{past_of}
use Rattle.op_core.proofs.Outcomes.{brings_nothing, brings_all, brings_as}
use Rattle.op_core.proofs.state.OpCore.outcome.Goals as goal

pub returns-then-not-is_prepared-clause-rows : goal.returns-then-not-is_prepared-clause-rows
returns-then-not-is_prepared-clause-rows c =
    let M : Made → Type 0 = λ m. MakesRows (past_of c.args.self.now) (record { entry = c.args.entry.now; reply = c.args.reply.now }) m.turn m.session m.code m.token None None in
    subst M (sym c.none.ensures)
    (brings_nothing c.args.self.now.registry (past_of c.args.self.now) c.args.entry.now c.args.reply.now (sym c.if-not-is_prepared.ensures) c.requires.answer)

-- the wish, the session and the client are those of the turn that was found
pub returns-clause-rows : goal.returns-clause-rows
returns-clause-rows c =
    let past = past_of c.args.self.now in
    let e = c.args.entry.now in
    let told = c.args.reply.now in
    let made = c.in_ok-made.made in
    let found = c.requires.turn in
    let own = c.requires.session ∙ ap (λ (t : Option TurnRow). session_of_turn past e.at t) found in
    let wish_is : option_copied c.wish_for-wish.result ≡ wish_found past e.at e.ask = c.wish_for-wish.ensures.wish ∙ ap (λ (t : Option TurnRow). wish_for e.ask t) found in
    let session_is : c.session_for-session.result ≡ session_found past e e.ask = c.session_for-session.ensures.row ∙ ap (λ (s : Option SessionRow). session_for past e e.ask s) own in
    let client_is : c.client_for-client.result ≡ client_found past e told = c.client_for-client.ensures.client ∙ ap (λ (w : Option Wish). client_of_wish (is_answered told) w) wish_is in
    let used_is : c.used_for.result ≡ used_found past e e.ask told = c.used_for.ensures ∙ ap (λ (t : Option TurnRow). used_for e.ask told t) found in
    brings_as past (record { entry = e; reply = told })
    made.turn (turn_started e.at e.ask told)
    made.session (session_put past e told)
    made.code (code_put past e told)
    made.token (access_put past e told)
    c.used_for.result (used_found past e e.ask told)
    c.client_for-client.result (client_found past e told)
    c.in_ok-made.ensures.turn
    (c.in_ok-made.ensures.session ∙ ap (λ (n : Option ℕ). session_put_by past e n e.ask (session_set e.ask told)) client_is)
    (c.in_ok-made.ensures.code
    ∙ ap (λ (w : Option Wish). code_made_by (length past) e.at (code_in told) w c.session_for-session.result) wish_is
    ∙ ap (λ (s : Option SessionRow). code_made_by (length past) e.at (code_in told) (wish_found past e.at e.ask) s) session_is)
    (c.in_ok-made.ensures.token
    ∙ ap (λ (w : Option Wish). access_put_by past e e.ask told w c.session_for-session.result) wish_is
    ∙ ap (λ (s : Option SessionRow). access_put_by past e e.ask told (wish_found past e.at e.ask) s) session_is)
    used_is client_is
    (brings_all c.args.self.now.registry past e told c.requires.answer)
