-- What a pair names is found in tables that agree with the past, once they were purged at its moment.
use Rattle.std.proofs.Common.{◌≡◌, ◌≤◌, ℕ, true, List, Option, Some, None, option_and_then, refl, sym, ◌∙◌, ap, subst}
use Rattle.sso_base.specs.Words.{Word}
use Rattle.sso_base.specs.Rows.{row_of, if_lives, live_rows}
use Rattle.sso_base.specs.Stands.{IsDistinct}
use Rattle.sso_base.specs.declared.history.Entry.{Entry}
use Rattle.sso_base.proofs.RowLaws.{rows_distinct}
use Rattle.client_registry.specs.Configuration.{Configuration}
use Rattle.oidc_words.specs.declared.errors.Refusal.{Refusal}
use Rattle.auth_answer.specs.declared.answer.Answer.{Answer}
use Rattle.code_grant.specs.declared.rows.TurnRow.{TurnRow}
use Rattle.code_grant.specs.declared.rows.SessionRow.{SessionRow}
use Rattle.code_grant.specs.Rows.{turn_name, turn_begun, session_name, session_begun, code_name, code_begun}
use Rattle.oidc_words.specs.Lives.{turn_life, session_life, code_life}
use Rattle.code_grant.specs.Tables.{Tables, purged}
use Rattle.held_rows.proofs.RowOf.{row_of-live_rows}
use Rattle.op_exchange.specs.declared.ask.OpAsk.{OpAsk}
use Rattle.op_exchange.specs.declared.ask.OpAsk.TheVariants as ask
use Rattle.op_exchange.specs.declared.reply.OpReply.{OpReply}
use Rattle.op_exchange.specs.declared.reply.OpReply.TheVariants.{Answered, Refused}
use Rattle.op_answer.specs.Past.{OpPast}
use Rattle.op_answer.specs.Turns.{turns, turn_made, turn_kept, turn_of, live_turn}
use Rattle.op_answer.specs.Sessions.{sessions, session_made, session_kept, session_of, live_session}
use Rattle.op_answer.specs.Codes.{codes_issued, code_made, code_kept, code_named}
use Rattle.op_tables.specs.Agreeing.{Agrees}
use Rattle.op_answer.specs.Answering.{op_answer}
use Rattle.op_answer.specs.Causes.{AnsweredCause, RefusedCause}
use Rattle.op_tables.specs.Keeping.{FindsCode, FindsAgreement, turn_in, session_in}
use Rattle.op_answer.proofs.KeptNames.{some_same, turn_names, session_names, code_names}
use Rattle.held_rows.proofs.Found.{same_later, row_that_lives}
use Rattle.op_answer.proofs.Answers.{answers_have_a_cause}
use Rattle.op_answer.proofs.Refusals.{refusals_have_a_cause}

-- a row of a purged table is one that lives after the past
found_purged : {R : Type 0} (name : R → Word) (life : ℕ) (begun : R → ℕ) (before at : ℕ) → before ≤ at → (held rows : List R) → IsDistinct name rows
    → live_rows life begun before held ≡ live_rows life begun before rows → (named : Option Word)
    → option_and_then (λ (w : Word). row_of name w (live_rows life begun at held)) named ≡ option_and_then (if_lives life begun at) (option_and_then (λ (w : Word). row_of name w rows) named)
found_purged name life begun before at order held rows distinct agrees None = refl
found_purged {R} name life begun before at order held rows distinct agrees (Some w) =
    let F : List R → Option R = λ xs. row_of name w xs in
    ap F (same_later name life begun before at order held rows agrees) ∙ row_of-live_rows name life begun at w rows distinct

module _ (t : Tables) (past : OpPast) (before at : ℕ) (order : before ≤ at) (agrees : Agrees t past before) where
  pub finds_code : (asked : OpAsk) → FindsCode (live_rows code_life code_begun at t.codes) past at asked
  finds_code asked =
      found_purged code_name code_life code_begun before at order t.codes (codes_issued past) (rows_distinct code_name code_made code_kept code_names past) agrees.codes (code_named asked)

  finds_turn : (named : Option Word) → turn_in (purged at t) named ≡ live_turn past at named
  finds_turn named = found_purged turn_name turn_life turn_begun before at order t.turns (turns past) (rows_distinct turn_name turn_made turn_kept turn_names past) agrees.turns named

  finds_session : (named : Option Word) → session_in (purged at t) named ≡ live_session past at named
  finds_session named =
      found_purged session_name session_life session_begun before at order t.sessions (sessions past) (rows_distinct session_name session_made session_kept session_names past) agrees.sessions named

  turn_there : (turn : Option Word) (row : TurnRow) → live_turn past at turn ≡ Some row → turn_in (purged at t) turn ≡ turn_of past turn
  turn_there turn row live = finds_turn turn ∙ live ∙ sym (row_that_lives turn_life turn_begun at (turn_of past turn) row live)

  session_there : (turn : Option Word) (row : TurnRow) (session : SessionRow) → live_turn past at turn ≡ Some row → live_session past at row.session ≡ Some session
      → (r : TurnRow) → turn_of past turn ≡ Some r → session_in (purged at t) r.session ≡ session_of past r.session
  session_there turn row session live stands r h =
      let same : row ≡ r = some_same row r (sym (row_that_lives turn_life turn_begun at (turn_of past turn) row live) ∙ h) in
      let S : TurnRow → Type 0 = λ x. session_in (purged at t) x.session ≡ session_of past x.session in
      subst S same (finds_session row.session ∙ stands ∙ sym (row_that_lives session_life session_begun at (session_of past row.session) session stands))

module _ (c : Configuration) (t : Tables) (past : OpPast) (e : Entry OpAsk) (before : ℕ) (order : before ≤ e.at) (agrees : Agrees t past before) where
  agreement_found : (asked : OpAsk) (told : OpReply) → ((answer : Answer) (given : Option Word) → told ≡ Answered answer given → AnsweredCause c past e asked answer given)
      → ((refusal : Refusal) (given : Option Word) → told ≡ Refused refusal given → RefusedCause c past e asked refusal given) → FindsAgreement (purged e.at t) past asked told
  agreement_found (ask.Consent turn true browser presented) (Answered answer given) answers refusals =
      let why = answers answer given refl in
      let live : live_turn past e.at turn ≡ Some why.row = why.own.own.live in
      record { turn = turn_there t past before e.at order agrees turn why.row live; session = session_there t past before e.at order agrees turn why.row why.session live why.own.live }
  agreement_found (ask.Consent turn true browser presented) (Refused refusal given) answers refusals =
      let why = refusals refusal given refl in
      let live : live_turn past e.at turn ≡ Some why.row = why.own.own.live in
      record { turn = turn_there t past before e.at order agrees turn why.row live; session = session_there t past before e.at order agrees turn why.row why.session live why.own.live }
  agreement_found asked told answers refusals = record { turn = refl; session = λ row h. cc }

  -- the reply is the provider's answer
  pub finds_agreement : FindsAgreement (purged e.at t) past e.ask (op_answer c past e)
  finds_agreement = agreement_found e.ask (op_answer c past e) (answers_have_a_cause c past e) (refusals_have_a_cause c past e)
