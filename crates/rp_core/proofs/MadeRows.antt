-- The rows by what lives are those that the definitions make, where the reply is the answer.
use Rattle.std.proofs.Common.{◌≡◌, length, Bool, cond, Option, Some, None, option_map, option_and_then, Ok, refl, sym, ◌∙◌, ap}
use Rattle.sso_base.specs.Words.{Word, Text}
use Rattle.sso_base.specs.Rows.{row_of}
use Rattle.sso_base.specs.declared.history.Entry.{Entry}
use Rattle.sso_base.specs.declared.message.Message.{Message}
use Rattle.oidc_words.specs.declared.response_types.Types.{Types}
use Rattle.rp_login.specs.declared.rows.LoginRow.{LoginRow}
use Rattle.rp_login.specs.declared.rows.PendingRow.{PendingRow}
use Rattle.rp_login.specs.declared.rows.SessionRow.{SessionRow}
use Rattle.rp_login.specs.declared.rows.SeenRow.{SeenRow}
use Rattle.rp_login.specs.declared.rows.DeadRow.{DeadRow}
use Rattle.rp_login.specs.declared.rows.Stage.{Stage}
use Rattle.rp_login.specs.declared.rows.Stage.TheVariants as stage
use Rattle.rp_login.specs.Rows.{pending_name}
use Rattle.rp_exchange.specs.declared.ask.RpAsk.{RpAsk}
use Rattle.rp_exchange.specs.declared.ask.RpAsk.TheVariants as ask
use Rattle.rp_exchange.specs.declared.reply.RpReply.{RpReply}
use Rattle.rp_exchange.specs.declared.reply.RpReply.TheVariants as reply
use Rattle.rp_answer.specs.Past.{RpPast}
use Rattle.rp_answer.specs.Setup.{PartySetup, party_of}
use Rattle.rp_answer.specs.Asked.{state_named, claims_judged}
use Rattle.rp_answer.specs.Logins.{login_started, login_of, live_login}
use Rattle.rp_answer.specs.Pendings.{if_stage, pending_started, pending_followed, fetched_by, pending_by, pendings, pending_of, live_pending}
use Rattle.rp_answer.specs.Visits.{nonce_by, visit_of, visit_after, visit_for, visit_by}
use Rattle.rp_answer.specs.Seens.{seen_by}
use Rattle.rp_answer.specs.Deads.{dead_by}
use Rattle.rp_answer.specs.Answering.{rp_answer}
use Rattle.rp_answer.specs.Causes.{ExchangeCause, FetchCause, MayEnter}
use Rattle.rp_answer.proofs.Answers.{exchanges_have_a_cause, fetches_have_a_cause, entered_have_a_cause}
use Rattle.rp_answer.proofs.Sending as found
use Rattle.rp_core.specs.Making.{fetched_found, pending_found, nonce_found, visit_judged, visit_in, visit_found, MakesRows}

module _ (s : PartySetup) (past : RpPast) (e : Entry RpAsk) where
  types : Types
  types = (party_of s).types

  -- an exchange that lives and waits for this answer is the one that is found and waits for it
  waiting_same : (w : Word) (waits : Stage) (row : PendingRow) → live_pending (party_of s).types past e.at w waits ≡ Some row
      → live_pending (party_of s).types past e.at w waits ≡ option_and_then (if_stage waits) (row_of pending_name w (pendings (party_of s).types past))
  waiting_same w waits row live =
      let I : Option PendingRow → Option PendingRow = λ o. option_and_then (if_stage waits) o in
      let there : pending_of (party_of s).types past w ≡ Some row = found.pending_found (party_of s).types past e.at w waits row live in
      let S : Bool → Option PendingRow = λ b. cond b (Some row) None in
      live ∙ sym (ap I there ∙ ap S (found.pending_waits (party_of s).types past e.at w waits row live))

  exchange_live : (asked : RpAsk) (w : Word) (message : Message) → ExchangeCause s past e asked w message → live_login past e.at (state_named asked) ≡ login_of past (state_named asked)
  exchange_live (ask.Callback (Ok heard) id browser) w message cause =
      cause.response.own.live ∙ sym (found.login_found past e.at heard.state cause.login cause.response.own.live)
  exchange_live asked w message cause = absurd cause

  -- UserInfo is asked for after the response of a live login, or after the token response to a live exchange
  fetch_same : (asked : RpAsk) → e.ask ≡ asked → (w : Word) (message : Message) → FetchCause s past e asked w message
      → fetched_found (party_of s).types past e w asked ≡ fetched_by (party_of s).types e.at past (pendings (party_of s).types past) w asked
  fetch_same (ask.Callback (Ok heard) id browser) is w message cause =
      let A : RpAsk → Option PendingRow = λ a. option_map (pending_started (party_of s).types e.at a w stage.Info) (live_login past e.at (state_named a)) in
      let M : Option LoginRow → Option PendingRow = λ o. option_map (pending_started (party_of s).types e.at (ask.Callback (Ok heard) id browser) w stage.Info) o in
      ap A is ∙ ap M (cause.response.own.live ∙ sym (found.login_found past e.at heard.state cause.login cause.response.own.live))
  fetch_same (ask.Tokens answered (Ok came) id) is w message cause =
      let A : RpAsk → Option PendingRow = λ a. option_map (pending_followed (party_of s).types e.at a w) (live_pending (party_of s).types past e.at answered stage.Tokens) in
      let M : Option PendingRow → Option PendingRow = λ o. option_map (pending_followed (party_of s).types e.at (ask.Tokens answered (Ok came) id) w) o in
      ap A is ∙ ap M (waiting_same answered stage.Tokens cause.exchange cause.live)
  fetch_same asked is w message cause = absurd cause

  pub pending_same : (told : RpReply) → told ≡ rp_answer s past e → pending_found (party_of s).types past e told ≡ pending_by (party_of s).types e.at past (pendings (party_of s).types past) e.ask told
  pending_same (reply.Exchange w message) answered =
      let M : Option LoginRow → Option PendingRow = λ o. option_map (pending_started (party_of s).types e.at e.ask w stage.Tokens) o in
      ap M (exchange_live e.ask w message (exchanges_have_a_cause s past e w message (sym answered)))
  pending_same (reply.Fetch w message) answered = fetch_same e.ask refl w message (fetches_have_a_cause s past e w message (sym answered))
  pending_same told answered = refl

  judged_same : (asked : RpAsk) (w : Word) → nonce_found (party_of s).types past e asked ≡ nonce_by (party_of s).types past asked
      → visit_judged (party_of s).types past e w asked ≡ option_and_then (λ nonce. option_map (visit_of e.at w nonce) (claims_judged (party_of s).types asked)) (nonce_by (party_of s).types past asked)
  judged_same asked w same =
      let M : Option Word → Option SessionRow = λ o. option_and_then (λ nonce. option_map (visit_of e.at w nonce) (claims_judged (party_of s).types asked)) o in
      ap M same

  entered_nonce : (asked : RpAsk) (w : Word) (sub : Text) → MayEnter s past e asked w sub → nonce_found (party_of s).types past e asked ≡ nonce_by (party_of s).types past asked
  entered_nonce (ask.Callback (Ok heard) id browser) w sub cause =
      let M : Option LoginRow → Option Word = λ o. option_map (λ (login : LoginRow). login.nonce) o in
      ap M (cause.response.own.live ∙ sym (found.login_found past e.at heard.state cause.login cause.response.own.live))
  entered_nonce (ask.Tokens pending (Ok came) id) w sub cause =
      let M : Option PendingRow → Option Word = λ o. option_map (λ (row : PendingRow). row.nonce) o in
      ap M (cause.live ∙ sym (found.pending_found (party_of s).types past e.at pending stage.Tokens cause.exchange cause.live))
  entered_nonce (ask.Info pending (Ok came)) w sub cause = refl
  entered_nonce asked w sub cause = absurd cause

  entered_same : (asked : RpAsk) (w : Word) (sub : Text) → MayEnter s past e asked w sub → visit_in (party_of s).types past e w asked ≡ visit_for (party_of s).types e.at past w asked
  entered_same (ask.Info pending (Ok came)) w sub cause =
      let V : Option PendingRow → Option SessionRow = λ o. option_and_then (visit_after e.at w) o in
      ap V (cause.live ∙ sym (found.pending_found (party_of s).types past e.at pending stage.Info cause.exchange cause.live))
  entered_same (ask.Callback (Ok heard) id browser) w sub cause = judged_same (ask.Callback (Ok heard) id browser) w (entered_nonce (ask.Callback (Ok heard) id browser) w sub cause)
  entered_same (ask.Tokens pending (Ok came) id) w sub cause = judged_same (ask.Tokens pending (Ok came) id) w (entered_nonce (ask.Tokens pending (Ok came) id) w sub cause)
  entered_same asked w sub cause = absurd cause

  pub visit_same : (told : RpReply) → told ≡ rp_answer s past e → visit_found (party_of s).types past e told ≡ visit_by (party_of s).types e.at past e.ask told
  visit_same (reply.Entered w sub) answered = entered_same e.ask w sub (entered_have_a_cause s past e w sub (sym answered)).enters
  visit_same told answered = refl

  pub makes_rows : (told : RpReply) (login : Option LoginRow) (pending : Option PendingRow) (visit : Option SessionRow) (seen : Option SeenRow) (dead : Option DeadRow) → told ≡ rp_answer s past e
      → login ≡ login_started (length past) e.at e.fresh e.ask told → pending ≡ pending_found (party_of s).types past e told → visit ≡ visit_found (party_of s).types past e told
      → seen ≡ seen_by (length past) e.at e.ask told → dead ≡ dead_by (length past) e.at e.ask told → MakesRows (party_of s).types past (record { entry = e; reply = told }) login pending visit seen dead
  makes_rows told login pending visit seen dead answered one two three four five =
      record { login_is = one; pending_is = two ∙ pending_same told answered; visit_is = three ∙ visit_same told answered; seen_is = four; dead_is = five }
