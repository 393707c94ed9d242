-- The rows that the places of an honest login make at its party, and that they live as long as is said.
use Rattle.std.proofs.Common.{◌≡◌, ◌<◌, ◌+◌, ℕ, cond, List, ◌∷◌, length, Option, Some, None, Result, option_map, option_and_then, refl, ap, ◌∙◌, subst}
use Rattle.std.proofs.lemmas.Bool.{lt-ltb}
use Rattle.sso_base.specs.Words.{Word, Text, fresh_word}
use Rattle.sso_base.specs.Rows.{row_of}
use Rattle.sso_base.specs.declared.history.Entry.{Entry}
use Rattle.sso_base.specs.declared.message.Message.{Message}
use Rattle.id_token.specs.declared.claims.IdClaims.{IdClaims}
use Rattle.id_token.specs.declared.no.IdNo.{IdNo}
use Rattle.auth_answer.specs.declared.heard.Heard.{Heard}
use Rattle.auth_answer.specs.declared.no.AnswerNo.{AnswerNo}
use Rattle.token_endpoint.specs.declared.reading.Tokens.{Tokens}
use Rattle.token_endpoint.specs.declared.no.TokensNo.{TokensNo}
use Rattle.oidc_words.specs.Lives.{login_life, pending_life}
use Rattle.oidc_words.specs.declared.response_types.Types.{Types}
use Rattle.rp_login.specs.declared.rows.LoginRow.{LoginRow}
use Rattle.rp_login.specs.declared.rows.PendingRow.{PendingRow}
use Rattle.rp_login.specs.declared.rows.Stage.{Stage}
use Rattle.rp_login.specs.declared.rows.Stage.TheVariants as stage
use Rattle.rp_login.specs.Rows.{login_name, login_begun, pending_name, pending_begun}
use Rattle.rp_exchange.specs.declared.ask.RpAsk.{RpAsk}
use Rattle.rp_exchange.specs.declared.ask.RpAsk.TheVariants as ask
use Rattle.rp_exchange.specs.declared.reply.RpReply.TheVariants as reply
use Rattle.rp_answer.specs.Past.{RpPair, RpPast}
use Rattle.rp_answer.specs.Asked.{state_named}
use Rattle.rp_answer.specs.Logins.{login_started, login_made, login_kept, logins, login_of, live_login}
use Rattle.rp_answer.specs.Pendings.{is_stage, if_stage, pending_started, pending_followed, pending_by, pending_made, pending_kept, pendings, live_pending}
use Rattle.rp_answer.proofs.KeptNames.{login_names, pending_names}
use Rattle.honest_places.proofs.Persisting.{made_stands, lives_on}

-- ---- a login

abbrev pub begun_login : ℕ → Entry RpAsk → Word → LoginRow
begun_login by e browser = record { state = fresh_word e.fresh 1; nonce = fresh_word e.fresh 2; browser = browser; begun = e.at; by = by }

pub login_waits : (past : RpPast) (p : RpPair) (presented : Option Word) (to : Text) (browser : Word) → p.entry.ask ≡ ask.Begin presented → p.reply ≡ reply.Ask to browser
    → row_of login_name (fresh_word p.entry.fresh 1) (logins (p ∷ past)) ≡ Some (begun_login (length past) p.entry browser)
login_waits past p presented to browser asked replied =
    made_stands login_name login_made login_kept login_names past p (begun_login (length past) p.entry browser)
    (ap (λ a. login_started (length past) p.entry.at p.entry.fresh a p.reply) asked ∙ ap (login_started (length past) p.entry.at p.entry.fresh (ask.Begin presented)) replied)

-- ---- a token request, and a UserInfo request at once

module _ (types : Types) (past : RpPast) (p : RpPair) (w : Word) (message : Message) where
  abbrev held : List PendingRow
  held = pendings types past

  abbrev Waits : PendingRow → Type 0
  Waits row = row_of pending_name w (pendings types (p ∷ past)) ≡ Some row

  sent : (row : PendingRow) → pending_by types p.entry.at past held p.entry.ask p.reply ≡ Some row → row.word ≡ w → Waits row
  sent row makes named =
      let N : Word → Type 0 = λ v. row_of pending_name v (pendings types (p ∷ past)) ≡ Some row in
      subst N named (made_stands pending_name (pending_made types) pending_kept pending_names past p row makes)

  pub exchange_waits : (asked : RpAsk) (login : LoginRow) → p.entry.ask ≡ asked → p.reply ≡ reply.Exchange w message → login_of past (state_named asked) ≡ Some login
      → Waits (pending_started types p.entry.at asked w stage.Tokens login)
  exchange_waits asked login is replied found =
      sent (pending_started types p.entry.at asked w stage.Tokens login)
      (ap (λ a. pending_by types p.entry.at past held a p.reply) is ∙ ap (pending_by types p.entry.at past held asked) replied
      ∙ ap (option_map (pending_started types p.entry.at asked w stage.Tokens)) found) refl

  pub fetch_waits : (heard : Result Heard AnswerNo) (id : Option (Result IdClaims IdNo)) (browser : Option Word) (login : LoginRow) → p.entry.ask ≡ ask.Callback heard id browser → p.reply ≡ reply.Fetch w message
      → login_of past (state_named (ask.Callback heard id browser)) ≡ Some login → Waits (pending_started types p.entry.at (ask.Callback heard id browser) w stage.Info login)
  fetch_waits heard id browser login is replied found =
      let asked : RpAsk = ask.Callback heard id browser in
      sent (pending_started types p.entry.at asked w stage.Info login)
      (ap (λ a. pending_by types p.entry.at past held a p.reply) is ∙ ap (pending_by types p.entry.at past held asked) replied
      ∙ ap (option_map (pending_started types p.entry.at asked w stage.Info)) found) refl

  -- ---- a UserInfo request after a token response

  staged_before : (before : PendingRow) (found : Option PendingRow) → found ≡ Some before → before.stage ≡ stage.Tokens → option_and_then (if_stage stage.Tokens) found ≡ Some before
  staged_before before found is waits = ap (option_and_then (if_stage stage.Tokens)) is ∙ ap (λ k. cond (is_stage stage.Tokens k) (Some before) None) waits

  pub question_waits : (answered : Word) (came : Result Tokens TokensNo) (id : Option (Result IdClaims IdNo)) (before : PendingRow) → p.entry.ask ≡ ask.Tokens answered came id → p.reply ≡ reply.Fetch w message
      → row_of pending_name answered held ≡ Some before → before.stage ≡ stage.Tokens → Waits (pending_followed types p.entry.at (ask.Tokens answered came id) w before)
  question_waits answered came id before is replied found waits =
      let asked : RpAsk = ask.Tokens answered came id in
      sent (pending_followed types p.entry.at asked w before)
      (ap (λ a. pending_by types p.entry.at past held a p.reply) is ∙ ap (pending_by types p.entry.at past held asked) replied
      ∙ ap (option_map (pending_followed types p.entry.at asked w)) (staged_before before (row_of pending_name answered held) found waits)) refl

-- ---- they live

pub login_lives : (past : RpPast) (at : ℕ) (state : Word) (login : LoginRow) → row_of login_name state (logins past) ≡ Some login → at < login.begun + login_life → live_login past at (Some state) ≡ Some login
login_lives past at state login found soon = lives_on login_life login_begun at login (row_of login_name state (logins past)) found (lt-ltb at (login.begun + login_life) soon)

pub pending_lives : (types : Types) (past : RpPast) (at : ℕ) (w : Word) (waits : Stage) (row : PendingRow) → row_of pending_name w (pendings types past) ≡ Some row → at < row.since + pending_life → row.stage ≡ waits
    → live_pending types past at w waits ≡ Some row
pending_lives types past at w waits row found soon is =
    ap (option_and_then (if_stage waits)) (lives_on pending_life pending_begun at row (row_of pending_name w (pendings types past)) found (lt-ltb at (row.since + pending_life) soon))
    ∙ ap (λ k. cond (is_stage waits k) (Some row) None) is ∙ own_stage waits
  where
    own_stage : (waits : Stage) → cond (is_stage waits waits) (Some row) None ≡ Some row
    own_stage stage.Tokens = refl
    own_stage stage.Info = refl
