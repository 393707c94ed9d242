-- The party's rows stay over pairs that spare their words: logins, and exchanges that wait.
use Rattle.std.proofs.Common.{◌≡◌, ℕ, Bool, false, ◌&&◌, cond, List, ◌∷◌, ◌++◌, Option, Some, None, Ok, option_map, option_and_then, refl, sym, ap, ◌∙◌, arith}
use Rattle.std.specs.Str.{bytes_eq}
use Rattle.std.specs.List.{AllByRecursion}
use Rattle.sso_base.specs.Words.{Word, is_word, fresh_word}
use Rattle.sso_base.specs.Rows.{row_of}
use Rattle.sso_base.specs.Stands.{is_named}
use Rattle.sso_base.specs.declared.history.Entry.{Entry}
use Rattle.sso_base.specs.declared.message.Message.{Message}
use Rattle.oidc_words.specs.declared.response_types.Types.{Types}
use Rattle.rp_login.specs.declared.rows.LoginRow.{LoginRow}
use Rattle.rp_login.specs.declared.rows.PendingRow.{PendingRow}
use Rattle.rp_login.specs.declared.rows.Stage.{Stage}
use Rattle.rp_login.specs.declared.rows.Stage.TheVariants as stage
use Rattle.rp_login.specs.Rows.{login_name, pending_name}
use Rattle.rp_exchange.specs.declared.ask.RpAsk.{RpAsk}
use Rattle.rp_exchange.specs.declared.ask.RpAsk.TheVariants as ask
use Rattle.rp_exchange.specs.declared.reply.RpReply.{RpReply}
use Rattle.rp_exchange.specs.declared.reply.RpReply.TheVariants as reply
use Rattle.rp_answer.specs.Past.{RpPair, RpPast}
use Rattle.rp_answer.specs.Setup.{PartySetup, party_of}
use Rattle.rp_answer.specs.Asked.{state_named}
use Rattle.rp_answer.specs.Logins.{login_of, login_started, login_made, login_kept, logins, ends_login}
use Rattle.rp_answer.specs.Pendings.{if_stage, pending_started, pending_followed, started_by, fetched_by, pending_by, pending_made, pending_kept, pendings, answer_named, is_answered, ends_pending, is_stage}
use Rattle.rp_answer.specs.Answering.{rp_answer}
use Rattle.rp_answer.specs.Causes.{ExchangeCause, FetchCause}
use Rattle.rp_answer.specs.Legal.{IsLegalRp}
use Rattle.rp_answer.proofs.Answers.{exchanges_have_a_cause, fetches_have_a_cause}
use Rattle.rp_answer.proofs.KeptNames.{login_names, pending_names}
use Rattle.rp_answer.proofs.Sending.{pending_found, named_row}
use Rattle.honest_places.specs.Shown.{exchange_named}
use Rattle.honest_places.proofs.OwnWords.{other_bytes}
use Rattle.honest_places.proofs.Persisting.{stays}
use Rattle.honest_party.specs.Sparing.{Spares}

-- ---- logins

not_begun : (by at : ℕ) (fresh : List Word) (w : Word) (asked : RpAsk) (told : RpReply) → bytes_eq (fresh_word fresh 1) w ≡ false → is_named login_name w (login_started by at fresh asked told) ≡ false
not_begun by at fresh w (ask.Begin presented) (reply.Ask to browser) h = h
not_begun by at fresh w asked told h = refl

module _ (s : PartySetup) (w : Word) where
  login_left : (past : RpPast) (p : RpPair) (row : LoginRow) → Spares w p → login_name row ≡ w → login_kept past p row ≡ Some row
  login_left past p row spares named =
      let W : Word → Bool = λ v. is_word (state_named p.entry.ask) v in
      ap (λ b. cond (b && ends_login p.reply) None (Some row)) (ap W named ∙ spares.no_login)

  pub login_persists : (later past : RpPast) (row : LoginRow) → IsLegalRp s (later ++ past) → AllByRecursion (Spares w) later → row_of login_name w (logins past) ≡ Some row
      → row_of login_name w (logins (later ++ past)) ≡ Some row
  login_persists later past row legal spared there =
      stays login_name login_made login_kept login_names (IsLegalRp s) (λ p q l. l.0) (λ p. Spares w p) w row
      (λ q p l z. not_begun _ p.entry.at p.entry.fresh w p.entry.ask p.reply (other_bytes (fresh_word p.entry.fresh 1) w (z.undrawn 1 (omega arith))))
      (λ q p l z named. login_left q p row z named) later past legal spared there

-- ---- exchanges

-- the word under which a reply waits
abbrev waits_under : RpReply → Option Word
waits_under (reply.Exchange w message) = Some w
waits_under (reply.Fetch w message) = Some w
waits_under told = None

other_word : (u v w : Word) → u ≡ v → bytes_eq u w ≡ false → bytes_eq v w ≡ false
other_word u v w same h = ap (λ x. bytes_eq x w) (sym same) ∙ h

-- in a legal past a reply waits under a word that was drawn for its pair, or that its ask names
module _ (s : PartySetup) (past : RpPast) (e : Entry RpAsk) (w : Word) (undrawn : bytes_eq (fresh_word e.fresh 0) w ≡ false) where
  exchanged : (v : Word) (message : Message) (asked : RpAsk) → ExchangeCause s past e asked v message → bytes_eq v w ≡ false
  exchanged v message (ask.Callback (Ok heard) id browser) cause = other_word (fresh_word e.fresh 0) v w cause.drawn undrawn
  exchanged v message asked cause = absurd cause

  fetched : (v : Word) (message : Message) (asked : RpAsk) → FetchCause s past e asked v message → is_word (exchange_named asked) w ≡ false → bytes_eq v w ≡ false
  fetched v message (ask.Callback (Ok heard) id browser) cause unnamed = other_word (fresh_word e.fresh 0) v w cause.drawn undrawn
  fetched v message (ask.Tokens answered (Ok came) id) cause unnamed =
      let found = pending_found (party_of s).types past e.at answered stage.Tokens cause.exchange cause.live in
      let same : cause.exchange.word ≡ answered = named_row answered (pendings (party_of s).types past) cause.exchange found in
      other_word answered v w (sym same ∙ cause.word_kept) unnamed
  fetched v message asked cause unnamed = absurd cause

  unmade : (told : RpReply) → rp_answer s past e ≡ told → is_word (exchange_named e.ask) w ≡ false → is_word (waits_under told) w ≡ false
  unmade (reply.Exchange v message) h unnamed = exchanged v message e.ask (exchanges_have_a_cause s past e v message h)
  unmade (reply.Fetch v message) h unnamed = fetched v message e.ask (fetches_have_a_cause s past e v message h) unnamed
  unmade told h unnamed = refl

mapped_name : {X : Type 0} (make : X → PendingRow) (v w : Word) (o : Option X) → ((x : X) → (make x).word ≡ v) → bytes_eq v w ≡ false → is_named pending_name w (option_map make o) ≡ false
mapped_name make v w None each h = refl
mapped_name make v w (Some x) each h = ap (λ u. bytes_eq u w) (each x) ∙ h

not_started : (types : Types) (at : ℕ) (past : RpPast) (v w : Word) (asked : RpAsk) (waits : Stage) → bytes_eq v w ≡ false → is_named pending_name w (started_by types at past asked v waits) ≡ false
not_started types at past v w asked waits h = mapped_name (pending_started types at asked v waits) v w (login_of past (state_named asked)) (λ x. refl) h

not_fetched : (types : Types) (at : ℕ) (past : RpPast) (held : List PendingRow) (v w : Word) (asked : RpAsk) → bytes_eq v w ≡ false → is_named pending_name w (fetched_by types at past held v asked) ≡ false
not_fetched types at past held v w (ask.Tokens answered came id) h =
    mapped_name (pending_followed types at (ask.Tokens answered came id) v) v w (option_and_then (if_stage stage.Tokens) (row_of pending_name answered held)) (λ x. refl) h
not_fetched types at past held v w asked h = not_started types at past v w asked stage.Info h

not_sent : (types : Types) (at : ℕ) (past : RpPast) (held : List PendingRow) (w : Word) (asked : RpAsk) (told : RpReply) → is_word (waits_under told) w ≡ false → is_named pending_name w (pending_by types at past held asked told) ≡ false
not_sent types at past held w asked (reply.Exchange v message) h = not_started types at past v w asked stage.Tokens h
not_sent types at past held w asked (reply.Fetch v message) h = not_fetched types at past held v w asked h
not_sent types at past held w asked told h = refl

answers_other : (asked : RpAsk) (row : PendingRow) → is_word (exchange_named asked) row.word ≡ false → is_answered (answer_named asked) row ≡ false
answers_other (ask.Tokens answered came id) row h = ap (λ b. b && is_stage stage.Tokens row.stage) h
answers_other (ask.Info answered came) row h = ap (λ b. b && is_stage stage.Info row.stage) h
answers_other asked row h = refl

module _ (s : PartySetup) (w : Word) where
  abbrev types : Types
  types = (party_of s).types

  none_waits : (past : RpPast) (p : RpPair) → IsLegalRp s (p ∷ past) → Spares w p → is_named pending_name w (pending_by types p.entry.at past (pendings types past) p.entry.ask p.reply) ≡ false
  none_waits past p legal spares =
      not_sent types p.entry.at past (pendings types past) w p.entry.ask p.reply
      (unmade s past p.entry w (other_bytes (fresh_word p.entry.fresh 0) w (spares.undrawn 0 (omega arith))) p.reply (sym legal.3) spares.no_exchange)

  pending_left : (past : RpPast) (p : RpPair) (row : PendingRow) → Spares w p → pending_name row ≡ w → pending_kept past p row ≡ Some row
  pending_left past p row spares named =
      let W : Word → Bool = λ v. is_word (exchange_named p.entry.ask) v in
      ap (λ b. cond (b && ends_pending p.reply) None (Some row)) (answers_other p.entry.ask row (ap W named ∙ spares.no_exchange))

  pub pending_persists : (later past : RpPast) (row : PendingRow) → IsLegalRp s (later ++ past) → AllByRecursion (Spares w) later → row_of pending_name w (pendings types past) ≡ Some row
      → row_of pending_name w (pendings types (later ++ past)) ≡ Some row
  pending_persists later past row legal spared there =
      stays pending_name (pending_made types) pending_kept pending_names (IsLegalRp s) (λ p q l. l.0) (λ p. Spares w p) w row
      none_waits (λ q p l z named. pending_left q p row z named) later past legal spared there
