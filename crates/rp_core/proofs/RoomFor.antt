-- Where a row is made, there was room for it among the live rows of the past.
use Rattle.std.proofs.Common.{◌≡◌, ◌<◌, ◌≤◌, ℕ, Bool, true, false, not, ◌||◌, nat_lt, List, length, filter_map, Option, Some, None, is_some, option_map, option_and_then, Result, Ok, inl, inr, refl, sym, ◌∙◌, ap, arith}
use Rattle.std.proofs.lemmas.Bool.{lt-ltb}
use Rattle.sso_base.specs.Words.{Word, Text, fresh_word}
use Rattle.sso_base.specs.Rows.{row_of, without, lives}
use Rattle.sso_base.specs.Stands.{IsDistinct}
use Rattle.sso_base.specs.declared.message.Message.{Message}
use Rattle.sso_base.proofs.RowLaws.{rows_distinct}
use Rattle.sso_base.specs.declared.history.Entry.{Entry}
use Rattle.id_token.specs.declared.claims.IdClaims.{IdClaims}
use Rattle.id_token.specs.declared.no.IdNo.{IdNo}
use Rattle.token_endpoint.specs.declared.reading.Tokens.{Tokens}
use Rattle.token_endpoint.specs.declared.no.TokensNo.{TokensNo}
use Rattle.oidc_words.specs.declared.response_types.Types.{Types}
use Rattle.rp_login.specs.declared.rows.LoginRow.{LoginRow}
use Rattle.rp_login.specs.declared.rows.PendingRow.{PendingRow}
use Rattle.rp_login.specs.declared.rows.SessionRow.{SessionRow}
use Rattle.rp_login.specs.declared.rows.SeenRow.{SeenRow}
use Rattle.rp_login.specs.declared.rows.DeadRow.{DeadRow}
use Rattle.rp_login.specs.declared.table.RpTable.{RpTable}
use Rattle.rp_login.specs.declared.table.RpTable.TheVariants as table
use Rattle.held_rows.specs.Held.{most_rows, is_full}
use Rattle.held_rows.proofs.Added.{few_there, unnamed_there, kept_short, kept_unnamed}
use Rattle.held_rows.proofs.HeldLaws.{distinct_filter}
use Rattle.oidc_words.specs.Lives.{pending_life}
use Rattle.rp_login.specs.declared.rows.Stage.TheVariants as stage
use Rattle.rp_login.specs.Rows.{login_name, pending_name, pending_begun, visit_name, seen_name}
use Rattle.rp_exchange.specs.declared.ask.RpAsk.{RpAsk}
use Rattle.rp_exchange.specs.declared.ask.RpAsk.TheVariants as ask
use Rattle.rp_exchange.specs.declared.reply.RpReply.{RpReply}
use Rattle.rp_exchange.specs.declared.reply.RpReply.TheVariants as reply
use Rattle.rp_answer.specs.Past.{RpPair, RpPast}
use Rattle.rp_answer.specs.Setup.{PartySetup, party_of}
use Rattle.rp_answer.specs.Asked.{state_named, claims_judged}
use Rattle.rp_answer.specs.Logins.{login_started, login_of, live_logins}
use Rattle.rp_answer.specs.Pendings.{if_stage, pending_made, pending_kept, answer_named, ends_pending, pendings, pending_of, live_pendings}
use Rattle.rp_answer.specs.Seens.{seen_of, seen_by, live_seens}
use Rattle.rp_answer.specs.Deads.{dead_by}
use Rattle.rp_answer.specs.Visits.{nonce_by, visit_of, visit_of_pending, visit_after, visit_for, visit_by, live_visits}
use Rattle.rp_answer.specs.Room.{if_full, beside_answered, seen_lacking}
use Rattle.rp_answer.specs.Answering.{rp_answer}
use Rattle.rp_answer.specs.Causes.{FetchCause}
use Rattle.rp_answer.proofs.KeptNames.{some_same, pending_names}
use Rattle.rp_answer.proofs.Answers.{fetches_have_a_cause}
use Rattle.rp_answer.proofs.Sending.{Sent, sent}
use Rattle.rp_core.specs.Keeping.{is_waiting}
use Rattle.rp_core.proofs.Answered.{waiting_ends}
use Rattle.rp_core.proofs.KeptTables.{answered_rows}
use Rattle.rp_core.proofs.LiveInBoth.{pending_named}
use Rattle.rp_answer.proofs.Stood.{own_replies_stand}

not_full : (which : RpTable) (full : Bool) → if_full which full ≡ None → full ≡ false
not_full which true h = cc
not_full which false h = refl

-- the word of the row that is made

visit_word_for : (at : ℕ) (w nonce : Word) (claims : Option IdClaims) (row : SessionRow) → option_map (visit_of at w nonce) claims ≡ Some row → w ≡ visit_name row
visit_word_for at w nonce None row h = cc
visit_word_for at w nonce (Some claims) row h = ap visit_name (some_same (visit_of at w nonce claims) row h)

visit_word : (at : ℕ) (w : Word) (nonce : Option Word) (claims : Option IdClaims) (row : SessionRow) → option_and_then (λ n. option_map (visit_of at w n) claims) nonce ≡ Some row → w ≡ visit_name row
visit_word at w None claims row h = cc
visit_word at w (Some nonce) claims row h = visit_word_for at w nonce claims row h

visit_word_left : (at : ℕ) (w : Word) (pending : PendingRow) (sub : Option Text) (row : SessionRow) → option_map (visit_of_pending at w pending) sub ≡ Some row → w ≡ visit_name row
visit_word_left at w pending None row h = cc
visit_word_left at w pending (Some sub) row h = ap visit_name (some_same (visit_of_pending at w pending sub) row h)

visit_word_after : (at : ℕ) (w : Word) (found : Option PendingRow) (row : SessionRow) → option_and_then (visit_after at w) found ≡ Some row → w ≡ visit_name row
visit_word_after at w None row h = cc
visit_word_after at w (Some pending) row h = visit_word_left at w pending pending.sub row h

visit_word_by : (types : Types) (at : ℕ) (past : RpPast) (w : Word) (asked : RpAsk) (row : SessionRow) → visit_for types at past w asked ≡ Some row → w ≡ visit_name row
visit_word_by types at past w (ask.Info answered came) row h = visit_word_after at w (pending_of types past answered) row h
visit_word_by types at past w asked row h = visit_word at w (nonce_by types past asked) (claims_judged types asked) row h

-- ---- what is kept of rows has room where they have it

kept_fits : (past : RpPast) (p : RpPair) (w : Word) (rows : List PendingRow) → is_full most_rows pending_name w rows ≡ false → is_full most_rows pending_name w (filter_map (pending_kept past p) rows) ≡ false
kept_fits past p w rows room =
    let kept : List PendingRow = filter_map (pending_kept past p) rows in
    let short : length kept ≤ length rows = kept_short (pending_kept past p) rows in
    let fewer : length rows < most_rows = few_there most_rows pending_name w rows room in
    let few : nat_lt (length kept) most_rows ≡ true = lt-ltb (length kept) most_rows (omega (arith, short, fewer)) in
    let none : row_of pending_name w kept ≡ None = kept_unnamed pending_name (pending_kept past p) (pending_names past p) w rows (unnamed_there most_rows pending_name w rows room) in
    let F : Bool → Bool = λ b. not b || is_some (row_of pending_name w kept) in
    let N : Option PendingRow → Bool = λ o. is_some o in
    ap F few ∙ ap N none

-- a request of a login is beside no exchange that is answered
beside_login : (past : RpPast) (asked : RpAsk) (login : LoginRow) (rows : List PendingRow) → login_of past (state_named asked) ≡ Some login → beside_answered asked rows ≡ rows
beside_login past (ask.Tokens answered came id) login rows found = cc
beside_login past asked login rows found = refl

module _ (s : PartySetup) (past : RpPast) (p : RpPair) (answered : p.reply ≡ rp_answer s past p.entry) where
  abbrev its_types : Types
  its_types = (party_of s).types

  abbrev live : List PendingRow
  live = live_pendings its_types past p.entry.at

  -- the exchange to which UserInfo follows waits for its tokens
  fetch_waits : (asked : RpAsk) (named w : Word) (came : Result Tokens TokensNo) (id : Option (Result IdClaims IdNo)) (message : Message) → asked ≡ ask.Tokens named came id
      → FetchCause s past p.entry asked w message → is_waiting named stage.Tokens live ≡ true
  fetch_waits (ask.Tokens answer (Ok tokens) read) named w came id message is cause =
      let same : answer ≡ named = cc in
      let I : Option PendingRow → Bool = λ o. is_some (option_and_then (if_stage stage.Tokens) o) in
      let S : Option PendingRow → Bool = λ o. is_some o in
      let W : Word → Bool = λ v. is_waiting v stage.Tokens live in
      ap W (sym same) ∙ ap I (sym (pending_named its_types past p.entry.at answer)) ∙ ap S cause.live
  fetch_waits (ask.Callback heard read browser) named w came id message is cause = cc
  fetch_waits asked named w came id message is cause = absurd cause

  fits_by : (row : PendingRow) → Sent its_types p.entry.at past (pendings its_types past) row p.entry.ask p.reply
      → is_full most_rows pending_name (pending_name row) (filter_map (pending_kept past p) live) ≡ false
  fits_by row (inl by) =
      let room = (own_replies_stand s past p.entry (reply.Exchange by.w by.message) refl (sym answered ∙ by.replied)).room in
      let F : Word → Bool = λ v. is_full most_rows pending_name v (filter_map (pending_kept past p) live) in
      ap F (sym (ap pending_name by.made.started)) ∙ kept_fits past p by.w live (not_full table.Pendings (is_full most_rows pending_name by.w live) room)
  fits_by row (inr (inl by)) =
      let room = (own_replies_stand s past p.entry (reply.Fetch by.w by.message) refl (sym answered ∙ by.replied)).room in
      let F : Word → Bool = λ v. is_full most_rows pending_name v (filter_map (pending_kept past p) live) in
      let B : List PendingRow → Bool = λ rows. is_full most_rows pending_name by.w rows in
      let beside : is_full most_rows pending_name by.w live ≡ false =
      ap B (sym (beside_login past p.entry.ask by.made.login live by.made.found)) ∙ not_full table.Pendings (is_full most_rows pending_name by.w (beside_answered p.entry.ask live)) room in
      ap F (sym (ap pending_name by.made.started)) ∙ kept_fits past p by.w live beside
  fits_by row (inr (inr by)) =
      let room = (own_replies_stand s past p.entry (reply.Fetch by.w by.message) refl (sym answered ∙ by.replied)).room in
      let F : Word → Bool = λ v. is_full most_rows pending_name v (filter_map (pending_kept past p) live) in
      let B : List PendingRow → Bool = λ rows. is_full most_rows pending_name by.w rows in
      let A : RpAsk → Bool = λ a. is_full most_rows pending_name by.w (beside_answered a live) in
      let waits = fetch_waits p.entry.ask by.answered by.w by.came by.id by.message by.asked_is (fetches_have_a_cause s past p.entry by.w by.message (sym answered ∙ by.replied)) in
      let distinct : IsDistinct pending_name live =
      distinct_filter pending_name (λ (r : PendingRow). lives pending_life (pending_begun r) p.entry.at) (pendings its_types past) (rows_distinct pending_name (pending_made its_types) pending_kept pending_names past) in
      let kept : filter_map (pending_kept past p) live ≡ without pending_name by.answered live =
      answered_rows past p (by.answered, stage.Tokens) (ap answer_named by.asked_is) (ap ends_pending by.replied) live ∙ sym (waiting_ends by.answered stage.Tokens live distinct waits) in
      ap F (sym (ap pending_name by.made.followed)) ∙ ap B kept ∙ sym (ap A by.asked_is) ∙ not_full table.Pendings (is_full most_rows pending_name by.w (beside_answered p.entry.ask live)) room

  pub pending_fits : (row : PendingRow) → pending_made its_types (pendings its_types past) past p ≡ Some row
      → is_full most_rows pending_name (pending_name row) (filter_map (pending_kept past p) live) ≡ false
  pending_fits row h = fits_by row (sent its_types p.entry.at past (pendings its_types past) row p.entry.ask p.reply h)

module _ (s : PartySetup) (past : RpPast) (e : Entry RpAsk) where
  pub login_fits : (by : ℕ) (asked : RpAsk) (told : RpReply) (row : LoginRow) → told ≡ rp_answer s past e → login_started by e.at e.fresh asked told ≡ Some row
      → is_full most_rows login_name (login_name row) (live_logins past e.at) ≡ false
  login_fits by (ask.Begin presented) (reply.Ask to browser) row answered h =
      let made : LoginRow = record { state = fresh_word e.fresh 1; nonce = fresh_word e.fresh 2; browser = browser; begun = e.at; by = by } in
      let F : LoginRow → Bool = λ r. is_full most_rows login_name (login_name r) (live_logins past e.at) in
      ap F (sym (some_same made row h))
      ∙ not_full table.Logins (is_full most_rows login_name (fresh_word e.fresh 1) (live_logins past e.at)) (own_replies_stand s past e (reply.Ask to browser) refl (sym answered)).room
  login_fits by asked told row answered h = cc

  pub visit_fits : (asked : RpAsk) (told : RpReply) (row : SessionRow) → told ≡ rp_answer s past e → visit_by (party_of s).types e.at past asked told ≡ Some row
      → is_full most_rows visit_name (visit_name row) (live_visits (party_of s).types past e.at) ≡ false
  visit_fits asked (reply.Entered w sub) row answered h =
      let F : Word → Bool = λ v. is_full most_rows visit_name v (live_visits (party_of s).types past e.at) in
      ap F (sym (visit_word_by (party_of s).types e.at past w asked row h))
      ∙ not_full table.Sessions (is_full most_rows visit_name w (live_visits (party_of s).types past e.at)) (own_replies_stand s past e (reply.Entered w sub) refl (sym answered)).room
  visit_fits asked told row answered h = cc

  pub seen_fits : (before : ℕ) (asked : RpAsk) (told : RpReply) (row : SeenRow) → e.ask ≡ asked → told ≡ rp_answer s past e → seen_by before e.at asked told ≡ Some row
      → is_full most_rows seen_name (seen_name row) (live_seens past e.at) ≡ false
  seen_fits before (ask.Logout (Ok claims)) (reply.Ended count) row is answered h =
      let F : SeenRow → Bool = λ r. is_full most_rows seen_name (seen_name r) (live_seens past e.at) in
      let L : RpAsk → Option RpTable = λ a. seen_lacking past e a in
      ap F (sym (some_same (seen_of before e.at claims) row h))
      ∙ not_full table.Seen (is_full most_rows seen_name claims.jti (live_seens past e.at)) (sym (ap L is) ∙ (own_replies_stand s past e (reply.Ended count) refl (sym answered)).room)
  seen_fits before asked told row is answered h = cc

  -- a session identifier comes with a logout token, for which there is room
  pub dead_fits : (before : ℕ) (asked : RpAsk) (told : RpReply) (row : DeadRow) → e.ask ≡ asked → told ≡ rp_answer s past e → dead_by before e.at asked told ≡ Some row
      → length (live_seens past e.at) < most_rows
  dead_fits before (ask.Logout (Ok claims)) (reply.Ended count) row is answered h =
      few_there most_rows seen_name claims.jti (live_seens past e.at) (seen_fits before (ask.Logout (Ok claims)) (reply.Ended count) (seen_of before e.at claims) is answered refl)
  dead_fits before asked told row is answered h = cc
