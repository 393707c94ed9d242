-- The refusal `Full` comes if and only if a row that the reply would make has no place in its table.
use Rattle.std.proofs.Common.{◌≡◌, ℕ, Bool, true, false, cond, List, Option, Some, Ok, refl, sym, ◌∙◌, ap, subst, ◌⊎◌, inl, inr}
use Rattle.sso_base.specs.Words.{Word, Text, fresh_word}
use Rattle.sso_base.specs.declared.history.Entry.{Entry}
use Rattle.sso_base.specs.declared.message.Message.{Message}
use Rattle.held_rows.specs.Held.{most_rows, is_full}
use Rattle.held_rows.proofs.Places.{no_place, full_by}
use Rattle.rp_login.specs.declared.rows.PendingRow.{PendingRow}
use Rattle.rp_login.specs.declared.table.RpTable.{RpTable}
use Rattle.rp_login.specs.declared.table.RpTable.TheVariants as table
use Rattle.rp_login.specs.Rows.{login_name, pending_name, visit_name, seen_name}
use Rattle.rp_exchange.specs.declared.ask.RpAsk.{RpAsk}
use Rattle.rp_exchange.specs.declared.ask.RpAsk.TheVariants as ask
use Rattle.rp_exchange.specs.declared.no.RpNo.TheVariants as no
use Rattle.rp_exchange.specs.declared.reply.RpReply.{RpReply}
use Rattle.rp_exchange.specs.declared.reply.RpReply.TheVariants.{Ask, Exchange, Fetch, Entered, Ended, Refused, NotHere}
use Rattle.rp_exchange.specs.Asks.{is_prepared}
use Rattle.rp_answer.specs.Past.{RpPast}
use Rattle.rp_answer.specs.Setup.{PartySetup, party_of}
use Rattle.rp_answer.specs.Logins.{live_logins}
use Rattle.rp_answer.specs.Pendings.{live_pendings}
use Rattle.rp_answer.specs.Visits.{live_visits}
use Rattle.rp_answer.specs.Seens.{live_seens}
use Rattle.rp_answer.specs.Room.{if_full, beside_answered, seen_lacking, table_lacking, unless_lacking}
use Rattle.rp_answer.specs.Answering.{rp_told, rp_answer}
use Rattle.rp_answer.specs.Causes.{ExchangeCause, MayEnter}
use Rattle.rp_answer.specs.FullTables.{LacksPlace, FullCause}
use Rattle.rp_answer.proofs.Stood.{full_or_replied}
use Rattle.rp_answer.proofs.Caused.{ToldCaused}
use Rattle.rp_answer.proofs.Answers.{told_caused}

-- a table that lacks room is this one, and is full
lacks : (this found : RpTable) (full : Bool) → if_full this full ≡ Some found → (this ≡ found) × (full ≡ true)
lacks this found true h = (cc, refl)
lacks this found false h = cc

module _ (s : PartySetup) (past : RpPast) (e : Entry RpAsk) where
  abbrev lacking : RpReply → Option RpTable
  lacking told = table_lacking (party_of s).types past e told

  abbrev Lacks : RpReply → RpTable → Type 0
  Lacks told found = LacksPlace (party_of s).types past e told found

  abbrev rows_pending : List PendingRow
  rows_pending = live_pendings (party_of s).types past e.at

  -- ---- what the replies that make a row are to

  caused : (told : RpReply) → is_prepared e.ask ≡ true → rp_told s past e e.ask ≡ told → ToldCaused s past e e.ask told
  caused told prepared h = let C : RpReply → Type 0 = ToldCaused s past e e.ask in subst C h (told_caused s past e e.ask prepared)

  -- a code is exchanged on an authorization response, which ends no exchange
  none_answered : (asked : RpAsk) (w : Word) (message : Message) → ExchangeCause s past e asked w message → beside_answered asked rows_pending ≡ rows_pending
  none_answered (ask.Callback heard id browser) w message cause = refl
  none_answered other w message cause = absurd cause

  -- the word of a session is drawn
  enters_drawn : (asked : RpAsk) (w : Word) (sub : Text) → MayEnter s past e asked w sub → w ≡ fresh_word e.fresh 1
  enters_drawn (ask.Callback (Ok heard) id browser) w sub cause = sym cause.drawn
  enters_drawn (ask.Tokens pending (Ok came) id) w sub cause = sym cause.drawn
  enters_drawn (ask.Info pending (Ok came)) w sub cause = sym cause.drawn
  enters_drawn other w sub cause = absurd cause

  -- ---- a table that lacks room for a reply lacks a place for its row

  seen_place : (asked : RpAsk) (count : ℕ) (found : RpTable) → e.ask ≡ asked → seen_lacking past e asked ≡ Some found → Lacks (Ended count) found
  seen_place (ask.Logout (Ok claims)) count found is h =
      let full = lacks table.Seen found (is_full most_rows seen_name claims.jti (live_seens past e.at)) h in
      let L : RpTable → Type 0 = λ t. Lacks (Ended count) t in
      subst L full.0 (record { claims = claims; asked = is; count = count; accepted = refl; full = no_place seen_name claims.jti (live_seens past e.at) full.1 })
  seen_place asked count found is h = cc

  pub lacks_place : (told : RpReply) (found : RpTable) → is_prepared e.ask ≡ true → rp_told s past e e.ask ≡ told → lacking told ≡ Some found → Lacks told found
  lacks_place (Ask to browser) found prepared is h =
      let full = lacks table.Logins found (is_full most_rows login_name (fresh_word e.fresh 1) (live_logins past e.at)) h in
      let L : RpTable → Type 0 = λ t. Lacks (Ask to browser) t in
      subst L full.0 (record { to = to; browser = browser; begins = refl; full = no_place login_name (fresh_word e.fresh 1) (live_logins past e.at) full.1 })
  lacks_place (Exchange w message) found prepared is h =
      let full = lacks table.Pendings found (is_full most_rows pending_name w rows_pending) h in
      let F : List PendingRow → Bool = λ rows. is_full most_rows pending_name w rows in
      let beside = none_answered e.ask w message (caused (Exchange w message) prepared is) in
      let L : RpTable → Type 0 = λ t. Lacks (Exchange w message) t in
      subst L full.0 (record { word = w; message = message; sent = inl refl; full = no_place pending_name w (beside_answered e.ask rows_pending) (ap F beside ∙ full.1) })
  lacks_place (Fetch w message) found prepared is h =
      let full = lacks table.Pendings found (is_full most_rows pending_name w (beside_answered e.ask rows_pending)) h in
      let L : RpTable → Type 0 = λ t. Lacks (Fetch w message) t in
      subst L full.0 (record { word = w; message = message; sent = inr refl; full = no_place pending_name w (beside_answered e.ask rows_pending) full.1 })
  lacks_place (Entered w sub) found prepared is h =
      let rows = live_visits (party_of s).types past e.at in
      let full = lacks table.Sessions found (is_full most_rows visit_name w rows) h in
      let drawn = enters_drawn e.ask w sub (caused (Entered w sub) prepared is).enters in
      let N : Word → RpReply = λ v. Entered v sub in
      let F : Word → Bool = λ v. is_full most_rows visit_name v rows in
      let L : RpTable → Type 0 = λ t. Lacks (Entered w sub) t in
      subst L full.0 (record { sub = sub; enters = ap N drawn; full = no_place visit_name (fresh_word e.fresh 1) rows (ap F (sym drawn) ∙ full.1) })
  lacks_place (Ended count) found prepared is h = seen_place e.ask count found refl h
  lacks_place told found prepared is h = cc

  -- ---- and the other way round

  pub place_lacks : (told : RpReply) (found : RpTable) → is_prepared e.ask ≡ true → rp_told s past e e.ask ≡ told → Lacks told found → lacking told ≡ Some found
  place_lacks told table.Logins prepared is none =
      let F : Bool → Option RpTable = λ b. if_full table.Logins b in
      ap lacking none.begins ∙ ap F (full_by login_name (fresh_word e.fresh 1) (live_logins past e.at) none.full)
  place_lacks told table.Pendings prepared is none =
      let F : Bool → Option RpTable = λ b. if_full table.Pendings b in
      let full = full_by pending_name none.word (beside_answered e.ask rows_pending) none.full in
      elim none.sent [
        | inl sent ↦
            (let R : List PendingRow → Bool = λ rows. is_full most_rows pending_name none.word rows in
            let beside = none_answered e.ask none.word none.message (caused (Exchange none.word none.message) prepared (is ∙ sent)) in
            ap lacking sent ∙ ap F (ap R (sym beside) ∙ full))
        | inr sent ↦ ap lacking sent ∙ ap F full
      ]
  place_lacks told table.Sessions prepared is none =
      let F : Bool → Option RpTable = λ b. if_full table.Sessions b in
      ap lacking none.enters ∙ ap F (full_by visit_name (fresh_word e.fresh 1) (live_visits (party_of s).types past e.at) none.full)
  place_lacks told table.Seen prepared is none =
      let A : RpAsk → Option RpTable = λ a. seen_lacking past e a in
      let F : Bool → Option RpTable = λ b. if_full table.Seen b in
      ap lacking none.accepted ∙ (ap A none.asked ∙ ap F (full_by seen_name none.claims.jti (live_seens past e.at) none.full))

  -- ---- the refusal Full

  -- a reply without regard to room is never Full
  lacks_room : (found : RpTable) → is_prepared e.ask ≡ true
      → (lacking (rp_told s past e e.ask) ≡ Some found) ⊎ (rp_told s past e e.ask ≡ Refused (no.Full found)) → lacking (rp_told s past e e.ask) ≡ Some found
  lacks_room found prepared (inl h) = h
  lacks_room found prepared (inr h) = absurd (caused (Refused (no.Full found)) prepared h)

  pub full_lacks : (found : RpTable) → rp_answer s past e ≡ Refused (no.Full found) → (is_prepared e.ask ≡ true) × (lacking (rp_told s past e e.ask) ≡ Some found)
  full_lacks found h = let told = full_or_replied s past e found h in (told.0, lacks_room found told.0 told.1)

  pub full_has_a_cause : (found : RpTable) → rp_answer s past e ≡ Refused (no.Full found) → FullCause s past e found
  full_has_a_cause found h =
      let told = full_lacks found h in
      record { prepared = told.0; no_place = lacks_place (rp_told s past e e.ask) found told.0 refl told.1 }

  pub cause_makes_full : (found : RpTable) → FullCause s past e found → rp_answer s past e ≡ Refused (no.Full found)
  unfolding rp_answer
  cause_makes_full found cause =
      let told : RpReply = rp_told s past e e.ask in
      let P : Bool → RpReply = λ b. cond b (unless_lacking told (lacking told)) NotHere in
      let U : Option RpTable → RpReply = λ o. unless_lacking told o in
      ap P cause.prepared ∙ ap U (place_lacks told found cause.prepared refl cause.no_place)
