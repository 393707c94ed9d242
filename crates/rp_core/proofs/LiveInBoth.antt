-- For each table of a relying party: what lives in it at a moment is what lives after the past.
use Rattle.std.proofs.Common.{◌≡◌, ◌≤◌, ℕ, Bool, nat_lt, List, length, Option, Some, option_and_then, reverse, sym, ◌∙◌, ap, subst, arith}
use Rattle.std.specs.List.{list_any}
use Rattle.std.specs.Str.{bytes_eq}
use Rattle.sso_base.specs.Words.{Word, Text}
use Rattle.sso_base.specs.Rows.{row_of, lives, if_lives, live_rows}
use Rattle.sso_base.specs.Legal.{last_moment}
use Rattle.sso_base.proofs.RowLaws.{rows_distinct}
use Rattle.logout_token.specs.declared.claims.LogoutClaims.{LogoutClaims}
use Rattle.oidc_words.specs.declared.response_types.Types.{Types}
use Rattle.rp_login.specs.declared.rows.LoginRow.{LoginRow}
use Rattle.rp_login.specs.declared.rows.PendingRow.{PendingRow}
use Rattle.rp_login.specs.declared.rows.SessionRow.{SessionRow}
use Rattle.rp_login.specs.declared.rows.SeenRow.{SeenRow}
use Rattle.rp_login.specs.declared.rows.DeadRow.{DeadRow}
use Rattle.rp_login.specs.Rows.{login_name, login_begun, pending_name, pending_begun, visit_name, visit_begun, seen_name, seen_begun, dead_name, dead_begun}
use Rattle.oidc_words.specs.Lives.{login_life, pending_life, visit_life, seen_life}
use Rattle.held_rows.specs.Held.{most_rows, has_room_for_one}
use Rattle.rp_login.specs.Tables.{Tables, AreLogins, ArePendings, AreVisits, AreSeens, AreDeads, live_named_count}
use Rattle.rp_answer.specs.Past.{RpPair, RpPast}
use Rattle.rp_answer.specs.Setup.{PartySetup, party_of}
use Rattle.rp_answer.specs.Logins.{logins, login_made, login_kept, live_logins, live_login, has_login_browser}
use Rattle.rp_answer.specs.Pendings.{pendings, pending_made, pending_kept, live_pendings, any_live_pending}
use Rattle.rp_answer.specs.Seens.{seens, seen_made, seen_kept, live_seens, live_seen}
use Rattle.rp_answer.specs.Deads.{deads, dead_made, dead_kept, live_dead}
use Rattle.rp_answer.specs.Replies.{meant_count}
use Rattle.rp_answer.specs.Visits.{visits, visit_made, visit_kept, live_visits, live_visit}
use Rattle.rp_answer.proofs.KeptNames.{login_names, pending_names, visit_names, seen_names, dead_names}
use Rattle.rp_core.specs.Relying.{Relying, past_of}
use Rattle.rp_core.specs.Agreeing.{KeepsPast}
use Rattle.held_rows.proofs.HeldLaws.{filter_short}
use Rattle.held_rows.proofs.Found.{same_later, found_in_both, found_live}

-- the response type that the party asks for
abbrev pub types_of : Relying → Types
types_of r = (party_of r.setup).types

module _ (s : PartySetup) (history : List RpPair) (t : Tables) (keeps : KeepsPast (party_of s).types (reverse history) t) (r : Relying) (view : ◌≡◌ {A = Relying} (record { setup = s; history = history; tables = t }) r) (at : ℕ) (order : last_moment (past_of r) ≤ at) where
  past : RpPast
  past = reverse history

  types : Types
  types = (party_of s).types

  in_order : last_moment (reverse history) ≤ at
  in_order = let B : Relying → Type 0 = λ x. last_moment (past_of x) ≤ at in subst B (sym view) order

  pub logins_live : live_rows login_life login_begun at t.logins ≡ live_logins (past_of r) at
  logins_live =
      let L : Relying → List LoginRow = λ x. live_logins (past_of x) at in
      same_later login_name login_life login_begun (last_moment (reverse history)) at in_order t.logins (logins (reverse history)) keeps.agrees.logins ∙ ap L view

  pub login_live : (state : Option Word) (w : Word) → state ≡ Some w → AreLogins t.logins → option_and_then (if_lives login_life login_begun at) (row_of login_name w t.logins) ≡ live_login (past_of r) at state
  login_live state w is held =
      let L : Relying → Option LoginRow = λ x. live_login (past_of x) at (Some w) in
      let M : Option Word → Option LoginRow = λ v. live_login (past_of r) at v in
      found_in_both login_name login_life login_begun (last_moment (reverse history)) at in_order w t.logins (logins (reverse history)) held.distinct
      (rows_distinct login_name login_made login_kept login_names (reverse history)) keeps.agrees.logins
      ∙ ap L view ∙ ap M (sym is)

  pub pendings_live : live_rows pending_life pending_begun at t.pendings ≡ live_pendings (types_of r) (past_of r) at
  pendings_live =
      let L : Relying → List PendingRow = λ x. live_pendings (types_of x) (past_of x) at in
      same_later pending_name pending_life pending_begun (last_moment (reverse history)) at in_order t.pendings (pendings (party_of s).types (reverse history)) keeps.agrees.pendings ∙ ap L view

  pub pending_live : (w : Word) → ArePendings t.pendings → option_and_then (if_lives pending_life pending_begun at) (row_of pending_name w t.pendings) ≡ any_live_pending (types_of r) (past_of r) at w
  pending_live w held =
      let L : Relying → Option PendingRow = λ x. any_live_pending (types_of x) (past_of x) at w in
      found_in_both pending_name pending_life pending_begun (last_moment (reverse history)) at in_order w t.pendings (pendings (party_of s).types (reverse history)) held.distinct
      (rows_distinct pending_name (pending_made (party_of s).types) pending_kept pending_names (reverse history)) keeps.agrees.pendings
      ∙ ap L view

  -- they are at most as many as the table may hold
  pub pendings_few : ArePendings t.pendings → length (live_pendings (types_of r) (past_of r) at) ≤ most_rows
  pendings_few held =
      let L : List PendingRow → ℕ = λ rows. length rows in
      let is : length (live_rows pending_life pending_begun at t.pendings) ≡ length (live_pendings (types_of r) (past_of r) at) = ap L pendings_live in
      let fewer : length (live_rows pending_life pending_begun at t.pendings) ≤ length t.pendings = filter_short (λ (row : PendingRow). lives pending_life (pending_begun row) at) t.pendings in
      let few : length t.pendings ≤ most_rows = held.few in
      omega (arith, is, fewer, few)

  pub visits_live : live_rows visit_life visit_begun at t.visits ≡ live_visits (types_of r) (past_of r) at
  visits_live =
      let L : Relying → List SessionRow = λ x. live_visits (types_of x) (past_of x) at in
      same_later visit_name visit_life visit_begun (last_moment (reverse history)) at in_order t.visits (visits (party_of s).types (reverse history)) keeps.agrees.visits ∙ ap L view

  pub visit_live : (session : Option Word) (w : Word) → session ≡ Some w → AreVisits t.visits → option_and_then (if_lives visit_life visit_begun at) (row_of visit_name w t.visits) ≡ live_visit (types_of r) (past_of r) at session
  visit_live session w is held =
      let L : Relying → Option SessionRow = λ x. live_visit (types_of x) (past_of x) at (Some w) in
      let M : Option Word → Option SessionRow = λ v. live_visit (types_of r) (past_of r) at v in
      found_in_both visit_name visit_life visit_begun (last_moment (reverse history)) at in_order w t.visits (visits (party_of s).types (reverse history)) held.distinct
      (rows_distinct visit_name (visit_made (party_of s).types) visit_kept visit_names (reverse history)) keeps.agrees.visits
      ∙ ap L view ∙ ap M (sym is)

  pub logins_room : has_room_for_one login_life login_begun at t.logins ≡ nat_lt (length (live_logins (past_of r) at)) most_rows
  logins_room = let N : List LoginRow → Bool = λ rows. nat_lt (length rows) most_rows in ap N logins_live

  pub pendings_room : has_room_for_one pending_life pending_begun at t.pendings ≡ nat_lt (length (live_pendings (types_of r) (past_of r) at)) most_rows
  pendings_room = let N : List PendingRow → Bool = λ rows. nat_lt (length rows) most_rows in ap N pendings_live

  pub visits_room : has_room_for_one visit_life visit_begun at t.visits ≡ nat_lt (length (live_visits (types_of r) (past_of r) at)) most_rows
  visits_room = let N : List SessionRow → Bool = λ rows. nat_lt (length rows) most_rows in ap N visits_live

  pub seens_live : live_rows seen_life seen_begun at t.seens ≡ live_seens (past_of r) at
  seens_live =
      let L : Relying → List SeenRow = λ x. live_seens (past_of x) at in
      same_later seen_name seen_life seen_begun (last_moment (reverse history)) at in_order t.seens (seens (reverse history)) keeps.agrees.seens ∙ ap L view

  pub seen_live : (jti : Text) → AreSeens t.seens → option_and_then (if_lives seen_life seen_begun at) (row_of seen_name jti t.seens) ≡ live_seen (past_of r) at jti
  seen_live jti held =
      let L : Relying → Option SeenRow = λ x. live_seen (past_of x) at jti in
      found_in_both seen_name seen_life seen_begun (last_moment (reverse history)) at in_order jti t.seens (seens (reverse history)) held.distinct
      (rows_distinct seen_name seen_made seen_kept seen_names (reverse history)) keeps.agrees.seens
      ∙ ap L view

  pub seens_room : has_room_for_one seen_life seen_begun at t.seens ≡ nat_lt (length (live_seens (past_of r) at)) most_rows
  seens_room = let N : List SeenRow → Bool = λ rows. nat_lt (length rows) most_rows in ap N seens_live

  pub dead_live : (sid : Text) → AreDeads t.deads → option_and_then (if_lives seen_life dead_begun at) (row_of dead_name sid t.deads) ≡ live_dead (past_of r) at sid
  dead_live sid held =
      let L : Relying → Option DeadRow = λ x. live_dead (past_of x) at sid in
      found_in_both dead_name seen_life dead_begun (last_moment (reverse history)) at in_order sid t.deads (deads (reverse history)) held.distinct
      (rows_distinct dead_name dead_made dead_kept dead_names (reverse history)) keeps.agrees.deads
      ∙ ap L view

  -- so many sessions does a logout token name
  pub meant_live : (claims : LogoutClaims) (sub sid : Option Text) → sub ≡ claims.sub → sid ≡ claims.sid → live_named_count sub sid at t ≡ meant_count claims (live_visits (types_of r) (past_of r) at)
  meant_live claims sub sid one two =
      let A : Option Text → ℕ = λ o. live_named_count o sid at t in
      let B : Option Text → ℕ = λ o. live_named_count claims.sub o at t in
      let M : List SessionRow → ℕ = λ rows. meant_count claims rows in
      ap A one ∙ ap B two ∙ ap M visits_live

  pub browser_live : (browser : Word) → list_any (λ (login : LoginRow). bytes_eq login.browser browser) (live_rows login_life login_begun at t.logins) ≡ has_login_browser (past_of r) at browser
  browser_live browser =
      let A : List LoginRow → Bool = λ rows. list_any (λ (login : LoginRow). bytes_eq login.browser browser) rows in
      ap A logins_live

-- ---- the row of a word lives if and only if it is found among the live rows

module _ (past : RpPast) (at : ℕ) (w : Word) where
  pub login_named : live_login past at (Some w) ≡ row_of login_name w (live_logins past at)
  login_named = found_live login_name login_life login_begun at w (logins past) (rows_distinct login_name login_made login_kept login_names past)

module _ (past : RpPast) (at : ℕ) (jti : Text) where
  pub seen_named : live_seen past at jti ≡ row_of seen_name jti (live_seens past at)
  seen_named = found_live seen_name seen_life seen_begun at jti (seens past) (rows_distinct seen_name seen_made seen_kept seen_names past)

module _ (types : Types) (past : RpPast) (at : ℕ) (w : Word) where
  pub pending_named : any_live_pending types past at w ≡ row_of pending_name w (live_pendings types past at)
  pending_named = found_live pending_name pending_life pending_begun at w (pendings types past) (rows_distinct pending_name (pending_made types) pending_kept pending_names past)

  pub visit_named : live_visit types past at (Some w) ≡ row_of visit_name w (live_visits types past at)
  visit_named = found_live visit_name visit_life visit_begun at w (visits types past) (rows_distinct visit_name (visit_made types) visit_kept visit_names past)
