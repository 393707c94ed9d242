-- One more pair: what agreed before it agrees after it.
use Rattle.std.proofs.Common.{◌≡◌, ◌≤◌, ℕ, ◌∷◌, List, length, Option, Some, None, option_map, option_and_then, inl, inr, sym, ap}
use Rattle.sso_base.specs.Words.{Word, Text, fresh_word}
use Rattle.id_token.specs.declared.claims.IdClaims.{IdClaims}
use Rattle.logout_token.specs.declared.claims.LogoutClaims.{LogoutClaims}
use Rattle.oidc_words.specs.declared.response_types.Types.{Types}
use Rattle.rp_login.specs.declared.rows.LoginRow.{LoginRow}
use Rattle.rp_login.specs.declared.rows.PendingRow.{PendingRow}
use Rattle.rp_login.specs.declared.rows.SessionRow.{SessionRow}
use Rattle.rp_login.specs.declared.rows.SeenRow.{SeenRow}
use Rattle.rp_login.specs.declared.rows.DeadRow.{DeadRow}
use Rattle.rp_login.specs.Rows.{login_name, login_begun, pending_name, pending_begun, visit_name, visit_begun, seen_name, seen_begun, dead_name, dead_begun}
use Rattle.oidc_words.specs.Lives.{login_life, pending_life, visit_life, seen_life}
use Rattle.rp_login.specs.Tables.{Tables}
use Rattle.rp_exchange.specs.declared.ask.RpAsk.{RpAsk}
use Rattle.rp_exchange.specs.declared.ask.RpAsk.TheVariants as ask
use Rattle.rp_exchange.specs.declared.reply.RpReply.{RpReply}
use Rattle.rp_exchange.specs.declared.reply.RpReply.TheVariants as reply
use Rattle.rp_answer.specs.Past.{RpPair, RpPast}
use Rattle.rp_answer.specs.Asked.{claims_judged, token_accepted}
use Rattle.rp_answer.specs.Logins.{logins, login_started, login_made, login_kept}
use Rattle.rp_answer.specs.Pendings.{pendings, pending_of, pending_made, pending_kept}
use Rattle.rp_answer.specs.Seens.{seens, seen_of, seen_made, seen_kept}
use Rattle.rp_answer.specs.Deads.{deads, dead_at, dead_of, dead_made, dead_kept}
use Rattle.rp_answer.specs.Visits.{visits, nonce_by, visit_of, visit_of_pending, visit_after, visit_for, visit_by, visit_made, visit_kept}
use Rattle.rp_answer.proofs.KeptNames.{some_same, login_same, pending_same, visit_same, seen_same, dead_same}
use Rattle.rp_answer.proofs.Sending.{Sent, sent}
use Rattle.held_rows.proofs.Added.{rows_carried, begun_carried}
use Rattle.rp_core.specs.Agreeing.{Agrees, IsBegun}
use Rattle.rp_core.specs.Keeping.{IsUpdate}

-- ---- a pair keeps the moment from which a row lives

pub login_begun_kept : (past : RpPast) (p : RpPair) (row after : LoginRow) → login_kept past p row ≡ Some after → login_begun after ≡ login_begun row
login_begun_kept past p row after h = ap login_begun (login_same past p row after h)

pub pending_begun_kept : (past : RpPast) (p : RpPair) (row after : PendingRow) → pending_kept past p row ≡ Some after → pending_begun after ≡ pending_begun row
pending_begun_kept past p row after h = ap pending_begun (pending_same past p row after h)

pub visit_begun_kept : (past : RpPast) (p : RpPair) (row after : SessionRow) → visit_kept past p row ≡ Some after → visit_begun after ≡ visit_begun row
visit_begun_kept past p row after h = ap visit_begun (visit_same past p row after h)

-- ---- what a pair makes begins at its moment

started_begun : (by at : ℕ) (fresh : List Word) (asked : RpAsk) (told : RpReply) (row : LoginRow) → login_started by at fresh asked told ≡ Some row → login_begun row ≡ at
started_begun by at fresh (ask.Begin presented) (reply.Ask to browser) row h =
    let made : LoginRow = record { state = fresh_word fresh 1; nonce = fresh_word fresh 2; browser = browser; begun = at; by = by } in
    ap login_begun (sym (some_same made row h))
started_begun by at fresh asked told row h = cc

pub login_made_begun : (held : List LoginRow) (past : RpPast) (p : RpPair) (row : LoginRow) → login_made held past p ≡ Some row → login_begun row ≡ p.entry.at
login_made_begun held past p row h = started_begun (length past) p.entry.at p.entry.fresh p.entry.ask p.reply row h

sent_begun : (types : Types) (at : ℕ) (past : RpPast) (held : List PendingRow) (row : PendingRow) (asked : RpAsk) (told : RpReply) → Sent types at past held row asked told → pending_begun row ≡ at
sent_begun types at past held row asked told (inl by) = ap pending_begun (sym by.made.started)
sent_begun types at past held row asked told (inr (inl by)) = ap pending_begun (sym by.made.started)
sent_begun types at past held row asked told (inr (inr by)) = ap pending_begun (sym by.made.followed)

pub pending_made_begun : (types : Types) (held : List PendingRow) (past : RpPast) (p : RpPair) (row : PendingRow) → pending_made types held past p ≡ Some row → pending_begun row ≡ p.entry.at
pending_made_begun types held past p row h = sent_begun types p.entry.at past held row p.entry.ask p.reply (sent types p.entry.at past held row p.entry.ask p.reply h)

visit_for_begun : (at : ℕ) (w nonce : Word) (claims : Option IdClaims) (row : SessionRow) → option_map (visit_of at w nonce) claims ≡ Some row → visit_begun row ≡ at
visit_for_begun at w nonce None row h = cc
visit_for_begun at w nonce (Some claims) row h = ap visit_begun (sym (some_same (visit_of at w nonce claims) row h))

visit_with_begun : (at : ℕ) (w : Word) (nonce : Option Word) (claims : Option IdClaims) (row : SessionRow) → option_and_then (λ n. option_map (visit_of at w n) claims) nonce ≡ Some row → visit_begun row ≡ at
visit_with_begun at w None claims row h = cc
visit_with_begun at w (Some nonce) claims row h = visit_for_begun at w nonce claims row h

visit_left_begun : (at : ℕ) (w : Word) (pending : PendingRow) (sub : Option Text) (row : SessionRow) → option_map (visit_of_pending at w pending) sub ≡ Some row → visit_begun row ≡ at
visit_left_begun at w pending None row h = cc
visit_left_begun at w pending (Some sub) row h = ap visit_begun (sym (some_same (visit_of_pending at w pending sub) row h))

visit_after_begun : (at : ℕ) (w : Word) (found : Option PendingRow) (row : SessionRow) → option_and_then (visit_after at w) found ≡ Some row → visit_begun row ≡ at
visit_after_begun at w None row h = cc
visit_after_begun at w (Some pending) row h = visit_left_begun at w pending pending.sub row h

visit_for_ask : (types : Types) (at : ℕ) (past : RpPast) (w : Word) (asked : RpAsk) (row : SessionRow) → visit_for types at past w asked ≡ Some row → visit_begun row ≡ at
visit_for_ask types at past w (ask.Info answered came) row h = visit_after_begun at w (pending_of types past answered) row h
visit_for_ask types at past w asked row h = visit_with_begun at w (nonce_by types past asked) (claims_judged types asked) row h

visit_by_begun : (types : Types) (at : ℕ) (past : RpPast) (asked : RpAsk) (told : RpReply) (row : SessionRow) → visit_by types at past asked told ≡ Some row → visit_begun row ≡ at
visit_by_begun types at past asked (reply.Entered w sub) row h = visit_for_ask types at past w asked row h
visit_by_begun types at past asked told row h = cc

pub visit_made_begun : (types : Types) (held : List SessionRow) (past : RpPast) (p : RpPair) (row : SessionRow) → visit_made types held past p ≡ Some row → visit_begun row ≡ p.entry.at
visit_made_begun types held past p row h = visit_by_begun types p.entry.at past p.entry.ask p.reply row h

pub seen_begun_kept : (past : RpPast) (p : RpPair) (row after : SeenRow) → seen_kept past p row ≡ Some after → seen_begun after ≡ seen_begun row
seen_begun_kept past p row after h = ap seen_begun (seen_same past p row after h)

seen_of_begun : (before at : ℕ) (claims : Option LogoutClaims) (row : SeenRow) → option_map (seen_of before at) claims ≡ Some row → seen_begun row ≡ at
seen_of_begun before at None row h = cc
seen_of_begun before at (Some claims) row h = ap seen_begun (sym (some_same (seen_of before at claims) row h))

pub seen_made_begun : (held : List SeenRow) (past : RpPast) (p : RpPair) (row : SeenRow) → seen_made held past p ≡ Some row → seen_begun row ≡ p.entry.at
seen_made_begun held past p row h = seen_of_begun (length past) p.entry.at (token_accepted p.entry.ask p.reply) row h

pub dead_begun_kept : (past : RpPast) (p : RpPair) (row after : DeadRow) → dead_kept past p row ≡ Some after → dead_begun after ≡ dead_begun row
dead_begun_kept past p row after h = ap dead_begun (dead_same past p row after h)

dead_at_begun : (before at : ℕ) (sid : Option Text) (row : DeadRow) → option_map (dead_at before at) sid ≡ Some row → dead_begun row ≡ at
dead_at_begun before at None row h = cc
dead_at_begun before at (Some sid) row h = ap dead_begun (sym (some_same (dead_at before at sid) row h))

dead_of_begun : (before at : ℕ) (claims : Option LogoutClaims) (row : DeadRow) → option_and_then (dead_of before at) claims ≡ Some row → dead_begun row ≡ at
dead_of_begun before at None row h = cc
dead_of_begun before at (Some claims) row h = dead_at_begun before at claims.sid row h

pub dead_made_begun : (held : List DeadRow) (past : RpPast) (p : RpPair) (row : DeadRow) → dead_made held past p ≡ Some row → dead_begun row ≡ p.entry.at
dead_made_begun held past p row h = dead_of_begun (length past) p.entry.at (token_accepted p.entry.ask p.reply) row h

-- ---- the tables

pub agrees_carried : (types : Types) (t u : Tables) (past : RpPast) (p : RpPair) (before : ℕ) → before ≤ p.entry.at → Agrees types t past before → IsUpdate types t u past p → Agrees types u (p ∷ past) p.entry.at
agrees_carried types t u past p before order agrees follows =
    let at : ℕ = p.entry.at in
    record {
      logins = rows_carried login_name login_life login_begun before at (login_kept past p) (login_made (logins past) past p) t.logins u.logins order (login_begun_kept past p) (logins past) agrees.logins follows.logins_are;
      pendings =
          rows_carried pending_name pending_life pending_begun before at (pending_kept past p) (pending_made types (pendings types past) past p) t.pendings u.pendings order (pending_begun_kept past p)
          (pendings types past) agrees.pendings follows.pendings_are;
      visits = rows_carried visit_name visit_life visit_begun before at (visit_kept past p) (visit_made types (visits types past) past p) t.visits u.visits order (visit_begun_kept past p) (visits types past) agrees.visits follows.visits_are;
      seens = rows_carried seen_name seen_life seen_begun before at (seen_kept past p) (seen_made (seens past) past p) t.seens u.seens order (seen_begun_kept past p) (seens past) agrees.seens follows.seens_are;
      deads = rows_carried dead_name seen_life dead_begun before at (dead_kept past p) (dead_made (deads past) past p) t.deads u.deads order (dead_begun_kept past p) (deads past) agrees.deads follows.deads_are;
    }

pub is_begun_carried : (types : Types) (t u : Tables) (past : RpPast) (p : RpPair) (before : ℕ) → before ≤ p.entry.at → IsBegun t before → IsUpdate types t u past p → IsBegun u p.entry.at
is_begun_carried types t u past p before order low follows =
    let at : ℕ = p.entry.at in
    record {
      logins =
          begun_carried login_name login_life login_begun before at (login_kept past p) (login_made (logins past) past p) t.logins u.logins order (login_begun_kept past p) (login_made_begun (logins past) past p) low.logins
          follows.logins_are;
      pendings =
          begun_carried pending_name pending_life pending_begun before at (pending_kept past p) (pending_made types (pendings types past) past p) t.pendings u.pendings order (pending_begun_kept past p)
          (pending_made_begun types (pendings types past) past p) low.pendings follows.pendings_are;
      visits =
          begun_carried visit_name visit_life visit_begun before at (visit_kept past p) (visit_made types (visits types past) past p) t.visits u.visits order (visit_begun_kept past p)
          (visit_made_begun types (visits types past) past p) low.visits follows.visits_are;
      seens =
          begun_carried seen_name seen_life seen_begun before at (seen_kept past p) (seen_made (seens past) past p) t.seens u.seens order (seen_begun_kept past p)
          (seen_made_begun (seens past) past p) low.seens follows.seens_are;
      deads =
          begun_carried dead_name seen_life dead_begun before at (dead_kept past p) (dead_made (deads past) past p) t.deads u.deads order (dead_begun_kept past p)
          (dead_made_begun (deads past) past p) low.deads follows.deads_are;
    }
