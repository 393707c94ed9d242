-- What no pair changes in a row that it keeps.
use Rattle.std.proofs.Common.{◌≡◌, Bool, true, false, not, ◌&&◌, cond, List, Some, None, refl, sym, ◌∙◌, ap}
use Rattle.sso_base.specs.Words.{is_word}
use Rattle.code_grant.specs.declared.rows.TurnRow.{TurnRow}
use Rattle.code_grant.specs.declared.rows.SessionRow.{SessionRow}
use Rattle.code_grant.specs.declared.rows.CodeRow.{CodeRow}
use Rattle.code_grant.specs.declared.rows.TokenRow.{TokenRow}
use Rattle.code_grant.specs.Rows.{turn_begun, session_begun, code_begun, access_begun}
use Rattle.op_exchange.specs.declared.ask.OpAsk.{OpAsk}
use Rattle.op_exchange.specs.declared.ask.OpAsk.TheVariants as ask
use Rattle.op_exchange.specs.declared.reply.OpReply.{OpReply}
use Rattle.op_exchange.specs.declared.reply.OpReply.TheVariants as reply
use Rattle.op_exchange.specs.Replied.{ends_turn}
use Rattle.op_answer.specs.Past.{OpPair, OpPast}
use Rattle.op_answer.specs.Turns.{turn_named, turn_taken, turn_kept}
use Rattle.op_answer.specs.Sessions.{ends_session, session_used, and_client, client_answered, session_kept}
use Rattle.op_answer.specs.Codes.{code_named, is_tokens, found_spent, code_kept}
use Rattle.op_answer.specs.AccessTokens.{is_for_code, access_kept}
use Rattle.op_answer.proofs.KeptNames.{some_same}

module _ {R X : Type 0} (f : R → X) where
  dropped_keeps : (b : Bool) (row after : R) → cond b None (Some row) ≡ Some after → f after ≡ f row
  dropped_keeps true row after h = cc
  dropped_keeps false row after h = ap f (sym (some_same row after h))

  changed_keeps : (b : Bool) (row changed after : R) → f changed ≡ f row → cond b (Some changed) (Some row) ≡ Some after → f after ≡ f row
  changed_keeps true row changed after e h = ap f (sym (some_same changed after h)) ∙ e
  changed_keeps false row changed after e h = ap f (sym (some_same row after h))

  taken_keeps : (other ends : Bool) (row taken after : R) → f taken ≡ f row → cond other (Some row) (cond ends None (Some taken)) ≡ Some after → f after ≡ f row
  taken_keeps true ends row taken after e h = ap f (sym (some_same row after h))
  taken_keeps false true row taken after e h = cc
  taken_keeps false false row taken after e h = ap f (sym (some_same taken after h)) ∙ e

  used_keeps : (ends uses : Bool) (row used after : R) → f used ≡ f row → cond ends None (cond uses (Some used) (Some row)) ≡ Some after → f after ≡ f row
  used_keeps true uses row used after e h = cc
  used_keeps false uses row used after e h = changed_keeps uses row used after e h

-- whatever of a turn is neither its session nor whether the user logged in
pub turn_keeps : {X : Type 0} (f : TurnRow → X) → ((asked : OpAsk) (told : OpReply) (row : TurnRow) → f (turn_taken asked told row) ≡ f row)
    → (past : OpPast) (p : OpPair) (row after : TurnRow) → turn_kept past p row ≡ Some after → f after ≡ f row
turn_keeps f same past p row after h =
    taken_keeps f (not (is_word (turn_named p.entry.ask) row.word)) (ends_turn p.reply) row (turn_taken p.entry.ask p.reply row) after (same p.entry.ask p.reply row) h

taken_begun : (asked : OpAsk) (told : OpReply) (row : TurnRow) → turn_begun (turn_taken asked told row) ≡ turn_begun row
taken_begun (ask.Login turn signed b presented) (reply.ConsentPage w browser (Some session) client scopes) row = refl
taken_begun asked told row = refl

taken_client : (asked : OpAsk) (told : OpReply) (row : TurnRow) → (turn_taken asked told row).wish ≡ row.wish
taken_client (ask.Login turn signed b presented) (reply.ConsentPage w browser (Some session) client scopes) row = refl
taken_client asked told row = refl

pub turn_begun_kept : (past : OpPast) (p : OpPair) (row after : TurnRow) → turn_kept past p row ≡ Some after → turn_begun after ≡ turn_begun row
turn_begun_kept past p row after h = turn_keeps turn_begun taken_begun past p row after h

pub turn_wish_kept : (past : OpPast) (p : OpPair) (row after : TurnRow) → turn_kept past p row ≡ Some after → after.wish ≡ row.wish
turn_wish_kept past p row after h = turn_keeps (λ (r : TurnRow). r.wish) taken_client past p row after h

-- whatever of a session is not its clients
pub session_keeps : {X : Type 0} (f : SessionRow → X) → ((row : SessionRow) (clients : List Bool) → f (record row { clients = clients }) ≡ f row)
    → (past : OpPast) (p : OpPair) (row after : SessionRow) → session_kept past p row ≡ Some after → f after ≡ f row
session_keeps f same past p row after h =
    used_keeps f (ends_session p.entry.ask p.reply row.word) (is_word (session_used past p.entry.ask p.reply) row.word) row
    (record row { clients = and_client (client_answered past p) row.clients }) after (same row (and_client (client_answered past p) row.clients)) h

pub session_begun_kept : (past : OpPast) (p : OpPair) (row after : SessionRow) → session_kept past p row ≡ Some after → session_begun after ≡ session_begun row
session_begun_kept past p row after h = session_keeps session_begun (λ row clients. refl) past p row after h

pub session_user_kept : (past : OpPast) (p : OpPair) (row after : SessionRow) → session_kept past p row ≡ Some after → after.user ≡ row.user
session_user_kept past p row after h = session_keeps (λ (r : SessionRow). r.user) (λ row clients. refl) past p row after h

-- whatever of a code is not whether it is spent
pub code_keeps : {X : Type 0} (f : CodeRow → X) → ((row : CodeRow) (spent : Bool) → f (record row { spent = spent }) ≡ f row)
    → (past : OpPast) (p : OpPair) (row after : CodeRow) → code_kept past p row ≡ Some after → f after ≡ f row
code_keeps f same past p row after h =
    changed_keeps f (is_word (code_named p.entry.ask) row.word && is_tokens p.reply) row (record row { spent = true }) after (same row true) h

pub code_begun_kept : (past : OpPast) (p : OpPair) (row after : CodeRow) → code_kept past p row ≡ Some after → code_begun after ≡ code_begun row
code_begun_kept past p row after h = code_keeps code_begun (λ row spent. refl) past p row after h

-- an access token is kept as it is
pub access_keeps : {X : Type 0} (f : TokenRow → X) (past : OpPast) (p : OpPair) (row after : TokenRow) → access_kept past p row ≡ Some after → f after ≡ f row
access_keeps f past p row after h =
    dropped_keeps f (is_for_code row.code (code_named p.entry.ask) && found_spent past p.entry.at p.entry.ask) row after h

pub access_begun_kept : (past : OpPast) (p : OpPair) (row after : TokenRow) → access_kept past p row ≡ Some after → access_begun after ≡ access_begun row
access_begun_kept past p row after h = access_keeps access_begun past p row after h
