-- No pair changes the name of a row that it keeps.
use Rattle.std.proofs.Common.{◌≡◌, Bool, true, false, not, ◌&&◌, cond, Option, Some, None, unwrap_or, refl, sym, ◌∙◌, ap}
use Rattle.sso_base.specs.Words.{Word, is_word}
use Rattle.sso_base.specs.Stands.{KeepsNames}
use Rattle.code_grant.specs.declared.rows.TurnRow.{TurnRow}
use Rattle.code_grant.specs.declared.rows.SessionRow.{SessionRow}
use Rattle.code_grant.specs.Rows.{turn_name, session_name, code_name, access_name}
use Rattle.op_exchange.specs.declared.ask.OpAsk.{OpAsk}
use Rattle.op_exchange.specs.declared.ask.OpAsk.TheVariants.{Login}
use Rattle.op_exchange.specs.declared.reply.OpReply.{OpReply}
use Rattle.op_exchange.specs.declared.reply.OpReply.TheVariants.{ConsentPage}
use Rattle.op_answer.specs.Turns.{turn_kept, turn_taken, turn_named}
use Rattle.op_exchange.specs.Replied.{ends_turn}
use Rattle.op_answer.specs.Sessions.{session_kept, ends_session, session_used, and_client, client_answered}
use Rattle.op_answer.specs.Codes.{code_kept, code_named, is_tokens, found_spent}
use Rattle.op_answer.specs.AccessTokens.{access_kept, is_for_code}

-- what is inside
pub some_same : {R : Type 0} (r s : R) → Some r ≡ Some s → r ≡ s
some_same {R} r s h = let U : Option R → R = λ o. unwrap_or o r in ap U h

-- a row is kept as it is or dropped
dropped_names : {R : Type 0} (name : R → Word) (b : Bool) (row after : R) → cond b None (Some row) ≡ Some after → name after ≡ name row
dropped_names name true row after h = cc
dropped_names name false row after h = ap name (sym (some_same row after h))

-- a row is changed or kept as it is
changed_names : {R : Type 0} (name : R → Word) (b : Bool) (row changed after : R) → name changed ≡ name row → cond b (Some changed) (Some row) ≡ Some after → name after ≡ name row
changed_names name true row changed after e h = ap name (sym (some_same changed after h)) ∙ e
changed_names name false row changed after e h = ap name (sym (some_same row after h))

turn_taken_word : (asked : OpAsk) (reply : OpReply) (row : TurnRow) → (turn_taken asked reply row).word ≡ row.word
turn_taken_word (Login turn signed b presented) (ConsentPage w browser (Some session) client scopes) row = refl
turn_taken_word asked reply row = refl

turn_names_by : (other ends : Bool) (row taken after : TurnRow) → taken.word ≡ row.word → cond other (Some row) (cond ends None (Some taken)) ≡ Some after → after.word ≡ row.word
turn_names_by true ends row taken after e h = ap turn_name (sym (some_same row after h))
turn_names_by false true row taken after e h = cc
turn_names_by false false row taken after e h = ap turn_name (sym (some_same taken after h)) ∙ e

pub turn_names : KeepsNames turn_name turn_kept
turn_names past p row after h =
    turn_names_by (not (is_word (turn_named p.entry.ask) row.word)) (ends_turn p.reply) row (turn_taken p.entry.ask p.reply row) after
    (turn_taken_word p.entry.ask p.reply row) h

session_names_by : (ends uses : Bool) (row used after : SessionRow) → used.word ≡ row.word → cond ends None (cond uses (Some used) (Some row)) ≡ Some after → after.word ≡ row.word
session_names_by true uses row used after e h = cc
session_names_by false uses row used after e h = changed_names session_name uses row used after e h

pub session_names : KeepsNames session_name session_kept
session_names past p row after h =
    session_names_by (ends_session p.entry.ask p.reply row.word) (is_word (session_used past p.entry.ask p.reply) row.word) row
    (record row { clients = and_client (client_answered past p) row.clients }) after refl h

pub code_names : KeepsNames code_name code_kept
code_names past p row after h =
    changed_names code_name (is_word (code_named p.entry.ask) row.word && is_tokens p.reply) row (record row { spent = true }) after refl h

pub access_names : KeepsNames access_name access_kept
access_names past p row after h =
    dropped_names access_name (is_for_code row.code (code_named p.entry.ask) && found_spent past p.entry.at p.entry.ask) row after h
