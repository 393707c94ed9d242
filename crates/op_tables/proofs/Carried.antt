-- The agreement of the tables with the past is carried by one more pair.
use Rattle.std.proofs.Common.{◌≡◌, ◌≤◌, ℕ, false, List, ◌∷◌, length, Option, Some, None, Ok, sym, ◌∙◌, ap}
use Rattle.sso_base.specs.Words.{Word, word_of_text}
use Rattle.oidc_words.specs.declared.scopes.Scopes.{Scopes}
use Rattle.oidc_words.specs.Scopes.{joined}
use Rattle.auth_request.specs.declared.wish.Wish.{Wish}
use Rattle.auth_request.specs.declared.wish.Verdict.TheVariants as verdict
use Rattle.code_grant.specs.declared.rows.TurnRow.{TurnRow}
use Rattle.code_grant.specs.declared.rows.SessionRow.{SessionRow}
use Rattle.code_grant.specs.declared.rows.CodeRow.{CodeRow}
use Rattle.code_grant.specs.declared.rows.TokenRow.{TokenRow}
use Rattle.code_grant.specs.Rows.{turn_name, turn_begun, session_name, session_begun, code_name, code_begun, access_name, access_begun}
use Rattle.oidc_words.specs.Lives.{turn_life, session_life, code_life, access_life}
use Rattle.code_grant.specs.Tables.{Tables}
use Rattle.op_exchange.specs.declared.ask.OpAsk.{OpAsk}
use Rattle.op_exchange.specs.declared.ask.OpAsk.TheVariants as ask
use Rattle.op_exchange.specs.declared.reply.OpReply.{OpReply}
use Rattle.op_exchange.specs.declared.reply.OpReply.TheVariants as reply
use Rattle.op_exchange.specs.Replied.{code_in}
use Rattle.op_answer.specs.Past.{OpPair, OpPast}
use Rattle.op_answer.specs.Turns.{turns, turn_started, turn_made, turn_kept}
use Rattle.op_answer.specs.Sessions.{sessions, session_set, signed_user, session_by, live_in, session_used, session_made_by, session_made, session_kept, session_of, wish_by}
use Rattle.op_answer.specs.Codes.{codes_issued, code_issued, code_made_by, code_made, code_kept, code_of}
use Rattle.op_answer.specs.AccessTokens.{accesses, access_issued, access_answered, access_redeemed, access_given, access_made, access_kept}
use Rattle.op_answer.specs.Consents.{granted_by, turn_agreed}
use Rattle.op_tables.specs.Agreeing.{Agrees, IsBegun}
use Rattle.op_tables.specs.Keeping.{IsUpdate}
use Rattle.op_answer.proofs.KeptNames.{some_same}
use Rattle.op_answer.proofs.KeptRows.{turn_begun_kept, session_begun_kept, code_begun_kept, access_begun_kept}
use Rattle.held_rows.proofs.Added.{rows_carried, begun_carried}

-- ---- what a pair makes begins at its moment

started_begun : (at : ℕ) (asked : OpAsk) (told : OpReply) (row : TurnRow) → turn_started at asked told ≡ Some row → turn_begun row ≡ at
started_begun at (ask.Authorize (verdict.Grant wish) b session) (reply.LoginPage w browser again) row h =
    let made : TurnRow = record { word = w; browser = browser; wish = wish; session = None; in_turn = false; begun = at } in
    ap turn_begun (sym (some_same made row h))
started_begun at (ask.Authorize (verdict.Grant wish) b session) (reply.ConsentPage w browser given client scopes) row h =
    let made : TurnRow = record { word = w; browser = browser; wish = wish; session = session; in_turn = false; begun = at } in
    ap turn_begun (sym (some_same made row h))
started_begun at asked told row h = cc

pub turn_made_begun : (held : List TurnRow) (past : OpPast) (p : OpPair) (row : TurnRow) → turn_made held past p ≡ Some row → turn_begun row ≡ p.entry.at
turn_made_begun held past p row h = started_begun p.entry.at p.entry.ask p.reply row h

set_begun : (held : List SessionRow) (past : OpPast) (p : OpPair) (w : Option Word) (user : Option ℕ) (row : SessionRow) → session_made_by held past p w user ≡ Some row → session_begun row ≡ p.entry.at
set_begun held past p (Some w) (Some user) row h = ap session_begun (sym (some_same (session_by past p (live_in p.entry.at w held) w user) row h))
set_begun held past p (Some w) None row h = cc
set_begun held past p None user row h = cc

pub session_made_begun : (held : List SessionRow) (past : OpPast) (p : OpPair) (row : SessionRow) → session_made held past p ≡ Some row → session_begun row ≡ p.entry.at
session_made_begun held past p row h = set_begun held past p (session_set p.entry.ask p.reply) (signed_user p.entry.ask) row h

code_by_begun : (by at : ℕ) (w : Option Word) (wish : Option Wish) (session : Option SessionRow) (row : CodeRow) → code_made_by by at w wish session ≡ Some row → code_begun row ≡ at
code_by_begun by at (Some w) (Some wish) (Some session) row h = ap code_begun (sym (some_same (code_issued by at w wish session) row h))
code_by_begun by at (Some w) (Some wish) None row h = cc
code_by_begun by at (Some w) None session row h = cc
code_by_begun by at None wish session row h = cc

pub code_made_begun : (held : List CodeRow) (past : OpPast) (p : OpPair) (row : CodeRow) → code_made held past p ≡ Some row → code_begun row ≡ p.entry.at
code_made_begun held past p row h =
    let at : ℕ = p.entry.at in
    let w : Option Word = code_in p.reply in
    let wish : Option Wish = wish_by past p.entry.ask in
    let session : Option SessionRow = session_of (p ∷ past) (session_used past p.entry.ask p.reply) in
    code_by_begun (length past) at w wish session row h

answered_begun : (by at : ℕ) (w : Option Word) (wish : Option Wish) (session : Option SessionRow) (row : TokenRow) → access_answered by at w wish session ≡ Some row → access_begun row ≡ at
answered_begun by at (Some w) (Some wish) (Some session) row h = ap access_begun (sym (some_same (access_issued by at w None wish session.user) row h))
answered_begun by at (Some w) (Some wish) None row h = cc
answered_begun by at (Some w) None session row h = cc
answered_begun by at None wish session row h = cc

redeemed_begun : (by at : ℕ) (w : Word) (code : Option CodeRow) (row : TokenRow) → access_redeemed by at w code ≡ Some row → access_begun row ≡ at
redeemed_begun by at w None row h = cc
redeemed_begun by at w (Some code) row h = ap access_begun (sym (some_same (access_issued by at w (Some code.word) code.wish code.user) row h))

given_begun : (past : OpPast) (p : OpPair) (asked : OpAsk) (told : OpReply) (row : TokenRow) → access_given past p asked told ≡ Some row → access_begun row ≡ p.entry.at
given_begun past p (ask.Token (Ok grant)) (reply.Tokens w id) row h = redeemed_begun (length past) p.entry.at w (code_of past (word_of_text grant.code)) row h
given_begun past p asked (reply.Answered answer given) row h =
    answered_begun (length past) p.entry.at answer.access (wish_by past asked) (session_of (p ∷ past) (session_used past asked (reply.Answered answer given))) row h
given_begun past p asked told row h = cc

pub access_made_begun : (held : List TokenRow) (past : OpPast) (p : OpPair) (row : TokenRow) → access_made held past p ≡ Some row → access_begun row ≡ p.entry.at
access_made_begun held past p row h = given_begun past p p.entry.ask p.reply row h

-- ---- one more pair

pub agrees_carried : (t u : Tables) (past : OpPast) (p : OpPair) (before : ℕ) → before ≤ p.entry.at → Agrees t past before → IsUpdate t u past p → Agrees u (p ∷ past) p.entry.at
agrees_carried t u past p before order agrees follows =
    let at : ℕ = p.entry.at in
    let one = rows_carried turn_name turn_life turn_begun before at (turn_kept past p) (turn_made (turns past) past p) t.turns u.turns order (turn_begun_kept past p) (turns past) agrees.turns follows.turns_are in
    let two =
    rows_carried session_name session_life session_begun before at (session_kept past p) (session_made (sessions past) past p) t.sessions u.sessions order (session_begun_kept past p) (sessions past)
    agrees.sessions follows.sessions_are in
    let three =
    rows_carried code_name code_life code_begun before at (code_kept past p) (code_made (codes_issued past) past p) t.codes u.codes order (code_begun_kept past p) (codes_issued past) agrees.codes
    follows.codes_are in
    let four =
    rows_carried access_name access_life access_begun before at (access_kept past p) (access_made (accesses past) past p) t.tokens u.tokens order (access_begun_kept past p) (accesses past) agrees.tokens
    follows.tokens_are in
    record {
      turns = one;
      sessions = two;
      codes = three;
      tokens = four;
      granted = λ user client low few.
          let J : Scopes → Scopes = λ s. joined s (granted_by past user client (turn_agreed past p.entry.ask p.reply)) in
          follows.grants_are user client low few ∙ ap J (agrees.granted user client low few);
    }

pub is_begun_carried : (t u : Tables) (past : OpPast) (p : OpPair) (before : ℕ) → before ≤ p.entry.at → IsBegun t before → IsUpdate t u past p → IsBegun u p.entry.at
is_begun_carried t u past p before order low follows =
    let at : ℕ = p.entry.at in
    let one =
    begun_carried turn_name turn_life turn_begun before at (turn_kept past p) (turn_made (turns past) past p) t.turns u.turns order (turn_begun_kept past p) (turn_made_begun (turns past) past p) low.turns
    follows.turns_are in
    let two =
    begun_carried session_name session_life session_begun before at (session_kept past p) (session_made (sessions past) past p) t.sessions u.sessions order (session_begun_kept past p)
    (session_made_begun (sessions past) past p) low.sessions follows.sessions_are in
    let three =
    begun_carried code_name code_life code_begun before at (code_kept past p) (code_made (codes_issued past) past p) t.codes u.codes order (code_begun_kept past p) (code_made_begun (codes_issued past) past p)
    low.codes follows.codes_are in
    let four =
    begun_carried access_name access_life access_begun before at (access_kept past p) (access_made (accesses past) past p) t.tokens u.tokens order (access_begun_kept past p)
    (access_made_begun (accesses past) past p) low.tokens follows.tokens_are in
    record { turns = one; sessions = two; codes = three; tokens = four }
