-- The words of the rows that exist after a legal past: each was drawn for the one pair that made the row. A code has what the
-- answer with it was about, and an access token what that answer or its code was about.
use Rattle.std.specs.Prelude.{◌≡◌, ℕ, ◌∷◌, ◌++◌, length, Option, Some, None, Ok, ◌⊎◌}
use Rattle.sso_base.specs.Words.{Word, Text, fresh_word, word_of_text}
use Rattle.auth_request.specs.declared.wish.Wish.{Wish}
use Rattle.auth_request.specs.declared.wish.Verdict.TheVariants as verdict
use Rattle.auth_answer.specs.declared.answer.Answer.{Answer}
use Rattle.token_endpoint.specs.declared.granting.Grant.{Grant}
use Rattle.code_grant.specs.declared.rows.TurnRow.{TurnRow}
use Rattle.code_grant.specs.declared.rows.SessionRow.{SessionRow}
use Rattle.code_grant.specs.declared.rows.CodeRow.{CodeRow}
use Rattle.code_grant.specs.declared.rows.TokenRow.{TokenRow}
use Rattle.op_exchange.specs.declared.ask.OpAsk.TheVariants.{Authorize, Login, Token}
use Rattle.op_exchange.specs.declared.reply.OpReply.TheVariants.{Answered, Tokens}
use Rattle.op_exchange.specs.Replied.{session_given}
use Rattle.op_answer.specs.Past.{OpPair, OpPast}
use Rattle.op_answer.specs.Turns.{BeginsTurn}
use Rattle.op_answer.specs.Sessions.{wish_by, session_used, session_of}
use Rattle.op_answer.specs.Codes.{held_code}

-- an authorization request began the turn: it got a page with the turn's word, which it drew
pub record TurnDrawn (past : OpPast) (row : TurnRow) : Type 0 where
  pub later : OpPast
  pub maker : OpPair
  pub earlier : OpPast
  pub parts : past ≡ later ++ maker ∷ earlier
  pub browser : Option Word
  pub presented : Option Word
  pub asked : maker.entry.ask ≡ Authorize (verdict.Grant row.wish) browser presented
  pub shown : BeginsTurn maker.entry.ask maker.reply row.word
  pub drawn : row.word ≡ fresh_word maker.entry.fresh 1
  pub begun_then : row.begun ≡ maker.entry.at

-- a right password of the user began the session, and drew its word and its name; later logins may have renewed it
pub record SessionDrawn (past : OpPast) (row : SessionRow) : Type 0 where
  pub later : OpPast
  pub maker : OpPair
  pub earlier : OpPast
  pub parts : past ≡ later ++ maker ∷ earlier
  pub turn : Option Word
  pub browser : Option Word
  pub presented : Option Word
  pub asked : maker.entry.ask ≡ Login turn (Some row.user) browser presented
  pub given : session_given maker.reply ≡ Some row.word
  pub drawn : row.word ≡ fresh_word maker.entry.fresh 0
  pub sid_drawn : row.sid ≡ fresh_word maker.entry.fresh 1

-- The answer of a pair was to this wish, of the request or of the turn, and about this session, as it was left: the presented
-- one, the one of the login, or the turn's.
pub record AnswerAbout (earlier : OpPast) (maker : OpPair) (wish : Wish) (session : SessionRow) : Type 0 where
  pub wish_is : wish_by earlier maker.entry.ask ≡ Some wish
  pub session_is : session_of (maker ∷ earlier) (session_used earlier maker.entry.ask maker.reply) ≡ Some session

-- a successful response has the code, and drew it; the code has its wish, and the user, the name and the login time of its session
pub record CodeDrawn (past : OpPast) (row : CodeRow) : Type 0 where
  pub later : OpPast
  pub maker : OpPair
  pub earlier : OpPast
  pub parts : past ≡ later ++ maker ∷ earlier
  pub answer : Answer
  pub given : Option Word
  pub replied : maker.reply ≡ Answered answer given
  pub code_is : answer.code ≡ Some row.word
  pub drawn : row.word ≡ fresh_word maker.entry.fresh 2
  pub session : SessionRow
  pub about : AnswerAbout earlier maker row.wish session
  pub user_is : row.user ≡ session.user
  pub sid_is : row.sid ≡ session.sid
  pub auth_time_is : row.auth_time ≡ session.auth_time
  pub issued_then : row.issued ≡ maker.entry.at
  pub place : row.by ≡ length earlier

-- An access token is for the client, the scope values and the claims of this wish, and about this user.
pub record TokenAbout (wish : Wish) (user : ℕ) (row : TokenRow) : Type 0 where
  pub client_is : row.client ≡ wish.client
  pub user_is : row.user ≡ user
  pub scopes_are : row.scopes ≡ wish.scopes
  pub asked_are : row.asked ≡ wish.info_asked

-- it came in a successful response, and is about what the response is about
pub record InResponse (earlier : OpPast) (maker : OpPair) (row : TokenRow) : Type 0 where
  pub answer : Answer
  pub given : Option Word
  pub replied : maker.reply ≡ Answered answer given
  pub access_is : answer.access ≡ Some row.word
  pub wish : Wish
  pub session : SessionRow
  pub about : AnswerAbout earlier maker wish session
  pub of_wish : TokenAbout wish session.user row
  pub of_no_code : row.code ≡ None
  pub drawn : row.word ≡ fresh_word maker.entry.fresh 3

-- or for a code that was held then, of the client that sent the token request, and is about what the code is about
pub record ForCode (earlier : OpPast) (maker : OpPair) (row : TokenRow) : Type 0 where
  pub grant : Grant
  pub asked : maker.entry.ask ≡ Token (Ok grant)
  pub code : CodeRow
  pub held : held_code earlier maker.entry.at (word_of_text grant.code) ≡ Some code
  pub own_client : code.wish.client ≡ grant.client
  pub of_wish : TokenAbout code.wish code.user row
  pub of_code : row.code ≡ Some code.word
  pub id : Text
  pub replied : maker.reply ≡ Tokens row.word id
  pub drawn : row.word ≡ fresh_word maker.entry.fresh 0

pub record AccessDrawn (past : OpPast) (row : TokenRow) : Type 0 where
  pub later : OpPast
  pub maker : OpPair
  pub earlier : OpPast
  pub parts : past ≡ later ++ maker ∷ earlier
  pub came : InResponse earlier maker row ⊎ ForCode earlier maker row
  pub issued_then : row.issued ≡ maker.entry.at
  pub place : row.by ≡ length earlier
