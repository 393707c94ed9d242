-- The laws of the provider's answers. Each is a clause of a function of `law.rt`, which says it in words.
use Rattle.std.specs.Prelude.{◌≡◌, ◌↔◌, ℕ, Bool, true, List, ◌∷◌, ◌++◌, Option, Some, Ok}
use Rattle.sso_base.specs.Words.{Word, Text, word_text}
use Rattle.sso_base.specs.Drawn.{IsDrawn}
use Rattle.sso_base.specs.Rows.{row_of}
use Rattle.sso_base.specs.Stands.{Stands}
use Rattle.sso_base.specs.declared.history.Entry.{Entry}
use Rattle.sso_base.specs.declared.message.Message.{Message}
use Rattle.client_registry.specs.Configuration.{Configuration}
use Rattle.client_registry.specs.Numbers.{client_at}
use Rattle.client_registry.specs.declared.records.Client.{Client}
use Rattle.request_params.specs.declared.params.Params.{Params}
use Rattle.request_object.specs.Reading.{request_read}
use Rattle.oidc_words.specs.declared.scopes.Scopes.{Scopes}
use Rattle.oidc_words.specs.declared.errors.Refusal.{Refusal}
use Rattle.id_token.specs.declared.claims.IdClaims.{IdClaims}
use Rattle.id_token.specs.declared.rules.IdRules.{IdRules}
use Rattle.id_token.specs.Reading.{id_read}
use Rattle.id_token.specs.Judging.{IsGoodIdToken}
use Rattle.logout_token.specs.declared.claims.LogoutClaims.{LogoutClaims}
use Rattle.logout_token.specs.LogoutToken.{logout_read}
use Rattle.auth_request.specs.declared.wish.Wish.{Wish}
use Rattle.auth_request.specs.declared.wish.PageNo.{PageNo}
use Rattle.auth_request.specs.Values.{IsWishValue}
use Rattle.auth_answer.specs.declared.answer.Answer.{Answer}
use Rattle.token_endpoint.specs.declared.error.TokenError.{TokenError}
use Rattle.code_grant.specs.declared.rows.TurnRow.{TurnRow}
use Rattle.code_grant.specs.declared.rows.SessionRow.{SessionRow}
use Rattle.code_grant.specs.declared.rows.CodeRow.{CodeRow}
use Rattle.code_grant.specs.declared.rows.TokenRow.{TokenRow}
use Rattle.code_grant.specs.Rows.{turn_name, session_name, code_name, access_name}
use Rattle.op_issue.specs.declared.issuing.Authentication.{Authentication}
use Rattle.op_issue.specs.declared.sign_out.SignOut.{SignOut}
use Rattle.op_issue.specs.IdTokens.{issued_id}
use Rattle.op_issue.specs.Issuing.{MayIssue}
use Rattle.op_issue.specs.LogoutTokens.{issued_logout}
use Rattle.op_issue.specs.Ending.{MayEnd}
use Rattle.op_exchange.specs.declared.ask.OpAsk.{OpAsk}
use Rattle.op_exchange.specs.declared.reply.OpReply.{OpReply}
use Rattle.op_exchange.specs.declared.reply.OpReply.TheVariants as reply
use Rattle.op_answer.specs.Past.{OpPair, OpPast}
use Rattle.op_answer.specs.Turns.{turns, turn_made, turn_kept}
use Rattle.op_answer.specs.Sessions.{sessions, session_made, session_kept}
use Rattle.op_answer.specs.Codes.{codes_issued, code_made, code_kept}
use Rattle.op_answer.specs.AccessTokens.{accesses, access_made, access_kept}
use Rattle.op_answer.specs.Answering.{op_answer}
use Rattle.op_answer.specs.Causes.{is_own, Stood, Comes, LoginPageCause, ConsentPageCause, AnsweredCause, RefusedCause, ErrorPageCause, TokensCause}
use Rattle.op_answer.specs.Causes.{TokenRefusedCause, InfoCause, InfoRefusedCause, SignedOutCause}
use Rattle.op_answer.specs.OwnRows.{IsOwnTurn, IsOwnSession, IsOwnCode, IsOwnToken}
use Rattle.op_answer.specs.Drawn.{TurnDrawn, SessionDrawn, CodeDrawn, AccessDrawn}
use Rattle.op_answer.specs.Legal.{IsLegalOp, code_redeemed, PassedPassword}
use Rattle.op_exchange.specs.Replied.{session_given}

-- ---- rows of the past

abbrev pub TurnsStand : Type 0
TurnsStand =
    (past : OpPast) (w : Word) (row : TurnRow)
    → (row_of turn_name w (turns past) ≡ Some row) ↔ Stands turn_name turn_made turn_kept past w row

abbrev pub SessionsStand : Type 0
SessionsStand =
    (past : OpPast) (w : Word) (row : SessionRow)
    → (row_of session_name w (sessions past) ≡ Some row) ↔ Stands session_name session_made session_kept past w row

abbrev pub CodesStand : Type 0
CodesStand =
    (past : OpPast) (w : Word) (row : CodeRow)
    → (row_of code_name w (codes_issued past) ≡ Some row) ↔ Stands code_name code_made code_kept past w row

abbrev pub AccessTokensStand : Type 0
AccessTokensStand =
    (past : OpPast) (w : Word) (row : TokenRow)
    → (row_of access_name w (accesses past) ≡ Some row) ↔ Stands access_name access_made access_kept past w row

-- ---- why each reply comes

abbrev pub OwnRepliesHaveACause : Type 0
OwnRepliesHaveACause =
    (c : Configuration) (past : OpPast) (e : Entry OpAsk) (r : OpReply) → is_own r ≡ true
    → (op_answer c past e ≡ r) ↔ Stood c past e r

abbrev pub LoginPagesHaveACause : Type 0
LoginPagesHaveACause =
    (c : Configuration) (past : OpPast) (e : Entry OpAsk) (turn browser : Word) (again : Bool)
    → (op_answer c past e ≡ reply.LoginPage turn browser again)
    ↔ Comes c past e (reply.LoginPage turn browser again) (LoginPageCause c past e e.ask turn browser again)

abbrev pub ConsentPagesHaveACause : Type 0
ConsentPagesHaveACause =
    (c : Configuration) (past : OpPast) (e : Entry OpAsk) (turn browser : Word) (given : Option Word) (client : Text)
    (scopes : Scopes)
    → (op_answer c past e ≡ reply.ConsentPage turn browser given client scopes)
    ↔ Comes c past e (reply.ConsentPage turn browser given client scopes)
    (ConsentPageCause c past e e.ask turn browser given client scopes)

abbrev pub ResponsesHaveACause : Type 0
ResponsesHaveACause =
    (c : Configuration) (past : OpPast) (e : Entry OpAsk) (answer : Answer) (given : Option Word)
    → (op_answer c past e ≡ reply.Answered answer given)
    ↔ Comes c past e (reply.Answered answer given) (AnsweredCause c past e e.ask answer given)

abbrev pub ErrorResponsesHaveACause : Type 0
ErrorResponsesHaveACause =
    (c : Configuration) (past : OpPast) (e : Entry OpAsk) (refusal : Refusal) (given : Option Word)
    → (op_answer c past e ≡ reply.Refused refusal given)
    ↔ Comes c past e (reply.Refused refusal given) (RefusedCause c past e e.ask refusal given)

abbrev pub ErrorPagesHaveACause : Type 0
ErrorPagesHaveACause =
    (c : Configuration) (past : OpPast) (e : Entry OpAsk) (why : PageNo)
    → (op_answer c past e ≡ reply.ErrorPage why) ↔ Comes c past e (reply.ErrorPage why) (ErrorPageCause past e e.ask why)

abbrev pub TokenResponsesHaveACause : Type 0
TokenResponsesHaveACause =
    (c : Configuration) (past : OpPast) (e : Entry OpAsk) (access : Word) (id : Text)
    → (op_answer c past e ≡ reply.Tokens access id)
    ↔ Comes c past e (reply.Tokens access id) (TokensCause c past e e.ask access id)

abbrev pub TokenErrorsHaveACause : Type 0
TokenErrorsHaveACause =
    (c : Configuration) (past : OpPast) (e : Entry OpAsk) (code : TokenError)
    → (op_answer c past e ≡ reply.TokenRefused code)
    ↔ Comes c past e (reply.TokenRefused code) (TokenRefusedCause past e e.ask code)

abbrev pub UserInfoHasACause : Type 0
UserInfoHasACause =
    (c : Configuration) (past : OpPast) (e : Entry OpAsk) (claims : Text)
    → (op_answer c past e ≡ reply.Info claims) ↔ InfoCause c past e e.ask claims

abbrev pub UserInfoErrorsHaveACause : Type 0
UserInfoErrorsHaveACause =
    (c : Configuration) (past : OpPast) (e : Entry OpAsk) (given : Bool)
    → (op_answer c past e ≡ reply.InfoRefused given) ↔ InfoRefusedCause past e e.ask given

abbrev pub SignOutsHaveACause : Type 0
SignOutsHaveACause =
    (c : Configuration) (past : OpPast) (e : Entry OpAsk) (messages : List Message)
    → (op_answer c past e ≡ reply.SignedOut messages) ↔ SignedOutCause c past e e.ask messages

-- ---- codes

abbrev pub CodesAreAnsweredOnce : Type 0
CodesAreAnsweredOnce =
    (c : Configuration) (later between earlier : OpPast) (p q : OpPair) (n : ℕ)
    → IsLegalOp c (later ++ q ∷ (between ++ p ∷ earlier)) → code_redeemed earlier p ≡ Some n
    → code_redeemed (between ++ p ∷ earlier) q ≡ Some n → ⊥

-- ---- session words

abbrev pub SessionWordsNeedAPassword : Type 0
SessionWordsNeedAPassword =
    (c : Configuration) (later earlier : OpPast) (p : OpPair) (w : Word) → IsLegalOp c (later ++ p ∷ earlier)
    → session_given p.reply ≡ Some w → PassedPassword earlier p.entry w

-- ---- the words of rows

abbrev pub TurnsAreDrawn : Type 0
TurnsAreDrawn =
    (c : Configuration) (past : OpPast) → IsLegalOp c past → (w : Word) (row : TurnRow)
    → row_of turn_name w (turns past) ≡ Some row → TurnDrawn past row

abbrev pub SessionsAreDrawn : Type 0
SessionsAreDrawn =
    (c : Configuration) (past : OpPast) → IsLegalOp c past → (w : Word) (row : SessionRow)
    → row_of session_name w (sessions past) ≡ Some row → SessionDrawn past row

abbrev pub CodesAreDrawn : Type 0
CodesAreDrawn =
    (c : Configuration) (past : OpPast) → IsLegalOp c past → (w : Word) (row : CodeRow)
    → row_of code_name w (codes_issued past) ≡ Some row → CodeDrawn past row

abbrev pub AccessTokensAreDrawn : Type 0
AccessTokensAreDrawn =
    (c : Configuration) (past : OpPast) → IsLegalOp c past → (w : Word) (row : TokenRow)
    → row_of access_name w (accesses past) ≡ Some row → AccessDrawn past row

abbrev pub DrawnWordsHaveOneText : Type 0
DrawnWordsHaveOneText =
    (c : Configuration) (past : OpPast) (v w : Word) → IsLegalOp c past → IsDrawn past v → IsDrawn past w
    → word_text v ≡ word_text w → v ≡ w

-- ---- the contents of rows

abbrev pub TurnsAreOwn : Type 0
TurnsAreOwn =
    (c : Configuration) (past : OpPast) → IsLegalOp c past → (w : Word) (row : TurnRow)
    → row_of turn_name w (turns past) ≡ Some row → IsOwnTurn c past row

abbrev pub SessionsAreOwn : Type 0
SessionsAreOwn =
    (c : Configuration) (past : OpPast) → IsLegalOp c past → (w : Word) (row : SessionRow)
    → row_of session_name w (sessions past) ≡ Some row → IsOwnSession c past row

abbrev pub CodesAreOwn : Type 0
CodesAreOwn =
    (c : Configuration) (past : OpPast) → IsLegalOp c past → (w : Word) (row : CodeRow)
    → row_of code_name w (codes_issued past) ≡ Some row → IsOwnCode c past row

abbrev pub AccessTokensAreOwn : Type 0
AccessTokensAreOwn =
    (c : Configuration) (past : OpPast) → IsLegalOp c past → (w : Word) (row : TokenRow)
    → row_of access_name w (accesses past) ≡ Some row → IsOwnToken c past row

-- ---- tokens

abbrev pub LogoutTokensAreNoIdTokens : Type 0
LogoutTokensAreNoIdTokens =
    (c : Configuration) (client : ℕ) (out : SignOut) (key : Text) (x : IdClaims) (rules : IdRules) (at : ℕ)
    → MayEnd c client out → id_read key (issued_logout c client out) ≡ Ok x → IsGoodIdToken rules x at → ⊥

abbrev pub IdTokensAreNoLogoutTokens : Type 0
IdTokensAreNoLogoutTokens =
    (c : Configuration) (wish : Wish) (who : Authentication) (at : ℕ) (access code : Option Word) (key : Text)
    (y : LogoutClaims)
    → MayIssue c wish who at → IsWishValue wish → logout_read key (issued_id c wish who at access code) ≡ Ok y → ⊥

abbrev pub LogoutTokensAreNoRequestObjects : Type 0
LogoutTokensAreNoRequestObjects =
    (c : Configuration) (client : ℕ) (out : SignOut) (n : ℕ) (k : Client) (issuer : Text) (p : Params) → MayEnd c client out
    → client_at c n ≡ Some k → request_read k issuer (issued_logout c client out) ≡ Ok p → ⊥

abbrev pub IdTokensAreNoRequestObjects : Type 0
IdTokensAreNoRequestObjects =
    (c : Configuration) (wish : Wish) (who : Authentication) (at : ℕ) (access code : Option Word) (n : ℕ) (k : Client)
    (issuer : Text) (p : Params)
    → MayIssue c wish who at → IsWishValue wish → client_at c n ≡ Some k
    → request_read k issuer (issued_id c wish who at access code) ≡ Ok p → ⊥
