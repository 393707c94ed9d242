-- Laws about the rows of the provider. Each is a clause of a function of `law.rt`, which says it in words.
use Rattle.std.specs.Prelude.{◌≡◌, ◌++◌, Some, IfSome}
use Rattle.std.specs.List.{AllByRecursion}
use Rattle.sso_base.specs.Words.{Word}
use Rattle.sso_base.specs.Rows.{row_of}
use Rattle.sso_base.specs.declared.history.Entry.{Entry}
use Rattle.claim_set.specs.Reading.{claims_text}
use Rattle.client_registry.specs.Configuration.{Configuration}
use Rattle.userinfo.specs.declared.header.Bearer.TheVariants.{Given}
use Rattle.userinfo.specs.Held.{info_members}
use Rattle.code_grant.specs.declared.rows.TurnRow.{TurnRow}
use Rattle.code_grant.specs.declared.rows.SessionRow.{SessionRow}
use Rattle.code_grant.specs.declared.rows.CodeRow.{CodeRow}
use Rattle.code_grant.specs.declared.rows.TokenRow.{TokenRow}
use Rattle.code_grant.specs.Rows.{turn_name, session_name, code_name, access_name}
use Rattle.op_exchange.specs.declared.ask.OpAsk.{OpAsk}
use Rattle.op_exchange.specs.declared.ask.OpAsk.TheVariants as ask
use Rattle.op_exchange.specs.declared.reply.OpReply.TheVariants as reply
use Rattle.op_answer.specs.Past.{OpPair, OpPast}
use Rattle.op_answer.specs.Turns.{turns}
use Rattle.op_answer.specs.Sessions.{sessions}
use Rattle.op_answer.specs.Codes.{codes_issued}
use Rattle.op_answer.specs.AccessTokens.{accesses, live_access_token}
use Rattle.op_answer.specs.Answering.{op_answer}
use Rattle.op_answer.specs.Legal.{IsLegalOp}
use Rattle.honest_provider.specs.Sparing.{Spares, without_clients}

-- ---- rows persist

abbrev pub TurnsPersist : Type 0
TurnsPersist =
    (c : Configuration) (w : Word) (later past : OpPast) (row : TurnRow) → IsLegalOp c (later ++ past)
    → AllByRecursion (Spares w) later → row_of turn_name w (turns past) ≡ Some row
    → row_of turn_name w (turns (later ++ past)) ≡ Some row

abbrev pub CodesPersist : Type 0
CodesPersist =
    (c : Configuration) (w : Word) (later past : OpPast) (row : CodeRow) → IsLegalOp c (later ++ past)
    → AllByRecursion (Spares w) later → row_of code_name w (codes_issued past) ≡ Some row
    → row_of code_name w (codes_issued (later ++ past)) ≡ Some row

abbrev pub AccessTokensPersist : Type 0
AccessTokensPersist =
    (c : Configuration) (w : Word) (later past : OpPast) (row : TokenRow) → IsLegalOp c (later ++ past)
    → AllByRecursion (λ (p : OpPair). Spares w p × IfSome row.code (λ k. Spares k p)) later
    → row_of access_name w (accesses past) ≡ Some row → row_of access_name w (accesses (later ++ past)) ≡ Some row

abbrev pub SessionsPersist : Type 0
SessionsPersist =
    (c : Configuration) (w : Word) (later past : OpPast) (row : SessionRow) → IsLegalOp c (later ++ past)
    → AllByRecursion (Spares w) later → row_of session_name w (sessions past) ≡ Some row
    → (after : SessionRow) × (row_of session_name w (sessions (later ++ past)) ≡ Some after)
    × (without_clients after ≡ without_clients row)

-- ---- UserInfo

abbrev pub LiveTokensAreAnswered : Type 0
LiveTokensAreAnswered =
    (c : Configuration) (past : OpPast) (e : Entry OpAsk) (w : Word) (token : TokenRow) → e.ask ≡ ask.Info (Given w)
    → (op_answer c past e ≡ reply.Full → ⊥) → live_access_token past e.at w ≡ Some token
    → op_answer c past e ≡ reply.Info (claims_text (info_members c token.client token.user token.scopes token.asked))
