-- The roles and their servers, computed over the definitions on small cases.
use Rattle.std.proofs.Common.{◌≡◌, ℕ, Bool, true, false, List, [], ◌∷◌, Option, Some, None, Result, refl, arith}
use Rattle.sso_base.specs.Words.{Word, Text}
use Rattle.sso_base.specs.Journal.{lasting_weight}
use Rattle.sso_base.specs.declared.message.Message.{Message}
use Rattle.sso_base.specs.declared.message.Answered.{Answered}
use Rattle.client_registry.specs.Configuration.{Configuration}
use Rattle.op_exchange.specs.declared.ask.OpAsk.{OpAsk}
use Rattle.op_exchange.specs.declared.reply.OpReply.{OpReply}
use Rattle.op_exchange.specs.declared.reply.OpReply.TheVariants as op
use Rattle.op_exchange.specs.Held.{is_small}
use Rattle.op_core.specs.Providing.{Providing}
use Rattle.rp_exchange.specs.declared.ask.RpAsk.{RpAsk}
use Rattle.rp_exchange.specs.declared.ask.RpAsk.TheVariants as rp_ask
use Rattle.rp_exchange.specs.declared.reply.RpReply.{RpReply}
use Rattle.rp_exchange.specs.declared.reply.RpReply.TheVariants as rp
use Rattle.rp_answer.specs.Setup.{PartySetup}
use Rattle.rp_core.specs.Relying.{Relying}
use Rattle.rp_request.specs.Prepared.{tokens_prepared, info_prepared}
use Rattle.pkce_answer.specs.declared.asks.PkceAsk.{PkceAsk}
use Rattle.pkce_answer.specs.declared.asks.PkceReply.TheVariants.{Through, Own}
use Rattle.pkce_party.specs.Telling.{verified}
use Rattle.token_endpoint.specs.declared.no.GrantNo.{GrantNo}
use Rattle.refresh_answer.specs.declared.asks.RefreshGrant.{RefreshGrant}
use Rattle.refresh_answer.specs.declared.asks.RefreshAsk.TheVariants as token_ask
use Rattle.refresh_answer.specs.declared.asks.OwnReply.{OwnReply}
use Rattle.refresh_answer.specs.declared.asks.RefreshReply.TheVariants as tokens
use Rattle.signout_answer.specs.declared.asks.EndAsk.TheVariants as end_ask
use Rattle.signout_answer.specs.declared.asks.EndReply.TheVariants as end
use Rattle.signout_answer.specs.declared.asks.EndSetup.{EndSetup}
use Rattle.serving.specs.declared.summary.Summary.{Summary}
use Rattle.serving.specs.Summaries.{Telling}
use Rattle.server_roles.specs.Roles.{is_small_if}
use Rattle.sso_serve.specs.Cores.{op_manner, op_most, op_plus_manner, rp_manner, rp_plus_manner}
use Rattle.sso_serve.specs.Servers.{OpPlusSummary, ServesOp, ServesOpPlus, ServesRp}

-- ---- what is told to others, and what is asked of them

told-to_the_clients_of_the_session : (c : Configuration) (message : Message) → (op_manner c).notices (op.SignedOut (message ∷ [])) ≡ message ∷ []
told-to_the_clients_of_the_session c message = refl

told-to_nobody : (c : Configuration) → (op_manner c).notices op.NotHere ≡ []
told-to_nobody c = refl

-- also through the cores around it, and their own replies are told to nobody
told-through : (c : Configuration) (message : Message)
    → (op_plus_manner c).notices (end.Through (tokens.Through (Through (op.SignedOut (message ∷ []))))) ≡ message ∷ []
told-through c message = refl

told-to_nobody_by_a_refusal : (c : Configuration) (reply : OpReply) → (op_plus_manner c).notices (end.Through (tokens.Through (Own reply))) ≡ []
told-to_nobody_by_a_refusal c reply = refl

told-to_nobody_by_a_refresh : (c : Configuration) (reply : OwnReply) → (op_plus_manner c).notices (end.Through (tokens.Own reply)) ≡ []
told-to_nobody_by_a_refresh c reply = refl

-- and after the user agreed to a sign-out
told-after_a_yes : (c : Configuration) (back : Option Text) (message : Message)
    → (op_plus_manner c).notices (end.Gone back (tokens.Through (Through (op.SignedOut (message ∷ []))))) ≡ message ∷ []
told-after_a_yes c back message = refl

told-to_nobody_by_a_question : (c : Configuration) (w : Word) → (op_plus_manner c).notices (end.Sure w) ≡ []
told-to_nobody_by_a_question c w = refl

asked-nobody_by_the_provider : (c : Configuration) (reply : OpReply) → (op_manner c).question reply ≡ None
asked-nobody_by_the_provider c reply = refl

asked-for_tokens : (c : Configuration) (n : ℕ) (pending : Word) (message : Message)
    → (rp_manner c n).question (rp.Exchange pending message) ≡ Some message
asked-for_tokens c n pending message = refl

asked-nobody_by_a_party : (c : Configuration) (n : ℕ) → (rp_manner c n).question rp.NotHere ≡ None
asked-nobody_by_a_party c n = refl

-- with the verifier of the login
asked-with_a_verifier : (c : Configuration) (n : ℕ) (pending : Word) (message : Message) (challenge verifier : Option Text)
    → (rp_plus_manner c n).question (record { inner = rp.Exchange pending message; challenge = challenge; verifier = verifier })
    ≡ Some (verified verifier message)
asked-with_a_verifier c n pending message challenge verifier = refl

answer-with_tokens : (c : Configuration) (n : ℕ) (pending : Word) (message : Message) (answer : Answered)
    → (rp_manner c n).answered (rp.Exchange pending message) answer ≡ tokens_prepared c n pending answer
answer-with_tokens c n pending message answer = refl

answer-with_claims : (c : Configuration) (n : ℕ) (pending : Word) (message : Message) (answer : Answered)
    → (rp_manner c n).answered (rp.Fetch pending message) answer ≡ info_prepared pending answer
answer-with_claims c n pending message answer = refl

answer-of_no_question : (c : Configuration) (n : ℕ) (answer : Answered) → (rp_manner c n).answered rp.NotHere answer ≡ rp_ask.NotHere
answer-of_no_question c n answer = refl

-- ---- what is taken, and the limit of the history

taken-in_a_stored_history : (c : Configuration) (asked : OpAsk) → (op_manner (record c { lasting = false })).takes asked ≡ true
taken-in_a_stored_history c asked = refl

taken-in_a_lasting_history : (c : Configuration) (asked : OpAsk) → (op_manner (record c { lasting = true })).takes asked ≡ is_small asked
taken-in_a_lasting_history c asked = refl

taken-by_the_request_inside : (c : Configuration) (asked : PkceAsk OpAsk)
    → (op_plus_manner (record c { lasting = true })).takes (end_ask.Through (token_ask.Through asked false)) ≡ is_small asked.inner
taken-by_the_request_inside c asked = refl

taken-to_be_refreshed : (c : Configuration) (grant : Result RefreshGrant GrantNo)
    → (op_plus_manner (record c { lasting = true })).takes (end_ask.Through (token_ask.Refresh grant)) ≡ true
taken-to_be_refreshed c grant = refl

taken-to_end_a_session : (c : Configuration) (form : List ℕ) (session : Option Word)
    → (op_plus_manner (record c { lasting = true })).takes (end_ask.Start form session) ≡ true
taken-to_end_a_session c form session = refl

taken-without_a_request_of_the_provider : is_small_if None ≡ true
taken-without_a_request_of_the_provider = refl

limit-of_a_stored_history : (c : Configuration) → op_most (record c { lasting = false }) ≡ 268435456
limit-of_a_stored_history c = refl

limit-of_a_lasting_history : (c : Configuration) → op_most (record c { lasting = true }) ≡ lasting_weight
limit-of_a_lasting_history c = refl

-- ---- servers without desks

abbrev op_summary : ℕ → Summary Providing OpAsk OpReply
op_summary served = record { served = served; entries = 0; fault = false; closed = None }

abbrev op_plus_summary : ℕ → OpPlusSummary
op_plus_summary served = record { served = served; entries = 0; fault = false; closed = None }

abbrev rp_summary : Bool → Summary Relying RpAsk RpReply
rp_summary fault = record { served = 0; entries = 0; fault = fault; closed = None }

module _ {D L C W S K : Type 0} (t : Telling D L C W S K) where
  served-nothing : (c : Configuration) → ServesOp t [] [] c (op_summary 0)
  served-nothing c =
      record { none = λ _. (refl, refl, refl, refl, refl); some = λ few. absurd (omega arith); failed = λ never. absurd (cc); well = λ _. tt }

  not_served-a_connection : (c : Configuration) → ServesOp t [] [] c (op_summary 1) → ⊥
  not_served-a_connection c serves = (let never : ◌≡◌ {A = ℕ} 1 0 = (serves.none refl).0 in cc)

  served-nothing_with_keys : (e : EndSetup) → ServesOpPlus t [] [] e (op_plus_summary 0)
  served-nothing_with_keys e =
      record { none = λ _. (refl, refl, refl, refl, refl); some = λ few. absurd (omega arith); failed = λ never. absurd (cc); well = λ _. tt }

  not_served-a_connection_with_keys : (e : EndSetup) → ServesOpPlus t [] [] e (op_plus_summary 1) → ⊥
  not_served-a_connection_with_keys e serves = (let never : ◌≡◌ {A = ℕ} 1 0 = (serves.none refl).0 in cc)

  served-nothing_of_a_party : (p : PartySetup) → ServesRp t [] [] p (rp_summary false)
  served-nothing_of_a_party p =
      record { none = λ _. (refl, refl, refl, refl, refl); some = λ few. absurd (omega arith); failed = λ never. absurd (cc); well = λ _. tt }

  -- no door failed
  not_served-a_fault : (p : PartySetup) → ServesRp t [] [] p (rp_summary true) → ⊥
  not_served-a_fault p serves = serves.failed refl
