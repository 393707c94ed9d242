-- How many requests to the provider may follow a reply of a relying party.
use Rattle.std.proofs.Common.{◌≡◌, ℕ, ◌<◌, List, [], ◌∷◌, ◌++◌, reverse, Option, None, Result, Ok, Err, refl, sym, subst, arith}
use Rattle.std.proofs.lemmas.List.{reverse-append}
use Rattle.sso_base.specs.Words.{Word, Text}
use Rattle.sso_base.specs.declared.message.Message.{Message}
use Rattle.sso_base.specs.declared.message.Answered.{Answered}
use Rattle.client_registry.specs.declared.records.Client.{Client}
use Rattle.client_registry.specs.Configuration.{Configuration}
use Rattle.client_registry.specs.Numbers.{party_client}
use Rattle.token_endpoint.specs.Answer.{tokens_read}
use Rattle.token_endpoint.specs.declared.reading.Tokens.{Tokens}
use Rattle.token_endpoint.specs.declared.no.TokensNo.{TokensNo}
use Rattle.id_token.specs.declared.claims.IdClaims.{IdClaims}
use Rattle.id_token.specs.declared.no.IdNo.{IdNo}
use Rattle.userinfo.specs.declared.no.InfoNo.{InfoNo}
use Rattle.userinfo.specs.Answer.{info_read}
use Rattle.rp_exchange.specs.declared.ask.RpAsk.{RpAsk}
use Rattle.rp_exchange.specs.declared.ask.RpAsk.TheVariants as ask
use Rattle.rp_exchange.specs.declared.reply.RpReply.{RpReply}
use Rattle.rp_exchange.specs.declared.reply.RpReply.TheVariants as reply
use Rattle.rp_answer.specs.Past.{RpPair, RpPast}
use Rattle.rp_answer.specs.Setup.{PartySetup}
use Rattle.rp_answer.specs.Legal.{IsLegalHistory, IsLegalRp}
use Rattle.rp_answer.specs.Answering.{rp_answer}
use Rattle.rp_answer.specs.Causes.{ExchangeCause, FetchCause}
use Rattle.rp_answer.proofs.Answers.{exchanges_have_a_cause, fetches_have_a_cause}
use Rattle.rp_request.specs.Prepared.{tokens_prepared, tokens_asked, info_prepared}

-- after a token request a UserInfo request may follow, and after that no further one
abbrev pub rounds_of : RpReply → ℕ
rounds_of (reply.Exchange pending message) = 2
rounds_of (reply.Fetch pending message) = 1
rounds_of reply = 0

-- the entry is a token response, or a UserInfo response
abbrev IsTokens : RpAsk → Type 0
IsTokens asked = (pending : Word) × (came : Result Tokens TokensNo) × (id : Option (Result IdClaims IdNo)) × (asked ≡ ask.Tokens pending came id)

abbrev IsInfo : RpAsk → Type 0
IsInfo asked = (pending : Word) × (came : Result Text InfoNo) × (asked ≡ ask.Info pending came)

is_tokens : (client : Client) (pending : Word) (read : Result Tokens TokensNo) → IsTokens (tokens_asked client pending read)
is_tokens client pending (Ok came) = (pending, Ok came, _, refl)
is_tokens client pending (Err why) = (pending, Err why, None, refl)

no_exchange : (s : PartySetup) (past : RpPast) (p : RpPair) (asked : RpAsk) (w : Word) (message : Message) → IsTokens asked
    → ExchangeCause s past p.entry asked w message → ⊥
no_exchange s past p asked w message is cause = subst (λ (a : RpAsk). ExchangeCause s past p.entry a w message) is.3 cause

no_exchange_now : (s : PartySetup) (past : RpPast) (p : RpPair) (asked : RpAsk) (w : Word) (message : Message) → IsInfo asked
    → ExchangeCause s past p.entry asked w message → ⊥
no_exchange_now s past p asked w message is cause = subst (λ (a : RpAsk). ExchangeCause s past p.entry a w message) is.2 cause

no_fetch : (s : PartySetup) (past : RpPast) (p : RpPair) (asked : RpAsk) (w : Word) (message : Message) → IsInfo asked
    → FetchCause s past p.entry asked w message → ⊥
no_fetch s past p asked w message is cause = subst (λ (a : RpAsk). FetchCause s past p.entry a w message) is.2 cause

-- after a token response no token request follows
after_tokens : (s : PartySetup) (past : RpPast) (p : RpPair) → IsTokens p.entry.ask → (r : RpReply) → rp_answer s past p.entry ≡ r → rounds_of r < 2
after_tokens s past p is (reply.Exchange w message) h =
    absurd (no_exchange s past p p.entry.ask w message is (exchanges_have_a_cause s past p.entry w message h))
after_tokens s past p is (reply.Ask to browser) h = omega arith
after_tokens s past p is reply.Fragment h = omega arith
after_tokens s past p is (reply.Fetch w message) h = omega arith
after_tokens s past p is (reply.Entered session sub) h = omega arith
after_tokens s past p is (reply.User sub) h = omega arith
after_tokens s past p is reply.Nobody h = omega arith
after_tokens s past p is (reply.Left ended) h = omega arith
after_tokens s past p is (reply.Ended count) h = omega arith
after_tokens s past p is (reply.Refused why) h = omega arith
after_tokens s past p is reply.NotHere h = omega arith

-- after a UserInfo response no request to the provider follows
after_info : (s : PartySetup) (past : RpPast) (p : RpPair) → IsInfo p.entry.ask → (r : RpReply) → rp_answer s past p.entry ≡ r → rounds_of r < 1
after_info s past p is (reply.Exchange w message) h =
    absurd (no_exchange_now s past p p.entry.ask w message is (exchanges_have_a_cause s past p.entry w message h))
after_info s past p is (reply.Fetch w message) h = absurd (no_fetch s past p p.entry.ask w message is (fetches_have_a_cause s past p.entry w message h))
after_info s past p is (reply.Ask to browser) h = omega arith
after_info s past p is reply.Fragment h = omega arith
after_info s past p is (reply.Entered session sub) h = omega arith
after_info s past p is (reply.User sub) h = omega arith
after_info s past p is reply.Nobody h = omega arith
after_info s past p is (reply.Left ended) h = omega arith
after_info s past p is (reply.Ended count) h = omega arith
after_info s past p is (reply.Refused why) h = omega arith
after_info s past p is reply.NotHere h = omega arith

-- the newest reply of a legal history is the answer to its entry and the history before it
newest_answer : (s : PartySetup) (before : List RpPair) (p : RpPair) → IsLegalHistory s (before ++ p ∷ []) → rp_answer s (reverse before) p.entry ≡ p.reply
newest_answer s before p legal =
    let past : IsLegalRp s (p ∷ reverse before) = subst (λ (past : RpPast). IsLegalRp s past) (reverse-append before (p ∷ [])) legal.past in
    sym past.3

asked_tokens : (c : Configuration) (n : ℕ) (pending : Word) (answer : Answered) → IsTokens (tokens_prepared c n pending answer)
unfolding tokens_prepared
asked_tokens c n pending answer = is_tokens (party_client c n) pending (tokens_read answer)

asked_info : (pending : Word) (answer : Answered) → IsInfo (info_prepared pending answer)
unfolding info_prepared
asked_info pending answer = (pending, info_read answer, refl)

-- so it is after a token response, and after a UserInfo response, in a legal history
pub exchanges_end :
    (c : Configuration) (n : ℕ) (s : PartySetup) (before : List RpPair) (p : RpPair) (w : Word) (answer : Answered)
    → IsLegalHistory s (before ++ p ∷ []) → p.entry.ask ≡ tokens_prepared c n w answer → rounds_of p.reply < 2
exchanges_end c n s before p w answer legal asked =
    after_tokens s (reverse before) p (subst IsTokens (sym asked) (asked_tokens c n w answer)) p.reply (newest_answer s before p legal)

pub requests_end :
    (s : PartySetup) (before : List RpPair) (p : RpPair) (w : Word) (answer : Answered)
    → IsLegalHistory s (before ++ p ∷ []) → p.entry.ask ≡ info_prepared w answer → rounds_of p.reply < 1
requests_end s before p w answer legal asked =
    after_info s (reverse before) p (subst IsInfo (sym asked) (asked_info w answer)) p.reply (newest_answer s before p legal)
