-- What is asked by a token endpoint's answer: its tokens, and what was read of the ID Token among them.
use Rattle.std.proofs.Common.{◌≡◌, ℕ, Option, Some, None, Result, Ok, Err, sym, ◌∙◌, ap, subst}
use Rattle.sso_base.specs.Words.{Word}
use Rattle.sso_base.specs.declared.message.Answered.{Answered}
use Rattle.client_registry.specs.declared.records.Client.{Client}
use Rattle.client_registry.specs.Configuration.{Configuration}
use Rattle.client_registry.specs.Numbers.{party_client}
use Rattle.id_token.specs.declared.claims.IdClaims.{IdClaims}
use Rattle.token_endpoint.specs.declared.reading.Tokens.{Tokens}
use Rattle.token_endpoint.specs.declared.no.TokensNo.{TokensNo}
use Rattle.token_endpoint.specs.Answer.{tokens_read, HasTokens}
use Rattle.token_endpoint.proofs.Responses.{has_read, read_has}
use Rattle.rp_exchange.specs.declared.ask.RpAsk.TheVariants as ask
use Rattle.rp_request.specs.Opened.{id_read_for, IsIdTokenFor}
use Rattle.rp_request.specs.Prepared.{tokens_asked, tokens_prepared}
use Rattle.rp_request.specs.Requests.{IsOpened}
use Rattle.rp_request.proofs.Callbacks.{IdRead, opened_text, accepted_text}

record HasRead (client : Client) (pending : Word) (r : Result Tokens TokensNo) (w : Word) (tokens : Tokens) (id : Option IdRead) : Type 0 where
  own : w ≡ pending
  response : r ≡ Ok tokens
  read : id ≡ Some (id_read_for client tokens.id)

read_in : (client : Client) (pending : Word) (r : Result Tokens TokensNo) (w : Word) (tokens : Tokens) (id : Option IdRead)
    → tokens_asked client pending r ≡ ask.Tokens w (Ok tokens) id → HasRead client pending r w tokens id
read_in client pending (Ok t) w tokens id h =
    let same : t ≡ tokens = cc in
    let own : w ≡ pending = cc in
    let read : Some (id_read_for client t.id) ≡ id = cc in
    let O : Tokens → Result Tokens TokensNo = λ y. Ok y in
    let R : Tokens → Option IdRead = λ y. Some (id_read_for client y.id) in
    record { own = own; response = ap O same; read = sym read ∙ ap R same }
read_in client pending (Err why) w tokens id h = absurd (cc)

module _ (c : Configuration) (n : ℕ) (pending : Word) (answer : Answered) where
  made_of : (w : Word) (tokens : Tokens) (id : Option IdRead) → tokens_prepared c n pending answer ≡ ask.Tokens w (Ok tokens) id → HasRead (party_client c n) pending (tokens_read answer) w tokens id
  unfolding tokens_prepared
  made_of w tokens id h = read_in (party_client c n) pending (tokens_read answer) w tokens id h

  pub has_tokens : (w : Word) (tokens : Tokens) (id : Option IdRead) → tokens_prepared c n pending answer ≡ ask.Tokens w (Ok tokens) id → (w ≡ pending) × HasTokens answer tokens
  has_tokens w tokens id h = let made = made_of w tokens id h in (made.own, read_has answer tokens made.response)

  pub reads_tokens : (tokens : Tokens) → HasTokens answer tokens → tokens_prepared c n pending answer ≡ ask.Tokens pending (Ok tokens) (Some (id_read_for (party_client c n) tokens.id))
  unfolding tokens_prepared
  reads_tokens tokens has = ap (tokens_asked (party_client c n) pending) (has_read answer tokens has)

  pub refuses_tokens : (why : TokensNo) → tokens_read answer ≡ Err why → tokens_prepared c n pending answer ≡ ask.Tokens pending (Err why) None
  unfolding tokens_prepared
  refuses_tokens why is = ap (tokens_asked (party_client c n) pending) is

  pub tokens_opened : (w : Word) (tokens : Tokens) (id : Option IdRead) → tokens_prepared c n pending answer ≡ ask.Tokens w (Ok tokens) id → IsOpened (party_client c n) (Some tokens.id) id
  tokens_opened w tokens id h =
      subst (IsOpened (party_client c n) (Some tokens.id)) (sym (made_of w tokens id h).read) (opened_text (party_client c n) tokens.id)

  pub tokens_accepted : (w : Word) (tokens : Tokens) (id : Option IdRead) (claims : IdClaims) → tokens_prepared c n pending answer ≡ ask.Tokens w (Ok tokens) id
      → IsIdTokenFor (party_client c n) tokens.id claims → id ≡ Some (Ok claims)
  tokens_accepted w tokens id claims h token = accepted_text (party_client c n) tokens.id claims id (made_of w tokens id h).read token
