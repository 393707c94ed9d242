-- A party of a play requests UserInfo only with access tokens whose ID Token has an `at_hash`. That of an authorization
-- response must have it. A token response is a printed reply of the provider, which gives it to each ID Token with an access
-- token.
use Rattle.std.proofs.Common.{◌≡◌, ℕ, true, List, [], ◌∷◌, Option, Some, None, is_some, Result, Ok, Err, refl, sym, ap, ◌∙◌, subst, inl, inr}
use Rattle.std.proofs.lemmas.Option.{same_Some}
use Rattle.sso_base.specs.Words.{Word, Text}
use Rattle.sso_base.specs.declared.http.Ask.{Ask}
use Rattle.sso_base.specs.declared.http.HttpReply.{HttpReply}
use Rattle.sso_base.specs.declared.message.Message.{Message}
use Rattle.sso_model.specs.Lists.{Has}
use Rattle.sso_model.proofs.ListLaws.{has_append_right}
use Rattle.client_registry.specs.declared.records.Client.{Client}
use Rattle.client_registry.specs.Configuration.{Configuration}
use Rattle.client_registry.specs.Numbers.{party_client}
use Rattle.client_registry.specs.Registered.{IsRegistry}
use Rattle.id_token.specs.declared.claims.IdClaims.{IdClaims}
use Rattle.id_token.specs.declared.no.IdNo.{IdNo}
use Rattle.token_endpoint.specs.declared.reading.Tokens.{Tokens}
use Rattle.token_endpoint.specs.Answer.{tokens_read}
use Rattle.token_endpoint.proofs.Responses.{has_read}
use Rattle.op_exchange.specs.declared.reply.OpReply.{OpReply}
use Rattle.op_response.specs.Telling.{http_of as op_http}
use Rattle.op_answer.specs.Past.{OpPair, OpPast}
use Rattle.op_answer.specs.Legal.{IsLegalOp}
use Rattle.rp_exchange.specs.declared.ask.RpAsk.{RpAsk}
use Rattle.rp_exchange.specs.declared.ask.RpAsk.TheVariants as ask
use Rattle.rp_exchange.specs.declared.reply.RpReply.TheVariants as rp
use Rattle.client_keys.specs.Opening.{opening}
use Rattle.rp_request.specs.Opened.{id_read_for}
use Rattle.rp_request.specs.Requests.{IsOpened}
use Rattle.rp_request.proofs.Opened.{token-id_read_for}
use Rattle.rp_request.proofs.TokenAnswers.{has_tokens, tokens_opened}
use Rattle.rp_response.specs.Telling.{http_of as rp_http}
use Rattle.rp_answer.specs.Asked.{claims_read, claims_judged}
use Rattle.rp_answer.specs.Hashes.{AccessHasHash}
use Rattle.rp_answer.specs.Past.{RpPair}
use Rattle.rp_answer.specs.Setup.{PartySetup}
use Rattle.rp_answer.proofs.Hashes.{access_tokens_have_their_hash}
use Rattle.sso_places.specs.declared.types.WorldAsk.{WorldAsk}
use Rattle.sso_places.specs.declared.types.WorldReply.TheVariants as reply
use Rattle.sso_places.specs.Binding.{AsksForInfo, AccessTokensAreBound, IsBound}
use Rattle.sso_places.specs.Legal.{IsLegalWorld}
use Rattle.sso_places.specs.Site.{own_site, setup_at, types_at}
use Rattle.sso_places.specs.World.{Place, Provider, Party, Nothing, World, op_past, rp_past, reply_at}
use Rattle.sign_on.proofs.AskKinds.{IsTokens, as_tokens}
use Rattle.web_requests.specs.Handing.{answer_in, printed}
use Rattle.oidc_replay.specs.Bound.{GivesTokens, AsksWithToken, EachAccessTokenIsBound, IsWhollyBound}
use Rattle.oidc_replay.specs.Text.{http_at}
use Rattle.sign_on.proofs.IssuedHashes.{tokens_have_hash}
use Rattle.oidc_replay.proofs.Played.{WasPrinted, IsPrinted, IsPartyPlace, IsPlaced, IsPlayed}
use Rattle.sign_on.proofs.ReadTokens.{GaveTokens, provider_gave, party_gave_none}

-- ---- places, and what was before them

before : (c : Configuration) (x : Place) (world : World) → IsLegalOp c (op_past (x ∷ world)) → IsLegalOp c (op_past world)
before c (Provider from request p) world legal = legal.0
before c (Party n from request p) world legal = legal
before c Nothing world legal = legal

-- the provider's pair after its own past
record AfterPast (c : Configuration) (p : OpPair) : Type 0 where
  past : OpPast
  legal : IsLegalOp c (p ∷ past)

after_past : (c : Configuration) (world : World) (from : ℕ) (request : Ask) (p : OpPair) → IsLegalOp c (op_past world) → Has world (Provider from request p) → AfterPast c p
after_past c [] from request p legal has = absurd has
after_past c (x ∷ world) from request p legal (inl same) =
    let L : Place → Type 0 = λ y. IsLegalOp c (op_past (y ∷ world)) in
    record { past = op_past world; legal = subst L same legal }
after_past c (x ∷ world) from request p legal (inr has) = after_past c world from request p (before c x world legal) has

-- a place of a party in a play
record StoodAt (c : Configuration) (seed : List ℕ) (n from : ℕ) (request : WorldAsk) (p : RpPair) : Type 0 where
  earlier : World
  place : IsPartyPlace c seed earlier n from request p
  legal : IsLegalOp c (op_past earlier)

stood_at : (c : Configuration) (seed : List ℕ) (world : World) (n from : ℕ) (request : WorldAsk) (p : RpPair) → IsPlayed c seed world → IsLegalOp c (op_past world) → Has world (Party n from request p)
    → StoodAt c seed n from request p
stood_at c seed [] n from request p played legal has = absurd has
stood_at c seed (x ∷ world) n from request p played legal (inl same) =
    let P : Place → Type 0 = λ y. IsPlaced c seed world y in
    record { earlier = world; place = subst P same played.1; legal = before c x world legal }
stood_at c seed (x ∷ world) n from request p played legal (inr has) = stood_at c seed world n from request p played.0 (before c x world legal) has

-- ---- what a place printed, and is read as tokens

-- a pair of the provider gave these tokens
record GivenBy (c : Configuration) (x : Place) (came : Tokens) : Type 0 where
  from : ℕ
  request : Ask
  pair : OpPair
  place_is : x ≡ Provider from request pair
  after : AfterPast c pair
  gave : GaveTokens pair.reply came

given_by : (c : Configuration) (world : World) (x : Place) (told : HttpReply) (came : Tokens) → IsRegistry c → IsLegalOp c (op_past world) → Has world x → http_at c x ≡ Some told
    → tokens_read (answer_in told) ≡ Ok came → GivenBy c x came
unfolding printed
given_by c world (Provider from request p) told came registry legal has is read =
    let after : AfterPast c p = after_past c world from request p legal has in
    let R : HttpReply → Type 0 = λ h. tokens_read (answer_in h) ≡ Ok came in
    let own : R (op_http c p.reply) = subst R (sym (same_Some (op_http c p.reply) told is)) read in
    record { from = from; request = request; pair = p; place_is = refl; after = after; gave = provider_gave c after.past p.entry p.reply came registry (sym after.legal.3) own }
given_by c world (Party n from request p) told came registry legal has is read =
    let R : HttpReply → Type 0 = λ h. tokens_read (answer_in h) ≡ Ok came in
    let own : R (rp_http c n p.reply) = subst R (sym (same_Some (rp_http c n p.reply) told is)) read in
    absurd (party_gave_none c n p.reply came own)
given_by c world Nothing told came registry legal has is read = absurd (cc)

pub tokens_were_given : (c : Configuration) (world : World) (x : Place) (told : HttpReply) (came : Tokens) → IsRegistry c → IsLegalWorld (own_site c) world → Has world x → http_at c x ≡ Some told
    → tokens_read (answer_in told) ≡ Ok came → GivesTokens (reply_at x) came
tokens_were_given c world x told came registry legal has is read =
    let given : GivenBy c x came = given_by c world x told came registry legal.provider has is read in
    let G : Place → Type 0 = λ y. GivesTokens (reply_at y) came in
    let H : OpReply → Type 0 = λ r. GivesTokens (reply.Provider r) came in
    subst G (sym given.place_is) (subst H (sym given.gave.reply_is) (given.gave.access_is, given.gave.id_is))

-- ---- an ID Token of a token response

-- what was read of it, for the party's client
opened_claims : (client : Client) (text : Text) (id : Option (Result IdClaims IdNo)) (claims : IdClaims) → IsOpened client (Some text) id → claims_read id ≡ Some claims → id_read_for client text ≡ Ok claims
opened_claims client text None claims opened read = absurd opened
opened_claims client text (Some (Err why)) claims opened read = absurd (cc)
opened_claims client text (Some (Ok x)) claims opened read =
    let R : IdClaims → Type 0 = λ y. id_read_for client text ≡ Ok y in
    subst R (same_Some x claims read) (token-id_read_for client text x opened)

module _ (c : Configuration) (seed : List ℕ) (registry : IsRegistry c) (n from : ℕ) (request : WorldAsk) (p : RpPair) (at : StoodAt c seed n from request p) where
  back_hash : (pending : Word) (came : Tokens) (id : Option (Result IdClaims IdNo)) (claims : IdClaims) → p.entry.ask ≡ ask.Tokens pending (Ok came) id → claims_read id ≡ Some claims → is_some claims.at_hash ≡ true
  back_hash pending came id claims asked read =
      let answer : IsTokens c n request (ask.Tokens pending (Ok came) id) pending = as_tokens c n request pending (Ok came) id (sym asked ∙ at.place.asked) in
      let P : WorldAsk → Type 0 = λ r. IsPrinted c at.earlier r in
      let was : WasPrinted c at.earlier answer.answer = subst P answer.came_is at.place.printed in
      let given : tokens_read answer.answer ≡ Ok came = has_read answer.answer came (has_tokens c n pending answer.answer pending came id answer.asked_is).1 in
      let by : GivenBy c was.place came = given_by c at.earlier was.place was.told came registry at.legal was.has was.printed_is (ap tokens_read was.answer_is ∙ given) in
      let own : id_read_for (party_client c n) came.id ≡ Ok claims = opened_claims (party_client c n) came.id id claims (tokens_opened c n pending answer.answer pending came id answer.asked_is) read in
      let R : Text → Type 0 = λ t. id_read_for (party_client c n) t ≡ Ok claims in
      tokens_have_hash c by.after.past by.pair registry by.after.legal by.gave.access by.gave.id (opening (party_client c n) by.gave.id) claims by.gave.reply_is (subst R (sym by.gave.id_is) own)

-- ---- the last ID Token of a login that requests UserInfo

-- its claims have an `at_hash`
record IsHashed (c : Configuration) (n : ℕ) (p : RpPair) : Type 0 where
  claims : IdClaims
  judged : claims_judged (types_at (own_site c) n) p.entry.ask ≡ Some claims
  hash : is_some claims.at_hash ≡ true

is_hashed : (c : Configuration) (seed : List ℕ) (n from : ℕ) (request : WorldAsk) (p : RpPair) (w : Word) (message : Message) → IsRegistry c → StoodAt c seed n from request p → p.reply ≡ rp.Fetch w message → IsHashed c n p
is_hashed c seed n from request p w message registry at replied =
    let s : PartySetup = setup_at (own_site c) n in
    let found : AccessHasHash s p.entry message = access_tokens_have_their_hash s (rp_past n at.earlier) p.entry w message (sym at.place.answered ∙ replied) in
    let C : RpAsk → Option IdClaims = λ a. claims_judged (types_at (own_site c) n) a in
    elim found.beside [
      | inl front ↦ record { claims = found.claims; judged = found.came; hash = ap (λ (o : Option Text). is_some o) front.hash }
      | inr back ↦
          record {
            claims = found.claims;
            judged = found.came;
            hash = back_hash c seed registry n from request p at back.pending back.came back.id found.claims back.asked (sym (ap C back.asked) ∙ found.came);
          }
    ]

-- ---- in a play

module _ (c : Configuration) (seed : List ℕ) (world : World) (registry : IsRegistry c) (legal : IsLegalWorld (own_site c) world) (played : IsPlayed c seed world) where
  asked_hashed : (n from : ℕ) (request : WorldAsk) (p : RpPair) (w : Word) (message : Message) → Has world (Party n from request p) → p.reply ≡ rp.Fetch w message → IsHashed c n p
  asked_hashed n from request p w message has replied =
      is_hashed c seed n from request p w message registry (stood_at c seed world n from request p played legal.provider has) replied

  pub hashed : (n from : ℕ) (request : WorldAsk) (p : RpPair) (w : Word) (message : Message) (claims : IdClaims) → Has world (Party n from request p) → p.reply ≡ rp.Fetch w message
      → claims_judged (types_at (own_site c) n) p.entry.ask ≡ Some claims → is_some claims.at_hash ≡ true
  hashed n from request p w message claims has replied judged =
      let found : IsHashed c n p = asked_hashed n from request p w message has replied in
      let same : found.claims ≡ claims = same_Some found.claims claims (sym found.judged ∙ judged) in
      ap (λ (x : IdClaims). is_some x.at_hash) (sym same) ∙ found.hash

  -- so a request for UserInfo is one whose ID Token has it
  asks_hashed : (n from : ℕ) (request : WorldAsk) (p : RpPair) (id access : Text) → Has world (Party n from request p) → AsksWithToken (own_site c) n p id access → AsksForInfo (own_site c) n p id access
  asks_hashed n from request p id access has asks =
      let found : IsHashed c n p = asked_hashed n from request p asks.word asks.message has asks.replied in
      record { came = asks.came; claims = found.claims; judged = found.judged; hash = found.hash; word = asks.word; message = asks.message; replied = asks.replied }

  each_bound : AccessTokensAreBound (own_site c) world → EachAccessTokenIsBound (own_site c) world
  each_bound bound n from request p later earlier id access parts asks informed =
      let H : World → Type 0 = λ z. Has z (Party n from request p) in
      let has : Has world (Party n from request p) = subst H (sym parts) (has_append_right later (Party n from request p ∷ earlier) (Party n from request p) (inl refl)) in
      bound n from request p later earlier id access parts (asks_hashed n from request p id access has asks) informed

  pub wholly_bound : IsBound (own_site c) world → IsWhollyBound (own_site c) world
  wholly_bound bound = record { codes = bound.codes; access_tokens = each_bound bound.access_tokens }
