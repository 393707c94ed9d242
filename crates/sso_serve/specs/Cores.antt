-- The cores that are served: the provider and a relying party, alone and with what other crates add to them: proof keys (RFC 7636) to
-- both, and refresh tokens (RFC 6749, 6) and questions before a sign-out (RP-Initiated Logout 1.0) to the provider.
use Rattle.std.specs.Prelude.{ℕ, List, Option, Some}
use Rattle.sso_base.specs.Journal.{most_of}
use Rattle.sso_base.specs.declared.history.Pair.{Pair}
use Rattle.sso_base.specs.declared.http.Ask.{Ask}
use Rattle.sso_base.specs.declared.http.HttpReply.{HttpReply}
use Rattle.sso_base.specs.declared.message.Message.{Message}
use Rattle.client_registry.specs.Configuration.{Configuration}
use Rattle.op_exchange.specs.declared.ask.OpAsk.{OpAsk}
use Rattle.op_exchange.specs.declared.reply.OpReply.{OpReply}
use Rattle.op_exchange.specs.Values.{IsOpAsk}
use Rattle.op_exchange.specs.Weight as op_weight
use Rattle.op_request.specs.Prepared as op_request
use Rattle.op_response.specs.Telling as op_telling
use Rattle.op_answer.specs.Past.{OpPair}
use Rattle.op_answer.specs.Legal as op
use Rattle.op_core.specs.Providing.{Providing}
use Rattle.rp_answer.specs.Past.{RpPair}
use Rattle.rp_answer.specs.Setup.{PartySetup}
use Rattle.rp_core.specs.Relying.{Relying}
use Rattle.rp_exchange.specs.declared.ask.RpAsk.{RpAsk}
use Rattle.rp_exchange.specs.declared.reply.RpReply.{RpReply}
use Rattle.rp_exchange.specs.Weight as rp_weight
use Rattle.rp_request.specs.Prepared as rp_request
use Rattle.rp_response.specs.Telling as rp_telling
use Rattle.core_stack.specs.OpStack.{op_notices}
use Rattle.core_stack.specs.Relied.{sending_in}
use Rattle.pkce_answer.specs.declared.asks.PkceAsk.{PkceAsk}
use Rattle.pkce_answer.specs.declared.asks.PkceReply.{PkceReply}
use Rattle.pkce_answer.specs.Challenges.{IsPkceAsk}
use Rattle.pkce_answer.specs.Around as keys
use Rattle.pkce_answer.specs.Answering.{IsLegalPkce}
use Rattle.pkce_check.specs.Keeps.{Checking}
use Rattle.pkce_check.specs.Prepared as key_read
use Rattle.refresh_answer.specs.declared.asks.RefreshAsk.{RefreshAsk}
use Rattle.refresh_answer.specs.declared.asks.RefreshReply.{RefreshReply}
use Rattle.refresh_answer.specs.Around as tokens
use Rattle.refresh_answer.specs.Answering.{Setup, IsLegalRefresh}
use Rattle.refresh_book.specs.Keeps.{Refreshing}
use Rattle.refresh_book.specs.Prepared as token_read
use Rattle.end_request.specs.Returning.{ReturnLists}
use Rattle.signout_answer.specs.declared.asks.EndAsk.{EndAsk}
use Rattle.signout_answer.specs.declared.asks.EndReply.{EndReply}
use Rattle.signout_answer.specs.declared.asks.EndSetup.{EndSetup}
use Rattle.signout_answer.specs.Around.{Outer, plain_inside, notices_inside, end_weight}
use Rattle.signout_answer.specs.Answering.{SignoutSetup, IsLegalSignout}
use Rattle.rp_signout.specs.Keeps.{Signing}
use Rattle.rp_signout.specs.Pages.{end_http}
use Rattle.rp_signout.specs.Prepared.{end_asked, route_asked}
use Rattle.rp_signout.specs.Prepared as signs
use Rattle.pkce_party.specs.declared.reply.PartyReply.{PartyReply}
use Rattle.pkce_party.specs.Adding.{PartyPair}
use Rattle.pkce_party.specs.Inside.{reply_inside}
use Rattle.pkce_party.specs.Keeping.{pairs_of}
use Rattle.pkce_party.specs.Telling.{party_sending, party_http}
use Rattle.serving.specs.Manner.{Manner}
use Rattle.server_roles.specs.Roles.{provider_manner, party_manner}

-- ---- the provider alone

abbrev pub op_plain : OpAsk → Option OpAsk
op_plain asked = Some asked

abbrev pub op_given : OpReply → Option OpReply
op_given reply = Some reply

abbrev pub op_manner : Configuration → Manner OpAsk OpReply
op_manner c = provider_manner op_plain op_notices op_request.prepared (λ asked. asked) op_telling.http_of op_weight.ask_weight c

-- the greatest weight of the provider's history, its setup, and its history
abbrev pub op_most : Configuration → ℕ
op_most c = most_of c.lasting

abbrev pub op_registry : Providing → Configuration
op_registry p = p.registry

abbrev pub op_history : Providing → List OpPair
op_history p = p.history

-- ---- the provider with proof keys around it

abbrev pub Keyed : Type 0
Keyed = Checking Providing OpAsk OpReply

abbrev pub KeyedAsk : Type 0
KeyedAsk = PkceAsk OpAsk

abbrev pub KeyedReply : Type 0
KeyedReply = PkceReply OpReply

abbrev pub keyed_plain : KeyedAsk → Option OpAsk
keyed_plain asked = keys.outer_plain op_plain asked

abbrev pub keyed_given : KeyedReply → Option OpReply
keyed_given reply = keys.outer_given op_given reply

abbrev pub keyed_told : KeyedReply → Option OpReply
keyed_told reply = keys.outer_told op_given reply

abbrev pub keyed_provided : List (Pair KeyedAsk KeyedReply) → List OpPair
keyed_provided h = keys.inner_history h

abbrev pub keyed_notices : KeyedReply → Option (List Message)
keyed_notices reply = keys.outer_notices op_notices reply

abbrev pub keyed_prepared : Configuration → Ask → KeyedAsk
keyed_prepared c request = key_read.asked_around op_plain request (op_request.prepared c request)

abbrev pub keyed_asked : OpAsk → KeyedAsk
keyed_asked asked = key_read.alone asked

abbrev pub keyed_http : Configuration → KeyedReply → HttpReply
keyed_http c reply = key_read.outer_http op_telling.http_of c reply

abbrev pub keyed_weight : KeyedAsk → ℕ
keyed_weight asked = keys.outer_weight op_weight.ask_weight asked

abbrev pub keyed_registry : Keyed → Configuration
keyed_registry p = p.inner.registry

abbrev pub IsKeyedAsk : KeyedAsk → Type 0
IsKeyedAsk asked = IsPkceAsk IsOpAsk asked

abbrev pub IsLegalKeyed : Configuration → List (Pair KeyedAsk KeyedReply) → Type 0
IsLegalKeyed c h = IsLegalPkce op_plain op_given IsOpAsk op_weight.ask_weight op_most op.IsLegalHistory c h

-- ---- the last one with refresh tokens around it

abbrev pub Refreshed : Type 0
Refreshed = Refreshing Keyed KeyedAsk KeyedReply

abbrev pub RefreshedAsk : Type 0
RefreshedAsk = RefreshAsk KeyedAsk

abbrev pub RefreshedReply : Type 0
RefreshedReply = RefreshReply KeyedReply

abbrev pub refreshed_plain : RefreshedAsk → Option OpAsk
refreshed_plain asked = tokens.outer_plain keyed_plain asked

abbrev pub refreshed_notices : RefreshedReply → Option (List Message)
refreshed_notices reply = tokens.outer_notices keyed_notices reply

abbrev pub refreshed_prepared : Configuration → Ask → RefreshedAsk
refreshed_prepared c request = token_read.asked_around keyed_plain c request (keyed_prepared c request)

abbrev pub refreshed_asked : OpAsk → RefreshedAsk
refreshed_asked asked = token_read.alone (keyed_asked asked)

abbrev pub refreshed_http : Configuration → RefreshedReply → HttpReply
refreshed_http c reply = token_read.outer_http keyed_http keyed_told c reply

abbrev pub refreshed_weight : RefreshedAsk → ℕ
refreshed_weight asked = tokens.outer_weight keyed_weight asked

-- the registry of the provider, and the setup, which also has the registry beside it
abbrev pub refreshed_registry : Refreshed → Configuration
refreshed_registry p = keyed_registry p.inner

abbrev pub refreshed_setup : Refreshed → Setup Configuration
refreshed_setup p = record { inner = refreshed_registry p; registry = p.registry }

-- both have the same configuration
abbrev pub alike : Configuration → Setup Configuration
alike c = record { inner = c; registry = c }

abbrev pub refreshed_most : Setup Configuration → ℕ
refreshed_most s = op_most s.inner

abbrev pub IsRefreshedAsk : RefreshedAsk → Type 0
IsRefreshedAsk asked = tokens.IsRefreshAsk IsKeyedAsk asked

abbrev pub IsLegalRefreshed : Setup Configuration → List (Pair RefreshedAsk RefreshedReply) → Type 0
IsLegalRefreshed s h = IsLegalRefresh keyed_plain keyed_given keyed_provided IsKeyedAsk keyed_weight op_most IsLegalKeyed s h

-- ---- any core with questions before a sign-out around it

abbrev pub asking_manner : {A R : Type 0} → (A → Option OpAsk) → (R → Option (List Message)) → (Configuration → Ask → A) → (OpAsk → A)
    → (Configuration → R → HttpReply) → (A → ℕ) → Configuration → Manner (EndAsk A) (EndReply R)
asking_manner plain notices prepared from_op http weighs c =
    provider_manner (plain_inside plain) (notices_inside notices)
    (λ d request. end_asked prepared from_op d request (route_asked d.prefix request)) (λ asked. signs.alone (from_op asked))
    (end_http http) (end_weight weighs) c

abbrev pub asking_most : {S : Type 0} → (S → ℕ) → SignoutSetup S → ℕ
asking_most most s = most s.inner

abbrev pub asking_setup : {P A R S : Type 0} → (P → S) → Signing P A R → SignoutSetup S
asking_setup setup p = record { own = p.setup; inner = setup p.inner }

abbrev pub asking_history : {P A R : Type 0} → Signing P A R → List (Outer A R)
asking_history p = p.history

-- the same where refresh tokens are around the core too, and the questions around these
abbrev pub renewing_manner : {A R : Type 0} → (A → Option OpAsk) → (R → Option OpReply) → (R → Option (List Message))
    → (Configuration → Ask → A) → (OpAsk → A) → (Configuration → R → HttpReply) → (A → ℕ) → Configuration
    → Manner (EndAsk (RefreshAsk A)) (EndReply (RefreshReply R))
renewing_manner plain told notices prepared from_op http weighs c =
    asking_manner (tokens.outer_plain plain) (tokens.outer_notices notices) (λ d request. token_read.asked_around plain d request (prepared d request))
    (λ asked. token_read.alone (from_op asked)) (token_read.outer_http http told) (tokens.outer_weight weighs) c

abbrev pub renewing_most : {S : Type 0} → (S → ℕ) → Setup S → ℕ
renewing_most most s = most s.inner

-- (what is asked and what is replied say of which core it is)
abbrev pub renewing_setup : {P A R S : Type 0} → (A → Option OpAsk) → (R → Option OpReply) → (P → S) → Refreshing P A R → Setup S
renewing_setup plain given setup p = record { inner = setup p.inner; registry = p.registry }

-- ---- the provider of `op-plus`: the last one, with questions before a sign-out around it

abbrev pub OpPlus : Type 0
OpPlus = Signing Refreshed RefreshedAsk RefreshedReply

abbrev pub OpPlusAsk : Type 0
OpPlusAsk = EndAsk RefreshedAsk

abbrev pub OpPlusReply : Type 0
OpPlusReply = EndReply RefreshedReply

-- the setup of the questions, for a configuration and the URIs to which browsers may be sent
abbrev pub end_setup : Configuration → ReturnLists → EndSetup
end_setup c returns = record { registry = c; returns = returns }

-- the setup of the provider, with that of the core inside
abbrev pub op_plus_around : EndSetup → Setup Configuration → SignoutSetup (Setup Configuration)
op_plus_around e s = record { own = e; inner = s }

abbrev pub op_plus_manner : Configuration → Manner OpPlusAsk OpPlusReply
op_plus_manner c = asking_manner refreshed_plain refreshed_notices refreshed_prepared refreshed_asked refreshed_http refreshed_weight c

abbrev pub op_plus_most : SignoutSetup (Setup Configuration) → ℕ
op_plus_most s = refreshed_most s.inner

abbrev pub op_plus_setup : OpPlus → SignoutSetup (Setup Configuration)
op_plus_setup p = op_plus_around p.setup (refreshed_setup p.inner)

abbrev pub op_plus_history : OpPlus → List (Outer RefreshedAsk RefreshedReply)
op_plus_history p = p.history

abbrev pub IsLegalOpPlus : SignoutSetup (Setup Configuration) → List (Outer RefreshedAsk RefreshedReply) → Type 0
IsLegalOpPlus s h = IsLegalSignout refreshed_plain IsRefreshedAsk refreshed_weight refreshed_most IsLegalRefreshed s h

-- ---- the relying party with a number, alone

abbrev pub rp_manner : Configuration → ℕ → Manner RpAsk RpReply
rp_manner c n =
    party_manner (λ asked. asked) (λ reply. reply) sending_in rp_request.prepared rp_request.tokens_prepared rp_request.info_prepared
    (λ asked. asked) rp_telling.http_of rp_weight.ask_weight c n

-- the greatest weight of a relying party's history, its setup, and its history
abbrev pub rp_most : PartySetup → ℕ
rp_most p = most_of p.configuration.lasting

abbrev pub rp_setup : Relying → PartySetup
rp_setup r = r.setup

abbrev pub rp_history : Relying → List RpPair
rp_history r = r.history

-- ---- the same with proof keys

abbrev pub rp_plus_manner : Configuration → ℕ → Manner RpAsk PartyReply
rp_plus_manner c n =
    party_manner (λ asked. asked) reply_inside party_sending rp_request.prepared rp_request.tokens_prepared rp_request.info_prepared
    (λ asked. asked) party_http rp_weight.ask_weight c n

abbrev pub rp_plus_history : Relying → List PartyPair
rp_plus_history r = pairs_of r
