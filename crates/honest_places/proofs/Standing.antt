-- What is sent to a place is its request.
use Rattle.std.proofs.Common.{◌≡◌, ℕ, Option, Some, ap, ◌∙◌}
use Rattle.std.proofs.lemmas.Option.{same_Some}
use Rattle.sso_base.specs.Words.{Word}
use Rattle.sso_base.specs.declared.http.Ask.{Ask}
use Rattle.client_registry.specs.Configuration.{Configuration}
use Rattle.op_exchange.specs.declared.ask.OpAsk.{OpAsk}
use Rattle.op_request.specs.Prepared.{prepared as op_prepared}
use Rattle.op_answer.specs.Past.{OpPair}
use Rattle.rp_exchange.specs.declared.ask.RpAsk.{RpAsk}
use Rattle.rp_answer.specs.Past.{RpPair}
use Rattle.sso_places.specs.declared.types.To.TheVariants as to
use Rattle.sso_places.specs.declared.types.WorldAsk.{WorldAsk}
use Rattle.sso_places.specs.declared.types.WorldAsk.TheVariants.{Http, Tokens, Info}
use Rattle.sso_places.specs.Legal.{party_prepared, IsAsked}
use Rattle.sso_places.specs.World.{Place, Provider, Party, Nothing}
use Rattle.web_requests.specs.declared.sent.Sent.{Sent}
use Rattle.web_requests.specs.Sending.{sent}
use Rattle.honest_places.specs.Login.{sent_at}
use Rattle.web_requests.specs.Asked.{AsksProvider, AsksParty, AnswersTokens, AnswersInfo}

pub record AtProvider (from : ℕ) (asked : OpAsk) (x : Place) : Type 0 where
  pub request : Ask
  pub pair : OpPair
  pub place : x ≡ Provider from request pair
  pub ask : pair.entry.ask ≡ asked

pub record AtParty (n from : ℕ) (asked : RpAsk) (x : Place) : Type 0 where
  pub request : WorldAsk
  pub pair : RpPair
  pub place : x ≡ Party n from request pair
  pub ask : pair.entry.ask ≡ asked

same_request : (a b : Ask) → Http a ≡ Http b → a ≡ b
same_request a b h = cc

same_number : (m n : ℕ) → to.Party m ≡ to.Party n → m ≡ n
same_number m n h = cc

module _ (c : Configuration) where
  at_provider : (x : Place) (from : ℕ) (request : Ask) (asked : OpAsk) → sent_at x ≡ Some (sent from to.Provider request) → op_prepared c request ≡ asked → IsAsked c x → AtProvider from asked x
  at_provider (Provider k got p) from request asked h read stands =
      let same : sent k to.Provider got ≡ sent from to.Provider request = same_Some (sent k to.Provider got) (sent from to.Provider request) h in
      let number : k ≡ from = ap (λ (s : Sent). s.from) same in
      let whole : got ≡ request = same_request got request (ap (λ (s : Sent). s.ask) same) in
      record { request = got; pair = p; place = ap (λ i. Provider i got p) number; ask = stands ∙ ap (op_prepared c) whole ∙ read }
  at_provider (Party m k got p) from request asked h read stands =
      let same : (record { from = k; to = to.Party m; ask = got }) ≡ sent from to.Provider request = same_Some (record { from = k; to = to.Party m; ask = got }) (sent from to.Provider request) h in
      let never : to.Party m ≡ to.Provider = ap (λ (s : Sent). s.to) same in
      absurd (cc)
  at_provider Nothing from request asked h read stands = absurd (cc)

  at_party : (x : Place) (from n : ℕ) (request : WorldAsk) (asked : RpAsk) → sent_at x ≡ Some (record { from = from; to = to.Party n; ask = request }) → party_prepared c n request ≡ asked → IsAsked c x → AtParty n from asked x
  at_party (Provider k got p) from n request asked h read stands =
      let same : sent k to.Provider got ≡ record { from = from; to = to.Party n; ask = request } = same_Some (sent k to.Provider got) (record { from = from; to = to.Party n; ask = request }) h in
      let never : to.Provider ≡ to.Party n = ap (λ (s : Sent). s.to) same in
      absurd (cc)
  at_party (Party m k got p) from n request asked h read stands =
      let given : Sent = record { from = k; to = to.Party m; ask = got } in
      let same : given ≡ record { from = from; to = to.Party n; ask = request } = same_Some given (record { from = from; to = to.Party n; ask = request }) h in
      let number : k ≡ from = ap (λ (s : Sent). s.from) same in
      let whole : got ≡ request = ap (λ (s : Sent). s.ask) same in
      let role : m ≡ n = same_number m n (ap (λ (s : Sent). s.to) same) in
      record {
        request = got;
        pair = p;
        place = ap (λ i. Party i k got p) role ∙ ap (λ i. Party n i got p) number;
        ask = stands.1 ∙ ap (λ i. party_prepared c i got) role ∙ ap (party_prepared c n) whole ∙ read;
      }
  at_party Nothing from n request asked h read stands = absurd (cc)

  -- what a lemma says is sent, and was sent to the place
  module _ (x : Place) (o : Option Sent) (is : sent_at x ≡ o) (stands : IsAsked c x) where
    pub provider_stands : (from : ℕ) (asked : OpAsk) → AsksProvider c from o asked → AtProvider from asked x
    provider_stands from asked a = at_provider x from a.request asked (is ∙ a.is) a.read stands

    pub party_stands : (from n : ℕ) (asked : RpAsk) → AsksParty c from n o asked → AtParty n from asked x
    party_stands from n asked a = at_party x from n (Http a.request) asked (is ∙ a.is) a.read stands

    pub tokens_stand : (from n : ℕ) (w : Word) (asked : RpAsk) → AnswersTokens c from n w o asked → AtParty n from asked x
    tokens_stand from n w asked a = at_party x from n (Tokens w a.answer) asked (is ∙ a.is) a.read stands

    pub info_stands : (from n : ℕ) (w : Word) (asked : RpAsk) → AnswersInfo from n w o asked → AtParty n from asked x
    info_stands from n w asked a = at_party x from n (Info w a.answer) asked (is ∙ a.is) a.read stands
