-- A world that has one login alone and keeps all premises, and what its next place has to keep, at the provider and at a party.
use Rattle.std.proofs.Common.{◌≡◌, ℕ, false, List, ◌∷◌, Option, Some, None, refl, sym, ap, ◌∙◌}
use Rattle.std.proofs.lemmas.Option.{same_Some}
use Rattle.sso_base.specs.Words.{Text}
use Rattle.sso_base.specs.declared.http.Ask.{Ask}
use Rattle.client_registry.specs.Configuration.{Configuration}
use Rattle.client_registry.specs.Numbers.{party_row}
use Rattle.op_exchange.specs.declared.ask.OpAsk.{OpAsk}
use Rattle.op_request.specs.Prepared.{prepared as op_prepared}
use Rattle.op_answer.specs.Past.{OpPair}
use Rattle.rp_exchange.specs.declared.ask.RpAsk.{RpAsk}
use Rattle.rp_request.specs.Prepared.{prepared as rp_prepared}
use Rattle.rp_answer.specs.Past.{RpPair}
use Rattle.rp_answer.specs.Alive.{sid_judged}
use Rattle.sso_places.specs.declared.types.Jar.{Jar}
use Rattle.sso_places.specs.declared.types.To.{To}
use Rattle.sso_places.specs.declared.types.To.TheVariants as to
use Rattle.sso_places.specs.declared.types.WorldAsk.{WorldAsk}
use Rattle.sso_places.specs.declared.types.WorldAsk.TheVariants.{Http}
use Rattle.sso_places.specs.declared.types.WorldReply.TheVariants as reply
use Rattle.sso_places.specs.Premises.{forges, leaks, IsUnforged, IsUnleaked, IsJoined, IsJoinedAt}
use Rattle.sso_places.specs.Site.{own_site}
use Rattle.sso_places.specs.World.{Place, Provider, Party, op_past, rp_past, reply_at}
use Rattle.web_requests.specs.declared.sent.Sent.{Sent}
use Rattle.web_requests.specs.Asked.{AsksProvider, AsksParty}
use Rattle.web_requests.specs.Sending.{sent}
use Rattle.honest_places.specs.Alive.{IsNotNamed}
use Rattle.honest_places.specs.InTime.{IsOpInTime, IsRpInTime}
use Rattle.honest_places.specs.Login.{Visitor, called_for, jar_after, FitsJar, is_full, IsHonest, went_on}
use Rattle.honest_worlds.proofs.Growing.{Stands, ProviderReplies, provider_stands, PartyReplies, party_stands}

-- ---- a request that is sent is read as what it asks

same_http : (q r : Ask) → Http q ≡ Http r → q ≡ r
same_http q r h = cc

same_sent : (from : ℕ) (role : To) (o : Option Sent) (q r : Ask) → o ≡ Some (sent from role q) → o ≡ Some (sent from role r) → q ≡ r
same_sent from role o q r one other =
    same_http q r (ap (λ (s : Sent). s.ask) (same_Some (sent from role q) (sent from role r) (sym one ∙ other)))

pub provider_reads_it : (c : Configuration) (from : ℕ) (o : Option Sent) (request : Ask) (asked : OpAsk) → AsksProvider c from o asked → o ≡ Some (sent from to.Provider request) → op_prepared c request ≡ asked
provider_reads_it c from o request asked a is = ap (op_prepared c) (same_sent from to.Provider o request a.request is a.is) ∙ a.read

pub party_reads_it : (c : Configuration) (from n : ℕ) (o : Option Sent) (request : Ask) (asked : RpAsk) → AsksParty c from n o asked → o ≡ Some (sent from (to.Party n) request) → rp_prepared c n request ≡ asked
party_reads_it c from n o request asked a is = ap (rp_prepared c n) (same_sent from (to.Party n) o request a.request is a.is) ∙ a.read

-- ---- the world

module _ (c : Configuration) (v : Visitor) where
  pub record KeepsAll (last : Place) (earlier : List Place) : Type 0 where
    pub stands : Stands c (last ∷ earlier)
    pub unforged : IsUnforged (own_site c) (last ∷ earlier)
    pub unleaked : IsUnleaked (last ∷ earlier)
    pub joined : IsJoined (last ∷ earlier)
    pub honest : IsHonest c v (last ∷ earlier) (last ∷ earlier)

  module _ (last : Place) (earlier : List Place) where
    abbrev L : List Place
    L = last ∷ earlier

    -- the provider is asked next, under this number
    pub record NextAtProvider (from : ℕ) (request : Ask) (p : OpPair) : Type 0 where
      pub jar : Jar
      pub called : called_for c v jar earlier (reply_at last) ≡ Some (sent from to.Provider request)
      pub cookies : FitsJar jar (jar_after to.Provider L)
      pub replies : ProviderReplies c L request p
      pub in_time : IsOpInTime None (op_past L) p.entry.at p.entry.ask
      pub room : is_full (reply.Provider p.reply) ≡ false
      pub unforged : forges (own_site c) L (Provider from request p) ≡ false
      pub unleaked : leaks L (Provider from request p) ≡ false

    pub provider_next : (from : ℕ) (request : Ask) (p : OpPair) → KeepsAll last earlier → NextAtProvider from request p → KeepsAll (Provider from request p) L
    provider_next from request p k next =
        record {
          stands = provider_stands c L from request p k.stands next.replies;
          unforged = (k.unforged, next.unforged);
          unleaked = (k.unleaked, next.unleaked);
          joined = k.joined;
          honest =
              went_on L last earlier (Provider from request p) k.honest
              (record {
                jar = next.jar;
                done = sent from to.Provider request;
                called = next.called;
                asked = refl;
                cookies = λ kept. next.cookies;
                in_time = next.in_time;
                alive = tt;
                room = λ kept. next.room;
              });
        }

    -- or the party of a number
    pub record NextAtParty (n from : ℕ) (request : WorldAsk) (p : RpPair) : Type 0 where
      pub jar : Jar
      pub called : called_for c v jar earlier (reply_at last) ≡ Some (record { from = from; to = to.Party n; ask = request })
      pub cookies : FitsJar jar (jar_after (to.Party n) L)
      pub replies : PartyReplies c L n request p
      pub in_time : IsRpInTime None (party_row c n).types (rp_past n L) p.entry.at p.entry.ask
      pub alive : (sid : Text) → sid_judged (party_row c n).types (rp_past n L) p.entry.at p.entry.ask ≡ Some sid → IsNotNamed (rp_past n L) sid
      pub room : is_full (reply.Party p.reply) ≡ false
      pub unforged : forges (own_site c) L (Party n from request p) ≡ false
      pub unleaked : leaks L (Party n from request p) ≡ false
      pub joined : IsJoinedAt L from request

    pub party_next : (n from : ℕ) (request : WorldAsk) (p : RpPair) → KeepsAll last earlier → NextAtParty n from request p → KeepsAll (Party n from request p) L
    party_next n from request p k next =
        record {
          stands = party_stands c L n from request p k.stands next.replies;
          unforged = (k.unforged, next.unforged);
          unleaked = (k.unleaked, next.unleaked);
          joined = (k.joined, next.joined);
          honest =
              went_on L last earlier (Party n from request p) k.honest
              (record {
                jar = next.jar;
                done = record { from = from; to = to.Party n; ask = request };
                called = next.called;
                asked = refl;
                cookies = λ kept. next.cookies;
                in_time = next.in_time;
                alive = λ sid is kept. next.alive sid is;
                room = λ kept. next.room;
              });
        }
