-- A world after one of its roles received a request, by the contracts of its parts.
use Rattle.std.proofs.Common.{◌≡◌, ℕ, ◌+◌, ◌<◌, ◌≤◌, List, ◌∷◌, length, reverse, None, Some, Result, Ok, Err, OnOk, OnErr, slice_get, refl, sym, ap, ◌∙◌, subst}
use Rattle.std.proofs.lemmas.List.{reverse-reverse}
use Rattle.sso_base.specs.Words.{Word}
use Rattle.sso_base.specs.Journal.{history_weight, most_of}
use Rattle.sso_base.specs.declared.http.Ask.{Ask}
use Rattle.client_registry.specs.Configuration.{Configuration}
use Rattle.op_exchange.specs.Weight.{ask_weight as op_weight}
use Rattle.op_answer.specs.Past.{OpPair}
use Rattle.op_core.specs.Providing.{Providing}
use Rattle.rp_exchange.specs.declared.ask.RpAsk.{RpAsk}
use Rattle.rp_exchange.specs.Weight.{ask_weight as rp_weight}
use Rattle.rp_answer.specs.Past.{RpPair}
use Rattle.rp_answer.specs.Setup.{PartySetup}
use Rattle.rp_core.specs.Relying.{Relying}
use Rattle.sso_places.specs.declared.types.To.TheVariants as to
use Rattle.sso_places.specs.declared.types.WorldAsk.{WorldAsk}
use Rattle.sso_places.specs.declared.types.WorldAsk.TheVariants.{Http}
use Rattle.sso_places.specs.declared.types.WorldReply.TheVariants as reply
use Rattle.sso_places.specs.Site.{own_site}
use Rattle.sso_places.specs.World.{Place, World, op_past, rp_past}
use Rattle.running_world.specs.declared.kept.Kept.{Kept}
use Rattle.cookie_jars.specs.Jars.{jars_after}
use Rattle.running_world.specs.Running.{Running, op_place, rp_place, places_of, world_of}
use Rattle.running_world.specs.Stepping.{stepped, role_weight}
use Rattle.running_world.specs.Transcribed.{Transcribed}
use Rattle.running_world.specs.Worlds.{shown, IsParty, IsWorld, OpAsked, RpAsked}
use Rattle.running_world.proofs.Places.{op_world, op_stepped, rp_world, rp_stepped, nothing_world, get_some}

-- what the roles and the places keep, of a world as it is seen
abbrev pub Stands : Providing → List Relying → Running → Type 0
Stands provider parties r = IsWorld r.registry provider parties (world_of r)

-- ---- the provider received a request

module _ (before after : Providing) (parties : List Relying) (old new : Transcribed) (from at : ℕ) (fresh : List Word) (request : Ask) (is : Stands before parties (shown old)) (asked : OpAsked before after old new from at fresh request) where
  op_places : world_of (shown new) ≡ op_place old.registry from asked.moment fresh request asked.answer ∷ world_of (shown old)
  op_places = ap (λ (r : Configuration). places_of r new.kept) asked.is.registry ∙ ap (places_of old.registry) asked.is.kept

  pub op_stands : Stands after parties (shown new)
  op_stands =
      let x : Place = op_place old.registry from asked.moment fresh request asked.answer in
      let W : World → Type 0 = λ w. IsWorld new.registry after parties w in
      let R : Configuration → Type 0 = λ r. IsWorld r after parties (x ∷ world_of (shown old)) in
      subst W (sym op_places) (subst R (sym asked.is.registry) (op_world old.registry before after parties (world_of (shown old)) is from at asked.moment fresh request asked.answer asked.steps))

  op_is : op_place old.registry from asked.moment fresh request asked.answer ≡ stepped (own_site old.registry) from to.Provider at fresh (Http request) (world_of (shown old))
  op_is = op_stepped old.registry before after parties (world_of (shown old)) is from at asked.moment fresh request asked.answer asked.steps

  pub op_more : world_of (shown new) ≡ stepped (own_site old.registry) from to.Provider at fresh (Http request) (world_of (shown old)) ∷ world_of (shown old)
  op_more = op_places ∙ ap (λ (x : Place). x ∷ world_of (shown old)) op_is

  pub op_jars : new.jars ≡ jars_after (stepped (own_site old.registry) from to.Provider at fresh (Http request) (world_of (shown old))) old.jars
  op_jars = asked.is.jars ∙ ap (λ (x : Place). jars_after x old.jars) op_is

pub op_weighs : (provider : Providing) (parties : List Relying) (r : Running) → Stands provider parties r → history_weight op_weight provider.history ≡ role_weight to.Provider (world_of r)
op_weighs provider parties r is =
    let turned : provider.history ≡ reverse (op_past (world_of r)) = sym (reverse-reverse provider.history) ∙ ap (λ (p : List OpPair). reverse p) is.past in
    ap (λ (h : List OpPair). history_weight op_weight h) turned

-- ---- a party was

module _ (provider : Providing) (before after : List Relying) (old new : Transcribed) (from n at : ℕ) (low : n < length old.registry.parties) (fresh : List Word) (ask : WorldAsk) (is : Stands provider before (shown old)) (asked : RpAsked before after old new from n at fresh ask) where
  rp_places : world_of (shown new) ≡ rp_place old.registry n from asked.moment fresh ask asked.answer ∷ world_of (shown old)
  rp_places = ap (λ (r : Configuration). places_of r new.kept) asked.is.registry ∙ ap (places_of old.registry) asked.is.kept

  pub rp_stands : Stands provider after (shown new)
  rp_stands =
      let x : Place = rp_place old.registry n from asked.moment fresh ask asked.answer in
      let W : World → Type 0 = λ w. IsWorld new.registry provider after w in
      let R : Configuration → Type 0 = λ r. IsWorld r provider after (x ∷ world_of (shown old)) in
      subst W (sym rp_places) (subst R (sym asked.is.registry) (rp_world old.registry provider before after (world_of (shown old)) is from n at asked.moment low fresh ask asked.answer asked.steps))

  rp_is : rp_place old.registry n from asked.moment fresh ask asked.answer ≡ stepped (own_site old.registry) from (to.Party n) at fresh ask (world_of (shown old))
  rp_is = rp_stepped old.registry provider before after (world_of (shown old)) is from n at asked.moment low fresh ask asked.answer asked.steps

  pub rp_more : world_of (shown new) ≡ stepped (own_site old.registry) from (to.Party n) at fresh ask (world_of (shown old)) ∷ world_of (shown old)
  rp_more = rp_places ∙ ap (λ (x : Place). x ∷ world_of (shown old)) rp_is

  pub rp_jars : new.jars ≡ jars_after (stepped (own_site old.registry) from (to.Party n) at fresh ask (world_of (shown old))) old.jars
  rp_jars = asked.is.jars ∙ ap (λ (x : Place). jars_after x old.jars) rp_is

pub rp_found : (provider : Providing) (parties : List Relying) (r : Running) (n : ℕ) → Stands provider parties r → n < length r.registry.parties → (role : Relying) × (slice_get parties n ≡ Some role)
rp_found provider parties r n is low =
    let L : ℕ → Type 0 = λ m. n < m in
    get_some parties n (subst L (sym is.count) low)

pub rp_weighs : (provider : Providing) (parties : List Relying) (r : Running) (n : ℕ) (role : Relying) → Stands provider parties r → slice_get parties n ≡ Some role → history_weight rp_weight role.history ≡ role_weight (to.Party n) (world_of r)
rp_weighs provider parties r n role is there =
    let party : IsParty r.registry (world_of r) n role = is.each n role there in
    let turned : role.history ≡ reverse (rp_past n (world_of r)) = sym (reverse-reverse role.history) ∙ ap (λ (p : List RpPair). reverse p) party.past in
    ap (λ (h : List RpPair). history_weight rp_weight h) turned

-- the limit of its history is the registry's
pub rp_limit : (provider : Providing) (parties : List Relying) (r : Running) (n : ℕ) (role : Relying) → Stands provider parties r → slice_get parties n ≡ Some role → most_of role.setup.configuration.lasting ≡ most_of r.registry.lasting
rp_limit provider parties r n role is there =
    let party : IsParty r.registry (world_of r) n role = is.each n role there in
    ap (λ (s : PartySetup). most_of s.configuration.lasting) party.setup

pub rp_room : {E : Type 0} (result : Result (Unit {0}) E) (provider : Providing) (parties : List Relying) (r : Running) (n : ℕ) (role : Relying) (asked : RpAsk) → Stands provider parties r → slice_get parties n ≡ Some role
    → OnOk result (history_weight rp_weight role.history + rp_weight asked ≤ most_of role.setup.configuration.lasting)
    → OnOk result (role_weight (to.Party n) (world_of r) + rp_weight asked ≤ most_of r.registry.lasting)
rp_room (Ok done) provider parties r n role asked is there room =
    let W : ℕ → Type 0 = λ w. w + rp_weight asked ≤ most_of r.registry.lasting in
    let M : ℕ → Type 0 = λ m. history_weight rp_weight role.history + rp_weight asked ≤ m in
    subst W (rp_weighs provider parties r n role is there) (subst M (rp_limit provider parties r n role is there) room)
rp_room (Err why) provider parties r n role asked is there room = room

-- ---- nothing changed

pub stands_same : (provider provider2 : Providing) (parties parties2 : List Relying) (r s : Running) → provider2 ≡ provider → parties2 ≡ parties → s ≡ r → Stands provider parties r → Stands provider2 parties2 s
stands_same provider provider2 parties parties2 r s p q e is =
    let P : Providing → Type 0 = λ z. Stands z parties r in
    let Q : List Relying → Type 0 = λ z. Stands provider2 z r in
    let R : Running → Type 0 = λ z. Stands provider2 parties2 z in
    subst R (sym e) (subst Q (sym q) (subst P (sym p) is))

-- ---- whether there was an answer or not

module _ {E : Type 0} where
  pub op_keeps : (result : Result (Unit {0}) E) (before after : Providing) (parties : List Relying) (old new : Transcribed) (from at : ℕ) (fresh : List Word) (request : Ask) → Stands before parties (shown old) → OnOk result (OpAsked before after old new from at fresh request)
      → OnErr result (after ≡ before) → OnErr result (shown new ≡ shown old) → Stands after parties (shown new)
  op_keeps (Ok u) before after parties old new from at fresh request is asked same stays = op_stands before after parties old new from at fresh request is asked
  op_keeps (Err e) before after parties old new from at fresh request is asked same stays =
      stands_same before after parties parties (shown old) (shown new) same refl stays is

  pub rp_keeps : (result : Result (Unit {0}) E) (provider : Providing) (before after : List Relying) (old new : Transcribed) (from n at : ℕ) (fresh : List Word) (ask : WorldAsk) → n < length old.registry.parties → Stands provider before (shown old)
      → OnOk result (RpAsked before after old new from n at fresh ask) → OnErr result (after ≡ before) → OnErr result (shown new ≡ shown old) → Stands provider after (shown new)
  rp_keeps (Ok u) provider before after old new from n at fresh ask low is asked same stays = rp_stands provider before after old new from n at low fresh ask is asked
  rp_keeps (Err e) provider before after old new from n at fresh ask low is asked same stays =
      stands_same provider provider before after (shown old) (shown new) refl same stays is

  pub skip_keeps : (result : Result (Unit {0}) E) (provider : Providing) (parties : List Relying) (old new : Transcribed) → Stands provider parties (shown old) → new.registry ≡ old.registry
      → OnOk result (new.kept ≡ record { asked = None; reply = reply.Nothing } ∷ old.kept) → OnErr result (new.kept ≡ old.kept) → Stands provider parties (shown new)
  skip_keeps (Ok u) provider parties old new is registry kept stays =
      let R : Configuration → Type 0 = λ r. IsWorld r provider parties (places_of r new.kept) in
      let K : List Kept → Type 0 = λ ks. IsWorld old.registry provider parties (places_of old.registry ks) in
      subst R (sym registry) (subst K (sym kept) (nothing_world old.registry provider parties (places_of old.registry old.kept) is))
  skip_keeps (Err e) provider parties old new is registry kept stays =
      let R : Configuration → Type 0 = λ r. IsWorld r provider parties (places_of r new.kept) in
      let K : List Kept → Type 0 = λ ks. IsWorld old.registry provider parties (places_of old.registry ks) in
      subst R (sym registry) (subst K (sym stays) is)
