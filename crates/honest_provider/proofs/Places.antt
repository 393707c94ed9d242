-- The places of a login at the provider, by the request.
use Rattle.std.proofs.Common.{◌≡◌, ◌≤◌, ◌<◌, ℕ, true, false, List, ◌∷◌, length, Some, None, Ok, refl, sym, ◌∙◌, ap, subst, ◌⊎◌, arith}
use Rattle.std.specs.List.{list_any}
use Rattle.sso_base.specs.Words.{Word, IsWord, fresh_word, word_text}
use Rattle.client_registry.specs.Configuration.{Configuration}
use Rattle.client_registry.specs.Numbers.{party_row}
use Rattle.client_registry.specs.Registered.{IsRegistry}
use Rattle.oidc_words.specs.declared.response_types.Types.{Types}
use Rattle.auth_request.specs.declared.wish.Verdict.TheVariants as verdict
use Rattle.userinfo.specs.declared.header.Bearer.TheVariants.{Given}
use Rattle.op_issue.specs.declared.issuing.Authentication.{Authentication}
use Rattle.op_exchange.specs.declared.ask.OpAsk.TheVariants as ask
use Rattle.sso_places.specs.declared.types.Jar.{Jar}
use Rattle.sso_places.specs.declared.types.To.TheVariants as to
use Rattle.sso_places.specs.Premises.{last_at}
use Rattle.sso_places.specs.World.{Place, World, reply_at}
use Rattle.honest_places.specs.Login.{Visitor, wants_none, jar_after, FitsJar, is_full}
use Rattle.honest_places.specs.InTime.{IsInTime}
use Rattle.honest_places.specs.Outcome.{gives_password}
use Rattle.honest_places.specs.OwnWish.{own_wish}
use Rattle.honest_places.proofs.OwnWish.{own_types_are}
use Rattle.honest_places.proofs.Standing.{AtProvider}
use Rattle.honest_places.proofs.Worlds.{Now}
use Rattle.honest_provider.proofs.Facts.{TurnWaits, ConsentWaits, AccessWaits}
use Rattle.honest_provider.proofs.Outcomes.{Paged, Consenting, AnswerKnown, Answering, Giving, Telling}
use Rattle.honest_provider.proofs.Authorizing.{authorizes}
use Rattle.honest_provider.proofs.Posting.{logs, agrees}
use Rattle.honest_provider.proofs.Redeeming.{redeems, tells}

not_before : (a b d : ℕ) → a ≤ b → b ≤ d → a ≤ d
not_before a b d one two = omega (arith, one, two)

module _ (c : Configuration) (v : Visitor) (r : IsRegistry c) (low : v.party < length c.parties) (silent : wants_none c v.party ≡ false) (login : List Place) (world : World) where
  -- what is said of a place, with what is known of it
  abbrev If : (Place → Type 0) → Place → Type 0
  If Says y = Now c y world → is_full (reply_at y) ≡ false → IsInTime None c world y → Says y

  module _ (x : Place) (now : Now c x world) (room : is_full (reply_at x) ≡ false) (time : IsInTime None c world x) where
    abbrev Begins : Word → Word → ℕ → Place → Type 0
    Begins state nonce begun y =
        Paged c v (y ∷ login) (y ∷ world) y state nonce
        ⊎ (Consenting c v (y ∷ login) (y ∷ world) y state nonce begun ⊎ Answering c v (y ∷ login) (y ∷ world) y state nonce begun)

    pub at_authorize : (jar : Jar) (state nonce : Word) (begun : ℕ) → AtProvider v.browser (ask.Authorize (verdict.Grant (own_wish c v.party state nonce)) jar.first jar.second) x
        → IsWord state → IsWord nonce → begun ≤ last_at world → list_any gives_password login ≡ false → Begins state nonce begun x
    at_authorize jar state nonce begun at state_word nonce_word gone none =
        let go : If (Begins state nonce begun) x = subst (If (Begins state nonce begun)) (sym at.place) (λ n m i.
        authorizes (record { registry = r; low = low; silent = silent; now = n; room = m }) jar state nonce begun state_word nonce_word at.ask
        (not_before begun (last_at world) at.pair.entry.at gone (n.order.1 at.pair.entry.at refl)) none) in
        go now room time

    abbrev LogsIn : Word → Word → ℕ → Place → Type 0
    LogsIn state nonce begun y = Consenting c v (y ∷ login) (y ∷ world) y state nonce begun ⊎ Answering c v (y ∷ login) (y ∷ world) y state nonce begun

    pub at_login : (jar : Jar) (turn browser state nonce : Word) (begun : ℕ) → TurnWaits c v login world turn browser state nonce
        → AtProvider v.browser (ask.Login (Some turn) (Some v.user) jar.first jar.second) x → FitsJar jar (jar_after to.Provider login) → begun ≤ last_at world → LogsIn state nonce begun x
    at_login jar turn browser state nonce begun waits at fits gone =
        let go : If (LogsIn state nonce begun) x = subst (If (LogsIn state nonce begun)) (sym at.place) (λ n m i.
        logs (record { registry = r; low = low; silent = silent; now = n; room = m }) jar turn browser state nonce waits fits begun
        (not_before begun (last_at world) at.pair.entry.at gone (n.order.1 at.pair.entry.at refl)) at.ask i) in
        go now room time

    abbrev Agrees : Word → Word → ℕ → Place → Type 0
    Agrees state nonce begun y = Answering c v (y ∷ login) (y ∷ world) y state nonce begun

    pub at_consent : (jar : Jar) (turn browser state nonce : Word) (begun : ℕ) → ConsentWaits c v login world turn browser state nonce begun
        → AtProvider v.browser (ask.Consent (Some turn) true jar.first jar.second) x → FitsJar jar (jar_after to.Provider login) → begun ≤ last_at world → Agrees state nonce begun x
    at_consent jar turn browser state nonce begun waits at fits gone =
        let go : If (Agrees state nonce begun) x = subst (If (Agrees state nonce begun)) (sym at.place) (λ n m i.
        agrees (record { registry = r; low = low; silent = silent; now = n; room = m }) jar turn browser state nonce begun
        (not_before begun (last_at world) at.pair.entry.at gone (n.order.1 at.pair.entry.at refl)) waits fits at.ask i) in
        go now room time

    abbrev Redeems : Word → Word → ℕ → ℕ → ℕ → Place → Type 0
    Redeems state nonce begun user since y = Giving c v (y ∷ login) (y ∷ world) y state nonce begun user since

    pub at_token : (state nonce : Word) (begun since : ℕ) (who : Authentication) (answered : ℕ) (fresh : List Word) → AnswerKnown c v login world state nonce begun who answered fresh
        → (party_row c v.party).types.code ≡ true
        → AtProvider 0 (ask.Token (Ok (record { client = (party_row c v.party).client; code = word_text (fresh_word fresh 2); redirect = (party_row c v.party).redirect }))) x
        → since ≤ last_at world → Redeems state nonce begun who.user since x
    at_token state nonce begun since who answered fresh known wants at gone =
        let code = known.known.code (ap (λ (t : Types). t.code) (own_types_are c v.party state nonce r low) ∙ wants) in
        let go : If (Redeems state nonce begun who.user since) x = subst (If (Redeems state nonce begun who.user since)) (sym at.place) (λ n m i.
        redeems (record { registry = r; low = low; silent = silent; now = n; room = m }) state nonce (fresh_word fresh 2) begun since who answered
        (not_before since (last_at world) at.pair.entry.at gone (n.order.1 at.pair.entry.at refl)) known.age known.may code at.ask i) in
        go now room time

    abbrev Tells : ℕ → Place → Type 0
    Tells user y = Telling c v (y ∷ login) (y ∷ world) y user

    pub at_info : (access : Word) (user : ℕ) → AccessWaits c v login world access user → AtProvider 0 (ask.Info (Given access)) x → Tells user x
    at_info access user waits at =
        let go : If (Tells user) x = subst (If (Tells user)) (sym at.place) (λ n m i.
        tells (record { registry = r; low = low; silent = silent; now = n; room = m }) access user waits at.ask i) in
        go now room time
