-- The next place of an honest login: what is known of it before its reply.
use Rattle.std.proofs.Common.{◌≡◌, ◌≤◌, ◌||◌, ℕ, false, List, ◌∷◌, length, Option, None, refl, sym, ap, ◌∙◌, subst, arith, true≢false}
use Rattle.std.specs.List.{list_any}
use Rattle.std.proofs.lemmas.Option.{same_Some}
use Rattle.sso_base.specs.Words.{Word, IsWord, fresh_word}
use Rattle.client_registry.specs.Configuration.{Configuration, subject_at}
use Rattle.client_registry.specs.Numbers.{party_row}
use Rattle.client_registry.specs.Registered.{IsRegistry}
use Rattle.login_request.specs.Parties.{MayAsk}
use Rattle.op_exchange.specs.declared.ask.OpAsk.{OpAsk}
use Rattle.rp_answer.specs.Past.{RpPair}
use Rattle.rp_answer.specs.Setup.{PartySetup}
use Rattle.rp_answer.specs.Replies.{entered}
use Rattle.rp_answer.specs.Legal.{IsLegalRp}
use Rattle.sso_places.specs.declared.types.To.{To}
use Rattle.sso_places.specs.declared.types.To.TheVariants as to
use Rattle.sso_places.specs.declared.types.WorldAsk.{WorldAsk}
use Rattle.sso_places.specs.Legal.{IsLegalWorld}
use Rattle.sso_places.specs.Site.{own_site, setup_at}
use Rattle.sso_places.specs.World.{Place, Party, World, moment_of, rp_past, reply_at}
use Rattle.sso_places.proofs.Objects.{may_ask}
use Rattle.web_requests.specs.declared.sent.Sent.{Sent}
use Rattle.web_requests.specs.Sending.{sent}
use Rattle.honest_places.specs.Login.{Visitor, wants_none, MayLogIn, sent_at, called_for, jar_after, FitsJar, is_full, Continues}
use Rattle.honest_places.specs.InTime.{IsRpInTime, IsInTime}
use Rattle.sso_places.specs.Premises.{last_at}
use Rattle.honest_places.specs.Outcome.{is_login_form, gives_password}
use Rattle.honest_places.proofs.Standing.{AtProvider}
use Rattle.honest_party.proofs.Steps.{WasFree}
use Rattle.honest_login.proofs.Thread.{Knows, is_in}
use Rattle.sso_places.proofs.Places.{party_legal}
use Rattle.honest_places.specs.Conditions.{last_cookies, free_rows, party_may_ask}
use Rattle.honest_places.proofs.Conditions.{demanded}
use Rattle.honest_places.proofs.OwnWords.{IsOwn, own_drawn}
use Rattle.honest_places.proofs.Worlds.{Now, IsVisitor}

-- the login goes on, at this place
pub record Goes (c : Configuration) (v : Visitor) (world : World) (last : Place) (earlier : List Place) (x : Place) : Type 0 where
  pub registry : IsRegistry c
  pub may : MayLogIn c v
  pub now : Now c x world
  pub step : Continues None c v world x last earlier

module _ {c : Configuration} {v : Visitor} {world : World} {last : Place} {earlier : List Place} {x : Place} (g : Goes c v world last earlier x) where
  abbrev S : PartySetup
  S = setup_at (own_site c) v.party

  abbrev L : List Place
  L = last ∷ earlier

  abbrev Next : Type 0
  Next = Knows c v (x ∷ world) x L

  pub was_sent : (o : Option Sent) → called_for c v g.step.jar earlier (reply_at last) ≡ o → sent_at x ≡ o
  was_sent o h = g.step.asked ∙ sym g.step.called ∙ h

  pub free : is_full (reply_at x) ≡ false
  free = demanded free_rows (is_full (reply_at x) ≡ false) g.step.room

  pub room : WasFree c world x
  room = record { room = λ table full. absurd (true≢false (sym (ap is_full full) ∙ free)); alive = g.step.alive }

  pub silent : wants_none c v.party ≡ false
  silent = demanded party_may_ask (wants_none c v.party ≡ false) g.may.may_ask

  cookies : FitsJar g.step.jar (jar_after g.step.done.to (last ∷ earlier))
  cookies = demanded last_cookies (FitsJar g.step.jar (jar_after g.step.done.to (last ∷ earlier))) g.step.cookies

  pub may_at : (state nonce : Word) → IsWord state → IsWord nonce → MayAsk c v.party c.provider.issuer state nonce
  may_at state nonce sw nw = may_ask (own_site c) v.party state nonce (record { registry = g.registry; one_issuer = λ i. refl }) g.may.party sw nw

  -- ---- a place at the provider

  pub jar_at_provider : (from : ℕ) (asked : OpAsk) → AtProvider from asked x → FitsJar g.step.jar (jar_after to.Provider L)
  jar_at_provider from asked at =
      let same : g.step.done ≡ sent from to.Provider at.request = same_Some g.step.done (sent from to.Provider at.request) (sym g.step.asked ∙ ap sent_at at.place) in
      let F : To → Type 0 = λ t. FitsJar g.step.jar (jar_after t L) in
      subst F (ap (λ (s : Sent). s.to) same) cookies

  pub quiet_at : (from : ℕ) (asked : OpAsk) → AtProvider from asked x → is_login_form asked ≡ false → list_any gives_password (x ∷ L) ≡ list_any gives_password L
  quiet_at from asked at h =
      ap (λ y. gives_password y || list_any gives_password L) at.place
      ∙ ap (λ a. is_login_form a || list_any gives_password L) at.ask
      ∙ ap (λ t. t || list_any gives_password L) h

  pub visitor_at : (user : ℕ) → list_any gives_password (x ∷ L) ≡ list_any gives_password L → IsVisitor v L user → IsVisitor v (x ∷ L) user
  visitor_at user same is h = is (sym same ∙ h)

  -- ---- a place at the party

  pub record OfParty (p : RpPair) : Type 0 where
    pub last_is : last_at (x ∷ world) ≡ p.entry.at
    pub before : last_at world ≤ p.entry.at
    pub quiet : list_any gives_password (x ∷ L) ≡ list_any gives_password L
    pub in_time : IsRpInTime None (party_row c v.party).types (rp_past v.party world) p.entry.at p.entry.ask
    pub own : IsOwn (x ∷ L) (x ∷ world) (fresh_word p.entry.fresh 0)

  pub of_party : (request : WorldAsk) (p : RpPair) → x ≡ Party v.party v.browser request p → OfParty p
  of_party request p is =
      let I : Place → Type 0 = λ y. IsInTime None c world y in
      let W : Place → Type 0 = λ y. IsLegalWorld (own_site c) (y ∷ world) in
      let legal : IsLegalRp S (p ∷ rp_past v.party world) = party_legal (own_site c) v.party v.browser request p world (subst W is g.now.legal) in
      let O : Place → Type 0 = λ y. IsOwn (y ∷ L) (y ∷ world) (fresh_word p.entry.fresh 0) in
      record {
        last_is = ap (λ y. last_at (y ∷ world)) is;
        before = g.now.order.1 p.entry.at (ap moment_of is);
        quiet = ap (λ y. gives_password y || list_any gives_password L) is;
        in_time = subst I is g.step.in_time;
        own = subst O (sym is) (own_drawn L world (Party v.party v.browser request p) 0 (omega arith) legal.1.four);
      }

  pub jar_at_party : (request : WorldAsk) (p : RpPair) → x ≡ Party v.party v.browser request p → FitsJar g.step.jar (jar_after (to.Party v.party) L)
  jar_at_party request p is =
      let whole : Sent = record { from = v.browser; to = to.Party v.party; ask = request } in
      let same : g.step.done ≡ whole = same_Some g.step.done whole (sym g.step.asked ∙ ap sent_at is) in
      let F : To → Type 0 = λ t. FitsJar g.step.jar (jar_after t L) in
      subst F (ap (λ (s : Sent). s.to) same) cookies

  pub enters : (user : ℕ) (request : WorldAsk) (p : RpPair) → x ≡ Party v.party v.browser request p → p.reply ≡ entered p.entry (subject_at c (party_row c v.party).client user) → IsVisitor v (x ∷ L) user → length (x ∷ L) ≤ 9 → Next
  enters user request p place replied visitor short =
      is_in (record { user = user; visitor = visitor; request = request; pair = p; word = fresh_word p.entry.fresh 1; place = place; replied = replied; short = short })
