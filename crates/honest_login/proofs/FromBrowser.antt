-- The next place, if the browser follows a location or posts a form.
use Rattle.std.proofs.Common.{◌≡◌, ◌≤◌, ◌<◌, ◌+◌, ℕ, Bool, true, false, List, ◌∷◌, length, Option, Some, None, Ok, refl, sym, ap, ◌∙◌, subst, ◌⊎◌, inl, inr, arith}
use Rattle.std.proofs.lemmas.Bool.{ltb-true}
use Rattle.sso_base.specs.Words.{Word, Text, fresh_word, word_text}
use Rattle.sso_base.specs.Rows.{lives}
use Rattle.oidc_words.specs.Lives.{login_life, id_token_life, leeway}
use Rattle.oidc_words.specs.declared.response_types.Types.{Types}
use Rattle.client_registry.specs.Configuration.{Configuration, subject_at}
use Rattle.client_registry.specs.Numbers.{party_row, party_client}
use Rattle.auth_request.specs.declared.wish.Wish.{Wish}
use Rattle.auth_request.specs.declared.wish.Verdict.TheVariants as verdict
use Rattle.id_token.specs.declared.claims.IdClaims.{IdClaims}
use Rattle.id_token.specs.Judging.{IsInAge}
use Rattle.login_request.specs.Request.{login_location}
use Rattle.op_issue.specs.declared.issuing.Authentication.{Authentication}
use Rattle.op_issue.specs.IdTokens.{id_claims}
use Rattle.op_issue.specs.Issued.{if_wished, issued}
use Rattle.op_exchange.specs.declared.ask.OpAsk.{OpAsk}
use Rattle.op_exchange.specs.declared.ask.OpAsk.TheVariants as op_ask
use Rattle.op_exchange.specs.declared.reply.OpReply.TheVariants as op
use Rattle.op_request.specs.Prepared.{signed_user}
use Rattle.rp_login.specs.declared.rows.LoginRow.{LoginRow}
use Rattle.rp_login.specs.declared.rows.Stage.{Stage}
use Rattle.rp_login.specs.declared.rows.Stage.TheVariants as stage
use Rattle.rp_exchange.specs.declared.ask.RpAsk.{RpAsk}
use Rattle.rp_exchange.specs.declared.ask.RpAsk.TheVariants as rp_ask
use Rattle.rp_exchange.specs.declared.reply.RpReply.{RpReply}
use Rattle.rp_exchange.specs.declared.reply.RpReply.TheVariants as rp
use Rattle.rp_answer.specs.Past.{RpPair, RpPast}
use Rattle.rp_answer.specs.Setup.{PartySetup}
use Rattle.rp_answer.specs.Asked.{if_wanted, claims_read, claims_judged}
use Rattle.rp_answer.specs.Replies.{entered}
use Rattle.sso_base.specs.declared.history.Entry.{Entry}
use Rattle.sso_places.specs.declared.types.Jar.{Jar}
use Rattle.sso_places.specs.declared.types.WorldReply.{WorldReply}
use Rattle.sso_places.specs.declared.types.WorldReply.TheVariants as reply
use Rattle.sso_places.specs.Site.{own_site, setup_at}
use Rattle.sso_places.specs.World.{Place, World, rp_past}
use Rattle.web_requests.specs.declared.sent.Sent.{Sent}
use Rattle.web_requests.specs.Following.{reply_followed}
use Rattle.web_requests.specs.Posting.{login_posted, consent_posted}
use Rattle.web_requests.specs.Asked.{AsksProvider}
use Rattle.web_requests.proofs.PostedForms.{login_read, consent_read}
use Rattle.honest_places.specs.OwnWish.{own_wish}
use Rattle.honest_party.proofs.OwnParty.{InTime}
use Rattle.honest_places.specs.Login.{Visitor, sent_at, called_for, FitsJar}
use Rattle.honest_places.specs.InTime.{IsResponseInTime, IsRpInTime}
use Rattle.honest_places.proofs.OwnWish.{own_types_are}
use Rattle.honest_places.proofs.OwnWishValue.{own_wish_value, code_or_id}
use Rattle.honest_party.proofs.Followed.{heard_of, claims_of, own_wish_partys}
use Rattle.honest_party.proofs.Places.{Fetches, FetchesOrEnters}
use Rattle.honest_places.proofs.Standing.{AtProvider, provider_stands}
use Rattle.honest_party.proofs.Steps.{PendingStands, Responded, asks, there, responds}
use Rattle.honest_login.proofs.Thread.{LoginKnown, Waiting, IsAsking, IsPaged, IsConsenting, IsAnswered, Knows, is_paged, is_consenting, is_answered, is_exchanging, is_fetching}
use Rattle.honest_login.proofs.Going.{login_at_provider}
use Rattle.std.proofs.lemmas.Bool.{ltb-true}
use Rattle.honest_places.specs.Conditions.{within_lives, token_in_time, right_password}
use Rattle.honest_places.proofs.Conditions.{demanded}
use Rattle.honest_places.proofs.Worlds.{IsVisitor}
use Rattle.honest_provider.proofs.Facts.{AccessWaits, AnswerWaits, access_there, answer_there}
use Rattle.honest_provider.proofs.Outcomes.{Paged, Consenting, Answering}
use Rattle.honest_provider.proofs.Places.{at_authorize, at_login, at_consent}
use Rattle.honest_login.proofs.NextPlace.{Goes, was_sent, free, room, silent, may_at, jar_at_provider, visitor_at, OfParty, of_party, jar_at_party, enters}
use Rattle.honest_login.proofs.Going.{login_at_provider}

-- ---- small things

pending_as : (types : Types) (past : RpPast) (w : Word) (waits : Stage) (nonce other : Word) (from start at : ℕ) (sub : Text) → nonce ≡ other → from ≡ start → PendingStands types past w waits nonce from at sub → PendingStands types past w waits other start at sub
pending_as types past w waits nonce other from start at sub same begun p =
    let N : Word → Type 0 = λ v. PendingStands types past w waits v from at sub in
    let F : ℕ → Type 0 = λ k. PendingStands types past w waits other k at sub in
    subst F begun (subst N same p)

judged_flag : (b : Bool) (x : IdClaims) → b ≡ true → if_wanted b (claims_read (if_wished b (Ok x))) ≡ Some x
judged_flag true x h = refl
judged_flag false x h = absurd (cc)

split_front : (s : PartySetup) (flag : Bool) (e : Entry RpAsk) (w a : Word) (sub : Text) (told : RpReply) → FetchesOrEnters s e w (if_wished flag a) sub told → ((flag ≡ true) × Fetches s w a told) ⊎ (told ≡ entered e sub)
split_front s true e w a sub told (inl f) = inl (refl, f)
split_front s true e w a sub told (inr h) = inr h
split_front s false e w a sub told h = inr h

module _ {c : Configuration} {v : Visitor} {world : World} {last : Place} {earlier : List Place} {x : Place} (g : Goes c v world last earlier x) where
  abbrev S : PartySetup
  S = setup_at (own_site c) v.party

  abbrev L : List Place
  L = last ∷ earlier

  abbrev Next : Type 0
  Next = Knows c v (x ∷ world) x L

  right : signed_user c v.id v.password ≡ Some v.user
  right = demanded right_password (signed_user c v.id v.password ≡ Some v.user) g.may.right

  -- ---- after the authorization request, and the forms

  after_answer : (state nonce lb : Word) (from : ℕ) → LoginKnown v (x ∷ L) (x ∷ world) state nonce lb from → length (x ∷ L) ≤ 4 → Answering c v (x ∷ L) (x ∷ world) x state nonce from → Next
  after_answer state nonce lb from login short a = is_answered (record { state = state; nonce = nonce; lb = lb; from = from; login = login; answer = a; short = short })

  after_consent : (state nonce lb : Word) (from : ℕ) → LoginKnown v (x ∷ L) (x ∷ world) state nonce lb from → length (x ∷ L) ≤ 3
      → Consenting c v (x ∷ L) (x ∷ world) x state nonce from ⊎ Answering c v (x ∷ L) (x ∷ world) x state nonce from → Next
  after_consent state nonce lb from login short (inl page) = is_consenting (record { state = state; nonce = nonce; lb = lb; from = from; login = login; page = page; short = short })
  after_consent state nonce lb from login short (inr a) = after_answer state nonce lb from login (omega (arith, short)) a

  after_page : (state nonce lb : Word) (from : ℕ) → LoginKnown v (x ∷ L) (x ∷ world) state nonce lb from → length (x ∷ L) ≤ 2
      → Paged c v (x ∷ L) (x ∷ world) x state nonce ⊎ (Consenting c v (x ∷ L) (x ∷ world) x state nonce from ⊎ Answering c v (x ∷ L) (x ∷ world) x state nonce from) → Next
  after_page state nonce lb from login short (inl page) = is_paged (record { state = state; nonce = nonce; lb = lb; from = from; login = login; page = page; short = short })
  after_page state nonce lb from login short (inr rest) = after_consent state nonce lb from login (omega (arith, short)) rest

  pub from_asking : IsAsking c v world last earlier → Next
  from_asking a =
      let R : WorldReply = reply.Party (rp.Ask (login_location (party_client c v.party) (party_row c v.party) c.provider a.state a.nonce) a.lb) in
      let o : Option Sent = reply_followed c v.browser R g.step.jar in
      let is : sent_at x ≡ o = was_sent g o (ap (called_for c v g.step.jar earlier) a.replied) in
      let asked : OpAsk = op_ask.Authorize (verdict.Grant (own_wish c v.party a.state a.nonce)) g.step.jar.first g.step.jar.second in
      let at : AtProvider v.browser asked x = asks c v.party g.registry g.may.party a.state a.nonce a.lb v.browser g.step.jar x (may_at g a.state a.nonce a.login.state_word a.login.nonce_word) (silent g) is g.now.legal.asked.0 in
      let login = login_at_provider c v L world x v.browser at.request at.pair a.state a.nonce a.lb a.from at.place g.now.order a.login in
      after_page a.state a.nonce a.lb a.from login (omega (arith, a.short))
      (at_authorize c v g.registry g.may.party (silent g) L world x g.now (free g) g.step.in_time g.step.jar a.state a.nonce a.from at a.login.state_word a.login.nonce_word a.login.past a.quiet)

  pub from_paged : IsPaged c v world last earlier → Next
  from_paged a =
      let R : WorldReply = reply.Provider (op.LoginPage a.page.turn a.page.browser false) in
      let o : Option Sent = login_posted c v.browser R v.id v.password g.step.jar in
      let is : sent_at x ≡ o = was_sent g o (ap (called_for c v g.step.jar earlier) a.page.replied) in
      let asked : OpAsk = op_ask.Login (Some a.page.turn) (Some v.user) g.step.jar.first g.step.jar.second in
      let A : Option ℕ → Type 0 = λ signed. AsksProvider c v.browser o (op_ask.Login (Some a.page.turn) signed g.step.jar.first g.step.jar.second) in
      let read : A (Some v.user) = subst A right (login_read c v.browser g.step.jar a.page.turn a.page.browser false v.id v.password a.page.known.word g.may.id_text g.may.password_text) in
      let at : AtProvider v.browser asked x = provider_stands c x o is g.now.legal.asked.0 v.browser asked read in
      let login = login_at_provider c v L world x v.browser at.request at.pair a.state a.nonce a.lb a.from at.place g.now.order a.login in
      after_consent a.state a.nonce a.lb a.from login (omega (arith, a.short))
      (at_login c v g.registry g.may.party (silent g) L world x g.now (free g) g.step.in_time g.step.jar a.page.turn a.page.browser a.state a.nonce a.from a.page.known at (jar_at_provider g v.browser asked at) a.login.past)

  pub from_consenting : IsConsenting c v world last earlier → Next
  from_consenting a =
      let R : WorldReply = reply.Provider (op.ConsentPage a.page.turn a.page.browser a.page.given a.page.client a.page.scopes) in
      let o : Option Sent = consent_posted c v.browser R true g.step.jar in
      let is : sent_at x ≡ o = was_sent g o (ap (called_for c v g.step.jar earlier) a.page.replied) in
      let asked : OpAsk = op_ask.Consent (Some a.page.turn) true g.step.jar.first g.step.jar.second in
      let at : AtProvider v.browser asked x = provider_stands c x o is g.now.legal.asked.0 v.browser asked (consent_read c v.browser g.step.jar a.page.turn a.page.browser a.page.given a.page.client a.page.scopes true a.page.known.turn.word) in
      let login = login_at_provider c v L world x v.browser at.request at.pair a.state a.nonce a.lb a.from at.place g.now.order a.login in
      after_answer a.state a.nonce a.lb a.from login (omega (arith, a.short))
      (at_consent c v g.registry g.may.party (silent g) L world x g.now (free g) g.step.in_time g.step.jar a.page.turn a.page.browser a.state a.nonce a.from a.page.known at (jar_at_provider g v.browser asked at) a.login.past)

  -- ---- after the authorization response

  -- for 360 seconds
  id_in_time : (state nonce : Word) (from : ℕ) (row : LoginRow) (who : Authentication) (at later : ℕ) (fresh : List Word) → row.nonce ≡ nonce → row.begun ≡ from → IsInAge (party_row c v.party).max_age (Some who.auth_time) from → at ≤ later
      → ((claims : IdClaims) → claims_judged (party_row c v.party).types (rp_ask.Callback (Ok (heard_of c v.party g.registry g.may.party (own_wish c v.party state nonce) who at fresh state)) (if_wished (own_wish c v.party state nonce).types.id_token (Ok (claims_of c v.party g.registry g.may.party (own_wish c v.party state nonce) who at fresh))) g.step.jar.first) ≡ Some claims
      → lives (id_token_life + leeway) claims.iat later ≡ true)
      → (own_wish c v.party state nonce).types.id_token ≡ true → InTime S (own_wish c v.party state nonce) who at row.nonce row.begun later
  unfolding id_claims
  id_in_time state nonce from row who at later fresh nonce_is begun_is age order token wanted =
      let claims : IdClaims = claims_of c v.party g.registry g.may.party (own_wish c v.party state nonce) who at fresh in
      let G : ℕ → Type 0 = λ i. IsInAge (party_row c v.party).max_age (Some who.auth_time) i in
      let there : if_wanted (party_row c v.party).types.id_token (claims_read (if_wished (own_wish c v.party state nonce).types.id_token (Ok claims))) ≡ Some claims =
      ap (λ (t : Types). if_wanted t.id_token (claims_read (if_wished (own_wish c v.party state nonce).types.id_token (Ok claims)))) (sym (own_types_are c v.party state nonce g.registry g.may.party))
      ∙ judged_flag (own_wish c v.party state nonce).types.id_token claims wanted in
      record {
        client = refl;
        nonce = ap (λ w. Some (word_text w)) (sym nonce_is);
        age = subst G (sym begun_is) age;
        from = omega (arith, order);
        to = ltb-true later (at + 360) (token claims there);
      }

  pub from_answered : IsAnswered c v world last earlier → Next
  from_answered a =
      let w : Wish = own_wish c v.party a.state a.nonce in
      let who : Authentication = a.answer.who in
      let at : ℕ = a.answer.at in
      let fresh : List Word = a.answer.fresh in
      let row : LoginRow = a.login.row in
      let R : WorldReply = reply.Provider (op.Answered (issued c w who at fresh) a.answer.given) in
      let o : Option Sent = reply_followed c v.browser R g.step.jar in
      let is : sent_at x ≡ o = was_sent g o (ap (called_for c v g.step.jar earlier) a.answer.replied) in
      let partys = own_wish_partys c v.party g.registry g.may.party a.state a.nonce a.login.state_word in
      let value = own_wish_value c v.party g.registry g.may.party a.state a.nonce a.login.state_word a.login.nonce_word in
      let may = a.answer.known.may in
      let stood = there c v.party g.registry g.may.party w who at fresh a.state a.answer.given partys may value world x v.browser g.step.jar row g.now.legal (room g) is in
      let p : RpPair = stood.pair in
      let of : OfParty g p = of_party g stood.request p stood.place in
      let J : Option Jar → Type 0 = λ j. FitsJar g.step.jar j in
      let same_jar : g.step.jar ≡ a.login.jar = subst J a.login.jar_is (jar_at_party g stood.request p stood.place) in
      let cookie : g.step.jar.first ≡ Some row.browser = ap (λ (j : Jar). j.first) same_jar ∙ a.login.first ∙ ap (λ l. Some l) (sym a.login.browser_is) in
      let T : RpAsk → Type 0 = λ q. IsRpInTime None (party_row c v.party).types (rp_past v.party world) p.entry.at q in
      let timed : IsResponseInTime None (party_row c v.party).types (rp_past v.party world) p.entry.at (rp_ask.Callback (Ok (heard_of c v.party g.registry g.may.party w who at fresh a.state)) (if_wished w.types.id_token (Ok (claims_of c v.party g.registry g.may.party w who at fresh))) g.step.jar.first) =
      subst T stood.ask of.in_time in
      let soon : p.entry.at < row.begun + login_life = ltb-true p.entry.at (row.begun + login_life) (demanded within_lives (lives login_life row.begun p.entry.at ≡ true) (timed.login row a.login.stands)) in
      let good = id_in_time a.state a.nonce a.from row who at p.entry.at fresh a.login.nonce_is a.login.begun_is a.answer.known.age (omega (arith, a.answer.known.past, of.before))
      (λ claims is. demanded token_in_time (lives (id_token_life + leeway) claims.iat p.entry.at ≡ true) (timed.token claims is)) in
      let res : Responded c v.party g.registry g.may.party w who at fresh a.state a.answer.given partys may value world x v.browser row =
      responds c v.party g.registry g.may.party w who at fresh a.state a.answer.given partys may value world x v.browser g.step.jar row g.now.legal (room g) is a.login.stands good soon cookie in
      responded a w refl res
    where
      responded : (a : IsAnswered c v world last earlier) (w : Wish) (w_is : w ≡ own_wish c v.party a.state a.nonce)
          → Responded c v.party g.registry g.may.party (own_wish c v.party a.state a.nonce) a.answer.who a.answer.at a.answer.fresh a.state a.answer.given (own_wish_partys c v.party g.registry g.may.party a.state a.nonce a.login.state_word) a.answer.known.may
          (own_wish_value c v.party g.registry g.may.party a.state a.nonce a.login.state_word a.login.nonce_word) world x v.browser a.login.row → Next
      responded a w w_is res =
          let who : Authentication = a.answer.who in
          let at : ℕ = a.answer.at in
          let fresh : List Word = a.answer.fresh in
          let row : LoginRow = a.login.row in
          let p : RpPair = res.pair in
          let of : OfParty g p = of_party g res.request p res.place in
          let sub : Text = subject_at c (party_row c v.party).client who.user in
          let word : Word = fresh_word p.entry.fresh 0 in
          let types_are : (own_wish c v.party a.state a.nonce).types ≡ (party_row c v.party).types = own_types_are c v.party a.state a.nonce g.registry g.may.party in
          let visitor : IsVisitor v (x ∷ L) who.user = visitor_at g who.user of.quiet a.answer.known.visitor in
          let waiting : (waits : Stage) → PendingStands (party_row c v.party).types (rp_past v.party (x ∷ world)) word waits row.nonce row.begun p.entry.at sub → Waiting c v (x ∷ L) (x ∷ world) word waits a.nonce a.from p.entry.at sub =
          λ waits stands. record {
            stands = pending_as (party_row c v.party).types (rp_past v.party (x ∷ world)) word waits row.nonce a.nonce row.begun a.from p.entry.at sub a.login.nonce_is a.login.begun_is stands;
            own = of.own;
            past = omega (arith, of.last_is);
          } in
          elim (code_or_id c v.party g.registry g.may.party) [
            | inl code ↦
                (let told = res.exchanges (ap (λ (t : Types). t.code) types_are ∙ code) in
                let G : Place → Type 0 = λ y. AnswerWaits c v (y ∷ L) (y ∷ world) a.state a.nonce who fresh in
                is_exchanging (record {
                  state = a.state;
                  nonce = a.nonce;
                  from = a.from;
                  state_word = a.login.state_word;
                  nonce_word = a.login.nonce_word;
                  who = who;
                  at = at;
                  fresh = fresh;
                  request = res.request;
                  pair = p;
                  place = res.place;
                  replied = told.0;
                  code = code;
                  known = record {
                    may = a.answer.known.may;
                    age = a.answer.known.age;
                    past = omega (arith, a.answer.known.past, of.before, of.last_is);
                    known = subst G (sym res.place) (answer_there c v L world v.party v.browser res.request p a.state a.nonce who fresh a.answer.known.known);
                    visitor = visitor;
                  };
                  waits = waiting stage.Tokens told.1;
                  short = omega (arith, a.short);
                }))
            | inr id ↦
                (let way = split_front S (own_wish c v.party a.state a.nonce).types.token p.entry word (fresh_word fresh 3) sub p.reply
                (res.enters (ap (λ (t : Types). t.code) types_are ∙ id.0) (ap (λ (t : Types). t.id_token) types_are ∙ id.1)) in
                elim way [
                  | inl f ↦
                      (let front = a.answer.known.known.access f.0 in
                      let A : Place → Type 0 = λ y. AccessWaits c v (y ∷ L) (y ∷ world) (fresh_word fresh 3) who.user in
                      is_fetching (record {
                        nonce = a.nonce;
                        from = a.from;
                        since = p.entry.at;
                        user = who.user;
                        visitor = visitor;
                        w = word;
                        access = fresh_word fresh 3;
                        known = subst A (sym res.place) (access_there c v L world v.party v.browser res.request p (fresh_word fresh 3) who.user front);
                        request = res.request;
                        pair = p;
                        place = res.place;
                        replied = f.1;
                        waits = waiting stage.Info (res.waits (fresh_word fresh 3) f.1);
                        short = omega (arith, a.short);
                      }))
                  | inr e ↦ enters g who.user res.request p res.place e visitor (omega (arith, a.short))
                ])
          ]
