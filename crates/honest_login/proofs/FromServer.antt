-- The next place, if a party's message is carried to the provider, or its answer is returned.
use Rattle.std.proofs.Common.{◌≡◌, ◌<◌, ◌+◌, ℕ, true, List, ◌∷◌, Option, Some, None, Ok, refl, sym, ap, ◌∙◌, subst, inl, inr, arith}
use Rattle.std.proofs.lemmas.Bool.{ltb-true}
use Rattle.sso_base.specs.Words.{Word, Text, fresh_word, word_text}
use Rattle.sso_base.specs.Rows.{lives}
use Rattle.oidc_words.specs.Lives.{pending_life}
use Rattle.claim_set.specs.Reading.{claims_text}
use Rattle.client_registry.specs.Configuration.{Configuration, subject_at}
use Rattle.client_registry.specs.Numbers.{party_row, party_client}
use Rattle.auth_request.specs.declared.wish.Wish.{Wish}
use Rattle.token_endpoint.specs.Request.{token_message}
use Rattle.userinfo.specs.Held.{info_members}
use Rattle.userinfo.specs.Request.{info_message}
use Rattle.userinfo.specs.declared.header.Bearer.TheVariants.{Given as Bearing}
use Rattle.op_issue.specs.declared.issuing.Authentication.{Authentication}
use Rattle.op_issue.specs.IdTokens.{issued_id}
use Rattle.op_exchange.specs.declared.ask.OpAsk.{OpAsk}
use Rattle.op_exchange.specs.declared.ask.OpAsk.TheVariants as op_ask
use Rattle.op_exchange.specs.declared.reply.OpReply.TheVariants as op
use Rattle.rp_login.specs.declared.rows.Stage.TheVariants as stage
use Rattle.rp_exchange.specs.declared.ask.RpAsk.{RpAsk}
use Rattle.rp_exchange.specs.declared.reply.RpReply.{RpReply}
use Rattle.rp_exchange.specs.declared.reply.RpReply.TheVariants as rp
use Rattle.rp_answer.specs.Past.{RpPair}
use Rattle.rp_answer.specs.Setup.{PartySetup}
use Rattle.rp_answer.specs.Replies.{exchange, fetched}
use Rattle.sso_places.specs.declared.types.To.TheVariants as to
use Rattle.sso_places.specs.declared.types.WorldReply.{WorldReply}
use Rattle.sso_places.specs.declared.types.WorldReply.TheVariants as reply
use Rattle.sso_places.specs.Site.{own_site, setup_at}
use Rattle.sso_places.specs.World.{Place, World, rp_past, reply_at}
use Rattle.web_requests.specs.declared.sent.Sent.{Sent}
use Rattle.web_requests.specs.Carrying.{carried}
use Rattle.web_requests.specs.Handing.{handed_back}
use Rattle.honest_places.specs.OwnWish.{own_wish}
use Rattle.honest_party.proofs.OwnParty.{InTime}
use Rattle.honest_places.specs.Login.{Visitor, sent_at, given_back, called_for}
use Rattle.honest_places.specs.InTime.{IsRpInTime}
use Rattle.honest_places.proofs.OwnWishValue.{own_wish_value}
use Rattle.honest_places.proofs.Standing.{AtProvider}
use Rattle.honest_party.proofs.Steps.{PendingStands, GotTokens, GotInfo, exchange_stands, tokens_there, got_tokens, fetch_stands, info_there, got_info}
use Rattle.honest_login.proofs.Thread.{IsExchanging, IsGiven, IsFetching, IsTold, IsIn, Knows, is_given, is_fetching, is_told}
use Rattle.honest_login.proofs.Going.{waiting_at_provider}
use Rattle.std.proofs.lemmas.Bool.{ltb-true}
use Rattle.honest_places.specs.Conditions.{within_lives}
use Rattle.honest_places.proofs.Conditions.{demanded}
use Rattle.honest_places.proofs.OwnWords.{own_grown}
use Rattle.honest_places.proofs.Worlds.{IsVisitor}
use Rattle.honest_provider.proofs.Facts.{AccessWaits, access_there}
use Rattle.honest_provider.proofs.Places.{at_token, at_info}
use Rattle.honest_login.proofs.NextPlace.{Goes, was_sent, free, room, silent, quiet_at, visitor_at, OfParty, of_party, enters}
use Rattle.honest_login.proofs.Going.{waiting_at_provider}

module _ {c : Configuration} {v : Visitor} {world : World} {last : Place} {earlier : List Place} {x : Place} (g : Goes c v world last earlier x) where
  abbrev S : PartySetup
  S = setup_at (own_site c) v.party

  abbrev L : List Place
  L = last ∷ earlier

  abbrev Next : Type 0
  Next = Knows c v (x ∷ world) x L

  -- ---- tokens

  pub from_exchanging : IsExchanging c v world last earlier → Next
  from_exchanging a =
      let code : Word = fresh_word a.fresh 2 in
      let R : WorldReply = reply.Party (exchange S a.pair.entry (word_text code)) in
      let there : reply_at last ≡ R = ap reply_at a.place ∙ ap (λ (q : RpReply). reply.Party q) a.replied in
      let o : Option Sent = carried c R 0 in
      let is : sent_at x ≡ o = was_sent g o (ap (called_for c v g.step.jar earlier) there) in
      let asked : OpAsk = op_ask.Token (Ok (record { client = (party_row c v.party).client; code = word_text code; redirect = (party_row c v.party).redirect })) in
      let at : AtProvider 0 asked x = exchange_stands c v.party g.registry g.may.party a.pair.entry code x is g.now.legal.asked.0 in
      let giving = at_token c v g.registry g.may.party (silent g) L world x g.now (free g) g.step.in_time a.state a.nonce a.from a.pair.entry.at a.who a.at a.fresh a.known a.code at a.waits.past in
      let sub : Text = subject_at c (party_row c v.party).client a.who.user in
      let word : Word = fresh_word a.pair.entry.fresh 0 in
      is_given (record {
        state = a.state;
        nonce = a.nonce;
        from = a.from;
        since = a.pair.entry.at;
        state_word = a.state_word;
        nonce_word = a.nonce_word;
        user = a.who.user;
        visitor = visitor_at g a.who.user (quiet_at g 0 asked at refl) a.known.visitor;
        giving = giving;
        w = word;
        message = token_message (party_client c v.party) c.provider.token (word_text code) (party_row c v.party).redirect;
        before = record { asking = last; rest = earlier; earlier_is = refl; request = a.request; pair = a.pair; place = a.place; replied = a.replied };
        waits = waiting_at_provider c v L world x 0 at.request at.pair word stage.Tokens a.nonce a.from a.pair.entry.at sub at.place g.now.order a.waits;
        short = omega (arith, a.short);
      })

  pub from_given : IsGiven c v world last earlier → Next
  from_given a =
      let w : Wish = own_wish c v.party a.state a.nonce in
      let who : Authentication = a.giving.who in
      let R : WorldReply = reply.Provider (op.Tokens a.giving.access (issued_id c w who a.giving.at (Some a.giving.access) None)) in
      let o : Option Sent = handed_back c v.browser (to.Party v.party) (reply.Party (rp.Exchange a.w a.message)) to.Provider R in
      let call : called_for c v g.step.jar earlier (reply_at last) ≡ o =
      ap (λ l. called_for c v g.step.jar l (reply_at last)) a.before.earlier_is
      ∙ ap (called_for c v g.step.jar (a.before.asking ∷ a.before.rest)) a.giving.replied
      ∙ ap (λ y. given_back c y R) a.before.place
      ∙ ap (λ (q : RpReply). handed_back c v.browser (to.Party v.party) (reply.Party q) to.Provider R) a.before.replied in
      let is : sent_at x ≡ o = was_sent g o call in
      let value = own_wish_value c v.party g.registry g.may.party a.state a.nonce a.state_word a.nonce_word in
      let stood = tokens_there c v.party g.registry g.may.party w who a.giving.at a.w a.giving.access a.nonce a.from a.since a.message refl a.giving.may value world x v.browser g.now.legal (room g) is in
      let p : RpPair = stood.pair in
      let of : OfParty g p = of_party g stood.request p stood.place in
      let T : RpAsk → Type 0 = λ q. IsRpInTime None (party_row c v.party).types (rp_past v.party world) p.entry.at q in
      let timed = subst T stood.ask of.in_time in
      let alive : p.entry.at < a.waits.stands.row.since + pending_life = ltb-true p.entry.at (a.waits.stands.row.since + pending_life) (demanded within_lives (lives pending_life a.waits.stands.row.since p.entry.at ≡ true) (timed a.waits.stands.row a.waits.stands.found)) in
      let B : ℕ → Type 0 = λ i. p.entry.at < i + pending_life in
      let soon : p.entry.at < a.since + pending_life = subst B a.waits.stands.since alive in
      let time : InTime S w who a.giving.at a.nonce a.from p.entry.at = record {
        client = refl;
        nonce = refl;
        age = a.giving.age;
        from = omega (arith, a.giving.past, of.before);
        to = omega (arith, soon, a.giving.after);
      } in
      let P : ℕ → Type 0 = λ u. PendingStands (party_row c v.party).types (rp_past v.party world) a.w stage.Tokens a.nonce a.from a.since (subject_at c (party_row c v.party).client u) in
      let got : GotTokens c v.party g.registry g.may.party world x v.browser a.w a.giving.access a.nonce a.from (subject_at c (party_row c v.party).client who.user) =
      got_tokens c v.party g.registry g.may.party w who a.giving.at a.w a.giving.access a.nonce a.from a.since a.message refl a.giving.may value world x v.browser g.now.legal (room g) is (subst P (sym a.giving.user_is) a.waits.stands) time soon in
      got_so a (subst (λ u. GotTokens c v.party g.registry g.may.party world x v.browser a.w a.giving.access a.nonce a.from (subject_at c (party_row c v.party).client u)) a.giving.user_is got)
    where
      got_so : (a : IsGiven c v world last earlier) → GotTokens c v.party g.registry g.may.party world x v.browser a.w a.giving.access a.nonce a.from (subject_at c (party_row c v.party).client a.user) → Next
      got_so a got =
          let p : RpPair = got.pair in
          let of : OfParty g p = of_party g got.request p got.place in
          let visitor : IsVisitor v (x ∷ L) a.user = visitor_at g a.user of.quiet a.visitor in
          elim got.enters [
            | inl f ↦
                (let A : Place → Type 0 = λ y. AccessWaits c v (y ∷ L) (y ∷ world) a.giving.access a.user in
                is_fetching (record {
                  nonce = a.nonce;
                  from = a.from;
                  since = p.entry.at;
                  user = a.user;
                  visitor = visitor;
                  w = a.w;
                  access = a.giving.access;
                  known = subst A (sym got.place) (access_there c v L world v.party v.browser got.request p a.giving.access a.user a.giving.known);
                  request = got.request;
                  pair = p;
                  place = got.place;
                  replied = f;
                  waits = record {
                    stands = got.waits f;
                    own = own_grown L world x a.w a.waits.own;
                    past = omega (arith, of.last_is);
                  };
                  short = omega (arith, a.short);
                }))
            | inr e ↦ enters g a.user got.request p got.place e visitor (omega (arith, a.short))
          ]

  -- ---- UserInfo

  pub from_fetching : IsFetching c v world last earlier → Next
  from_fetching a =
      let R : WorldReply = reply.Party a.pair.reply in
      let o : Option Sent = carried c R 0 in
      let there : reply_at last ≡ reply.Party (fetched a.replied.endpoint (word_text a.access) a.w) = ap reply_at a.place ∙ ap (λ (q : RpReply). reply.Party q) a.replied.reply_is in
      let is : sent_at x ≡ o = was_sent g o (ap (called_for c v g.step.jar earlier) there ∙ ap (λ (q : RpReply). carried c (reply.Party q) 0) (sym a.replied.reply_is)) in
      let at : AtProvider 0 (op_ask.Info (Bearing a.access)) x = fetch_stands c v.party g.registry g.may.party a.w a.access a.pair.reply x a.replied a.known.word is g.now.legal.asked.0 in
      let telling = at_info c v g.registry g.may.party (silent g) L world x g.now (free g) g.step.in_time a.access a.user a.known at in
      let sub : Text = subject_at c (party_row c v.party).client a.user in
      is_told (record {
        nonce = a.nonce;
        from = a.from;
        since = a.since;
        user = a.user;
        visitor = visitor_at g a.user (quiet_at g 0 (op_ask.Info (Bearing a.access)) at refl) a.visitor;
        telling = telling;
        w = a.w;
        message = info_message a.replied.endpoint (word_text a.access);
        before = record { asking = last; rest = earlier; earlier_is = refl; request = a.request; pair = a.pair; place = a.place; replied = a.replied.reply_is };
        waits = waiting_at_provider c v L world x 0 at.request at.pair a.w stage.Info a.nonce a.from a.since sub at.place g.now.order a.waits;
        short = omega (arith, a.short);
      })

  pub from_told : IsTold c v world last earlier → Next
  from_told a =
      let R : WorldReply = reply.Provider (op.Info (claims_text (info_members c (party_row c v.party).client a.user a.telling.scopes a.telling.asked))) in
      let o : Option Sent = handed_back c v.browser (to.Party v.party) (reply.Party (rp.Fetch a.w a.message)) to.Provider R in
      let call : called_for c v g.step.jar earlier (reply_at last) ≡ o =
      ap (λ l. called_for c v g.step.jar l (reply_at last)) a.before.earlier_is
      ∙ ap (called_for c v g.step.jar (a.before.asking ∷ a.before.rest)) a.telling.replied
      ∙ ap (λ y. given_back c y R) a.before.place
      ∙ ap (λ (q : RpReply). handed_back c v.browser (to.Party v.party) (reply.Party q) to.Provider R) a.before.replied in
      let is : sent_at x ≡ o = was_sent g o call in
      let stood = info_there c v.party g.registry g.may.party a.user a.w a.nonce a.from a.since a.message a.telling.scopes a.telling.asked world x v.browser g.now.legal (room g) is in
      let p : RpPair = stood.pair in
      let of : OfParty g p = of_party g stood.request p stood.place in
      let T : RpAsk → Type 0 = λ q. IsRpInTime None (party_row c v.party).types (rp_past v.party world) p.entry.at q in
      let timed = subst T stood.ask of.in_time in
      let alive : p.entry.at < a.waits.stands.row.since + pending_life = ltb-true p.entry.at (a.waits.stands.row.since + pending_life) (demanded within_lives (lives pending_life a.waits.stands.row.since p.entry.at ≡ true) (timed a.waits.stands.row a.waits.stands.found)) in
      let B : ℕ → Type 0 = λ i. p.entry.at < i + pending_life in
      let got : GotInfo c v.party g.registry g.may.party x v.browser (subject_at c (party_row c v.party).client a.user) =
      got_info c v.party g.registry g.may.party a.user a.w a.nonce a.from a.since a.message a.telling.scopes a.telling.asked world x v.browser g.now.legal (room g) is a.waits.stands (subst B a.waits.stands.since alive) in
      let after : OfParty g got.pair = of_party g got.request got.pair got.place in
      enters g a.user got.request got.pair got.place got.enters (visitor_at g a.user after.quiet a.visitor) (omega (arith, a.short))

  pub from_in : IsIn c v world last earlier → Next
  from_in a =
      let there : reply_at last ≡ reply.Party (rp.Entered a.word (subject_at c (party_row c v.party).client a.user)) = ap reply_at a.place ∙ ap (λ (q : RpReply). reply.Party q) a.replied in
      let never : None ≡ Some g.step.done = sym (ap (called_for c v g.step.jar earlier) there) ∙ g.step.called in
      absurd (cc)
