-- Honest logins succeed.
use Rattle.std.proofs.Common.{◌≡◌, ◌≤◌, ◌||◌, ℕ, Bool, true, false, cond, List, [], ◌∷◌, ◌++◌, length, Option, Some, None, is_some, ◌⊎◌, refl, sym, ap, ◌∙◌, subst, inl, inr, arith, true≢false, eq-eqb}
use Rattle.std.specs.List.{AllByRecursion, list_any}
use Rattle.std.specs.Option.{option_or}
use Rattle.sso_base.specs.Words.{Word, Text, IsWord, fresh_word, word_text}
use Rattle.claim_set.specs.Reading.{claims_text}
use Rattle.client_registry.specs.Configuration.{Configuration, subject_at}
use Rattle.client_registry.specs.Numbers.{party_row, party_client}
use Rattle.client_registry.specs.Registered.{IsRegistry}
use Rattle.auth_request.specs.declared.wish.Wish.{Wish}
use Rattle.userinfo.specs.Held.{info_members}
use Rattle.login_request.specs.Parties.{MayAsk}
use Rattle.login_request.specs.Request.{login_location}
use Rattle.op_issue.specs.IdTokens.{issued_id}
use Rattle.op_issue.specs.Issued.{issued}
use Rattle.op_exchange.specs.declared.reply.OpReply.TheVariants as op
use Rattle.rp_exchange.specs.declared.reply.RpReply.{RpReply}
use Rattle.rp_exchange.specs.declared.reply.RpReply.TheVariants as rp
use Rattle.rp_answer.specs.Past.{RpPair}
use Rattle.rp_answer.specs.Setup.{PartySetup}
use Rattle.rp_answer.specs.Legal.{IsLegalRp}
use Rattle.rp_answer.specs.Replies.{exchange, fetched}
use Rattle.sso_places.specs.declared.types.Jar.{Jar}
use Rattle.sso_places.specs.declared.types.To.TheVariants as to
use Rattle.sso_places.specs.declared.types.WorldReply.{WorldReply}
use Rattle.sso_places.specs.declared.types.WorldReply.TheVariants as reply
use Rattle.sso_places.specs.Cookies.{set_by, jar_set}
use Rattle.sso_places.specs.Legal.{IsLegalWorld}
use Rattle.sso_places.specs.Premises.{HasDistinctWords}
use Rattle.sso_places.specs.Site.{own_site, setup_at}
use Rattle.sso_places.specs.World.{Place, Party, World, rp_past, reply_at}
use Rattle.sso_places.proofs.Objects.{may_ask}
use Rattle.cookie_jars.specs.Jars.{jar_with}
use Rattle.web_requests.specs.declared.sent.Sent.{Sent}
use Rattle.web_requests.specs.Handing.{handed_back}
use Rattle.web_requests.proofs.PostedForms.{login_read, consent_read}
use Rattle.web_requests.proofs.FollowedRequests.{request_followed_read}
use Rattle.web_requests.proofs.CarriedMessages.{info_request_read, info_handed}
use Rattle.honest_places.specs.OwnWish.{own_wish}
use Rattle.honest_places.specs.Login.{Visitor, MayLogIn, given_back, called_for, jar_shown, jar_after, is_full, Begins, Spares, IsHonest, begun, waited, went_on}
use Rattle.sso_places.specs.Premises.{last_at, IsInOrder}
use Rattle.honest_places.specs.Outcome.{CallsOn, leads_on, LetsIn, gives_password, GoesWell, HonestLoginsSucceed}
use Rattle.honest_places.proofs.OwnWishValue.{own_wish_value}
use Rattle.honest_party.proofs.Followed.{answer_arrives, exchange_arrives, tokens_arrive, own_wish_partys}
use Rattle.honest_party.proofs.Steps.{WasRoom, Began, begins}
use Rattle.honest_login.proofs.Thread.{Knows, is_asking, is_paged, is_consenting, is_answered, is_exchanging, is_given, is_fetching, is_told, is_in}
use Rattle.sso_places.proofs.Places.{party_legal, legal_before, distinct_before, legal_from, distinct_from}
use Rattle.honest_places.specs.Conditions.{free_rows, own_words}
use Rattle.honest_places.proofs.Conditions.{demanded}
use Rattle.honest_places.proofs.OwnWords.{IsOwn, own_drawn}
use Rattle.honest_places.proofs.Worlds.{Now}
use Rattle.honest_login.proofs.Going.{stays}
use Rattle.honest_login.proofs.Onward.{goes_on}

module _ (c : Configuration) (v : Visitor) (r : IsRegistry c) (m : MayLogIn c v) where
  abbrev n : ℕ
  n = v.party

  abbrev b : ℕ
  b = v.browser

  abbrev S : PartySetup
  S = setup_at (own_site c) v.party

  abbrev K : World → Place → List Place → Type 0
  K world last earlier = Knows c v world last earlier

  may_at : (state nonce : Word) → IsWord state → IsWord nonce → MayAsk c n c.provider.issuer state nonce
  may_at state nonce sw nw = may_ask (own_site c) n state nonce (record { registry = r; one_issuer = λ i. refl }) m.party sw nw

  -- ---- the begin

  begin_known : (world : World) (x : Place) → Begins None v x → Now c x world → K (x ∷ world) x []
  begin_known world x e now =
      let room : WasRoom x = λ table full. absurd (true≢false (sym (ap is_full full) ∙ demanded free_rows (is_full (reply_at x) ≡ false) e.room)) in
      let g : Began c n r m.party world x b = begins c n r m.party world x b e.jar now.legal room e.asked in
      let p : RpPair = g.pair in
      let W : Place → Type 0 = λ y. IsLegalWorld (own_site c) (y ∷ world) in
      let legal : IsLegalRp S (p ∷ rp_past n world) = party_legal (own_site c) n b g.request p world (subst W g.place now.legal) in
      let state : Word = fresh_word p.entry.fresh 1 in
      let O : Place → Type 0 = λ y. IsOwn (y ∷ []) (y ∷ world) state in
      let last_is : last_at (x ∷ world) ≡ p.entry.at = ap (λ y. last_at (y ∷ world)) g.place in
      let told : reply_at x ≡ reply.Party (rp.Ask (login_location (party_client c n) (party_row c n) c.provider state (fresh_word p.entry.fresh 2)) g.browser) = ap reply_at g.place ∙ ap (λ (q : RpReply). reply.Party q) g.replied in
      let J : Place → Option Jar = λ y. jar_after (to.Party n) (y ∷ []) in
      let here : Option Jar = Some (jar_with (jar_set (Party n b g.request p)) (jar_shown (Party n b g.request p))) in
      let jar_is : jar_after (to.Party n) (x ∷ []) ≡ here = ap J g.place ∙ ap (λ t. cond t here None) (eq-eqb n n refl) in
      let set : (jar_set (Party n b g.request p)).first ≡ Some g.browser = ap (λ (q : RpReply). (set_by (reply.Party q)).first) g.replied in
      is_asking (record {
        state = state;
        nonce = fresh_word p.entry.fresh 2;
        lb = g.browser;
        from = p.entry.at;
        login = record {
          row = g.login;
          stands = g.stands;
          state_is = g.state;
          nonce_is = g.nonce;
          browser_is = g.same_browser;
          begun_is = g.begun;
          own = subst O (sym g.place) (own_drawn [] world (Party n b g.request p) 1 (omega arith) legal.1.four);
          state_word = g.may.state_word;
          nonce_word = g.may.nonce_word;
          past = omega (arith, last_is);
          jar = jar_with (jar_set (Party n b g.request p)) (jar_shown (Party n b g.request p));
          jar_is = jar_is;
          first = ap (λ o. option_or o (jar_shown (Party n b g.request p)).first) set;
        };
        replied = told;
        short = omega arith;
        quiet = ap (λ y. gives_password y || false) g.place;
      })

  -- ---- the known facts imply that the login goes well

  module _ (world : World) (last : Place) (earlier : List Place) where
    abbrev L : List Place
    L = last ∷ earlier

    leads : K world last earlier → leads_on (reply_at last) ≡ true
    leads (is_asking a) = ap leads_on a.replied
    leads (is_paged a) = ap leads_on a.page.replied
    leads (is_consenting a) = ap leads_on a.page.replied
    leads (is_answered a) = ap leads_on a.answer.replied
    leads (is_exchanging a) = ap leads_on (ap reply_at a.place ∙ ap (λ (q : RpReply). reply.Party q) a.replied)
    leads (is_given a) = ap leads_on a.giving.replied
    leads (is_fetching a) = ap leads_on (ap reply_at a.place ∙ ap (λ (q : RpReply). reply.Party q) a.replied.reply_is)
    leads (is_told a) = ap leads_on a.telling.replied
    leads (is_in a) = ap leads_on (ap reply_at a.place ∙ ap (λ (q : RpReply). reply.Party q) a.replied)

    short : K world last earlier → length L ≤ 9
    short (is_asking a) = omega (arith, a.short)
    short (is_paged a) = omega (arith, a.short)
    short (is_consenting a) = omega (arith, a.short)
    short (is_answered a) = omega (arith, a.short)
    short (is_exchanging a) = omega (arith, a.short)
    short (is_given a) = omega (arith, a.short)
    short (is_fetching a) = omega (arith, a.short)
    short (is_told a) = omega (arith, a.short)
    short (is_in a) = a.short

    -- what is called for
    is_called : (jar : Jar) (R : WorldReply) (s : Sent) → reply_at last ≡ R → called_for c v jar earlier R ≡ Some s → is_some (called_for c v jar earlier (reply_at last)) ≡ true
    is_called jar R s told call = ap (λ (q : WorldReply). is_some (called_for c v jar earlier q)) told ∙ ap (λ (o : Option Sent). is_some o) call

    ends : K world last earlier → ((sub : Text) × LetsIn v last sub) ⊎ (CallsOn c v last earlier × (length L ≤ 8))
    ends (is_asking a) =
        let R : WorldReply = reply.Party (rp.Ask (login_location (party_client c n) (party_row c n) c.provider a.state a.nonce) a.lb) in
        inr ((λ jar. is_called jar R _ a.replied (request_followed_read c n a.state a.nonce (may_at a.state a.nonce a.login.state_word a.login.nonce_word) jar b a.lb).is), omega (arith, a.short))
    ends (is_paged a) =
        inr (
          (λ jar. is_called jar (reply.Provider (op.LoginPage a.page.turn a.page.browser false)) _ a.page.replied
              (login_read c b jar a.page.turn a.page.browser false v.id v.password a.page.known.word m.id_text m.password_text).is),
          omega (arith, a.short),
        )
    ends (is_consenting a) =
        inr (
          (λ jar. is_called jar (reply.Provider (op.ConsentPage a.page.turn a.page.browser a.page.given a.page.client a.page.scopes)) _ a.page.replied
              (consent_read c b jar a.page.turn a.page.browser a.page.given a.page.client a.page.scopes true a.page.known.turn.word).is),
          omega (arith, a.short),
        )
    ends (is_answered a) =
        let w : Wish = own_wish c n a.state a.nonce in
        inr (
          (λ jar. is_called jar (reply.Provider (op.Answered (issued c w a.answer.who a.answer.at a.answer.fresh) a.answer.given)) _ a.answer.replied
              (answer_arrives c n r m.party w a.answer.who a.answer.at a.answer.fresh a.state a.answer.given b jar
              (own_wish_partys c n r m.party a.state a.nonce a.login.state_word) a.answer.known.may (own_wish_value c n r m.party a.state a.nonce a.login.state_word a.login.nonce_word)).is),
          omega (arith, a.short),
        )
    ends (is_exchanging a) =
        inr (
          (λ jar. is_called jar (reply.Party (exchange S a.pair.entry (word_text (fresh_word a.fresh 2)))) _ (ap reply_at a.place ∙ ap (λ (q : RpReply). reply.Party q) a.replied)
              (exchange_arrives c n r m.party (fresh_word a.pair.entry.fresh 0) (fresh_word a.fresh 2)).is),
          omega (arith, a.short),
        )
    ends (is_given a) =
        let w : Wish = own_wish c n a.state a.nonce in
        let R : WorldReply = reply.Provider (op.Tokens a.giving.access (issued_id c w a.giving.who a.giving.at (Some a.giving.access) None)) in
        inr (
          (λ jar. is_called jar R _ a.giving.replied
              (ap (λ l. called_for c v jar l R) a.before.earlier_is ∙ ap (λ y. given_back c y R) a.before.place ∙ ap (λ (q : RpReply). handed_back c b (to.Party n) (reply.Party q) to.Provider R) a.before.replied
              ∙ (tokens_arrive c n r m.party w a.giving.who a.giving.at b a.w a.giving.access a.message refl a.giving.may (own_wish_value c n r m.party a.state a.nonce a.state_word a.nonce_word)).is)),
          omega (arith, a.short),
        )
    ends (is_fetching a) =
        let endpoint_is : c.provider.userinfo ≡ Some a.replied.endpoint = wanted (party_row c n).userinfo a.replied.endpoint a.replied.endpoint_is in
        inr (
          (λ jar. is_called jar (reply.Party (fetched a.replied.endpoint (word_text a.access) a.w)) _ (ap reply_at a.place ∙ ap (λ (q : RpReply). reply.Party q) a.replied.reply_is)
              (info_request_read c r a.replied.endpoint a.w a.access endpoint_is a.known.word).is),
          omega (arith, a.short),
        )
      where
        wanted : (flag : Bool) (endpoint : Text) → cond flag c.provider.userinfo None ≡ Some endpoint → c.provider.userinfo ≡ Some endpoint
        wanted true endpoint h = h
        wanted false endpoint h = absurd (cc)
    ends (is_told a) =
        let R : WorldReply = reply.Provider (op.Info (claims_text (info_members c (party_row c n).client a.user a.telling.scopes a.telling.asked))) in
        inr (
          (λ jar. is_called jar R _ a.telling.replied
              (ap (λ l. called_for c v jar l R) a.before.earlier_is ∙ ap (λ y. given_back c y R) a.before.place ∙ ap (λ (q : RpReply). handed_back c b (to.Party n) (reply.Party q) to.Provider R) a.before.replied
              ∙ (info_handed c b n (party_row c n).client a.user a.w a.message a.telling.scopes a.telling.asked r).is)),
          omega (arith, a.short),
        )
    ends (is_in a) = inl (subject_at c (party_row c n).client a.user, record { request = a.request; pair = a.pair; word = a.word; place = a.place; replied = a.replied })

    -- ---- whom it lets in

    let_in : (sub : Text) (l : LetsIn v last sub) → reply_at last ≡ reply.Party (rp.Entered l.word sub)
    let_in sub l = ap reply_at l.place ∙ ap (λ (q : RpReply). reply.Party q) l.replied

    one_subject : (w u : Word) (s t : Text) → reply.Party (rp.Entered w s) ≡ reply.Party (rp.Entered u t) → s ≡ t
    one_subject w u s t h = cc

    abbrev is_entered : WorldReply → Bool
    is_entered (reply.Party (rp.Entered w sub)) = true
    is_entered other = false

    not_let_in : (R : WorldReply) → reply_at last ≡ R → is_entered R ≡ false → (sub : Text) → LetsIn v last sub → ⊥
    not_let_in R told other sub l = true≢false (sym (ap is_entered (let_in sub l)) ∙ ap is_entered told ∙ other)

    as_user : K world last earlier → list_any gives_password L ≡ true → (sub : Text) → LetsIn v last sub → sub ≡ subject_at c (party_row c n).client v.user
    as_user (is_asking a) given sub l = absurd (not_let_in _ a.replied refl sub l)
    as_user (is_paged a) given sub l = absurd (not_let_in _ a.page.replied refl sub l)
    as_user (is_consenting a) given sub l = absurd (not_let_in _ a.page.replied refl sub l)
    as_user (is_answered a) given sub l = absurd (not_let_in _ a.answer.replied refl sub l)
    as_user (is_exchanging a) given sub l = absurd (not_let_in _ (ap reply_at a.place ∙ ap (λ (q : RpReply). reply.Party q) a.replied) refl sub l)
    as_user (is_given a) given sub l = absurd (not_let_in _ a.giving.replied refl sub l)
    as_user (is_fetching a) given sub l = absurd (not_let_in _ (ap reply_at a.place ∙ ap (λ (q : RpReply). reply.Party q) a.replied.reply_is) refl sub l)
    as_user (is_told a) given sub l = absurd (not_let_in _ a.telling.replied refl sub l)
    as_user (is_in a) given sub l =
        one_subject l.word a.word sub (subject_at c (party_row c n).client a.user) (sym (let_in sub l) ∙ ap reply_at a.place ∙ ap (λ (q : RpReply). reply.Party q) a.replied)
        ∙ ap (subject_at c (party_row c n).client) (a.visitor given)

  -- ---- all places

  abbrev Good : List Place → Type 0
  Good login = AllByRecursion (λ (y : Place). leads_on (reply_at y) ≡ true) login

  abbrev Holds : World → List Place → Type 0
  Holds world [] = ⊥
  Holds world (last ∷ earlier) = K world last earlier × Good earlier

  holds_on : (world : World) (login : List Place) (x : Place) → Now c x world → Spares login x → Holds world login → Holds (x ∷ world) login
  holds_on world [] x now spares h = absurd h
  holds_on world (last ∷ earlier) x now spares h = (stays c v world last earlier x now spares h.0, h.1)

  holds : (world : World) (login : List Place) → IsHonest c v world login → IsLegalWorld (own_site c) world → HasDistinctWords world → IsInOrder world → Holds world login
  holds w l (begun world x e) legal distinct order = (begin_known world x e (record { legal = legal; distinct = distinct; order = order }), tt)
  holds w l (waited world login x h spares) legal distinct order =
      holds_on world login x (record { legal = legal; distinct = distinct; order = order }) (demanded own_words (Spares login x) spares)
      (holds world login h (legal_before (own_site c) x world legal) (distinct_before x world distinct) order.0)
  holds w l (went_on world last earlier x h k) legal distinct order =
      let before = holds world (last ∷ earlier) h (legal_before (own_site c) x world legal) (distinct_before x world distinct) order.0 in
      (goes_on (record { registry = r; may = m; now = record { legal = legal; distinct = distinct; order = order }; step = k }) before.0, (leads world last earlier before.0, before.1))

  pub honest_logins_go_well : (world : World) (last : Place) (earlier : List Place) → IsLegalWorld (own_site c) world → HasDistinctWords world → IsInOrder world → IsHonest c v world (last ∷ earlier) → GoesWell c v last earlier
  honest_logins_go_well world last earlier legal distinct order h =
      let known = holds world (last ∷ earlier) h legal distinct order in
      record {
        good = (leads world last earlier known.0, known.1);
        arrives = ends world last earlier known.0;
        short = short world last earlier known.0;
        as_user = as_user world last earlier known.0;
      }

-- ---- at each place of a world

order_from : (later before : World) → IsInOrder (later ++ before) → IsInOrder before
order_from [] before order = order
order_from (x ∷ later) before order = order_from later before order.0

pub honest_logins_succeed : (c : Configuration) (world : World) → IsRegistry c → IsLegalWorld (own_site c) world → HasDistinctWords world → IsInOrder world → HonestLoginsSucceed c world
honest_logins_succeed c world registry legal distinct order later before v last earlier is may honest =
    let L : World → Type 0 = λ w. IsLegalWorld (own_site c) w in
    let D : World → Type 0 = λ w. HasDistinctWords w in
    let O : World → Type 0 = λ w. IsInOrder w in
    honest_logins_go_well c v registry may before last earlier
    (legal_from (own_site c) later before (subst L is legal)) (distinct_from later before (subst D is distinct)) (order_from later before (subst O is order)) honest
