-- The places of an honest login at its party, in a world: the last reply of the login called for what was sent there, and the
-- party replies as it must. The party's pending rows exist after the place.
use Rattle.std.proofs.Common.{◌≡◌, ◌<◌, ◌+◌, not, ℕ, Bool, true, false, cond, List, ◌∷◌, length, Option, Some, None, Result, Ok, refl, sym, ap, ◌∙◌, subst, arith, option_and_then, inl, inr}
use Rattle.sso_base.specs.Words.{Word, Text, IsWord, is_word, fresh_word, word_text}
use Rattle.sso_base.specs.Rows.{row_of, if_lives}
use Rattle.sso_base.specs.declared.history.Entry.{Entry}
use Rattle.sso_base.specs.declared.message.Message.{Message}
use Rattle.sso_base.proofs.RowLaws.{bytes_true, option_cases, row_has_name}
use Rattle.oidc_words.specs.Words.{parameter_words}
use Rattle.oidc_words.specs.Prompts.{none_word}
use Rattle.oidc_words.specs.Lives.{login_life, pending_life, seen_life}
use Rattle.oidc_words.specs.declared.scopes.Scopes.{Scopes}
use Rattle.oidc_words.specs.declared.response_types.Types.{Types}
use Rattle.sso_base.specs.Texts.{has_text, is_other}
use Rattle.claim_set.specs.Reading.{claims_text}
use Rattle.client_registry.specs.Configuration.{Configuration, subject_at}
use Rattle.client_registry.specs.Numbers.{party_row, party_client}
use Rattle.client_registry.specs.Registered.{IsRegistry}
use Rattle.auth_request.specs.declared.wish.Wish.{Wish}
use Rattle.auth_request.specs.declared.wish.Verdict.TheVariants as verdict
use Rattle.auth_request.specs.Values.{IsWishValue}
use Rattle.auth_request.specs.Judgement.{judgement}
use Rattle.auth_answer.specs.declared.heard.Heard.{Heard}
use Rattle.id_token.specs.declared.claims.IdClaims.{IdClaims}
use Rattle.id_token.specs.declared.no.IdNo.{IdNo}
use Rattle.token_endpoint.specs.declared.reading.Tokens.{Tokens}
use Rattle.token_endpoint.specs.Request.{token_message}
use Rattle.userinfo.specs.Held.{info_members}
use Rattle.userinfo.specs.Request.{info_message}
use Rattle.userinfo.specs.declared.header.Bearer.TheVariants.{Given}
use Rattle.login_request.specs.Parties.{MayAsk}
use Rattle.login_request.specs.Request.{login_location}
use Rattle.op_issue.specs.declared.issuing.Authentication.{Authentication}
use Rattle.op_issue.specs.IdTokens.{id_claims, issued_id}
use Rattle.op_issue.specs.Issued.{if_wished, issued_access, issued}
use Rattle.op_issue.specs.Issuing.{MayIssue}
use Rattle.op_exchange.specs.declared.ask.OpAsk.TheVariants as op_ask
use Rattle.op_exchange.specs.declared.reply.OpReply.TheVariants as op
use Rattle.rp_login.specs.declared.rows.LoginRow.{LoginRow}
use Rattle.rp_login.specs.declared.rows.PendingRow.{PendingRow}
use Rattle.rp_login.specs.declared.rows.Stage.{Stage}
use Rattle.rp_login.specs.declared.rows.Stage.TheVariants as stage
use Rattle.rp_login.specs.declared.table.RpTable.{RpTable}
use Rattle.rp_login.specs.Rows.{login_name, pending_name, dead_name, dead_begun}
use Rattle.rp_exchange.specs.declared.ask.RpAsk.{RpAsk}
use Rattle.rp_exchange.specs.declared.ask.RpAsk.TheVariants as ask
use Rattle.rp_exchange.specs.declared.no.RpNo.TheVariants as no
use Rattle.rp_exchange.specs.declared.reply.RpReply.{RpReply}
use Rattle.rp_exchange.specs.declared.reply.RpReply.TheVariants as rp
use Rattle.rp_answer.specs.Past.{RpPair, RpPast}
use Rattle.rp_answer.specs.Setup.{PartySetup, party_of}
use Rattle.rp_answer.specs.Logins.{logins}
use Rattle.rp_answer.specs.Pendings.{pending_started, pending_followed, pendings}
use Rattle.rp_answer.specs.Replies.{login_browser, exchange, fetched, entered}
use Rattle.rp_answer.specs.Legal.{IsLegalRp, NamedBy}
use Rattle.rp_answer.specs.Alive.{sid_judged, dead_for}
use Rattle.rp_answer.specs.Deads.{deads, live_dead}
use Rattle.rp_answer.proofs.NamedSids.{sids_were_named}
use Rattle.rp_login.specs.declared.rows.DeadRow.{DeadRow}
use Rattle.sso_places.specs.declared.types.Jar.{Jar}
use Rattle.sso_places.specs.declared.types.To.TheVariants as to
use Rattle.sso_places.specs.declared.types.WorldAsk.{WorldAsk}
use Rattle.sso_places.specs.declared.types.WorldReply.TheVariants as reply
use Rattle.sso_places.specs.Legal.{IsAsked, IsLegalWorld}
use Rattle.sso_places.specs.Site.{own_site, setup_at}
use Rattle.sso_places.specs.World.{Place, Party, World, rp_past, reply_at}
use Rattle.sso_places.proofs.Objects.{drawn_word, may_ask}
use Rattle.sso_places.proofs.Places.{past_own, party_legal}
use Rattle.web_requests.specs.Visiting.{login_begun}
use Rattle.web_requests.specs.Following.{reply_followed}
use Rattle.web_requests.specs.Carrying.{carried}
use Rattle.web_requests.specs.Handing.{handed_back}
use Rattle.web_requests.specs.Asked.{AsksProvider, whole_params}
use Rattle.web_requests.proofs.PostedForms.{begin_read}
use Rattle.web_requests.proofs.FollowedRequests.{request_followed_read}
use Rattle.web_requests.proofs.CarriedMessages.{info_request_read, info_handed}
use Rattle.honest_places.specs.OwnWish.{own_wish}
use Rattle.honest_places.specs.Alive.{IsNotNamed, IsAlive}
use Rattle.honest_places.specs.Conditions.{no_logout}
use Rattle.honest_places.proofs.Conditions.{demanded}
use Rattle.honest_party.proofs.OwnParty.{IsOwnParty, HasRoom, InTime}
use Rattle.honest_places.specs.Login.{sent_at}
use Rattle.honest_places.proofs.OwnWish.{own_wish_granted}
use Rattle.honest_party.proofs.Rows.{begun_login, login_waits, exchange_waits, fetch_waits, question_waits, login_lives, pending_lives}
use Rattle.honest_party.proofs.Followed.{PartysWish, heard_of, claims_of, answer_arrives, exchange_arrives, tokens_arrive}
use Rattle.honest_party.proofs.Places.{Fetches, FetchesOrEnters, begin_asks, callback_exchanges, callback_enters, front_subject, tokens_enter, info_enters}
use Rattle.honest_places.proofs.Standing.{AtProvider, AtParty, provider_stands, party_stands, tokens_stand, info_stands}

-- a request waits under a word, for this nonce and begin, since this moment, and not for another subject than this
pub record PendingStands (types : Types) (past : RpPast) (w : Word) (waits : Stage) (for_nonce : Word) (from at : ℕ) (sub : Text) : Type 0 where
  pub row : PendingRow
  pub found : row_of pending_name w (pendings types past) ≡ Some row
  pub word : row.word ≡ w
  pub stage : row.stage ≡ waits
  pub nonce : row.nonce ≡ for_nonce
  pub begun : row.begun ≡ from
  pub since : row.since ≡ at
  pub subject : is_other sub row.sub ≡ false

-- no table was full
abbrev pub WasRoom : Place → Type 0
WasRoom x = (table : RpTable) → ¬ (reply_at x ≡ reply.Party (rp.Refused (no.Full table)))

-- and the party had accepted no logout token with the `sid` of the ID Token
pub record WasFree (c : Configuration) (world : World) (x : Place) : Type 0 where
  pub room : WasRoom x
  pub alive : IsAlive None c world x

-- a session identifier that no token named is not remembered
unnamed_is_gone : (past : RpPast) (at : ℕ) (sid : Text) → IsNotNamed past sid → live_dead past at sid ≡ None
unnamed_is_gone past at sid none =
    let L : Option DeadRow → Option DeadRow = λ o. option_and_then (if_lives seen_life dead_begun at) o in
    elim (option_cases (row_of dead_name sid (deads past))) [
      | inl gone ↦ ap L gone
      | inr found ↦
          (let by : NamedBy past found.0 = sids_were_named past sid found.0 found.1 in
          let name : found.0.sid ≡ sid = row_has_name dead_name sid (deads past) found.0 found.1 in
          let S : Text → Option Text = λ t. Some t in
          absurd (none by.later by.earlier by.maker by.claims by.parts (record { asked = by.asked; count = by.count; replied = by.replied }) (by.sid_is ∙ ap S name)))
    ]

not_named : (past : RpPast) (at : ℕ) (sid : Option Text) → ((t : Text) → sid ≡ Some t → IsNotNamed past t) → option_and_then (live_dead past at) sid ≡ None
not_named past at None none = refl
not_named past at (Some sid) none = unnamed_is_gone past at sid (none sid refl)

module _ (c : Configuration) (n : ℕ) (r : IsRegistry c) (low : n < length c.parties) where
  abbrev s : PartySetup
  s = setup_at (own_site c) n

  abbrev pub own : IsOwnParty s
  own = record { registry = r; low = low; provider = refl }

  -- ---- the last place of a world is one of the party

  pub record Went (world : World) (x : Place) (p : RpPair) : Type 0 where
    pub past : rp_past n (x ∷ world) ≡ p ∷ rp_past n world
    pub legal : IsLegalRp s (p ∷ rp_past n world)
    pub room : HasRoom s (rp_past n world) p.entry
    pub alive : dead_for (party_of s).types (rp_past n world) p.entry.at p.entry.ask ≡ None

  went_at : (world : World) (from : ℕ) (request : WorldAsk) (p : RpPair) → IsLegalWorld (own_site c) (Party n from request p ∷ world) → WasFree c world (Party n from request p) → Went world (Party n from request p) p
  went_at world from request p legal free =
      let own_legal : IsLegalRp s (p ∷ rp_past n world) = party_legal (own_site c) n from request p world legal in
      record {
        past = past_own n from request p world;
        legal = own_legal;
        room = λ table full. free.room table (ap (λ (k : RpReply). reply.Party k) (own_legal.3 ∙ full));
        alive =
            not_named (rp_past n world) p.entry.at (sid_judged (party_of s).types (rp_past n world) p.entry.at p.entry.ask)
            (λ sid is. demanded no_logout (IsNotNamed (rp_past n world) sid) (free.alive sid is));
      }

  went : (world : World) (from : ℕ) (asked : RpAsk) (x : Place) → (at : AtParty n from asked x) → IsLegalWorld (own_site c) (x ∷ world) → WasFree c world x → Went world x at.pair
  went world from asked x at legal room =
      let W : Place → Type 0 = λ y. IsLegalWorld (own_site c) (y ∷ world) → WasFree c world y → Went world y at.pair in
      subst W (sym at.place) (λ legal room. went_at world from at.request at.pair legal room) legal room

  -- ---- the begin

  pub record Began (world : World) (x : Place) (from : ℕ) : Type 0 where
    pub request : WorldAsk
    pub pair : RpPair
    pub place : x ≡ Party n from request pair
    pub browser : Word
    pub may : MayAsk c n c.provider.issuer (fresh_word pair.entry.fresh 1) (fresh_word pair.entry.fresh 2)
    pub replied : pair.reply ≡ rp.Ask (login_location (party_client c n) (party_row c n) c.provider (fresh_word pair.entry.fresh 1) (fresh_word pair.entry.fresh 2)) browser
    pub login : LoginRow
    pub stands : row_of login_name (fresh_word pair.entry.fresh 1) (logins (rp_past n (x ∷ world))) ≡ Some login
    pub state : login.state ≡ fresh_word pair.entry.fresh 1
    pub nonce : login.nonce ≡ fresh_word pair.entry.fresh 2
    pub same_browser : login.browser ≡ browser
    pub begun : login.begun ≡ pair.entry.at

  pub begins : (world : World) (x : Place) (from : ℕ) (jar : Jar) → IsLegalWorld (own_site c) (x ∷ world) → WasRoom x → sent_at x ≡ Some (login_begun from n jar) → Began world x from
  begins world x from jar legal room is =
      let at : AtParty n from (ask.Begin jar.first) x = party_stands c x (Some (login_begun from n jar)) is legal.asked.0 from n (ask.Begin jar.first) (begin_read c from jar n r low) in
      let p : RpPair = at.pair in
      let B : Place → Type 0 = λ y. IsAlive None c world y in
      -- the begin of a login has no ID Token
      let alive : B x =
      subst B (sym at.place) (λ sid judged.
      (let A : RpAsk → Option Text = λ a. sid_judged (party_row c n).types (rp_past n world) p.entry.at a in
      let never : None ≡ Some sid = sym (ap A at.ask) ∙ judged in
      absurd (cc))) in
      let w : Went world x p = went world from (ask.Begin jar.first) x at legal (record { room = room; alive = alive }) in
      let past : RpPast = rp_past n world in
      let browser : Word = login_browser past p.entry jar.first in
      let state_word : IsWord (fresh_word p.entry.fresh 1) = drawn_word p.entry.fresh 1 w.legal.1.words (omega (arith, w.legal.1.four)) in
      let nonce_word : IsWord (fresh_word p.entry.fresh 2) = drawn_word p.entry.fresh 2 w.legal.1.words (omega (arith, w.legal.1.four)) in
      let told : p.reply ≡ rp.Ask (login_location (party_client c n) (party_row c n) c.provider (fresh_word p.entry.fresh 1) (fresh_word p.entry.fresh 2)) browser =
      w.legal.3 ∙ begin_asks s own past p.entry w.room w.alive jar.first at.ask in
      record {
        request = at.request;
        pair = p;
        place = at.place;
        browser = browser;
        may = may_ask (own_site c) n (fresh_word p.entry.fresh 1) (fresh_word p.entry.fresh 2) (record { registry = r; one_issuer = λ k. refl }) low state_word nonce_word;
        replied = told;
        login = begun_login (length past) p.entry browser;
        stands = ap (λ l. row_of login_name (fresh_word p.entry.fresh 1) (logins l)) w.past
            ∙ login_waits past p jar.first (login_location (party_client c n) (party_row c n) c.provider (fresh_word p.entry.fresh 1) (fresh_word p.entry.fresh 2)) browser at.ask told;
        state = refl;
        nonce = refl;
        same_browser = refl;
        begun = refl;
      }

  -- ---- the authorization request

  pub asks : (state nonce browser : Word) (from : ℕ) (jar : Jar) (x : Place) → MayAsk c n c.provider.issuer state nonce → has_text none_word (parameter_words (party_row c n).prompt) ≡ false
      → sent_at x ≡ reply_followed c from (reply.Party (rp.Ask (login_location (party_client c n) (party_row c n) c.provider state nonce) browser)) jar → IsAsked c x
      → AtProvider from (op_ask.Authorize (verdict.Grant (own_wish c n state nonce)) jar.first jar.second) x
  asks state nonce browser from jar x may silent is stands =
      let o = reply_followed c from (reply.Party (rp.Ask (login_location (party_client c n) (party_row c n) c.provider state nonce) browser)) jar in
      let judged = judgement c (whole_params (party_client c n) (party_row c n) c.provider state nonce) false in
      let read : AsksProvider c from o (op_ask.Authorize judged jar.first jar.second) = request_followed_read c n state nonce may jar from browser in
      provider_stands c x o is stands from (op_ask.Authorize (verdict.Grant (own_wish c n state nonce)) jar.first jar.second)
      (subst (λ v. AsksProvider c from o (op_ask.Authorize v jar.first jar.second)) (own_wish_granted c n state nonce may silent) read)

  -- ---- the authorization response

  module _ (wish : Wish) (who : Authentication) (at : ℕ) (fresh : List Word) (state : Word) (given : Option Word) (partys : PartysWish c n r low wish state) (may : MayIssue c wish who at) (value : IsWishValue wish) where
    abbrev heard : Heard
    heard = heard_of c n r low wish who at fresh state

    abbrev id : Option (Result IdClaims IdNo)
    id = if_wished wish.types.id_token (Ok (claims_of c n r low wish who at fresh))

    abbrev sub : Text
    sub = subject_at c wish.client who.user

    pub record Responded (world : World) (x : Place) (from : ℕ) (login : LoginRow) : Type 0 where
      pub request : WorldAsk
      pub pair : RpPair
      pub place : x ≡ Party n from request pair
      pub exchanges : wish.types.code ≡ true → (pair.reply ≡ exchange s pair.entry (word_text (fresh_word fresh 2)))
          × PendingStands (party_of s).types (rp_past n (x ∷ world)) (fresh_word pair.entry.fresh 0) stage.Tokens login.nonce login.begun pair.entry.at sub
      pub enters : wish.types.code ≡ false → wish.types.id_token ≡ true → FetchesOrEnters s pair.entry (fresh_word pair.entry.fresh 0) (issued_access wish fresh) sub pair.reply
      pub waits : (access : Word) → Fetches s (fresh_word pair.entry.fresh 0) access pair.reply
          → PendingStands (party_of s).types (rp_past n (x ∷ world)) (fresh_word pair.entry.fresh 0) stage.Info login.nonce login.begun pair.entry.at sub

    module _ (world : World) (x : Place) (from : ℕ) (jar : Jar) (login : LoginRow) (legal : IsLegalWorld (own_site c) (x ∷ world)) (room : WasFree c world x)
        (is : sent_at x ≡ reply_followed c from (reply.Provider (op.Answered (issued c wish who at fresh) given)) jar) where
      pub there : AtParty n from (ask.Callback (Ok heard) id jar.first) x
      there = party_stands c x (reply_followed c from (reply.Provider (op.Answered (issued c wish who at fresh) given)) jar) is legal.asked.0 from n (ask.Callback (Ok heard) id jar.first)
          (answer_arrives c n r low wish who at fresh state given from jar partys may value)

      abbrev p : RpPair
      p = there.pair

      abbrev past : RpPast
      past = rp_past n world

      w : Went world x p
      w = went world from (ask.Callback (Ok heard) id jar.first) x there legal room

      module _ (stands : row_of login_name state (logins past) ≡ Some login) (time : wish.types.id_token ≡ true → InTime s wish who at login.nonce login.begun p.entry.at) (soon : p.entry.at < login.begun + login_life) (browser : jar.first ≡ Some login.browser) where
        same : is_word jar.first login.browser ≡ true
        same = ap (λ o. is_word o login.browser) browser ∙ bytes_true login.browser login.browser refl

        pub responds : Responded world x from login
        responds = record {
          request = there.request;
          pair = p;
          place = there.place;
          exchanges = λ code.
              (let told : p.reply ≡ exchange s p.entry (word_text (fresh_word fresh 2)) =
              w.legal.3 ∙ callback_exchanges s own past p.entry w.room w.alive wish who at fresh state jar.first login partys time (login_lives past p.entry.at state login stands soon) same there.ask code in (
                told,
                record {
                  row = pending_started (party_of s).types p.entry.at (ask.Callback (Ok heard) id jar.first) (fresh_word p.entry.fresh 0) stage.Tokens login;
                  found = ap (λ l. row_of pending_name (fresh_word p.entry.fresh 0) (pendings (party_of s).types l)) w.past
                      ∙ exchange_waits (party_of s).types past p (fresh_word p.entry.fresh 0) (token_message (party_client c n) c.provider.token (word_text (fresh_word fresh 2)) (party_row c n).redirect) (ask.Callback (Ok heard) id jar.first) login there.ask told stands;
                  word = refl;
                  stage = refl;
                  nonce = refl;
                  begun = refl;
                  since = refl;
                  subject = front_subject s own past p.entry w.room w.alive wish who at fresh state jar.first login partys time (login_lives past p.entry.at state login stands soon) same there.ask (fresh_word p.entry.fresh 0);
                },
              ));
          enters = λ code id_token.
              subst (FetchesOrEnters s p.entry (fresh_word p.entry.fresh 0) (issued_access wish fresh) sub) (sym w.legal.3)
              (callback_enters s own past p.entry w.room w.alive wish who at fresh state jar.first login partys time (login_lives past p.entry.at state login stands soon) same there.ask code id_token);
          waits = λ access fetches. record {
            row = pending_started (party_of s).types p.entry.at (ask.Callback (Ok heard) id jar.first) (fresh_word p.entry.fresh 0) stage.Info login;
            found = ap (λ l. row_of pending_name (fresh_word p.entry.fresh 0) (pendings (party_of s).types l)) w.past
                ∙ fetch_waits (party_of s).types past p (fresh_word p.entry.fresh 0) (info_message fetches.endpoint (word_text access)) (Ok heard) id jar.first login there.ask fetches.reply_is stands;
            word = refl;
            stage = refl;
            nonce = refl;
            begun = refl;
            since = refl;
            subject = front_subject s own past p.entry w.room w.alive wish who at fresh state jar.first login partys time (login_lives past p.entry.at state login stands soon) same there.ask (fresh_word p.entry.fresh 0);
          };
        }

  -- ---- the token request

  pub exchange_stands : (e : Entry RpAsk) (code : Word) (x : Place) → sent_at x ≡ carried c (reply.Party (exchange s e (word_text code))) 0 → IsAsked c x
      → AtProvider 0 (op_ask.Token (Ok (record { client = (party_row c n).client; code = word_text code; redirect = (party_row c n).redirect }))) x
  exchange_stands e code x is stands =
      provider_stands c x (carried c (reply.Party (exchange s e (word_text code))) 0) is stands 0 (op_ask.Token (Ok (record { client = (party_row c n).client; code = word_text code; redirect = (party_row c n).redirect })))
      (exchange_arrives c n r low (fresh_word e.fresh 0) code)

  -- ---- the token response

  pub record GotTokens (world : World) (x : Place) (from : ℕ) (w access : Word) (nonce : Word) (begun : ℕ) (sub : Text) : Type 0 where
    pub request : WorldAsk
    pub pair : RpPair
    pub place : x ≡ Party n from request pair
    pub enters : FetchesOrEnters s pair.entry w (Some access) sub pair.reply
    pub waits : Fetches s w access pair.reply → PendingStands (party_of s).types (rp_past n (x ∷ world)) w stage.Info nonce begun pair.entry.at sub

  module _ (wish : Wish) (who : Authentication) (at : ℕ) (w access nonce : Word) (begun since : ℕ) (message : Message) (client : wish.client ≡ (party_row c n).client) (may : MayIssue c wish who at) (value : IsWishValue wish)
      (world : World) (x : Place) (from : ℕ) (legal : IsLegalWorld (own_site c) (x ∷ world)) (room : WasFree c world x)
      (is : sent_at x ≡ handed_back c from (to.Party n) (reply.Party (rp.Exchange w message)) to.Provider (reply.Provider (op.Tokens access (issued_id c wish who at (Some access) None)))) where
    abbrev came : Tokens
    came = record { access = word_text access; id = issued_id c wish who at (Some access) None }

    abbrev claims : IdClaims
    claims = id_claims c wish who at (Some access) None

    abbrev subject : Text
    subject = subject_at c wish.client who.user

    pub tokens_there : AtParty n from (ask.Tokens w (Ok came) (Some (Ok claims))) x
    tokens_there =
        tokens_stand c x (handed_back c from (to.Party n) (reply.Party (rp.Exchange w message)) to.Provider (reply.Provider (op.Tokens access (issued_id c wish who at (Some access) None)))) is legal.asked.0 from n w
        (ask.Tokens w (Ok came) (Some (Ok claims))) (tokens_arrive c n r low wish who at from w access message client may value)

    pub got_tokens : PendingStands (party_of s).types (rp_past n world) w stage.Tokens nonce begun since subject → InTime s wish who at nonce begun tokens_there.pair.entry.at → tokens_there.pair.entry.at < since + pending_life
        → GotTokens world x from w access nonce begun subject
    unfolding id_claims
    got_tokens stands time soon =
        let p : RpPair = tokens_there.pair in
        let past : RpPast = rp_past n world in
        let t : Went world x p = went world from (ask.Tokens w (Ok came) (Some (Ok claims))) x tokens_there legal room in
        let L : ℕ → Type 0 = λ k. p.entry.at < k + pending_life in
        let live = pending_lives (party_of s).types past p.entry.at w stage.Tokens stands.row stands.found (subst L (sym stands.since) soon) stands.stage in
        let T : Word → Type 0 = λ v. InTime s wish who at v begun p.entry.at in
        let U : ℕ → Type 0 = λ k. InTime s wish who at stands.row.nonce k p.entry.at in
        let time : InTime s wish who at stands.row.nonce stands.row.begun p.entry.at = subst U (sym stands.begun) (subst T (sym stands.nonce) time) in
        let F : RpReply → Type 0 = λ k. FetchesOrEnters s p.entry w (Some access) subject k in
        record {
          request = tokens_there.request;
          pair = p;
          place = tokens_there.place;
          enters = subst F (sym t.legal.3) (tokens_enter s own past p.entry t.room t.alive wish who at w access stands.row came time live stands.word refl stands.subject tokens_there.ask);
          waits = λ fetches. record {
            row = pending_followed (party_of s).types p.entry.at (ask.Tokens w (Ok came) (Some (Ok claims))) w stands.row;
            found = ap (λ l. row_of pending_name w (pendings (party_of s).types l)) t.past
                ∙ question_waits (party_of s).types past p w (info_message fetches.endpoint (word_text access)) w (Ok came) (Some (Ok claims)) stands.row tokens_there.ask fetches.reply_is stands.found stands.stage;
            word = refl;
            stage = refl;
            nonce = stands.nonce;
            begun = stands.begun;
            since = refl;
            subject = ap not (bytes_true subject subject refl);
          };
        }

  -- ---- the UserInfo request

  pub fetch_stands : (w access : Word) (told : RpReply) (x : Place) → Fetches s w access told → IsWord access → sent_at x ≡ carried c (reply.Party told) 0 → IsAsked c x → AtProvider 0 (op_ask.Info (Given access)) x
  fetch_stands w access told x fetches word is stands =
      let endpoint_is : c.provider.userinfo ≡ Some fetches.endpoint = wanted (party_row c n).userinfo fetches.endpoint_is in
      provider_stands c x (carried c (reply.Party (fetched fetches.endpoint (word_text access) w)) 0) (is ∙ ap (λ (k : RpReply). carried c (reply.Party k) 0) fetches.reply_is) stands 0 (op_ask.Info (Given access))
      (info_request_read c r fetches.endpoint w access endpoint_is word)
    where
      wanted : (b : Bool) → cond b c.provider.userinfo None ≡ Some fetches.endpoint → c.provider.userinfo ≡ Some fetches.endpoint
      wanted true h = h
      wanted false h = absurd (cc)

  -- ---- the UserInfo response

  pub record GotInfo (x : Place) (from : ℕ) (sub : Text) : Type 0 where
    pub request : WorldAsk
    pub pair : RpPair
    pub place : x ≡ Party n from request pair
    pub enters : pair.reply ≡ entered pair.entry sub

  module _ (user : ℕ) (w nonce : Word) (begun since : ℕ) (message : Message) (scopes : Scopes) (asked : List Text) (world : World) (x : Place) (from : ℕ) (legal : IsLegalWorld (own_site c) (x ∷ world)) (room : WasFree c world x)
      (is : sent_at x ≡ handed_back c from (to.Party n) (reply.Party (rp.Fetch w message)) to.Provider (reply.Provider (op.Info (claims_text (info_members c (party_row c n).client user scopes asked))))) where
    abbrev told_sub : Text
    told_sub = subject_at c (party_row c n).client user

    pub info_there : AtParty n from (ask.Info w (Ok told_sub)) x
    info_there =
        info_stands c x (handed_back c from (to.Party n) (reply.Party (rp.Fetch w message)) to.Provider (reply.Provider (op.Info (claims_text (info_members c (party_row c n).client user scopes asked))))) is legal.asked.0 from n w
        (ask.Info w (Ok told_sub)) (info_handed c from n (party_row c n).client user w message scopes asked r)

    pub got_info : PendingStands (party_of s).types (rp_past n world) w stage.Info nonce begun since told_sub → info_there.pair.entry.at < since + pending_life → GotInfo x from told_sub
    got_info stands soon =
        let p : RpPair = info_there.pair in
        let past : RpPast = rp_past n world in
        let t : Went world x p = went world from (ask.Info w (Ok told_sub)) x info_there legal room in
        let L : ℕ → Type 0 = λ k. p.entry.at < k + pending_life in
        let live = pending_lives (party_of s).types past p.entry.at w stage.Info stands.row stands.found (subst L (sym stands.since) soon) stands.stage in
        record {
          request = info_there.request;
          pair = p;
          place = info_there.place;
          enters = t.legal.3 ∙ info_enters s own past p.entry t.room t.alive w stands.row told_sub live stands.subject info_there.ask;
        }
