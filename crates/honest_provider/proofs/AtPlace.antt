-- A place of a login at the provider: what is known before its reply, and an answer.
use Rattle.std.proofs.Common.{◌≡◌, ◌≤◌, ◌<◌, ℕ, Bool, true, false, ◌||◌, List, ◌∷◌, length, Option, Some, None, refl, sym, ◌∙◌, ap, subst, arith}
use Rattle.std.proofs.lemmas.Bool.{ltb-true}
use Rattle.std.specs.List.{list_any}
use Rattle.std.specs.Option.{option_or}
use Rattle.sso_base.specs.Words.{Word, IsWord, fresh_word}
use Rattle.sso_base.specs.Rows.{row_of}
use Rattle.sso_base.specs.Values.{latest_moment}
use Rattle.sso_base.specs.declared.http.Ask.{Ask}
use Rattle.sso_model.specs.Lists.{Has}
use Rattle.sso_model.proofs.ListLaws.{has_append_right, distinct_apart}
use Rattle.client_registry.specs.Configuration.{Configuration}
use Rattle.client_registry.specs.Numbers.{party_row}
use Rattle.client_registry.specs.Registered.{IsRegistry}
use Rattle.auth_request.specs.declared.wish.Wish.{Wish}
use Rattle.auth_answer.specs.declared.answer.Answer.{Answer}
use Rattle.id_token.specs.Judging.{IsInAge}
use Rattle.code_grant.specs.declared.rows.SessionRow.{SessionRow}
use Rattle.code_grant.specs.Rows.{session_name}
use Rattle.op_issue.specs.declared.issuing.Authentication.{Authentication}
use Rattle.op_issue.specs.Issued.{issued}
use Rattle.op_issue.specs.Issuing.{MayIssue}
use Rattle.op_exchange.specs.declared.ask.OpAsk.{OpAsk}
use Rattle.op_exchange.specs.declared.reply.OpReply.{OpReply}
use Rattle.op_exchange.specs.Asks.{is_prepared}
use Rattle.op_exchange.specs.Replied.{session_given, code_in}
use Rattle.op_response.specs.Told.{browser_given}
use Rattle.op_request.specs.Requests.{HasCookies}
use Rattle.op_request.proofs.LedTo.{has_cookies}
use Rattle.op_request.proofs.PreparedAsks.{always_prepared}
use Rattle.op_answer.specs.Past.{OpPair, OpPast}
use Rattle.op_answer.specs.Sessions.{sessions, session_of, session_used, wish_by}
use Rattle.op_answer.specs.Codes.{code_issued}
use Rattle.op_answer.specs.AccessTokens.{access_issued}
use Rattle.op_answer.specs.Authentications.{session_authentication}
use Rattle.op_answer.specs.Answering.{op_answer}
use Rattle.op_answer.proofs.OwnRows.{sessions_are_own}
use Rattle.sso_places.specs.declared.types.Jar.{Jar}
use Rattle.sso_places.specs.Cookies.{words_in}
use Rattle.sso_places.specs.Site.{own_site}
use Rattle.sso_places.specs.World.{Place, Provider, World, op_past, drawn}
use Rattle.sso_places.proofs.Objects.{drawn_word, may_ask}
use Rattle.cookie_jars.specs.Jars.{jar_with}
use Rattle.honest_places.specs.Login.{Visitor, wants_none, jar_shown, is_full}
use Rattle.honest_places.specs.Outcome.{gives_password, is_login_form}
use Rattle.honest_places.specs.OwnWish.{own_wish}
use Rattle.honest_places.proofs.OwnWish.{own_wish_may_ask, own_wish_of_anybody}
use Rattle.honest_places.proofs.OwnWishValue.{own_wish_issued}
use Rattle.honest_places.proofs.Worlds.{Now, IsVisitor}
use Rattle.honest_provider.proofs.Outcomes.{Answering}
use Rattle.honest_provider.specs.Sparing.{without_clients}
use Rattle.honest_provider.proofs.Wanted.{IsPlain}
use Rattle.honest_provider.proofs.Answering.{IsAsked}
use Rattle.honest_provider.proofs.Making.{IsNew, code_stands, access_stands}
use Rattle.sso_places.proofs.Places.{fresh_has}
use Rattle.honest_places.proofs.OwnWords.{IsOwn, own_drawn, own_shown, in_words}
use Rattle.honest_provider.proofs.Facts.{AnswerWaits}
use Rattle.honest_provider.proofs.Living.{session_was_drawn, wished}
use Rattle.op_exchange.specs.declared.reply.OpReply.TheVariants as op
use Rattle.sso_places.specs.declared.types.WorldReply.TheVariants as reply

-- a place of the login at the provider, after this world: the party is in the registry and lets its users be prompted
pub record Here (c : Configuration) (v : Visitor) (login : List Place) (world : World) (from : ℕ) (request : Ask) (p : OpPair) : Type 0 where
  pub registry : IsRegistry c
  pub low : v.party < length c.parties
  pub silent : wants_none c v.party ≡ false
  pub now : Now c (Provider from request p) world
  pub room : is_full (reply.Provider p.reply) ≡ false

module _ {c : Configuration} {v : Visitor} {login : List Place} {world : World} {from : ℕ} {request : Ask} {p : OpPair} (here : Here c v login world from request p) where
  abbrev y : Place
  y = Provider from request p

  abbrev past : OpPast
  past = op_past world

  abbrev at : ℕ
  at = p.entry.at

  pub plain : (state nonce : Word) → IsWord state → IsWord nonce → IsPlain (own_wish c v.party state nonce)
  plain state nonce state_word nonce_word =
      let may = may_ask (own_site c) v.party state nonce (record { registry = here.registry; one_issuer = λ n. refl }) here.low state_word nonce_word in
      record { may_ask = own_wish_may_ask c v.party state nonce may here.silent; anybody = own_wish_of_anybody c v.party state nonce here.registry here.low }

  pub told : (r : OpReply) → op_answer c past p.entry ≡ r → p.reply ≡ r
  told r h = here.now.legal.provider.3 ∙ h

  not_full : op_answer c past p.entry ≡ op.Full → ⊥
  not_full h =
      let F : OpReply → Bool = λ q. is_full (reply.Provider q) in
      let never : true ≡ false = sym (ap F (told op.Full h)) ∙ here.room in
      cc

  pub asks : (asked : OpAsk) → p.entry.ask ≡ asked → IsAsked c past p.entry asked
  asks asked is =
      let P : OpAsk → Bool = λ a. is_prepared c a in
      record { is = is; prepared = sym (ap P (sym here.now.legal.asked.0 ∙ is)) ∙ always_prepared c request here.registry; room = not_full }

  pub cookies : (asked : OpAsk) → p.entry.ask ≡ asked → HasCookies request asked
  cookies asked is = subst (HasCookies request) (sym here.now.legal.asked.0 ∙ is) (has_cookies c request)

  pub four : length p.entry.fresh ≡ 4
  four = here.now.legal.provider.1.four

  pub fresh_is_word : (k : ℕ) → k < 4 → IsWord (fresh_word p.entry.fresh k)
  fresh_is_word k l = drawn_word p.entry.fresh k here.now.legal.provider.1.words (omega (arith, four, l))

  pub fresh_own : (k : ℕ) → k < 4 → IsOwn (y ∷ login) (y ∷ world) (fresh_word p.entry.fresh k)
  fresh_own k l = own_drawn login world y k l four

  -- the session that the request presents
  pub shown_own : (w : Word) → request.second ≡ Some w → Has (drawn (y ∷ world)) w → IsOwn (y ∷ login) (y ∷ world) w
  shown_own w is has = own_shown login world y w (has_append_right (words_in request.first) (words_in request.second) w (in_words request.second w is)) has

  -- no session has the first word that was drawn
  pub is_new : IsNew past p
  is_new row there =
      distinct_apart p.entry.fresh (drawn world) (fresh_word p.entry.fresh 0) here.now.distinct (fresh_has p.entry.fresh 0 (omega arith) four)
      (session_was_drawn c world (fresh_word p.entry.fresh 0) row here.now.legal.provider.0 there)

  -- a session that exists after the place is of a known user
  known : (state nonce : Word) → IsWord state → IsWord nonce → (w : Word) (row : SessionRow) → row_of session_name w (sessions (p ∷ past)) ≡ Some row → MayIssue c (own_wish c v.party state nonce) (session_authentication row) at
  known state nonce state_word nonce_word w row there =
      let own = sessions_are_own c (p ∷ past) here.now.legal.provider w row there in
      let l : row.auth_time ≤ at = own.auth_time in
      let m : at ≤ latest_moment = here.now.legal.provider.1.moment in
      own_wish_issued c v.party here.registry here.low state nonce state_word nonce_word (session_authentication row) at (ltb-true row.user (length c.users) own.user) own.sid (omega (arith, l, m)) m

  -- ---- an answer, for a session that exists after it

  -- a session, except for its clients
  pub same_who : (a b : SessionRow) → without_clients a ≡ without_clients b → session_authentication a ≡ session_authentication b
  same_who a b same = ap session_authentication same

  answer_stands : (state nonce : Word) (who : Authentication) (given : Option Word) (session : SessionRow) → session_authentication session ≡ who
      → p.reply ≡ op.Answered (issued c (own_wish c v.party state nonce) who at p.entry.fresh) given → wish_by past p.entry.ask ≡ Some (own_wish c v.party state nonce)
      → session_of (p ∷ past) (session_used past p.entry.ask p.reply) ≡ Some session → AnswerWaits c v (y ∷ login) (y ∷ world) state nonce who p.entry.fresh
  answer_stands state nonce who given session is replied wish_is stands =
      let wish : Wish = own_wish c v.party state nonce in
      let answer : Answer = issued c wish who at p.entry.fresh in
      let K : Word = fresh_word p.entry.fresh 2 in
      let A : Word = fresh_word p.entry.fresh 3 in
      record {
        code = λ has.
            (let code_is : code_in p.reply ≡ Some K = ap code_in replied ∙ wished wish.types.code K has in
            record {
              row = code_issued (length past) at K wish session;
              stands = code_stands past p K wish session code_is wish_is stands;
              wish_is = refl;
              who_is = is;
              unspent = refl;
              own = fresh_own 2 (omega arith);
              word = fresh_is_word 2 (omega arith);
            });
        access = λ has.
            (record {
              row = access_issued (length past) at A None wish session.user;
              stands = access_stands past p answer given A wish session replied (wished wish.types.token A has) wish_is stands;
              client_is = refl;
              user_is = ap (λ (w : Authentication). w.user) is;
              own = fresh_own 3 (omega arith);
              own_code = tt;
              word = fresh_is_word 3 (omega arith);
            });
      }

  pub answering : (state nonce : Word) (begun : ℕ) → IsWord state → IsWord nonce → (who : Authentication) (given : Option Word) (w : Word) (session : SessionRow) → session_authentication session ≡ who
      → IsInAge (party_row c v.party).max_age (Some who.auth_time) begun → IsVisitor v (y ∷ login) who.user
      → op_answer c past p.entry ≡ op.Answered (issued c (own_wish c v.party state nonce) who at p.entry.fresh) given → wish_by past p.entry.ask ≡ Some (own_wish c v.party state nonce)
      → session_used past p.entry.ask (op.Answered (issued c (own_wish c v.party state nonce) who at p.entry.fresh) given) ≡ Some w
      → row_of session_name w (sessions (p ∷ past)) ≡ Some session
      → Answering c v (y ∷ login) (y ∷ world) y state nonce begun
  answering state nonce begun state_word nonce_word who given w session is age visitor answer wish_is used stands =
      let r : OpReply = op.Answered (issued c (own_wish c v.party state nonce) who at p.entry.fresh) given in
      let replied : p.reply ≡ r = told r answer in
      let S : Option Word → Option SessionRow = λ o. session_of (p ∷ past) o in
      let U : OpReply → Option Word = λ q. session_used past p.entry.ask q in
      let W : Authentication → Type 0 = λ a. MayIssue c (own_wish c v.party state nonce) a at in
      record {
        who = who;
        at = at;
        fresh = p.entry.fresh;
        given = given;
        replied = ap (λ (q : OpReply). reply.Provider q) replied;
        known = record {
          may = subst W is (known state nonce state_word nonce_word w session stands);
          age = age;
          past = omega arith;
          known = answer_stands state nonce who given session is replied wish_is (ap S (ap U replied ∙ used) ∙ stands);
          visitor = visitor;
        };
      }

  -- ---- the cookies after a page

  abbrev pub after_jar : Jar
  after_jar = jar_with (record { first = browser_given p.reply; second = session_given p.reply }) (jar_shown y)

  pub page_first : (b : Word) → browser_given p.reply ≡ Some b → after_jar.first ≡ Some b
  page_first b is = (let F : Option Word → Option Word = λ o. option_or o request.first in ap F is)

  -- ---- no password was given yet

  pub quiet : (asked : OpAsk) → p.entry.ask ≡ asked → is_login_form asked ≡ false → list_any gives_password login ≡ false → list_any gives_password (y ∷ login) ≡ false
  quiet asked is form none = (let F : Bool → Bool = λ b. b || list_any gives_password login in ap F (ap is_login_form is ∙ form) ∙ none)

  pub never_given : (asked : OpAsk) → p.entry.ask ≡ asked → is_login_form asked ≡ false → list_any gives_password login ≡ false → list_any gives_password (y ∷ login) ≡ true → ⊥
  never_given asked is form none given = (let never : true ≡ false = sym given ∙ quiet asked is form none in cc)
