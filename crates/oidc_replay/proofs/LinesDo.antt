-- What the last reply of a login calls for is what the lines of a trace do: `follow`, `login`, `consent` with `yes`, `carry` and `back`.
use Rattle.std.proofs.Common.{◌≡◌, ℕ, Bool, true, List, ◌∷◌, Option, Some, option_map, option_and_then, refl, sym, ◌∙◌, ap}
use Rattle.sso_base.specs.Words.{Word, Text}
use Rattle.sso_base.specs.declared.message.Message.{Message}
use Rattle.client_registry.specs.Configuration.{Configuration}
use Rattle.auth_answer.specs.declared.answer.Answer.{Answer}
use Rattle.oidc_words.specs.declared.scopes.Scopes.{Scopes}
use Rattle.op_exchange.specs.declared.reply.OpReply.{OpReply}
use Rattle.op_exchange.specs.declared.reply.OpReply.TheVariants as op
use Rattle.rp_exchange.specs.declared.reply.RpReply.TheVariants as rp
use Rattle.sso_places.specs.declared.types.To.{To}
use Rattle.sso_places.specs.declared.types.To.TheVariants as to
use Rattle.sso_places.specs.declared.types.WorldReply.{WorldReply}
use Rattle.sso_places.specs.declared.types.WorldReply.TheVariants as reply
use Rattle.sso_places.specs.World.{Place, Provider, Party, Nothing, World, place_at, from_of, role_at, reply_at}
use Rattle.cookie_jars.specs.declared.jar_note.JarNote.{JarNote}
use Rattle.cookie_jars.specs.Jars.{jar_of}
use Rattle.trace_lines.specs.declared.line.Line.TheVariants.{Follow, Login, Consent, Carry, Back}
use Rattle.web_requests.specs.declared.location.Location.{Location}
use Rattle.web_requests.specs.declared.sent.Sent.{Sent}
use Rattle.web_requests.specs.Locations.{location_of}
use Rattle.web_requests.specs.Following.{receiver, followed}
use Rattle.web_requests.specs.Posting.{login_posted, consent_posted}
use Rattle.web_requests.specs.Carrying.{carried}
use Rattle.web_requests.specs.Handing.{handed_back}
use Rattle.oidc_replay.specs.Sending.{reply_of, followed_on, handed_between, line_sent}
use Rattle.honest_places.specs.Login.{Visitor, given_back, called_for}

module _ (c : Configuration) (v : Visitor) (world : World) (jars : List JarNote) (k : ℕ) (last : Place) (earlier : List Place) (there : place_at world k ≡ Some last) where
  replied : (r : WorldReply) → reply_at last ≡ r → reply_of world k ≡ Some r
  replied r is = (let F : Option Place → Option WorldReply = λ o. option_map reply_at o in ap F there ∙ ap (λ (x : WorldReply). Some x) is)

  -- a location is followed with the cookies at the role that serves it
  follow_by : (r : WorldReply) (l : Location) (role : To) → reply_at last ≡ r → location_of c r ≡ Some l → receiver c l ≡ Some role
      → line_sent c world jars (Follow v.browser k) ≡ option_and_then (λ (x : Location). followed c v.browser x (jar_of jars v.browser role)) (location_of c r)
  follow_by r l role is leads serves =
      let F : Option WorldReply → Option Sent = λ o. option_and_then (followed_on c jars v.browser) (option_and_then (location_of c) o) in
      let G : Option Location → Option Sent = λ o. option_and_then (followed_on c jars v.browser) o in
      let H : Option To → Option Sent = λ o. option_and_then (λ t. followed c v.browser l (jar_of jars v.browser t)) o in
      let J : Option Location → Option Sent = λ o. option_and_then (λ (x : Location). followed c v.browser x (jar_of jars v.browser role)) o in
      ap F (replied r is) ∙ ap G leads ∙ ap H serves ∙ sym (ap J leads)

  pub follow_asks : (location : Text) (b : Word) (l : Location) (role : To) → reply_at last ≡ reply.Party (rp.Ask location b) → location_of c (reply.Party (rp.Ask location b)) ≡ Some l → receiver c l ≡ Some role
      → line_sent c world jars (Follow v.browser k) ≡ called_for c v (jar_of jars v.browser role) earlier (reply_at last)
  follow_asks location b l role is leads serves = follow_by (reply.Party (rp.Ask location b)) l role is leads serves ∙ sym (ap (called_for c v (jar_of jars v.browser role) earlier) is)

  pub follow_answers : (answer : Answer) (given : Option Word) (l : Location) (role : To) → reply_at last ≡ reply.Provider (op.Answered answer given) → location_of c (reply.Provider (op.Answered answer given)) ≡ Some l
      → receiver c l ≡ Some role → line_sent c world jars (Follow v.browser k) ≡ called_for c v (jar_of jars v.browser role) earlier (reply_at last)
  follow_answers answer given l role is leads serves = follow_by (reply.Provider (op.Answered answer given)) l role is leads serves ∙ sym (ap (called_for c v (jar_of jars v.browser role) earlier) is)

  pub login_fills : (w b : Word) (again : Bool) → reply_at last ≡ reply.Provider (op.LoginPage w b again)
      → line_sent c world jars (Login v.browser k v.id v.password) ≡ called_for c v (jar_of jars v.browser to.Provider) earlier (reply_at last)
  login_fills w b again is =
      let F : Option WorldReply → Option Sent = λ o. option_and_then (λ r. login_posted c v.browser r v.id v.password (jar_of jars v.browser to.Provider)) o in
      ap F (replied (reply.Provider (op.LoginPage w b again)) is) ∙ sym (ap (called_for c v (jar_of jars v.browser to.Provider) earlier) is)

  pub consent_agrees : (w b : Word) (given : Option Word) (client : Text) (scopes : Scopes) → reply_at last ≡ reply.Provider (op.ConsentPage w b given client scopes)
      → line_sent c world jars (Consent v.browser k true) ≡ called_for c v (jar_of jars v.browser to.Provider) earlier (reply_at last)
  consent_agrees w b given client scopes is =
      let F : Option WorldReply → Option Sent = λ o. option_and_then (λ r. consent_posted c v.browser r true (jar_of jars v.browser to.Provider)) o in
      ap F (replied (reply.Provider (op.ConsentPage w b given client scopes)) is) ∙ sym (ap (called_for c v (jar_of jars v.browser to.Provider) earlier) is)

  carry_by : (r : WorldReply) → reply_at last ≡ r → line_sent c world jars (Carry k 0) ≡ carried c r 0
  carry_by r is = (let F : Option WorldReply → Option Sent = λ o. option_and_then (λ q. carried c q 0) o in ap F (replied r is))

  pub carry_exchanges : (w : Word) (message : Message) → reply_at last ≡ reply.Party (rp.Exchange w message)
      → line_sent c world jars (Carry k 0) ≡ called_for c v (jar_of jars v.browser to.Provider) earlier (reply_at last)
  carry_exchanges w message is = carry_by (reply.Party (rp.Exchange w message)) is ∙ sym (ap (called_for c v (jar_of jars v.browser to.Provider) earlier) is)

  pub carry_fetches : (w : Word) (message : Message) → reply_at last ≡ reply.Party (rp.Fetch w message)
      → line_sent c world jars (Carry k 0) ≡ called_for c v (jar_of jars v.browser to.Provider) earlier (reply_at last)
  carry_fetches w message is = carry_by (reply.Party (rp.Fetch w message)) is ∙ sym (ap (called_for c v (jar_of jars v.browser to.Provider) earlier) is)

of_provider : (x : Place) (r : OpReply) → reply_at x ≡ reply.Provider r → role_at x ≡ Some to.Provider
of_provider (Provider from request p) r is = refl
of_provider (Party n from request p) r is = cc
of_provider Nothing r is = cc

-- an answer is returned to the place of its request
module _ (c : Configuration) (v : Visitor) (world : World) (jars : List JarNote) (k j : ℕ) (last asking : Place) (rest : List Place) (there : place_at world k ≡ Some last) (asked : place_at world j ≡ Some asking) where
  back_by : (r : OpReply) → reply_at last ≡ reply.Provider r → line_sent c world jars (Back j k) ≡ given_back c asking (reply.Provider r)
  back_by r is =
      let A : Option Place → Option Sent = λ o. option_and_then (λ (x : Place). option_and_then (handed_between c x) (place_at world k)) o in
      let L : Option Place → Option Sent = λ o. option_and_then (handed_between c asking) o in
      let R : Option To → Option Sent = λ o. option_and_then (λ role. option_and_then (λ other. handed_back c (from_of asking) role (reply_at asking) other (reply_at last)) o) (role_at asking) in
      let W : WorldReply → Option Sent = λ q. option_and_then (λ role. handed_back c (from_of asking) role (reply_at asking) to.Provider q) (role_at asking) in
      ap A asked ∙ ap L there ∙ ap R (of_provider last r is) ∙ ap W is

  pub back_tokens : (access : Word) (id : Text) → reply_at last ≡ reply.Provider (op.Tokens access id)
      → line_sent c world jars (Back j k) ≡ called_for c v (jar_of jars v.browser to.Provider) (asking ∷ rest) (reply_at last)
  back_tokens access id is = back_by (op.Tokens access id) is ∙ sym (ap (called_for c v (jar_of jars v.browser to.Provider) (asking ∷ rest)) is)

  pub back_info : (claims : Text) → reply_at last ≡ reply.Provider (op.Info claims)
      → line_sent c world jars (Back j k) ≡ called_for c v (jar_of jars v.browser to.Provider) (asking ∷ rest) (reply_at last)
  back_info claims is = back_by (op.Info claims) is ∙ sym (ap (called_for c v (jar_of jars v.browser to.Provider) (asking ∷ rest)) is)
