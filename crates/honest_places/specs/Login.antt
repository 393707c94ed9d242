-- An honest login among any other requests. A browser begins a login at a relying party, and then each time does what the last
-- reply calls for. It sends the cookies that it was last given, in time, and the password of one user. Nobody else presents a
-- word of the login, and the party has accepted no logout token of its session.
use Rattle.std.specs.Prelude.{◌≡◌, ◌<◌, ℕ, Bool, true, false, List, [], ◌∷◌, length, Option, Some, None, option_and_then, if◌then◌else◌}
use Rattle.std.specs.Str.{IsUtf8}
use Rattle.sso_base.specs.Words.{Word, Text}
use Rattle.sso_base.specs.Texts.{has_text}
use Rattle.sso_model.specs.Lists.{Has, Lacks}
use Rattle.oidc_words.specs.Prompts.{none_word}
use Rattle.oidc_words.specs.Words.{parameter_words}
use Rattle.client_registry.specs.Configuration.{Configuration}
use Rattle.client_registry.specs.Numbers.{party_row}
use Rattle.op_exchange.specs.declared.reply.OpReply.TheVariants as op
use Rattle.op_request.specs.Prepared.{signed_user}
use Rattle.rp_exchange.specs.declared.no.RpNo.TheVariants as no
use Rattle.rp_exchange.specs.declared.reply.RpReply.TheVariants as rp
use Rattle.sso_places.specs.declared.types.Jar.{Jar}
use Rattle.sso_places.specs.declared.types.To.{To}
use Rattle.sso_places.specs.declared.types.To.TheVariants as to
use Rattle.sso_places.specs.declared.types.WorldAsk.TheVariants.{Http}
use Rattle.sso_places.specs.declared.types.WorldReply.{WorldReply}
use Rattle.sso_places.specs.declared.types.WorldReply.TheVariants as reply
use Rattle.sso_places.specs.Cookies.{no_jar, jar_set}
use Rattle.sso_places.specs.World.{Place, Provider, Party, Nothing, World, from_of, role_at, reply_at}
use Rattle.cookie_jars.specs.Jars.{jar_with, is_role}
use Rattle.web_requests.specs.declared.sent.Sent.{Sent}
use Rattle.web_requests.specs.Sending.{sent}
use Rattle.web_requests.specs.Visiting.{login_begun}
use Rattle.web_requests.specs.Following.{reply_followed}
use Rattle.web_requests.specs.Posting.{login_posted, consent_posted}
use Rattle.web_requests.specs.Carrying.{carried}
use Rattle.web_requests.specs.Handing.{handed_back}
use Rattle.honest_places.specs.Conditions.{Condition, party_may_ask, right_password, last_cookies, own_words, free_rows, Unless}
use Rattle.honest_places.specs.InTime.{IsInTime}
use Rattle.honest_places.specs.Alive.{IsAlive}
use Rattle.honest_places.specs.Shown.{shown_at, words_of}

-- ---- the visitor

-- a browser, the number of the party at which it logs in, and the number of its user, with the id and the password that the
-- user types
pub record Visitor : Type 0 where
  pub browser : ℕ
  pub party : ℕ
  pub user : ℕ
  pub id : Text
  pub password : Text

-- the party's `prompt` has the word `none` (OpenID Connect Core 1.0, 3.1.2.1)
abbrev pub wants_none : Configuration → ℕ → Bool
wants_none c n = has_text none_word (parameter_words (party_row c n).prompt)

-- the party is in the registry and lets its users be prompted; the password is the user's
pub record MayLogInBut (left_out : Option Condition) (c : Configuration) (v : Visitor) : Type 0 where
  pub party : v.party < length c.parties
  pub may_ask : Unless left_out party_may_ask (wants_none c v.party ≡ false)
  pub id_text : IsUtf8 v.id
  pub password_text : IsUtf8 v.password
  pub right : Unless left_out right_password (signed_user c v.id v.password ≡ Some v.user)

-- ---- what a reply calls for

-- the request that was sent at a place
abbrev pub sent_at : Place → Option Sent
sent_at (Provider from request p) = Some (sent from to.Provider request)
sent_at (Party n from request p) = Some (record { from = from; to = to.Party n; ask = request })
sent_at Nothing = None

-- the provider's answer to the token request or the UserInfo request of a place, returned to that party
abbrev pub given_back : Configuration → Place → WorldReply → Option Sent
given_back c asking answer =
    option_and_then (λ role. handed_back c (from_of asking) role (reply_at asking) to.Provider answer) (role_at asking)

-- What the last reply of a login calls for, given its earlier places: following a location, filling in the login form, giving
-- consent, carrying a party's message to the provider, or returning its answer. The browser has this jar at the role that
-- receives it.
abbrev pub called_for : Configuration → Visitor → Jar → List Place → WorldReply → Option Sent
called_for c v jar earlier (reply.Party (rp.Ask location b)) = reply_followed c v.browser (reply.Party (rp.Ask location b)) jar
called_for c v jar earlier (reply.Provider (op.LoginPage w b again)) =
    login_posted c v.browser (reply.Provider (op.LoginPage w b again)) v.id v.password jar
called_for c v jar earlier (reply.Provider (op.ConsentPage w b given client scopes)) =
    consent_posted c v.browser (reply.Provider (op.ConsentPage w b given client scopes)) true jar
called_for c v jar earlier (reply.Provider (op.Answered answer given)) = reply_followed c v.browser (reply.Provider (op.Answered answer given)) jar
called_for c v jar earlier (reply.Party (rp.Exchange w message)) = carried c (reply.Party (rp.Exchange w message)) 0
called_for c v jar earlier (reply.Party (rp.Fetch w message)) = carried c (reply.Party (rp.Fetch w message)) 0
called_for c v jar (asking ∷ earlier) (reply.Provider (op.Tokens access id)) = given_back c asking (reply.Provider (op.Tokens access id))
called_for c v jar (asking ∷ earlier) (reply.Provider (op.Info claims)) = given_back c asking (reply.Provider (op.Info claims))
called_for c v jar earlier other = None

-- ---- the cookies that the browser has

-- the cookies that were presented at a place
abbrev pub jar_shown : Place → Jar
jar_shown (Provider from request p) = record { first = request.first; second = request.second }
jar_shown (Party n from (Http request) p) = record { first = request.first; second = request.second }
jar_shown (Party n from request p) = no_jar
jar_shown Nothing = no_jar

abbrev pub is_at : To → Option To → Bool
is_at role None = false
is_at role (Some other) = is_role role other

-- The jar at a role after places of a login: the cookies that the last of them there set, or else presented. If there is none:
-- any jar.
abbrev pub jar_after : To → List Place → Option Jar
jar_after role [] = None
jar_after role (x ∷ login) = if is_at role (role_at x) then Some (jar_with (jar_set x) (jar_shown x)) else jar_after role login

abbrev pub FitsJar : Jar → Option Jar → Type 0
FitsJar jar None = Unit {0}
FitsJar jar (Some kept) = jar ≡ kept

-- ---- the login, place by place

abbrev pub is_full : WorldReply → Bool
is_full (reply.Provider op.Full) = true
is_full (reply.Party (rp.Refused (no.Full table))) = true
is_full other = false

-- the browser begins a login at the party
pub record Begins (left_out : Option Condition) (v : Visitor) (x : Place) : Type 0 where
  pub jar : Jar
  pub asked : sent_at x ≡ Some (login_begun v.browser v.party jar)
  pub room : Unless left_out free_rows (is_full (reply_at x) ≡ false)

-- it does what the last reply calls for
pub record Continues (left_out : Option Condition) (c : Configuration) (v : Visitor) (world : World) (x last : Place) (earlier : List Place) : Type 0 where
  pub jar : Jar
  pub done : Sent
  pub called : called_for c v jar earlier (reply_at last) ≡ Some done
  pub asked : sent_at x ≡ Some done
  pub cookies : Unless left_out last_cookies (FitsJar jar (jar_after done.to (last ∷ earlier)))
  pub in_time : IsInTime left_out c world x
  pub alive : IsAlive left_out c world x
  pub room : Unless left_out free_rows (is_full (reply_at x) ≡ false)

-- the place presents no word of the login
abbrev pub Spares : List Place → Place → Type 0
Spares login x = (w : Word) → Has (shown_at x) w → Lacks (words_of login) w

-- The places of a login so far, the newest first, in a world: the login begins, or a place is not part of it, or it continues.
pub data IsHonestBut (left_out : Option Condition) (c : Configuration) (v : Visitor) : World → List Place → Type 0 where
  begun : (world : World) (x : Place) → Begins left_out v x → IsHonestBut left_out c v (x ∷ world) (x ∷ [])
  waited : (world : World) (login : List Place) (x : Place) → IsHonestBut left_out c v world login → Unless left_out own_words (Spares login x)
      → IsHonestBut left_out c v (x ∷ world) login
  went_on : (world : World) (last : Place) (earlier : List Place) (x : Place) → IsHonestBut left_out c v world (last ∷ earlier)
      → Continues left_out c v world x last earlier → IsHonestBut left_out c v (x ∷ world) (x ∷ last ∷ earlier)

-- ---- with all conditions

abbrev pub MayLogIn : Configuration → Visitor → Type 0
MayLogIn c v = MayLogInBut None c v

abbrev pub IsHonest : Configuration → Visitor → World → List Place → Type 0
IsHonest c v world login = IsHonestBut None c v world login
