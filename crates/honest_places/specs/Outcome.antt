-- The outcome of an honest login.
use Rattle.std.specs.Prelude.{◌≡◌, ◌≤◌, Bool, true, false, not, List, ◌∷◌, ◌++◌, length, is_some, ◌⊎◌}
use Rattle.std.specs.List.{AllByRecursion, list_any}
use Rattle.sso_base.specs.Words.{Word, Text}
use Rattle.client_registry.specs.Configuration.{Configuration, subject_at}
use Rattle.client_registry.specs.Numbers.{party_row}
use Rattle.op_exchange.specs.declared.ask.OpAsk.{OpAsk}
use Rattle.op_exchange.specs.declared.ask.OpAsk.TheVariants.{Login}
use Rattle.op_exchange.specs.declared.reply.OpReply.TheVariants as op
use Rattle.rp_exchange.specs.declared.reply.RpReply.TheVariants as rp
use Rattle.rp_answer.specs.Past.{RpPair}
use Rattle.sso_places.specs.declared.types.Jar.{Jar}
use Rattle.sso_places.specs.declared.types.WorldAsk.{WorldAsk}
use Rattle.sso_places.specs.declared.types.WorldReply.{WorldReply}
use Rattle.sso_places.specs.declared.types.WorldReply.TheVariants as reply
use Rattle.sso_places.specs.World.{Place, Provider, Party, Nothing, World, reply_at}
use Rattle.honest_places.specs.Login.{Visitor, called_for, MayLogIn, IsHonest}

-- the reply leads on, or begins a session: it is not a refusal, an error page, or a repeated login page
abbrev pub leads_on : WorldReply → Bool
leads_on (reply.Party (rp.Ask location browser)) = true
leads_on (reply.Party (rp.Exchange w message)) = true
leads_on (reply.Party (rp.Fetch w message)) = true
leads_on (reply.Party (rp.Entered w sub)) = true
leads_on (reply.Provider (op.LoginPage w browser again)) = not again
leads_on (reply.Provider (op.ConsentPage w browser given client scopes)) = true
leads_on (reply.Provider (op.Answered answer given)) = true
leads_on (reply.Provider (op.Tokens access id)) = true
leads_on (reply.Provider (op.Info claims)) = true
leads_on other = false

-- the party began a session for the browser, and for this subject
pub record LetsIn (v : Visitor) (x : Place) (sub : Text) : Type 0 where
  pub request : WorldAsk
  pub pair : RpPair
  pub word : Word
  pub place : x ≡ Party v.party v.browser request pair
  pub replied : pair.reply ≡ rp.Entered word sub

-- a request that posts the login form
abbrev pub is_login_form : OpAsk → Bool
is_login_form (Login turn signed browser session) = true
is_login_form asked = false

abbrev pub gives_password : Place → Bool
gives_password (Provider from request p) = is_login_form p.entry.ask
gives_password (Party n from request p) = false
gives_password Nothing = false

-- the last reply calls for a next request, whatever cookies the browser has
abbrev pub CallsOn : Configuration → Visitor → Place → List Place → Type 0
CallsOn c v last earlier = (jar : Jar) → is_some (called_for c v jar earlier (reply_at last)) ≡ true

-- Each reply leads on. The last one begins the session, or calls for one more place. There are at most nine places. If a
-- password was given, the session is that user's, under the subject for the party's client (OpenID Connect Core 1.0, 8).
pub record GoesWell (c : Configuration) (v : Visitor) (last : Place) (earlier : List Place) : Type 0 where
  pub good : AllByRecursion (λ (x : Place). leads_on (reply_at x) ≡ true) (last ∷ earlier)
  pub arrives : ((sub : Text) × LetsIn v last sub) ⊎ (CallsOn c v last earlier × (length (last ∷ earlier) ≤ 8))
  pub short : length (last ∷ earlier) ≤ 9
  pub as_user : list_any gives_password (last ∷ earlier) ≡ true → (sub : Text) → LetsIn v last sub → sub ≡ subject_at c (party_row c v.party).client v.user

-- in a world: whatever its later places, each login that is honest up to a place goes well up to that place
abbrev pub HonestLoginsSucceed : Configuration → World → Type 0
HonestLoginsSucceed c world =
    (later before : World) (v : Visitor) (last : Place) (earlier : List Place) → world ≡ later ++ before → MayLogIn c v
    → IsHonest c v before (last ∷ earlier) → GoesWell c v last earlier
