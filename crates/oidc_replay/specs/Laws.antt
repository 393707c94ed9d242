-- Laws about plays. Each is a clause of a function of `law.rt`, which says it in words.
use Rattle.std.specs.Prelude.{◌≡◌, ℕ, Bool, true, List, ◌∷◌, Option, Some, is_some, Ok}
use Rattle.sso_base.specs.Words.{Word, Text}
use Rattle.sso_base.specs.declared.http.HttpReply.{HttpReply}
use Rattle.sso_base.specs.declared.message.Message.{Message}
use Rattle.sso_model.specs.Lists.{Has}
use Rattle.client_registry.specs.Configuration.{Configuration}
use Rattle.client_registry.specs.Registered.{IsRegistry}
use Rattle.id_token.specs.declared.claims.IdClaims.{IdClaims}
use Rattle.auth_answer.specs.declared.answer.Answer.{Answer}
use Rattle.oidc_words.specs.declared.scopes.Scopes.{Scopes}
use Rattle.op_exchange.specs.declared.reply.OpReply.TheVariants as op
use Rattle.token_endpoint.specs.declared.reading.Tokens.{Tokens}
use Rattle.token_endpoint.specs.Answer.{tokens_read}
use Rattle.rp_exchange.specs.declared.reply.RpReply.TheVariants as rp
use Rattle.rp_answer.specs.Past.{RpPair}
use Rattle.rp_answer.specs.Asked.{claims_judged}
use Rattle.sso_places.specs.declared.types.To.{To}
use Rattle.sso_places.specs.declared.types.To.TheVariants as to
use Rattle.sso_places.specs.declared.types.WorldAsk.{WorldAsk}
use Rattle.sso_places.specs.declared.types.WorldReply.TheVariants as reply
use Rattle.sso_places.specs.Legal.{IsLegalWorld}
use Rattle.sso_places.specs.Site.{own_site, types_at}
use Rattle.sso_places.specs.World.{Place, Party, World, place_at, reply_at}
use Rattle.cookie_jars.specs.declared.jar_note.JarNote.{JarNote}
use Rattle.cookie_jars.specs.Jars.{jar_of}
use Rattle.trace_lines.specs.declared.line.Line.TheVariants as line
use Rattle.trace_lines.specs.Trace.{Told}
use Rattle.web_requests.specs.declared.location.Location.{Location}
use Rattle.web_requests.specs.Following.{receiver}
use Rattle.web_requests.specs.Handing.{answer_in}
use Rattle.web_requests.specs.Locations.{location_of}
use Rattle.honest_places.specs.Login.{Visitor, called_for}
use Rattle.oidc_replay.specs.Bound.{GivesTokens}
use Rattle.oidc_replay.specs.Play.{play_of}
use Rattle.oidc_replay.specs.Sending.{line_sent}
use Rattle.oidc_replay.specs.Text.{http_at}

-- ---- lines

abbrev pub RequestsAreFollowed : Type 0
RequestsAreFollowed =
    (c : Configuration) (v : Visitor) (world : World) (jars : List JarNote) (k : ℕ) (last : Place) (earlier : List Place)
    → place_at world k ≡ Some last → (location : Text) (b : Word) (l : Location) (role : To)
    → reply_at last ≡ reply.Party (rp.Ask location b) → location_of c (reply.Party (rp.Ask location b)) ≡ Some l
    → receiver c l ≡ Some role
    → line_sent c world jars (line.Follow v.browser k) ≡ called_for c v (jar_of jars v.browser role) earlier (reply_at last)

abbrev pub ResponsesAreFollowed : Type 0
ResponsesAreFollowed =
    (c : Configuration) (v : Visitor) (world : World) (jars : List JarNote) (k : ℕ) (last : Place) (earlier : List Place)
    → place_at world k ≡ Some last → (answer : Answer) (given : Option Word) (l : Location) (role : To)
    → reply_at last ≡ reply.Provider (op.Answered answer given)
    → location_of c (reply.Provider (op.Answered answer given)) ≡ Some l → receiver c l ≡ Some role
    → line_sent c world jars (line.Follow v.browser k) ≡ called_for c v (jar_of jars v.browser role) earlier (reply_at last)

abbrev pub LoginFormsAreFilledIn : Type 0
LoginFormsAreFilledIn =
    (c : Configuration) (v : Visitor) (world : World) (jars : List JarNote) (k : ℕ) (last : Place) (earlier : List Place)
    → place_at world k ≡ Some last → (w b : Word) (again : Bool) → reply_at last ≡ reply.Provider (op.LoginPage w b again)
    → line_sent c world jars (line.Login v.browser k v.id v.password)
    ≡ called_for c v (jar_of jars v.browser to.Provider) earlier (reply_at last)

abbrev pub ConsentFormsAreFilledIn : Type 0
ConsentFormsAreFilledIn =
    (c : Configuration) (v : Visitor) (world : World) (jars : List JarNote) (k : ℕ) (last : Place) (earlier : List Place)
    → place_at world k ≡ Some last → (w b : Word) (given : Option Word) (client : Text) (scopes : Scopes)
    → reply_at last ≡ reply.Provider (op.ConsentPage w b given client scopes)
    → line_sent c world jars (line.Consent v.browser k true)
    ≡ called_for c v (jar_of jars v.browser to.Provider) earlier (reply_at last)

abbrev pub TokenRequestsAreCarried : Type 0
TokenRequestsAreCarried =
    (c : Configuration) (v : Visitor) (world : World) (jars : List JarNote) (k : ℕ) (last : Place) (earlier : List Place)
    → place_at world k ≡ Some last → (w : Word) (message : Message) → reply_at last ≡ reply.Party (rp.Exchange w message)
    → line_sent c world jars (line.Carry k 0) ≡ called_for c v (jar_of jars v.browser to.Provider) earlier (reply_at last)

abbrev pub UserInfoRequestsAreCarried : Type 0
UserInfoRequestsAreCarried =
    (c : Configuration) (v : Visitor) (world : World) (jars : List JarNote) (k : ℕ) (last : Place) (earlier : List Place)
    → place_at world k ≡ Some last → (w : Word) (message : Message) → reply_at last ≡ reply.Party (rp.Fetch w message)
    → line_sent c world jars (line.Carry k 0) ≡ called_for c v (jar_of jars v.browser to.Provider) earlier (reply_at last)

abbrev pub TokenResponsesGoBack : Type 0
TokenResponsesGoBack =
    (c : Configuration) (v : Visitor) (world : World) (jars : List JarNote) (k j : ℕ) (last asking : Place) (rest : List Place)
    → place_at world k ≡ Some last → place_at world j ≡ Some asking → (access : Word) (id : Text)
    → reply_at last ≡ reply.Provider (op.Tokens access id)
    → line_sent c world jars (line.Back j k)
    ≡ called_for c v (jar_of jars v.browser to.Provider) (asking ∷ rest) (reply_at last)

abbrev pub UserInfoResponsesGoBack : Type 0
UserInfoResponsesGoBack =
    (c : Configuration) (v : Visitor) (world : World) (jars : List JarNote) (k j : ℕ) (last asking : Place) (rest : List Place)
    → place_at world k ≡ Some last → place_at world j ≡ Some asking → (claims : Text)
    → reply_at last ≡ reply.Provider (op.Info claims)
    → line_sent c world jars (line.Back j k)
    ≡ called_for c v (jar_of jars v.browser to.Provider) (asking ∷ rest) (reply_at last)

-- ---- tokens

abbrev pub ReadTokensWereGiven : Type 0
ReadTokensWereGiven =
    (c : Configuration) (world : World) (x : Place) (told : HttpReply) (came : Tokens) → IsRegistry c
    → IsLegalWorld (own_site c) world → Has world x → http_at c x ≡ Some told → tokens_read (answer_in told) ≡ Ok came
    → GivesTokens (reply_at x) came

abbrev pub UserInfoNeedsAHashedToken : Type 0
UserInfoNeedsAHashedToken =
    (c : Configuration) (told : Told) → IsRegistry c → IsLegalWorld (own_site c) (play_of c told).world
    → (n from : ℕ) (request : WorldAsk) (p : RpPair) (word : Word) (message : Message) (claims : IdClaims)
    → Has (play_of c told).world (Party n from request p) → p.reply ≡ rp.Fetch word message
    → claims_judged (types_at (own_site c) n) p.entry.ask ≡ Some claims → is_some claims.at_hash ≡ true
