-- One login by code, and how it ends: the places that the samples are about. Alice signs in at the provider with browser 1, and
-- comes to the shop.
use Rattle.std.proofs.Common.{ℕ, true, [], ◌∷◌, Option, Some, None, Ok, codes}
use Rattle.sso_base.specs.Words.{Word, Text, word_text}
use Rattle.sso_base.specs.declared.http.Method.TheVariants.{Get}
use Rattle.sso_base.specs.declared.http.Ask.{Ask}
use Rattle.client_registry.specs.Configuration.{Configuration}
use Rattle.auth_request.specs.declared.wish.Wish.{Wish}
use Rattle.auth_request.specs.declared.wish.Verdict.TheVariants.{Grant}
use Rattle.op_exchange.specs.declared.ask.OpAsk.TheVariants as op_ask
use Rattle.op_exchange.specs.declared.reply.OpReply.TheVariants.{SignedOut}
use Rattle.op_exchange.proofs.Sample.{alice, bob, wish}
use Rattle.op_answer.specs.Past.{OpPair}
use Rattle.op_answer.proofs.FirstLogin as op
use Rattle.op_answer.proofs.Sessions.{sign_out_entry, message_to_shop}
use Rattle.logout_token.specs.declared.claims.LogoutClaims.{LogoutClaims}
use Rattle.rp_exchange.specs.declared.ask.RpAsk.TheVariants as rp_ask
use Rattle.rp_exchange.specs.declared.reply.RpReply.TheVariants.{User, Left, Ended}
use Rattle.rp_answer.specs.Past.{RpPair}
use Rattle.rp_answer.proofs.Sample.{word, sample, entry_at, pair_of}
use Rattle.rp_answer.proofs.FirstVisit as rp
use Rattle.rp_answer.proofs.LoggedOut.{leave_entry, claims, logout_at}
use Rattle.sso_places.specs.declared.types.WorldAsk.{WorldAsk}
use Rattle.sso_places.specs.declared.types.WorldAsk.TheVariants.{Http, Tokens}
use Rattle.sso_places.specs.Site.{Site, own_site}
use Rattle.sso_places.specs.World.{Place, Provider, Party, World}

abbrev pub configuration : Configuration
configuration = record sample { users = alice ∷ bob ∷ []; subjects = (codes "alice" ∷ codes "bob" ∷ []) ∷ (codes "alice" ∷ codes "bob" ∷ []) ∷ [] }

abbrev pub site : Site
site = own_site configuration

-- a request that presents these cookies; its path is not read
abbrev pub shows : Option Word → Option Word → Ask
shows first second = record { method = Get; path = []; query = []; body = None; first = first; second = second; auth = None }

abbrev pub at_op : Ask → OpPair → Place
at_op request p = Provider 1 request p

abbrev pub at_shop : WorldAsk → RpPair → Place
at_shop request p = Party 0 1 request p

-- the authorization request has the nonce of the login
abbrev pub our_wish : Wish
our_wish = record wish { nonce = Some (word_text (word 3)) }

abbrev pub authorized : OpPair
authorized = op.pair_of (op.entry_at 1000 5 (op_ask.Authorize (Grant our_wish) None None)) op.login_page

-- ---- the login

abbrev pub consented : World
consented =
    at_op (shows (Some (word 5)) (Some (word 9))) (op.pair_of op.consent_entry op.code_answer)
    ∷ at_op (shows (Some (word 5)) None) (op.pair_of op.login_entry op.consent_page)
    ∷ at_op (shows None None) authorized
    ∷ at_shop (Http (shows None None)) (pair_of rp.begin_entry rp.asked)
    ∷ []

abbrev pub came : WorldAsk
came = Tokens (word 17) (record { status = 200; body = [] })

abbrev pub callback : Place
callback = at_shop (Http (shows (Some (word 1)) None)) (pair_of (rp.callback_entry 1000 (word 1)) rp.exchange)

abbrev pub exchanged : Text → World
exchanged code = at_op (shows None None) (op.pair_of (op.token_entry 1000 code) (op.tokens_reply 1000)) ∷ callback ∷ consented

abbrev pub tokens_pair : RpPair
tokens_pair = pair_of (rp.tokens_entry 1000 (word_text (word 3))) rp.entered

abbrev pub entered : Text → World
entered code = at_shop came tokens_pair ∷ exchanged code

-- its ID Token names the session that the provider answered for
abbrev pub own_session : RpPair
own_session =
    pair_of (entry_at 1000 25 (rp_ask.Tokens (word 17) (Ok (record { access = codes "access"; id = codes "id" })) (Some (Ok (record (rp.claims (word_text (word 3))) { sid = Some (word_text (word 10)) }))))) rp.entered

abbrev pub signed_on : Text → World
signed_on code = at_shop came own_session ∷ exchanged code

-- ---- what comes after it

abbrev pub visit_at : ℕ → ℕ → Place
visit_at from at = Party 0 from (Http (shows None (Some (word 26)))) (pair_of (rp.visit_entry at) (User (codes "alice")))

abbrev pub leave : Place
leave = at_shop (Http (shows None (Some (word 26)))) (pair_of leave_entry (Left true))

abbrev pub sign_out : Place
sign_out = at_op (shows None (Some (word 9))) (op.pair_of sign_out_entry (SignedOut (message_to_shop ∷ [])))

abbrev pub signed_out : Text → World
signed_out code = sign_out ∷ entered code

-- a logout token with this `jti`
abbrev pub claims_with : Text → LogoutClaims
claims_with jti = record claims { jti = jti }

abbrev pub logout : Text → Place
logout jti = Party 0 0 (Http (shows None None)) (pair_of (logout_at 1100 (claims_with jti)) (Ended 1))
