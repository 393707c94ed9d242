-- The provider's answers to one login by code, by computation. Sealing stays closed.
use Rattle.std.proofs.Common.{◌≡◌, ℕ, true, false, [], ◌∷◌, Some, None, is_some, Ok, codes, refl}
use Rattle.sso_base.specs.declared.history.Entry.{Entry}
use Rattle.auth_request.specs.declared.wish.Verdict.TheVariants.{Grant}
use Rattle.token_endpoint.specs.declared.error.TokenError.TheVariants.{InvalidGrant}
use Rattle.auth_request.specs.declared.wish.PageNo.TheVariants as page
use Rattle.op_exchange.specs.declared.ask.OpAsk.{OpAsk}
use Rattle.op_exchange.specs.declared.ask.OpAsk.TheVariants as ask
use Rattle.op_exchange.specs.declared.reply.OpReply.{OpReply}
use Rattle.op_exchange.specs.declared.reply.OpReply.TheVariants.{LoginPage, ConsentPage, Answered, ErrorPage, Tokens, TokenRefused}
use Rattle.sso_base.specs.Words.{Text, word_of_text}
use Rattle.op_issue.specs.declared.issuing.Authentication.{Authentication}
use Rattle.op_answer.specs.Past.{OpPast, OpPair}
use Rattle.op_answer.specs.AccessTokens.{live_access_token}
use Rattle.user_interaction.specs.Need.{needed, needed_scopes}
use Rattle.oidc_words.specs.Scopes.{joined}
use Rattle.oidc_words.specs.Claims.{scopes_with_any}
use Rattle.client_registry.specs.ClientSets.{no_clients}
use Rattle.op_answer.specs.Answering.{op_answer}
use Rattle.op_issue.specs.IdTokens.{issued_id}
use Rattle.op_exchange.proofs.Sample.{word, words, sample, wish, profile_scopes, callback_uri}

abbrev pub entry_at : ℕ → ℕ → OpAsk → Entry OpAsk
entry_at at n asked = record { at = at; fresh = words n; ask = asked }

abbrev pub pair_of : Entry OpAsk → OpReply → OpPair
pair_of e reply = record { entry = e; reply = reply }

abbrev pub authorize_entry : Entry OpAsk
authorize_entry = entry_at 1000 5 (ask.Authorize (Grant wish) None None)

abbrev pub login_page : OpReply
login_page = LoginPage (word 6) (word 5) false

pub authorize_gets_login : op_answer sample [] authorize_entry ≡ login_page
unfolding op_answer needed needed_scopes joined scopes_with_any no_clients
authorize_gets_login = refl

abbrev pub past_login : OpPast
past_login = pair_of authorize_entry login_page ∷ []

abbrev pub login_entry : Entry OpAsk
login_entry = entry_at 1000 9 (ask.Login (Some (word 6)) (Some 0) (Some (word 5)) None)

abbrev pub consent_page : OpReply
consent_page = ConsentPage (word 6) (word 5) (Some (word 9)) (codes "shop-client") profile_scopes

pub login_gets_consent : op_answer sample past_login login_entry ≡ consent_page
unfolding op_answer needed needed_scopes joined scopes_with_any no_clients
login_gets_consent = refl

abbrev pub past_consent : OpPast
past_consent = pair_of login_entry consent_page ∷ past_login

abbrev pub consent_entry : Entry OpAsk
consent_entry = entry_at 1000 13 (ask.Consent (Some (word 6)) true (Some (word 5)) (Some (word 9)))

abbrev pub code_answer : OpReply
code_answer =
    Answered (record { redirect = callback_uri; fragment = false; code = Some (word 15); access = None; id = None; state = Some (codes "state") }) None

pub consent_gets_code : op_answer sample past_consent consent_entry ≡ code_answer
unfolding op_answer needed needed_scopes joined scopes_with_any no_clients
consent_gets_code = refl

-- the consent page belongs to the browser that logged in
abbrev pub other_browser : Entry OpAsk
other_browser = entry_at 1000 13 (ask.Consent (Some (word 6)) true (Some (word 7)) (Some (word 9)))

pub consent_of_other_browser : op_answer sample past_consent other_browser ≡ ErrorPage page.Browser
unfolding op_answer needed needed_scopes joined scopes_with_any no_clients
consent_of_other_browser = refl

-- a turn lives for 600 seconds
abbrev pub late_consent : Entry OpAsk
late_consent = entry_at 1600 13 (ask.Consent (Some (word 6)) true (Some (word 5)) (Some (word 9)))

pub consent_after_ten_minutes : op_answer sample past_consent late_consent ≡ ErrorPage page.Turn
unfolding op_answer needed needed_scopes joined scopes_with_any no_clients
consent_after_ten_minutes = refl

abbrev pub past_code : OpPast
past_code = pair_of consent_entry code_answer ∷ past_consent

abbrev pub token_entry : ℕ → Text → Entry OpAsk
token_entry at t = entry_at at 21 (ask.Token (Ok (record { client = 0; code = t; redirect = callback_uri })))

abbrev pub signed_alice : Authentication
signed_alice = record { user = 0; sid = word 10; auth_time = 1000 }

abbrev pub tokens_reply : ℕ → OpReply
tokens_reply at = Tokens (word 21) (issued_id sample wish signed_alice at (Some (word 21)) None)

pub code_gets_tokens : (t : Text) → word_of_text t ≡ Some (word 15) → op_answer sample past_code (token_entry 1119 t) ≡ tokens_reply 1119
unfolding op_answer needed needed_scopes joined scopes_with_any no_clients
code_gets_tokens t spells = rw spells refl

pub code_gets_tokens_at_once : (t : Text) → word_of_text t ≡ Some (word 15) → op_answer sample past_code (token_entry 1000 t) ≡ tokens_reply 1000
unfolding op_answer needed needed_scopes joined scopes_with_any no_clients
code_gets_tokens_at_once t spells = rw spells refl

-- a code is usable for 120 seconds
pub code_after_two_minutes : (t : Text) → word_of_text t ≡ Some (word 15) → op_answer sample past_code (token_entry 1120 t) ≡ TokenRefused InvalidGrant
unfolding op_answer needed needed_scopes joined scopes_with_any no_clients
code_after_two_minutes t spells = rw spells refl

abbrev pub past_tokens : Text → OpPast
past_tokens t = pair_of (token_entry 1000 t) (tokens_reply 1000) ∷ past_code

-- and once
pub code_used_twice : (t : Text) → word_of_text t ≡ Some (word 15) → op_answer sample (past_tokens t) (token_entry 1000 t) ≡ TokenRefused InvalidGrant
unfolding op_answer needed needed_scopes joined scopes_with_any no_clients
code_used_twice t spells = rw spells refl

-- the access token lives, until its code is used again by its own client
pub access_token_lives : (t : Text) → word_of_text t ≡ Some (word 15) → is_some (live_access_token (past_tokens t) 4599 (word 21)) ≡ true
access_token_lives t spells = rw spells refl

pub access_token_after_an_hour : (t : Text) → word_of_text t ≡ Some (word 15) → live_access_token (past_tokens t) 4600 (word 21) ≡ None
access_token_after_an_hour t spells = rw spells refl

pub access_token_of_code_used_twice : (t : Text) → word_of_text t ≡ Some (word 15)
    → live_access_token (pair_of (token_entry 1000 t) (TokenRefused InvalidGrant) ∷ past_tokens t) 1001 (word 21) ≡ None
access_token_of_code_used_twice t spells = rw spells (rw spells refl)
