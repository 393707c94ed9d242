-- The roles of the two servers. A core that the provider or a relying party is in says of itself what its requests and replies are.
use Rattle.std.specs.Prelude.{ℕ, Bool, true, false, not, ◌||◌, List, [], Option, Some, None, option_map, unwrap_or}
use Rattle.sso_base.specs.Words.{Word, Text}
use Rattle.sso_base.specs.declared.http.Ask.{Ask}
use Rattle.sso_base.specs.declared.http.HttpReply.{HttpReply}
use Rattle.sso_base.specs.declared.message.Message.{Message}
use Rattle.sso_base.specs.declared.message.Answered.{Answered}
use Rattle.client_registry.specs.Configuration.{Configuration}
use Rattle.client_registry.specs.Numbers.{party_name, party_row}
use Rattle.op_exchange.specs.declared.ask.OpAsk.{OpAsk}
use Rattle.op_exchange.specs.declared.ask.OpAsk.TheVariants as op_ask
use Rattle.op_exchange.specs.Held as op_held
use Rattle.op_request.specs.Routes.{is_login}
use Rattle.op_response.specs.Cookies as op_cookies
use Rattle.rp_exchange.specs.declared.ask.RpAsk.{RpAsk}
use Rattle.rp_exchange.specs.declared.ask.RpAsk.TheVariants as rp_ask
use Rattle.rp_exchange.specs.declared.reply.RpReply.{RpReply}
use Rattle.rp_exchange.specs.declared.reply.RpReply.TheVariants.{Exchange, Fetch}
use Rattle.rp_exchange.specs.Held as rp_held
use Rattle.rp_response.specs.Cookies as rp_cookies
use Rattle.core_stack.specs.declared.sending.Sending.{Sending}
use Rattle.serving.specs.Manner.{Manner}

-- ---- the provider

-- the names under which its two cookies are set and read: the browser's and the session's
abbrev pub provider_names : Configuration → Text × Text
provider_names c = (op_cookies.browser_cookie c.settings.host_cookies, op_cookies.session_cookie c.settings.host_cookies)

-- the provider's request in a request is small, or there is none
abbrev pub is_small_if : Option OpAsk → Bool
is_small_if (Some asked) = op_held.is_small asked
is_small_if None = true

-- It makes no requests to other servers. A login proves a password. The clients of a session are notified of a sign-out before its
-- reply is written (OpenID Connect Back-Channel Logout 1.0, 2.5). If its history lasts, it takes only small requests.
abbrev pub provider_manner : {A R : Type 0} → (A → Option OpAsk) → (R → Option (List Message)) → (Configuration → Ask → A) → (OpAsk → A)
    → (Configuration → R → HttpReply) → (A → ℕ) → Configuration → Manner A R
provider_manner plain notices prepared from_op http weighs c = record {
  first = (provider_names c).0;
  second = (provider_names c).1;
  prepared = prepared c;
  proves = is_login c.prefix;
  question = λ reply. None;
  answered = λ reply answer. from_op op_ask.NotHere;
  notices = λ reply. unwrap_or (notices reply) [];
  http = http c;
  takes = λ asked. not c.lasting || is_small_if (plain asked);
  weighs = weighs;
  workers = c.settings.workers;
}

-- ---- the relying party with a number

-- the same at a party
abbrev pub party_names : Configuration → ℕ → Text × Text
party_names c n =
    (rp_cookies.browser_cookie c.settings.host_cookies (party_name c n), rp_cookies.session_cookie c.settings.host_cookies (party_name c n))

-- a token request and a UserInfo request go to the provider (OpenID Connect Core 1.0, 3.1.3.1 and 5.3.1)
abbrev pub message_in : Option Sending → Option Message
message_in sending = option_map (λ (s : Sending). s.message) sending

-- the parsed answer of the provider to the request that follows a reply
abbrev pub answered_by : {A : Type 0} → (Word → Answered → A) → (Word → Answered → A) → A → RpReply → Answered → A
answered_by tokens info none (Exchange pending message) answer = tokens pending answer
answered_by tokens info none (Fetch pending message) answer = info pending answer
answered_by tokens info none reply answer = none

-- if its history lasts, it takes only small requests and responses
abbrev pub party_manner : {A R : Type 0} → (A → RpAsk) → (R → RpReply) → (R → Option Sending) → (Configuration → ℕ → Ask → A)
    → (Configuration → ℕ → Word → Answered → A) → (Word → Answered → A) → (RpAsk → A) → (Configuration → ℕ → R → HttpReply) → (A → ℕ)
    → Configuration → ℕ → Manner A R
party_manner plain told sent prepared tokens info from_rp http weighs c n = record {
  first = (party_names c n).0;
  second = (party_names c n).1;
  prepared = prepared c n;
  proves = λ request. false;
  question = λ reply. message_in (sent reply);
  answered = λ reply answer. answered_by (tokens c n) info (from_rp rp_ask.NotHere) (told reply) answer;
  notices = λ reply. [];
  http = http c n;
  takes = λ asked. not c.lasting || rp_held.is_small (plain asked);
  weighs = weighs;
  workers = (party_row c n).settings.workers;
}
