-- A message from one server to another, as it arrives.
use Rattle.std.specs.Prelude.{ℕ, Bool, false, List, [], ◌∷◌, ◌++◌, Option, Some, None, option_map, option_and_then, unwrap_or, slice_get, if◌then◌else◌}
use Rattle.std.specs.List.{position_from}
use Rattle.std.specs.Str.{bytes_eq}
use Rattle.sso_base.specs.Words.{Text}
use Rattle.sso_base.specs.Texts.{is_given}
use Rattle.sso_base.specs.declared.http.Method.{Method}
use Rattle.sso_base.specs.declared.http.Method.TheVariants.{Get, Post}
use Rattle.sso_base.specs.declared.http.Ask.{Ask}
use Rattle.sso_base.specs.declared.message.Message.{Message}
use Rattle.oidc_words.specs.Paths.{token_path, userinfo_path}
use Rattle.registered_url.specs.declared.web_url.WebUrl.{WebUrl}
use Rattle.client_registry.specs.declared.records.Client.{Client}
use Rattle.client_registry.specs.declared.records.Party.{Party}
use Rattle.client_registry.specs.Records.{no_url}
use Rattle.client_registry.specs.Configuration.{Configuration}
use Rattle.client_registry.specs.Numbers.{client_of, party_client}
use Rattle.op_exchange.specs.declared.reply.OpReply.TheVariants as op
use Rattle.rp_exchange.specs.declared.reply.RpReply.TheVariants as rp
use Rattle.sso_places.specs.declared.types.To.TheVariants as to
use Rattle.sso_places.specs.declared.types.WorldReply.{WorldReply}
use Rattle.sso_places.specs.declared.types.WorldReply.TheVariants as replied
use Rattle.web_requests.specs.declared.sent.Sent.{Sent}
use Rattle.sso_places.specs.Cookies.{no_jar}
use Rattle.web_requests.specs.Sending.{asking, sent}

-- the messages that a reply sends to other servers
abbrev pub messages_of : WorldReply → List Message
messages_of (replied.Provider (op.SignedOut messages)) = messages
messages_of (replied.Party (rp.Exchange pending message)) = message ∷ []
messages_of (replied.Party (rp.Fetch pending message)) = message ∷ []
messages_of reply = []

-- ---- the role that a URL names

-- the client of the party has this logout URI
abbrev pub logs_out_at : Text → Option Client → Bool
logs_out_at uri None = false
logs_out_at uri (Some client) = is_given uri client.logout

-- the first party whose client has this logout URI; several clients may have the same one
abbrev pub party_of_logout : Configuration → Text → Option ℕ
party_of_logout c uri = position_from (λ (party : Party). logs_out_at uri (client_of c party)) 0 c.parties

-- ---- a message to that role

-- a POST of a form if it has a body, otherwise a GET
abbrev pub method_of : Option (List ℕ) → Method
method_of None = Get
method_of (Some form) = Post

-- a message at a path, with a query; a server has no cookies
abbrev pub message_ask : Text → List ℕ → Message → Ask
message_ask path query message = asking (method_of message.body) path query message.body message.auth no_jar

-- a message at a path of the provider
abbrev pub at_provider : Configuration → Text → Message → Sent
at_provider c path message = sent 0 to.Provider (message_ask (c.prefix ++ path) [] message)

-- a message at a logout URI
abbrev pub logout_ask : WebUrl → Message → Ask
logout_ask url message = message_ask url.path (unwrap_or url.query []) message

-- a message at the logout URI of the client that a party is
abbrev pub at_party : Configuration → Message → ℕ → Sent
at_party c message n = sent 0 (to.Party n) (logout_ask (unwrap_or (party_client c n).logout_url no_url) message)

-- a message to the token endpoint, to UserInfo, or to a logout URI of the registry
abbrev pub delivered : Configuration → Message → Option Sent
delivered c message =
    if bytes_eq c.provider.token message.to then Some (at_provider c token_path message)
    else if is_given message.to c.provider.userinfo then Some (at_provider c userinfo_path message)
    else option_map (at_party c message) (party_of_logout c message.to)

-- the message with this number, from 0, of a reply
unfoldable pub carried : Configuration → WorldReply → ℕ → Option Sent
carried c reply number = option_and_then (delivered c) (slice_get (messages_of reply) number)
