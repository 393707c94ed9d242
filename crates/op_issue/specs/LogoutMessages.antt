-- The messages of a sign-out to clients (OpenID Connect Back-Channel Logout 1.0, 2.3 and 2.5).
use Rattle.std.specs.Prelude.{ℕ, ◌+◌, Bool, true, List, [], ◌∷◌, ◌++◌, codes, Option, Some, None}
use Rattle.sso_base.specs.Words.{Text}
use Rattle.sso_base.specs.declared.message.Message.{Message}
use Rattle.client_registry.specs.declared.records.Client.{Client}
use Rattle.client_registry.specs.Configuration.{Configuration}
use Rattle.request_params.specs.Form.{Pair, form_text}
use Rattle.client_registry.specs.ClientSets.{has_client}
use Rattle.op_issue.specs.declared.sign_out.SignOut.{SignOut}
use Rattle.op_issue.specs.LogoutTokens.{issued_logout}

-- the form of a logout request (2.5)
abbrev pub logout_pairs : Text → List Pair
logout_pairs token = (codes "logout_token", token) ∷ []

-- a POST to the logout URI, with the logout token for the client with a number
abbrev pub logout_message : Configuration → SignOut → ℕ → Text → Message
logout_message c out client uri = record { to = uri; auth = None; body = Some (form_text (logout_pairs (issued_logout c client out))) }

-- the message to the client, if the session has logged in to it and it has a logout URI
abbrev pub message_if : Configuration → SignOut → ℕ → Bool → Option Text → List Message
message_if c out client true (Some uri) = logout_message c out client uri ∷ []
message_if c out client answered uri = []

-- the messages to the clients from a number on
abbrev pub messages_from : Configuration → SignOut → List Bool → ℕ → List Client → List Message
messages_from c out answered n [] = []
messages_from c out answered n (client ∷ clients) =
    message_if c out n (has_client n answered) client.logout ++ messages_from c out answered (n + 1) clients

-- one message to each client that the session has logged in to and that has a logout URI, in the order of the registry
unfoldable pub logout_messages : Configuration → SignOut → List Bool → List Message
logout_messages c out answered = messages_from c out answered 0 c.clients
