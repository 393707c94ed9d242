-- The clients that a sign-out notifies: those that its session has answered and that have a logout URI, in registry order
-- (OpenID Connect Back-Channel Logout 1.0, 2.5). The messages of a sign-out go to these, in this order.
use Rattle.std.specs.Prelude.{◌≡◌, ℕ, ◌+◌, Bool, true, List, [], ◌∷◌, ◌++◌, Option, Some, None, option_and_then}
use Rattle.sso_base.specs.Words.{Text}
use Rattle.sso_base.specs.declared.message.Message.{Message}
use Rattle.client_registry.specs.declared.records.Client.{Client}
use Rattle.client_registry.specs.Configuration.{Configuration}
use Rattle.client_registry.specs.ClientSets.{has_client}
use Rattle.client_registry.specs.Numbers.{client_at}
use Rattle.request_params.specs.Form.{form_text}
use Rattle.code_grant.specs.declared.rows.SessionRow.{SessionRow}
use Rattle.op_exchange.specs.declared.ask.OpAsk.{OpAsk}
use Rattle.op_exchange.specs.declared.ask.OpAsk.TheVariants.{SignOut}
use Rattle.op_issue.specs.LogoutMessages.{logout_pairs}
use Rattle.op_answer.specs.Past.{OpPast}
use Rattle.op_answer.specs.Sessions.{live_session}
use Rattle.sso_places.specs.Tokens.{TokenText}

abbrev pub told_if : ℕ → Bool → Option Text → List ℕ
told_if n true (Some uri) = n ∷ []
told_if n answered uri = []

-- those among the clients from a number on
abbrev pub told_from : List Bool → ℕ → List Client → List ℕ
told_from answered n [] = []
told_from answered n (client ∷ clients) = told_if n (has_client n answered) client.logout ++ told_from answered (n + 1) clients

-- their numbers, given the set of clients that the session has answered
abbrev pub told_clients : Configuration → List Bool → List ℕ
told_clients c answered = told_from answered 0 c.clients

-- the session that a sign-out ends: the presented one, if it is live
abbrev pub session_ended : OpPast → ℕ → OpAsk → Option SessionRow
session_ended past at (SignOut presented) = live_session past at presented
session_ended past at asked = None

-- the message delivers the token to its client: it goes to the client's logout URI, and its form contains the token
pub record Carries (c : Configuration) (token : TokenText) (message : Message) : Type 0 where
  pub to : option_and_then (λ (client : Client). client.logout) (client_at c token.0) ≡ Some message.to
  pub body : message.body ≡ Some (form_text (logout_pairs token.1))
