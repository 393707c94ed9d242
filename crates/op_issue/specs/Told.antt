-- The literal meaning of a message of a sign-out: some client of the registry has a logout URI, the session has logged in to
-- it, and the message is the one to this client.
use Rattle.std.specs.Prelude.{◌≡◌, ℕ, Bool, true, List, Some}
use Rattle.sso_base.specs.Words.{Text}
use Rattle.sso_base.specs.declared.message.Message.{Message}
use Rattle.client_registry.specs.declared.records.Client.{Client}
use Rattle.client_registry.specs.Configuration.{Configuration}
use Rattle.client_registry.specs.Numbers.{client_at}
use Rattle.client_registry.specs.ClientSets.{has_client}
use Rattle.op_issue.specs.declared.sign_out.SignOut.{SignOut}
use Rattle.op_issue.specs.LogoutMessages.{logout_message}

-- the message is the one to the client with this number
pub record TellsAt (c : Configuration) (out : SignOut) (answered : List Bool) (number : ℕ) (message : Message) : Type 0 where
  pub client : Client
  pub client_is : client_at c number ≡ Some client
  pub answers : has_client number answered ≡ true
  pub uri : Text
  pub uri_is : client.logout ≡ Some uri
  pub message_is : logout_message c out number uri ≡ message

-- the message is the one to some client
abbrev pub Tells : Configuration → SignOut → List Bool → Message → Type 0
Tells c out answered message = (number : ℕ) × TellsAt c out answered number message
