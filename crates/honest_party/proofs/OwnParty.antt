-- The party of an honest login, and an ID Token that comes to it in time.
use Rattle.std.specs.Prelude.{◌≡◌, ◌<◌, ◌≤◌, ◌+◌, ℕ, length, Some}
use Rattle.sso_base.specs.Words.{Word, word_text}
use Rattle.sso_base.specs.declared.history.Entry.{Entry}
use Rattle.client_registry.specs.Registered.{IsRegistry}
use Rattle.auth_request.specs.declared.wish.Wish.{Wish}
use Rattle.id_token.specs.Judging.{IsInAge}
use Rattle.op_issue.specs.declared.issuing.Authentication.{Authentication}
use Rattle.rp_exchange.specs.declared.ask.RpAsk.{RpAsk}
use Rattle.rp_exchange.specs.declared.no.RpNo.TheVariants as no
use Rattle.rp_exchange.specs.declared.reply.RpReply.TheVariants.{Refused}
use Rattle.rp_login.specs.declared.table.RpTable.{RpTable}
use Rattle.rp_answer.specs.Past.{RpPast}
use Rattle.rp_answer.specs.Setup.{PartySetup, party_of}
use Rattle.rp_answer.specs.Answering.{rp_answer}

-- a party of a registry that trusts the registry's own provider
pub record IsOwnParty (s : PartySetup) : Type 0 where
  pub registry : IsRegistry s.configuration
  pub low : s.number < length s.configuration.parties
  pub provider : s.provider ≡ s.configuration.provider

-- no table is full
abbrev pub HasRoom : PartySetup → RpPast → Entry RpAsk → Type 0
HasRoom s past e = (table : RpTable) → ¬ (rp_answer s past e ≡ Refused (no.Full table))

-- an ID Token for this request, of a user with this login, at this moment; it is verified later for a login with the nonce
pub record InTime (s : PartySetup) (wish : Wish) (who : Authentication) (at : ℕ) (word : Word) (begun later : ℕ) : Type 0 where
  pub client : wish.client ≡ (party_of s).client
  pub nonce : wish.nonce ≡ Some (word_text word)
  pub age : IsInAge (party_of s).max_age (Some who.auth_time) begun
  pub from : at ≤ later + 60
  pub to : later < at + 360
