-- Relying parties of the response types `code`, `id_token token` and `code id_token`, without and with UserInfo, to try the
-- definitions on.
use Rattle.std.proofs.Common.{ℕ, true, false, List, [], ◌∷◌, Some, codes}
use Rattle.sso_base.specs.declared.history.Entry.{Entry}
use Rattle.sso_base.specs.Words.{Text}
pub use Rattle.sso_base.proofs.SampleWords.{word, words}
use Rattle.id_token.specs.declared.claims.IdClaims.{IdClaims}
use Rattle.client_registry.specs.declared.records.Party.{Party}
use Rattle.oidc_words.specs.declared.response_types.Types.{Types}
use Rattle.client_registry.specs.Configuration.{Configuration}
pub use Rattle.client_registry.proofs.SampleRegistry.{op, only_code}
use Rattle.rp_exchange.specs.declared.ask.RpAsk.{RpAsk}
use Rattle.rp_exchange.specs.declared.reply.RpReply.{RpReply}
use Rattle.rp_exchange.proofs.Sample.{front, alice}
pub use Rattle.rp_exchange.proofs.Sample.{shop_client, shop, news_client, news, sample}
use Rattle.rp_answer.specs.Past.{RpPair}
use Rattle.rp_answer.specs.Setup.{PartySetup}

-- the words that are drawn for it are those from this number on
abbrev pub entry_at : ℕ → ℕ → RpAsk → Entry RpAsk
entry_at at n asked = record { at = at; fresh = words n; ask = asked }

abbrev pub pair_of : Entry RpAsk → RpReply → RpPair
pair_of e reply = record { entry = e; reply = reply }

abbrev pub id_and_token : Types
id_and_token = front

abbrev pub code_and_id : Types
code_and_id = record { code = true; id_token = true; token = false }

abbrev pub shop_uri : Text
shop_uri = codes "http://127.0.0.1:8081/cb"

-- the same registry with these parties
abbrev pub registered : List Party → Configuration
registered parties = record sample { parties = parties }

-- the party of the response type `code`
abbrev pub shop_setup : PartySetup
shop_setup = record { configuration = sample; number = 0; provider = op }

-- the party of the response type `id_token token`
abbrev pub news_setup : PartySetup
news_setup = record { configuration = sample; number = 1; provider = op }

-- a party of the response type `code id_token`
abbrev pub hybrid : Party
hybrid = record shop { types = code_and_id }

abbrev pub hybrid_setup : PartySetup
hybrid_setup = record { configuration = registered (hybrid ∷ []); number = 0; provider = op }

-- two that ask for UserInfo: of `code id_token`, and of `id_token token`
abbrev pub mail : Party
mail = record hybrid { userinfo = true }

abbrev pub mail_setup : PartySetup
mail_setup = record { configuration = registered (mail ∷ []); number = 0; provider = op }

abbrev pub press : Party
press = record news { userinfo = true }

abbrev pub press_setup : PartySetup
press_setup = record { configuration = registered (press ∷ []); number = 0; provider = op }

-- what the provider says of alice to a client, for the login of this nonce
abbrev pub claims_for : Text → Text → IdClaims
claims_for client nonce = record alice { aud = client ∷ []; auth_time = Some 1000; nonce = Some nonce; sid = Some (codes "sid") }
