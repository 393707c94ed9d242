-- Laws about the logout tokens that the provider issues. Each is a clause of a function of `logout_law.rt`, which says it in words.
use Rattle.std.specs.Prelude.{◌≡◌, ◌≤◌, ◌<◌, ◌+◌, ◌↔◌, ℕ, Bool, List, ◌∷◌, ◌++◌, Some, Ok}
use Rattle.sso_base.specs.Lists.{Has}
use Rattle.sso_base.specs.Words.{Text}
use Rattle.sso_base.specs.declared.message.Message.{Message}
use Rattle.claim_set.specs.Reading.{claims_text}
use Rattle.jws_compact.specs.declared.sealing.Typ.TheVariants.{LogoutJwt}
use Rattle.jws_compact.specs.Jws.{written}
use Rattle.client_registry.specs.declared.records.Client.{Client}
use Rattle.client_registry.specs.Configuration.{Configuration}
use Rattle.client_registry.specs.Numbers.{client_at, client_id, client_sealing}
use Rattle.client_keys.specs.Opening.{verdict_for}
use Rattle.request_params.specs.Form.{form_pairs, form_text}
use Rattle.logout_token.specs.LogoutToken.{logout_members, logout_read}
use Rattle.logout_token.specs.Judging.{IsGoodLogoutToken}
use Rattle.op_issue.specs.declared.sign_out.SignOut.{SignOut}
use Rattle.op_issue.specs.LogoutTokens.{logout_claims, issued_logout}
use Rattle.op_issue.specs.LogoutMessages.{logout_pairs, logout_messages}
use Rattle.op_issue.specs.Ending.{MayEnd}
use Rattle.op_issue.specs.Told.{TellsAt, Tells}

-- ---- reading

abbrev pub LogoutTokensAreReadBack : Type 0
LogoutTokensAreReadBack =
    (c : Configuration) (client : ℕ) (out : SignOut) → MayEnd c client out
    → logout_read (client_sealing c client) (issued_logout c client out) ≡ Ok (logout_claims c client out)

abbrev pub LogoutTokensAreOpened : Type 0
LogoutTokensAreOpened =
    (c : Configuration) (n : ℕ) (out : SignOut) (client : Client) → client_at c n ≡ Some client → MayEnd c n out
    → verdict_for client (issued_logout c n out) ≡ Ok (written LogoutJwt (claims_text (logout_members (logout_claims c n out))))

abbrev pub LogoutFormsAreReadBack : Type 0
LogoutFormsAreReadBack =
    (c : Configuration) (client : ℕ) (out : SignOut)
    → form_pairs (form_text (logout_pairs (issued_logout c client out))) ≡ logout_pairs (issued_logout c client out)

-- ---- verification

abbrev pub IssuedLogoutTokensAreGood : Type 0
IssuedLogoutTokensAreGood =
    (c : Configuration) (client : ℕ) (out : SignOut) (later : ℕ) → out.at ≤ later + 60 → later < out.at + 180
    → IsGoodLogoutToken c.provider.issuer (client_id c client) (logout_claims c client out) later

abbrev pub GoodLogoutTokensHaveTheirIssuer : Type 0
GoodLogoutTokensHaveTheirIssuer =
    (c : Configuration) (client : ℕ) (out : SignOut) (issuer receiver : Text) (later : ℕ)
    → IsGoodLogoutToken issuer receiver (logout_claims c client out) later → issuer ≡ c.provider.issuer

abbrev pub GoodLogoutTokensHaveTheirClient : Type 0
GoodLogoutTokensHaveTheirClient =
    (c : Configuration) (client : ℕ) (out : SignOut) (issuer receiver : Text) (later : ℕ)
    → IsGoodLogoutToken issuer receiver (logout_claims c client out) later → receiver ≡ client_id c client

abbrev pub GoodLogoutTokensAreAlive : Type 0
GoodLogoutTokensAreAlive =
    (c : Configuration) (client : ℕ) (out : SignOut) (issuer receiver : Text) (later : ℕ)
    → IsGoodLogoutToken issuer receiver (logout_claims c client out) later → later < out.at + 180

-- ---- messages

abbrev pub AnsweredClientsAreNotified : Type 0
AnsweredClientsAreNotified =
    (c : Configuration) (out : SignOut) (answered : List Bool) (message : Message)
    → Has (logout_messages c out answered) message ↔ Tells c out answered message

abbrev pub MessagesAreInOrder : Type 0
MessagesAreInOrder =
    (c : Configuration) (out : SignOut) (answered : List Bool) (before between after : List Message) (m k : Message)
    → logout_messages c out answered ≡ before ++ m ∷ (between ++ k ∷ after)
    → (i : ℕ) × (j : ℕ) × (i < j) × TellsAt c out answered i m × TellsAt c out answered j k
