-- Laws about the tables of the provider. Each is a clause of a function of `law.rt`, which says it in words.
use Rattle.std.specs.Prelude.{◌≡◌, ◌≢◌, ◌<◌, ℕ, true, false, List, length, Some, option_and_then}
use Rattle.std.specs.Str.{bytes_eq}
use Rattle.sso_base.specs.Words.{Word, is_word}
use Rattle.sso_base.specs.Rows.{row_of, if_lives}
use Rattle.sso_base.specs.Stands.{IsDistinct}
use Rattle.oidc_words.specs.declared.scopes.Scopes.{Scopes}
use Rattle.oidc_words.specs.Scopes.{joined}
use Rattle.code_grant.specs.declared.rows.CodeRow.{CodeRow}
use Rattle.code_grant.specs.declared.rows.TokenRow.{TokenRow}
use Rattle.code_grant.specs.declared.redeem.Redeem.TheVariants as answer
use Rattle.code_grant.specs.Consents.{granted_to, with_grant}
use Rattle.code_grant.specs.Rows.{code_name, code_begun, access_name}
use Rattle.oidc_words.specs.Lives.{code_life}
use Rattle.code_grant.specs.Redeeming.{redeem_of, IsRedeemable}
use Rattle.code_grant.specs.Tables.{Tables, redemption, with_code, purged}
use Rattle.code_grant.specs.Calls as calls

-- ---- one code

abbrev pub RedeemedCodesAreRedeemable : Type 0
RedeemedCodesAreRedeemable =
    (client : ℕ) (redirect : List ℕ) (at : ℕ) (row : CodeRow) → redeem_of client redirect at (Some row) ≡ answer.Redeemed
    → IsRedeemable client redirect at row

abbrev pub RedeemableCodesAreRedeemed : Type 0
RedeemableCodesAreRedeemed =
    (client : ℕ) (redirect : List ℕ) (at : ℕ) (row : CodeRow) → IsRedeemable client redirect at row
    → redeem_of client redirect at (Some row) ≡ answer.Redeemed

abbrev pub RedeemedCodesAreSpent : Type 0
RedeemedCodesAreSpent =
    (w : Word) (client : ℕ) (redirect : List ℕ) (at : ℕ) (t : Tables) → redemption w client redirect at t ≡ answer.Redeemed
    → calls.IsSpent w (calls.after (calls.redeem w client redirect at) t)

abbrev pub SpentCodesStaySpent : Type 0
SpentCodesStaySpent =
    (w : Word) (steps : List calls.Call) (t : Tables) → calls.IsSpent w t → calls.NoneIssues w steps
    → calls.IsSpent w (calls.after_all steps t)

abbrev pub SpentCodesAreRefused : Type 0
SpentCodesAreRefused =
    (w : Word) (client : ℕ) (redirect : List ℕ) (at : ℕ) (t : Tables) → calls.IsSpent w t
    → redemption w client redirect at t ≢ answer.Redeemed

abbrev pub CodesAreRedeemedOnce : Type 0
CodesAreRedeemedOnce =
    (w : Word) (client : ℕ) (redirect : List ℕ) (at : ℕ) (steps : List calls.Call) (again : ℕ) (elsewhere : List ℕ) (later : ℕ)
    (t : Tables)
    → redemption w client redirect at t ≡ answer.Redeemed → calls.NoneIssues w steps
    → redemption w again elsewhere later (calls.after_all steps (calls.after (calls.redeem w client redirect at) t))
    ≢ answer.Redeemed

-- ---- the tokens of a code

abbrev pub SecondUsesEndTheTokens : Type 0
SecondUsesEndTheTokens =
    (w : Word) (client : ℕ) (redirect : List ℕ) (at : ℕ) (row : CodeRow) (t : Tables) → row_of code_name w t.codes ≡ Some row
    → row.wish.client ≡ client → row.spent ≡ true → calls.NoneIsOf w (calls.after (calls.redeem w client redirect at) t).tokens

abbrev pub OtherClientsChangeNothing : Type 0
OtherClientsChangeNothing =
    (w : Word) (client : ℕ) (redirect : List ℕ) (at : ℕ) (row : CodeRow) (t : Tables) → row_of code_name w t.codes ≡ Some row
    → row.wish.client ≢ client → calls.after (calls.redeem w client redirect at) t ≡ t

abbrev pub OtherTokensStay : Type 0
OtherTokensStay =
    (w v : Word) (client : ℕ) (redirect : List ℕ) (at : ℕ) (token : TokenRow) (t : Tables) → IsDistinct access_name t.tokens
    → row_of access_name v t.tokens ≡ Some token → is_word token.code w ≡ false
    → row_of access_name v (calls.after (calls.redeem w client redirect at) t).tokens ≡ Some token

-- ---- other codes

abbrev pub RedemptionLooksAtOneRow : Type 0
RedemptionLooksAtOneRow =
    (w : Word) (client : ℕ) (redirect : List ℕ) (at : ℕ) (t u : Tables)
    → row_of code_name w t.codes ≡ row_of code_name w u.codes
    → redemption w client redirect at t ≡ redemption w client redirect at u

abbrev pub OtherIssuesDoNotCount : Type 0
OtherIssuesDoNotCount =
    (w : Word) (client : ℕ) (redirect : List ℕ) (at : ℕ) (row : CodeRow) (t : Tables) → bytes_eq row.word w ≡ false
    → redemption w client redirect at (with_code row t) ≡ redemption w client redirect at t

abbrev pub OtherRedemptionsDoNotCount : Type 0
OtherRedemptionsDoNotCount =
    (w v : Word) (client other : ℕ) (redirect elsewhere : List ℕ) (at before : ℕ) (t : Tables) → bytes_eq v w ≡ false
    → redemption w client redirect at (calls.after (calls.redeem v other elsewhere before) t)
    ≡ redemption w client redirect at t

abbrev pub PurgesDoNotCount : Type 0
PurgesDoNotCount =
    (w : Word) (client : ℕ) (redirect : List ℕ) (at : ℕ) (t : Tables) → IsDistinct code_name t.codes
    → redemption w client redirect at (purged at t)
    ≡ redeem_of client redirect at (option_and_then (if_lives code_life code_begun at) (row_of code_name w t.codes))

-- ---- consents

abbrev pub GrantsAreJoined : Type 0
GrantsAreJoined =
    (user client : ℕ) (scopes : Scopes) (consents : List Scopes) → user < 512 → client < 128 → length consents ≡ 65536
    → granted_to user client (with_grant user client scopes consents) ≡ joined (granted_to user client consents) scopes

abbrev pub OtherGrantsStay : Type 0
OtherGrantsStay =
    (user client u c : ℕ) (scopes : Scopes) (consents : List Scopes) → client < 128 → c < 128 → (user ≡ u → client ≡ c → ⊥)
    → granted_to user client (with_grant u c scopes consents) ≡ granted_to user client consents
