-- Issued claims are good for their client, and for nobody else.
use Rattle.std.proofs.Common.{◌≡◌, ◌≤◌, ◌<◌, ◌+◌, ◌==◌, not, ℕ, true, [], ◌∷◌, length, refl, sym, arith}
use Rattle.std.specs.Prelude.{IsTrue}
use Rattle.std.specs.List.{list_all}
use Rattle.std.specs.Str.{bytes_eq}
use Rattle.std.proofs.lemmas.Slice.Eq.{bytes_eq-Decides}
use Rattle.sso_base.specs.Texts.{is_only}
use Rattle.sso_base.specs.Words.{Text}
use Rattle.sso_base.proofs.Decided.{same}
use Rattle.sso_base.proofs.Spelling.{both_true}
use Rattle.client_registry.specs.Configuration.{Configuration}
use Rattle.client_registry.specs.Numbers.{client_id}
use Rattle.logout_token.specs.Judging.{IsGoodLogoutToken}
use Rattle.op_issue.specs.declared.sign_out.SignOut.{SignOut}
use Rattle.op_issue.specs.LogoutTokens.{logout_claims}

own_audience : (t : Text) → IsTrue (is_only t (t ∷ []))
own_audience t = rw (same t t refl)

audience_is : (t u : Text) → IsTrue (is_only t (u ∷ [])) → t ≡ u
audience_is t u h =
    let each = (both_true (not (length (u ∷ []) == 0)) (list_all (λ s. bytes_eq s t) (u ∷ [])) h).1 in
    sym ((bytes_eq-Decides u t).0 (both_true (bytes_eq u t) true each).0)

in_life : (at later : ℕ) → later < at + 180 → later < at + 120 + 60
in_life at later h = omega (arith, h)

before_end_of_life : (at later : ℕ) → later < at + 120 + 60 → later < at + 180
before_end_of_life at later h = omega (arith, h)

is_recent : (at later : ℕ) → later < at + 180 → later ≤ at + 600
is_recent at later h = omega (arith, h)

module _ (c : Configuration) (client : ℕ) (out : SignOut) where
  pub is_good : (later : ℕ) → out.at ≤ later + 60 → later < out.at + 180 → IsGoodLogoutToken c.provider.issuer (client_id c client) (logout_claims c client out) later
  unfolding logout_claims
  is_good later from to = record {
    from_issuer = refl;
    for_client = own_audience (client_id c client);
    unexpired = in_life out.at later to;
    recent = is_recent out.at later to;
    issued = from;
  }

  module _ (issuer receiver : Text) (later : ℕ) (good : IsGoodLogoutToken issuer receiver (logout_claims c client out) later) where
    pub issuer_is : issuer ≡ c.provider.issuer
    unfolding logout_claims
    issuer_is = sym good.from_issuer

    pub client_is : receiver ≡ client_id c client
    unfolding logout_claims
    client_is = audience_is receiver (client_id c client) good.for_client

    pub ends : later < out.at + 180
    unfolding logout_claims
    ends = before_end_of_life out.at later good.unexpired
