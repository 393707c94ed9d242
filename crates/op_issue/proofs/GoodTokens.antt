-- Issued claims are good for their client, and for nobody else.
use Rattle.std.proofs.Common.{◌≡◌, ◌≤◌, ◌<◌, ◌+◌, ◌==◌, not, ℕ, true, [], ◌∷◌, length, Option, Some, None, refl, sym, arith}
use Rattle.std.specs.Prelude.{IsTrue}
use Rattle.std.specs.List.{list_all}
use Rattle.std.specs.Str.{bytes_eq}
use Rattle.std.proofs.lemmas.Slice.Eq.{bytes_eq-Decides}
use Rattle.sso_base.specs.Texts.{is_only}
use Rattle.sso_base.specs.Words.{Word, Text}
use Rattle.sso_base.proofs.Decided.{same}
use Rattle.sso_base.proofs.Spelling.{both_true}
use Rattle.client_registry.specs.Configuration.{Configuration}
use Rattle.client_registry.specs.Numbers.{client_id}
use Rattle.auth_request.specs.declared.wish.Wish.{Wish}
use Rattle.id_token.specs.declared.rules.IdRules.{IdRules}
use Rattle.id_token.specs.Judging.{Meets, IsInAge, IsGoodIdToken}
use Rattle.op_issue.specs.declared.issuing.Authentication.{Authentication}
use Rattle.op_issue.specs.ClientRules.{bound_to, client_rules}
use Rattle.op_issue.specs.IdTokens.{hash_of, id_claims}

own_audience : (t : Text) → IsTrue (is_only t (t ∷ []))
own_audience t = rw (same t t refl)

audience_is : (t u : Text) → IsTrue (is_only t (u ∷ [])) → t ≡ u
audience_is t u h =
    let each = (both_true (not (length (u ∷ []) == 0)) (list_all (λ s. bytes_eq s t) (u ∷ [])) h).1 in
    sym ((bytes_eq-Decides u t).0 (both_true (bytes_eq u t) true each).0)

bound : (o : Option Word) → Meets (bound_to o) (hash_of o)
bound None = tt
bound (Some w) = refl

in_life : (at later : ℕ) → later < at + 360 → later < at + 300 + 60
in_life at later h = omega (arith, h)

before_end_of_life : (at later : ℕ) → later < at + 300 + 60 → later < at + 360
before_end_of_life at later h = omega (arith, h)

is_recent : (at later : ℕ) → later < at + 360 → later ≤ at + 600
is_recent at later h = omega (arith, h)

module _ (c : Configuration) (wish : Wish) (who : Authentication) (at : ℕ) (access code : Option Word) where
  pub is_good : (nonce : Text) (begun : ℕ) (max_age : Option ℕ) (later : ℕ) → wish.nonce ≡ Some nonce → IsInAge max_age (Some who.auth_time) begun → at ≤ later + 60 → later < at + 360
      → IsGoodIdToken (client_rules c wish.client nonce begun max_age access code) (id_claims c wish who at access code) later
  unfolding id_claims
  is_good nonce begun max_age later sent in_age from to = record {
    from_issuer = refl;
    for_client = own_audience (client_id c wish.client);
    issued_to_client = tt;
    unexpired = in_life at later to;
    recent = is_recent at later to;
    issued = from;
    nonce = sent;
    in_age = in_age;
    token = bound access;
    code = bound code;
  }

  module _ (rules : IdRules) (later : ℕ) (good : IsGoodIdToken rules (id_claims c wish who at access code) later) where
    pub issuer_is : rules.issuer ≡ c.provider.issuer
    unfolding id_claims
    issuer_is = sym good.from_issuer

    pub client_is : rules.client ≡ client_id c wish.client
    unfolding id_claims
    client_is = audience_is rules.client (client_id c wish.client) good.for_client

    pub nonce_is : wish.nonce ≡ Some rules.nonce
    unfolding id_claims
    nonce_is = good.nonce

    pub ends : later < at + 360
    unfolding id_claims
    ends = before_end_of_life at later good.unexpired
