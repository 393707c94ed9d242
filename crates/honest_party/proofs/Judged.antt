-- The party verifies what the provider issues for its request: in an authorization response, and in a token response.
use Rattle.std.proofs.Common.{◌≡◌, ℕ, Option, Some, None, option_map, Ok, refl, sym, ap, ◌∙◌, subst}
use Rattle.sso_base.specs.Words.{Word, Text, word_text}
use Rattle.client_registry.specs.declared.records.Provider.{Provider}
use Rattle.client_registry.specs.Configuration.{Configuration}
use Rattle.client_registry.specs.Numbers.{id_in, client_id, no_client}
use Rattle.auth_request.specs.declared.wish.Wish.{Wish}
use Rattle.auth_answer.specs.declared.heard.Heard.{Heard}
use Rattle.token_endpoint.specs.declared.reading.Tokens.{Tokens}
use Rattle.id_token.specs.declared.claims.IdClaims.{IdClaims}
use Rattle.id_token.specs.declared.rules.Half.{Half}
use Rattle.id_token.specs.declared.rules.Half.TheVariants.{IfThere}
use Rattle.id_token.specs.declared.rules.IdRules.{IdRules}
use Rattle.id_token.specs.HalfHash.{half_hash_of}
use Rattle.id_token.specs.Judging.{IsGoodIdToken, Meets, id_judged}
use Rattle.id_token.proofs.Good.{good_passes}
use Rattle.login_request.proofs.PartyRows.{client_is_known}
use Rattle.op_issue.specs.declared.issuing.Authentication.{Authentication}
use Rattle.op_issue.specs.ClientRules.{bound_to, client_rules}
use Rattle.op_issue.specs.IdTokens.{id_claims}
use Rattle.op_issue.proofs.GoodTokens.{is_good}
use Rattle.rp_login.specs.declared.rows.LoginRow.{LoginRow}
use Rattle.rp_login.specs.declared.rows.PendingRow.{PendingRow}
use Rattle.rp_answer.specs.Setup.{PartySetup, party_of, client_of}
use Rattle.rp_answer.specs.Replies.{must_hash, may_hash, rules_for, front_access, front_code, front_rules, back_rules}
use Rattle.web_requests.proofs.RegistryRows.{some_row}
use Rattle.honest_party.proofs.OwnParty.{IsOwnParty, InTime}

module _ (s : PartySetup) (own : IsOwnParty s) where
  abbrev c : Configuration
  c = s.configuration

  client_named : client_id c (party_of s).client ≡ (client_of s).id
  client_named = ap id_in (some_row c.clients (party_of s).client no_client (client_is_known c s.number own.registry own.low))

  must_bound : (o : Option Word) → must_hash (option_map word_text o) ≡ bound_to o
  must_bound None = refl
  must_bound (Some w) = refl

  -- the rules of a party are those of its client
  abbrev rules_by : Text → Text → Word → ℕ → Half → Half → IdRules
  rules_by issuer client nonce begun token code =
      record { issuer = issuer; client = client; nonce = word_text nonce; begun = begun; max_age = (party_of s).max_age; token = token; code = code }

  module _ (wish : Wish) (who : Authentication) (at : ℕ) (nonce : Word) (begun later : ℕ) (t : InTime s wish who at nonce begun later) where
    good_for : (access code : Option Word) → IsGoodIdToken (rules_for s nonce begun (bound_to access) (bound_to code)) (id_claims c wish who at access code) later
    good_for access code =
        let G : IdRules → Type 0 = λ r. IsGoodIdToken r (id_claims c wish who at access code) later in
        let issuer : s.provider.issuer ≡ c.provider.issuer = ap (λ (p : Provider). p.issuer) own.provider in
        let client : (client_of s).id ≡ client_id c wish.client = sym (ap (client_id c) t.client ∙ client_named) in
        let same : rules_for s nonce begun (bound_to access) (bound_to code) ≡ client_rules c wish.client (word_text nonce) begun (party_of s).max_age access code =
        ap (λ i. rules_by i (client_of s).id nonce begun (bound_to access) (bound_to code)) issuer
        ∙ ap (λ k. rules_by c.provider.issuer k nonce begun (bound_to access) (bound_to code)) client in
        subst G (sym same) (is_good c wish who at access code (word_text nonce) begun (party_of s).max_age later t.nonce t.age t.from t.to)

  -- ---- in an authorization response

  pub front_good : (wish : Wish) (who : Authentication) (at : ℕ) (login : LoginRow) (later : ℕ) → InTime s wish who at login.nonce login.begun later
      → (access code : Option Word) (heard : Heard) → front_access s heard ≡ option_map word_text access → front_code s heard ≡ option_map word_text code
      → id_judged (front_rules s login heard) (id_claims c wish who at access code) later ≡ Ok tt
  front_good wish who at login later t access code heard access_is code_is =
      let R : Half → Half → IdRules = λ h k. rules_for s login.nonce login.begun h k in
      let same : front_rules s login heard ≡ R (bound_to access) (bound_to code) =
      ap (λ o. R (must_hash o) (must_hash (front_code s heard))) access_is
      ∙ ap (λ h. R h (must_hash (front_code s heard))) (must_bound access)
      ∙ ap (λ o. R (bound_to access) (must_hash o)) code_is
      ∙ ap (λ h. R (bound_to access) h) (must_bound code) in
      ap (λ r. id_judged r (id_claims c wish who at access code) later) same
      ∙ good_passes (R (bound_to access) (bound_to code)) (id_claims c wish who at access code) later (good_for wish who at login.nonce login.begun later t access code)

  -- ---- in a token response

  with_halves : (rules : IdRules) (x : IdClaims) (later : ℕ) (token code : Half) → IsGoodIdToken rules x later → Meets token x.at_hash → Meets code x.c_hash → IsGoodIdToken (record rules { token = token; code = code }) x later
  with_halves rules x later token code g m k = record {
    from_issuer = g.from_issuer;
    for_client = g.for_client;
    issued_to_client = g.issued_to_client;
    unexpired = g.unexpired;
    recent = g.recent;
    issued = g.issued;
    nonce = g.nonce;
    in_age = g.in_age;
    token = m;
    code = k;
  }

  token_meets : (wish : Wish) (who : Authentication) (at : ℕ) (access : Word) → Meets (IfThere (half_hash_of (word_text access))) (id_claims c wish who at (Some access) None).at_hash
  unfolding id_claims
  token_meets wish who at access = refl

  code_meets : (wish : Wish) (who : Authentication) (at : ℕ) (access : Word) (code : Option Text) → Meets (may_hash code) (id_claims c wish who at (Some access) None).c_hash
  unfolding id_claims
  code_meets wish who at access None = tt
  code_meets wish who at access (Some t) = tt

  pub back_good : (wish : Wish) (who : Authentication) (at : ℕ) (pending : PendingRow) (later : ℕ) → InTime s wish who at pending.nonce pending.begun later
      → (access : Word) (came : Tokens) → came.access ≡ word_text access → id_judged (back_rules s pending came) (id_claims c wish who at (Some access) None) later ≡ Ok tt
  back_good wish who at pending later t access came access_is =
      let x : IdClaims = id_claims c wish who at (Some access) None in
      let given : Tokens → IdRules = λ k. back_rules s pending k in
      let R : Text → IdRules = λ a. rules_for s pending.nonce pending.begun (IfThere (half_hash_of a)) (may_hash pending.code) in
      ap (λ a. id_judged (R a) x later) access_is
      ∙ good_passes (R (word_text access)) x later
      (with_halves (rules_for s pending.nonce pending.begun (bound_to (Some access)) (bound_to None)) x later (IfThere (half_hash_of (word_text access))) (may_hash pending.code)
      (good_for wish who at pending.nonce pending.begun later t (Some access) None) (token_meets wish who at access) (code_meets wish who at access pending.code))
