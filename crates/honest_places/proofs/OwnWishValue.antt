-- A party's own wish is a value of its type, and tokens may be issued for it.
use Rattle.std.proofs.Common.{◌≡◌, ◌≤◌, ◌<◌, nat_le, ℕ, zero, suc, true, false, length, Option, Some, None, refl, sym, ap, subst, ◌⊎◌, inl, inr, arith}
use Rattle.std.specs.Prelude.{IfSome}
use Rattle.std.proofs.lemmas.Bool.{leb-true}
use Rattle.sso_base.specs.Words.{Word, IsWord}
use Rattle.sso_base.specs.Values.{IsWide, latest_moment}
use Rattle.sso_base.proofs.Spelling.{both_true, length-b64u_32}
use Rattle.sso_base.proofs.WordUtf8.{IsUtf8-word_text}
use Rattle.claim_set.proofs.PlainTexts.{IsUtf8-plain}
use Rattle.oidc_words.specs.declared.response_types.Types.{Types}
use Rattle.oidc_words.specs.Types.{types_of_number}
use Rattle.client_registry.specs.declared.records.Party.{Party}
use Rattle.client_registry.specs.Configuration.{Configuration}
use Rattle.client_registry.specs.Numbers.{party_row, party_client}
use Rattle.client_registry.specs.Registered.{is_age_or_none, IsRegistry}
use Rattle.auth_request.specs.Parameters.{asking_of}
use Rattle.auth_request.specs.ClaimsParameter.{claims_of}
use Rattle.auth_request.specs.Values.{IsWishValue}
use Rattle.login_request.proofs.PartyRows.{KeepRules, client_is_known, rows_keep_rules, url_text}
use Rattle.op_issue.specs.declared.issuing.Authentication.{Authentication}
use Rattle.op_issue.specs.Issuing.{MayIssue}
use Rattle.honest_places.specs.OwnWish.{own_wish}
use Rattle.honest_places.proofs.OwnWish.{age_read, below_of}

wide_age : (o : Option ℕ) → is_age_or_none o ≡ true → IfSome o IsWide
wide_age None h = tt
wide_age (Some k) h =
    let high : k ≤ 999999999 = leb-true k 999999999 (both_true (nat_le 0 k) (nat_le k 999999999) h).1 in
    omega (arith, high)

-- a response type has a code, or else an ID Token
code_or_id_of : (k : ℕ) → k < 6 → ((types_of_number (Some k)).code ≡ true) ⊎ (((types_of_number (Some k)).code ≡ false) × ((types_of_number (Some k)).id_token ≡ true))
code_or_id_of zero l = inl refl
code_or_id_of (suc zero) l = inr (refl, refl)
code_or_id_of (suc (suc zero)) l = inr (refl, refl)
code_or_id_of (suc (suc (suc zero))) l = inl refl
code_or_id_of (suc (suc (suc (suc zero)))) l = inl refl
code_or_id_of (suc (suc (suc (suc (suc zero))))) l = inl refl
code_or_id_of (suc (suc (suc (suc (suc (suc k)))))) l = absurd (omega (arith, l))

module _ (c : Configuration) (n : ℕ) (r : IsRegistry c) (low : n < length c.parties) where
  abbrev party : Party
  party = party_row c n

  rules : KeepRules party (party_client c n)
  rules = rows_keep_rules c n r low

  abbrev HasCodeOrId : Types → Type 0
  HasCodeOrId types = (types.code ≡ true) ⊎ ((types.code ≡ false) × (types.id_token ≡ true))

  pub code_or_id : HasCodeOrId party.types
  code_or_id =
      let below : rules.fit.number < length (party_client c n).types = below_of (party_client c n).types rules.fit.number true rules.fit.has_type in
      let six : rules.fit.number < 6 = omega (arith, below, rules.client_rules.types) in
      subst HasCodeOrId (sym rules.fit.types) (code_or_id_of rules.fit.number six)

  client_low : party.client < length c.clients
  client_low = client_is_known c n r low

  module _ (state nonce : Word) (state_word : IsWord state) (nonce_word : IsWord nonce) where
    pub own_wish_value : IsWishValue (own_wish c n state nonce)
    unfolding asking_of claims_of
    own_wish_value = record {
      client = omega (arith, client_low, r.clients);
      redirect = IsUtf8-plain party.redirect (url_text party.redirect party.redirect_url rules.party_rules.redirect).plain;
      state = IsUtf8-word_text state;
      nonce = IsUtf8-word_text nonce;
      max_age = subst (λ o. IfSome o IsWide) (sym (age_read party.max_age rules.party_rules.age)) (wide_age party.max_age rules.party_rules.age);
      subs = tt;
      id_asked = tt;
      info_asked = tt;
    }

    pub own_wish_issued : (who : Authentication) (at : ℕ) → who.user < length c.users → IsWord who.sid → who.auth_time ≤ latest_moment → at ≤ latest_moment → MayIssue c (own_wish c n state nonce) who at
    own_wish_issued who at user sid auth_time moment = record {
      registry = r;
      client = client_low;
      user = user;
      nonce = ap (λ l. nat_le l 255) (length-b64u_32 nonce nonce_word.long);
      sid = sid;
      auth_time = auth_time;
      moment = moment;
    }
