-- The parameters of a login can be sealed: the claims of the request object are short.
use Rattle.std.proofs.Common.{◌≡◌, ◌≤◌, ◌+◌, ℕ, length, codes, Option, Some, None, option_map, decimal, refl, arith}
use Rattle.std.specs.Prelude.{IfSome}
use Rattle.json.specs.Print.{escape_byte, quoted}
use Rattle.serde_json.specs.Data.{string, no_members}
use Rattle.claim_set.specs.Reading.{claims_text}
use Rattle.sso_base.specs.Words.{Text, Word, word_text}
use Rattle.client_registry.specs.declared.records.Client.{Client}
use Rattle.client_registry.specs.declared.records.Party.{Party}
use Rattle.client_registry.specs.Configuration.{Configuration}
use Rattle.client_registry.specs.Numbers.{party_row, party_client}
use Rattle.request_object.specs.Request.{request_entries, request_members}
use Rattle.login_request.specs.Parties.{MayAsk}
use Rattle.oidc_words.specs.Types.{types_text}
use Rattle.login_request.specs.Request.{login_params}
use Rattle.login_request.proofs.KnownWords.{IsTextTo, scope_text}
use Rattle.claim_set.proofs.Costs.{cost, cost_all, length-put_all, plain_cost, any_cost}
use Rattle.login_request.proofs.PartyRows.{IsUtf8To, rows_keep_rules, id_text, url_text, types_are_short, prompt_is_text, age_is_text, word_is_text}

-- ---- how long the names are

record AreNamed : Type 0 where
  aud : length (quoted (codes "aud")) ≡ 5
  client_id : length (quoted (codes "client_id")) ≡ 11
  iss : length (quoted (codes "iss")) ≡ 5
  max_age : length (quoted (codes "max_age")) ≡ 9
  nonce : length (quoted (codes "nonce")) ≡ 7
  prompt : length (quoted (codes "prompt")) ≡ 8
  redirect_uri : length (quoted (codes "redirect_uri")) ≡ 14
  response_type : length (quoted (codes "response_type")) ≡ 15
  scope : length (quoted (codes "scope")) ≡ 7
  state : length (quoted (codes "state")) ≡ 7

named : AreNamed
unfolding escape_byte
named = record { aud = refl; client_id = refl; iss = refl; max_age = refl; nonce = refl; prompt = refl; redirect_uri = refl; response_type = refl; scope = refl; state = refl }

-- ---- how long the values are

from_nothing : (q m : ℕ) → 0 ≤ q + m
from_nothing q m = omega arith

prompt_cost : (o : Option Text) → IfSome o (IsTextTo 33) → cost (codes "prompt") (option_map string o) ≤ 8 + 202
prompt_cost None h = from_nothing 8 202
prompt_cost (Some t) h = any_cost (codes "prompt") t 33 8 named.prompt h.short

age_cost : (o : Option Text) → IfSome o (IsUtf8To 9) → cost (codes "max_age") (option_map string o) ≤ 9 + 58
age_cost None h = from_nothing 9 58
age_cost (Some t) h = any_cost (codes "max_age") t 9 9 named.max_age h.short

sum_of_all : (a b c d e f g h i j : ℕ) → a ≤ 1209 → b ≤ 399 → c ≤ 393 → d ≤ 67 → e ≤ 269 → f ≤ 210 → g ≤ 1042 → h ≤ 133 → i ≤ 215 → j ≤ 269
    → a + (0 + (b + (c + (d + (e + (f + (g + (0 + (h + (i + (j + 0))))))))))) ≤ 4206
sum_of_all a b c d e f g h i j p q r s t u v w x y = omega (arith, p, q, r, s, t, u, v, w, x, y)

whole : (a b n : ℕ) → n ≤ a + b → a ≡ 2 → b ≤ 4206 → n ≤ 6000
whole a b n h f g = omega (arith, h, f, g)

module _ (c : Configuration) (n : ℕ) (issuer : Text) (state nonce : Word) (m : MayAsk c n issuer state nonce) where
  short_entries : cost_all (request_entries (party_client c n) issuer (login_params (party_client c n) (party_row c n) state nonce)) ≤ 4206
  short_entries =
      let party = party_row c n in
      let client = party_client c n in
      let rules = rows_keep_rules c n m.registry m.party in
      let id = id_text client.id rules.client_rules.id in
      let redirect = url_text party.redirect party.redirect_url rules.party_rules.redirect in
      sum_of_all _ _ _ _ _ _ _ _ _ _
      (any_cost (codes "aud") issuer 200 5 named.aud m.short_issuer)
      (any_cost (codes "client_id") client.id 64 11 named.client_id id.short)
      (any_cost (codes "iss") client.id 64 5 named.iss id.short)
      (age_cost (option_map decimal party.max_age) (age_is_text party.max_age rules.party_rules.age))
      (any_cost (codes "nonce") (word_text nonce) 43 7 named.nonce (word_is_text nonce m.nonce_word).short)
      (prompt_cost party.prompt (prompt_is_text party.prompt rules.party_rules.prompt))
      (plain_cost (codes "redirect_uri") party.redirect 512 14 named.redirect_uri redirect.plain redirect.short)
      (any_cost (codes "response_type") (types_text party.types) 19 15 named.response_type (types_are_short party.types).1)
      (any_cost (codes "scope") party.scope 34 7 named.scope (scope_text party.scope rules.party_rules.scope).short)
      (any_cost (codes "state") (word_text state) 43 7 named.state (word_is_text state m.state_word).short)

  pub short_claims : length (claims_text (request_members (party_client c n) issuer (login_params (party_client c n) (party_row c n) state nonce))) ≤ 6000
  unfolding request_members
  short_claims =
      let entries = request_entries (party_client c n) issuer (login_params (party_client c n) (party_row c n) state nonce) in
      whole (length (claims_text no_members)) (cost_all entries) _ (length-put_all entries no_members) refl short_entries

  -- of rows that are those of the number
  pub short_of_rows : (client : Client) (party : Party) → client ≡ party_client c n → party ≡ party_row c n → length (claims_text (request_members client issuer (login_params client party state nonce))) ≤ 6000
  short_of_rows client party of_client of_party = rw (of_client, of_party) short_claims
