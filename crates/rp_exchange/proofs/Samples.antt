-- The definitions computed on small cases: what each accepts, and what it refuses.
use Rattle.std.proofs.Common.{◌≡◌, ◌<◌, ◌^◌, ℕ, true, false, [], ◌∷◌, replicate, Some, None, Ok, Err, Less, Greater, codes, refl, sym, ◌∙◌, true≢false, arith}
use Rattle.std.specs.Str.{IsUtf8, is_utf8}
use Rattle.std.proofs.lemmas.Str.{is_utf8-from_IsUtf8}
use Rattle.sso_base.proofs.Spelling.{IsBytes-from_all_bytes}
use Rattle.sso_base.proofs.Utf8Bytes.{IsUtf8-are_ascii}
use Rattle.serde_json.specs.Data.{unsigned, number, string, no_members, member}
use Rattle.claim_set.specs.Fitting.{ClaimsFit}
use Rattle.claim_set.specs.declared.no.ClaimNo.TheVariants as claim_no
use Rattle.claim_set.proofs.Fitting.{ClaimsFit-none}
use Rattle.claim_set.proofs.OnLiterals.{claims_on_literals}
use Rattle.jws_compact.specs.declared.no.JwsNo.TheVariants as jws_no
use Rattle.id_token.specs.declared.no.IdNo.TheVariants as id_no
use Rattle.logout_token.specs.declared.claims.LogoutClaims.{LogoutClaims}
use Rattle.logout_token.specs.declared.no.LogoutNo.TheVariants as logout_no
use Rattle.auth_answer.specs.declared.heard.Heard.{Heard}
use Rattle.auth_answer.specs.declared.no.AnswerNo.TheVariants as answer_no
use Rattle.auth_answer.specs.Reading.{IsHeard}
use Rattle.token_endpoint.specs.declared.reading.Tokens.{Tokens}
use Rattle.token_endpoint.specs.declared.no.TokensNo.TheVariants as tokens_no
use Rattle.userinfo.specs.declared.no.InfoNo.TheVariants as info_no
use Rattle.rp_exchange.specs.declared.ask.RpAsk.TheVariants as ask
use Rattle.rp_exchange.specs.Asks.{is_prepared}
use Rattle.client_registry.specs.Numbers.{party_client, party_name}
use Rattle.rp_exchange.specs.Values.{IsIdValue, IsLogoutValue, IsTokensValue, IsRpAsk}
use Rattle.rp_exchange.specs.Weight.{ask_weight}
use Rattle.rp_exchange.specs.Held.{held_bytes, is_small}
use Rattle.rp_exchange.proofs.Sample.{word, shop_client, sample, alice}

-- ---- parties

client_of_the_shop : party_client sample 0 ≡ shop_client
client_of_the_shop = refl

name_of_the_news : party_name sample 1 ≡ codes "news"
name_of_the_news = refl

name_of_nobody : party_name sample 2 ≡ []
name_of_nobody = refl

-- ---- asks that are given

abbrev heard : Heard
heard = record { state = Some (word 2); error = None; code = Some (codes "x"); access = None; id = None }

abbrev with_token : Heard
with_token = record heard { id = Some (codes "h.p.m") }

abbrev tokens : Tokens
tokens = record { access = codes "a"; id = codes "h.p.m" }

abbrev logout : LogoutClaims
logout = record { iss = codes "i"; aud = []; iat = 1000; exp = 1120; jti = codes "j"; sub = Some (codes "alice"); sid = None }

a_code_is_given : is_prepared (ask.Callback (Ok heard) None None) ≡ true
a_code_is_given = refl

a_token_is_read : is_prepared (ask.Callback (Ok with_token) (Some (Ok alice)) None) ≡ true
a_token_is_read = refl

a_refused_token_is_read : is_prepared (ask.Callback (Ok with_token) (Some (Err (id_no.Jws jws_no.BadMac))) None) ≡ true
a_refused_token_is_read = refl

an_unread_token_is_not_given : is_prepared (ask.Callback (Ok with_token) None None) ≡ false
an_unread_token_is_not_given = refl

a_token_from_nowhere_is_not_given : is_prepared (ask.Callback (Ok heard) (Some (Ok alice)) None) ≡ false
a_token_from_nowhere_is_not_given = refl

want_of_memory_inside_is_not_given : is_prepared (ask.Callback (Ok with_token) (Some (Err (id_no.Claims claim_no.NoMemory))) None) ≡ false
want_of_memory_inside_is_not_given = refl

a_name_twice_is_given : is_prepared (ask.Callback (Err (answer_no.Twice (codes "state"))) None None) ≡ true
a_name_twice_is_given = refl

want_of_memory_is_not_given : is_prepared (ask.Callback (Err answer_no.NoMemory) None None) ≡ false
want_of_memory_is_not_given = refl

tokens_are_given : is_prepared (ask.Tokens (word 5) (Ok tokens) (Some (Err (id_no.Missing (codes "iss"))))) ≡ true
tokens_are_given = refl

tokens_without_their_token_are_not : is_prepared (ask.Tokens (word 5) (Ok tokens) None) ≡ false
tokens_without_their_token_are_not = refl

refused_tokens_are_given : is_prepared (ask.Tokens (word 5) (Err (tokens_no.Status 400)) None) ≡ true
refused_tokens_are_given = refl

refused_tokens_have_no_token : is_prepared (ask.Tokens (word 5) (Err (tokens_no.Status 400)) (Some (Ok alice))) ≡ false
refused_tokens_have_no_token = refl

a_subject_is_given : is_prepared (ask.Info (word 5) (Ok (codes "alice"))) ≡ true
a_subject_is_given = refl

no_memory_for_a_subject_is_not : is_prepared (ask.Info (word 5) (Err info_no.NoMemory)) ≡ false
no_memory_for_a_subject_is_not = refl

a_logout_is_given : is_prepared (ask.Logout (Ok logout)) ≡ true
a_logout_is_given = refl

a_logout_of_nobody_is_not : is_prepared (ask.Logout (Ok (record logout { sub = None }))) ≡ false
a_logout_of_nobody_is_not = refl

a_refused_logout_is_given : is_prepared (ask.Logout (Err logout_no.NamesNobody)) ≡ true
a_refused_logout_is_given = refl

-- ---- weights

weight_of_a_begin : ask_weight (ask.Begin (Some (word 1))) ≡ 1024
weight_of_a_begin = refl

weight_of_a_code : ask_weight (ask.Callback (Ok heard) None (Some (word 1))) ≡ 1025
weight_of_a_code = refl

-- the code has 1 byte, the token 5, the fields of its claims 37, and the empty set of the others is written in 2
weight_of_a_token : ask_weight (ask.Callback (Ok with_token) (Some (Ok alice)) None) ≡ 1069
unfolding claims_on_literals
weight_of_a_token = refl

weight_of_a_refusal : ask_weight (ask.Tokens (word 5) (Err (tokens_no.Claims (claim_no.WrongKind (codes "id_token")))) None) ≡ 1032
weight_of_a_refusal = refl

weight_of_a_logout : ask_weight (ask.Logout (Ok logout)) ≡ 1031
weight_of_a_logout = refl

-- ---- what rows hold

-- 1 byte of the code and 5 of the subject
held_of_a_code : held_bytes (ask.Callback (Ok heard) (Some (Ok alice)) None) ≡ 6
held_of_a_code = refl

held_of_tokens : held_bytes (ask.Tokens (word 5) (Ok tokens) (Some (Ok alice))) ≡ 5
held_of_tokens = refl

held_of_a_logout : held_bytes (ask.Logout (Ok logout)) ≡ 1
held_of_a_logout = refl

small_with_1536_bytes : is_small (ask.Callback (Ok (record heard { code = Some (replicate 1536 120) })) None None) ≡ true
small_with_1536_bytes = refl

not_small_with_1537_bytes : is_small (ask.Callback (Ok (record heard { code = Some (replicate 1537 120) })) None None) ≡ false
not_small_with_1537_bytes = refl

-- ---- values of their types

no_text : is_utf8 (255 ∷ []) ≡ false
unfolding claims_on_literals
no_text = refl

other_bytes_are_no_text : IsUtf8 (255 ∷ []) → ⊥
other_bytes_are_no_text h = true≢false (sym (is_utf8-from_IsUtf8 (255 ∷ []) h) ∙ no_text)

heard_is_a_value : IsHeard heard
heard_is_a_value = record {
  state = record { long = refl; bytes = IsBytes-from_all_bytes (word 2) refl };
  code = IsUtf8-are_ascii (codes "x") refl;
  access = tt;
  id = tt;
}

a_state_of_31_bytes_is_none : IsHeard (record heard { state = Some (replicate 31 0) }) → ⊥
a_state_of_31_bytes_is_none h = let long : ◌≡◌ {A = ℕ} 31 32 = h.state.long in absurd (omega (arith, long))

claims_are_a_value : IsIdValue alice
claims_are_a_value = record {
  iss = IsUtf8-are_ascii (codes "http://127.0.0.1:8080") refl;
  sub = IsUtf8-are_ascii (codes "alice") refl;
  aud = (IsUtf8-are_ascii (codes "shop-client") refl, tt);
  azp = tt;
  exp = omega arith;
  iat = omega arith;
  auth_time = tt;
  nonce = tt;
  sid = tt;
  at_hash = tt;
  c_hash = tt;
  more = ClaimsFit-none;
}

-- claims that are no fields, in the order of their names; out of order, and with a number of 65 bits
two_more_are_a_value : ClaimsFit (member (codes "age") (number (unsigned 30)) (member (codes "name") (string (codes "Alice")) no_members))
two_more_are_a_value = record {
  members =
      (IsUtf8-are_ascii (codes "age") refl, omega arith, (refl, tt), (IsUtf8-are_ascii (codes "name") refl, IsUtf8-are_ascii (codes "Alice") refl, tt, tt));
  nests = omega arith;
}

two_out_of_order_are_none : IsIdValue (record alice { more = member (codes "name") (string (codes "Alice")) (member (codes "age") (number (unsigned 30)) no_members) }) → ⊥
two_out_of_order_are_none h = (let k : Greater ≡ Less = h.more.members.2.0 in cc)

one_of_65_bits_is_none : IsIdValue (record alice { more = member (codes "age") (number (unsigned (2 ^ 64))) no_members }) → ⊥
one_of_65_bits_is_none h = let k : 2 ^ 64 < 2 ^ 64 = h.more.members.1 in absurd (omega (arith, k))

an_expiry_of_65_bits_is_none : IsIdValue (record alice { exp = 2 ^ 64 }) → ⊥
an_expiry_of_65_bits_is_none h = absurd (omega (arith, h.exp))

tokens_are_a_value : IsTokensValue tokens
tokens_are_a_value = (IsUtf8-are_ascii (codes "a") refl, IsUtf8-are_ascii (codes "h.p.m") refl)

an_access_token_of_other_bytes_is_none : IsTokensValue (record tokens { access = 255 ∷ [] }) → ⊥
an_access_token_of_other_bytes_is_none h = other_bytes_are_no_text h.0

logout_is_a_value : IsLogoutValue logout
logout_is_a_value = record {
  iss = IsUtf8-are_ascii (codes "i") refl;
  aud = tt;
  iat = omega arith;
  exp = omega arith;
  jti = IsUtf8-are_ascii (codes "j") refl;
  sub = IsUtf8-are_ascii (codes "alice") refl;
  sid = tt;
}

an_identifier_of_other_bytes_is_none : IsLogoutValue (record logout { jti = 255 ∷ [] }) → ⊥
an_identifier_of_other_bytes_is_none h = other_bytes_are_no_text h.jti

a_name_twice_is_asked : IsRpAsk (ask.Callback (Err (answer_no.Twice (codes "state"))) None None)
a_name_twice_is_asked = (IsUtf8-are_ascii (codes "state") refl, tt, tt)

a_name_twice_of_other_bytes_is_none : IsRpAsk (ask.Callback (Err (answer_no.Twice (255 ∷ []))) None None) → ⊥
a_name_twice_of_other_bytes_is_none h = other_bytes_are_no_text h.0

an_expired_token_is_asked : IsRpAsk (ask.Callback (Ok heard) (Some (Err (id_no.Expired 1000))) None)
an_expired_token_is_asked = (heard_is_a_value, omega arith, tt)

an_expired_token_of_65_bits_is_none : IsRpAsk (ask.Callback (Ok heard) (Some (Err (id_no.Expired (2 ^ 64)))) None) → ⊥
an_expired_token_of_65_bits_is_none h = let k : 2 ^ 64 < 2 ^ 64 = h.1 in absurd (omega (arith, k))

a_claim_of_other_bytes_is_none : IsRpAsk (ask.Callback (Ok heard) (Some (Err (id_no.Claims (claim_no.WrongKind (255 ∷ []))))) None) → ⊥
a_claim_of_other_bytes_is_none h = other_bytes_are_no_text h.1

a_status_is_asked : IsRpAsk (ask.Tokens (word 5) (Err (tokens_no.Status 400)) None)
a_status_is_asked = (record { long = refl; bytes = IsBytes-from_all_bytes (word 5) refl }, omega arith, tt)

a_status_of_17_bits_is_none : IsRpAsk (ask.Tokens (word 5) (Err (tokens_no.Status (2 ^ 16))) None) → ⊥
a_status_of_17_bits_is_none h = let k : 2 ^ 16 < 2 ^ 16 = h.1 in absurd (omega (arith, k))

a_member_of_other_bytes_is_none : IsRpAsk (ask.Info (word 5) (Err (info_no.Claims (claim_no.WrongKind (255 ∷ []))))) → ⊥
a_member_of_other_bytes_is_none h = other_bytes_are_no_text h.1

a_logout_of_nobody_is_asked : IsRpAsk (ask.Logout (Err logout_no.NamesNobody))
a_logout_of_nobody_is_asked = tt

an_absent_claim_of_other_bytes_is_none : IsRpAsk (ask.Logout (Err (logout_no.Missing (255 ∷ [])))) → ⊥
an_absent_claim_of_other_bytes_is_none h = other_bytes_are_no_text h
