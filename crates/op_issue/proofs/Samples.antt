-- What is issued to one user of a small registry, by computation. Sealing stays closed.
use Rattle.std.proofs.Common.{◌≡◌, ◌≤◌, true, false, List, [], ◌∷◌, replicate, codes, Some, None, Ok, refl, ◌∙◌, arith}
use Rattle.json.proofs.Printed.Utf8.{IsUtf8-are_ascii}
use Rattle.serde_json.specs.Data.{no_members}
use Rattle.sso_base.specs.Words.{Text, word_text}
use Rattle.claim_set.specs.Reading.{claims_text}
use Rattle.jws_compact.specs.declared.sealing.Typ.TheVariants.{Jwt}
use Rattle.jws_compact.specs.Jws.{written}
use Rattle.client_keys.specs.Opening.{verdict_for}
use Rattle.oidc_words.specs.declared.response_types.Types.{Types}
use Rattle.oidc_words.specs.Scopes.{no_scopes}
use Rattle.oidc_words.specs.Claims.{is_claim_of, profile_claims, email_claims, address_claims, phone_claims}
use Rattle.userinfo.specs.Held.{user_claims, held_members}
use Rattle.userinfo.proofs.UserTexts.{text_is}
use Rattle.userinfo.proofs.Told.{claims_are_of}
use Rattle.auth_request.specs.declared.wish.Wish.{Wish}
use Rattle.auth_answer.specs.declared.answer.Answer.{Answer}
use Rattle.id_token.specs.declared.claims.IdClaims.{IdClaims}
use Rattle.id_token.specs.Claims.{id_members}
use Rattle.id_token.specs.HalfHash.{half_hash_of}
use Rattle.id_token.specs.Reading.{id_read}
use Rattle.id_token.specs.declared.rules.IdRules.{IdRules}
use Rattle.id_token.specs.declared.rules.Half.TheVariants.{Free, Must}
use Rattle.id_token.specs.Judging.{IsGoodIdToken}
use Rattle.auth_request.specs.Values.{is_short_nonce}
use Rattle.op_issue.specs.IdTokens.{hash_of, is_id_alone, id_scopes, id_claims, issued_id}
use Rattle.op_issue.specs.Issuing.{MayIssue}
use Rattle.oidc_words.specs.Types.{is_in_fragment}
use Rattle.op_issue.specs.Issued.{if_wished, issued_code, issued_access, issued}
use Rattle.op_issue.specs.ClientRules.{bound_to, client_rules}
use Rattle.auth_request.specs.Values.{IsWishValue}
use Rattle.op_issue.proofs.Sealable.{is_read_back}
use Rattle.op_issue.proofs.OpenedTexts.{issued_opens}
use Rattle.op_issue.proofs.GoodTokens.{is_good, ends}
use Rattle.op_issue.proofs.SmallRegistry.{word, words, profile_scopes, named, alice, secret, shop, alice_text, small, small_registry, signed, word_10}

-- ---- wishes, and a user who logged in

abbrev wishing : Types → List Text → Wish
wishing types asked =
    record {
      client = 0;
      redirect = codes "https://a.b/cb";
      types = types;
      scopes = profile_scopes;
      state = Some (codes "state");
      nonce = Some (codes "nonce");
      none = false;
      login = false;
      consent = false;
      max_age = None;
      subs = None;
      id_asked = asked;
      info_asked = [];
    }

abbrev code_alone : Types
code_alone = record { code = true; id_token = false; token = false }

abbrev id_alone : Types
id_alone = record { code = false; id_token = true; token = false }

abbrev id_and_token : Types
id_and_token = record { code = false; id_token = true; token = true }

abbrev no_types : Types
no_types = record { code = false; id_token = false; token = false }

abbrev code_and_id : Types
code_and_id = record { code = true; id_token = true; token = false }

abbrev code_and_token : Types
code_and_token = record { code = true; id_token = false; token = true }

abbrev all_types : Types
all_types = record { code = true; id_token = true; token = true }

wish_is_value : (types : Types) → IsWishValue (wishing types [])
wish_is_value types =
    record {
      client = omega arith;
      redirect = IsUtf8-are_ascii (codes "https://a.b/cb") refl;
      state = IsUtf8-are_ascii (codes "state") refl;
      nonce = IsUtf8-are_ascii (codes "nonce") refl;
      max_age = tt;
      subs = tt;
      id_asked = tt;
      info_asked = tt;
    }

-- ---- for whom tokens are issued

may_issue : (types : Types) → MayIssue small (wishing types []) signed 1000
may_issue types =
    record {
      registry = small_registry;
      client = omega arith;
      user = omega arith;
      nonce = refl;
      sid = word_10;
      auth_time = omega arith;
      moment = omega arith;
    }

not_after_the_last_moment : (wish : Wish) → MayIssue small wish signed 1099511000001 → ⊥
not_after_the_last_moment wish h = let moment : 1099511000001 ≤ 1099511000000 = h.moment in absurd (omega (arith, moment))

not_to_a_second_user : (wish : Wish) → MayIssue small wish (record signed { user = 1 }) 1000 → ⊥
not_to_a_second_user wish h = absurd (omega (arith, h.user))

not_for_a_second_client : (types : Types) → MayIssue small (record (wishing types []) { client = 1 }) signed 1000 → ⊥
not_for_a_second_client types h = absurd (omega (arith, h.client))

not_with_a_sid_of_31_bytes : (wish : Wish) → MayIssue small wish (record signed { sid = replicate 31 0 }) 1000 → ⊥
not_with_a_sid_of_31_bytes wish h = absurd (omega (arith, h.sid.long))

nonce_of_255_bytes : is_short_nonce (Some (replicate 255 65)) ≡ true
nonce_of_255_bytes = refl

nonce_of_256_bytes : is_short_nonce (Some (replicate 256 65)) ≡ false
nonce_of_256_bytes = refl

is_read : id_read secret (issued_id small (wishing id_alone []) signed 1000 None None) ≡ Ok (id_claims small (wishing id_alone []) signed 1000 None None)
is_read = is_read_back small (wishing id_alone []) signed 1000 None None (may_issue id_alone) (wish_is_value id_alone)

is_opened : verdict_for shop (issued_id small (wishing id_alone []) signed 1000 None None)
    ≡ Ok (written Jwt (claims_text (id_members (id_claims small (wishing id_alone []) signed 1000 None None))))
is_opened = issued_opens small (wishing id_alone []) signed 1000 None None shop refl (may_issue id_alone) (wish_is_value id_alone)

-- ---- the claims

alone : is_id_alone id_alone ≡ true
alone = refl

not_alone : (is_id_alone code_alone ≡ false) × (is_id_alone id_and_token ≡ false) × (is_id_alone code_and_id ≡ false) × (is_id_alone all_types ≡ false)
not_alone = (refl, refl, refl, refl)

scopes-of_a_lone_token : id_scopes (wishing id_alone []) ≡ profile_scopes
scopes-of_a_lone_token = refl

scopes-beside_a_token : id_scopes (wishing id_and_token []) ≡ no_scopes
scopes-beside_a_token = refl

hash-of_a_word : hash_of (Some (word 9)) ≡ Some (half_hash_of (word_text (word 9)))
hash-of_a_word = refl

hash-of_none : hash_of None ≡ None
hash-of_none = refl

held : user_claims small 0 ≡ named
held = claims_are_of small 0 alice refl ∙ text_is alice.claims alice_text

-- only a token without an access token or a code has the claims of the scope values
told_alone : (id_claims small (wishing id_alone []) signed 1000 None None).more ≡ named
unfolding id_claims held_members is_claim_of profile_claims
told_alone = rw held refl

told_by_its_name : (id_claims small (wishing id_and_token (codes "name" ∷ [])) signed 1000 (Some (word 9)) None).more ≡ named
unfolding id_claims held_members is_claim_of profile_claims email_claims address_claims phone_claims
told_by_its_name = rw held refl

abbrev claims_beside : IdClaims
claims_beside =
    record {
      iss = codes "https://a.b";
      sub = codes "alice";
      aud = codes "shop" ∷ [];
      azp = None;
      exp = 1300;
      iat = 1000;
      auth_time = Some 900;
      nonce = Some (codes "nonce");
      sid = Some (word_text (word 10));
      at_hash = Some (half_hash_of (word_text (word 9)));
      c_hash = None;
      more = no_members;
    }

beside_a_token : id_claims small (wishing id_and_token []) signed 1000 (Some (word 9)) None ≡ claims_beside
unfolding id_claims held_members is_claim_of profile_claims email_claims address_claims phone_claims
beside_a_token = rw held refl

beside_a_token_and_a_code : id_claims small (wishing all_types []) signed 1000 (Some (word 9)) (Some (word 3)) ≡ record claims_beside { c_hash = Some (half_hash_of (word_text (word 3))) }
unfolding id_claims held_members is_claim_of profile_claims email_claims address_claims phone_claims
beside_a_token_and_a_code = rw held refl

-- ---- what the client asks of them

bound-to_a_word : bound_to (Some (word 9)) ≡ Must (half_hash_of (word_text (word 9)))
bound-to_a_word = refl

bound-to_nothing : bound_to None ≡ Free
bound-to_nothing = refl

abbrev shop_rules : IdRules
shop_rules =
    record {
      issuer = codes "https://a.b";
      client = codes "shop";
      nonce = codes "nonce";
      begun = 950;
      max_age = Some 0;
      token = Must (half_hash_of (word_text (word 9)));
      code = Free;
    }

rules-of_shop : client_rules small 0 (codes "nonce") 950 (Some 0) (Some (word 9)) None ≡ shop_rules
rules-of_shop = refl

good_to_the_last_second : IsGoodIdToken shop_rules (id_claims small (wishing id_and_token []) signed 1000 (Some (word 9)) None) 1359
good_to_the_last_second = is_good small (wishing id_and_token []) signed 1000 (Some (word 9)) None (codes "nonce") 950 (Some 0) 1359 refl (omega arith) (omega arith) (omega arith)

not_good_a_second_later : IsGoodIdToken shop_rules (id_claims small (wishing id_and_token []) signed 1000 (Some (word 9)) None) 1360 → ⊥
not_good_a_second_later h = absurd (omega (arith, ends small (wishing id_and_token []) signed 1000 (Some (word 9)) None shop_rules 1360 h))

-- ---- the answers

in_the_query : (is_in_fragment no_types ≡ false) × (is_in_fragment code_alone ≡ false)
in_the_query = (refl, refl)

in_the_fragment : (is_in_fragment id_alone ≡ true) × (is_in_fragment id_and_token ≡ true) × (is_in_fragment code_and_id ≡ true) × (is_in_fragment code_and_token ≡ true)
    × (is_in_fragment all_types ≡ true)
in_the_fragment = (refl, refl, refl, refl, refl)

wished : if_wished true (word 9) ≡ Some (word 9)
wished = refl

not_wished : if_wished false (word 9) ≡ None
not_wished = refl

code-is_the_third_word : issued_code (wishing code_alone []) (words 1) ≡ Some (word 3)
code-is_the_third_word = refl

no_code : issued_code (wishing id_and_token []) (words 1) ≡ None
no_code = refl

access-is_the_fourth_word : issued_access (wishing code_and_token []) (words 1) ≡ Some (word 4)
access-is_the_fourth_word = refl

no_access : issued_access (wishing code_and_id []) (words 1) ≡ None
no_access = refl

abbrev code_answer : Answer
code_answer = record { redirect = codes "https://a.b/cb"; fragment = false; code = Some (word 3); access = None; id = None; state = Some (codes "state") }

answer-of_code : issued small (wishing code_alone []) signed 1000 (words 1) ≡ code_answer
answer-of_code = refl

abbrev token_answer : Answer
token_answer =
    record {
      redirect = codes "https://a.b/cb";
      fragment = true;
      code = None;
      access = Some (word 4);
      id = Some (issued_id small (wishing id_and_token []) signed 1000 (Some (word 4)) None);
      state = Some (codes "state");
    }

answer-of_id_token_token : issued small (wishing id_and_token []) signed 1000 (words 1) ≡ token_answer
answer-of_id_token_token = refl

-- the ID Token of a hybrid response is about both words
abbrev hybrid_answer : Answer
hybrid_answer =
    record {
      redirect = codes "https://a.b/cb";
      fragment = true;
      code = Some (word 3);
      access = Some (word 4);
      id = Some (issued_id small (wishing all_types []) signed 1000 (Some (word 4)) (Some (word 3)));
      state = Some (codes "state");
    }

answer-of_all_types : issued small (wishing all_types []) signed 1000 (words 1) ≡ hybrid_answer
answer-of_all_types = refl
