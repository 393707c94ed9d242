-- Tokens of a small registry, which are no request objects of its client.
use Rattle.std.proofs.Common.{◌≡◌, true, false, [], codes, Some, None, Ok, refl, arith}
use Rattle.json.proofs.Printed.Utf8.{IsUtf8-are_ascii}
use Rattle.sso_base.specs.Words.{Text}
use Rattle.sso_base.proofs.Spelling.{IsBytes-from_all_bytes}
use Rattle.id_token.specs.declared.claims.IdClaims.{IdClaims}
use Rattle.id_token.specs.declared.rules.IdRules.{IdRules}
use Rattle.id_token.specs.Reading.{id_read}
use Rattle.id_token.specs.Judging.{IsGoodIdToken}
use Rattle.logout_token.specs.declared.claims.LogoutClaims.{LogoutClaims}
use Rattle.logout_token.specs.LogoutToken.{logout_read}
use Rattle.client_registry.specs.Numbers.{client_at}
use Rattle.request_params.specs.declared.params.Params.{Params}
use Rattle.request_object.specs.Reading.{request_read}
use Rattle.auth_request.specs.declared.wish.Wish.{Wish}
use Rattle.auth_request.specs.Values.{IsWishValue}
use Rattle.op_issue.proofs.SmallRegistry.{word, profile_scopes, secret, shop, small, small_registry, signed, word_10}
use Rattle.op_issue.specs.IdTokens.{id_claims, issued_id}
use Rattle.op_issue.specs.Issuing.{MayIssue}
use Rattle.op_issue.specs.declared.sign_out.SignOut.{SignOut}
use Rattle.op_issue.specs.LogoutTokens.{logout_claims, issued_logout}
use Rattle.op_issue.specs.Ending.{MayEnd}
use Rattle.op_issue.proofs.Sealable as ids
use Rattle.op_issue.proofs.LogoutSealable.{is_read_back}
use Rattle.op_answer.proofs.TokensApart.{logout_is_no_id, id_is_no_logout, logout_is_no_request, id_is_no_request}

-- ---- a logout token

abbrev out : SignOut
out = record { who = signed; at = 1000; word = word 9 }

may_end : MayEnd small 0 out
may_end = record { registry = small_registry; client = omega arith; user = omega arith; sid = word_10; word = record { long = refl; bytes = IsBytes-from_all_bytes (word 9) refl }; moment = omega arith }

shop_is_first : client_at small 0 ≡ Some shop
shop_is_first = refl

-- it is read as a logout token, and as nothing else
logout_is_read : logout_read secret (issued_logout small 0 out) ≡ Ok (logout_claims small 0 out)
logout_is_read = is_read_back small 0 out may_end

no_good_id : (x : IdClaims) (rules : IdRules) → id_read secret (issued_logout small 0 out) ≡ Ok x → IsGoodIdToken rules x 1000 → ⊥
no_good_id x rules read good = logout_is_no_id small 0 out secret x rules 1000 may_end read good

no_request : (p : Params) → request_read shop (codes "https://a.b") (issued_logout small 0 out) ≡ Ok p → ⊥
no_request p read = logout_is_no_request small 0 out 0 shop (codes "https://a.b") p may_end shop_is_first read

-- ---- an ID Token

abbrev wish : Wish
wish =
    record {
      client = 0;
      redirect = codes "https://a.b/cb";
      types = record { code = true; id_token = false; token = false };
      scopes = profile_scopes;
      state = None;
      nonce = Some (codes "nonce");
      none = false;
      login = false;
      consent = false;
      max_age = None;
      subs = None;
      id_asked = [];
      info_asked = [];
    }

wish_is_value : IsWishValue wish
wish_is_value =
    record {
      client = omega arith;
      redirect = IsUtf8-are_ascii (codes "https://a.b/cb") refl;
      state = tt;
      nonce = IsUtf8-are_ascii (codes "nonce") refl;
      max_age = tt;
      subs = tt;
      id_asked = tt;
      info_asked = tt;
    }

may_issue : MayIssue small wish signed 1000
may_issue = record { registry = small_registry; client = omega arith; user = omega arith; nonce = refl; sid = word_10; auth_time = omega arith; moment = omega arith }

abbrev token_issued : Text
token_issued = issued_id small wish signed 1000 (Some (word 21)) None

id_is_read : id_read secret token_issued ≡ Ok (id_claims small wish signed 1000 (Some (word 21)) None)
id_is_read = ids.is_read_back small wish signed 1000 (Some (word 21)) None may_issue wish_is_value

no_logout : (y : LogoutClaims) → logout_read secret token_issued ≡ Ok y → ⊥
no_logout y read = id_is_no_logout small wish signed 1000 (Some (word 21)) None secret y may_issue wish_is_value read

no_id_request : (p : Params) → request_read shop (codes "https://a.b") token_issued ≡ Ok p → ⊥
no_id_request p read = id_is_no_request small wish signed 1000 (Some (word 21)) None 0 shop (codes "https://a.b") p may_issue wish_is_value shop_is_first read
