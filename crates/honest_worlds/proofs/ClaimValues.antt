-- The claims of the ID Tokens of alice's sign-in are values of their types.
use Rattle.std.proofs.Common.{◌≡◌, Option, codes, refl, sym, subst, arith}
use Rattle.std.specs.Str.{IsUtf8}
use Rattle.sso_base.specs.Words.{Word}
use Rattle.sso_base.proofs.Utf8Bytes.{IsUtf8-are_ascii}
use Rattle.client_registry.specs.Configuration.{Configuration, subject_at}
use Rattle.auth_request.specs.declared.wish.Wish.{Wish}
use Rattle.auth_request.specs.Values.{IsWishValue}
use Rattle.id_token.specs.Sealing.{HasTexts}
use Rattle.op_issue.specs.IdTokens.{id_claims}
use Rattle.op_issue.specs.Issuing.{MayIssue}
use Rattle.op_issue.proofs.Sealable.{has_texts}
use Rattle.op_answer.proofs.FirstLogin.{signed_alice}
use Rattle.rp_exchange.specs.Values.{IsIdValue}

pub claims_value : (c : Configuration) (wish : Wish) (access for : Option Word) → MayIssue c wish signed_alice 1000 → IsWishValue wish → subject_at c wish.client 0 ≡ codes "alice"
    → IsIdValue (id_claims c wish signed_alice 1000 access for)
unfolding id_claims
claims_value c wish access for may value subject =
    let texts : HasTexts (id_claims c wish signed_alice 1000 access for) = has_texts c wish signed_alice 1000 access for may value in
    record {
      iss = texts.iss;
      sub = subst IsUtf8 (sym subject) (IsUtf8-are_ascii (codes "alice") refl);
      aud = texts.aud;
      azp = tt;
      exp = omega arith;
      iat = omega arith;
      auth_time = omega arith;
      nonce = texts.nonce;
      sid = texts.sid;
      at_hash = texts.at_hash;
      c_hash = texts.c_hash;
      more = texts.more;
    }
