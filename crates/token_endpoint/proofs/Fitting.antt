-- The members of a token response fit, so that their text is read as them.
use Rattle.std.proofs.Common.{◌<◌, ◌^◌, codes, Some, refl, arith}
use Rattle.std.specs.Str.{IsUtf8}
use Rattle.json.proofs.Printed.Utf8.{IsUtf8-are_ascii}
use Rattle.serde_json.specs.Data.{no_members}
use Rattle.sso_base.specs.Words.{Text}
use Rattle.claim_set.specs.Building.{put_all}
use Rattle.claim_set.specs.Fitting.{ClaimsFit, EntriesFit}
use Rattle.claim_set.proofs.Fitting.{ClaimsFit-none, ClaimsFit-put_all, text_fits, number_fits}
use Rattle.oidc_words.specs.TokenTypes.{bearer_word}
use Rattle.token_endpoint.specs.Answer.{token_entries}

life : 3600 < 2 ^ 40
life = omega arith

pub tokens_fit : (access id : Text) → IsUtf8 access → IsUtf8 id → ClaimsFit (put_all (token_entries access id) no_members)
tokens_fit access id a i =
    let entries : EntriesFit (token_entries access id) = (
      IsUtf8-are_ascii (codes "access_token") refl,
      text_fits (Some access) a,
      (
        IsUtf8-are_ascii (codes "expires_in") refl,
        number_fits (Some 3600) life,
        (
          IsUtf8-are_ascii (codes "id_token") refl,
          text_fits (Some id) i,
          (IsUtf8-are_ascii (codes "token_type") refl, text_fits (Some bearer_word) (IsUtf8-are_ascii bearer_word refl), tt),
        ),
      ),
    ) in
    ClaimsFit-put_all (token_entries access id) no_members entries ClaimsFit-none
