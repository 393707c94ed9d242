-- The successful authorization response to a wish (OpenID Connect Core 1.0, 3.1.2.5, 3.2.2.5 and 3.3.2.5).
use Rattle.std.specs.Prelude.{ℕ, Bool, List, Option, Some, None, if◌then◌else◌}
use Rattle.sso_base.specs.Words.{Word, fresh_word}
use Rattle.oidc_words.specs.Types.{is_in_fragment}
use Rattle.client_registry.specs.Configuration.{Configuration}
use Rattle.auth_request.specs.declared.wish.Wish.{Wish}
use Rattle.auth_answer.specs.declared.answer.Answer.{Answer}
use Rattle.op_issue.specs.declared.issuing.Authentication.{Authentication}
use Rattle.op_issue.specs.IdTokens.{issued_id}

abbrev pub if_wished : {X : Type 0} → Bool → X → Option X
if_wished flag x = if flag then Some x else None

abbrev pub issued_code : Wish → List Word → Option Word
issued_code wish fresh = if_wished wish.types.code (fresh_word fresh 2)

abbrev pub issued_access : Wish → List Word → Option Word
issued_access wish fresh = if_wished wish.types.token (fresh_word fresh 3)

-- those of a code, an access token and an ID Token that the response type has
abbrev pub issued : Configuration → Wish → Authentication → ℕ → List Word → Answer
issued c wish who at fresh =
    record {
      redirect = wish.redirect;
      fragment = is_in_fragment wish.types;
      code = issued_code wish fresh;
      access = issued_access wish fresh;
      id = if_wished wish.types.id_token (issued_id c wish who at (issued_access wish fresh) (issued_code wish fresh));
      state = wish.state;
    }
