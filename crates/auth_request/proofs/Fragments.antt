-- The response types that answer in the fragment.
use Rattle.std.proofs.Common.{◌≡◌, ◌↔◌, ℕ, List, true, Option, Some, None, refl, sym, ap, ◌∙◌, true≢false}
use Rattle.oidc_words.specs.Types.{types_of_number, is_in_fragment}
use Rattle.oidc_words.proofs.TypeTexts.{answers_there, is_there}
use Rattle.request_params.specs.declared.params.Params.{Params}
use Rattle.auth_request.specs.Parameters.{type_of}
use Rattle.auth_request.specs.Granted.{AnswersInFragment}

to_answers : (p : Params) (o : Option (List ℕ)) → p.response_type ≡ o → is_in_fragment (types_of_number (type_of o)) ≡ true → AnswersInFragment p
to_answers p None is h = absurd (true≢false (sym h))
to_answers p (Some t) is h = let both = answers_there t h in record { text = t; asked = is; known = both.0; other = both.1 }

pub in_fragment : (p : Params) → (is_in_fragment (types_of_number (type_of p.response_type)) ≡ true) ↔ AnswersInFragment p
in_fragment p = (
  to_answers p p.response_type refl,
  λ a. ap (λ o. is_in_fragment (types_of_number (type_of o))) a.asked ∙ is_there a.text a.known a.other,
)
