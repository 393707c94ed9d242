-- Laws about the words of the standard. Each is a clause of a function of `law.rt`, which says it in words.
use Rattle.std.specs.Prelude.{◌≡◌, ◌<◌, ℕ, Some, true}
use Rattle.std.specs.List.{AllByRecursion, join_with_byte}
use Rattle.sso_base.specs.Words.{Text}
use Rattle.oidc_words.specs.Words.{has_word, chosen, orders}
use Rattle.oidc_words.specs.Types.{code_word, id_token_word, token_word, types_of_number, type_number, is_response_type, type_choices}

-- ---- response types

abbrev pub ResponseTypesAreReadInAnyOrder : Type 0
ResponseTypesAreReadInAnyOrder =
    (n : ℕ) → n < 6
    → AllByRecursion (λ ws. type_number (join_with_byte 32 ws) ≡ Some n)
    (orders (chosen (type_choices (types_of_number (Some n)))))

abbrev pub ResponseTypesAreTheirWords : Type 0
ResponseTypesAreTheirWords =
    (t : Text) → is_response_type t ≡ true
    → types_of_number (type_number t)
    ≡ record { code = has_word code_word t; id_token = has_word id_token_word t; token = has_word token_word t }
