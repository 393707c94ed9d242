-- The definitions of the book, computed.
use Rattle.std.proofs.Common.{◌≡◌, true, false, [], ◌∷◌, refl}
use Rattle.oidc_words.specs.Scopes.{no_scopes}
use Rattle.refresh_answer.specs.declared.rows.FamilyRow.{FamilyRow}
use Rattle.refresh_rows.specs.TokenRows.{held_token, refresh_row, is_of, tokens_of}
use Rattle.refresh_rows.specs.Booked.{is_of_place, is_of_code}

-- the family of the pair 3, for the code 7 of the client 1
abbrev family : FamilyRow
family = record { by = 3; code = 7 ∷ []; client = 1; user = 0; scopes = no_scopes; asked = []; begun = 10 }

its_place : is_of_place 3 1 family ≡ true
its_place = refl

another_clients-place : is_of_place 3 2 family ≡ false
another_clients-place = refl

its_code : is_of_code (7 ∷ []) 1 family ≡ true
its_code = refl

another_code : is_of_code (8 ∷ []) 1 family ≡ false
another_code = refl

one_of-the_family : is_of (family ∷ []) 3 ≡ true
one_of-the_family = refl

one_of-none : is_of (family ∷ []) 4 ≡ false
one_of-none = refl

tokens-of_the_family : tokens_of (family ∷ []) (held_token [] 3 true 10 ∷ held_token [] 4 true 10 ∷ []) ≡ held_token [] 3 true 10 ∷ []
tokens-of_the_family = refl

token-without_its_moment : refresh_row (held_token (1 ∷ []) 3 false 10) ≡ record { word = 1 ∷ []; family = 3; current = false }
token-without_its_moment = refl
