-- Scope values as a text, and as they are read.
use Rattle.std.proofs.Common.{◌≡◌, Bool, true, false, Some, refl}
use Rattle.oidc_words.specs.declared.scopes.Scopes.{Scopes}
use Rattle.oidc_words.specs.Words.{chosen, parameter_words}
use Rattle.oidc_words.specs.Scopes.{scope_words, scopes_among, scope_choices, scope_text, all_scopes}

abbrev scopes : Bool → Bool → Bool → Bool → Bool → Scopes
scopes openid profile email address phone = record { openid = openid; profile = profile; email = email; address = address; phone = phone }

read : (openid profile email address phone : Bool) → scopes_among (parameter_words (Some (scope_text (scopes openid profile email address phone)))) ≡ scopes openid profile email address phone
unfolding parameter_words
read true true true true true = refl
read true true true true false = refl
read true true true false true = refl
read true true true false false = refl
read true true false true true = refl
read true true false true false = refl
read true true false false true = refl
read true true false false false = refl
read true false true true true = refl
read true false true true false = refl
read true false true false true = refl
read true false true false false = refl
read true false false true true = refl
read true false false true false = refl
read true false false false true = refl
read true false false false false = refl
read false true true true true = refl
read false true true true false = refl
read false true true false true = refl
read false true true false false = refl
read false true false true true = refl
read false true false true false = refl
read false true false false true = refl
read false true false false false = refl
read false false true true true = refl
read false false true true false = refl
read false false true false true = refl
read false false true false false = refl
read false false false true true = refl
read false false false true false = refl
read false false false false true = refl
read false false false false false = refl

pub text_is_read : (s : Scopes) → scopes_among (parameter_words (Some (scope_text s))) ≡ s
text_is_read s = read s.openid s.profile s.email s.address s.phone

pub all_words : chosen (scope_choices all_scopes) ≡ scope_words
all_words = refl
