-- The scope values that a consent page writes have no mark.
use Rattle.std.proofs.Common.{◌≡◌, Bool, true, false, refl}
use Rattle.oidc_words.specs.declared.scopes.Scopes.{Scopes}
use Rattle.oidc_words.specs.Scopes.{scope_text}
use Rattle.op_response.specs.Told.{has_mark}

abbrev scopes : Bool → Bool → Bool → Bool → Bool → Scopes
scopes openid profile email address phone = record { openid = openid; profile = profile; email = email; address = address; phone = phone }

plain : (openid profile email address phone : Bool) → has_mark (scope_text (scopes openid profile email address phone)) ≡ false
plain true true true true true = refl
plain true true true true false = refl
plain true true true false true = refl
plain true true true false false = refl
plain true true false true true = refl
plain true true false true false = refl
plain true true false false true = refl
plain true true false false false = refl
plain true false true true true = refl
plain true false true true false = refl
plain true false true false true = refl
plain true false true false false = refl
plain true false false true true = refl
plain true false false true false = refl
plain true false false false true = refl
plain true false false false false = refl
plain false true true true true = refl
plain false true true true false = refl
plain false true true false true = refl
plain false true true false false = refl
plain false true false true true = refl
plain false true false true false = refl
plain false true false false true = refl
plain false true false false false = refl
plain false false true true true = refl
plain false false true true false = refl
plain false false true false true = refl
plain false false true false false = refl
plain false false false true true = refl
plain false false false true false = refl
plain false false false false true = refl
plain false false false false false = refl

pub are_plain : (s : Scopes) → has_mark (scope_text s) ≡ false
are_plain s = plain s.openid s.profile s.email s.address s.phone
