-- The definitions of challenges and verifiers in forms, computed: what each accepts, and what it refuses.
use Rattle.std.proofs.Common.{◌≡◌, true, false, [], ◌∷◌, ◌++◌, codes, replicate, refl}
use Rattle.sso_base.specs.Words.{Text}
use Rattle.request_params.specs.Form.{Pair}
use Rattle.pkce_answer.specs.declared.asks.Challenge.TheVariants as challenge
use Rattle.pkce_answer.specs.declared.asks.Verifier.TheVariants as verifier
use Rattle.pkce_check.specs.Reading.{is_unreserved, challenge_in, challenge_of_pairs, is_verifier, verifier_of_pairs}

-- the letter `a`, 43 times
abbrev letters : Text
letters = replicate 43 97

abbrev beside : Pair
beside = (codes "code_challenge", letters)

-- ---- challenges

none_is_absent : challenge_of_pairs [] ≡ challenge.Absent
none_is_absent = refl

one_of_s256 : challenge_of_pairs (beside ∷ (codes "code_challenge_method", codes "S256") ∷ []) ≡ challenge.S256 letters
one_of_s256 = refl

plain_is_bad : challenge_of_pairs (beside ∷ (codes "code_challenge_method", codes "plain") ∷ []) ≡ challenge.Bad
plain_is_bad = refl

no_method_is_bad : challenge_of_pairs (beside ∷ []) ≡ challenge.Bad
no_method_is_bad = refl

two_are_bad : challenge_of_pairs (beside ∷ beside ∷ (codes "code_challenge_method", codes "S256") ∷ []) ≡ challenge.Bad
two_are_bad = refl

an_empty_one_is_absent : challenge_of_pairs ((codes "code_challenge", []) ∷ []) ≡ challenge.Absent
an_empty_one_is_absent = refl

too_short_is_bad : challenge_in (replicate 42 97) ≡ challenge.Bad
too_short_is_bad = refl

a_dot_is_bad : challenge_in (replicate 42 97 ++ 46 ∷ []) ≡ challenge.Bad
a_dot_is_bad = refl

-- ---- verifiers

tilde_is_unreserved : is_unreserved 126 ≡ true
tilde_is_unreserved = refl

plus_is_reserved : is_unreserved 43 ≡ false
plus_is_reserved = refl

letters_are_one : is_verifier letters ≡ true
letters_are_one = refl

too_few_are_none : is_verifier (replicate 42 97) ≡ false
too_few_are_none = refl

too_many_are_none : is_verifier (replicate 129 97) ≡ false
too_many_are_none = refl

one_is_given : verifier_of_pairs ((codes "code_verifier", letters) ∷ []) ≡ verifier.Given letters
one_is_given = refl

a_short_one_is_bad : verifier_of_pairs ((codes "code_verifier", codes "short") ∷ []) ≡ verifier.Bad
a_short_one_is_bad = refl
