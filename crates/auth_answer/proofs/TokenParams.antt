-- The type and the life of an access token stand exactly beside it.
use Rattle.std.proofs.Common.{◌≡◌, List, [], ◌∷◌, Bool, true, false, cond, codes, Option, Some, None, option_map, refl, ◌∙◌, ap}
use Rattle.std.specs.Option.{option_or}
use Rattle.std.specs.List.{cons_option}
use Rattle.std.specs.Str.{bytes_eq}
use Rattle.sso_base.specs.Words.{Word, Text, word_text}
use Rattle.request_params.specs.Form.{Pair}
use Rattle.request_params.specs.Reading.{value_of}
use Rattle.oidc_words.specs.Lives.{access_life_text}
use Rattle.oidc_words.specs.TokenTypes.{bearer_word}
use Rattle.auth_answer.specs.declared.answer.Answer.{Answer}
use Rattle.auth_answer.specs.Printing.{Param, pair_if, pairs_of, answer_params}

-- the first value of a name
abbrev first_of : Text → List Param → Option Text
first_of t [] = None
first_of t (p ∷ ps) = cond (bytes_eq p.0 t) (option_or p.1 (first_of t ps)) (first_of t ps)

nothing_before : (b : Bool) (o : Option Text) → o ≡ cond b (option_or None o) o
nothing_before true None = refl
nothing_before true (Some t) = refl
nothing_before false o = refl

-- a parameter before pairs
one_more : (t name : Text) (o : Option Text) (pairs : List Pair) (rest : Option Text) → value_of t pairs ≡ rest
    → value_of t (cons_option (pair_if (name, o)) pairs) ≡ cond (bytes_eq name t) (option_or o rest) rest
one_more t name None pairs rest h = h ∙ nothing_before (bytes_eq name t) rest
one_more t name (Some v) pairs rest h = ap (λ q. cond (bytes_eq name t) (Some v) q) h

value_of-pairs_of : (t : Text) (ps : List Param) → value_of t (pairs_of ps) ≡ first_of t ps
value_of-pairs_of t [] = refl
value_of-pairs_of t (p ∷ ps) = one_more t p.0 p.1 (pairs_of ps) (first_of t ps) (value_of-pairs_of t ps)

beside_token : (text : Text) (access : Option Word) → option_or (option_map (λ _. text) (option_map word_text access)) None ≡ option_map (λ _. text) access
beside_token text None = refl
beside_token text (Some w) = refl

pub token_type_beside : (a : Answer) → value_of (codes "token_type") (pairs_of (answer_params a)) ≡ option_map (λ _. bearer_word) a.access
token_type_beside a = value_of-pairs_of (codes "token_type") (answer_params a) ∙ beside_token bearer_word a.access

pub expires_in_beside : (a : Answer) → value_of (codes "expires_in") (pairs_of (answer_params a)) ≡ option_map (λ _. access_life_text) a.access
expires_in_beside a = value_of-pairs_of (codes "expires_in") (answer_params a) ∙ beside_token access_life_text a.access
