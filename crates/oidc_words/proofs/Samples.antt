-- The definitions computed on small cases: what each accepts, and what it refuses.
use Rattle.std.proofs.Common.{◌≡◌, true, false, [], ◌∷◌, codes, Some, None, refl, sym, ◌∙◌}
use Rattle.oidc_words.specs.declared.scopes.Scopes.{Scopes}
use Rattle.oidc_words.specs.declared.claims.ClaimKind.TheVariants.{Text as TextKind, Seconds}
use Rattle.oidc_words.specs.declared.errors.AuthError.TheVariants.{LoginRequired, InvalidScope, Other}
use Rattle.sso_base.specs.Texts.{has_text}
use Rattle.oidc_words.specs.Words.{is_one_of, has_other, is_distinct, words_of, has_word, parameter_words}
use Rattle.oidc_words.specs.Scopes.{scopes_among, scope_text, is_scope, no_scopes, all_scopes, joined, covers}
use Rattle.oidc_words.specs.Claims.{profile_claims, email_claims, address_claims, phone_claims, is_claim_of, is_standard_claim, scopes_with, with_scopes, scopes_with_any, flag_claims, seconds_claims, kind_of}
use Rattle.oidc_words.specs.Prompts.{is_prompt, prompt_among}
use Rattle.oidc_words.specs.Types.{types_text, types_of_number, response_types, spellings, type_number, is_in_fragment}
use Rattle.oidc_words.specs.Errors.{error_text, error_of, SaysError}
use Rattle.oidc_words.proofs.ErrorCodes.{error_says, says_error}

abbrev profile_only : Scopes
profile_only = record { openid = true; profile = true; email = false; address = false; phone = false }

abbrev email_only : Scopes
email_only = record { openid = true; profile = false; email = true; address = false; phone = false }

abbrev profile_and_email : Scopes
profile_and_email = record { openid = true; profile = true; email = true; address = false; phone = false }

-- ---- the claims of the scope values

one_of-the_second : is_one_of (codes "a" ∷ codes "b" ∷ []) (codes "b") ≡ true
one_of-the_second = refl

one_of-not_another_case : is_one_of (codes "a" ∷ codes "b" ∷ []) (codes "B") ≡ false
one_of-not_another_case = refl

claim_of-profile_last : is_claim_of profile_only (codes "updated_at") ≡ true
unfolding is_claim_of profile_claims
claim_of-profile_last = refl

claim_of-email_verified : is_claim_of email_only (codes "email_verified") ≡ true
unfolding is_claim_of profile_claims email_claims
claim_of-email_verified = refl

claim_of-email_has_no_phone_number : is_claim_of email_only (codes "phone_number") ≡ false
unfolding is_claim_of profile_claims email_claims address_claims phone_claims
claim_of-email_has_no_phone_number = refl

claim_of-no_scope_value : is_claim_of no_scopes (codes "name") ≡ false
unfolding is_claim_of
claim_of-no_scope_value = refl

standard-phone_number_verified : is_standard_claim (codes "phone_number_verified") ≡ true
unfolding is_claim_of profile_claims email_claims address_claims phone_claims
standard-phone_number_verified = refl

standard-not_sub : is_standard_claim (codes "sub") ≡ false
unfolding is_claim_of profile_claims email_claims address_claims phone_claims
standard-not_sub = refl

standard-not_openid : is_standard_claim (codes "openid") ≡ false
unfolding is_claim_of profile_claims email_claims address_claims phone_claims
standard-not_openid = refl

-- ---- scope values

joined-profile_and_email : joined profile_only email_only ≡ profile_and_email
unfolding joined
joined-profile_and_email = refl

covers-fewer : covers profile_and_email email_only ≡ true
covers-fewer = refl

covers-not_more : covers email_only profile_and_email ≡ false
covers-not_more = refl

covers-all : covers all_scopes profile_and_email ≡ true
covers-all = refl

scopes_with-address : scopes_with (codes "address") ≡ record { openid = false; profile = false; email = false; address = true; phone = false }
unfolding scopes_with profile_claims email_claims address_claims phone_claims
scopes_with-address = refl

scopes_with-an_unknown_claim : scopes_with (codes "sub") ≡ no_scopes
unfolding scopes_with profile_claims email_claims address_claims phone_claims
scopes_with-an_unknown_claim = refl

with_scopes-none_added : with_scopes profile_only [] ≡ profile_only
with_scopes-none_added = refl

scopes_with_any-two : scopes_with_any (codes "email" ∷ codes "sub" ∷ codes "nickname" ∷ []) ≡ record { openid = false; profile = true; email = true; address = false; phone = false }
unfolding scopes_with_any scopes_with joined profile_claims email_claims address_claims phone_claims
scopes_with_any-two = refl

scopes_with_any-none : scopes_with_any [] ≡ no_scopes
unfolding scopes_with_any
scopes_with_any-none = refl

-- ---- words

words-with_an_empty_one : words_of (codes "a  b") ≡ codes "a" ∷ [] ∷ codes "b" ∷ []
words-with_an_empty_one = refl

words-of_a_parameter : parameter_words (Some (codes " none  login ")) ≡ codes "none" ∷ codes "login" ∷ []
unfolding parameter_words
words-of_a_parameter = refl

words-of_no_parameter : parameter_words None ≡ []
unfolding parameter_words
words-of_no_parameter = refl

word-after_two_spaces : has_word (codes "openid") (codes "x  openid") ≡ true
word-after_two_spaces = refl

word-not_within_another : has_word (codes "openid") (codes "openidx") ≡ false
word-not_within_another = refl

text-not_a_front_of_one : has_text (codes "log") (codes "none" ∷ codes "login" ∷ []) ≡ false
text-not_a_front_of_one = refl

other-than_none : has_other (codes "none") (codes "none" ∷ codes "x" ∷ []) ≡ true
other-than_none = refl

other-not_none_twice : has_other (codes "none") (codes "none" ∷ codes "none" ∷ []) ≡ false
other-not_none_twice = refl

distinct-words : is_distinct (codes "a" ∷ codes "b" ∷ []) ≡ true
distinct-words = refl

distinct-not_where_one_stands_twice : is_distinct (codes "a" ∷ codes "a" ∷ []) ≡ false
distinct-not_where_one_stands_twice = refl

-- ---- the texts of scope values and of `prompt`

scope-of_two_words : is_scope (codes "email openid") ≡ true
scope-of_two_words = refl

scope-not_without_openid : is_scope (codes "profile") ≡ false
scope-not_without_openid = refl

scope-not_with_a_word_twice : is_scope (codes "openid openid") ≡ false
scope-not_with_a_word_twice = refl

scope-not_with_two_spaces : is_scope (codes "openid  email") ≡ false
scope-not_with_two_spaces = refl

scopes-with_an_unknown_word : scopes_among (codes "openid" ∷ codes "x" ∷ codes "email" ∷ []) ≡ email_only
scopes-with_an_unknown_word = refl

scope_text-of_two : scope_text email_only ≡ codes "openid email"
scope_text-of_two = refl

prompt-of_two_words : is_prompt (codes "login consent") ≡ true
prompt-of_two_words = refl

prompt-not_of_an_unknown_word : is_prompt (codes "always") ≡ false
prompt-not_of_an_unknown_word = refl

prompt-to_select_an_account : prompt_among (codes "select_account" ∷ []) ≡ record { none = false; others = true; login = true; consent = false }
prompt-to_select_an_account = refl

prompt-with_an_unknown_word : prompt_among (codes "none" ∷ codes "x" ∷ []) ≡ record { none = true; others = true; login = false; consent = false }
prompt-with_an_unknown_word = refl

-- ---- the kinds of claims

kind-of_a_number : kind_of (codes "updated_at") ≡ Some Seconds
unfolding flag_claims seconds_claims
kind-of_a_number = refl

kind-of_a_text : kind_of (codes "phone_number") ≡ Some TextKind
unfolding flag_claims seconds_claims is_claim_of profile_claims email_claims address_claims phone_claims
kind-of_a_text = refl

kind-of_no_claim : kind_of (codes "openid") ≡ None
unfolding flag_claims seconds_claims is_claim_of profile_claims email_claims address_claims phone_claims
kind-of_no_claim = refl

-- ---- response types

type-in_another_order : type_number (codes "token id_token") ≡ Some 2
unfolding spellings
type-in_another_order = refl

type-not_of_token_alone : type_number (codes "token") ≡ None
unfolding spellings
type-not_of_token_alone = refl

type-not_with_two_spaces : type_number (codes "code  token") ≡ None
unfolding spellings
type-not_with_two_spaces = refl

types-in_order : types_text (record { code = true; id_token = true; token = true }) ≡ codes "code id_token token"
types-in_order = refl

types-without_a_code : types_text (record { code = false; id_token = true; token = true }) ≡ codes "id_token token"
types-without_a_code = refl

types-none : types_text (record { code = false; id_token = false; token = false }) ≡ []
types-none = refl

types-all_six : response_types ≡ codes "code" ∷ codes "id_token" ∷ codes "id_token token" ∷ codes "code id_token" ∷ codes "code token" ∷ codes "code id_token token" ∷ []
types-all_six = refl

fragment-of_a_hybrid_type : is_in_fragment (types_of_number (Some 3)) ≡ true
fragment-of_a_hybrid_type = refl

fragment-not_of_code : is_in_fragment (types_of_number (Some 0)) ≡ false
fragment-not_of_code = refl

fragment-not_of_no_type : is_in_fragment (types_of_number None) ≡ false
fragment-not_of_no_type = refl

-- ---- error codes

text-of_a_code : error_text InvalidScope ≡ codes "invalid_scope"
unfolding error_text
text-of_a_code = refl

code-of_a_text : error_of (codes "login_required") ≡ LoginRequired
unfolding error_text error_of
code-of_a_text = refl

code-of_another_text : error_of (codes "Login_required") ≡ Other
unfolding error_text error_of
code-of_another_text = refl

code-of_the_empty_text : error_of [] ≡ Other
unfolding error_text error_of
code-of_the_empty_text = refl

says-a_code : SaysError (codes "login_required") LoginRequired
says-a_code = error_says (codes "login_required") LoginRequired code-of_a_text

says-not_another : SaysError (codes "login_required") Other → ⊥
says-not_another h = (let no : Other ≡ LoginRequired = sym (says_error (codes "login_required") Other h) ∙ code-of_a_text in cc)
