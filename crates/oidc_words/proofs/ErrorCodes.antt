-- An error code is read from its text, and any other text is that of another code.
use Rattle.std.proofs.Common.{◌≡◌, inl, inr, List, [], ◌∷◌, Bool, true, false, cond, Option, Some, None, unwrap_or, refl, sym, ◌∙◌, ap}
use Rattle.std.specs.List.{find}
use Rattle.std.specs.Str.{bytes_eq}
use Rattle.std.proofs.lemmas.Slice.Eq.{bytes_eq-Decides}
use Rattle.sso_base.specs.Words.{Text}
use Rattle.oidc_words.specs.declared.errors.AuthError.{AuthError}
use Rattle.oidc_words.specs.declared.errors.AuthError.TheVariants.{InvalidRequest, UnauthorizedClient, AccessDenied, UnsupportedResponseType, InvalidScope, ServerError, TemporarilyUnavailable, InteractionRequired, LoginRequired, AccountSelectionRequired, ConsentRequired, InvalidRequestUri, InvalidRequestObject, RequestNotSupported, RequestUriNotSupported, RegistrationNotSupported, Other}
use Rattle.oidc_words.specs.Errors.{error_codes, error_text, error_of, SaysError}

same_text : (s t : Text) → bytes_eq s t ≡ true → s ≡ t
same_text s t h = (bytes_eq-Decides s t).0 h

text_same : (s t : Text) → s ≡ t → bytes_eq s t ≡ true
text_same s t h = (bytes_eq-Decides s t).1 h

found_at : {X : Type 0} (test : X → Bool) (x y : X) (o : Option X) (b : Bool) → test x ≡ b → cond b (Some x) o ≡ Some y → (o ≡ Some y → test y ≡ true) → test y ≡ true
found_at test x y o true is h later = let same : x ≡ y = cc in ap test (sym same) ∙ is
found_at test x y o false is h later = later h

found_passes : {X : Type 0} (test : X → Bool) (xs : List X) (y : X) → find test xs ≡ Some y → test y ≡ true
found_passes test [] y h = absurd (cc)
found_passes test (x ∷ xs) y h = found_at test x y (find test xs) (test x) refl h (found_passes test xs y)

pub error_of-error_text : (code : AuthError) → error_of (error_text code) ≡ code
unfolding error_text error_of
error_of-error_text InvalidRequest = refl
error_of-error_text UnauthorizedClient = refl
error_of-error_text AccessDenied = refl
error_of-error_text UnsupportedResponseType = refl
error_of-error_text InvalidScope = refl
error_of-error_text ServerError = refl
error_of-error_text TemporarilyUnavailable = refl
error_of-error_text InteractionRequired = refl
error_of-error_text LoginRequired = refl
error_of-error_text AccountSelectionRequired = refl
error_of-error_text ConsentRequired = refl
error_of-error_text InvalidRequestUri = refl
error_of-error_text InvalidRequestObject = refl
error_of-error_text RequestNotSupported = refl
error_of-error_text RequestUriNotSupported = refl
error_of-error_text RegistrationNotSupported = refl
error_of-error_text Other = refl

-- ---- what a text says

abbrev is_text_of : Text → AuthError → Bool
is_text_of t code = bytes_eq (error_text code) t

found_code : (t : Text) (o : Option AuthError) → find (is_text_of t) error_codes ≡ o → error_of t ≡ unwrap_or o Other
unfolding error_of
found_code t o is = ap (λ x. unwrap_or x Other) is

is_code : (t : Text) (code : AuthError) → error_text code ≡ t → error_of t ≡ code
is_code t code is = ap error_of (sym is) ∙ error_of-error_text code

-- a text that none of the codes has, or that of another code
says_other : (t : Text) (code : AuthError) → code ≡ Other → error_of t ≡ Other → (b : Bool) → bytes_eq (error_text Other) t ≡ b → SaysError t code
says_other t code other is true same = inl (ap error_text other ∙ same_text (error_text Other) t same)
says_other t code other is false apart =
    inr (
      other,
      λ any text.
          let here : any ≡ Other = sym (is_code t any text) ∙ is in
          let same : bytes_eq (error_text Other) t ≡ true = text_same (error_text Other) t (ap error_text (sym here) ∙ text) in
          cc,
    )

says_at : (t : Text) (code : AuthError) → error_of t ≡ code → (o : Option AuthError) → find (is_text_of t) error_codes ≡ o → SaysError t code
says_at t code h (Some c) is =
    inl (ap error_text (sym h ∙ found_code t (Some c) is) ∙ same_text (error_text c) t (found_passes (is_text_of t) error_codes c is))
says_at t code h None is =
    let other = found_code t None is in
    says_other t code (sym h ∙ other) other (bytes_eq (error_text Other) t) refl

pub error_says : (t : Text) (code : AuthError) → error_of t ≡ code → SaysError t code
error_says t code h = says_at t code h (find (is_text_of t) error_codes) refl

passed : (t : Text) (code : AuthError) (rest : Option AuthError) → ¬ (error_text code ≡ t) → rest ≡ None → (b : Bool) → is_text_of t code ≡ b → cond b (Some code) rest ≡ None
passed t code rest apart none true is = absurd (apart (same_text (error_text code) t is))
passed t code rest apart none false is = none

not_found : (t : Text) → ((code : AuthError) → ¬ (error_text code ≡ t)) → (cs : List AuthError) → find (is_text_of t) cs ≡ None
not_found t apart [] = refl
not_found t apart (code ∷ cs) = passed t code (find (is_text_of t) cs) (apart code) (not_found t apart cs) (is_text_of t code) refl

pub says_error : (t : Text) (code : AuthError) → SaysError t code → error_of t ≡ code
says_error t code (inl is) = is_code t code is
says_error t code (inr none) = found_code t None (not_found t none.1 error_codes) ∙ sym none.0
