-- The parameters of a login, and those beside a request object, are printed whole, and can be sealed.
use Rattle.std.proofs.Common.{◌≡◌, ℕ, [], ◌∷◌, ◌++◌, codes, decimal, Option, Some, None, option_map, refl}
use Rattle.std.specs.Prelude.{IfSome}
use Rattle.std.specs.Str.{IsUtf8}
use Rattle.json.proofs.Printed.Utf8.{IsUtf8-are_ascii}
use Rattle.sso_base.specs.Base64Url.{b64u}
use Rattle.sso_base.specs.Words.{Text, Word, word_text}
use Rattle.claim_set.specs.Reading.{claims_text}
use Rattle.jws_compact.specs.Jws.{seal_text, header_bytes, signing_input}
use Rattle.jws_compact.specs.declared.sealing.Typ.{Typ}
use Rattle.jws_compact.proofs.Ascii.{sealed_ascii}
use Rattle.hmac256.specs.Hmac.{hmac_of}
use Rattle.client_registry.specs.declared.records.Client.{Client}
use Rattle.client_registry.specs.Secrets.{sealing}
use Rattle.client_registry.specs.Configuration.{Configuration}
use Rattle.client_registry.specs.Numbers.{party_row, party_client}
use Rattle.request_params.specs.declared.params.Params.{Params}
use Rattle.request_params.specs.declared.name.ParamName.{ParamName}
use Rattle.request_params.specs.declared.name.ParamName.TheVariants.{ResponseType, ClientId, RedirectUri, Scope, State, Nonce, ResponseMode, Prompt, MaxAge, Claims, Request, RequestUri, Registration}
use Rattle.request_params.specs.Names.{param_of, AreTexts}
use Rattle.request_params.specs.Printing.{IsPrinted}
use Rattle.request_object.specs.Request.{request_members, request_text}
use Rattle.request_object.specs.Sealing.{HasTexts, IsSealable}
use Rattle.request_object.proofs.Fitting.{fits-request_members}
use Rattle.login_request.specs.Parties.{MayAsk}
use Rattle.oidc_words.specs.Types.{types_text}
use Rattle.login_request.specs.Request.{login_params, outer_params}
use Rattle.claim_set.proofs.PlainTexts.{IsUtf8-plain}
use Rattle.login_request.proofs.KnownWords.{IsTextTo, scope_text}
use Rattle.login_request.proofs.PartyRows.{IsUtf8To, rows_keep_rules, id_text, url_text, types_are_short, types_are_there, prompt_is_text, age_is_text, word_is_text}
use Rattle.login_request.proofs.Sealable.{short_claims}

-- ---- sealed texts are not empty

dotted_filled : (s t : Text) → ¬ (s ++ 46 ∷ t ≡ [])
dotted_filled [] t h = (cc)
dotted_filled (b ∷ s) t h = (cc)

sealed_filled : (k p : Text) (typ : Typ) → ¬ (seal_text k typ p ≡ [])
unfolding seal_text
sealed_filled k p typ h = dotted_filled (signing_input (header_bytes typ) p) (b64u (hmac_of k (signing_input (header_bytes typ) p))) h

object_utf8 : (client : Client) (issuer : Text) (p : Params) → IsUtf8 (request_text client issuer p)
unfolding request_text
object_utf8 client issuer p = IsUtf8-are_ascii (request_text client issuer p) (sealed_ascii (sealing client) (claims_text (request_members client issuer p)) _)

object_filled : (client : Client) (issuer : Text) (p : Params) → ¬ (request_text client issuer p ≡ [])
unfolding request_text
object_filled client issuer p = sealed_filled (sealing client) (claims_text (request_members client issuer p)) _

-- ---- parameters that are there or not

some_filled : (t : Text) → ¬ (t ≡ []) → ¬ (Some t ≡ Some [])
some_filled t h is = h (cc)

prompt_utf8 : (o : Option Text) → IfSome o (IsTextTo 33) → IfSome o IsUtf8
prompt_utf8 None h = tt
prompt_utf8 (Some t) h = IsUtf8-plain t h.plain

prompt_filled : (o : Option Text) → IfSome o (IsTextTo 33) → ¬ (o ≡ Some [])
prompt_filled None h is = (cc)
prompt_filled (Some t) h is = some_filled t h.filled is

age_utf8 : (o : Option Text) → IfSome o (IsUtf8To 9) → IfSome o IsUtf8
age_utf8 None h = tt
age_utf8 (Some t) h = h.text

age_filled : (o : Option Text) → IfSome o (IsUtf8To 9) → ¬ (o ≡ Some [])
age_filled None h is = (cc)
age_filled (Some t) h is = some_filled t h.filled is

-- ---- the parameters

module _ (c : Configuration) (n : ℕ) (issuer : Text) (state nonce : Word) (m : MayAsk c n issuer state nonce) where
  id_is : IsTextTo 64 (party_client c n).id
  id_is = id_text (party_client c n).id (rows_keep_rules c n m.registry m.party).client_rules.id

  redirect_is : IsTextTo 512 (party_row c n).redirect
  redirect_is = url_text (party_row c n).redirect (party_row c n).redirect_url (rows_keep_rules c n m.registry m.party).party_rules.redirect

  scope_is : IsTextTo 34 (party_row c n).scope
  scope_is = scope_text (party_row c n).scope (rows_keep_rules c n m.registry m.party).party_rules.scope

  prompt_is : IfSome (party_row c n).prompt (IsTextTo 33)
  prompt_is = prompt_is_text (party_row c n).prompt (rows_keep_rules c n m.registry m.party).party_rules.prompt

  age_is : IfSome (option_map decimal (party_row c n).max_age) (IsUtf8To 9)
  age_is = age_is_text (party_row c n).max_age (rows_keep_rules c n m.registry m.party).party_rules.age

  types_utf8 : IsUtf8 (types_text (party_row c n).types)
  types_utf8 = IsUtf8-plain (types_text (party_row c n).types) (types_are_short (party_row c n).types).0

  types_filled : ¬ (types_text (party_row c n).types ≡ [])
  types_filled = types_are_there (party_row c n) (party_client c n) (rows_keep_rules c n m.registry m.party)

  login_texts : AreTexts (login_params (party_client c n) (party_row c n) state nonce)
  login_texts ResponseType = types_utf8
  login_texts ClientId = IsUtf8-plain (party_client c n).id id_is.plain
  login_texts RedirectUri = IsUtf8-plain (party_row c n).redirect redirect_is.plain
  login_texts Scope = IsUtf8-plain (party_row c n).scope scope_is.plain
  login_texts State = (word_is_text state m.state_word).text
  login_texts Nonce = (word_is_text nonce m.nonce_word).text
  login_texts ResponseMode = tt
  login_texts Prompt = prompt_utf8 (party_row c n).prompt prompt_is
  login_texts MaxAge = age_utf8 (option_map decimal (party_row c n).max_age) age_is
  login_texts Claims = tt
  login_texts Request = tt
  login_texts RequestUri = tt
  login_texts Registration = tt

  login_filled : (name : ParamName) → ¬ (param_of name (login_params (party_client c n) (party_row c n) state nonce) ≡ Some [])
  login_filled ResponseType h = some_filled (types_text (party_row c n).types) types_filled h
  login_filled ClientId h = some_filled (party_client c n).id id_is.filled h
  login_filled RedirectUri h = some_filled (party_row c n).redirect redirect_is.filled h
  login_filled Scope h = some_filled (party_row c n).scope scope_is.filled h
  login_filled State h = some_filled (word_text state) (word_is_text state m.state_word).filled h
  login_filled Nonce h = some_filled (word_text nonce) (word_is_text nonce m.nonce_word).filled h
  login_filled ResponseMode h = (cc)
  login_filled Prompt h = prompt_filled (party_row c n).prompt prompt_is h
  login_filled MaxAge h = age_filled (option_map decimal (party_row c n).max_age) age_is h
  login_filled Claims h = (cc)
  login_filled Request h = (cc)
  login_filled RequestUri h = (cc)
  login_filled Registration h = (cc)

  pub login_printed : IsPrinted (login_params (party_client c n) (party_row c n) state nonce)
  login_printed = record { texts = login_texts; filled = login_filled; no_response_mode = refl; no_claims = refl; no_request_uri = refl; no_registration = refl }

  -- ---- beside a request object

  module _ (object : Text) (utf8 : IsUtf8 object) (filled : ¬ (object ≡ [])) where
    outer_texts : AreTexts (outer_params (party_client c n) (party_row c n) object)
    outer_texts ResponseType = types_utf8
    outer_texts ClientId = IsUtf8-plain (party_client c n).id id_is.plain
    outer_texts RedirectUri = IsUtf8-plain (party_row c n).redirect redirect_is.plain
    outer_texts Scope = IsUtf8-are_ascii (codes "openid") refl
    outer_texts State = tt
    outer_texts Nonce = tt
    outer_texts ResponseMode = tt
    outer_texts Prompt = tt
    outer_texts MaxAge = tt
    outer_texts Claims = tt
    outer_texts Request = utf8
    outer_texts RequestUri = tt
    outer_texts Registration = tt

    outer_filled : (name : ParamName) → ¬ (param_of name (outer_params (party_client c n) (party_row c n) object) ≡ Some [])
    outer_filled ResponseType h = some_filled (types_text (party_row c n).types) types_filled h
    outer_filled ClientId h = some_filled (party_client c n).id id_is.filled h
    outer_filled RedirectUri h = some_filled (party_row c n).redirect redirect_is.filled h
    outer_filled Scope h = (let same : codes "openid" ≡ [] = cc in cc)
    outer_filled State h = (cc)
    outer_filled Nonce h = (cc)
    outer_filled ResponseMode h = (cc)
    outer_filled Prompt h = (cc)
    outer_filled MaxAge h = (cc)
    outer_filled Claims h = (cc)
    outer_filled Request h = some_filled object filled h
    outer_filled RequestUri h = (cc)
    outer_filled Registration h = (cc)

    outer_printed : IsPrinted (outer_params (party_client c n) (party_row c n) object)
    outer_printed = record { texts = outer_texts; filled = outer_filled; no_response_mode = refl; no_claims = refl; no_request_uri = refl; no_registration = refl }

  pub object_printed : (p : Params) → IsPrinted (outer_params (party_client c n) (party_row c n) (request_text (party_client c n) issuer p))
  object_printed p = outer_printed (request_text (party_client c n) issuer p) (object_utf8 (party_client c n) issuer p) (object_filled (party_client c n) issuer p)

  -- ---- in a request object

  login_has_texts : HasTexts (party_client c n) issuer (login_params (party_client c n) (party_row c n) state nonce)
  login_has_texts = record {
    id = IsUtf8-plain (party_client c n).id id_is.plain;
    issuer_text = m.issuer_text;
    response_type = login_texts ResponseType;
    client_id = login_texts ClientId;
    redirect_uri = login_texts RedirectUri;
    scope = login_texts Scope;
    state = login_texts State;
    nonce = login_texts Nonce;
    response_mode = tt;
    prompt = login_texts Prompt;
    max_age = login_texts MaxAge;
    claims = tt;
  }

  pub login_sealable : IsSealable (party_client c n) issuer (login_params (party_client c n) (party_row c n) state nonce)
  login_sealable = record {
    fits = fits-request_members (party_client c n) issuer (login_params (party_client c n) (party_row c n) state nonce) login_has_texts;
    short = short_claims c n issuer state nonce m;
    request = refl;
    request_uri = refl;
    registration = refl;
  }
