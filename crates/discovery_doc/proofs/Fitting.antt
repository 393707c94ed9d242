-- The metadata of a printable provider fit, so that their text is read as them.
use Rattle.std.proofs.Common.{◌≡◌, ℕ, List, [], ◌∷◌, Bool, true, false, Option, Some, None, option_map, codes, refl, arith}
use Rattle.std.specs.Prelude.{IfSome}
use Rattle.std.specs.List.{list_all}
use Rattle.std.specs.Str.{IsUtf8}
use Rattle.json.proofs.Printed.Utf8.{IsUtf8-are_ascii}
use Rattle.serde_json.specs.Data.{string, boolean, no_members, items_depth}
use Rattle.sso_base.specs.Texts.{is_ascii}
use Rattle.claim_set.specs.Claims.{text_items}
use Rattle.claim_set.specs.Building.{Entry}
use Rattle.claim_set.specs.Fitting.{ItemsFit, EntriesFit, ClaimsFit}
use Rattle.claim_set.proofs.Fitting.{ClaimsFit-put_all, ClaimsFit-none, text_fits}
use Rattle.client_registry.specs.declared.records.Provider.{Provider}
use Rattle.client_registry.specs.Records.{endpoint}
use Rattle.oidc_words.specs.Modes.{response_modes}
use Rattle.discovery_doc.specs.Metadata.{texts, algorithms, subject_types, auth_methods, metadata_entries, metadata}
use Rattle.oidc_words.specs.Types.{response_types}
use Rattle.oidc_words.specs.Scopes.{scope_words}
use Rattle.discovery_doc.specs.Document.{IsUrl}
use Rattle.discovery_doc.specs.Printed.{IsPrintable}
use Rattle.discovery_doc.proofs.Utf8.{both, IsUtf8-url, IsUtf8-endpoint}

items_fit : (ts : List (List ℕ)) → list_all is_ascii ts ≡ true → ItemsFit (text_items ts)
items_fit [] h = tt
items_fit (t ∷ ts) h = let parts = both (is_ascii t) (list_all is_ascii ts) h in (IsUtf8-are_ascii t parts.0, items_fit ts parts.1)

items_are_flat : (ts : List (List ℕ)) → items_depth (text_items ts) ≡ 0
items_are_flat [] = refl
items_are_flat (t ∷ ts) = rw (items_are_flat ts) refl

-- ---- an entry before others that fit

record AllFit (es : List Entry) : Type 0 where
  all : EntriesFit es

text_entry : (k t : List ℕ) {es : List Entry} → is_ascii k ≡ true → IsUtf8 t → AllFit es → AllFit ((k, Some (string t)) ∷ es)
text_entry k t h u fit = record { all = (IsUtf8-are_ascii k h, (u, omega arith), fit.all) }

flag_entry : (k : List ℕ) (b : Bool) {es : List Entry} → is_ascii k ≡ true → AllFit es → AllFit ((k, Some (boolean b)) ∷ es)
flag_entry k b h fit = record { all = (IsUtf8-are_ascii k h, (tt, omega arith), fit.all) }

texts_entry : (k : List ℕ) (ts : List (List ℕ)) {es : List Entry} → is_ascii k ≡ true → list_all is_ascii ts ≡ true → AllFit es → AllFit ((k, Some (texts ts)) ∷ es)
texts_entry k ts h a fit = record { all = (IsUtf8-are_ascii k h, (items_fit ts a, rw (items_are_flat ts) (omega arith)), fit.all) }

if_text_entry : (k : List ℕ) (o : Option (List ℕ)) → is_ascii k ≡ true → IfSome o IsUtf8 → AllFit ((k, option_map string o) ∷ [])
if_text_entry k o h u = record { all = (IsUtf8-are_ascii k h, text_fits o u, tt) }

if_url : (o : Option (List ℕ)) → IfSome o IsUrl → IfSome o IsUtf8
if_url None h = tt
if_url (Some t) h = IsUtf8-url t h

entries_fit : (p : Provider) → IsPrintable p → AllFit (metadata_entries p)
entries_fit p h =
    text_entry (codes "authorization_endpoint") p.authorize refl (IsUtf8-url p.authorize h.authorize) (
    flag_entry (codes "backchannel_logout_session_supported") true refl (
    flag_entry (codes "backchannel_logout_supported") true refl (
    flag_entry (codes "claims_parameter_supported") true refl (
    texts_entry (codes "id_token_signing_alg_values_supported") algorithms refl refl (
    text_entry (codes "issuer") p.issuer refl h.issuer (
    text_entry (codes "jwks_uri") (endpoint p.issuer (codes "/jwks")) refl (IsUtf8-endpoint p.issuer (codes "/jwks") h.issuer (IsUtf8-are_ascii (codes "/jwks") refl)) (
    texts_entry (codes "request_object_signing_alg_values_supported") algorithms refl refl (
    flag_entry (codes "request_parameter_supported") true refl (
    flag_entry (codes "request_uri_parameter_supported") false refl (
    texts_entry (codes "response_modes_supported") response_modes refl refl (
    texts_entry (codes "response_types_supported") response_types refl refl (
    texts_entry (codes "scopes_supported") scope_words refl refl (
    texts_entry (codes "subject_types_supported") subject_types refl refl (
    text_entry (codes "token_endpoint") p.token refl (IsUtf8-url p.token h.token) (
    texts_entry (codes "token_endpoint_auth_methods_supported") auth_methods refl refl (
    if_text_entry (codes "userinfo_endpoint") p.userinfo refl (if_url p.userinfo h.userinfo)))))))))))))))))

pub ClaimsFit-metadata : (p : Provider) → IsPrintable p → ClaimsFit (metadata p)
unfolding metadata
ClaimsFit-metadata p h = ClaimsFit-put_all (metadata_entries p) no_members (entries_fit p h).all ClaimsFit-none
