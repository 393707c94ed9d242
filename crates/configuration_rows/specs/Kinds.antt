-- The kinds of values at the keys of a configuration, and the rules of each.
use Rattle.std.specs.Prelude.{ℕ, Bool, true, false, not, ◌&&◌, ◌||◌, ◌==◌, List, [], ◌∷◌, length, nat_le, codes, Option, Some, None, is_some, if◌then◌else◌}
use Rattle.std.specs.List.{list_all}
use Rattle.toml.specs.Data.{Data, as_str, as_bool}
use Rattle.registered_url.specs.declared.web_url.WebUrl.{WebUrl}
use Rattle.registered_url.specs.Rule.{is_visible, url_of}
use Rattle.sso_base.specs.Texts.{has_text}
use Rattle.oidc_words.specs.Scopes.{is_scope}
use Rattle.oidc_words.specs.Prompts.{is_prompt}
use Rattle.oidc_words.specs.Types.{is_response_type}
use Rattle.configuration_rows.specs.declared.kind.Alphabet.{Alphabet}
use Rattle.configuration_rows.specs.declared.kind.Alphabet.TheVariants.{UserId, ClientId, PartyName, Visible}
use Rattle.configuration_rows.specs.declared.kind.Kind.{Kind}
use Rattle.configuration_rows.specs.declared.kind.Kind.TheVariants.{Text, Number, Flag, Issuer, Url, Urls, ResponseTypes, Claims}
use Rattle.configuration_rows.specs.declared.kind.TextRule.{TextRule}
use Rattle.configuration_rows.specs.declared.kind.TextRule.TheVariants.{Any, Name, Hex, ResponseType, Subject, Consent, Seals, History, Scope, Prompt}
use Rattle.configuration_rows.specs.declared.kind.TextRule.TheVariants.{Pages, Title, Cookies}
use Rattle.configuration_rows.specs.declared.kind.Breach.{Breach}
use Rattle.configuration_rows.specs.declared.kind.Breach.TheVariants.{WrongKind, BadUrl}
use Rattle.configuration_rows.specs.Values.{as_natural, hex_bytes, as_texts}
use Rattle.configuration_rows.specs.Claims.{claims_in}

-- ---- characters

abbrev pub is_lower : ℕ → Bool
is_lower b = nat_le 97 b && nat_le b 122

abbrev pub is_upper : ℕ → Bool
is_upper b = nat_le 65 b && nat_le b 90

abbrev pub is_digit : ℕ → Bool
is_digit b = nat_le 48 b && nat_le b 57

-- the characters of each kind of name
abbrev pub allows : Alphabet → ℕ → Bool
allows UserId b = is_lower b || is_digit b || b == 46 || b == 95 || b == 64 || b == 45
allows ClientId b = is_upper b || is_lower b || is_digit b || b == 46 || b == 95 || b == 126 || b == 45
allows PartyName b = is_lower b || is_digit b
allows Visible b = is_visible b

-- the length is within these bounds
abbrev pub is_within : ℕ → ℕ → ℕ → Bool
is_within least most n = nat_le least n && nat_le n most

abbrev pub is_name : Alphabet → ℕ → ℕ → List ℕ → Bool
is_name alphabet least most t = is_within least most (length t) && list_all (allows alphabet) t

-- ---- breaches

-- there is a value, and it passes the test
abbrev pub passes : {A : Type 0} → (A → Bool) → Option A → Bool
passes test None = false
passes test (Some a) = test a

abbrev pub unless : Bool → Breach → Option Breach
unless met why = if met then None else Some why

abbrev pub has_length : ℕ → ℕ → Option (List ℕ) → Bool
has_length least most bytes = passes (λ bs. is_within least most (length bs)) bytes

abbrev pub url_breach : Option (List ℕ) → Option Breach
url_breach None = Some WrongKind
url_breach (Some t) = unless (is_some (url_of t)) BadUrl

-- an issuer has at most 200 bytes and no query (OpenID Connect Discovery 1.0, 3)
abbrev pub issuer_breach : List ℕ → Option WebUrl → Option Breach
issuer_breach t None = Some BadUrl
issuer_breach t (Some u) = unless (nat_le (length t) 200 && not (is_some u.query)) WrongKind

abbrev pub issuer_text_breach : Option (List ℕ) → Option Breach
issuer_text_breach None = Some WrongKind
issuer_text_breach (Some t) = issuer_breach t (url_of t)

abbrev pub are_urls : List (List ℕ) → Bool
are_urls ts = list_all (λ t. is_some (url_of t)) ts

abbrev pub urls_breach : Option (List (List ℕ)) → Option Breach
urls_breach None = Some WrongKind
urls_breach (Some ts) = if is_within 1 16 (length ts) then unless (are_urls ts) BadUrl else Some WrongKind

-- the rules of texts
abbrev pub text_keeps : TextRule → List ℕ → Bool
text_keeps Any t = true
text_keeps (Name alphabet least most) t = is_name alphabet least most t
text_keeps (Hex least most) t = has_length least most (hex_bytes t)
text_keeps ResponseType t = is_response_type t
text_keeps Subject t = has_text t (codes "public" ∷ codes "pairwise" ∷ [])
text_keeps Consent t = has_text t (codes "ask" ∷ codes "given" ∷ [])
text_keeps Seals t = has_text t (codes "new" ∷ codes "old" ∷ [])
text_keeps History t = has_text t (codes "stored" ∷ codes "lasting" ∷ [])
text_keeps Pages t = has_text t (codes "plain" ∷ codes "full" ∷ [])
text_keeps Title t = is_within 1 80 (length t)
text_keeps Cookies t = has_text t (codes "plain" ∷ codes "host" ∷ [])
text_keeps Scope t = is_scope t
text_keeps Prompt t = is_prompt t

-- how a value violates the rule of its key, if it does
abbrev pub breach : Kind → Data → Option Breach
breach (Text rule) d = unless (passes (text_keeps rule) (as_str d)) WrongKind
breach (Number least most) d = unless (passes (is_within least most) (as_natural d)) WrongKind
breach Flag d = unless (is_some (as_bool d)) WrongKind
breach Issuer d = issuer_text_breach (as_str d)
breach Url d = url_breach (as_str d)
breach Urls d = urls_breach (as_texts d)
breach ResponseTypes d = unless (passes (list_all is_response_type) (as_texts d)) WrongKind
breach Claims d = unless (is_some (claims_in d)) WrongKind
