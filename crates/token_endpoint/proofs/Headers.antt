-- Headers of the scheme `Basic` are read literally.
use Rattle.std.proofs.Common.{◌≡◌, inr, ℕ, List, ◌∷◌, ◌++◌, Bool, true, false, cond, codes, Option, Some, None, option_map, option_and_then, refl, sym, ap, ◌∙◌, subst}
use Rattle.std.specs.Str.{str_to_ascii_lowercase}
use Rattle.std.proofs.lemmas.Slice.Eq.{bytes_eq-Decides}
use Rattle.base64.specs.GeneralPurpose.{IsBytes}
use Rattle.request_params.specs.Form.{text_of}
use Rattle.token_endpoint.specs.declared.basic.Credentials.{Credentials}
use Rattle.token_endpoint.specs.Base64.{b64, unb64}
use Rattle.request_params.specs.Scheme.{split_once, first_part, scheme_of, has_byte, IsScheme}
use Rattle.request_params.proofs.Splits.{split_join, split_joins}
use Rattle.request_params.proofs.Schemes.{scheme_parts, scheme_is, has_scheme, no_space_lower}
use Rattle.token_endpoint.specs.Basic.{is_basic_scheme, basic_header, decoded, divided, basic_read, IsBasic}
use Rattle.token_endpoint.proofs.Spelled.{unb64_some, unb64-b64}
use Rattle.token_endpoint.proofs.Lookups.{and_found, map_found}

-- ---- the scheme

basic_no_space : (s : List ℕ) → str_to_ascii_lowercase s ≡ codes "basic" → has_byte 32 s ≡ false
basic_no_space s h = no_space_lower s (ap (has_byte 32) h)

basic_is : (s : List ℕ) → is_basic_scheme s ≡ true → str_to_ascii_lowercase s ≡ codes "basic"
basic_is s h = (bytes_eq-Decides (str_to_ascii_lowercase s) (codes "basic")).0 h

is_basic_of : (s : List ℕ) → str_to_ascii_lowercase s ≡ codes "basic" → is_basic_scheme s ≡ true
is_basic_of s h = (bytes_eq-Decides (str_to_ascii_lowercase s) (codes "basic")).1 h

-- ---- the header of a scheme

abbrev if_basic : Bool → List ℕ → Option (List ℕ)
if_basic b h = cond b (Some h) None

header_by : (s h : List ℕ) (b : Bool) → IsScheme s h → is_basic_scheme s ≡ b → basic_header (Some h) ≡ if_basic b h
header_by s h b i is = ap (λ t. if_basic (is_basic_scheme t) h) (scheme_is s h i) ∙ ap (λ t. if_basic t h) is

pub basic_scheme : (s h : List ℕ) → IsScheme s h → is_basic_scheme s ≡ true → basic_header (Some h) ≡ Some h
basic_scheme s h i is = header_by s h true i is

pub other_scheme : (s h : List ℕ) → IsScheme s h → is_basic_scheme s ≡ false → basic_header (Some h) ≡ None
other_scheme s h i is = header_by s h false i is

header_at : (h g : List ℕ) (b : Bool) → if_basic b h ≡ Some g → (b ≡ true) × (h ≡ g)
header_at h g true e = (refl, cc)
header_at h g false e = absurd (cc)

-- a header of the scheme is the one that is there
pub header_there : (auth : Option (List ℕ)) (h : List ℕ) → basic_header auth ≡ Some h → (auth ≡ Some h) × (is_basic_scheme (scheme_of h) ≡ true)
header_there None h e = absurd (cc)
header_there (Some g) h e =
    let at = header_at g h (is_basic_scheme (scheme_of g)) e in
    (ap Some at.1, ap (λ t. is_basic_scheme (scheme_of t)) (sym at.1) ∙ at.0)

-- ---- what a header shows

abbrev read_from : Option (List ℕ × List ℕ) → Option Credentials
read_from o = option_and_then (λ (parts : List ℕ × List ℕ). option_and_then divided (unb64 parts.1)) o

same_shown : (id secret : List ℕ) (k : Credentials) → k.id ≡ text_of id → k.secret ≡ text_of secret → decoded (id, secret) ≡ k
same_shown id secret k a b = λ i. record { id = sym a i; secret = sym b i }

divided_of : (id secret : List ℕ) (k : Credentials) → has_byte 58 id ≡ false → k.id ≡ text_of id → k.secret ≡ text_of secret → divided (id ++ 58 ∷ secret) ≡ Some k
divided_of id secret k free a b = ap (option_map decoded) (split_join 58 id secret free) ∙ ap Some (same_shown id secret k a b)

basic_scheme_of : (h : List ℕ) (k : Credentials) → IsBasic h k → IsScheme (scheme_of h) h × (is_basic_scheme (scheme_of h) ≡ true)
basic_scheme_of h k b =
    let free = basic_no_space b.scheme b.name in
    let scheme : scheme_of h ≡ b.scheme = scheme_parts b.scheme h free (inr (b64 (b.id ++ 58 ∷ b.secret), b.text)) in
    (has_scheme h, ap is_basic_scheme scheme ∙ is_basic_of b.scheme b.name)

pub basic_is_found : (h : List ℕ) (k : Credentials) → IsBasic h k → basic_header (Some h) ≡ Some h
basic_is_found h k b = let s = basic_scheme_of h k b in basic_scheme (scheme_of h) h s.0 s.1

pub basic_is_read : (h : List ℕ) (k : Credentials) → IsBasic h k → basic_read h ≡ Some k
unfolding basic_read
basic_is_read h k b =
    let m = b.id ++ 58 ∷ b.secret in
    ap (λ t. read_from (split_once 32 t)) b.text
    ∙ ap read_from (split_join 32 b.scheme (b64 m) (basic_no_space b.scheme b.name))
    ∙ ap (option_and_then divided) (unb64-b64 m b.bytes)
    ∙ divided_of b.id b.secret k b.no_colon b.is_id b.is_secret

shown_at : (h : List ℕ) (k : Credentials) (q : List ℕ × List ℕ) → split_once 32 h ≡ Some q → is_basic_scheme q.0 ≡ true → (m : List ℕ) → unb64 q.1 ≡ Some m → (p : List ℕ × List ℕ) → split_once 58 m ≡ Some p → decoded p ≡ k → IsBasic h k
shown_at h k q at is m spelled p colon shows =
    let header = split_joins 32 h q at in
    let bytes = split_joins 58 m p colon in
    let text = unb64_some q.1 m spelled in
    record {
      scheme = q.0;
      id = p.0;
      secret = p.1;
      name = basic_is q.0 is;
      text = header.0 ∙ ap (λ t. q.0 ++ 32 ∷ t) (text.0 ∙ ap b64 bytes.0);
      bytes = subst IsBytes bytes.0 text.1;
      no_colon = bytes.1;
      is_id = ap (λ (x : Credentials). x.id) (sym shows);
      is_secret = ap (λ (x : Credentials). x.secret) (sym shows);
    }

pub read_is_basic : (h : List ℕ) (k : Credentials) → is_basic_scheme (scheme_of h) ≡ true → basic_read h ≡ Some k → IsBasic h k
unfolding basic_read
read_is_basic h k is e =
    let at = and_found (split_once 32 h) (λ (parts : List ℕ × List ℕ). option_and_then divided (unb64 parts.1)) k e in
    let spelled = and_found (unb64 at.0.1) divided k at.2 in
    let colon = map_found (split_once 58 spelled.0) decoded k spelled.2 in
    shown_at h k at.0 at.1 (ap (λ o. is_basic_scheme (first_part h o)) (sym at.1) ∙ is) spelled.0 spelled.1 colon.0 colon.1 colon.2
