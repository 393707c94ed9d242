-- The location of a signed login ends with its request object, as it is.
use Rattle.std.proofs.Common.{◌≡◌, ◌<◌, ℕ, zero, suc, ◌+◌, ◌*◌, ◌/◌, ◌%◌, Bool, true, ◌&&◌, nat_lt, cond, List, [], ◌∷◌, ◌++◌, length, get_or, codes, refl, sym, ◌∙◌, ap, arith, append-nil, length-append}
use Rattle.std.specs.List.{list_all}
use Rattle.std.proofs.lemmas.List.{append_assoc}
use Rattle.std.proofs.lemmas.Bool.{ltb-true, lt-ltb}
use Rattle.base64.specs.Engines.{url_safe_no_pad}
use Rattle.base64.specs.Rfc4648.{encode_symbols}
use Rattle.form_urlencoded.specs.Form.{is_nonempty, is_unchanged, byte_serialize, serialize_pair, separator, append_pair}
use Rattle.form_urlencoded.proofs.FormLemmas.{byte_serialize-nil, byte_serialize-cons}
use Rattle.hmac256.specs.Hmac.{hmac_of}
use Rattle.hmac256.proofs.Facts.{all_bytes-hmac}
use Rattle.sso_base.specs.Base64Url.{b64u, all_bytes}
use Rattle.sso_base.specs.Words.{Text, Word}
use Rattle.sso_base.proofs.Spelling.{both_true, all_bytes-from_IsBytes}
use Rattle.jws_compact.specs.Jws.{Sealed, signing_input}
use Rattle.oidc_words.specs.Scopes.{openid_word}
use Rattle.oidc_words.specs.Types.{types_text}
use Rattle.client_registry.specs.declared.records.Client.{Client}
use Rattle.client_registry.specs.declared.records.Party.{Party}
use Rattle.client_registry.specs.declared.records.Provider.{Provider}
use Rattle.client_registry.specs.Configuration.{Configuration}
use Rattle.client_registry.specs.Numbers.{party_row, party_client}
use Rattle.request_params.specs.Form.{form_text}
use Rattle.request_params.specs.Location.{query_mark}
use Rattle.request_params.specs.Printing.{request_form}
use Rattle.request_object.proofs.Written.{request_text-Sealed}
use Rattle.login_request.specs.Parties.{MayAsk}
use Rattle.login_request.specs.Request.{login_params, outer_params, login_object, login_location}
use Rattle.login_request.proofs.Asked.{located, sent_signed}
use Rattle.login_request.proofs.Printed.{login_sealable}

-- ---- base64url has no byte that a form escapes

abbrev are_kept : Text → Bool
are_kept t = list_all is_unchanged t

at_below : (p : ℕ → Bool) (xs : List ℕ) (i : ℕ) → i < length xs → list_all p xs ≡ true → p (get_or xs i 0) ≡ true
at_below p [] i low all = absurd (omega (arith, low))
at_below p (x ∷ xs) zero low all = (both_true (p x) (list_all p xs) all).0
at_below p (x ∷ xs) (suc i) low all = at_below p xs i (omega (arith, low)) (both_true (p x) (list_all p xs) all).1

symbol : (i : ℕ) → i < 64 → is_unchanged (get_or url_safe_no_pad.encode_table i 0) ≡ true
symbol i low = at_below is_unchanged url_safe_no_pad.encode_table i low refl

first_six : (a : ℕ) → a < 256 → a / 4 < 64
first_six a low = omega (arith, low)

last_two : (a : ℕ) → a % 4 * 16 < 64
last_two a = omega arith

next_four : (a b : ℕ) → b < 256 → a % 4 * 16 + b / 16 < 64
next_four a b low = omega (arith, low)

last_four : (b : ℕ) → b % 16 * 4 < 64
last_four b = omega arith

next_two : (b c : ℕ) → c < 256 → b % 16 * 4 + c / 64 < 64
next_two b c low = omega (arith, low)

last_six : (c : ℕ) → c % 64 < 64
last_six c = omega arith

is_byte : (a : ℕ) (rest : Bool) → (nat_lt a 256 && rest) ≡ true → a < 256
is_byte a rest h = ltb-true a 256 (both_true (nat_lt a 256) rest h).0

symbols : (m : Text) → all_bytes m ≡ true → are_kept (encode_symbols url_safe_no_pad.encode_table m) ≡ true
unfolding encode_symbols
symbols [] h = refl
symbols (a ∷ []) h = rw (symbol (a / 4) (first_six a (is_byte a (all_bytes []) h)), symbol (a % 4 * 16) (last_two a)) refl
symbols (a ∷ b ∷ []) h =
    let rest = (both_true (nat_lt a 256) (all_bytes (b ∷ [])) h).1 in
    rw (symbol (a / 4) (first_six a (is_byte a (all_bytes (b ∷ [])) h)), symbol (a % 4 * 16 + b / 16) (next_four a b (is_byte b (all_bytes []) rest)), symbol (b % 16 * 4) (last_four b)) refl
symbols (a ∷ b ∷ c ∷ m) h =
    let one = (both_true (nat_lt a 256) (all_bytes (b ∷ c ∷ m)) h).1 in
    let two = (both_true (nat_lt b 256) (all_bytes (c ∷ m)) one).1 in
    let three = (both_true (nat_lt c 256) (all_bytes m) two).1 in
    rw (
      symbol (a / 4) (first_six a (is_byte a (all_bytes (b ∷ c ∷ m)) h)),
      symbol (a % 4 * 16 + b / 16) (next_four a b (is_byte b (all_bytes (c ∷ m)) one)),
      symbol (b % 16 * 4 + c / 64) (next_two b c (is_byte c (all_bytes m) two)),
      symbol (c % 64) (last_six c),
      symbols m three,
    ) refl

spelled_kept : (m : Text) → all_bytes m ≡ true → are_kept (b64u m) ≡ true
unfolding b64u
spelled_kept m h = rw append-nil (symbols m h)

dotted_kept : (s t : Text) → are_kept s ≡ true → are_kept t ≡ true → are_kept (s ++ 46 ∷ t) ≡ true
dotted_kept [] t f g = g
dotted_kept (b ∷ s) t f g = let parts = both_true (is_unchanged b) (are_kept s) f in rw (parts.0, dotted_kept s t parts.1 g) refl

sealed_kept : (k h p t : Text) → Sealed k h p t → are_kept t ≡ true
sealed_kept k h p t s =
    let K : Text → Bool = λ x. are_kept x in
    let input = signing_input h p in
    ap K s.text
    ∙ dotted_kept input (b64u (hmac_of k input)) (dotted_kept (b64u h) (b64u p) (spelled_kept h (all_bytes-from_IsBytes h s.header_bytes)) (spelled_kept p (all_bytes-from_IsBytes p s.payload_bytes)))
    (spelled_kept (hmac_of k input) (all_bytes-hmac k input))

kept_form : (t : Text) → are_kept t ≡ true → byte_serialize t ≡ t
kept_form [] h = byte_serialize-nil
kept_form (b ∷ t) h =
    let parts = both_true (is_unchanged b) (are_kept t) h in
    byte_serialize-cons b t ∙ rw (parts.0, kept_form t parts.1) refl

-- ---- the last pair of a form

pair_filled : (form name value : Text) → is_nonempty (append_pair form name value) ≡ true
pair_filled form name value =
    let n : Text = byte_serialize name in
    let v : Text = byte_serialize value in
    let pair : Text = n ++ (61 ∷ []) ++ v in
    let whole : length (form ++ separator form ++ pair) ≡ length (form ++ separator form) + length pair = length-append (form ++ separator form) pair in
    let last : length pair ≡ length (n ++ (61 ∷ [])) + length v = length-append (n ++ (61 ∷ [])) v in
    let name_end : length (n ++ (61 ∷ [])) ≡ length n + 1 = length-append n (61 ∷ []) in
    lt-ltb 0 (length (form ++ separator form ++ pair)) (omega (arith, whole, last, name_end))

last_pair : (form value : Text) → is_nonempty form ≡ true → are_kept value ≡ true → append_pair form (codes "request") value ≡ form ++ codes "&request=" ++ value
last_pair form value filled kept =
    let S : Bool → Text = λ b. form ++ cond b (38 ∷ []) [] ++ serialize_pair (codes "request", value) in
    let N : Text → Text = λ t. form ++ (38 ∷ []) ++ (t ++ (61 ∷ []) ++ byte_serialize value) in
    let V : Text → Text = λ t. form ++ (38 ∷ []) ++ (codes "request" ++ (61 ∷ []) ++ t) in
    ap S filled ∙ ap N (kept_form (codes "request") refl) ∙ ap V (kept_form value kept)
    ∙ append_assoc form (38 ∷ []) (codes "request" ++ (61 ∷ []) ++ value) ∙ sym (append_assoc form (codes "&request=") value)

-- what stands before a request object
abbrev front_form : Client → Party → Text
front_form client party =
    append_pair (append_pair (append_pair (append_pair [] (codes "response_type") (types_text party.types)) (codes "client_id") client.id) (codes "redirect_uri") party.redirect) (codes "scope") openid_word

object_last : (client : Client) (party : Party) (object : Text) → are_kept object ≡ true → request_form (outer_params client party object) ≡ front_form client party ++ codes "&request=" ++ object
unfolding form_text
object_last client party object kept =
    last_pair (front_form client party) object
    (pair_filled (append_pair (append_pair (append_pair [] (codes "response_type") (types_text party.types)) (codes "client_id") client.id) (codes "redirect_uri") party.redirect) (codes "scope") openid_word) kept

moved : (begin front object : Text) → (begin ++ (front ++ codes "&request=")) ++ object ≡ (begin ++ front ++ codes "&request=") ++ object
moved begin front object = ap (λ (t : Text). t ++ object) (sym (append_assoc begin front (codes "&request=")))

pub signed_ends : (c : Configuration) (n : ℕ) (provider : Provider) (state nonce : Word) → MayAsk c n provider.issuer state nonce → (party_row c n).signed ≡ true
    → (front : Text) × (login_location (party_client c n) (party_row c n) provider state nonce ≡ front ++ codes "&request=" ++ login_object (party_client c n) (party_row c n) provider.issuer state nonce)
signed_ends c n provider state nonce m signed =
    let client = party_client c n in
    let party = party_row c n in
    let object : Text = login_object client party provider.issuer state nonce in
    let sealed = request_text-Sealed client provider.issuer (login_params client party state nonce) (login_sealable c n provider.issuer state nonce m) in
    let kept : are_kept object ≡ true = sealed_kept _ _ _ object sealed in
    let begin : Text = provider.authorize ++ query_mark provider.authorize in
    let F : Text → Text = λ t. begin ++ t in (
      begin ++ (front_form client party),
      located client party provider state nonce ∙ ap F (ap request_form (sent_signed client party provider state nonce signed) ∙ object_last client party object kept)
          ∙ sym (append_assoc begin (front_form client party ++ codes "&request=") object) ∙ moved begin (front_form client party) object,
    )
