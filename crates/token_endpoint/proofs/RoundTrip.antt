-- The token request that is written for a client of a registry is granted to this client.
use Rattle.std.proofs.Common.{◌≡◌, ◌⊎◌, inl, inr, ◌==◌, ℕ, zero, suc, List, [], ◌∷◌, ◌++◌, length, true, false, nat_lt, codes, Some, Ok, slice_get, refl, sym, ap, ◌∙◌, subst, arith, true≢false, append_assoc, cond}
use Rattle.std.specs.List.{list_all, AllByRecursion, All}
use Rattle.std.specs.Str.{IsUtf8, IsAscii}
use Rattle.std.specs.Str.Lossy.{utf8_lossy}
use Rattle.std.proofs.lemmas.Bool.Decides.{nat_tests}
use Rattle.std.proofs.lemmas.List.Elements.{All-head, All-tail}
use Rattle.std.proofs.lemmas.Str.{utf8_lossy-IsUtf8, IsAscii-append}
use Rattle.base64.specs.GeneralPurpose.{IsBytes}
use Rattle.form_urlencoded.specs.Form.{byte_serialize, IsUnchanged, serialize_pair, append_pair}
use Rattle.form_urlencoded.proofs.FormLemmas.{IsSerializedByte, All-byte_serialize, IsAscii-byte_serialize, decode-byte_serialize}
use Rattle.sso_base.specs.Lists.{Has}
use Rattle.sso_base.specs.Words.{Text}
use Rattle.sso_base.specs.Texts.{is_ascii}
use Rattle.configuration_rows.specs.declared.kind.Alphabet.{Alphabet}
use Rattle.configuration_rows.specs.declared.kind.Alphabet.TheVariants.{ClientId, Visible}
use Rattle.configuration_rows.specs.Kinds.{allows, is_within, is_name}
use Rattle.client_registry.specs.declared.records.Client.{Client}
use Rattle.client_registry.specs.Secrets.{sealing}
use Rattle.client_registry.proofs.SecretFacts.{sealing_named, seals_with_its_own}
use Rattle.client_registry.specs.Configuration.{Configuration}
use Rattle.client_registry.specs.Registered.{IsClient, IsRegistry}
use Rattle.request_params.specs.Form.{text_of, form_pairs, form_text}
use Rattle.request_params.specs.Reading.{StandOnce}
use Rattle.request_params.proofs.Values.{has_its_name}
use Rattle.request_params.proofs.Forms.{AreTextPairs, form_pairs-form_text}
use Rattle.request_params.proofs.OnLiterals.{request_params_on_literals}
use Rattle.sso_base.proofs.Utf8Bytes.{bytes-IsUtf8, IsUtf8-are_ascii}
use Rattle.token_endpoint.specs.Base64.{b64}
use Rattle.request_params.specs.Scheme.{has_byte}
use Rattle.token_endpoint.specs.Basic.{basic_auth, IsBasic}
use Rattle.token_endpoint.specs.Request.{grant_pairs, token_message, grant_read}
use Rattle.token_endpoint.specs.Authentication.{credentials}
use Rattle.token_endpoint.specs.Granted.{Authenticates, IsGrant}
use Rattle.token_endpoint.proofs.Joined.{both_true}
use Rattle.token_endpoint.proofs.Requests.{is_granted}

-- ---- the id and the secret of a client are ASCII

id_byte : (b : ℕ) → allows ClientId b ≡ true → nat_lt b 128 ≡ true
id_byte b h = grind (arith, nat_tests)

visible_byte : (b : ℕ) → allows Visible b ≡ true → nat_lt b 128 ≡ true
visible_byte b h = grind (arith, nat_tests)

all_ascii : (alphabet : Alphabet) → ((b : ℕ) → allows alphabet b ≡ true → nat_lt b 128 ≡ true) → (t : List ℕ) → list_all (allows alphabet) t ≡ true → is_ascii t ≡ true
all_ascii alphabet small [] h = refl
all_ascii alphabet small (b ∷ t) h =
    let parts = both_true (allows alphabet b) (list_all (allows alphabet) t) h in
    rw (small b parts.0) (all_ascii alphabet small t parts.1)

name_text : (alphabet : Alphabet) → ((b : ℕ) → allows alphabet b ≡ true → nat_lt b 128 ≡ true) → (least most : ℕ) (t : List ℕ) → is_name alphabet least most t ≡ true → IsUtf8 t
name_text alphabet small least most t h = IsUtf8-are_ascii t (all_ascii alphabet small t (both_true (is_within least most (length t)) (list_all (allows alphabet) t) h).1)

client_at : (P : Client → Type 0) (ks : List Client) (i : ℕ) (k : Client) → AllByRecursion P ks → slice_get ks i ≡ Some k → P k
client_at P [] i k all at = absurd (cc)
client_at P (x ∷ xs) zero k all at = let this : x ≡ k = cc in subst P this all.0
client_at P (x ∷ xs) (suc i) k all at = client_at P xs i k all.1 at

pub client_id_text : (k : Client) → IsClient k → IsUtf8 k.id
client_id_text k r = name_text ClientId id_byte 1 64 k.id r.id

pub client_sealing_text : (k : Client) → IsClient k → IsUtf8 (sealing k)
client_sealing_text k r = name_text Visible visible_byte 0 128 (sealing k) (sealing_named k r)

-- ---- texts as a form writes them

not_colon_at : (b : ℕ) → IsUnchanged b ⊎ ((b ≡ 43) ⊎ (b ≡ 37)) → (b == 58) ≡ false
not_colon_at b (inl kept) = grind (arith, nat_tests)
not_colon_at b (inr (inl plus)) = grind (arith, nat_tests)
not_colon_at b (inr (inr percent)) = grind (arith, nat_tests)

not_colon : (b : ℕ) → IsSerializedByte b → (b == 58) ≡ false
not_colon b s = not_colon_at b s.allowed

no_colon_in : (t : List ℕ) → All IsSerializedByte t → has_byte 58 t ≡ false
no_colon_in [] all = refl
no_colon_in (b ∷ t) all = rw (not_colon b (All-head IsSerializedByte b t all)) (no_colon_in t (All-tail IsSerializedByte b t all))

text_back : (t : List ℕ) → IsUtf8 t → t ≡ text_of (byte_serialize t)
text_back t h = sym (ap utf8_lossy (decode-byte_serialize t (bytes-IsUtf8 t h)) ∙ utf8_lossy-IsUtf8 t h)

colon_ascii : IsAscii (codes ":")
colon_ascii zero = omega arith
colon_ascii (suc i) = omega arith

ascii_bytes : (t : List ℕ) → IsAscii t → IsBytes t
ascii_bytes t h i = omega (arith, h i)

-- ---- the header

pub basic_is_auth : (k : Client) → IsUtf8 k.id → IsUtf8 (sealing k) → IsBasic (basic_auth k) (credentials k.id (sealing k))
unfolding basic_auth
basic_is_auth k id secret =
    let i : List ℕ = byte_serialize k.id in
    let s : List ℕ = byte_serialize (sealing k) in
    record {
      scheme = codes "Basic";
      id = i;
      secret = s;
      name = refl;
      text = ap (λ t. codes "Basic " ++ b64 t) (append_assoc i (codes ":") s);
      bytes = ascii_bytes (i ++ (codes ":" ++ s)) (IsAscii-append i (codes ":" ++ s) (IsAscii-byte_serialize k.id) (IsAscii-append (codes ":") s colon_ascii (IsAscii-byte_serialize (sealing k))));
      no_colon = no_colon_in i (All-byte_serialize k.id);
      is_id = text_back k.id id;
      is_secret = text_back (sealing k) secret;
    }

-- ---- the body

pub grant_pairs_read : (code redirect : Text) → IsUtf8 code → IsUtf8 redirect → form_pairs (form_text (grant_pairs code redirect)) ≡ grant_pairs code redirect
grant_pairs_read code redirect c r =
    let texts : AreTextPairs (grant_pairs code redirect) = (
      (IsUtf8-are_ascii (codes "grant_type") refl, IsUtf8-are_ascii (codes "authorization_code") refl),
      ((IsUtf8-are_ascii (codes "code") refl, c), ((IsUtf8-are_ascii (codes "redirect_uri") refl, r), tt)),
    ) in
    form_pairs-form_text (grant_pairs code redirect) texts

above_nothing : (n : ℕ) → nat_lt 0 (suc n) ≡ true
above_nothing n = grind (arith, nat_tests)

-- one more pair stands after `&`
pair_after : (x : ℕ) (t name value : List ℕ) → append_pair (x ∷ t) name value ≡ (x ∷ t) ++ (38 ∷ serialize_pair (name, value))
pair_after x t name value =
    ap (λ b. (x ∷ t) ++ cond b (38 ∷ []) [] ++ serialize_pair (name, value)) (above_nothing (length t))
    ∙ append_assoc (x ∷ t) (38 ∷ []) (serialize_pair (name, value))

pub body_written : (k : Client) (endpoint code redirect : Text) → (token_message k endpoint code redirect).body ≡ Some (codes "grant_type=authorization_code&code=" ++ (byte_serialize code ++ (codes "&redirect_uri=" ++ byte_serialize redirect)))
unfolding token_message request_params_on_literals
body_written k endpoint code redirect = ap Some (pair_after 103 (codes "rant_type=authorization_code&code=" ++ byte_serialize code) (codes "redirect_uri") redirect)

-- none of the parameters is the client's
no_client_secret : (code redirect value : Text) → Has (grant_pairs code redirect) (codes "client_secret", value) → ⊥
no_client_secret code redirect value has = true≢false (sym (has_its_name (grant_pairs code redirect) (codes "client_secret", value) has))

no_client_id : (code redirect value : Text) → Has (grant_pairs code redirect) (codes "client_id", value) → ⊥
no_client_id code redirect value has = true≢false (sym (has_its_name (grant_pairs code redirect) (codes "client_id", value) has))

-- ---- the request

authenticates : (c : Configuration) (n : ℕ) (k : Client) (code redirect : Text) → IsRegistry c → slice_get c.clients n ≡ Some k → Authenticates c (Some (basic_auth k)) (grant_pairs code redirect) n
authenticates c n k code redirect r at =
    let rules : IsClient k = client_at IsClient c.clients n k r.client_rules at in
    record {
      client = k;
      there = at;
      secret = sealing k;
      own = seals_with_its_own k;
      shows = inl (record {
        header = basic_auth k;
        there = refl;
        basic = basic_is_auth k (client_id_text k rules) (client_sealing_text k rules);
        no_secret = no_client_secret code redirect;
        no_other = λ id has. absurd (no_client_id code redirect id has);
      });
    }

is_grant : (c : Configuration) (n : ℕ) (k : Client) (code redirect : Text) → IsRegistry c → slice_get c.clients n ≡ Some k → IsUtf8 code → IsUtf8 redirect
    → IsGrant c (Some (basic_auth k)) (Some (form_text (grant_pairs code redirect))) (record { client = n; code = code; redirect = redirect })
is_grant c n k code redirect r at u v =
    let pairs = sym (grant_pairs_read code redirect u v) in
    record {
      form = form_text (grant_pairs code redirect);
      there = refl;
      once = subst StandOnce pairs (refl, (refl, (refl, tt)));
      client = subst (λ ps. Authenticates c (Some (basic_auth k)) ps n) pairs (authenticates c n k code redirect r at);
      grant_type = subst (λ ps. Has ps (codes "grant_type", codes "authorization_code")) pairs (inl refl);
      code = subst (λ ps. Has ps (codes "code", code)) pairs (inr (inl refl));
      redirect = subst (λ ps. Has ps (codes "redirect_uri", redirect)) pairs (inr (inr (inl refl)));
    }

pub printed_granted : (c : Configuration) (n : ℕ) (k : Client) (endpoint code redirect : Text) → IsRegistry c → slice_get c.clients n ≡ Some k → IsUtf8 code → IsUtf8 redirect
    → grant_read c (token_message k endpoint code redirect).auth (token_message k endpoint code redirect).body ≡ Ok (record { client = n; code = code; redirect = redirect })
unfolding token_message
printed_granted c n k endpoint code redirect r at u v =
    is_granted c (Some (basic_auth k)) (Some (form_text (grant_pairs code redirect))) (record { client = n; code = code; redirect = redirect }) r.client_ids (is_grant c n k code redirect r at u v)
