-- What a registry keeps of a party and of its client.
use Rattle.std.proofs.Common.{◌≡◌, ◌≤◌, ◌<◌, ◌^◌, ℕ, zero, suc, Bool, true, false, List, [], ◌∷◌, length, nat_le, decimal, Option, Some, None, option_map, unwrap_or, slice_get, refl, sym, ap, ◌∙◌, subst, arith}
use Rattle.std.specs.Prelude.{IfSome}
use Rattle.std.specs.List.{AllByRecursion, list_all}
use Rattle.std.specs.Str.{IsUtf8}
use Rattle.std.proofs.lemmas.Bool.{leb-true}
use Rattle.std.proofs.lemmas.Fmt.{length-decimal-le, decimal_nonempty, IsAscii-decimal}
use Rattle.std.proofs.lemmas.Str.{IsUtf8-from_ascii}
use Rattle.url.proofs.OnLiterals.{url_on_literals}
use Rattle.registered_url.specs.declared.web_url.WebUrl.{WebUrl}
use Rattle.registered_url.specs.Rule.{parts_of, url_of}
use Rattle.registered_url.proofs.Keeping.{urls_keep}
use Rattle.configuration_rows.specs.declared.kind.Alphabet.TheVariants.{ClientId}
use Rattle.configuration_rows.specs.Kinds.{allows, is_within, is_name}
use Rattle.sso_base.specs.Words.{Text, Word, IsWord, word_text}
use Rattle.sso_base.proofs.Spelling.{both_true, length-b64u_32}
use Rattle.sso_base.proofs.WordUtf8.{IsUtf8-word_text}
use Rattle.client_registry.specs.declared.records.Client.{Client}
use Rattle.client_registry.specs.declared.records.Party.{Party}
use Rattle.oidc_words.specs.declared.response_types.Types.{Types}
use Rattle.client_registry.specs.Configuration.{Configuration}
use Rattle.client_registry.specs.Numbers.{no_party, no_client, party_row, party_client}
use Rattle.oidc_words.specs.Types.{types_of_number, types_text}
use Rattle.client_registry.specs.Registered.{is_prompt_or_none, is_age_or_none, IsClient, IsParty, FitsClient, IsRegistry}
use Rattle.claim_set.proofs.PlainTexts.{is_plain}
use Rattle.configuration_rows.proofs.PlainTexts.{visible_are_plain, client_id_is_plain}
use Rattle.login_request.proofs.KnownWords.{IsTextTo, prompt_text}

-- ---- rows

module _ {X : Type 0} (P : X → Type 0) where
  row_keeps : (xs : List X) (i : ℕ) (d : X) → AllByRecursion P xs → i < length xs → P (unwrap_or (slice_get xs i) d)
  row_keeps [] i d h l = absurd (omega (arith, l))
  row_keeps (x ∷ xs) zero d h l = h.0
  row_keeps (x ∷ xs) (suc i) d h l = row_keeps xs i d h.1 (omega (arith, l))

  found_keeps : (xs : List X) (i : ℕ) (d : X) → i < length xs → IfSome (slice_get xs i) P → P (unwrap_or (slice_get xs i) d)
  found_keeps [] i d l h = absurd (omega (arith, l))
  found_keeps (x ∷ xs) zero d l h = h
  found_keeps (x ∷ xs) (suc i) d l h = found_keeps xs i d (omega (arith, l)) h

-- a party of a registry and its client keep their rules, and fit
pub record KeepRules (party : Party) (client : Client) : Type 0 where
  pub party_rules : IsParty party
  pub client_rules : IsClient client
  pub fit : FitsClient party client

pub client_is_known : (c : Configuration) (n : ℕ) → IsRegistry c → n < length c.parties → (party_row c n).client < length c.clients
client_is_known c n r l = row_keeps (λ (p : Party). p.client < length c.clients) c.parties n no_party r.known l

pub rows_keep_rules : (c : Configuration) (n : ℕ) → IsRegistry c → n < length c.parties → KeepRules (party_row c n) (party_client c n)
rows_keep_rules c n r l =
    let known = client_is_known c n r l in
    record {
      party_rules = row_keeps IsParty c.parties n no_party r.party_rules l;
      client_rules = row_keeps IsClient c.clients (party_row c n).client no_client r.client_rules known;
      fit = found_keeps (FitsClient (party_row c n)) c.clients (party_row c n).client no_client known (row_keeps (λ (p : Party). IfSome (slice_get c.clients p.client) (FitsClient p)) c.parties n no_party r.fitting l);
    }

-- ---- the id of a client

not_empty : (t : Text) → 1 ≤ length t → ¬ (t ≡ [])
not_empty [] h is = absurd (omega (arith, h))
not_empty (b ∷ t) h is = (cc)

pub id_text : (t : Text) → is_name ClientId 1 64 t ≡ true → IsTextTo 64 t
id_text t h =
    let parts = both_true (is_within 1 64 (length t)) (list_all (allows ClientId) t) h in
    let bounds = both_true (nat_le 1 (length t)) (nat_le (length t) 64) parts.0 in
    record { plain = client_id_is_plain t parts.1; short = leb-true (length t) 64 bounds.1; filled = not_empty t (leb-true 1 (length t) bounds.0) }

-- ---- a redirection URI

no_url_there : url_of [] ≡ None
unfolding url_on_literals parts_of
no_url_there = refl

none_some : (u : WebUrl) → None ≡ Some u → ⊥
none_some u h = absurd (cc)

not_no_url : (t : Text) (u : WebUrl) → url_of t ≡ Some u → ¬ (t ≡ [])
not_no_url t u h is = none_some u (sym no_url_there ∙ (sym (ap url_of is) ∙ h))

pub url_text : (t : Text) (u : WebUrl) → url_of t ≡ Some u → IsTextTo 512 t
url_text t u h =
    let rule = (urls_keep t u h).1 in
    record { plain = visible_are_plain t rule.visible; short = rule.short; filled = not_no_url t u h }

-- ---- the words of a response type

short_words : (code id_token token : Bool) → (is_plain (types_text (record { code = code; id_token = id_token; token = token })) ≡ true) × (length (types_text (record { code = code; id_token = id_token; token = token })) ≤ 19)
short_words false false false = (refl, omega arith)
short_words false false true = (refl, omega arith)
short_words false true false = (refl, omega arith)
short_words false true true = (refl, omega arith)
short_words true false false = (refl, omega arith)
short_words true false true = (refl, omega arith)
short_words true true false = (refl, omega arith)
short_words true true true = (refl, omega arith)

pub types_are_short : (types : Types) → (is_plain (types_text types) ≡ true) × (length (types_text types) ≤ 19)
types_are_short types = short_words types.code types.id_token types.token

filled_words : (n : ℕ) → n < 6 → 1 ≤ length (types_text (types_of_number (Some n)))
filled_words zero l = omega arith
filled_words (suc zero) l = omega arith
filled_words (suc (suc zero)) l = omega arith
filled_words (suc (suc (suc zero))) l = omega arith
filled_words (suc (suc (suc (suc zero)))) l = omega arith
filled_words (suc (suc (suc (suc (suc zero))))) l = omega arith
filled_words (suc (suc (suc (suc (suc (suc n)))))) l = absurd (omega (arith, l))

there_is_below : {X : Type 0} (xs : List X) (i : ℕ) (x : X) → slice_get xs i ≡ Some x → i < length xs
there_is_below [] i x h = absurd (cc)
there_is_below (y ∷ ys) zero x h = omega arith
there_is_below (y ∷ ys) (suc i) x h = omega (arith, there_is_below ys i x h)

pub types_are_there : (p : Party) (k : Client) → KeepRules p k → ¬ (types_text p.types ≡ [])
types_are_there p k rules =
    let below = there_is_below k.types rules.fit.number true rules.fit.has_type in
    let some = filled_words rules.fit.number (omega (arith, below, rules.client_rules.types)) in
    not_empty (types_text p.types) (subst (λ types. 1 ≤ length (types_text types)) (sym rules.fit.types) some)

-- ---- `prompt` and `max_age`

pub prompt_is_text : (o : Option Text) → is_prompt_or_none o ≡ true → IfSome o (IsTextTo 33)
prompt_is_text None h = tt
prompt_is_text (Some t) h = prompt_text t h

-- a text in UTF-8 that is neither empty nor longer than this
pub record IsUtf8To (most : ℕ) (t : Text) : Type 0 where
  pub text : IsUtf8 t
  pub short : length t ≤ most
  pub filled : ¬ (t ≡ [])

age_text : (n : ℕ) → n ≤ 999999999 → IsUtf8To 9 (decimal n)
age_text n h =
    let small : n < 2 ^ 64 = omega (arith, h) in
    record {
      text = IsUtf8-from_ascii (decimal n) (IsAscii-decimal n small);
      short = length-decimal-le 9 n (omega arith) (omega (arith, h)) small;
      filled = not_empty (decimal n) (decimal_nonempty n small);
    }

pub age_is_text : (o : Option ℕ) → is_age_or_none o ≡ true → IfSome (option_map decimal o) (IsUtf8To 9)
age_is_text None h = tt
age_is_text (Some n) h = age_text n (leb-true n 999999999 (both_true (nat_le 0 n) (nat_le n 999999999) h).1)

-- ---- a word

pub word_is_text : (w : Word) → IsWord w → IsUtf8To 43 (word_text w)
word_is_text w h =
    let long = length-b64u_32 w h.long in
    record { text = IsUtf8-word_text w; short = omega (arith, long); filled = not_empty (word_text w) (omega (arith, long)) }
