-- What is issued can be sealed: the claims of an ID Token are values of their types, none of the user's claims has the name of
-- another, and their text is short enough.
use Rattle.std.proofs.Common.{◌≡◌, ◌≤◌, ◌<◌, ◌+◌, ◌/◌, ◌*◌, ◌^◌, ℕ, zero, suc, true, List, [], ◌∷◌, length, take, codes, Option, Some, None, option_map, Ok, refl, sym, subst, arith}
use Rattle.std.specs.Prelude.{IfSome, IsTrue}
use Rattle.std.specs.Str.{IsUtf8}
use Rattle.std.proofs.lemmas.Bool.{leb-true}
use Rattle.std.proofs.lemmas.List.{length-take-le}
use Rattle.json.specs.Print.{escape_byte, quoted}
use Rattle.serde_json.specs.Data.{string}
use Rattle.sha2.specs.Sha256.{sha256}
use Rattle.sha2.proofs.Facts256.{length-sha256}
use Rattle.base64.specs.GeneralPurpose.{IsBytes}
use Rattle.sso_base.specs.Words.{Word, Text, IsWord, word_text}
use Rattle.sso_base.specs.Base64Url.{all_bytes}
use Rattle.sso_base.proofs.Spelling.{both_true, IsBytes-from_all_bytes, length-b64u, length-b64u_32}
use Rattle.sso_base.proofs.WordUtf8.{IsUtf8-word_text}
use Rattle.hmac256.proofs.Facts.{all_bytes-sha256}
use Rattle.claim_set.specs.Building.{HasNone}
use Rattle.claim_set.specs.Reading.{claims_text}
use Rattle.client_registry.specs.Configuration.{Configuration, subject_at}
use Rattle.client_registry.specs.Numbers.{client_id, client_sealing}
use Rattle.oidc_words.specs.declared.scopes.Scopes.{Scopes}
use Rattle.oidc_words.specs.Claims.{is_claim_of, profile_claims, email_claims, address_claims, phone_claims}
use Rattle.auth_request.specs.declared.wish.Wish.{Wish}
use Rattle.userinfo.specs.Held.{held_members}
use Rattle.userinfo.proofs.Told.{unknown_is_absent, held_fit, held_length}
use Rattle.id_token.specs.declared.claims.IdClaims.{IdClaims}
use Rattle.id_token.specs.Claims.{id_names, id_entries, id_members, is_subject}
use Rattle.id_token.specs.HalfHash.{half_hash_of}
use Rattle.id_token.specs.Reading.{id_read}
use Rattle.id_token.specs.Sealing.{HasTexts, IsSealable}
use Rattle.id_token.proofs.Fitting.{fits-id_members}
use Rattle.id_token.proofs.Written.{id_read-id_text}
use Rattle.op_issue.specs.declared.issuing.Authentication.{Authentication}
use Rattle.auth_request.specs.Values.{is_short_nonce}
use Rattle.op_issue.specs.IdTokens.{hash_of, id_scopes, id_claims, issued_id}
use Rattle.op_issue.specs.Issuing.{MayIssue}
use Rattle.auth_request.specs.Values.{IsWishValue}
use Rattle.claim_set.proofs.PlainTexts.{IsUtf8-plain}
use Rattle.op_issue.proofs.SpelledTexts.{b64u_is_plain}
use Rattle.claim_set.proofs.Costs.{cost, cost_all, length-put_all, plain_cost, any_cost, number_cost}
use Rattle.op_issue.proofs.RegistryRows.{IsPlainTo, issuer_is_plain, client_id_is_short, subject_is_one, subject_is_short}

-- ---- half digests, and the texts of words

taken : (n : ℕ) (b : List ℕ) → all_bytes b ≡ true → all_bytes (take n b) ≡ true
taken zero b h = refl
taken (suc n) [] h = refl
taken (suc n) (x ∷ b) h = let parts = both_true _ (all_bytes b) h in rw (parts.0, taken n b parts.1)

hash_bytes : (t : Text) → IsBytes (take 16 (sha256 t))
hash_bytes t = IsBytes-from_all_bytes (take 16 (sha256 t)) (taken 16 (sha256 t) (all_bytes-sha256 t))

spelled_16 : (n m : ℕ) → n ≡ 16 → m ≡ (4 * n + 2) / 3 → m ≤ 22
spelled_16 n m h g = omega (arith, h, g)

hash_is_short : (t : Text) → IsPlainTo 22 (half_hash_of t)
hash_is_short t =
    let all = length-sha256 t in
    let half : length (take 16 (sha256 t)) ≡ 16 = length-take-le 16 (sha256 t) (omega (arith, all)) in
    record { plain = b64u_is_plain (take 16 (sha256 t)) (hash_bytes t); short = spelled_16 _ _ half (length-b64u (take 16 (sha256 t))) }

at_most : (n m : ℕ) → n ≡ m → n ≤ m
at_most n m h = omega (arith, h)

word_is_short : (w : Word) → IsWord w → IsPlainTo 43 (word_text w)
word_is_short w h = record { plain = b64u_is_plain w h.bytes; short = at_most _ 43 (length-b64u_32 w h.long) }

hash_text : (o : Option Word) → IfSome (hash_of o) IsUtf8
hash_text None = tt
hash_text (Some w) = IsUtf8-plain (half_hash_of (word_text w)) (hash_is_short (word_text w)).plain

-- ---- moments

before : (n : ℕ) → n ≤ 1099511000000 → n < 2 ^ 40
before n h = omega (arith, h)

pub before_end : (n : ℕ) → n ≤ 1099511000000 → n + 300 < 2 ^ 40
before_end n h = omega (arith, h)

-- ---- the user's claims have other names

pub others_are_apart : (c : Configuration) (user : ℕ) (scopes : Scopes) (asked : List Text) → HasNone id_names (held_members c user scopes asked)
unfolding is_claim_of profile_claims email_claims address_claims phone_claims
others_are_apart c user scopes asked = (
  unknown_is_absent c user scopes asked (codes "at_hash") refl,
  (
    unknown_is_absent c user scopes asked (codes "aud") refl,
    (
      unknown_is_absent c user scopes asked (codes "auth_time") refl,
      (
        unknown_is_absent c user scopes asked (codes "azp") refl,
        (
          unknown_is_absent c user scopes asked (codes "c_hash") refl,
          (
            unknown_is_absent c user scopes asked (codes "exp") refl,
            (
              unknown_is_absent c user scopes asked (codes "iat") refl,
              (
                unknown_is_absent c user scopes asked (codes "iss") refl,
                (
                  unknown_is_absent c user scopes asked (codes "nonce") refl,
                  (unknown_is_absent c user scopes asked (codes "sid") refl, (unknown_is_absent c user scopes asked (codes "sub") refl, tt)),
                ),
              ),
            ),
          ),
        ),
      ),
    ),
  ),
)

-- ---- how long the names and the values are

record AreNamed : Type 0 where
  at_hash : length (quoted (codes "at_hash")) ≡ 9
  aud : length (quoted (codes "aud")) ≡ 5
  auth_time : length (quoted (codes "auth_time")) ≡ 11
  c_hash : length (quoted (codes "c_hash")) ≡ 8
  exp : length (quoted (codes "exp")) ≡ 5
  iat : length (quoted (codes "iat")) ≡ 5
  iss : length (quoted (codes "iss")) ≡ 5
  nonce : length (quoted (codes "nonce")) ≡ 7
  sid : length (quoted (codes "sid")) ≡ 5
  sub : length (quoted (codes "sub")) ≡ 5

named : AreNamed
unfolding escape_byte
named = record { at_hash = refl; aud = refl; auth_time = refl; c_hash = refl; exp = refl; iat = refl; iss = refl; nonce = refl; sid = refl; sub = refl }

from_nothing : (q m : ℕ) → 0 ≤ q + m
from_nothing q m = omega arith

hash_cost : (k : List ℕ) (o : Option Word) (q : ℕ) → length (quoted k) ≡ q → cost k (option_map string (hash_of o)) ≤ q + 48
hash_cost k None q f = from_nothing q 48
hash_cost k (Some w) q f =
    let h = hash_is_short (word_text w) in
    plain_cost k (half_hash_of (word_text w)) 22 q f h.plain h.short

nonce_cost : (k : List ℕ) (o : Option Text) (q : ℕ) → length (quoted k) ≡ q → is_short_nonce o ≡ true → cost k (option_map string o) ≤ q + 1534
nonce_cost k None q f h = from_nothing q 1534
nonce_cost k (Some t) q f h = any_cost k t 255 q f (leb-true (length t) 255 h)

sum_of_all : (a b c d e f g h i j : ℕ) → a ≤ 57 → b ≤ 137 → c ≤ 26 → d ≤ 56 → e ≤ 20 → f ≤ 20 → g ≤ 409 → h ≤ 1541 → i ≤ 95 → j ≤ 1539
    → a + (b + (c + (0 + (d + (e + (f + (g + (h + (i + (j + 0)))))))))) ≤ 3900
sum_of_all a b c d e f g h i j p q r s t u v w x y = omega (arith, p, q, r, s, t, u, v, w, x, y)

whole : (a b n : ℕ) → n ≤ a + b → a ≤ 2048 → b ≤ 3900 → n ≤ 6000
whole a b n h f g = omega (arith, h, f, g)

-- what sealing asks of claims
pub record CanBeSealed (x : IdClaims) : Type 0 where
  pub others : HasNone id_names x.more
  pub subject : IsTrue (is_subject x.sub)
  pub exp : x.exp < 2 ^ 40
  pub iat : x.iat < 2 ^ 40
  pub auth_time : IfSome x.auth_time (λ n. n < 2 ^ 40)
  pub short : length (claims_text (id_members x)) ≤ 6000

module _ (c : Configuration) (wish : Wish) (who : Authentication) (at : ℕ) (access code : Option Word) (m : MayIssue c wish who at) where
  pub subject : IsTrue (is_subject (subject_at c wish.client who.user))
  subject = subject_is_one c wish.client who.user m.registry m.client m.user

  short_entries : cost_all (id_entries (id_claims c wish who at access code)) ≤ 3900
  unfolding id_claims
  short_entries =
      let id = client_id_is_short c wish.client m.registry in
      let issuer = issuer_is_plain c m.registry in
      let sid = word_is_short who.sid m.sid in
      sum_of_all _ _ _ _ _ _ _ _ _ _
      (hash_cost (codes "at_hash") access 9 named.at_hash)
      (plain_cost (codes "aud") (client_id c wish.client) 64 5 named.aud id.plain id.short)
      (number_cost (codes "auth_time") who.auth_time 11 named.auth_time (before who.auth_time m.auth_time))
      (hash_cost (codes "c_hash") code 8 named.c_hash)
      (number_cost (codes "exp") (at + 300) 5 named.exp (before_end at m.moment))
      (number_cost (codes "iat") at 5 named.iat (before at m.moment))
      (plain_cost (codes "iss") c.provider.issuer 200 5 named.iss issuer.plain issuer.short)
      (nonce_cost (codes "nonce") wish.nonce 7 named.nonce m.nonce)
      (plain_cost (codes "sid") (word_text who.sid) 43 5 named.sid sid.plain sid.short)
      (any_cost (codes "sub") (subject_at c wish.client who.user) 255 5 named.sub (subject_is_short c wish.client who.user m.registry m.client m.user))

  short_members : (x : IdClaims) → length (claims_text x.more) ≤ 2048 → cost_all (id_entries x) ≤ 3900 → length (claims_text (id_members x)) ≤ 6000
  unfolding id_members
  short_members x h g = whole _ _ _ (length-put_all (id_entries x) x.more) h g

  short_more : length (claims_text (id_claims c wish who at access code).more) ≤ 2048
  unfolding id_claims
  short_more = held_length c who.user (id_scopes wish) wish.id_asked m.registry

  pub short_claims : length (claims_text (id_members (id_claims c wish who at access code))) ≤ 6000
  short_claims = short_members (id_claims c wish who at access code) short_more short_entries

  -- ---- as values of their types

  pub has_texts : IsWishValue wish → HasTexts (id_claims c wish who at access code)
  unfolding id_claims
  has_texts w = record {
    iss = IsUtf8-plain c.provider.issuer (issuer_is_plain c m.registry).plain;
    aud = (IsUtf8-plain (client_id c wish.client) (client_id_is_short c wish.client m.registry).plain, tt);
    azp = tt;
    nonce = w.nonce;
    sid = IsUtf8-word_text who.sid;
    at_hash = hash_text access;
    c_hash = hash_text code;
    more = held_fit c who.user (id_scopes wish) wish.id_asked m.registry;
  }

  -- ---- as seal_id and its law ask

  pub can_be_sealed : CanBeSealed (id_claims c wish who at access code)
  unfolding id_claims
  can_be_sealed = record {
    others = others_are_apart c who.user (id_scopes wish) wish.id_asked;
    subject = subject;
    exp = before_end at m.moment;
    iat = before at m.moment;
    auth_time = before who.auth_time m.auth_time;
    short = short_claims;
  }

  pub as_issued : (x : IdClaims) → x ≡ id_claims c wish who at access code → CanBeSealed x
  as_issued x is = subst CanBeSealed (sym is) can_be_sealed

  pub sealable : IsWishValue wish → IsSealable (id_claims c wish who at access code)
  sealable w =
      let s = can_be_sealed in
      record {
        others = s.others;
        subject = s.subject;
        exp = s.exp;
        iat = s.iat;
        auth_time = s.auth_time;
        fits = fits-id_members (id_claims c wish who at access code) (has_texts w) s.subject s.exp s.iat s.auth_time;
        short = s.short;
      }

  pub is_read_back : IsWishValue wish → id_read (client_sealing c wish.client) (issued_id c wish who at access code) ≡ Ok (id_claims c wish who at access code)
  unfolding issued_id
  is_read_back w = id_read-id_text (client_sealing c wish.client) (id_claims c wish who at access code) (sealable w)
