-- What is issued can be sealed: the claims of a logout token are values of their types, and their text is short enough.
use Rattle.std.proofs.Common.{◌≡◌, ◌≤◌, ◌<◌, ◌+◌, ◌^◌, ◌&&◌, ◌||◌, ℕ, Bool, true, false, length, nat_le, codes, Some, is_some, option_map, Ok, refl, sym, subst, arith}
use Rattle.std.specs.Prelude.{IfSome}
use Rattle.std.specs.Str.{IsUtf8}
use Rattle.json.specs.Print.{escape_byte, quoted}
use Rattle.json.proofs.Printed.Utf8.{IsUtf8-are_ascii}
use Rattle.serde_json.specs.Data.{string, no_members}
use Rattle.sso_base.specs.Words.{Word, Text, IsWord, word_text}
use Rattle.sso_base.proofs.Spelling.{both_true}
use Rattle.sso_base.proofs.WordTexts.{length-word_text}
use Rattle.sso_base.proofs.WordUtf8.{IsUtf8-word_text}
use Rattle.claim_set.specs.Reading.{claims_text}
use Rattle.claim_set.proofs.PlainTexts.{IsUtf8-plain}
use Rattle.claim_set.proofs.Costs.{cost, cost_all, length-put_all, plain_cost, any_cost, number_cost}
use Rattle.logout_token.specs.declared.claims.LogoutClaims.{LogoutClaims}
use Rattle.logout_token.specs.LogoutToken.{events, logout_entries, logout_members, logout_read}
use Rattle.logout_token.specs.Fitting.{HasTexts, IsSealable}
use Rattle.logout_token.proofs.Fitting.{fits-logout_members}
use Rattle.logout_token.proofs.Written.{logout_read-logout_text}
use Rattle.client_registry.specs.Configuration.{Configuration, subject_at}
use Rattle.client_registry.specs.Numbers.{client_at, client_id, client_sealing}
use Rattle.op_issue.specs.Issued.{if_wished}
use Rattle.op_issue.proofs.RegistryRows.{issuer_is_plain, client_id_is_short, subject_is_one, subject_is_short}
use Rattle.op_issue.proofs.SpelledTexts.{b64u_is_plain}
use Rattle.op_issue.specs.declared.sign_out.SignOut.{SignOut}
use Rattle.op_issue.specs.LogoutTokens.{logout_id, wants_sid, logout_claims, issued_logout}
use Rattle.op_issue.specs.Ending.{MayEnd}
use Rattle.sso_base.specs.Texts.{is_ascii}
use Rattle.op_issue.proofs.Identifiers.{id_text, short_id}

-- ---- how long the names and the values are

record AreNamed : Type 0 where
  aud : length (quoted (codes "aud")) ≡ 5
  exp : length (quoted (codes "exp")) ≡ 5
  iat : length (quoted (codes "iat")) ≡ 5
  iss : length (quoted (codes "iss")) ≡ 5
  jti : length (quoted (codes "jti")) ≡ 5
  sid : length (quoted (codes "sid")) ≡ 5
  sub : length (quoted (codes "sub")) ≡ 5
  events : cost (codes "events") (Some events) ≡ 67

named : AreNamed
unfolding escape_byte
named = record { aud = refl; exp = refl; iat = refl; iss = refl; jti = refl; sid = refl; sub = refl; events = refl }

at_most : (n m : ℕ) → n ≡ m → n ≤ m
at_most n m h = omega (arith, h)

from_nothing : (n : ℕ) → 0 ≤ n
from_nothing n = omega arith

sid_cost : (wanted : Bool) (w : Word) → IsWord w → cost (codes "sid") (option_map string (if_wished wanted (word_text w))) ≤ 95
sid_cost false w h = from_nothing 95
sid_cost true w h = plain_cost (codes "sid") (word_text w) 43 5 named.sid (b64u_is_plain w h.bytes) (at_most (length (word_text w)) 43 (length-word_text w h))

sid_text : (wanted : Bool) (w : Word) → IfSome (if_wished wanted (word_text w)) IsUtf8
sid_text false w = tt
sid_text true w = IsUtf8-word_text w

sum_of_all : (a b c d e f g h : ℕ) → a ≤ 137 → b ≡ 67 → c ≤ 20 → d ≤ 20 → e ≤ 409 → f ≤ 291 → g ≤ 95 → h ≤ 1539 → a + (b + (c + (d + (e + (f + (g + (h + 0))))))) ≤ 2578
sum_of_all a b c d e f g h p q r s t u v w = omega (arith, p, q, r, s, t, u, v, w)

whole : (a b n : ℕ) → n ≤ a + b → a ≡ 2 → b ≤ 2578 → n ≤ 6000
whole a b n h f g = omega (arith, h, f, g)

before : (n : ℕ) → n ≤ 1099511000000 → n < 2 ^ 40
before n h = omega (arith, h)

before_end : (n : ℕ) → n ≤ 1099511000000 → n + 120 < 2 ^ 40
before_end n h = omega (arith, h)

few : (n k : ℕ) → n < k → k ≤ 128 → n < 128
few n k h f = omega (arith, h, f)

module _ (c : Configuration) (client : ℕ) (out : SignOut) (m : MayEnd c client out) where
  low : client < 128
  low = few client (length c.clients) m.client m.registry.clients

  short_entries : cost_all (logout_entries (logout_claims c client out)) ≤ 2578
  unfolding logout_claims
  short_entries =
      let id = client_id_is_short c client m.registry in
      let issuer = issuer_is_plain c m.registry in
      sum_of_all _ _ _ _ _ _ _ _
      (plain_cost (codes "aud") (client_id c client) 64 5 named.aud id.plain id.short)
      named.events
      (number_cost (codes "exp") (out.at + 120) 5 named.exp (before_end out.at m.moment))
      (number_cost (codes "iat") out.at 5 named.iat (before out.at m.moment))
      (plain_cost (codes "iss") c.provider.issuer 200 5 named.iss issuer.plain issuer.short)
      (any_cost (codes "jti") (logout_id out.word client) 47 5 named.jti (short_id out.word client m.word low))
      (sid_cost (wants_sid (client_at c client)) out.who.sid m.sid)
      (any_cost (codes "sub") (subject_at c client out.who.user) 255 5 named.sub (subject_is_short c client out.who.user m.registry m.client m.user))

  short_members : (x : LogoutClaims) → cost_all (logout_entries x) ≤ 2578 → length (claims_text (logout_members x)) ≤ 6000
  unfolding logout_members
  short_members x h = whole (length (claims_text no_members)) (cost_all (logout_entries x)) _ (length-put_all (logout_entries x) no_members) refl h

  -- ---- as values of their types

  subject_text : IsUtf8 (subject_at c client out.who.user)
  subject_text =
      let t : Text = subject_at c client out.who.user in
      IsUtf8-are_ascii t (both_true (nat_le 1 (length t) && nat_le (length t) 255) (is_ascii t) (subject_is_one c client out.who.user m.registry m.client m.user)).1

  pub has_texts : HasTexts (logout_claims c client out)
  unfolding logout_claims
  has_texts = record {
    iss = IsUtf8-plain c.provider.issuer (issuer_is_plain c m.registry).plain;
    aud = (IsUtf8-plain (client_id c client) (client_id_is_short c client m.registry).plain, tt);
    jti = id_text out.word client low;
    sub = subject_text;
    sid = sid_text (wants_sid (client_at c client)) out.who.sid;
  }

  -- ---- as seal_logout and its law ask

  ends : (logout_claims c client out).exp < 2 ^ 40
  unfolding logout_claims
  ends = before_end out.at m.moment

  issued : (logout_claims c client out).iat < 2 ^ 40
  unfolding logout_claims
  issued = before out.at m.moment

  names : (is_some (logout_claims c client out).sub || is_some (logout_claims c client out).sid) ≡ true
  unfolding logout_claims
  names = refl

  pub sealable : IsSealable (logout_claims c client out)
  sealable =
      let x : LogoutClaims = logout_claims c client out in
      record { fits = fits-logout_members x has_texts ends issued; short = short_members x short_entries; names = names; iat = issued; exp = ends }

  pub as_issued : (x : LogoutClaims) → x ≡ logout_claims c client out → IsSealable x
  as_issued x is = subst IsSealable (sym is) sealable

  pub is_read_back : logout_read (client_sealing c client) (issued_logout c client out) ≡ Ok (logout_claims c client out)
  unfolding issued_logout
  is_read_back = logout_read-logout_text (client_sealing c client) (logout_claims c client out) sealable
