-- The names of a party's cookies: a user agent reads them back, and they differ.
use Rattle.std.proofs.Common.{◌≡◌, ℕ, zero, suc, ◌==◌, take, Bool, true, false, ◌&&◌, List, [], ◌∷◌, ◌++◌, length, codes, refl, sym, ap, ◌∙◌, true≢false, arith}
use Rattle.std.specs.Prelude.{slice_get}
use Rattle.std.specs.List.{list_all, AllByRecursion}
use Rattle.std.specs.Str.{bytes_eq}
use Rattle.std.proofs.lemmas.Bool.Decides.{nat_tests}
use Rattle.std.proofs.lemmas.List.{append_cancel_left}
use Rattle.std.proofs.lemmas.Slice.Eq.{bytes_eq-Decides}
use Rattle.sso_base.specs.Words.{Word, Text}
use Rattle.sso_base.proofs.Spelling.{both_true}
use Rattle.http_reply.specs.UserAgent.{is_token_byte, is_cookie_name, is_host_name, is_taken, set_cookie}
use Rattle.http_reply.proofs.Names.{prefixed_name, taken}
use Rattle.configuration_rows.specs.declared.kind.Alphabet.TheVariants.{PartyName}
use Rattle.configuration_rows.specs.Kinds.{allows, is_within}
use Rattle.client_registry.specs.declared.records.Party.{Party}
use Rattle.client_registry.specs.Configuration.{Configuration}
use Rattle.client_registry.specs.Numbers.{name_in, party_name}
use Rattle.client_registry.specs.Registered.{IsParty, IsRegistry}
use Rattle.rp_response.specs.Cookies.{browser_cookie, session_cookie}

-- ---- characters

both : (a b : Bool) → a ≡ true → b ≡ true → (a && b) ≡ true
both true b p q = q
both false b p q = absurd (true≢false (sym p))

token_byte : (b : ℕ) → allows PartyName b ≡ true → is_token_byte b ≡ true
token_byte b h = grind (arith, nat_tests)

token_bytes : (t ending : Text) → list_all (allows PartyName) t ≡ true → list_all is_token_byte ending ≡ true → list_all is_token_byte (t ++ ending) ≡ true
token_bytes [] ending all rest = rest
token_bytes (b ∷ t) ending all rest =
    let parts = both_true (allows PartyName b) (list_all (allows PartyName) t) all in
    both (is_token_byte b) (list_all is_token_byte (t ++ ending)) (token_byte b parts.0) (token_bytes t ending parts.1 rest)

ended_name : (t : Text) (first : ℕ) (ending : Text) → list_all (allows PartyName) t ≡ true → list_all is_token_byte (first ∷ ending) ≡ true → is_cookie_name (t ++ first ∷ ending) ≡ true
ended_name [] first ending all rest = rest
ended_name (b ∷ t) first ending all rest = token_bytes (b ∷ t) (first ∷ ending) all rest

-- ---- the name of a party

name_bytes : (p : Party) → IsParty p → list_all (allows PartyName) p.name ≡ true
name_bytes p rules = (both_true (is_within 1 16 (length p.name)) (list_all (allows PartyName) p.name) rules.name).1

names_bytes : (ps : List Party) (n : ℕ) → AllByRecursion IsParty ps → list_all (allows PartyName) (name_in (slice_get ps n)) ≡ true
names_bytes [] zero all = refl
names_bytes [] (suc n) all = refl
names_bytes (p ∷ ps) zero all = name_bytes p all.0
names_bytes (p ∷ ps) (suc n) all = names_bytes ps n all.1

pub browser_name : (c : Configuration) (n : ℕ) → IsRegistry c → is_cookie_name (browser_cookie c.settings.host_cookies (party_name c n)) ≡ true
browser_name c n r =
    prefixed_name c.settings.host_cookies (party_name c n ++ codes "_b") (ended_name (party_name c n) 95 (codes "b") (names_bytes c.parties n r.party_rules) refl)

pub session_name : (c : Configuration) (n : ℕ) → IsRegistry c → is_cookie_name (session_cookie c.settings.host_cookies (party_name c n)) ≡ true
session_name c n r =
    prefixed_name c.settings.host_cookies (party_name c n ++ codes "_s") (ended_name (party_name c n) 95 (codes "s") (names_bytes c.parties n r.party_rules) refl)

-- ---- no name of a party's cookie has the prefix of itself

not_underscore : (b : ℕ) → allows PartyName b ≡ true → (b == 95) ≡ false
not_underscore b h = grind (arith, nat_tests)

no_host_name : (t ending : Text) → list_all (allows PartyName) t ≡ true → is_host_name ending ≡ false → is_host_name (t ++ ending) ≡ false
no_host_name [] ending all rest = rest
no_host_name (b ∷ t) ending all rest =
    ap (λ x. x && bytes_eq (take 6 (t ++ ending)) (codes "_Host-")) (not_underscore b (both_true (allows PartyName b) (list_all (allows PartyName) t) all).0)

pub browser_is_taken : (c : Configuration) (n : ℕ) (w : Word) → IsRegistry c → is_taken (set_cookie c.secure (browser_cookie c.settings.host_cookies (party_name c n)) w) ≡ true
browser_is_taken c n w r =
    taken c.secure c.settings.host_cookies (party_name c n ++ codes "_b") w r.settings.issuer_https
    (no_host_name (party_name c n) (codes "_b") (names_bytes c.parties n r.party_rules) refl)

pub session_is_taken : (c : Configuration) (n : ℕ) (w : Word) → IsRegistry c → is_taken (set_cookie c.secure (session_cookie c.settings.host_cookies (party_name c n)) w) ≡ true
session_is_taken c n w r =
    taken c.secure c.settings.host_cookies (party_name c n ++ codes "_s") w r.settings.issuer_https
    (no_host_name (party_name c n) (codes "_s") (names_bytes c.parties n r.party_rules) refl)

-- ---- names that differ

differ_at : (t s e : Text) (b : Bool) → bytes_eq s e ≡ false → bytes_eq (t ++ s) (t ++ e) ≡ b → b ≡ false
differ_at t s e false apart is = refl
differ_at t s e true apart is =
    let same : s ≡ e = append_cancel_left t s e ((bytes_eq-Decides (t ++ s) (t ++ e)).0 is) in
    absurd (true≢false (sym ((bytes_eq-Decides s e).1 same) ∙ apart))

pub ends_differ : (t s e : Text) → bytes_eq s e ≡ false → bytes_eq (t ++ s) (t ++ e) ≡ false
ends_differ t s e apart = differ_at t s e (bytes_eq (t ++ s) (t ++ e)) apart refl

pub is_itself : (t : Text) → bytes_eq t t ≡ true
is_itself t = (bytes_eq-Decides t t).1 refl
