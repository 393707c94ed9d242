-- A server reads the cookies that its own replies set.
use Rattle.std.proofs.Common.{◌≡◌, ℕ, Bool, true, false, cond, ◌&&◌, List, [], ◌∷◌, ◌++◌, codes, Option, Some, None, refl, ap, ◌∙◌}
use Rattle.std.specs.Str.{bytes_eq}
use Rattle.sso_base.specs.Words.{Word, Text, word_text}
use Rattle.http_reply.specs.UserAgent.{is_cookie_name}
use Rattle.http_reply.specs.Told.{Named, words_named}
use Rattle.http_reply.proofs.Names.{prefixed_test}
use Rattle.client_registry.specs.Configuration.{Configuration}
use Rattle.client_registry.specs.Numbers.{party_name}
use Rattle.client_registry.specs.Registered.{IsRegistry}
use Rattle.op_exchange.specs.declared.reply.OpReply.{OpReply}
use Rattle.op_exchange.specs.Replied.{session_given}
use Rattle.op_response.specs.Cookies as op_cookies
use Rattle.op_response.specs.Told as op_told
use Rattle.op_response.proofs.CookieLaws as op_names
use Rattle.rp_exchange.specs.declared.reply.RpReply.{RpReply}
use Rattle.rp_response.specs.Cookies as rp_cookies
use Rattle.rp_response.specs.Told as rp_told
use Rattle.rp_response.proofs.CookieNames as rp_names
use Rattle.sso_http.specs.Presented.{have_names, texts_under}
use Rattle.sso_http.proofs.PresentedCookies.{presented_found}
use Rattle.server_roles.specs.Roles.{provider_names, party_names}
use Rattle.server_roles.specs.ReadBack.{texts_of, IsReadBack}

-- two names of cookies: tokens, and different
record AreNames (b s : Text) : Type 0 where
  browser : is_cookie_name b ≡ true
  session : is_cookie_name s ≡ true
  apart : bytes_eq b s ≡ false
  turned : bytes_eq s b ≡ false
  browser_same : bytes_eq b b ≡ true
  session_same : bytes_eq s s ≡ true

-- ---- the words under a name

abbrev pick : Bool → Text → List Text → List Text
pick x t rest = cond x (t ∷ rest) rest

two : (x y p q : Bool) → x ≡ p → y ≡ q → (t u : Text) → pick x t (pick y u []) ≡ pick p t (pick q u [])
two x y p q e f t u = ap (λ (z : Bool). pick z t (pick y u [])) e ∙ ap (λ (z : Bool). pick p t (pick z u [])) f

module _ (b s : Text) (names : AreNames b s) where
  named : (browser session : Option Word) → have_names (words_named b browser ++ words_named s session) ≡ true
  named None None = refl
  named None (Some w) = ap (λ (x : Bool). x && true) names.session
  named (Some v) None = ap (λ (x : Bool). x && true) names.browser
  named (Some v) (Some w) = ap (λ (x : Bool). x && (is_cookie_name s && true)) names.browser ∙ ap (λ (x : Bool). x && true) names.session

  browsers : (browser session : Option Word) → texts_under b (words_named b browser ++ words_named s session) ≡ texts_of browser
  browsers None None = refl
  browsers None (Some w) = ap (λ (x : Bool). pick x (word_text w) []) names.turned
  browsers (Some v) None = ap (λ (x : Bool). pick x (word_text v) []) names.browser_same
  browsers (Some v) (Some w) = two (bytes_eq b b) (bytes_eq s b) true false names.browser_same names.turned (word_text v) (word_text w)

  sessions : (browser session : Option Word) → texts_under s (words_named b browser ++ words_named s session) ≡ texts_of session
  sessions None None = refl
  sessions None (Some w) = ap (λ (x : Bool). pick x (word_text w) []) names.session_same
  sessions (Some v) None = ap (λ (x : Bool). pick x (word_text v) []) names.apart
  sessions (Some v) (Some w) = two (bytes_eq b s) (bytes_eq s s) false true names.apart names.session_same (word_text v) (word_text w)

  reads : (browser session : Option Word) → IsReadBack (b, s) (words_named b browser ++ words_named s session) browser session
  reads browser session =
      let words : List Named = words_named b browser ++ words_named s session in
      record {
        first = presented_found b words (named browser session) ∙ browsers browser session;
        second = presented_found s words (named browser session) ∙ sessions browser session;
      }

-- ---- both roles

provider_are_names : (host : Bool) → AreNames (op_cookies.browser_cookie host) (op_cookies.session_cookie host)
provider_are_names host =
    record {
      browser = op_names.browser_name host;
      session = op_names.session_name host;
      apart = prefixed_test host (codes "op_b") (codes "op_s") false refl;
      turned = prefixed_test host (codes "op_s") (codes "op_b") false refl;
      browser_same = prefixed_test host (codes "op_b") (codes "op_b") true refl;
      session_same = prefixed_test host (codes "op_s") (codes "op_s") true refl;
    }

pub provider_reads : (c : Configuration) (r : OpReply)
    → IsReadBack (provider_names c) (op_told.words_set c.settings.host_cookies r) (op_told.browser_given r) (session_given r)
provider_reads c r =
    let host : Bool = c.settings.host_cookies in
    reads (op_cookies.browser_cookie host) (op_cookies.session_cookie host) (provider_are_names host) (op_told.browser_given r) (session_given r)

party_are_names : (c : Configuration) (n : ℕ) → IsRegistry c
    → AreNames (rp_cookies.browser_cookie c.settings.host_cookies (party_name c n)) (rp_cookies.session_cookie c.settings.host_cookies (party_name c n))
party_are_names c n is =
    let host : Bool = c.settings.host_cookies in
    let name : Text = party_name c n in
    record {
      browser = rp_names.browser_name c n is;
      session = rp_names.session_name c n is;
      apart = prefixed_test host (name ++ codes "_b") (name ++ codes "_s") false (rp_names.ends_differ name (codes "_b") (codes "_s") refl);
      turned = prefixed_test host (name ++ codes "_s") (name ++ codes "_b") false (rp_names.ends_differ name (codes "_s") (codes "_b") refl);
      browser_same = prefixed_test host (name ++ codes "_b") (name ++ codes "_b") true (rp_names.is_itself (name ++ codes "_b"));
      session_same = prefixed_test host (name ++ codes "_s") (name ++ codes "_s") true (rp_names.is_itself (name ++ codes "_s"));
    }

pub party_reads : (c : Configuration) (n : ℕ) (r : RpReply) → IsRegistry c
    → IsReadBack (party_names c n) (rp_told.words_set c.settings.host_cookies (party_name c n) r) (rp_told.browser_given r) (rp_told.session_given r)
party_reads c n r is =
    let host : Bool = c.settings.host_cookies in
    let name : Text = party_name c n in
    reads (rp_cookies.browser_cookie host name) (rp_cookies.session_cookie host name) (party_are_names c n is) (rp_told.browser_given r) (rp_told.session_given r)
