-- What a server reads of the cookies that its own replies set, if a user agent sends them back (RFC 6265, 5.4).
use Rattle.std.specs.Prelude.{◌≡◌, ℕ, List, [], ◌∷◌, codes, Option, Some, None}
use Rattle.sso_base.specs.Words.{Word, Text, word_text}
use Rattle.http_reply.specs.Told.{Named}
use Rattle.client_registry.specs.Configuration.{Configuration}
use Rattle.client_registry.specs.Numbers.{party_name}
use Rattle.client_registry.specs.Registered.{IsRegistry}
use Rattle.op_exchange.specs.declared.reply.OpReply.{OpReply}
use Rattle.op_exchange.specs.Replied.{session_given}
use Rattle.op_response.specs.Told as op_told
use Rattle.rp_exchange.specs.declared.reply.RpReply.{RpReply}
use Rattle.rp_response.specs.Told as rp_told
use Rattle.sso_http.specs.Cookies.{cookies_of}
use Rattle.sso_http.specs.Fields.{Fields}
use Rattle.sso_http.specs.Presented.{presented}
use Rattle.server_roles.specs.Roles.{provider_names, party_names}

abbrev pub sent_back : List Named → Fields
sent_back words = (codes "Cookie", presented words) ∷ []

abbrev pub texts_of : Option Word → List Text
texts_of None = []
texts_of (Some w) = word_text w ∷ []

-- of these words, a server with these names of cookies reads this browser's and this session's
pub record IsReadBack (names : Text × Text) (words : List Named) (browser session : Option Word) : Type 0 where
  pub first : cookies_of names.0 (sent_back words) ≡ texts_of browser
  pub second : cookies_of names.1 (sent_back words) ≡ texts_of session

abbrev pub ProviderCookiesAreReadBack : Type 0
ProviderCookiesAreReadBack =
    (c : Configuration) (r : OpReply)
    → IsReadBack (provider_names c) (op_told.words_set c.settings.host_cookies r) (op_told.browser_given r) (session_given r)

abbrev pub PartyCookiesAreReadBack : Type 0
PartyCookiesAreReadBack =
    (c : Configuration) (n : ℕ) (r : RpReply) → IsRegistry c
    → IsReadBack (party_names c n) (rp_told.words_set c.settings.host_cookies (party_name c n) r) (rp_told.browser_given r) (rp_told.session_given r)
