-- The rule computed on texts that keep it, and on texts that break it.
use Rattle.std.proofs.Common.{◌≡◌, ℕ, [], ◌∷◌, Bool, List, codes, true, false, is_some, Option, Some, None, option_map, refl, sym, ap, ◌∙◌, true≢false}
use Rattle.url.proofs.OnLiterals.{url_on_literals}
use Rattle.registered_url.specs.declared.web_url.WebUrl.{WebUrl}
use Rattle.url.specs.Parts.{Parts}
use Rattle.registered_url.specs.Rule.{KeepsUrlRule, kept_parts, url_of, parts_of, is_same_server}
use Rattle.registered_url.proofs.Keeping.{urls_keep, kept_url}
use Rattle.registered_url.specs.Query.{query_names}
use Rattle.std.specs.Str.Lossy.{utf8_lossy, utf8_valid_len, utf8_error_len}
use Rattle.std.specs.Str.{chars}

abbrev none : Option WebUrl
none = None

keeps-http_at_this_machine : url_of (codes "http://127.0.0.1:8081/cb?a=b") ≡ Some (record { secure = false; host = codes "127.0.0.1"; port = 8081; path = codes "/cb"; query = Some (codes "a=b") })
unfolding url_on_literals parts_of
keeps-http_at_this_machine = refl

breaks-http_elsewhere : url_of (codes "http://a.b/") ≡ none
unfolding url_on_literals parts_of
breaks-http_elsewhere = refl

keeps-https_with_its_default_port : url_of (codes "https://A.b/x/../y") ≡ Some (record { secure = true; host = codes "a.b"; port = 443; path = codes "/y"; query = None })
unfolding url_on_literals parts_of
keeps-https_with_its_default_port = refl

keeps-an_address_in_hexadecimal : option_map (λ (u : WebUrl). u.host) (url_of (codes "http://0x7f.1/")) ≡ Some (codes "127.0.0.1")
unfolding url_on_literals parts_of
keeps-an_address_in_hexadecimal = refl

breaks-a_user : url_of (codes "https://u@a.b/") ≡ none
unfolding url_on_literals parts_of
breaks-a_user = refl

breaks-a_password : url_of (codes "https://:p@a.b/") ≡ none
unfolding url_on_literals parts_of
breaks-a_password = refl

breaks-an_empty_fragment : url_of (codes "https://a.b/#") ≡ none
unfolding url_on_literals parts_of
breaks-an_empty_fragment = refl

breaks-another_scheme : url_of (codes "ftp://a.b/") ≡ none
unfolding url_on_literals parts_of
breaks-another_scheme = refl

breaks-a_space : url_of (codes "https://a.b/ ") ≡ none
unfolding url_on_literals parts_of
breaks-a_space = refl

breaks-no_url : url_of (codes "a.b") ≡ none
unfolding url_on_literals parts_of
breaks-no_url = refl

-- ---- the rule in literal words

abbrev here : List ℕ
here = codes "http://127.0.0.1:8081/cb?a=b"

rule-kept_at_this_machine : (url : Parts) × KeepsUrlRule here url × (record { secure = false; host = codes "127.0.0.1"; port = 8081; path = codes "/cb"; query = Some (codes "a=b") } ≡ kept_parts url)
rule-kept_at_this_machine = urls_keep here _ keeps-http_at_this_machine

rule-broken_by_http_elsewhere : (url : Parts) → KeepsUrlRule (codes "http://a.b/") url → ⊥
rule-broken_by_http_elsewhere url keeps = true≢false (ap is_some (sym (kept_url (codes "http://a.b/") url keeps) ∙ breaks-http_elsewhere))

-- ---- scheme, host and port

abbrev a_server : Bool → ℕ → WebUrl
a_server secure port = record { secure = secure; host = codes "a.b"; port = port; path = codes "/"; query = None }

same_server-on_another_path : is_same_server (a_server true 443) (record { secure = true; host = codes "a.b"; port = 443; path = codes "/p"; query = Some [] }) ≡ true
same_server-on_another_path = refl

same_server-not_by_another_scheme : is_same_server (a_server true 443) (a_server false 443) ≡ false
same_server-not_by_another_scheme = refl

same_server-not_at_another_port : is_same_server (a_server true 443) (a_server true 444) ≡ false
same_server-not_at_another_port = refl

-- ---- names

names-of_a_query : query_names (record { secure = true; host = []; port = 443; path = []; query = Some (codes "a=b&st%61te&c+d=") }) ≡ codes "a" ∷ codes "state" ∷ codes "c d" ∷ []
unfolding url_on_literals utf8_lossy utf8_valid_len utf8_error_len chars
names-of_a_query = refl

names-of_no_query : query_names (a_server true 443) ≡ []
names-of_no_query = refl
