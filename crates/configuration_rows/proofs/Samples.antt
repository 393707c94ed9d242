-- The definitions computed on small cases: what each accepts, and what it refuses.
use Rattle.std.proofs.Common.{◌≡◌, ◌==◌, ℕ, [], ◌∷◌, List, replicate, codes, true, false, pos, negsuc, Option, Some, None, option_map, refl, arith, true≢false}
use Rattle.std.specs.Fmt.{digits}
use Rattle.std.specs.List.{list_all}
use Rattle.std.specs.Str.{chars}
use Rattle.std.specs.Str.Lossy.{utf8_lossy, utf8_valid_len, utf8_error_len}
use Rattle.hex.proofs.OnLiterals.{hex_on_literals}
use Rattle.url.proofs.OnLiterals.{url_on_literals}
use Rattle.registered_url.specs.declared.web_url.WebUrl.{WebUrl}
use Rattle.registered_url.specs.Rule.{parts_of}
use Rattle.toml.specs.Data.{Data, string, integer, boolean, array, table, no_items, item, no_members, member}
use Rattle.serde_json.specs.Data as json
use Rattle.configuration_rows.specs.declared.no.RegNo.{RegNo}
use Rattle.configuration_rows.specs.declared.no.RegNo.TheVariants as no
use Rattle.configuration_rows.specs.declared.row.Row.TheVariants.{Provider, User, Client, Party}
use Rattle.configuration_rows.specs.declared.kind.Alphabet.TheVariants.{UserId, ClientId, PartyName, Visible}
use Rattle.configuration_rows.specs.declared.kind.TextRule.TheVariants as text
use Rattle.configuration_rows.specs.declared.kind.Kind.TheVariants as kind
use Rattle.configuration_rows.specs.declared.kind.Breach.{Breach}
use Rattle.configuration_rows.specs.declared.kind.Breach.TheVariants.{WrongKind, BadUrl}
use Rattle.configuration_rows.specs.declared.version.Version.TheVariants.{First, Second}
use Rattle.configuration_rows.specs.Refusals.{number, sooner, least, IsLeast, note_if, each}
use Rattle.configuration_rows.specs.Paths.{path_text}
use Rattle.configuration_rows.specs.Values.{as_natural, as_texts, hex_bytes, text_at, text_or, natural_at, flag_at, hex_at, texts_at, url_at, rows_at, table_at}
use Rattle.configuration_rows.specs.Claims.{claims_in, claim_value, Puts}
use Rattle.oidc_words.specs.Claims.{flag_claims, seconds_claims, is_claim_of, profile_claims, email_claims, address_claims, phone_claims}
use Rattle.configuration_rows.specs.Kinds.{allows, is_within, is_name, breach}
use Rattle.configuration_rows.specs.Versions.{version_of, version_in}
use Rattle.oidc_words.specs.Types.{spellings}
use Rattle.configuration_rows.specs.Rows.{required, optional, array_rule, uses, logout_rule, client_of, redirect_rule, response_texts, has_type, lacks_type, type_rule, seals_old, old_secret_keys, history_key, page_keys, title_key, server_keys, party_keys, user_row, client_row, party_row, rows_refusals}
use Rattle.configuration_rows.proofs.Phases.{is_least}

abbrev none : Option Breach
none = None

-- ---- the refusal that is answered

least-is_the_first_of_the_least_number : least (no.Twice (codes "a") ∷ no.Missing (codes "b") ∷ no.Missing (codes "c") ∷ []) ≡ Some (no.Missing (codes "b"))
least-is_the_first_of_the_least_number = refl

least-of_none : least [] ≡ None
least-of_none = refl

abbrev three : List RegNo
three = no.Twice (codes "a") ∷ no.Missing (codes "b") ∷ no.Missing [] ∷ []

is_least-the_first_of_its_number : IsLeast (no.Missing (codes "b")) three
is_least-the_first_of_its_number = record { before = no.Twice (codes "a") ∷ []; after = no.Missing [] ∷ []; there = refl; first = (omega arith, tt); lowest = (omega arith, tt) }

is_least-not_the_second_of_its_number : IsLeast (no.Missing []) three → ⊥
is_least-not_the_second_of_its_number l = let least_too : least three ≡ Some (no.Missing []) = is_least (no.Missing []) three l in cc least_too

is_least-not_of_a_greater_number : IsLeast (no.Twice (codes "a")) three → ⊥
is_least-not_of_a_greater_number l = let least_too : least three ≡ Some (no.Twice (codes "a")) = is_least (no.Twice (codes "a")) three l in cc least_too

number-of_the_first : number no.NoMemory ≡ 0
number-of_the_first = refl

number-of_the_last : number (no.SubjectClash [] [] []) ≡ 12
number-of_the_last = refl

sooner-the_smaller_number : sooner (no.Twice []) (Some (no.BadUrl [])) ≡ no.BadUrl []
sooner-the_smaller_number = refl

sooner-the_first_of_one_number : sooner (no.Twice (codes "a")) (Some (no.Twice (codes "b"))) ≡ no.Twice (codes "a")
sooner-the_first_of_one_number = refl

noted-where_it_is_met : note_if true no.Version ≡ no.Version ∷ []
noted-where_it_is_met = refl

noted-not_where_it_is_not : note_if false no.Version ≡ []
noted-not_where_it_is_not = refl

each-row_by_its_place : each (λ n m. note_if (n == m) (no.Missing (codes "a"))) (0 ∷ 5 ∷ 2 ∷ []) ≡ no.Missing (codes "a") ∷ no.Missing (codes "a") ∷ []
each-row_by_its_place = refl

-- ---- paths

path-of_the_provider : path_text Provider (codes "issuer") ≡ codes "provider.issuer"
path-of_the_provider = refl

path-of_the_first_client : path_text (Client 0) (codes "secret") ≡ codes "client[0].secret"
unfolding digits
path-of_the_first_client = refl

path-of_the_thirteenth_user : path_text (User 12) (codes "id") ≡ codes "user[12].id"
unfolding digits
path-of_the_thirteenth_user = refl

path-of_a_party : path_text (Party 1) (codes "name") ≡ codes "party[1].name"
unfolding digits
path-of_a_party = refl

-- ---- values

natural-of_0 : as_natural (integer (pos 0)) ≡ Some 0
natural-of_0 = refl

natural-not_below_0 : as_natural (integer (negsuc 0)) ≡ None
natural-not_below_0 = refl

texts-of_an_array : as_texts (array (item (string (codes "a")) no_items)) ≡ Some (codes "a" ∷ [])
texts-of_an_array = refl

texts-not_of_a_mixed_array : as_texts (array (item (string (codes "a")) (item (boolean true) no_items))) ≡ None
texts-not_of_a_mixed_array = refl

bytes-of_digits : hex_bytes (codes "00fF") ≡ Some (0 ∷ 255 ∷ [])
unfolding hex_on_literals
bytes-of_digits = refl

bytes-not_of_an_odd_digit : hex_bytes (codes "00f") ≡ None
unfolding hex_on_literals
bytes-not_of_an_odd_digit = refl

bytes-not_of_another_letter : hex_bytes (codes "0g") ≡ None
unfolding hex_on_literals
bytes-not_of_another_letter = refl

-- one key with its value
abbrev one : List ℕ → Data → Data
one key d = table (member key d no_members)

abbrev texts : List ℕ → Data
texts t = array (item (string t) no_items)

text-at_a_key : text_at (codes "k") (one (codes "k") (string (codes "v"))) ≡ Some (codes "v")
text-at_a_key = refl

text-not_of_a_flag : text_at (codes "k") (one (codes "k") (boolean true)) ≡ None
text-not_of_a_flag = refl

text-or_the_other : text_or (codes "k") (codes "w") (one (codes "l") (string (codes "v"))) ≡ codes "w"
text-or_the_other = refl

number-at_a_key : natural_at (codes "k") (one (codes "k") (integer (pos 7))) ≡ Some 7
number-at_a_key = refl

number-not_of_a_text : natural_at (codes "k") (one (codes "k") (string (codes "7"))) ≡ None
number-not_of_a_text = refl

flag-at_a_key : flag_at (codes "k") (one (codes "k") (boolean true)) ≡ true
flag-at_a_key = refl

flag-not_of_a_number : flag_at (codes "k") (one (codes "k") (integer (pos 1))) ≡ false
flag-not_of_a_number = refl

hex-at_a_key : hex_at (codes "k") (one (codes "k") (string (codes "0a"))) ≡ 10 ∷ []
unfolding hex_on_literals
hex-at_a_key = refl

hex-not_of_a_number : hex_at (codes "k") (one (codes "k") (integer (pos 1))) ≡ []
hex-not_of_a_number = refl

texts-at_a_key : texts_at (codes "k") (one (codes "k") (texts (codes "a"))) ≡ codes "a" ∷ []
texts-at_a_key = refl

texts-not_of_a_text : texts_at (codes "k") (one (codes "k") (string (codes "a"))) ≡ []
texts-not_of_a_text = refl

url-at_a_key : option_map (λ (u : WebUrl). u.path) (url_at (codes "k") (one (codes "k") (string (codes "https://a.b/c")))) ≡ Some (codes "/c")
unfolding url_on_literals parts_of
url-at_a_key = refl

url-not_of_another_text : option_map (λ (u : WebUrl). u.path) (url_at (codes "k") (one (codes "k") (string (codes "a.b/c")))) ≡ None
unfolding url_on_literals parts_of
url-not_of_another_text = refl

rows-of_an_array : rows_at (codes "k") (one (codes "k") (array (item (boolean true) no_items))) ≡ boolean true ∷ []
rows-of_an_array = refl

rows-not_of_a_table : rows_at (codes "k") (one (codes "k") (table no_members)) ≡ []
rows-not_of_a_table = refl

table-at_a_key : table_at (codes "k") (one (codes "k") (boolean true)) ≡ boolean true
table-at_a_key = refl

table-of_nothing : table_at (codes "l") (one (codes "k") (boolean true)) ≡ table no_members
table-of_nothing = refl

-- ---- kinds

allows-letters_digits_and_marks : list_all (allows UserId) (codes "az09._@-") ≡ true
allows-letters_digits_and_marks = refl

allows-no_capital_in_a_user : allows UserId 65 ≡ false
allows-no_capital_in_a_user = refl

allows-capitals_in_a_client : list_all (allows ClientId) (codes "AZaz09._~-") ≡ true
allows-capitals_in_a_client = refl

allows-no_at_in_a_client : allows ClientId 64 ≡ false
allows-no_at_in_a_client = refl

allows-letters_and_digits_in_a_party : list_all (allows PartyName) (codes "az09") ≡ true
allows-letters_and_digits_in_a_party = refl

allows-no_dot_in_a_party : allows PartyName 46 ≡ false
allows-no_dot_in_a_party = refl

allows-visible : list_all (allows Visible) (codes "!~") ≡ true
allows-visible = refl

allows-no_space : allows Visible 32 ≡ false
allows-no_space = refl

within-both_bounds : is_within 1 1 1 ≡ true
within-both_bounds = refl

within-not_above : is_within 1 64 65 ≡ false
within-not_above = refl

name-of_a_user : is_name UserId 1 64 (codes "al.ice@b") ≡ true
name-of_a_user = refl

name-not_in_capitals : is_name UserId 1 64 (codes "Alice") ≡ false
name-not_in_capitals = refl

name-not_empty : is_name UserId 1 64 [] ≡ false
name-not_empty = refl

breach-of_no_number : breach (kind.Number 1 10) (integer (pos 11)) ≡ Some WrongKind
breach-of_no_number = refl

breach-not_at_the_bound : breach (kind.Number 1 10) (integer (pos 10)) ≡ none
breach-not_at_the_bound = refl

breach-of_no_text : breach (kind.Text text.Any) (boolean true) ≡ Some WrongKind
breach-of_no_text = refl

breach-not_of_a_text : breach (kind.Text text.Any) (string []) ≡ none
breach-not_of_a_text = refl

breach-of_few_bytes : breach (kind.Text (text.Hex 2 3)) (string (codes "00")) ≡ Some WrongKind
unfolding hex_on_literals
breach-of_few_bytes = refl

breach-not_of_enough_bytes : breach (kind.Text (text.Hex 2 3)) (string (codes "0011")) ≡ none
unfolding hex_on_literals
breach-not_of_enough_bytes = refl

breach-of_another_subject : breach (kind.Text text.Subject) (string (codes "private")) ≡ Some WrongKind
breach-of_another_subject = refl

breach-not_of_pairwise : breach (kind.Text text.Subject) (string (codes "pairwise")) ≡ none
breach-not_of_pairwise = refl

breach-of_another_consent : breach (kind.Text text.Consent) (string (codes "never")) ≡ Some WrongKind
breach-of_another_consent = refl

breach-not_of_given : breach (kind.Text text.Consent) (string (codes "given")) ≡ none
breach-not_of_given = refl

breach-of_no_flag : breach kind.Flag (string (codes "true")) ≡ Some WrongKind
breach-of_no_flag = refl

breach-not_of_a_flag : breach kind.Flag (boolean false) ≡ none
breach-not_of_a_flag = refl

breach-of_a_query_in_an_issuer : breach kind.Issuer (string (codes "https://a.b/?c")) ≡ Some WrongKind
unfolding url_on_literals parts_of
breach-of_a_query_in_an_issuer = refl

breach-of_no_url_in_an_issuer : breach kind.Issuer (string (codes "a.b")) ≡ Some BadUrl
unfolding url_on_literals parts_of
breach-of_no_url_in_an_issuer = refl

breach-not_of_an_issuer : breach kind.Issuer (string (codes "https://a.b/c")) ≡ none
unfolding url_on_literals parts_of
breach-not_of_an_issuer = refl

breach-of_http_elsewhere : breach kind.Url (string (codes "http://a.b/")) ≡ Some BadUrl
unfolding url_on_literals parts_of
breach-of_http_elsewhere = refl

breach-not_of_https : breach kind.Url (string (codes "https://a.b/")) ≡ none
unfolding url_on_literals parts_of
breach-not_of_https = refl

breach-of_no_urls : breach kind.Urls (array no_items) ≡ Some WrongKind
breach-of_no_urls = refl

breach-of_a_bad_url : breach kind.Urls (texts (codes "a.b")) ≡ Some BadUrl
unfolding url_on_literals parts_of
breach-of_a_bad_url = refl

breach-not_of_one_url : breach kind.Urls (texts (codes "https://a.b/")) ≡ none
unfolding url_on_literals parts_of
breach-not_of_one_url = refl

breach-of_an_unknown_type : breach kind.ResponseTypes (texts (codes "token")) ≡ Some WrongKind
unfolding spellings
breach-of_an_unknown_type = refl

breach-not_of_no_types : breach kind.ResponseTypes (array no_items) ≡ none
breach-not_of_no_types = refl

breach-of_unknown_claims : breach kind.Claims (one (codes "admin") (boolean true)) ≡ Some WrongKind
unfolding flag_claims seconds_claims is_claim_of profile_claims email_claims address_claims phone_claims
breach-of_unknown_claims = refl

breach-not_of_no_claims : breach kind.Claims (table no_members) ≡ none
breach-not_of_no_claims = refl

-- ---- claims

claim-of_a_flag : claim_value (codes "email_verified") (boolean true) ≡ Some (json.boolean true)
unfolding flag_claims seconds_claims is_claim_of profile_claims email_claims address_claims phone_claims
claim-of_a_flag = refl

claim-not_of_a_text_for_a_flag : claim_value (codes "email_verified") (string (codes "true")) ≡ None
unfolding flag_claims seconds_claims is_claim_of profile_claims email_claims address_claims phone_claims
claim-not_of_a_text_for_a_flag = refl

claim-of_seconds : claim_value (codes "updated_at") (integer (pos 1099511627775)) ≡ Some (json.number (json.unsigned 1099511627775))
unfolding flag_claims seconds_claims is_claim_of profile_claims email_claims address_claims phone_claims
claim-of_seconds = refl

claim-not_of_more_seconds : claim_value (codes "updated_at") (integer (pos 1099511627776)) ≡ None
unfolding flag_claims seconds_claims is_claim_of profile_claims email_claims address_claims phone_claims
claim-not_of_more_seconds = refl

claim-of_an_address : claim_value (codes "address") (one (codes "country") (string (codes "B"))) ≡ Some (json.object (json.member (codes "country") (json.string (codes "B")) json.no_members))
unfolding flag_claims seconds_claims is_claim_of profile_claims email_claims address_claims phone_claims
claim-of_an_address = refl

claim-not_of_numbers_in_an_address : claim_value (codes "address") (one (codes "country") (integer (pos 1))) ≡ None
unfolding flag_claims seconds_claims is_claim_of profile_claims email_claims address_claims phone_claims
claim-not_of_numbers_in_an_address = refl

puts-a_value : Puts (codes "a") (Some (json.boolean true)) json.no_members (json.put (codes "a") (json.boolean true) json.no_members) true
puts-a_value = (refl, refl)

puts-not_where_there_is_none : Puts (codes "a") None json.no_members json.no_members true → ⊥
puts-not_where_there_is_none h = true≢false h

claims-of_a_name : claims_in (table (member (codes "name") (string (codes "A")) no_members)) ≡ Some (json.member (codes "name") (json.string (codes "A")) json.no_members)
unfolding flag_claims seconds_claims is_claim_of profile_claims email_claims address_claims phone_claims
claims-of_a_name = refl

claims-not_of_an_unknown_name : claims_in (table (member (codes "admin") (boolean true) no_members)) ≡ None
unfolding flag_claims seconds_claims is_claim_of profile_claims email_claims address_claims phone_claims
claims-not_of_an_unknown_name = refl

-- ---- keys

required-is_missing : required (Client 0) (table no_members) (codes "secret") kind.Flag ≡ no.Missing (path_text (Client 0) (codes "secret")) ∷ []
required-is_missing = refl

required-is_there : required (Client 0) (table (member (codes "secret") (boolean true) no_members)) (codes "secret") kind.Flag ≡ []
required-is_there = refl

required-of_another_kind : required (Client 0) (one (codes "secret") (integer (pos 1))) (codes "secret") kind.Flag ≡ no.WrongKind (path_text (Client 0) (codes "secret")) ∷ []
required-of_another_kind = refl

optional-may_be_absent : optional (Client 0) (table no_members) (codes "logout_session") kind.Flag ≡ []
optional-may_be_absent = refl

optional-of_another_kind : optional (Client 0) (one (codes "logout_session") (integer (pos 1))) (codes "logout_session") kind.Flag ≡ no.WrongKind (path_text (Client 0) (codes "logout_session")) ∷ []
optional-of_another_kind = refl

array-of_rows : array_rule (codes "user") (one (codes "user") (array no_items)) ≡ []
array-of_rows = refl

array-not_of_a_table : array_rule (codes "user") (one (codes "user") (table no_members)) ≡ no.WrongKind (codes "user") ∷ []
array-not_of_a_table = refl

-- ---- versions

version-of_1 : version_of (one (codes "version") (integer (pos 1))) ≡ Some First
version-of_1 = refl

version-of_2 : version_of (one (codes "version") (integer (pos 2))) ≡ Some Second
version-of_2 = refl

version-not_of_3 : version_of (one (codes "version") (integer (pos 3))) ≡ None
version-not_of_3 = refl

version-not_of_a_text : version_of (one (codes "version") (string (codes "2"))) ≡ None
version-not_of_a_text = refl

keys-of_version_2 : version_in (one (codes "version") (integer (pos 2))) ≡ Second
unfolding version_in
keys-of_version_2 = refl

-- ---- the old secret of a client

seals-with_the_old : breach (kind.Text text.Seals) (string (codes "old")) ≡ none
seals-with_the_old = refl

seals-with_the_new : breach (kind.Text text.Seals) (string (codes "new")) ≡ none
seals-with_the_new = refl

seals-with_no_other : breach (kind.Text text.Seals) (string (codes "both")) ≡ Some WrongKind
seals-with_no_other = refl

seals-is_new_by_default : seals_old (table no_members) ≡ false
seals-is_new_by_default = refl

old_secret-may_be_absent : old_secret_keys Second (Client 0) (one (codes "seals") (string (codes "new"))) ≡ []
old_secret-may_be_absent = refl

old_secret-is_needed_to_seal_with_it : old_secret_keys Second (Client 0) (one (codes "seals") (string (codes "old"))) ≡ no.Missing (path_text (Client 0) (codes "old_secret")) ∷ []
old_secret-is_needed_to_seal_with_it = refl

old_secret-of_another_kind : old_secret_keys Second (Client 0) (one (codes "old_secret") (integer (pos 1))) ≡ no.WrongKind (path_text (Client 0) (codes "old_secret")) ∷ []
old_secret-of_another_kind = refl

old_secret-is_ignored_in_version_1 : old_secret_keys First (Client 0) (one (codes "seals") (string (codes "old"))) ≡ []
old_secret-is_ignored_in_version_1 = refl

-- ---- whether the histories last

history-that_is_stored : history_key Second (one (codes "history") (string (codes "stored"))) ≡ []
history-that_is_stored = refl

history-that_lasts : history_key Second (one (codes "history") (string (codes "lasting"))) ≡ []
history-that_lasts = refl

history-may_be_absent : history_key Second (table no_members) ≡ []
history-may_be_absent = refl

history-of_another_text : history_key Second (one (codes "history") (string (codes "short"))) ≡ no.WrongKind (codes "provider.history") ∷ []
history-of_another_text = refl

history-of_another_kind : history_key Second (one (codes "history") (boolean true)) ≡ no.WrongKind (codes "provider.history") ∷ []
history-of_another_kind = refl

history-is_ignored_in_version_1 : history_key First (one (codes "history") (boolean true)) ≡ []
history-is_ignored_in_version_1 = refl

-- ---- pages and titles

pages-that_are_plain : page_keys Second (one (codes "pages") (string (codes "plain"))) ≡ []
pages-that_are_plain = refl

pages-that_are_full : page_keys Second (one (codes "pages") (string (codes "full"))) ≡ []
pages-that_are_full = refl

pages-may_be_absent : page_keys Second (table no_members) ≡ []
pages-may_be_absent = refl

pages-of_another_text : page_keys Second (one (codes "pages") (string (codes "Full"))) ≡ no.WrongKind (codes "provider.pages") ∷ []
pages-of_another_text = refl

pages-of_another_kind : page_keys Second (one (codes "pages") (boolean true)) ≡ no.WrongKind (codes "provider.pages") ∷ []
pages-of_another_kind = refl

title-of_the_provider : page_keys Second (one (codes "title") (string (codes "A & B"))) ≡ []
title-of_the_provider = refl

title-of_no_bytes : page_keys Second (one (codes "title") (string [])) ≡ no.WrongKind (codes "provider.title") ∷ []
title-of_no_bytes = refl

pages-are_ignored_in_version_1 : page_keys First (table (member (codes "pages") (boolean true) (member (codes "title") (string []) no_members))) ≡ []
pages-are_ignored_in_version_1 = refl

title-of_80_bytes : title_key Second (Client 0) (one (codes "title") (string (replicate 80 34))) ≡ []
title-of_80_bytes = refl

title-of_81_bytes : title_key Second (Client 0) (one (codes "title") (string (replicate 81 34))) ≡ no.WrongKind (path_text (Client 0) (codes "title")) ∷ []
title-of_81_bytes = refl

title-of_another_kind : title_key Second (Client 0) (one (codes "title") (integer (pos 1))) ≡ no.WrongKind (path_text (Client 0) (codes "title")) ∷ []
title-of_another_kind = refl

title-is_ignored_in_version_1 : title_key First (Client 0) (one (codes "title") (integer (pos 1))) ≡ []
title-is_ignored_in_version_1 = refl

-- ---- names of cookies, and workers

-- a provider of this issuer with these names of cookies
abbrev with_cookies : List ℕ → List ℕ → Data
with_cookies issuer cookies = table (member (codes "issuer") (string issuer) (member (codes "cookies") (string cookies) no_members))

cookies-that_are_plain : server_keys Second (with_cookies (codes "http://localhost") (codes "plain")) ≡ []
cookies-that_are_plain = refl

cookies-of_a_host : server_keys Second (with_cookies (codes "https://a.b") (codes "host")) ≡ []
unfolding url_on_literals parts_of
cookies-of_a_host = refl

cookies-of_a_host_over_http : server_keys Second (with_cookies (codes "http://localhost") (codes "host")) ≡ no.WrongKind (codes "provider.cookies") ∷ []
unfolding url_on_literals parts_of
cookies-of_a_host_over_http = refl

cookies-may_be_absent : server_keys Second (table no_members) ≡ []
cookies-may_be_absent = refl

cookies-of_another_text : server_keys Second (with_cookies (codes "https://a.b") (codes "secure")) ≡ no.WrongKind (codes "provider.cookies") ∷ []
cookies-of_another_text = refl

cookies-of_another_kind : server_keys Second (one (codes "cookies") (boolean true)) ≡ no.WrongKind (codes "provider.cookies") ∷ []
cookies-of_another_kind = refl

workers-of_4 : server_keys Second (one (codes "workers") (integer (pos 4))) ≡ []
workers-of_4 = refl

workers-of_64 : party_keys Second false (Party 0) (one (codes "workers") (integer (pos 64))) ≡ []
workers-of_64 = refl

workers-of_3 : server_keys Second (one (codes "workers") (integer (pos 3))) ≡ no.WrongKind (codes "provider.workers") ∷ []
workers-of_3 = refl

workers-of_65 : party_keys Second false (Party 0) (one (codes "workers") (integer (pos 65))) ≡ no.WrongKind (path_text (Party 0) (codes "workers")) ∷ []
workers-of_65 = refl

workers-of_another_kind : server_keys Second (one (codes "workers") (string (codes "4"))) ≡ no.WrongKind (codes "provider.workers") ∷ []
workers-of_another_kind = refl

workers-are_ignored_in_version_1 : server_keys First (table (member (codes "cookies") (boolean true) (member (codes "workers") (boolean true) no_members))) ≡ []
workers-are_ignored_in_version_1 = refl

workers-of_a_party_are_ignored_in_version_1 : party_keys First true (Party 0) (table (member (codes "redirect_uri") (string (codes "http://localhost/cb")) (member (codes "workers") (boolean true) no_members))) ≡ []
workers-of_a_party_are_ignored_in_version_1 = refl

cookies-at_a_party_over_http : party_keys Second true (Party 0) (one (codes "redirect_uri") (string (codes "http://localhost/cb"))) ≡ no.BadUrl (path_text (Party 0) (codes "redirect_uri")) ∷ []
unfolding url_on_literals parts_of
cookies-at_a_party_over_http = refl

cookies-at_a_party_over_https : party_keys Second true (Party 0) (one (codes "redirect_uri") (string (codes "https://a.b/cb"))) ≡ []
unfolding url_on_literals parts_of
cookies-at_a_party_over_https = refl

-- ---- rules over several rows

abbrev shop_types : Data
shop_types = array (item (string (codes "code")) (item (string (codes "token id_token")) no_items))

-- a client with this redirection URI and this logout URI
abbrev shop : List ℕ → List ℕ → Data
shop redirect logout = table (member (codes "id") (string (codes "shop")) (member (codes "redirect_uris") (texts redirect) (member (codes "logout_uri") (string logout) (member (codes "response_types") shop_types no_members))))

-- a party of a client, with this redirection URI and this response type
abbrev party : List ℕ → List ℕ → List ℕ → Data
party client redirect type = table (member (codes "client") (string client) (member (codes "redirect_uri") (string redirect) (member (codes "response_type") (string type) no_members)))

abbrev at_shop : Data
at_shop = party (codes "shop") (codes "https://a.b/cb") (codes "code")

abbrev good_shop : Data
good_shop = shop (codes "https://a.b/cb") (codes "https://a.b/out")

uses-the_client : uses (codes "shop") at_shop ≡ true
uses-the_client = refl

uses-not_another : uses (codes "news") at_shop ≡ false
uses-not_another = refl

logout-at_the_party : logout_rule (at_shop ∷ []) (Client 0) good_shop ≡ []
unfolding url_on_literals parts_of
logout-at_the_party = refl

logout-at_another_host : logout_rule (at_shop ∷ []) (Client 0) (shop (codes "https://a.b/cb") (codes "https://a.c/out")) ≡ no.WrongKind (path_text (Client 0) (codes "logout_uri")) ∷ []
unfolding url_on_literals parts_of
logout-at_another_host = refl

logout-at_the_own_path : logout_rule (at_shop ∷ []) (Client 0) (shop (codes "https://a.b/cb") (codes "https://a.b/leave")) ≡ no.WrongKind (path_text (Client 0) (codes "logout_uri")) ∷ []
unfolding url_on_literals parts_of
logout-at_the_own_path = refl

client-of_the_party : client_of (one (codes "id") (string (codes "news")) ∷ good_shop ∷ []) at_shop ≡ Some good_shop
client-of_the_party = refl

client-that_is_unknown : client_of (one (codes "id") (string (codes "news")) ∷ []) at_shop ≡ None
client-that_is_unknown = refl

directs-to_the_client : redirect_rule (good_shop ∷ []) (Party 0) at_shop ≡ []
unfolding url_on_literals parts_of
directs-to_the_client = refl

directs-to_none_of_the_client : redirect_rule (good_shop ∷ []) (Party 0) (party (codes "shop") (codes "https://a.b/other") (codes "code")) ≡ no.BadUrl (path_text (Party 0) (codes "redirect_uri")) ∷ []
unfolding url_on_literals parts_of
directs-to_none_of_the_client = refl

directs-to_its_own_path : redirect_rule [] (Party 0) (party (codes "shop") (codes "https://a.b/login") (codes "code")) ≡ no.BadUrl (path_text (Party 0) (codes "redirect_uri")) ∷ []
unfolding url_on_literals parts_of
directs-to_its_own_path = refl

directs-with_an_answer_name : redirect_rule [] (Party 0) (party (codes "shop") (codes "https://a.b/cb?a=1&st%61te=2") (codes "code")) ≡ no.BadUrl (path_text (Party 0) (codes "redirect_uri")) ∷ []
unfolding url_on_literals parts_of utf8_lossy utf8_valid_len utf8_error_len chars
directs-with_an_answer_name = refl

directs-with_another_name : redirect_rule [] (Party 0) (party (codes "shop") (codes "https://a.b/cb?a=state") (codes "code")) ≡ []
unfolding url_on_literals parts_of utf8_lossy utf8_valid_len utf8_error_len chars
directs-with_another_name = refl

directs-to_the_logout : redirect_rule (shop (codes "https://a.b/cb") (codes "https://a.b/cb") ∷ []) (Party 0) at_shop ≡ no.BadUrl (path_text (Party 0) (codes "redirect_uri")) ∷ []
unfolding url_on_literals parts_of
directs-to_the_logout = refl

types-of_the_client : type_rule (good_shop ∷ []) (Party 0) (party (codes "shop") [] (codes "id_token token")) ≡ []
unfolding spellings lacks_type
types-of_the_client = refl

types-not_of_the_client : type_rule (good_shop ∷ []) (Party 0) (party (codes "shop") [] (codes "id_token")) ≡ no.WrongKind (path_text (Party 0) (codes "response_type")) ∷ []
unfolding spellings lacks_type
types-not_of_the_client = refl

types-by_default : response_texts (table no_members) ≡ codes "code" ∷ []
types-by_default = refl

types-by_number : has_type 2 (codes "token id_token" ∷ []) ≡ true
unfolding spellings
types-by_number = refl

types-not_by_number : has_type 0 (codes "token id_token" ∷ []) ≡ false
unfolding spellings
types-not_by_number = refl

-- ---- whole tables

abbrev provider : Data
provider = table (member (codes "issuer") (string (codes "https://a.b")) (member (codes "listen") (string (codes "a.b:443")) (member (codes "salt") (string (codes "00112233445566778899aabbccddeeff")) no_members)))

rows-of_a_provider_alone : rows_refusals (one (codes "provider") provider) ≡ []
unfolding version_in rows_refusals url_on_literals parts_of hex_on_literals
rows-of_a_provider_alone = refl

rows-of_nothing : rows_refusals (table no_members) ≡ no.Missing (codes "provider.issuer") ∷ no.Missing (codes "provider.listen") ∷ no.Missing (codes "provider.salt") ∷ []
unfolding version_in rows_refusals
rows-of_nothing = refl

user-of_nothing : user_row 0 (table no_members) ≡ no.Missing (codes "user[0].id") ∷ no.Missing (codes "user[0].salt") ∷ no.Missing (codes "user[0].rounds") ∷ no.Missing (codes "user[0].proof") ∷ []
unfolding digits
user-of_nothing = refl

client-of_nothing : client_row First [] 1 (table no_members) ≡ no.Missing (codes "client[1].id") ∷ no.Missing (codes "client[1].secret") ∷ no.Missing (codes "client[1].redirect_uris") ∷ []
unfolding digits
client-of_nothing = refl

party-of_nothing : party_row First false [] 2 (table no_members) ≡ no.Missing (codes "party[2].name") ∷ no.Missing (codes "party[2].client") ∷ no.Missing (codes "party[2].redirect_uri") ∷ no.Missing (codes "party[2].listen") ∷ []
unfolding digits lacks_type
party-of_nothing = refl
