-- The definitions computed on small cases: what each accepts, and what it refuses.
use Rattle.std.proofs.Common.{◌≡◌, ◌≤◌, ◌<◌, ◌^◌, ℕ, Bool, [], ◌∷◌, ◌++◌, List, replicate, codes, true, false, is_some, pos, Option, Some, None, Result, Ok, Err, refl, sym, ap, ◌∙◌, arith, true≢false}
use Rattle.std.specs.Prelude.{IfSome}
use Rattle.std.specs.Str.{is_utf8, chars}
use Rattle.base64.specs.GeneralPurpose.{IsBytes}
use Rattle.toml.specs.Data.{Data, string, integer, array, table, no_items, item, no_members, member}
use Rattle.toml.proofs.OnLiterals.{toml_on_literals}
use Rattle.hex.proofs.OnLiterals.{hex_on_literals}
use Rattle.url.proofs.OnLiterals.{url_on_literals}
use Rattle.std.proofs.lemmas.List.{length-replicate}
use Rattle.sha2.specs.Sha256.{sha256, first_words, schedule, rounds, compress, hash_after, digest_bytes}
use Rattle.sso_base.proofs.OnLiterals.{base64url_on_literals}
use Rattle.serde_json.specs.Data as json
use Rattle.claim_set.proofs.OnLiterals.{claims_on_literals}
use Rattle.serde_json.specs.Find.{get_member}
use Rattle.serde_json.proofs.Views.{get_member-put}
use Rattle.json.proofs.Printed.Utf8.{IsUtf8-are_ascii}
use Rattle.claim_set.specs.declared.no.ClaimNo.{ClaimNo}
use Rattle.claim_set.specs.Fitting.{ClaimsFit}
use Rattle.claim_set.specs.Reading.{claims_read, claims_text}
use Rattle.claim_set.proofs.Fitting.{ClaimsFit-none, ClaimsFit-put}
use Rattle.claim_set.proofs.Written.{claims_read-claims_text}
use Rattle.oidc_words.specs.declared.claims.ClaimKind.TheVariants as claim
use Rattle.oidc_words.specs.Claims.{profile_claims, email_claims, address_claims, phone_claims, is_claim_of, flag_claims, seconds_claims, kind_of}
use Rattle.registered_url.specs.declared.web_url.WebUrl.{WebUrl}
use Rattle.registered_url.specs.Rule.{parts_of, url_of}
use Rattle.configuration_rows.specs.declared.no.RegNo.{RegNo}
use Rattle.configuration_rows.specs.declared.no.RegNo.TheVariants as no
use Rattle.configuration_rows.specs.Refusals.{least, IsLeast, each_from, each}
use Rattle.oidc_words.specs.Types.{spellings, types_of_number}
use Rattle.configuration_rows.specs.declared.version.Version.TheVariants.{First, Second}
use Rattle.configuration_rows.specs.Versions.{version_in}
use Rattle.configuration_rows.specs.Rows.{rows_refusals, lacks_type}
use Rattle.configuration_rows.proofs.Order.{least_is}
use Rattle.client_registry.specs.declared.records.Provider.{Provider}
use Rattle.client_registry.specs.declared.records.User.{User}
use Rattle.client_registry.specs.declared.records.Client.{Client}
use Rattle.client_registry.specs.declared.records.Party.{Party}
use Rattle.client_registry.specs.Records.{without_slash, endpoint, provider_of, lasting_of, full_pages_of, provider_title, settings_of, usual_settings, party_settings_of, usual_party_settings, client_title, rounds_of, proof_of, user_of, types_of, client_of_row, client_place, client_number, party_of, users_of, clients_of, parties_of}
use Rattle.client_registry.specs.Secrets.{secrets, sealing, has_secret, all_secrets}
use Rattle.client_registry.specs.Rules.{is_again, user_twice, client_twice, party_twice, short_secret, user_size, mixed_hosts, unknown_client, has_two_hosts, sector_of, text_place, records_refusals, pairwise_subject, subject_of, clashes, subjects_refusals}
use Rattle.client_registry.specs.Registered.{AreApart, NumbersAreApart, HasNoneOf, AreDisjoint, IsUser, HoldsClaims, AllHoldClaims, IsSecret, IsClient, IsParty, IsLogoutOf, FitsClient, IsSubject, IsIssuerUrl, AreSubjectsBy, IsRegistry}
use Rattle.client_registry.specs.ClaimKinds.{has_kind}
use Rattle.client_registry.specs.Configuration.{Configuration, subject_at, configuration_of, provider_table, issuer_of, salt_of}
use Rattle.client_registry.specs.ClientSets.{no_clients, has_client, with_client}
use Rattle.client_registry.specs.Numbers.{user_at, client_at, party_at, is_client, client_id, client_sealing}
use Rattle.client_registry.specs.Reading.{document_in, unless_refused, subjects_read, records_read, rows_read, registry_read, refusals_of, IsAccepted, IsOtherVersion}
use Rattle.client_registry.proofs.Guiltless.{front_nil, back_nil}
use Rattle.client_registry.proofs.HeldClaims.{holds}
use Rattle.client_registry.proofs.SpelledBytes.{hex_is_bytes}
use Rattle.client_registry.proofs.Registering.{registered}
use Rattle.client_registry.proofs.Endpoints.{token_url, token_served}
use Rattle.client_registry.proofs.SubjectFacts.{user_id_is_subject}
use Rattle.client_registry.proofs.Causes.{rows_answer, too_long, accepted_only, version_only}

abbrev at_host : List ℕ → WebUrl
at_host host = record { secure = true; host = host; port = 443; path = codes "/"; query = None }

slash-is_gone : without_slash (codes "/a/") ≡ codes "/a"
slash-is_gone = refl

slash-of_a_path_without_one : without_slash (codes "/a") ≡ codes "/a"
slash-of_a_path_without_one = refl

slash-backslash_is_gone : without_slash (codes "/a\\") ≡ codes "/a"
slash-backslash_is_gone = refl

slash-one_alone_is_gone : without_slash (codes "/a//") ≡ codes "/a/"
slash-one_alone_is_gone = refl

endpoint-below_an_issuer : endpoint (codes "https://a.b/") (codes "/token") ≡ codes "https://a.b/token"
endpoint-below_an_issuer = refl

-- the URL at a.b of this path
abbrev endpoint_at : List ℕ → Option WebUrl
endpoint_at path = Some (record { secure = true; host = codes "a.b"; port = 443; path = path; query = None })

endpoint-below_an_issuer_with_a_slash : url_of (endpoint (codes "https://a.b/op/") (codes "/token")) ≡ endpoint_at (codes "/op/token")
unfolding url_on_literals parts_of
endpoint-below_an_issuer_with_a_slash = refl

endpoint-below_an_issuer_with_a_backslash : url_of (endpoint (codes "https://a.b/op\\") (codes "/token")) ≡ endpoint_at (codes "/op/token")
unfolding url_on_literals parts_of
endpoint-below_an_issuer_with_a_backslash = refl

-- why a backslash is cut: behind it stands an empty segment
url-behind_a_backslash : url_of (codes "https://a.b/op\\/token") ≡ endpoint_at (codes "/op//token")
unfolding url_on_literals parts_of
url-behind_a_backslash = refl

rounds-at_the_bound : rounds_of (Some 1000000) ≡ 1000000
rounds-at_the_bound = refl

place-of_the_second : text_place (codes "b") (codes "a" ∷ codes "b" ∷ codes "b" ∷ []) ≡ Some 1
place-of_the_second = refl

again-at_a_later_place : is_again 2 (Some 1) ≡ true
again-at_a_later_place = refl

again-not_at_the_first : is_again 1 (Some 1) ≡ false
again-not_at_the_first = refl

hosts-that_are_one : has_two_hosts (at_host (codes "a") ∷ at_host (codes "a") ∷ []) ≡ false
hosts-that_are_one = refl

hosts-that_are_two : has_two_hosts (at_host (codes "a") ∷ at_host (codes "a") ∷ at_host (codes "b") ∷ []) ≡ true
hosts-that_are_two = refl

sector-of_the_first : sector_of (at_host (codes "a") ∷ []) ≡ codes "a"
sector-of_the_first = refl

apart-of_two_names : AreApart (codes "a" ∷ codes "b" ∷ [])
apart-of_two_names = (refl, (refl, tt))

apart-not_of_one_twice : AreApart (codes "a" ∷ codes "a" ∷ []) → ⊥
apart-not_of_one_twice h = absurd (true≢false h.0)

disjoint-of_two_lists : AreDisjoint ((codes "a" ∷ []) ∷ (codes "b" ∷ []) ∷ [])
disjoint-of_two_lists = (((refl, tt), tt), (tt, tt))

disjoint-not_of_a_shared_text : AreDisjoint ((codes "a" ∷ []) ∷ (codes "a" ∷ []) ∷ []) → ⊥
disjoint-not_of_a_shared_text h = absurd (true≢false h.0.0.0)

numbers-that_are_apart : NumbersAreApart (0 ∷ 2 ∷ [])
numbers-that_are_apart = (refl, (refl, tt))

numbers-not_one_twice : NumbersAreApart (2 ∷ 0 ∷ 2 ∷ []) → ⊥
numbers-not_one_twice h = true≢false h.0

none_of-other_texts : HasNoneOf (codes "a" ∷ []) (codes "b" ∷ [])
none_of-other_texts = (refl, tt)

none_of-not_a_shared_text : HasNoneOf (codes "c" ∷ codes "b" ∷ []) (codes "b" ∷ []) → ⊥
none_of-not_a_shared_text h = true≢false h.1.0

-- ---- records

proof-of_32_bytes : proof_of (replicate 32 7) ≡ replicate 32 7
proof-of_32_bytes = refl

proof-not_of_31_bytes : proof_of (replicate 31 7) ≡ replicate 32 0
proof-not_of_31_bytes = refl

rounds-past_the_bound : rounds_of (Some 1000001) ≡ 0
rounds-past_the_bound = refl

types-of_two_texts : types_of (codes "code" ∷ codes "token id_token" ∷ []) ≡ true ∷ false ∷ true ∷ false ∷ false ∷ false ∷ []
unfolding spellings
types-of_two_texts = refl

types-of_a_number : types_of_number (Some 5) ≡ record { code = true; id_token = true; token = true }
types-of_a_number = refl

types-of_no_number : types_of_number None ≡ record { code = false; id_token = false; token = false }
types-of_no_number = refl

abbrev alice_of : List ℕ → User
alice_of claims = record { id = codes "alice"; salt = codes "salt"; rounds = 1; proof = replicate 32 0; claims = claims }

abbrev alice : User
alice = alice_of (codes "{}")

-- a client with this id, this secret and URIs at these hosts
abbrev client : Bool → List ℕ → List ℕ → List WebUrl → Client
client pairwise id secret urls = record { id = id; secret = secret; old_secret = None; seals_old = false; redirects = codes "https://a.b/cb" ∷ []; types = true ∷ false ∷ false ∷ false ∷ false ∷ false ∷ []; pairwise = pairwise; asks_consent = true; logout = None; logout_session = false; redirect_urls = urls; logout_url = None; title = [] }

abbrev long : List ℕ
long = codes "01234567890123456789012345678901"

abbrev shop : Client
shop = client false (codes "shop") long (at_host (codes "a.b") ∷ [])

-- another secret
abbrev older : List ℕ
older = codes "abcdefghijabcdefghijabcdefghijab"

-- the shop with an old secret, and the same where that one seals
abbrev changing : List ℕ → Client
changing old = record shop { old_secret = Some old }

abbrev sealing_old : Client
sealing_old = record (changing older) { seals_old = true }

secrets-of_one : secrets shop ≡ long ∷ []
secrets-of_one = refl

secrets-of_two : secrets (changing older) ≡ long ∷ older ∷ []
secrets-of_two = refl

secrets-of_all : all_secrets (changing older ∷ client false (codes "news") [] [] ∷ []) ≡ long ∷ older ∷ [] ∷ []
secrets-of_all = refl

has_secret-the_old_one : has_secret older (changing older) ≡ true
has_secret-the_old_one = refl

has_secret-no_other : has_secret (codes "x") (changing older) ≡ false
has_secret-no_other = refl

seals-with_its_secret : sealing (changing older) ≡ long
seals-with_its_secret = refl

seals-with_its_old_one : sealing sealing_old ≡ older
seals-with_its_old_one = refl

-- the party of this name, at a client and a path
abbrev party : List ℕ → ℕ → List ℕ → Party
party name number path = record { name = name; client = number; redirect = codes "https://a.b/cb"; listen = codes "a.b:80"; types = types_of_number (Some 0); scope = codes "openid"; prompt = None; max_age = None; userinfo = false; signed = false; redirect_url = record { secure = true; host = codes "a.b"; port = 443; path = path; query = None }; settings = usual_party_settings }

-- a URL at the shop's host
abbrev at_shop : ℕ → List ℕ → WebUrl
at_shop port path = record { secure = true; host = codes "a.b"; port = port; path = path; query = None }

place-of_a_client : client_place (codes "shop") (shop ∷ []) ≡ Some 0
place-of_a_client = refl

place-of_no_client : client_number (codes "news") (shop ∷ []) ≡ 1
place-of_no_client = refl

-- ---- what stands twice, and what is too short or too much

twice-a_user : each (user_twice (alice ∷ alice ∷ [])) (alice ∷ alice ∷ []) ≡ no.Twice (codes "alice") ∷ []
twice-a_user = refl

twice-a_secret : client_twice [] (shop ∷ client false (codes "news") long [] ∷ []) 1 (client false (codes "news") long []) ≡ no.Twice (codes "news") ∷ no.Twice (codes "https://a.b/cb") ∷ []
twice-a_secret = refl

-- an old secret that is the secret, or the old secret, of an earlier client
twice-an_old_secret : client_twice [] (shop ∷ record (changing long) { id = codes "news"; secret = older; redirects = [] } ∷ []) 1 (record (changing long) { id = codes "news"; secret = older; redirects = [] }) ≡ no.Twice (codes "news") ∷ []
twice-an_old_secret = refl

twice-the_old_secret_of_an_earlier_client : client_twice [] (changing older ∷ client false (codes "news") older [] ∷ []) 1 (client false (codes "news") older []) ≡ no.Twice (codes "news") ∷ no.Twice (codes "https://a.b/cb") ∷ []
twice-the_old_secret_of_an_earlier_client = refl

twice-its_own_secret : client_twice [] (changing long ∷ []) 0 (changing long) ≡ no.Twice (codes "shop") ∷ []
twice-its_own_secret = refl

twice-not_an_old_secret_of_its_own : client_twice [] (changing older ∷ []) 0 (changing older) ≡ []
twice-not_an_old_secret_of_its_own = refl

twice-not_one_client : client_twice (codes "https://a.b") (shop ∷ []) 0 shop ≡ []
twice-not_one_client = refl

twice-the_issuer : client_twice (codes "shop") (shop ∷ []) 0 shop ≡ no.Twice (codes "shop") ∷ []
twice-the_issuer = refl

twice-a_client_of_two_parties : each (party_twice (shop ∷ []) (party (codes "a") 0 [] ∷ party (codes "b") 0 [] ∷ [])) (party (codes "a") 0 [] ∷ party (codes "b") 0 [] ∷ []) ≡ no.Twice (codes "shop") ∷ []
twice-a_client_of_two_parties = refl

twice-a_party_named_op : party_twice (shop ∷ []) (party (codes "op") 0 [] ∷ []) 0 (party (codes "op") 0 []) ≡ no.Twice (codes "op") ∷ []
twice-a_party_named_op = refl

short-of_31 : short_secret 0 (client false (codes "shop") (replicate 31 65) []) ≡ no.ShortSecret (codes "shop") ∷ []
short-of_31 = refl

short-of_an_old_secret_of_31 : short_secret 0 (changing (replicate 31 65)) ≡ no.ShortSecret (codes "shop") ∷ []
short-of_an_old_secret_of_31 = refl

short-not_of_an_old_secret_of_32 : short_secret 0 (changing older) ≡ []
short-not_of_an_old_secret_of_32 = refl

short-not_of_32 : short_secret 0 shop ≡ []
short-not_of_32 = refl

size-of_long_claims : user_size 0 (alice_of (replicate 2049 32)) ≡ no.TooMany (codes "claims") ∷ []
size-of_long_claims = refl

size-of_the_513th_user : user_size 512 alice ≡ no.TooMany (codes "user") ∷ []
size-of_the_513th_user = refl

size-not_at_the_bounds : user_size 511 (alice_of (replicate 2048 32)) ≡ []
size-not_at_the_bounds = refl

-- long claims of the first of two rows come before the second row's being one too many
size-row_by_row : each_from user_size 511 (alice_of (replicate 2049 32) ∷ alice ∷ []) ≡ no.TooMany (codes "claims") ∷ no.TooMany (codes "user") ∷ []
size-row_by_row = refl

mixed-hosts_of_a_pairwise_client : mixed_hosts 0 (client true (codes "shop") long (at_host (codes "a") ∷ at_host (codes "b") ∷ [])) ≡ no.MixedHosts (codes "shop") ∷ []
mixed-hosts_of_a_pairwise_client = refl

mixed-not_of_a_public_client : mixed_hosts 0 (client false (codes "shop") long (at_host (codes "a") ∷ at_host (codes "b") ∷ [])) ≡ []
mixed-not_of_a_public_client = refl

unknown-client : unknown_client 1 0 (party (codes "a") 1 []) ≡ no.UnknownClient (codes "a") ∷ []
unknown-client = refl

unknown-not_the_first : unknown_client 1 0 (party (codes "a") 0 []) ≡ []
unknown-not_the_first = refl

-- ---- subjects: the pairwise one is made with Python's hashlib and base64

subject-at_a_public_client : subject_of (codes "salt") shop alice ≡ codes "alice"
subject-at_a_public_client = refl

subject-at_a_pairwise_client : subject_of (codes "salt") (client true (codes "shop") long (at_host (codes "a.b") ∷ [])) alice ≡ codes "QX-lyWes_Fm5a1d9OjRmAk135DvWfomkjy0WLk2JK5k"
unfolding pairwise_subject base64url_on_literals first_words schedule rounds compress hash_after digest_bytes sha256
subject-at_a_pairwise_client = refl

clash-of_two_users : clashes shop (alice ∷ alice ∷ []) (codes "s" ∷ codes "s" ∷ []) ≡ no.SubjectClash (codes "shop") (codes "alice") (codes "alice") ∷ []
clash-of_two_users = refl

clash-not_of_two_subjects : clashes shop (alice ∷ alice ∷ []) (codes "s" ∷ codes "t" ∷ []) ≡ []
clash-not_of_two_subjects = refl

is_subject-of_a_name : IsSubject (codes "alice")
is_subject-of_a_name = user_id_is_subject (codes "alice") refl

is_subject-not_of_nothing : IsSubject [] → ⊥
is_subject-not_of_nothing h = true≢false (sym h.within)

is_subject-not_of_other_bytes : IsSubject (200 ∷ []) → ⊥
is_subject-not_of_other_bytes h = let less : 200 < 128 = h.ascii 0 in absurd (omega (arith, less))

-- ---- rows that break their rules

not_a_user-of_no_rounds : IsUser (record { id = codes "alice"; salt = codes "salt"; rounds = 0; proof = replicate 32 0; claims = [] }) → ⊥
not_a_user-of_no_rounds h = true≢false (sym h.rounds)

not_a_user-of_a_proof_of_31_bytes : IsUser (record alice { proof = replicate 31 0 }) → ⊥
not_a_user-of_a_proof_of_31_bytes h = let long : ◌≡◌ {A = ℕ} 31 32 = h.proof in absurd (omega (arith, long))

not_a_client-of_a_short_secret : IsClient (client false (codes "shop") (codes "short") []) → ⊥
not_a_client-of_a_short_secret h = absurd (omega (arith, h.long_secret))

not_a_client-of_a_short_old_secret : IsClient (changing (codes "short")) → ⊥
not_a_client-of_a_short_old_secret h = absurd (omega (arith, h.old_secret.long))

not_a_client-that_seals_with_no_old_secret : IsClient (record shop { seals_old = true }) → ⊥
not_a_client-that_seals_with_no_old_secret h = true≢false h.seals

is_secret-of_32 : IsSecret older
is_secret-of_32 = record { name = refl; long = omega arith }

not_a_client-of_one_response_type : IsClient (record shop { types = true ∷ [] }) → ⊥
not_a_client-of_one_response_type h = absurd (omega (arith, h.types))

not_a_client-of_no_id : IsClient (record shop { id = [] }) → ⊥
not_a_client-of_no_id h = true≢false (sym h.id)

not_a_client-of_a_secret_of_129 : IsClient (record shop { secret = replicate 129 65 }) → ⊥
not_a_client-of_a_secret_of_129 h = true≢false (sym h.secret)

not_a_client-of_no_kept_urls : IsClient (record shop { redirect_urls = [] }) → ⊥
unfolding url_on_literals parts_of
not_a_client-of_no_kept_urls h = cc h.kept

not_a_client-of_a_bad_logout_uri : IsClient (record shop { logout = Some (codes "http://a.b/") }) → ⊥
unfolding url_on_literals parts_of
not_a_client-of_a_bad_logout_uri h = true≢false (sym h.logout)

not_a_client-of_another_kept_logout : IsClient (record shop { logout_url = Some (at_shop 443 (codes "/logout")) }) → ⊥
not_a_client-of_another_kept_logout h = cc h.logout_kept

not_a_party-at_its_own_path : IsParty (party (codes "shop") 0 (codes "/leave")) → ⊥
not_a_party-at_its_own_path h = true≢false h.path

not_a_party-in_capitals : IsParty (record (party (codes "shop") 0 (codes "/cb")) { name = codes "Shop" }) → ⊥
not_a_party-in_capitals h = true≢false (sym h.name)

not_a_party-that_listens_nowhere : IsParty (record (party (codes "shop") 0 (codes "/cb")) { listen = [] }) → ⊥
not_a_party-that_listens_nowhere h = true≢false (sym h.listen)

not_a_party-of_an_unknown_prompt : IsParty (record (party (codes "shop") 0 (codes "/cb")) { prompt = Some (codes "register") }) → ⊥
not_a_party-of_an_unknown_prompt h = true≢false (sym h.prompt)

not_a_party-of_an_age_of_a_thousand_million : IsParty (record (party (codes "shop") 0 (codes "/cb")) { max_age = Some 1000000000 }) → ⊥
not_a_party-of_an_age_of_a_thousand_million h = true≢false (sym h.age)

fits-shop : FitsClient (party (codes "shop") 0 (codes "/cb")) shop
fits-shop = record { redirect = refl; logout = refl; logout_of = tt; number = 0; types = refl; has_type = refl }

not_fitting-another_redirection_uri : FitsClient (party (codes "shop") 0 (codes "/cb")) (record { id = codes "shop"; secret = long; old_secret = None; seals_old = false; redirects = []; types = []; pairwise = false; asks_consent = true; logout = None; logout_session = false; redirect_urls = []; logout_url = None; title = [] }) → ⊥
not_fitting-another_redirection_uri h = true≢false (sym h.redirect)

logout-of_the_party : IsLogoutOf (party (codes "shop") 0 (codes "/cb")) (at_shop 443 (codes "/logout"))
logout-of_the_party = record { server = refl; path = refl }

not_a_logout-at_another_port : IsLogoutOf (party (codes "shop") 0 (codes "/cb")) (at_shop 444 (codes "/logout")) → ⊥
not_a_logout-at_another_port h = true≢false (sym h.server)

not_a_logout-at_another_host : IsLogoutOf (party (codes "shop") 0 (codes "/cb")) (record (at_shop 443 (codes "/logout")) { host = codes "a.c" }) → ⊥
not_a_logout-at_another_host h = true≢false (sym h.server)

not_a_logout-of_another_scheme : IsLogoutOf (party (codes "shop") 0 (codes "/cb")) (record (at_shop 443 (codes "/logout")) { secure = false }) → ⊥
not_a_logout-of_another_scheme h = true≢false (sym h.server)

not_a_logout-at_the_own_path : IsLogoutOf (party (codes "shop") 0 (codes "/cb")) (at_shop 443 (codes "/leave")) → ⊥
not_a_logout-at_the_own_path h = true≢false h.path

fits-a_client_with_a_logout_uri : FitsClient (party (codes "shop") 0 (codes "/cb")) (record shop { logout_url = Some (at_shop 443 (codes "/logout")) })
fits-a_client_with_a_logout_uri = record { redirect = refl; logout = refl; logout_of = logout-of_the_party; number = 0; types = refl; has_type = refl }

not_fitting-a_logout_uri_at_another_port : FitsClient (party (codes "shop") 0 (codes "/cb")) (record shop { logout_url = Some (at_shop 444 (codes "/logout")) }) → ⊥
not_fitting-a_logout_uri_at_another_port h = not_a_logout-at_another_port h.logout_of

-- ---- a whole configuration

abbrev refused : RegNo → Result Configuration RegNo
refused e = Err e

-- a provider with this issuer
abbrev provider : List ℕ → Data
provider issuer = table (member (codes "issuer") (string issuer) (member (codes "listen") (string (codes "a.b:443")) (member (codes "salt") (string (codes "00112233445566778899aabbccddeeff")) no_members)))

abbrev user_row : Data
user_row = table (member (codes "id") (string (codes "alice")) (member (codes "salt") (string (codes "73616c74")) (member (codes "rounds") (integer (pos 1)) (member (codes "proof") (string (codes "120fb6cffcf8b32c43e7225256c4f837a86548c92ccc35480805987cb70be17b")) no_members))))

abbrev client_row : List ℕ → Data
client_row secret = table (member (codes "id") (string (codes "shop")) (member (codes "secret") (string secret) (member (codes "redirect_uris") (array (item (string (codes "https://a.b/cb")) no_items)) no_members)))

abbrev party_row : List ℕ → Data
party_row client = table (member (codes "name") (string (codes "shop")) (member (codes "client") (string client) (member (codes "redirect_uri") (string (codes "https://a.b/cb")) (member (codes "listen") (string (codes "a.b:80")) no_members))))

-- a provider with this issuer and a user, a client with this secret, and a party that names this client
abbrev small_at : List ℕ → List ℕ → List ℕ → Data
small_at issuer secret client = table (member (codes "version") (integer (pos 1)) (member (codes "provider") (provider issuer) (member (codes "user") (array (item user_row no_items)) (member (codes "client") (array (item (client_row secret) no_items)) (member (codes "party") (array (item (party_row client) no_items)) no_members)))))

abbrev small : List ℕ → List ℕ → Data
small secret client = small_at (codes "https://a.b") secret client

abbrev good : Data
good = small long (codes "shop")

-- the same, where the issuer ends in a slash, and in a backslash
abbrev with_slash : Data
with_slash = small_at (codes "https://a.b/op/") long (codes "shop")

abbrev with_backslash : Data
with_backslash = small_at (codes "https://a.b/op\\") long (codes "shop")

guiltless : refusals_of good ≡ []
unfolding version_in rows_refusals records_refusals subjects_refusals party_of lacks_type spellings url_on_literals parts_of hex_on_literals claims_on_literals
guiltless = refl

guiltless_with_slash : refusals_of with_slash ≡ []
unfolding version_in rows_refusals records_refusals subjects_refusals party_of lacks_type spellings url_on_literals parts_of hex_on_literals claims_on_literals
guiltless_with_slash = refl

guiltless_with_backslash : refusals_of with_backslash ≡ []
unfolding version_in rows_refusals records_refusals subjects_refusals party_of lacks_type spellings url_on_literals parts_of hex_on_literals claims_on_literals
guiltless_with_backslash = refl

guilty-of_two : refusals_of (small (codes "short") (codes "news")) ≡ no.ShortSecret (codes "shop") ∷ no.UnknownClient (codes "shop") ∷ []
unfolding version_in rows_refusals records_refusals subjects_refusals party_of lacks_type spellings url_on_literals parts_of hex_on_literals claims_on_literals
guilty-of_two = refl

taken-by_the_definition : rows_read good ≡ Ok (configuration_of good)
taken-by_the_definition = rows_answer good ∙ ap (λ es. unless_refused (least es) (Ok (configuration_of good))) guiltless

no_claims_held : AllHoldClaims (users_of good)
unfolding AllHoldClaims
no_claims_held = (holds user_row (user_of user_row).claims json.no_members refl refl ClaimsFit-none, tt)

guiltless_registry : (root : Data) → AllHoldClaims (users_of root) → refusals_of root ≡ [] → IsRegistry (configuration_of root)
guiltless_registry root held none =
    let rows : List RegNo = rows_refusals root in
    let records : List RegNo = records_refusals (issuer_of root) (users_of root) (clients_of root) (parties_of root) in
    let subjects : List RegNo = subjects_refusals (salt_of root) (users_of root) (clients_of root) in
    registered root held (front_nil rows records (front_nil (rows ++ records) subjects none)) (back_nil rows records (front_nil (rows ++ records) subjects none)) (back_nil (rows ++ records) subjects none)

good_registry : IsRegistry (configuration_of good)
good_registry = guiltless_registry good no_claims_held guiltless

slash_registry : IsRegistry (configuration_of with_slash)
slash_registry = guiltless_registry with_slash no_claims_held guiltless_with_slash

backslash_registry : IsRegistry (configuration_of with_backslash)
backslash_registry = guiltless_registry with_backslash no_claims_held guiltless_with_backslash

prefix-of_an_issuer_with_a_slash : (configuration_of with_slash).prefix ≡ codes "/op"
unfolding configuration_of url_on_literals parts_of
prefix-of_an_issuer_with_a_slash = refl

prefix-of_an_issuer_with_a_backslash : (configuration_of with_backslash).prefix ≡ codes "/op"
unfolding configuration_of url_on_literals parts_of
prefix-of_an_issuer_with_a_backslash = refl

served-below_a_slash : IfSome (url_of (configuration_of with_slash).provider.token) (λ (u : WebUrl). u.path ≡ (configuration_of with_slash).prefix ++ codes "/token")
served-below_a_slash = token_served (configuration_of with_slash) slash_registry

served-below_a_backslash : IfSome (url_of (configuration_of with_backslash).provider.token) (λ (u : WebUrl). u.path ≡ (configuration_of with_backslash).prefix ++ codes "/token")
served-below_a_backslash = token_served (configuration_of with_backslash) backslash_registry

is_user-alice : IsUser (user_of user_row)
unfolding configuration_of
is_user-alice = good_registry.user_rules.0

is_client-shop : IsClient (client_of_row First (client_row long))
unfolding version_in configuration_of
is_client-shop = good_registry.client_rules.0

-- the keys of the second version
abbrev changing_row : Data
changing_row = table (member (codes "secret") (string long) (member (codes "old_secret") (string older) (member (codes "seals") (string (codes "old")) no_members)))

sealing-of_version_2 : sealing (client_of_row Second changing_row) ≡ older
sealing-of_version_2 = refl

secrets-of_version_2 : secrets (client_of_row Second changing_row) ≡ long ∷ older ∷ []
secrets-of_version_2 = refl

secrets-of_version_1 : secrets (client_of_row First changing_row) ≡ long ∷ []
secrets-of_version_1 = refl

-- ---- whether the histories last

abbrev with_history : List ℕ → Data
with_history t = table (member (codes "history") (string t) no_members)

lasting-said_in_version_2 : lasting_of Second (with_history (codes "lasting")) ≡ true
lasting-said_in_version_2 = refl

lasting-not_if_stored : lasting_of Second (with_history (codes "stored")) ≡ false
lasting-not_if_stored = refl

lasting-not_by_default : lasting_of Second (table no_members) ≡ false
lasting-not_by_default = refl

lasting-ignored_in_version_1 : lasting_of First (with_history (codes "lasting")) ≡ false
lasting-ignored_in_version_1 = refl

-- ---- pages and titles

abbrev with_text : List ℕ → List ℕ → Data
with_text key t = table (member key (string t) no_members)

full_pages-said_in_version_2 : full_pages_of Second (with_text (codes "pages") (codes "full")) ≡ true
full_pages-said_in_version_2 = refl

full_pages-not_if_plain : full_pages_of Second (with_text (codes "pages") (codes "plain")) ≡ false
full_pages-not_if_plain = refl

full_pages-not_by_default : full_pages_of Second (table no_members) ≡ false
full_pages-not_by_default = refl

full_pages-ignored_in_version_1 : full_pages_of First (with_text (codes "pages") (codes "full")) ≡ false
full_pages-ignored_in_version_1 = refl

provider_title-said_in_version_2 : provider_title Second (with_text (codes "title") (codes "Accounts")) ≡ codes "Accounts"
provider_title-said_in_version_2 = refl

client_title-said_in_version_2 : client_title Second (with_text (codes "title") (codes "A <Shop>")) ≡ codes "A <Shop>"
client_title-said_in_version_2 = refl

client_title-its_id_by_default : client_title Second (with_text (codes "id") (codes "shop")) ≡ codes "shop"
client_title-its_id_by_default = refl

client_title-ignored_in_version_1 : client_title First (table (member (codes "id") (string (codes "shop")) (member (codes "title") (string (codes "A <Shop>")) no_members))) ≡ codes "shop"
client_title-ignored_in_version_1 = refl

-- ---- names of cookies, and workers

abbrev with_workers : ℕ → Data
with_workers n = table (member (codes "workers") (integer (pos n)) no_members)

cookies-of_a_host_in_version_2 : (settings_of Second (with_text (codes "cookies") (codes "host"))).host_cookies ≡ true
cookies-of_a_host_in_version_2 = refl

cookies-that_are_plain : (settings_of Second (with_text (codes "cookies") (codes "plain"))).host_cookies ≡ false
cookies-that_are_plain = refl

settings-that_are_usual : settings_of Second (table no_members) ≡ usual_settings
settings-that_are_usual = refl

settings-ignored_in_version_1 : settings_of First (table (member (codes "cookies") (string (codes "host")) (member (codes "workers") (integer (pos 64)) no_members))) ≡ usual_settings
settings-ignored_in_version_1 = refl

workers-said_in_version_2 : (settings_of Second (with_workers 64)).workers ≡ 64
workers-said_in_version_2 = refl

workers-of_a_party : (party_settings_of Second (with_workers 16)).workers ≡ 16
workers-of_a_party = refl

workers-of_a_party_in_version_1 : party_settings_of First (with_workers 16) ≡ usual_party_settings
workers-of_a_party_in_version_1 = refl

not_a_registry-with_65_workers : (c : Configuration) → IsRegistry (record c { settings = record usual_settings { workers = 65 } }) → ⊥
not_a_registry-with_65_workers c h = true≢false (sym h.settings.workers)

not_a_registry-with_names_of_a_host_over_http : (c : Configuration) → IsRegistry (record c { settings = record usual_settings { host_cookies = true }; secure = false }) → ⊥
not_a_registry-with_names_of_a_host_over_http c h = true≢false h.settings.issuer_https

not_a_party-with_3_workers : IsParty (record (party (codes "shop") 0 (codes "/cb")) { settings = record usual_party_settings { workers = 3 } }) → ⊥
not_a_party-with_3_workers h = true≢false (sym h.settings.workers)

is_party-shop : IsParty (party_of (version_in good) (clients_of good) (party_row (codes "shop")))
unfolding configuration_of
is_party-shop = good_registry.party_rules.0

holds-not_in_nothing : HoldsClaims [] → ⊥
holds-not_in_nothing h = cc h.text

kind-of_a_text : has_kind (Some claim.Text) (json.string (codes "x")) ≡ true
kind-of_a_text = refl

kind-not_of_a_flag_in_words : has_kind (Some claim.Flag) (json.string (codes "true")) ≡ false
kind-not_of_a_flag_in_words = refl

kind-of_seconds : has_kind (Some claim.Seconds) (json.number (json.unsigned 7)) ≡ true
kind-of_seconds = refl

kind-not_of_too_many_seconds : has_kind (Some claim.Seconds) (json.number (json.unsigned (2 ^ 40))) ≡ false
kind-not_of_too_many_seconds = refl

kind-of_an_address : has_kind (Some claim.Address) (json.object (json.member (codes "country") (json.string (codes "x")) json.no_members)) ≡ true
kind-of_an_address = refl

kind-not_of_an_address_with_a_number : has_kind (Some claim.Address) (json.object (json.member (codes "country") (json.number (json.unsigned 7)) json.no_members)) ≡ false
kind-not_of_an_address_with_a_number = refl

-- a text that is written of claims that fit holds these
claims_held : (ms : json.Members) → ClaimsFit ms → (h : HoldsClaims (claims_text ms)) → h.claims ≡ ms
claims_held ms fits h = one_set h.claims ms (sym (claims_read-claims_text h.claims h.fits) ∙ ap claims_read (sym h.text) ∙ claims_read-claims_text ms fits)
  where
    one_set : (left right : json.Members) → ◌≡◌ {A = Result json.Members ClaimNo} (Ok left) (Ok right) → left ≡ right
    one_set left right e = cc

-- one claim of another kind, or of none
holds-not_a_claim_of_another_kind : (k : List ℕ) (d : json.Data) → ClaimsFit (json.member k d json.no_members) → has_kind (kind_of k) d ≡ false → HoldsClaims (claims_text (json.member k d json.no_members)) → ⊥
holds-not_a_claim_of_another_kind k d fits other h =
    let is : h.claims ≡ json.member k d json.no_members = claims_held (json.member k d json.no_members) fits h in
    true≢false (sym (h.known k d (ap (get_member k) is ∙ get_member-put k d json.no_members)) ∙ other)

-- the good configuration, where the user holds this text
abbrev holding : List ℕ → Configuration
holding text = record (configuration_of good) { users = alice_of text ∷ [] }

user_holds : (text : List ℕ) → IsRegistry (holding text) → HoldsClaims text
unfolding AllHoldClaims
user_holds text h = h.user_claims.0

not_a_registry-whose_user_has_a_size_of_shoes : IsRegistry (holding (codes "{\"shoe_size\":38}")) → ⊥
unfolding claims_on_literals is_claim_of profile_claims email_claims address_claims phone_claims flag_claims seconds_claims
not_a_registry-whose_user_has_a_size_of_shoes h =
    holds-not_a_claim_of_another_kind (codes "shoe_size") (json.number (json.unsigned 38))
    (ClaimsFit-put (codes "shoe_size") (json.number (json.unsigned 38)) json.no_members (IsUtf8-are_ascii (codes "shoe_size") refl) (omega arith) (omega arith) ClaimsFit-none) refl
    (user_holds (codes "{\"shoe_size\":38}") h)

not_a_registry-whose_flag_is_a_word : IsRegistry (holding (codes "{\"email_verified\":\"x\"}")) → ⊥
unfolding claims_on_literals is_claim_of profile_claims email_claims address_claims phone_claims flag_claims seconds_claims
not_a_registry-whose_flag_is_a_word h =
    holds-not_a_claim_of_another_kind (codes "email_verified") (json.string (codes "x"))
    (ClaimsFit-put (codes "email_verified") (json.string (codes "x")) json.no_members (IsUtf8-are_ascii (codes "email_verified") refl) (IsUtf8-are_ascii (codes "x") refl) (omega arith) ClaimsFit-none) refl
    (user_holds (codes "{\"email_verified\":\"x\"}") h)

abbrev twins : Configuration
twins = record { provider = provider_of []; prefix = []; listen = []; secure = true; users = alice ∷ alice ∷ []; clients = shop ∷ []; parties = []; subjects = (codes "s" ∷ codes "t" ∷ []) ∷ []; lasting = false; full_pages = false; title = []; settings = usual_settings }

not_a_registry-of_one_id_twice : IsRegistry twins → ⊥
not_a_registry-of_one_id_twice h = true≢false h.user_ids.0

not_a_registry-without_subjects : IsRegistry (record twins { subjects = [] }) → ⊥
not_a_registry-without_subjects h = let rows : ◌≡◌ {A = ℕ} 0 1 = h.rows in absurd (omega (arith, rows))

-- ---- rows by their numbers

abbrev no_user : Option User
no_user = None

abbrev no_shop : Option Client
no_shop = None

abbrev no_row : Option Party
no_row = None

-- a configuration with one party
abbrev at_work : Configuration
at_work = record twins { parties = party (codes "shop") 0 (codes "/cb") ∷ [] }

user-of_a_number : user_at at_work 1 ≡ Some alice
user-of_a_number = refl

user-of_no_number : user_at at_work 2 ≡ no_user
user-of_no_number = refl

client-of_a_number : client_at at_work 0 ≡ Some shop
client-of_a_number = refl

client-of_no_number : client_at at_work 1 ≡ no_shop
client-of_no_number = refl

party-of_a_number : party_at at_work 0 ≡ Some (party (codes "shop") 0 (codes "/cb"))
party-of_a_number = refl

party-of_no_number : party_at at_work 1 ≡ no_row
party-of_no_number = refl

number-of_a_client : is_client at_work 0 ≡ true
number-of_a_client = refl

number-of_no_client : is_client at_work 1 ≡ false
number-of_no_client = refl

id-of_a_client : client_id at_work 0 ≡ codes "shop"
id-of_a_client = refl

id-of_no_client : client_id at_work 1 ≡ []
id-of_no_client = refl

sealing-of_a_client : client_sealing at_work 0 ≡ long
sealing-of_a_client = refl

sealing-of_no_client : client_sealing at_work 1 ≡ []
sealing-of_no_client = refl

-- ---- sets of clients

has_client-added : has_client 127 (with_client 127 no_clients) ≡ true
unfolding no_clients
has_client-added = refl

has_client-not_another : has_client 126 (with_client 127 no_clients) ≡ false
unfolding no_clients
has_client-not_another = refl

has_client-not_beyond_the_last : has_client 128 (with_client 127 no_clients) ≡ false
unfolding no_clients
has_client-not_beyond_the_last = refl

-- ---- subjects and the issuer of a registry

subject-of_the_second_user : subject_at twins 0 1 ≡ codes "t"
subject-of_the_second_user = refl

subject-of_no_client : subject_at twins 1 0 ≡ []
subject-of_no_client = refl

issuer_url-of_the_good_one : IsIssuerUrl (configuration_of good) (at_shop 443 (codes "/"))
unfolding configuration_of url_on_literals parts_of
issuer_url-of_the_good_one = record { query = refl; prefix = refl; secure = refl }

not_an_issuer_url-with_another_prefix : IsIssuerUrl (configuration_of good) (at_shop 443 (codes "/op")) → ⊥
unfolding configuration_of url_on_literals parts_of
not_an_issuer_url-with_another_prefix h = cc h.prefix

subjects_by-the_salt : AreSubjectsBy (configuration_of good) (salt_of good)
unfolding configuration_of hex_on_literals
subjects_by-the_salt = record { within = refl; bytes = hex_is_bytes (codes "salt") (provider_table good); made = refl }

not_subjects_by-a_salt_of_15_bytes : AreSubjectsBy (configuration_of good) (replicate 15 7) → ⊥
not_subjects_by-a_salt_of_15_bytes h = true≢false (sym h.within)

not_a_byte : (xs : List ℕ) → IsBytes (256 ∷ xs) → ⊥
not_a_byte xs h = let less : 256 < 256 = h 0 in absurd (omega (arith, less))

not_subjects_by-a_salt_of_no_bytes : AreSubjectsBy (configuration_of good) (256 ∷ replicate 15 7) → ⊥
not_subjects_by-a_salt_of_no_bytes h = not_a_byte (replicate 15 7) h.bytes

not_subjects_by-none : AreSubjectsBy (record (configuration_of good) { subjects = [] }) (salt_of good) → ⊥
unfolding configuration_of
not_subjects_by-none h = cc h.made

not_a_user-of_a_salt_of_no_bytes : IsUser (record alice { salt = 256 ∷ [] }) → ⊥
not_a_user-of_a_salt_of_no_bytes h = not_a_byte [] h.salt_bytes

not_a_user-of_a_proof_of_no_bytes : IsUser (record alice { proof = 256 ∷ replicate 31 0 }) → ⊥
not_a_user-of_a_proof_of_no_bytes h = not_a_byte (replicate 31 0) h.proof_bytes

not_a_registry-that_listens_nowhere : IsRegistry (record (configuration_of good) { listen = [] }) → ⊥
not_a_registry-that_listens_nowhere h = true≢false (sym h.listen)

not_an_issuer_url-with_a_query : IsIssuerUrl (configuration_of good) (record (at_shop 443 (codes "/")) { query = Some (codes "a=b") }) → ⊥
not_an_issuer_url-with_a_query h = cc h.query

not_an_issuer_url-of_http : IsIssuerUrl (configuration_of good) (record (at_shop 443 (codes "/")) { secure = false }) → ⊥
unfolding configuration_of url_on_literals parts_of
not_an_issuer_url-of_http h = true≢false h.secure

not_a_registry-with_an_issuer_of_201_bytes : IsRegistry (record (configuration_of good) { provider = provider_of (replicate 201 65) }) → ⊥
not_a_registry-with_an_issuer_of_201_bytes h = let short : 201 ≤ 200 = h.short_issuer in absurd (omega (arith, short))

not_a_registry-whose_issuer_is_no_utf8 : IsRegistry (record (configuration_of good) { provider = provider_of (255 ∷ []) }) → ⊥
unfolding parts_of
not_a_registry-whose_issuer_is_no_utf8 h = true≢false (sym h.issuer)

not_a_registry-with_no_userinfo_endpoint : IsRegistry (record (configuration_of good) { provider = record (provider_of (codes "https://a.b")) { userinfo = None } }) → ⊥
not_a_registry-with_no_userinfo_endpoint h = cc (ap (λ (p : Provider). p.userinfo) h.provider)

not_a_registry-with_a_token_endpoint_that_breaks_the_rule : IsRegistry (record (configuration_of good) { provider = record (provider_of (codes "https://a.b")) { token = codes "http://a.b/token" } }) → ⊥
unfolding url_on_literals parts_of
not_a_registry-with_a_token_endpoint_that_breaks_the_rule h = true≢false (sym (ap (λ (p : Provider). is_some (url_of p.token)) h.provider))

endpoint-keeps_the_rule : is_some (url_of (configuration_of good).provider.token) ≡ true
endpoint-keeps_the_rule = token_url (configuration_of good) good_registry

least-of_two_refusals : IsLeast (no.ShortSecret (codes "shop")) (refusals_of (small (codes "short") (codes "news")))
least-of_two_refusals = least_is (no.ShortSecret (codes "shop")) _ (ap least guilty-of_two)

refused-for_the_least : rows_read (small (codes "short") (codes "news")) ≡ refused (no.ShortSecret (codes "shop"))
refused-for_the_least = rows_answer (small (codes "short") (codes "news")) ∙ ap (λ es. unless_refused (least es) (Ok (configuration_of (small (codes "short") (codes "news"))))) guilty-of_two

-- ---- whole texts

abbrev short_text : List ℕ
short_text = codes "version = 1\n[provider]\nissuer = \"https://a.b\"\nlisten = \"a.b:443\"\nsalt = \"00112233445566778899aabbccddeeff\"\n"

abbrev nobody : Configuration
nobody = record { provider = provider_of (codes "https://a.b"); prefix = []; listen = codes "a.b:443"; secure = true; users = []; clients = []; parties = []; subjects = []; lasting = false; full_pages = false; title = codes "a.b"; settings = usual_settings }

document-of_one_key : document_in (codes "a = 1") ≡ Some (table (member (codes "a") (integer (pos 1)) no_members))
unfolding document_in toml_on_literals is_utf8 chars
document-of_one_key = refl

document-not_of_a_key_alone : document_in (codes "a") ≡ None
unfolding document_in toml_on_literals is_utf8 chars
document-not_of_a_key_alone = refl

read-a_short_text : registry_read short_text ≡ Ok nobody
unfolding document_in toml_on_literals version_in rows_read records_read subjects_read rows_refusals records_refusals subjects_refusals configuration_of url_on_literals parts_of hex_on_literals is_utf8 chars
read-a_short_text = refl

accepted-a_short_text : IsAccepted short_text nobody
accepted-a_short_text = accepted_only short_text nobody read-a_short_text

refused-another_version : registry_read (codes "version = 3") ≡ refused no.Version
unfolding document_in toml_on_literals is_utf8 chars
refused-another_version = refl

is_other-version_3 : IsOtherVersion (codes "version = 3")
is_other-version_3 = version_only (codes "version = 3") refused-another_version

refused-no_toml : registry_read (codes "version =") ≡ refused no.NotToml
unfolding document_in toml_on_literals is_utf8 chars
refused-no_toml = refl

refused-no_utf8 : registry_read (255 ∷ []) ≡ refused no.NotToml
unfolding document_in toml_on_literals is_utf8 chars
refused-no_utf8 = refl

refused-an_empty_text : registry_read [] ≡ refused no.Version
unfolding document_in toml_on_literals is_utf8 chars
refused-an_empty_text = refl

refused-where_the_issuer_is_missing : registry_read (codes "version = 1") ≡ refused (no.Missing (codes "provider.issuer"))
unfolding document_in toml_on_literals version_in rows_read rows_refusals is_utf8 chars
refused-where_the_issuer_is_missing = refl

refused-in_version_2_where_the_issuer_is_missing : registry_read (codes "version = 2") ≡ refused (no.Missing (codes "provider.issuer"))
unfolding document_in toml_on_literals version_in rows_read rows_refusals is_utf8 chars
refused-in_version_2_where_the_issuer_is_missing = refl

refused-a_long_text : (n : ℕ) → 1048576 < n → registry_read (replicate n 32) ≡ refused no.TooLong
refused-a_long_text n long = too_long (replicate n 32) (omega (arith, length-replicate {A = ℕ} n 32, long))
