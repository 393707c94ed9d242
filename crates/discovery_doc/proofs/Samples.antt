-- The definitions computed on small cases: what each accepts, and what it refuses.
use Rattle.std.proofs.Common.{◌≡◌, ℕ, List, [], ◌∷◌, true, false, codes, Option, Some, None, Result, Ok, Err, refl, sym, ◌∙◌}
use Rattle.sso_base.specs.Texts.{has_text}
use Rattle.json.proofs.Printed.Utf8.{IsUtf8-are_ascii}
use Rattle.serde_json.specs.Data.{Data, string, array, number, unsigned, no_items, item, Members, no_members, member, put}
use Rattle.serde_json.specs.Find.{as_str}
use Rattle.sso_base.specs.Refusals.{first_refusal}
use Rattle.claim_set.specs.Reading.{claims_text}
use Rattle.claim_set.proofs.OnLiterals.{claims_on_literals}
use Rattle.url.proofs.OnLiterals.{url_on_literals}
use Rattle.registered_url.specs.Rule.{parts_of}
use Rattle.client_registry.specs.declared.records.Provider.{Provider}
use Rattle.discovery_doc.specs.declared.no.DiscNo.{DiscNo}
use Rattle.discovery_doc.specs.declared.no.DiscNo.TheVariants.{NotObject, Missing, IssuerDiffers, NoHs256, BadUrl}
use Rattle.discovery_doc.specs.Metadata.{metadata, texts}
use Rattle.discovery_doc.specs.Reading.{as_texts, member_as, text_in, texts_in, is_bad_url, is_bad_member, absences, faults, provider_in, members_read, discovery_read}
use Rattle.discovery_doc.specs.Document.{IsUrl, IsMetadata, IsDocument}
use Rattle.discovery_doc.specs.Printed.{IsPrintable}
use Rattle.discovery_doc.proofs.Documents.{read_stands, read_document, document_read, refused}
use Rattle.discovery_doc.proofs.Printed.{printed_reads, printed_read}

abbrev no : DiscNo → Result Provider DiscNo
no e = Err e

-- ---- the provider of an issuer at this machine, and the text of its document

abbrev here : Provider
here = record {
  issuer = codes "http://127.0.0.1:8080";
  authorize = codes "http://127.0.0.1:8080/authorize";
  token = codes "http://127.0.0.1:8080/token";
  userinfo = Some (codes "http://127.0.0.1:8080/userinfo");
}

text-of_the_provider_here : claims_text (metadata here) ≡ codes "{\"authorization_endpoint\":\"http://127.0.0.1:8080/authorize\",\"backchannel_logout_session_supported\":true,\"backchannel_logout_supported\":true,\"claims_parameter_supported\":true,\"id_token_signing_alg_values_supported\":[\"HS256\"],\"issuer\":\"http://127.0.0.1:8080\",\"jwks_uri\":\"http://127.0.0.1:8080/jwks\",\"request_object_signing_alg_values_supported\":[\"HS256\"],\"request_parameter_supported\":true,\"request_uri_parameter_supported\":false,\"response_modes_supported\":[\"query\",\"fragment\"],\"response_types_supported\":[\"code\",\"id_token\",\"id_token token\",\"code id_token\",\"code token\",\"code id_token token\"],\"scopes_supported\":[\"openid\",\"profile\",\"email\",\"address\",\"phone\"],\"subject_types_supported\":[\"public\",\"pairwise\"],\"token_endpoint\":\"http://127.0.0.1:8080/token\",\"token_endpoint_auth_methods_supported\":[\"client_secret_basic\",\"client_secret_post\"],\"userinfo_endpoint\":\"http://127.0.0.1:8080/userinfo\"}"
unfolding claims_on_literals metadata
text-of_the_provider_here = refl

is_url-here : IsUrl (codes "http://127.0.0.1:8080/authorize")
unfolding url_on_literals parts_of
is_url-here = refl

is_url-token : IsUrl (codes "http://127.0.0.1:8080/token")
unfolding url_on_literals parts_of
is_url-token = refl

is_url-userinfo : IsUrl (codes "http://127.0.0.1:8080/userinfo")
unfolding url_on_literals parts_of
is_url-userinfo = refl

bad_url-elsewhere : is_bad_url (codes "http://example.org/authorize") ≡ true
unfolding url_on_literals parts_of
bad_url-elsewhere = refl

printable-here : IsPrintable here
printable-here = record { issuer = IsUtf8-are_ascii (codes "http://127.0.0.1:8080") refl; authorize = is_url-here; token = is_url-token; userinfo = is_url-userinfo }

abbrev elsewhere : Provider
elsewhere = record { issuer = codes "http://example.org"; authorize = codes "http://example.org/authorize"; token = codes "http://127.0.0.1:8080/token"; userinfo = None }

no_url-elsewhere : IsUrl (codes "http://example.org/authorize") → ⊥
unfolding url_on_literals parts_of
no_url-elsewhere h = cc h

not_printable-elsewhere : IsPrintable elsewhere → ⊥
not_printable-elsewhere h = no_url-elsewhere h.authorize

read-what_is_written_here : discovery_read (codes "http://127.0.0.1:8080") (claims_text (metadata here)) ≡ Ok here
read-what_is_written_here = printed_read here printable-here

refused-for_another_issuer : discovery_read (codes "http://localhost:8080") (claims_text (metadata here)) ≡ no IssuerDiffers
unfolding metadata
refused-for_another_issuer = refused (codes "http://localhost:8080") (claims_text (metadata here)) (metadata here) IssuerDiffers (printed_reads here printable-here) refl

-- ---- kinds

texts-of_an_array : as_texts (array (item (string (codes "a")) (item (string (codes "b")) no_items))) ≡ Some (codes "a" ∷ codes "b" ∷ [])
texts-of_an_array = refl

abbrev no_texts : Option (List (List ℕ))
no_texts = None

texts-not_of_a_lone_string : as_texts (string (codes "a")) ≡ no_texts
texts-not_of_a_lone_string = refl

texts-not_of_an_array_with_a_number : as_texts (array (item (string (codes "a")) (item (number (unsigned 1)) no_items))) ≡ no_texts
texts-not_of_an_array_with_a_number = refl

among-the_second : has_text (codes "HS256") (codes "RS256" ∷ codes "HS256" ∷ []) ≡ true
among-the_second = refl

among-not_another_case : has_text (codes "HS256") (codes "RS256" ∷ codes "hs256" ∷ []) ≡ false
among-not_another_case = refl

bad_member-absent : is_bad_member None ≡ false
bad_member-absent = refl

bad_member-a_number : is_bad_member (Some (number (unsigned 1))) ≡ true
bad_member-a_number = refl

-- ---- members: a document with what must be there alone

abbrev small_with : List ℕ → Data → Members
small_with name d =
    put name d (member (codes "authorization_endpoint") (string (codes "https://a.b/a")) (
    member (codes "id_token_signing_alg_values_supported") (texts (codes "RS256" ∷ codes "HS256" ∷ [])) (
    member (codes "issuer") (string (codes "https://a.b")) (
    member (codes "jwks_uri") (string (codes "k")) (
    member (codes "response_types_supported") (texts []) (
    member (codes "subject_types_supported") (texts (codes "public" ∷ [])) (
    member (codes "token_endpoint") (string (codes "https://a.b/t")) no_members)))))))

abbrev small : Members
small = small_with (codes "other") (number (unsigned 1))

abbrev small_provider : Provider
small_provider = record { issuer = codes "https://a.b"; authorize = codes "https://a.b/a"; token = codes "https://a.b/t"; userinfo = None }

text_in-issuer : text_in (codes "issuer") small ≡ codes "https://a.b"
text_in-issuer = refl

text_in-a_member_of_another_kind : member_as as_str (codes "other") small ≡ None
text_in-a_member_of_another_kind = refl

texts_in-subject_types : texts_in (codes "subject_types_supported") small ≡ codes "public" ∷ []
texts_in-subject_types = refl

provider_in-small : provider_in small ≡ small_provider
provider_in-small = refl

absences-none : first_refusal (absences small) ≡ Ok tt
absences-none = refl

absences-of_a_lone_string : first_refusal (absences (small_with (codes "subject_types_supported") (string (codes "public")))) ≡ Err (Missing (codes "subject_types_supported"))
absences-of_a_lone_string = refl

absences-of_all : first_refusal (absences no_members) ≡ Err (Missing (codes "issuer"))
absences-of_all = refl

faults-none : first_refusal (faults (codes "https://a.b") small) ≡ Ok tt
unfolding url_on_literals parts_of
faults-none = refl

faults-of_another_issuer : first_refusal (faults (codes "https://a.b/") small) ≡ Err IssuerDiffers
faults-of_another_issuer = refl

faults-without_hs256 : first_refusal (faults (codes "https://a.b") (small_with (codes "id_token_signing_alg_values_supported") (texts []))) ≡ Err NoHs256
faults-without_hs256 = refl

read-small : members_read (codes "https://a.b") small ≡ Ok small_provider
unfolding url_on_literals parts_of
read-small = refl

read-not_a_token_endpoint_elsewhere : members_read (codes "https://a.b") (small_with (codes "token_endpoint") (string (codes "http://a.b/t"))) ≡ no (BadUrl (codes "token_endpoint"))
unfolding url_on_literals parts_of
read-not_a_token_endpoint_elsewhere = refl

read-not_a_userinfo_endpoint_that_is_a_number : members_read (codes "https://a.b") (small_with (codes "userinfo_endpoint") (number (unsigned 1))) ≡ no (BadUrl (codes "userinfo_endpoint"))
unfolding url_on_literals parts_of
read-not_a_userinfo_endpoint_that_is_a_number = refl

metadata-small : IsMetadata (codes "https://a.b") small small_provider
metadata-small = read_stands (codes "https://a.b") small small_provider read-small

no_metadata-of_another_issuer : IsMetadata (codes "https://a.b/") small small_provider → ⊥
no_metadata-of_another_issuer m = cc m.is_asked

-- ---- bytes

abbrev small_text : List ℕ
small_text = codes "{\"issuer\":\"https://a.b\",\"authorization_endpoint\":\"https://a.b/a\",\"token_endpoint\":\"https://a.b/t\",\"jwks_uri\":\"k\",\"response_types_supported\":[],\"subject_types_supported\":[],\"id_token_signing_alg_values_supported\":[\"HS256\"]}"

read-a_text : discovery_read (codes "https://a.b") small_text ≡ Ok small_provider
unfolding claims_on_literals url_on_literals parts_of discovery_read
read-a_text = refl

document-a_text : IsDocument (codes "https://a.b") small_text small_provider
document-a_text = read_document (codes "https://a.b") small_text small_provider read-a_text

read-no_members : discovery_read (codes "https://a.b") (codes "{}") ≡ no (Missing (codes "issuer"))
unfolding claims_on_literals discovery_read
read-no_members = refl

read-an_array : discovery_read (codes "https://a.b") (codes "[]") ≡ no NotObject
unfolding claims_on_literals discovery_read
read-an_array = refl

no_document-an_array : IsDocument (codes "https://a.b") (codes "[]") small_provider → ⊥
no_document-an_array d = let read = sym (document_read (codes "https://a.b") (codes "[]") small_provider d) ∙ read-an_array in cc read
