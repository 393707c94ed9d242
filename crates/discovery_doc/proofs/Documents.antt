-- The bytes are read if and only if they are a document, and others are refused for the first reason.
use Rattle.std.proofs.Common.{◌≡◌, ℕ, List, [], ◌∷◌, ◌++◌, Bool, true, false, not, Result, Ok, Err, codes, refl, ap, ◌∙◌, subst}
use Rattle.std.specs.Str.{bytes_eq}
use Rattle.std.proofs.lemmas.Slice.Eq.{bytes_eq-Decides}
use Rattle.sso_base.specs.Texts.{has_text}
use Rattle.serde_json.specs.Data.{Members}
use Rattle.serde_json.specs.Find.{get_member}
use Rattle.sso_base.specs.Refusals.{first_refusal, and_then}
use Rattle.sso_base.proofs.Refusals.{none_holds, and_then_ok, one_value}
use Rattle.claim_set.specs.Reading.{Reads, claims_read}
use Rattle.claim_set.specs.declared.no.ClaimNo.{ClaimNo}
use Rattle.claim_set.proofs.Parsing.{read_reads, reads_read}
use Rattle.client_registry.specs.declared.records.Provider.{Provider}
use Rattle.discovery_doc.specs.declared.no.DiscNo.{DiscNo}
use Rattle.discovery_doc.specs.declared.no.DiscNo.TheVariants.{NotObject}
use Rattle.discovery_doc.specs.Reading.{text_in, texts_in, absences, faults, provider_in, members_read, if_object, discovery_read}
use Rattle.discovery_doc.specs.Document.{IsMetadata, IsDocument}
use Rattle.discovery_doc.proofs.Standing.{texts_are_texts, text_if_there, url_not_bad, not_bad_url, member_not_bad, text_there, texts_there, userinfo_there}

not_not : (b : Bool) → not b ≡ false → b ≡ true
not_not true h = refl
not_not false h = absurd (cc)

same : (s t : List ℕ) → s ≡ t → bytes_eq s t ≡ true
same s t = (bytes_eq-Decides s t).1

are_same : (s t : List ℕ) → not (bytes_eq s t) ≡ false → s ≡ t
are_same s t h = (bytes_eq-Decides s t).0 (not_not (bytes_eq s t) h)

-- ---- the members

pub metadata_read : (asked : List ℕ) (ms : Members) (p : Provider) → IsMetadata asked ms p → members_read asked ms ≡ Ok p
metadata_read asked ms p m = rw (
  m.issuer,
  m.authorize,
  m.token,
  m.userinfo,
  m.jwks_uri,
  m.response_types_supported,
  m.subject_types_supported,
  m.algorithms_supported,
  texts_are_texts m.response_types,
  texts_are_texts m.subject_types,
  texts_are_texts m.algorithms,
  same p.issuer asked m.is_asked,
  m.hs256,
  url_not_bad p.authorize m.authorize_url,
  url_not_bad p.token m.token_url,
  member_not_bad p.userinfo m.userinfo_url,
  text_if_there p.userinfo,
)

stands : (asked : List ℕ) (ms : Members) → first_refusal (absences ms) ≡ Ok tt → first_refusal (faults asked ms) ≡ Ok tt → IsMetadata asked ms (provider_in ms)
stands asked ms a f =
    let there = none_holds (absences ms) a in
    let right = none_holds (faults asked ms) f in
    let userinfo = userinfo_there (get_member (codes "userinfo_endpoint") ms) right.1.1.1.1.0 in
    record {
      issuer = text_there (get_member (codes "issuer") ms) there.0;
      is_asked = are_same (text_in (codes "issuer") ms) asked right.0;
      authorize = text_there (get_member (codes "authorization_endpoint") ms) there.1.0;
      authorize_url = not_bad_url (text_in (codes "authorization_endpoint") ms) right.1.1.0;
      token = text_there (get_member (codes "token_endpoint") ms) there.1.1.0;
      token_url = not_bad_url (text_in (codes "token_endpoint") ms) right.1.1.1.0;
      userinfo = userinfo.0;
      userinfo_url = userinfo.1;
      keys = text_in (codes "jwks_uri") ms;
      jwks_uri = text_there (get_member (codes "jwks_uri") ms) there.1.1.1.0;
      response_types = texts_in (codes "response_types_supported") ms;
      response_types_supported = texts_there (get_member (codes "response_types_supported") ms) there.1.1.1.1.0;
      subject_types = texts_in (codes "subject_types_supported") ms;
      subject_types_supported = texts_there (get_member (codes "subject_types_supported") ms) there.1.1.1.1.1.0;
      algorithms = texts_in (codes "id_token_signing_alg_values_supported") ms;
      algorithms_supported = texts_there (get_member (codes "id_token_signing_alg_values_supported") ms) there.1.1.1.1.1.1.0;
      hs256 = not_not (has_text (codes "HS256") (texts_in (codes "id_token_signing_alg_values_supported") ms)) right.1.0;
    }

pub read_stands : (asked : List ℕ) (ms : Members) (p : Provider) → members_read asked ms ≡ Ok p → IsMetadata asked ms p
read_stands asked ms p h =
    let there = and_then_ok (first_refusal (absences ms)) (λ _. and_then (first_refusal (faults asked ms)) (λ _. Ok (provider_in ms))) p h in
    let right = and_then_ok (first_refusal (faults asked ms)) (λ _. Ok (provider_in ms)) p there.2 in
    let this : provider_in ms ≡ p = one_value DiscNo (provider_in ms) p right.2 in
    subst (IsMetadata asked ms) this (stands asked ms there.1 right.1)

-- ---- the bytes

document_at : (asked b : List ℕ) (p : Provider) (r : Result Members ClaimNo) → claims_read b ≡ r → if_object asked r ≡ Ok p → IsDocument asked b p
document_at asked b p (Ok ms) is h = record { members = ms; reads = read_reads b ms is; metadata = read_stands asked ms p h }
document_at asked b p (Err e) is h = absurd (cc)

pub read_document : (asked b : List ℕ) (p : Provider) → discovery_read asked b ≡ Ok p → IsDocument asked b p
unfolding discovery_read
read_document asked b p h = document_at asked b p (claims_read b) refl h

object_read : (asked b : List ℕ) (ms : Members) → Reads b ms → discovery_read asked b ≡ members_read asked ms
unfolding discovery_read
object_read asked b ms r = ap (if_object asked) (reads_read b ms r)

pub document_read : (asked b : List ℕ) (p : Provider) → IsDocument asked b p → discovery_read asked b ≡ Ok p
document_read asked b p d = object_read asked b d.members d.reads ∙ metadata_read asked d.members p d.metadata

pub unread : (asked b : List ℕ) (e : ClaimNo) → claims_read b ≡ Err e → discovery_read asked b ≡ Err NotObject
unfolding discovery_read
unread asked b e h = ap (if_object asked) h

in_turn : {A E : Type 0} (cs ds : List (Bool × E)) (r : Result A E) → and_then (first_refusal cs) (λ _. and_then (first_refusal ds) (λ _. r)) ≡ and_then (first_refusal (cs ++ ds)) (λ _. r)
in_turn [] ds r = refl
in_turn ((true, e) ∷ cs) ds r = refl
in_turn ((false, e) ∷ cs) ds r = in_turn cs ds r

whole_read : (asked b : List ℕ) (ms : Members) → Reads b ms → discovery_read asked b ≡ and_then (first_refusal (absences ms ++ faults asked ms)) (λ _. Ok (provider_in ms))
whole_read asked b ms r = object_read asked b ms r ∙ in_turn (absences ms) (faults asked ms) (Ok (provider_in ms))

pub refused : (asked b : List ℕ) (ms : Members) (e : DiscNo) → Reads b ms → first_refusal (absences ms ++ faults asked ms) ≡ Err e → discovery_read asked b ≡ Err e
refused asked b ms e r h = whole_read asked b ms r ∙ ap (λ x. and_then x (λ _. Ok (provider_in ms))) h

pub accepted : (asked b : List ℕ) (ms : Members) → Reads b ms → first_refusal (absences ms ++ faults asked ms) ≡ Ok tt → discovery_read asked b ≡ Ok (provider_in ms)
accepted asked b ms r h = whole_read asked b ms r ∙ ap (λ x. and_then x (λ _. Ok (provider_in ms))) h

pub names_the_issuer : (asked b : List ℕ) (p : Provider) → discovery_read asked b ≡ Ok p → p.issuer ≡ asked
names_the_issuer asked b p h = (read_document asked b p h).metadata.is_asked
