-- The document of a printable provider is one of this provider.
use Rattle.std.proofs.Common.{◌≡◌, option_map, Ok, codes, refl}
use Rattle.serde_json.specs.Data.{string, no_members}
use Rattle.claim_set.specs.Reading.{Reads, claims_text}
use Rattle.claim_set.proofs.Building.{get-put_all}
use Rattle.claim_set.proofs.KindLaws.{or_else_none}
use Rattle.claim_set.proofs.Written.{claims_read-claims_text}
use Rattle.claim_set.proofs.Parsing.{read_reads}
use Rattle.client_registry.specs.declared.records.Provider.{Provider}
use Rattle.client_registry.specs.Records.{endpoint}
use Rattle.client_registry.specs.Configuration.{Configuration}
use Rattle.client_registry.specs.Registered.{IsRegistry}
use Rattle.client_registry.proofs.Endpoints.{authorize_url, token_url, userinfo_url}
use Rattle.discovery_doc.specs.Metadata.{metadata_entries, metadata, subject_types, algorithms}
use Rattle.oidc_words.specs.Types.{response_types}
use Rattle.discovery_doc.specs.Document.{IsMetadata, IsDocument}
use Rattle.discovery_doc.specs.Printed.{IsPrintable}
use Rattle.discovery_doc.specs.Reading.{discovery_read}
use Rattle.discovery_doc.proofs.Documents.{document_read}
use Rattle.discovery_doc.proofs.Fitting.{ClaimsFit-metadata}
use Rattle.discovery_doc.proofs.Utf8.{IsUtf8-url}

stands : (p : Provider) → IsPrintable p → IsMetadata p.issuer (metadata p) p
unfolding metadata
stands p h = record {
  issuer = rw (get-put_all (codes "issuer") (metadata_entries p) no_members) refl;
  is_asked = refl;
  authorize = rw (get-put_all (codes "authorization_endpoint") (metadata_entries p) no_members) refl;
  authorize_url = h.authorize;
  token = rw (get-put_all (codes "token_endpoint") (metadata_entries p) no_members) refl;
  token_url = h.token;
  userinfo = rw (get-put_all (codes "userinfo_endpoint") (metadata_entries p) no_members) (or_else_none (option_map string p.userinfo));
  userinfo_url = h.userinfo;
  keys = endpoint p.issuer (codes "/jwks");
  jwks_uri = rw (get-put_all (codes "jwks_uri") (metadata_entries p) no_members) refl;
  response_types = response_types;
  response_types_supported = rw (get-put_all (codes "response_types_supported") (metadata_entries p) no_members) refl;
  subject_types = subject_types;
  subject_types_supported = rw (get-put_all (codes "subject_types_supported") (metadata_entries p) no_members) refl;
  algorithms = algorithms;
  algorithms_supported = rw (get-put_all (codes "id_token_signing_alg_values_supported") (metadata_entries p) no_members) refl;
  hs256 = refl;
}

pub printed_reads : (p : Provider) → IsPrintable p → Reads (claims_text (metadata p)) (metadata p)
printed_reads p h = read_reads (claims_text (metadata p)) (metadata p) (claims_read-claims_text (metadata p) (ClaimsFit-metadata p h))

pub printed_document : (p : Provider) → IsPrintable p → IsDocument p.issuer (claims_text (metadata p)) p
printed_document p h = record {
  members = metadata p;
  reads = printed_reads p h;
  metadata = stands p h;
}

pub printed_read : (p : Provider) → IsPrintable p → discovery_read p.issuer (claims_text (metadata p)) ≡ Ok p
printed_read p h = document_read p.issuer (claims_text (metadata p)) p (printed_document p h)

-- ---- the provider of a registry

pub printable : (c : Configuration) → IsRegistry c → IsPrintable c.provider
printable c r = record { issuer = IsUtf8-url c.provider.issuer r.issuer; authorize = authorize_url c r; token = token_url c r; userinfo = userinfo_url c r }

pub registry_document : (c : Configuration) → IsRegistry c → IsDocument c.provider.issuer (claims_text (metadata c.provider)) c.provider
registry_document c r = printed_document c.provider (printable c r)

pub registry_read : (c : Configuration) → IsRegistry c → discovery_read c.provider.issuer (claims_text (metadata c.provider)) ≡ Ok c.provider
registry_read c r = printed_read c.provider (printable c r)
