-- What a discovery document is, in the standard's words: the text of an object that contains the metadata of the requested
-- provider (OpenID Connect Discovery 1.0, 3 and 4.3).
use Rattle.std.specs.Prelude.{◌≡◌, ℕ, List, Some, is_some, option_map, codes, IsTrue, IfSome}
use Rattle.serde_json.specs.Data.{string, Members}
use Rattle.serde_json.specs.Find.{get_member}
use Rattle.claim_set.specs.Reading.{Reads}
use Rattle.registered_url.specs.Rule.{url_of}
use Rattle.client_registry.specs.declared.records.Provider.{Provider}
use Rattle.discovery_doc.specs.Metadata.{texts}
use Rattle.sso_base.specs.Texts.{has_text}

-- the text satisfies the rule for URLs
abbrev pub IsUrl : List ℕ → Type 0
IsUrl t = IsTrue (is_some (url_of t))

-- the members ms are metadata of the provider p, whose issuer is the requested one
pub record IsMetadata (asked : List ℕ) (ms : Members) (p : Provider) : Type 0 where
  pub issuer : get_member (codes "issuer") ms ≡ Some (string p.issuer)
  pub is_asked : p.issuer ≡ asked
  pub authorize : get_member (codes "authorization_endpoint") ms ≡ Some (string p.authorize)
  pub authorize_url : IsUrl p.authorize
  pub token : get_member (codes "token_endpoint") ms ≡ Some (string p.token)
  pub token_url : IsUrl p.token
  pub userinfo : get_member (codes "userinfo_endpoint") ms ≡ option_map string p.userinfo
  pub userinfo_url : IfSome p.userinfo IsUrl
  pub keys : List ℕ
  pub jwks_uri : get_member (codes "jwks_uri") ms ≡ Some (string keys)
  pub response_types : List (List ℕ)
  pub response_types_supported : get_member (codes "response_types_supported") ms ≡ Some (texts response_types)
  pub subject_types : List (List ℕ)
  pub subject_types_supported : get_member (codes "subject_types_supported") ms ≡ Some (texts subject_types)
  pub algorithms : List (List ℕ)
  pub algorithms_supported : get_member (codes "id_token_signing_alg_values_supported") ms ≡ Some (texts algorithms)
  pub hs256 : IsTrue (has_text (codes "HS256") algorithms)

-- the bytes b are a discovery document of the provider p, whose issuer is the requested one
pub record IsDocument (asked b : List ℕ) (p : Provider) : Type 0 where
  pub members : Members
  pub reads : Reads b members
  pub metadata : IsMetadata asked members p
