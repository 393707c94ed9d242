-- What the registries of samples share: the provider, and the response type `code`.
use Rattle.std.proofs.Common.{true, false, Some, codes}
use Rattle.oidc_words.specs.declared.response_types.Types.{Types}
use Rattle.client_registry.specs.declared.records.Provider.{Provider}

abbrev pub op : Provider
op = record {
  issuer = codes "http://127.0.0.1:8080";
  authorize = codes "http://127.0.0.1:8080/authorize";
  token = codes "http://127.0.0.1:8080/token";
  userinfo = Some (codes "http://127.0.0.1:8080/userinfo");
}

abbrev pub only_code : Types
only_code = record { code = true; id_token = false; token = false }
