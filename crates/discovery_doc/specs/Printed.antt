-- The providers whose document can be read again. Those of registries are among them.
use Rattle.std.specs.Prelude.{IfSome}
use Rattle.std.specs.Str.{IsUtf8}
use Rattle.client_registry.specs.declared.records.Provider.{Provider}
use Rattle.discovery_doc.specs.Document.{IsUrl}

-- the issuer is a text, and each endpoint satisfies the rule for URLs
pub record IsPrintable (p : Provider) : Type 0 where
  pub issuer : IsUtf8 p.issuer
  pub authorize : IsUrl p.authorize
  pub token : IsUrl p.token
  pub userinfo : IfSome p.userinfo IsUrl
