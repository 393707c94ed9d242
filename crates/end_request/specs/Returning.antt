-- Where a browser may be sent after a sign-out: the key `post_logout_redirect_uris` of a client, an optional array of at most 16 URLs
-- (RP-Initiated Logout 1.0, 3.1).
use Rattle.std.specs.Prelude.{◌≡◌, ℕ, Bool, true, false, not, List, [], ◌++◌, length, nat_lt, map, codes, Option, Some, None, is_some, slice_get, Result, Ok}
use Rattle.std.specs.Prelude.{Err}
use Rattle.std.specs.List.{AllByRecursion}
use Rattle.toml.specs.Data.{Data, get}
use Rattle.sso_base.specs.Words.{Text}
use Rattle.sso_base.specs.Texts.{has_text}
use Rattle.configuration_rows.specs.declared.no.RegNo.{RegNo}
use Rattle.configuration_rows.specs.declared.no.RegNo.TheVariants as no
use Rattle.configuration_rows.specs.declared.row.Row.TheVariants.{Client}
use Rattle.configuration_rows.specs.Refusals.{least, note_if, each}
use Rattle.configuration_rows.specs.Paths.{path_text}
use Rattle.configuration_rows.specs.Values.{as_texts, text_or, texts_at, rows_at}
use Rattle.configuration_rows.specs.Kinds.{are_urls}
use Rattle.configuration_rows.specs.declared.version.Version.{Version}
use Rattle.client_registry.specs.Configuration.{Configuration}
use Rattle.client_registry.specs.Records.{client_of_row}
use Rattle.client_registry.specs.Reading.{document_in, unless_refused}

-- ---- the URIs

-- where a browser may be sent, client by client, in the order of the registry
abbrev pub ReturnLists : Type 0
ReturnLists = List (List Text)

abbrev pub is_in : Option (List Text) → Text → Bool
is_in None uri = false
is_in (Some uris) uri = has_text uri uris

-- the URI is registered for the client with this number, byte by byte
abbrev pub has_return : ReturnLists → ℕ → Text → Bool
has_return returns client uri = is_in (slice_get returns client) uri

-- ---- the key of a client

abbrev pub returns_key : Text
returns_key = codes "post_logout_redirect_uris"

abbrev pub most_returns : ℕ
most_returns = 16

-- there is a value, and it is no array of texts
abbrev pub is_other_kind : Option Data → Bool
is_other_kind None = false
is_other_kind (Some d) = not (is_some (as_texts d))

-- the URIs of a client's row
abbrev pub row_returns : Data → List Text
row_returns row = texts_at returns_key row

abbrev pub path_at : ℕ → Text
path_at place = path_text (Client place) returns_key

-- the errors of a client's row at the key
abbrev pub returns_row : ℕ → Data → List RegNo
returns_row place row =
    note_if (is_other_kind (get returns_key row)) (no.WrongKind (path_at place))
    ++ note_if (not (are_urls (row_returns row))) (no.BadUrl (path_at place))
    ++ note_if (nat_lt most_returns (length (row_returns row))) (no.TooMany (text_or (codes "id") [] row))

-- ---- a configuration

abbrev pub client_rows : Data → List Data
client_rows root = rows_at (codes "client") root

abbrev pub returns_refusals : Data → List RegNo
returns_refusals root = each returns_row (client_rows root)

abbrev pub returns_of : Data → ReturnLists
returns_of root = map row_returns (client_rows root)

abbrev pub returns_in : Option Data → Result ReturnLists RegNo
returns_in None = Err no.NotToml
returns_in (Some root) = unless_refused (least (returns_refusals root)) (Ok (returns_of root))

-- where browsers may be sent by the configuration in a file, or the error that is reported
unfoldable pub returns_read : List ℕ → Result ReturnLists RegNo
returns_read bytes = returns_in (document_in bytes)

-- ---- the same, stated literally

-- a list has at most 16 URIs, each of which satisfies the rule for URLs
pub record KeepsRule (uris : List Text) : Type 0 where
  pub urls : are_urls uris ≡ true
  pub few : nat_lt most_returns (length uris) ≡ false

-- the clients and their URIs are those of the same rows
pub record AreOfClients (c : Configuration) (returns : ReturnLists) : Type 0 where
  pub version : Version
  pub rows : List Data
  pub clients : c.clients ≡ map (client_of_row version) rows
  pub uris : returns ≡ map row_returns rows
  pub rules : AllByRecursion (λ row. KeepsRule (row_returns row)) rows
