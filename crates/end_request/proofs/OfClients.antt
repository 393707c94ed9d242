-- What is read from the bytes of a registry is of its clients.
use Rattle.std.proofs.Common.{◌≡◌, ℕ, Bool, true, false, not, List, [], ◌++◌, length, nat_lt, codes, Option, Some, None, Result, Ok, refl, ap, sym, ◌∙◌}
use Rattle.std.specs.List.{AllByRecursion}
use Rattle.toml.specs.Data.{Data, get}
use Rattle.configuration_rows.specs.declared.no.RegNo.{RegNo}
use Rattle.configuration_rows.specs.declared.no.RegNo.TheVariants as no
use Rattle.configuration_rows.specs.Refusals.{least, note_if}
use Rattle.configuration_rows.specs.Values.{text_or}
use Rattle.configuration_rows.specs.Kinds.{are_urls}
use Rattle.configuration_rows.specs.Versions.{version_in}
use Rattle.client_registry.specs.Configuration.{Configuration, configuration_of}
use Rattle.client_registry.specs.Records.{clients_of}
use Rattle.client_registry.specs.Reading.{unless_refused, registry_read, IsAccepted}
use Rattle.client_registry.proofs.Causes.{accepted_only}
use Rattle.client_registry.proofs.Guiltless.{nothing, front_nil, back_nil, unmet, AllFrom, each_nil, all_weaker, all_rows}
use Rattle.end_request.specs.Returning.{ReturnLists, is_other_kind, returns_key, most_returns, row_returns, path_at, returns_row, client_rows, returns_refusals, returns_of, returns_in, returns_read, KeepsRule, AreOfClients}

ok_same : (x y : ReturnLists) → ◌≡◌ {A = Result ReturnLists RegNo} (Ok x) (Ok y) → x ≡ y
ok_same x y h = cc

nothing_refused : (o : Option RegNo) (x y : ReturnLists) → unless_refused o (Ok x) ≡ Ok y → (o ≡ None) × (x ≡ y)
nothing_refused None x y h = (refl, ok_same x y h)
nothing_refused (Some e) x y h = absurd (cc)

turned : (b : Bool) → not b ≡ false → b ≡ true
turned true h = refl
turned false h = absurd (cc)

keeps : (i : ℕ) (row : Data) → returns_row i row ≡ [] → KeepsRule (row_returns row)
keeps i row none =
    let kind : List RegNo = note_if (is_other_kind (get returns_key row)) (no.WrongKind (path_at i)) in
    let urls : List RegNo = note_if (not (are_urls (row_returns row))) (no.BadUrl (path_at i)) in
    let many : List RegNo = note_if (nat_lt most_returns (length (row_returns row))) (no.TooMany (text_or (codes "id") [] row)) in
    let front : kind ++ urls ≡ [] = front_nil (kind ++ urls) many none in
    record {
      urls = turned (are_urls (row_returns row)) (unmet (not (are_urls (row_returns row))) (no.BadUrl (path_at i)) (back_nil kind urls front));
      few = unmet (nat_lt most_returns (length (row_returns row))) (no.TooMany (text_or (codes "id") [] row)) (back_nil (kind ++ urls) many none);
    }

all_keep : (rows : List Data) → AllFrom (λ i row. returns_row i row ≡ []) 0 rows → AllByRecursion (λ row. KeepsRule (row_returns row)) rows
all_keep rows none =
    all_rows (λ row. KeepsRule (row_returns row)) 0 rows (all_weaker (λ i row. returns_row i row ≡ []) (λ i row. KeepsRule (row_returns row)) 0 rows (λ i row low h. keeps i row h) none)

clients_are : (root : Data) → (configuration_of root).clients ≡ clients_of root
unfolding configuration_of
clients_are root = refl

pub are_of_clients : (bytes : List ℕ) (c : Configuration) (returns : ReturnLists) → registry_read bytes ≡ Ok c → returns_read bytes ≡ Ok returns → AreOfClients c returns
unfolding returns_read
are_of_clients bytes c returns read there =
    let a : IsAccepted bytes c = accepted_only bytes c read in
    let I : Option Data → Result ReturnLists RegNo = λ o. returns_in o in
    let said : unless_refused (least (returns_refusals a.root)) (Ok (returns_of a.root)) ≡ Ok returns = sym (ap I a.document.toml) ∙ there in
    let both = nothing_refused (least (returns_refusals a.root)) (returns_of a.root) returns said in
    record {
      version = version_in a.root;
      rows = client_rows a.root;
      clients = ap (λ (k : Configuration). k.clients) a.says ∙ clients_are a.root;
      uris = sym both.1;
      rules = all_keep (client_rows a.root) (each_nil returns_row 0 (client_rows a.root) (nothing (returns_refusals a.root) both.0));
    }
