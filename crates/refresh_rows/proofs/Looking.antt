-- What is looked up in the book.
use Rattle.std.proofs.Common.{◌≡◌, ◌<◌, ◌^◌, ℕ, Bool, not, ◌&&◌, nat_lt, List, length, Option, Some, None, is_some, option_and_then, option_map, refl, ap, sym, ◌∙◌}
use Rattle.sso_base.specs.Words.{Word}
use Rattle.sso_base.specs.Rows.{row_of}
use Rattle.refresh_answer.specs.Places.{place_bytes}
use Rattle.refresh_answer.specs.Rows.{family_name, token_name, most_tokens}
use Rattle.refresh_answer.specs.Families.{family_at, has_room}
use Rattle.refresh_answer.specs.declared.rows.FamilyRow.{FamilyRow}
use Rattle.refresh_answer.specs.declared.rows.RefreshRow.{RefreshRow}
use Rattle.refresh_rows.specs.declared.token_row.TokenRow.{TokenRow}
use Rattle.refresh_rows.specs.TokenRows.{held_name, refresh_row, refresh_rows}
use Rattle.refresh_rows.specs.Booked.{ArePlaces}
use Rattle.refresh_rows.proofs.Keys.{place_found}
use Rattle.refresh_rows.proofs.Lists.{map_found, map_long}

pub token_found : (rows : List TokenRow) (named : Option Word) (w : Word) → named ≡ Some w → (found : Option TokenRow) (bytes : List ℕ) → bytes ≡ w → found ≡ row_of held_name bytes rows → (result : Option RefreshRow) → result ≡ option_map refresh_row found
    → result ≡ option_and_then (λ v. row_of token_name v (refresh_rows rows)) named
token_found rows named w named_is found bytes bytes_are found_is result result_is =
    let M : Option TokenRow → Option RefreshRow = λ o. option_map refresh_row o in
    let W : Word → Option TokenRow = λ v. row_of held_name v rows in
    let N : Option Word → Option RefreshRow = λ o. option_and_then (λ v. row_of token_name v (refresh_rows rows)) o in
    result_is ∙ ap M (found_is ∙ ap W bytes_are) ∙ sym (map_found refresh_row held_name token_name (λ t. refl) w rows) ∙ ap N (sym named_is)

pub family_found : (fs : List FamilyRow) (n : ℕ) → n < 2 ^ 64 → ArePlaces fs → (place : ℕ) → place ≡ n → (bytes : List ℕ) → bytes ≡ place_bytes place → (found : Option FamilyRow) → found ≡ row_of family_name bytes fs → found ≡ family_at n fs
family_found fs n low wide place place_is bytes bytes_are found found_is =
    let W : Word → Option FamilyRow = λ v. row_of family_name v fs in
    let P : ℕ → List ℕ = λ k. place_bytes k in
    found_is ∙ ap W (bytes_are ∙ ap P place_is) ∙ place_found n fs low wide

mapped_some : (o : Option TokenRow) → not (is_some o) ≡ not (is_some (option_map refresh_row o))
mapped_some None = refl
mapped_some (Some t) = refl

pub room_found : (rows : List TokenRow) (w : Word) (count : ℕ) → count ≡ length rows → (few : Bool) → few ≡ nat_lt count most_tokens → (found : Option TokenRow) (bytes : List ℕ) → bytes ≡ w → found ≡ row_of held_name bytes rows
    → (new : Bool) → new ≡ not (is_some found) → (result : Bool) → result ≡ (few && new) → result ≡ has_room (refresh_rows rows) w
room_found rows w count count_is few few_is found bytes bytes_are found_is new new_is result result_is =
    let L : ℕ → Bool = λ n. nat_lt n most_tokens in
    let W : Word → Option TokenRow = λ v. row_of held_name v rows in
    let S : Option TokenRow → Bool = λ o. not (is_some o) in
    let T : Option RefreshRow → Bool = λ o. not (is_some o) in
    let A : Bool → Bool = λ b. b && new in
    let B : Bool → Bool = λ b. nat_lt (length (refresh_rows rows)) most_tokens && b in
    result_is ∙ ap A (few_is ∙ ap L (count_is ∙ sym (map_long refresh_row rows)))
    ∙ ap B (new_is ∙ ap S (found_is ∙ ap W bytes_are) ∙ mapped_some (row_of held_name w rows) ∙ ap T (sym (map_found refresh_row held_name token_name (λ t. refl) w rows)))
