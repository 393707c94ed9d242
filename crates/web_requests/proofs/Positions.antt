-- The place of the first element that passes a test, one step on; and whether a party's client has a logout URI.
use Rattle.std.proofs.Common.{◌≡◌, ◌<◌, ◌+◌, ℕ, List, drop, length, Bool, true, false, cond, Option, Some, is_some, option_map, slice_get, sym, ap, ◌∙◌}
use Rattle.std.specs.Borrow.{Bor}
use Rattle.std.specs.List.{position_from}
use Rattle.sso_base.specs.Words.{Text}
use Rattle.sso_base.specs.Texts.{is_given}
use Rattle.sso_base.proofs.ListSteps.{drop_at}
use Rattle.client_registry.specs.declared.records.Client.{Client}
use Rattle.client_registry.specs.Configuration.{Configuration}
use Rattle.client_registry.specs.Numbers.{client_of, party_row, party_client, no_client}
use Rattle.client_registry.specs.Registered.{IsRegistry}
use Rattle.request_params.specs.Form.{Pair}
use Rattle.request_params.specs.Reading.{has_name, value_of}
use Rattle.request_params.proofs.Values.{value_there}
use Rattle.login_request.proofs.PartyRows.{client_is_known}
use Rattle.web_requests.specs.Carrying.{logs_out_at}
use Rattle.web_requests.proofs.MixedForms.{mapped_some}
use Rattle.web_requests.proofs.RegistryRows.{some_row}

module _ {X : Type 0} (test : X → Bool) (xs : List X) (k : ℕ) (x : X) (o : Option ℕ) (there : slice_get xs k ≡ Some x) (before : position_from test k (drop k xs) ≡ o) where
  step : position_from test k (drop k xs) ≡ cond (test x) (Some k) (position_from test (k + 1) (drop (k + 1) xs))
  step =
      let F : List X → Option ℕ = λ ys. position_from test k ys in
      ap F (drop_at xs k x there)

  pub position_on : test x ≡ false → position_from test (k + 1) (drop (k + 1) xs) ≡ o
  position_on none =
      let G : Bool → Option ℕ = λ b. cond b (Some k) (position_from test (k + 1) (drop (k + 1) xs)) in
      sym (step ∙ ap G none) ∙ before

  pub position_here : test x ≡ true → Some k ≡ o
  position_here is =
      let G : Bool → Option ℕ = λ b. cond b (Some k) (position_from test (k + 1) (drop (k + 1) xs)) in
      sym (step ∙ ap G is) ∙ before

-- what is told of the client's row
pub logout_told : (c : Configuration) (n : ℕ) (uri : Text) (client : Client) (told t : Bool) → IsRegistry c → n < length c.parties → client ≡ party_client c n → told ≡ is_given uri client.logout → told ≡ t
    → logs_out_at uri (client_of c (party_row c n)) ≡ t
logout_told c n uri client told t r low row is so =
    ap (logs_out_at uri) (some_row c.clients (party_row c n).client no_client (client_is_known c n r low))
    ∙ ap (λ (k : Client). is_given uri k.logout) (sym row)
    ∙ sym is
    ∙ so

pub there_named : (name : Text) (ps : List Pair) (o : Option (Bor Text)) → option_map (λ (t : Bor Text). t.now) o ≡ value_of name ps → is_some o ≡ has_name name ps
there_named name ps o h = sym (mapped_some (λ (t : Bor Text). t.now) o) ∙ ap is_some h ∙ value_there name ps
