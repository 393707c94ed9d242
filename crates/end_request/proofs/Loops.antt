-- Going over pairs and clients by places.
use Rattle.std.proofs.Common.{◌≡◌, ◌<◌, ℕ, ◌+◌, Bool, true, false, cond, List, [], ◌∷◌, ◌++◌, length, take, drop, slice_get, get_or, Option, Some, sym, ◌∙◌, ap}
use Rattle.std.proofs.lemmas.List.{take_more}
use Rattle.std.proofs.lemmas.Option.{slice_get_within, get_or_from_slice_get, slice_get-get_or}
use Rattle.sso_base.specs.Words.{Text}
use Rattle.sso_base.proofs.ListSteps.{drop_at}
use Rattle.client_registry.specs.declared.records.Client.{Client}
use Rattle.request_params.specs.Form.{Pair}
use Rattle.request_params.specs.Reading.{repeated_after}
use Rattle.end_request.specs.Hints.{fits, fitting_from}
use Rattle.end_request.specs.Ending.{stands_before, stands_in}

module _ (issuer : Text) (named : Option ℕ) (hint : Text) (clients : List Client) (n : ℕ) (client : Client) (at : slice_get clients n ≡ Some client) (o : Option ℕ) where
  abbrev next : Bool → Option ℕ
  next b = cond b (Some n) (fitting_from issuer named hint (n + 1) (drop (n + 1) clients))

  here : fitting_from issuer named hint n (drop n clients) ≡ next (fits issuer named hint n client)
  here = ap (λ l. fitting_from issuer named hint n l) (drop_at clients n client at)

  pub fit_step : fits issuer named hint n client ≡ false → fitting_from issuer named hint n (drop n clients) ≡ o → fitting_from issuer named hint (n + 1) (drop (n + 1) clients) ≡ o
  fit_step misses is = sym (here ∙ ap next misses) ∙ is

  pub fit_stop : fits issuer named hint n client ≡ true → fitting_from issuer named hint n (drop n clients) ≡ o → Some n ≡ o
  fit_stop fit is = sym (here ∙ ap next fit) ∙ is

take_at : {X : Type 0} (xs : List X) (i : ℕ) (x : X) → slice_get xs i ≡ Some x → take (i + 1) xs ≡ take i xs ++ x ∷ []
take_at {X} xs i x h = take_more xs i x (slice_get_within xs i x h) ∙ ap (λ (y : X). take i xs ++ y ∷ []) (get_or_from_slice_get xs i x x h)

module _ (pairs : List Pair) (n : ℕ) (pair : Pair) (at : slice_get pairs n ≡ Some pair) (o : Option Text) where
  abbrev then_on : Bool → Option Text
  then_on b = cond b (Some pair.0) (repeated_after (take n pairs ++ pair ∷ []) (drop (n + 1) pairs))

  this : repeated_after (take n pairs) (drop n pairs) ≡ then_on (stands_before pairs n)
  this =
      ap (λ l. repeated_after (take n pairs) l) (drop_at pairs n pair at)
      ∙ ap (λ x. then_on (stands_in (take n pairs) x)) (sym at)

  pub repeat_step : stands_before pairs n ≡ false → repeated_after (take n pairs) (drop n pairs) ≡ o → repeated_after (take (n + 1) pairs) (drop (n + 1) pairs) ≡ o
  repeat_step first is =
      ap (λ l. repeated_after l (drop (n + 1) pairs)) (take_at pairs n pair at)
      ∙ sym (this ∙ ap then_on first) ∙ is

  pub repeat_stop : stands_before pairs n ≡ true → repeated_after (take n pairs) (drop n pairs) ≡ o → Some pair.0 ≡ o
  repeat_stop again is = sym (this ∙ ap then_on again) ∙ is

-- the pair at a place within
pub pair_at : (pairs : List Pair) (n : ℕ) (d : Pair) → n < length pairs → slice_get pairs n ≡ Some (get_or pairs n d)
pair_at pairs n d low = slice_get-get_or pairs n d low
