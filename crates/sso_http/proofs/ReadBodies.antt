-- What is read of a body: all of it, a part, or a part before a fault.
use Rattle.std.proofs.Common.{◌≡◌, ℕ, ◌<◌, ◌≤◌, List, length, take, Option, subst, arith}
use Rattle.std.proofs.lemmas.List.{take_all, length-take}
use Rattle.server_desk.specs.Sources.{Gives, GivesFront, IsSpent}
use Rattle.sso_http.specs.Input.{IsBodyRead, IsNoBodyRead}
use Rattle.sso_http.specs.declared.no.HttpNo.TheVariants.{ReadFault, EndedEarly}

module _ (old new : Option (List ℕ)) (count : ℕ) (body : List ℕ) where
  pub whole_body : (n : ℕ) → Gives old new (take n body) → length body ≡ count → count ≤ n → IsBodyRead count old new body
  whole_body n given long all =
      record { given = subst (λ (l : List ℕ). Gives old new l) (take_all n body (omega (arith, long, all))) given; whole = long }

  pub part_of_body : (n : ℕ) → Gives old new (take n body) → n < count → IsSpent new → IsNoBodyRead count old new EndedEarly
  part_of_body n given part spent =
      record { bytes = take n body; given = given; cause = (omega (arith, part, length-take n body), spent) }

  pub fault_in_body : GivesFront old new body → IsNoBodyRead count old new ReadFault
  fault_in_body front = record { bytes = take front.0 body; given = front.2; cause = tt }
