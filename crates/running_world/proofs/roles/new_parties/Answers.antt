use Rattle.std.proofs.Common.{◌≡◌, ℕ, ◌+◌, List, [], ◌∷◌, ◌++◌, length, Some, slice_get, sym, ap, ◌∙◌, subst}
use Rattle.std.proofs.lemmas.List.{length-append}
use Rattle.rp_core.specs.Relying.{Relying}
use Rattle.running_world.specs.Parties.{IsNewParty}
use Rattle.running_world.proofs.Keeping.{new_pushed}
use Rattle.running_world.proofs.roles.new_parties.Goals as goal

pub loop-number-preserved : goal.loop-number-preserved
loop-number-preserved c =
    let parties = c.loop-number.parties.items in
    let party = c.in_ok-new.field-0 in
    let pushed : c.push.new.self.items ≡ parties ++ party ∷ [] = c.in_ok-push.ensures.items in
    let count : length parties ≡ c.loop-number.number = c.loop-number.invariant.0 in
    let N : ℕ → Type 0 = λ n. IsNewParty c.args.registry.now n party in
    let new : IsNewParty c.args.registry.now (length parties) party = subst N (sym count) (record { setup = c.in_ok-new.ensures.setup; history = c.in_ok-new.ensures.history }) in
    let P : List Relying → Type 0 = λ all. (n : ℕ) (role : Relying) → slice_get all n ≡ Some role → IsNewParty c.args.registry.now n role in
    (ap (λ (all : List Relying). length all) pushed ∙ length-append parties (party ∷ []) ∙ ap (λ n. n + 1) count, subst P (sym pushed) (new_pushed c.args.registry.now parties party c.loop-number.invariant.1 new))
