use Rattle.std.proofs.Common.{◌≡◌, ◌∙◌, ℕ, List, [], ◌∷◌, ◌++◌, Bool, true, sym, ap}
use Rattle.turn_store.proofs.calls.Places.push.Goals as goal

-- what is stored with one more place, if all places are stored
stored_on : (whole : Bool) (stored new told after : List ℕ) (place : ℕ) → (whole ≡ true → stored ≡ told) → after ≡ told ++ place ∷ [] → (whole ≡ true) × (new ≡ stored ++ place ∷ []) → new ≡ after
stored_on whole stored new told after place all is both = both.1 ∙ ap (λ (l : List ℕ). l ++ place ∷ []) (all both.0) ∙ sym is

pub invariant_of-self : goal.invariant_of-self
invariant_of-self c = record {
  all = λ h. stored_on c.self.inside.whole c.self.inside.stored.items c.store-self-inside.new.stored.items c.self.inside.told c.push.new.self c.args.place c.self.invariant.all c.push.ensures (c.store-self-inside.ensures h);
}
