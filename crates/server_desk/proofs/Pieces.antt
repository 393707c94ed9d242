-- What a source has left after one piece and then another.
use Rattle.std.proofs.Common.{◌≡◌, ℕ, ◌+◌, List, [], ◌++◌, take, drop, Option, Some, None, option_map, sym, ap, ◌∙◌}
use Rattle.std.proofs.lemmas.List.{append_assoc}
use Rattle.sso_base.proofs.Sinks.{take-add}
use Rattle.server_desk.specs.Sources.{Gives}

pub gives_more : (old mid new : Option (List ℕ)) (xs ys : List ℕ) → Gives old mid xs → Gives mid new ys → Gives old new (xs ++ ys)
gives_more old mid None xs ys a b = a ∙ ap (λ (m : Option (List ℕ)). option_map (λ (r : List ℕ). xs ++ r) m) b
gives_more old mid (Some rest) xs ys a b =
    a ∙ ap (λ (m : Option (List ℕ)). option_map (λ (r : List ℕ). xs ++ r) m) b ∙ ap Some (sym (append_assoc xs ys rest))

-- a front that was given before, and what was given now behind it
pub gives_take : (old mid new : Option (List ℕ)) (d n : ℕ) (xs ys : List ℕ) → Gives old mid (take d xs) → take d ys ≡ take d xs → Gives mid new (take n (drop d ys)) → Gives old new (take (d + n) ys)
gives_take old mid new d n xs ys a same b =
    rw (take-add d n ys, same) (gives_more old mid new (take d xs) (take n (drop d ys)) a b)

-- nothing was given
pub gives_none : (old new : Option (List ℕ)) → Gives old new [] → old ≡ new
gives_none old None g = g
gives_none old (Some rest) g = g
