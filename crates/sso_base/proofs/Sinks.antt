-- What a sink holds after one piece and then another.
use Rattle.std.proofs.Common.{◌≡◌, ℕ, ◌+◌, List, ◌++◌, take, drop, Option, Some, None, sym, ap, ◌∙◌, arith}
use Rattle.std.proofs.lemmas.List.{append_assoc, take-append-drop, drop-take, take-take}
use Rattle.sso_base.specs.Outside.{Takes}

pub take-add : (d n : ℕ) (p : List ℕ) → take (d + n) p ≡ take d p ++ take n (drop d p)
take-add d n p =
    let e : take d (take (d + n) p) ≡ take d p = take-take d (d + n) p (omega arith) in
    sym (take-append-drop d (take (d + n) p)) ∙ ap (λ (x : List ℕ). x ++ drop d (take (d + n) p)) e ∙ ap (λ (x : List ℕ). take d p ++ x) (drop-take d n p)

pub takes_more : (old mid new : Option (List ℕ)) (p : List ℕ) (d n : ℕ) → Takes old mid (take d p) → Takes mid new (take n (drop d p)) → Takes old new (take (d + n) p)
takes_more None mid new p d n a b = tt
takes_more (Some held) mid new p d n a b =
    let b' : Takes (Some (held ++ take d p)) new (take n (drop d p)) = rw a at b in
    b' ∙ ap Some (append_assoc held (take d p) (take n (drop d p)) ∙ ap (λ (x : List ℕ). held ++ x) (sym (take-add d n p)))
