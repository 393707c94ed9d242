-- Each line of a trace that was read names a role that is there, and there are not too many lines.
use Rattle.std.proofs.Common.{◌≡◌, ℕ, suc, ◌<◌, List, [], ◌∷◌, ◌++◌, length, get_or, reverse, take, drop, ap, sym, subst, ◌∙◌}
use Rattle.std.proofs.lemmas.List.{reverse-append, take-append-drop}
use Rattle.std.proofs.Math.Seq.{take-suc}
use Rattle.client_registry.specs.Configuration.{Configuration}
use Rattle.trace_lines.specs.declared.line.Line.{Line}
use Rattle.trace_lines.specs.declared.line.Line.TheVariants.{Begin, Visit, Leave, Raw}
use Rattle.trace_lines.specs.Order.{MayCome, AreInOrder}
use Rattle.oidc_replay.specs.Sending.{NamesRole}

names_role : (c : Configuration) (before : List Line) (line : Line) → MayCome c before line → NamesRole c line
names_role c before (Begin from party) may = may.1
names_role c before (Visit from party) may = may.1
names_role c before (Leave from party) may = may.1
names_role c before (Raw from role method target first second auth body) may = may.1
names_role c before line may = tt

-- the older lines of lines in order are in order
order_older : (c : Configuration) (newer older : List Line) → AreInOrder c (newer ++ older) → AreInOrder c older
order_older c [] older order = order
order_older c (line ∷ newer) older order = order_older c newer older order.0

-- the same for the lines up to one of them; here all lines are given the oldest first
order_front : (c : Configuration) (lines : List Line) (i : ℕ) (line : Line) → AreInOrder c (reverse lines) → i < length lines → line ≡ get_or lines i line → AreInOrder c (line ∷ reverse (take i lines))
order_front c lines i line order here is =
    let front : List Line = take (suc i) lines in
    let rest : List Line = drop (suc i) lines in
    let parts : reverse lines ≡ reverse rest ++ reverse front = sym (ap reverse (take-append-drop (suc i) lines)) ∙ reverse-append front rest in
    let last : reverse front ≡ get_or lines i line ∷ reverse (take i lines) = ap reverse (take-suc lines i line here) ∙ reverse-append (take i lines) (get_or lines i line ∷ []) in
    subst (λ (x : Line). AreInOrder c (x ∷ reverse (take i lines))) (sym is)
    (subst (AreInOrder c) last (order_older c (reverse rest) (reverse front) (subst (AreInOrder c) parts order)))

pub line_names : (c : Configuration) (lines : List Line) (i : ℕ) (line : Line) → AreInOrder c (reverse lines) → i < length lines → line ≡ get_or lines i line → NamesRole c line
line_names c lines i line order here is = names_role c (reverse (take i lines)) line (order_front c lines i line order here is).1
