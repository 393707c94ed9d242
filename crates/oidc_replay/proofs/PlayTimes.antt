-- In a play time goes on.
use Rattle.std.proofs.Common.{◌≡◌, ◌≤◌, ◌<◌, ℕ, suc, ◌==◌, Bool, nat_lt, cond, List, [], ◌∷◌, length, Option, Some, None, is_some, refl, sym, ◌∙◌, ap, subst, inl, inr, arith}
use Rattle.std.proofs.lemmas.Bool.{ltb-true}
use Rattle.std.specs.List.{AllByRecursion}
use Rattle.sso_base.specs.Words.{Word}
use Rattle.sso_base.specs.Legal.{last_moment}
use Rattle.sso_base.proofs.RowLaws.{bool_cases}
use Rattle.sso_model.proofs.ListLaws.{all_weaker}
use Rattle.client_registry.specs.Configuration.{Configuration}
use Rattle.sso_places.specs.declared.types.To.{To}
use Rattle.sso_places.specs.declared.types.To.TheVariants as to
use Rattle.sso_places.specs.declared.types.WorldAsk.{WorldAsk}
use Rattle.sso_places.specs.declared.types.WorldAsk.TheVariants.{Http, Tokens, Info}
use Rattle.sso_places.specs.Site.{own_site}
use Rattle.sso_places.specs.World.{Place, Provider, Party, Nothing, World, moment_of, op_past, rp_past}
use Rattle.running_world.specs.Stepping.{later, stepped}
use Rattle.trace_lines.specs.declared.line.Line.{Line}
use Rattle.trace_lines.specs.declared.line.Line.TheVariants.{At, Steal, Show}
use Rattle.trace_lines.specs.Lines.{moment_after}
use Rattle.trace_lines.specs.Order.{MayCome, AreInOrder}
use Rattle.web_requests.specs.declared.sent.Sent.{Sent}
use Rattle.oidc_replay.specs.Words.{words_after}
use Rattle.oidc_replay.specs.Sending.{line_sent}
use Rattle.oidc_replay.specs.Play.{Played, with_place, has_room, asked, asked_if, line_played, play_on, play_lines}
use Rattle.sso_places.specs.Premises.{IsInOrder, last_at}

-- ---- places up to a moment

abbrev IsBefore : ℕ → Place → Type 0
IsBefore at x = (m : ℕ) → moment_of x ≡ Some m → m ≤ at

abbrev AreBefore : ℕ → World → Type 0
AreBefore at world = AllByRecursion (IsBefore at) world

still_before : (n at : ℕ) → n ≤ at → (world : World) → AreBefore n world → AreBefore at world
still_before n at low world all =
    all_weaker (IsBefore n) (IsBefore at) world (λ x before m is. let h : m ≤ n = before m is in omega (arith, low, h)) all

op_last : (world : World) (at : ℕ) → AreBefore at world → last_moment (op_past world) ≤ at
op_last [] at all = omega arith
op_last (Provider from request p ∷ world) at all = all.0 p.entry.at refl
op_last (Party n from request p ∷ world) at all = op_last world at all.1
op_last (Nothing ∷ world) at all = op_last world at all.1

rp_last : (n : ℕ) (world : World) (at : ℕ) → AreBefore at world → last_moment (rp_past n world) ≤ at
rp_last n [] at all = omega arith
rp_last n (Provider from request p ∷ world) at all = rp_last n world at all.1
rp_last n (Party k from request p ∷ world) at all =
    let F : Bool → Type 0 = λ b. last_moment (cond b (p ∷ rp_past n world) (rp_past n world)) ≤ at in
    elim (bool_cases (k == n)) [
      | inl e ↦ subst F (sym e) (all.0 p.entry.at refl)
      | inr e ↦ subst F (sym e) (rp_last n world at all.1)
    ]
rp_last n (Nothing ∷ world) at all = rp_last n world at all.1

never_later : (last at : ℕ) → last ≤ at → at < last → ⊥
never_later last at low high = omega (arith, low, high)

later_is : (last at : ℕ) → last ≤ at → later last at ≡ at
later_is last at low =
    let F : Bool → ℕ = λ b. cond b last at in
    elim (bool_cases (nat_lt at last)) [
      | inl e ↦ absurd (never_later last at low (ltb-true at last e))
      | inr e ↦ ap F e
    ]

-- ---- one more place

some_moment : (m n : ℕ) → Some m ≡ Some n → m ≡ n
some_moment m n h = cc

steps_now : (c : Configuration) (from : ℕ) (role : To) (at : ℕ) (fresh : List Word) (ask : WorldAsk) (world : World) → AreBefore at world → (m : ℕ) → moment_of (stepped (own_site c) from role at fresh ask world) ≡ Some m → m ≡ at
steps_now c from to.Provider at fresh (Http request) world all m is = sym (some_moment (later (last_moment (op_past world)) at) m is) ∙ later_is (last_moment (op_past world)) at (op_last world at all)
steps_now c from to.Provider at fresh (Tokens w answer) world all m is = cc
steps_now c from to.Provider at fresh (Info w answer) world all m is = cc
steps_now c from (to.Party n) at fresh ask world all m is = sym (some_moment (later (last_moment (rp_past n world)) at) m is) ∙ later_is (last_moment (rp_past n world)) at (rp_last n world at all)

record Timely (play : Played) : Type 0 where
  order : IsInOrder play.world
  low : last_at play.world ≤ play.at
  before : AreBefore play.at play.world

last_low : (x : Place) (world : World) (at : ℕ) → last_at world ≤ at → ((m : ℕ) → moment_of x ≡ Some m → m ≡ at) → last_at (x ∷ world) ≤ at
last_low (Provider from request p) world at low now = (let h : p.entry.at ≡ at = now p.entry.at refl in omega (arith, h))
last_low (Party n from request p) world at low now = (let h : p.entry.at ≡ at = now p.entry.at refl in omega (arith, h))
last_low Nothing world at low now = low

placed : (play : Played) (x : Place) → Timely play → ((m : ℕ) → moment_of x ≡ Some m → m ≡ play.at) → Timely (with_place play x)
placed play x t now =
    let low : last_at play.world ≤ play.at = t.low in
    record {
      order = (t.order, λ m is. let h : m ≡ play.at = now m is in omega (arith, low, h));
      low = last_low x play.world play.at t.low now;
      before = ((λ m is. let h : m ≡ play.at = now m is in omega (arith, h)), t.before);
    }

abbrev Next : Played → Played → Type 0
Next play after = Timely after × (after.at ≡ play.at)

asked_next : (c : Configuration) (seed : List ℕ) (play : Played) (s : Sent) → Timely play → Next play (asked c seed play s)
asked_next c seed play s t =
    let x : Place = stepped (own_site c) s.from s.to play.at (words_after seed (length play.world)) s.ask play.world in
    let N : Bool → Type 0 = λ b. Next play (cond b (with_place play x) (record play { ended = Some (suc (length play.world)) })) in
    elim (bool_cases (has_room c play.world s)) [
      | inl e ↦ subst N (sym e) (placed play x t (steps_now c s.from s.to play.at (words_after seed (length play.world)) s.ask play.world t.before), refl)
      | inr e ↦ subst N (sym e) (record { order = t.order; low = t.low; before = t.before }, refl)
    ]

sent_next : (c : Configuration) (seed : List ℕ) (play : Played) (o : Option Sent) → Timely play → Next play (asked_if c seed play o)
sent_next c seed play None t = (placed play Nothing t (λ m is. cc), refl)
sent_next c seed play (Some s) t = asked_next c seed play s t

-- ---- lines

abbrev Goes : Played → List Line → Type 0
Goes play lines = Timely play × (play.at ≤ moment_after lines)

up_to : (a b d : ℕ) → a ≡ b → b ≤ d → a ≤ d
up_to a b d same low = omega (arith, same, low)

line_next : (c : Configuration) (seed : List ℕ) (lines : List Line) (play : Played) (line : Line) → MayCome c lines line → Goes play lines → Goes (line_played c seed play line) (line ∷ lines)
line_next c seed lines play (At seconds) may g =
    let low : last_at play.world ≤ play.at = g.0.low in
    let one : play.at ≤ moment_after lines = g.1 in
    let two : moment_after lines ≤ seconds = may.0 in
    (record { order = g.0.order; low = omega (arith, low, one, two); before = still_before play.at seconds (omega (arith, one, two)) play.world g.0.before }, omega arith)
line_next c seed lines play (Steal thief owner) may g = (record { order = g.0.order; low = g.0.low; before = g.0.before }, g.1)
line_next c seed lines play (Show place) may g = g
line_next c seed lines play line may g =
    let next = sent_next c seed play (line_sent c play.world play.jars line) g.0 in
    (next.0, up_to (line_played c seed play line).at play.at (moment_after lines) next.1 g.1)

later_lines : (c : Configuration) (lines : List Line) (line : Line) → MayCome c lines line → moment_after lines ≤ moment_after (line ∷ lines)
later_lines c lines (At seconds) may = may.0
later_lines c lines line may = omega arith

play_next : (c : Configuration) (seed : List ℕ) (lines : List Line) (line : Line) (play : Played) → MayCome c lines line → Goes play lines → Goes (play_on c seed play line) (line ∷ lines)
play_next c seed lines line play may g =
    let N : Bool → Type 0 = λ b. Goes (cond b play (line_played c seed play line)) (line ∷ lines) in
    let one : play.at ≤ moment_after lines = g.1 in
    let two = later_lines c lines line may in
    elim (bool_cases (is_some play.ended)) [
      | inl e ↦ subst N (sym e) (g.0, omega (arith, one, two))
      | inr e ↦ subst N (sym e) (line_next c seed lines play line may g)
    ]

goes : (c : Configuration) (seed : List ℕ) (lines : List Line) → AreInOrder c lines → Goes (play_lines c seed lines) lines
goes c seed [] order = (record { order = tt; low = omega arith; before = tt }, omega arith)
goes c seed (line ∷ lines) order = play_next c seed lines line (play_lines c seed lines) order.1 (goes c seed lines order.0)

pub time_goes_on : (c : Configuration) (seed : List ℕ) (lines : List Line) → AreInOrder c lines → IsInOrder (play_lines c seed lines).world
time_goes_on c seed lines order = (goes c seed lines order).0.order
