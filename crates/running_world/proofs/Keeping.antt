-- What is kept is found by the number of its place, and is whole: it has the reply of the place, the number and the cookies.
use Rattle.std.proofs.Common.{◌≡◌, ◌≢◌, ℕ, zero, suc, ◌==◌, Bool, true, false, cond, List, [], ◌∷◌, ◌++◌, length, reverse, slice_get, Option, Some, None, option_map, option_and_then, IfSome, inl, inr, refl, sym, ap, ◌∙◌, subst, arith}
use Rattle.std.specs.List.{AllByRecursion}
use Rattle.std.proofs.lemmas.Bool.{eqb-true, eqb-false}
use Rattle.std.proofs.lemmas.Option.{same_Some}
use Rattle.std.proofs.lemmas.List.{length-map, length-reverse, reverse-append}
use Rattle.sso_base.proofs.RowLaws.{bool_cases}
use Rattle.client_registry.specs.Configuration.{Configuration}
use Rattle.rp_core.specs.Relying.{Relying}
use Rattle.sso_places.specs.declared.types.To.{To}
use Rattle.sso_places.specs.declared.types.To.TheVariants as to
use Rattle.sso_places.specs.declared.types.WorldAsk.{WorldAsk}
use Rattle.sso_places.specs.declared.types.WorldAsk.TheVariants.{Http, Tokens, Info}
use Rattle.sso_places.specs.declared.types.WorldReply.{WorldReply}
use Rattle.sso_places.specs.declared.types.WorldReply.TheVariants as reply
use Rattle.sso_places.specs.Legal.{IsAsked, IsRole}
use Rattle.sso_places.specs.World.{Place, Provider, Party, Nothing, World, place_at, from_of, role_at, reply_at}
use Rattle.running_world.specs.declared.kept.Asked.{Asked}
use Rattle.running_world.specs.declared.kept.Kept.{Kept}
use Rattle.cookie_jars.specs.declared.jar_note.JarNote.{JarNote}
use Rattle.cookie_jars.specs.Jars.{jars_set, jars_after}
use Rattle.running_world.specs.Parties.{IsNewParty}
use Rattle.running_world.specs.Running.{place_asked, place_if, kept_place, places_of, kept_at}
use Rattle.sso_places.specs.Cookies.{set_by}
use Rattle.running_world.specs.Whole.{Answers, IsWholeBy, IsWhole, from_if, role_if}

-- ---- by number

get_last : {X : Type 0} (xs : List X) (y : X) → slice_get (xs ++ y ∷ []) (length xs) ≡ Some y
get_last [] y = refl
get_last (x ∷ xs) y = get_last xs y

get_front : {X : Type 0} (xs : List X) (y : X) (i : ℕ) → (i ≢ length xs) → slice_get (xs ++ y ∷ []) i ≡ slice_get xs i
get_front [] y zero other = absurd (other refl)
get_front [] y (suc i) other = refl
get_front (x ∷ xs) y zero other = refl
get_front (x ∷ xs) y (suc i) other = get_front xs y i (λ same. other (ap suc same))

pub kept_by_place : (kept : List Kept) (i : ℕ) → kept_at kept (suc i) ≡ slice_get (reverse kept) i
kept_by_place [] i = refl
kept_by_place (k ∷ kept) i =
    let C : Bool → Option Kept = λ b. cond b (Some k) (kept_at kept (suc i)) in
    let turned : reverse (k ∷ kept) ≡ reverse kept ++ k ∷ [] = reverse-append (k ∷ []) kept in
    let long : length (reverse kept) ≡ length kept = length-reverse kept in
    let G : List Kept → Option Kept = λ ks. slice_get ks i in
    elim (bool_cases (suc i == suc (length kept))) [
      | inl e ↦
          (let same : suc i ≡ suc (length kept) = eqb-true (suc i) (suc (length kept)) e in
          let last : length (reverse kept) ≡ i = omega (arith, long, same) in
          let L : ℕ → Type 0 = λ j. slice_get (reverse kept ++ k ∷ []) j ≡ Some k in
          ap C e ∙ sym (ap G turned ∙ subst L last (get_last (reverse kept) k)))
      | inr e ↦
          (let apart : suc i ≢ suc (length kept) = eqb-false (suc i) (suc (length kept)) e in
          let front : i ≢ length (reverse kept) = λ same. apart (ap suc (same ∙ long)) in
          ap C e ∙ kept_by_place kept i ∙ sym (ap G turned ∙ get_front (reverse kept) k i front))
    ]

pub kept_at_zero : (kept : List Kept) → kept_at kept 0 ≡ None
kept_at_zero [] = refl
kept_at_zero (k ∷ kept) =
    let C : Bool → Option Kept = λ b. cond b (Some k) (kept_at kept 0) in
    elim (bool_cases (0 == suc (length kept))) [
      | inl e ↦ (let same : 0 ≡ suc (length kept) = eqb-true 0 (suc (length kept)) e in absurd (omega (arith, same)))
      | inr e ↦ ap C e ∙ kept_at_zero kept
    ]

pub kept_has : (P : Kept → Type 0) (kept : List Kept) (n : ℕ) → AllByRecursion P kept → IfSome (kept_at kept n) P
kept_has P [] n all = tt
kept_has P (k ∷ kept) n all =
    let I : Option Kept → Type 0 = λ o. IfSome o P in
    let C : Bool → Option Kept = λ b. cond b (Some k) (kept_at kept n) in
    elim (bool_cases (n == suc (length kept))) [
      | inl e ↦ (let is : Some k ≡ C (n == suc (length kept)) = sym (ap C e) in subst I is all.0)
      | inr e ↦ (let is : kept_at kept n ≡ C (n == suc (length kept)) = sym (ap C e) in subst I is (kept_has P kept n all.1))
    ]

map_cond : {X Y : Type 0} (f : X → Y) (b : Bool) (x : X) (o : Option X) → cond b (Some (f x)) (option_map f o) ≡ option_map f (cond b (Some x) o)
map_cond f true x o = refl
map_cond f false x o = refl

pub place_kept : (c : Configuration) (kept : List Kept) (n : ℕ) → place_at (places_of c kept) n ≡ option_map (kept_place c) (kept_at kept n)
place_kept c [] n = refl
place_kept c (k ∷ kept) n =
    let x : Option Place = Some (kept_place c k) in
    let C : ℕ → Option Place = λ m. cond (n == suc m) x (place_at (places_of c kept) n) in
    let D : Option Place → Option Place = λ o. cond (n == suc (length kept)) x o in
    ap C (length-map kept (kept_place c)) ∙ ap D (place_kept c kept n) ∙ map_cond (kept_place c) (n == suc (length kept)) k (kept_at kept n)

-- ---- the parts of a kept place

asked_reply : (c : Configuration) (a : Asked) (role : To) (ask : WorldAsk) (answer : WorldReply) → Answers role ask answer → reply_at (place_asked c a role ask answer) ≡ answer
asked_reply c a to.Provider (Http request) (reply.Provider answer) is = refl
asked_reply c a to.Provider (Http request) (reply.Party answer) is = absurd is
asked_reply c a to.Provider (Http request) reply.Nothing is = absurd is
asked_reply c a to.Provider (Tokens w came) answer is = absurd is
asked_reply c a to.Provider (Info w came) answer is = absurd is
asked_reply c a (to.Party n) ask (reply.Provider answer) is = absurd is
asked_reply c a (to.Party n) ask (reply.Party answer) is = refl
asked_reply c a (to.Party n) ask reply.Nothing is = absurd is

asked_from : (c : Configuration) (a : Asked) (role : To) (ask : WorldAsk) (answer : WorldReply) → Answers role ask answer → from_of (place_asked c a role ask answer) ≡ a.from
asked_from c a to.Provider (Http request) (reply.Provider answer) is = refl
asked_from c a to.Provider (Http request) (reply.Party answer) is = absurd is
asked_from c a to.Provider (Http request) reply.Nothing is = absurd is
asked_from c a to.Provider (Tokens w came) answer is = absurd is
asked_from c a to.Provider (Info w came) answer is = absurd is
asked_from c a (to.Party n) ask (reply.Provider answer) is = absurd is
asked_from c a (to.Party n) ask (reply.Party answer) is = refl
asked_from c a (to.Party n) ask reply.Nothing is = absurd is

asked_role : (c : Configuration) (a : Asked) (role : To) (ask : WorldAsk) (answer : WorldReply) → Answers role ask answer → role_at (place_asked c a role ask answer) ≡ Some role
asked_role c a to.Provider (Http request) (reply.Provider answer) is = refl
asked_role c a to.Provider (Http request) (reply.Party answer) is = absurd is
asked_role c a to.Provider (Http request) reply.Nothing is = absurd is
asked_role c a to.Provider (Tokens w came) answer is = absurd is
asked_role c a to.Provider (Info w came) answer is = absurd is
asked_role c a (to.Party n) ask (reply.Provider answer) is = absurd is
asked_role c a (to.Party n) ask (reply.Party answer) is = refl
asked_role c a (to.Party n) ask reply.Nothing is = absurd is

whole_reply : (c : Configuration) (answer : WorldReply) (asked : Option Asked) → IsWholeBy answer asked → reply_at (place_if c asked answer) ≡ answer
whole_reply c answer None is = sym is
whole_reply c answer (Some a) is = asked_reply c a a.to a.ask answer is

whole_from : (c : Configuration) (answer : WorldReply) (asked : Option Asked) → IsWholeBy answer asked → from_of (place_if c asked answer) ≡ from_if asked
whole_from c answer None is = refl
whole_from c answer (Some a) is = asked_from c a a.to a.ask answer is

whole_role : (c : Configuration) (answer : WorldReply) (asked : Option Asked) → IsWholeBy answer asked → role_at (place_if c asked answer) ≡ role_if asked
whole_role c answer None is = refl
whole_role c answer (Some a) is = asked_role c a a.to a.ask answer is

pub replies : (c : Configuration) (o : Option Kept) → IfSome o IsWhole → option_map reply_at (option_map (kept_place c) o) ≡ option_map (λ (k : Kept). k.reply) o
replies c None whole = refl
replies c (Some k) whole = ap (λ (r : WorldReply). Some r) (whole_reply c k.reply k.asked whole)

pub numbers : (c : Configuration) (o : Option Kept) → IfSome o IsWhole → option_map from_of (option_map (kept_place c) o) ≡ option_map (λ (k : Kept). from_if k.asked) o
numbers c None whole = refl
numbers c (Some k) whole = ap (λ (n : ℕ). Some n) (whole_from c k.reply k.asked whole)

pub roles : (c : Configuration) (o : Option Kept) → IfSome o IsWhole → option_and_then role_at (option_map (kept_place c) o) ≡ option_and_then (λ (k : Kept). role_if k.asked) o
roles c None whole = refl
roles c (Some k) whole = whole_role c k.reply k.asked whole

-- a role that received a request is one of the registry
role_known : (c : Configuration) (x : Place) → IsAsked c x → IfSome (role_at x) (IsRole c)
role_known c (Provider from request p) asked = tt
role_known c (Party n from request p) asked = asked.0
role_known c Nothing asked = tt

pub roles_known : (c : Configuration) (world : World) (number : ℕ) → AllByRecursion (IsAsked c) world → IfSome (option_and_then role_at (place_at world number)) (IsRole c)
roles_known c [] number asked = tt
roles_known c (x ∷ world) number asked =
    let P : Option Place → Type 0 = λ o. IfSome (option_and_then role_at o) (IsRole c) in
    let C : Bool → Option Place = λ b. cond b (Some x) (place_at world number) in
    elim (bool_cases (number == suc (length world))) [
      | inl e ↦ (let is : Some x ≡ C (number == suc (length world)) = sym (ap C e) in subst P is (role_known c x asked.0))
      | inr e ↦ (let is : place_at world number ≡ C (number == suc (length world)) = sym (ap C e) in subst P is (roles_known c world number asked.1))
    ]

-- ---- the cookies that a place sets

pub jars_kept : (c : Configuration) (a : Asked) (role : To) (ask : WorldAsk) (answer : WorldReply) (notes : List JarNote) → Answers role ask answer → jars_after (place_asked c a role ask answer) notes ≡ jars_set a.from role (set_by answer) notes
jars_kept c a to.Provider (Http request) (reply.Provider answer) notes is = refl
jars_kept c a to.Provider (Http request) (reply.Party answer) notes is = absurd is
jars_kept c a to.Provider (Http request) reply.Nothing notes is = absurd is
jars_kept c a to.Provider (Tokens w came) answer notes is = absurd is
jars_kept c a to.Provider (Info w came) answer notes is = absurd is
jars_kept c a (to.Party n) ask (reply.Provider answer) notes is = absurd is
jars_kept c a (to.Party n) ask (reply.Party answer) notes is = refl
jars_kept c a (to.Party n) ask reply.Nothing notes is = absurd is

-- ---- parties with empty histories

pub new_pushed : (c : Configuration) (roles : List Relying) (role : Relying) → ((n : ℕ) (r : Relying) → slice_get roles n ≡ Some r → IsNewParty c n r) → IsNewParty c (length roles) role → (n : ℕ) (r : Relying) → slice_get (roles ++ role ∷ []) n ≡ Some r → IsNewParty c n r
new_pushed c roles role each new n r there =
    elim (bool_cases (n == length roles)) [
      | inl e ↦
          (let same : n ≡ length roles = eqb-true n (length roles) e in
          let G : ℕ → Type 0 = λ i. slice_get (roles ++ role ∷ []) i ≡ Some role in
          let here : role ≡ r = same_Some role r (sym (subst G (sym same) (get_last roles role)) ∙ there) in
          let N : ℕ → Type 0 = λ i. IsNewParty c i role in
          let R : Relying → Type 0 = λ x. IsNewParty c n x in
          subst R here (subst N (sym same) new))
      | inr e ↦ each n r (sym (get_front roles role n (eqb-false n (length roles) e)) ∙ there)
    ]
