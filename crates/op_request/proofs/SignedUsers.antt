-- The users of a registry, by their ids and by their numbers: each has the rounds and the salt of a proof.
use Rattle.std.proofs.Common.{◌≡◌, ◌<◌, ◌≤◌, ◌+◌, ℕ, zero, suc, List, [], ◌∷◌, length, map, Bool, true, false, cond, nat_le, ◌&&◌, ◌||◌, Option, Some, slice_get, refl, sym, ◌∙◌, ap, arith}
use Rattle.std.proofs.lemmas.Grind.{common_steps}
use Rattle.std.proofs.lemmas.Option.{slice_get_within}
use Rattle.std.specs.List.{position_from}
use Rattle.std.specs.Str.{bytes_eq}
use Rattle.sso_base.specs.Words.{Text}
use Rattle.sso_base.specs.Texts.{has_text}
use Rattle.client_registry.specs.declared.records.User.{User}
use Rattle.client_registry.specs.Configuration.{Configuration}
use Rattle.client_registry.specs.Numbers.{user_at}
use Rattle.client_registry.specs.Registered.{AreApart, IsUser, IsRegistry}
use Rattle.client_registry.specs.Rules.{user_place}
use Rattle.request_params.proofs.NameLaws.{same_text, text_same}
use Rattle.userinfo.proofs.UserTexts.{at_place}

-- ---- the user of an id

pub record HasPlace (id : Text) (n : ℕ) (users : List User) (i : ℕ) : Type 0 where
  pub past : ℕ
  pub at : i ≡ n + past
  pub user : User
  pub there : slice_get users past ≡ Some user
  pub named : user.id ≡ id

abbrev pub place_from : Text → ℕ → List User → Option ℕ
place_from id n users = position_from (λ (u : User). bytes_eq u.id id) n users

pub same_number : (n i : ℕ) → Some n ≡ Some i → n ≡ i
same_number n i h = cc

place_at : (id : Text) (n i : ℕ) (u : User) (us : List User) (b : Bool) → bytes_eq u.id id ≡ b → (place_from id (n + 1) us ≡ Some i → HasPlace id (n + 1) us i)
    → cond b (Some n) (place_from id (n + 1) us) ≡ Some i → HasPlace id n (u ∷ us) i
place_at id n i u us true is later h =
    let same : n ≡ i = same_number n i h in
    record { past = 0; at = omega (arith, same); user = u; there = refl; named = same_text u.id id is }
place_at id n i u us false is later h =
    let p = later h in record { past = suc p.past; at = omega (arith, p.at); user = p.user; there = p.there; named = p.named }

pub found_from : (id : Text) (n i : ℕ) (us : List User) → place_from id n us ≡ Some i → HasPlace id n us i
found_from id n i [] h = absurd (cc)
found_from id n i (u ∷ us) h = place_at id n i u us (bytes_eq u.id id) refl (found_from id (n + 1) i us) h

-- ids differ, so a user has the first place of its id

same_user : (u v : User) → Some u ≡ Some v → u ≡ v
same_user u v h = cc

neither : (a b : Bool) → (a || b) ≡ false → (a ≡ false) × (b ≡ false)
neither true b h = absurd (cc)
neither false b h = (refl, h)

other_id : (t : Text) (us : List User) (i : ℕ) (u : User) → has_text t (map (λ (v : User). v.id) us) ≡ false → slice_get us i ≡ Some u → bytes_eq t u.id ≡ false
other_id t [] i u h at = absurd (cc)
other_id t (v ∷ us) zero u h at =
    let same : v ≡ u = same_user v u at in
    ap (λ (w : User). bytes_eq t w.id) (sym same) ∙ (neither (bytes_eq t v.id) (has_text t (map (λ (w : User). w.id) us)) h).0
other_id t (v ∷ us) (suc i) u h at = other_id t us i u (neither (bytes_eq t v.id) (has_text t (map (λ (w : User). w.id) us)) h).1 at

own_place : (n : ℕ) (us : List User) (i : ℕ) (u : User) → AreApart (map (λ (v : User). v.id) us) → slice_get us i ≡ Some u → place_from u.id n us ≡ Some (n + i)
own_place n [] i u apart at = absurd (cc)
own_place n (v ∷ us) zero u apart at =
    let same : v ≡ u = same_user v u at in
    let is : bytes_eq v.id u.id ≡ true = text_same v.id u.id (ap (λ (w : User). w.id) same) in
    let first : n ≡ n + 0 = omega arith in
    rw is (ap Some first)
own_place n (v ∷ us) (suc i) u apart at =
    let next : n + 1 + i ≡ n + suc i = omega arith in
    rw (other_id v.id us i u apart.0 at) (own_place (n + 1) us i u apart.1 at ∙ ap Some next)

pub place_of_user : (us : List User) (i : ℕ) (u : User) → AreApart (map (λ (v : User). v.id) us) → slice_get us i ≡ Some u → user_place u.id us ≡ Some i
place_of_user us i u apart at = let this : 0 + i ≡ i = omega arith in own_place 0 us i u apart at ∙ ap Some this

-- ---- what every user of a registry keeps

at_least : (n most : ℕ) → (nat_le 1 n && nat_le n most) ≡ true → 1 ≤ n
at_least n most h = grind (arith, h, common_steps)

at_most : (n most : ℕ) → (nat_le 1 n && nat_le n most) ≡ true → n ≤ most
at_most n most h = grind (arith, h, common_steps)

pub some_rounds : (u : User) → IsUser u → 1 ≤ u.rounds
some_rounds u h = at_least u.rounds 1000000 h.rounds

pub short_salt : (u : User) → IsUser u → length u.salt ≤ 64
short_salt u h = at_most (length u.salt) 64 h.salt

pub user_within : (id : List ℕ) (users : List User) (n : ℕ) → user_place id users ≡ Some n → n < length users
user_within id users n h =
    let p = found_from id 0 n users h in
    let within : p.past < length users = slice_get_within users p.past p.user p.there in
    omega (arith, p.at, within)

pub user_kept : (c : Configuration) (n : ℕ) (u : User) → IsRegistry c → user_at c n ≡ Some u → IsUser u
user_kept c n u r is = at_place IsUser c.users n u r.user_rules is
