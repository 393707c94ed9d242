-- The beginnings of a play. What is true of every play is true of each of them, and the theorems are, up to the place at which a premise
-- fails.
use Rattle.std.proofs.Common.{◌≡◌, ℕ, suc, ◌+◌, ◌≤◌, ◌<◌, List, [], ◌∷◌, ◌++◌, length, drop, Some, sym, ap, ◌∙◌, subst, refl, arith}
use Rattle.std.proofs.lemmas.List.{append_assoc, length-append}
use Rattle.client_registry.specs.Configuration.{Configuration}
use Rattle.client_registry.specs.Registered.{IsRegistry}
use Rattle.sso_places.specs.declared.types.Broken.{Broken}
use Rattle.sso_places.specs.declared.types.Broken.TheVariants.{Forged, Leaked, HashClash}
use Rattle.sso_places.specs.Agreement.{SignsOn}
use Rattle.sso_places.specs.FirstBroken.{first_broken, IsUnbroken, IsFirst, IsFirstForged, IsFirstLeaked, IsFirstClash}
use Rattle.sso_places.specs.Legal.{IsLegalWorld}
use Rattle.sso_places.specs.Premises.{HasDistinctWords, HasDistinctHashes, IsUnleaked, IsUnforged, IsJoined}
use Rattle.sso_places.specs.Site.{Site, IsSite, own_site}
use Rattle.sso_places.specs.World.{Place, World}
use Rattle.sso_places.proofs.Clashes.{hashes_before}
use Rattle.sso_places.proofs.FirstBroken.{forged_first, leaked_first, clash_first}
use Rattle.sso_places.proofs.Places.{legal_from, distinct_from, unleaked_from}
use Rattle.sign_on.proofs.Agreeing.{agrees}
use Rattle.sign_on.proofs.Bound.{is_bound}
use Rattle.sign_on.proofs.Founding.{founded}
use Rattle.sign_on.proofs.SameBrowser.{answered_only_to}
use Rattle.oidc_replay.specs.Bound.{IsWhollyBound}
use Rattle.oidc_replay.specs.Theorem.{AnswersWhoAsked, SignsOnWell, HoldsUntil}
use Rattle.oidc_replay.proofs.HashedLogins.{wholly_bound}
use Rattle.oidc_replay.proofs.Joined.{play_joined}
use Rattle.oidc_replay.proofs.Played.{IsPlayed}

-- ---- beginnings: the newest place of a world is first, so they are its suffixes

-- of two ends of one list the longer has the shorter
between : {A : Type 0} (late before later top : List A) → late ++ before ≡ later ++ top → length before ≤ length top
    → (rest : List A) × (top ≡ rest ++ before)
between late before [] top same few = (late, sym same)
between [] before (y ∷ later) top same few =
    let whole : length before ≡ suc (length (later ++ top)) = ap length same in
    let parts : length (later ++ top) ≡ length later + length top = length-append later top in
    absurd (omega (arith, whole, parts, few))
between {A} (x ∷ late) before (y ∷ later) top same few =
    between late before later top (ap (λ (xs : List A). drop 1 xs) same) few

unforged_from : (s : Site) (after before : World) → IsUnforged s (after ++ before) → IsUnforged s before
unforged_from s [] before unforged = unforged
unforged_from s (x ∷ after) before unforged = unforged_from s after before unforged.0

hashes_from : (after before : World) → HasDistinctHashes (after ++ before) → HasDistinctHashes before
hashes_from [] before distinct = distinct
hashes_from (x ∷ after) before distinct = hashes_from after before (hashes_before x (after ++ before) distinct).0

unbroken_from : (s : Site) (after before : World) → IsUnbroken s (after ++ before) → IsUnbroken s before
unbroken_from s after before unbroken =
    record {
      unforged = unforged_from s after before unbroken.unforged;
      unleaked = unleaked_from after before unbroken.unleaked;
      hashes = hashes_from after before unbroken.hashes;
    }

played_from : (c : Configuration) (seed : List ℕ) (after before : World) → IsPlayed c seed (after ++ before) → IsPlayed c seed before
played_from c seed [] before played = played
played_from c seed (x ∷ after) before played = played_from c seed after before played.0

-- ---- the theorems of a world that was played

-- what is true of every play
pub record WasPlayed (c : Configuration) (seed : List ℕ) (world : World) : Type 0 where
  pub legal : IsLegalWorld (own_site c) world
  pub places : IsPlayed c seed world
  pub distinct : HasDistinctWords world

was_played_from : (c : Configuration) (seed : List ℕ) (after before : World) → WasPlayed c seed (after ++ before) → WasPlayed c seed before
was_played_from c seed after before was =
    record {
      legal = legal_from (own_site c) after before was.legal;
      places = played_from c seed after before was.places;
      distinct = distinct_from after before was.distinct;
    }

module _ (c : Configuration) (seed : List ℕ) (read : IsRegistry c) (world : World) (was : WasPlayed c seed world) where
  site : IsSite (own_site c)
  site = record { registry = read; one_issuer = λ n. refl }

  joined : IsJoined world
  joined = play_joined c seed world was.places was.distinct

  pub answers_who_asked : IsUnleaked world → AnswersWhoAsked (own_site c) world
  answers_who_asked unleaked = λ browser nonce only. answered_only_to (own_site c) world browser nonce was.legal unleaked only

  pub signs_well : IsUnforged (own_site c) world → IsUnleaked world → SignsOnWell (own_site c) world
  signs_well unforged unleaked =
      let run : SignsOn (own_site c) world = (agrees (own_site c) world site was.legal was.distinct unleaked unforged joined).run in
      let all = founded (own_site c) world run in
      record { signs = run; founded = all.0; once = all.1; same_browser = answers_who_asked unleaked }

  pub binds_wholly : IsUnforged (own_site c) world → IsUnleaked world → HasDistinctHashes world → IsWhollyBound (own_site c) world
  binds_wholly unforged unleaked hashes =
      wholly_bound c seed world read was.legal was.places
      (is_bound (own_site c) world site was.legal was.distinct unleaked unforged joined hashes)

-- ---- up to the place at which the first premise fails

module _ (c : Configuration) (seed : List ℕ) (read : IsRegistry c) (world : World) (was : WasPlayed c seed world)
    (later before : World) (is : world ≡ later ++ before) where
  was_before : WasPlayed c seed before
  was_before = let P : World → Type 0 = λ w. WasPlayed c seed w in was_played_from c seed later before (subst P is was)

  -- what beginnings have of a world, this one has of one that is at least as long
  within : (P : World → Type 0) → ((after ends : World) → P (after ++ ends) → P ends) → (rest top : World) → world ≡ rest ++ top
      → length before ≤ length top → P top → P before
  within P from rest top parts few holds =
      let found = between later before rest top (sym is ∙ parts) few in
      from found.0 before (subst P found.1 holds)

  all_before : (number : ℕ) (x : Place) (earlier : World) → IsFirst (own_site c) world number x earlier → length before < number
      → SignsOnWell (own_site c) before × IsWhollyBound (own_site c) before
  all_before number x earlier first few =
      let parts : world ≡ (first.later ++ x ∷ []) ++ earlier = first.parts ∙ sym (append_assoc first.later (x ∷ []) earlier) in
      let number_is : number ≡ suc (length earlier) = first.number_is in
      let low : length before ≤ length earlier = omega (arith, few, number_is) in
      let U : World → Type 0 = λ w. IsUnbroken (own_site c) w in
      let is_so : U before = within U (unbroken_from (own_site c)) (first.later ++ x ∷ []) earlier parts low first.unbroken in (
        signs_well c seed read before was_before is_so.unforged is_so.unleaked,
        binds_wholly c seed read before was_before is_so.unforged is_so.unleaked is_so.hashes,
      )

  pub holds_until : (broken : Broken) → first_broken (own_site c) world ≡ Some broken → HoldsUntil (own_site c) broken before
  holds_until (Forged place) fails =
      let f : IsFirstForged (own_site c) world place = forged_first (own_site c) world place fails in
      λ few. all_before place f.place f.earlier f.first few
  holds_until (Leaked place) fails =
      let f : IsFirstLeaked (own_site c) world place = leaked_first (own_site c) world place fails in
      λ few. all_before place f.place f.earlier f.first few
  holds_until (HashClash other place) fails =
      let f : IsFirstClash (own_site c) world other place = clash_first (own_site c) world other place fails in
      let number_is : place ≡ suc (length f.earlier) = f.first.number_is in
      let top : World = f.place ∷ f.earlier in
      let U : World → Type 0 = λ w. IsUnforged (own_site c) w in
      let L : World → Type 0 = λ w. IsUnleaked w in (
        λ few.
            (let most : length before ≤ place = few in
            let low : length before ≤ length top = omega (arith, most, number_is) in
            signs_well c seed read before was_before
            (within U (unforged_from (own_site c)) f.first.later top f.first.parts low (f.first.unbroken.unforged, f.unforged))
            (within L unleaked_from f.first.later top f.first.parts low (f.first.unbroken.unleaked, f.unleaked))),
        λ few. (all_before place f.place f.earlier f.first few).1,
      )
