-- The words of a play are distinct: each place draws those of its number.
use Rattle.std.proofs.Common.{◌≡◌, ℕ, suc, ◌^◌, ◌≤◌, ◌<◌, List, [], ◌∷◌, ◌++◌, length, sym, subst, arith}
use Rattle.std.specs.List.{AllByRecursion}
use Rattle.sso_base.specs.Words.{Word}
use Rattle.sso_model.specs.Lists.{AreDistinct}
use Rattle.sso_model.proofs.ListLaws.{all_append}
use Rattle.client_registry.specs.Configuration.{Configuration}
use Rattle.sso_places.specs.Premises.{HasDistinctWords}
use Rattle.sso_places.specs.World.{Place, Provider, Party, Nothing, World, drawn}
use Rattle.oidc_replay.specs.Words.{words_after}
use Rattle.oidc_replay.proofs.DrawnWords.{IsEarlyWord, early_more, early_next, next_distinct}
use Rattle.oidc_replay.proofs.Played.{IsPlaced, IsPlayed}

-- words that are early ones, and distinct
pub record AreEarly (seed : List ℕ) (count : ℕ) (words : List Word) : Type 0 where
  pub early : AllByRecursion (IsEarlyWord seed count) words
  pub distinct : AreDistinct words

no_words : (seed : List ℕ) (count : ℕ) (words : List Word) → AreEarly seed count words → AreEarly seed (suc count) words
no_words seed count words old = record { early = early_more seed count words old.early; distinct = old.distinct }

next_words : (seed : List ℕ) (count : ℕ) (words : List Word) → count < 2 ^ 60 → AreEarly seed count words → AreEarly seed (suc count) (words_after seed count ++ words)
next_words seed count words room old =
    record {
      early = all_append (IsEarlyWord seed (suc count)) (words_after seed count) words (early_next seed count) (early_more seed count words old.early);
      distinct = next_distinct seed count words room old.early old.distinct;
    }

fresh_words : (seed : List ℕ) (count : ℕ) (fresh words : List Word) → fresh ≡ words_after seed count → count < 2 ^ 60 → AreEarly seed count words → AreEarly seed (suc count) (fresh ++ words)
fresh_words seed count fresh words is room old =
    let E : List Word → Type 0 = λ ws. AreEarly seed (suc count) (ws ++ words) in
    subst E (sym is) (next_words seed count words room old)

placed_words : (c : Configuration) (seed : List ℕ) (x : Place) (world : World) → IsPlaced c seed world x → length world < 2 ^ 60 → AreEarly seed (length world) (drawn world) → AreEarly seed (suc (length world)) (drawn (x ∷ world))
placed_words c seed (Provider from request p) world is room old = fresh_words seed (length world) p.entry.fresh (drawn world) is room old
placed_words c seed (Party n from request p) world is room old = fresh_words seed (length world) p.entry.fresh (drawn world) is.fresh room old
placed_words c seed Nothing world is room old = no_words seed (length world) (drawn world) old

played_words : (c : Configuration) (seed : List ℕ) (world : World) → IsPlayed c seed world → length world ≤ 2 ^ 60 → AreEarly seed (length world) (drawn world)
played_words c seed [] played room = record { early = tt; distinct = tt }
played_words c seed (x ∷ world) played room =
    let here : length world < 2 ^ 60 = omega arith in
    placed_words c seed x world played.1 here (played_words c seed world played.0 (omega arith))

pub play_distinct : (c : Configuration) (seed : List ℕ) (world : World) → IsPlayed c seed world → length world ≤ 2 ^ 60 → HasDistinctWords world
play_distinct c seed world played room = (played_words c seed world played room).distinct
