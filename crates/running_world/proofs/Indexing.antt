-- The index after a place was put, indexed or skipped: it agrees with the world.
use Rattle.std.proofs.Common.{◌≡◌, ℕ, suc, Bool, true, false, ◌&&◌, ◌||◌, not, ◌==◌, List, ◌∷◌, length, Option, Some, None, refl, sym, ap, ◌∙◌}
use Rattle.std.specs.List.{list_any}
use Rattle.std.proofs.lemmas.List.Folds.{list_any-append}
use Rattle.std.specs.Option.{option_or}
use Rattle.sso_base.specs.Words.{Word, Text}
use Rattle.client_registry.specs.Configuration.{Configuration}
use Rattle.sso_places.specs.Premises.{issued_at, sets_elsewhere, set_elsewhere}
use Rattle.sso_places.specs.Site.{own_site}
use Rattle.sso_places.specs.Tokens.{TokenText, is_token}
use Rattle.sso_places.specs.World.{Place, Nothing, World}
use Rattle.sso_places.specs.Written.{written_at, written}
use Rattle.world_index.specs.Setting.{set_for_other}
use Rattle.world_index.specs.Writing.{is_written_for}
use Rattle.world_index.specs.Issuing.{issued_of}
use Rattle.world_index.specs.declared.halves.Issued.{Issued}
use Rattle.running_world.specs.declared.foreknown.Foreknown.{Foreknown}
use Rattle.running_world.specs.declared.kept.Kept.{Kept}
use Rattle.running_world.specs.declared.noting.Index.{Index}
use Rattle.running_world.specs.Foreknowing.{IsForeknownIf}
use Rattle.running_world.specs.Indexed.{first_issued, IsIndexed}
use Rattle.running_world.specs.Noting.{issued_here, IsNoted, IsPartlyNoted}
use Rattle.running_world.specs.Running.{kept_place}
use Rattle.running_world.specs.Whole.{IsWhole}
use Rattle.running_world.proofs.KeptPlaces.{place_sets, place_writes, place_issues}

pub first_none : (o : Option Issued) → option_or o None ≡ o
first_none None = refl
first_none (Some issued) = refl

and_false : (b : Bool) → (b && false) ≡ false
and_false true = refl
and_false false = refl

-- ---- one place more, which is not noted yet

pub index_more : (c : Configuration) (index : Index) (fore : Foreknown) (x : Place) (world : World) → IsIndexed c index None world → IsIndexed c index (Some fore) (x ∷ world)
index_more c index fore x world is =
    record {
      set = λ w from. ap (λ b. sets_elsewhere from w x || b) (is.set w from);
      wrote = λ t client.
          (let here : List TokenText = written_at (own_site c) world x in
          ap (λ b. list_any (is_token (client, t)) here || b) (is.wrote t client)
          ∙ sym (list_any-append (is_token (client, t)) here (written (own_site c) world)));
      issued = λ half.
          ap (λ (o : Option Issued). option_or o (issued_here half (suc (length world)) (issued_at x)))
          (sym (first_none (issued_of index.halves half)) ∙ is.issued half);
    }

-- ---- a place without a request

pub index_nothing : (c : Configuration) (index : Index) (world : World) → IsIndexed c index None world → IsIndexed c index None (Nothing ∷ world)
index_nothing c index world is =
    record {
      set = λ w from. is.set w from ∙ sym (ap (λ b. b || set_elsewhere world from w) (and_false (not (0 == from))));
      wrote = is.wrote;
      issued = λ half. is.issued half ∙ sym (first_none (first_issued half world));
    }

-- ---- the newest is noted

module _ (c : Configuration) (before after : Index) (k : Kept) (world : World) (fore : Foreknown) (whole : IsWhole k) (known : IsForeknownIf c world k.asked fore) (is : IsIndexed c before (Some fore) (kept_place c k ∷ world)) where
  abbrev place : ℕ
  place = suc (length world)

  abbrev found : Index → Text → ℕ → List TokenText → Bool
  found index t client texts = list_any (is_token (client, t)) texts || is_written_for index.written t client

  abbrev first : Index → Text → List Word → Option Issued
  first index half words = option_or (issued_of index.halves half) (issued_here half place words)

  pub index_noted : IsNoted c before after k place fore → IsIndexed c after None (kept_place c k ∷ world)
  index_noted noted =
      record {
        set = λ w from.
            noted.set w from
            ∙ ap (λ b. b || set_for_other before.setters w from) (sym (place_sets c from w k whole))
            ∙ is.set w from;
        wrote = λ t client. noted.wrote t client ∙ ap (found before t client) (sym (place_writes c world fore k whole known)) ∙ is.wrote t client;
        issued = λ half.
            first_none (issued_of after.halves half)
            ∙ noted.issued half
            ∙ ap (first before half) (sym (place_issues c k whole))
            ∙ is.issued half;
      }

  -- parts of it are
  pub index_partly_noted : IsPartlyNoted c before after k place fore → IsIndexed c after (Some fore) (kept_place c k ∷ world)
  index_partly_noted partly =
      record {
        set = λ w from.
            ap (λ b. b || set_for_other after.setters w from) (place_sets c from w k whole)
            ∙ partly.set w from
            ∙ ap (λ b. b || set_for_other before.setters w from) (sym (place_sets c from w k whole))
            ∙ is.set w from;
        wrote = λ t client.
            ap (found after t client) (place_writes c world fore k whole known)
            ∙ partly.wrote t client
            ∙ ap (found before t client) (sym (place_writes c world fore k whole known))
            ∙ is.wrote t client;
        issued = λ half.
            ap (first after half) (place_issues c k whole)
            ∙ partly.issued half
            ∙ ap (first before half) (sym (place_issues c k whole))
            ∙ is.issued half;
      }
