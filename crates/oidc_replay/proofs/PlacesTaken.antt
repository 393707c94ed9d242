-- The lines of a play take its places, one after another. If it ended early, the next place is missing.
use Rattle.std.proofs.Common.{◌≡◌, ℕ, suc, Bool, true, false, cond, List, [], ◌∷◌, length, Option, Some, None, is_some, inl, inr, refl, sym, ap, ◌∙◌, subst}
use Rattle.std.proofs.lemmas.Option.{same_Some}
use Rattle.sso_base.proofs.RowLaws.{bool_cases}
use Rattle.client_registry.specs.Configuration.{Configuration}
use Rattle.sso_places.specs.Site.{own_site}
use Rattle.sso_places.specs.World.{Place, Nothing}
use Rattle.running_world.specs.Stepping.{stepped}
use Rattle.trace_lines.specs.declared.line.Line.{Line}
use Rattle.trace_lines.specs.declared.line.Line.TheVariants.{At, Steal, Show, Begin, Follow, Mix, Forge, Login, Consent, Visit, Leave, SignOut, Carry, Back, Raw}
use Rattle.trace_lines.specs.Lines.{takes_place, places_after}
use Rattle.web_requests.specs.declared.sent.Sent.{Sent}
use Rattle.oidc_replay.specs.Words.{words_after}
use Rattle.oidc_replay.specs.Sending.{line_sent}
use Rattle.oidc_replay.specs.Play.{Played, with_place, has_room, asked, asked_if, line_played, play_on, play_lines}

-- `count` lines took places: all of them have theirs, or the play ended before the next place
pub record HasTaken (count : ℕ) (play : Played) : Type 0 where
  pub all : play.ended ≡ None → length play.world ≡ count
  pub next : (place : ℕ) → play.ended ≡ Some place → place ≡ suc (length play.world)

no_end : (o : Option ℕ) (place : ℕ) → o ≡ None → o ≡ Some place → ⊥
no_end o place none some = absurd (cc)

end_there : (o : Option ℕ) → is_some o ≡ true → o ≡ None → ⊥
end_there o there none =
    let never : true ≡ false = sym there ∙ ap is_some none in
    absurd (cc)

no_more : (o : Option ℕ) → is_some o ≡ false → o ≡ None
no_more None h = refl
no_more (Some place) h = absurd (cc)

placed : (count : ℕ) (play : Played) (x : Place) → play.ended ≡ None → HasTaken count play → HasTaken (suc count) (with_place play x)
placed count play x on old = record { all = λ none. ap suc (old.all none); next = λ place some. absurd (no_end play.ended place on some) }

ended : (count : ℕ) (play : Played) → HasTaken count (record play { ended = Some (suc (length play.world)) })
ended count play = record { all = λ none. absurd (cc); next = λ place some. sym (same_Some (suc (length play.world)) place some) }

module _ (c : Configuration) (seed : List ℕ) (count : ℕ) (play : Played) (on : play.ended ≡ None) (old : HasTaken count play) where
  asked_takes : (s : Sent) → HasTaken (suc count) (asked c seed play s)
  asked_takes s =
      let x : Place = stepped (own_site c) s.from s.to play.at (words_after seed (length play.world)) s.ask play.world in
      let H : Bool → Type 0 = λ b. HasTaken (suc count) (cond b (with_place play x) (record play { ended = Some (suc (length play.world)) })) in
      elim (bool_cases (has_room c play.world s)) [
        | inl room ↦ subst H (sym room) (placed count play x on old)
        | inr full ↦ subst H (sym full) (ended (suc count) play)
      ]

  place_takes : (o : Option Sent) → HasTaken (suc count) (asked_if c seed play o)
  place_takes None = placed count play Nothing on old
  place_takes (Some s) = asked_takes s

  line_takes : (line : Line) → HasTaken (cond (takes_place line) (suc count) count) (line_played c seed play line)
  line_takes (At seconds) = record { all = old.all; next = old.next }
  line_takes (Steal thief owner) = record { all = old.all; next = old.next }
  line_takes (Show place) = old
  line_takes (Begin from party) = place_takes (line_sent c play.world play.jars (Begin from party))
  line_takes (Visit from party) = place_takes (line_sent c play.world play.jars (Visit from party))
  line_takes (Leave from party) = place_takes (line_sent c play.world play.jars (Leave from party))
  line_takes (SignOut from) = place_takes (line_sent c play.world play.jars (SignOut from))
  line_takes (Follow from place) = place_takes (line_sent c play.world play.jars (Follow from place))
  line_takes (Mix from place name other) = place_takes (line_sent c play.world play.jars (Mix from place name other))
  line_takes (Forge from place user) = place_takes (line_sent c play.world play.jars (Forge from place user))
  line_takes (Login from place user password) = place_takes (line_sent c play.world play.jars (Login from place user password))
  line_takes (Consent from place agree) = place_takes (line_sent c play.world play.jars (Consent from place agree))
  line_takes (Carry place message) = place_takes (line_sent c play.world play.jars (Carry place message))
  line_takes (Back place answer) = place_takes (line_sent c play.world play.jars (Back place answer))
  line_takes (Raw from role method target first second auth body) = place_takes (line_sent c play.world play.jars (Raw from role method target first second auth body))

on_takes : (c : Configuration) (seed : List ℕ) (count : ℕ) (play : Played) (line : Line) → HasTaken count play → HasTaken (cond (takes_place line) (suc count) count) (play_on c seed play line)
on_takes c seed count play line old =
    let n : ℕ = cond (takes_place line) (suc count) count in
    let H : Bool → Type 0 = λ b. HasTaken n (cond b play (line_played c seed play line)) in
    elim (bool_cases (is_some play.ended)) [
      | inl over ↦ subst H (sym over) (record { all = λ none. absurd (end_there play.ended over none); next = old.next })
      | inr on ↦ subst H (sym on) (line_takes c seed count play (no_more play.ended on) old line)
    ]

takes : (c : Configuration) (seed : List ℕ) (lines : List Line) → HasTaken (places_after lines) (play_lines c seed lines)
takes c seed [] = record { all = λ none. refl; next = λ place some. absurd (cc) }
takes c seed (line ∷ lines) = on_takes c seed (places_after lines) (play_lines c seed lines) line (takes c seed lines)

pub has_places : (c : Configuration) (seed : List ℕ) (lines : List Line) → (play_lines c seed lines).ended ≡ None → length (play_lines c seed lines).world ≡ places_after lines
has_places c seed lines none = (takes c seed lines).all none

pub ends_next : (c : Configuration) (seed : List ℕ) (lines : List Line) (place : ℕ) → (play_lines c seed lines).ended ≡ Some place → place ≡ suc (length (play_lines c seed lines).world)
ends_next c seed lines place some = (takes c seed lines).next place some
