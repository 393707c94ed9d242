-- How a legal world is built place by place, and when a login fails at its last place: it kept all conditions but one, and the reply
-- leads nowhere.
use Rattle.std.proofs.Common.{◌≡◌, ◌≤◌, ◌<◌, ℕ, true, false, List, [], ◌∷◌, length, Option, Some, IfSome, refl, sym, subst, ◌∙◌, arith}
use Rattle.sso_base.specs.Legal.{IsEntry}
use Rattle.sso_base.specs.Rows.{lives}
use Rattle.sso_base.specs.Values.{latest_moment}
use Rattle.oidc_words.specs.Lives.{turn_life, session_life, code_usable, login_life, pending_life}
use Rattle.client_registry.specs.Configuration.{Configuration}
use Rattle.client_registry.specs.Registered.{IsRegistry}
use Rattle.code_grant.specs.declared.rows.TurnRow.{TurnRow}
use Rattle.code_grant.specs.declared.rows.SessionRow.{SessionRow}
use Rattle.code_grant.specs.declared.rows.CodeRow.{CodeRow}
use Rattle.rp_login.specs.declared.rows.LoginRow.{LoginRow}
use Rattle.rp_login.specs.declared.rows.PendingRow.{PendingRow}
use Rattle.rp_exchange.specs.declared.reply.RpReply.{RpReply}
use Rattle.rp_exchange.specs.Values.{IsRpAsk}
use Rattle.rp_request.specs.Prepared.{prepared as rp_prepared}
use Rattle.rp_answer.specs.Answering.{rp_answer}
use Rattle.rp_answer.proofs.Sample.{words, pair_of}
use Rattle.rp_answer.proofs.FirstVisit.{begin_entry}
use Rattle.sso_places.specs.declared.types.WorldAsk.TheVariants.{Http}
use Rattle.sso_places.specs.Premises.{HasDistinctWords}
use Rattle.sso_places.specs.Site.{own_site, setup_at}
use Rattle.sso_places.specs.World.{Place, Party, World, reply_at}
use Rattle.sso_places.proofs.SmallSite.{all_words, legal_entry}
use Rattle.sso_places.proofs.LoginByCode.{begins}
use Rattle.honest_places.specs.Conditions.{Condition, within_lives, code_in_time, Unless}
use Rattle.honest_places.specs.Login.{Visitor, MayLogInBut, IsHonestBut, Continues, went_on}
use Rattle.honest_places.specs.Outcome.{leads_on}
use Rattle.honest_worlds.specs.Needed.{FailsWithout}
use Rattle.honest_worlds.proofs.Growing.{Stands, nothing_stands, party_stands}

-- ---- entries and rows

-- an entry at any moment, with the four words from a number on
pub entry_then : {A : Type 0} (IsAsk : A → Type 0) (at n : ℕ) (asked : A) → at ≤ latest_moment → all_words (words n) ≡ true → IsAsk asked → IsEntry IsAsk (record { at = at; fresh = words n; ask = asked })
entry_then IsAsk at n asked known all asks = record { moment = known; four = refl; words = (legal_entry IsAsk n asked all asks).words; ask = asks }

-- what a request names is in time at a moment, unless this condition is left out
module _ (left_out : Option Condition) (at : ℕ) where
  abbrev pub TurnLives : TurnRow → Type 0
  TurnLives row = Unless left_out within_lives (lives turn_life row.begun at ≡ true)

  abbrev pub SessionLives : SessionRow → Type 0
  SessionLives row = Unless left_out within_lives (lives session_life row.auth_time at ≡ true)

  abbrev pub CodeLives : CodeRow → Type 0
  CodeLives row = Unless left_out code_in_time (lives code_usable row.issued at ≡ true)

  abbrev pub LoginLives : LoginRow → Type 0
  LoginLives row = Unless left_out within_lives (lives login_life row.begun at ≡ true)

  abbrev pub PendingLives : PendingRow → Type 0
  PendingLives row = Unless left_out within_lives (lives pending_life row.since at ≡ true)

-- what is true for the row that stands, if one does, is true for each that is said to stand
pub of_row : {R : Type 0} (P : R → Type 0) (o : Option R) → IfSome o P → (row : R) → o ≡ Some row → P row
of_row P o holds row is = subst (λ x. IfSome x P) is holds

-- ---- worlds

module _ (c : Configuration) where
  -- the first place of a world, where browser 1 begins a login at the party of a number
  pub begun_stands : (n : ℕ) (told : RpReply) → n < length c.parties → rp_prepared c n begins ≡ begin_entry.ask → rp_answer (setup_at (own_site c) n) [] begin_entry ≡ told
      → Stands c (Party n 1 (Http begins) (pair_of begin_entry told) ∷ [])
  begun_stands n told known asked answered = party_stands c [] n 1 (Http begins) (pair_of begin_entry told) (nothing_stands c) (record {
    known = known;
    asked = asked;
    entry = legal_entry IsRpAsk 1 begin_entry.ask refl tt;
    after_own = omega arith;
    after_all = omega arith;
    answered = answered;
  })

  -- ---- the failure

  -- the last reply of a login that kept all conditions but one leads nowhere
  pub fails_there : (condition : Condition) (v : Visitor) (world : World) (x last : Place) (earlier : List Place)
      → IsRegistry c → Stands c (x ∷ world) → HasDistinctWords (x ∷ world) → MayLogInBut (Some condition) c v
      → IsHonestBut (Some condition) c v world (last ∷ earlier) → Continues (Some condition) c v world x last earlier
      → leads_on (reply_at x) ≡ false → FailsWithout condition
  fails_there condition v world x last earlier registry stands distinct may so_far next bad = record {
    configuration = c;
    visitor = v;
    world = x ∷ world;
    last = x;
    earlier = last ∷ earlier;
    registry = registry;
    legal = stands.legal;
    distinct = distinct;
    order = stands.order;
    may = may;
    honest = went_on world last earlier x so_far next;
    fails = λ well. (let never : false ≡ true = sym bad ∙ well.good.0 in absurd (cc));
  }
