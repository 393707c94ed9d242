-- The core as a value, and its invariant: what it keeps, with the inner core's history, is a legal history, and its tables and its book
-- are those of that history.
use Rattle.std.specs.Prelude.{◌≡◌, ℕ, Bool, true, false, ◌&&◌, List, length, reverse, filter, Option, Some, None, is_some}
use Rattle.std.specs.List.{list_all}
use Rattle.sso_base.specs.Words.{Word}
use Rattle.sso_base.specs.Rows.{live_rows}
use Rattle.sso_base.specs.Legal.{last_moment}
use Rattle.sso_base.specs.Journal.{history_weight}
use Rattle.sso_base.specs.declared.history.Pair.{Pair}
use Rattle.client_registry.specs.Configuration.{Configuration}
use Rattle.client_registry.specs.Numbers.{is_client, is_user}
use Rattle.oidc_words.specs.Lives.{access_life, family_life}
use Rattle.code_grant.specs.declared.rows.CodeRow.{CodeRow}
use Rattle.userinfo.specs.declared.header.Bearer.TheVariants.{Given}
use Rattle.op_exchange.specs.declared.ask.OpAsk.{OpAsk}
use Rattle.op_exchange.specs.declared.ask.OpAsk.TheVariants.{Info}
use Rattle.op_exchange.specs.declared.reply.OpReply.{OpReply}
use Rattle.op_answer.specs.Past.{OpPair}
use Rattle.op_answer.specs.Codes.{held_code}
use Rattle.core_stack.specs.declared.kept.Kept.{Kept}
use Rattle.core_stack.specs.declared.marks.TurnMark.{TurnMark}
use Rattle.core_stack.specs.declared.marks.CodeMark.{CodeMark}
use Rattle.core_stack.specs.Kept.{passed_count}
use Rattle.core_stack.specs.Holding.{HoldMarks}
use Rattle.refresh_answer.specs.declared.asks.RefreshAsk.{RefreshAsk}
use Rattle.refresh_answer.specs.declared.asks.RefreshAsk.TheVariants as ask
use Rattle.refresh_answer.specs.declared.asks.RefreshParts.{RefreshParts}
use Rattle.refresh_answer.specs.declared.asks.OwnReply.{OwnReply}
use Rattle.refresh_answer.specs.declared.rows.FamilyRow.{FamilyRow}
use Rattle.refresh_answer.specs.declared.rows.AccessRow.{AccessRow}
use Rattle.refresh_answer.specs.Rows.{family_begun, access_begun}
use Rattle.refresh_answer.specs.Around.{Outer, merged_history, outer_plain, outer_given, outer_weight, offline_mark}
use Rattle.refresh_answer.specs.Families.{provider_past, living_in, families, accesses, held_tokens}
use Rattle.refresh_answer.specs.Answering.{Setup, IsLegalRefresh}
use Rattle.refresh_rows.specs.Booked.{Booked}

-- the inner core, the registry, and the history, oldest pair first
pub record Refreshing (P A R : Type 0) : Type 0 where
  pub inner : P
  pub registry : Configuration
  pub history : List (Outer A R)

-- what is kept of an entry
abbrev pub KeptEntry : Type 0 → Type 0
KeptEntry A = Kept RefreshParts (Pair (RefreshAsk A) OwnReply)

-- ---- what is looked up

abbrev pub is_refresh_ask : {A : Type 0} → RefreshAsk A → Bool
is_refresh_ask (ask.Refresh grant) = true
is_refresh_ask (ask.Through inner offline) = false

-- the access token of a UserInfo request
abbrev pub bearer_in : Option OpAsk → Option Word
bearer_in (Some (Info (Given w))) = Some w
bearer_in asked = None

-- a family, and a code, of a client and a user of the registry
abbrev pub is_own_family : Configuration → FamilyRow → Bool
is_own_family c f = is_client c f.client && is_user c f.user

abbrev pub is_own_code : Configuration → CodeRow → Bool
is_own_code c code = is_client c code.wish.client && is_user c code.user

abbrev pub code_held : {A R : Type 0} → (List (Pair A R) → List OpPair) → List (Outer A R) → ℕ → Option Word → Option CodeRow
code_held provided past at w = held_code (provider_past provided past) at w

-- ---- the book of a past

module _ {A R : Type 0} (plain : A → Option OpAsk) (given : R → Option OpReply) (provided : List (Pair A R) → List OpPair) where
  -- the access tokens of families that live at the moment, if they live
  abbrev pub held_accesses : List (Outer A R) → ℕ → List AccessRow
  held_accesses past at =
      live_rows access_life access_begun at
      (filter (λ (x : AccessRow). is_some (living_in (families plain given provided past) at x.family)) (accesses plain given provided past))

  -- its rows are those of the past that live at the moment
  pub record IsBookAt (past : List (Outer A R)) (at : ℕ) (b : Booked) : Type 0 where
    pub families_are : b.families ≡ live_rows family_life family_begun at (families plain given provided past)
    pub tokens_are : b.tokens ≡ held_tokens plain given provided past at
    pub accesses_are : b.accesses ≡ held_accesses past at
    pub last_is : b.last ≡ at

-- ---- the invariant

module _ {A R S : Type 0} (plain : A → Option OpAsk) (given : R → Option OpReply) (provided : List (Pair A R) → List OpPair) (IsAsk : A → Type 0)
    (weighs : A → ℕ) (most : S → ℕ) (IsLegalInner : S → List (Pair A R) → Type 0) where
  pub record Keeps (s : Setup S) (inner : List (Pair A R)) (kept : List (KeptEntry A)) (weight last limit : ℕ)
      (turns : List (TurnMark Bool)) (codes : List (CodeMark Bool)) (b : Booked) : Type 0 where
    pub count : passed_count kept ≡ length inner
    pub weight_is : weight ≡ history_weight (outer_weight weighs) (merged_history kept inner)
    pub last_is : last ≡ last_moment (reverse (merged_history kept inner))
    pub limit_is : limit ≡ most s.inner
    pub marks : HoldMarks (outer_plain plain) (outer_given given) offline_mark false (reverse (merged_history kept inner)) last turns codes
    pub book : IsBookAt plain given provided (reverse (merged_history kept inner)) last b
    pub own : list_all (is_own_family s.registry) b.families ≡ true
    pub legal : IsLegalRefresh plain given provided IsAsk weighs most IsLegalInner s (merged_history kept inner)
