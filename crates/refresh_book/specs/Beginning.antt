-- What an entry that is passed on changes in the book.
use Rattle.std.specs.Prelude.{◌≡◌, ℕ, Bool, true, false, List, length, Option, Some, None, option_map, IfSome}
use Rattle.sso_base.specs.Words.{Word}
use Rattle.sso_base.specs.declared.history.Pair.{Pair}
use Rattle.op_exchange.specs.declared.ask.OpAsk.{OpAsk}
use Rattle.op_exchange.specs.declared.reply.OpReply.{OpReply}
use Rattle.op_exchange.specs.declared.reply.OpReply.TheVariants.{Tokens}
use Rattle.op_answer.specs.Past.{OpPair}
use Rattle.core_stack.specs.Marks.{is_wish, named_in, answer_mark}
use Rattle.refresh_answer.specs.declared.asks.RefreshAsk.{RefreshAsk}
use Rattle.refresh_answer.specs.declared.rows.FamilyRow.{FamilyRow}
use Rattle.refresh_answer.specs.declared.rows.RefreshRow.{RefreshRow}
use Rattle.client_registry.specs.Configuration.{Configuration}
use Rattle.refresh_answer.specs.Rows.{new_token}
use Rattle.refresh_answer.specs.Around.{Outer, outer_plain, outer_given, offline_mark}
use Rattle.refresh_answer.specs.Families.{is_code_replay, token_code, if_true, family_for, family_at, code_offline, code_presented}
use Rattle.refresh_rows.specs.Booked.{Booked, is_of_code}
use Rattle.refresh_book.specs.Keeps.{is_own_family, code_held}
use Rattle.refresh_book.specs.declared.beginning.Spent.{Spent}
use Rattle.refresh_book.specs.declared.beginning.Pending.{Pending}

-- the family began for the spent code of the client
abbrev pub is_spent : Option Spent → FamilyRow → Bool
is_spent None f = false
is_spent (Some s) f = is_of_code s.code s.client f

abbrev pub gives_tokens : Option OpReply → Bool
gives_tokens (Some (Tokens access id)) = true
gives_tokens told = false

-- the first token of a family that begins
abbrev pub first_of : Option FamilyRow → Word → Option Word
first_of None w = None
first_of (Some f) w = Some w

abbrev pub token_of : Option FamilyRow → Word → Option RefreshRow
token_of None w = None
token_of (Some f) w = Some (new_token f.by w)

-- a family may begin: it begins at the moment of the book, and its place is new
abbrev pub MayBegin : Booked → Option FamilyRow → Type 0
MayBegin b family = IfSome family (λ f. (f.begun ≡ b.last) × (family_at f.by b.families ≡ None))

module _ {A R : Type 0} (plain : A → Option OpAsk) (given : R → Option OpReply) (provided : List (Pair A R) → List OpPair) where
  -- the family that begins with tokens for the code of this word, if there is room
  abbrev pub family_asked : List (Outer A R) → ℕ → Option Word → Option FamilyRow
  family_asked past at code =
      if_true (code_offline plain given provided past at code) (option_map (family_for (length past) at) (code_held provided past at code))

  -- what is known of an entry before it is passed on
  pub record IsPending (c : Configuration) (past : List (Outer A R)) (at : ℕ) (asked : RefreshAsk A) (p : Pending) : Type 0 where
    pub wish : p.wish ≡ is_wish (outer_plain plain asked)
    pub sent : p.sent ≡ offline_mark asked
    pub answer : p.answer ≡ answer_mark (outer_plain plain) (outer_given given) offline_mark false past at (offline_mark asked) (outer_plain plain asked)
    pub turn : p.turn ≡ named_in (outer_plain plain asked)
    pub spent : (f : FamilyRow) → is_spent p.spent f ≡ is_code_replay (code_presented plain given provided past at asked) (outer_plain plain asked) f
    pub family : p.family ≡ family_asked past at (token_code (outer_plain plain asked))
    pub own : (f : FamilyRow) → p.family ≡ Some f → is_own_family c f ≡ true
