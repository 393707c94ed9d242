-- Marks of authorization requests, as their code challenges. The mark of a request goes to the turn that its page begins, and to the
-- code that answers it: at once, or at a form of its turn. `plain` gives the provider's request in a request, and `given` the reply
-- that the provider gave.
use Rattle.std.specs.Prelude.{ℕ, Bool, true, false, List, Option, Some, None, option_map, option_and_then, if◌then◌else◌}
use Rattle.sso_base.specs.Words.{Word, is_word}
use Rattle.sso_base.specs.Rows.{rows_by, row_of, without, if_lives}
use Rattle.sso_base.specs.declared.history.Pair.{Pair}
use Rattle.oidc_words.specs.Lives.{turn_life, code_life}
use Rattle.auth_request.specs.declared.wish.Verdict.TheVariants.{Grant}
use Rattle.op_exchange.specs.declared.ask.OpAsk.{OpAsk}
use Rattle.op_exchange.specs.declared.ask.OpAsk.TheVariants.{Authorize, Login, Consent}
use Rattle.op_exchange.specs.declared.reply.OpReply.{OpReply}
use Rattle.op_exchange.specs.declared.reply.OpReply.TheVariants.{LoginPage, ConsentPage}
use Rattle.op_exchange.specs.Replied.{ends_turn, code_in}
use Rattle.op_answer.specs.Turns.{turn_named}
use Rattle.core_stack.specs.declared.marks.TurnMark.{TurnMark}
use Rattle.core_stack.specs.declared.marks.CodeMark.{CodeMark}
use Rattle.core_stack.specs.Rows.{turn_mark_name, turn_mark_begun, code_mark_name, code_mark_begun}

-- ---- turns

-- an authorization request that may be answered
abbrev pub is_wish : Option OpAsk → Bool
is_wish (Some (Authorize (Grant wish) browser session)) = true
is_wish asked = false

-- the turn of a page
abbrev pub page_turn : OpReply → Option Word
page_turn (LoginPage turn browser again) = Some turn
page_turn (ConsentPage turn browser session client scopes) = Some turn
page_turn told = None

abbrev pub turn_mark : {M : Type 0} → Word → M → ℕ → TurnMark M
turn_mark w mark at = record { turn = w; mark = mark; begun = at }

-- an authorization request that got a page begins a turn
abbrev pub turn_row : {M : Type 0} → Option OpReply → Bool → M → ℕ → Option (TurnMark M)
turn_row (Some told) true mark at = option_map (λ w. turn_mark w mark at) (page_turn told)
turn_row told asks mark at = None

-- the turn that a form was posted for
abbrev pub named_in : Option OpAsk → Option Word
named_in None = None
named_in (Some asked) = turn_named asked

-- an authorization response ends the turn of its form
abbrev pub ends_by : Option OpReply → Bool
ends_by None = false
ends_by (Some told) = ends_turn told

abbrev pub turn_ended : Option OpReply → Option Word → Option Word
turn_ended told named = if ends_by told then named else None

-- the rows that are left where a turn ends
abbrev pub turns_left : {M : Type 0} → Option Word → List (TurnMark M) → List (TurnMark M)
turns_left None rows = rows
turns_left (Some w) rows = without turn_mark_name w rows

abbrev pub turn_kept : {A R M : Type 0} → (A → Option OpAsk) → (R → Option OpReply) → List (Pair A R) → Pair A R → TurnMark M
    → Option (TurnMark M)
turn_kept plain given past p row =
    if is_word (turn_ended (given p.reply) (named_in (plain p.entry.ask))) row.turn then None else Some row

-- the mark of a row that was found, or that of no request
abbrev pub mark_in_turn : {M : Type 0} → M → Option (TurnMark M) → M
mark_in_turn none None = none
mark_in_turn none (Some row) = row.mark

abbrev pub mark_in_code : {M : Type 0} → M → Option (CodeMark M) → M
mark_in_code none None = none
mark_in_code none (Some row) = row.mark

module _ {A R M : Type 0} (plain : A → Option OpAsk) (given : R → Option OpReply) (mark : A → M) where
  abbrev pub turn_made : List (TurnMark M) → List (Pair A R) → Pair A R → Option (TurnMark M)
  turn_made held past p = turn_row (given p.reply) (is_wish (plain p.entry.ask)) (mark p.entry.ask) p.entry.at

  -- the turns after a past, with their marks
  abbrev pub marked_turns : List (Pair A R) → List (TurnMark M)
  marked_turns past = rows_by turn_mark_name turn_made (turn_kept plain given) past

  -- the turn of a word, if it lives
  abbrev pub marked_turn : List (Pair A R) → ℕ → Option Word → Option (TurnMark M)
  marked_turn past at w =
      option_and_then (if_lives turn_life turn_mark_begun at) (option_and_then (λ v. row_of turn_mark_name v (marked_turns past)) w)

-- ---- codes

abbrev pub code_mark : {M : Type 0} → Word → M → ℕ → CodeMark M
code_mark w mark at = record { code = w; mark = mark; issued = at }

-- an authorization response that has a code makes it
abbrev pub code_row : {M : Type 0} → Option OpReply → M → ℕ → Option (CodeMark M)
code_row None mark at = None
code_row (Some told) mark at = option_map (λ w. code_mark w mark at) (code_in told)

-- no pair ends a code
abbrev pub code_kept : {A R M : Type 0} → List (Pair A R) → Pair A R → CodeMark M → Option (CodeMark M)
code_kept past p row = Some row

module _ {A R M : Type 0} (plain : A → Option OpAsk) (given : R → Option OpReply) (mark : A → M) (none : M) where
  -- the mark of the request that a response answers: its own, or that of the form's turn
  abbrev pub answer_mark : List (Pair A R) → ℕ → M → Option OpAsk → M
  answer_mark past at own (Some (Authorize verdict browser session)) = own
  answer_mark past at own (Some (Login turn signed browser session)) = mark_in_turn none (marked_turn plain given mark past at turn)
  answer_mark past at own (Some (Consent turn agree browser session)) = mark_in_turn none (marked_turn plain given mark past at turn)
  answer_mark past at own asked = none

  abbrev pub code_made : List (CodeMark M) → List (Pair A R) → Pair A R → Option (CodeMark M)
  code_made held past p =
      code_row (given p.reply) (answer_mark past p.entry.at (mark p.entry.ask) (plain p.entry.ask)) p.entry.at

  -- the codes after a past, with their marks
  abbrev pub marked_codes : List (Pair A R) → List (CodeMark M)
  marked_codes past = rows_by code_mark_name code_made code_kept past

  -- the code of a word, if it is kept
  abbrev pub marked_code : List (Pair A R) → ℕ → Option Word → Option (CodeMark M)
  marked_code past at w =
      option_and_then (if_lives code_life code_mark_begun at) (option_and_then (λ v. row_of code_mark_name v (marked_codes past)) w)
