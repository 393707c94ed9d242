-- Turns: from the page of an authorization request to its authorization response (OpenID Connect Core 1.0, 3.1.2.3 and
-- 3.1.2.4).
use Rattle.std.specs.Prelude.{◌≡◌, ℕ, Bool, true, false, not, List, Option, Some, None, option_and_then, if◌then◌else◌}
use Rattle.std.specs.Str.{bytes_eq}
use Rattle.std.specs.List.{list_any}
use Rattle.sso_base.specs.Words.{Word, is_word}
use Rattle.sso_base.specs.Rows.{rows_by, row_of, live_rows, if_lives}
use Rattle.auth_request.specs.declared.wish.Verdict.TheVariants.{Grant}
use Rattle.code_grant.specs.declared.rows.TurnRow.{TurnRow}
use Rattle.code_grant.specs.Rows.{turn_name, turn_begun}
use Rattle.oidc_words.specs.Lives.{turn_life}
use Rattle.op_exchange.specs.declared.ask.OpAsk.{OpAsk}
use Rattle.op_exchange.specs.declared.ask.OpAsk.TheVariants.{Authorize, Login, Consent}
use Rattle.op_exchange.specs.declared.reply.OpReply.{OpReply}
use Rattle.op_exchange.specs.declared.reply.OpReply.TheVariants.{LoginPage, ConsentPage}
use Rattle.op_exchange.specs.Replied.{ends_turn}
use Rattle.op_answer.specs.Past.{OpPair, OpPast}

-- the turn that a form was posted for
abbrev pub turn_named : OpAsk → Option Word
turn_named (Login turn signed browser session) = turn
turn_named (Consent turn agree browser session) = turn
turn_named ask = None

-- an authorization request got a page, and this is the word of its turn
abbrev pub BeginsTurn : OpAsk → OpReply → Word → Type 0
BeginsTurn (Authorize verdict browser session) (LoginPage w b again) v = w ≡ v
BeginsTurn (Authorize verdict browser session) (ConsentPage w b given client scopes) v = w ≡ v
BeginsTurn asked told v = ⊥

-- A turn is made by an authorization request that gets a page. If that is a consent page, its session is the presented one.
abbrev pub turn_started : ℕ → OpAsk → OpReply → Option TurnRow
turn_started at (Authorize (Grant wish) b session) (LoginPage w browser again) =
    Some (record { word = w; browser = browser; wish = wish; session = None; in_turn = false; begun = at })
turn_started at (Authorize (Grant wish) b session) (ConsentPage w browser given client scopes) =
    Some (record { word = w; browser = browser; wish = wish; session = session; in_turn = false; begun = at })
turn_started at ask reply = None

abbrev pub turn_made : List TurnRow → OpPast → OpPair → Option TurnRow
turn_made held past p = turn_started p.entry.at p.entry.ask p.reply

-- A consent page after a login gives the turn that login's session, and sets `in_turn`.
abbrev pub turn_taken : OpAsk → OpReply → TurnRow → TurnRow
turn_taken (Login turn signed b presented) (ConsentPage w browser (Some session) client scopes) row =
    record row { session = Some session; in_turn = true }
turn_taken ask reply row = row

-- A turn ends by a later authorization response for it.
abbrev pub turn_kept : OpPast → OpPair → TurnRow → Option TurnRow
turn_kept past p row =
    if not (is_word (turn_named p.entry.ask) row.word)
    then Some row
    else if ends_turn p.reply
    then None
    else Some (turn_taken p.entry.ask p.reply row)

abbrev pub turns : OpPast → List TurnRow
turns past = rows_by turn_name turn_made turn_kept past

abbrev pub live_turns : OpPast → ℕ → List TurnRow
live_turns past at = live_rows turn_life turn_begun at (turns past)

abbrev pub turn_of : OpPast → Option Word → Option TurnRow
turn_of past w = option_and_then (λ v. row_of turn_name v (turns past)) w

abbrev pub live_turn : OpPast → ℕ → Option Word → Option TurnRow
live_turn past at w = option_and_then (if_lives turn_life turn_begun at) (turn_of past w)

-- a live turn belongs to this browser
abbrev pub has_turn_browser : OpPast → ℕ → Word → Bool
has_turn_browser past at browser = list_any (λ (turn : TurnRow). bytes_eq turn.browser browser) (live_turns past at)
