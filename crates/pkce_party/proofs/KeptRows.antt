-- What a pair keeps of the verifiers, and what it makes.
use Rattle.std.proofs.Common.{◌≡◌, ℕ, Bool, true, false, ◌&&◌, cond, List, filter_map, Option, Some, None, refl, sym, ◌∙◌, ap}
use Rattle.sso_base.specs.Words.{Word, is_word, fresh_word}
use Rattle.sso_base.specs.Stands.{KeepsNames}
use Rattle.rp_exchange.specs.declared.ask.RpAsk.{RpAsk}
use Rattle.rp_exchange.specs.declared.ask.RpAsk.TheVariants as ask
use Rattle.rp_exchange.specs.declared.reply.RpReply.{RpReply}
use Rattle.rp_exchange.specs.declared.reply.RpReply.TheVariants as reply
use Rattle.rp_answer.specs.Past.{RpPair, RpPast}
use Rattle.rp_answer.specs.Asked.{state_named}
use Rattle.rp_answer.specs.Logins.{ends_login}
use Rattle.rp_answer.proofs.KeptNames.{some_same}
use Rattle.rp_core.proofs.KeptRows.{ended_rule, unended, unnamed, ended}
use Rattle.pkce_party.specs.declared.rows.VerifierRow.{VerifierRow}
use Rattle.pkce_party.specs.Verifiers.{verifier_name, verifier_begun, row_drawn, if_begun, verifier_made, verifier_kept}
use Rattle.pkce_party.specs.Noting.{ended_rows}

dropped_same : (b : Bool) (row after : VerifierRow) → cond b None (Some row) ≡ Some after → after ≡ row
dropped_same true row after h = cc
dropped_same false row after h = sym (some_same row after h)

pub verifier_same : (past : RpPast) (p : RpPair) (row after : VerifierRow) → verifier_kept past p row ≡ Some after → after ≡ row
verifier_same past p row after h = dropped_same (is_word (state_named p.entry.ask) row.state && ends_login p.reply) row after h

pub verifier_names : KeepsNames verifier_name verifier_kept
verifier_names past p row after h = ap verifier_name (verifier_same past p row after h)

pub verifier_begun_kept : (past : RpPast) (p : RpPair) (row after : VerifierRow) → verifier_kept past p row ≡ Some after
    → verifier_begun after ≡ verifier_begun row
verifier_begun_kept past p row after h = ap verifier_begun (verifier_same past p row after h)

-- ---- the row that is made

abbrev pub drawn_row : ℕ → List Word → VerifierRow
drawn_row at fresh = record { state = fresh_word fresh 1; word = fresh_word fresh 3; begun = at }

-- a request that draws no row begins none
pub none_begun : (told : RpReply) → if_begun told None ≡ None
none_begun (reply.Ask to browser) = refl
none_begun told = refl

drawn_begun : (at : ℕ) (fresh : List Word) (asked : RpAsk) (told : RpReply) (row : VerifierRow) → if_begun told (row_drawn at fresh asked) ≡ Some row
    → verifier_begun row ≡ at
drawn_begun at fresh (ask.Begin presented) (reply.Ask to browser) row h = ap verifier_begun (sym (some_same (drawn_row at fresh) row h))
drawn_begun at fresh (ask.Begin presented) told row h = cc
drawn_begun at fresh asked told row h = (let k : None ≡ Some row = sym (none_begun told) ∙ h in cc)

pub verifier_made_begun : (held : List VerifierRow) (past : RpPast) (p : RpPair) (row : VerifierRow) → verifier_made held past p ≡ Some row
    → verifier_begun row ≡ p.entry.at
verifier_made_begun held past p row h = drawn_begun p.entry.at p.entry.fresh p.entry.ask p.reply row h

-- ---- the rows that are left

pub left_as_kept : (ends : Bool) (state : Option Word) (rows : List VerifierRow)
    → ended_rows ends state rows ≡ filter_map (ended_rule verifier_name state ends) rows
left_as_kept false state rows = sym (unended verifier_name state false refl rows)
left_as_kept true None rows = sym (unnamed verifier_name None true refl rows)
left_as_kept true (Some w) rows = sym (ended verifier_name (Some w) true w refl refl rows)
