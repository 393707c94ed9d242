-- The verifiers of a relying party's logins (RFC 7636, 4.1). Each authorization request draws one; its row stands as long as the login.
use Rattle.std.specs.Prelude.{ℕ, ◌&&◌, List, Option, Some, None, option_map, option_and_then, if◌then◌else◌}
use Rattle.sso_base.specs.Words.{Word, is_word, fresh_word}
use Rattle.sso_base.specs.Rows.{rows_by, row_of, live_rows, if_lives}
use Rattle.oidc_words.specs.Lives.{login_life}
use Rattle.rp_exchange.specs.declared.ask.RpAsk.{RpAsk}
use Rattle.rp_exchange.specs.declared.ask.RpAsk.TheVariants.{Begin}
use Rattle.rp_exchange.specs.declared.reply.RpReply.{RpReply}
use Rattle.rp_exchange.specs.declared.reply.RpReply.TheVariants.{Ask}
use Rattle.rp_answer.specs.Past.{RpPair, RpPast}
use Rattle.rp_answer.specs.Asked.{state_named}
use Rattle.rp_answer.specs.Logins.{ends_login}
use Rattle.pkce_party.specs.declared.rows.VerifierRow.{VerifierRow}

-- the state of the login names the row
abbrev pub verifier_name : VerifierRow → Word
verifier_name row = row.state

abbrev pub verifier_begun : VerifierRow → ℕ
verifier_begun row = row.begun

-- what a request to begin a login draws: the second of its random words is the state, and the text of the fourth is the verifier
abbrev pub row_drawn : ℕ → List Word → RpAsk → Option VerifierRow
row_drawn at fresh (Begin presented) = Some (record { state = fresh_word fresh 1; word = fresh_word fresh 3; begun = at })
row_drawn at fresh asked = None

-- if the reply is an authorization request
abbrev pub if_begun : RpReply → Option VerifierRow → Option VerifierRow
if_begun (Ask to browser) drawn = drawn
if_begun reply drawn = None

abbrev pub verifier_made : List VerifierRow → RpPast → RpPair → Option VerifierRow
verifier_made held past p = if_begun p.reply (row_drawn p.entry.at p.entry.fresh p.entry.ask)

-- it ends with the login
abbrev pub verifier_kept : RpPast → RpPair → VerifierRow → Option VerifierRow
verifier_kept past p row = if is_word (state_named p.entry.ask) row.state && ends_login p.reply then None else Some row

abbrev pub verifiers : RpPast → List VerifierRow
verifiers past = rows_by verifier_name verifier_made verifier_kept past

abbrev pub live_verifiers : RpPast → ℕ → List VerifierRow
live_verifiers past at = live_rows login_life verifier_begun at (verifiers past)

abbrev pub verifier_of : RpPast → Option Word → Option VerifierRow
verifier_of past state = option_and_then (λ w. row_of verifier_name w (verifiers past)) state

abbrev pub live_verifier : RpPast → ℕ → Option Word → Option VerifierRow
live_verifier past at state = option_and_then (if_lives login_life verifier_begun at) (verifier_of past state)

-- the word of the verifier of the live login that an authorization response belongs to
abbrev pub word_held : RpPast → ℕ → RpAsk → Option Word
word_held past at asked = option_map (λ (row : VerifierRow). row.word) (live_verifier past at (state_named asked))
