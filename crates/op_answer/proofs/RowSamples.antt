-- What the rows of the first login are about, and where their words come from, by the laws over its legal pasts.
use Rattle.std.proofs.Common.{◌≡◌, ◌≤◌, ℕ, true, false, [], ◌∷◌, ◌++◌, get_or, Option, Some, None, Ok, refl, sym, ap, ◌∙◌, subst, arith}
use Rattle.sso_base.specs.Words.{Word, Text, fresh_word, word_of_text}
use Rattle.client_registry.specs.ClientSets.{no_clients}
use Rattle.oidc_words.specs.declared.errors.AuthError.TheVariants.{LoginRequired}
use Rattle.op_exchange.specs.declared.reply.OpReply.TheVariants.{Refused}
use Rattle.token_endpoint.specs.declared.granting.Grant.{Grant}
use Rattle.op_exchange.specs.declared.ask.OpAsk.TheVariants.{Token}
use Rattle.code_grant.specs.declared.rows.SessionRow.{SessionRow}
use Rattle.code_grant.specs.declared.rows.CodeRow.{CodeRow}
use Rattle.code_grant.specs.declared.rows.TokenRow.{TokenRow}
use Rattle.op_exchange.proofs.Sample.{word, sample, wish, profile_scopes, callback_uri}
use Rattle.op_answer.specs.Past.{OpPair, OpPast}
use Rattle.op_answer.specs.Turns.{BeginsTurn}
use Rattle.op_answer.specs.Codes.{held_code}
use Rattle.op_answer.specs.Replies.{refusal_of}
use Rattle.op_answer.specs.OwnRows.{IsOwnWish, IsOwnTurn, IsOwnSession, IsOwnCode, IsOwnToken}
use Rattle.op_answer.specs.Drawn.{TurnDrawn, SessionDrawn, AnswerAbout, CodeDrawn, TokenAbout, InResponse, ForCode, AccessDrawn}
use Rattle.op_answer.proofs.FirstLogin.{pair_of, authorize_entry, login_page, past_login, past_consent, consent_entry, code_answer, past_code, token_entry, tokens_reply, past_tokens}
use Rattle.op_answer.proofs.Sessions.{alice_session, alice_entry, past_renewed, renewed_session}
use Rattle.op_answer.proofs.CauseSamples.{login_turn, first_code}
use Rattle.op_answer.proofs.Legality.{wish_is_value, login_is_legal, code_is_legal, tokens_are_legal, renewal_is_legal}
use Rattle.op_answer.proofs.OwnRows.{turns_are_own, sessions_are_own, codes_are_own, tokens_are_own}
use Rattle.op_answer.proofs.Drawn.{turns_are_drawn, sessions_are_drawn, codes_are_drawn, accesses_are_drawn}

abbrev first_access : TokenRow
first_access = record { word = word 21; client = 0; user = 0; scopes = profile_scopes; asked = []; code = Some (word 15); issued = 1000; by = 3 }

-- ---- what they are about

wish_is_own : IsOwnWish sample wish
wish_is_own = record { prepared = refl; value = wish_is_value }

not_of_a_second_client : IsOwnWish sample (record wish { client = 1 }) → ⊥
not_of_a_second_client h = (let k : false ≡ true = h.prepared in cc)

turn_is_own : IsOwnTurn sample past_login login_turn
turn_is_own = turns_are_own sample past_login login_is_legal (word 6) login_turn refl

not_begun_after_the_last_moment : IsOwnTurn sample past_login (record login_turn { begun = 1001 }) → ⊥
not_begun_after_the_last_moment h = let late : 1001 ≤ 1000 = h.begun in absurd (omega (arith, late))

session_is_own : IsOwnSession sample past_code alice_session
session_is_own = sessions_are_own sample past_code code_is_legal (word 9) alice_session refl

not_of_a_third_user : IsOwnSession sample past_code (record alice_session { user = 2 }) → ⊥
not_of_a_third_user h = (let k : false ≡ true = h.user in cc)

code_is_own : IsOwnCode sample past_code first_code
code_is_own = codes_are_own sample past_code code_is_legal (word 15) first_code refl

not_named_by_no_word : IsOwnCode sample past_code (record first_code { sid = [] }) → ⊥
not_named_by_no_word h = let long : ◌≡◌ {A = ℕ} 0 32 = h.sid.long in absurd (omega (arith, long))

token_is_own : (t : Text) → word_of_text t ≡ Some (word 15) → IsOwnToken sample (past_tokens t) first_access
token_is_own t spells = tokens_are_own sample (past_tokens t) (tokens_are_legal t spells) (word 21) first_access (rw spells refl)

not_for_a_second_client : (t : Text) → IsOwnToken sample (past_tokens t) (record first_access { client = 1 }) → ⊥
not_for_a_second_client t h = (let k : false ≡ true = h.client in cc)

-- ---- where their words come from

turn_is_drawn : TurnDrawn past_login login_turn
turn_is_drawn = turns_are_drawn sample past_login login_is_legal (word 6) login_turn refl

nothing_before : (later earlier : OpPast) (maker : OpPair) → [] ≡ later ++ maker ∷ earlier → ⊥
nothing_before [] earlier maker is = cc
nothing_before (p ∷ later) earlier maker is = cc

-- a request that got no page begins no turn
only_maker : (p maker : OpPair) (later earlier : OpPast) → p ∷ [] ≡ later ++ maker ∷ earlier → p ≡ maker
only_maker p maker [] earlier is = cc
only_maker p maker (q ∷ later) earlier is = absurd (nothing_before later earlier maker (cc))

no_turn_of_a_refused_request : TurnDrawn (pair_of authorize_entry (Refused (refusal_of wish LoginRequired) None) ∷ []) login_turn → ⊥
no_turn_of_a_refused_request h =
    let B : OpPair → Type 0 = λ p. BeginsTurn p.entry.ask p.reply (word 6) in
    subst B (sym (only_maker (pair_of authorize_entry (Refused (refusal_of wish LoginRequired) None)) h.maker h.later h.earlier h.parts)) h.shown

no_turn_before_any_ask : TurnDrawn [] login_turn → ⊥
no_turn_before_any_ask h = nothing_before h.later h.earlier h.maker h.parts

no_session_before_any_ask : SessionDrawn [] alice_session → ⊥
no_session_before_any_ask h = nothing_before h.later h.earlier h.maker h.parts

no_code_before_any_ask : CodeDrawn [] first_code → ⊥
no_code_before_any_ask h = nothing_before h.later h.earlier h.maker h.parts

no_token_before_any_ask : AccessDrawn [] first_access → ⊥
no_token_before_any_ask h = nothing_before h.later h.earlier h.maker h.parts

-- a login page has no access token, and a code is not the word of tokens
no_token_on_a_page : InResponse [] (pair_of authorize_entry login_page) first_access → ⊥
no_token_on_a_page h = (let k = h.replied in cc)

no_tokens_on_a_page : ForCode [] (pair_of authorize_entry login_page) first_access → ⊥
no_tokens_on_a_page h = (let k = h.replied in cc)

-- an access token is for the client, the scope values and the claims of its wish, and about its user
token_is_about_the_wish : TokenAbout wish 0 first_access
token_is_about_the_wish = record { client_is = refl; user_is = refl; scopes_are = refl; asked_are = refl }

not_about_another_client : TokenAbout wish 0 (record first_access { client = 1 }) → ⊥
not_about_another_client h = let k : ◌≡◌ {A = ℕ} 1 0 = h.client_is in absurd (omega (arith, k))

not_about_another_user : TokenAbout wish 1 first_access → ⊥
not_about_another_user h = let k : ◌≡◌ {A = ℕ} 0 1 = h.user_is in absurd (omega (arith, k))

-- the answer with the code is about the wish of the turn and the turn's session; a page before any login is about none
answer_is_about_alice : AnswerAbout past_consent (pair_of consent_entry code_answer) wish alice_session
unfolding no_clients
answer_is_about_alice = record { wish_is = refl; session_is = refl }

page_is_about_no_session : (session : SessionRow) → AnswerAbout [] (pair_of authorize_entry login_page) wish session → ⊥
page_is_about_no_session session h = (let k : None ≡ Some session = h.session_is in cc)

-- a token for the first code is not for a second client
code_is_of_the_first_client : (t : Text) → word_of_text t ≡ Some (word 15) → ForCode past_code (pair_of (token_entry 1000 t) (tokens_reply 1000)) (record first_access { client = 1 }) → ⊥
code_is_of_the_first_client t spells h =
    let granted : Grant = record { client = 0; code = t; redirect = callback_uri } in
    let asked : granted ≡ h.grant = (let k : Token (Ok granted) ≡ Token (Ok h.grant) = h.asked in cc) in
    let T : Grant → Option CodeRow = λ g. held_code past_code 1000 (word_of_text g.code) in
    let first : T granted ≡ Some first_code = rw spells refl in
    let same : first_code ≡ h.code = (let k : Some first_code ≡ Some h.code = sym first ∙ (ap T asked ∙ h.held) in cc) in
    let C : CodeRow → ℕ = λ code. code.wish.client in
    let k : ◌≡◌ {A = ℕ} 1 0 = h.of_wish.client_is ∙ sym (ap C same) in
    absurd (omega (arith, k))

session_is_drawn : SessionDrawn past_code alice_session
session_is_drawn = sessions_are_drawn sample past_code code_is_legal (word 9) alice_session refl

-- the word and the name are still those of the first login, which the renewal did not draw
renewed_session_is_drawn : SessionDrawn past_renewed renewed_session
unfolding no_clients
renewed_session_is_drawn = sessions_are_drawn sample past_renewed renewal_is_legal (word 9) renewed_session refl

renewal_drew_other_words : alice_session.word ≡ fresh_word alice_entry.fresh 0 → ⊥
renewal_drew_other_words same = let last : Word → ℕ = λ w. get_or w 31 0 in let n : ◌≡◌ {A = ℕ} 9 41 = ap last same in absurd (omega (arith, n))

code_is_drawn : CodeDrawn past_code first_code
code_is_drawn = codes_are_drawn sample past_code code_is_legal (word 15) first_code refl

token_is_drawn : (t : Text) → word_of_text t ≡ Some (word 15) → AccessDrawn (past_tokens t) first_access
token_is_drawn t spells = accesses_are_drawn sample (past_tokens t) (tokens_are_legal t spells) (word 21) first_access (rw spells refl)
