-- Rows of the provider that live, the words of sessions, and the age of a sign-in.
use Rattle.std.proofs.Common.{◌≡◌, ◌≤◌, ◌-◌, ℕ, Bool, true, false, not, ◌&&◌, [], ◌∷◌, ◌++◌, length, Option, Some, None, refl, sym, ◌∙◌, subst, arith}
use Rattle.sso_base.specs.Words.{Word, fresh_word}
use Rattle.sso_base.specs.Rows.{row_of, lives}
use Rattle.sso_base.proofs.RowLaws.{row_has_name}
use Rattle.sso_base.proofs.Histories.{earlier_is_legal}
use Rattle.sso_base.proofs.Decided.{above_false}
use Rattle.held_rows.proofs.Found.{row_that_lives}
use Rattle.sso_model.specs.Lists.{Has}
use Rattle.sso_model.proofs.ListLaws.{has_append_left, has_append_right}
use Rattle.oidc_words.specs.Lives.{turn_life, session_life, access_life}
use Rattle.client_registry.specs.Configuration.{Configuration}
use Rattle.id_token.specs.Judging.{IsInAge}
use Rattle.user_interaction.specs.Need.{is_older}
use Rattle.code_grant.specs.declared.rows.TurnRow.{TurnRow}
use Rattle.code_grant.specs.declared.rows.SessionRow.{SessionRow}
use Rattle.code_grant.specs.declared.rows.TokenRow.{TokenRow}
use Rattle.code_grant.specs.Rows.{turn_name, turn_begun, session_name, session_begun, access_name, access_begun}
use Rattle.op_issue.specs.Issued.{if_wished}
use Rattle.op_exchange.specs.Values.{IsOpAsk}
use Rattle.op_answer.specs.Past.{OpPair, OpPast}
use Rattle.op_answer.specs.Turns.{turns, live_turn}
use Rattle.op_answer.specs.Sessions.{sessions, live_session}
use Rattle.op_answer.specs.AccessTokens.{accesses, live_access_token}
use Rattle.op_answer.specs.Answering.{op_answer}
use Rattle.op_answer.specs.Legal.{IsLegalOp}
use Rattle.op_answer.proofs.Drawn.{sessions_are_drawn}
use Rattle.sso_places.specs.declared.types.Jar.{Jar}
use Rattle.sso_places.specs.World.{Provider, Party, Nothing, World, op_past, drawn}
use Rattle.honest_places.specs.Login.{FitsJar}
use Rattle.sso_places.proofs.Places.{fresh_has}
use Rattle.honest_places.proofs.Persisting.{lives_on}

-- ---- the words of rows were drawn

op_drawn : (world : World) (later : OpPast) (p : OpPair) (earlier : OpPast) (w : Word) → op_past world ≡ later ++ p ∷ earlier → Has p.entry.fresh w → Has (drawn world) w
op_drawn [] [] p earlier w is has = absurd (cc)
op_drawn [] (q ∷ later) p earlier w is has = absurd (cc)
op_drawn (Provider from request q ∷ world) [] p earlier w is has =
    let same : q ≡ p = cc in
    has_append_left q.entry.fresh (drawn world) w (subst (λ (r : OpPair). Has r.entry.fresh w) (sym same) has)
op_drawn (Provider from request q ∷ world) (x ∷ later) p earlier w is has =
    let rest : op_past world ≡ later ++ p ∷ earlier = cc in
    has_append_right q.entry.fresh (drawn world) w (op_drawn world later p earlier w rest has)
op_drawn (Party n from request q ∷ world) later p earlier w is has = has_append_right q.entry.fresh (drawn world) w (op_drawn world later p earlier w is has)
op_drawn (Nothing ∷ world) later p earlier w is has = op_drawn world later p earlier w is has

pub session_was_drawn : (c : Configuration) (world : World) (w : Word) (row : SessionRow) → IsLegalOp c (op_past world) → row_of session_name w (sessions (op_past world)) ≡ Some row → Has (drawn world) w
session_was_drawn c world w row legal there =
    let d = sessions_are_drawn c (op_past world) legal w row there in
    let L : OpPast → Type 0 = λ q. IsLegalOp c q in
    let maker = earlier_is_legal IsOpAsk (op_answer c) d.later (d.maker ∷ d.earlier) (subst L d.parts legal) in
    let four : length d.maker.entry.fresh ≡ 4 = maker.1.four in
    let same : fresh_word d.maker.entry.fresh 0 ≡ w = sym d.drawn ∙ row_has_name session_name w (sessions (op_past world)) row there in
    subst (Has (drawn world)) same (op_drawn world d.later d.maker d.earlier (fresh_word d.maker.entry.fresh 0) d.parts (fresh_has d.maker.entry.fresh 0 (omega arith) four))

-- ---- rows that live

pub turn_lives : (past : OpPast) (at : ℕ) (w : Word) (row : TurnRow) → row_of turn_name w (turns past) ≡ Some row → lives turn_life row.begun at ≡ true → live_turn past at (Some w) ≡ Some row
turn_lives past at w row there live = lives_on turn_life turn_begun at row (row_of turn_name w (turns past)) there live

pub session_lives : (past : OpPast) (at : ℕ) (w : Word) (row : SessionRow) → row_of session_name w (sessions past) ≡ Some row → lives session_life row.auth_time at ≡ true
    → live_session past at (Some w) ≡ Some row
session_lives past at w row there live = lives_on session_life session_begun at row (row_of session_name w (sessions past)) there live

pub access_lives : (past : OpPast) (at : ℕ) (w : Word) (row : TokenRow) → row_of access_name w (accesses past) ≡ Some row → lives access_life row.issued at ≡ true
    → live_access_token past at w ≡ Some row
access_lives past at w row there live = lives_on access_life access_begun at row (row_of access_name w (accesses past)) there live

pub record Presents (past : OpPast) (shown : Option Word) (row : SessionRow) : Type 0 where
  pub word : Word
  pub is : shown ≡ Some word
  pub there : row_of session_name word (sessions past) ≡ Some row

pub presents : (past : OpPast) (at : ℕ) (shown : Option Word) (row : SessionRow) → live_session past at shown ≡ Some row → Presents past shown row
presents past at None row live = cc
presents past at (Some w) row live = record { word = w; is = refl; there = row_that_lives session_life session_begun at (row_of session_name w (sessions past)) row live }

-- ---- the age of a login

pub in_age : (most : Option ℕ) (auth_time begun : ℕ) → begun ≤ auth_time → IsInAge most (Some auth_time) begun
in_age None auth_time begun low = tt
in_age (Some m) auth_time begun low = omega (arith, low)

pub recent_age : (most : Option ℕ) (auth_time begun at : ℕ) → is_older most (at - auth_time) ≡ false → begun ≤ at → IsInAge most (Some auth_time) begun
recent_age None auth_time begun at h low = tt
recent_age (Some m) auth_time begun at h low = (let less : at - auth_time ≤ m = above_false (at - auth_time) m h in omega (arith, less, low))

pub same_jar : (jar : Jar) (found : Option Jar) (kept : Jar) → FitsJar jar found → found ≡ Some kept → jar ≡ kept
same_jar jar None kept fits is = absurd (cc)
same_jar jar (Some other) kept fits is = (let same : other ≡ kept = cc in let f : jar ≡ other = fits in f ∙ same)

pub wished : {X : Type 0} (flag : Bool) (x : X) → flag ≡ true → if_wished flag x ≡ Some x
wished true x h = refl
wished false x h = cc

pub not_older : (turn older : Bool) → turn ≡ false → (not turn && older) ≡ false → older ≡ false
not_older true older t h = cc
not_older false older t h = h
