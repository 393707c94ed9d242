-- The provider's rows stay over pairs that spare their words: turns, codes that are not spent, access tokens, and sessions as to
-- all but their clients.
use Rattle.std.proofs.Common.{◌≡◌, Bool, true, false, not, ◌&&◌, cond, ◌∷◌, ◌++◌, Option, Some, None, IfSome, refl, sym, ◌∙◌, ap, ◌⊎◌, inl, inr, arith}
use Rattle.std.specs.List.{AllByRecursion}
use Rattle.std.specs.Str.{bytes_eq}
use Rattle.sso_base.specs.Words.{Word, is_word, fresh_word}
use Rattle.sso_base.proofs.RowLaws.{bytes_turn}
use Rattle.sso_base.specs.Rows.{row_of}
use Rattle.client_registry.specs.Configuration.{Configuration}
use Rattle.code_grant.specs.declared.rows.TurnRow.{TurnRow}
use Rattle.code_grant.specs.declared.rows.SessionRow.{SessionRow}
use Rattle.code_grant.specs.declared.rows.CodeRow.{CodeRow}
use Rattle.code_grant.specs.declared.rows.TokenRow.{TokenRow}
use Rattle.code_grant.specs.Rows.{turn_name, session_name, code_name, access_name}
use Rattle.op_exchange.specs.declared.ask.OpAsk.{OpAsk}
use Rattle.op_exchange.specs.declared.ask.OpAsk.TheVariants as ask
use Rattle.op_exchange.specs.declared.reply.OpReply.{OpReply}
use Rattle.op_exchange.specs.declared.reply.OpReply.TheVariants as reply
use Rattle.op_exchange.specs.Replied.{ends_turn, session_given}
use Rattle.op_answer.specs.Past.{OpPair, OpPast}
use Rattle.op_answer.specs.Turns.{turns, turn_named, turn_made, turn_kept, turn_taken}
use Rattle.op_answer.specs.Sessions.{sessions, session_made, session_kept, ends_session, session_used, and_client, client_answered, is_replaced, wish_by, session_of}
use Rattle.op_answer.specs.Codes.{codes_issued, code_named, code_made, code_kept, is_tokens}
use Rattle.op_answer.specs.AccessTokens.{accesses, access_made, access_kept, is_for_code}
use Rattle.op_answer.specs.Codes.{found_spent}
use Rattle.op_answer.specs.Legal.{IsLegalOp}
use Rattle.op_answer.proofs.KeptNames.{turn_names, session_names, code_names, access_names}
use Rattle.honest_provider.specs.Sparing.{Spares, session_shown, without_clients}
use Rattle.honest_places.proofs.Persisting.{unnamed, stays, persists}
use Rattle.honest_provider.proofs.MadeWords.{turn_drawn, session_drawn, made_code_drawn, made_access_drawn}

-- what is left of a session that is not ended, and may be used: all but its clients
pub kept_by : (row changed : SessionRow) (ends uses : Bool) → ends ≡ false → without_clients changed ≡ without_clients row
    → (after : SessionRow) × (cond ends None (cond uses (Some changed) (Some row)) ≡ Some after) × (without_clients after ≡ without_clients row)
kept_by row changed true uses h same = absurd (cc)
kept_by row changed false true h same = (changed, refl, same)
kept_by row changed false false h same = (row, refl, refl)

module _ (c : Configuration) (w : Word) where
  -- ---- turns

  no_turn_made : (past : OpPast) (p : OpPair) → IsLegalOp c (p ∷ past) → Spares w p → (row : TurnRow) → turn_made (turns past) past p ≡ Some row → turn_name row ≡ w → ⊥
  no_turn_made past p legal spares row made named = spares.undrawn 1 (omega arith) (turn_drawn c past p legal row made ∙ named)

  turn_left : (past : OpPast) (p : OpPair) (row : TurnRow) → Spares w p → turn_name row ≡ w → turn_kept past p row ≡ Some row
  turn_left past p row spares named =
      let F : Bool → Option TurnRow = λ b. cond (not b) (Some row) (cond (ends_turn p.reply) None (Some (turn_taken p.entry.ask p.reply row))) in
      let W : Word → Bool = λ v. is_word (turn_named p.entry.ask) v in
      ap F (ap W named ∙ spares.no_turn)

  pub turn_persists : (later past : OpPast) (row : TurnRow) → IsLegalOp c (later ++ past) → AllByRecursion (Spares w) later → row_of turn_name w (turns past) ≡ Some row
      → row_of turn_name w (turns (later ++ past)) ≡ Some row
  turn_persists later past row legal spared there =
      stays turn_name turn_made turn_kept turn_names (IsLegalOp c) (λ p q l. l.0) (λ p. Spares w p) w row
      (λ q p l s. unnamed turn_name w (turn_made (turns q) q p) (λ r made named. no_turn_made q p l s r made named))
      (λ q p l s named. turn_left q p row s named) later past legal spared there

  -- ---- codes

  no_code_made : (past : OpPast) (p : OpPair) → IsLegalOp c (p ∷ past) → Spares w p → (row : CodeRow) → code_made (codes_issued past) past p ≡ Some row → code_name row ≡ w → ⊥
  no_code_made past p legal spares row made named =
      spares.undrawn 2 (omega arith) (made_code_drawn c past p legal row (wish_by past p.entry.ask) (session_of (p ∷ past) (session_used past p.entry.ask p.reply)) made ∙ named)

  code_left : (past : OpPast) (p : OpPair) (row : CodeRow) → Spares w p → code_name row ≡ w → code_kept past p row ≡ Some row
  code_left past p row spares named =
      let F : Bool → Option CodeRow = λ b. cond (b && is_tokens p.reply) (Some (record row { spent = true })) (Some row) in
      let W : Word → Bool = λ v. is_word (code_named p.entry.ask) v in
      ap F (ap W named ∙ spares.no_code)

  pub code_persists : (later past : OpPast) (row : CodeRow) → IsLegalOp c (later ++ past) → AllByRecursion (Spares w) later → row_of code_name w (codes_issued past) ≡ Some row
      → row_of code_name w (codes_issued (later ++ past)) ≡ Some row
  code_persists later past row legal spared there =
      stays code_name code_made code_kept code_names (IsLegalOp c) (λ p q l. l.0) (λ p. Spares w p) w row
      (λ q p l s. unnamed code_name w (code_made (codes_issued q) q p) (λ r made named. no_code_made q p l s r made named))
      (λ q p l s named. code_left q p row s named) later past legal spared there

  -- ---- sessions: as to all but the clients

  shown_or_drawn : (p : OpPair) (v : Word) → Spares w p → v ≡ w → (fresh_word p.entry.fresh 0 ≡ v) ⊎ (is_word (session_shown p.entry.ask) v ≡ true) → ⊥
  shown_or_drawn p v spares named (inl drawn) = spares.undrawn 0 (omega arith) (drawn ∙ named)
  shown_or_drawn p v spares named (inr shown) =
      let W : Word → Bool = λ u. is_word (session_shown p.entry.ask) u in
      let never : true ≡ false = sym shown ∙ (ap W named ∙ spares.no_session) in
      cc

  no_session_made : (past : OpPast) (p : OpPair) → IsLegalOp c (p ∷ past) → Spares w p → (row : SessionRow) → session_made (sessions past) past p ≡ Some row → session_name row ≡ w → ⊥
  no_session_made past p legal spares row made named = shown_or_drawn p row.word spares named (session_drawn c past p legal row made)

  replaced : (presented given : Option Word) (v : Word) → is_word presented v ≡ false → is_replaced presented given v ≡ false
  replaced presented None v h = refl
  replaced presented (Some left) v h = (let A : Bool → Bool = λ b. b && not (bytes_eq left v) in ap A h)

  unended : (asked : OpAsk) (told : OpReply) (v : Word) → is_word (session_shown asked) v ≡ false → ends_session asked told v ≡ false
  unended (ask.SignOut session) (reply.SignedOut messages) v h = h
  unended (ask.Login turn signed b presented) told v h = replaced presented (session_given told) v h
  unended asked told v h = refl

  session_left : (past : OpPast) (p : OpPair) (row : SessionRow) → Spares w p → session_name row ≡ w
      → (after : SessionRow) × (session_kept past p row ≡ Some after) × (without_clients after ≡ without_clients row)
  session_left past p row spares named =
      let W : Word → Bool = λ v. is_word (session_shown p.entry.ask) v in
      kept_by row (record row { clients = and_client (client_answered past p) row.clients }) (ends_session p.entry.ask p.reply row.word) (is_word (session_used past p.entry.ask p.reply) row.word)
      (unended p.entry.ask p.reply row.word (ap W named ∙ spares.no_session)) refl

  pub session_persists : (later past : OpPast) (row : SessionRow) → IsLegalOp c (later ++ past) → AllByRecursion (Spares w) later → row_of session_name w (sessions past) ≡ Some row
      → (after : SessionRow) × (row_of session_name w (sessions (later ++ past)) ≡ Some after) × (without_clients after ≡ without_clients row)
  session_persists later past row legal spared there =
      let S : OpPair → Type 0 = λ p. Spares w p in
      let found =
      persists session_name session_made session_kept session_names (IsLegalOp c) (λ p past legal. legal.0) S without_clients w (without_clients row)
      (λ q p l s. unnamed session_name w (session_made (sessions q) q p) (λ r made named. no_session_made q p l s r made named))
      (λ q p r l s named same. let left = session_left q p r s named in record { after = left.0; left = left.1; same = left.2 })
      later past legal spared (record { row = row; there = there; same = refl }) in
      (found.row, found.there, found.same)

  -- ---- access tokens: the code for which one came is also spared

  drawn_access : (p : OpPair) (v : Word) → Spares w p → v ≡ w → (fresh_word p.entry.fresh 0 ≡ v) ⊎ (fresh_word p.entry.fresh 3 ≡ v) → ⊥
  drawn_access p v spares named (inl drawn) = spares.undrawn 0 (omega arith) (drawn ∙ named)
  drawn_access p v spares named (inr drawn) = spares.undrawn 3 (omega arith) (drawn ∙ named)

  no_access_made : (past : OpPast) (p : OpPair) → IsLegalOp c (p ∷ past) → Spares w p → (row : TokenRow) → access_made (accesses past) past p ≡ Some row → access_name row ≡ w → ⊥
  no_access_made past p legal spares row made named = drawn_access p row.word spares named (made_access_drawn c past p legal row made)

  not_for_code : (p : OpPair) (code named : Option Word) → code_named p.entry.ask ≡ named → IfSome code (λ k. Spares k p) → is_for_code code named ≡ false
  not_for_code p code None is spared = refl
  not_for_code p None (Some v) is spared = refl
  not_for_code p (Some k) (Some v) is spared =
      let s : Spares k p = spared in
      let W : Option Word → Bool = λ o. is_word o k in
      bytes_turn v k (sym (ap W is) ∙ s.no_code)

  access_left : (past : OpPast) (p : OpPair) (row : TokenRow) → IfSome row.code (λ k. Spares k p) → access_kept past p row ≡ Some row
  access_left past p row spared =
      let F : Bool → Option TokenRow = λ b. cond (b && found_spent past p.entry.at p.entry.ask) None (Some row) in
      ap F (not_for_code p row.code (code_named p.entry.ask) refl spared)

  pub access_persists : (later past : OpPast) (row : TokenRow) → IsLegalOp c (later ++ past) → AllByRecursion (λ (p : OpPair). Spares w p × IfSome row.code (λ k. Spares k p)) later
      → row_of access_name w (accesses past) ≡ Some row → row_of access_name w (accesses (later ++ past)) ≡ Some row
  access_persists later past row legal spared there =
      stays access_name access_made access_kept access_names (IsLegalOp c) (λ p q l. l.0) (λ p. Spares w p × IfSome row.code (λ k. Spares k p)) w row
      (λ q p l s. unnamed access_name w (access_made (accesses q) q p) (λ r made named. no_access_made q p l s.0 r made named))
      (λ q p l s named. access_left q p row s.1) later past legal spared there
