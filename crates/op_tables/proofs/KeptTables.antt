-- The tables after the calls of a pair hold the rows that its definition keeps.
use Rattle.std.proofs.Common.{◌≡◌, ◌≢◌, ℕ, Bool, true, false, not, ◌&&◌, nat_le, cond, List, filter, filter_map, Option, Some, None, option_and_then, Ok, inl, inr, refl, sym, ◌∙◌, ap, subst}
use Rattle.std.specs.Str.{bytes_eq}
use Rattle.sso_base.specs.Words.{Word, is_word, word_of_text}
use Rattle.sso_base.specs.Rows.{without, row_of}
use Rattle.sso_base.proofs.RowLaws.{bool_cases, bytes_same, row_of-without_same}
use Rattle.token_endpoint.specs.declared.granting.Grant.{Grant}
use Rattle.code_grant.specs.declared.rows.TurnRow.{TurnRow}
use Rattle.code_grant.specs.declared.rows.SessionRow.{SessionRow}
use Rattle.code_grant.specs.declared.rows.CodeRow.{CodeRow}
use Rattle.code_grant.specs.declared.rows.TokenRow.{TokenRow}
use Rattle.code_grant.specs.declared.redeem.Redeem.{Redeem}
use Rattle.code_grant.specs.declared.redeem.Redeem.TheVariants as answer
use Rattle.code_grant.specs.Rows.{turn_name, session_name, session_begun, code_name, access_name}
use Rattle.held_rows.specs.Held.{changed, MayAddRow}
use Rattle.code_grant.specs.Redeeming.{redeem_of}
use Rattle.code_grant.specs.Tables.{Tables, turn_with, session_with, code_spent, after_answer, with_turn, with_session, with_code, with_token}
use Rattle.code_grant.specs.Tables as tables
use Rattle.op_exchange.specs.declared.ask.OpAsk.{OpAsk}
use Rattle.op_exchange.specs.declared.ask.OpAsk.TheVariants as ask
use Rattle.op_exchange.specs.declared.reply.OpReply.{OpReply}
use Rattle.op_exchange.specs.declared.reply.OpReply.TheVariants as reply
use Rattle.op_exchange.specs.Replied.{ends_turn, session_given}
use Rattle.op_answer.specs.Past.{OpPair, OpPast}
use Rattle.op_answer.specs.Turns.{turn_named, turn_taken, turn_kept}
use Rattle.op_answer.specs.Sessions.{session_used, is_replaced, ends_session, and_client, client_answered, session_kept}
use Rattle.op_answer.specs.Codes.{code_named, is_tokens, is_spent, found_spent, held_code, redeem, code_kept}
use Rattle.op_answer.specs.AccessTokens.{is_for_code, access_kept}
use Rattle.op_tables.specs.Keeping.{session_taken, turn_moved, session_replaced, session_ended, ended_if, visited_if, grant_answered, code_asked, TellsRedemption, FindsCode, MayPut, turn_put, session_put, code_put, token_put}
use Rattle.op_answer.proofs.KeptNames.{some_same}
use Rattle.held_rows.proofs.Kept.{bytes_swap, filter_map-same, all_kept, kept_by_test, kept_without, kept_twice, put_pushes, all_without}
use Rattle.op_tables.proofs.ChangedRows.{kept_changed}

-- ---- tests

not_dropped : {R : Type 0} (b : Bool) (row : R) → cond (not b) (Some row) None ≡ cond b None (Some row)
not_dropped true row = refl
not_dropped false row = refl

not_changed : {R : Type 0} (b : Bool) (row made : R) → cond (not b) (Some row) (Some made) ≡ cond b (Some made) (Some row)
not_changed true row made = refl
not_changed false row made = refl

not_same : {R : Type 0} (b : Bool) (row : R) → cond (not b) (Some row) (Some row) ≡ Some row
not_same true row = refl
not_same false row = refl

-- ---- turns

abbrev turn_by : Option Word → TurnRow → TurnRow
turn_by None row = row
turn_by (Some session) row = turn_with session true row

turn_taken_is : (asked : OpAsk) (told : OpReply) (row : TurnRow) → turn_taken asked told row ≡ turn_by (session_taken asked told) row
turn_taken_is (ask.Login turn signed b presented) (reply.ConsentPage w browser (Some session) client scopes) row = refl
turn_taken_is (ask.Login turn signed b presented) (reply.ConsentPage w browser None client scopes) row = refl
turn_taken_is asked told row = refl

-- what a pair leaves of a turn, by the turn of its form, whether that is ended, and the session that it gets
abbrev turn_rule : Option Word → Bool → Option Word → TurnRow → Option TurnRow
turn_rule named ends taken row = cond (not (is_word named row.word)) (Some row) (cond ends None (Some (turn_by taken row)))

turn_kept_is : (past : OpPast) (p : OpPair) (row : TurnRow) → turn_kept past p row ≡ turn_rule (turn_named p.entry.ask) (ends_turn p.reply) (session_taken p.entry.ask p.reply) row
turn_kept_is past p row =
    let K : TurnRow → Option TurnRow = λ made. cond (not (is_word (turn_named p.entry.ask) row.word)) (Some row) (cond (ends_turn p.reply) None (Some made)) in
    ap K (turn_taken_is p.entry.ask p.reply row)

moved_by_rule : (named : Option Word) (ends : Bool) (taken : Option Word) (t : Tables) → turn_moved named ends taken t ≡ record t { turns = filter_map (turn_rule named ends taken) t.turns }
moved_by_rule None ends taken t =
    let T : List TurnRow → Tables = λ rows. record t { turns = rows } in
    ap T (sym (all_kept (turn_rule None ends taken) t.turns (λ row. refl)))
moved_by_rule (Some w) true taken t =
    let T : List TurnRow → Tables = λ rows. record t { turns = rows } in
    let rule : (row : TurnRow) → turn_rule (Some w) true taken row ≡ cond (bytes_eq row.word w) None (Some row) = λ row.
    let B : Bool → Option TurnRow = λ b. cond (not b) (Some row) None in
    ap B (bytes_swap w row.word) ∙ not_dropped (bytes_eq row.word w) row in
    ap T (sym (kept_without turn_name w (turn_rule (Some w) true taken) t.turns rule))
moved_by_rule (Some w) false (Some session) t =
    let T : List TurnRow → Tables = λ rows. record t { turns = rows } in
    let rule : (row : TurnRow) → turn_rule (Some w) false (Some session) row ≡ cond (bytes_eq row.word w) (Some (turn_with session true row)) (Some row) = λ row.
    let B : Bool → Option TurnRow = λ b. cond (not b) (Some row) (Some (turn_with session true row)) in
    ap B (bytes_swap w row.word) ∙ not_changed (bytes_eq row.word w) row (turn_with session true row) in
    ap T (sym (kept_changed turn_name w (turn_with session true) (turn_rule (Some w) false (Some session)) t.turns rule))
moved_by_rule (Some w) false None t =
    let T : List TurnRow → Tables = λ rows. record t { turns = rows } in
    ap T (sym (all_kept (turn_rule (Some w) false None) t.turns (λ row. not_same (bytes_eq w row.word) row)))

pub turns_are_kept : (past : OpPast) (p : OpPair) (t : Tables)
    → turn_moved (turn_named p.entry.ask) (ends_turn p.reply) (session_taken p.entry.ask p.reply) t ≡ record t { turns = filter_map (turn_kept past p) t.turns }
turns_are_kept past p t =
    let T : List TurnRow → Tables = λ rows. record t { turns = rows } in
    moved_by_rule (turn_named p.entry.ask) (ends_turn p.reply) (session_taken p.entry.ask p.reply) t
    ∙ ap T (sym (filter_map-same (turn_kept past p) (turn_rule (turn_named p.entry.ask) (ends_turn p.reply) (session_taken p.entry.ask p.reply)) t.turns (turn_kept_is past p)))

-- ---- sessions

never_both : (b : Bool) → (b && not b) ≡ false
never_both true = refl
never_both false = refl

-- a word that is another than the one that was left
other_left : (presented left w : Word) (same : Bool) → bytes_eq presented left ≡ same → (bytes_eq presented w && not (bytes_eq left w)) ≡ is_word (cond same None (Some presented)) w
other_left presented left w true e =
    let A : Word → Bool = λ x. bytes_eq x w && not (bytes_eq left w) in
    ap A (bytes_same presented left e) ∙ never_both (bytes_eq left w)
other_left presented left w false e =
    let A : Bool → Bool = λ b. b && not (bytes_eq left w) in
    elim (bool_cases (bytes_eq presented w)) [
      | inl f ↦
          (let B : Word → Bool = λ x. bytes_eq x left in
          let apart : bytes_eq w left ≡ false = sym (ap B (bytes_same presented w f)) ∙ e in
          let N : Bool → Bool = λ b. not b in
          ap A f ∙ ap N (bytes_swap left w ∙ apart) ∙ sym f)
      | inr f ↦ ap A f ∙ sym f
    ]

replaced_is : (presented left : Option Word) (w : Word) → is_replaced presented left w ≡ is_word (session_replaced presented left) w
replaced_is None None w = refl
replaced_is None (Some left) w = refl
replaced_is (Some presented) None w = refl
replaced_is (Some presented) (Some left) w = other_left presented left w (bytes_eq presented left) refl

ends_session_is : (asked : OpAsk) (told : OpReply) (w : Word) → ends_session asked told w ≡ is_word (session_ended asked told) w
ends_session_is (ask.SignOut session) (reply.SignedOut messages) w = refl
ends_session_is (ask.Login turn signed b presented) told w = replaced_is presented (session_given told) w
ends_session_is asked told w = refl

abbrev ended_rule : Option Word → SessionRow → Option SessionRow
ended_rule ended row = cond (is_word ended row.word) None (Some row)

abbrev visited_rule : Option Word → Option ℕ → SessionRow → Option SessionRow
visited_rule used client row = cond (is_word used row.word) (Some (record row { clients = and_client client row.clients })) (Some row)

ended_by_rule : (ended : Option Word) (t : Tables) → ended_if ended t ≡ record t { sessions = filter_map (ended_rule ended) t.sessions }
ended_by_rule None t =
    let T : List SessionRow → Tables = λ rows. record t { sessions = rows } in
    ap T (sym (all_kept (ended_rule None) t.sessions (λ row. refl)))
ended_by_rule (Some w) t =
    let T : List SessionRow → Tables = λ rows. record t { sessions = rows } in
    let rule : (row : SessionRow) → ended_rule (Some w) row ≡ cond (bytes_eq row.word w) None (Some row) = λ row.
    let B : Bool → Option SessionRow = λ b. cond b None (Some row) in
    ap B (bytes_swap w row.word) in
    ap T (sym (kept_without session_name w (ended_rule (Some w)) t.sessions rule))

same_either : {R : Type 0} (b : Bool) (row : R) → cond b (Some row) (Some row) ≡ Some row
same_either true row = refl
same_either false row = refl

visited_by_rule : (used : Option Word) (client : Option ℕ) (t : Tables) → visited_if used client t ≡ record t { sessions = filter_map (visited_rule used client) t.sessions }
visited_by_rule None client t =
    let T : List SessionRow → Tables = λ rows. record t { sessions = rows } in
    ap T (sym (all_kept (visited_rule None client) t.sessions (λ row. refl)))
visited_by_rule (Some w) None t =
    let T : List SessionRow → Tables = λ rows. record t { sessions = rows } in
    ap T (sym (all_kept (visited_rule (Some w) None) t.sessions (λ row. same_either (bytes_eq w row.word) row)))
visited_by_rule (Some w) (Some client) t =
    let T : List SessionRow → Tables = λ rows. record t { sessions = rows } in
    let rule : (row : SessionRow) → visited_rule (Some w) (Some client) row ≡ cond (bytes_eq row.word w) (Some (session_with client row)) (Some row) = λ row.
    let B : Bool → Option SessionRow = λ b. cond b (Some (session_with client row)) (Some row) in
    ap B (bytes_swap w row.word) in
    ap T (sym (kept_changed session_name w (session_with client) (visited_rule (Some w) (Some client)) t.sessions rule))

ended_first : {R : Type 0} (later : R → Option R) (row : R) (b : Bool) → option_and_then later (cond b None (Some row)) ≡ cond b None (later row)
ended_first later row true = refl
ended_first later row false = refl

-- where no client is answered, it doesn't count which session was used
visited_same : (used other : Option Word) (client : Option ℕ) → ((n : ℕ) → client ≡ Some n → other ≡ used) → (row : SessionRow) → visited_rule used client row ≡ visited_rule other client row
visited_same used other None same row = same_either (is_word used row.word) row ∙ sym (same_either (is_word other row.word) row)
visited_same used other (Some n) same row =
    let V : Option Word → Option SessionRow = λ u. visited_rule u (Some n) row in
    ap V (sym (same n refl))

-- what a pair leaves of a session is what is left where it is ended, and then visited
session_kept_is : (past : OpPast) (p : OpPair) (used : Option Word) (client : Option ℕ) → ((n : ℕ) → client ≡ Some n → session_used past p.entry.ask p.reply ≡ used) → client_answered past p ≡ client
    → (row : SessionRow) → option_and_then (visited_rule used client) (ended_rule (session_ended p.entry.ask p.reply) row) ≡ session_kept past p row
session_kept_is past p used client used_is client_is row =
    let V : SessionRow → Option SessionRow = visited_rule used client in
    let E : Bool → Option SessionRow = λ b. option_and_then V (cond b None (Some row)) in
    let S : Option SessionRow → Option SessionRow = λ o. cond (ends_session p.entry.ask p.reply row.word) None o in
    let C : Option ℕ → Option SessionRow = λ n. cond (ends_session p.entry.ask p.reply row.word) None (visited_rule (session_used past p.entry.ask p.reply) n row) in
    ap E (sym (ends_session_is p.entry.ask p.reply row.word)) ∙ ended_first V row (ends_session p.entry.ask p.reply row.word)
    ∙ ap S (visited_same used (session_used past p.entry.ask p.reply) client used_is row) ∙ ap C (sym client_is)

pub sessions_are_kept : (past : OpPast) (p : OpPair) (used : Option Word) (client : Option ℕ) (t : Tables) → ((n : ℕ) → client ≡ Some n → session_used past p.entry.ask p.reply ≡ used) → client_answered past p ≡ client
    → visited_if used client (ended_if (session_ended p.entry.ask p.reply) t) ≡ record t { sessions = filter_map (session_kept past p) t.sessions }
sessions_are_kept past p used client t used_is client_is =
    let ended : Option Word = session_ended p.entry.ask p.reply in
    let T : List SessionRow → Tables = λ rows. record t { sessions = rows } in
    let V : Tables → Tables = λ u. visited_if used client u in
    let both : SessionRow → Option SessionRow = λ row. option_and_then (visited_rule used client) (ended_rule ended row) in
    ap V (ended_by_rule ended t)
    ∙ visited_by_rule used client (T (filter_map (ended_rule ended) t.sessions))
    ∙ ap T (kept_twice (ended_rule ended) (visited_rule used client) t.sessions)
    ∙ ap T (filter_map-same both (session_kept past p) t.sessions (session_kept_is past p used client used_is client_is))

-- ---- codes and access tokens

-- what a pair leaves of a code and of an access token, by the code that it names, whether it got tokens, and whether that
-- code was found spent
abbrev code_rule : Option Word → Bool → CodeRow → Option CodeRow
code_rule named got row = cond (is_word named row.word && got) (Some (record row { spent = true })) (Some row)

abbrev token_rule : Option Word → Bool → TokenRow → Option TokenRow
token_rule named spent row = cond (is_for_code row.code named && spent) None (Some row)

abbrev by_rules : Option Word → Bool → Bool → Tables → Tables
by_rules named got spent t = record t { codes = filter_map (code_rule named got) t.codes; tokens = filter_map (token_rule named spent) t.tokens }

and_no : (b : Bool) → (b && false) ≡ false
and_no true = refl
and_no false = refl

and_yes : (b : Bool) → (b && true) ≡ b
and_yes true = refl
and_yes false = refl

for_no_code : (code : Option Word) → is_for_code code None ≡ false
for_no_code None = refl
for_no_code (Some w) = refl

module _ (t : Tables) where
  abbrev tables_with : List CodeRow → List TokenRow → Tables
  tables_with codes tokens = record t { codes = codes; tokens = tokens }

  codes_still : (w : Word) → filter_map (code_rule (Some w) false) t.codes ≡ t.codes
  codes_still w =
      all_kept (code_rule (Some w) false) t.codes
      (λ (row : CodeRow). let B : Bool → Option CodeRow = λ b. cond b (Some (record row { spent = true })) (Some row) in ap B (and_no (bytes_eq w row.word)))

  tokens_still : (named : Option Word) → filter_map (token_rule named false) t.tokens ≡ t.tokens
  tokens_still named =
      all_kept (token_rule named false) t.tokens
      (λ (row : TokenRow). let B : Bool → Option TokenRow = λ b. cond b None (Some row) in ap B (and_no (is_for_code row.code named)))

  both_are : (codes other : List CodeRow) (tokens others : List TokenRow) → codes ≡ other → tokens ≡ others → tables_with codes tokens ≡ tables_with other others
  both_are codes other tokens others one two =
      let C : List CodeRow → Tables = λ x. tables_with x tokens in
      let T : List TokenRow → Tables = λ x. tables_with other x in
      ap C one ∙ ap T two

  unnamed_still : (got spent : Bool) → by_rules None got spent t ≡ t
  unnamed_still got spent =
      both_are (filter_map (code_rule None got) t.codes) t.codes (filter_map (token_rule None spent) t.tokens) t.tokens
      (all_kept (code_rule None got) t.codes (λ (row : CodeRow). refl))
      (all_kept (token_rule None spent) t.tokens (λ (row : TokenRow). let B : Bool → Option TokenRow = λ b. cond (b && spent) None (Some row) in ap B (for_no_code row.code)))

  named_still : (w : Word) → by_rules (Some w) false false t ≡ t
  named_still w =
      both_are (filter_map (code_rule (Some w) false) t.codes) t.codes (filter_map (token_rule (Some w) false) t.tokens) t.tokens (codes_still w) (tokens_still (Some w))

  code_is_spent : (w : Word) → by_rules (Some w) true false t ≡ after_answer answer.Redeemed w t
  code_is_spent w =
      both_are (filter_map (code_rule (Some w) true) t.codes) (changed code_name w code_spent t.codes) (filter_map (token_rule (Some w) false) t.tokens) t.tokens
      (kept_changed code_name w code_spent (code_rule (Some w) true) t.codes
      (λ (row : CodeRow). let B : Bool → Option CodeRow = λ b. cond b (Some (code_spent row)) (Some row) in ap B (and_yes (bytes_eq w row.word) ∙ bytes_swap w row.word)))
      (tokens_still (Some w))

  tokens_are_ended : (w : Word) → by_rules (Some w) false true t ≡ after_answer answer.Spent w t
  tokens_are_ended w =
      both_are (filter_map (code_rule (Some w) false) t.codes) t.codes (filter_map (token_rule (Some w) true) t.tokens) (filter (λ (token : TokenRow). not (is_word token.code w)) t.tokens)
      (codes_still w)
      (kept_by_test (λ (token : TokenRow). not (is_word token.code w)) (token_rule (Some w) true) t.tokens
      (λ (row : TokenRow). let B : Bool → Option TokenRow = λ b. cond b None (Some row) in ap B (and_yes (is_word row.code w)) ∙ sym (not_dropped (is_word row.code w) row)))

  tokens_told : (w : Word) (r : Redeem) → r ≡ answer.Redeemed → after_answer r w t ≡ by_rules (Some w) true (is_spent r) t
  tokens_told w r good =
      let A : Redeem → Type 0 = λ x. after_answer x w t ≡ by_rules (Some w) true (is_spent x) t in
      subst A (sym good) (sym (code_is_spent w))

  refusal_told : (w : Word) (r : Redeem) → r ≢ answer.Redeemed → after_answer r w t ≡ by_rules (Some w) false (is_spent r) t
  refusal_told w answer.Redeemed bad = absurd (bad refl)
  refusal_told w answer.Unknown bad = sym (named_still w)
  refusal_told w answer.OtherClient bad = sym (named_still w)
  refusal_told w answer.Spent bad = sym (tokens_are_ended w)
  refusal_told w answer.Expired bad = sym (named_still w)
  refusal_told w answer.OtherUri bad = sym (named_still w)

module _ (t : Tables) (past : OpPast) (at : ℕ) where
  abbrev named_row : Option Word → Option CodeRow
  named_row named = option_and_then (λ (w : Word). row_of code_name w t.codes) named

  abbrev judged : Grant → Option Word → Redeem
  judged grant named = redeem_of grant.client grant.redirect at (held_code past at named)

  tokens_asked : (grant : Grant) (named : Option Word) → named_row named ≡ held_code past at named → judged grant named ≡ answer.Redeemed
      → code_asked named grant at t ≡ by_rules named true (is_spent (judged grant named)) t
  tokens_asked grant None found good = sym (unnamed_still t true (is_spent (judged grant None)))
  tokens_asked grant (Some w) found good =
      let R : Option CodeRow → Tables = λ o. after_answer (redeem_of grant.client grant.redirect at o) w t in
      ap R found ∙ tokens_told t w (judged grant (Some w)) good

  refusal_asked : (grant : Grant) (named : Option Word) → named_row named ≡ held_code past at named → judged grant named ≢ answer.Redeemed
      → code_asked named grant at t ≡ by_rules named false (is_spent (judged grant named)) t
  refusal_asked grant None found bad = sym (unnamed_still t false (is_spent (judged grant None)))
  refusal_asked grant (Some w) found bad =
      let R : Option CodeRow → Tables = λ o. after_answer (redeem_of grant.client grant.redirect at o) w t in
      ap R found ∙ refusal_told t w (judged grant (Some w)) bad

  none_asked : (named : Option Word) (spent : Bool) → spent ≡ false → by_rules named false spent t ≡ t
  none_asked None spent e = unnamed_still t false spent
  none_asked (Some w) spent e = let B : Bool → Tables = λ b. by_rules (Some w) false b t in ap B e ∙ named_still t w

  answered_keeps : (asked : OpAsk) (told : OpReply) (grant : Grant) → grant_answered asked told ≡ Some grant → FindsCode t.codes past at asked → TellsRedemption past at asked told
      → code_asked (word_of_text grant.code) grant at t ≡ by_rules (code_named asked) (is_tokens told) (found_spent past at asked) t
  answered_keeps (ask.Token (Ok g)) (reply.Tokens access id) grant h found tells =
      let same : g ≡ grant = some_same g grant h in
      let G : Grant → Type 0 = λ x. code_asked (word_of_text x.code) x at t ≡ by_rules (word_of_text g.code) true (is_spent (redeem past at g)) t in
      subst G same (tokens_asked g (word_of_text g.code) found tells)
  answered_keeps (ask.Token (Ok g)) (reply.TokenRefused code) grant h found tells =
      let same : g ≡ grant = some_same g grant h in
      let G : Grant → Type 0 = λ x. code_asked (word_of_text x.code) x at t ≡ by_rules (word_of_text g.code) false (is_spent (redeem past at g)) t in
      subst G same (refusal_asked g (word_of_text g.code) found tells)
  answered_keeps asked told grant h found tells = cc

  unanswered_keeps : (asked : OpAsk) (told : OpReply) → grant_answered asked told ≡ None → TellsRedemption past at asked told
      → t ≡ by_rules (code_named asked) (is_tokens told) (found_spent past at asked) t
  unanswered_keeps (ask.Token (Ok g)) (reply.Tokens access id) h tells = cc
  unanswered_keeps (ask.Token (Ok g)) (reply.TokenRefused code) h tells = cc
  unanswered_keeps (ask.Token (Ok g)) told h tells = sym (none_asked (word_of_text g.code) (is_spent (redeem past at g)) tells)
  unanswered_keeps asked told h tells = sym (unnamed_still t (is_tokens told) false)

pub codes_are_kept : (past : OpPast) (p : OpPair) (t : Tables) (grant : Grant) → grant_answered p.entry.ask p.reply ≡ Some grant
    → FindsCode t.codes past p.entry.at p.entry.ask → TellsRedemption past p.entry.at p.entry.ask p.reply
    → code_asked (word_of_text grant.code) grant p.entry.at t ≡ record t { codes = filter_map (code_kept past p) t.codes; tokens = filter_map (access_kept past p) t.tokens }
codes_are_kept past p t grant h found tells = answered_keeps t past p.entry.at p.entry.ask p.reply grant h found tells

pub codes_are_left : (past : OpPast) (p : OpPair) (t : Tables) → grant_answered p.entry.ask p.reply ≡ None → TellsRedemption past p.entry.at p.entry.ask p.reply
    → t ≡ record t { codes = filter_map (code_kept past p) t.codes; tokens = filter_map (access_kept past p) t.tokens }
codes_are_left past p t h tells = unanswered_keeps t past p.entry.at p.entry.ask p.reply h tells

-- ---- rows that are put

pub turn_pushed : (row : TurnRow) (t : Tables) → row_of turn_name row.word t.turns ≡ None → with_turn row t ≡ turn_put (Some row) t
turn_pushed row t h =
    let T : List TurnRow → Tables = λ rows. record t { turns = rows; reserved = record t.reserved { turns = false } } in
    ap T (put_pushes turn_name row t.turns h)

pub code_pushed : (row : CodeRow) (t : Tables) → row_of code_name row.word t.codes ≡ None → with_code row t ≡ code_put (Some row) t
code_pushed row t h =
    let T : List CodeRow → Tables = λ rows. record t { codes = rows; reserved = record t.reserved { codes = false } } in
    ap T (put_pushes code_name row t.codes h)

pub token_pushed : (row : TokenRow) (t : Tables) → row_of access_name row.word t.tokens ≡ None → with_token row t ≡ token_put (Some row) t
token_pushed row t h =
    let T : List TokenRow → Tables = λ rows. record t { tokens = rows; reserved = record t.reserved { tokens = false } } in
    ap T (put_pushes access_name row t.tokens h)

pub session_pushed : (row : SessionRow) (t : Tables) → with_session row (tables.session_ended row.word t) ≡ session_put (Some row) t
session_pushed row t = refl

-- where the session of its word was ended, it may be added
pub session_may_start : (row : SessionRow) (reserved : Bool) (rows : List SessionRow) → MayPut session_name session_begun reserved rows row
    → MayAddRow session_name session_begun reserved (without session_name row.word rows) row
session_may_start row reserved rows may =
    record {
      room = may.room;
      few = may.few;
      unnamed = row_of-without_same session_name row.word rows;
      latest = all_without (λ (r : SessionRow). nat_le r.auth_time row.auth_time) session_name row.word rows may.latest;
    }
