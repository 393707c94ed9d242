-- A login enters at most once. Of the logins and the pending exchanges that stand, at most one is of the login that one pair
-- began: its exchange is made where the login ends, a UserInfo request that follows where the exchange ends, and who enters ends
-- the one or the other.
use Rattle.std.proofs.Common.{◌≡◌, ◌≢◌, ℕ, ◌+◌, ◌<◌, ◌≤◌, ◌==◌, nat_lt, Bool, true, false, ◌&&◌, cond, List, [], ◌∷◌, ◌++◌, length, filter_map, Option, Some, None, Ok, option_map, refl, sym, ◌∙◌, ap, inl, inr, arith}
use Rattle.std.specs.Str.{bytes_eq}
use Rattle.std.proofs.lemmas.Bool.{ltb-true, ltb-false, and_from}
use Rattle.std.proofs.lemmas.Bool.Decides.{eqb_tells}
use Rattle.sso_base.specs.Words.{Word, Text, is_word}
use Rattle.sso_base.specs.Rows.{row_of}
use Rattle.sso_base.proofs.RowLaws.{bytes_true, row_has_name}
use Rattle.oidc_words.specs.declared.response_types.Types.{Types}
use Rattle.rp_login.specs.declared.rows.LoginRow.{LoginRow}
use Rattle.rp_login.specs.declared.rows.PendingRow.{PendingRow}
use Rattle.rp_login.specs.declared.rows.Stage.{Stage}
use Rattle.rp_login.specs.declared.rows.Stage.TheVariants as stage
use Rattle.rp_login.specs.Rows.{login_name, pending_name}
use Rattle.rp_exchange.specs.declared.ask.RpAsk.{RpAsk}
use Rattle.rp_exchange.specs.declared.ask.RpAsk.TheVariants as ask
use Rattle.rp_exchange.specs.declared.reply.RpReply.{RpReply}
use Rattle.rp_exchange.specs.declared.reply.RpReply.TheVariants as reply
use Rattle.rp_answer.specs.Past.{RpPair, RpPast}
use Rattle.rp_answer.specs.Asked.{state_named}
use Rattle.rp_answer.specs.Logins.{logins, login_of, live_login, login_started, login_made, login_kept, ends_login}
use Rattle.rp_answer.specs.Pendings.{is_stage, pendings, pending_of, live_pending, pending_by, pending_made, pending_kept, answer_named, is_answered, ends_pending}
use Rattle.rp_answer.specs.Legal.{login_entered, login_entered_by}
use Rattle.rp_answer.proofs.KeptNames.{some_same, login_same, pending_same}
use Rattle.rp_answer.proofs.Sending.{login_found, pending_found, pending_waits, named_row, Started, Followed, Sent, sent}
use Rattle.rp_answer.proofs.Counting.{one_if, one_if_other, count_by, count_some, count_put, count_kept, count_dropped}

-- ---- which pair began the login of a row

abbrev login_place : LoginRow → ℕ
login_place login = login.by

abbrev exchange_place : PendingRow → ℕ
exchange_place exchange = exchange.by

abbrev waiting_logins : RpPast → ℕ → ℕ
waiting_logins past n = count_by login_place n (logins past)

abbrev waiting_exchanges : Types → RpPast → ℕ → ℕ
waiting_exchanges types past n = count_by exchange_place n (pendings types past)

-- how many rows wait for the login that the pair of this place began
abbrev waiting : Types → RpPast → ℕ → ℕ
waiting types past n = waiting_logins past n + waiting_exchanges types past n

-- ---- what a pair drops

dropped_where : {R : Type 0} (row : R) (named ends : Bool) → named ≡ true → ends ≡ true → cond (named && ends) None (Some row) ≡ None
dropped_where row true true n e = refl
dropped_where row true false n e = cc
dropped_where row false ends n e = cc

record Named (past : RpPast) (state : Option Word) (login : LoginRow) : Type 0 where
  w : Word
  named : is_word state login.state ≡ true
  there : row_of login_name w (logins past) ≡ Some login

named_login : (past : RpPast) (state : Option Word) (login : LoginRow) → login_of past state ≡ Some login → Named past state login
named_login past None login h = cc
named_login past (Some w) login h = record { w = w; named = bytes_true w login.state (sym (row_has_name login_name w (logins past) login h)); there = h }

-- the login of the state that a reply answers is ended by it
fewer_logins : (past : RpPast) (p : RpPair) (n : ℕ) (login : LoginRow) → login_of past (state_named p.entry.ask) ≡ Some login → ends_login p.reply ≡ true → login.by ≡ n
    → count_by login_place n (filter_map (login_kept past p) (logins past)) < waiting_logins past n
fewer_logins past p n login found ends at =
    let f = named_login past (state_named p.entry.ask) login found in
    let gone : login_kept past p login ≡ None = dropped_where login (is_word (state_named p.entry.ask) login.state) (ends_login p.reply) f.named ends in
    count_dropped login_name login_place n (login_kept past p) (login_same past p) f.w (logins past) login f.there gone at

fewer_exchanges : (types : Types) (past : RpPast) (p : RpPair) (n : ℕ) (w : Word) (row : PendingRow) → pending_of types past w ≡ Some row → is_answered (answer_named p.entry.ask) row ≡ true → ends_pending p.reply ≡ true
    → row.by ≡ n → count_by exchange_place n (filter_map (pending_kept past p) (pendings types past)) < waiting_exchanges types past n
fewer_exchanges types past p n w row found named ends at =
    let gone : pending_kept past p row ≡ None = dropped_where row (is_answered (answer_named p.entry.ask) row) (ends_pending p.reply) named ends in
    count_dropped pending_name exchange_place n (pending_kept past p) (pending_same past p) w (pendings types past) row found gone at

-- ---- one more pair

-- a login that begins is of its own place
begun_here : (by at : ℕ) (fresh : List Word) (asked : RpAsk) (told : RpReply) (n : ℕ) → count_some login_place n (login_started by at fresh asked told) ≤ one_if (by == n)
begun_here by at fresh (ask.Begin presented) (reply.Ask to browser) n = omega arith
begun_here by at fresh asked told n = omega arith

-- an answer to this exchange
answers : (w : Word) (waits : Stage) (row : PendingRow) → row.word ≡ w → is_stage waits row.stage ≡ true → is_answered (Some (w, waits)) row ≡ true
answers w waits row named stages = and_from (bytes_eq w row.word) (is_stage waits row.stage) (bytes_true w row.word (sym named)) stages

module _ (types : Types) (past : RpPast) (p : RpPair) (n : ℕ) where
  kept_logins : count_by login_place n (filter_map (login_kept past p) (logins past)) ≤ waiting_logins past n
  kept_logins = count_kept login_place n (login_kept past p) (login_same past p) (logins past)

  kept_exchanges : count_by exchange_place n (filter_map (pending_kept past p) (pendings types past)) ≤ waiting_exchanges types past n
  kept_exchanges = count_kept exchange_place n (pending_kept past p) (pending_same past p) (pendings types past)

  abbrev MovesIn : PendingRow → Type 0
  MovesIn row =
      count_by login_place n (filter_map (login_kept past p) (logins past)) + count_by exchange_place n (filter_map (pending_kept past p) (pendings types past)) + one_if (exchange_place row == n)
      ≤ waiting types past n

  -- a request of a login is made where the login ends
  of_login : (row : PendingRow) (w : Word) (waits : Stage) → ends_login p.reply ≡ true → Started types p.entry.at past p.entry.ask w waits row → MovesIn row
  of_login row w waits ends t =
      let other_kept = kept_exchanges in
      let of_same : t.login.by ≡ row.by = ap exchange_place t.started in
      elim (eqb_tells row.by n) [
        | inl here ↦
            (let one : one_if (row.by == n) ≡ 1 = ap one_if here.0 in
            let fewer : count_by login_place n (filter_map (login_kept past p) (logins past)) < waiting_logins past n = fewer_logins past p n t.login t.found ends (of_same ∙ here.1) in
            omega (arith, one, fewer, other_kept))
        | inr other ↦
            (let none : one_if (row.by == n) ≡ 0 = ap one_if other.0 in
            let kept = kept_logins in
            omega (arith, none, kept, other_kept))
      ]

  -- a request that follows an exchange, where that ends
  of_exchange : (row : PendingRow) (w answered : Word) → answer_named p.entry.ask ≡ Some (answered, stage.Tokens) → ends_pending p.reply ≡ true
      → Followed types p.entry.at (pendings types past) p.entry.ask answered w row → MovesIn row
  of_exchange row w answered asked ends t =
      let other_kept = kept_logins in
      let of_same : t.before.by ≡ row.by = ap exchange_place t.followed in
      let A : Option (Word × Stage) → Bool = λ named. is_answered named t.before in
      let named : is_answered (answer_named p.entry.ask) t.before ≡ true = ap A asked ∙ answers answered stage.Tokens t.before (named_row answered (pendings types past) t.before t.found) t.waits in
      elim (eqb_tells row.by n) [
        | inl here ↦
            (let one : one_if (row.by == n) ≡ 1 = ap one_if here.0 in
            let fewer : count_by exchange_place n (filter_map (pending_kept past p) (pendings types past)) < waiting_exchanges types past n =
            fewer_exchanges types past p n answered t.before t.found named ends (of_same ∙ here.1) in
            omega (arith, one, fewer, other_kept))
        | inr other ↦
            (let none : one_if (row.by == n) ≡ 0 = ap one_if other.0 in
            let kept = kept_exchanges in
            omega (arith, none, kept, other_kept))
      ]

  moves_in : (row : PendingRow) → Sent types p.entry.at past (pendings types past) row p.entry.ask p.reply → MovesIn row
  moves_in row (inl by) = of_login row by.w stage.Tokens (ap ends_login by.replied) by.made
  moves_in row (inr (inl by)) = of_login row by.w stage.Info (ap ends_login by.replied) by.made
  moves_in row (inr (inr by)) = of_exchange row by.w by.answered (ap answer_named by.asked_is) (ap ends_pending by.replied) by.made

  -- an exchange that is made takes the place of what ended
  moved_by : (made : Option PendingRow) → pending_by types p.entry.at past (pendings types past) p.entry.ask p.reply ≡ made
      → count_by login_place n (filter_map (login_kept past p) (logins past)) + count_by exchange_place n (filter_map (pending_kept past p) (pendings types past)) + count_some exchange_place n made
      ≤ waiting types past n
  moved_by None e =
      let a = kept_logins in
      let b = kept_exchanges in
      omega (arith, a, b)
  moved_by (Some row) e = moves_in row (sent types p.entry.at past (pendings types past) row p.entry.ask p.reply e)

module _ (types : Types) (past : RpPast) (p : RpPair) (n : ℕ) where
  abbrev begun : Option LoginRow
  begun = login_made (logins past) past p

  abbrev exchanged : Option PendingRow
  exchanged = pending_made types (pendings types past) past p

  logins_after : waiting_logins (p ∷ past) n ≤ count_by login_place n (filter_map (login_kept past p) (logins past)) + count_some login_place n begun
  logins_after = count_put login_name login_place n begun (filter_map (login_kept past p) (logins past))

  exchanges_after : waiting_exchanges types (p ∷ past) n ≤ count_by exchange_place n (filter_map (pending_kept past p) (pendings types past)) + count_some exchange_place n exchanged
  exchanges_after = count_put pending_name exchange_place n exchanged (filter_map (pending_kept past p) (pendings types past))

  waiting_more : waiting types (p ∷ past) n ≤ waiting types past n + one_if (length past == n)
  waiting_more =
      let a = logins_after in
      let b = exchanges_after in
      let begins : count_some login_place n begun ≤ one_if (length past == n) = begun_here (length past) p.entry.at p.entry.fresh p.entry.ask p.reply n in
      let moves : count_by login_place n (filter_map (login_kept past p) (logins past)) + count_by exchange_place n (filter_map (pending_kept past p) (pendings types past)) + count_some exchange_place n exchanged
      ≤ waiting types past n = moved_by types past p n exchanged refl in
      omega (arith, a, b, begins, moves)

-- ---- who enters takes the one row out

entered_begins_none : (by at : ℕ) (fresh : List Word) (asked : RpAsk) (w : Word) (sub : Text) → login_started by at fresh asked (reply.Entered w sub) ≡ None
entered_begins_none by at fresh (ask.Begin presented) w sub = refl
entered_begins_none by at fresh asked w sub = refl

record Placed {R : Type 0} (place : R → ℕ) (found : Option R) (n : ℕ) : Type 0 where
  row : R
  is : found ≡ Some row
  at : place row ≡ n

placed : {R : Type 0} (place : R → ℕ) (found : Option R) (n : ℕ) → option_map place found ≡ Some n → Placed place found n
placed place None n h = cc
placed place (Some row) n h = record { row = row; is = refl; at = some_same (place row) n h }

module _ (types : Types) (past : RpPast) (p : RpPair) (n : ℕ) (w : Word) (sub : Text) (replied : p.reply ≡ reply.Entered w sub) where
  none_begun : count_some login_place n (begun types past p n) ≡ 0
  none_begun =
      let S : RpReply → ℕ = λ r. count_some login_place n (login_started (length past) p.entry.at p.entry.fresh p.entry.ask r) in
      let C : Option LoginRow → ℕ = λ o. count_some login_place n o in
      ap S replied ∙ ap C (entered_begins_none (length past) p.entry.at p.entry.fresh p.entry.ask w sub)

  none_exchanged : count_some exchange_place n (exchanged types past p n) ≡ 0
  none_exchanged = let S : RpReply → ℕ = λ r. count_some exchange_place n (pending_by types p.entry.at past (pendings types past) p.entry.ask r) in ap S replied

  by_response : (login : LoginRow) → login_of past (state_named p.entry.ask) ≡ Some login → login.by ≡ n → waiting types (p ∷ past) n < waiting types past n
  by_response login found at =
      let a = logins_after types past p n in
      let b = exchanges_after types past p n in
      let c = none_begun in
      let d = none_exchanged in
      let fewer : count_by login_place n (filter_map (login_kept past p) (logins past)) < waiting_logins past n = fewer_logins past p n login found (ap ends_login replied) at in
      let kept : count_by exchange_place n (filter_map (pending_kept past p) (pendings types past)) ≤ waiting_exchanges types past n =
      count_kept exchange_place n (pending_kept past p) (pending_same past p) (pendings types past) in
      omega (arith, a, b, c, d, fewer, kept)

  by_answer : (pending : Word) (row : PendingRow) → is_answered (answer_named p.entry.ask) row ≡ true → pending_of types past pending ≡ Some row → row.by ≡ n → waiting types (p ∷ past) n < waiting types past n
  by_answer pending row named found at =
      let a = logins_after types past p n in
      let b = exchanges_after types past p n in
      let c = none_begun in
      let d = none_exchanged in
      let fewer : count_by exchange_place n (filter_map (pending_kept past p) (pendings types past)) < waiting_exchanges types past n =
      fewer_exchanges types past p n pending row found named (ap ends_pending replied) at in
      let kept : count_by login_place n (filter_map (login_kept past p) (logins past)) ≤ waiting_logins past n = count_kept login_place n (login_kept past p) (login_same past p) (logins past) in
      omega (arith, a, b, c, d, fewer, kept)

-- who enters by an answer ends the exchange that it is to
by_named : (types : Types) (past : RpPast) (p : RpPair) (n : ℕ) (w : Word) (sub : Text) → p.reply ≡ reply.Entered w sub → (pending : Word) (waits : Stage) → answer_named p.entry.ask ≡ Some (pending, waits)
    → option_map exchange_place (live_pending types past p.entry.at pending waits) ≡ Some n → waiting types (p ∷ past) n < waiting types past n
by_named types past p n w sub told pending waits asked h =
    let f = placed exchange_place (live_pending types past p.entry.at pending waits) n h in
    let found : pending_of types past pending ≡ Some f.row = pending_found types past p.entry.at pending waits f.row f.is in
    let A : Option (Word × Stage) → Bool = λ named. is_answered named f.row in
    let named : is_answered (answer_named p.entry.ask) f.row ≡ true =
    ap A asked ∙ answers pending waits f.row (named_row pending (pendings types past) f.row found) (pending_waits types past p.entry.at pending waits f.row f.is) in
    by_answer types past p n w sub told pending f.row named found f.at

enters_by : (types : Types) (past : RpPast) (p : RpPair) (n : ℕ) (asked : RpAsk) (told : RpReply) → p.entry.ask ≡ asked → p.reply ≡ told → login_entered_by types past p.entry asked told ≡ Some n
    → waiting types (p ∷ past) n < waiting types past n
enters_by types past p n (ask.Callback (Ok heard) id browser) (reply.Entered w sub) asked told h =
    let f = placed login_place (live_login past p.entry.at heard.state) n h in
    let L : RpAsk → Option LoginRow = λ a. login_of past (state_named a) in
    by_response types past p n w sub told f.row (ap L asked ∙ login_found past p.entry.at heard.state f.row f.is) f.at
enters_by types past p n (ask.Tokens pending came id) (reply.Entered w sub) asked told h = by_named types past p n w sub told pending stage.Tokens (ap answer_named asked) h
enters_by types past p n (ask.Info pending came) (reply.Entered w sub) asked told h = by_named types past p n w sub told pending stage.Info (ap answer_named asked) h
enters_by types past p n asked told is replied h = cc

enters : (types : Types) (past : RpPast) (p : RpPair) (n : ℕ) → login_entered types past p ≡ Some n → waiting types (p ∷ past) n < waiting types past n
enters types past p n h = enters_by types past p n p.entry.ask p.reply refl refl h

-- ---- at most one row waits, and none for a place that is not yet

none_yet : (types : Types) (past : RpPast) (n : ℕ) → length past ≤ n → waiting types past n ≡ 0
none_yet types [] n high = refl
none_yet types (p ∷ past) n high =
    let again : waiting types past n ≡ 0 = none_yet types past n (omega (arith, high)) in
    let more : waiting types (p ∷ past) n ≤ waiting types past n + one_if (length past == n) = waiting_more types past p n in
    let other : one_if (length past == n) ≡ 0 = one_if_other (length past) n (λ (is : length past ≡ n). omega (arith, high, is)) in
    omega (arith, again, more, other)

one_at_most : (types : Types) (past : RpPast) (n : ℕ) → waiting types past n ≤ 1
one_at_most types [] n = omega arith
one_at_most types (p ∷ past) n =
    let more : waiting types (p ∷ past) n ≤ waiting types past n + one_if (length past == n) = waiting_more types past p n in
    elim (eqb_tells (length past) n) [
      | inl e ↦
          (let is : length past ≡ n = e.1 in
          let none : waiting types past n ≡ 0 = none_yet types past n (omega (arith, is)) in
          let one : one_if (length past == n) ≡ 1 = ap one_if e.0 in
          omega (arith, none, one, more))
      | inr e ↦
          (let again : waiting types past n ≤ 1 = one_at_most types past n in
          let none : one_if (length past == n) ≡ 0 = ap one_if e.0 in
          omega (arith, again, none, more))
    ]

-- ---- the law

record Over (types : Types) (past : RpPast) (n : ℕ) : Type 0 where
  low : n < length past
  none : waiting types past n ≡ 0

below : (types : Types) (past : RpPast) (n : ℕ) (low : Bool) → nat_lt n (length past) ≡ low → waiting types past n ≢ 0 → n < length past
below types past n true e some = ltb-true n (length past) e
below types past n false e some = absurd (some (none_yet types past n (ltb-false n (length past) e)))

over_after : (types : Types) (between earlier : RpPast) (p : RpPair) (n : ℕ) → login_entered types earlier p ≡ Some n → Over types (between ++ p ∷ earlier) n
over_after types [] earlier p n h =
    let fewer : waiting types (p ∷ earlier) n < waiting types earlier n = enters types earlier p n h in
    let one : waiting types earlier n ≤ 1 = one_at_most types earlier n in
    let low : n < length earlier = below types earlier n (nat_lt n (length earlier)) refl (λ (none : waiting types earlier n ≡ 0). omega (arith, fewer, none)) in
    record { low = omega (arith, low); none = omega (arith, fewer, one) }
over_after types (q ∷ between) earlier p n h =
    let o = over_after types between earlier p n h in
    let low : n < length (between ++ p ∷ earlier) = o.low in
    let none : waiting types (between ++ p ∷ earlier) n ≡ 0 = o.none in
    let more : waiting types (q ∷ (between ++ p ∷ earlier)) n ≤ waiting types (between ++ p ∷ earlier) n + one_if (length (between ++ p ∷ earlier) == n) = waiting_more types (between ++ p ∷ earlier) q n in
    let other : one_if (length (between ++ p ∷ earlier) == n) ≡ 0 = one_if_other (length (between ++ p ∷ earlier)) n (λ (is : length (between ++ p ∷ earlier) ≡ n). omega (arith, low, is)) in
    record { low = omega (arith, low); none = omega (arith, none, more, other) }

pub logins_enter_once : (types : Types) (between earlier : RpPast) (p q : RpPair) (n : ℕ)
    → login_entered types earlier p ≡ Some n → login_entered types (between ++ p ∷ earlier) q ≡ Some n → ⊥
logins_enter_once types between earlier p q n first second =
    let none : waiting types (between ++ p ∷ earlier) n ≡ 0 = (over_after types between earlier p n first).none in
    let fewer : waiting types (q ∷ (between ++ p ∷ earlier)) n < waiting types (between ++ p ∷ earlier) n = enters types (between ++ p ∷ earlier) q n second in
    omega (arith, none, fewer)
