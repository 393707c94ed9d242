-- A code is answered by tokens at most once.
use Rattle.std.proofs.Common.{◌≡◌, ℕ, ◌<◌, ◌==◌, Bool, true, false, ◌&&◌, cond, [], ◌∷◌, ◌++◌, length, Option, Some, None, Ok, option_and_then, refl, sym, ◌∙◌, ap, ◌⊎◌, inl, inr, arith}
use Rattle.std.specs.Str.{bytes_eq}
use Rattle.std.proofs.lemmas.Bool.Decides.{eqb_tells}
use Rattle.sso_base.specs.Words.{Word, Text, is_word}
use Rattle.sso_base.specs.Rows.{row_of, lives, if_lives}
use Rattle.sso_base.specs.declared.history.Entry.{Entry}
use Rattle.sso_base.specs.Stands.{is_named}
use Rattle.sso_base.proofs.RowLaws.{bytes_same, bytes_true, row_has_name, row_of-more}
use Rattle.client_registry.specs.Configuration.{Configuration}
use Rattle.code_grant.specs.declared.rows.SessionRow.{SessionRow}
use Rattle.code_grant.specs.declared.rows.CodeRow.{CodeRow}
use Rattle.code_grant.specs.Rows.{code_name, code_begun}
use Rattle.oidc_words.specs.Lives.{code_life}
use Rattle.auth_request.specs.declared.wish.Wish.{Wish}
use Rattle.op_exchange.specs.declared.ask.OpAsk.{OpAsk}
use Rattle.op_exchange.specs.declared.ask.OpAsk.TheVariants.{Token}
use Rattle.op_exchange.specs.declared.reply.OpReply.{OpReply}
use Rattle.op_exchange.specs.declared.reply.OpReply.TheVariants.{Tokens}
use Rattle.op_exchange.specs.Values.{IsOpAsk}
use Rattle.op_exchange.specs.Replied.{code_in}
use Rattle.op_answer.specs.Past.{OpPair, OpPast}
use Rattle.op_answer.specs.Sessions.{wish_by, session_used, session_of}
use Rattle.op_answer.specs.Codes.{code_issued, code_made, code_made_by, code_kept, code_named, codes_issued, held_code, is_tokens}
use Rattle.op_answer.specs.Answering.{op_answer}
use Rattle.op_answer.specs.Causes.{TokensCause}
use Rattle.op_answer.specs.Legal.{IsLegalOp, place_redeemed, code_redeemed}
use Rattle.op_answer.proofs.KeptNames.{some_same, code_names}
use Rattle.op_answer.proofs.TokenResponses.{tokens_have_a_cause}
use Rattle.sso_base.proofs.Histories.{legal_reply}

some_word : (v w : Word) → ◌≡◌ {A = Option Word} (Some v) (Some w) → v ≡ w
some_word v w h = some_same v w h

-- the row of a word
abbrev the_code : OpPast → Word → Option CodeRow
the_code past w = row_of code_name w (codes_issued past)

-- what one more pair makes of it
the_code_after : (p : OpPair) (past : OpPast) (w : Word) (made : Option CodeRow) → code_made (codes_issued past) past p ≡ made
    → the_code (p ∷ past) w ≡ cond (is_named code_name w made) made (option_and_then (code_kept past p) (the_code past w))
the_code_after p past w made e =
    let m : Option CodeRow = code_made (codes_issued past) past p in
    let F : Option CodeRow → Option CodeRow = λ o. cond (is_named code_name w o) o (option_and_then (code_kept past p) (the_code past w)) in
    row_of-more code_name code_made code_kept code_names w p past ∙ ap F e

-- the code word in the reply of the pair of this place, from 0
abbrev code_at : OpPast → ℕ → Option Word
code_at [] n = None
code_at (p ∷ past) n = cond (n == length past) (code_in p.reply) (code_at past n)

code_at_last : (p : OpPair) (past : OpPast) → code_at (p ∷ past) (length past) ≡ code_in p.reply
code_at_last p past =
    elim (eqb_tells (length past) (length past)) [
      | inl e ↦ (let F : Bool → Option Word = λ b. cond b (code_in p.reply) (code_at past (length past)) in ap F e.0)
      | inr e ↦ absurd (e.1 refl)
    ]

code_at_earlier : (p : OpPair) (past : OpPast) (n : ℕ) → n < length past → code_at (p ∷ past) n ≡ code_at past n
code_at_earlier p past n low =
    elim (eqb_tells n (length past)) [
      | inl e ↦ (let same : n ≡ length past = e.1 in absurd (omega (arith, low, same)))
      | inr e ↦ (let F : Bool → Option Word = λ b. cond b (code_in p.reply) (code_at past n) in ap F e.0)
    ]

-- what a pair makes and leaves of a code's row
record Made (past : OpPast) (p : OpPair) (row : CodeRow) : Type 0 where
  by_is : row.by ≡ length past
  word_is : code_in p.reply ≡ Some row.word

made_by : (past : OpPast) (p : OpPair) (w : Option Word) (wish : Option Wish) (session : Option SessionRow) (row : CodeRow) → code_in p.reply ≡ w
    → code_made_by (length past) p.entry.at w wish session ≡ Some row → Made past p row
made_by past p (Some w) (Some wish) (Some session) row is h =
    let first : CodeRow = code_issued (length past) p.entry.at w wish session in
    let same : first ≡ row = some_same first row h in
    record { by_is = sym (ap (λ (r : CodeRow). r.by) same); word_is = is ∙ ap (λ (r : CodeRow). Some r.word) same }
made_by past p None wish session row is h = cc
made_by past p (Some w) None session row is h = cc
made_by past p (Some w) (Some wish) None row is h = cc

made_is : (past : OpPast) (p : OpPair) (row : CodeRow) → code_made (codes_issued past) past p ≡ Some row → Made past p row
made_is past p row h =
    made_by past p (code_in p.reply) (wish_by past p.entry.ask) (session_of (p ∷ past) (session_used past p.entry.ask p.reply)) row refl h

record Kept (before row : CodeRow) : Type 0 where
  by_is : row.by ≡ before.by
  spent : before.spent ≡ true → row.spent ≡ true

kept_by : (b : Bool) (before row : CodeRow) → cond b (Some (record before { spent = true })) (Some before) ≡ Some row → Kept before row
kept_by true before row h =
    let same : record before { spent = true } ≡ row = some_same (record before { spent = true }) row h in
    record { by_is = sym (ap (λ (r : CodeRow). r.by) same); spent = λ was. sym (ap (λ (r : CodeRow). r.spent) same) }
kept_by false before row h =
    let same : before ≡ row = some_same before row h in
    record { by_is = sym (ap (λ (r : CodeRow). r.by) same); spent = λ was. sym (ap (λ (r : CodeRow). r.spent) same) ∙ was }

kept_is : (past : OpPast) (p : OpPair) (before row : CodeRow) → code_kept past p before ≡ Some row → Kept before row
kept_is past p before row h = kept_by (is_word (code_named p.entry.ask) before.word && is_tokens p.reply) before row h

-- the row of a word after one more pair was made by it, or stood before
module _ (past : OpPast) (p : OpPair) (w : Word) (row : CodeRow) where
  abbrev Origin : Type 0
  Origin = (Made past p row × (row.word ≡ w)) ⊎ ((before : CodeRow) × (the_code past w ≡ Some before) × (code_kept past p before ≡ Some row))

  from_before : (found : Option CodeRow) → the_code past w ≡ found → option_and_then (code_kept past p) found ≡ Some row → Origin
  from_before None e h = cc
  from_before (Some before) e h = inr (before, e, h)

  from_made : (m : CodeRow) → code_made (codes_issued past) past p ≡ Some m → (same : Bool) → bytes_eq m.word w ≡ same
      → cond same (Some m) (option_and_then (code_kept past p) (the_code past w)) ≡ Some row → Origin
  from_made m e true same h =
      let is : m ≡ row = some_same m row h in
      inl (made_is past p row (e ∙ ap (λ (r : CodeRow). Some r) is), sym (ap (λ (r : CodeRow). r.word) is) ∙ bytes_same m.word w same)
  from_made m e false same h = from_before (the_code past w) refl h

  from_any : (made : Option CodeRow) → code_made (codes_issued past) past p ≡ made
      → cond (is_named code_name w made) made (option_and_then (code_kept past p) (the_code past w)) ≡ Some row → Origin
  from_any None e h = from_before (the_code past w) refl h
  from_any (Some m) e h = from_made m e (bytes_eq m.word w) refl h

  origin : the_code (p ∷ past) w ≡ Some row → Origin
  origin h =
      let made = code_made (codes_issued past) past p in
      from_any made refl (sym (the_code_after p past w made refl) ∙ h)

-- a code's row tells the pair that made it
record Drawn (past : OpPast) (w : Word) (row : CodeRow) : Type 0 where
  below : row.by < length past
  word_is : code_at past row.by ≡ Some w

drawn_more : (past : OpPast) (p : OpPair) (w : Word) (row : CodeRow) → ((before : CodeRow) → the_code past w ≡ Some before → Drawn past w before)
    → Origin past p w row → Drawn (p ∷ past) w row
drawn_more past p w row before (inl made) =
    let at : row.by ≡ length past = made.0.by_is in
    let C : ℕ → Option Word = λ n. code_at (p ∷ past) n in
    record { below = omega (arith, at); word_is = ap C at ∙ code_at_last p past ∙ made.0.word_is ∙ ap (λ (v : Word). Some v) made.1 }
drawn_more past p w row before (inr stood) =
    let d = before stood.0 stood.1 in
    let k = kept_is past p stood.0 row stood.2 in
    let at : row.by ≡ stood.0.by = k.by_is in
    let low : stood.0.by < length past = d.below in
    let C : ℕ → Option Word = λ n. code_at (p ∷ past) n in
    record { below = omega (arith, at, low); word_is = ap C at ∙ code_at_earlier p past stood.0.by low ∙ d.word_is }

drawn : (past : OpPast) (w : Word) (row : CodeRow) → the_code past w ≡ Some row → Drawn past w row
drawn [] w row h = cc
drawn (p ∷ past) w row h = drawn_more past p w row (drawn past w) (origin past p w row h)

-- the code of this place is spent, under each word
abbrev IsSpent : OpPast → ℕ → Type 0
IsSpent past n = (w : Word) (row : CodeRow) → the_code past w ≡ Some row → row.by ≡ n → row.spent ≡ true

stays_spent : (past : OpPast) (p : OpPair) (n : ℕ) → n < length past → IsSpent past n → IsSpent (p ∷ past) n
stays_spent past p n low spent w row h at =
    elim (origin past p w row h) [
      | inl made ↦ (let last : row.by ≡ length past = made.0.by_is in absurd (omega (arith, low, at, last)))
      | inr stood ↦ (let k = kept_is past p stood.0 row stood.2 in k.spent (spent w stood.0 stood.1 (sym k.by_is ∙ at)))
    ]

-- ---- a pair that was answered tokens for a code

record Redeemed (past : OpPast) (p : OpPair) (n : ℕ) : Type 0 where
  access : Word
  id : Text
  code : CodeRow
  reply_is : p.reply ≡ Tokens access id
  held : held_code past p.entry.at (code_named p.entry.ask) ≡ Some code
  by_is : code.by ≡ n

redeemed_by : (past : OpPast) (p : OpPair) (n : ℕ) (told : OpReply) (found : Option CodeRow) → p.reply ≡ told → held_code past p.entry.at (code_named p.entry.ask) ≡ found
    → place_redeemed told found ≡ Some n → Redeemed past p n
redeemed_by past p n (Tokens access id) (Some code) is held h = record { access = access; id = id; code = code; reply_is = is; held = held; by_is = cc }
redeemed_by past p n (Tokens access id) None is held h = cc
redeemed_by past p n other found is held h = cc

redeemed : (past : OpPast) (p : OpPair) (n : ℕ) → code_redeemed past p ≡ Some n → Redeemed past p n
redeemed past p n h = redeemed_by past p n p.reply (held_code past p.entry.at (code_named p.entry.ask)) refl refl h

-- a held code is one of the codes
record Found (past : OpPast) (word : Option Word) (code : CodeRow) : Type 0 where
  w : Word
  word_is : word ≡ Some w
  there : the_code past w ≡ Some code

living : (b : Bool) (row code : CodeRow) → cond b (Some row) None ≡ Some code → row ≡ code
living true row code h = some_same row code h
living false row code h = cc

found_row : (past : OpPast) (at : ℕ) (w : Word) (code : CodeRow) (found : Option CodeRow) → the_code past w ≡ found
    → option_and_then (if_lives code_life code_begun at) found ≡ Some code → Found past (Some w) code
found_row past at w code None e h = cc
found_row past at w code (Some row) e h =
    let same : row ≡ code = living (lives code_life row.issued at) row code h in
    record { w = w; word_is = refl; there = e ∙ ap (λ (r : CodeRow). Some r) same }

found : (past : OpPast) (at : ℕ) (word : Option Word) (code : CodeRow) → held_code past at word ≡ Some code → Found past word code
found past at None code h = cc
found past at (Some w) code h = found_row past at w code (the_code past w) refl h

-- tokens spend their code
spends_by : (past : OpPast) (p : OpPair) (before row : CodeRow) (b : Bool) → (is_word (code_named p.entry.ask) before.word && is_tokens p.reply) ≡ b → b ≡ true
    → code_kept past p before ≡ Some row → row.spent ≡ true
spends_by past p before row b e t h =
    let F : Bool → Option CodeRow = λ x. cond x (Some (record before { spent = true })) (Some before) in
    let same : record before { spent = true } ≡ row = some_same (record before { spent = true }) row (sym (ap F (e ∙ t)) ∙ h) in
    sym (ap (λ (r : CodeRow). r.spent) same)

spends : (past : OpPast) (p : OpPair) (n : ℕ) → Redeemed past p n → IsSpent (p ∷ past) n
spends past p n r w row h at =
    let f = found past p.entry.at (code_named p.entry.ask) r.code r.held in
    elim (origin past p w row h) [
      | inl made ↦ (let none : code_in p.reply ≡ None = ap code_in r.reply_is in let some : code_in p.reply ≡ Some row.word = made.0.word_is in cc)
      | inr stood ↦
          (let before : CodeRow = stood.0 in
          let k = kept_is past p before row stood.2 in
          let d = drawn past w before stood.1 in
          let e = drawn past f.w r.code f.there in
          let C : ℕ → Option Word = λ m. code_at past m in
          let one : before.by ≡ r.code.by = sym k.by_is ∙ at ∙ sym r.by_is in
          let same : f.w ≡ w = some_word f.w w (sym e.word_is ∙ sym (ap C one) ∙ d.word_is) in
          let named : before.word ≡ w = row_has_name code_name w (codes_issued past) before stood.1 in
          let W : Option Word → Bool = λ o. is_word o before.word in
          let is : is_word (code_named p.entry.ask) before.word ≡ true = ap W f.word_is ∙ bytes_true f.w before.word (same ∙ sym named) in
          let A : Bool → Bool = λ b. b && is_tokens p.reply in
          let test : (is_word (code_named p.entry.ask) before.word && is_tokens p.reply) ≡ true = ap A is ∙ ap is_tokens r.reply_is in
          spends_by past p before row true test refl stood.2)
    ]

-- ---- the law

below : (past : OpPast) (p : OpPair) (n : ℕ) → Redeemed past p n → n < length past
below past p n r =
    let f = found past p.entry.at (code_named p.entry.ask) r.code r.held in
    let d : r.code.by < length past = (drawn past f.w r.code f.there).below in
    let is : r.code.by ≡ n = r.by_is in
    omega (arith, d, is)

record SpentAfter (past : OpPast) (n : ℕ) : Type 0 where
  low : n < length past
  spent : IsSpent past n

spent_after : (between earlier : OpPast) (p : OpPair) (n : ℕ) → Redeemed earlier p n → SpentAfter (between ++ p ∷ earlier) n
spent_after [] earlier p n r =
    let low : n < length earlier = below earlier p n r in
    record { low = omega (arith, low); spent = spends earlier p n r }
spent_after (q ∷ between) earlier p n r =
    let s = spent_after between earlier p n r in
    let low : n < length (between ++ p ∷ earlier) = s.low in
    record { low = omega (arith, low); spent = stays_spent (between ++ p ∷ earlier) q n low s.spent }

unspent : (c : Configuration) (past : OpPast) (e : Entry OpAsk) (asked : OpAsk) (access : Word) (id : Text) (code : CodeRow) → TokensCause c past e asked access id
    → held_code past e.at (code_named asked) ≡ Some code → code.spent ≡ false
unspent c past e (Token (Ok grant)) access id code cause held =
    let same : cause.code ≡ code = some_same cause.code code (sym cause.held ∙ held) in
    sym (ap (λ (r : CodeRow). r.spent) same) ∙ cause.unspent
unspent c past e other access id code cause held = absurd cause

pub codes_are_answered_once : (c : Configuration) (later between earlier : OpPast) (p q : OpPair) (n : ℕ) → IsLegalOp c (later ++ q ∷ (between ++ p ∷ earlier))
    → code_redeemed earlier p ≡ Some n → code_redeemed (between ++ p ∷ earlier) q ≡ Some n → ⊥
codes_are_answered_once c later between earlier p q n legal first second =
    let past : OpPast = between ++ p ∷ earlier in
    let s = spent_after between earlier p n (redeemed earlier p n first) in
    let r = redeemed past q n second in
    let f = found past q.entry.at (code_named q.entry.ask) r.code r.held in
    let told : op_answer c past q.entry ≡ Tokens r.access r.id = sym (legal_reply IsOpAsk (op_answer c) later past q legal) ∙ r.reply_is in
    let fresh : r.code.spent ≡ false = unspent c past q.entry q.entry.ask r.access r.id r.code (tokens_have_a_cause c past q.entry r.access r.id told) r.held in
    let old : r.code.spent ≡ true = s.spent f.w r.code f.there r.by_is in
    cc
