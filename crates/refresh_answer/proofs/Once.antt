-- Where no word was drawn twice: a token is answered by new ones once; and after an old one was presented, its family is over.
use Rattle.std.proofs.Common.{◌≡◌, ◌<◌, ℕ, suc, nat_eq, Bool, true, false, not, ◌&&◌, ◌||◌, cond, List, [], ◌∷◌, ◌++◌, length, filter, Option, Some, None, option_and_then, option_map, Ok, ◌⊎◌, inl, inr, refl, ap, sym, ◌∙◌, subst, arith}
use Rattle.sso_base.specs.Words.{Word, fresh_word}
use Rattle.sso_base.specs.Rows.{row_of, put, if_lives}
use Rattle.sso_base.specs.Drawn.{IsDrawn}
use Rattle.std.specs.Str.{bytes_eq}
use Rattle.sso_base.proofs.RowLaws.{bool_cases, option_cases, bytes_same, bytes_true, row_has_name}
use Rattle.sso_base.specs.declared.history.Entry.{Entry}
use Rattle.sso_base.specs.declared.history.Pair.{Pair}
use Rattle.client_registry.specs.Configuration.{Configuration}
use Rattle.oidc_words.specs.Lives.{access_life}
use Rattle.token_endpoint.specs.declared.granting.Grant.{Grant}
use Rattle.code_grant.specs.declared.rows.CodeRow.{CodeRow}
use Rattle.op_exchange.specs.declared.ask.OpAsk.{OpAsk}
use Rattle.op_exchange.specs.declared.ask.OpAsk.TheVariants as op_ask
use Rattle.op_exchange.specs.declared.reply.OpReply.{OpReply}
use Rattle.userinfo.specs.declared.header.Bearer.TheVariants as bearer
use Rattle.op_answer.specs.Past.{OpPair}
use Rattle.core_stack.proofs.Same.{some_same}
use Rattle.refresh_answer.specs.declared.asks.RefreshGrant.{RefreshGrant}
use Rattle.refresh_answer.specs.declared.asks.RefreshAsk.{RefreshAsk}
use Rattle.refresh_answer.specs.declared.asks.RefreshAsk.TheVariants as ask
use Rattle.refresh_answer.specs.declared.asks.OwnReply.{OwnReply}
use Rattle.refresh_answer.specs.declared.asks.OwnReply.TheVariants as own
use Rattle.refresh_answer.specs.declared.asks.RefreshReply.{RefreshReply}
use Rattle.refresh_answer.specs.declared.rows.FamilyRow.{FamilyRow}
use Rattle.refresh_answer.specs.declared.rows.AccessRow.{AccessRow}
use Rattle.refresh_answer.specs.declared.rows.RefreshRow.{RefreshRow}
use Rattle.refresh_answer.specs.Rows.{token_name, access_name, access_begun, old_token}
use Rattle.refresh_answer.specs.Around.{Outer, outer_plain}
use Rattle.refresh_answer.specs.Families.{access_family, living, row_presented, presented, tokens, accesses, families, family_at, begins, begun_by, ends, is_replay, is_code_replay, code_presented, token_made, token_retired, access_made}
use Rattle.refresh_answer.specs.Answering.{IsReply, own_reply, info_reply, family_info}
use Rattle.refresh_answer.specs.Laws.{HasNewWords, IsRefreshed, IsInfo, WasTokenOf, WasAccessOf, HasBegun, EndsFamily}
use Rattle.refresh_answer.proofs.Answered.{IsAnswered}
use Rattle.refresh_answer.proofs.Families.{some_none, true_false, found_below, none_filtered, found_before, gone, found_appended, if_lives_parts, put_here, put_other, put_found, put_stays}
use Rattle.refresh_answer.proofs.Steps.{Replied, own_is, reply_rotates, presented_row, begun_place, retired_is, made_drawn, access_drawn}
use Rattle.refresh_answer.proofs.Current.{numbered}

one_low : 1 < 4
one_low = omega arith

zero_low : 0 < 4
zero_low = omega arith

longer : (n m : ℕ) → n < m → n < suc m
longer n m l = omega (arith, l)

not_same : (n m : ℕ) → n < m → m ≡ n → ⊥
not_same n m l e = omega (arith, l, e)

eq_test : (a b : ℕ) → a ≡ b → nat_eq a b ≡ true
eq_test a b h = grind (arith, h)

or_true : (b : Bool) → not (b || true) ≡ false
or_true true = refl
or_true false = refl

abbrev rest_of : {X : Type 0} → List X → List X
rest_of [] = []
rest_of (x ∷ xs) = xs

-- of two rests of one list, one is a rest of the other
two_parts : {X : Type 0} (later earlier after all : List X) (q : X) → later ++ earlier ≡ after ++ q ∷ all → ((d : List X) × (all ≡ d ++ earlier)) ⊎ ((d : List X) × (earlier ≡ d ++ q ∷ all))
two_parts [] earlier after all q same = inr (after, same)
two_parts {X} (x ∷ later) earlier [] all q same = let T : List X → List X = λ l. rest_of l in inl (later, sym (ap T same))
two_parts {X} (x ∷ later) earlier (y ∷ after) all q same = let T : List X → List X = λ l. rest_of l in two_parts later earlier after all q (ap T same)

drawn_before : {A R : Type 0} (p : Outer A R) (past : List (Outer A R)) (w : Word) → IsDrawn past w → IsDrawn (p ∷ past) w
drawn_before {A} {R} p past w d =
    let grow : List (Outer A R) → List (Outer A R) = λ l. p ∷ l in
    record { later = p ∷ d.later; maker = d.maker; earlier = d.earlier; parts = ap grow d.parts; number = d.number; low = d.low; drawn = d.drawn }

drawn_now : {A R : Type 0} (p : Outer A R) (past : List (Outer A R)) (w : Word) (k : ℕ) → k < 4 → w ≡ fresh_word p.entry.fresh k → IsDrawn (p ∷ past) w
drawn_now p past w k low is = record { later = []; maker = p; earlier = past; parts = refl; number = k; low = low; drawn = is }

-- the row of the word stands, of this family, and is old if that is so
abbrev Stays : List RefreshRow → Word → RefreshRow → Type 0
Stays rows w row = (after : RefreshRow) × (row_of token_name w rows ≡ Some after) × (after.family ≡ row.family) × (row.current ≡ false → after.current ≡ false)

-- where the row that is put is of the presented token
stays_retired : (m : Option RefreshRow) (rows : List RefreshRow) (w : Word) (row : RefreshRow) → ((y : RefreshRow) → m ≡ Some y → (t : RefreshRow) × (y ≡ old_token t) × (row_of token_name t.word rows ≡ Some t))
    → row_of token_name w rows ≡ Some row → Stays (put token_name m rows) w row
stays_retired None rows w row is h = (row, h, refl, λ e. e)
stays_retired (Some y) rows w row is h = elim (bool_cases (Rattle.std.specs.Str.bytes_eq y.word w)) [
  | inl e ↦
      (let old = is y refl in
      let W : Word → Option RefreshRow = λ x. row_of token_name x rows in
      let named : y.word ≡ w = bytes_same y.word w e in
      let same : old.0 ≡ row = some_same old.0 row (sym old.2 ∙ ap W (sym (ap (λ (r : RefreshRow). r.word) old.1) ∙ named) ∙ h) in
      (y, put_here token_name w y rows named, ap (λ (r : RefreshRow). r.family) old.1 ∙ ap (λ (r : RefreshRow). r.family) same, λ unused. ap (λ (r : RefreshRow). r.current) old.1))
  | inr e ↦ (row, put_other token_name w y rows e ∙ h, refl, λ f. f)
]

module _ {A R : Type 0} (plain : A → Option OpAsk) (given : R → Option OpReply) (provided : List (Pair A R) → List OpPair) (c : Configuration) where
  abbrev T : List (Outer A R) → List RefreshRow
  T past = tokens plain given provided past

  abbrev Xs : List (Outer A R) → List AccessRow
  Xs past = accesses plain given provided past

  abbrev Fs : List (Outer A R) → List FamilyRow
  Fs past = families plain given provided past

  abbrev Answered : List (Outer A R) → Type 0
  Answered past = IsAnswered plain given provided c past

  -- ---- beginnings

  pub answered_before : (later past : List (Outer A R)) → Answered (later ++ past) → Answered past
  answered_before [] past is = is
  answered_before (p ∷ later) past is = answered_before later past is.0

  apart_before : (later past : List (Outer A R)) → HasNewWords (later ++ past) → HasNewWords past
  apart_before [] past is = is
  apart_before (p ∷ later) past is = apart_before later past is.0

  -- ---- the words of rows were drawn

  token_drawn : (past : List (Outer A R)) → Answered past → (w : Word) (row : RefreshRow) → row_of token_name w (T past) ≡ Some row → IsDrawn past w
  token_drawn [] is w row h = absurd (some_none row (sym h))
  token_drawn (p ∷ past) is w row h =
      let o : Option RefreshRow = row_presented (T past) p.entry.ask in
      let kept : List RefreshRow = put token_name (token_retired o p.reply) (T past) in
      let named : row.word ≡ w = row_has_name token_name w (T (p ∷ past)) row h in
      let D : Word → Type 0 = λ x. IsDrawn (p ∷ past) x in
      elim (put_found token_name w (token_made (length past) o p.reply) kept row h) [
        | inl made ↦ drawn_now p past w 1 one_low (sym named ∙ made_drawn plain given provided c past p.entry p.reply (length past) row is.2 made)
        | inr before ↦ elim (put_found token_name w (token_retired o p.reply) (T past) row before) [
          | inl retired ↦
              (let old = retired_is p.reply o row retired in
              let stood = presented_row plain given provided (T past) p.entry.ask old.0 old.1 in
              subst D (sym (ap (λ (r : RefreshRow). r.word) old.2) ∙ named) (drawn_before p past old.0.word (token_drawn past is.0 old.0.word old.0 stood.1)))
          | inr stood ↦ drawn_before p past w (token_drawn past is.0 w row stood)
        ]
      ]

  access_word_drawn : (past : List (Outer A R)) → Answered past → (w : Word) (row : AccessRow) → row_of access_name w (Xs past) ≡ Some row → IsDrawn past w
  access_word_drawn [] is w row h = absurd (some_none row (sym h))
  access_word_drawn (p ∷ past) is w row h =
      let named : row.word ≡ w = row_has_name access_name w (Xs (p ∷ past)) row h in
      elim (put_found access_name w (access_made p.entry.at (row_presented (T past) p.entry.ask) p.reply) (Xs past) row h) [
        | inl made ↦ drawn_now p past w 0 zero_low (sym named ∙ access_drawn plain given provided c past p.entry p.reply row is.2 made)
        | inr stood ↦ drawn_before p past w (access_word_drawn past is.0 w row stood)
      ]

  -- ---- rows that stand stay

  new_apart : (past : List (Outer A R)) (p : Outer A R) → Answered (p ∷ past) → HasNewWords (p ∷ past) → (w : Word) → IsDrawn past w → (x : RefreshRow)
      → token_made (length past) (row_presented (T past) p.entry.ask) p.reply ≡ Some x → x.word ≡ w → ⊥
  new_apart past p is apart w drawn x made named =
      let D : Word → Type 0 = λ v. IsDrawn past v in
      apart.1 1 one_low (subst D (sym named ∙ made_drawn plain given provided c past p.entry p.reply (length past) x is.2 made) drawn)

  token_stays : (past : List (Outer A R)) (p : Outer A R) → Answered (p ∷ past) → HasNewWords (p ∷ past) → (w : Word) (row : RefreshRow) → row_of token_name w (T past) ≡ Some row → Stays (T (p ∷ past)) w row
  token_stays past p is apart w row h =
      let o : Option RefreshRow = row_presented (T past) p.entry.ask in
      let made : Option RefreshRow = token_made (length past) o p.reply in
      let kept : List RefreshRow = put token_name (token_retired o p.reply) (T past) in
      let drawn : IsDrawn past w = token_drawn past is.0 w row h in
      let stay : (x : RefreshRow) → row_of token_name w kept ≡ Some x → row_of token_name w (put token_name made kept) ≡ Some x =
      λ x found. put_stays token_name w made kept x (λ y m e. new_apart past p is apart w drawn y m e) found in
      let same : Stays kept w row = stays_retired (token_retired o p.reply) (T past) w row
      (λ y r. let old = retired_is p.reply o y r in
      let stood = presented_row plain given provided (T past) p.entry.ask old.0 old.1 in
      (old.0, old.2, stood.1)) h in
      (same.0, stay same.0 same.1, same.2, same.3)

  -- many pairs
  tokens_stay : (later past : List (Outer A R)) → Answered (later ++ past) → HasNewWords (later ++ past) → (w : Word) (row : RefreshRow) → row_of token_name w (T past) ≡ Some row → Stays (T (later ++ past)) w row
  tokens_stay [] past is apart w row h = (row, h, refl, λ e. e)
  tokens_stay (p ∷ later) past is apart w row h =
      let before = tokens_stay later past is.0 apart.0 w row h in
      let now = token_stays (later ++ past) p is apart w before.0 before.1 in
      (now.0, now.1, now.2 ∙ before.2, λ old. now.3 (before.3 old))

  accesses_stay : (later past : List (Outer A R)) → Answered (later ++ past) → HasNewWords (later ++ past) → (w : Word) (row : AccessRow) → row_of access_name w (Xs past) ≡ Some row → row_of access_name w (Xs (later ++ past)) ≡ Some row
  accesses_stay [] past is apart w row h = h
  accesses_stay (p ∷ later) past is apart w row h =
      let all : List (Outer A R) = later ++ past in
      let before : row_of access_name w (Xs all) ≡ Some row = accesses_stay later past is.0 apart.0 w row h in
      let drawn : IsDrawn all w = access_word_drawn all is.0 w row before in
      let D : Word → Type 0 = λ v. IsDrawn all v in
      put_stays access_name w (access_made p.entry.at (row_presented (T all) p.entry.ask) p.reply) (Xs all) row
      (λ x made named. apart.1 0 zero_low (subst D (sym named ∙ access_drawn plain given provided c all p.entry p.reply x is.2 made) drawn)) before

  -- ---- a token is answered by new tokens once

  refreshed_row : (past : List (Outer A R)) (p : Outer A R) (w : Word) → Answered (p ∷ past) → IsRefreshed p w → (row : RefreshRow) × (row_of token_name w (T past) ≡ Some row) × (row.current ≡ true)
      × (row_presented (T past) p.entry.ask ≡ Some row) × ((f : FamilyRow) × (living plain given provided past p.entry.at row.family ≡ Some f))
  refreshed_row past p w is refreshed =
      let Q : RefreshReply R → Type 0 = λ r. Replied plain given provided c past p.entry r in
      let rot = reply_rotates plain given provided c past p.entry refreshed.access refreshed.refresh refreshed.scopes (subst Q refreshed.replied is.2) in
      let stood = presented_row plain given provided (T past) p.entry.ask rot.row rot.found in
      let W : Word → Option RefreshRow = λ x. row_of token_name x (T past) in
      (rot.row, ap W (sym (some_same rot.row.word w (sym stood.0 ∙ refreshed.presented_is))) ∙ stood.1, rot.current, rot.found, (rot.family, rot.lives))

  -- after it, it is old
  old_after : (past : List (Outer A R)) (p : Outer A R) (w : Word) → Answered (p ∷ past) → HasNewWords (p ∷ past) → IsRefreshed p w → (row : RefreshRow) × (row_of token_name w (T (p ∷ past)) ≡ Some row) × (row.current ≡ false)
  old_after past p w is apart refreshed =
      let o : Option RefreshRow = row_presented (T past) p.entry.ask in
      let found = refreshed_row past p w is refreshed in
      let old : RefreshRow = old_token found.0 in
      let retired : token_retired o p.reply ≡ Some old =
      ap (λ (r : RefreshReply R). token_retired o r) refreshed.replied ∙ ap (λ (x : Option RefreshRow). option_map old_token x) found.3 in
      let kept : List RefreshRow = put token_name (token_retired o p.reply) (T past) in
      let K : Option RefreshRow → Option RefreshRow = λ m. row_of token_name w (put token_name m (T past)) in
      let here : row_of token_name w kept ≡ Some old = ap K retired ∙ put_here token_name w old (T past) (row_has_name token_name w (T past) found.0 found.1) in
      (old, put_stays token_name w (token_made (length past) o p.reply) kept old (λ y m e. new_apart past p is apart w (token_drawn past is.0 w found.0 found.1) y m e) here, refl)

  pub refreshed_once : (past after between before : List (Outer A R)) (p q : Outer A R) (w : Word) → Answered past → HasNewWords past → past ≡ after ++ q ∷ (between ++ p ∷ before) → IsRefreshed p w → IsRefreshed q w → ⊥
  refreshed_once past after between before p q w is apart parts one other =
      let L : List (Outer A R) → Type 0 = λ l. Answered l in
      let D : List (Outer A R) → Type 0 = λ l. HasNewWords l in
      let then : Answered (q ∷ (between ++ p ∷ before)) = answered_before after (q ∷ (between ++ p ∷ before)) (subst L parts is) in
      let drawn : HasNewWords (q ∷ (between ++ p ∷ before)) = apart_before after (q ∷ (between ++ p ∷ before)) (subst D parts apart) in
      let old = old_after before p w (answered_before between (p ∷ before) then.0) (apart_before between (p ∷ before) drawn.0) one in
      let later = tokens_stay between (p ∷ before) then.0 drawn.0 w old.0 old.1 in
      let again = refreshed_row (between ++ p ∷ before) q w then other in
      true_false (sym again.2 ∙ ap (λ (r : RefreshRow). r.current) (some_same again.0 later.0 (sym again.1 ∙ later.1)) ∙ later.3 old.2)

  -- ---- a family that is over

  over_stays : (later past : List (Outer A R)) (n : ℕ) → n < length past → family_at n (Fs past) ≡ None → (family_at n (Fs (later ++ past)) ≡ None) × (n < length (later ++ past))
  over_stays [] past n low h = (h, low)
  over_stays (p ∷ later) past n low h =
      let all : List (Outer A R) = later ++ past in
      let before = over_stays later past n low h in
      let k : FamilyRow → Bool = λ f. not (ends plain given provided all p.entry.at p.entry.ask f) in (
        found_appended n (length all) (filter k (Fs all)) (begun_by p.reply (begins plain given provided all p.entry)) (λ f is. begun_place plain given provided all p.entry p.reply f is) (not_same n (length all) before.1)
            ∙ none_filtered k n (Fs all) before.0,
        longer n (length all) before.1,
      )

  replay_by : (o : Option RefreshRow) (asked : RefreshAsk A) (g : RefreshGrant) (row : RefreshRow) (f : FamilyRow) (other : Bool) → asked ≡ ask.Refresh (Ok g) → o ≡ Some row → row.current ≡ false → row.family ≡ f.by → g.client ≡ f.client
      → not (is_replay o asked f || other) ≡ false
  replay_by o asked g row f other is found old family client =
      let Q : RefreshAsk A → Bool = λ a. not (is_replay o a f || other) in
      let shown : RefreshAsk A = ask.Refresh (Ok g) in
      let O : Option RefreshRow → Bool = λ x. not (is_replay x shown f || other) in
      let B : Bool → Bool = λ b. not ((not b && nat_eq row.family f.by && nat_eq g.client f.client) || other) in
      let C : Bool → Bool = λ b. not ((true && b && nat_eq g.client f.client) || other) in
      let E : Bool → Bool = λ b. not ((true && true && b) || other) in
      ap Q is ∙ ap O found ∙ ap B old ∙ ap C (eq_test row.family f.by family) ∙ ap E (eq_test g.client f.client client)

  pub none_begun : (past : List (Outer A R)) (e : Entry (RefreshAsk A)) (reply : RefreshReply R) (grant : Rattle.std.specs.Prelude.Result RefreshGrant Rattle.token_endpoint.specs.declared.no.GrantNo.GrantNo) (b : Option FamilyRow) (w : Word)
      → IsReply given (own_reply plain given provided c past e.at e.fresh (ask.Refresh grant)) b w reply → begun_by reply (begins plain given provided past e) ≡ None
  none_begun past e reply grant b w is = ap (λ (r : RefreshReply R). begun_by r (begins plain given provided past e)) is

  code_by : (o : Option CodeRow) (asked : Option OpAsk) (g : Grant) (code : CodeRow) (f : FamilyRow) (other : Bool) → asked ≡ Some (op_ask.Token (Ok g)) → o ≡ Some code → code.spent ≡ true → code.word ≡ f.code
      → g.client ≡ f.client → not (other || is_code_replay o asked f) ≡ false
  code_by o asked g code f other is found spent word client =
      let Q : Option OpAsk → Bool = λ a. not (other || is_code_replay o a f) in
      let shown : Option OpAsk = Some (op_ask.Token (Ok g)) in
      let O : Option CodeRow → Bool = λ x. not (other || is_code_replay x shown f) in
      let B : Bool → Bool = λ b. not (other || (b && bytes_eq code.word f.code && nat_eq g.client f.client)) in
      let C : Bool → Bool = λ b. not (other || (true && b && nat_eq g.client f.client)) in
      let E : Bool → Bool = λ b. not (other || (true && true && b)) in
      ap Q is ∙ ap O found ∙ ap B spent ∙ ap C (bytes_true code.word f.code word) ∙ ap E (eq_test g.client f.client client) ∙ or_true other

  -- ---- a family that has begun

  still_below : (later past : List (Outer A R)) (n : ℕ) → n < length past → n < length (later ++ past)
  still_below [] past n low = low
  still_below (p ∷ later) past n low = longer n (length (later ++ past)) (still_below later past n low)

  -- one that is found later was found before, unchanged
  found_earlier : (later past : List (Outer A R)) (n : ℕ) (f : FamilyRow) → n < length past → family_at n (Fs (later ++ past)) ≡ Some f → family_at n (Fs past) ≡ Some f
  found_earlier [] past n f low h = h
  found_earlier (p ∷ later) past n f low h =
      let all : List (Outer A R) = later ++ past in
      let k : FamilyRow → Bool = λ g. not (ends plain given provided all p.entry.at p.entry.ask g) in
      let same : family_at n (Fs (p ∷ all)) ≡ family_at n (filter k (Fs all)) =
      found_appended n (length all) (filter k (Fs all)) (begun_by p.reply (begins plain given provided all p.entry)) (λ g is. begun_place plain given provided all p.entry p.reply g is) (not_same n (length all) (still_below later past n low)) in
      found_earlier later past n f low (found_before k n (length all) (Fs all) f (numbered plain given provided all) (sym same ∙ h))

  begun_below : (past : List (Outer A R)) (f : FamilyRow) → HasBegun plain given provided past f → f.by < length past
  begun_below past f begun =
      let N : List (Outer A R) → Type 0 = λ l. f.by < length l in
      subst N (sym begun.parts)
      (still_below begun.later begun.earlier f.by (found_below f.by (length begun.earlier) (Fs begun.earlier) f (numbered plain given provided begun.earlier) begun.stands))

  -- if it is found, it is the one that began
  begun_same : (past : List (Outer A R)) (f g : FamilyRow) → HasBegun plain given provided past f → family_at f.by (Fs past) ≡ Some g → g ≡ f
  begun_same past f g begun found =
      let first : List (Outer A R) = begun.earlier in
      let L : List (Outer A R) → Type 0 = λ l. family_at f.by (Fs l) ≡ Some g in
      let low : f.by < length first = found_below f.by (length first) (Fs first) f (numbered plain given provided first) begun.stands in
      some_same g f (sym (found_earlier begun.later first f.by g low (subst L begun.parts found)) ∙ begun.stands)

  -- it is over after a pair that ends it
  over_by : (past : List (Outer A R)) (p : Outer A R) (f : FamilyRow) → HasBegun plain given provided past f → not (ends plain given provided past p.entry.at p.entry.ask f) ≡ false
      → (family_at f.by (Fs (p ∷ past)) ≡ None) × (f.by < length (p ∷ past))
  over_by past p f begun out =
      let k : FamilyRow → Bool = λ g. not (ends plain given provided past p.entry.at p.entry.ask g) in
      let low : f.by < length past = begun_below past f begun in
      let none : family_at f.by (filter k (Fs past)) ≡ None = elim (option_cases (family_at f.by (Fs past))) [
        | inl over ↦ none_filtered k f.by (Fs past) over
        | inr some ↦ gone k f.by (length past) (Fs past) f (numbered plain given provided past) (some.1 ∙ ap Some (begun_same past f some.0 begun some.1)) out
      ] in (
        found_appended f.by (length past) (filter k (Fs past)) (begun_by p.reply (begins plain given provided past p.entry)) (λ g is. begun_place plain given provided past p.entry p.reply g is) (not_same f.by (length past) low) ∙ none,
        longer f.by (length past) low,
      )

  over_after : (past : List (Outer A R)) (p : Outer A R) (f : FamilyRow) → EndsFamily plain given provided past p f → (family_at f.by (Fs (p ∷ past)) ≡ None) × (f.by < length (p ∷ past))
  over_after past p f (inl old) =
      over_by past p f old.begun
      (replay_by (row_presented (T past) p.entry.ask) p.entry.ask old.grant old.row f (is_code_replay (code_presented plain given provided past p.entry.at p.entry.ask) (outer_plain plain p.entry.ask) f) old.asked old.presented_is old.old old.family old.client)
  over_after past p f (inr again) =
      over_by past p f again.begun
      (code_by (code_presented plain given provided past p.entry.at p.entry.ask) (outer_plain plain p.entry.ask) again.grant again.code f (is_replay (row_presented (T past) p.entry.ask) p.entry.ask f) again.asked again.held again.spent again.code_is again.client)

  -- ---- a token that a family has at some moment

  -- its row is of the family at every moment
  token_family : (past after all : List (Outer A R)) (q : Outer A R) (w : Word) (n : ℕ) (row : RefreshRow) → Answered past → HasNewWords past → past ≡ after ++ q ∷ all → WasTokenOf plain given provided past n w
      → row_of token_name w (T all) ≡ Some row → row.family ≡ n
  token_family past after all q w n row is apart parts token found =
      let L : List (Outer A R) → Type 0 = λ l. Answered l in
      let D : List (Outer A R) → Type 0 = λ l. HasNewWords l in
      let S : List (Outer A R) → Type 0 = λ l. row_of token_name w (T l) ≡ Some token.token.row in
      let then : Answered (q ∷ all) = answered_before after (q ∷ all) (subst L parts is) in
      let drawn : HasNewWords (q ∷ all) = apart_before after (q ∷ all) (subst D parts apart) in
      elim (two_parts token.later token.earlier after all q (sym token.parts ∙ parts)) [
        | inl old ↦
            (let R' : List (Outer A R) → Type 0 = λ l. row_of token_name w (T l) ≡ Some row in
            let later = tokens_stay old.0 token.earlier (subst L old.1 then.0) (subst D old.1 drawn.0) w token.token.row token.token.stands in
            ap (λ (r : RefreshRow). r.family) (some_same row later.0 (sym (subst R' old.1 found) ∙ later.1)) ∙ later.2 ∙ token.token.family)
        | inr new ↦
            (let at : Answered token.earlier = answered_before token.later token.earlier (subst L token.parts is) in
            let words : HasNewWords token.earlier = apart_before token.later token.earlier (subst D token.parts apart) in
            let one = token_stays all q then drawn w row found in
            let two = tokens_stay new.0 (q ∷ all) (subst L new.1 at) (subst D new.1 words) w one.0 one.1 in
            sym one.2 ∙ sym two.2 ∙ ap (λ (r : RefreshRow). r.family) (some_same two.0 token.token.row (sym two.1 ∙ subst S new.1 token.token.stands)) ∙ token.token.family)
      ]

  access_family_is : (past after all : List (Outer A R)) (q : Outer A R) (w : Word) (n : ℕ) (row : AccessRow) → Answered past → HasNewWords past → past ≡ after ++ q ∷ all → WasAccessOf plain given provided past n w
      → row_of access_name w (Xs all) ≡ Some row → row.family ≡ n
  access_family_is past after all q w n row is apart parts token found =
      let L : List (Outer A R) → Type 0 = λ l. Answered l in
      let D : List (Outer A R) → Type 0 = λ l. HasNewWords l in
      let then : Answered (q ∷ all) = answered_before after (q ∷ all) (subst L parts is) in
      let drawn : HasNewWords (q ∷ all) = apart_before after (q ∷ all) (subst D parts apart) in
      elim (two_parts token.later token.earlier after all q (sym token.parts ∙ parts)) [
        | inl old ↦
            (let R' : List (Outer A R) → Type 0 = λ l. row_of access_name w (Xs l) ≡ Some row in
            let later = accesses_stay old.0 token.earlier (subst L old.1 then.0) (subst D old.1 drawn.0) w token.token.row token.token.stands in
            ap (λ (r : AccessRow). r.family) (some_same row token.token.row (sym (subst R' old.1 found) ∙ later)) ∙ token.token.family)
        | inr new ↦
            (let S : List (Outer A R) → Type 0 = λ l. row_of access_name w (Xs l) ≡ Some token.token.row in
            let at : Answered token.earlier = answered_before token.later token.earlier (subst L token.parts is) in
            let words : HasNewWords token.earlier = apart_before token.later token.earlier (subst D token.parts apart) in
            let one = accesses_stay (q ∷ []) all then drawn w row found in
            let two = accesses_stay new.0 (q ∷ all) (subst L new.1 at) (subst D new.1 words) w row one in
            ap (λ (r : AccessRow). r.family) (some_same row token.token.row (sym two ∙ subst S new.1 token.token.stands)) ∙ token.token.family)
      ]

  pub no_refresh_after : (past after between before : List (Outer A R)) (p q : Outer A R) (f : FamilyRow) (w : Word) → Answered past → HasNewWords past → past ≡ after ++ q ∷ (between ++ p ∷ before)
      → EndsFamily plain given provided before p f → WasTokenOf plain given provided past f.by w → IsRefreshed q w → ⊥
  no_refresh_after past after between before p q f w is apart parts ended token refreshed =
      let L : List (Outer A R) → Type 0 = λ l. Answered l in
      let all : List (Outer A R) = between ++ p ∷ before in
      let over = over_after before p f ended in
      let stays_over = over_stays between (p ∷ before) f.by over.1 over.0 in
      let again = refreshed_row all q w (answered_before after (q ∷ all) (subst L parts is)) refreshed in
      let family : again.0.family ≡ f.by = token_family past after all q w f.by again.0 is apart parts token again.1 in
      let F : ℕ → Option FamilyRow = λ n. family_at n (Fs all) in
      let live = again.4 in
      some_none live.0 (sym (if_lives_parts q.entry.at (family_at again.0.family (Fs all)) live.0 live.1).0 ∙ ap F family ∙ stays_over.0)

  -- ---- claims

  told_claims : (o : Option FamilyRow) (claims : List ℕ) → option_map (family_info c) o ≡ Some (own.Info claims) → (f : FamilyRow) × (o ≡ Some f)
  told_claims None claims h = absurd (some_none (own.Info claims) (sym h))
  told_claims (Some f) claims h = (f, refl)

  info_asked : (past : List (Outer A R)) (at : ℕ) (fresh : List Word) (asked : RefreshAsk A) (w : Word) (o : OwnReply) → outer_plain plain asked ≡ Some (op_ask.Info (bearer.Given w)) → own_reply plain given provided c past at fresh asked ≡ Some o
      → option_map (family_info c) (access_family plain given provided past at w) ≡ Some o
  info_asked past at fresh (ask.Refresh grant) w o is h = absurd (some_none (op_ask.Info (bearer.Given w)) (sym is))
  info_asked past at fresh (ask.Through x offline) w o is h = let I : Option OpAsk → Option OwnReply = λ a. info_reply plain given provided c past at a in sym (ap I is) ∙ h

  access_lives : (past : List (Outer A R)) (at : ℕ) (row : AccessRow) (b : Bool) (f : FamilyRow) → option_and_then (λ (r : AccessRow). living plain given provided past at r.family) (cond b (Some row) None) ≡ Some f → living plain given provided past at row.family ≡ Some f
  access_lives past at row true f h = h
  access_lives past at row false f h = absurd (some_none f (sym h))

  -- the row of an access token for which claims were sent, and its family, which lives
  told_by_row : (past : List (Outer A R)) (at : ℕ) (w : Word) (o : Option AccessRow) (f : FamilyRow) → row_of access_name w (Xs past) ≡ o → access_family plain given provided past at w ≡ Some f
      → (row : AccessRow) × (o ≡ Some row) × (living plain given provided past at row.family ≡ Some f)
  told_by_row past at w o f there told =
      let Y : Option AccessRow → Option FamilyRow = λ x. option_and_then (λ (r : AccessRow). living plain given provided past at r.family) (option_and_then (if_lives access_life access_begun at) x) in
      elim (option_cases o) [
        | inl none ↦ absurd (some_none f (sym told ∙ ap Y (there ∙ none)))
        | inr some ↦ (some.0, some.1, access_lives past at some.0 _ f (sym (ap Y (there ∙ some.1)) ∙ told))
      ]

  pub no_info_after : (past after between before : List (Outer A R)) (p q : Outer A R) (f : FamilyRow) (w : Word) → Answered past → HasNewWords past → past ≡ after ++ q ∷ (between ++ p ∷ before)
      → EndsFamily plain given provided before p f → WasAccessOf plain given provided past f.by w → IsInfo plain q w → ⊥
  no_info_after past after between before p q f w is apart parts ended token info =
      let L : List (Outer A R) → Type 0 = λ l. Answered l in
      let all : List (Outer A R) = between ++ p ∷ before in
      let then : Answered (q ∷ all) = answered_before after (q ∷ all) (subst L parts is) in
      let over = over_after before p f ended in
      let stays_over = over_stays between (p ∷ before) f.by over.1 over.0 in
      let Q : RefreshReply R → Type 0 = λ r. Replied plain given provided c all q.entry r in
      let own_told = own_is given (own_reply plain given provided c all q.entry.at q.entry.fresh q.entry.ask) (begins plain given provided all q.entry) (fresh_word q.entry.fresh 1) (own.Info info.claims) (subst Q info.replied then.2) in
      let told = told_claims (access_family plain given provided all q.entry.at w) info.claims (info_asked all q.entry.at q.entry.fresh q.entry.ask w (own.Info info.claims) info.asked own_told) in
      let shown = told_by_row all q.entry.at w (row_of access_name w (Xs all)) told.0 refl told.1 in
      let family : shown.0.family ≡ f.by = access_family_is past after all q w f.by shown.0 is apart parts token shown.1 in
      let F : ℕ → Option FamilyRow = λ n. family_at n (Fs all) in
      some_none told.0 (sym (if_lives_parts q.entry.at (family_at shown.0.family (Fs all)) told.0 shown.2).0 ∙ ap F family ∙ stays_over.0)
