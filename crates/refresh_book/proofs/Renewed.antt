-- A refresh request: its reply by the book is the one of the past, and the book after it is the one of the past with its pair.
use Rattle.std.proofs.Common.{◌≡◌, ℕ, ◌+◌, nat_eq, nat_lt, Bool, true, false, not, ◌&&◌, ◌||◌, cond, List, [], ◌∷◌, length, filter, Option, Some, None, is_some, option_and_then, Result, Ok, Err, ◌⊎◌, inl, inr, refl, ap, sym, ◌∙◌, subst, arith}
use Rattle.std.proofs.lemmas.Bool.{eqb-true}
use Rattle.sso_base.specs.Words.{Word, fresh_word, word_of_text}
use Rattle.sso_base.specs.Rows.{put, row_of, lives}
use Rattle.sso_base.proofs.RowLaws.{bool_cases, option_cases, row_has_name}
use Rattle.sso_base.specs.declared.history.Pair.{Pair}
use Rattle.held_rows.proofs.RowOf.{row_of-filter}
use Rattle.oidc_words.specs.Lives.{access_life}
use Rattle.code_grant.specs.declared.rows.CodeRow.{CodeRow}
use Rattle.token_endpoint.specs.declared.error.TokenError.TheVariants.{InvalidGrant}
use Rattle.token_endpoint.specs.declared.no.GrantNo.{GrantNo}
use Rattle.token_endpoint.specs.declared.no.GrantNo.TheVariants as no
use Rattle.token_endpoint.specs.Errors.{token_error}
use Rattle.oidc_words.specs.declared.scopes.Scopes.{Scopes}
use Rattle.op_exchange.specs.declared.ask.OpAsk.{OpAsk}
use Rattle.op_exchange.specs.declared.reply.OpReply.{OpReply}
use Rattle.op_answer.specs.Past.{OpPair}
use Rattle.core_stack.proofs.Same.{some_same}
use Rattle.refresh_answer.specs.declared.asks.RefreshGrant.{RefreshGrant}
use Rattle.refresh_answer.specs.declared.asks.RefreshAsk.{RefreshAsk}
use Rattle.refresh_answer.specs.declared.asks.RefreshAsk.TheVariants as ask
use Rattle.refresh_answer.specs.declared.asks.OwnReply.{OwnReply}
use Rattle.refresh_answer.specs.declared.asks.OwnReply.TheVariants as own
use Rattle.refresh_answer.specs.declared.asks.RefreshReply.{RefreshReply}
use Rattle.refresh_answer.specs.declared.asks.RefreshReply.TheVariants.{Own}
use Rattle.refresh_answer.specs.declared.rows.FamilyRow.{FamilyRow}
use Rattle.refresh_answer.specs.declared.rows.RefreshRow.{RefreshRow}
use Rattle.refresh_answer.specs.declared.rows.AccessRow.{AccessRow}
use Rattle.refresh_answer.specs.Rows.{token_name, access_name, new_token, old_token}
use Rattle.refresh_answer.specs.Around.{Outer}
use Rattle.refresh_answer.specs.Families.{family_at, is_replay, is_code_replay, has_room, held_in, living_in, families, tokens, row_presented, ends, code_presented, token_made, token_retired, access_made}
use Rattle.refresh_answer.specs.Answering.{rotated, refreshed_by, refreshed, refresh_reply}
use Rattle.refresh_answer.proofs.Families.{some_none, true_false, other_number, numbered_filter}
use Rattle.refresh_answer.proofs.Current.{numbered}
use Rattle.refresh_rows.specs.Booked.{Booked, is_of_place}
use Rattle.refresh_rows.proofs.Keys.{number_same}
use Rattle.refresh_rows.proofs.Lists.{filter_same}
use Rattle.refresh_book.specs.declared.renewing.Renewal.{Renewal}
use Rattle.refresh_book.specs.declared.renewing.Renewal.TheVariants as renewed
use Rattle.refresh_book.specs.Keeps.{IsBookAt, is_refresh_ask}
use Rattle.refresh_book.specs.Renewing.{reply_of, rotation, of_family, of_current, renewal_of, refusal, renewal_for, renewal_asked, MayNote, Noted, AreRows, tokens_left, accesses_left}
use Rattle.refresh_book.proofs.Booking.{filter_none, tokens_distinct, living_found, all_left, IsAfter, none_living, book_after}

number_swap : (a b : ℕ) → nat_eq a b ≡ nat_eq b a
number_swap a b =
    elim (bool_cases (nat_eq a b)) [
      | inl e ↦ e ∙ sym (number_same b a (sym (eqb-true a b e)))
      | inr e ↦ e ∙ sym (other_number b a (λ same. true_false (sym (number_same a b (sym same)) ∙ e)))
    ]

-- ---- replies

reply_rotation : (ts : List RefreshRow) (fresh : List Word) (row : RefreshRow) (f : FamilyRow) → reply_of (rotation ts fresh row f) ≡ rotated ts fresh f
reply_rotation ts fresh row f =
    let a : Word = fresh_word fresh 0 in
    let v : Word = fresh_word fresh 1 in
    let C : Bool → OwnReply = λ b. reply_of (cond b (renewed.Rotated row a v f.scopes) renewed.Full) in
    let D : Bool → OwnReply = λ b. cond b (own.Refreshed a v f.scopes) own.Full in
    elim (bool_cases (has_room ts v)) [ inl e ↦ ap C e ∙ sym (ap D e) | inr e ↦ ap C e ∙ sym (ap D e) ]

reply_family : (ts : List RefreshRow) (fresh : List Word) (g : RefreshGrant) (row : RefreshRow) (o : Option FamilyRow) → row.current ≡ true → reply_of (of_family ts fresh g.client row o) ≡ refreshed_by ts fresh g row o
reply_family ts fresh g row None current = refl
reply_family ts fresh g row (Some f) current =
    let C : Bool → OwnReply = λ b. reply_of (cond b (rotation ts fresh row f) (renewed.Refused InvalidGrant)) in
    let D : Bool → Bool → OwnReply = λ b c. cond (b && c) (rotated ts fresh f) (own.Refused InvalidGrant) in
    elim (bool_cases (nat_eq g.client f.client)) [
      | inl e ↦ ap C (number_swap f.client g.client ∙ e) ∙ reply_rotation ts fresh row f ∙ sym (ap (λ b. D b row.current) e ∙ ap (λ c. D true c) current)
      | inr e ↦ ap C (number_swap f.client g.client ∙ e) ∙ sym (ap (λ b. D b row.current) e)
    ]

and_never : (a : Bool) → (a && false) ≡ false
and_never true = refl
and_never false = refl

old_refused : (ts : List RefreshRow) (fresh : List Word) (g : RefreshGrant) (row : RefreshRow) (o : Option FamilyRow) → row.current ≡ false → refreshed_by ts fresh g row o ≡ own.Refused InvalidGrant
old_refused ts fresh g row None old = refl
old_refused ts fresh g row (Some f) old =
    let D : Bool → OwnReply = λ b. cond b (rotated ts fresh f) (own.Refused InvalidGrant) in
    let A : Bool → Bool = λ c. nat_eq g.client f.client && c in
    ap D (ap A old ∙ and_never (nat_eq g.client f.client))

-- ---- what is left

-- none of the families is of the place
place_gone : (n : ℕ) (k : FamilyRow → Bool) → ((f : FamilyRow) → nat_eq f.by n ≡ false → k f ≡ true) → (l : List FamilyRow) → family_at n l ≡ None → filter k l ≡ l
place_gone n k good [] none = refl
place_gone n k good (g ∷ gs) none =
    let F : Bool → Option FamilyRow = λ b. cond b (Some g) (family_at n gs) in
    let K : Bool → List FamilyRow = λ b. cond b (g ∷ filter k gs) (filter k gs) in
    let push : List FamilyRow → List FamilyRow = λ l. g ∷ l in
    elim (bool_cases (nat_eq g.by n)) [
      | inl e ↦ absurd (some_none g (sym (ap F e) ∙ none))
      | inr e ↦ ap K (good g e) ∙ ap push (place_gone n k good gs (sym (ap F e) ∙ none))
    ]

no_code : (o : Option CodeRow) (f : FamilyRow) → is_code_replay o None f ≡ false
no_code None f = refl
no_code (Some code) f = refl

second_false : (a b c : Bool) → b ≡ false → (a && b && c) ≡ false
second_false true true c h = absurd (true_false h)
second_false true false c h = refl
second_false false b c h = refl

not_either : (a b : Bool) → a ≡ false → b ≡ false → not (a || b) ≡ true
not_either true b h k = absurd (true_false h)
not_either false true h k = absurd (true_false k)
not_either false false h k = refl

or_false : (x : Bool) → not (x || false) ≡ not x
or_false true = refl
or_false false = refl

module _ {A R : Type 0} (plain : A → Option OpAsk) (given : R → Option OpReply) (provided : List (Pair A R) → List OpPair) (past : List (Outer A R)) (at : ℕ) (fresh : List Word) (b d : Booked) (held : IsBookAt plain given provided past at b) where
  abbrev Fs : List FamilyRow
  Fs = families plain given provided past

  abbrev Ts : List RefreshRow
  Ts = tokens plain given provided past

  abbrev of_request : Result RefreshGrant GrantNo → RefreshAsk A
  of_request grant = ask.Refresh grant

  abbrev by_itself : OwnReply → RefreshReply R
  by_itself r = Own r

  -- the token of a word in the past, and in the book
  abbrev Found : Option RefreshRow → Option RefreshRow → Type 0
  Found r s =
      ((r ≡ None) × (s ≡ None))
      ⊎ (((t : RefreshRow) × (r ≡ Some t) × (living_in Fs at t.family ≡ None) × (s ≡ None))
      ⊎ ((t : RefreshRow) × (r ≡ Some t) × (s ≡ Some t) × ((f : FamilyRow) × (living_in Fs at t.family ≡ Some f))))

  found_by : (w : Word) → row_of token_name w b.tokens ≡ option_and_then (λ (r : RefreshRow). cond (is_some (living_in Fs at r.family)) (Some r) None) (row_of token_name w Ts)
  found_by w =
      let W : List RefreshRow → Option RefreshRow = λ l. row_of token_name w l in
      ap W held.tokens_are ∙ row_of-filter token_name (λ (r : RefreshRow). is_some (living_in Fs at r.family)) w Ts (tokens_distinct plain given provided past)

  found : (o : Option Word) → Found (option_and_then (λ w. row_of token_name w Ts) o) (option_and_then (λ w. row_of token_name w b.tokens) o)
  found None = inl (refl, refl)
  found (Some w) =
      let O : Option RefreshRow → Option RefreshRow = λ o. option_and_then (λ (r : RefreshRow). cond (is_some (living_in Fs at r.family)) (Some r) None) o in
      elim (option_cases (row_of token_name w Ts)) [
        | inl none ↦ inl (none, found_by w ∙ ap O none)
        | inr some ↦
            (let C : Option FamilyRow → Option RefreshRow = λ f. cond (is_some f) (Some some.0) None in
            elim (option_cases (living_in Fs at some.0.family)) [
              | inl over ↦ inr (inl (some.0, some.1, over, found_by w ∙ ap O some.1 ∙ ap C over))
              | inr live ↦ inr (inr (some.0, some.1, found_by w ∙ ap O some.1 ∙ ap C live.1, live))
            ])
      ]

  family_found : (n : ℕ) → family_at n b.families ≡ living_in Fs at n
  family_found n = let W : List FamilyRow → Option FamilyRow = λ l. family_at n l in ap W held.families_are ∙ living_found at n (length past) Fs (numbered plain given provided past)

  -- ---- the reply

  reply_found : (g : RefreshGrant) (r s : Option RefreshRow) → Found r s → reply_of (renewal_of b fresh g.client s) ≡ refreshed plain given provided past at fresh g r
  reply_found g r s (inl none) =
      let S : Option RefreshRow → OwnReply = λ o. reply_of (renewal_of b fresh g.client o) in
      let Q : Option RefreshRow → OwnReply = λ o. refreshed plain given provided past at fresh g o in
      ap S none.1 ∙ sym (ap Q none.0)
  reply_found g r s (inr (inl over)) =
      let S : Option RefreshRow → OwnReply = λ o. reply_of (renewal_of b fresh g.client o) in
      let Q : Option RefreshRow → OwnReply = λ o. refreshed plain given provided past at fresh g o in
      let L : Option FamilyRow → OwnReply = λ o. refreshed_by (held_in Fs at Ts) fresh g over.0 o in
      ap S over.3 ∙ sym (ap Q over.1 ∙ ap L over.2)
  reply_found g r s (inr (inr live)) =
      let t : RefreshRow = live.0 in
      let S : Option RefreshRow → OwnReply = λ o. reply_of (renewal_of b fresh g.client o) in
      let Q : Option RefreshRow → OwnReply = λ o. refreshed plain given provided past at fresh g o in
      let C : Bool → OwnReply = λ x. reply_of (cond x (of_current b fresh g.client t) (renewed.Reused t.family g.client)) in
      let O : Option FamilyRow → OwnReply = λ o. refreshed_by b.tokens fresh g t o in
      let K : List RefreshRow → OwnReply = λ l. refreshed_by l fresh g t (living_in Fs at t.family) in
      elim (bool_cases t.current) [
        | inl current ↦ ap S live.2 ∙ ap C current ∙ reply_family b.tokens fresh g t (family_at t.family b.families) current ∙ ap O (family_found t.family) ∙ ap K held.tokens_are ∙ sym (ap Q live.1)
        | inr old ↦ ap S live.2 ∙ ap C old ∙ sym (ap Q live.1 ∙ old_refused (held_in Fs at Ts) fresh g t (living_in Fs at t.family) old)
      ]

  pub reply_renewed : (grant : Result RefreshGrant GrantNo) → reply_of (renewal_asked b fresh (of_request grant)) ≡ refresh_reply plain given provided past at fresh grant
  reply_renewed (Ok g) = reply_found g _ _ (found (word_of_text g.token))
  reply_renewed (Err no.NoMemory) = refl
  reply_renewed (Err other) = refl

  -- ---- the book after it

  abbrev Kept : (FamilyRow → Bool) → OwnReply → Option RefreshRow → Type 0
  Kept k r row = IsAfter plain given provided past at k (token_made (length past) row (by_itself r)) (token_retired row (by_itself r)) (access_made at row (by_itself r)) d

  -- a renewal that changes nothing, where all families pass
  unchanged : (k : FamilyRow → Bool) → filter k b.families ≡ b.families → AreRows d b.families b.tokens b.accesses b.last → IsAfter plain given provided past at k None None None d
  unchanged k same rows =
      let left = all_left plain given provided past at b held in
      let T : List FamilyRow → List RefreshRow = λ l. tokens_left l b.tokens in
      let X : List FamilyRow → List AccessRow = λ l. accesses_left l b.accesses in
      book_after plain given provided past at b d k None None None (numbered_filter k (length past) Fs (numbered plain given provided past)) held (none_living plain given provided past at k)
      (rows.families ∙ sym same) (rows.tokens ∙ sym (ap T rows.families ∙ left.0)) (rows.accesses ∙ sym (ap X rows.families ∙ left.1)) (rows.last_is ∙ held.last_is)

  abbrev row_of_rotation : Renewal → RefreshRow → RefreshRow
  row_of_rotation (renewed.Rotated row a v s) t = row
  row_of_rotation other t = t

  -- the row of a rotation is that of the token
  rotated_row : (client : ℕ) (t : RefreshRow) (o : Option FamilyRow) → row_of_rotation (of_family b.tokens fresh client t o) t ≡ t
  rotated_row client t None = refl
  rotated_row client t (Some f) =
      let C : Bool → RefreshRow = λ x. row_of_rotation (cond x (rotation b.tokens fresh t f) (renewed.Refused InvalidGrant)) t in
      let D : Bool → RefreshRow = λ x. row_of_rotation (cond x (renewed.Rotated t (fresh_word fresh 0) (fresh_word fresh 1) f.scopes) renewed.Full) t in
      elim (bool_cases (nat_eq f.client client)) [
        | inl e ↦ ap C e ∙ elim (bool_cases (has_room b.tokens (fresh_word fresh 1))) [ inl h ↦ ap D h | inr h ↦ ap D h ]
        | inr e ↦ ap C e
      ]

  abbrev is_reused : Renewal → Bool
  is_reused (renewed.Reused n client) = true
  is_reused other = false

  not_reused : (client : ℕ) (t : RefreshRow) (o : Option FamilyRow) → is_reused (of_family b.tokens fresh client t o) ≡ false
  not_reused client t None = refl
  not_reused client t (Some f) =
      let C : Bool → Bool = λ x. is_reused (cond x (rotation b.tokens fresh t f) (renewed.Refused InvalidGrant)) in
      let D : Bool → Bool = λ x. is_reused (cond x (renewed.Rotated t (fresh_word fresh 0) (fresh_word fresh 1) f.scopes) renewed.Full) in
      elim (bool_cases (nat_eq f.client client)) [
        | inl e ↦ ap C e ∙ elim (bool_cases (has_room b.tokens (fresh_word fresh 1))) [ inl h ↦ ap D h | inr h ↦ ap D h ]
        | inr e ↦ ap C e
      ]

  late : (n : ℕ) → nat_lt n (n + access_life) ≡ true
  late n = grind arith

  -- new tokens for a current token of a family that lives
  after_rotation : (k : FamilyRow → Bool) (t : RefreshRow) (a v : Word) (s : Scopes) → filter k b.families ≡ b.families → filter k Fs ≡ Fs → ((f : FamilyRow) × (living_in Fs at t.family ≡ Some f)) → Noted b d (renewed.Rotated t a v s)
      → Kept k (own.Refreshed a v s) (Some t)
  after_rotation k t a v s same all live rows =
      let left = all_left plain given provided past at b held in
      let x : AccessRow = record { word = a; family = t.family; issued = at } in
      let P : List RefreshRow → List RefreshRow = λ l. put token_name (Some (new_token t.family v)) (put token_name (Some (old_token t)) l) in
      let Q : List AccessRow → List AccessRow = λ l. put access_name (Some x) l in
      let T : List FamilyRow → List RefreshRow = λ l. tokens_left l b.tokens in
      let X : List FamilyRow → List AccessRow = λ l. accesses_left l b.accesses in
      let I : ℕ → List AccessRow = λ n. put access_name (Some (record { word = a; family = t.family; issued = n })) b.accesses in
      let L : List FamilyRow → Bool = λ l. is_some (living_in l at t.family) in
      let S : Option FamilyRow → Bool = λ o. is_some o in
      let lives_still : is_some (living_in (filter k Fs) at t.family) ≡ true = ap L all ∙ ap S live.1 in
      let G : ℕ → Bool = λ n. is_some (living_in (filter k Fs) at n) in
      let E : ℕ → Bool = λ n. lives access_life n at in
      book_after plain given provided past at b d k (Some (new_token t.family v)) (Some (old_token t)) (Some x) (numbered_filter k (length past) Fs (numbered plain given provided past)) held
      (record {
        new = λ y h. ap (λ (r : RefreshRow). G r.family) (sym (some_same (new_token t.family v) y h)) ∙ lives_still;
        old = λ y h. ap (λ (r : RefreshRow). G r.family) (sym (some_same (old_token t) y h)) ∙ lives_still;
        told = λ y h. ap (λ (r : AccessRow). G r.family) (sym (some_same x y h)) ∙ lives_still;
        fresh = λ y h. ap (λ (r : AccessRow). E r.issued) (sym (some_same x y h)) ∙ late at;
      })
      (rows.families ∙ sym same) (rows.tokens ∙ ap P (sym (ap T rows.families ∙ left.0))) (rows.accesses ∙ ap I held.last_is ∙ ap Q (sym (ap X rows.families ∙ left.1))) (rows.last_is ∙ held.last_is)

  module _ (g : RefreshGrant) (code : Option CodeRow) where
    abbrev asked : RefreshAsk A
    asked = ask.Refresh (Ok g)

    abbrev k_of : Option RefreshRow → FamilyRow → Bool
    k_of r f = not (is_replay r asked f || is_code_replay code None f)

    abbrev After : Option RefreshRow → Option RefreshRow → Type 0
    After r s = Noted b d (renewal_of b fresh g.client s) → Kept (k_of r) (reply_of (renewal_of b fresh g.client s)) r

    after_none : After None None
    after_none rows =
        let each : (f : FamilyRow) → k_of None f ≡ true = λ f. not_either false (is_code_replay code None f) refl (no_code code f) in
        unchanged (k_of None) (filter_none (k_of None) each b.families) rows

    after_over : (t : RefreshRow) → living_in Fs at t.family ≡ None → After (Some t) None
    after_over t over rows =
        let each : (f : FamilyRow) → nat_eq f.by t.family ≡ false → k_of (Some t) f ≡ true =
        λ f other. not_either _ _ (second_false (not t.current) (nat_eq t.family f.by) (nat_eq g.client f.client) (number_swap t.family f.by ∙ other)) (no_code code f) in
        unchanged (k_of (Some t)) (place_gone t.family (k_of (Some t)) each b.families (family_found t.family ∙ over)) rows

    unchanged_by : (t : RefreshRow) → t.current ≡ true → AreRows d b.families b.tokens b.accesses b.last → IsAfter plain given provided past at (k_of (Some t)) None None None d
    unchanged_by t current rows =
        let each : (f : FamilyRow) → k_of (Some t) f ≡ true =
        λ f. not_either _ _ (let B : Bool → Bool = λ x. not x && nat_eq t.family f.by && nat_eq g.client f.client in ap B current) (no_code code f) in
        unchanged (k_of (Some t)) (filter_none (k_of (Some t)) each b.families) rows

    -- an old token ends its family, if it is its client's
    after_reuse : (t : RefreshRow) → t.current ≡ false → Noted b d (renewed.Reused t.family g.client) → Kept (k_of (Some t)) (own.Refused InvalidGrant) (Some t)
    after_reuse t old rows =
        let B : Bool → FamilyRow → Bool = λ x f. not ((not x && nat_eq t.family f.by && nat_eq g.client f.client) || is_code_replay code None f) in
        let C : FamilyRow → Bool → Bool = λ f x. not (is_of_place t.family g.client f || x) in
        let plainly : (x : Bool) → not (x || false) ≡ not x = or_false in
        let each : (f : FamilyRow) → not (is_of_place t.family g.client f) ≡ k_of (Some t) f =
        λ f. sym (ap (λ x. B x f) old ∙ ap (C f) (no_code code f) ∙ plainly (is_of_place t.family g.client f)) in
        book_after plain given provided past at b d (k_of (Some t)) None None None (numbered_filter (k_of (Some t)) (length past) Fs (numbered plain given provided past)) held
        (none_living plain given provided past at (k_of (Some t)))
        (rows.families ∙ filter_same (λ f. not (is_of_place t.family g.client f)) (k_of (Some t)) each b.families) rows.tokens rows.accesses (rows.last_is ∙ held.last_is)

    -- by the renewal of a current token
    after_current : (t : RefreshRow) → t.current ≡ true → ((f : FamilyRow) × (living_in Fs at t.family ≡ Some f)) → (w : Renewal) → row_of_rotation w t ≡ t → is_reused w ≡ false → Noted b d w → Kept (k_of (Some t)) (reply_of w) (Some t)
    after_current t current live (renewed.Rotated row a v s) row_is other rows =
        let each : (f : FamilyRow) → k_of (Some t) f ≡ true =
        λ f. not_either _ _ (let B : Bool → Bool = λ x. not x && nat_eq t.family f.by && nat_eq g.client f.client in ap B current) (no_code code f) in
        let N : RefreshRow → Type 0 = λ r. Noted b d (renewed.Rotated r a v s) in
        after_rotation (k_of (Some t)) t a v s (filter_none (k_of (Some t)) each b.families) (filter_none (k_of (Some t)) each Fs) live (subst N row_is rows)
    after_current t current live (renewed.Reused n client) row_is other rows = absurd (true_false other)
    after_current t current live renewed.Unread row_is other rows = unchanged_by t current rows
    after_current t current live (renewed.Refused e) row_is other rows = unchanged_by t current rows
    after_current t current live renewed.Full row_is other rows = unchanged_by t current rows

    after_live : (t : RefreshRow) → ((f : FamilyRow) × (living_in Fs at t.family ≡ Some f)) → After (Some t) (Some t)
    after_live t live rows =
        let W : Bool → Renewal = λ x. cond x (of_current b fresh g.client t) (renewed.Reused t.family g.client) in
        let N : Renewal → Type 0 = λ w. Noted b d w in
        let K : Renewal → Type 0 = λ w. Kept (k_of (Some t)) (reply_of w) (Some t) in
        elim (bool_cases t.current) [
          | inl current ↦
              subst K (sym (ap W current))
              (after_current t current live (of_current b fresh g.client t) (rotated_row g.client t (family_at t.family b.families)) (not_reused g.client t (family_at t.family b.families)) (subst N (ap W current) rows))
          | inr old ↦ subst K (sym (ap W old)) (after_reuse t old (subst N (ap W old) rows))
        ]

    after_found : (r s : Option RefreshRow) → Found r s → After r s
    after_found r s (inl none) =
        let U : Option RefreshRow → Type 0 = λ o. After o s in
        let V : Option RefreshRow → Type 0 = λ o. After None o in
        subst U (sym none.0) (subst V (sym none.1) after_none)
    after_found r s (inr (inl over)) =
        let U : Option RefreshRow → Type 0 = λ o. After o s in
        let V : Option RefreshRow → Type 0 = λ o. After (Some over.0) o in
        subst U (sym over.1) (subst V (sym over.3) (after_over over.0 over.2))
    after_found r s (inr (inr live)) =
        let U : Option RefreshRow → Type 0 = λ o. After o s in
        let V : Option RefreshRow → Type 0 = λ o. After (Some live.0) o in
        subst U (sym live.1) (subst V (sym live.2) (after_live live.0 live.3))

  -- ---- what a rotation needs

  may_rotate : (client : ℕ) (t : RefreshRow) (o : Option FamilyRow) → row_of token_name t.word b.tokens ≡ Some t → MayNote b (of_family b.tokens fresh client t o)
  may_rotate client t None there = tt
  may_rotate client t (Some f) there =
      let C : Bool → Type 0 = λ x. MayNote b (cond x (rotation b.tokens fresh t f) (renewed.Refused InvalidGrant)) in
      let D : Bool → Type 0 = λ x. MayNote b (cond x (renewed.Rotated t (fresh_word fresh 0) (fresh_word fresh 1) f.scopes) renewed.Full) in
      elim (bool_cases (nat_eq f.client client)) [
        | inl e ↦ subst C (sym e) (elim (bool_cases (has_room b.tokens (fresh_word fresh 1))) [ inl h ↦ subst D (sym h) (there, h) | inr h ↦ subst D (sym h) tt ])
        | inr e ↦ subst C (sym e) tt
      ]

  may_renew : (client : ℕ) (o : Option Word) → MayNote b (renewal_of b fresh client (option_and_then (λ w. row_of token_name w b.tokens) o))
  may_renew client None = tt
  may_renew client (Some w) =
      let M : Option RefreshRow → Type 0 = λ r. MayNote b (renewal_of b fresh client r) in
      elim (option_cases (row_of token_name w b.tokens)) [
        | inl none ↦ subst M (sym none) tt
        | inr some ↦
            (let t : RefreshRow = some.0 in
            let W : Word → Option RefreshRow = λ v. row_of token_name v b.tokens in
            let there : row_of token_name t.word b.tokens ≡ Some t = ap W (row_has_name token_name w b.tokens t some.1) ∙ some.1 in
            let B : Bool → Type 0 = λ x. MayNote b (cond x (of_current b fresh client t) (renewed.Reused t.family client)) in
            subst M (sym some.1) (elim (bool_cases t.current) [
              | inl current ↦ subst B (sym current) (may_rotate client t (family_at t.family b.families) there)
              | inr old ↦ subst B (sym old) tt
            ]))
      ]

  refusal_may : (e : GrantNo) → MayNote b (refusal e)
  refusal_may no.NoMemory = tt
  refusal_may other = tt

  pub may_note : (asked : RefreshAsk A) → MayNote b (renewal_asked b fresh asked)
  may_note (ask.Through a o) = tt
  may_note (ask.Refresh (Err e)) = refusal_may e
  may_note (ask.Refresh (Ok g)) = may_renew g.client (word_of_text g.token)

  -- ---- the book of the past with the pair

  abbrev pair_of : RefreshAsk A → Outer A R
  pair_of asked = record { entry = record { at = at; fresh = fresh; ask = asked }; reply = Own (reply_of (renewal_asked b fresh asked)) }

  book_of : (request : RefreshAsk A) (r : OwnReply)
      → IsAfter plain given provided past at (λ f. not (ends plain given provided past at request f)) (token_made (length past) (row_presented Ts request) (by_itself r)) (token_retired (row_presented Ts request) (by_itself r)) (access_made at (row_presented Ts request) (by_itself r)) d
      → IsBookAt plain given provided (record { entry = record { at = at; fresh = fresh; ask = request }; reply = Own r } ∷ past) at d
  book_of request r after = record { families_are = after.families_are; tokens_are = after.tokens_are; accesses_are = after.accesses_are; last_is = after.last_is }

  each_err : (e : GrantNo) (f : FamilyRow) → not (ends plain given provided past at (ask.Refresh (Err e)) f) ≡ true
  each_err e f = not_either false (is_code_replay (code_presented plain given provided past at (of_request (Err e))) None f) refl (no_code (code_presented plain given provided past at (of_request (Err e))) f)

  err_after : (e : GrantNo) → AreRows d b.families b.tokens b.accesses b.last → IsAfter plain given provided past at (λ f. not (ends plain given provided past at (ask.Refresh (Err e)) f)) None None None d
  err_after e rows = unchanged (λ f. not (ends plain given provided past at (ask.Refresh (Err e)) f)) (filter_none (λ f. not (ends plain given provided past at (ask.Refresh (Err e)) f)) (each_err e) b.families) rows

  refusal_after : (e : GrantNo) → Noted b d (refusal e) → IsBookAt plain given provided (record { entry = record { at = at; fresh = fresh; ask = ask.Refresh (Err e) }; reply = Own (reply_of (refusal e)) } ∷ past) at d
  refusal_after no.NoMemory rows = book_of (ask.Refresh (Err no.NoMemory)) own.NotHere (err_after no.NoMemory rows)
  refusal_after other rows = book_of (ask.Refresh (Err other)) (own.Refused (token_error other)) (err_after other rows)

  pub renewed_book : (asked : RefreshAsk A) → is_refresh_ask asked ≡ true → Noted b d (renewal_asked b fresh asked) → IsBookAt plain given provided (pair_of asked ∷ past) at d
  renewed_book (ask.Through a o) is rows = absurd (true_false (sym is))
  renewed_book (ask.Refresh (Err e)) is rows = refusal_after e rows
  renewed_book (ask.Refresh (Ok g)) is rows =
      book_of (ask.Refresh (Ok g)) (reply_of (renewal_for b fresh g))
      (after_found g (code_presented plain given provided past at (of_request (Ok g))) _ _ (found (word_of_text g.token)) rows)
