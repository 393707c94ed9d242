-- The book after an entry that was passed on, and after a UserInfo request that the core answered.
use Rattle.std.proofs.Common.{◌≡◌, ◌<◌, ◌+◌, ℕ, suc, nat_eq, nat_lt, Bool, true, false, not, ◌&&◌, ◌||◌, cond, List, [], ◌∷◌, ◌++◌, length, filter, Option, Some, None, is_some, option_and_then, option_map, inl, inr, refl, ap, sym, ◌∙◌, subst, arith}
use Rattle.std.specs.List.{list_all}
use Rattle.std.specs.Str.{bytes_eq}
use Rattle.std.proofs.lemmas.Bool.{and_parts, and_from, ltb-true, lt-ltb}
use Rattle.sso_base.specs.Words.{Word, fresh_word}
use Rattle.sso_base.specs.Rows.{put, row_of, lives, if_lives, live_rows}
use Rattle.sso_base.specs.Stands.{IsDistinct}
use Rattle.sso_base.proofs.RowLaws.{bool_cases, bytes_same, bytes_true}
use Rattle.sso_base.specs.declared.history.Pair.{Pair}
use Rattle.oidc_words.specs.Lives.{access_life, family_life}
use Rattle.code_grant.specs.declared.rows.CodeRow.{CodeRow}
use Rattle.op_exchange.specs.declared.ask.OpAsk.{OpAsk}
use Rattle.op_exchange.specs.declared.ask.OpAsk.TheVariants as op_ask
use Rattle.op_exchange.specs.declared.reply.OpReply.{OpReply}
use Rattle.op_exchange.specs.declared.reply.OpReply.TheVariants as op_reply
use Rattle.op_answer.specs.Past.{OpPair}
use Rattle.client_registry.specs.Configuration.{Configuration}
use Rattle.claim_set.specs.Reading.{claims_text}
use Rattle.userinfo.specs.Held.{info_members}
use Rattle.userinfo.specs.declared.header.Bearer.{Bearer}
use Rattle.userinfo.specs.declared.header.Bearer.TheVariants as bearers
use Rattle.core_stack.proofs.Same.{some_same}
use Rattle.refresh_answer.specs.declared.asks.RefreshAsk.{RefreshAsk}
use Rattle.refresh_answer.specs.declared.asks.RefreshAsk.TheVariants as ask
use Rattle.refresh_answer.specs.declared.asks.OwnReply.{OwnReply}
use Rattle.refresh_answer.specs.declared.asks.OwnReply.TheVariants as own
use Rattle.refresh_answer.specs.declared.asks.RefreshReply.{RefreshReply}
use Rattle.refresh_answer.specs.declared.asks.RefreshReply.TheVariants.{Through, First, Own}
use Rattle.refresh_answer.specs.declared.rows.FamilyRow.{FamilyRow}
use Rattle.refresh_answer.specs.declared.rows.RefreshRow.{RefreshRow}
use Rattle.refresh_answer.specs.declared.rows.AccessRow.{AccessRow}
use Rattle.refresh_answer.specs.Rows.{family_begun, token_name, access_name, access_begun, new_token}
use Rattle.refresh_answer.specs.Around.{Outer, reply_around, outer_plain}
use Rattle.refresh_answer.specs.Families.{family_at, is_replay, is_code_replay, token_code, if_true, family_for, begun_by, appended, living_in, held_in, has_room, families, tokens, accesses, code_offline, code_presented, access_family, ends, begins, row_presented, token_made, token_retired, access_made}
use Rattle.refresh_answer.specs.Answering.{with_first, family_info, info_reply}
use Rattle.refresh_answer.proofs.Families.{some_none, true_false, other_number, AreNumbered, numbered_filter, found_append, one_more, put_found}
use Rattle.refresh_answer.proofs.Steps.{presented_row}
use Rattle.refresh_answer.proofs.Current.{numbered, places}
use Rattle.refresh_rows.specs.Booked.{Booked}
use Rattle.refresh_rows.proofs.Keys.{number_same}
use Rattle.refresh_rows.proofs.Lists.{filter_same}
use Rattle.refresh_book.specs.declared.beginning.Spent.{Spent}
use Rattle.refresh_book.specs.Keeps.{IsBookAt, code_held}
use Rattle.refresh_book.specs.Renewing.{tokens_left, accesses_left}
use Rattle.refresh_book.specs.Beginning.{is_spent, gives_tokens, first_of, token_of, family_asked}
use Rattle.refresh_book.proofs.Booking.{filter_none, filter_put, filter_pushed, tokens_distinct, accesses_distinct, IsAfter, none_living, book_after}

-- ---- rows of earlier families

-- what is so of each row that is found is so of all
all_found : {X : Type 0} (name : X → Word) (k : X → Bool) (l : List X) → IsDistinct name l → ((w : Word) (x : X) → row_of name w l ≡ Some x → k x ≡ true) → list_all k l ≡ true
all_found name k [] distinct each = refl
all_found {X} name k (x ∷ xs) distinct each =
    let F : Bool → Option X = λ b. cond b (Some x) (row_of name (name x) xs) in
    let V : Word → Option X = λ v. row_of name v xs in
    and_from (k x) (list_all k xs) (each (name x) x (ap F (bytes_true (name x) (name x) refl)))
    (all_found name k xs distinct.1 (λ w y there.
    (let G : Bool → Option X = λ b. cond b (Some x) (row_of name w xs) in
    each w y (elim (bool_cases (bytes_eq (name x) w)) [
      | inl e ↦ absurd (some_none y (sym there ∙ ap V (sym (bytes_same (name x) w e)) ∙ distinct.0))
      | inr e ↦ ap G e ∙ there
    ]))))

-- tests that agree on all rows
filter_agree : {X : Type 0} (low p q : X → Bool) → ((x : X) → low x ≡ true → p x ≡ q x) → (l : List X) → list_all low l ≡ true → filter p l ≡ filter q l
filter_agree low p q same [] all = refl
filter_agree {X} low p q same (x ∷ xs) all =
    let both = and_parts (low x) (list_all low xs) all in
    let K : Bool → List X = λ b. cond b (x ∷ filter p xs) (filter p xs) in
    let L : List X → List X = λ r. cond (q x) (x ∷ r) r in
    ap K (same x both.0) ∙ ap L (filter_agree low p q same xs both.1)

access_of_presented : {R : Type 0} (at : ℕ) (o : Option RefreshRow) (reply : RefreshReply R) (x : AccessRow) → access_made at o reply ≡ Some x → (t : RefreshRow) × (o ≡ Some t) × (x.family ≡ t.family)
access_of_presented at (Some t) (Own (own.Refreshed a v s)) x h =
    let made : AccessRow = record { word = a; family = t.family; issued = at } in
    (t, refl, sym (ap (λ (y : AccessRow). y.family) (some_same made x h)))
access_of_presented at None (Own (own.Refreshed a v s)) x h = absurd (some_none x (sym h))
access_of_presented at o (Own other) x h = absurd (some_none x (sym h))
access_of_presented at o (First r v) x h = absurd (some_none x (sym h))
access_of_presented at o (Through r) x h = absurd (some_none x (sym h))

-- ---- which families end

no_replay : {A : Type 0} (o : Option RefreshRow) (a : A) (offline : Bool) (f : FamilyRow) → is_replay o (ask.Through a offline) f ≡ false
no_replay None a offline f = refl
no_replay (Some row) a offline f = refl

info_code : (o : Option CodeRow) (bearer : Bearer) (f : FamilyRow) → is_code_replay o (Some (op_ask.Info bearer)) f ≡ false
info_code None bearer f = refl
info_code (Some code) bearer f = refl

not_either : (a b : Bool) → a ≡ false → b ≡ false → not (a || b) ≡ true
not_either true b h k = absurd (true_false h)
not_either false true h k = absurd (true_false k)
not_either false false h k = refl

not_same : (a b : Bool) → a ≡ b → not a ≡ not b
not_same a b h = ap (λ x. not x) h

or_left : (a b : Bool) → a ≡ false → (a || b) ≡ b
or_left true b h = absurd (true_false h)
or_left false b h = refl

late_family : (n : ℕ) → nat_lt n (n + family_life) ≡ true
late_family n = grind arith

differ : (b m : ℕ) → b < m → m ≡ b → ⊥
differ b m l e = omega (arith, l, e)

-- no family has the next number
pub none_at : (n : ℕ) (fs : List FamilyRow) → AreNumbered n fs → family_at n fs ≡ None
none_at n [] is = refl
none_at n (g ∷ gs) is =
    let F : Bool → Option FamilyRow = λ b. cond b (Some g) (family_at n gs) in
    ap F (other_number g.by n (λ same. differ g.by n is.1 (sym same))) ∙ none_at n gs is.0

found_new : (fs : List FamilyRow) (f : FamilyRow) → family_at f.by fs ≡ None → family_at f.by (fs ++ f ∷ []) ≡ Some f
found_new [] f none = (let F : Bool → Option FamilyRow = λ b. cond b (Some f) None in ap F (number_same f.by f.by refl))
found_new (g ∷ gs) f none =
    let F : Bool → Option FamilyRow = λ b. cond b (Some g) (family_at f.by gs) in
    let G : Bool → Option FamilyRow = λ b. cond b (Some g) (family_at f.by (gs ++ f ∷ [])) in
    elim (bool_cases (nat_eq g.by f.by)) [
      | inl e ↦ absurd (some_none g (sym (ap F e) ∙ none))
      | inr e ↦ ap G e ∙ found_new gs f (sym (ap F e) ∙ none)
    ]

not_low : (a n : ℕ) → nat_lt a n ≡ true → n ≡ a → ⊥
not_low a n low same = differ a n (ltb-true a n low) same

-- ---- which family begins

if_both : {X : Type 0} (a b : Bool) (o : Option X) → if_true a (if_true b o) ≡ if_true (b && a) o
if_both true true o = refl
if_both false true o = refl
if_both true false o = refl
if_both false false o = refl

and_true : (a : Bool) → (a && true) ≡ a
and_true true = refl
and_true false = refl

and_false : (a : Bool) → (a && false) ≡ false
and_false true = refl
and_false false = refl

-- the reply, and the family that it begins, by whether the provider gave tokens
module _ {R : Type 0} (inner : R) (told : Option OpReply) (w : Word) where
  gives_is : told ≡ None → gives_tokens told ≡ false
  gives_is h = let G : Option OpReply → Bool = λ o. gives_tokens o in ap G h

  reply_given : (t : Option OpReply) (b : Option FamilyRow) → gives_tokens t ≡ true → reply_around inner (first_of b w) ≡ with_first b t inner w
  reply_given None b h = absurd (true_false (sym h))
  reply_given (Some (op_reply.Tokens a i)) None h = refl
  reply_given (Some (op_reply.Tokens a i)) (Some f) h = refl
  reply_given (Some other) b h = absurd (true_false (sym h))

  reply_not_given : (t : Option OpReply) (b : Option FamilyRow) → gives_tokens t ≡ false → Through inner ≡ with_first b t inner w
  reply_not_given t None h = refl
  reply_not_given None (Some f) h = refl
  reply_not_given (Some (op_reply.Tokens a i)) (Some f) h = absurd (true_false h)
  reply_not_given (Some other) (Some f) h = refl

  begun_given : (b : Option FamilyRow) → begun_by (reply_around inner (first_of b w)) b ≡ b
  begun_given None = refl
  begun_given (Some f) = refl

  -- the family that begins is the one of the definition, and so is the reply
  pub reply_is : (room offline : Bool) (o : Option FamilyRow) (begun : Option FamilyRow) → begun ≡ if_true (room && gives_tokens told) (if_true offline o)
      → (reply_around inner (first_of begun w) ≡ with_first (if_true (offline && room) o) told inner w) × (begun_by (reply_around inner (first_of begun w)) (if_true (offline && room) o) ≡ begun)
  reply_is room offline o begun is =
      let B : Bool → Option FamilyRow = λ x. if_true (room && x) (if_true offline o) in
      let C : Bool → Option FamilyRow = λ x. if_true x (if_true offline o) in
      let F : Option FamilyRow → RefreshReply R = λ x. reply_around inner (first_of x w) in
      let all : Option FamilyRow = if_true (offline && room) o in
      elim (bool_cases (gives_tokens told)) [
        | inl gave ↦
            (let same : begun ≡ all = is ∙ ap B gave ∙ ap C (and_true room) ∙ if_both room offline o in
            let G : Option FamilyRow → Option FamilyRow = λ x. begun_by (reply_around inner (first_of x w)) all in
            (ap F same ∙ reply_given told all gave, ap G same ∙ begun_given all ∙ sym same))
        | inr kept ↦
            (let none : begun ≡ None = is ∙ ap B kept ∙ ap C (and_false room) in
            let G : Option FamilyRow → Option FamilyRow = λ x. begun_by (reply_around inner (first_of x w)) all in
            (ap F none ∙ reply_not_given told all kept, ap G none ∙ sym none))
      ]

module _ {A R : Type 0} (plain : A → Option OpAsk) (given : R → Option OpReply) (provided : List (Pair A R) → List OpPair) (past : List (Outer A R)) (at : ℕ) (b d : Booked) (held : IsBookAt plain given provided past at b) where
  abbrev Fs : List FamilyRow
  Fs = families plain given provided past

  abbrev n : ℕ
  n = length past

  access_places : (l : List (Outer A R)) (w : Word) (row : AccessRow) → row_of access_name w (accesses plain given provided l) ≡ Some row → row.family < length l
  access_places [] w row h = absurd (some_none row (sym h))
  access_places (p ∷ l) w row h =
      let o : Option RefreshRow = row_presented (tokens plain given provided l) p.entry.ask in
      let L : ℕ → Type 0 = λ m. m < suc (length l) in
      elim (put_found access_name w (access_made p.entry.at o p.reply) (accesses plain given provided l) row h) [
        | inl made ↦
            (let of = access_of_presented p.entry.at o p.reply row made in
            let stood = presented_row plain given provided (tokens plain given provided l) p.entry.ask of.0 of.1 in
            subst L (sym of.2) (one_more of.0.family (length l) (places plain given provided l of.0.word of.0 stood.1)))
        | inr stood ↦ one_more row.family (length l) (access_places l w row stood)
      ]

  tokens_low : list_all (λ (t : RefreshRow). nat_lt t.family n) (tokens plain given provided past) ≡ true
  tokens_low = all_found token_name (λ (t : RefreshRow). nat_lt t.family n) (tokens plain given provided past) (tokens_distinct plain given provided past)
      (λ w t there. lt-ltb t.family n (places plain given provided past w t there))

  accesses_low : list_all (λ (x : AccessRow). nat_lt x.family n) (accesses plain given provided past) ≡ true
  accesses_low = all_found access_name (λ (x : AccessRow). nat_lt x.family n) (accesses plain given provided past) (accesses_distinct plain given provided past)
      (λ w x there. lt-ltb x.family n (access_places past w x there))

  -- a new family changes nothing of earlier ones
  living_more : (fs : List FamilyRow) (f : FamilyRow) (m : ℕ) → f.by ≡ n → nat_lt m n ≡ true → living_in (fs ++ f ∷ []) at m ≡ living_in fs at m
  living_more fs f m by low =
      let L : Option FamilyRow → Option FamilyRow = λ o. option_and_then (if_lives family_life family_begun at) o in
      ap L (found_append m fs f (λ same. not_low m n low (sym by ∙ same)))

  living_new : (fs : List FamilyRow) (f : FamilyRow) → f.begun ≡ at → family_at f.by fs ≡ None → living_in (fs ++ f ∷ []) at f.by ≡ Some f
  living_new fs f begun none =
      let L : Option FamilyRow → Option FamilyRow = λ o. option_and_then (if_lives family_life family_begun at) o in
      let E : ℕ → Bool = λ m. lives family_life m at in
      let C : Bool → Option FamilyRow = λ x. cond x (Some f) None in
      ap L (found_new fs f none) ∙ ap C (ap E begun ∙ late_family at)

  module _ (k : FamilyRow → Bool) where
    abbrev Gs : List FamilyRow
    Gs = filter k Fs

    -- families end, and none begins
    pub ended_book : d.families ≡ filter k b.families → d.tokens ≡ tokens_left (filter k b.families) b.tokens → d.accesses ≡ accesses_left (filter k b.families) b.accesses → d.last ≡ at → IsAfter plain given provided past at k None None None d
    ended_book families_are tokens_are accesses_are last_is =
        let T : List FamilyRow → List RefreshRow = λ l. tokens_left l b.tokens in
        let X : List FamilyRow → List AccessRow = λ l. accesses_left l b.accesses in
        book_after plain given provided past at b d k None None None (numbered_filter k n Fs (numbered plain given provided past)) held (none_living plain given provided past at k)
        families_are (tokens_are ∙ ap T (sym families_are)) (accesses_are ∙ ap X (sym families_are)) last_is

  -- the same, and one begins
  pub begun_book : (k : FamilyRow → Bool) (c : Booked) (f : FamilyRow) (w : Word) → IsAfter plain given provided past at k None None None c → f.by ≡ n → f.begun ≡ at → d.families ≡ c.families ++ f ∷ [] → d.tokens ≡ put token_name (Some (new_token f.by w)) c.tokens
      → d.accesses ≡ c.accesses → d.last ≡ at
      → (d.families ≡ live_rows family_life family_begun at (filter k Fs ++ f ∷ []))
      × (d.tokens ≡ held_in (filter k Fs ++ f ∷ []) at (put token_name (Some (new_token f.by w)) (tokens plain given provided past)))
      × (d.accesses ≡ live_rows access_life access_begun at (filter (λ (x : AccessRow). is_some (living_in (filter k Fs ++ f ∷ []) at x.family)) (accesses plain given provided past)))
  begun_book k c f w after by begun families_are tokens_are accesses_are last_is =
      let gs : List FamilyRow = filter k Fs in
      let hs : List FamilyRow = gs ++ f ∷ [] in
      let E : ℕ → Bool = λ m. lives family_life m at in
      let P : List FamilyRow → List FamilyRow = λ l. l ++ f ∷ [] in
      let S : Option FamilyRow → Bool = λ o. is_some o in
      let Q : List RefreshRow → List RefreshRow = λ l. put token_name (Some (new_token f.by w)) l in
      let B : List AccessRow → List AccessRow = λ l. live_rows access_life access_begun at l in
      let N : ℕ → Option FamilyRow = λ m. family_at m gs in
      let none : family_at f.by gs ≡ None = ap N by ∙ none_at n gs (numbered_filter k n Fs (numbered plain given provided past)) in
      let new : is_some (living_in hs at f.by) ≡ true = ap S (living_new gs f begun none) in (
        families_are ∙ ap P after.families_are ∙ sym (filter_pushed (λ (g : FamilyRow). lives family_life g.begun at) gs f (ap E begun ∙ late_family at)),
        tokens_are ∙ ap Q (after.tokens_are
            ∙ filter_agree (λ (t : RefreshRow). nat_lt t.family n) (λ (t : RefreshRow). is_some (living_in gs at t.family)) (λ (t : RefreshRow). is_some (living_in hs at t.family)) (λ t low. ap S (sym (living_more gs f t.family by low))) (tokens plain given provided past) tokens_low)
            ∙ sym (filter_put token_name (λ (t : RefreshRow). is_some (living_in hs at t.family)) (Some (new_token f.by w)) (tokens plain given provided past)
            (λ t same. (let G : RefreshRow → Bool = λ r. is_some (living_in hs at r.family) in ap G (sym (some_same (new_token f.by w) t same)) ∙ new))),
        accesses_are ∙ after.accesses_are
            ∙ ap B (filter_agree (λ (x : AccessRow). nat_lt x.family n) (λ (x : AccessRow). is_some (living_in gs at x.family)) (λ (x : AccessRow). is_some (living_in hs at x.family)) (λ x low. ap S (sym (living_more gs f x.family by low))) (accesses plain given provided past) accesses_low),
      )

  -- ---- an entry that was passed on

  module _ (fresh : List Word) (a : A) (offline : Bool) (reply : R) (spent : Option Spent) (family : Option FamilyRow) (w : Word) where
    abbrev asked : RefreshAsk A
    asked = ask.Through a offline

    abbrev begun : Option FamilyRow
    begun = if_true (has_room b.tokens w && gives_tokens (given reply)) family

    abbrev k : FamilyRow → Bool
    k f = not (ends plain given provided past at asked f)

    -- the families that end are those of the spent code
    ends_by : ((f : FamilyRow) → is_spent spent f ≡ is_code_replay (code_presented plain given provided past at asked) (plain a) f) → (f : FamilyRow) → not (is_spent spent f) ≡ k f
    ends_by spent_is f =
        not_same (is_spent spent f) (ends plain given provided past at asked f)
        (spent_is f ∙ sym (or_left (is_replay (row_presented (tokens plain given provided past) asked) asked f) _ (no_replay (row_presented (tokens plain given provided past) asked) a offline f)))

    -- a book with the families that are left
    abbrev left : Booked
    left = record {
      families = filter k b.families;
      tokens = tokens_left (filter k b.families) b.tokens;
      accesses = accesses_left (filter k b.families) b.accesses;
      last = at;
      family_room = 0;
      token_room = 0;
      access_room = 0;
    }

    abbrev offl : Bool
    offl = code_offline plain given provided past at (token_code (plain a))

    abbrev maybe : Option FamilyRow
    maybe = option_map (family_for n at) (code_held provided past at (token_code (plain a)))

    room_is : has_room b.tokens w ≡ has_room (held_in Fs at (tokens plain given provided past)) w
    room_is = let H : List RefreshRow → Bool = λ l. has_room l w in ap H held.tokens_are

    -- the reply and the family that begins
    pub passed_reply : w ≡ fresh_word fresh 1 → family ≡ family_asked plain given provided past at (token_code (plain a)) → (first : Option Word) → first ≡ first_of begun w
        → (reply_around reply first ≡ with_first (begins plain given provided past (record { at = at; fresh = fresh; ask = asked })) (given reply) reply (fresh_word fresh 1))
        × (begun_by (reply_around reply first) (begins plain given provided past (record { at = at; fresh = fresh; ask = asked })) ≡ begun)
    passed_reply w_is family_is first first_is =
        let W : Word → Option FamilyRow = λ v. if_true (offl && has_room (held_in Fs at (tokens plain given provided past)) v) maybe in
        let H : Bool → Option FamilyRow = λ x. if_true (offl && x) maybe in
        let B : Option FamilyRow → Option FamilyRow = λ o. if_true (has_room b.tokens w && gives_tokens (given reply)) o in
        let said = reply_is reply (given reply) w (has_room b.tokens w) offl maybe begun (ap B family_is) in
        let all : if_true (offl && has_room b.tokens w) maybe ≡ begins plain given provided past (record { at = at; fresh = fresh; ask = asked }) = ap H room_is ∙ ap W w_is in
        let F : Option Word → RefreshReply R = λ o. reply_around reply o in
        let G : Option FamilyRow → RefreshReply R = λ o. with_first o (given reply) reply w in
        let V : Word → RefreshReply R = λ v. with_first (begins plain given provided past (record { at = at; fresh = fresh; ask = asked })) (given reply) reply v in
        let D : Option Word → Option FamilyRow = λ o. begun_by (reply_around reply o) (begins plain given provided past (record { at = at; fresh = fresh; ask = asked })) in
        let E : Option FamilyRow → Option FamilyRow = λ o. begun_by (reply_around reply (first_of begun w)) o in
        (ap F first_is ∙ said.0 ∙ ap G all ∙ ap V w_is, ap D first_is ∙ sym (ap E all) ∙ said.1)

    by_begun : (o : Option FamilyRow) → begun ≡ o → ((f : FamilyRow) → o ≡ Some f → (f.by ≡ n) × (f.begun ≡ at)) → d.families ≡ appended left.families o → d.tokens ≡ put token_name (token_of o w) left.tokens → d.accesses ≡ left.accesses → d.last ≡ at
        → IsAfter plain given provided past at k None None None left
        → (d.families ≡ live_rows family_life family_begun at (appended (filter k Fs) o))
        × (d.tokens ≡ held_in (appended (filter k Fs) o) at (put token_name (token_of o w) (tokens plain given provided past)))
        × (d.accesses ≡ live_rows access_life access_begun at (filter (λ (x : AccessRow). is_some (living_in (appended (filter k Fs) o) at x.family)) (accesses plain given provided past)))
    by_begun None is owned families_are tokens_are accesses_are last_is after = (families_are ∙ after.families_are, tokens_are ∙ after.tokens_are, accesses_are ∙ after.accesses_are)
    by_begun (Some f) is owned families_are tokens_are accesses_are last_is after =
        let mine = owned f refl in
        begun_book k left f w after mine.0 mine.1 families_are tokens_are accesses_are last_is

    token_made_by : (first : Option Word) (o : Option FamilyRow) → first ≡ first_of o w → ((f : FamilyRow) → o ≡ Some f → f.by ≡ n)
        → (l : List RefreshRow) (r : Option RefreshRow) → put token_name (token_made n r (reply_around reply first)) (put token_name (token_retired r (reply_around reply first)) l) ≡ put token_name (token_of o w) l
    token_made_by first None first_is by l r =
        let F : Option Word → List RefreshRow = λ x. put token_name (token_made n r (reply_around reply x)) (put token_name (token_retired r (reply_around reply x)) l) in
        ap F first_is
    token_made_by first (Some f) first_is by l r =
        let F : Option Word → List RefreshRow = λ x. put token_name (token_made n r (reply_around reply x)) (put token_name (token_retired r (reply_around reply x)) l) in
        let N : ℕ → List RefreshRow = λ m. put token_name (Some (new_token m w)) l in
        ap F first_is ∙ ap N (sym (by f refl))

    access_made_by : (first : Option Word) (l : List AccessRow) (r : Option RefreshRow) → put access_name (access_made at r (reply_around reply first)) l ≡ l
    access_made_by None l r = refl
    access_made_by (Some v) l r = refl

    family_place : (o : Option CodeRow) (x : Bool) (y : Bool) (f : FamilyRow) → if_true x (if_true y (option_map (family_for n at) o)) ≡ Some f → (f.by ≡ n) × (f.begun ≡ at)
    family_place (Some code) true true f h =
        let same : family_for n at code ≡ f = some_same (family_for n at code) f h in
        (sym (ap (λ (g : FamilyRow). g.by) same), sym (ap (λ (g : FamilyRow). g.begun) same))
    family_place None true true f h = absurd (some_none f (sym h))
    family_place o true false f h = absurd (some_none f (sym h))
    family_place o false y f h = absurd (some_none f (sym h))

    -- the book after it
    pub passed_book : w ≡ fresh_word fresh 1 → family ≡ family_asked plain given provided past at (token_code (plain a)) → (first : Option Word) → first ≡ first_of begun w
        → ((f : FamilyRow) → is_spent spent f ≡ is_code_replay (code_presented plain given provided past at asked) (plain a) f)
        → d.families ≡ appended (filter (λ f. not (is_spent spent f)) b.families) begun → d.tokens ≡ put token_name (token_of begun w) (tokens_left (filter (λ f. not (is_spent spent f)) b.families) b.tokens)
        → d.accesses ≡ accesses_left (filter (λ f. not (is_spent spent f)) b.families) b.accesses → d.last ≡ b.last
        → IsBookAt plain given provided (record { entry = record { at = at; fresh = fresh; ask = asked }; reply = reply_around reply first } ∷ past) at d
    passed_book w_is family_is first first_is spent_is families_are tokens_are accesses_are last_is =
        let same : filter (λ f. not (is_spent spent f)) b.families ≡ filter k b.families = filter_same (λ f. not (is_spent spent f)) k (λ f. ends_by spent_is f) b.families in
        let A1 : List FamilyRow → List FamilyRow = λ l. appended l begun in
        let A2 : List FamilyRow → List RefreshRow = λ l. put token_name (token_of begun w) (tokens_left l b.tokens) in
        let A3 : List FamilyRow → List AccessRow = λ l. accesses_left l b.accesses in
        let B : Option FamilyRow → Option FamilyRow = λ o. if_true (has_room b.tokens w && gives_tokens (given reply)) o in
        let mine : (f : FamilyRow) → begun ≡ Some f → (f.by ≡ n) × (f.begun ≡ at) = λ f h. family_place (code_held provided past at (token_code (plain a))) (has_room b.tokens w && gives_tokens (given reply)) offl f (sym (ap B family_is) ∙ h) in
        let now : d.last ≡ at = last_is ∙ held.last_is in
        let after : IsAfter plain given provided past at k None None None left =
        book_after plain given provided past at b left k None None None (numbered_filter k n Fs (numbered plain given provided past)) held (none_living plain given provided past at k) refl refl refl refl in
        let all = by_begun begun refl mine (families_are ∙ ap A1 same) (tokens_are ∙ ap A2 same) (accesses_are ∙ ap A3 same) now after in
        let said = passed_reply w_is family_is first first_is in
        let r : Option RefreshRow = row_presented (tokens plain given provided past) asked in
        let F : Option FamilyRow → List FamilyRow = λ o. live_rows family_life family_begun at (appended (filter k Fs) o) in
        let T : Option FamilyRow → List RefreshRow → List RefreshRow = λ o l. held_in (appended (filter k Fs) o) at l in
        let X : Option FamilyRow → List AccessRow → List AccessRow = λ o l. live_rows access_life access_begun at (filter (λ (x : AccessRow). is_some (living_in (appended (filter k Fs) o) at x.family)) l) in
        record {
          families_are = all.0 ∙ sym (ap F said.1);
          tokens_are = all.1 ∙ sym (ap (T begun) (token_made_by first begun first_is (λ f h. (mine f h).0) (tokens plain given provided past) r)) ∙ sym (ap (λ o. T o (put token_name (token_made n r (reply_around reply first)) (put token_name (token_retired r (reply_around reply first)) (tokens plain given provided past)))) said.1);
          accesses_are = all.2 ∙ sym (ap (X begun) (access_made_by first (accesses plain given provided past) r)) ∙ sym (ap (λ o. X o (put access_name (access_made at r (reply_around reply first)) (accesses plain given provided past))) said.1);
          last_is = now;
        }

  -- ---- a UserInfo request that the core answered

  told_info : {X : Type 0} (f : X → OwnReply) (o : Option X) (r : OwnReply) → option_map f o ≡ Some r → (x : X) × (r ≡ f x)
  told_info f None r h = absurd (some_none r (sym h))
  told_info f (Some x) r h = (x, sym (some_same (f x) r h))

  info_parts : (c : Configuration) (o : Option OpAsk) (r : OwnReply) → info_reply plain given provided c past at o ≡ Some r → (bearer : Bearer) × (o ≡ Some (op_ask.Info bearer)) × ((claims : List ℕ) × (r ≡ own.Info claims))
  info_parts c (Some (op_ask.Info (bearers.Given v))) r h =
      let told = told_info (family_info c) (access_family plain given provided past at v) r h in
      (bearers.Given v, refl, (claims_text (info_members c told.0.client told.0.user told.0.scopes told.0.asked), told.1))
  info_parts c other r h = absurd (some_none r (sym h))

  plain_through : (asked : RefreshAsk A) (x : OpAsk) → outer_plain plain asked ≡ Some x → (a : A) × (o : Bool) × (asked ≡ ask.Through a o)
  plain_through (ask.Through a o) x h = (a, o, refl)
  plain_through (ask.Refresh g) x h = absurd (some_none x (sym h))

  none_ends : (asked : RefreshAsk A) (bearer : Bearer) → outer_plain plain asked ≡ Some (op_ask.Info bearer) → (f : FamilyRow) → not (ends plain given provided past at asked f) ≡ true
  none_ends asked bearer is f =
      let through = plain_through asked (op_ask.Info bearer) is in
      let r : Option RefreshRow = row_presented (tokens plain given provided past) asked in
      let code : Option CodeRow = code_presented plain given provided past at asked in
      let Q : RefreshAsk A → Bool = λ a. is_replay r a f in
      let C : Option OpAsk → Bool = λ o. is_code_replay code o f in
      not_either (is_replay r asked f) (is_code_replay code (outer_plain plain asked) f) (ap Q through.2 ∙ no_replay r through.0 through.1 f) (ap C is ∙ info_code code bearer f)

  pub info_book : (c : Configuration) (fresh : List Word) (asked : RefreshAsk A) (r : OwnReply) → info_reply plain given provided c past at (outer_plain plain asked) ≡ Some r
      → IsBookAt plain given provided (record { entry = record { at = at; fresh = fresh; ask = asked }; reply = Own r } ∷ past) at b
  info_book c fresh asked r told =
      let parts = info_parts c (outer_plain plain asked) r told in
      let each : (f : FamilyRow) → not (ends plain given provided past at asked f) ≡ true = none_ends asked parts.0 parts.1 in
      let all : filter (λ f. not (ends plain given provided past at asked f)) Fs ≡ Fs = filter_none (λ f. not (ends plain given provided past at asked f)) each Fs in
      let L : List FamilyRow → List FamilyRow = λ l. live_rows family_life family_begun at l in
      let T : List FamilyRow → List RefreshRow = λ l. held_in l at (tokens plain given provided past) in
      let X : List FamilyRow → List AccessRow = λ l. live_rows access_life access_begun at (filter (λ (x : AccessRow). is_some (living_in l at x.family)) (accesses plain given provided past)) in
      let Q : OwnReply → Type 0 = λ x. IsBookAt plain given provided (record { entry = record { at = at; fresh = fresh; ask = asked }; reply = Own x } ∷ past) at b in
      subst Q (sym parts.2.1) (record { families_are = held.families_are ∙ sym (ap L all); tokens_are = held.tokens_are ∙ sym (ap T all); accesses_are = held.accesses_are ∙ sym (ap X all); last_is = held.last_is })
