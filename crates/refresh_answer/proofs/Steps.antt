-- One reply: where it is new tokens or first tokens, why.
use Rattle.std.proofs.Common.{◌≡◌, ℕ, Bool, true, false, ◌&&◌, cond, List, length, Option, Some, None, option_and_then, option_map, Ok, Err, nat_eq, ◌⊎◌, inl, inr, refl, ap, sym, ◌∙◌}
use Rattle.std.proofs.lemmas.Bool.{and_parts}
use Rattle.sso_base.specs.Words.{Word, fresh_word, word_of_text}
use Rattle.sso_base.specs.Rows.{row_of}
use Rattle.sso_base.proofs.RowLaws.{bool_cases, row_has_name}
use Rattle.sso_base.specs.declared.history.Entry.{Entry}
use Rattle.sso_base.specs.declared.history.Pair.{Pair}
use Rattle.client_registry.specs.Configuration.{Configuration}
use Rattle.code_grant.specs.declared.rows.CodeRow.{CodeRow}
use Rattle.oidc_words.specs.declared.scopes.Scopes.{Scopes}
use Rattle.token_endpoint.specs.declared.no.GrantNo.TheVariants as no
use Rattle.userinfo.specs.declared.header.Bearer.TheVariants as bearer
use Rattle.op_exchange.specs.declared.ask.OpAsk.{OpAsk}
use Rattle.op_exchange.specs.declared.ask.OpAsk.TheVariants as op_ask
use Rattle.op_exchange.specs.declared.reply.OpReply.{OpReply}
use Rattle.op_exchange.specs.declared.reply.OpReply.TheVariants as op_reply
use Rattle.op_answer.specs.Past.{OpPair}
use Rattle.core_stack.proofs.Same.{some_same}
use Rattle.refresh_answer.specs.declared.asks.RefreshGrant.{RefreshGrant}
use Rattle.refresh_answer.specs.declared.asks.RefreshAsk.{RefreshAsk}
use Rattle.refresh_answer.specs.declared.asks.RefreshAsk.TheVariants as ask
use Rattle.refresh_answer.specs.declared.asks.OwnReply.{OwnReply}
use Rattle.refresh_answer.specs.declared.asks.OwnReply.TheVariants as own
use Rattle.refresh_answer.specs.declared.asks.RefreshReply.{RefreshReply}
use Rattle.refresh_answer.specs.declared.asks.RefreshReply.TheVariants.{Through, First, Own}
use Rattle.refresh_answer.specs.declared.rows.FamilyRow.{FamilyRow}
use Rattle.refresh_answer.specs.declared.rows.AccessRow.{AccessRow}
use Rattle.refresh_answer.specs.declared.rows.RefreshRow.{RefreshRow}
use Rattle.refresh_answer.specs.Rows.{token_name, new_token, old_token}
use Rattle.refresh_answer.specs.Around.{Outer}
use Rattle.refresh_answer.specs.Families.{access_family, living, held_tokens, has_room, row_presented, presented, tokens, code_presented, begins, begun_by, if_true, family_for, token_made, token_retired, access_made}
use Rattle.refresh_answer.specs.Answering.{IsReply, with_first, own_reply, refreshed, refreshed_by, rotated, info_reply, family_info}
use Rattle.refresh_answer.proofs.Families.{some_none}

-- ---- replies

abbrev of_own : {R : Type 0} → RefreshReply R → Option OwnReply
of_own (Own x) = Some x
of_own other = None

abbrev first_word : {R : Type 0} → RefreshReply R → Option Word
first_word (First r w) = Some w
first_word other = None

first_own : {R : Type 0} (b : Option FamilyRow) (t : Option OpReply) (r : R) (w : Word) → of_own (with_first b t r w) ≡ None
first_own None t r w = refl
first_own (Some f) None r w = refl
first_own (Some f) (Some (op_reply.Tokens a i)) r w = refl
first_own (Some f) (Some other) r w = refl

pub own_is : {R : Type 0} (given : R → Option OpReply) (o : Option OwnReply) (b : Option FamilyRow) (w : Word) (x : OwnReply) → IsReply given o b w (Own x) → o ≡ Some x
own_is given (Some y) b w x is = sym (ap of_own is)
own_is {R} given None b w x is = absurd (some_none x (ap (λ (y : RefreshReply R). of_own y) is.1 ∙ first_own b (given is.0) is.0 w))

first_by : {R : Type 0} (b : Option FamilyRow) (t : Option OpReply) (r : R) (w v : Word) → first_word (with_first b t r w) ≡ Some v → (f : FamilyRow) × (b ≡ Some f) × (v ≡ w)
first_by None t r w v h = absurd (some_none v (sym h))
first_by (Some f) None r w v h = absurd (some_none v (sym h))
first_by (Some f) (Some (op_reply.Tokens a i)) r w v h = (f, refl, sym (some_same w v h))
first_by (Some f) (Some other) r w v h = absurd (some_none v (sym h))

pub first_is : {R : Type 0} (given : R → Option OpReply) (o : Option OwnReply) (b : Option FamilyRow) (w : Word) (r : R) (v : Word) → IsReply given o b w (First r v) → (f : FamilyRow) × (b ≡ Some f) × (v ≡ w)
first_is {R} given (Some y) b w r v is = absurd (some_none y (sym (ap (λ (z : RefreshReply R). of_own z) is)))
first_is {R} given None b w r v is = first_by b (given is.0) is.0 w v (sym (ap (λ (z : RefreshReply R). first_word z) is.1))

-- ---- new tokens

abbrev access_of : OwnReply → Option Word
access_of (own.Refreshed a v s) = Some a
access_of other = None

abbrev refresh_of : OwnReply → Option Word
refresh_of (own.Refreshed a v s) = Some v
refresh_of other = None

not_full : (a v : Word) (s : Scopes) → own.Full ≡ own.Refreshed a v s → ⊥
not_full a v s h = some_none a (sym (ap access_of h))

rotated_is : (held : List RefreshRow) (fresh : List Word) (f : FamilyRow) (a v : Word) (s : Scopes) → rotated held fresh f ≡ own.Refreshed a v s
    → (has_room held (fresh_word fresh 1) ≡ true) × (a ≡ fresh_word fresh 0) × (v ≡ fresh_word fresh 1)
rotated_is held fresh f a v s h =
    let C : Bool → OwnReply = λ b. cond b (own.Refreshed (fresh_word fresh 0) (fresh_word fresh 1) f.scopes) own.Full in
    elim (bool_cases (has_room held (fresh_word fresh 1))) [
      | inl e ↦
          (let same : own.Refreshed (fresh_word fresh 0) (fresh_word fresh 1) f.scopes ≡ own.Refreshed a v s = sym (ap C e) ∙ h in
          (e, sym (some_same (fresh_word fresh 0) a (ap access_of same)), sym (some_same (fresh_word fresh 1) v (ap refresh_of same))))
      | inr e ↦ absurd (not_full a v s (sym (ap C e) ∙ h))
    ]

refreshed_by_is : (held : List RefreshRow) (fresh : List Word) (g : RefreshGrant) (row : RefreshRow) (o : Option FamilyRow) (a v : Word) (s : Scopes) → refreshed_by held fresh g row o ≡ own.Refreshed a v s
    → (f : FamilyRow) × (o ≡ Some f) × (row.current ≡ true) × (rotated held fresh f ≡ own.Refreshed a v s)
refreshed_by_is held fresh g row None a v s h = absurd (some_none a (sym (ap access_of h)))
refreshed_by_is held fresh g row (Some f) a v s h =
    let C : Bool → OwnReply = λ b. cond b (rotated held fresh f) (own.Refused Rattle.token_endpoint.specs.declared.error.TokenError.TheVariants.InvalidGrant) in
    elim (bool_cases (nat_eq g.client f.client && row.current)) [
      | inl e ↦ (f, refl, (and_parts (nat_eq g.client f.client) row.current e).1, sym (ap C e) ∙ h)
      | inr e ↦ absurd (some_none a (sym (ap access_of (sym (ap C e) ∙ h))))
    ]

-- a token that is retired was presented
pub retired_is : {R : Type 0} (reply : RefreshReply R) (o : Option RefreshRow) (x : RefreshRow) → token_retired o reply ≡ Some x → (t : RefreshRow) × (o ≡ Some t) × (x ≡ old_token t)
retired_is (Own (own.Refreshed a v s)) (Some t) x h = (t, refl, sym (some_same (old_token t) x h))
retired_is (Own (own.Refreshed a v s)) None x h = absurd (some_none x (sym h))
retired_is (Own other) o x h = absurd (some_none x (sym h))
retired_is (First r v) o x h = absurd (some_none x (sym h))
retired_is (Through r) o x h = absurd (some_none x (sym h))

-- what is made is of a new family, or of the presented token's
pub made_family : {R : Type 0} (reply : RefreshReply R) (n : ℕ) (o : Option RefreshRow) (x : RefreshRow) → token_made n o reply ≡ Some x → (x.family ≡ n) ⊎ ((t : RefreshRow) × (o ≡ Some t) × (x.family ≡ t.family))
made_family (First r v) n o x h = inl (sym (ap (λ (y : RefreshRow). y.family) (some_same (new_token n v) x h)))
made_family (Own (own.Refreshed a v s)) n (Some t) x h = inr (t, refl, sym (ap (λ (y : RefreshRow). y.family) (some_same (new_token t.family v) x h)))
made_family (Own (own.Refreshed a v s)) n None x h = absurd (some_none x (sym h))
made_family (Own other) n o x h = absurd (some_none x (sym h))
made_family (Through r) n o x h = absurd (some_none x (sym h))

module _ {A R : Type 0} (plain : A → Option OpAsk) (given : R → Option OpReply) (provided : List (Pair A R) → List OpPair) where
  abbrev pub T : List (Outer A R) → List RefreshRow
  T past = tokens plain given provided past

  pub record Rotates (past : List (Outer A R)) (at : ℕ) (fresh : List Word) (asked : RefreshAsk A) (a v : Word) : Type 0 where
    pub row : RefreshRow
    pub found : row_presented (T past) asked ≡ Some row
    pub current : row.current ≡ true
    pub family : FamilyRow
    pub lives : living plain given provided past at row.family ≡ Some family
    pub room : has_room (held_tokens plain given provided past at) (fresh_word fresh 1) ≡ true
    pub access_is : a ≡ fresh_word fresh 0
    pub refresh_is : v ≡ fresh_word fresh 1

  pub refreshed_is : (past : List (Outer A R)) (at : ℕ) (fresh : List Word) (g : RefreshGrant) (o : Option RefreshRow) (a v : Word) (s : Scopes) → refreshed plain given provided past at fresh g o ≡ own.Refreshed a v s
      → (row : RefreshRow) × (o ≡ Some row) × (refreshed_by (held_tokens plain given provided past at) fresh g row (living plain given provided past at row.family) ≡ own.Refreshed a v s)
  refreshed_is past at fresh g None a v s h = absurd (some_none a (sym (ap access_of h)))
  refreshed_is past at fresh g (Some row) a v s h = (row, refl, h)

  mapped : (c : Configuration) (o : Option FamilyRow) (a v : Word) (s : Scopes) → option_map (family_info c) o ≡ Some (own.Refreshed a v s) → ⊥
  mapped c None a v s h = some_none (own.Refreshed a v s) (sym h)
  mapped c (Some f) a v s h = some_none a (sym (ap (λ x. option_and_then access_of x) h))

  pub info_never : (c : Configuration) (past : List (Outer A R)) (at : ℕ) (o : Option OpAsk) (a v : Word) (s : Scopes) → info_reply plain given provided c past at o ≡ Some (own.Refreshed a v s) → ⊥
  info_never c past at (Some (op_ask.Info (bearer.Given w))) a v s h = mapped c (access_family plain given provided past at w) a v s h
  info_never c past at other a v s h = some_none (own.Refreshed a v s) (sym h)

  pub rotates : (c : Configuration) (past : List (Outer A R)) (at : ℕ) (fresh : List Word) (asked : RefreshAsk A) (a v : Word) (s : Scopes) → own_reply plain given provided c past at fresh asked ≡ Some (own.Refreshed a v s)
      → Rotates past at fresh asked a v
  rotates c past at fresh (ask.Through x offline) a v s h = absurd (info_never c past at (plain x) a v s h)
  rotates c past at fresh (ask.Refresh (Ok g)) a v s h =
      let first = refreshed_is past at fresh g (option_and_then (λ w. row_of token_name w (T past)) (word_of_text g.token)) a v s (some_same _ (own.Refreshed a v s) h) in
      let second = refreshed_by_is (held_tokens plain given provided past at) fresh g first.0 (living plain given provided past at first.0.family) a v s first.2 in
      let third = rotated_is (held_tokens plain given provided past at) fresh second.0 a v s second.3 in
      record { row = first.0; found = first.1; current = second.2; family = second.0; lives = second.1; room = third.0; access_is = third.1; refresh_is = third.2 }
  rotates c past at fresh (ask.Refresh (Err no.NoMemory)) a v s h = absurd (some_none a (sym (ap (λ x. option_and_then access_of x) h)))
  rotates c past at fresh (ask.Refresh (Err other)) a v s h = absurd (some_none a (sym (ap (λ x. option_and_then access_of x) h)))

  -- ---- presented rows

  by_word : (rows : List RefreshRow) (o : Option Word) (row : RefreshRow) → option_and_then (λ w. row_of token_name w rows) o ≡ Some row → (o ≡ Some row.word) × (row_of token_name row.word rows ≡ Some row)
  by_word rows None row h = absurd (some_none row (sym h))
  by_word rows (Some w) row h =
      let F : Word → Option RefreshRow = λ x. row_of token_name x rows in
      let named : row.word ≡ w = row_has_name token_name w rows row h in
      (ap Some (sym named), ap F named ∙ h)

  pub presented_row : (rows : List RefreshRow) (asked : RefreshAsk A) (row : RefreshRow) → row_presented rows asked ≡ Some row → (presented asked ≡ Some row.word) × (row_of token_name row.word rows ≡ Some row)
  presented_row rows asked row h = by_word rows (presented asked) row h

  -- ---- families that begin

  begun_place_by : (reply : RefreshReply R) (b : Bool) (o : Option CodeRow) (n at : ℕ) (f : FamilyRow) → begun_by reply (if_true b (option_map (family_for n at) o)) ≡ Some f → f.by ≡ n
  begun_place_by (First r v) true (Some code) n at f h = sym (ap (λ (x : FamilyRow). x.by) (some_same (family_for n at code) f h))
  begun_place_by (First r v) true None n at f h = absurd (some_none f (sym h))
  begun_place_by (First r v) false o n at f h = absurd (some_none f (sym h))
  begun_place_by other b o n at f h = absurd (some_none f (sym h))

  pub begun_place : (past : List (Outer A R)) (e : Entry (RefreshAsk A)) (reply : RefreshReply R) (f : FamilyRow) → begun_by reply (begins plain given provided past e) ≡ Some f → f.by ≡ length past
  begun_place past e reply f h = begun_place_by reply _ (code_presented plain given provided past e.at e.ask) (length past) e.at f h

  if_true_some : (b : Bool) (o : Option FamilyRow) (f : FamilyRow) → if_true b o ≡ Some f → b ≡ true
  if_true_some true o f h = refl
  if_true_some false o f h = absurd (some_none f (sym h))

  pub begins_room : (past : List (Outer A R)) (e : Entry (RefreshAsk A)) (f : FamilyRow) → begins plain given provided past e ≡ Some f → has_room (held_tokens plain given provided past e.at) (fresh_word e.fresh 1) ≡ true
  begins_room past e f h = (and_parts _ (has_room (held_tokens plain given provided past e.at) (fresh_word e.fresh 1)) (if_true_some _ _ f h)).1

  -- ---- the words of rows that are made

  module _ (c : Configuration) (past : List (Outer A R)) (e : Entry (RefreshAsk A)) where
    abbrev pub Replied : RefreshReply R → Type 0
    Replied reply = IsReply given (own_reply plain given provided c past e.at e.fresh e.ask) (begins plain given provided past e) (fresh_word e.fresh 1) reply

    pub reply_rotates : (a v : Word) (s : Scopes) → Replied (Own (own.Refreshed a v s)) → Rotates past e.at e.fresh e.ask a v
    reply_rotates a v s is = rotates c past e.at e.fresh e.ask a v s (own_is given (own_reply plain given provided c past e.at e.fresh e.ask) (begins plain given provided past e) (fresh_word e.fresh 1) (own.Refreshed a v s) is)

    reply_first : (r : R) (v : Word) → Replied (First r v) → (f : FamilyRow) × (begins plain given provided past e ≡ Some f) × (v ≡ fresh_word e.fresh 1)
    reply_first r v is = first_is given (own_reply plain given provided c past e.at e.fresh e.ask) (begins plain given provided past e) (fresh_word e.fresh 1) r v is

    pub first_parts : (r : R) (v : Word) → Replied (First r v) → (f : FamilyRow) × (begins plain given provided past e ≡ Some f) × (v ≡ fresh_word e.fresh 1)
    first_parts r v is = reply_first r v is

    made_named : (o : Option RefreshRow) (v : Word) (x : RefreshRow) → option_map (λ (t : RefreshRow). new_token t.family v) o ≡ Some x → x.word ≡ v
    made_named None v x h = absurd (some_none x (sym h))
    made_named (Some t) v x h = sym (ap (λ (y : RefreshRow). y.word) (some_same (new_token t.family v) x h))

    -- a token that is made has the second fresh word
    pub made_drawn : (reply : RefreshReply R) (n : ℕ) (x : RefreshRow) → Replied reply → token_made n (row_presented (T past) e.ask) reply ≡ Some x → x.word ≡ fresh_word e.fresh 1
    made_drawn (Through r) n x is h = absurd (some_none x (sym h))
    made_drawn (First r v) n x is h = sym (ap (λ (y : RefreshRow). y.word) (some_same (new_token n v) x h)) ∙ (reply_first r v is).2
    made_drawn (Own (own.Refreshed a v s)) n x is h = made_named (row_presented (T past) e.ask) v x h ∙ (reply_rotates a v s is).refresh_is
    made_drawn (Own other) n x is h = absurd (some_none x (sym h))

    access_named : (o : Option RefreshRow) (at : ℕ) (v : Word) (x : AccessRow) → option_map (λ (t : RefreshRow). record { word = v; family = t.family; issued = at }) o ≡ Some x → x.word ≡ v
    access_named None at v x h = absurd (some_none x (sym h))
    access_named (Some t) at v x h = sym (ap (λ (y : AccessRow). y.word) (some_same (record { word = v; family = t.family; issued = at }) x h))

    -- an access token that is made has the first fresh word
    pub access_drawn : (reply : RefreshReply R) (x : AccessRow) → Replied reply → access_made e.at (row_presented (T past) e.ask) reply ≡ Some x → x.word ≡ fresh_word e.fresh 0
    access_drawn (Through r) x is h = absurd (some_none x (sym h))
    access_drawn (First r v) x is h = absurd (some_none x (sym h))
    access_drawn (Own (own.Refreshed a v s)) x is h = access_named (row_presented (T past) e.ask) e.at a x h ∙ (reply_rotates a v s is).access_is
    access_drawn (Own other) x is h = absurd (some_none x (sym h))
