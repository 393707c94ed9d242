-- New tokens are for the client of the family; another client's request leaves it.
use Rattle.std.proofs.Common.{◌≡◌, ℕ, nat_eq, Bool, true, false, not, ◌&&◌, ◌||◌, cond, List, [], ◌∷◌, ◌++◌, filter, Option, Some, None, option_and_then, Ok, Err, inl, inr, refl, ap, sym, ◌∙◌, subst}
use Rattle.std.proofs.lemmas.Bool.{and_parts, eqb-true}
use Rattle.sso_base.specs.Words.{Word, fresh_word, word_of_text}
use Rattle.sso_base.specs.Rows.{row_of}
use Rattle.sso_base.proofs.RowLaws.{bool_cases}
use Rattle.sso_base.specs.declared.history.Pair.{Pair}
use Rattle.client_registry.specs.Configuration.{Configuration}
use Rattle.code_grant.specs.declared.rows.CodeRow.{CodeRow}
use Rattle.oidc_words.specs.declared.scopes.Scopes.{Scopes}
use Rattle.token_endpoint.specs.declared.error.TokenError.TheVariants.{InvalidGrant}
use Rattle.token_endpoint.specs.declared.no.GrantNo.TheVariants as no
use Rattle.op_exchange.specs.declared.ask.OpAsk.{OpAsk}
use Rattle.op_exchange.specs.declared.reply.OpReply.{OpReply}
use Rattle.op_answer.specs.Past.{OpPair}
use Rattle.core_stack.proofs.Same.{some_same}
use Rattle.refresh_answer.specs.declared.asks.RefreshGrant.{RefreshGrant}
use Rattle.refresh_answer.specs.declared.asks.RefreshAsk.{RefreshAsk}
use Rattle.refresh_answer.specs.declared.asks.RefreshAsk.TheVariants as ask
use Rattle.refresh_answer.specs.declared.asks.OwnReply.{OwnReply}
use Rattle.refresh_answer.specs.declared.asks.OwnReply.TheVariants as own
use Rattle.refresh_answer.specs.declared.asks.RefreshReply.{RefreshReply}
use Rattle.refresh_answer.specs.declared.asks.RefreshReply.TheVariants.{Own}
use Rattle.refresh_answer.specs.declared.rows.FamilyRow.{FamilyRow}
use Rattle.refresh_answer.specs.declared.rows.RefreshRow.{RefreshRow}
use Rattle.refresh_answer.specs.Rows.{token_name}
use Rattle.refresh_answer.specs.Around.{Outer, outer_plain}
use Rattle.refresh_answer.specs.Families.{row_presented, family_at, is_replay, is_code_replay, appended, has_room, tokens, families, living, held_tokens, ends, begins, begun_by, code_presented}
use Rattle.refresh_answer.specs.Answering.{rotated, refreshed_by, IsReply, own_reply}
use Rattle.refresh_answer.specs.Laws.{IsByItsClient}
use Rattle.refresh_answer.proofs.Answered.{IsAnswered}
use Rattle.refresh_answer.proofs.Families.{some_none, other_number}
use Rattle.refresh_answer.proofs.Steps.{own_is, refreshed_is, info_never}
use Rattle.refresh_answer.proofs.Once.{answered_before, none_begun}

-- ---- who gets new tokens

abbrev scopes_of : OwnReply → Option Scopes
scopes_of (own.Refreshed a v s) = Some s
scopes_of other = None

rotated_scopes : (held : List RefreshRow) (fresh : List Word) (f : FamilyRow) (a v : Word) (s : Scopes) → rotated held fresh f ≡ own.Refreshed a v s → s ≡ f.scopes
rotated_scopes held fresh f a v s h =
    let C : Bool → OwnReply = λ b. cond b (own.Refreshed (fresh_word fresh 0) (fresh_word fresh 1) f.scopes) own.Full in
    elim (bool_cases (has_room held (fresh_word fresh 1))) [
      | inl e ↦ (let same : own.Refreshed (fresh_word fresh 0) (fresh_word fresh 1) f.scopes ≡ own.Refreshed a v s = sym (ap C e) ∙ h in sym (some_same f.scopes s (ap scopes_of same)))
      | inr e ↦ (let full : own.Full ≡ own.Refreshed a v s = sym (ap C e) ∙ h in absurd (some_none s (sym (ap scopes_of full))))
    ]

by_its_client : (held : List RefreshRow) (fresh : List Word) (g : RefreshGrant) (row : RefreshRow) (o : Option FamilyRow) (a v : Word) (s : Scopes) → refreshed_by held fresh g row o ≡ own.Refreshed a v s
    → (f : FamilyRow) × (o ≡ Some f) × (row.current ≡ true) × (g.client ≡ f.client) × (s ≡ f.scopes)
by_its_client held fresh g row None a v s h = absurd (some_none s (sym (ap scopes_of h)))
by_its_client held fresh g row (Some f) a v s h =
    let C : Bool → OwnReply = λ b. cond b (rotated held fresh f) (own.Refused InvalidGrant) in
    elim (bool_cases (nat_eq g.client f.client && row.current)) [
      | inl e ↦
          (let both = and_parts (nat_eq g.client f.client) row.current e in
          (f, refl, both.1, eqb-true g.client f.client both.0, rotated_scopes held fresh f a v s (sym (ap C e) ∙ h)))
      | inr e ↦ (let refused : own.Refused InvalidGrant ≡ own.Refreshed a v s = sym (ap C e) ∙ h in absurd (some_none s (sym (ap scopes_of refused))))
    ]

-- ---- families that are left

-- a family that passes is still found
pub still : (k : FamilyRow → Bool) (n : ℕ) (fs : List FamilyRow) (f : FamilyRow) → family_at n fs ≡ Some f → k f ≡ true → family_at n (filter k fs) ≡ Some f
still k n [] f h good = absurd (some_none f (sym h))
still k n (g ∷ fs) f h good =
    let F : Bool → Option FamilyRow = λ b. cond b (Some g) (family_at n fs) in
    let C : Bool → Option FamilyRow = λ b. cond b (Some g) (family_at n (filter k fs)) in
    let G : Bool → Option FamilyRow = λ b. family_at n (cond b (g ∷ filter k fs) (filter k fs)) in
    elim (bool_cases (nat_eq g.by n)) [
      | inl e ↦ (let same : g ≡ f = some_same g f (sym (ap F e) ∙ h) in ap G (ap k same ∙ good) ∙ ap C e ∙ ap Some same)
      | inr e ↦ elim (bool_cases (k g)) [
        | inl t ↦ ap G t ∙ ap C e ∙ still k n fs f (sym (ap F e) ∙ h) good
        | inr t ↦ ap G t ∙ still k n fs f (sym (ap F e) ∙ h) good
      ]
    ]

third_false : (a b c : Bool) → c ≡ false → (a && b && c) ≡ false
third_false true true c h = h
third_false true false c h = refl
third_false false b c h = refl

neither : (a b : Bool) → a ≡ false → b ≡ false → not (a || b) ≡ true
neither true b h k = absurd (cc)
neither false true h k = absurd (cc)
neither false false h k = refl

no_code : (o : Option CodeRow) (f : FamilyRow) → is_code_replay o None f ≡ false
no_code None f = refl
no_code (Some code) f = refl

no_replay : (A : Type 0) (o : Option RefreshRow) (g : RefreshGrant) (f : FamilyRow) → (g.client ≡ f.client → ⊥) → is_replay {A = A} o (ask.Refresh (Ok g)) f ≡ false
no_replay A None g f other = refl
no_replay A (Some row) g f other = third_false (not row.current) (nat_eq row.family f.by) (nat_eq g.client f.client) (other_number g.client f.client other)

module _ {A R : Type 0} (plain : A → Option OpAsk) (given : R → Option OpReply) (provided : List (Pair A R) → List OpPair) (c : Configuration) where
  abbrev T : List (Outer A R) → List RefreshRow
  T past = tokens plain given provided past

  abbrev Fs : List (Outer A R) → List FamilyRow
  Fs past = families plain given provided past

  record Gets (past : List (Outer A R)) (at : ℕ) (asked : RefreshAsk A) (s : Scopes) : Type 0 where
    grant : RefreshGrant
    asked_is : asked ≡ ask.Refresh (Ok grant)
    row : RefreshRow
    found : row_presented (T past) asked ≡ Some row
    current : row.current ≡ true
    family : FamilyRow
    lives : living plain given provided past at row.family ≡ Some family
    client : grant.client ≡ family.client
    scopes_are : s ≡ family.scopes

  gets : (past : List (Outer A R)) (at : ℕ) (fresh : List Word) (asked : RefreshAsk A) (a v : Word) (s : Scopes) → own_reply plain given provided c past at fresh asked ≡ Some (own.Refreshed a v s) → Gets past at asked s
  gets past at fresh (ask.Through x offline) a v s h = absurd (info_never plain given provided c past at (plain x) a v s h)
  gets past at fresh (ask.Refresh (Ok g)) a v s h =
      let first = refreshed_is plain given provided past at fresh g (option_and_then (λ w. row_of token_name w (T past)) (word_of_text g.token)) a v s (some_same _ (own.Refreshed a v s) h) in
      let second = by_its_client (held_tokens plain given provided past at) fresh g first.0 (living plain given provided past at first.0.family) a v s first.2 in
      record { grant = g; asked_is = refl; row = first.0; found = first.1; current = second.2; family = second.0; lives = second.1; client = second.3; scopes_are = second.4 }
  gets past at fresh (ask.Refresh (Err no.NoMemory)) a v s h = absurd (some_none s (sym (ap (λ x. option_and_then scopes_of x) h)))
  gets past at fresh (ask.Refresh (Err other)) a v s h = absurd (some_none s (sym (ap (λ x. option_and_then scopes_of x) h)))

  pub gets_by_its_client : (past after before : List (Outer A R)) (p : Outer A R) (a v : Word) (s : Scopes) → IsAnswered plain given provided c past → past ≡ after ++ p ∷ before → p.reply ≡ Own (own.Refreshed a v s)
      → IsByItsClient plain given provided before p s
  gets_by_its_client past after before p a v s is parts replied =
      let L : List (Outer A R) → Type 0 = λ l. IsAnswered plain given provided c l in
      let then = answered_before plain given provided c after (p ∷ before) (subst L parts is) in
      let Q : RefreshReply R → Type 0 = λ r. IsReply given (own_reply plain given provided c before p.entry.at p.entry.fresh p.entry.ask) (begins plain given provided before p.entry) (fresh_word p.entry.fresh 1) r in
      let said = own_is given (own_reply plain given provided c before p.entry.at p.entry.fresh p.entry.ask) (begins plain given provided before p.entry) (fresh_word p.entry.fresh 1) (own.Refreshed a v s) (subst Q replied then.2) in
      let g = gets before p.entry.at p.entry.fresh p.entry.ask a v s said in
      record { grant = g.grant; asked = g.asked_is; row = g.row; presented_is = g.found; current = g.current; family = g.family; lives = g.lives; client = g.client; scopes_are = g.scopes_are }

  pub left_by_others : (past after before : List (Outer A R)) (p : Outer A R) (f : FamilyRow) (g : RefreshGrant) → IsAnswered plain given provided c past → past ≡ after ++ p ∷ before → p.entry.ask ≡ ask.Refresh (Ok g)
      → (g.client ≡ f.client → ⊥) → family_at f.by (Fs before) ≡ Some f → family_at f.by (Fs (p ∷ before)) ≡ Some f
  left_by_others past after before p f g is parts asked other stands =
      let L : List (Outer A R) → Type 0 = λ l. IsAnswered plain given provided c l in
      let then = answered_before plain given provided c after (p ∷ before) (subst L parts is) in
      let k : FamilyRow → Bool = λ x. not (ends plain given provided before p.entry.at p.entry.ask x) in
      let G : RefreshAsk A → Type 0 = λ a. IsReply given (own_reply plain given provided c before p.entry.at p.entry.fresh a) (begins plain given provided before p.entry) (fresh_word p.entry.fresh 1) p.reply in
      let none : begun_by p.reply (begins plain given provided before p.entry) ≡ None =
      none_begun plain given provided c before p.entry p.reply (Ok g) (begins plain given provided before p.entry) (fresh_word p.entry.fresh 1) (subst G asked then.2) in
      let N : Option FamilyRow → Option FamilyRow = λ o. family_at f.by (appended (filter k (Fs before)) o) in
      let E : RefreshAsk A → Bool = λ a. not (is_replay (row_presented (T before) a) a f || is_code_replay (code_presented plain given provided before p.entry.at a) (outer_plain plain a) f) in
      let code = no_code (code_presented plain given provided before p.entry.at (ask.Refresh (Ok g))) f in
      let kept : k f ≡ true = ap E asked ∙ neither _ _ (no_replay A (row_presented {A = A} (T before) (ask.Refresh (Ok g))) g f other) code in
      ap N none ∙ still k f.by (Fs before) f stands kept
