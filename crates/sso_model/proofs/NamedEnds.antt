-- A logout message ends the sessions that it names.
use Rattle.std.proofs.Common.{◌≡◌, ℕ, eqb, Bool, true, false, not, ◌&&◌, ◌||◌, cond, List, [], ◌∷◌, filter, inl, inr, ◌⊎◌, refl, sym, ◌∙◌, ap, subst, arith}
use Rattle.std.specs.Str.{bytes_eq}
use Rattle.std.proofs.lemmas.Bool.{and_parts, and_from}
use Rattle.std.proofs.lemmas.Bool.Decides.{nat_tests}
use Rattle.std.proofs.lemmas.Slice.Eq.{bytes_eq-Decides}
use Rattle.sso_model.specs.Lists.{Has}
use Rattle.sso_model.specs.Rows.{Live, Sent}
use Rattle.sso_model.specs.Machine.{is_meant}
use Rattle.sso_model.specs.Named.{IsNamed}
use Rattle.sso_model.proofs.ListLaws.{has_filter}

pub bool_cases : (b : Bool) → (b ≡ true) ⊎ (b ≡ false)
bool_cases true = inl refl
bool_cases false = inr refl

pub same_number : (m n : ℕ) → eqb m n ≡ true → m ≡ n
same_number m n h = grind (arith, nat_tests)

pub number_same : (m n : ℕ) → m ≡ n → eqb m n ≡ true
number_same m n h = grind (arith, nat_tests)

-- the session identifier counts if the message says so
sid_named : (only same : Bool) → (not only || same) ≡ true → only ≡ true → same ≡ true
sid_named true same h is = h
sid_named false same h is = (let clash : false ≡ true = is in cc)

sid_meant : (only same : Bool) → (only ≡ true → same ≡ true) → (not only || same) ≡ true
sid_meant true same h = h refl
sid_meant false same h = refl

pub meant_named : (message : Sent) (row : Live) → is_meant message row ≡ true → IsNamed message row
meant_named message row h =
    let both = and_parts (eqb row.client message.client && eqb row.user message.user) (not message.only || bytes_eq row.sid message.sid) h in
    let numbers = and_parts (eqb row.client message.client) (eqb row.user message.user) both.0 in
    record {
      client = same_number row.client message.client numbers.0;
      user = same_number row.user message.user numbers.1;
      sid = λ only. (bytes_eq-Decides row.sid message.sid).0 (sid_named message.only (bytes_eq row.sid message.sid) both.1 only);
    }

pub named_meant : (message : Sent) (row : Live) → IsNamed message row → is_meant message row ≡ true
named_meant message row named =
    and_from (eqb row.client message.client && eqb row.user message.user) (not message.only || bytes_eq row.sid message.sid)
    (and_from (eqb row.client message.client) (eqb row.user message.user) (number_same row.client message.client named.client) (number_same row.user message.user named.user))
    (sid_meant message.only (bytes_eq row.sid message.sid) (λ only. (bytes_eq-Decides row.sid message.sid).1 (named.sid only)))

-- ---- what is left

pub filter_passes : {A : Type 0} (test : A → Bool) (xs : List A) (x : A) → Has (filter test xs) x → test x ≡ true
filter_passes test [] x has = absurd has
filter_passes test (y ∷ ys) x has =
    let HasIf : Bool → Type 0 = λ b. Has (cond b (y ∷ filter test ys) (filter test ys)) x in
    elim (bool_cases (test y)) [
      | inl passes ↦ elim (subst HasIf passes has) [ inl same ↦ ap test (sym same) ∙ passes | inr rest ↦ filter_passes test ys x rest ]
      | inr fails ↦ filter_passes test ys x (subst HasIf fails has)
    ]

pub none_left : (message : Sent) (rows : List Live) (row : Live) → IsNamed message row → Has (filter (λ r. not (is_meant message r)) rows) row → ⊥
none_left message rows row named has =
    let stays : not (is_meant message row) ≡ true = filter_passes (λ r. not (is_meant message r)) rows row has in
    let clash : false ≡ true = sym (ap not (named_meant message row named)) ∙ stays in
    cc

pub others_stay : (message : Sent) (rows : List Live) (row : Live) → (IsNamed message row → ⊥) → Has rows row → Has (filter (λ r. not (is_meant message r)) rows) row
others_stay message rows row other has =
    has_filter (λ r. not (is_meant message r)) rows row
    (elim (bool_cases (is_meant message row)) [ inl meant ↦ absurd (other (meant_named message row meant)) | inr spared ↦ ap not spared ])
    has
