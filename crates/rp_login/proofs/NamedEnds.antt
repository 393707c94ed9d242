-- The sessions that equal each given part end, and no others.
use Rattle.std.proofs.Common.{◌≡◌, ◌+◌, Bool, true, not, cond, List, [], ◌∷◌, ◌++◌, filter, length, Option, Some, None, option_and_then, IfSome, inl, inr, refl, sym, ◌∙◌, ap}
use Rattle.std.proofs.lemmas.Bool.{and_parts, and_from}
use Rattle.std.proofs.lemmas.List.Elements.{filter-append}
use Rattle.std.proofs.lemmas.List.Filters.{length-filter_both}
use Rattle.sso_base.specs.Words.{Word, Text}
use Rattle.sso_base.specs.Rows.{row_of}
use Rattle.sso_base.proofs.RowLaws.{bool_cases, bytes_same, bytes_true}
use Rattle.rp_login.specs.declared.rows.SessionRow.{SessionRow}
use Rattle.rp_login.specs.Named.{fits_text, is_meant, IsMeant}
use Rattle.rp_login.specs.Rows.{visit_name}
use Rattle.rp_login.specs.Tables.{Tables, AreVisits, named_count}
use Rattle.rp_login.specs.Calls.{end_named, after}
use Rattle.held_rows.proofs.RowOf.{row_of-filter, row_of-filter_found}

-- ---- what it means that a session equals each given part

fits_subject : (part : Option Text) (text : Text) → fits_text part (Some text) ≡ true → IfSome part (λ given. text ≡ given)
fits_subject None text h = tt
fits_subject (Some given) text h = sym (bytes_same given text h)

fits_session : (part text : Option Text) → fits_text part text ≡ true → IfSome part (λ given. text ≡ Some given)
fits_session None text h = tt
fits_session (Some given) None h = cc
fits_session (Some given) (Some text) h = ap Some (sym (bytes_same given text h))

subject_fits : (part : Option Text) (text : Text) → IfSome part (λ given. text ≡ given) → fits_text part (Some text) ≡ true
subject_fits None text h = refl
subject_fits (Some given) text h = bytes_true given text (sym h)

session_fits : (part text : Option Text) → IfSome part (λ given. text ≡ Some given) → fits_text part text ≡ true
session_fits None text h = refl
session_fits (Some given) None h = (let k : None ≡ Some given = h in cc)
session_fits (Some given) (Some text) h = bytes_true given text (let same : text ≡ given = (let k : Some text ≡ Some given = h in cc) in sym same)

pub meant_equals : (sub sid : Option Text) (visit : SessionRow) → is_meant sub sid visit ≡ true → IsMeant sub sid visit
meant_equals sub sid visit h =
    let parts = and_parts (fits_text sub (Some visit.sub)) (fits_text sid visit.sid) h in
    record { subject = fits_subject sub visit.sub parts.0; session = fits_session sid visit.sid parts.1 }

pub equals_meant : (sub sid : Option Text) (visit : SessionRow) → IsMeant sub sid visit → is_meant sub sid visit ≡ true
equals_meant sub sid visit h =
    and_from (fits_text sub (Some visit.sub)) (fits_text sid visit.sid) (subject_fits sub visit.sub h.subject) (session_fits sid visit.sid h.session)

-- where no part is given, every session is meant
pub all_meant : (visits : List SessionRow) → filter (is_meant None None) visits ≡ visits
all_meant [] = refl
all_meant (visit ∷ visits) = ap (λ (rest : List SessionRow). visit ∷ rest) (all_meant visits)

-- ---- what ends, and what stays

abbrev unmeant : Option Text → Option Text → SessionRow → Bool
unmeant sub sid visit = not (is_meant sub sid visit)

pub meant_end : (sub sid : Option Text) (w : Word) (visit : SessionRow) (t : Tables) → AreVisits t.visits → row_of visit_name w t.visits ≡ Some visit → IsMeant sub sid visit
    → row_of visit_name w (after (end_named sub sid) t).visits ≡ None
meant_end sub sid w visit t held found meant =
    let K : Option SessionRow → Option SessionRow = λ o. option_and_then (λ r. cond (unmeant sub sid r) (Some r) None) o in
    let C : Bool → Option SessionRow = λ b. cond (not b) (Some visit) None in
    row_of-filter visit_name (unmeant sub sid) w t.visits held.distinct ∙ ap K found ∙ ap C (equals_meant sub sid visit meant)

pub others_stay : (sub sid : Option Text) (w : Word) (visit : SessionRow) (t : Tables) → row_of visit_name w t.visits ≡ Some visit → (IsMeant sub sid visit → ⊥)
    → row_of visit_name w (after (end_named sub sid) t).visits ≡ Some visit
others_stay sub sid w visit t found other =
    elim (bool_cases (is_meant sub sid visit)) [
      | inl e ↦ absurd (other (meant_equals sub sid visit e))
      | inr e ↦ row_of-filter_found visit_name (unmeant sub sid) w visit t.visits found (ap not e)
    ]

pub order_stays : (sub sid : Option Text) (front rest : List SessionRow) (t : Tables) → t.visits ≡ front ++ rest
    → (after (end_named sub sid) t).visits ≡ (after (end_named sub sid) (record t { visits = front })).visits ++ (after (end_named sub sid) (record t { visits = rest })).visits
order_stays sub sid front rest t parts =
    let F : List SessionRow → List SessionRow = λ rows. filter (unmeant sub sid) rows in
    ap F parts ∙ filter-append (unmeant sub sid) front rest

pub count_ends : (sub sid : Option Text) (t : Tables) → named_count sub sid t + length (after (end_named sub sid) t).visits ≡ length t.visits
count_ends sub sid t = length-filter_both (is_meant sub sid) (unmeant sub sid) (λ visit. refl) t.visits
