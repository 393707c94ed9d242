-- The machine's live sessions and a party's live visits, after time went by and after a visit more.
use Rattle.std.proofs.Common.{◌≡◌, ℕ, ◌+◌, ◌<◌, ◌≤◌, nat_le, nat_lt, not, ◌==◌, ◌&&◌, ◌||◌, Bool, true, false, cond, List, [], ◌∷◌, ◌++◌, filter, filter_map, Option, Some, None, option_and_then, Ok, Err, inl, inr, refl, sym, ap, ◌∙◌, subst, eq-eqb, ne_eqb, arith}
use Rattle.std.specs.Str.{bytes_eq}
use Rattle.std.proofs.lemmas.Bool.{ltb-true, lt-ltb, eqb-true}
use Rattle.std.proofs.lemmas.Bool.Decides.{leb_tells}
use Rattle.std.proofs.lemmas.List.{append-nil}
use Rattle.std.proofs.lemmas.List.Elements.{filter-append}
use Rattle.sso_base.specs.Legal.{last_moment}
use Rattle.sso_base.specs.Words.{Word, is_word}
use Rattle.sso_base.specs.Rows.{without, put, row_of, lives, live_rows}
use Rattle.sso_base.proofs.Lives.{live_later}
use Rattle.sso_base.proofs.RowLaws.{bool_cases}
use Rattle.sso_model.specs.Rows.{Live}
use Rattle.oidc_words.specs.declared.response_types.Types.{Types}
use Rattle.rp_login.specs.declared.rows.SessionRow.{SessionRow}
use Rattle.oidc_words.specs.Lives.{visit_life}
use Rattle.rp_login.specs.Rows.{visit_name, visit_begun}
use Rattle.rp_exchange.specs.declared.ask.RpAsk.{RpAsk}
use Rattle.rp_exchange.specs.declared.ask.RpAsk.TheVariants as ask
use Rattle.rp_exchange.specs.declared.reply.RpReply.{RpReply}
use Rattle.rp_exchange.specs.declared.reply.RpReply.TheVariants as rp
use Rattle.rp_answer.specs.Asked.{token_accepted}
use Rattle.logout_token.specs.declared.claims.LogoutClaims.{LogoutClaims}
use Rattle.rp_answer.specs.Past.{RpPair, RpPast}
use Rattle.rp_answer.specs.Visits.{visits, visit_made, visit_kept, session_left, is_named, live_visits}
use Rattle.sso_places.specs.Site.{Site, client_of_party, types_at}
use Rattle.sso_places.specs.World.{Place, World, moment_of, place_at}
use Rattle.sso_places.specs.Reading.{is_after, is_over}
use Rattle.sso_places.specs.Each.{Each}
use Rattle.sso_places.specs.Agreement.{IsSameSession, rows_of}
use Rattle.sign_on.proofs.Lists.{each_filter, filter_swap, filter_other, filter_both, filter_keeps, dropped, all_of}

pub not_le : (a b : ℕ) → not (nat_le a b) ≡ nat_lt b a
not_le a b =
    elim (leb_tells a b) [
      | inl e ↦ elim (bool_cases (nat_lt b a)) [ inl t ↦ (let low : b < a = ltb-true b a t in absurd (omega arith)) | inr f ↦ ap not e.0 ∙ sym f ]
      | inr e ↦ ap not e.0 ∙ sym (lt-ltb b a (omega arith))
    ]

-- the sessions of a machine that are not over
abbrev pub settled : World → ℕ → ℕ → List Live → List Live
settled world client at live = filter (λ row. not (is_over world client at row)) live

-- a session of any client was entered long ago
abbrev is_old : World → ℕ → Live → Bool
is_old world at row = is_after visit_life at (option_and_then moment_of (place_at world row.event))

-- a session is old exactly when its visit does not live any more
old_as_visit : (s : Site) (world : World) (n at : ℕ) (row : Live) (visit : SessionRow) → IsSameSession s world n row visit → not (is_old world at row) ≡ lives visit_life visit.entered at
old_as_visit s world n at row visit same =
    let F : Option Place → Bool = λ o. not (is_after visit_life at (option_and_then moment_of o)) in
    let G : ℕ → Bool = λ k. not (nat_le (k + visit_life) at) in
    ap F same.place ∙ ap G same.moment ∙ not_le (visit.entered + visit_life) at

-- of the client's own sessions those are left that are not old
own_settled : (world : World) (client at : ℕ) (live : List Live) → rows_of client (settled world client at live) ≡ filter (λ row. not (is_old world at row)) (rows_of client live)
own_settled world client at live =
    filter_swap (λ (row : Live). row.client == client) (λ (row : Live). not (is_over world client at row)) (λ (row : Live). not (is_old world at row)) live
    (λ row own. let T : Bool → Bool = λ b. not (b && is_old world at row) in ap T own)

-- of another client's sessions all are left
pub other_settled : (world : World) (client other at : ℕ) (live : List Live) → (other ≡ client → ⊥) → rows_of other (settled world client at live) ≡ rows_of other live
other_settled world client other at live apart =
    filter_other (λ (row : Live). row.client == other) (λ (row : Live). not (is_over world client at row)) live
    (λ row own.
    let T : Bool → Bool = λ b. not (b && is_old world at row) in
    ap T (ne_eqb row.client client (λ same. apart (sym (eqb-true row.client other own) ∙ same))))

-- the sessions that are not over at a later moment are the visits that live then
pub sessions_settled : (s : Site) (world : World) (n at : ℕ) (live : List Live) (past : RpPast) → Each (IsSameSession s world n) (rows_of (client_of_party s n) live) (live_visits (types_at s n) past (last_moment past)) → last_moment past ≤ at
    → Each (IsSameSession s world n) (rows_of (client_of_party s n) (settled world (client_of_party s n) at live)) (live_visits (types_at s n) past at)
sessions_settled s world n at live past agree order =
    let client : ℕ = client_of_party s n in
    let types : Types = types_at s n in
    let E : List SessionRow → Type 0 = λ ys. Each (IsSameSession s world n) (filter (λ row. not (is_old world at row)) (rows_of client live)) ys in
    let L : List Live → Type 0 = λ xs. Each (IsSameSession s world n) xs (live_visits types past at) in
    subst L (sym (own_settled world client at live))
    (subst E (live_later visit_life visit_begun (last_moment past) at order (visits types past))
    (each_filter (IsSameSession s world n) (λ row. not (is_old world at row)) (λ visit. lives visit_life visit.entered at) (rows_of client live) (live_visits types past (last_moment past)) (old_as_visit s world n at) agree))

-- ---- one row more

pub own_pushed : (client : ℕ) (live : List Live) (row : Live) → row.client ≡ client → rows_of client (live ++ row ∷ []) ≡ rows_of client live ++ row ∷ []
own_pushed client live row same =
    let A : Bool → List Live = λ b. rows_of client live ++ cond b (row ∷ []) [] in
    filter-append (λ (r : Live). r.client == client) live (row ∷ []) ∙ ap A (eq-eqb row.client client same)

pub other_pushed : (client : ℕ) (live : List Live) (row : Live) → (row.client ≡ client → ⊥) → rows_of client (live ++ row ∷ []) ≡ rows_of client live
other_pushed client live row apart =
    let A : Bool → List Live = λ b. rows_of client live ++ cond b (row ∷ []) [] in
    filter-append (λ (r : Live). r.client == client) live (row ∷ []) ∙ ap A (ne_eqb row.client client apart) ∙ append-nil (rows_of client live)

-- ---- the visits that a pair ends

-- its browser leaves, or an accepted logout token names it
abbrev pub is_ended : RpPair → SessionRow → Bool
is_ended p row = is_word (session_left p.entry.ask p.reply) row.word || is_named (token_accepted p.entry.ask p.reply) row

-- those that are left by a pair that makes none
pub visits_left : (types : Types) (past : RpPast) (p : RpPair) → visit_made types (visits types past) past p ≡ None → visits types (p ∷ past) ≡ filter (λ row. not (is_ended p row)) (visits types past)
visits_left types past p made =
    let P : Option SessionRow → List SessionRow = λ o. put visit_name o (filter_map (visit_kept past p) (visits types past)) in
    ap P made ∙ dropped (is_ended p) (visits types past)

pub live_left : (types : Types) (past : RpPast) (p : RpPair) (at : ℕ) → visit_made types (visits types past) past p ≡ None → live_visits types (p ∷ past) at ≡ filter (λ row. not (is_ended p row)) (live_visits types past at)
live_left types past p at made =
    let L : List SessionRow → List SessionRow = λ rows. live_rows visit_life visit_begun at rows in
    ap L (visits_left types past p made) ∙ filter_both (λ (row : SessionRow). lives visit_life row.entered at) (λ (row : SessionRow). not (is_ended p row)) (visits types past)

-- only these replies end any
abbrev pub ends_none : RpReply → Bool
ends_none (rp.Left ended) = false
ends_none (rp.Ended count) = false
ends_none reply = true

left_none : (asked : RpAsk) (reply : RpReply) → ends_none reply ≡ true → session_left asked reply ≡ None
left_none asked (rp.Left ended) h = absurd (cc)
left_none (ask.Leave session) reply h = refl
left_none asked reply h = refl

accepted_none : (asked : RpAsk) (reply : RpReply) → ends_none reply ≡ true → token_accepted asked reply ≡ None
accepted_none asked (rp.Ended count) h = absurd (cc)
accepted_none (ask.Logout (Ok claims)) reply h = refl
accepted_none (ask.Logout (Err why)) reply h = refl
accepted_none asked reply h = refl

pub none_ended : (p : RpPair) (row : SessionRow) → ends_none p.reply ≡ true → is_ended p row ≡ false
none_ended p row none =
    let L : Option Word → Bool = λ o. is_word o row.word || is_named (token_accepted p.entry.ask p.reply) row in
    let N : Option LogoutClaims → Bool = λ o. is_named o row in
    ap L (left_none p.entry.ask p.reply none) ∙ ap N (accepted_none p.entry.ask p.reply none)

all_stay : (p : RpPair) (rows : List SessionRow) → ends_none p.reply ≡ true → filter (λ row. not (is_ended p row)) rows ≡ rows
all_stay p rows none = filter_keeps (λ row. not (is_ended p row)) rows (all_of (λ (row : SessionRow). not (is_ended p row) ≡ true) rows (λ row has. ap not (none_ended p row none)))

-- ---- one visit more

without_none : {R : Type 0} (name : R → Word) (w : Word) (rows : List R) → row_of name w rows ≡ None → without name w rows ≡ rows
without_none name w [] none = refl
without_none {R} name w (r ∷ rs) none =
    let F : Bool → List R = λ b. cond b (without name w rs) (r ∷ without name w rs) in
    let G : Bool → Option R = λ b. cond b (Some r) (row_of name w rs) in
    elim (bool_cases (bytes_eq (name r) w)) [
      | inl e ↦ (let never : Some r ≡ None = sym (ap G e) ∙ none in cc)
      | inr e ↦ ap F e ∙ ap (λ (xs : List R). r ∷ xs) (without_none name w rs (sym (ap G e) ∙ none))
    ]

-- a pair that makes no visit and ends none leaves them
pub live_same : (types : Types) (past : RpPast) (p : RpPair) (at : ℕ) → ends_none p.reply ≡ true → visit_made types (visits types past) past p ≡ None → live_visits types (p ∷ past) at ≡ live_visits types past at
live_same types past p at none made = live_left types past p at made ∙ all_stay p (live_visits types past at) none

-- one that makes a visit of a new word adds it at the end
pub visits_pushed : (types : Types) (past : RpPast) (p : RpPair) (visit : SessionRow) → ends_none p.reply ≡ true → visit_made types (visits types past) past p ≡ Some visit → row_of visit_name visit.word (visits types past) ≡ None
    → visits types (p ∷ past) ≡ visits types past ++ visit ∷ []
visits_pushed types past p visit ends made none =
    let P : Option SessionRow → List SessionRow = λ o. put visit_name o (filter_map (visit_kept past p) (visits types past)) in
    let W : List SessionRow → List SessionRow = λ rows. without visit_name visit.word rows ++ visit ∷ [] in
    let A : List SessionRow → List SessionRow = λ rows. rows ++ visit ∷ [] in
    ap P made ∙ ap W (dropped (is_ended p) (visits types past) ∙ all_stay p (visits types past) ends) ∙ ap A (without_none visit_name visit.word (visits types past) none)

-- a visit lives at the moment at which it begins
pub live_pushed : (rows : List SessionRow) (visit : SessionRow) (at : ℕ) → visit.entered ≡ at → live_rows visit_life visit_begun at (rows ++ visit ∷ []) ≡ live_rows visit_life visit_begun at rows ++ visit ∷ []
live_pushed rows visit at now =
    let p : SessionRow → Bool = λ row. lives visit_life row.entered at in
    let alive : lives visit_life visit.entered at ≡ true = lt-ltb at (visit.entered + visit_life) (omega arith) in
    let A : Bool → List SessionRow = λ b. live_rows visit_life visit_begun at rows ++ cond b (visit ∷ []) [] in
    filter-append p rows (visit ∷ []) ∙ ap A alive
