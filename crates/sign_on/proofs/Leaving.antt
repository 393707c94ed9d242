-- A browser leaves: the step of the place may be taken, and the invariant still holds.
use Rattle.std.proofs.Common.{◌≡◌, ℕ, suc, ◌<◌, ◌&&◌, ◌||◌, not, Bool, true, false, cond, List, [], ◌∷◌, length, filter, Option, Some, None, option_and_then, is_some, refl, sym, ap, ◌∙◌, subst, inl, inr, eq-eqb}
use Rattle.std.proofs.lemmas.Option.{same_Some}
use Rattle.std.proofs.lemmas.Bool.{eqb-true}
use Rattle.std.specs.Str.{bytes_eq}
use Rattle.sso_base.specs.Words.{Word, Text}
use Rattle.sso_base.specs.Rows.{row_of, lives, if_lives}
use Rattle.sso_base.specs.Stands.{IsDistinct}
use Rattle.sso_base.proofs.RowLaws.{bool_cases, option_cases, bytes_same, bytes_true, rows_distinct}
use Rattle.sso_model.specs.Lists.{Has}
use Rattle.sso_model.specs.Rows.{Live, Machine, Step, drop}
use Rattle.sso_model.specs.Machine.{is_of}
use Rattle.oidc_words.specs.Lives.{visit_life}
use Rattle.oidc_words.specs.declared.response_types.Types.{Types}
use Rattle.client_registry.specs.Configuration.{Configuration}
use Rattle.rp_login.specs.declared.rows.SessionRow.{SessionRow}
use Rattle.rp_login.specs.Rows.{visit_name, visit_begun}
use Rattle.rp_exchange.specs.declared.ask.RpAsk.{RpAsk}
use Rattle.rp_exchange.specs.declared.ask.RpAsk.TheVariants as ask
use Rattle.rp_exchange.specs.declared.reply.RpReply.TheVariants as rp
use Rattle.rp_request.specs.Requests.{HasCookies}
use Rattle.rp_request.proofs.Routing.{has_cookies}
use Rattle.rp_answer.specs.Past.{RpPair, RpPast}
use Rattle.rp_answer.specs.Visits.{visits, visit_made, visit_kept, live_visits, live_visit}
use Rattle.rp_answer.specs.Causes.{LeftCause}
use Rattle.rp_answer.proofs.KeptNames.{visit_names}
use Rattle.sso_model.proofs.ForgetRuns.{deads_filter}
use Rattle.sso_model.proofs.ListLaws.{all_filter}
use Rattle.sso_places.specs.declared.types.WorldAsk.{WorldAsk}
use Rattle.sso_places.specs.Site.{Site, IsSite, setup_at, client_of_party, types_at}
use Rattle.sso_places.specs.World.{Place, Party, World, place_at, rp_past, lets_in, entered_as}
use Rattle.sso_places.specs.Legal.{IsLegalWorld}
use Rattle.sso_places.specs.Premises.{HasDistinctWords, leaks}
use Rattle.sso_places.specs.Reading.{machine_of, party_steps, drop_of, is_forgotten}
use Rattle.sso_places.proofs.Numbers.{place_at_before, place_at_low, place_at_has}
use Rattle.sign_on.proofs.Lists.{filter_had, filter_keeps, all_of}
use Rattle.sign_on.proofs.Invariant.{IsKept, IsDeadRow}
use Rattle.sso_places.proofs.Places.{party_legal}
use Rattle.sign_on.proofs.Shared.{ended_more, dead_more}
use Rattle.sign_on.proofs.AskKinds.{IsRequest, as_request}
use Rattle.sign_on.proofs.OpSessions.{has_found}
use Rattle.sign_on.proofs.LiveRows.{is_ended, live_left}
use Rattle.sign_on.proofs.Pairs.{entered_finds}
use Rattle.sign_on.proofs.RpPlaces.{Does, nothing_done, fewer_done, place_entered, presents_second, Shown, shown, unforgotten}

-- ---- visits that live are found

live_found : (types : Types) (past : RpPast) (at : ℕ) (visit : SessionRow) → Has (live_visits types past at) visit → live_visit types past at (Some visit.word) ≡ Some visit
live_found types past at visit has =
    let had = filter_had (λ (row : SessionRow). lives visit_life row.entered at) (visits types past) visit has in
    let distinct : IsDistinct visit_name (visits types past) = rows_distinct visit_name (visit_made types) visit_kept visit_names past in
    let found : row_of visit_name visit.word (visits types past) ≡ Some visit = has_found visit_name (visits types past) visit distinct had.0 in
    let F : Option SessionRow → Option SessionRow = λ o. option_and_then (if_lives visit_life visit_begun at) o in
    let G : Bool → Option SessionRow = λ b. cond b (Some visit) None in
    ap F found ∙ ap G had.1

-- if a word has no live session, no live session has that word
none_lives : (types : Types) (past : RpPast) (at : ℕ) (w : Word) (visit : SessionRow) → is_some (live_visit types past at (Some w)) ≡ false → Has (live_visits types past at) visit → bytes_eq w visit.word ≡ false
none_lives types past at w visit none has =
    elim (bool_cases (bytes_eq w visit.word)) [
      | inl same ↦
          (let word : w ≡ visit.word = bytes_same w visit.word same in
          let L : Word → Bool = λ v. is_some (live_visit types past at (Some v)) in
          let never : true ≡ false = sym (ap is_some (live_found types past at visit has)) ∙ sym (ap L word) ∙ none in
          absurd (cc))
      | inr other ↦ other
    ]

-- ---- two places of one number are one

same_pair : (n k b d : ℕ) (r q : WorldAsk) (x y : RpPair) → Party n b r x ≡ Party k d q y → (n ≡ k) × (x ≡ y)
same_pair n k b d r q x y same = (cc, cc)

same_entered : (v w : Word) (t u : Text) → rp.Entered v t ≡ rp.Entered w u → v ≡ w
same_entered v w t u same = cc

-- ---- a browser leaves

module _ (s : Site) (n from at : ℕ) (request : WorldAsk) (fresh : List Word) (world : World) (site : IsSite s) (kept : IsKept s world) where
  abbrev pair : Option Word → Bool → RpPair
  pair presented ended = record { entry = record { at = at; fresh = fresh; ask = ask.Leave presented }; reply = rp.Left ended }

  abbrev here : Option Word → Bool → Place
  here presented ended = Party n from request (pair presented ended)

  abbrev c : Configuration
  c = s.configuration

  abbrev m : Machine
  m = machine_of s world

  abbrev types : Types
  types = types_at s n

  abbrev past : RpPast
  past = rp_past n world

  -- no session lives under the word
  nobody_left : (w : Word) → IsLegalWorld s (here (Some w) false ∷ world) → is_some (live_visit types past at (Some w)) ≡ false → Does s n from request (pair (Some w) false) world
  nobody_left w legal none =
      let p : RpPair = pair (Some w) false in
      let visits_at : List SessionRow = live_visits types past at in
      let stay : filter (λ visit. not (is_ended p visit)) visits_at ≡ visits_at =
      filter_keeps (λ (visit : SessionRow). not (is_ended p visit)) visits_at
      (all_of (λ (visit : SessionRow). not (is_ended p visit) ≡ true) visits_at
      (λ visit has. let E : Bool → Bool = λ b. not (b || false) in ap E (none_lives types past at w visit none has))) in
      let unmade : visit_made types (visits types past) past p ≡ None = refl in
      nothing_done s n from request p world site legal.asked.0.0 (party_legal s n from request p world legal).2 kept (live_left types past p at unmade ∙ stay) refl refl tt

  -- there is no word
  without_word : IsLegalWorld s (here None false ∷ world) → Does s n from request (pair None false) world
  without_word legal =
      let p : RpPair = pair None false in
      let visits_at : List SessionRow = live_visits types past at in
      let stay : filter (λ visit. not (is_ended p visit)) visits_at ≡ visits_at =
      filter_keeps (λ (visit : SessionRow). not (is_ended p visit)) visits_at (all_of (λ (visit : SessionRow). not (is_ended p visit) ≡ true) visits_at (λ visit has. refl)) in
      let unmade : visit_made types (visits types past) past p ≡ None = refl in
      nothing_done s n from request p world site legal.asked.0.0 (party_legal s n from request p world legal).2 kept (live_left types past p at unmade ∙ stay) refl refl tt

  -- the session that the cookie names ends
  leaves : (w : Word) (visit : SessionRow) → IsLegalWorld s (here (Some w) true ∷ world) → HasDistinctWords (here (Some w) true ∷ world) → leaks world (here (Some w) true) ≡ false
      → live_visit types past at (Some w) ≡ Some visit → Does s n from request (pair (Some w) true) world
  leaves w visit legal distinct tight live =
      let p : RpPair = pair (Some w) true in
      let x : Place = here (Some w) true in
      let client : ℕ = client_of_party s n in
      let mine : n < length c.parties = legal.asked.0.0 in
      let own = party_legal s n from request p world legal in
      let came : IsRequest c n request (ask.Leave (Some w)) = as_request c n request (ask.Leave (Some w)) legal.asked.0.1 refl in
      let C : RpAsk → Type 0 = λ a. HasCookies came.request a in
      let cookie : Some w ≡ came.request.second = subst C came.asked_is (has_cookies c n came.request) in
      let sh : Shown s n from at world w visit = shown s n from request p world w visit legal distinct tight kept (presents_second n from request p came.request w came.came_is cookie) live in
      let event : ℕ = sh.row.event in
      let k : Live → Bool = λ row. not (is_of event row) in
      let T : Option ℕ → List Step = λ o. drop_of o client from ∷ [] in
      let steps : party_steps s world m.out n from past p p.entry.ask p.reply ≡ drop event client from ∷ [] = ap T sh.number in
      let unmade : visit_made types (visits types past) past p ≡ None = refl in
      -- its place in the world with this place
      let held : place_at (x ∷ world) event ≡ Some (Party n sh.row.browser sh.same.request sh.same.pair) =
      place_at_before x world event (place_at_low world event (Party n sh.row.browser sh.same.request sh.same.pair) sh.same.place) ∙ sh.same.place in
      -- this place lets nobody in
      let E : Bool → Bool = λ b. b && false in
      let away : lets_in n w x ≡ false = ap E (eq-eqb n n refl) in
      let Q : Bool → Option ℕ = λ b. cond b (Some (suc (length world))) (entered_as n w world) in
      let number : entered_as n w (x ∷ world) ≡ Some event = ap Q away ∙ sh.number in
      fewer_done s n from request p world k m.ended (unforgotten past client at m.dead) (drop event client from ∷ []) site mine own.2 kept unmade
      (λ row other same of_client.
      let place : Place = Party n row.browser same.request same.pair in
      let B : Bool → Bool = λ b. not (b || false) in
      let N : Bool → Bool = λ b. not b in
      elim (bool_cases (bytes_eq w other.word)) [
        | inl e ↦
            (let word : w ≡ other.word = bytes_same w other.word e in
            let drew = place_entered s (x ∷ world) n row.browser same.request same.pair other.word other.sub legal (place_at_has (x ∷ world) row.event place same.place) same.reply in
            let its : entered_as n other.word (x ∷ world) ≡ Some row.event =
            entered_finds s (x ∷ world) n row.event row.browser same.request same.pair other.word other.sub legal distinct same.place same.reply drew.0 drew.1 in
            let A : Word → Option ℕ = λ v. entered_as n v (x ∷ world) in
            let numbers : row.event ≡ event = same_Some row.event event (sym its ∙ sym (ap A word) ∙ number) in
            ap N (eq-eqb row.event event numbers) ∙ sym (ap B e))
        | inr e ↦
            (let apart : is_of event row ≡ false =
            elim (bool_cases (is_of event row)) [
              | inl here_too ↦
                  (let numbers : row.event ≡ event = eqb-true row.event event here_too in
                  let P : ℕ → Option Place = λ j. place_at (x ∷ world) j in
                  let places : place ≡ Party n sh.row.browser sh.same.request sh.same.pair = same_Some place (Party n sh.row.browser sh.same.request sh.same.pair) (sym same.place ∙ ap P numbers ∙ held) in
                  let pairs : same.pair ≡ sh.same.pair = (same_pair n n row.browser sh.row.browser same.request sh.same.request same.pair sh.same.pair places).1 in
                  let words : other.word ≡ visit.word = same_entered other.word visit.word other.sub visit.sub (sym same.reply ∙ ap (λ (q : RpPair). q.reply) pairs ∙ sh.same.reply) in
                  let never : true ≡ false = sym (bytes_true w other.word (sym (words ∙ sh.word_is))) ∙ e in
                  absurd (cc))
              | inr off ↦ off
            ] in
            ap N apart ∙ sym (ap B e))
      ])
      (λ j known other row visit_j same of_client.
      let place : Place = Party j row.browser same.request same.pair in
      let N : Bool → Bool = λ b. not b in
      elim (bool_cases (is_of event row)) [
        | inl here_too ↦
            (let numbers : row.event ≡ event = eqb-true row.event event here_too in
            let P : ℕ → Option Place = λ i. place_at (x ∷ world) i in
            let places : place ≡ Party n sh.row.browser sh.same.request sh.same.pair = same_Some place (Party n sh.row.browser sh.same.request sh.same.pair) (sym same.place ∙ ap P numbers ∙ held) in
            absurd (other (sym (same_pair j n row.browser sh.row.browser same.request sh.same.request same.pair sh.same.pair places).0)))
        | inr off ↦ ap N off
      ])
      steps
      ((sh.row, sh.has, refl, sh.client_is, sh.browser_is), tt)
      refl
      (ended_more s x world m.ended kept.holds.ended)
      (dead_more s x world (unforgotten past client at m.dead) (all_filter (IsDeadRow s world) (λ row. not (is_forgotten past client at row)) m.dead kept.holds.dead))
      (deads_filter (λ row. not (is_forgotten past client at row)) m.dead kept.holds.dead_apart)
      refl tt

pub left_done : (s : Site) (n from at : ℕ) (request : WorldAsk) (fresh : List Word) (asked : RpAsk) (ended : Bool) (world : World) → IsSite s
    → IsLegalWorld s (Party n from request (record { entry = record { at = at; fresh = fresh; ask = asked }; reply = rp.Left ended }) ∷ world)
    → HasDistinctWords (Party n from request (record { entry = record { at = at; fresh = fresh; ask = asked }; reply = rp.Left ended }) ∷ world)
    → leaks world (Party n from request (record { entry = record { at = at; fresh = fresh; ask = asked }; reply = rp.Left ended })) ≡ false → IsKept s world
    → LeftCause (setup_at s n) (rp_past n world) (record { at = at; fresh = fresh; ask = asked }) asked ended
    → Does s n from request (record { entry = record { at = at; fresh = fresh; ask = asked }; reply = rp.Left ended }) world
left_done s n from at request fresh (ask.Leave (Some w)) true world site legal distinct tight kept cause =
    elim (option_cases (live_visit (types_at s n) (rp_past n world) at (Some w))) [
      | inl none ↦ (let never : false ≡ true = sym (ap is_some none) ∙ cause in absurd (cc))
      | inr some ↦ leaves s n from at request fresh world site kept w some.0 legal distinct tight some.1
    ]
left_done s n from at request fresh (ask.Leave (Some w)) false world site legal distinct tight kept cause = nobody_left s n from at request fresh world site kept w legal cause
left_done s n from at request fresh (ask.Leave None) true world site legal distinct tight kept cause = (let never : false ≡ true = cause in absurd (cc))
left_done s n from at request fresh (ask.Leave None) false world site legal distinct tight kept cause = without_word s n from at request fresh world site kept legal
left_done s n from at request fresh asked ended world site legal distinct tight kept cause = absurd cause
