-- A logout token is accepted: the step of the place may be taken, and the invariant still holds.
use Rattle.std.proofs.Common.{◌≡◌, ◌≢◌, ℕ, suc, ◌+◌, ◌<◌, ◌≤◌, ◌==◌, ◌&&◌, ◌||◌, ◌^◌, not, Bool, true, false, cond, List, [], ◌∷◌, ◌++◌, length, filter, Option, Some, None, option_map, option_and_then, Ok, refl, sym, ap, ◌∙◌, subst, inl, inr, eq-eqb, ne_eqb, arith}
use Rattle.std.proofs.lemmas.Option.{same_Some}
use Rattle.std.proofs.lemmas.Bool.{eqb-true, and_parts}
use Rattle.std.specs.List.{AllByRecursion}
use Rattle.std.specs.Str.{bytes_eq}
use Rattle.sso_base.specs.Words.{Word, Text, fresh_word}
use Rattle.sso_base.specs.Texts.{is_given}
use Rattle.sso_base.proofs.Histories.{earlier_is_legal}
use Rattle.sso_base.proofs.RowLaws.{bool_cases, bytes_same, bytes_true, bytes_turn, row_of-more}
use Rattle.sso_base.specs.Stands as stands
use Rattle.sso_model.specs.Lists.{Has, Lacks}
use Rattle.sso_model.specs.Rows.{Sent, Live, Machine, Step, end, Dead}
use Rattle.sso_model.specs.Machine.{is_meant as is_meant_row, dead_of, is_dead, without_dead, with_dead}
use Rattle.sso_model.proofs.ListLaws.{all_has, all_filter}
use Rattle.client_registry.specs.Configuration.{Configuration, subject_at}
use Rattle.client_registry.specs.Numbers.{party_client}
use Rattle.login_request.proofs.PartyRows.{client_is_known}
use Rattle.logout_token.specs.declared.claims.LogoutClaims.{LogoutClaims}
use Rattle.logout_token.specs.Judging.{IsGoodLogoutToken}
use Rattle.logout_token.proofs.Good.{passes_good}
use Rattle.oidc_words.specs.declared.response_types.Types.{Types}
use Rattle.op_issue.specs.Issued.{if_wished}
use Rattle.op_issue.specs.LogoutTokens.{logout_id}
use Rattle.op_issue.proofs.Identifiers.{ids_tell}
use Rattle.rp_login.specs.declared.rows.SessionRow.{SessionRow}
use Rattle.rp_login.specs.Named.{fits_text, is_meant}
use Rattle.rp_exchange.specs.declared.ask.RpAsk.{RpAsk}
use Rattle.rp_exchange.specs.declared.ask.RpAsk.TheVariants as ask
use Rattle.rp_exchange.specs.declared.reply.RpReply.TheVariants as rp
use Rattle.rp_exchange.specs.Values.{IsRpAsk}
use Rattle.rp_request.specs.Prepared.{logout_token_in}
use Rattle.client_keys.specs.Opening.{opening}
use Rattle.rp_request.specs.Opened.{logout_read_for, IsLogoutTokenFor}
use Rattle.rp_request.proofs.Opened.{token-logout_read_for}
use Rattle.rp_request.proofs.Logouts.{logout_opened}
use Rattle.rp_answer.specs.Past.{RpPair, RpPast}
use Rattle.rp_answer.specs.Setup.{PartySetup, client_of}
use Rattle.rp_answer.specs.Visits.{visits, visit_made, live_visits}
use Rattle.rp_answer.specs.Causes.{EndedCause, LogoutAccepted}
use Rattle.rp_answer.specs.Legal.{IsLegalRp}
use Rattle.rp_answer.specs.Endings.{Accepts}
use Rattle.rp_answer.specs.Answering.{rp_answer}
use Rattle.rp_answer.proofs.Answers.{ended_has_a_cause}
use Rattle.rp_answer.proofs.TokensOnce.{tokens_apart}
use Rattle.sso_model.proofs.ForgetRuns.{deads_filter, deads_with}
use Rattle.rp_login.specs.declared.rows.DeadRow.{DeadRow}
use Rattle.rp_login.specs.Rows.{dead_name}
use Rattle.rp_answer.specs.Deads.{deads, dead_at, dead_made, dead_kept}
use Rattle.rp_answer.proofs.KeptNames.{dead_names}
use Rattle.sso_base.specs.Rows.{row_of}
use Rattle.sso_places.specs.declared.types.WorldAsk.{WorldAsk}
use Rattle.sso_places.specs.Each.{Each}
use Rattle.sso_places.specs.Site.{Site, IsSite, setup_at, client_of_party, types_at}
use Rattle.sso_places.specs.World.{Place, Party, World, place_at, moment_of, rp_past, fresh_of}
use Rattle.sso_places.specs.Legal.{IsLegalWorld}
use Rattle.sso_places.specs.Tokens.{TokenText}
use Rattle.sso_places.specs.Written.{written}
use Rattle.sso_places.specs.Checked.{rp_checked, logout_checked}
use Rattle.sso_places.specs.Premises.{HasDistinctWords, forges}
use Rattle.sso_places.specs.Reading.{machine_of, party_steps, end_of, jti_at, has_jti, message_named, user_of_subject, is_forgotten}
use Rattle.sso_places.specs.Agreement.{IsSameSession, rows_of}
use Rattle.sso_places.proofs.Numbers.{place_at_has}
use Rattle.sign_on.proofs.Lists.{each_filter, each_length, each_weaker, filter_other, all_kept}
use Rattle.sign_on.proofs.Invariant.{SentAs, IsTokenSent, IsSentRow, AreSentApart, IsEndedRow, IsKept, IsDeadRow}
use Rattle.sso_places.proofs.Places.{party_legal, distinct_before, past_own, drawn_other, place_drawn}
use Rattle.sign_on.proofs.Shared.{was_written, at_more, ended_more, dead_more}
use Rattle.sign_on.proofs.Registry.{subject_finds, finds_subject, parties_apart}
use Rattle.sign_on.proofs.Keys.{logout_sealed_for}
use Rattle.sign_on.proofs.AskKinds.{IsRequest, as_request}
use Rattle.sign_on.proofs.LiveRows.{settled, sessions_settled}
use Rattle.sign_on.proofs.RpPlaces.{Does, fewer_done, unforgotten}
use Rattle.request_params.specs.Form.{posted}

-- ---- which message a `jti` names

-- two numbers of places that drew one word are one
one_number : (world : World) (j k i : ℕ) (x y : Place) → HasDistinctWords world → i < 4 → length (fresh_of x) ≡ 4 → length (fresh_of y) ≡ 4 → place_at world j ≡ Some x → place_at world k ≡ Some y
    → fresh_word (fresh_of x) i ≡ fresh_word (fresh_of y) i → j ≡ k
one_number [] j k i x y distinct low four_x four_y at_x at_y same = cc
one_number (z ∷ world) j k i x y distinct low four_x four_y at_x at_y same =
    let n : ℕ = suc (length world) in
    let F : ℕ → Bool → Option Place = λ number b. cond b (Some z) (place_at world number) in
    let W : Place → Word = λ v. fresh_word (fresh_of v) i in
    elim (bool_cases (j == n)) [
      | inl e ↦
          elim (bool_cases (k == n)) [
            | inl f ↦ eqb-true j n e ∙ sym (eqb-true k n f)
            | inr f ↦
                (let here : z ≡ x = same_Some z x (sym (ap (F j) e) ∙ at_x) in
                let there : Has world y = place_at_has world k y (sym (ap (F k) f) ∙ at_y) in
                let four : length (fresh_of z) ≡ 4 = ap (λ (v : Place). length (fresh_of v)) here ∙ four_x in
                absurd (drawn_other z world i (W y) distinct low four (place_drawn world y i there low four_y) (sym same ∙ sym (ap W here))))
          ]
      | inr e ↦
          elim (bool_cases (k == n)) [
            | inl f ↦
                (let here : z ≡ y = same_Some z y (sym (ap (F k) f) ∙ at_y) in
                let there : Has world x = place_at_has world j x (sym (ap (F j) e) ∙ at_x) in
                let four : length (fresh_of z) ≡ 4 = ap (λ (v : Place). length (fresh_of v)) here ∙ four_y in
                absurd (drawn_other z world i (W x) distinct low four (place_drawn world x i there low four_x) (same ∙ sym (ap W here))))
            | inr f ↦ one_number world j k i x y (distinct_before z world distinct) low four_x four_y (sym (ap (F j) e) ∙ at_x) (sym (ap (F k) f) ∙ at_y) same
          ]
    ]

-- no two messages have one place and one client
apart_one : (rows : List Sent) (a b : Sent) → AreSentApart rows → Has rows a → Has rows b → a.place ≡ b.place → a.client ≡ b.client → a ≡ b
apart_one [] a b apart has_a has_b places clients = absurd has_a
apart_one (r ∷ rows) a b apart (inl first) (inl second) places clients = sym first ∙ second
apart_one (r ∷ rows) a b apart (inl first) (inr second) places clients =
    let other = all_has (λ (o : Sent). o.place ≡ r.place → o.client ≢ r.client) rows b apart.0 second in
    absurd (other (sym places ∙ sym (ap (λ (o : Sent). o.place) first)) (sym clients ∙ sym (ap (λ (o : Sent). o.client) first)))
apart_one (r ∷ rows) a b apart (inr first) (inl second) places clients =
    let other = all_has (λ (o : Sent). o.place ≡ r.place → o.client ≢ r.client) rows a apart.0 first in
    absurd (other (places ∙ sym (ap (λ (o : Sent). o.place) second)) (clients ∙ sym (ap (λ (o : Sent). o.client) second)))
apart_one (r ∷ rows) a b apart (inr first) (inr second) places clients = apart_one rows a b apart.1 first second places clients

-- a `jti` is that of one place
named_there : (c : Configuration) (world : World) (client : ℕ) (jti : Text) (row : Sent) (s : IsSentRow c world row) → has_jti world client jti row ≡ true
    → (row.client ≡ client) × (logout_id (fresh_word (fresh_of s.place) 0) client ≡ jti)
named_there c world client jti row s named =
    let parts = and_parts (row.client == client) (is_given jti (jti_at client (place_at world row.place))) named in
    let G : Option Place → Bool = λ o. is_given jti (jti_at client o) in
    let given : bytes_eq (logout_id (fresh_word (fresh_of s.place) 0) client) jti ≡ true = sym (ap G s.there) ∙ parts.1 in
    (eqb-true row.client client parts.0, bytes_same (logout_id (fresh_word (fresh_of s.place) 0) client) jti given)

one_named : (c : Configuration) (world : World) (rows : List Sent) (client : ℕ) (jti : Text) (a b : Sent) → HasDistinctWords world → AreSentApart rows → AllByRecursion (IsSentRow c world) rows → client < 2 ^ 64
    → Has rows a → Has rows b → has_jti world client jti a ≡ true → has_jti world client jti b ≡ true → a ≡ b
one_named c world rows client jti a b distinct apart all low has_a has_b named_a named_b =
    let s : IsSentRow c world a = all_has (IsSentRow c world) rows a all has_a in
    let t : IsSentRow c world b = all_has (IsSentRow c world) rows b all has_b in
    let first = named_there c world client jti a s named_a in
    let second = named_there c world client jti b t named_b in
    let told = ids_tell (fresh_word (fresh_of s.place) 0) (fresh_word (fresh_of t.place) 0) client client s.word t.word low low (first.1 ∙ sym second.1) in
    let places : a.place ≡ b.place = one_number world a.place b.place 0 s.place t.place distinct (omega arith) s.four t.four s.there t.there told.0 in
    apart_one rows a b apart has_a has_b places (first.0 ∙ sym second.0)

finds_named : (world : World) (client : ℕ) (jti : Text) (rows : List Sent) (row : Sent) → Has rows row → has_jti world client jti row ≡ true
    → ((other : Sent) → Has rows other → has_jti world client jti other ≡ true → other ≡ row) → message_named world client jti rows ≡ Some row
finds_named world client jti [] row has named one = absurd has
finds_named world client jti (r ∷ rows) row has named one =
    let F : Bool → Option Sent = λ b. cond b (Some r) (message_named world client jti rows) in
    elim (bool_cases (has_jti world client jti r)) [
      | inl here ↦ ap F here ∙ ap (λ (o : Sent). Some o) (one r (inl refl) here)
      | inr away ↦
          elim has [
            | inl same ↦ (let never : true ≡ false = sym named ∙ sym (ap (has_jti world client jti) same) ∙ away in absurd (cc))
            | inr there ↦ ap F away ∙ finds_named world client jti rows row there named (λ other has_other named_other. one other (inr has_other) named_other)
          ]
    ]

-- ---- which sessions it means

text_turn : (a b : Text) → bytes_eq a b ≡ bytes_eq b a
text_turn a b =
    elim (bool_cases (bytes_eq a b)) [
      | inl same ↦ same ∙ sym (bytes_true b a (sym (bytes_same a b same)))
      | inr other ↦ other ∙ sym (bytes_turn a b other)
    ]

sid_agrees : (only : Bool) (row sent : Text) → (not only || bytes_eq row sent) ≡ fits_text (if_wished only sent) (Some row)
sid_agrees true row sent = text_turn row sent
sid_agrees false row sent = refl

user_agrees : (c : Configuration) (client user held : ℕ) (sub : Text) → user_of_subject c client (subject_at c client user) ≡ Some user → user_of_subject c client sub ≡ Some held → (held == user) ≡ bytes_eq (subject_at c client user) sub
user_agrees c client user held sub of_user of_held =
    elim (bool_cases (bytes_eq (subject_at c client user) sub)) [
      | inl same ↦
          (let subs : subject_at c client user ≡ sub = bytes_same (subject_at c client user) sub same in
          let U : Text → Option ℕ = λ t. user_of_subject c client t in
          let numbers : held ≡ user = same_Some held user (sym of_held ∙ sym (ap U subs) ∙ of_user) in
          eq-eqb held user numbers ∙ sym same)
      | inr other ↦
          elim (bool_cases (held == user)) [
            | inl same ↦
                (let numbers : held ≡ user = eqb-true held user same in
                let S : ℕ → Text = λ u. subject_at c client u in
                let subs : subject_at c client user ≡ sub = sym (ap S numbers) ∙ finds_subject c client held sub of_held in
                let never : true ≡ false = sym (bytes_true (subject_at c client user) sub subs) ∙ other in
                absurd (cc))
            | inr apart ↦ apart ∙ sym other
          ]
    ]

-- a row of the machine is meant if and only if its visit is
meant_agrees : (c : Configuration) (client : ℕ) (o : Sent) (claims : LogoutClaims) (row : Live) (visit : SessionRow) → o.client ≡ client → row.client ≡ client
    → claims.sub ≡ Some (subject_at c client o.user) → claims.sid ≡ if_wished o.only o.sid → user_of_subject c client (subject_at c client o.user) ≡ Some o.user
    → user_of_subject c client visit.sub ≡ Some row.user → visit.sid ≡ Some row.sid → is_meant_row o row ≡ is_meant claims.sub claims.sid visit
meant_agrees c client o claims row visit sent_client row_client sub sid of_user of_row row_sid =
    let F : Bool → Bool → Bool → Bool = λ a b d. (a && b) && d in
    let A : Bool → Bool = λ a. F a (row.user == o.user) (not o.only || bytes_eq row.sid o.sid) in
    let B : Bool → Bool = λ b. F true b (not o.only || bytes_eq row.sid o.sid) in
    let D : Bool → Bool = λ d. F true (bytes_eq (subject_at c client o.user) visit.sub) d in
    let S : Option Text → Bool = λ t. fits_text t (Some visit.sub) && fits_text claims.sid visit.sid in
    let G : Option Text → Option Text → Bool = λ t v. fits_text (Some (subject_at c client o.user)) (Some visit.sub) && fits_text t v in
    let H : Option Text → Bool = λ t. G t visit.sid in
    let clients : (row.client == o.client) ≡ true = eq-eqb row.client o.client (row_client ∙ sym sent_client) in
    let left : is_meant_row o row ≡ D (fits_text (if_wished o.only o.sid) (Some row.sid)) =
    ap A clients ∙ ap B (user_agrees c client o.user row.user visit.sub of_user of_row) ∙ ap D (sid_agrees o.only row.sid o.sid) in
    let right : is_meant claims.sub claims.sid visit ≡ G (if_wished o.only o.sid) (Some row.sid) = ap S sub ∙ ap H sid ∙ ap (G (if_wished o.only o.sid)) row_sid in
    left ∙ sym right

-- a row of another client is not meant
other_meant : (o : Sent) (row : Live) → (row.client ≡ o.client → ⊥) → is_meant_row o row ≡ false
other_meant o row apart =
    let A : Bool → Bool = λ a. (a && (row.user == o.user)) && (not o.only || bytes_eq row.sid o.sid) in
    ap A (ne_eqb row.client o.client apart)

-- ---- a logout token is accepted

-- an earlier acceptance is too long ago
too_late : (a b first second : ℕ) → a + 661 ≤ b → first ≡ second → first ≤ a + 60 → b ≤ second + 600 → ⊥
too_late a b first second apart same issued recent = omega (arith, apart, same, issued, recent)

-- what is true for the session identifier of a message, if it has one, and for the others, is true for each with it
all_with : (P : Dead → Type 0) (only : Bool) (new : Dead) (rows : List Dead) → (only ≡ true → P new) → AllByRecursion P rows → AllByRecursion P (cond only (new ∷ without_dead new rows) rows)
all_with P true new rows first rest = (first refl, all_filter P (λ other. not (is_dead new other)) rows rest)
all_with P false new rows first rest = rest

-- a pair of a legal past that accepts one has the cause of that
cause_of : (s : PartySetup) (past : RpPast) (p : RpPair) (claims : LogoutClaims) → p.reply ≡ rp_answer s past p.entry → (accepts : Accepts p claims) → LogoutAccepted s past p.entry claims accepts.count
cause_of s past p claims answered accepts =
    let C : RpAsk → Type 0 = λ a. EndedCause s past p.entry a accepts.count in
    subst C accepts.asked (ended_has_a_cause s past p.entry accepts.count (sym answered ∙ accepts.replied))

module _ (s : Site) (n from at : ℕ) (request : WorldAsk) (fresh : List Word) (claims : LogoutClaims) (count : ℕ) (world : World) (site : IsSite s) (kept : IsKept s world) where
  abbrev p : RpPair
  p = record { entry = record { at = at; fresh = fresh; ask = ask.Logout (Ok claims) }; reply = rp.Ended count }

  abbrev x : Place
  x = Party n from request p

  abbrev c : Configuration
  c = s.configuration

  abbrev m : Machine
  m = machine_of s world

  abbrev types : Types
  types = types_at s n

  abbrev past : RpPast
  past = rp_past n world

  abbrev client : ℕ
  client = client_of_party s n

  -- the tie: the logout token was written, so it went out
  went_out : IsLegalWorld s (x ∷ world) → forges s world x ≡ false → SentAs c world m.out client claims
  went_out legal clean =
      let came : IsRequest c n request (ask.Logout (Ok claims)) = as_request c n request (ask.Logout (Ok claims)) legal.asked.0.1 refl in
      let text : Text = logout_token_in (posted came.request.body) in
      let opened : IsLogoutTokenFor (party_client c n) text claims = logout_opened c n came.request (Ok claims) came.asked_is in
      let read : logout_read_for (party_client c n) text ≡ Ok claims = token-logout_read_for (party_client c n) text claims opened in
      let L : WorldAsk → Type 0 = λ r. Has {A = TokenText} (logout_checked client r) (client, text) in
      let checks : Has (rp_checked client request (ask.Logout (Ok claims))) (client, text) = subst L (sym came.came_is) (inl refl) in
      let wrote : Has (written s world) (client, text) = was_written s world x (client, text) clean checks (logout_sealed_for c n text claims site.registry legal.asked.0.0 read) in
      all_has (IsTokenSent c world m.out) (written s world) (client, text) kept.holds.logouts wrote (opening (party_client c n) text) claims read

  -- the `jti` of the message
  named : (t : SentAs c world m.out client claims) → has_jti world client claims.jti t.row ≡ true
  named t =
      let G : Option Text → Bool = λ o. is_given claims.jti o in
      let B : Bool → Bool = λ b. b && is_given claims.jti (jti_at client (place_at world t.row.place)) in
      ap B (eq-eqb t.row.client client t.client_is) ∙ ap G t.jti ∙ bytes_true claims.jti claims.jti refl

  -- it was not accepted before
  unaccepted : IsLegalWorld s (x ∷ world) → (t : SentAs c world m.out client claims) → LogoutAccepted (setup_at s n) past p.entry claims count → Lacks m.ended t.row
  unaccepted legal t cause has =
      let was : IsEndedRow s world t.row = all_has (IsEndedRow s world) m.ended t.row kept.holds.ended has in
      let mine : n < length c.parties = legal.asked.0.0 in
      let own : IsLegalRp (setup_at s n) (p ∷ past) = party_legal s n from request p world legal in
      let same : was.n ≡ n = parties_apart c was.n n site.registry was.known mine (sym was.client ∙ t.client_is) in
      let P : ℕ → Type 0 = λ j. rp_past j world ≡ was.later ++ was.pair ∷ was.earlier in
      let parts : past ≡ was.later ++ was.pair ∷ was.earlier = subst P same was.parts in
      let L : RpPast → Type 0 = λ z. IsLegalRp (setup_at s n) (p ∷ z) in
      let whole : IsLegalRp (setup_at s n) (p ∷ (was.later ++ was.pair ∷ was.earlier)) = subst L parts own in
      let J : ℕ → Option Text = λ k. jti_at k (place_at world t.row.place) in
      let jtis : was.claims.jti ≡ claims.jti = same_Some was.claims.jti claims.jti (sym was.jti ∙ ap J t.client_is ∙ t.jti) in
      let moments : was.claims.iat ≡ claims.iat = same_Some was.claims.iat claims.iat (sym was.moment ∙ t.moment) in
      let apart : was.pair.entry.at + 661 ≤ at =
      tokens_apart (setup_at s n) [] was.later was.earlier was.pair p whole was.claims claims was.accepts (record { asked = refl; count = count; replied = refl }) jtis in
      let before : IsLegalRp (setup_at s n) (was.pair ∷ was.earlier) = earlier_is_legal IsRpAsk (rp_answer (setup_at s n)) was.later (was.pair ∷ was.earlier) whole.0 in
      let issuer : Text = (s.trusts n).issuer in
      let id : Text = (client_of (setup_at s n)).id in
      let first = cause_of (setup_at s n) was.earlier was.pair was.claims before.3 was.accepts in
      let good_then : IsGoodLogoutToken issuer id was.claims was.pair.entry.at = passes_good issuer id was.claims was.pair.entry.at first.judged in
      let good_now : IsGoodLogoutToken issuer id claims at = passes_good issuer id claims at cause.judged in
      too_late was.pair.entry.at at was.claims.iat claims.iat apart moments good_then.issued good_now.recent

  -- the party remembers the `sid` of the message, if the client takes it
  named_now : (t : SentAs c world m.out client claims) → t.row.only ≡ true → n < length c.parties → IsDeadRow s (x ∷ world) (dead_of t.row)
  named_now t only mine =
      let sid : Text = t.row.sid in
      let row : DeadRow = dead_at (length past) at sid in
      let F : Bool → Option Text = λ b. if_wished b sid in
      let M : Option Text → Option DeadRow = λ o. option_map (dead_at (length past) at) o in
      let made : dead_made (deads past) past p ≡ Some row = ap M (t.sid ∙ ap F only) in
      let held : Option DeadRow = option_and_then (dead_kept past p) (row_of dead_name sid (deads past)) in
      let N : Option DeadRow → Option DeadRow = λ o. cond (stands.is_named dead_name sid o) o held in
      let C : Bool → Option DeadRow = λ b. cond b (Some row) held in
      let R : RpPast → Option DeadRow = λ z. row_of dead_name sid (deads z) in
      record {
        n = n;
        known = mine;
        client = t.client_is;
        dead = row;
        remembered =
            ap R (past_own n from request p world) ∙ row_of-more dead_name dead_made dead_kept dead_names sid p past
            ∙ ap N made ∙ ap C (bytes_true sid sid refl);
      }

  pub accepted : IsLegalWorld s (x ∷ world) → HasDistinctWords (x ∷ world) → forges s world x ≡ false → LogoutAccepted (setup_at s n) past p.entry claims count → Does s n from request p world
  accepted legal distinct clean cause =
      let mine : n < length c.parties = legal.asked.0.0 in
      let own : IsLegalRp (setup_at s n) (p ∷ past) = party_legal s n from request p world legal in
      let t : SentAs c world m.out client claims = went_out legal clean in
      let o : Sent = t.row in
      let known : client < length c.clients = client_is_known c n site.registry mine in
      let few : length c.clients ≤ 128 = site.registry.clients in
      let low : client < 2 ^ 64 = omega arith in
      let found : message_named world client claims.jti m.out ≡ Some o =
      finds_named world client claims.jti m.out o t.has (named t)
      (λ other has_other named_other. one_named c world m.out client claims.jti other o (distinct_before x world distinct) kept.holds.sent_apart kept.holds.sent low has_other t.has named_other (named t)) in
      let T : Option Sent → List Step = λ q. end_of q count ∷ [] in
      let steps : party_steps s world m.out n from past p p.entry.ask p.reply ≡ end o count ∷ [] = ap T found in
      let of_user : user_of_subject c client (subject_at c client o.user) ≡ Some o.user = subject_finds c client o.user site.registry known t.known in
      -- a row is meant if and only if its visit is
      let agrees : (w : World) (row : Live) (visit : SessionRow) → IsSameSession s w n row visit → row.client ≡ client → is_meant_row o row ≡ is_meant claims.sub claims.sid visit =
      λ w row visit same of_client. meant_agrees c client o claims row visit t.client_is of_client t.subject t.sid of_user same.user same.sid in
      -- the number of sessions
      let rows : List Live = settled world client at m.live in
      let agree : Each (IsSameSession s world n) (rows_of client rows) (live_visits types past at) = sessions_settled s world n at m.live past (kept.holds.live n mine) own.2 in
      let Of : Live → SessionRow → Type 0 = λ row visit. IsSameSession s world n row visit × (row.client ≡ client) in
      let both : Each Of (rows_of client rows) (live_visits types past at) =
      each_weaker (λ (row : Live). (row.client == client) ≡ true) (IsSameSession s world n) Of (rows_of client rows) (live_visits types past at)
      (λ row visit is same. (same, eqb-true row.client client is)) (all_kept (λ (row : Live). row.client == client) rows) agree in
      let meant : Each Of (filter (is_meant_row o) (rows_of client rows)) (filter (is_meant claims.sub claims.sid) (live_visits types past at)) =
      each_filter Of (is_meant_row o) (is_meant claims.sub claims.sid) (rows_of client rows) (live_visits types past at) (λ row visit of. agrees world row visit of.0 of.1) both in
      let all_of_client : filter (is_meant_row o) (rows_of client rows) ≡ filter (is_meant_row o) rows =
      filter_other (is_meant_row o) (λ (row : Live). row.client == client) rows
      (λ row is.
      let clients : row.client ≡ o.client = eqb-true row.client o.client (and_parts (row.client == o.client) (row.user == o.user) (and_parts ((row.client == o.client) && (row.user == o.user)) (not o.only || bytes_eq row.sid o.sid) is).0).0 in
      eq-eqb row.client client (clients ∙ t.client_is)) in
      let counted : count ≡ length (filter (is_meant_row o) rows) =
      sym cause.count_is
      ∙ sym (each_length Of (filter (is_meant_row o) (rows_of client rows)) (filter (is_meant claims.sub claims.sid) (live_visits types past at)) meant)
      ∙ ap (λ (zs : List Live). length zs) all_of_client in
      let k : Live → Bool = λ row. not (is_meant_row o row) in
      let unmade : visit_made types (visits types past) past p ≡ None = refl in
      fewer_done s n from request p world k (o ∷ m.ended) (with_dead o (unforgotten past client at m.dead)) (end o count ∷ []) site mine own.2 kept unmade
      (λ row visit same of_client. ap not (agrees (x ∷ world) row visit same of_client))
      (λ j known_j other row visit same of_client.
      ap not (other_meant o row (λ clients. other (parties_apart c n j site.registry mine known_j (sym t.client_is ∙ sym clients ∙ of_client)))))
      steps
      ((t.has, unaccepted legal t cause, counted), tt)
      refl (
        record {
          n = n;
          known = mine;
          client = t.client_is;
          later = [];
          pair = p;
          earlier = past;
          parts = past_own n from request p world;
          claims = claims;
          accepts = record { asked = refl; count = count; replied = refl };
          jti = at_more (jti_at o.client) x world o.place claims.jti refl (let J : ℕ → Type 0 = λ i. jti_at i (place_at world o.place) ≡ Some claims.jti in subst J (sym t.client_is) t.jti);
          moment = at_more (option_and_then moment_of) x world o.place claims.iat refl t.moment;
        },
        ended_more s x world m.ended kept.holds.ended,
      )
      (all_with (IsDeadRow s (x ∷ world)) o.only (dead_of o) (unforgotten past client at m.dead) (λ only. named_now t only mine)
      (dead_more s x world (unforgotten past client at m.dead) (all_filter (IsDeadRow s world) (λ row. not (is_forgotten past client at row)) m.dead kept.holds.dead)))
      (deads_with o.only (dead_of o) (unforgotten past client at m.dead) (deads_filter (λ row. not (is_forgotten past client at row)) m.dead kept.holds.dead_apart))
      refl tt

pub ended_done : (s : Site) (n from at : ℕ) (request : WorldAsk) (fresh : List Word) (asked : RpAsk) (count : ℕ) (world : World) → IsSite s
    → IsLegalWorld s (Party n from request (record { entry = record { at = at; fresh = fresh; ask = asked }; reply = rp.Ended count }) ∷ world)
    → HasDistinctWords (Party n from request (record { entry = record { at = at; fresh = fresh; ask = asked }; reply = rp.Ended count }) ∷ world)
    → forges s world (Party n from request (record { entry = record { at = at; fresh = fresh; ask = asked }; reply = rp.Ended count })) ≡ false → IsKept s world
    → EndedCause (setup_at s n) (rp_past n world) (record { at = at; fresh = fresh; ask = asked }) asked count
    → Does s n from request (record { entry = record { at = at; fresh = fresh; ask = asked }; reply = rp.Ended count }) world
ended_done s n from at request fresh (ask.Logout (Ok claims)) count world site legal distinct clean kept cause = accepted s n from at request fresh claims count world site kept legal distinct clean cause
ended_done s n from at request fresh asked count world site legal distinct clean kept cause = absurd cause
