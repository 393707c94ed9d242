-- The verifiers stand beside the logins: one row of each for every login, and one pair made both.
use Rattle.std.proofs.Common.{◌≡◌, ℕ, suc, Bool, true, false, not, ◌&&◌, ◌||◌, nat_lt, cond, List, [], ◌∷◌, ◌++◌, filter_map, length, Option, Some, None}
use Rattle.std.proofs.Common.{is_some, refl, sym, ◌∙◌, ap, subst}
use Rattle.std.specs.List.{cons_option}
use Rattle.std.specs.Str.{bytes_eq}
use Rattle.sso_base.specs.Words.{Word, is_word}
use Rattle.sso_base.specs.Rows.{without, put, row_of, lives, live_rows}
use Rattle.oidc_words.specs.Lives.{login_life}
use Rattle.held_rows.specs.Held.{most_rows, is_full}
use Rattle.rp_login.specs.declared.rows.LoginRow.{LoginRow}
use Rattle.rp_login.specs.Rows.{login_name, login_begun}
use Rattle.rp_exchange.specs.declared.ask.RpAsk.{RpAsk}
use Rattle.rp_exchange.specs.declared.ask.RpAsk.TheVariants as ask
use Rattle.rp_exchange.specs.declared.reply.RpReply.{RpReply}
use Rattle.rp_exchange.specs.declared.reply.RpReply.TheVariants as reply
use Rattle.rp_answer.specs.Past.{RpPair, RpPast}
use Rattle.rp_answer.specs.Asked.{state_named}
use Rattle.rp_answer.specs.Logins.{login_started, login_made, login_kept, logins, live_logins, ends_login}
use Rattle.rp_answer.proofs.KeptNames.{some_same}
use Rattle.pkce_party.specs.declared.rows.VerifierRow.{VerifierRow}
use Rattle.pkce_party.specs.Verifiers.{verifier_name, verifier_begun, row_drawn, if_begun, verifier_made, verifier_kept, verifiers, live_verifiers}
use Rattle.pkce_party.proofs.KeptRows.{none_begun}

-- one pair of the past made the login and drew the verifier, which have one state and one moment
pub record MadeOnce (past : RpPast) (login : LoginRow) (row : VerifierRow) : Type 0 where
  pub later : RpPast
  pub maker : RpPair
  pub earlier : RpPast
  pub parts : past ≡ later ++ maker ∷ earlier
  pub login_is : login_started (length earlier) maker.entry.at maker.entry.fresh maker.entry.ask maker.reply ≡ Some login
  pub row_is : if_begun maker.reply (row_drawn maker.entry.at maker.entry.fresh maker.entry.ask) ≡ Some row
  pub same_state : row.state ≡ login.state
  pub same_begun : row.begun ≡ login.begun

-- row by row
abbrev pub AllMade : RpPast → List LoginRow → List VerifierRow → Type 0
AllMade past [] [] = Unit {0}
AllMade past [] (row ∷ rows) = ⊥
AllMade past (login ∷ held) [] = ⊥
AllMade past (login ∷ held) (row ∷ rows) = MadeOnce past login row × AllMade past held rows

-- ---- a later past

later_once : (past : RpPast) (p : RpPair) (login : LoginRow) (row : VerifierRow) → MadeOnce past login row → MadeOnce (p ∷ past) login row
later_once past p login row made =
    let grow : RpPast → RpPast = λ x. p ∷ x in
    record {
      later = p ∷ made.later;
      maker = made.maker;
      earlier = made.earlier;
      parts = ap grow made.parts;
      login_is = made.login_is;
      row_is = made.row_is;
      same_state = made.same_state;
      same_begun = made.same_begun;
    }

later_all : (past : RpPast) (p : RpPair) (held : List LoginRow) (rows : List VerifierRow) → AllMade past held rows → AllMade (p ∷ past) held rows
later_all past p [] [] all = tt
later_all past p [] (row ∷ rows) all = absurd all
later_all past p (login ∷ held) [] all = absurd all
later_all past p (login ∷ held) (row ∷ rows) all = (later_once past p login row all.0, later_all past p held rows all.1)

-- ---- rows that are kept, left out, put, and live

module _ (past : RpPast) where
  kept_one : (gone : Bool) (login : LoginRow) (row : VerifierRow) (held : List LoginRow) (rows : List VerifierRow) → MadeOnce past login row
      → AllMade past held rows
      → AllMade past (cons_option (cond gone None (Some login)) held) (cons_option (cond gone None (Some row)) rows)
  kept_one true login row held rows once all = all
  kept_one false login row held rows once all = (once, all)

  pub kept_all : (before : RpPast) (p : RpPair) (held : List LoginRow) (rows : List VerifierRow) → AllMade past held rows
      → AllMade past (filter_map (login_kept before p) held) (filter_map (verifier_kept before p) rows)
  kept_all before p [] [] all = tt
  kept_all before p [] (row ∷ rows) all = absurd all
  kept_all before p (login ∷ held) [] all = absurd all
  kept_all before p (login ∷ held) (row ∷ rows) all =
      let state : Option Word = state_named p.entry.ask in
      let ends : Bool = ends_login p.reply in
      let left : List LoginRow = filter_map (login_kept before p) held in
      let left_rows : List VerifierRow = filter_map (verifier_kept before p) rows in
      let E : Word → Bool = λ w. is_word state w && ends in
      let A : Bool → Type 0 = λ b. AllMade past (cons_option (cond (E login.state) None (Some login)) left) (cons_option (cond b None (Some row)) left_rows) in
      subst A (sym (ap E all.0.same_state)) (kept_one (E login.state) login row left left_rows all.0 (kept_all before p held rows all.1))

  without_one : (gone : Bool) (login : LoginRow) (row : VerifierRow) (held : List LoginRow) (rows : List VerifierRow) → MadeOnce past login row
      → AllMade past held rows
      → AllMade past (cond gone held (login ∷ held)) (cond gone rows (row ∷ rows))
  without_one true login row held rows once all = all
  without_one false login row held rows once all = (once, all)

  without_all : (w : Word) (held : List LoginRow) (rows : List VerifierRow) → AllMade past held rows
      → AllMade past (without login_name w held) (without verifier_name w rows)
  without_all w [] [] all = tt
  without_all w [] (row ∷ rows) all = absurd all
  without_all w (login ∷ held) [] all = absurd all
  without_all w (login ∷ held) (row ∷ rows) all =
      let left : List LoginRow = without login_name w held in
      let left_rows : List VerifierRow = without verifier_name w rows in
      let E : Word → Bool = λ v. bytes_eq v w in
      let A : Bool → Type 0 = λ b. AllMade past (cond (E login.state) left (login ∷ left)) (cond b left_rows (row ∷ left_rows)) in
      subst A (sym (ap E all.0.same_state)) (without_one (E login.state) login row left left_rows all.0 (without_all w held rows all.1))

  push_all : (held : List LoginRow) (rows : List VerifierRow) (login : LoginRow) (row : VerifierRow) → AllMade past held rows → MadeOnce past login row
      → AllMade past (held ++ login ∷ []) (rows ++ row ∷ [])
  push_all [] [] login row all once = (once, tt)
  push_all [] (other ∷ rows) login row all once = absurd all
  push_all (other ∷ held) [] login row all once = absurd all
  push_all (first ∷ held) (other ∷ rows) login row all once = (all.0, push_all held rows login row all.1 once)

  -- both were made, or neither
  abbrev pub BothMade : Option LoginRow → Option VerifierRow → Type 0
  BothMade None None = Unit {0}
  BothMade None (Some row) = ⊥
  BothMade (Some login) None = ⊥
  BothMade (Some login) (Some row) = MadeOnce past login row

  put_all : (login : Option LoginRow) (row : Option VerifierRow) (held : List LoginRow) (rows : List VerifierRow) → BothMade login row → AllMade past held rows
      → AllMade past (put login_name login held) (put verifier_name row rows)
  put_all None None held rows both all = all
  put_all None (Some row) held rows both all = absurd both
  put_all (Some login) None held rows both all = absurd both
  put_all (Some login) (Some row) held rows both all =
      let A : Word → Type 0 = λ w. AllMade past (without login_name login.state held) (without verifier_name w rows) in
      push_all (without login_name login.state held) (without verifier_name row.state rows) login row
      (subst A (sym both.same_state) (without_all login.state held rows all)) both

  live_one : (live : Bool) (login : LoginRow) (row : VerifierRow) (held : List LoginRow) (rows : List VerifierRow) → MadeOnce past login row
      → AllMade past held rows
      → AllMade past (cond live (login ∷ held) held) (cond live (row ∷ rows) rows)
  live_one true login row held rows once all = (once, all)
  live_one false login row held rows once all = all

  live_all : (at : ℕ) (held : List LoginRow) (rows : List VerifierRow) → AllMade past held rows
      → AllMade past (live_rows login_life login_begun at held) (live_rows login_life verifier_begun at rows)
  live_all at [] [] all = tt
  live_all at [] (row ∷ rows) all = absurd all
  live_all at (login ∷ held) [] all = absurd all
  live_all at (login ∷ held) (row ∷ rows) all =
      let left : List LoginRow = live_rows login_life login_begun at held in
      let left_rows : List VerifierRow = live_rows login_life verifier_begun at rows in
      let E : ℕ → Bool = λ n. lives login_life n at in
      let A : Bool → Type 0 = λ b. AllMade past (cond (E login.begun) (login ∷ left) left) (cond b (row ∷ left_rows) left_rows) in
      subst A (sym (ap E all.0.same_begun)) (live_one (E login.begun) login row left left_rows all.0 (live_all at held rows all.1))

-- ---- what one pair makes

made_by : (past : RpPast) (p : RpPair) (asked : RpAsk) (told : RpReply) → p.entry.ask ≡ asked → p.reply ≡ told
    → BothMade (p ∷ past) (login_started (length past) p.entry.at p.entry.fresh asked told) (if_begun told (row_drawn p.entry.at p.entry.fresh asked))
made_by past p (ask.Begin presented) (reply.Ask to browser) asks tells =
    let L : RpAsk → Option LoginRow = λ a. login_started (length past) p.entry.at p.entry.fresh a p.reply in
    let M : RpReply → Option LoginRow = λ r. login_started (length past) p.entry.at p.entry.fresh (ask.Begin presented) r in
    let V : RpAsk → Option VerifierRow = λ a. if_begun p.reply (row_drawn p.entry.at p.entry.fresh a) in
    let W : RpReply → Option VerifierRow = λ r. if_begun r (row_drawn p.entry.at p.entry.fresh (ask.Begin presented)) in
    record {
      later = [];
      maker = p;
      earlier = past;
      parts = refl;
      login_is = ap L asks ∙ ap M tells;
      row_is = ap V asks ∙ ap W tells;
      same_state = refl;
      same_begun = refl;
    }
made_by past p (ask.Begin presented) told asks tells = tt
made_by past p asked told asks tells =
    let M : Option VerifierRow → Type 0 = λ o. BothMade (p ∷ past) None o in
    subst M (sym (none_begun told)) tt

pub together : (past : RpPast) → AllMade past (logins past) (verifiers past)
together [] = tt
together (p ∷ past) =
    put_all (p ∷ past) (login_made (logins past) past p) (verifier_made (verifiers past) past p) (filter_map (login_kept past p) (logins past))
    (filter_map (verifier_kept past p) (verifiers past))
    (made_by past p p.entry.ask p.reply refl refl)
    (kept_all (p ∷ past) past p (logins past) (verifiers past) (later_all past p (logins past) (verifiers past) (together past)))

-- ---- as many, and with the same names

same_length : (past : RpPast) (held : List LoginRow) (rows : List VerifierRow) → AllMade past held rows → length rows ≡ length held
same_length past [] [] all = refl
same_length past [] (row ∷ rows) all = absurd all
same_length past (login ∷ held) [] all = absurd all
same_length past (login ∷ held) (row ∷ rows) all = ap suc (same_length past held rows all.1)

named_one : (found : Bool) (login : LoginRow) (row : VerifierRow) (held : Option LoginRow) (rest : Option VerifierRow) → is_some rest ≡ is_some held
    → is_some (cond found (Some row) rest) ≡ is_some (cond found (Some login) held)
named_one true login row held rest same = refl
named_one false login row held rest same = same

same_named : (past : RpPast) (w : Word) (held : List LoginRow) (rows : List VerifierRow) → AllMade past held rows
    → is_some (row_of verifier_name w rows) ≡ is_some (row_of login_name w held)
same_named past w [] [] all = refl
same_named past w [] (row ∷ rows) all = absurd all
same_named past w (login ∷ held) [] all = absurd all
same_named past w (login ∷ held) (row ∷ rows) all =
    let E : Word → Bool = λ v. bytes_eq v w in
    let S : Bool → Bool = λ b. is_some (cond b (Some row) (row_of verifier_name w rows)) in
    ap S (ap E all.0.same_state) ∙ named_one (E login.state) login row (row_of login_name w held) (row_of verifier_name w rows)
    (same_named past w held rows all.1)

-- so there is room for a verifier where there is room for its login
pub as_full : (past : RpPast) (at : ℕ) (w : Word)
    → is_full most_rows verifier_name w (live_verifiers past at) ≡ is_full most_rows login_name w (live_logins past at)
as_full past at w =
    let all : AllMade past (live_logins past at) (live_verifiers past at) = live_all past at (logins past) (verifiers past) (together past) in
    let N : ℕ → Bool = λ n. not (nat_lt n most_rows) || is_some (row_of verifier_name w (live_verifiers past at)) in
    let S : Bool → Bool = λ b. not (nat_lt (length (live_logins past at)) most_rows) || b in
    ap N (same_length past (live_logins past at) (live_verifiers past at) all) ∙ ap S (same_named past w (live_logins past at) (live_verifiers past at) all)

-- ---- the verifier of a login

pub record Beside (past : RpPast) (w : Word) (login : LoginRow) (rows : List VerifierRow) : Type 0 where
  pub row : VerifierRow
  pub found : row_of verifier_name w rows ≡ Some row
  pub once : MadeOnce past login row

found_one : (past : RpPast) (w : Word) (here : Bool) (first login : LoginRow) (row : VerifierRow) (held : List LoginRow) (rows : List VerifierRow)
    → bytes_eq row.state w ≡ here → MadeOnce past first row
    → (row_of login_name w held ≡ Some login → Beside past w login rows) → cond here (Some first) (row_of login_name w held) ≡ Some login
    → Beside past w login (row ∷ rows)
found_one past w true first login row held rows is once rest h =
    let C : Bool → Option VerifierRow = λ b. cond b (Some row) (row_of verifier_name w rows) in
    let M : LoginRow → Type 0 = λ l. MadeOnce past l row in
    record { row = row; found = ap C is; once = subst M (some_same first login h) once }
found_one past w false first login row held rows is once rest h =
    let C : Bool → Option VerifierRow = λ b. cond b (Some row) (row_of verifier_name w rows) in
    let more : Beside past w login rows = rest h in
    record { row = more.row; found = ap C is ∙ more.found; once = more.once }

pub beside : (past : RpPast) (w : Word) (login : LoginRow) (held : List LoginRow) (rows : List VerifierRow) → AllMade past held rows
    → row_of login_name w held ≡ Some login → Beside past w login rows
beside past w login [] [] all h = cc
beside past w login [] (row ∷ rows) all h = absurd all
beside past w login (first ∷ held) [] all h = absurd all
beside past w login (first ∷ held) (row ∷ rows) all h =
    let E : Word → Bool = λ v. bytes_eq v w in
    found_one past w (E first.state) first login row held rows (ap E all.0.same_state) all.0 (beside past w login held rows all.1) h
