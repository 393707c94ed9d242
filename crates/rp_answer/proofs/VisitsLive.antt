-- In a legal past a session that lives stays, until its browser leaves or a logout token is accepted that means it: no other
-- session of its word is made, since a table has room for one row of a name.
use Rattle.std.proofs.Common.{◌≡◌, ℕ, Bool, true, false, not, ◌||◌, nat_lt, ◌∷◌, length, Option, Some, None, is_some, option_map, option_and_then, inl, inr, refl, sym, ◌∙◌, ap}
use Rattle.std.specs.Str.{bytes_eq}
use Rattle.sso_base.specs.Words.{Word}
use Rattle.sso_base.specs.Rows.{row_of, if_lives}
use Rattle.sso_base.specs.Stands as stands
use Rattle.sso_base.proofs.RowLaws.{bool_cases, option_cases, bytes_same, rows_distinct}
use Rattle.held_rows.specs.Held.{is_full, most_rows}
use Rattle.held_rows.proofs.RowOf.{row_of-live_rows}
use Rattle.held_rows.proofs.Found.{row_that_lives}
use Rattle.oidc_words.specs.Lives.{visit_life}
use Rattle.oidc_words.specs.declared.response_types.Types.{Types}
use Rattle.rp_login.specs.declared.rows.PendingRow.{PendingRow}
use Rattle.rp_login.specs.declared.rows.SessionRow.{SessionRow}
use Rattle.rp_login.specs.declared.table.RpTable.TheVariants as table
use Rattle.rp_login.specs.Rows.{visit_name, visit_begun}
use Rattle.rp_exchange.specs.declared.ask.RpAsk.{RpAsk}
use Rattle.rp_exchange.specs.declared.ask.RpAsk.TheVariants as ask
use Rattle.rp_exchange.specs.declared.reply.RpReply.TheVariants as reply
use Rattle.rp_answer.specs.Past.{RpPair, RpPast}
use Rattle.rp_answer.specs.Setup.{PartySetup, party_of}
use Rattle.rp_answer.specs.Asked.{claims_judged}
use Rattle.rp_answer.specs.Pendings.{pending_of}
use Rattle.rp_answer.specs.Visits.{nonce_by, visit_of, visit_of_pending, visit_after, visit_for, visits, visit_made, visit_kept, live_visits, live_visit}
use Rattle.rp_answer.specs.Room.{if_full}
use Rattle.rp_answer.specs.Legal.{IsLegalRp}
use Rattle.rp_answer.specs.Endings.{EndsVisit}
use Rattle.rp_answer.proofs.Stood.{own_replies_stand}
use Rattle.rp_answer.proofs.KeptNames.{some_same, visit_names}
use Rattle.rp_answer.proofs.Sessions.{let_in}
use Rattle.rp_answer.proofs.VisitEnds.{visits_stay}

-- ---- the session that is made has the word of the reply

word_mapped : {X : Type 0} (make : X → SessionRow) (w : Word) (o : Option X) (row : SessionRow) → ((x : X) → (make x).word ≡ w) → option_map make o ≡ Some row → row.word ≡ w
word_mapped make w None row each h = cc
word_mapped make w (Some x) row each h = let W : SessionRow → Word = λ r. r.word in sym (ap W (some_same (make x) row h)) ∙ each x

word_chained : {X : Type 0} (make : X → Option SessionRow) (w : Word) (o : Option X) (row : SessionRow) → ((x : X) (r : SessionRow) → make x ≡ Some r → r.word ≡ w)
    → option_and_then make o ≡ Some row → row.word ≡ w
word_chained make w None row each h = cc
word_chained make w (Some x) row each h = each x row h

word_after : (at : ℕ) (w : Word) (pending : PendingRow) (row : SessionRow) → visit_after at w pending ≡ Some row → row.word ≡ w
word_after at w pending row h = word_mapped (visit_of_pending at w pending) w pending.sub row (λ sub. refl) h

word_judged : (types : Types) (at : ℕ) (past : RpPast) (w : Word) (asked : RpAsk) (row : SessionRow)
    → option_and_then (λ nonce. option_map (visit_of at w nonce) (claims_judged types asked)) (nonce_by types past asked) ≡ Some row → row.word ≡ w
word_judged types at past w asked row h =
    let M : Word → Option SessionRow = λ nonce. option_map (visit_of at w nonce) (claims_judged types asked) in
    word_chained M w (nonce_by types past asked) row (λ nonce r. word_mapped (visit_of at w nonce) w (claims_judged types asked) r (λ claims. refl)) h

word_for : (types : Types) (at : ℕ) (past : RpPast) (w : Word) (asked : RpAsk) (row : SessionRow) → visit_for types at past w asked ≡ Some row → row.word ≡ w
word_for types at past w (ask.Info answered came) row h = word_chained (visit_after at w) w (pending_of types past answered) row (word_after at w) h
word_for types at past w asked row h = word_judged types at past w asked row h

-- ---- where there is room, no row of the name lives

not_full : (b : Bool) → if_full table.Sessions b ≡ None → b ≡ false
not_full true h = cc
not_full false h = refl

none_found : {R : Type 0} (full : Bool) (found : Option R) → (full || is_some found) ≡ false → found ≡ None
none_found true found h = cc
none_found false None h = refl
none_found false (Some r) h = cc

module _ (s : PartySetup) (past : RpPast) (p : RpPair) (w : Word) (visit : SessionRow) (legal : IsLegalRp s (p ∷ past)) (lives : live_visit (party_of s).types past p.entry.at (Some w) ≡ Some visit) where
  abbrev types : Types
  types = (party_of s).types

  abbrev living : Word → Option SessionRow
  living v = option_and_then (if_lives visit_life visit_begun p.entry.at) (row_of visit_name v (visits types past))

  none_lives : (v : Word) → is_full most_rows visit_name v (live_visits types past p.entry.at) ≡ false → living v ≡ None
  none_lives v h =
      sym (row_of-live_rows visit_name visit_life visit_begun p.entry.at v (visits types past) (rows_distinct visit_name (visit_made types) visit_kept visit_names past))
      ∙ none_found (not (nat_lt (length (live_visits types past p.entry.at)) most_rows)) (row_of visit_name v (live_visits types past p.entry.at)) h

  not_made : (made : SessionRow) → visit_made types (visits types past) past p ≡ Some made → made.word ≡ w → ⊥
  not_made made h named =
      let by = let_in types p.entry.at past p.entry.ask p.reply made h in
      let word_is : made.word ≡ by.w = word_for types p.entry.at past by.w p.entry.ask made by.made in
      let stood = own_replies_stand s past p.entry (reply.Entered by.w by.sub) refl (sym legal.3 ∙ by.replied) in
      let none : living by.w ≡ None = none_lives by.w (not_full (is_full most_rows visit_name by.w (live_visits types past p.entry.at)) stood.room) in
      let never : None ≡ Some visit = sym none ∙ ap living (sym word_is ∙ named) ∙ lives in
      cc

  unnamed : stands.is_named visit_name w (visit_made types (visits types past) past p) ≡ false
  unnamed =
      let I : Option SessionRow → Bool = λ o. stands.is_named visit_name w o in
      elim (option_cases (visit_made types (visits types past) past p)) [
        | inl none ↦ ap I none
        | inr made ↦ elim (bool_cases (bytes_eq made.0.word w)) [
          | inl e ↦ absurd (not_made made.0 made.1 (bytes_same made.0.word w e))
          | inr e ↦ ap I made.1 ∙ e
        ]
      ]

  pub live_visits_stay : (EndsVisit p visit → ⊥) → row_of visit_name w (visits types (p ∷ past)) ≡ Some visit
  live_visits_stay stays =
      visits_stay p visit types past w (row_that_lives visit_life visit_begun p.entry.at (row_of visit_name w (visits types past)) visit lives) unnamed stays
