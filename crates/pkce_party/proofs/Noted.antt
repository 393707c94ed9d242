-- What a step leaves of the verifiers: the row that it makes has room, and afterwards those that live are those of the past.
use Rattle.std.proofs.Common.{◌≡◌, ◌≤◌, ℕ, Bool, true, false, nat_lt, cond, ltb-false, List, [], ◌∷◌, filter_map, Option, Some, None, IfSome, refl, sym, ◌∙◌}
use Rattle.std.proofs.Common.{ap, subst, arith}
use Rattle.sso_base.specs.Words.{Word, fresh_word}
use Rattle.sso_base.specs.Rows.{put, live_rows}
use Rattle.sso_base.specs.Legal.{last_moment}
use Rattle.sso_base.specs.declared.history.Entry.{Entry}
use Rattle.oidc_words.specs.Lives.{login_life}
use Rattle.held_rows.specs.Held.{most_rows, is_full}
use Rattle.held_rows.proofs.Kept.{put_pushes}
use Rattle.held_rows.proofs.Added.{may_add, rows_carried, begun_carried}
use Rattle.rp_login.specs.Rows.{login_name}
use Rattle.rp_login.specs.declared.table.RpTable.{RpTable}
use Rattle.rp_login.specs.declared.table.RpTable.TheVariants as table
use Rattle.rp_exchange.specs.declared.ask.RpAsk.{RpAsk}
use Rattle.rp_exchange.specs.declared.ask.RpAsk.TheVariants as ask
use Rattle.rp_exchange.specs.declared.reply.RpReply.{RpReply}
use Rattle.rp_exchange.specs.declared.reply.RpReply.TheVariants as reply
use Rattle.rp_answer.specs.Past.{RpPair, RpPast}
use Rattle.rp_answer.specs.Setup.{PartySetup}
use Rattle.rp_answer.specs.Asked.{state_named}
use Rattle.rp_answer.specs.Logins.{live_logins, ends_login}
use Rattle.rp_answer.specs.Room.{if_full}
use Rattle.rp_answer.specs.Answering.{rp_answer}
use Rattle.rp_answer.proofs.KeptNames.{some_same}
use Rattle.rp_answer.proofs.Stood.{own_replies_stand}
use Rattle.rp_core.specs.Relying.{Relying, past_of}
use Rattle.pkce_party.specs.declared.known.Known.{Known}
use Rattle.pkce_party.specs.declared.rows.VerifierRow.{VerifierRow}
use Rattle.pkce_party.specs.Verifiers.{verifier_name, verifier_begun, row_drawn, if_begun, verifier_made, verifier_kept, verifiers, live_verifiers}
use Rattle.pkce_party.specs.Keeping.{later, known_of, Steps, KeepsVerifiers}
use Rattle.pkce_party.specs.Noting.{ended_rows, rows_left, pushed, noted, MayAddVerifier}
use Rattle.pkce_party.proofs.KeptRows.{verifier_names, verifier_begun_kept, drawn_row, none_begun, verifier_made_begun, left_as_kept}
use Rattle.pkce_party.proofs.Together.{as_full}

not_full : (which : RpTable) (full : Bool) → if_full which full ≡ None → full ≡ false
not_full which true h = cc
not_full which false h = refl

if_made : {R : Type 0} (P : R → Type 0) (m : Option R) → ((r : R) → m ≡ Some r → P r) → IfSome m P
if_made P None h = tt
if_made P (Some r) h = h r refl

pushed_put : (m : Option VerifierRow) (rows : List VerifierRow) → IfSome m (MayAddVerifier rows) → pushed m rows ≡ put verifier_name m rows
pushed_put None rows may = refl
pushed_put (Some row) rows may = put_pushes verifier_name row rows may.unnamed

module _ (s : PartySetup) (past : RpPast) (e : Entry RpAsk) where
  -- where a login begins there was room for it, and so for its verifier
  fits : (asked : RpAsk) (told : RpReply) (row : VerifierRow) → told ≡ rp_answer s past e → if_begun told (row_drawn e.at e.fresh asked) ≡ Some row
      → is_full most_rows verifier_name (verifier_name row) (live_verifiers past e.at) ≡ false
  fits (ask.Begin presented) (reply.Ask to browser) row answered h =
      let F : VerifierRow → Bool = λ r. is_full most_rows verifier_name (verifier_name r) (live_verifiers past e.at) in
      ap F (sym (some_same (drawn_row e.at e.fresh) row h))
      ∙ as_full past e.at (fresh_word e.fresh 1)
      ∙ not_full table.Logins (is_full most_rows login_name (fresh_word e.fresh 1) (live_logins past e.at))
      (own_replies_stand s past e (reply.Ask to browser) refl (sym answered)).room
  fits (ask.Begin presented) told row answered h = cc
  fits asked told row answered h = (let k : None ≡ Some row = sym (none_begun told) ∙ h in cc)

  module _ (told : RpReply) (answered : told ≡ rp_answer s past e) (order : last_moment past ≤ e.at) (rows : List VerifierRow)
      (keeps : KeepsVerifiers past rows) where
    abbrev pair : RpPair
    pair = record { entry = e; reply = told }

    abbrev begun : Option VerifierRow
    begun = if_begun told (row_drawn e.at e.fresh e.ask)

    abbrev live : List VerifierRow
    live = live_rows login_life verifier_begun e.at rows

    abbrev left : List VerifierRow
    left = ended_rows (ends_login told) (state_named e.ask) live

    left_is : left ≡ filter_map (verifier_kept past pair) live
    left_is = left_as_kept (ends_login told) (state_named e.ask) live

    may : IfSome begun (MayAddVerifier left)
    may =
        if_made (MayAddVerifier left) begun (λ row is.
        let A : List VerifierRow → Type 0 = λ xs. MayAddVerifier xs row in
        let added =
        may_add most_rows verifier_name login_life verifier_begun (verifier_kept past pair) (last_moment past) e.at order rows (verifier_names past pair)
        (verifier_begun_kept past pair) keeps.begun (verifiers past) keeps.agrees row
        (verifier_made_begun [] past pair row is) (fits e.ask told row answered is) in
        subst A (sym left_is) (record { few = added.few; unnamed = added.unnamed; latest = added.latest }))

    after : (news : List VerifierRow) → news ≡ pushed begun left → KeepsVerifiers (pair ∷ past) news
    after news is =
        let P : List VerifierRow → List VerifierRow = λ xs. put verifier_name begun xs in
        let follows : news ≡ put verifier_name begun (filter_map (verifier_kept past pair) live) = is ∙ pushed_put begun left may ∙ ap P left_is in
        record {
          agrees =
              rows_carried verifier_name login_life verifier_begun (last_moment past) e.at (verifier_kept past pair) (verifier_made (verifiers past) past pair)
              rows news order (verifier_begun_kept past pair)
              (verifiers past) keeps.agrees follows;
          begun =
              begun_carried verifier_name login_life verifier_begun (last_moment past) e.at (verifier_kept past pair) (verifier_made (verifiers past) past pair)
              rows news order (verifier_begun_kept past pair)
              (verifier_made_begun (verifiers past) past pair) keeps.begun follows;
        }

order_by : (last at : ℕ) (b : Bool) → nat_lt at last ≡ b → last ≤ cond b last at
order_by last at true is = omega arith
order_by last at false is = let low = ltb-false at last is in omega (arith, low)

pub later_order : (last at : ℕ) → last ≤ later last at
later_order last at = order_by last at (nat_lt at last) refl

-- ---- of the party as a value

module _ (before after_it : Relying) (at : ℕ) (fresh : List Word) (asked : RpAsk) (told : RpReply) (rows held : List VerifierRow) (k : Known)
    (keeps : KeepsVerifiers (past_of before) rows) (known : k ≡ known_of (past_of before) at fresh asked) (steps : Steps before after_it at fresh asked told)
    (same : held ≡ rows) where
  abbrev entry : Entry RpAsk
  entry = record { at = later (last_moment (past_of before)) at; fresh = fresh; ask = asked }

  abbrev first : Known
  first = known_of (past_of before) at fresh asked

  pub may_note : IfSome (if_begun told k.drawn) (MayAddVerifier (rows_left k (ends_login told) held))
  may_note =
      let K : Known → Type 0 = λ x. IfSome (if_begun told x.drawn) (MayAddVerifier (rows_left x (ends_login told) held)) in
      let H : List VerifierRow → Type 0 = λ xs. IfSome (if_begun told first.drawn) (MayAddVerifier (rows_left first (ends_login told) xs)) in
      subst K (sym known) (subst H (sym same)
      (may before.setup (past_of before) entry told steps.answer_is (later_order (last_moment (past_of before)) at) rows keeps))

  pub keeps_noted : (news : List VerifierRow) → news ≡ noted k told held → KeepsVerifiers (past_of after_it) news
  keeps_noted news is =
      let K : Known → List VerifierRow = λ x. noted x told held in
      let H : List VerifierRow → List VerifierRow = λ xs. noted first told xs in
      let P : RpPast → Type 0 = λ past. KeepsVerifiers past news in
      subst P (sym steps.past)
      (after before.setup (past_of before) entry told steps.answer_is (later_order (last_moment (past_of before)) at) rows keeps news
      (is ∙ ap K known ∙ ap H same))
