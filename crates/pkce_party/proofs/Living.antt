-- The verifier of a state that lives in the table is that of the past; and at first there is none.
use Rattle.std.proofs.Common.{◌≡◌, ◌≤◌, ℕ, List, [], Option, Some, option_and_then, refl, sym, ◌∙◌, ap, subst, arith}
use Rattle.sso_base.specs.Words.{Word}
use Rattle.sso_base.specs.Rows.{row_of, if_lives}
use Rattle.sso_base.specs.Legal.{last_moment}
use Rattle.sso_base.specs.Journal.{most_of, history_weight}
use Rattle.sso_base.proofs.RowLaws.{rows_distinct}
use Rattle.oidc_words.specs.Lives.{login_life}
use Rattle.held_rows.specs.Held.{IsHeld, AnyRow}
use Rattle.held_rows.proofs.Found.{found_in_both}
use Rattle.rp_exchange.specs.Weight.{ask_weight}
use Rattle.rp_answer.specs.Past.{RpPair}
use Rattle.rp_core.specs.Relying.{Relying, past_of}
use Rattle.pkce_party.specs.declared.rows.VerifierRow.{VerifierRow}
use Rattle.pkce_party.specs.Verifiers.{verifier_name, verifier_begun, verifier_made, verifier_kept, verifiers, live_verifier}
use Rattle.pkce_party.specs.Adding.{PartyPair}
use Rattle.pkce_party.specs.Keeping.{KeepsVerifiers, KeepsParty}
use Rattle.pkce_party.proofs.KeptRows.{verifier_names}

module _ (r : Relying) (rows : List VerifierRow) (keeps : KeepsVerifiers (past_of r) rows) (shown : Relying) (view : r ≡ shown) (at : ℕ)
    (order : last_moment (past_of shown) ≤ at) where
  in_order : last_moment (past_of r) ≤ at
  in_order = let B : Relying → Type 0 = λ x. last_moment (past_of x) ≤ at in subst B (sym view) order

  pub verifier_live : (state : Option Word) (w : Word) → state ≡ Some w → IsHeld verifier_name verifier_begun AnyRow rows
      → option_and_then (if_lives login_life verifier_begun at) (row_of verifier_name w rows) ≡ live_verifier (past_of shown) at state
  verifier_live state w is held =
      let L : Relying → Option VerifierRow = λ x. live_verifier (past_of x) at (Some w) in
      let M : Option Word → Option VerifierRow = λ v. live_verifier (past_of shown) at v in
      found_in_both verifier_name login_life verifier_begun (last_moment (past_of r)) at in_order w rows (verifiers (past_of r)) held.distinct
      (rows_distinct verifier_name verifier_made verifier_kept verifier_names (past_of r)) keeps.agrees
      ∙ ap L view ∙ ap M (sym is)

-- ---- at first

below : (n w : ℕ) → w ≡ 0 → w ≤ n
below n w none = omega (arith, none)

abbrev no_history : Relying → Relying
no_history r = record r { history = [] }

abbrev no_pairs : List PartyPair
no_pairs = []

none_kept : (r : Relying) → KeepsParty (no_history r) []
none_kept r =
    record {
      verifiers = record { agrees = refl; begun = refl };
      legal = record { past = tt; light = below (most_of r.setup.configuration.lasting) (history_weight ask_weight no_pairs) refl };
    }

pub begins : (r : Relying) (rows : List VerifierRow) → r.history ≡ [] → rows ≡ [] → KeepsParty r rows
begins r rows none empty =
    let H : List RpPair → Type 0 = λ h. KeepsParty (record r { history = h }) rows in
    let V : List VerifierRow → Type 0 = λ xs. KeepsParty (no_history r) xs in
    subst H (sym none) (subst V (sym empty) (none_kept r))
