-- The rows that the consent of a first login makes, and what a provider keeps, by computation.
use Rattle.std.proofs.Common.{◌≡◌, [], ◌∷◌, Some, None, refl, arith}
use Rattle.code_grant.specs.Tables.{no_tables}
use Rattle.op_tables.proofs.Samples.{taken, alice_code, before_consent, they_agree, they_are_begun, they_are_own}
use Rattle.op_core.specs.Keeps.{KeepsPast, Keeps}
use Rattle.op_core.specs.Outcome.{used_found, MakesRows}
use Rattle.op_core.proofs.Beginning.{begins}
use Rattle.op_exchange.proofs.Sample.{word, sample}
use Rattle.op_answer.proofs.FirstLogin.{pair_of, past_consent, consent_entry, late_consent, code_answer, past_code}
use Rattle.op_answer.proofs.Sessions.{again, answer_again, alice_entry, alice_answer, fresh_turn}

-- ---- the session of a reply that answers: presented, left by a login, or the live turn's

the_presented_one_is_used : used_found past_code (again 1001) (again 1001).ask answer_again ≡ Some (word 9)
the_presented_one_is_used = refl

the_one_that_a_login_left_is_used : used_found fresh_turn alice_entry alice_entry.ask alice_answer ≡ Some (word 9)
the_one_that_a_login_left_is_used = refl

the_turns_one_is_used : used_found past_consent consent_entry consent_entry.ask code_answer ≡ Some (word 9)
the_turns_one_is_used = refl

none_of_an_old_turn_is_used : used_found past_consent late_consent late_consent.ask code_answer ≡ None
none_of_an_old_turn_is_used = refl

-- ---- the rows that a pair makes

a_consent_brings_a_code : MakesRows past_consent (pair_of consent_entry code_answer) None None (Some alice_code) None (Some (word 9)) (Some 0)
a_consent_brings_a_code =
    record { turn_is = refl; session_is = refl; code_is = refl; token_is = refl; client_is = refl; used_is = λ n is. refl }

it_does_not_bring_nothing : MakesRows past_consent (pair_of consent_entry code_answer) None None None None (Some (word 9)) (Some 0) → ⊥
it_does_not_bring_nothing rows = (let k : None ≡ Some alice_code = rows.code_is in cc)

-- ---- what a provider keeps

the_tables_are_kept : KeepsPast sample past_consent before_consent
the_tables_are_kept = record { agrees = they_agree; begun = they_are_begun; own = they_are_own }

not_without_the_turn : KeepsPast sample past_consent no_tables → ⊥
not_without_the_turn keeps = (let k : [] ≡ taken ∷ [] = keeps.agrees.turns in cc)

it_begins_without_rows : Keeps sample [] no_tables 268435456
it_begins_without_rows = begins sample [] no_tables 268435456 refl refl refl

not_with_a_turn : Keeps sample [] before_consent 268435456 → ⊥
not_with_a_turn keeps = (let k : taken ∷ [] ≡ [] = keeps.tables.agrees.turns in cc)

not_with_another_limit : Keeps sample [] no_tables 268435457 → ⊥
not_with_another_limit keeps = (let limit : 268435457 ≡ 268435456 = keeps.most_is in absurd (omega (arith, limit)))
