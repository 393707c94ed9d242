-- A world that breaks only one premise: browser 1 signs in at the provider as alice, and browser 2 posts the consent page
-- with the two cookies that were set for browser 1. The provider's answers are real, and it gives the code to browser 2.
use Rattle.std.proofs.Common.{◌≡◌, ℕ, true, false, [], ◌∷◌, inl, inr, refl, sym, ap, arith}
use Rattle.sso_model.specs.Rows.{Signed}
use Rattle.client_registry.specs.ClientSets.{no_clients}
use Rattle.request_params.proofs.OnLiterals.{request_params_on_literals}
use Rattle.op_answer.proofs.FirstLogin as op
use Rattle.sso_places.specs.World.{Provider, World, drawn}
use Rattle.sso_places.specs.Legal.{IsLegalWorld}
use Rattle.sso_places.specs.Premises.{HasDistinctWords, IsUnleaked, IsUnforged, IsJoined}
use Rattle.sso_places.specs.Agreement.{SignsOn}
use Rattle.sso_places.proofs.SmallSite.{site, are_distinct}
use Rattle.sso_places.proofs.LoginByCode.{authorizes, logs_in, consents, authorize_entry, code_answer, authorize_is_asked, login_is_asked, consent_is_asked, consent_legal}

abbrev signed : World
signed = Provider 1 logs_in (op.pair_of op.login_entry op.consent_page) ∷ Provider 1 authorizes (op.pair_of authorize_entry op.login_page) ∷ []

abbrev pub stolen : World
stolen = Provider 2 consents (op.pair_of op.consent_entry code_answer) ∷ signed

pub legal : IsLegalWorld site stolen
legal = record { provider = consent_legal; parties = λ n. tt; asked = (sym consent_is_asked, (sym login_is_asked, (sym authorize_is_asked, tt))) }

pub distinct : HasDistinctWords stolen
distinct = are_distinct (drawn stolen) refl

pub unforged : IsUnforged site stolen
unfolding request_params_on_literals
unforged = (((tt, refl), refl), refl)

pub joined : IsJoined stolen
joined = tt

leaked : IsUnleaked stolen → ⊥
leaked unleaked =
    let never : true ≡ false = unleaked.1 in
    absurd (cc)

-- browser 2 did not sign in
pub no_run : SignsOn site stolen → ⊥
unfolding SignsOn no_clients
no_run signs =
    elim signs.1.0.0 [
      | inl same ↦ let other : ◌≡◌ {A = ℕ} 1 2 = ap (λ (row : Signed). row.browser) same in absurd (omega (arith, other))
      | inr never ↦ never
    ]
