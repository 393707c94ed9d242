-- The consent of the first login grants what it was about, and nothing else, by computation.
use Rattle.std.proofs.Common.{◌≡◌, Bool, true, false, refl, sym, ◌∙◌, ap}
use Rattle.oidc_words.specs.declared.scopes.Scopes.{Scopes}
use Rattle.user_interaction.specs.Need.{needed_scopes}
use Rattle.oidc_words.specs.Scopes.{joined}
use Rattle.oidc_words.specs.Claims.{scopes_with_any}
use Rattle.op_answer.specs.Consents.{grant_of}
use Rattle.op_answer.specs.Granted.{Granted}
use Rattle.op_answer.proofs.Granting.{email_granted, profile_granted}
use Rattle.op_answer.proofs.FirstLogin.{past_code}
use Rattle.op_exchange.proofs.Sample.{profile_scopes}

alice_granted : grant_of past_code 0 0 ≡ profile_scopes
unfolding needed_scopes joined scopes_with_any
alice_granted = refl

the_profile_is_granted : Granted past_code 0 0 (λ s. s.profile)
the_profile_is_granted = let P : Scopes → Bool = λ s. s.profile in (profile_granted past_code 0 0).0 (ap P alice_granted)

the_email_is_not : Granted past_code 0 0 (λ s. s.email) → ⊥
the_email_is_not granted =
    let E : Scopes → Bool = λ s. s.email in
    let k : false ≡ true = sym (ap E alice_granted) ∙ (email_granted past_code 0 0).1 granted in cc

-- nor is the profile by another user
bob_granted_nothing : (grant_of past_code 1 0).profile ≡ false
unfolding needed_scopes joined scopes_with_any
bob_granted_nothing = refl
