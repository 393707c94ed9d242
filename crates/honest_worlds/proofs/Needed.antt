-- None of the conditions of an honest login can be left out, a full table apart: a world for each.
use Rattle.std.proofs.Common.{◌≡◌, refl}
use Rattle.honest_places.specs.Conditions.{Condition, party_may_ask, right_password, last_cookies, own_words, within_lives, code_in_time, token_in_time, recent_sign_in, no_logout, free_rows}
use Rattle.honest_worlds.specs.Needed.{FailsWithout}
use Rattle.honest_worlds.proofs.SilentParty.{silent_party_fails}
use Rattle.honest_worlds.proofs.WrongPassword.{wrong_password_fails}
use Rattle.honest_worlds.proofs.OtherCookie.{other_cookie_fails}
use Rattle.honest_worlds.proofs.SpentCode.{spent_code_fails}
use Rattle.honest_worlds.proofs.LateTurn.{late_turn_fails}
use Rattle.honest_worlds.proofs.LateCode.{late_code_fails}
use Rattle.honest_worlds.proofs.LateToken.{late_token_fails}
use Rattle.honest_worlds.proofs.LateConsent.{late_consent_fails}
use Rattle.honest_worlds.proofs.EarlyLogout.{early_logout_fails}

pub needed : (k : Condition) → (k ≡ free_rows → ⊥) → FailsWithout k
needed party_may_ask other = silent_party_fails
needed right_password other = wrong_password_fails
needed last_cookies other = other_cookie_fails
needed own_words other = spent_code_fails
needed within_lives other = late_turn_fails
needed code_in_time other = late_code_fails
needed token_in_time other = late_token_fails
needed recent_sign_in other = late_consent_fails
needed no_logout other = early_logout_fails
needed free_rows other = absurd (other refl)
