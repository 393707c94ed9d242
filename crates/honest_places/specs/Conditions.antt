-- The conditions of an honest login. None of them can be left out: without it a login may fail, even if all others are met. For
-- each but the last there is such a login (`no_condition_can_be_left_out` of `honest_worlds`). The last one is about tables of
-- 65,536 rows.
use Rattle.std.specs.Prelude.{◌≡◌, Option, Some}

pub data Condition : Type 0 where
  -- the party lets its users be prompted: its `prompt` has no `none`
  party_may_ask : Condition
  -- the password is the user's
  right_password : Condition
  -- the browser presents the cookies that the role last set in the login, or else those that it presented there before
  last_cookies : Condition
  -- nobody else presents a word that the login drew or presented
  own_words : Condition
  -- a turn, a provider's session, an access token, a login and an exchange are used within their lifetimes
  within_lives : Condition
  -- a code reaches the token endpoint within 120 seconds
  code_in_time : Condition
  -- the ID Token of an authorization response arrives within 360 seconds
  token_in_time : Condition
  -- at a consent the user's last sign-in is not older than the party allows
  recent_sign_in : Condition
  -- the party has accepted no logout token with the `sid` of the login's last ID Token
  no_logout : Condition
  -- no table is full
  free_rows : Condition

-- the demand of a condition, if that condition is not the one that is left out
abbrev pub Unless : Option Condition → Condition → Type 0 → Type 0
Unless left_out condition Demand = (left_out ≡ Some condition → ⊥) → Demand
