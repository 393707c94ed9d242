-- The properties that are true after every run.
use Rattle.std.specs.List.{AllByRecursion}
use Rattle.sso_model.specs.Lists.{Has, AreDistinct}
use Rattle.sso_model.specs.Rows.{Live, Machine}
use Rattle.sso_model.specs.Machine.{began_row, signed_row, IsAnsweredFor}

-- the browser began this login at this client; the provider answered its nonce for this user; and the browser that received
-- that answer had signed in as this user by password
pub record IsFounded (m : Machine) (row : Live) : Type 0 where
  pub began : Has m.began (began_row row)
  pub answered : IsAnsweredFor m row
  pub signed : Has m.signed (signed_row answered.answered)

-- each live session is founded
abbrev pub HoldsOnlyFounded : Machine → Type 0
HoldsOnlyFounded m = AllByRecursion (IsFounded m) m.live

-- nothing was entered, redeemed or ended twice
pub record OnceEach (m : Machine) : Type 0 where
  pub entered : AreDistinct m.entered
  pub redeemed : AreDistinct m.redeemed
  pub ended : AreDistinct m.ended
