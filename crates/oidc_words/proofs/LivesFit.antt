-- The life of an access token in decimal.
use Rattle.std.proofs.Common.{◌≡◌, decimal, refl}
use Rattle.std.specs.Fmt.{digits}
use Rattle.oidc_words.specs.Lives.{access_life, access_life_text}

pub says_its_life : access_life_text ≡ decimal access_life
unfolding digits
says_its_life = refl
