-- Wishes that hold values of their types: texts in UTF-8, numbers of their size; and nonces that fit into a token.
use Rattle.std.specs.Prelude.{◌<◌, ◌^◌, Bool, true, nat_le, length, Option, Some, None, IfSome}
use Rattle.std.specs.Str.{IsUtf8}
use Rattle.sso_base.specs.Words.{Text}
use Rattle.sso_base.specs.Values.{IsWide, AreTexts}
use Rattle.auth_request.specs.declared.wish.Wish.{Wish}

pub record IsWishValue (wish : Wish) : Type 0 where
  pub client : wish.client < 2 ^ 32
  pub redirect : IsUtf8 wish.redirect
  pub state : IfSome wish.state IsUtf8
  pub nonce : IfSome wish.nonce IsUtf8
  pub max_age : IfSome wish.max_age IsWide
  pub subs : IfSome wish.subs AreTexts
  pub id_asked : AreTexts wish.id_asked
  pub info_asked : AreTexts wish.info_asked

-- a nonce, if there is one, has at most 255 bytes (our choice)
abbrev pub is_short_nonce : Option Text → Bool
is_short_nonce None = true
is_short_nonce (Some nonce) = nat_le (length nonce) 255
