-- The sessions that a logout token names by a subject, a session identifier, or both (OpenID Connect Back-Channel Logout
-- 1.0, 2.4 and 2.7).
use Rattle.std.specs.Prelude.{◌≡◌, Bool, true, false, ◌&&◌, Option, Some, None, IfSome}
use Rattle.std.specs.Str.{bytes_eq}
use Rattle.sso_base.specs.Words.{Text}
use Rattle.rp_login.specs.declared.rows.SessionRow.{SessionRow}

-- a part that is not given matches every session; a given part matches an equal text
abbrev pub fits_text : Option Text → Option Text → Bool
fits_text None held = true
fits_text (Some part) None = false
fits_text (Some part) (Some text) = bytes_eq part text

-- the session matches each given part
abbrev pub is_meant : Option Text → Option Text → SessionRow → Bool
is_meant sub sid visit = fits_text sub (Some visit.sub) && fits_text sid visit.sid

-- the same, stated for each part
pub record IsMeant (sub sid : Option Text) (visit : SessionRow) : Type 0 where
  pub subject : IfSome sub (λ given. visit.sub ≡ given)
  pub session : IfSome sid (λ given. visit.sid ≡ Some given)
