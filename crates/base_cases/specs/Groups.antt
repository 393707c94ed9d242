-- The groups that members are in.
use Rattle.std.specs.Prelude.{Bool, true, Option, Some, None}
use Rattle.sso_base.specs.Words.{Text}
use Rattle.sso_base.specs.Texts.{is_given}

-- no text is given, or it is this one
abbrev pub fits_text : Option Text → Option Text → Bool
fits_text None held = true
fits_text (Some text) held = is_given text held
