-- A reply shows a page or a line, and is never empty.
use Rattle.std.proofs.Common.{◌≡◌, Bool, true, false, [], ◌∷◌, ◌++◌, Option, Some, None, refl, sym, ap, true≢false}
use Rattle.sso_base.specs.Words.{Text}
use Rattle.sso_base.specs.declared.http.Kind.{Kind}
use Rattle.sso_base.specs.declared.http.Kind.TheVariants.{Empty, Plain}
use Rattle.html_pages.specs.Documents.{kind_shown, body_shown}

abbrev is_plain : Kind → Bool
is_plain Plain = true
is_plain kind = false

abbrev is_empty : Kind → Bool
is_empty Empty = true
is_empty kind = false

pub line_if_plain : (page : Option Text) (line : Text) → kind_shown page ≡ Plain → body_shown page line ≡ line ++ 10 ∷ []
line_if_plain None line e = refl
line_if_plain (Some page) line e = absurd (true≢false (sym (ap is_plain e)))

pub never_empty : (page : Option Text) → kind_shown page ≡ Empty → ⊥
never_empty None e = true≢false (sym (ap is_empty e))
never_empty (Some page) e = true≢false (sym (ap is_empty e))
