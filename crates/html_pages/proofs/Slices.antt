-- What is in a part of a page is in the page.
use Rattle.std.proofs.Common.{◌++◌, sym, ap, ◌∙◌, append_assoc}
use Rattle.std.specs.Str.Iter.{HasSubslice}
use Rattle.sso_base.specs.Words.{Text}
use Rattle.html_pages.specs.Documents.{opening, closing, document, opening_until, document_until}

-- what is in the first or in the second of two texts is in both together
pub in_first : (u v s : Text) → HasSubslice u s → HasSubslice (u ++ v) s
in_first u v s w =
    (w.0, w.1 ++ v, ap (λ t. t ++ v) w.2 ∙ append_assoc w.0 (s ++ w.1) v ∙ ap (λ t. w.0 ++ t) (append_assoc s w.1 v))

pub in_second : (u v s : Text) → HasSubslice v s → HasSubslice (u ++ v) s
in_second u v s w = (u ++ w.0, w.1, ap (λ t. u ++ t) w.2 ∙ sym (append_assoc u w.0 (s ++ w.1)))

pub in_document : (heading site content s : Text) → HasSubslice content s → HasSubslice (document heading site content) s
in_document heading site content s w = in_first (opening heading site ++ content) closing s (in_second (opening heading site) content s w)

pub in_document_until : (seconds to heading site content s : Text) → HasSubslice content s → HasSubslice (document_until seconds to heading site content) s
in_document_until seconds to heading site content s w =
    in_first (opening_until seconds to heading site ++ content) closing s (in_second (opening_until seconds to heading site) content s w)
