-- Each kind of line has a first word of its own.
use Rattle.std.proofs.Common.{◌≡◌, List, [], ◌∷◌, Bool, true, false, cond, Option, Some, refl, sym, ap, ◌∙◌}
use Rattle.std.specs.List.{find}
use Rattle.std.specs.Str.{bytes_eq}
use Rattle.std.proofs.lemmas.Slice.Eq.{bytes_eq-Decides}
use Rattle.sso_base.specs.Words.{Text}
use Rattle.trace_lines.specs.declared.verb.Verb.{Verb}
use Rattle.trace_lines.specs.declared.verb.Verb.TheVariants.{At, Steal, Show, Begin, Follow, Mix, Forge, Login, Consent, Visit, Leave, SignOut, Carry, Back, Raw}
use Rattle.trace_lines.specs.Verbs.{verbs, verb_text, verb_of}

found_at : (test : Verb → Bool) (x y : Verb) (o : Option Verb) (b : Bool) → test x ≡ b → cond b (Some x) o ≡ Some y → (o ≡ Some y → test y ≡ true) → test y ≡ true
found_at test x y o true is h later = let same : x ≡ y = cc in ap test (sym same) ∙ is
found_at test x y o false is h later = later h

found_passes : (test : Verb → Bool) (xs : List Verb) (y : Verb) → find test xs ≡ Some y → test y ≡ true
found_passes test [] y h = absurd (cc)
found_passes test (x ∷ xs) y h = found_at test x y (find test xs) (test x) refl h (found_passes test xs y)

verb_of-verb_text : (verb : Verb) → verb_of (verb_text verb) ≡ Some verb
unfolding verb_text verb_of
verb_of-verb_text At = refl
verb_of-verb_text Steal = refl
verb_of-verb_text Show = refl
verb_of-verb_text Begin = refl
verb_of-verb_text Follow = refl
verb_of-verb_text Mix = refl
verb_of-verb_text Forge = refl
verb_of-verb_text Login = refl
verb_of-verb_text Consent = refl
verb_of-verb_text Visit = refl
verb_of-verb_text Leave = refl
verb_of-verb_text SignOut = refl
verb_of-verb_text Carry = refl
verb_of-verb_text Back = refl
verb_of-verb_text Raw = refl

abbrev is_text_of : Text → Verb → Bool
is_text_of word verb = bytes_eq (verb_text verb) word

found : (word : Text) (verb : Verb) → verb_of word ≡ Some verb → find (is_text_of word) verbs ≡ Some verb
unfolding verb_of
found word verb h = h

pub verb_is_text : (word : Text) (verb : Verb) → verb_of word ≡ Some verb → word ≡ verb_text verb
verb_is_text word verb h = sym ((bytes_eq-Decides (verb_text verb) word).0 (found_passes (is_text_of word) verbs verb (found word verb h)))

pub text_is_verb : (word : Text) (verb : Verb) → word ≡ verb_text verb → verb_of word ≡ Some verb
text_is_verb word verb is = ap verb_of is ∙ verb_of-verb_text verb
