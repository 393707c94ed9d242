-- The lines of a trace after the first, by their first words, and the kinds of their further words.
use Rattle.std.specs.Prelude.{List, [], ◌∷◌, codes, Option, find}
use Rattle.std.specs.Str.{bytes_eq}
use Rattle.sso_base.specs.Words.{Text}
use Rattle.trace_lines.specs.declared.verb.Verb.{Verb}
use Rattle.trace_lines.specs.declared.verb.Verb.TheVariants.{At, Steal, Show, Begin, Follow, Mix, Forge, Login, Consent, Visit, Leave, SignOut, Carry, Back}
use Rattle.trace_lines.specs.declared.verb.Verb.TheVariants.{Raw}
use Rattle.trace_lines.specs.declared.verb.Field.{Field}
use Rattle.trace_lines.specs.declared.verb.Field.TheVariants.{Seconds, Browser, Sender, Place, Message, Party, Role, Choice, Subject, Free}

-- the kinds of lines
abbrev pub verbs : List Verb
verbs = At ∷ Steal ∷ Show ∷ Begin ∷ Follow ∷ Mix ∷ Forge ∷ Login ∷ Consent ∷ Visit ∷ Leave ∷ SignOut ∷ Carry ∷ Back ∷ Raw ∷ []

-- the first word of each kind of line
unfoldable pub verb_text : Verb → Text
verb_text At = codes "at"
verb_text Steal = codes "steal"
verb_text Show = codes "show"
verb_text Begin = codes "begin"
verb_text Follow = codes "follow"
verb_text Mix = codes "mix"
verb_text Forge = codes "forge"
verb_text Login = codes "login"
verb_text Consent = codes "consent"
verb_text Visit = codes "visit"
verb_text Leave = codes "leave"
verb_text SignOut = codes "signout"
verb_text Carry = codes "carry"
verb_text Back = codes "back"
verb_text Raw = codes "raw"

-- the kind of line that begins with the word
unfoldable pub verb_of : Text → Option Verb
verb_of word = find (λ verb. bytes_eq (verb_text verb) word) verbs

-- the kinds of the words after it
abbrev pub fields_of : Verb → List Field
fields_of At = Seconds ∷ []
fields_of Steal = Browser ∷ Browser ∷ []
fields_of Show = Place ∷ []
fields_of Begin = Browser ∷ Party ∷ []
fields_of Follow = Browser ∷ Place ∷ []
fields_of Mix = Browser ∷ Place ∷ Free ∷ Place ∷ []
fields_of Forge = Browser ∷ Place ∷ Subject ∷ []
fields_of Login = Browser ∷ Place ∷ Free ∷ Free ∷ []
fields_of Consent = Browser ∷ Place ∷ Choice ∷ []
fields_of Visit = Browser ∷ Party ∷ []
fields_of Leave = Browser ∷ Party ∷ []
fields_of SignOut = Browser ∷ []
fields_of Carry = Place ∷ Message ∷ []
fields_of Back = Place ∷ Place ∷ []
fields_of Raw = Sender ∷ Role ∷ Free ∷ Free ∷ Free ∷ Free ∷ Free ∷ Free ∷ []
