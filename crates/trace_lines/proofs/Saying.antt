-- A line without a fault parses to a line, unless it is skipped.
use Rattle.std.proofs.Common.{◌≡◌, ◌==◌, ℕ, List, [], ◌∷◌, length, Bool, true, false, cond, nat_lt, Option, Some, None, refl, arith}
use Rattle.std.specs.Prelude.{is_some, option_map}
use Rattle.std.proofs.lemmas.Bool.{eqb-true}
use Rattle.sso_base.specs.Words.{Text}
use Rattle.sso_base.specs.RequestLine.{method_of}
use Rattle.client_registry.specs.Configuration.{Configuration}
use Rattle.trace_lines.specs.declared.no.Fault.{Fault}
use Rattle.trace_lines.specs.declared.no.Fault.TheVariants as fault
use Rattle.trace_lines.specs.declared.line.Line.{Line}
use Rattle.trace_lines.specs.declared.line.Line.TheVariants as line
use Rattle.trace_lines.specs.declared.verb.Verb.{Verb}
use Rattle.trace_lines.specs.declared.verb.Verb.TheVariants.{At, Steal, Show, Begin, Follow, Mix, Forge, Login, Consent, Visit, Leave, SignOut, Carry, Back, Raw}
use Rattle.trace_lines.specs.Faults.{fault_if, fault_at_none}
use Rattle.trace_lines.specs.LineWords.{words_in}
use Rattle.trace_lines.specs.Values.{moment_of, browser_of, sender_of, place_of, message_of, party_of, role_of, choice_of, part_of, cookie_of}
use Rattle.trace_lines.specs.Verbs.{verb_of, fields_of}
use Rattle.trace_lines.specs.Guilt.{moment_fault, place_fault, fields_faults, verb_faults, words_faults, is_skipped, line_faults}
use Rattle.trace_lines.specs.Said.{of_two, of_three, verb_said, by_verb, words_said, line_said}
use Rattle.trace_lines.proofs.Keeping.{AreGuiltless, guiltless, onto_rest, then_none}

-- ---- readings that are there

read : {A : Type 0} (o : Option A) (e : Fault) → fault_at_none o e ≡ None → is_some o ≡ true
read None e h = absurd (cc)
read (Some x) e h = refl

read_moment : (before : List Line) (o : Option ℕ) → moment_fault before o ≡ None → is_some o ≡ true
read_moment before None h = absurd (cc)
read_moment before (Some at) h = refl

read_place : (before : List Line) (o : Option ℕ) → place_fault before o ≡ None → is_some o ≡ true
read_place before None h = absurd (cc)
read_place before (Some place) h = refl

-- ---- lines of one, two or three readings

of_one_some : {A : Type 0} (f : A → Line) (a : Option A) → is_some a ≡ true → is_some (option_map f a) ≡ true
of_one_some f None p = absurd (cc)
of_one_some f (Some x) p = refl

of_two_some : {A B : Type 0} (f : A → B → Line) (a : Option A) (b : Option B) → is_some a ≡ true → is_some b ≡ true → is_some (of_two f a b) ≡ true
of_two_some f None b p q = absurd (cc)
of_two_some f (Some x) None p q = absurd (cc)
of_two_some f (Some x) (Some y) p q = refl

of_three_some : {A B D : Type 0} (f : A → B → D → Line) (a : Option A) (b : Option B) (d : Option D) → is_some a ≡ true → is_some b ≡ true → is_some d ≡ true → is_some (of_three f a b d) ≡ true
of_three_some f None b d p q r = absurd (cc)
of_three_some f (Some x) None d p q r = absurd (cc)
of_three_some f (Some x) (Some y) None p q r = absurd (cc)
of_three_some f (Some x) (Some y) (Some z) p q r = refl

-- ---- the lines by their first words

verb_speaks : (c : Configuration) (before : List Line) (verb : Verb) (words : List Text) → length words ≡ length (fields_of verb) → AreGuiltless c before (fields_of verb) words → is_some (verb_said c verb words) ≡ true
verb_speaks c before At (seconds ∷ []) many none = of_one_some (λ at. line.At at) (moment_of seconds) (read_moment before (moment_of seconds) none.0)
verb_speaks c before Steal (thief ∷ owner ∷ []) many none = of_two_some (λ t o. line.Steal t o) (browser_of thief) (browser_of owner) (read (browser_of thief) fault.Number none.0) (read (browser_of owner) fault.Number none.1.0)
verb_speaks c before Show (place ∷ []) many none = of_one_some (λ p. line.Show p) (place_of place) (read_place before (place_of place) none.0)
verb_speaks c before Begin (from ∷ party ∷ []) many none = of_two_some (λ b n. line.Begin b n) (browser_of from) (party_of c party) (read (browser_of from) fault.Number none.0) (read (party_of c party) fault.NoSuchParty none.1.0)
verb_speaks c before Follow (from ∷ place ∷ []) many none = of_two_some (λ b p. line.Follow b p) (browser_of from) (place_of place) (read (browser_of from) fault.Number none.0) (read_place before (place_of place) none.1.0)
verb_speaks c before Mix (from ∷ place ∷ name ∷ other ∷ []) many none = of_three_some (λ b p q. line.Mix b p name q) (browser_of from) (place_of place) (place_of other) (read (browser_of from) fault.Number none.0) (read_place before (place_of place) none.1.0) (read_place before (place_of other) none.1.1.1.0)
verb_speaks c before Forge (from ∷ place ∷ user ∷ []) many none = of_two_some (λ b p. line.Forge b p user) (browser_of from) (place_of place) (read (browser_of from) fault.Number none.0) (read_place before (place_of place) none.1.0)
verb_speaks c before Login (from ∷ place ∷ user ∷ password ∷ []) many none = of_two_some (λ b p. line.Login b p user password) (browser_of from) (place_of place) (read (browser_of from) fault.Number none.0) (read_place before (place_of place) none.1.0)
verb_speaks c before Consent (from ∷ place ∷ choice ∷ []) many none = of_three_some (λ b p agree. line.Consent b p agree) (browser_of from) (place_of place) (choice_of choice) (read (browser_of from) fault.Number none.0) (read_place before (place_of place) none.1.0) (read (choice_of choice) fault.Word none.1.1.0)
verb_speaks c before Visit (from ∷ party ∷ []) many none = of_two_some (λ b n. line.Visit b n) (browser_of from) (party_of c party) (read (browser_of from) fault.Number none.0) (read (party_of c party) fault.NoSuchParty none.1.0)
verb_speaks c before Leave (from ∷ party ∷ []) many none = of_two_some (λ b n. line.Leave b n) (browser_of from) (party_of c party) (read (browser_of from) fault.Number none.0) (read (party_of c party) fault.NoSuchParty none.1.0)
verb_speaks c before SignOut (from ∷ []) many none = of_one_some (λ b. line.SignOut b) (browser_of from) (read (browser_of from) fault.Number none.0)
verb_speaks c before Carry (place ∷ message ∷ []) many none = of_two_some (λ p k. line.Carry p k) (place_of place) (message_of message) (read_place before (place_of place) none.0) (read (message_of message) fault.Number none.1.0)
verb_speaks c before Back (place ∷ answer ∷ []) many none = of_two_some (λ p q. line.Back p q) (place_of place) (place_of answer) (read_place before (place_of place) none.0) (read_place before (place_of answer) none.1.0)
verb_speaks c before Raw (from ∷ to ∷ method ∷ target ∷ first ∷ second ∷ auth ∷ body ∷ []) many none =
    of_two_some (λ b role. line.Raw b role (method_of method) (part_of target) (cookie_of first) (cookie_of second) (part_of auth) (part_of body))
    (sender_of from) (role_of c to) (read (sender_of from) fault.Number none.0) (read (role_of c to) fault.NoSuchParty none.1.0)
verb_speaks c before verb words many none = absurd (omega arith)

-- ---- all lines

as_many : (b : Bool) (es : List Fault) → cond b es (fault.Word ∷ []) ≡ [] → b ≡ true
as_many true es h = refl
as_many false es h = absurd (cc)

verb_said_some : (c : Configuration) (before : List Line) (verb : Option Verb) (words : List Text) → verb_faults c before verb words ≡ [] → is_some (by_verb c verb words) ≡ true
verb_said_some c before None words none = absurd (cc)
verb_said_some c before (Some verb) words none =
    let faults : List Fault = fields_faults c before (fields_of verb) words in
    verb_speaks c before verb words
    (eqb-true (length words) (length (fields_of verb)) (as_many (length words == length (fields_of verb)) faults none))
    (guiltless c before (fields_of verb) words (then_none (length words == length (fields_of verb)) faults none))

words_speak : (c : Configuration) (before : List Line) (words : Option (List Text)) → words_faults c before words ≡ [] → is_some (words_said c words) ≡ true
words_speak c before None none = absurd (cc)
words_speak c before (Some []) none = absurd (cc)
words_speak c before (Some (verb ∷ words)) none = verb_said_some c before (verb_of verb) words none

where_spoken : (c : Configuration) (before : List Line) (line : List ℕ) (b : Bool) → b ≡ false → cond b [] (words_faults c before (words_in line)) ≡ [] → is_some (cond b None (words_said c (words_in line))) ≡ true
where_spoken c before line true is h = absurd (cc)
where_spoken c before line false is h = words_speak c before (words_in line) h

pub line_speaks : (c : Configuration) (before : List Line) (line : List ℕ) → line_faults c before line ≡ [] → is_skipped line ≡ false → is_some (line_said c line) ≡ true
line_speaks c before line none spoken =
    where_spoken c before line (is_skipped line) spoken
    (onto_rest (fault_if (nat_lt 65536 (length line)) fault.LineTooLong) (cond (is_skipped line) [] (words_faults c before (words_in line))) none)
