-- Parsing a line.
use Rattle.std.specs.Prelude.{ℕ, List, [], ◌∷◌, Option, Some, None, option_map, if◌then◌else◌}
use Rattle.sso_base.specs.Words.{Text}
use Rattle.sso_base.specs.RequestLine.{method_of}
use Rattle.client_registry.specs.Configuration.{Configuration}
use Rattle.trace_lines.specs.declared.line.Line.{Line}
use Rattle.trace_lines.specs.declared.line.Line.TheVariants as line
use Rattle.trace_lines.specs.declared.verb.Verb.{Verb}
use Rattle.trace_lines.specs.declared.verb.Verb.TheVariants.{At, Steal, Show, Begin, Follow, Mix, Forge, Login, Consent, Visit, Leave, SignOut, Carry, Back}
use Rattle.trace_lines.specs.declared.verb.Verb.TheVariants.{Raw}
use Rattle.trace_lines.specs.LineWords.{words_in}
use Rattle.trace_lines.specs.Values.{moment_of, browser_of, sender_of, place_of, message_of, party_of, role_of, choice_of, part_of, cookie_of}
use Rattle.trace_lines.specs.Verbs.{verb_of}
use Rattle.trace_lines.specs.Guilt.{is_skipped}

-- the line of these two, if both are there
abbrev pub of_two : {A B : Type 0} → (A → B → Line) → Option A → Option B → Option Line
of_two f (Some a) (Some b) = Some (f a b)
of_two f a b = None

-- the same for three
abbrev pub of_three : {A B C : Type 0} → (A → B → C → Line) → Option A → Option B → Option C → Option Line
of_three f (Some a) (Some b) (Some k) = Some (f a b k)
of_three f a b k = None

-- ---- longer lines

-- `mix B P NAME Q`
abbrev pub mix_said : Text → Text → Text → Text → Option Line
mix_said from place name other =
    of_three (λ b p q. line.Mix b p name q) (browser_of from) (place_of place) (place_of other)

-- `forge B P USER`
abbrev pub forge_said : Text → Text → Text → Option Line
forge_said from place user = of_two (λ b p. line.Forge b p user) (browser_of from) (place_of place)

-- `login B P USER PASSWORD`
abbrev pub login_said : Text → Text → Text → Text → Option Line
login_said from place user password = of_two (λ b p. line.Login b p user password) (browser_of from) (place_of place)

-- `consent B P yes`, or `no`
abbrev pub consent_said : Text → Text → Text → Option Line
consent_said from place choice =
    of_three (λ b p agree. line.Consent b p agree) (browser_of from) (place_of place) (choice_of choice)

-- one request, written out in full: its method, target, cookies, authorization and body
abbrev pub request_said : Configuration → Text → Text → List Text → Option Line
request_said c from to (method ∷ target ∷ first ∷ second ∷ auth ∷ body ∷ []) =
    of_two
    (λ n role. line.Raw n role (method_of method) (part_of target) (cookie_of first) (cookie_of second) (part_of auth) (part_of body))
    (sender_of from) (role_of c to)
request_said c from to request = None

-- `raw B TO METHOD TARGET FIRST SECOND AUTH BODY`
abbrev pub raw_said : Configuration → List Text → Option Line
raw_said c (from ∷ to ∷ request) = request_said c from to request
raw_said c words = None

-- ---- all lines

-- the parsed words after the first one, for a line that is not `raw`
abbrev pub short_said : Configuration → Verb → List Text → Option Line
short_said c At (seconds ∷ []) = option_map (λ at. line.At at) (moment_of seconds)
short_said c Steal (thief ∷ owner ∷ []) = of_two (λ t o. line.Steal t o) (browser_of thief) (browser_of owner)
short_said c Show (place ∷ []) = option_map (λ p. line.Show p) (place_of place)
short_said c Begin (from ∷ party ∷ []) = of_two (λ b n. line.Begin b n) (browser_of from) (party_of c party)
short_said c Follow (from ∷ place ∷ []) = of_two (λ b p. line.Follow b p) (browser_of from) (place_of place)
short_said c Mix (from ∷ place ∷ name ∷ other ∷ []) = mix_said from place name other
short_said c Forge (from ∷ place ∷ user ∷ []) = forge_said from place user
short_said c Login (from ∷ place ∷ user ∷ password ∷ []) = login_said from place user password
short_said c Consent (from ∷ place ∷ choice ∷ []) = consent_said from place choice
short_said c Visit (from ∷ party ∷ []) = of_two (λ b n. line.Visit b n) (browser_of from) (party_of c party)
short_said c Leave (from ∷ party ∷ []) = of_two (λ b n. line.Leave b n) (browser_of from) (party_of c party)
short_said c SignOut (from ∷ []) = option_map (λ b. line.SignOut b) (browser_of from)
short_said c Carry (place ∷ message ∷ []) = of_two (λ p k. line.Carry p k) (place_of place) (message_of message)
short_said c Back (place ∷ answer ∷ []) = of_two (λ p q. line.Back p q) (place_of place) (place_of answer)
short_said c verb words = None

-- the parsed words after the first one; none if one of them can't be read, or there are more or fewer
abbrev pub verb_said : Configuration → Verb → List Text → Option Line
verb_said c Raw words = raw_said c words
verb_said c verb words = short_said c verb words

-- the same, if the first word is that of a kind
abbrev pub by_verb : Configuration → Option Verb → List Text → Option Line
by_verb c None words = None
by_verb c (Some verb) words = verb_said c verb words

-- the parsed words of a line
abbrev pub words_said : Configuration → Option (List Text) → Option Line
words_said c None = None
words_said c (Some []) = None
words_said c (Some (verb ∷ words)) = by_verb c (verb_of verb) words

-- the parsed line; none if it is skipped, or its words can't be parsed
abbrev pub line_said : Configuration → List ℕ → Option Line
line_said c line = if is_skipped line then None else words_said c (words_in line)
