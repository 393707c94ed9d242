-- Every line that is accepted may come after those before it.
use Rattle.std.proofs.Common.{◌≡◌, ◌<◌, ◌≤◌, ◌==◌, ◌&&◌, ◌+◌, ◌-◌, ◌^◌, ℕ, suc, List, [], ◌∷◌, length, Bool, true, false, cond, nat_le, nat_lt, Option, Some, None, Ok, refl, sym, ap, subst, arith}
use Rattle.std.specs.Prelude.{IfSome, codes, option_map}
use Rattle.std.specs.List.{AllByRecursion, position_from, count_by}
use Rattle.std.proofs.lemmas.Bool.{and_parts, leb-true, ltb-false}
use Rattle.std.proofs.lemmas.List.Splits.{length-slice_split}
use Rattle.std.proofs.lemmas.List.Sums.{count_by-le-length}
use Rattle.std.specs.Str.{bytes_eq}
use Rattle.sso_base.specs.Words.{Text}
use Rattle.sso_base.specs.RequestLine.{method_of}
use Rattle.sso_base.specs.Values.{IsWide, latest_moment}
use Rattle.client_registry.specs.Configuration.{Configuration}
use Rattle.client_registry.specs.declared.records.Party.{Party}
use Rattle.trace_lines.specs.declared.no.Fault.{Fault}
use Rattle.trace_lines.specs.declared.no.Fault.TheVariants as fault
use Rattle.trace_lines.specs.declared.line.Line.{Line}
use Rattle.trace_lines.specs.declared.line.Line.TheVariants as line
use Rattle.sso_places.specs.declared.types.To.TheVariants as to
use Rattle.trace_lines.specs.declared.verb.Verb.{Verb}
use Rattle.trace_lines.specs.declared.verb.Verb.TheVariants.{At, Steal, Show, Begin, Follow, Mix, Forge, Login, Consent, Visit, Leave, SignOut, Carry, Back, Raw}
use Rattle.trace_lines.specs.declared.verb.Field.{Field}
use Rattle.trace_lines.specs.Number.{number_of, within}
use Rattle.trace_lines.specs.Faults.{onto, fault_if}
use Rattle.trace_lines.specs.Lines.{moment_after, places_after}
use Rattle.trace_lines.specs.LineWords.{words_in, IsVisibleWord}
use Rattle.trace_lines.specs.Values.{moment_of, browser_of, sender_of, place_of, message_of, party_of, role_of, choice_of, part_of, cookie_of}
use Rattle.trace_lines.specs.Verbs.{verb_of, fields_of}
use Rattle.trace_lines.specs.Guilt.{moment_fault, place_fault, field_fault, fields_faults, verb_faults, words_faults, is_skipped, line_faults}
use Rattle.trace_lines.specs.Said.{of_two, of_three, verb_said, by_verb, words_said, line_said}
use Rattle.trace_lines.specs.Trace.{Told, added, lines_of, IsHeaded, trace_told}
use Rattle.sso_places.specs.Legal.{IsRole}
use Rattle.trace_lines.specs.Order.{IsBrowser, IsTaken, IsPartyOf, MayCome, AreInOrder, IsReadFor}
use Rattle.trace_lines.proofs.Cutting.{words_cut}
use Rattle.trace_lines.proofs.Decimals.{number_below}
use Rattle.trace_lines.proofs.Accepting.{Goes, accepted_goes}
use Rattle.trace_lines.proofs.Refusing.{told_trace}

-- ---- single words

range_kept : (low high n : ℕ) (b : Bool) → (nat_le low n && nat_le n high) ≡ b → IfSome (cond b (Some n) None) (λ m. (low ≤ m) × (m ≤ high))
range_kept low high n true is = let parts = and_parts (nat_le low n) (nat_le n high) is in (leb-true low n parts.0, leb-true n high parts.1)
range_kept low high n false is = tt

within_range : (low high : ℕ) (o : Option ℕ) → IfSome (within low high o) (λ m. (low ≤ m) × (m ≤ high))
within_range low high None = tt
within_range low high (Some n) = range_kept low high n (nat_le low n && nat_le n high) refl

browser_range : (word : Text) → IfSome (browser_of word) IsBrowser
browser_range word = within_range 1 65535 (number_of word)

upper : (o : Option ℕ) → IfSome o (λ m. (0 ≤ m) × (m ≤ 65535)) → IfSome o (λ n. n ≤ 65535)
upper None h = tt
upper (Some n) h = h.1

sender_range : (word : Text) → IfSome (sender_of word) (λ n. n ≤ 65535)
sender_range word = upper (sender_of word) (within_range 0 65535 (number_of word))

none_if : (b : Bool) (e : Fault) → fault_if b e ≡ None → b ≡ false
none_if true e h = absurd (cc)
none_if false e h = refl

moment_may : (before : List Line) (o : Option ℕ) → IfSome o (λ m. (0 ≤ m) × (m ≤ latest_moment)) → moment_fault before o ≡ None → IfSome o (λ at. (moment_after before ≤ at) × (at ≤ latest_moment))
moment_may before None range h = tt
moment_may before (Some at) range h = (ltb-false at (moment_after before) (none_if (nat_lt at (moment_after before)) fault.Backwards h), range.1)

place_may : (before : List Line) (o : Option ℕ) → IfSome o (λ m. (1 ≤ m) × (m ≤ 2 ^ 64 - 1)) → place_fault before o ≡ None → IfSome o (IsTaken before)
place_may before None range h = tt
place_may before (Some place) range h = (range.0, ltb-false (places_after before) place (none_if (nat_lt (places_after before) place) fault.NoSuchReply h))

at_may : (c : Configuration) (before : List Line) (word : Text) → moment_fault before (moment_of word) ≡ None → IfSome (moment_of word) (λ at. (moment_after before ≤ at) × (at ≤ latest_moment))
at_may c before word h = moment_may before (moment_of word) (within_range 0 latest_moment (number_of word)) h

taken_may : (before : List Line) (word : Text) → place_fault before (place_of word) ≡ None → IfSome (place_of word) (IsTaken before)
taken_may before word h = place_may before (place_of word) (within_range 1 (2 ^ 64 - 1) (number_of word)) h

position_step : (b : Bool) (i n : ℕ) (o : Option ℕ) → IfSome o (λ k. k < i + 1 + n) → IfSome (cond b (Some i) o) (λ k. k < i + suc n)
position_step true i n o h = let here : i < i + suc n = omega arith in here
position_step false i n None h = tt
position_step false i n (Some k) h = let less : k < i + 1 + n = h in let more : k < i + suc n = omega arith in more

position_below : {K : Type 0} (t : K → Bool) (i : ℕ) (xs : List K) → IfSome (position_from t i xs) (λ k. k < i + length xs)
position_below t i [] = tt
position_below t i (x ∷ xs) = position_step (t x) i (length xs) (position_from t (i + 1) xs) (position_below t (i + 1) xs)

party_below : (c : Configuration) (o : Option ℕ) → IfSome o (λ k. k < 0 + length c.parties) → IfSome o (IsPartyOf c)
party_below c None h = tt
party_below c (Some k) h = let less : k < 0 + length c.parties = h in let more : k < length c.parties = omega arith in more

party_range : (c : Configuration) (word : Text) → IfSome (party_of c word) (IsPartyOf c)
party_range c word = party_below c (party_of c word) (position_below (λ (p : Party). bytes_eq p.name word) 0 c.parties)

role_step : (c : Configuration) (b : Bool) (o : Option ℕ) → IfSome o (IsPartyOf c) → IfSome (cond b (Some to.Provider) (option_map (λ party. to.Party party) o)) (IsRole c)
role_step c true o h = tt
role_step c false None h = tt
role_step c false (Some n) h = h

role_range : (c : Configuration) (word : Text) → IfSome (role_of c word) (IsRole c)
role_range c word = role_step c (bytes_eq word (codes "op")) (party_of c word) (party_range c word)

part_step : (b : Bool) (word : Text) → IsVisibleWord word → IfSome (cond b None (Some word)) IsVisibleWord
part_step true word is = tt
part_step false word is = is

part_visible : (word : Text) → IsVisibleWord word → IfSome (part_of word) IsVisibleWord
part_visible word is = part_step (bytes_eq word (codes "-")) word is

-- ---- what follows from no fault

onto_none : (o : Option Fault) (es : List Fault) → onto o es ≡ [] → o ≡ None
onto_none None es h = refl
onto_none (Some e) es h = absurd (cc)

pub onto_rest : (o : Option Fault) (es : List Fault) → onto o es ≡ [] → es ≡ []
onto_rest None es h = h
onto_rest (Some e) es h = absurd (cc)

-- no word has a fault as its field
abbrev pub AreGuiltless : Configuration → List Line → List Field → List Text → Type 0
AreGuiltless c before (field ∷ fields) (word ∷ words) = (field_fault c before field word ≡ None) × AreGuiltless c before fields words
AreGuiltless c before fields words = Unit {0}

pub guiltless : (c : Configuration) (before : List Line) (fields : List Field) (words : List Text) → fields_faults c before fields words ≡ [] → AreGuiltless c before fields words
guiltless c before [] words h = tt
guiltless c before (field ∷ fields) [] h = tt
guiltless c before (field ∷ fields) (word ∷ words) h = (
  onto_none (field_fault c before field word) (fields_faults c before fields words) h,
  guiltless c before fields words (onto_rest (field_fault c before field word) (fields_faults c before fields words) h),
)

-- ---- lines of two or three readings

two_may : {A B : Type 0} (f : A → B → Line) (Q : Line → Type 0) (P : A → Type 0) (R : B → Type 0) (a : Option A) (b : Option B) → IfSome a P → IfSome b R → ((x : A) (y : B) → P x → R y → Q (f x y)) → IfSome (of_two f a b) Q
two_may f Q P R None b p r q = tt
two_may f Q P R (Some x) None p r q = tt
two_may f Q P R (Some x) (Some y) p r q = q x y p r

three_may : {A B D : Type 0} (f : A → B → D → Line) (Q : Line → Type 0) (P : A → Type 0) (R : B → Type 0) (S : D → Type 0) (a : Option A) (b : Option B) (d : Option D) → IfSome a P → IfSome b R → IfSome d S → ((x : A) (y : B) (z : D) → P x → R y → S z → Q (f x y z)) → IfSome (of_three f a b d) Q
three_may f Q P R S None b d p r s q = tt
three_may f Q P R S (Some x) None d p r s q = tt
three_may f Q P R S (Some x) (Some y) None p r s q = tt
three_may f Q P R S (Some x) (Some y) (Some z) p r s q = q x y z p r s

one_may : {A : Type 0} (f : A → Line) (Q : Line → Type 0) (P : A → Type 0) (a : Option A) → IfSome a P → ((x : A) → P x → Q (f x)) → IfSome (option_map f a) Q
one_may f Q P None p q = tt
one_may f Q P (Some x) p q = q x p

any_of : {A : Type 0} (o : Option A) → IfSome o (λ x. Unit {0})
any_of None = tt
any_of (Some x) = tt

short_word : (word : Text) → fault_if (nat_lt 255 (length word)) fault.Word ≡ None → length word ≤ 255
short_word word h = ltb-false 255 (length word) (none_if (nat_lt 255 (length word)) fault.Word h)

wide_message : (word : Text) → IfSome (message_of word) IsWide
wide_message word = number_below word

-- ---- the lines by their first words

verb_may : (c : Configuration) (before : List Line) (verb : Verb) (words : List Text) → AreGuiltless c before (fields_of verb) words → AllByRecursion IsVisibleWord words → IfSome (verb_said c verb words) (MayCome c before)
verb_may c before At (seconds ∷ []) none visible = one_may (λ at. line.At at) (MayCome c before) (λ at. (moment_after before ≤ at) × (at ≤ latest_moment)) (moment_of seconds) (at_may c before seconds none.0) (λ at is. is)
verb_may c before Steal (thief ∷ owner ∷ []) none visible = two_may (λ t o. line.Steal t o) (MayCome c before) IsBrowser IsBrowser (browser_of thief) (browser_of owner) (browser_range thief) (browser_range owner) (λ t o p r. (p, r))
verb_may c before Show (place ∷ []) none visible = one_may (λ p. line.Show p) (MayCome c before) (IsTaken before) (place_of place) (taken_may before place none.0) (λ p is. is)
verb_may c before Begin (from ∷ party ∷ []) none visible = two_may (λ b n. line.Begin b n) (MayCome c before) IsBrowser (IsPartyOf c) (browser_of from) (party_of c party) (browser_range from) (party_range c party) (λ b n p r. (p, r))
verb_may c before Follow (from ∷ place ∷ []) none visible = two_may (λ b p. line.Follow b p) (MayCome c before) IsBrowser (IsTaken before) (browser_of from) (place_of place) (browser_range from) (taken_may before place none.1.0) (λ b p is at. (is, at))
verb_may c before Mix (from ∷ place ∷ name ∷ other ∷ []) none visible = three_may (λ b p q. line.Mix b p name q) (MayCome c before) IsBrowser (IsTaken before) (IsTaken before) (browser_of from) (place_of place) (place_of other) (browser_range from) (taken_may before place none.1.0) (taken_may before other none.1.1.1.0) (λ b p q is first second. (is, first, visible.1.1.0, second))
verb_may c before Forge (from ∷ place ∷ user ∷ []) none visible = two_may (λ b p. line.Forge b p user) (MayCome c before) IsBrowser (IsTaken before) (browser_of from) (place_of place) (browser_range from) (taken_may before place none.1.0) (λ b p is at. (is, at, visible.1.1.0, short_word user none.1.1.0))
verb_may c before Login (from ∷ place ∷ user ∷ password ∷ []) none visible = two_may (λ b p. line.Login b p user password) (MayCome c before) IsBrowser (IsTaken before) (browser_of from) (place_of place) (browser_range from) (taken_may before place none.1.0) (λ b p is at. (is, at, visible.1.1.0, visible.1.1.1.0))
verb_may c before Consent (from ∷ place ∷ choice ∷ []) none visible = three_may (λ b p agree. line.Consent b p agree) (MayCome c before) IsBrowser (IsTaken before) (λ agree. Unit {0}) (browser_of from) (place_of place) (choice_of choice) (browser_range from) (taken_may before place none.1.0) (any_of (choice_of choice)) (λ b p agree is at any. (is, at))
verb_may c before Visit (from ∷ party ∷ []) none visible = two_may (λ b n. line.Visit b n) (MayCome c before) IsBrowser (IsPartyOf c) (browser_of from) (party_of c party) (browser_range from) (party_range c party) (λ b n p r. (p, r))
verb_may c before Leave (from ∷ party ∷ []) none visible = two_may (λ b n. line.Leave b n) (MayCome c before) IsBrowser (IsPartyOf c) (browser_of from) (party_of c party) (browser_range from) (party_range c party) (λ b n p r. (p, r))
verb_may c before SignOut (from ∷ []) none visible = one_may (λ b. line.SignOut b) (MayCome c before) IsBrowser (browser_of from) (browser_range from) (λ b is. is)
verb_may c before Carry (place ∷ message ∷ []) none visible = two_may (λ p k. line.Carry p k) (MayCome c before) (IsTaken before) IsWide (place_of place) (message_of message) (taken_may before place none.0) (wide_message message) (λ p k at wide. (at, wide))
verb_may c before Back (place ∷ answer ∷ []) none visible = two_may (λ p q. line.Back p q) (MayCome c before) (IsTaken before) (IsTaken before) (place_of place) (place_of answer) (taken_may before place none.0) (taken_may before answer none.1.0) (λ p q first second. (first, second))
verb_may c before Raw (from ∷ to ∷ method ∷ target ∷ first ∷ second ∷ auth ∷ body ∷ []) none visible =
    two_may (λ b role. line.Raw b role (method_of method) (part_of target) (cookie_of first) (cookie_of second) (part_of auth) (part_of body))
    (MayCome c before) (λ n. n ≤ 65535) (IsRole c) (sender_of from) (role_of c to) (sender_range from) (role_range c to)
    (λ b role is of. (is, of, part_visible target visible.1.1.1.0, part_visible auth visible.1.1.1.1.1.1.0, part_visible body visible.1.1.1.1.1.1.1.0))
verb_may c before verb words none visible = tt

-- ---- all lines

pub then_none : (b : Bool) (es : List Fault) → cond b es (fault.Word ∷ []) ≡ [] → es ≡ []
then_none true es h = h
then_none false es h = absurd (cc)

verb_kept : (c : Configuration) (before : List Line) (verb : Option Verb) (words : List Text) → verb_faults c before verb words ≡ [] → AllByRecursion IsVisibleWord words → IfSome (by_verb c verb words) (MayCome c before)
verb_kept c before None words none visible = absurd (cc)
verb_kept c before (Some verb) words none visible =
    verb_may c before verb words
    (guiltless c before (fields_of verb) words (then_none (length words == length (fields_of verb)) (fields_faults c before (fields_of verb) words) none))
    visible

words_kept : (c : Configuration) (before : List Line) (words : Option (List Text)) → words_faults c before words ≡ [] → IfSome words (AllByRecursion IsVisibleWord) → IfSome (words_said c words) (MayCome c before)
words_kept c before None none visible = absurd (cc)
words_kept c before (Some []) none visible = absurd (cc)
words_kept c before (Some (verb ∷ words)) none visible = verb_kept c before (verb_of verb) words none visible.1

visible_words : (line : List ℕ) (words : Option (List Text)) → words_in line ≡ words → IfSome words (AllByRecursion IsVisibleWord)
visible_words line None is = tt
visible_words line (Some words) is = (words_cut line words is).visible

unless_skipped : (c : Configuration) (before : List Line) (line : List ℕ) (b : Bool) → cond b [] (words_faults c before (words_in line)) ≡ [] → IfSome (cond b None (words_said c (words_in line))) (MayCome c before)
unless_skipped c before line true h = tt
unless_skipped c before line false h = words_kept c before (words_in line) h (visible_words line (words_in line) refl)

line_kept : (c : Configuration) (before : List Line) (line : List ℕ) → line_faults c before line ≡ [] → IfSome (line_said c line) (MayCome c before)
line_kept c before line none =
    unless_skipped c before line (is_skipped line)
    (onto_rest (fault_if (nat_lt 65536 (length line)) fault.LineTooLong) (cond (is_skipped line) [] (words_faults c before (words_in line))) none)

-- ---- lines after lines

order_added : (c : Configuration) (before : List Line) (said : Option Line) → IfSome said (MayCome c before) → AreInOrder c before → AreInOrder c (added said before)
order_added c before None may order = order
order_added c before (Some line) may order = (order, may)

few_added : (said : Option Line) (before : List Line) → length (added said before) ≤ suc (length before)
few_added None before = omega arith
few_added (Some line) before = omega arith

pub goes_order : (c : Configuration) (before : List Line) (lines : List (List ℕ)) (after : List Line) → Goes c before lines after → AreInOrder c before → AreInOrder c after
goes_order c before [] after goes order = subst (AreInOrder c) (sym goes) order
goes_order c before (line ∷ lines) after goes order =
    goes_order c (added (line_said c line) before) lines after goes.1 (order_added c before (line_said c line) (line_kept c before line goes.0) order)

pub goes_few : (c : Configuration) (before : List Line) (lines : List (List ℕ)) (after : List Line) → Goes c before lines after → length after ≤ length before + length lines
goes_few c before [] after goes = let same : length after ≡ length before = ap length goes in omega arith
goes_few c before (line ∷ lines) after goes =
    let more : length (added (line_said c line) before) ≤ suc (length before) = few_added (line_said c line) before in
    let later : length after ≤ length (added (line_said c line) before) + length lines = goes_few c (added (line_said c line) before) lines after goes.1 in
    omega arith

-- ---- whole traces

few_lines : (bytes seed : List ℕ) (lines : List (List ℕ)) → IsHeaded bytes seed lines → length lines ≤ 4194304
few_lines bytes seed lines is =
    let short : length bytes ≤ 4194304 = is.short in
    let same : length (lines_of bytes) ≡ suc (length lines) = ap length is.lines_are in
    let count : length (lines_of bytes) ≡ count_by (λ (b : ℕ). b == 10) bytes + 1 = length-slice_split (λ (b : ℕ). b == 10) bytes in
    let few : count_by (λ (b : ℕ). b == 10) bytes ≤ length bytes = count_by-le-length (λ (b : ℕ). b == 10) bytes in
    omega arith

pub told_read_for : (c : Configuration) (bytes : List ℕ) (told : Told) → trace_told c bytes ≡ Ok told → IsReadFor c told
told_read_for c bytes told h =
    let is = told_trace c bytes told h in
    let goes = accepted_goes c is.lines told.lines is.accepted in
    let few : length is.lines ≤ 4194304 = few_lines bytes told.seed is.lines is.headed in
    let no_more : length told.lines ≤ 0 + length is.lines = goes_few c [] is.lines told.lines goes in
    record { order = goes_order c [] is.lines told.lines goes tt; few = omega arith }
