-- The definitions computed on small cases: what each accepts, and what it refuses.
use Rattle.std.proofs.Common.{◌≡◌, ◌==◌, nat_lt, Result, ℕ, codes, replicate, ◌++◌, ◌-◌, ◌^◌, ◌<◌, ◌≤◌, true, false, List, [], ◌∷◌, length, take, Option, Some, None, Ok, Err, refl, inl, inr, ap, ◌∙◌, subst, suc, zero, arith, if◌then◌else◌}
use Rattle.std.specs.Str.{bytes_eq}
use Rattle.sso_base.specs.declared.history.Entry.{Entry}
use Rattle.sso_base.specs.declared.history.Pair.{Pair}
use Rattle.sso_base.specs.Base64Url.{b64u, unb64u, all_bytes}
use Rattle.sso_base.specs.Words.{Word, IsWord, is_word, fresh_word, word_text, word_of_text}
use Rattle.sso_base.proofs.OnLiterals.{base64url_on_literals}
use Rattle.sso_base.proofs.Spelling.{IsBytes-from_all_bytes}
use Rattle.sso_base.specs.Faults.{Rose, HasCause}
use Rattle.sso_base.specs.Outside.{Content, Takes, TakesFront, content_of, Fetches}
use Rattle.sso_base.specs.RequestLine.{method_of, is_question}
use Rattle.sso_base.specs.declared.http.Method.TheVariants.{Post, Other}
use Rattle.sso_base.specs.Lists.{Has}
use Rattle.sso_base.specs.Texts.{is_ascii, has_text, is_given, is_other, is_only}
use Rattle.sso_base.specs.TextBuffer.{buffer_of, texts_in, IsBuffer}
use Rattle.sso_base.proofs.Utf8Bytes.{IsUtf8-are_ascii}
use Rattle.sso_base.specs.Values.{AreWords}
use Rattle.sso_base.specs.Weights.{told_weight, texts_bytes}
use Rattle.sso_base.specs.Journal.{IsLegalHistoryBy, most_of, capacity_of, entry_moment, extended, history_weight}
use Rattle.sso_base.specs.declared.asked.Asked.{Asked}
use Rattle.sso_base.specs.Asked.{history_by, asks_weight, FillsHistory}
use Rattle.sso_base.specs.Refusals.{first_refusal, and_then, and_then_as, demand, forbid}
use Rattle.sso_base.specs.Rows.{without, put, row_of, rows_by, lives, if_lives, live_rows}
use Rattle.sso_base.specs.Stands.{is_named, carried, NoneMakes, Stands, KeepsNames, IsDistinct}
use Rattle.sso_base.specs.Legal.{last_moment, IsEntry, IsLegalBy}
use Rattle.sso_base.specs.Drawn.{IsDrawn}
use Rattle.sso_base.proofs.Literal.{stands-row_of, row_of-stands}

-- ---- lives of 600 seconds from 1000

lives-at_its_last_second : lives 600 1000 1599 ≡ true
lives-at_its_last_second = refl

lives-not_at_its_end : lives 600 1000 1600 ≡ false
lives-not_at_its_end = refl

-- ---- doors with names and colours: they are hung, painted and taken away

record Door : Type 0 where
  name : Word
  colour : ℕ

data Deed : Type 0 where
  hang : Word → ℕ → Deed
  paint : Word → ℕ → Deed
  unhang : Word → Deed

abbrev hung : List Door → List Deed → Deed → Option Door
hung held past (hang w colour) = Some (record { name = w; colour = colour })
hung held past (paint w colour) = None
hung held past (unhang w) = None

abbrev left : List Deed → Deed → Door → Option Door
left past (hang w colour) door = Some door
left past (paint w colour) door = if bytes_eq door.name w then Some (record { name = door.name; colour = colour }) else Some door
left past (unhang w) door = if bytes_eq door.name w then None else Some door

abbrev name_of : Door → Word
name_of door = door.name

abbrev colour_of : Option Door → ℕ
colour_of None = 0
colour_of (Some door) = door.colour

abbrev front : Word
front = 1 ∷ []

abbrev back : Word
back = 2 ∷ []

abbrev a_door : Word → ℕ → Door
a_door w colour = record { name = w; colour = colour }

without-takes_every_row_of_the_name : without name_of front (a_door front 1 ∷ a_door back 2 ∷ a_door front 3 ∷ []) ≡ a_door back 2 ∷ []
without-takes_every_row_of_the_name = refl

put-in_place_of_one_of_its_name : put name_of (Some (a_door front 3)) (a_door front 1 ∷ a_door back 2 ∷ []) ≡ a_door back 2 ∷ a_door front 3 ∷ []
put-in_place_of_one_of_its_name = refl

put-nothing : put name_of None (a_door front 1 ∷ []) ≡ a_door front 1 ∷ []
put-nothing = refl

row_of-the_first_of_its_name : row_of name_of front (a_door back 2 ∷ a_door front 1 ∷ a_door front 3 ∷ []) ≡ Some (a_door front 1)
row_of-the_first_of_its_name = refl

row_of-no_such_name : row_of name_of front (a_door back 2 ∷ []) ≡ None
row_of-no_such_name = refl

abbrev deeds : List Deed
deeds = unhang back ∷ paint front 5 ∷ hang back 2 ∷ hang front 1 ∷ []

rows_by-deeds : rows_by name_of hung left deeds ≡ a_door front 5 ∷ []
rows_by-deeds = refl

lives-of_one : if_lives 600 (λ (door : Door). door.colour) 1599 (a_door front 1000) ≡ Some (a_door front 1000)
lives-of_one = refl

lives-of_none : if_lives 600 (λ (door : Door). door.colour) 1600 (a_door front 1000) ≡ None
lives-of_none = refl

live_rows-until_their_end : live_rows 600 (λ (door : Door). door.colour) 1600 (a_door front 1000 ∷ a_door back 1001 ∷ []) ≡ a_door back 1001 ∷ []
live_rows-until_their_end = refl

-- ---- what stands literally

is_named-a_row_of_the_name : is_named name_of front (Some (a_door front 1)) ≡ true
is_named-a_row_of_the_name = refl

is_named-a_row_of_another : is_named name_of front (Some (a_door back 2)) ≡ false
is_named-a_row_of_another = refl

carried-through_a_painting : carried left (paint front 5 ∷ hang back 2 ∷ []) [] (a_door front 1) ≡ Some (a_door front 5)
carried-through_a_painting = refl

carried-to_its_end : carried left (paint back 5 ∷ unhang back ∷ []) [] (a_door back 2) ≡ None
carried-to_its_end = refl

none_makes-a_painting : NoneMakes name_of hung left front (paint front 5 ∷ hang back 2 ∷ []) []
none_makes-a_painting = (refl, (refl, tt))

none_makes-not_a_hanging : NoneMakes name_of hung left front (paint front 5 ∷ hang front 2 ∷ []) [] → ⊥
none_makes-not_a_hanging n = (let made : true ≡ false = n.1.0 in cc)

left-keeps_names : KeepsNames name_of left
left-keeps_names past (hang w colour) row after e = grind arith
left-keeps_names past (paint w colour) row after e = grind arith
left-keeps_names past (unhang w) row after e = grind arith

-- a deed that gives a door another name does not keep names
abbrev renamed : List Deed → Deed → Door → Option Door
renamed past deed row = Some (a_door back row.colour)

renamed-keeps_no_names : KeepsNames name_of renamed → ⊥
renamed-keeps_no_names keeps = (let same : back ≡ front = keeps [] (unhang back) (a_door front 1) (a_door back 1) refl in cc)

stands-as_it_was_painted : Stands name_of hung left deeds front (a_door front 5)
stands-as_it_was_painted = stands-row_of name_of hung left left-keeps_names front deeds (a_door front 5) refl

stands-not_as_it_was_hung : Stands name_of hung left deeds front (a_door front 1) → ⊥
stands-not_as_it_was_hung s =
    (let colour : Option Door → ℕ = λ o. colour_of o in
    let wrong : ◌≡◌ {A = ℕ} 5 1 = ap colour (row_of-stands name_of hung left left-keeps_names front deeds (a_door front 1) s) in
    omega arith)

stands-not_once_it_was_unhung : Stands name_of hung left deeds back (a_door back 2) → ⊥
stands-not_once_it_was_unhung s =
    (let found : None ≡ Some (a_door back 2) = row_of-stands name_of hung left left-keeps_names back deeds (a_door back 2) s in cc)

distinct-two_names : IsDistinct name_of (a_door front 1 ∷ a_door back 1 ∷ [])
distinct-two_names = (refl, (refl, tt))

distinct-not_one_name_twice : IsDistinct name_of (a_door front 1 ∷ a_door front 2 ∷ []) → ⊥
distinct-not_one_name_twice d = (let found : Some (a_door front 2) ≡ None = d.0 in cc)

-- ---- words

is_word-this_one : is_word (Some front) front ≡ true
is_word-this_one = refl

is_word-another : is_word (Some back) front ≡ false
is_word-another = refl

is_word-none : is_word None front ≡ false
is_word-none = refl

fresh_word-the_second : fresh_word (front ∷ back ∷ []) 1 ≡ back
fresh_word-the_second = refl

word-of_32_bytes : IsWord (replicate 32 255)
word-of_32_bytes = record { long = refl; bytes = IsBytes-from_all_bytes (replicate 32 255) refl }

word-not_of_31_bytes : IsWord (replicate 31 255) → ⊥
word-not_of_31_bytes w = (let long : ◌≡◌ {A = ℕ} 31 32 = w.long in omega arith)

word-not_of_256 : IsWord (replicate 32 256) → ⊥
word-not_of_256 w = (let first : 256 < 256 = w.bytes 0 in omega arith)

word_text-of_word_one : word_text (replicate 31 0 ++ 1 ∷ []) ≡ codes "AAAAAAAAAAAAAAAAAAAAAAAAAAAAAAAAAAAAAAAAAAE"
unfolding base64url_on_literals
word_text-of_word_one = refl

word_of_text-of_word_one : word_of_text (codes "AAAAAAAAAAAAAAAAAAAAAAAAAAAAAAAAAAAAAAAAAAE") ≡ Some (replicate 31 0 ++ 1 ∷ [])
unfolding base64url_on_literals
word_of_text-of_word_one = refl

word_of_text-not_with_a_bit_after_the_last_byte : word_of_text (codes "AAAAAAAAAAAAAAAAAAAAAAAAAAAAAAAAAAAAAAAAAAF") ≡ None
unfolding base64url_on_literals
word_of_text-not_with_a_bit_after_the_last_byte = refl

word_of_text-not_of_33_bytes : word_of_text (codes "AAAAAAAAAAAAAAAAAAAAAAAAAAAAAAAAAAAAAAAAAAAA") ≡ None
unfolding base64url_on_literals
word_of_text-not_of_33_bytes = refl

word_of_text-not_of_the_empty_text : word_of_text [] ≡ None
unfolding base64url_on_literals
word_of_text-not_of_the_empty_text = refl

-- ---- base64url

b64u-of_three_bytes : b64u (251 ∷ 255 ∷ 190 ∷ []) ≡ codes "-_--"
unfolding base64url_on_literals
b64u-of_three_bytes = refl

unb64u-of_one_byte : unb64u (codes "_w") ≡ Some (255 ∷ [])
unfolding base64url_on_literals
unb64u-of_one_byte = refl

unb64u-not_with_padding : unb64u (codes "_w==") ≡ None
unfolding base64url_on_literals
unb64u-not_with_padding = refl

unb64u-not_with_a_bit_after_the_last_byte : unb64u (codes "_x") ≡ None
unfolding base64url_on_literals
unb64u-not_with_a_bit_after_the_last_byte = refl

unb64u-not_in_the_other_alphabet : unb64u (codes "/w") ≡ None
unfolding base64url_on_literals
unb64u-not_in_the_other_alphabet = refl

-- ---- counts of faults

rose-by_one : Rose 0 1
rose-by_one = omega arith

rose-not_where_it_stands : Rose 0 0 → ⊥
rose-not_where_it_stands h = omega arith

rose-at_the_end_of_a_counter : Rose (2 ^ 64 - 1) (2 ^ 64 - 1)
rose-at_the_end_of_a_counter = omega arith

cause-of_an_answer : HasCause {T = ℕ} {E = ℕ} 3 3 (Ok 0)
cause-of_an_answer = record { later = omega arith; failed = tt }

cause-not_of_an_error_without_a_count : HasCause {T = ℕ} {E = ℕ} 3 3 (Err 0) → ⊥
cause-not_of_an_error_without_a_count c = (let rose : Rose 3 3 = c.failed in omega arith)

cause-not_where_the_count_fell : HasCause {T = ℕ} {E = ℕ} 3 2 (Ok 0) → ⊥
cause-not_where_the_count_fell c = (let later : 3 ≤ 2 = c.later in omega arith)

-- ---- sinks and shelves

takes-the_piece : Takes (Some (1 ∷ [])) (Some (1 ∷ 2 ∷ 3 ∷ [])) (2 ∷ 3 ∷ [])
takes-the_piece = refl

takes-not_less : Takes (Some (1 ∷ [])) (Some (1 ∷ 2 ∷ [])) (2 ∷ 3 ∷ []) → ⊥
takes-not_less e = cc

takes-not_where_it_tells_no_more : Takes (Some (1 ∷ [])) None (2 ∷ []) → ⊥
takes-not_where_it_tells_no_more e = cc

takes_front-of_one_byte : TakesFront (Some (1 ∷ [])) (Some (1 ∷ 2 ∷ [])) (2 ∷ 3 ∷ [])
takes_front-of_one_byte = (1, omega arith, refl)

takes_front-not_other_bytes : TakesFront (Some []) (Some (3 ∷ [])) (2 ∷ 3 ∷ []) → ⊥
takes_front-not_other_bytes (zero, few, e) = cc
takes_front-not_other_bytes (suc n, few, e) = cc

abbrev whole : List ℕ
whole = 1 ∷ 2 ∷ 3 ∷ []

abbrev first_two : List ℕ
first_two = 1 ∷ 2 ∷ []

abbrev files : List Content
files = (front, whole) ∷ (back, []) ∷ (front, 9 ∷ []) ∷ []

content_of-the_first_of_its_name : content_of files front ≡ Some whole
content_of-the_first_of_its_name = refl

content_of-no_such_name : content_of files (3 ∷ []) ≡ None
content_of-no_such_name = refl

fetches-the_first_bytes : Fetches (Some files) front 2 first_two
fetches-the_first_bytes = (whole, refl, refl)

fetches-all_of_a_short_content : Fetches (Some files) front 4 whole
fetches-all_of_a_short_content = (whole, refl, refl)

fetches-not_one_byte_more : Fetches (Some files) front 2 whole → ⊥
fetches-not_one_byte_more (content, found, bytes) =
    (let there : content ≡ whole = cc in
    let cut : whole ≡ first_two = subst (λ x. whole ≡ take 2 x) there bytes in
    cc)

fetches-not_a_name_that_is_not_there : (bytes : List ℕ) → Fetches (Some files) (3 ∷ []) 2 bytes → ⊥
fetches-not_a_name_that_is_not_there bytes (content, found, cut) = cc

-- ---- legal pasts: a core that answers how many pairs came before

abbrev counted : List (Pair ℕ ℕ) → Entry ℕ → ℕ
counted past e = length past

abbrev Any : ℕ → Type 0
Any ask = Unit {0}

abbrev same_bytes : ℕ → Word
same_bytes n = replicate 32 n

ones_word : IsWord (same_bytes 1)
ones_word = record { long = refl; bytes = IsBytes-from_all_bytes (same_bytes 1) refl }

word_of_same : (n : ℕ) → all_bytes (same_bytes n) ≡ true → IsWord (same_bytes n)
word_of_same n h = record { long = refl; bytes = IsBytes-from_all_bytes (same_bytes n) h }

abbrev drawn : List Word
drawn = same_bytes 1 ∷ same_bytes 2 ∷ same_bytes 3 ∷ same_bytes 4 ∷ []

drawn_words : AreWords drawn
drawn_words = (word_of_same 1 refl, (word_of_same 2 refl, (word_of_same 3 refl, (word_of_same 4 refl, tt))))

abbrev pair : ℕ → ℕ → Pair ℕ ℕ
pair at reply = record { entry = record { at = at; fresh = drawn; ask = 0 }; reply = reply }

legal-two_pairs : IsLegalBy Any counted (pair 7 1 ∷ pair 7 0 ∷ [])
legal-two_pairs = ((tt, record { moment = omega arith; four = refl; words = drawn_words; ask = tt }, omega arith, refl), record { moment = omega arith; four = refl; words = drawn_words; ask = tt }, omega arith, refl)

legal-not_with_a_wrong_reply : IsLegalBy Any counted (pair 7 2 ∷ pair 7 0 ∷ []) → ⊥
legal-not_with_a_wrong_reply (before, entry, order, reply) = (let wrong : ◌≡◌ {A = ℕ} 2 1 = reply in omega arith)

legal-not_where_time_goes_back : IsLegalBy Any counted (pair 6 1 ∷ pair 7 0 ∷ []) → ⊥
legal-not_where_time_goes_back (before, entry, order, reply) = (let back : 7 ≤ 6 = order in omega arith)

entry-not_with_three_words : IsEntry Any (record { at = 7; fresh = front ∷ back ∷ front ∷ []; ask = 0 }) → ⊥
entry-not_with_three_words e = (let three : ◌≡◌ {A = ℕ} 3 4 = e.four in omega arith)

entry-not_with_a_word_of_other_numbers : IsEntry Any (record { at = 7; fresh = same_bytes 1 ∷ same_bytes 1 ∷ same_bytes 1 ∷ same_bytes 256 ∷ []; ask = 0 }) → ⊥
entry-not_with_a_word_of_other_numbers e = (let wide : 256 < 256 = e.words.1.1.1.0.bytes 0 in omega arith)

entry-not_after_the_latest_moment : IsEntry Any (record { at = 1099511000001; fresh = drawn; ask = 0 }) → ⊥
entry-not_after_the_latest_moment e = (let late : 1099511000001 ≤ 1099511000000 = e.moment in omega arith)

abbrev Small : ℕ → Type 0
Small asked = asked < 5

entry-at_the_latest_moment : IsEntry Small (record { at = 1099511000000; fresh = drawn; ask = 4 })
entry-at_the_latest_moment = record { moment = omega arith; four = refl; words = drawn_words; ask = omega arith }

entry-not_of_another_ask : IsEntry Small (record { at = 7; fresh = drawn; ask = 5 }) → ⊥
entry-not_of_another_ask e = (let less : 5 < 5 = e.ask in omega arith)

abbrev ok_or_three : ℕ → Result ℕ ℕ
ok_or_three n = Ok n

-- ---- words that were drawn

is_drawn-the_last_of_four : IsDrawn (pair 7 0 ∷ []) (same_bytes 4)
is_drawn-the_last_of_four = record { later = []; maker = pair 7 0; earlier = []; parts = refl; number = 3; low = omega arith; drawn = refl }

no_parts : (later : List (Pair ℕ ℕ)) (p : Pair ℕ ℕ) (earlier : List (Pair ℕ ℕ)) → [] ≡ later ++ p ∷ earlier → ⊥
no_parts [] p earlier h = cc
no_parts (q ∷ later) p earlier h = cc

is_drawn-not_for_nothing : (w : Word) → IsDrawn {A = ℕ} {R = ℕ} [] w → ⊥
is_drawn-not_for_nothing w d = no_parts d.later d.maker d.earlier d.parts

one_part : (later : List (Pair ℕ ℕ)) (p q : Pair ℕ ℕ) (earlier : List (Pair ℕ ℕ)) → q ∷ [] ≡ later ++ p ∷ earlier → p ≡ q
one_part [] p q earlier h = cc
one_part (r ∷ later) p q earlier h = let rest : [] ≡ later ++ p ∷ earlier = cc in absurd (no_parts later p earlier rest)

other_than_four : (number : ℕ) → number < 4 → same_bytes 9 ≡ fresh_word drawn number → ⊥
other_than_four zero l h = cc
other_than_four (suc zero) l h = cc
other_than_four (suc (suc zero)) l h = cc
other_than_four (suc (suc (suc zero))) l h = cc
other_than_four (suc (suc (suc (suc number)))) l h = omega (arith, l)

is_drawn-not_for_another_word : IsDrawn (pair 7 0 ∷ []) (same_bytes 9) → ⊥
is_drawn-not_for_another_word d =
    let same : d.maker ≡ pair 7 0 = one_part d.later d.maker (pair 7 0) d.earlier d.parts in
    let W : Pair ℕ ℕ → Word = λ p. fresh_word p.entry.fresh d.number in
    other_than_four d.number d.low (d.drawn ∙ ap W same)

-- ---- time never goes back, and what is told in 64 bits

entry_moment-of_the_last_entry : entry_moment (pair 7 0 ∷ pair 8 1 ∷ []) 6 ≡ 8
entry_moment-of_the_last_entry = refl

entry_moment-of_now : entry_moment (pair 7 0 ∷ pair 8 1 ∷ []) 9 ≡ 9
entry_moment-of_now = refl

entry_moment-of_the_first_entry : entry_moment {A = ℕ} {R = ℕ} [] 0 ≡ 0
entry_moment-of_the_first_entry = refl

extended-by_an_entry_that_is_late : extended (pair 8 0 ∷ []) 6 drawn 0 1 ≡ pair 8 0 ∷ pair 8 1 ∷ []
extended-by_an_entry_that_is_late = refl

told_weight-of_64_bits : told_weight (2 ^ 64 - 1) ≡ 2 ^ 64 - 1
told_weight-of_64_bits = refl

told_weight-of_more : told_weight (2 ^ 64) ≡ 2 ^ 64 - 1
told_weight-of_more = refl

texts_bytes-of_two : texts_bytes (codes "ab" ∷ codes "c" ∷ []) ≡ 3
texts_bytes-of_two = refl

-- ---- refusals one after another

demand-what_is_there : demand 3 (Some 5) (λ (n : ℕ). ok_or_three (suc n)) ≡ ok_or_three 6
demand-what_is_there = refl

demand-nothing : demand 3 None (λ (n : ℕ). ok_or_three n) ≡ Err 3
demand-nothing = refl

forbid-what_is_not : forbid 3 false (ok_or_three 5) ≡ ok_or_three 5
forbid-what_is_not = refl

forbid-what_is : forbid 3 true (ok_or_three 5) ≡ Err 3
forbid-what_is = refl

-- ---- a legal history weighs no more than a history may

abbrev weighs_four : ℕ → ℕ
weighs_four n = 4

history_weight-of_two_pairs : history_weight weighs_four (pair 7 0 ∷ pair 8 1 ∷ []) ≡ 8
history_weight-of_two_pairs = refl

abbrev weighs_it : ℕ → ℕ → ℕ
weighs_it n asked = n

legal_history-of_one_pair : IsLegalHistoryBy Any counted (weighs_it 268435456) (most_of false) (pair 7 0 ∷ [])
legal_history-of_one_pair = record { past = (tt, record { moment = omega arith; four = refl; words = drawn_words; ask = tt }, omega arith, refl); light = omega arith }

legal_history-not_of_too_much : IsLegalHistoryBy Any counted (weighs_it 268435457) (most_of false) (pair 7 0 ∷ []) → ⊥
legal_history-not_of_too_much legal = (let heavy : 268435457 ≤ 268435456 = legal.light in omega arith)

legal_history-of_much_that_lasts : IsLegalHistoryBy Any counted (weighs_it 268435457) (most_of true) (pair 7 0 ∷ [])
legal_history-of_much_that_lasts = record { past = (tt, record { moment = omega arith; four = refl; words = drawn_words; ask = tt }, omega arith, refl); light = omega arith }

capacity-of_what_is_stored : capacity_of true 7 4 ≡ 4
capacity-of_what_is_stored = refl

capacity-of_what_is_not : capacity_of false 7 0 ≡ 8
capacity-of_what_is_not = refl

-- ---- the history of requests in turn

abbrev asked_at : ℕ → Asked ℕ
asked_at at = record { at = at; fresh = drawn; ask = 0 }

history_by-two_requests : history_by {A = ℕ} {R = ℕ} [] (asked_at 7 ∷ asked_at 6 ∷ []) (0 ∷ 1 ∷ []) ≡ pair 7 0 ∷ pair 7 1 ∷ []
history_by-two_requests = refl

history_by-a_request_without_a_reply : history_by {A = ℕ} {R = ℕ} [] (asked_at 7 ∷ []) [] ≡ []
history_by-a_request_without_a_reply = refl

asks_weight-of_two_requests : asks_weight weighs_four (asked_at 7 ∷ asked_at 6 ∷ []) ≡ 8
asks_weight-of_two_requests = refl

fills_history-at_the_second : FillsHistory weighs_four 7 (asked_at 7 ∷ asked_at 6 ∷ asked_at 8 ∷ []) 4
fills_history-at_the_second = record { front = asked_at 7 ∷ []; next = asked_at 6; rest = asked_at 8 ∷ []; all = refl; weighs_so = refl; full = omega arith }

fills_history-not_where_it_fits : FillsHistory weighs_four 8 (asked_at 7 ∷ asked_at 6 ∷ []) 4 → ⊥
fills_history-not_where_it_fits f = (let full : 8 < 8 = f.full in omega arith)

-- ---- texts in ASCII, and texts in a list

is_ascii-up_to_127 : is_ascii (0 ∷ 127 ∷ []) ≡ true
is_ascii-up_to_127 = refl

is_ascii-not_from_128 : is_ascii (97 ∷ 128 ∷ []) ≡ false
is_ascii-not_from_128 = refl

has_text-the_second : has_text (codes "b") (codes "a" ∷ codes "b" ∷ []) ≡ true
has_text-the_second = refl

has_text-not_a_part : has_text (codes "a") (codes "ab" ∷ []) ≡ false
has_text-not_a_part = refl

is_given-the_same : is_given (codes "c") (Some (codes "c")) ≡ true
is_given-the_same = refl

is_given-not_another_text : is_given (codes "c") (Some (codes "i")) ≡ false
is_given-not_another_text = refl

is_given-not_without_a_text : is_given (codes "c") None ≡ false
is_given-not_without_a_text = refl

is_other-another_text : is_other (codes "c") (Some (codes "i")) ≡ true
is_other-another_text = refl

is_other-not_the_same : is_other (codes "c") (Some (codes "c")) ≡ false
is_other-not_the_same = refl

is_other-not_without_a_text : is_other (codes "c") None ≡ false
is_other-not_without_a_text = refl

-- ---- the method and the target of a request

method_of-post : method_of (codes "POST") ≡ Post
method_of-post = refl

method_of-not_in_lower_case : method_of (codes "post") ≡ Other
method_of-not_in_lower_case = refl

is_question-begins_the_query : is_question 63 ≡ true
is_question-begins_the_query = refl

is_question-not_another_mark : is_question 38 ≡ false
is_question-not_another_mark = refl

-- ---- membership in a list

has-the_second : Has {A = ℕ} (1 ∷ 2 ∷ []) 2
has-the_second = inr (inl refl)

has-not_another : Has {A = ℕ} (1 ∷ []) 2 → ⊥
has-not_another (inl is) = omega (arith, is)
has-not_another (inr later) = later

-- ---- texts in one buffer

buffer-of_two : buffer_of (codes "ab" ∷ [] ∷ []) ≡ 97 ∷ 98 ∷ 255 ∷ 255 ∷ []
buffer-of_two = refl

texts_in-a_buffer : texts_in (97 ∷ 98 ∷ 255 ∷ 255 ∷ []) ≡ codes "ab" ∷ [] ∷ []
texts_in-a_buffer = refl

is_buffer-of_two : IsBuffer (97 ∷ 98 ∷ 255 ∷ 255 ∷ [])
is_buffer-of_two = record { texts = (IsUtf8-are_ascii (codes "ab") refl, (IsUtf8-are_ascii [] refl, tt)); whole = refl }

is_buffer-not_without_its_end : IsBuffer (97 ∷ []) → ⊥
is_buffer-not_without_its_end h = (let longer : 97 ∷ 255 ∷ [] ≡ 97 ∷ [] = h.whole in cc)

last_moment-of_the_newest_pair : last_moment (pair 8 1 ∷ pair 7 0 ∷ []) ≡ 8
last_moment-of_the_newest_pair = refl

-- ---- refusals in order, and lists of one text

abbrev tested : ℕ → Result (Unit {0}) (List ℕ)
tested n = first_refusal ((n == 0, codes "none") ∷ (nat_lt 9 n, codes "many") ∷ [])

nothing-is_refused : tested 9 ≡ Ok tt
nothing-is_refused = refl

the_second-is_refused : tested 10 ≡ Err (codes "many")
the_second-is_refused = refl

what_is_found-is_handed_on : and_then (tested 9) (λ _. tested 0) ≡ Err (codes "none")
what_is_found-is_handed_on = refl

a_refusal-stays : and_then (tested 10) (λ _. tested 9) ≡ Err (codes "many")
a_refusal-stays = refl

abbrev wrapped : ℕ → Result (Unit {0}) (Option (List ℕ))
wrapped n = and_then_as Some (tested n) (λ _. Err None)

what_is_found-is_passed_on : wrapped 9 ≡ Err None
what_is_found-is_passed_on = refl

a_refusal-is_wrapped : wrapped 10 ≡ Err (Some (codes "many"))
a_refusal-is_wrapped = refl

only-the_client : is_only (codes "c") (codes "c" ∷ codes "c" ∷ []) ≡ true
only-the_client = refl

not_only-with_another : is_only (codes "c") (codes "c" ∷ codes "d" ∷ []) ≡ false
not_only-with_another = refl

not_only-with_none : is_only (codes "c") [] ≡ false
not_only-with_none = refl
