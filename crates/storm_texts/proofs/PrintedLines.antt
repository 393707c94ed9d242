-- Each line that a storm is made of is read: its numbers are in their ranges, its places are taken, and its parties are there.
use Rattle.std.proofs.Common.{◌≡◌, ◌<◌, ◌≤◌, ◌+◌, ◌-◌, ◌%◌, ◌^◌, ◌&&◌, ℕ, Bool, true, cond, nat_le, nat_lt, List, [], ◌∷◌, ◌++◌, length, Option, Some, None, is_some, refl, ap, subst, ◌∙◌, append_assoc, length-append, arith}
use Rattle.std.specs.Prelude.{codes, option_map}
use Rattle.std.specs.Fmt.{decimal}
use Rattle.std.specs.List.{list_all, AllByRecursion, join_with_byte}
use Rattle.std.proofs.lemmas.Bool.{and_parts, and_from, ltb-true, le-leb}
use Rattle.std.proofs.lemmas.Fmt.{decimal_by_steps, length-decimal-le}
use Rattle.sso_base.specs.Words.{Text}
use Rattle.sso_base.specs.Values.{latest_moment}
use Rattle.client_registry.specs.Configuration.{Configuration}
use Rattle.trace_lines.specs.declared.line.Line.{Line}
use Rattle.trace_lines.specs.declared.line.Line.TheVariants as line
use Rattle.trace_lines.specs.Guilt.{words_faults}
use Rattle.trace_lines.specs.Lines.{moment_after, places_after}
use Rattle.trace_lines.specs.LineWords.{IsVisible, IsVisibleWord}
use Rattle.trace_lines.specs.Number.{number_of, in_range, within}
use Rattle.trace_lines.specs.Said.{of_two}
use Rattle.trace_lines.specs.Values.{moment_of, browser_of, place_of, message_of, party_of}
use Rattle.trace_lines.specs.Verbs.{verb_of, verb_text}
use Rattle.trace_lines.proofs.Decimals.{number_is_decimal}
use Rattle.storm_texts.specs.declared.login.User.{User}
use Rattle.storm_texts.specs.declared.login.User.TheVariants.{Alice, Bob}
use Rattle.storm_texts.specs.declared.login.Party.{Party}
use Rattle.storm_texts.specs.declared.login.Party.TheVariants.{Shop, News, Mail}
use Rattle.storm_texts.specs.Lines.{at_line, begin_line, follow_line, login_line, visit_line, exchange_lines}
use Rattle.storm_texts.specs.Logins.{credentials, party_name}
use Rattle.storm_texts.specs.Parties.{KnowsParties}
use Rattle.storm_texts.proofs.LineSteps.{Leads, leads_on, leads_as, Says, not_below, line_leads}

-- ---- words

some_more : (ds : List ℕ) (b : ℕ) → AllByRecursion IsVisible ds → IsVisible b → AllByRecursion IsVisible (ds ++ b ∷ [])
some_more [] b all is = (is, tt)
some_more (d ∷ ds) b all is = (all.0, some_more ds b all.1 is)

digit_visible : (n : ℕ) → n < 10 → IsVisible (48 + n)
digit_visible n less = (omega arith, omega arith)

last_visible : (n : ℕ) → IsVisible (48 + n % 10)
last_visible n = (omega arith, omega arith)

grown : (ds : List ℕ) (b : ℕ) → 0 < length (ds ++ b ∷ [])
grown ds b = omega (arith, length-append ds (b ∷ []))

number_visible : (n : ℕ) → n < 2 ^ 64 → IsVisibleWord (decimal n)
number_visible n room =
    decimal_by_steps (λ m ds. IsVisibleWord ds)
    (λ m less. record { filled = omega arith; visible = (digit_visible m less, tt) })
    (λ m ds more is. record { filled = grown ds (48 + m % 10); visible = some_more ds (48 + m % 10) is.visible (last_visible m) })
    n room

-- a test of a word that is written out
abbrev is_visible : Text → Bool
is_visible word = list_all (λ b. nat_lt 32 b && nat_lt b 127) word

all_visible : (word : Text) → is_visible word ≡ true → AllByRecursion IsVisible word
all_visible [] h = tt
all_visible (b ∷ word) h =
    let parts = and_parts (nat_lt 32 b && nat_lt b 127) (is_visible word) h in
    let both = and_parts (nat_lt 32 b) (nat_lt b 127) parts.0 in
    ((ltb-true 32 b both.0, ltb-true b 127 both.1), all_visible word parts.1)

word_visible : (word : Text) → is_visible word ≡ true → nat_lt 0 (length word) ≡ true → IsVisibleWord word
word_visible word h some = record { filled = ltb-true 0 (length word) some; visible = all_visible word h }

party_visible : (party : Party) → IsVisibleWord (party_name party)
party_visible Shop = word_visible (codes "shop") refl refl
party_visible News = word_visible (codes "news") refl refl
party_visible Mail = word_visible (codes "mail") refl refl

-- ---- numbers

number_read : (n : ℕ) → n < 2 ^ 64 → number_of (decimal n) ≡ Some n
number_read n room = (number_is_decimal (decimal n) n).1 (refl, room)

ranged : (low high n : ℕ) → low ≤ n → n ≤ high → in_range low high n ≡ Some n
ranged low high n least most = ap (λ b. cond b (Some n) None) (and_from (nat_le low n) (nat_le n high) (le-leb low n least) (le-leb n high most))

read_within : (low high n : ℕ) → low ≤ n → n ≤ high → n < 2 ^ 64 → within low high (number_of (decimal n)) ≡ Some n
read_within low high n least most room = ap (within low high) (number_read n room) ∙ ranged low high n least most

moment_read : (n : ℕ) → n ≤ 999999 → moment_of (decimal n) ≡ Some n
moment_read n most = read_within 0 latest_moment n (omega arith) (omega arith) (omega arith)

browser_read : (n : ℕ) → 1 ≤ n → n ≤ 65535 → browser_of (decimal n) ≡ Some n
browser_read n least most = read_within 1 65535 n least most (omega arith)

place_read : (n : ℕ) → 1 ≤ n → n ≤ 999999 → place_of (decimal n) ≡ Some n
place_read n least most = read_within 1 (2 ^ 64 - 1) n least (omega arith) (omega arith)

-- ---- lines without faults

both_said : {A B : Type 0} (f : A → B → Line) (a : Option A) (b : Option B) (x : A) (y : B) → a ≡ Some x → b ≡ Some y → of_two f a b ≡ Some (f x y)
both_said f a b x y p q = ap (λ o. of_two f o b) p ∙ ap (λ o. of_two f (Some x) o) q

at_guiltless : (c : Configuration) (before : List Line) (x : Text) (n : ℕ) → moment_of x ≡ Some n → moment_after before ≤ n → words_faults c before (Some (codes "at" ∷ x ∷ [])) ≡ []
unfolding verb_of verb_text
at_guiltless c before x n is le =
    rw (is, not_below n (moment_after before) le) refl

number_length : (n : ℕ) → n ≤ 999999 → length (decimal n) ≤ 6
number_length n most = length-decimal-le 6 n (omega arith) (omega arith) (omega arith)

-- ---- the moment

at_says : (c : Configuration) (before : List Line) (at n : ℕ) → moment_after before ≡ at → at ≤ n → n ≤ 999999 → Says c before (codes "at" ∷ decimal n ∷ []) (line.At n)
unfolding verb_of verb_text
at_says c before at n moment le most = record {
  some = omega arith;
  visible = (word_visible (codes "at") refl refl, (number_visible n (omega arith), tt));
  spoken = refl;
  guiltless = at_guiltless c before (decimal n) n (moment_read n most) (omega arith);
  says = ap (option_map (λ at. line.At at)) (moment_read n most);
}

pub at_leads : (c : Configuration) (at places n : ℕ) → at ≤ n → n ≤ 999999 → Leads c at places (at_line n) n places 10
unfolding at_line
at_leads c at places n le most =
    let digits : length (decimal n) ≤ 6 = number_length n most in
    line_leads c at places (codes "at" ∷ decimal n ∷ []) (line.At n) n places 10
    (λ before moment count. at_says c before at n moment le most) (λ before moment. refl) (λ before count. count) (omega arith) (omega arith)

-- ---- a browser and a place

follow_guiltless : (c : Configuration) (before : List Line) (x y : Text) (b p : ℕ) → browser_of x ≡ Some b → place_of y ≡ Some p → p ≤ places_after before → words_faults c before (Some (codes "follow" ∷ x ∷ y ∷ [])) ≡ []
unfolding verb_of verb_text
follow_guiltless c before x y b p is_b is_p le = rw (is_b, is_p, not_below (places_after before) p le) refl

follow_says : (c : Configuration) (before : List Line) (places b p : ℕ) → places_after before ≡ places → 1 ≤ b → b ≤ 65535 → 1 ≤ p → p ≤ places → places ≤ 999999 → Says c before (codes "follow" ∷ decimal b ∷ decimal p ∷ []) (line.Follow b p)
unfolding verb_of verb_text
follow_says c before places b p count low high some le few = record {
  some = omega arith;
  visible = (word_visible (codes "follow") refl refl, (number_visible b (omega arith), (number_visible p (omega arith), tt)));
  spoken = refl;
  guiltless = follow_guiltless c before (decimal b) (decimal p) b p (browser_read b low high) (place_read p some (omega arith)) (omega arith);
  says = both_said (λ x y. line.Follow x y) (browser_of (decimal b)) (place_of (decimal p)) b p (browser_read b low high) (place_read p some (omega arith));
}

follow_written : (b p : ℕ) → join_with_byte 32 (codes "follow" ∷ decimal b ∷ decimal p ∷ []) ++ 10 ∷ [] ≡ follow_line b p
unfolding follow_line
follow_written b p = simp append_assoc

pub follow_leads : (c : Configuration) (at places b p : ℕ) → 1 ≤ b → b ≤ 65535 → 1 ≤ p → p ≤ places → places ≤ 999999 → Leads c at places (follow_line b p) at (places + 1) 21
follow_leads c at places b p low high some le few =
    let first : length (decimal b) ≤ 6 = number_length b (omega arith) in
    let second : length (decimal p) ≤ 6 = number_length p (omega arith) in
    subst (λ (text : Text). Leads c at places text at (places + 1) 21) (follow_written b p)
    (line_leads c at places (codes "follow" ∷ decimal b ∷ decimal p ∷ []) (line.Follow b p) at (places + 1) 21
    (λ before moment count. follow_says c before places b p count low high some le few) (λ before moment. moment) (λ before count. omega arith)
    (simp length-append (omega arith)) (omega arith))

-- ---- a login form

login_guiltless : (c : Configuration) (before : List Line) (x y user password : Text) (b p : ℕ) → browser_of x ≡ Some b → place_of y ≡ Some p → p ≤ places_after before → words_faults c before (Some (codes "login" ∷ x ∷ y ∷ user ∷ password ∷ [])) ≡ []
unfolding verb_of verb_text
login_guiltless c before x y user password b p is_b is_p le = rw (is_b, is_p, not_below (places_after before) p le) refl

-- the name in the credentials
abbrev name_of : User → Text
name_of Alice = codes "alice"
name_of Bob = codes "bob"

name_visible : (user : User) → IsVisibleWord (name_of user)
name_visible Alice = word_visible (codes "alice") refl refl
name_visible Bob = word_visible (codes "bob") refl refl

login_says : (c : Configuration) (before : List Line) (places b p : ℕ) (user : User) → places_after before ≡ places → 1 ≤ b → b ≤ 65535 → 1 ≤ p → p ≤ places → places ≤ 999999 → Says c before (codes "login" ∷ decimal b ∷ decimal p ∷ name_of user ∷ codes "password" ∷ []) (line.Login b p (name_of user) (codes "password"))
unfolding verb_of verb_text
login_says c before places b p user count low high some le few = record {
  some = omega arith;
  visible = (word_visible (codes "login") refl refl, (number_visible b (omega arith), (number_visible p (omega arith), (name_visible user, (word_visible (codes "password") refl refl, tt)))));
  spoken = refl;
  guiltless = login_guiltless c before (decimal b) (decimal p) (name_of user) (codes "password") b p (browser_read b low high) (place_read p some (omega arith)) (omega arith);
  says = both_said (λ x y. line.Login x y (name_of user) (codes "password")) (browser_of (decimal b)) (place_of (decimal p)) b p (browser_read b low high) (place_read p some (omega arith));
}

login_written : (b p : ℕ) (user : User) → join_with_byte 32 (codes "login" ∷ decimal b ∷ decimal p ∷ name_of user ∷ codes "password" ∷ []) ++ 10 ∷ [] ≡ login_line b p (credentials user)
unfolding login_line
login_written b p Alice = simp append_assoc
login_written b p Bob = simp append_assoc

name_length : (user : User) → length (name_of user) ≤ 5
name_length Alice = omega arith
name_length Bob = omega arith

pub login_leads : (c : Configuration) (at places b p : ℕ) (user : User) → 1 ≤ b → b ≤ 65535 → 1 ≤ p → p ≤ places → places ≤ 999999 → Leads c at places (login_line b p (credentials user)) at (places + 1) 35
login_leads c at places b p user low high some le few =
    let first : length (decimal b) ≤ 6 = number_length b (omega arith) in
    let second : length (decimal p) ≤ 6 = number_length p (omega arith) in
    let third : length (name_of user) ≤ 5 = name_length user in
    subst (λ (text : Text). Leads c at places text at (places + 1) 35) (login_written b p user)
    (line_leads c at places (codes "login" ∷ decimal b ∷ decimal p ∷ name_of user ∷ codes "password" ∷ []) (line.Login b p (name_of user) (codes "password")) at (places + 1) 35
    (λ before moment count. login_says c before places b p user count low high some le few) (λ before moment. moment) (λ before count. omega arith)
    (simp length-append (omega arith)) (omega arith))

-- ---- a browser and a party

-- the number of a party
record IsNumberOf (o : Option ℕ) : Type 0 where
  pub number : ℕ
  pub is : o ≡ Some number

numbered : (o : Option ℕ) → is_some o ≡ true → IsNumberOf o
numbered None h = absurd (cc)
numbered (Some n) h = record { number = n; is = refl }

name_short : (party : Party) → length (party_name party) ≤ 4
name_short Shop = omega arith
name_short News = omega arith
name_short Mail = omega arith

begin_guiltless : (c : Configuration) (before : List Line) (x y : Text) (b n : ℕ) → browser_of x ≡ Some b → party_of c y ≡ Some n → words_faults c before (Some (codes "begin" ∷ x ∷ y ∷ [])) ≡ []
unfolding verb_of verb_text
begin_guiltless c before x y b n is_b is_n = rw (is_b, is_n) refl

begin_says : (c : Configuration) (before : List Line) (b : ℕ) (party : Party) (is : IsNumberOf (party_of c (party_name party))) → 1 ≤ b → b ≤ 65535 → Says c before (codes "begin" ∷ decimal b ∷ party_name party ∷ []) (line.Begin b is.number)
unfolding verb_of verb_text
begin_says c before b party is low high = record {
  some = omega arith;
  visible = (word_visible (codes "begin") refl refl, (number_visible b (omega arith), (party_visible party, tt)));
  spoken = refl;
  guiltless = begin_guiltless c before (decimal b) (party_name party) b is.number (browser_read b low high) is.is;
  says = both_said (λ x y. line.Begin x y) (browser_of (decimal b)) (party_of c (party_name party)) b is.number (browser_read b low high) is.is;
}

begin_written : (b : ℕ) (name : Text) → join_with_byte 32 (codes "begin" ∷ decimal b ∷ name ∷ []) ++ 10 ∷ [] ≡ begin_line b name
unfolding begin_line
begin_written b name = simp append_assoc

pub begin_leads : (c : Configuration) → KnowsParties c → (at places b : ℕ) (party : Party) → 1 ≤ b → b ≤ 65535 → Leads c at places (begin_line b (party_name party)) at (places + 1) 18
begin_leads c knows at places b party low high =
    let first : length (decimal b) ≤ 6 = number_length b (omega arith) in
    let second : length (party_name party) ≤ 4 = name_short party in
    let is : IsNumberOf (party_of c (party_name party)) = numbered (party_of c (party_name party)) (knows party) in
    subst (λ (text : Text). Leads c at places text at (places + 1) 18) (begin_written b (party_name party))
    (line_leads c at places (codes "begin" ∷ decimal b ∷ party_name party ∷ []) (line.Begin b is.number) at (places + 1) 18
    (λ before moment count. begin_says c before b party is low high) (λ before moment. moment) (λ before count. omega arith)
    (simp length-append (omega arith)) (omega arith))

visit_guiltless : (c : Configuration) (before : List Line) (x y : Text) (b n : ℕ) → browser_of x ≡ Some b → party_of c y ≡ Some n → words_faults c before (Some (codes "visit" ∷ x ∷ y ∷ [])) ≡ []
unfolding verb_of verb_text
visit_guiltless c before x y b n is_b is_n = rw (is_b, is_n) refl

visit_says : (c : Configuration) (before : List Line) (b : ℕ) (party : Party) (is : IsNumberOf (party_of c (party_name party))) → 1 ≤ b → b ≤ 65535 → Says c before (codes "visit" ∷ decimal b ∷ party_name party ∷ []) (line.Visit b is.number)
unfolding verb_of verb_text
visit_says c before b party is low high = record {
  some = omega arith;
  visible = (word_visible (codes "visit") refl refl, (number_visible b (omega arith), (party_visible party, tt)));
  spoken = refl;
  guiltless = visit_guiltless c before (decimal b) (party_name party) b is.number (browser_read b low high) is.is;
  says = both_said (λ x y. line.Visit x y) (browser_of (decimal b)) (party_of c (party_name party)) b is.number (browser_read b low high) is.is;
}

visit_written : (b : ℕ) (name : Text) → join_with_byte 32 (codes "visit" ∷ decimal b ∷ name ∷ []) ++ 10 ∷ [] ≡ visit_line b name
unfolding visit_line
visit_written b name = simp append_assoc

pub visit_leads : (c : Configuration) → KnowsParties c → (at places b : ℕ) (party : Party) → 1 ≤ b → b ≤ 65535 → Leads c at places (visit_line b (party_name party)) at (places + 1) 18
visit_leads c knows at places b party low high =
    let first : length (decimal b) ≤ 6 = number_length b (omega arith) in
    let second : length (party_name party) ≤ 4 = name_short party in
    let is : IsNumberOf (party_of c (party_name party)) = numbered (party_of c (party_name party)) (knows party) in
    subst (λ (text : Text). Leads c at places text at (places + 1) 18) (visit_written b (party_name party))
    (line_leads c at places (codes "visit" ∷ decimal b ∷ party_name party ∷ []) (line.Visit b is.number) at (places + 1) 18
    (λ before moment count. visit_says c before b party is low high) (λ before moment. moment) (λ before count. omega arith)
    (simp length-append (omega arith)) (omega arith))

-- ---- what a party asks the provider, and the answer

carry_guiltless : (c : Configuration) (before : List Line) (x : Text) (p : ℕ) → place_of x ≡ Some p → p ≤ places_after before → words_faults c before (Some (codes "carry" ∷ x ∷ codes "0" ∷ [])) ≡ []
unfolding verb_of verb_text
carry_guiltless c before x p is le = rw (is, not_below (places_after before) p le) refl

carry_says : (c : Configuration) (before : List Line) (places p : ℕ) → places_after before ≡ places → 1 ≤ p → p ≤ places → places ≤ 999999 → Says c before (codes "carry" ∷ decimal p ∷ codes "0" ∷ []) (line.Carry p 0)
unfolding verb_of verb_text
carry_says c before places p count some le few = record {
  some = omega arith;
  visible = (word_visible (codes "carry") refl refl, (number_visible p (omega arith), (word_visible (codes "0") refl refl, tt)));
  spoken = refl;
  guiltless = carry_guiltless c before (decimal p) p (place_read p some (omega arith)) (omega arith);
  says = both_said (λ x y. line.Carry x y) (place_of (decimal p)) (message_of (codes "0")) p 0 (place_read p some (omega arith)) refl;
}

carry_leads : (c : Configuration) (at places p : ℕ) → 1 ≤ p → p ≤ places → places ≤ 999999 → Leads c at places (join_with_byte 32 (codes "carry" ∷ decimal p ∷ codes "0" ∷ []) ++ 10 ∷ []) at (places + 1) 15
carry_leads c at places p some le few =
    let first : length (decimal p) ≤ 6 = number_length p (omega arith) in
    line_leads c at places (codes "carry" ∷ decimal p ∷ codes "0" ∷ []) (line.Carry p 0) at (places + 1) 15
    (λ before moment count. carry_says c before places p count some le few) (λ before moment. moment) (λ before count. omega arith)
    (simp length-append (omega arith)) (omega arith)

back_guiltless : (c : Configuration) (before : List Line) (x y : Text) (p q : ℕ) → place_of x ≡ Some p → place_of y ≡ Some q → p ≤ places_after before → q ≤ places_after before → words_faults c before (Some (codes "back" ∷ x ∷ y ∷ [])) ≡ []
unfolding verb_of verb_text
back_guiltless c before x y p q is_p is_q le less = rw (is_p, is_q, not_below (places_after before) p le, not_below (places_after before) q less) refl

back_says : (c : Configuration) (before : List Line) (places p q : ℕ) → places_after before ≡ places → 1 ≤ p → p ≤ places → 1 ≤ q → q ≤ places → places ≤ 999999 → Says c before (codes "back" ∷ decimal p ∷ decimal q ∷ []) (line.Back p q)
unfolding verb_of verb_text
back_says c before places p q count some le any less few = record {
  some = omega arith;
  visible = (word_visible (codes "back") refl refl, (number_visible p (omega arith), (number_visible q (omega arith), tt)));
  spoken = refl;
  guiltless = back_guiltless c before (decimal p) (decimal q) p q (place_read p some (omega arith)) (place_read q any (omega arith)) (omega arith) (omega arith);
  says = both_said (λ x y. line.Back x y) (place_of (decimal p)) (place_of (decimal q)) p q (place_read p some (omega arith)) (place_read q any (omega arith));
}

back_leads : (c : Configuration) (at places p q : ℕ) → 1 ≤ p → p ≤ places → 1 ≤ q → q ≤ places → places ≤ 999999 → Leads c at places (join_with_byte 32 (codes "back" ∷ decimal p ∷ decimal q ∷ []) ++ 10 ∷ []) at (places + 1) 19
back_leads c at places p q some le any less few =
    let first : length (decimal p) ≤ 6 = number_length p (omega arith) in
    let second : length (decimal q) ≤ 6 = number_length q (omega arith) in
    line_leads c at places (codes "back" ∷ decimal p ∷ decimal q ∷ []) (line.Back p q) at (places + 1) 19
    (λ before moment count. back_says c before places p q count some le any less few) (λ before moment. moment) (λ before count. omega arith)
    (simp length-append (omega arith)) (omega arith)

exchange_written : (p : ℕ) → (join_with_byte 32 (codes "carry" ∷ decimal p ∷ codes "0" ∷ []) ++ 10 ∷ []) ++ (join_with_byte 32 (codes "back" ∷ decimal p ∷ decimal (p + 1) ∷ []) ++ 10 ∷ []) ≡ exchange_lines p
unfolding exchange_lines
exchange_written p = simp append_assoc

-- what is asked at the last place
pub exchange_leads : (c : Configuration) (at places : ℕ) → 1 ≤ places → places ≤ 999998 → Leads c at places (exchange_lines places) at (places + 2) 34
exchange_leads c at places some few =
    subst (λ (text : Text). Leads c at places text at (places + 2) 34) (exchange_written places)
    (leads_as at (places + 2) 34 refl (omega arith) (omega arith)
    (leads_on (carry_leads c at places places some (omega arith) (omega arith)) (back_leads c at (places + 1) places (places + 1) some (omega arith) (omega arith) (omega arith) (omega arith))))
