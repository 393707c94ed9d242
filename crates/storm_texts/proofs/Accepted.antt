-- The trace of every storm is accepted by a configuration that has its parties.
use Rattle.std.proofs.Common.{◌≡◌, ◌≤◌, ◌+◌, ◌*◌, ◌&&◌, ℕ, suc, zero, Bool, true, false, cond, nat_le, nat_lt, List, [], ◌∷◌, ◌++◌, length, Option, Some, None, Ok, Err, refl, ap, subst, ◌∙◌, append_assoc, append-nil, length-append, arith}
use Rattle.std.specs.Prelude.{codes}
use Rattle.std.specs.List.{list_all}
use Rattle.std.proofs.lemmas.Bool.{and_parts, and_from, ltb-true}
use Rattle.std.proofs.lemmas.Grind.{common_steps}
use Rattle.hex.specs.Hex.{IsBytes, lower_digits, encode_lower}
use Rattle.hex.proofs.HexLemmas.{length-encode_with}
use Rattle.sso_base.specs.Words.{Text}
use Rattle.client_registry.specs.Configuration.{Configuration}
use Rattle.trace_lines.specs.declared.no.TraceNo.TheVariants.{Size}
use Rattle.trace_lines.specs.Header.{is_lower_hex}
use Rattle.trace_lines.specs.Header.{seed_of as seed_in}
use Rattle.trace_lines.specs.Lines.{places_after}
use Rattle.trace_lines.specs.LineWords.{is_plain}
use Rattle.trace_lines.specs.Trace.{Told, lines_of, told_by, headed, told_of, trace_told}
use Rattle.trace_lines.proofs.Accepting.{Goes, goes_read}
use Rattle.trace_lines.proofs.Seeds.{spelled_seed}
use Rattle.storm_texts.specs.declared.login.Party.{Party}
use Rattle.storm_texts.specs.declared.login.Party.TheVariants.{Shop, News, Mail}
use Rattle.storm_texts.specs.declared.login.Twist.{Twist}
use Rattle.storm_texts.specs.declared.login.Twist.TheVariants.{Plain, AnswerAgain, OtherBrowser, LoginAgain}
use Rattle.storm_texts.specs.declared.login.Login.{Login}
use Rattle.storm_texts.specs.Logins.{login_of, login_lines, begun_lines, answer_lines, other_lines, others, exchanged_lines, exchanges, again_lines, twists, places_of}
use Rattle.storm_texts.specs.Parties.{KnowsParties}
use Rattle.storm_texts.specs.Trace.{state_before, places_before, lines_before, seed_of, header, trace_text}
use Rattle.storm_texts.proofs.LineSteps.{Leads, IsAfter, leads_on, leads_as, leads_nowhere, line_cut, not_below}
use Rattle.storm_texts.proofs.PrintedLines.{at_leads, begin_leads, follow_leads, login_leads, visit_leads, exchange_leads}

-- ---- one login

-- its numbers are small, and its moment is none that is past
record IsSmall (at : ℕ) (login : Login) : Type 0 where
  pub later : at ≤ login.at
  pub soon : login.at ≤ 100000
  pub some : 1 ≤ login.browser
  pub few : login.browser ≤ 65534
  pub room : login.places ≤ 100000

begun_leads : (c : Configuration) → KnowsParties c → (at : ℕ) (login : Login) → IsSmall at login → Leads c at login.places (begun_lines login) login.at (login.places + 3) 84
begun_leads c knows at login small =
    let n : ℕ = login.places in
    let room : n ≤ 100000 = small.room in
    leads_as login.at (n + 3) 84 refl (omega arith) (omega arith)
    (leads_on
    (leads_on
    (leads_on (at_leads c at n login.at small.later (omega arith))
    (begin_leads c knows login.at n login.browser login.party small.some (omega arith)))
    (follow_leads c login.at (n + 1) login.browser (n + 1) small.some (omega arith) (omega arith) (omega arith) (omega arith)))
    (login_leads c login.at (n + 1 + 1) login.browser (n + 2) login.user small.some (omega arith) (omega arith) (omega arith) (omega arith)))

other_leads : (c : Configuration) (at n : ℕ) (twist : Twist) → 1 ≤ n → n ≤ 200000 → Leads c at n (other_lines twist n) at (n + others twist) 21
other_leads c at n Plain some room = leads_as at (n + 0) 21 refl (omega arith) (omega arith) (leads_nowhere c at n)
other_leads c at n AnswerAgain some room = leads_as at (n + 0) 21 refl (omega arith) (omega arith) (leads_nowhere c at n)
other_leads c at n OtherBrowser some room = follow_leads c at n 65535 n (omega arith) (omega arith) some (omega arith) (omega arith)
other_leads c at n LoginAgain some room = leads_as at (n + 0) 21 refl (omega arith) (omega arith) (leads_nowhere c at n)

exchanged_leads : (c : Configuration) (at n : ℕ) (party : Party) → 1 ≤ n → n ≤ 200000 → Leads c at n (exchanged_lines party n) at (n + exchanges party) 68
exchanged_leads c at n Shop some room = leads_as at (n + 2) 68 refl (omega arith) (omega arith) (exchange_leads c at n some (omega arith))
exchanged_leads c at n News some room = leads_as at (n + 0) 68 refl (omega arith) (omega arith) (leads_nowhere c at n)
exchanged_leads c at n Mail some room =
    leads_as at (n + 4) 68 refl (omega arith) (omega arith)
    (leads_on (exchange_leads c at n some (omega arith)) (exchange_leads c at (n + 2) (omega arith) (omega arith)))

few_others : (twist : Twist) → others twist ≤ 1
few_others Plain = omega arith
few_others AnswerAgain = omega arith
few_others OtherBrowser = omega arith
few_others LoginAgain = omega arith

few_exchanges : (party : Party) → exchanges party ≤ 4
few_exchanges Shop = omega arith
few_exchanges News = omega arith
few_exchanges Mail = omega arith

few_twists : (twist : Twist) → twists twist ≤ 1
few_twists Plain = omega arith
few_twists AnswerAgain = omega arith
few_twists OtherBrowser = omega arith
few_twists LoginAgain = omega arith

answer_leads : (c : Configuration) (at : ℕ) (login : Login) → IsSmall at login → Leads c login.at (login.places + 3) (answer_lines login) login.at (login.places + 4 + others login.twist + exchanges login.party) 110
answer_leads c at login small =
    let n : ℕ = login.places in
    let m : ℕ = others login.twist in
    let room : n ≤ 100000 = small.room in
    let other : others login.twist ≤ 1 = few_others login.twist in
    leads_as login.at (n + 4 + others login.twist + exchanges login.party) 110 refl refl (omega arith)
    (leads_on
    (leads_on (other_leads c login.at (n + 3) login.twist (omega arith) (omega arith))
    (leads_as login.at (n + 4 + others login.twist) 21 refl (omega arith) (omega arith)
    (follow_leads c login.at (n + 3 + others login.twist) login.browser (n + 3) small.some (omega arith) (omega arith) (omega arith) (omega arith))))
    (exchanged_leads c login.at (n + 4 + others login.twist) login.party (omega arith) (omega arith)))

-- how many places it takes to do again what was done
abbrev agains : Twist → ℕ
agains AnswerAgain = 1
agains LoginAgain = 1
agains twist = 0

again_leads : (c : Configuration) (at then n : ℕ) (login : Login) (twist : Twist) → IsSmall at login → login.places + 3 ≤ n → n ≤ 200000 → Leads c then n (again_lines login twist) then (n + agains twist) 35
again_leads c at then n login Plain small some room = leads_as then (n + 0) 35 refl (omega arith) (omega arith) (leads_nowhere c then n)
again_leads c at then n login AnswerAgain small some room =
    leads_as then (n + 1) 35 refl refl (omega arith)
    (follow_leads c then n login.browser (login.places + 3) small.some (omega arith) (omega arith) some (omega arith))
again_leads c at then n login OtherBrowser small some room = leads_as then (n + 0) 35 refl (omega arith) (omega arith) (leads_nowhere c then n)
again_leads c at then n login LoginAgain small some room =
    login_leads c then n login.browser (login.places + 2) login.user small.some (omega arith) (omega arith) (omega arith) (omega arith)

once : (twist : Twist) → others twist + agains twist ≡ twists twist
once Plain = refl
once AnswerAgain = refl
once OtherBrowser = refl
once LoginAgain = refl

few_places : (login : Login) → places_of login ≤ 10
few_places login = omega (arith, few_exchanges login.party, few_twists login.twist)

login_goes : (c : Configuration) → KnowsParties c → (at : ℕ) (login : Login) → IsSmall at login → Leads c at login.places (login_lines login) login.at (login.places + places_of login) 300
unfolding login_lines
login_goes c knows at login small =
    let n : ℕ = login.places in
    let room : n ≤ 100000 = small.room in
    let other : others login.twist ≤ 1 = few_others login.twist in
    let asked : exchanges login.party ≤ 4 = few_exchanges login.party in
    let twisted : others login.twist + agains login.twist ≡ twists login.twist = once login.twist in
    leads_as login.at (n + places_of login) 300 refl (omega arith) (omega arith)
    (leads_on
    (leads_on (begun_leads c knows at login small) (answer_leads c at login small))
    (leads_on (visit_leads c knows login.at (n + 4 + others login.twist + exchanges login.party) login.browser login.party small.some (omega arith))
    (again_leads c at login.at (n + 4 + others login.twist + exchanges login.party + 1) login login.twist small (omega arith) (omega arith))))

-- ---- all logins

-- the moment of the login before the one of this number
abbrev moment_before : ℕ → ℕ
moment_before zero = 0
moment_before (suc k) = 1000 + k

past : (k : ℕ) → moment_before k ≤ 1000 + k
past zero = omega arith
past (suc k) = omega arith

pub places_few : (k : ℕ) → places_before k ≤ 10 * k
places_few zero = omega arith
places_few (suc k) = omega (arith, places_few k, few_places (login_of k 0 0))

pub logins_lead : (c : Configuration) → KnowsParties c → (number k : ℕ) → k ≤ 10000 → Leads c 0 0 (lines_before number k) (moment_before k) (places_before k) (300 * k)
logins_lead c knows number zero few = leads_nowhere c 0 0
logins_lead c knows number (suc k) few =
    let login : Login = login_of k (state_before number (suc k)) (places_before k) in
    let small : IsSmall (moment_before k) login = record { later = past k; soon = omega arith; some = omega arith; few = omega arith; room = omega (arith, places_few k) } in
    leads_as (1000 + k) (places_before (suc k)) (300 * suc k) refl refl (omega arith)
    (leads_on (logins_lead c knows number k (omega arith)) (login_goes c knows (moment_before k) login small))

-- ---- the header

bytes_are : (xs : List ℕ) → list_all (λ x. nat_lt x 256) xs ≡ true → IsBytes xs
bytes_are [] h i = omega arith
bytes_are (x ∷ xs) h zero = ltb-true x 256 (and_parts (nat_lt x 256) (list_all (λ y. nat_lt y 256) xs) h).0
bytes_are (x ∷ xs) h (suc i) = bytes_are xs (and_parts (nat_lt x 256) (list_all (λ y. nat_lt y 256) xs) h).1 i

seed_bytes : (number : ℕ) → list_all (λ x. nat_lt x 256) (seed_of number) ≡ true
seed_bytes number = grind (arith, common_steps)

seed_long : (number : ℕ) → length (seed_of number) ≡ 24
seed_long number = refl

abbrev header_line : ℕ → List ℕ
header_line number = codes "sso-trace 1 " ++ encode_lower (seed_of number)

header_read : (number : ℕ) → seed_in (header_line number) ≡ Some (seed_of number)
header_read number =
    spelled_seed (header_line number) (seed_of number)
    (record { long = seed_long number; bytes = bytes_are (seed_of number) (seed_bytes number); text = refl })

lower_given : (b : Bool) (o : Option (List ℕ)) (seed : List ℕ) → cond b o None ≡ Some seed → b ≡ true
lower_given true o seed h = refl
lower_given false o seed h = absurd (cc)

digit_plain : (b : ℕ) → is_lower_hex b ≡ true → (nat_le 32 b && nat_le b 126) ≡ true
digit_plain b h = grind (arith)

digits_plain : (digits : List ℕ) → list_all is_lower_hex digits ≡ true → is_plain digits ≡ true
digits_plain [] h = refl
digits_plain (b ∷ digits) h =
    let parts = and_parts (is_lower_hex b) (list_all is_lower_hex digits) h in
    and_from (nat_le 32 b && nat_le b 126) (is_plain digits) (digit_plain b parts.0) (digits_plain digits parts.1)

header_plain : (number : ℕ) → is_plain (header_line number) ≡ true
header_plain number =
    digits_plain (encode_lower (seed_of number))
    (lower_given (list_all is_lower_hex (encode_lower (seed_of number))) _ (seed_of number) (header_read number))

header_length : (number : ℕ) → length (header_line number) ≡ 60
header_length number = omega (arith, length-encode_with lower_digits (seed_of number), seed_long number)

-- ---- the trace

cut_trace : (number : ℕ) (lines : Text) → lines_of (header number ++ lines) ≡ header_line number ∷ lines_of lines
unfolding header
cut_trace number lines =
    ap (λ bytes. lines_of bytes) (append_assoc (header_line number) (10 ∷ []) lines) ∙ line_cut (header_line number) lines (header_plain number)

trace_length : (number : ℕ) (lines : Text) → length (header number ++ lines) ≡ 61 + length lines
unfolding header
trace_length number lines =
    omega (arith, header_length number, length-append (header_line number) (10 ∷ []), length-append (header_line number ++ 10 ∷ []) lines)

-- the trace of a storm is accepted, with its seed, and takes as many places as the storm counts
pub storm_accepted : (c : Configuration) (number count : ℕ) → KnowsParties c → count ≤ 10000 → (told : Told) × (trace_told c (trace_text number count) ≡ Ok told) × (told.seed ≡ seed_of number) × (places_after told.lines ≡ places_before count)
unfolding trace_text trace_told
storm_accepted c number count knows few =
    let lines : Text = lines_before number count in
    let leads : Leads c 0 0 lines (moment_before count) (places_before count) (300 * count) = logins_lead c knows number count few in
    let whole : IsAfter c [] lines (moment_before count) (places_before count) = leads.from [] refl refl in
    let goes : Goes c [] (lines_of lines) whole.after =
    subst (λ (bytes : List ℕ). Goes c [] (lines_of bytes) whole.after) (append-nil lines) (whole.reads.on [] whole.after (refl, refl)) in
    let short : nat_lt 4194304 (length (header number ++ lines)) ≡ false = not_below 4194304 (length (header number ++ lines)) (omega (arith, trace_length number lines, leads.size)) in (
      record { seed = seed_of number; lines = whole.after },
      (ap (λ b. cond b (Err Size) (told_of c (lines_of (header number ++ lines)))) short
          ∙ ap (told_of c) (cut_trace number lines)
          ∙ ap (λ seed. headed c seed (lines_of lines)) (header_read number)
          ∙ ap (told_by (seed_of number)) (goes_read c 2 [] (lines_of lines) whole.after goes)),
      refl,
      whole.places_are,
    )
