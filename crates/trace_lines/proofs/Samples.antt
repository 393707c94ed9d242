-- Lines that are read and lines that are refused, computed over the definitions, for a registry with the parties shop and news.
use Rattle.std.specs.Prelude.{◌≡◌, ℕ, List, [], ◌∷◌, ◌++◌, codes, true, false, Option, Some, None, Result, Ok, Err, refl}
use Rattle.hex.specs.Hex.{decode_pairs}
use Rattle.sso_base.specs.declared.http.Method.TheVariants.{Post, Other}
use Rattle.oidc_words.specs.Types.{types_of_number}
use Rattle.client_registry.specs.Configuration.{Configuration}
use Rattle.client_registry.specs.declared.records.Party.{Party}
use Rattle.client_registry.specs.Records.{usual_settings, usual_party_settings}
use Rattle.trace_lines.specs.declared.no.Fault.{Fault}
use Rattle.trace_lines.specs.declared.no.Fault.TheVariants as fault
use Rattle.trace_lines.specs.declared.no.TraceNo.TheVariants as no
use Rattle.trace_lines.specs.declared.line.Line.{Line}
use Rattle.trace_lines.specs.declared.line.Line.TheVariants.{At, Steal, Show, Begin, Follow, Mix, Forge, Login, Consent, Visit, Leave, SignOut, Carry, Back, Raw}
use Rattle.trace_lines.specs.declared.line.Shown.TheVariants.{Absent, Jar}
use Rattle.sso_places.specs.declared.types.To.TheVariants as to
use Rattle.trace_lines.specs.Header.{seed_of}
use Rattle.trace_lines.specs.Lines.{moment_after, places_after}
use Rattle.trace_lines.specs.Verbs.{verb_text, verb_of}
use Rattle.trace_lines.specs.Trace.{line_read, trace_told}

abbrev party : List ℕ → Party
party name = record {
  name = name;
  client = 0;
  redirect = [];
  listen = [];
  types = types_of_number (Some 0);
  scope = [];
  prompt = None;
  max_age = None;
  userinfo = false;
  signed = false;
  redirect_url = record { secure = true; host = []; port = 443; path = []; query = None };
  settings = usual_party_settings;
}

abbrev registry : Configuration
registry = record {
  provider = record { issuer = []; authorize = []; token = []; userinfo = None };
  prefix = [];
  listen = [];
  secure = true;
  users = [];
  clients = [];
  parties = party (codes "shop") ∷ party (codes "news") ∷ [];
  subjects = [];
  lasting = false;
  full_pages = false;
  title = [];
  settings = usual_settings;
}

-- three lines of which two take a place, at the moment 1000
abbrev before : List Line
before = Follow 1 1 ∷ Begin 1 0 ∷ At 1000 ∷ []

abbrev answer : List ℕ → Result (Option Line) Fault
answer line = line_read registry before line

-- ---- every kind of line

a_moment_may_stay : answer (codes "at 1000") ≡ Ok (Some (At 1000))
unfolding verb_text verb_of
a_moment_may_stay = refl

lines_without_texts_are_read : (answer (codes "steal 2 1") ≡ Ok (Some (Steal 2 1))) × (answer (codes "show 2") ≡ Ok (Some (Show 2))) × (answer (codes "begin 65535 news") ≡ Ok (Some (Begin 65535 1))) × (answer (codes "visit 1 shop") ≡ Ok (Some (Visit 1 0))) × (answer (codes "leave 1 news") ≡ Ok (Some (Leave 1 1))) × (answer (codes "signout 3") ≡ Ok (Some (SignOut 3)))
unfolding verb_text verb_of
lines_without_texts_are_read = (refl, refl, refl, refl, refl, refl)

lines_with_places_are_read : (answer (codes "mix 1 1 code 2") ≡ Ok (Some (Mix 1 1 (codes "code") 2))) × (answer (codes "forge 1 2 bob") ≡ Ok (Some (Forge 1 2 (codes "bob")))) × (answer (codes "login 1 2 alice password") ≡ Ok (Some (Login 1 2 (codes "alice") (codes "password")))) × (answer (codes "consent 1 2 no") ≡ Ok (Some (Consent 1 2 false))) × (answer (codes "carry 2 18446744073709551615") ≡ Ok (Some (Carry 2 18446744073709551615))) × (answer (codes "back 1 2") ≡ Ok (Some (Back 1 2)))
unfolding verb_text verb_of
lines_with_places_are_read = (refl, refl, refl, refl, refl, refl)

requests_are_read : (answer (codes "raw 0 op PUT /a?b - jar Basic:x -") ≡ Ok (Some (Raw 0 to.Provider Other (Some (codes "/a?b")) Absent Jar (Some (codes "Basic:x")) None))) × (answer (codes "raw 1 news POST - jar - - a=b") ≡ Ok (Some (Raw 1 (to.Party 1) Post None Jar Absent None (Some (codes "a=b")))))
unfolding verb_text verb_of
requests_are_read = (refl, refl)

comments_say_nothing : (answer (codes "#  x") ≡ Ok None) × (answer [] ≡ Ok None)
comments_say_nothing = (refl, refl)

-- ---- faults: of several, the first in their order

words_come_first : (answer (codes "consent 0 9 maybe") ≡ Err fault.Word) × (answer (codes "begin 1  shop") ≡ Err fault.Word) × (answer (codes "begin 1 shop ") ≡ Err fault.Word) × (answer (codes "begin 0") ≡ Err fault.Word) × (answer (codes "hello 0") ≡ Err fault.Word) × (answer (codes " ") ≡ Err fault.Word)
unfolding verb_text verb_of
words_come_first = (refl, refl, refl, refl, refl, refl)

numbers_come_before_places : (answer (codes "follow 0 9") ≡ Err fault.Number) × (answer (codes "begin 01 bank") ≡ Err fault.Number) × (answer (codes "show 0") ≡ Err fault.Number) × (answer (codes "raw 65536 bank GET / - - - -") ≡ Err fault.Number) × (answer (codes "at 1099511000001") ≡ Err fault.Number)
unfolding verb_text verb_of
numbers_come_before_places = (refl, refl, refl, refl, refl)

time_does_not_go_back : answer (codes "at 999") ≡ Err fault.Backwards
unfolding verb_text verb_of
time_does_not_go_back = refl

places_have_to_be_taken : (answer (codes "follow 1 3") ≡ Err fault.NoSuchReply) × (answer (codes "mix 1 1 code 3") ≡ Err fault.NoSuchReply)
unfolding verb_text verb_of
places_have_to_be_taken = (refl, refl)

parties_have_to_be_there : (answer (codes "begin 1 bank") ≡ Err fault.NoSuchParty) × (answer (codes "visit 1 op") ≡ Err fault.NoSuchParty)
unfolding verb_text verb_of
parties_have_to_be_there = (refl, refl)

-- ---- headers

digits_are_read : seed_of (codes "sso-trace 1 0123456789abcdef00ff10f0a55ac33c0102030405060708") ≡ Some (1 ∷ 35 ∷ 69 ∷ 103 ∷ 137 ∷ 171 ∷ 205 ∷ 239 ∷ 0 ∷ 255 ∷ 16 ∷ 240 ∷ 165 ∷ 90 ∷ 195 ∷ 60 ∷ 1 ∷ 2 ∷ 3 ∷ 4 ∷ 5 ∷ 6 ∷ 7 ∷ 8 ∷ [])
unfolding decode_pairs
digits_are_read = refl

-- with one digit less, one more, another letter, or another number
other_lines_are_no_headers : (seed_of (codes "sso-trace 1 0123456789abcdef00ff10f0a55ac33c010203040506070") ≡ None) × (seed_of (codes "sso-trace 1 0123456789abcdef00ff10f0a55ac33c01020304050607080") ≡ None) × (seed_of (codes "sso-trace 1 0123456789abcdef00ff10f0a55ac33c010203040506070g") ≡ None) × (seed_of (codes "sso-trace 2 0123456789abcdef00ff10f0a55ac33c0102030405060708") ≡ None)
unfolding decode_pairs
other_lines_are_no_headers = (refl, refl, refl, refl)

-- ---- whole traces

abbrev line : List ℕ → List ℕ
line text = text ++ 10 ∷ []

abbrev header : List ℕ
header = line (codes "sso-trace 1 101010101010101010101010101010101010101010101010")

-- 24 times the byte 16
abbrev sixteens : List ℕ
sixteens = 16 ∷ 16 ∷ 16 ∷ 16 ∷ 16 ∷ 16 ∷ 16 ∷ 16 ∷ 16 ∷ 16 ∷ 16 ∷ 16 ∷ 16 ∷ 16 ∷ 16 ∷ 16 ∷ 16 ∷ 16 ∷ 16 ∷ 16 ∷ 16 ∷ 16 ∷ 16 ∷ 16 ∷ []

a_trace_is_read : trace_told registry (header ++ line (codes "at 5") ++ line [] ++ codes "begin 1 news") ≡ Ok (record { seed = sixteens; lines = Begin 1 1 ∷ At 5 ∷ [] })
unfolding trace_told decode_pairs verb_text verb_of
a_trace_is_read = refl

comments_are_counted : trace_told registry (header ++ line (codes "at 5") ++ line (codes "# x") ++ line (codes "at 4") ++ line (codes "x")) ≡ Err (no.Backwards 4)
unfolding trace_told decode_pairs verb_text verb_of
comments_are_counted = refl

no_header_is_in_capitals : trace_told registry (line (codes "sso-trace 1 A01010101010101010101010101010101010101010101010")) ≡ Err no.Header
unfolding trace_told
no_header_is_in_capitals = refl

an_empty_trace_has_no_header : trace_told registry [] ≡ Err no.Header
unfolding trace_told
an_empty_trace_has_no_header = refl

-- ---- what lines set and take

two_places_are_taken : (places_after before ≡ 2) × (moment_after before ≡ 1000)
two_places_are_taken = (refl, refl)
