-- The logins of a storm, by their numbers from 0: the user and the party, the variation, and the lines of the trace.
use Rattle.std.specs.Prelude.{ℕ, ◌+◌, ◌*◌, ◌/◌, ◌%◌, ◌^◌, ◌==◌, nat_lt, [], ◌++◌, codes, if◌then◌else◌}
use Rattle.sso_base.specs.Words.{Text}
use Rattle.storm_texts.specs.declared.login.User.{User}
use Rattle.storm_texts.specs.declared.login.User.TheVariants.{Alice, Bob}
use Rattle.storm_texts.specs.declared.login.Party.{Party}
use Rattle.storm_texts.specs.declared.login.Party.TheVariants.{Shop, News, Mail}
use Rattle.storm_texts.specs.declared.login.Twist.{Twist}
use Rattle.storm_texts.specs.declared.login.Twist.TheVariants.{Plain, AnswerAgain, OtherBrowser, LoginAgain}
use Rattle.storm_texts.specs.declared.login.Login.{Login}
use Rattle.storm_texts.specs.Lines.{at_line, begin_line, follow_line, login_line, visit_line, exchange_lines}

-- ---- the parts that differ

-- the next state of a linear congruential generator, with the constants of Knuth's MMIX
abbrev pub next : ℕ → ℕ
next state = (state * 6364136223846793005 + 1442695040888963407) % 2 ^ 64

abbrev pub user_of : ℕ → User
user_of state = if nat_lt state (2 ^ 63) then Alice else Bob

abbrev pub party_of : ℕ → Party
party_of k = if k % 3 == 0 then Shop else if k % 3 == 1 then News else Mail

abbrev pub twist_of : ℕ → Twist
twist_of k =
    if k / 3 % 4 == 0 then Plain
    else if k / 3 % 4 == 1 then AnswerAgain
    else if k / 3 % 4 == 2 then OtherBrowser
    else LoginAgain

-- login number k, given the state of the generator and the number of places before it
abbrev pub login_of : ℕ → ℕ → ℕ → Login
login_of k state places =
    record { at = 1000 + k; browser = k + 1; user = user_of state; party = party_of k; twist = twist_of k; places = places }

-- ---- the lines of a login

-- the name and the password
abbrev pub credentials : User → Text
credentials Alice = codes "alice password"
credentials Bob = codes "bob password"

abbrev pub party_name : Party → Text
party_name Shop = codes "shop"
party_name News = codes "news"
party_name Mail = codes "mail"

-- another browser follows the answer first
abbrev pub other_lines : Twist → ℕ → Text
other_lines OtherBrowser answer = follow_line 65535 answer
other_lines twist answer = []

-- the number of places that this takes
abbrev pub others : Twist → ℕ
others OtherBrowser = 1
others twist = 0

-- the party's requests to the provider: for tokens with a code, and for UserInfo
abbrev pub exchanged_lines : Party → ℕ → Text
exchanged_lines Shop asked = exchange_lines asked
exchanged_lines News asked = []
exchanged_lines Mail asked = exchange_lines asked ++ exchange_lines (asked + 2)

-- the number of places that these take
abbrev pub exchanges : Party → ℕ
exchanges Shop = 2
exchanges News = 0
exchanges Mail = 4

-- the browser repeats a step
abbrev pub again_lines : Login → Twist → Text
again_lines login AnswerAgain = follow_line login.browser (login.places + 3)
again_lines login LoginAgain = login_line login.browser (login.places + 2) (credentials login.user)
again_lines login twist = []

-- the lines up to the login, those of the answer, and the rest
abbrev pub begun_lines : Login → Text
begun_lines login =
    at_line login.at
    ++ begin_line login.browser (party_name login.party)
    ++ follow_line login.browser (login.places + 1)
    ++ login_line login.browser (login.places + 2) (credentials login.user)

abbrev pub answer_lines : Login → Text
answer_lines login =
    other_lines login.twist (login.places + 3)
    ++ follow_line login.browser (login.places + 3)
    ++ exchanged_lines login.party (login.places + 4 + others login.twist)

abbrev pub end_lines : Login → Text
end_lines login = visit_line login.browser (party_name login.party) ++ again_lines login login.twist

unfoldable pub login_lines : Login → Text
login_lines login = begun_lines login ++ answer_lines login ++ end_lines login

-- the number of places that this takes
abbrev pub twists : Twist → ℕ
twists Plain = 0
twists twist = 1

abbrev pub places_of : Login → ℕ
places_of login = 5 + exchanges login.party + twists login.twist
