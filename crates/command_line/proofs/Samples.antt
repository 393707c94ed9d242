-- The definitions computed on small cases: what each accepts, and what it refuses.
use Rattle.std.proofs.Common.{◌≡◌, true, false, List, [], ◌∷◌, Some, None, codes, refl, ◌≤◌, arith}
use Rattle.std.specs.Fmt.{digits}
use Rattle.std.specs.List.{list_all}
use Rattle.sso_base.specs.Words.{Text}
use Rattle.command_line.specs.declared.command.Command.TheVariants.{Replay, Op, Rp, OpPlus, RpPlus, Storm, Token}
use Rattle.command_line.specs.Commands.{is_plain, command_of, is_command, asks_replay, asks_op, asks_rp, asks_op_plus, asks_rp_plus, asks_storm, asks_token}
use Rattle.command_line.specs.Commands.{words_of, IsInRange}

-- ---- each list of words that is accepted

replay : command_of (codes "replay" ∷ codes "sample.toml" ∷ codes "login.trace" ∷ []) ≡ Some (Replay (codes "sample.toml") (codes "login.trace"))
unfolding command_of
replay = refl

op : command_of (codes "op" ∷ codes "sample.toml" ∷ []) ≡ Some (Op (codes "sample.toml"))
unfolding command_of
op = refl

rp : command_of (codes "rp" ∷ codes "sample.toml" ∷ codes "news" ∷ []) ≡ Some (Rp (codes "sample.toml") (codes "news") None)
unfolding command_of
rp = refl

rp_with_discovery : command_of (codes "rp" ∷ codes "sample.toml" ∷ codes "news" ∷ codes "op.json" ∷ []) ≡ Some (Rp (codes "sample.toml") (codes "news") (Some (codes "op.json")))
unfolding command_of
rp_with_discovery = refl

op_plus : command_of (codes "op-plus" ∷ codes "sample.toml" ∷ []) ≡ Some (OpPlus (codes "sample.toml"))
unfolding command_of
op_plus = refl

rp_plus : command_of (codes "rp-plus" ∷ codes "sample.toml" ∷ codes "news" ∷ []) ≡ Some (RpPlus (codes "sample.toml") (codes "news"))
unfolding command_of
rp_plus = refl

token : command_of (codes "token" ∷ codes "secret" ∷ codes "id.jwt" ∷ []) ≡ Some (Token (codes "secret") (codes "id.jwt"))
unfolding command_of
token = refl

storm : command_of (codes "storm" ∷ codes "4294967295" ∷ codes "10000" ∷ []) ≡ Some (Storm 4294967295 10000)
unfolding command_of digits
storm = refl

least_storm : command_of (codes "storm" ∷ codes "0" ∷ codes "1" ∷ []) ≡ Some (Storm 0 1)
unfolding command_of digits
least_storm = refl

-- ---- lists of words that are none

with_an_empty_word : command_of (codes "rp" ∷ codes "sample.toml" ∷ codes "news" ∷ [] ∷ []) ≡ None
unfolding command_of
with_an_empty_word = refl

with_a_hyphen : command_of (codes "op" ∷ codes "-v" ∷ []) ≡ None
unfolding command_of
with_a_hyphen = refl

five_words : command_of (codes "rp" ∷ codes "sample.toml" ∷ codes "news" ∷ codes "op.json" ∷ codes "more" ∷ []) ≡ None
unfolding command_of
five_words = refl

no_word : command_of [] ≡ None
unfolding command_of
no_word = refl

name_alone : command_of (codes "op" ∷ []) ≡ None
unfolding command_of
name_alone = refl

other_name : command_of (codes "Op" ∷ codes "sample.toml" ∷ []) ≡ None
unfolding command_of
other_name = refl

a_word_too_many : command_of (codes "op" ∷ codes "sample.toml" ∷ codes "more" ∷ []) ≡ None
unfolding command_of
a_word_too_many = refl

a_word_too_few : command_of (codes "replay" ∷ codes "sample.toml" ∷ []) ≡ None
unfolding command_of
a_word_too_few = refl

-- a party with proof keys takes no metadata
rp_plus_with_discovery : command_of (codes "rp-plus" ∷ codes "sample.toml" ∷ codes "news" ∷ codes "op.json" ∷ []) ≡ None
unfolding command_of
rp_plus_with_discovery = refl

-- a storm of no login, of too many, of a number out of range, with a leading zero, a sign, or no number
abbrev storm_words : Text → Text → List Text
storm_words number count = codes "storm" ∷ number ∷ count ∷ []

no_login : command_of (storm_words (codes "1") (codes "0")) ≡ None
unfolding command_of digits
no_login = refl

too_many_logins : command_of (storm_words (codes "1") (codes "10001")) ≡ None
unfolding command_of digits
too_many_logins = refl

too_great : command_of (storm_words (codes "4294967296") (codes "1")) ≡ None
unfolding command_of digits
too_great = refl

leading_zero : command_of (storm_words (codes "01") (codes "1")) ≡ None
unfolding command_of digits
leading_zero = refl

sign : command_of (storm_words (codes "+1") (codes "1")) ≡ None
unfolding command_of digits
sign = refl

no_number : command_of (storm_words (codes "one") (codes "1")) ≡ None
unfolding command_of digits
no_number = refl

storm_alone : command_of (codes "storm" ∷ codes "1" ∷ []) ≡ None
unfolding command_of
storm_alone = refl

-- ---- the small tests

hyphen_inside : is_plain (codes "a-b") ≡ true
hyphen_inside = refl

hyphen_alone : is_plain (codes "-") ≡ false
hyphen_alone = refl

empty : is_plain [] ≡ false
empty = refl

command : is_command (codes "op" ∷ codes "sample.toml" ∷ []) ≡ true
unfolding command_of
command = refl

no_command : is_command (codes "op" ∷ []) ≡ false
unfolding command_of
no_command = refl

asked_replay : asks_replay (Some (Replay (codes "c") (codes "t"))) ≡ true
asked_replay = refl

asked_other_than_replay : asks_replay (Some (Token (codes "s") (codes "t"))) ≡ false
asked_other_than_replay = refl

asked_op : asks_op (Some (Op (codes "c"))) ≡ true
asked_op = refl

asked_none_for_op : asks_op None ≡ false
asked_none_for_op = refl

asked_rp : asks_rp (Some (Rp (codes "c") (codes "n") None)) ≡ true
asked_rp = refl

asked_other_than_rp : asks_rp (Some (Op (codes "c"))) ≡ false
asked_other_than_rp = refl

asked_op_plus : asks_op_plus (Some (OpPlus (codes "c"))) ≡ true
asked_op_plus = refl

asked_op_for_op_plus : asks_op_plus (Some (Op (codes "c"))) ≡ false
asked_op_for_op_plus = refl

asked_rp_plus : asks_rp_plus (Some (RpPlus (codes "c") (codes "n"))) ≡ true
asked_rp_plus = refl

asked_rp_for_rp_plus : asks_rp_plus (Some (Rp (codes "c") (codes "n") None)) ≡ false
asked_rp_for_rp_plus = refl

asked_storm : asks_storm (Some (Storm 1 2)) ≡ true
asked_storm = refl

asked_other_than_storm : asks_storm (Some (Op (codes "c"))) ≡ false
asked_other_than_storm = refl

asked_token : asks_token (Some (Token (codes "s") (codes "t"))) ≡ true
asked_token = refl

asked_other_than_token : asks_token (Some (Replay (codes "c") (codes "t"))) ≡ false
asked_other_than_token = refl

-- the law's premise is met by a real command, and by no command with an empty word
plain_words : list_all is_plain (words_of (Rp (codes "c") (codes "n") (Some (codes "d")))) ≡ true
plain_words = refl

no_plain_words : list_all is_plain (words_of (Op [])) ≡ false
no_plain_words = refl

-- so is the premise on the numbers of a storm
numbers_fit : IsInRange (Storm 7 2000)
numbers_fit = (omega arith, omega arith, omega arith)

numbers_do_not : IsInRange (Storm 7 0) → ⊥
numbers_do_not range = (let few : 1 ≤ 0 = range.1 in omega arith)
