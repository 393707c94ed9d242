-- A command is parsed from the words that write it, and from no others. Also: when words are not a command, and which command
-- they are by position.
use Rattle.std.proofs.Common.{◌≡◌, ◌≤◌, ◌<◌, ℕ, Bool, true, false, refl, ap, ◌∙◌, subst, codes, arith, List, [], ◌∷◌, length, Option, Some, None, if◌then◌else◌}
use Rattle.std.specs.Fmt.{decimal}
use Rattle.std.specs.List.{list_all, slice_get}
use Rattle.std.specs.Option.{option_copied}
use Rattle.std.specs.Str.{bytes_eq}
use Rattle.std.proofs.lemmas.Slice.Eq.{bytes_eq-Decides}
use Rattle.sso_base.specs.Words.{Text}
use Rattle.command_line.specs.declared.command.Command.{Command}
use Rattle.command_line.specs.declared.command.Command.TheVariants.{Replay, Op, Rp, OpPlus, RpPlus, Storm, Token}
use Rattle.command_line.specs.declared.positionals.Positionals.{Positionals}
use Rattle.command_line.specs.Commands.{is_plain, of_two, storm_of, of_three, of_four, command_in, command_of, words_of, IsInRange}
use Rattle.command_line.specs.Numbers.{number_in}
use Rattle.command_line.specs.Positionals.{HasPlaces, command_at}
use Rattle.command_line.proofs.Decimals.{IsPrinted, number_printed, number_read}

-- ---- the words of a command

-- the words are those of the command, if there is one, and its numbers are in their ranges
abbrev IsOf : Option Command → List Text → Type 0
IsOf None words = Unit {0}
IsOf (Some c) words = (words ≡ words_of c) × IsInRange c

named : (name other : Text) → bytes_eq name other ≡ true → (rest : List Text) → name ∷ rest ≡ other ∷ rest
named name other same rest = ap (λ (n : Text). n ∷ rest) ((bytes_eq-Decides name other).0 same)

two : (name config : Text) → IsOf (of_two name config) (name ∷ config ∷ [])
two name config = at (bytes_eq name (codes "op")) (bytes_eq name (codes "op-plus")) refl refl
  where
    at : (op plus : Bool) → bytes_eq name (codes "op") ≡ op → bytes_eq name (codes "op-plus") ≡ plus
        → IsOf (if op then Some (Op config) else if plus then Some (OpPlus config) else None) (name ∷ config ∷ [])
    at true plus is _ = (named name (codes "op") is (config ∷ []), tt)
    at false true _ is = (named name (codes "op-plus") is (config ∷ []), tt)
    at false false _ _ = tt

storm : (name first second : Text) (number count : Option ℕ) → bytes_eq name (codes "storm") ≡ true
    → number_in 0 4294967295 first ≡ number → number_in 1 10000 second ≡ count → IsOf (storm_of number count) (name ∷ first ∷ second ∷ [])
storm name first second None count is here there = tt
storm name first second (Some number) None is here there = tt
storm name first second (Some number) (Some count) is here there =
    let n : IsPrinted 0 4294967295 first number = number_printed 0 4294967295 first number here in
    let k : IsPrinted 1 10000 second count = number_printed 1 10000 second count there in (
      named name (codes "storm") is (first ∷ second ∷ [])
          ∙ ap (λ (t : Text). codes "storm" ∷ t ∷ second ∷ []) n.text
          ∙ ap (λ (t : Text). codes "storm" ∷ decimal number ∷ t ∷ []) k.text,
      (n.most, k.least, k.most),
    )

three : (name first second : Text) → IsOf (of_three name first second) (name ∷ first ∷ second ∷ [])
three name first second =
    at (bytes_eq name (codes "replay")) (bytes_eq name (codes "rp")) (bytes_eq name (codes "rp-plus")) (bytes_eq name (codes "storm"))
    (bytes_eq name (codes "token")) refl refl refl refl refl
  where
    at : (replay rp plus made token : Bool)
        → bytes_eq name (codes "replay") ≡ replay → bytes_eq name (codes "rp") ≡ rp → bytes_eq name (codes "rp-plus") ≡ plus
        → bytes_eq name (codes "storm") ≡ made → bytes_eq name (codes "token") ≡ token
        → IsOf
        (if replay then Some (Replay first second) else if rp then Some (Rp first second None) else if plus then Some (RpPlus first second)
        else if made then storm_of (number_in 0 4294967295 first) (number_in 1 10000 second) else if token then Some (Token first second) else None)
        (name ∷ first ∷ second ∷ [])
    at true rp plus made token is _ _ _ _ = (named name (codes "replay") is (first ∷ second ∷ []), tt)
    at false true plus made token _ is _ _ _ = (named name (codes "rp") is (first ∷ second ∷ []), tt)
    at false false true made token _ _ is _ _ = (named name (codes "rp-plus") is (first ∷ second ∷ []), tt)
    at false false false true token _ _ _ is _ = storm name first second (number_in 0 4294967295 first) (number_in 1 10000 second) is refl refl
    at false false false false true _ _ _ _ is = (named name (codes "token") is (first ∷ second ∷ []), tt)
    at false false false false false _ _ _ _ _ = tt

four : (name config party discovery : Text) → IsOf (of_four name config party discovery) (name ∷ config ∷ party ∷ discovery ∷ [])
four name config party discovery = at (bytes_eq name (codes "rp")) refl
  where
    at : (rp : Bool) → bytes_eq name (codes "rp") ≡ rp → IsOf (if rp then Some (Rp config party (Some discovery)) else None) (name ∷ config ∷ party ∷ discovery ∷ [])
    at true is = (named name (codes "rp") is (config ∷ party ∷ discovery ∷ []), tt)
    at false is = tt

in_words : (words : List Text) → IsOf (command_in words) words
in_words [] = tt
in_words (a ∷ []) = tt
in_words (a ∷ b ∷ []) = two a b
in_words (a ∷ b ∷ c ∷ []) = three a b c
in_words (a ∷ b ∷ c ∷ d ∷ []) = four a b c d
in_words (a ∷ b ∷ c ∷ d ∷ e ∷ rest) = tt

of_words : (words : List Text) → IsOf (command_of words) words
unfolding command_of
of_words words = at (list_all is_plain words)
  where
    at : (plain : Bool) → IsOf (if plain then command_in words else None) words
    at true = in_words words
    at false = tt

pub words_read : (words : List Text) (c : Command) → command_of words ≡ Some c → words ≡ words_of c
words_read words c is = (subst (λ (o : Option Command). IsOf o words) is (of_words words)).0

pub range_read : (words : List Text) (c : Command) → command_of words ≡ Some c → IsInRange c
range_read words c is = (subst (λ (o : Option Command). IsOf o words) is (of_words words)).1

pub plain_read : (words : List Text) (c : Command) → command_of words ≡ Some c → list_all is_plain words ≡ true
unfolding command_of
plain_read words c is = at (list_all is_plain words) is
  where
    at : (plain : Bool) → (if plain then command_in words else None) ≡ Some c → plain ≡ true
    at true is = refl
    at false is = absurd cc

pub written_read : (c : Command) → list_all is_plain (words_of c) ≡ true → IsInRange c → command_of (words_of c) ≡ Some c
unfolding command_of
written_read (Replay config trace) plain range = rw plain
written_read (Op config) plain range = rw plain
written_read (Rp config name None) plain range = rw plain
written_read (Rp config name (Some discovery)) plain range = rw plain
written_read (OpPlus config) plain range = rw plain
written_read (RpPlus config name) plain range = rw plain
written_read (Storm number count) plain range =
    let least : 0 ≤ number = omega arith in
    let n : number_in 0 4294967295 (decimal number) ≡ Some number = number_read 0 4294967295 number least range.0 (omega arith) in
    let k : number_in 1 10000 (decimal count) ≡ Some count = number_read 1 10000 count range.1 range.2 (omega arith) in
    rw plain (ap (λ (o : Option ℕ). storm_of o (number_in 1 10000 (decimal count))) n ∙ ap (storm_of (Some number)) k)
written_read (Token secret token) plain range = rw plain

-- ---- no command

none_of : (words : List Text) → command_in words ≡ None → command_of words ≡ None
unfolding command_of
none_of words none = at (list_all is_plain words)
  where
    at : (plain : Bool) → (if plain then command_in words else None) ≡ None
    at true = none
    at false = refl

pub too_few : (words : List Text) → length words < 2 → command_of words ≡ None
too_few [] few = none_of [] refl
too_few (a ∷ []) few = none_of (a ∷ []) refl
too_few (a ∷ b ∷ rest) few = absurd (omega (arith, few))

pub too_many : (words : List Text) → 4 < length words → command_of words ≡ None
too_many [] many = absurd (omega (arith, many))
too_many (a ∷ []) many = absurd (omega (arith, many))
too_many (a ∷ b ∷ []) many = absurd (omega (arith, many))
too_many (a ∷ b ∷ c ∷ []) many = absurd (omega (arith, many))
too_many (a ∷ b ∷ c ∷ d ∷ []) many = absurd (omega (arith, many))
too_many (a ∷ b ∷ c ∷ d ∷ e ∷ rest) many = none_of (a ∷ b ∷ c ∷ d ∷ e ∷ rest) refl

pub not_plain : (words : List Text) → list_all is_plain words ≡ false → command_of words ≡ None
unfolding command_of
not_plain words plain = rw plain

-- ---- by the places

by_places : (words : List Text) → length words ≤ 4 → command_at (slice_get words 0) (slice_get words 1) (slice_get words 2) (slice_get words 3) ≡ command_in words
by_places [] most = refl
by_places (a ∷ []) most = refl
by_places (a ∷ b ∷ []) most = refl
by_places (a ∷ b ∷ c ∷ []) most = refl
by_places (a ∷ b ∷ c ∷ d ∷ []) most = refl
by_places (a ∷ b ∷ c ∷ d ∷ e ∷ rest) most = absurd (omega (arith, most))

pub of_places : (p : Positionals) (words : List Text) → HasPlaces p words → length words ≤ 4 → list_all is_plain words ≡ true
    → command_at (option_copied p.name) (option_copied p.first) (option_copied p.second) (option_copied p.third) ≡ command_of words
unfolding command_of
of_places p words at most plain = rw (at.name, at.first, at.second, at.third, plain) (by_places words most)
