-- The values of single words of a line; none if a word has no such value.
use Rattle.std.specs.Prelude.{ℕ, ◌-◌, ◌^◌, Bool, true, false, codes, Option, Some, None, option_map, if◌then◌else◌}
use Rattle.std.specs.Str.{bytes_eq}
use Rattle.sso_base.specs.Words.{Text, Word, word_of_text}
use Rattle.sso_base.specs.Values.{latest_moment}
use Rattle.client_registry.specs.Configuration.{Configuration}
use Rattle.client_registry.specs.Rules.{party_place}
use Rattle.trace_lines.specs.declared.line.Shown.{Shown}
use Rattle.trace_lines.specs.declared.line.Shown.TheVariants.{Absent, Jar, Given}
use Rattle.sso_places.specs.declared.types.To.{To}
use Rattle.sso_places.specs.declared.types.To.TheVariants as to
use Rattle.trace_lines.specs.Number.{number_of, number_within}

-- ---- numbers

-- a moment, in seconds since the epoch
abbrev pub moment_of : Text → Option ℕ
moment_of word = number_within 0 latest_moment word

-- browsers are numbered from 1 to 65535
abbrev pub browser_of : Text → Option ℕ
browser_of word = number_within 1 65535 word

-- a browser, or 0 for a server
abbrev pub sender_of : Text → Option ℕ
sender_of word = number_within 0 65535 word

-- places are numbered from 1
abbrev pub place_of : Text → Option ℕ
place_of word = number_within 1 (2 ^ 64 - 1) word

-- messages are numbered from 0
abbrev pub message_of : Text → Option ℕ
message_of word = number_of word

-- ---- roles

-- the number of the party with this name
abbrev pub party_of : Configuration → Text → Option ℕ
party_of c word = party_place word c.parties

-- `op` is the provider; no party has that name
abbrev pub role_of : Configuration → Text → Option To
role_of c word = if bytes_eq word (codes "op") then Some to.Provider else option_map (λ party. to.Party party) (party_of c word)

-- ---- words of a consent and of a raw request

-- `yes` or `no`
abbrev pub choice_of : Text → Option Bool
choice_of word = if bytes_eq word (codes "yes") then Some true else if bytes_eq word (codes "no") then Some false else None

-- `-` is an absent part
abbrev pub part_of : Text → Option Text
part_of word = if bytes_eq word (codes "-") then None else Some word

-- a cookie with this word, or none
abbrev pub given : Option Word → Shown
given None = Absent
given (Some word) = Given word

-- a cookie: absent, that of the jar, or the word with this text
abbrev pub cookie_of : Text → Shown
cookie_of word =
    if bytes_eq word (codes "-") then Absent else if bytes_eq word (codes "jar") then Jar else given (word_of_text word)
