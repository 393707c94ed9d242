-- The text of a replay: a line for each place and for each line that shows one, and a last line for the end.
use Rattle.std.specs.Prelude.{ℕ, suc, List, [], ◌∷◌, ◌++◌, length, codes, Option, Some, None, option_and_then, is_some, if◌then◌else◌}
use Rattle.std.specs.Fmt.{decimal}
use Rattle.hex.specs.Hex.{encode_lower}
use Rattle.sso_base.specs.Words.{Text}
use Rattle.sso_base.specs.declared.http.HttpReply.{HttpReply}
use Rattle.client_registry.specs.Configuration.{Configuration}
use Rattle.client_registry.specs.Numbers.{party_row}
use Rattle.op_response.specs.Lines.{line_of as op_line}
use Rattle.rp_response.specs.Lines.{line_of as rp_line}
use Rattle.sso_http.specs.Replies.{reply_bytes}
use Rattle.sso_places.specs.declared.types.Broken.{Broken}
use Rattle.sso_places.specs.declared.types.Broken.TheVariants.{Forged, Leaked, HashClash}
use Rattle.sso_places.specs.declared.types.To.{To}
use Rattle.sso_places.specs.declared.types.To.TheVariants as to
use Rattle.sso_places.specs.declared.types.WorldReply.{WorldReply}
use Rattle.sso_places.specs.declared.types.WorldReply.TheVariants as reply
use Rattle.sso_places.specs.World.{Place, World, place_at, role_at, reply_at}
use Rattle.trace_lines.specs.declared.line.Line.{Line}
use Rattle.trace_lines.specs.declared.line.Line.TheVariants.{At, Steal, Show}
use Rattle.trace_lines.specs.Trace.{Told}
use Rattle.web_requests.specs.Handing.{printed}
use Rattle.oidc_replay.specs.declared.replaying.ReplayEnd.{ReplayEnd}
use Rattle.oidc_replay.specs.declared.replaying.ReplayEnd.TheVariants as end
use Rattle.oidc_replay.specs.Play.{Played, play_lines}
use Rattle.oidc_replay.specs.End.{end_of}

-- ---- places

-- the name of the role that received the request, and the summary of its reply
abbrev pub reply_words : Configuration → Option To → WorldReply → Text
reply_words c (Some to.Provider) (reply.Provider told) = codes "op " ++ op_line told
reply_words c (Some (to.Party n)) (reply.Party told) = (party_row c n).name ++ 32 ∷ rp_line told
reply_words c role told = codes "- none"

-- the line of a place, by its number
abbrev pub place_line : Configuration → ℕ → Place → Text
place_line c number x = decimal number ++ 32 ∷ reply_words c (role_at x) (reply_at x) ++ 10 ∷ []

-- ---- places that are shown

-- the bytes of an HTTP reply in lower-case hexadecimal digits, empty if there is none
abbrev pub hex_of : Option HttpReply → Text
hex_of None = []
hex_of (Some told) = encode_lower (reply_bytes told)

-- the HTTP reply of a place
abbrev pub http_at : Configuration → Place → Option HttpReply
http_at c x = option_and_then (λ role. printed c role (reply_at x)) (role_at x)

abbrev pub hex_at : Configuration → World → ℕ → Text
hex_at c world place = hex_of (option_and_then (http_at c) (place_at world place))

abbrev pub show_line : Configuration → World → ℕ → Text
show_line c world place = codes "show " ++ decimal place ++ 32 ∷ hex_at c world place ++ 10 ∷ []

-- ---- lines of a trace

abbrev pub newest_line : Configuration → World → Text
newest_line c [] = []
newest_line c (x ∷ world) = place_line c (suc (length world)) x

-- the text of a line, by the world after it
abbrev pub line_text : Configuration → World → Line → Text
line_text c world (At seconds) = []
line_text c world (Steal thief owner) = []
line_text c world (Show place) = show_line c world place
line_text c world line = newest_line c world

-- nothing is printed for a line that ends the play, and for those after it
abbrev pub unless_ended : Option ℕ → Text → Text
unless_ended ended text = if is_some ended then [] else text

abbrev pub line_told : Configuration → Played → Line → Text
line_told c play line = unless_ended play.ended (line_text c play.world line)

-- the text of these lines, given the newest first
abbrev pub lines_told : Configuration → List ℕ → List Line → Text
lines_told c seed [] = []
lines_told c seed (line ∷ lines) = lines_told c seed lines ++ line_told c (play_lines c seed (line ∷ lines)) line

-- ---- the end

abbrev pub premise_words : Broken → Text
premise_words (Forged place) = codes "forged " ++ decimal place
premise_words (Leaked place) = codes "leaked " ++ decimal place
premise_words (HashClash first place) = codes "clash " ++ decimal first ++ 32 ∷ decimal place

-- the last line: the first failed premise, if there is one, or the place for which a history had no room
abbrev pub end_line : ReplayEnd → Text
end_line end.Met = codes "premises met" ++ 10 ∷ []
end_line (end.Broken broken) = codes "premises " ++ premise_words broken ++ 10 ∷ []
end_line (end.Journal place) = codes "journal " ++ decimal place ++ 10 ∷ []

-- the text of the replay of a trace over a registry
unfoldable pub text_of : Configuration → Told → Text
text_of c told = lines_told c told.seed told.lines ++ end_line (end_of c told)
