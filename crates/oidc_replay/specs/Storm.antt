-- The play of a storm, as a summary: the number of places, how many of them have a reply of some kinds, and how the play ends.
use Rattle.std.specs.Prelude.{ℕ, suc, Bool, true, false, [], ◌∷◌, ◌++◌, length, codes, Option, Some, None, option_map, if◌then◌else◌}
use Rattle.std.specs.Fmt.{decimal}
use Rattle.sso_base.specs.Words.{Text}
use Rattle.auth_request.specs.declared.wish.PageNo.TheVariants as page
use Rattle.client_registry.specs.Configuration.{Configuration}
use Rattle.op_exchange.specs.declared.reply.OpReply.TheVariants as op
use Rattle.rp_exchange.specs.declared.no.RpNo.TheVariants as no
use Rattle.rp_exchange.specs.declared.reply.RpReply.TheVariants as rp
use Rattle.sso_places.specs.declared.types.WorldReply.{WorldReply}
use Rattle.sso_places.specs.declared.types.WorldReply.TheVariants as reply
use Rattle.sso_places.specs.World.{World, place_at, reply_at}
use Rattle.trace_lines.specs.Trace.{Told}
use Rattle.oidc_replay.specs.declared.tally.Kind.{Kind}
use Rattle.oidc_replay.specs.declared.tally.Kind.TheVariants.{Entered, Stale, WrongBrowser, Turn}
use Rattle.oidc_replay.specs.End.{end_of}
use Rattle.oidc_replay.specs.Play.{play_of}
use Rattle.oidc_replay.specs.Text.{end_line}

-- ---- replies

-- the reply is of this kind: an accepted login of a party, two of its refusals, and the provider's page for a form without a
-- live turn
abbrev pub is_of : Kind → WorldReply → Bool
is_of Entered (reply.Party (rp.Entered session sub)) = true
is_of Stale (reply.Party (rp.Refused no.StaleLogin)) = true
is_of WrongBrowser (reply.Party (rp.Refused no.WrongBrowser)) = true
is_of Turn (reply.Provider (op.ErrorPage page.Turn)) = true
is_of kind told = false

abbrev pub is_there : Kind → Option WorldReply → Bool
is_there kind None = false
is_there kind (Some told) = is_of kind told

-- there is a place with this number, and its reply is of this kind
abbrev pub is_at : Kind → World → ℕ → Bool
is_at kind world place = is_there kind (option_map reply_at (place_at world place))

-- the number of places with a reply of this kind
abbrev pub count_of : Kind → World → ℕ
count_of kind [] = 0
count_of kind (x ∷ world) = if is_of kind (reply_at x) then suc (count_of kind world) else count_of kind world

-- ---- the summary

unfoldable pub storm_line : ℕ → ℕ → Text
storm_line number count = codes "storm " ++ decimal number ++ 32 ∷ decimal count ++ 10 ∷ []

unfoldable pub count_line : Text → ℕ → Text
count_line name count = name ++ 32 ∷ decimal count ++ 10 ∷ []

unfoldable pub counts_text : ℕ → ℕ → World → Text
counts_text number count world =
    storm_line number count
    ++ count_line (codes "places") (length world)
    ++ count_line (codes "entered") (count_of Entered world)
    ++ count_line (codes "stale") (count_of Stale world)
    ++ count_line (codes "wrong_browser") (count_of WrongBrowser world)
    ++ count_line (codes "turn") (count_of Turn world)

-- the summary of the play of a trace over a registry, for the storm of these numbers
unfoldable pub storm_text : Configuration → Told → ℕ → ℕ → Text
storm_text c told number count = counts_text number count (play_of c told).world ++ end_line (end_of c told)
