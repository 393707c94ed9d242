-- Room: a step that would add a row to a full table, or a second row of one word, changes nothing.
use Rattle.std.specs.Prelude.{Bool, List, Option, Some, None, Ok, if◌then◌else◌}
use Rattle.sso_base.specs.Words.{fresh_word}
use Rattle.sso_base.specs.Rows.{without}
use Rattle.sso_base.specs.declared.history.Entry.{Entry}
use Rattle.rp_login.specs.declared.rows.PendingRow.{PendingRow}
use Rattle.rp_login.specs.declared.table.RpTable.{RpTable}
use Rattle.rp_login.specs.declared.table.RpTable.TheVariants as table
use Rattle.held_rows.specs.Held.{most_rows, is_full}
use Rattle.rp_login.specs.Rows.{login_name, pending_name, visit_name, seen_name}
use Rattle.oidc_words.specs.declared.response_types.Types.{Types}
use Rattle.rp_exchange.specs.declared.ask.RpAsk.{RpAsk}
use Rattle.rp_exchange.specs.declared.ask.RpAsk.TheVariants as ask
use Rattle.rp_exchange.specs.declared.no.RpNo.TheVariants as no
use Rattle.rp_exchange.specs.declared.reply.RpReply.{RpReply}
use Rattle.rp_exchange.specs.declared.reply.RpReply.TheVariants.{Ask, Exchange, Fetch, Entered, Ended, Refused}
use Rattle.rp_answer.specs.Past.{RpPast}
use Rattle.rp_answer.specs.Logins.{live_logins}
use Rattle.rp_answer.specs.Pendings.{live_pendings}
use Rattle.rp_answer.specs.Visits.{live_visits}
use Rattle.rp_answer.specs.Seens.{live_seens}

abbrev pub if_full : RpTable → Bool → Option RpTable
if_full table full = if full then Some table else None

-- the pending exchanges except the one that a token response ends
abbrev pub beside_answered : RpAsk → List PendingRow → List PendingRow
beside_answered (ask.Tokens answered came id) rows = without pending_name answered rows
beside_answered asked rows = rows

-- the table of the logout tokens, where it has no room for this one
abbrev pub seen_lacking : RpPast → Entry RpAsk → RpAsk → Option RpTable
seen_lacking past e (ask.Logout (Ok claims)) = if_full table.Seen (is_full most_rows seen_name claims.jti (live_seens past e.at))
seen_lacking past e asked = None

-- the table that has no room for what a reply makes
abbrev pub table_lacking : Types → RpPast → Entry RpAsk → RpReply → Option RpTable
table_lacking types past e (Ask to browser) = if_full table.Logins (is_full most_rows login_name (fresh_word e.fresh 1) (live_logins past e.at))
table_lacking types past e (Exchange w message) = if_full table.Pendings (is_full most_rows pending_name w (live_pendings types past e.at))
table_lacking types past e (Fetch w message) = if_full table.Pendings (is_full most_rows pending_name w (beside_answered e.ask (live_pendings types past e.at)))
table_lacking types past e (Entered w sub) = if_full table.Sessions (is_full most_rows visit_name w (live_visits types past e.at))
table_lacking types past e (Ended count) = seen_lacking past e e.ask
table_lacking types past e reply = None

abbrev pub unless_lacking : RpReply → Option RpTable → RpReply
unless_lacking reply None = reply
unless_lacking reply (Some table) = Refused (no.Full table)

abbrev pub unless_full : Types → RpPast → Entry RpAsk → RpReply → RpReply
unless_full types past e reply = unless_lacking reply (table_lacking types past e reply)
