-- The rows that an entry and its reply make, from the live rows. If the reply is the answer, they are those of the definitions.
use Rattle.std.specs.Prelude.{◌≡◌, Option, None, option_map, option_and_then}
use Rattle.sso_base.specs.Words.{Word}
use Rattle.sso_base.specs.declared.history.Entry.{Entry}
use Rattle.oidc_words.specs.declared.response_types.Types.{Types}
use Rattle.rp_login.specs.declared.rows.LoginRow.{LoginRow}
use Rattle.rp_login.specs.declared.rows.PendingRow.{PendingRow}
use Rattle.rp_login.specs.declared.rows.SessionRow.{SessionRow}
use Rattle.rp_login.specs.declared.rows.SeenRow.{SeenRow}
use Rattle.rp_login.specs.declared.rows.DeadRow.{DeadRow}
use Rattle.rp_login.specs.declared.rows.Stage.{Stage}
use Rattle.rp_login.specs.declared.rows.Stage.TheVariants as stage
use Rattle.rp_exchange.specs.declared.ask.RpAsk.{RpAsk}
use Rattle.rp_exchange.specs.declared.ask.RpAsk.TheVariants.{Callback, Tokens, Info}
use Rattle.rp_exchange.specs.declared.reply.RpReply.{RpReply}
use Rattle.rp_exchange.specs.declared.reply.RpReply.TheVariants.{Exchange, Fetch, Entered}
use Rattle.rp_answer.specs.Past.{RpPair, RpPast}
use Rattle.rp_answer.specs.Asked.{state_named, claims_judged}
use Rattle.rp_answer.specs.Logins.{logins, login_made, live_login}
use Rattle.rp_answer.specs.Pendings.{pendings, pending_started, pending_followed, pending_made, live_pending}
use Rattle.rp_answer.specs.Seens.{seens, seen_made}
use Rattle.rp_answer.specs.Deads.{deads, dead_made}
use Rattle.rp_answer.specs.Visits.{visits, visit_of, visit_after, visit_made}
use Rattle.rp_core.specs.declared.making.Made.{Made}

-- the pending exchange after the response of the live login
abbrev pub started_found : Types → RpPast → Entry RpAsk → Word → Stage → Option PendingRow
started_found types past e w waits = option_map (pending_started types e.at e.ask w waits) (live_login past e.at (state_named e.ask))

-- the pending exchange after the token response to the live exchange with this word
abbrev pub followed_found : Types → RpPast → Entry RpAsk → Word → Word → Option PendingRow
followed_found types past e answered w = option_map (pending_followed types e.at e.ask w) (live_pending types past e.at answered stage.Tokens)

abbrev pub fetched_found : Types → RpPast → Entry RpAsk → Word → RpAsk → Option PendingRow
fetched_found types past e w (Tokens answered came id) = followed_found types past e answered w
fetched_found types past e w asked = started_found types past e w stage.Info

-- the pending exchange that a reply makes
abbrev pub pending_found : Types → RpPast → Entry RpAsk → RpReply → Option PendingRow
pending_found types past e (Exchange w message) = started_found types past e w stage.Tokens
pending_found types past e (Fetch w message) = fetched_found types past e w e.ask
pending_found types past e reply = None

-- the nonce of the live login, or of the live exchange, that a request belongs to
abbrev pub nonce_found : Types → RpPast → Entry RpAsk → RpAsk → Option Word
nonce_found types past e (Callback heard id browser) =
    option_map (λ (login : LoginRow). login.nonce) (live_login past e.at (state_named (Callback heard id browser)))
nonce_found types past e (Tokens w came id) = option_map (λ (pending : PendingRow). pending.nonce) (live_pending types past e.at w stage.Tokens)
nonce_found types past e asked = None

-- the session of the claims that were verified with a request
abbrev pub visit_judged : Types → RpPast → Entry RpAsk → Word → RpAsk → Option SessionRow
visit_judged types past e w asked = option_and_then (λ nonce. option_map (visit_of e.at w nonce) (claims_judged types asked)) (nonce_found types past e asked)

-- the session with this word that a request begins
abbrev pub visit_in : Types → RpPast → Entry RpAsk → Word → RpAsk → Option SessionRow
visit_in types past e w (Info answered came) = option_and_then (visit_after e.at w) (live_pending types past e.at answered stage.Info)
visit_in types past e w asked = visit_judged types past e w asked

abbrev pub visit_found : Types → RpPast → Entry RpAsk → RpReply → Option SessionRow
visit_found types past e (Entered w sub) = visit_in types past e w e.ask
visit_found types past e reply = None

-- these are the rows that the definitions make
pub record MakesRows
    (types : Types) (past : RpPast) (p : RpPair) (login : Option LoginRow) (pending : Option PendingRow)
    (visit : Option SessionRow) (seen : Option SeenRow) (dead : Option DeadRow) : Type 0 where
  pub login_is : login ≡ login_made (logins past) past p
  pub pending_is : pending ≡ pending_made types (pendings types past) past p
  pub visit_is : visit ≡ visit_made types (visits types past) past p
  pub seen_is : seen ≡ seen_made (seens past) past p
  pub dead_is : dead ≡ dead_made (deads past) past p

-- these are the rows that the pair makes
abbrev pub AreMade : Types → RpPast → RpPair → Made → Type 0
AreMade types past p made = MakesRows types past p made.login made.pending made.visit made.seen made.dead
