-- A relying party's asks, and its cores, may go to other threads, and threads may share them. They are too large for one search, so each
-- part is searched for by itself.
use Rattle.std.proofs.Crossing.{crosses}
use Rattle.std.proofs.MapsCrossing as maps
use Rattle.serde_json.proofs.value.Value.TheLaws.TheKnot as json
use denote.Param.Send.{IsSend, IsSync, sendable, recorded_send, recorded_sync, enum_send, enum_sync}
use denote.Enum.Declared.{shape}
use Rattle.rp_exchange.specs.contracts.ask.RpAsk.{the_row, the_type}
use Rattle.rp_core.specs.contracts.state.RpCore as core
use Rattle.sso_base.proofs.chain.Chain.TheLaws.TheKnot as chain
use Rattle.pkce_party.specs.contracts.timed.TimedParty as timed
use Rattle.pkce_party.specs.contracts.party.PkceParty as keyed
use Rattle.sso_base.specs.contracts.journal.Journal as journal
use Rattle.rp_exchange.specs.contracts.reply.RpReply as reply_row
use Rattle.rp_exchange.proofs.reply.RpReply.TheSendSync as reply
use Rattle.rp_accept.proofs.setup.Setup.TheSendSync as setup
use Rattle.rp_login.proofs.tables.Logins.TheSendSync as logins
use Rattle.held_rows.proofs.held.Held.TheSendSync as held
use Rattle.sso_base.specs.declared.journal.Weighed as weighed

-- for parts without and with JSON values
ruleset parts = (maps.crosses, crosses, sendable)

ruleset json_parts = (parts, json.crosses)

-- ---- they go to other threads

-- one part a line of the enum, and in it one for each of its fields
pub asks_are_sent : IsSend the_row
asks_are_sent =
    recorded_send _ _ _ the_type.to_one (enum_send (shape the_type) (
      (search parts depth 60 fits 20000, tt),
      (
        tt,
        (
          (search parts depth 60 fits 20000, (search json_parts depth 60 fits 20000, (search parts depth 60 fits 20000, tt))),
          (
            (search parts depth 60 fits 20000, (search parts depth 60 fits 20000, (search json_parts depth 60 fits 20000, tt))),
            (
              (search parts depth 60 fits 20000, (search parts depth 60 fits 20000, tt)),
              (
                (search parts depth 60 fits 20000, tt),
                (
                  (search parts depth 60 fits 20000, tt),
                  (
                    (search parts depth 60 fits 20000, tt),
                    (
                      tt,
                      tt,
                    ),
                  ),
                ),
              ),
            ),
          ),
        ),
      ),
    ))

pub journal_is_sent : (g : weighed.Ghosts the_row.Denot) → IsSend (journal.the_row the_row reply_row.the_row g)
journal_is_sent g = search (asks_are_sent, reply.the_send, chain.crosses, json_parts) depth 60 fits 20000

pub core_is_sent : IsSend core.the_row
core_is_sent = search (setup.the_send, logins.the_send, journal_is_sent, sendable) depth 60 fits 20000

pub timed_is_sent : IsSend timed.the_row
timed_is_sent = search (core_is_sent, sendable) depth 60 fits 20000

pub keyed_is_sent : IsSend keyed.the_row
keyed_is_sent = search (timed_is_sent, held.the_send, parts) depth 60 fits 20000

-- ---- threads share them

pub asks_are_shared : IsSync the_row
asks_are_shared =
    recorded_sync _ _ _ the_type.to_one (enum_sync (shape the_type) (
      (search parts depth 60 fits 20000, tt),
      (
        tt,
        (
          (search parts depth 60 fits 20000, (search json_parts depth 60 fits 20000, (search parts depth 60 fits 20000, tt))),
          (
            (search parts depth 60 fits 20000, (search parts depth 60 fits 20000, (search json_parts depth 60 fits 20000, tt))),
            (
              (search parts depth 60 fits 20000, (search parts depth 60 fits 20000, tt)),
              (
                (search parts depth 60 fits 20000, tt),
                (
                  (search parts depth 60 fits 20000, tt),
                  (
                    (search parts depth 60 fits 20000, tt),
                    (
                      tt,
                      tt,
                    ),
                  ),
                ),
              ),
            ),
          ),
        ),
      ),
    ))

pub journal_is_shared : (g : weighed.Ghosts the_row.Denot) → IsSync (journal.the_row the_row reply_row.the_row g)
journal_is_shared g = search (asks_are_shared, reply.the_sync, json_parts) depth 60 fits 20000

pub core_is_shared : IsSync core.the_row
core_is_shared = search (setup.the_sync, logins.the_sync, journal_is_shared, sendable) depth 60 fits 20000

pub timed_is_shared : IsSync timed.the_row
timed_is_shared = search (core_is_shared, sendable) depth 60 fits 20000

pub keyed_is_shared : IsSync keyed.the_row
keyed_is_shared = search (timed_is_shared, held.the_sync, parts) depth 60 fits 20000

pub ruleset sends = (asks_are_sent, core_is_sent, keyed_is_sent, sendable)

pub ruleset shares = (core_is_shared, keyed_is_shared, sendable)
