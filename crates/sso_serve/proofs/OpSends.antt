-- The provider of `op-plus` may go to other threads, and threads may share it. It is too large for one search, so each part is searched
-- for by itself.
use Rattle.std.proofs.Crossing.{crosses}
use denote.RattleType.{RattleType}
use denote.Param.Send.{IsSend, IsSync, sendable}
use Rattle.sso_base.specs.declared.journal.Weighed as weighed
use Rattle.sso_base.specs.declared.step.Core as core
use Rattle.sso_base.specs.contracts.journal.Journal as journal
use Rattle.sso_base.proofs.chain.Chain.TheLaws.TheKnot as chain
use Rattle.client_registry.proofs.registry.Registry.TheSendSync as registry
use Rattle.held_rows.proofs.held.Held.TheSendSync as held
use Rattle.code_grant.proofs.grants.Grants.TheSendSync as grants
use Rattle.op_exchange.specs.contracts.ask.OpAsk as op_ask
use Rattle.op_exchange.specs.contracts.reply.OpReply as op_reply
use Rattle.op_exchange.proofs.ask.OpAsk.TheSendSync as asks
use Rattle.op_exchange.proofs.reply.OpReply.TheSendSync as replies
use Rattle.op_core.specs.contracts.state.OpCore as provider
use Rattle.core_stack.specs.declared.provides.Provides as provides
use Rattle.core_stack.specs.contracts.kept_journal.KeptJournal as kept
use Rattle.pkce_answer.proofs.asks.PkceReply.TheSendSync as keyed_replies
use Rattle.pkce_answer.proofs.asks.PkceAsk.TheSendSync as keyed_asks
use Rattle.pkce_check.specs.contracts.pkce_core.PkceCore as keyed
use Rattle.refresh_answer.proofs.asks.RefreshAsk.TheSendSync as refresh_asks
use Rattle.refresh_answer.proofs.asks.RefreshReply.TheSendSync as refresh_replies
use Rattle.refresh_answer.proofs.asks.OwnReply.TheSendSync as refreshed_replies
use Rattle.refresh_rows.proofs.book.Book.TheSendSync as book
use Rattle.refresh_book.specs.contracts.refresh_core.RefreshCore as refreshed
use Rattle.end_request.proofs.returns.Returns.TheSendSync as returns
use Rattle.signout_answer.proofs.asks.EndAsk.TheSendSync as end_asks
use Rattle.signout_answer.proofs.asks.EndReply.TheSendSync as end_replies
use Rattle.signout_answer.proofs.parts.OwnReply.TheSendSync as ended_replies
use Rattle.signout_answer.proofs.parts.EndParts.TheSendSync as end_parts
use Rattle.signout_answer.proofs.questions.QuestionRow.TheSendSync as questions
use Rattle.rp_signout.specs.contracts.signout_core.SignoutCore as asked
use Rattle.sso_base.specs.contracts.history.Pair as pair
use Rattle.held_rows.specs.contracts.held.Held as rows
use Rattle.signout_answer.specs.contracts.asks.EndAsk as end_ask
use Rattle.signout_answer.specs.contracts.parts.OwnReply as ended_reply
use Rattle.signout_answer.specs.contracts.parts.EndParts as end_part
use Rattle.signout_answer.specs.contracts.questions.QuestionRow as question
use Rattle.signout_answer.specs.contracts.questions.QuestionRowRow.TheImpl as question_impl

pub ruleset parts = (chain.crosses, crosses, sendable)

-- ---- they go to other threads

pub journal_is_sent : (g : weighed.Ghosts op_ask.the_row.Denot) → IsSend (journal.the_row op_ask.the_row op_reply.the_row g)
journal_is_sent g = search (asks.the_send, replies.the_send, parts) depth 60 fits 20000

pub provider_is_sent : IsSend provider.the_row
provider_is_sent = search (registry.the_send, grants.the_send, journal_is_sent, sendable) depth 60 fits 20000

pub kept_is_sent : (K E : RattleType) → IsSend K → IsSend E → IsSend (kept.the_row K E)
kept_is_sent K E k e = search parts depth 60 fits 20000

pub keyed_is_sent : (P A R : RattleType) (g : provides.Ghosts P.Denot A.Denot R.Denot) (h : core.Ghosts P.Denot A.Denot R.Denot)
    → IsSend P → IsSend A → IsSend (keyed.the_row P A R g h)
keyed_is_sent P A R g h p a = search (kept_is_sent, held.the_send, replies.the_send, parts) depth 60 fits 20000

pub refreshed_is_sent : (P A R : RattleType) (g : provides.Ghosts P.Denot A.Denot R.Denot) (h : core.Ghosts P.Denot A.Denot R.Denot)
    → IsSend P → IsSend A → IsSend (refreshed.the_row P A R g h)
refreshed_is_sent P A R g h p a =
    search (registry.the_send, kept_is_sent, held.the_send, book.the_send, refresh_asks.the_send, refreshed_replies.the_send, parts) depth 60 fits 20000

pub kept_asked_is_sent : (A : RattleType) → IsSend A
    → IsSend (kept.the_row end_part.the_row (pair.the_row (end_ask.the_row A) ended_reply.the_row))
kept_asked_is_sent A a = search (kept_is_sent, end_parts.the_send, end_asks.the_send, ended_replies.the_send, parts) depth 60 fits 20000

pub questions_are_sent : IsSend (rows.the_row question.the_row question_impl.ghosts)
questions_are_sent = search (held.the_send, questions.the_send, parts) depth 60 fits 20000

pub asked_is_sent : (P A R : RattleType) (g : provides.Ghosts P.Denot A.Denot R.Denot) (h : core.Ghosts P.Denot A.Denot R.Denot)
    → IsSend P → IsSend A → IsSend (asked.the_row P A R g h)
asked_is_sent P A R g h p a =
    search (registry.the_send, returns.the_send, kept_asked_is_sent, questions_are_sent, sendable) depth 60 fits 20000

-- ---- threads share them

pub journal_is_shared : (g : weighed.Ghosts op_ask.the_row.Denot) → IsSync (journal.the_row op_ask.the_row op_reply.the_row g)
journal_is_shared g = search (asks.the_sync, replies.the_sync, parts) depth 60 fits 20000

pub provider_is_shared : IsSync provider.the_row
provider_is_shared = search (registry.the_sync, grants.the_sync, journal_is_shared, sendable) depth 60 fits 20000

pub kept_is_shared : (K E : RattleType) → IsSync K → IsSync E → IsSync (kept.the_row K E)
kept_is_shared K E k e = search parts depth 60 fits 20000

pub keyed_is_shared : (P A R : RattleType) (g : provides.Ghosts P.Denot A.Denot R.Denot) (h : core.Ghosts P.Denot A.Denot R.Denot)
    → IsSync P → IsSync A → IsSync (keyed.the_row P A R g h)
keyed_is_shared P A R g h p a = search (kept_is_shared, held.the_sync, replies.the_sync, parts) depth 60 fits 20000

pub refreshed_is_shared : (P A R : RattleType) (g : provides.Ghosts P.Denot A.Denot R.Denot) (h : core.Ghosts P.Denot A.Denot R.Denot)
    → IsSync P → IsSync A → IsSync (refreshed.the_row P A R g h)
refreshed_is_shared P A R g h p a =
    search (registry.the_sync, kept_is_shared, held.the_sync, book.the_sync, refresh_asks.the_sync, refreshed_replies.the_sync, parts) depth 60 fits 20000

pub kept_asked_is_shared : (A : RattleType) → IsSync A
    → IsSync (kept.the_row end_part.the_row (pair.the_row (end_ask.the_row A) ended_reply.the_row))
kept_asked_is_shared A a = search (kept_is_shared, end_parts.the_sync, end_asks.the_sync, ended_replies.the_sync, parts) depth 60 fits 20000

pub questions_are_shared : IsSync (rows.the_row question.the_row question_impl.ghosts)
questions_are_shared = search (held.the_sync, questions.the_sync, parts) depth 60 fits 20000

pub asked_is_shared : (P A R : RattleType) (g : provides.Ghosts P.Denot A.Denot R.Denot) (h : core.Ghosts P.Denot A.Denot R.Denot)
    → IsSync P → IsSync A → IsSync (asked.the_row P A R g h)
asked_is_shared P A R g h p a =
    search (registry.the_sync, returns.the_sync, kept_asked_is_shared, questions_are_shared, sendable) depth 60 fits 20000

-- ---- for the cores around others, one at a time

pub ruleset asking_sends = (asked_is_sent, end_asks.the_send, end_replies.the_send, parts)

pub ruleset asking_shares = (asked_is_shared, parts)

pub ruleset renewing_sends = (refreshed_is_sent, refresh_asks.the_send, refresh_replies.the_send, parts)

pub ruleset renewing_shares = (refreshed_is_shared, refresh_asks.the_sync, parts)

pub ruleset keyed_sends = (keyed_is_sent, provider_is_sent, keyed_asks.the_send, asks.the_send, keyed_replies.the_send, replies.the_send, parts)

pub ruleset keyed_shares = (keyed_is_shared, provider_is_shared, keyed_asks.the_sync, asks.the_sync, parts)
