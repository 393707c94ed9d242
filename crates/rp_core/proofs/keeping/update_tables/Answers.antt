use Rattle.rp_core.proofs.TakenUp.{calls_keep, login_may, pending_may, visit_may, seen_may, dead_may, follows, names_somebody}
use Rattle.rp_core.proofs.keeping.update_tables.Goals as goal

pub keep_visits-requires : goal.keep_visits-requires
keep_visits-requires c =
    let up = c.requires.may.3 in
    names_somebody c.requires.may.0 c.requires.may.1 c.args.pair.now up.reply_is

pub add_login-requires : goal.add_login-requires
add_login-requires c =
    let past = c.requires.may.1 in
    let up = c.requires.may.3 in
    let kept = calls_keep past c.args.pair.now c.args.tables.now c.purge.new.self c.keep_logins.new.tables c.keep_pendings.new.tables c.keep_visits.new.tables c.purge.ensures (c.keep_logins.ensures past) (c.keep_pendings.ensures past) (c.keep_visits.ensures past) in
    record { may = login_may up kept c.requires.reserved }

pub add_pending-requires : goal.add_pending-requires
add_pending-requires c =
    let past = c.requires.may.1 in
    let up = c.requires.may.3 in
    let kept = calls_keep past c.args.pair.now c.args.tables.now c.purge.new.self c.keep_logins.new.tables c.keep_pendings.new.tables c.keep_visits.new.tables c.purge.ensures (c.keep_logins.ensures past) (c.keep_pendings.ensures past) (c.keep_visits.ensures past) in
    record { may = pending_may up kept c.requires.reserved c.add_login.ensures }

pub add_visit-requires : goal.add_visit-requires
add_visit-requires c =
    let past = c.requires.may.1 in
    let up = c.requires.may.3 in
    let kept = calls_keep past c.args.pair.now c.args.tables.now c.purge.new.self c.keep_logins.new.tables c.keep_pendings.new.tables c.keep_visits.new.tables c.purge.ensures (c.keep_logins.ensures past) (c.keep_pendings.ensures past) (c.keep_visits.ensures past) in
    record { may = visit_may up kept c.requires.reserved c.add_login.ensures c.add_pending.ensures }

pub add_seen-requires : goal.add_seen-requires
add_seen-requires c =
    let past = c.requires.may.1 in
    let up = c.requires.may.3 in
    let kept = calls_keep past c.args.pair.now c.args.tables.now c.purge.new.self c.keep_logins.new.tables c.keep_pendings.new.tables c.keep_visits.new.tables c.purge.ensures (c.keep_logins.ensures past) (c.keep_pendings.ensures past) (c.keep_visits.ensures past) in
    record { may = seen_may up kept c.requires.reserved c.add_login.ensures c.add_pending.ensures c.add_visit.ensures }

pub add_dead-requires : goal.add_dead-requires
add_dead-requires c =
    let past = c.requires.may.1 in
    let up = c.requires.may.3 in
    let kept = calls_keep past c.args.pair.now c.args.tables.now c.purge.new.self c.keep_logins.new.tables c.keep_pendings.new.tables c.keep_visits.new.tables c.purge.ensures (c.keep_logins.ensures past) (c.keep_pendings.ensures past) (c.keep_visits.ensures past) in
    record { may = dead_may up kept c.requires.reserved c.add_login.ensures c.add_pending.ensures c.add_visit.ensures c.add_seen.ensures }

pub returns : goal.returns
returns c = λ s past before up.
    let kept = calls_keep past c.args.pair.now c.args.tables.now c.purge.new.self c.keep_logins.new.tables c.keep_pendings.new.tables c.keep_visits.new.tables c.purge.ensures (c.keep_logins.ensures past) (c.keep_pendings.ensures past) (c.keep_visits.ensures past) in
    follows up kept c.requires.reserved c.add_login.ensures c.add_pending.ensures c.add_visit.ensures c.add_seen.ensures c.add_dead.new.tables c.add_dead.ensures
