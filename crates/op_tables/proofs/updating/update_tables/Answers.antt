use Rattle.op_tables.proofs.TakenUp.{calls_leave, agreement_is_found, turn_may, session_may, code_may, token_may, follows}
use Rattle.op_tables.proofs.updating.update_tables.Goals as goal

pub put_rows-requires-clause-turn : goal.put_rows-requires-clause-turn
put_rows-requires-clause-turn c =
    let up = c.requires.may.3 in
    let kept = calls_leave up c.purge.ensures c.grant_agreed.ensures.others c.keep_turns.ensures c.keep_sessions.ensures c.keep_codes.ensures in
    turn_may up kept c.requires.reserved c.requires.turn

pub put_rows-requires-clause-session : goal.put_rows-requires-clause-session
put_rows-requires-clause-session c =
    let up = c.requires.may.3 in
    let kept = calls_leave up c.purge.ensures c.grant_agreed.ensures.others c.keep_turns.ensures c.keep_sessions.ensures c.keep_codes.ensures in
    session_may up kept c.requires.reserved c.sessions_fit.ensures c.requires.session

pub put_rows-requires-clause-code : goal.put_rows-requires-clause-code
put_rows-requires-clause-code c =
    let up = c.requires.may.3 in
    let kept = calls_leave up c.purge.ensures c.grant_agreed.ensures.others c.keep_turns.ensures c.keep_sessions.ensures c.keep_codes.ensures in
    code_may up kept c.requires.reserved c.requires.code

pub put_rows-requires-clause-token : goal.put_rows-requires-clause-token
put_rows-requires-clause-token c =
    let up = c.requires.may.3 in
    let kept = calls_leave up c.purge.ensures c.grant_agreed.ensures.others c.keep_turns.ensures c.keep_sessions.ensures c.keep_codes.ensures in
    token_may up kept c.requires.reserved c.requires.token

pub returns : goal.returns
returns c = λ k past before up.
    let kept = calls_leave up c.purge.ensures c.grant_agreed.ensures.others c.keep_turns.ensures c.keep_sessions.ensures c.keep_codes.ensures in
    let finds = agreement_is_found up c.purge.ensures in
    follows up c.purge.ensures kept c.put_rows.ensures.turns c.put_rows.ensures.sessions c.put_rows.ensures.codes c.put_rows.ensures.tokens c.put_rows.ensures.consents (c.grant_agreed.ensures.granted past finds)
