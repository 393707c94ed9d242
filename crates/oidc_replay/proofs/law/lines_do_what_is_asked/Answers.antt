use Rattle.oidc_replay.proofs.LinesDo.{follow_asks, follow_answers, login_fills, consent_agrees, carry_exchanges, carry_fetches, back_tokens, back_info}
use Rattle.oidc_replay.proofs.law.lines_do_what_is_asked.Goals as goal

pub returns-clause-follow_request : goal.returns-clause-follow_request
returns-clause-follow_request c = follow_asks

pub returns-clause-follow_response : goal.returns-clause-follow_response
returns-clause-follow_response c = follow_answers

pub returns-clause-login : goal.returns-clause-login
returns-clause-login c = login_fills

pub returns-clause-consent : goal.returns-clause-consent
returns-clause-consent c = consent_agrees

pub returns-clause-carry_tokens : goal.returns-clause-carry_tokens
returns-clause-carry_tokens c = carry_exchanges

pub returns-clause-carry_info : goal.returns-clause-carry_info
returns-clause-carry_info c = carry_fetches

pub returns-clause-back_tokens : goal.returns-clause-back_tokens
returns-clause-back_tokens c = back_tokens

pub returns-clause-back_info : goal.returns-clause-back_info
returns-clause-back_info c = back_info
