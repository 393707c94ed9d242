use Rattle.rp_response.proofs.ReplyLaws.{ask_sent_to, entered_sent_to, location_of_logins, status_of_logins}
use Rattle.rp_response.proofs.law.logins_send_the_user_agent_on.Goals as goal

pub returns-clause-ask : goal.returns-clause-ask
returns-clause-ask c = ask_sent_to

pub returns-clause-entered : goal.returns-clause-entered
returns-clause-entered c = entered_sent_to

pub returns-clause-location : goal.returns-clause-location
returns-clause-location c = location_of_logins

pub returns-clause-status : goal.returns-clause-status
returns-clause-status c = status_of_logins
