use Rattle.rp_response.proofs.LineLaws.{ask_alike, session_alike, twice_alike, seen_alike, ended_sid_alike}
use Rattle.rp_response.proofs.law.lines_tell_no_words_and_no_values.Goals as goal

pub returns-clause-ask : goal.returns-clause-ask
returns-clause-ask c = ask_alike

pub returns-clause-session : goal.returns-clause-session
returns-clause-session c = session_alike

pub returns-clause-twice : goal.returns-clause-twice
returns-clause-twice c = twice_alike

pub returns-clause-seen : goal.returns-clause-seen
returns-clause-seen c = seen_alike

pub returns-clause-ended_sid : goal.returns-clause-ended_sid
returns-clause-ended_sid c = ended_sid_alike
