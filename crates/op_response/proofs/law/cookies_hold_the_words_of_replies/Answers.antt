use Rattle.op_response.proofs.CookieLaws.{cookies_read, session_set_if_given, browser_set_if_given, cookies_taken}
use Rattle.op_response.proofs.law.cookies_hold_the_words_of_replies.Goals as goal

pub returns-clause-read : goal.returns-clause-read
returns-clause-read c = cookies_read

pub returns-clause-session : goal.returns-clause-session
returns-clause-session c = session_set_if_given

pub returns-clause-browser : goal.returns-clause-browser
returns-clause-browser c = browser_set_if_given

pub returns-clause-taken : goal.returns-clause-taken
returns-clause-taken c = cookies_taken
