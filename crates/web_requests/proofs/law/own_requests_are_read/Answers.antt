use Rattle.web_requests.proofs.PostedForms.{sign_out_read, begin_read, visit_read, leave_read}
use Rattle.web_requests.proofs.law.own_requests_are_read.Goals as goal

pub returns-clause-begin : goal.returns-clause-begin
returns-clause-begin c = λ configuration n from jar r low. begin_read configuration from jar n r low

pub returns-clause-visit : goal.returns-clause-visit
returns-clause-visit c = λ configuration n from jar r low. visit_read configuration from jar n r low

pub returns-clause-leave : goal.returns-clause-leave
returns-clause-leave c = λ configuration n from jar r low. leave_read configuration from jar n r low

pub returns-clause-sign_out : goal.returns-clause-sign_out
returns-clause-sign_out c = sign_out_read
