use Rattle.std.proofs.Common.{refl}
use Rattle.op_exchange.specs.declared.reply.OpReply.TheVariants as reply
use Rattle.op_answer.specs.Causes.{LoginPageCause, ConsentPageCause, AnsweredCause, RefusedCause, ErrorPageCause, TokensCause, TokenRefusedCause}
use Rattle.op_answer.proofs.Standing.{own_replies_stand, standing_is_the_answer}
use Rattle.op_answer.proofs.Pages.{login_pages_have_a_cause, consent_pages_have_a_cause, error_pages_have_a_cause}
use Rattle.op_answer.proofs.Answers.{answers_have_a_cause}
use Rattle.op_answer.proofs.Refusals.{refusals_have_a_cause}
use Rattle.op_answer.proofs.TokenResponses.{tokens_have_a_cause, token_errors_have_a_cause}
use Rattle.op_answer.proofs.InfoResponses.{infos_have_a_cause, info_refusals_have_a_cause, caused_infos, caused_info_refusals}
use Rattle.op_answer.proofs.SignOuts.{sign_outs_have_a_cause, caused_sign_outs}
use Rattle.op_answer.proofs.Coming.{comes, came}
use Rattle.op_answer.proofs.Leading.{login_page_leads, consent_page_leads, answer_leads, refusal_leads, error_page_leads, tokens_lead, token_error_leads}
use Rattle.op_answer.proofs.law.replies_have_a_cause.Goals as goal

pub returns-clause-own : goal.returns-clause-own
returns-clause-own c = λ c past e r own. (own_replies_stand c past e r own, standing_is_the_answer c past e r)

pub returns-clause-login_pages : goal.returns-clause-login_pages
returns-clause-login_pages c = λ c past e w b again. (
  comes c past e (reply.LoginPage w b again) refl (LoginPageCause c past e e.ask w b again) (login_pages_have_a_cause c past e w b again),
  came c past e (reply.LoginPage w b again) (LoginPageCause c past e e.ask w b again) (login_page_leads c past e e.ask w b again),
)

pub returns-clause-consent_pages : goal.returns-clause-consent_pages
returns-clause-consent_pages c = λ c past e w b given client scopes. (
  comes c past e (reply.ConsentPage w b given client scopes) refl (ConsentPageCause c past e e.ask w b given client scopes) (consent_pages_have_a_cause c past e w b given client scopes),
  came c past e (reply.ConsentPage w b given client scopes) (ConsentPageCause c past e e.ask w b given client scopes) (consent_page_leads c past e e.ask w b given client scopes),
)

pub returns-clause-answers : goal.returns-clause-answers
returns-clause-answers c = λ c past e answer given. (
  comes c past e (reply.Answered answer given) refl (AnsweredCause c past e e.ask answer given) (answers_have_a_cause c past e answer given),
  came c past e (reply.Answered answer given) (AnsweredCause c past e e.ask answer given) (answer_leads c past e e.ask answer given),
)

pub returns-clause-refusals : goal.returns-clause-refusals
returns-clause-refusals c = λ c past e refusal given. (
  comes c past e (reply.Refused refusal given) refl (RefusedCause c past e e.ask refusal given) (refusals_have_a_cause c past e refusal given),
  came c past e (reply.Refused refusal given) (RefusedCause c past e e.ask refusal given) (refusal_leads c past e e.ask refusal given),
)

pub returns-clause-error_pages : goal.returns-clause-error_pages
returns-clause-error_pages c = λ c past e why. (
  comes c past e (reply.ErrorPage why) refl (ErrorPageCause past e e.ask why) (error_pages_have_a_cause c past e why),
  came c past e (reply.ErrorPage why) (ErrorPageCause past e e.ask why) (error_page_leads c past e e.ask why),
)

pub returns-clause-tokens : goal.returns-clause-tokens
returns-clause-tokens c = λ c past e access id. (
  comes c past e (reply.Tokens access id) refl (TokensCause c past e e.ask access id) (tokens_have_a_cause c past e access id),
  came c past e (reply.Tokens access id) (TokensCause c past e e.ask access id) (tokens_lead c past e e.ask access id),
)

pub returns-clause-token_errors : goal.returns-clause-token_errors
returns-clause-token_errors c = λ c past e code. (
  comes c past e (reply.TokenRefused code) refl (TokenRefusedCause past e e.ask code) (token_errors_have_a_cause c past e code),
  came c past e (reply.TokenRefused code) (TokenRefusedCause past e e.ask code) (token_error_leads c past e e.ask code),
)

pub returns-clause-infos : goal.returns-clause-infos
returns-clause-infos c = λ c past e claims. (infos_have_a_cause c past e claims, caused_infos c past e claims)

pub returns-clause-info_refusals : goal.returns-clause-info_refusals
returns-clause-info_refusals c = λ c past e given. (info_refusals_have_a_cause c past e given, caused_info_refusals c past e given)

pub returns-clause-sign_outs : goal.returns-clause-sign_outs
returns-clause-sign_outs c = λ c past e messages. (sign_outs_have_a_cause c past e messages, caused_sign_outs c past e messages)
