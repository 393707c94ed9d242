-- A session word is answered only to a login form with a right password.
use Rattle.std.proofs.Common.{◌≡◌, true, ◌∷◌, ◌++◌, Option, Some, refl, sym, ◌∙◌, ap}
use Rattle.sso_base.specs.Words.{Word, Text}
use Rattle.sso_base.specs.declared.history.Entry.{Entry}
use Rattle.client_registry.specs.Configuration.{Configuration}
use Rattle.oidc_words.specs.declared.scopes.Scopes.{Scopes}
use Rattle.oidc_words.specs.declared.errors.Refusal.{Refusal}
use Rattle.auth_request.specs.declared.wish.Verdict.TheVariants as verdict
use Rattle.auth_answer.specs.declared.answer.Answer.{Answer}
use Rattle.op_exchange.specs.declared.ask.OpAsk.{OpAsk}
use Rattle.op_exchange.specs.declared.ask.OpAsk.TheVariants as ask
use Rattle.op_exchange.specs.declared.reply.OpReply.{OpReply}
use Rattle.op_exchange.specs.declared.reply.OpReply.TheVariants as reply
use Rattle.sso_base.proofs.Histories.{legal_reply}
use Rattle.op_exchange.specs.Values.{IsOpAsk}
use Rattle.op_answer.specs.Past.{OpPair, OpPast}
use Rattle.op_answer.specs.Answering.{op_answer}
use Rattle.op_answer.specs.Causes.{ConsentPageCause, AnsweredCause, RefusedCause}
use Rattle.op_answer.specs.Legal.{IsLegalOp, PassedPassword}
use Rattle.op_exchange.specs.Replied.{session_given}
use Rattle.op_answer.proofs.Pages.{consent_pages_have_a_cause}
use Rattle.op_answer.proofs.Answers.{answers_have_a_cause}
use Rattle.op_answer.proofs.Refusals.{refusals_have_a_cause}

module _ (c : Configuration) (past : OpPast) (e : Entry OpAsk) (w : Word) where
  by_consent_page : (asked : OpAsk) → e.ask ≡ asked → (v b : Word) (client : Text) (scopes : Scopes) → ConsentPageCause c past e asked v b (Some w) client scopes → PassedPassword past e w
  by_consent_page (ask.Authorize (verdict.Grant wish) browser presented) is v b client scopes h = let none = h.none_given in cc
  by_consent_page (ask.Login turn (Some user) browser presented) is v b client scopes h =
      let given = h.given_is in
      record { turn = turn; user = user; browser = browser; presented = presented; asked = is; row = h.row; own = h.own; word_is = cc }
  by_consent_page other is v b client scopes h = absurd h

  by_answer : (asked : OpAsk) → e.ask ≡ asked → (answer : Answer) → AnsweredCause c past e asked answer (Some w) → PassedPassword past e w
  by_answer (ask.Authorize (verdict.Grant wish) browser presented) is answer h = let none = h.none_given in cc
  by_answer (ask.Login turn (Some user) browser presented) is answer h =
      let given = h.given_is in
      record { turn = turn; user = user; browser = browser; presented = presented; asked = is; row = h.row; own = h.own; word_is = cc }
  by_answer (ask.Consent turn true browser presented) is answer h = let none = h.none_given in cc
  by_answer other is answer h = absurd h

  by_refusal : (asked : OpAsk) → e.ask ≡ asked → (refusal : Refusal) → RefusedCause c past e asked refusal (Some w) → PassedPassword past e w
  by_refusal (ask.Authorize (verdict.Refuse judged) browser presented) is refusal h = let none = h.1 in cc
  by_refusal (ask.Authorize (verdict.Grant wish) browser presented) is refusal h = let none = h.none_given in cc
  by_refusal (ask.Login turn (Some user) browser presented) is refusal h =
      let given = h.given_is in
      record { turn = turn; user = user; browser = browser; presented = presented; asked = is; row = h.row; own = h.own; word_is = cc }
  by_refusal (ask.Consent turn agree browser presented) is refusal h = let none = h.none_given in cc
  by_refusal other is refusal h = absurd h

  by_reply : (told : OpReply) → op_answer c past e ≡ told → session_given told ≡ Some w → PassedPassword past e w
  by_reply (reply.ConsentPage v b given client scopes) h is =
      let R : Option Word → OpReply = λ x. reply.ConsentPage v b x client scopes in
      by_consent_page e.ask refl v b client scopes (consent_pages_have_a_cause c past e v b (Some w) client scopes (h ∙ ap R is))
  by_reply (reply.Answered answer given) h is =
      let R : Option Word → OpReply = λ x. reply.Answered answer x in
      by_answer e.ask refl answer (answers_have_a_cause c past e answer (Some w) (h ∙ ap R is))
  by_reply (reply.Refused refusal given) h is =
      let R : Option Word → OpReply = λ x. reply.Refused refusal x in
      by_refusal e.ask refl refusal (refusals_have_a_cause c past e refusal (Some w) (h ∙ ap R is))
  by_reply other h is = cc

pub session_words_need_a_password : (c : Configuration) (later earlier : OpPast) (p : OpPair) (w : Word) → IsLegalOp c (later ++ p ∷ earlier) → session_given p.reply ≡ Some w
    → PassedPassword earlier p.entry w
session_words_need_a_password c later earlier p w legal given = by_reply c earlier p.entry w p.reply (sym (legal_reply IsOpAsk (op_answer c) later earlier p legal)) given
