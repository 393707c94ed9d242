-- The rows that a pair makes whose reply is the provider's answer.
use Rattle.std.proofs.Common.{◌≡◌, ℕ, Bool, true, false, cond, Option, Some, None, option_and_then, Ok, Err, refl, sym, ◌∙◌, ap, subst}
use Rattle.sso_base.specs.Words.{Word}
use Rattle.sso_base.specs.declared.history.Entry.{Entry}
use Rattle.client_registry.specs.Configuration.{Configuration}
use Rattle.auth_request.specs.declared.wish.Verdict.TheVariants as verdict
use Rattle.auth_answer.specs.declared.answer.Answer.{Answer}
use Rattle.code_grant.specs.declared.rows.TurnRow.{TurnRow}
use Rattle.code_grant.specs.declared.rows.SessionRow.{SessionRow}
use Rattle.code_grant.specs.declared.rows.CodeRow.{CodeRow}
use Rattle.code_grant.specs.declared.rows.TokenRow.{TokenRow}
use Rattle.op_exchange.specs.declared.ask.OpAsk.{OpAsk}
use Rattle.op_exchange.specs.declared.ask.OpAsk.TheVariants as ask
use Rattle.op_exchange.specs.declared.reply.OpReply.{OpReply}
use Rattle.op_exchange.specs.declared.reply.OpReply.TheVariants as reply
use Rattle.op_exchange.specs.Asks.{is_prepared}
use Rattle.op_answer.specs.Past.{OpPair, OpPast}
use Rattle.op_answer.specs.Turns.{turn_started}
use Rattle.op_answer.specs.Sessions.{sessions, session_set, session_made_by, session_used, signed_user}
use Rattle.op_answer.specs.AccessTokens.{access_given}
use Rattle.op_answer.specs.Room.{unless_full}
use Rattle.op_answer.specs.Answering.{op_reply, op_answer}
use Rattle.op_answer.specs.Causes.{AnsweredCause}
use Rattle.op_answer.proofs.Answers.{answers_have_a_cause}
use Rattle.op_core.specs.Making.{client_found, session_put, code_put, access_put}
use Rattle.op_core.specs.Outcome.{used_found, MakesRows}
use Rattle.op_core.proofs.MadeSessions.{turn_stands, client_makes, session_makes}
use Rattle.op_core.proofs.MadeRows.{code_makes, access_makes}

-- ---- an ask that no request gives finds nothing, and makes no row

pub nothing_there : (c : Configuration) (past : OpPast) (e : Entry OpAsk) → is_prepared c e.ask ≡ false → op_answer c past e ≡ reply.NotHere
unfolding op_answer
nothing_there c past e h =
    let F : Bool → OpReply = λ b. cond b (unless_full past e (op_reply c past e e.ask)) reply.NotHere in
    ap F h

none_started : (at : ℕ) (asked : OpAsk) → turn_started at asked reply.NotHere ≡ None
none_started at (ask.Authorize (verdict.Grant wish) b session) = refl
none_started at (ask.Authorize (verdict.Page why) b session) = refl
none_started at (ask.Authorize (verdict.Refuse refusal) b session) = refl
none_started at other = refl

none_set : (asked : OpAsk) → session_set asked reply.NotHere ≡ None
none_set (ask.Login turn signed b presented) = refl
none_set other = refl

none_given : (past : OpPast) (p : OpPair) (asked : OpAsk) → access_given past p asked reply.NotHere ≡ None
none_given past p (ask.Token (Ok grant)) = refl
none_given past p (ask.Token (Err why)) = refl
none_given past p other = refl

brings_none : (past : OpPast) (e : Entry OpAsk) → MakesRows past (record { entry = e; reply = reply.NotHere }) None None None None None None
brings_none past e =
    let S : Option Word → Option SessionRow = λ w. session_made_by (sessions past) past (record { entry = e; reply = reply.NotHere }) w (signed_user e.ask) in
    record {
      turn_is = sym (none_started e.at e.ask);
      session_is = sym (ap S (none_set e.ask));
      code_is = refl;
      token_is = sym (none_given past (record { entry = e; reply = reply.NotHere }) e.ask);
      client_is = refl;
      used_is = λ n h. cc;
    }

pub brings_nothing : (c : Configuration) (past : OpPast) (e : Entry OpAsk) (told : OpReply) → is_prepared c e.ask ≡ false → told ≡ op_answer c past e
    → MakesRows past (record { entry = e; reply = told }) None None None None None None
brings_nothing c past e told unprepared is =
    let B : OpReply → Type 0 = λ r. MakesRows past (record { entry = e; reply = r }) None None None None None None in
    subst B (sym (is ∙ nothing_there c past e unprepared)) (brings_none past e)

-- ---- the session that was used, where a client was answered

module _ (c : Configuration) (past : OpPast) (e : Entry OpAsk) where
  used_same : (answer : Answer) (given : Option Word) (asked : OpAsk) → AnsweredCause c past e asked answer given
      → session_used past asked (reply.Answered answer given) ≡ used_found past e asked (reply.Answered answer given)
  used_same answer given (ask.Consent turn true b presented) h =
      let F : Option TurnRow → Option Word = λ o. option_and_then (λ (r : TurnRow). r.session) o in
      ap F (turn_stands c past e turn h.row h.own.own.live) ∙ sym (ap F h.own.own.live)
  used_same answer given (ask.Consent turn false b presented) h = absurd h
  used_same answer given other h = refl

  used_makes : (told : OpReply) → op_answer c past e ≡ told → (n : ℕ) → client_found past e told ≡ Some n → session_used past e.ask told ≡ used_found past e e.ask told
  used_makes (reply.Answered answer given) h n is = used_same answer given e.ask (answers_have_a_cause c past e answer given h)
  used_makes other h n is = cc

  -- ---- the rows that the answer makes

  pub brings_all : (told : OpReply) → told ≡ op_answer c past e
      → MakesRows past (record { entry = e; reply = told }) (turn_started e.at e.ask told) (session_put past e told) (code_put past e told) (access_put past e told) (used_found past e e.ask told) (client_found past e told)
  brings_all told is =
      record {
        turn_is = refl;
        session_is = sym (session_makes c past e told (sym is));
        code_is = sym (code_makes c past e told (sym is));
        token_is = sym (access_makes c past e told (sym is));
        client_is = client_makes c past e told (sym is);
        used_is = used_makes told (sym is);
      }

-- the same rows, session and client
pub brings_as : (past : OpPast) (p : OpPair) (t u : Option TurnRow) (s r : Option SessionRow) (c d : Option CodeRow) (k l : Option TokenRow) (v w : Option Word) (m n : Option ℕ)
    → t ≡ u → s ≡ r → c ≡ d → k ≡ l → v ≡ w → m ≡ n → MakesRows past p u r d l w n → MakesRows past p t s c k v m
brings_as past p t u s r c d k l v w m n h1 h2 h3 h4 h5 h6 rows =
    let T : Option TurnRow → Type 0 = λ x. MakesRows past p x r d l w n in
    let S : Option SessionRow → Type 0 = λ x. MakesRows past p t x d l w n in
    let C : Option CodeRow → Type 0 = λ x. MakesRows past p t s x l w n in
    let K : Option TokenRow → Type 0 = λ x. MakesRows past p t s c x w n in
    let U : Option Word → Type 0 = λ x. MakesRows past p t s c k x n in
    let N : Option ℕ → Type 0 = λ x. MakesRows past p t s c k v x in
    subst N (sym h6) (subst U (sym h5) (subst K (sym h4) (subst C (sym h3) (subst S (sym h2) (subst T (sym h1) rows)))))
