-- Each authorization response is for a user who signed in and consented.
use Rattle.std.proofs.Common.{◌≡◌, ℕ, Bool, true, false, ◌||◌, List, ◌∷◌, Option, Some, None, option_map, option_and_then, refl, sym, ◌∙◌, ap, subst, inl, inr}
use Rattle.sso_base.specs.Words.{Word, is_word}
use Rattle.sso_base.proofs.RowLaws.{bytes_same}
use Rattle.held_rows.proofs.Found.{row_that_lives}
use Rattle.client_registry.specs.Configuration.{Configuration}
use Rattle.oidc_words.specs.Lives.{turn_life, session_life}
use Rattle.auth_request.specs.declared.wish.Wish.{Wish}
use Rattle.auth_request.specs.declared.wish.Verdict.TheVariants.{Grant}
use Rattle.auth_answer.specs.declared.answer.Answer.{Answer}
use Rattle.user_interaction.specs.Need.{needed_scopes}
use Rattle.user_interaction.proofs.Needing.{answered_is_answerable}
use Rattle.code_grant.specs.declared.rows.TurnRow.{TurnRow}
use Rattle.code_grant.specs.declared.rows.SessionRow.{SessionRow}
use Rattle.code_grant.specs.Rows.{turn_begun, session_begun}
use Rattle.op_exchange.specs.declared.ask.OpAsk.{OpAsk}
use Rattle.op_exchange.specs.declared.ask.OpAsk.TheVariants as ask
use Rattle.op_exchange.specs.declared.reply.OpReply.{OpReply}
use Rattle.op_exchange.specs.declared.reply.OpReply.TheVariants as op
use Rattle.op_exchange.specs.Replied.{code_in, access_in}
use Rattle.op_exchange.specs.Values.{IsOpAsk}
use Rattle.op_issue.specs.declared.issuing.Authentication.{Authentication}
use Rattle.op_issue.specs.Issued.{issued}
use Rattle.op_answer.specs.Past.{OpPair, OpPast}
use Rattle.op_answer.specs.Turns.{turn_of}
use Rattle.op_answer.specs.Sessions.{session_used, session_of, live_session}
use Rattle.op_answer.specs.Replies.{standing_of, is_turns, session_renewed, session_after}
use Rattle.op_answer.specs.Room.{lacks_turn, lacks_session, lacks_new_session, lacks_code, lacks_access}
use Rattle.op_answer.specs.Drawn.{SessionDrawn}
use Rattle.op_answer.specs.Causes.{AnsweredCause}
use Rattle.op_answer.specs.Answering.{op_answer}
use Rattle.op_answer.specs.Legal.{IsLegalOp}
use Rattle.op_answer.specs.OwnRows.{IsOwnWish}
use Rattle.op_answer.proofs.OwnRows.{turns_are_own}
use Rattle.op_answer.proofs.Standing.{own_replies_stand}
use Rattle.op_answer.proofs.Drawn.{sessions_are_drawn}
use Rattle.op_answer.proofs.Answers.{answers_have_a_cause}
use Rattle.authorization.specs.Consented.{HasConsent}
use Rattle.authorization.specs.Authorized.{Authorizes}
use Rattle.authorization.proofs.Consenting.{agreed_before, agreed_here}
use Rattle.authorization.proofs.Sessions.{session_word, Rests, rests, Left, left}

-- with other clients a session was begun as it was
drawn_so : (past : OpPast) (session : SessionRow) (clients : List Bool) → SessionDrawn past session → SessionDrawn past (record session { clients = clients })
drawn_so past session clients d =
    record {
      later = d.later;
      maker = d.maker;
      earlier = d.earlier;
      parts = d.parts;
      turn = d.turn;
      browser = d.browser;
      presented = d.presented;
      asked = d.asked;
      given = d.given;
      drawn = d.drawn;
      sid_drawn = d.sid_drawn;
    }

presented_word : (shown : Option Word) (v : Word) → is_word shown v ≡ true → shown ≡ Some v
presented_word None v h = cc
presented_word (Some w) v h = ap (λ (z : Word). Some z) (bytes_same w v h)

second_false : (a b c d : Bool) → (a || b || c || d) ≡ false → b ≡ false
second_false true b c d h = cc
second_false false true c d h = cc
second_false false false c d h = refl

-- an answer, and the session that stands after it
pub record AnswersIn (c : Configuration) (past : OpPast) (p : OpPair) (answer : Answer) : Type 0 where
  pub wish : Wish
  pub own_wish : IsOwnWish c wish
  pub session : SessionRow
  pub session_is : session_of (p ∷ past) (session_used past p.entry.ask p.reply) ≡ Some session
  pub authorizes : Authorizes c past p answer wish session

module _ (c : Configuration) (past : OpPast) (at : ℕ) (fresh : List Word) (sent : Answer) (given : Option Word) where
  abbrev answering : OpAsk → OpPair
  answering asked = record { entry = record { at = at; fresh = fresh; ask = asked }; reply = op.Answered sent given }

  -- the wish of a turn is one that a request gives
  own_turn : IsLegalOp c past → (turn : Option Word) (row : TurnRow) → turn_of past turn ≡ Some row → IsOwnWish c row.wish
  own_turn legal None row found = absurd (cc)
  own_turn legal (Some v) row found = (turns_are_own c past legal v row found).wish

  answers_by : (asked : OpAsk) → IsLegalOp c past → IsOpAsk asked → op_answer c past (answering asked).entry ≡ op.Answered sent given
      → AnsweredCause c past (answering asked).entry asked sent given → AnswersIn c past (answering asked) sent
  answers_by (ask.Authorize (Grant wish) browser shown) legal value told cause =
      let p : OpPair = answering (ask.Authorize (Grant wish) browser shown) in
      let word = session_word past at shown cause.session cause.live in
      let L : Option Word → Type 0 = λ o. live_session past at o ≡ Some cause.session in
      let N : Word → Type 0 = λ v. L (Some v) in
      let r : Rests past p word.0 cause.session = rests past p word.0 cause.session refl refl (subst L word.1 cause.live) in
      let S : Option Word → Type 0 = λ o. session_of (p ∷ past) o ≡ Some (record cause.session { clients = r.clients }) in
      let able = answered_is_answerable c wish (standing_of past wish false cause.session) at cause.enough in
      record {
        wish = wish;
        own_wish = record { prepared = (own_replies_stand c past p.entry p.reply refl told).prepared; value = value.0 };
        session = record cause.session { clients = r.clients };
        session_is = subst S (sym word.1) r.row_is;
        authorizes =
            record {
              given = given;
              replied = refl;
              wished = refl;
              signed_in =
                  inl
                  (record {
                    presents = word.1 ∙ ap (λ (v : Word). Some v) (sym r.word_is);
                    began = drawn_so past cause.session r.clients (sessions_are_drawn c past legal word.0 cause.session r.found);
                    row = cause.session;
                    live = subst N (sym r.word_is) (subst L word.1 cause.live);
                    same = refl;
                  });
              consented = agreed_before c p past wish false cause.session able.agreed;
              issued_so = cause.answer_is;
            };
      }
  answers_by (ask.Login turn (Some user) browser shown) legal value told cause =
      let p : OpPair = answering (ask.Login turn (Some user) browser shown) in
      let after : SessionRow = session_after past p.entry user shown in
      let w : Word = after.word in
      let renewed : Option SessionRow = session_renewed past at user shown in
      let N : Option Word → Bool = λ o. lacks_new_session past at renewed shown o in
      let room : lacks_session past at p.entry.ask p.reply ≡ false =
      second_false (lacks_turn past at p.entry.ask p.reply) (lacks_session past at p.entry.ask p.reply) (lacks_code past at (code_in p.reply)) (lacks_access past at (access_in p.reply))
      (own_replies_stand c past p.entry p.reply refl told).room in
      let l : Left past p w user after = left past p w user cause.given_is refl shown renewed refl refl (sym (ap N cause.given_is) ∙ room) in
      let stood : turn_of past turn ≡ Some cause.row = row_that_lives turn_life turn_begun at (turn_of past turn) cause.row cause.own.live in
      let S : Option Word → Type 0 = λ o. session_of (p ∷ past) o ≡ Some l.row in
      let able = answered_is_answerable c cause.row.wish (standing_of past cause.row.wish true after) at cause.enough in
      let H : ℕ → Type 0 = λ u. HasConsent c (p ∷ past) u cause.row.wish.client (needed_scopes cause.row.wish) in
      record {
        wish = cause.row.wish;
        own_wish = own_turn legal turn cause.row stood;
        session = l.row;
        session_is = subst S (sym cause.given_is) l.row_is;
        authorizes =
            record {
              given = given;
              replied = refl;
              wished = ap (λ (o : Option TurnRow). option_map (λ (row : TurnRow). row.wish) o) stood;
              signed_in =
                  inr
                  (record {
                    turn = turn;
                    browser = browser;
                    presented = shown;
                    asked = ap (λ (u : ℕ). ask.Login turn (Some u) browser shown) (sym l.user_is);
                    sets = cause.given_is ∙ ap (λ (v : Word). Some v) (sym l.word_is);
                    now = l.at_is;
                  });
              consented = subst H (sym (ap (λ (who : Authentication). who.user) l.same)) (agreed_before c p past cause.row.wish true after able.agreed);
              issued_so = ap (λ (who : Authentication). issued c cause.row.wish who at fresh) l.same ∙ cause.answer_is;
            };
      }
  answers_by (ask.Consent turn true browser shown) legal value told cause =
      let p : OpPair = answering (ask.Consent turn true browser shown) in
      let stood : turn_of past turn ≡ Some cause.row = row_that_lives turn_life turn_begun at (turn_of past turn) cause.row cause.own.own.live in
      let word = session_word past at cause.row.session cause.session cause.own.live in
      let T : Option Word → Type 0 = λ o. is_turns shown o ≡ true in
      let shows : shown ≡ Some word.0 = presented_word shown word.0 (subst T word.1 cause.own.same_session) in
      let L : Option Word → Type 0 = λ o. live_session past at o ≡ Some cause.session in
      let N : Word → Type 0 = λ v. L (Some v) in
      let r : Rests past p word.0 cause.session = rests past p word.0 cause.session refl refl (subst L word.1 cause.own.live) in
      let S : Option Word → Type 0 = λ o. session_of (p ∷ past) o ≡ Some (record cause.session { clients = r.clients }) in
      let used : session_used past p.entry.ask p.reply ≡ Some word.0 = ap (λ (o : Option TurnRow). option_and_then (λ (row : TurnRow). row.session) o) stood ∙ word.1 in
      let before : session_of past cause.row.session ≡ Some cause.session = row_that_lives session_life session_begun at (session_of past cause.row.session) cause.session cause.own.live in
      record {
        wish = cause.row.wish;
        own_wish = own_turn legal turn cause.row stood;
        session = record cause.session { clients = r.clients };
        session_is = subst S (sym used) r.row_is;
        authorizes =
            record {
              given = given;
              replied = refl;
              wished = ap (λ (o : Option TurnRow). option_map (λ (row : TurnRow). row.wish) o) stood;
              signed_in =
                  inl
                  (record {
                    presents = shows ∙ ap (λ (v : Word). Some v) (sym r.word_is);
                    began = drawn_so past cause.session r.clients (sessions_are_drawn c past legal word.0 cause.session r.found);
                    row = cause.session;
                    live = subst N (sym r.word_is) (subst L word.1 cause.own.live);
                    same = refl;
                  });
              consented = agreed_here c p past turn browser shown cause.row cause.session refl refl stood before;
              issued_so = cause.answer_is;
            };
      }
  answers_by asked legal value told cause = absurd cause

pub answers_in : (c : Configuration) (past : OpPast) (p : OpPair) (answer : Answer) (given : Option Word) → IsLegalOp c (p ∷ past) → p.reply ≡ op.Answered answer given → AnswersIn c past p answer
answers_in c past p answer given legal is =
    let told : op_answer c past p.entry ≡ op.Answered answer given = sym legal.3 ∙ is in
    let A : OpReply → Type 0 = λ r. AnswersIn c past (record { entry = p.entry; reply = r }) answer in
    subst A (sym is) (answers_by c past p.entry.at p.entry.fresh answer given p.entry.ask legal.0 legal.1.ask told (answers_have_a_cause c past p.entry answer given told))
