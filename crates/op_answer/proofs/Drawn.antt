-- The words of the rows that stand after a legal past are drawn words of the one pair that made each.
use Rattle.std.proofs.Common.{◌≡◌, ℕ, Bool, false, ◌∷◌, ◌++◌, [], length, Option, Some, None, Ok, refl, sym, ◌∙◌, ap, subst, inl, inr}
use Rattle.sso_base.specs.Words.{Word, Text, fresh_word, word_of_text}
use Rattle.sso_base.specs.Rows.{row_of}
use Rattle.sso_base.specs.declared.history.Entry.{Entry}
use Rattle.held_rows.proofs.Found.{row_that_lives}
use Rattle.client_registry.specs.Configuration.{Configuration}
use Rattle.oidc_words.specs.declared.scopes.Scopes.{Scopes}
use Rattle.auth_request.specs.declared.wish.Wish.{Wish}
use Rattle.auth_request.specs.declared.wish.Verdict.TheVariants as verdict
use Rattle.auth_answer.specs.declared.answer.Answer.{Answer}
use Rattle.token_endpoint.specs.declared.granting.Grant.{Grant}
use Rattle.code_grant.specs.declared.rows.TurnRow.{TurnRow}
use Rattle.code_grant.specs.declared.rows.SessionRow.{SessionRow}
use Rattle.code_grant.specs.declared.rows.CodeRow.{CodeRow}
use Rattle.code_grant.specs.declared.rows.TokenRow.{TokenRow}
use Rattle.code_grant.specs.Rows.{turn_name, session_name, session_begun, code_name, code_begun, access_name}
use Rattle.oidc_words.specs.Lives.{session_life, code_life}
use Rattle.op_exchange.specs.declared.ask.OpAsk.{OpAsk}
use Rattle.op_exchange.specs.declared.ask.OpAsk.TheVariants as ask
use Rattle.op_exchange.specs.declared.reply.OpReply.{OpReply}
use Rattle.op_exchange.specs.declared.reply.OpReply.TheVariants as reply
use Rattle.op_exchange.specs.Replied.{session_given, code_in}
use Rattle.op_answer.specs.Past.{OpPair, OpPast}
use Rattle.op_answer.specs.Turns.{BeginsTurn, turns, turn_started, turn_made, turn_kept}
use Rattle.op_answer.specs.Sessions.{sessions, session_set, signed_user, wish_by, session_used, session_by, live_in, session_made_by, session_made, session_kept, session_of}
use Rattle.op_answer.specs.Codes.{codes_issued, code_issued, code_made_by, code_made, code_kept, code_of, held_code}
use Rattle.op_answer.specs.AccessTokens.{accesses, access_issued, access_answered, access_redeemed, access_given, access_made, access_kept}
use Rattle.op_answer.specs.Answering.{op_answer}
use Rattle.op_answer.specs.Causes.{LoginPageCause, ConsentPageCause, TokensForCode, TokensCause}
use Rattle.op_answer.specs.Legal.{IsLegalOp, PassedPassword}
use Rattle.op_answer.specs.Drawn.{TurnDrawn, SessionDrawn, AnswerAbout, CodeDrawn, AccessDrawn}
use Rattle.op_answer.proofs.KeptNames.{some_same, turn_names, session_names, code_names, access_names}
use Rattle.op_answer.proofs.KeptRows.{turn_wish_kept, turn_begun_kept, session_keeps, code_keeps, access_keeps}
use Rattle.op_answer.proofs.Pages.{login_pages_have_a_cause, consent_pages_have_a_cause}
use Rattle.op_answer.proofs.Answers.{answers_have_a_cause}
use Rattle.op_answer.proofs.TokenResponses.{tokens_have_a_cause}
use Rattle.op_answer.proofs.FullTables.{code_drawn, access_drawn}
use Rattle.op_answer.proofs.Passwords.{session_words_need_a_password}
use Rattle.op_answer.proofs.Renewals.{new_is_drawn}
use Rattle.op_answer.proofs.EachRow.{each_row}

-- one more pair stands before those that are later
longer : (p : OpPair) (past later earlier : OpPast) (maker : OpPair) → past ≡ later ++ maker ∷ earlier → p ∷ past ≡ (p ∷ later) ++ maker ∷ earlier
longer p past later earlier maker parts = let P : OpPast → OpPast = λ q. p ∷ q in ap P parts

-- what a pair says of a turn, by its ask and its reply
shown_by : (asked a : OpAsk) (told r : OpReply) (w : Word) → asked ≡ a → told ≡ r → BeginsTurn a r w → BeginsTurn asked told w
shown_by asked a told r w is said begins =
    let A : OpAsk → Type 0 = λ x. BeginsTurn x r w in
    let R : OpReply → Type 0 = λ x. BeginsTurn asked x w in
    subst R (sym said) (subst A (sym is) begins)

module _ (c : Configuration) where
  replied : (past : OpPast) (p : OpPair) (told : OpReply) → IsLegalOp c (p ∷ past) → p.reply ≡ told → op_answer c past p.entry ≡ told
  replied past p told legal is = sym legal.3 ∙ is

  -- ---- turns

  login_page_word : (past : OpPast) (e : Entry OpAsk) (wish : Wish) (b presented : Option Word) (w v : Word) (again : Bool) (asked : OpAsk) → asked ≡ ask.Authorize (verdict.Grant wish) b presented
      → LoginPageCause c past e asked w v again → w ≡ fresh_word e.fresh 1
  login_page_word past e wish b presented w v again asked is cause =
      let C : OpAsk → Type 0 = λ a. LoginPageCause c past e a w v again in
      let new : C (ask.Authorize (verdict.Grant wish) b presented) = subst C is cause in sym new.drawn

  consent_page_word : (past : OpPast) (e : Entry OpAsk) (wish : Wish) (b presented : Option Word) (w v : Word) (given : Option Word) (client : Text) (scopes : Scopes) (asked : OpAsk)
      → asked ≡ ask.Authorize (verdict.Grant wish) b presented → ConsentPageCause c past e asked w v given client scopes → w ≡ fresh_word e.fresh 1
  consent_page_word past e wish b presented w v given client scopes asked is cause =
      let C : OpAsk → Type 0 = λ a. ConsentPageCause c past e a w v given client scopes in
      let new : C (ask.Authorize (verdict.Grant wish) b presented) = subst C is cause in sym new.drawn

  turn_begins : (past : OpPast) (p : OpPair) (row : TurnRow) → IsLegalOp c (p ∷ past) → (asked : OpAsk) (told : OpReply) → p.entry.ask ≡ asked → p.reply ≡ told
      → turn_started p.entry.at asked told ≡ Some row → TurnDrawn (p ∷ past) row
  turn_begins past p row legal (ask.Authorize (verdict.Grant wish) b session) (reply.LoginPage w v again) is told h =
      let made : TurnRow = record { word = w; browser = v; wish = wish; session = None; in_turn = false; begun = p.entry.at } in
      let D : TurnRow → Type 0 = λ r. TurnDrawn (p ∷ past) r in
      let word_is = login_page_word past p.entry wish b session w v again p.entry.ask is (login_pages_have_a_cause c past p.entry w v again (replied past p (reply.LoginPage w v again) legal told)) in
      let shown = shown_by p.entry.ask (ask.Authorize (verdict.Grant wish) b session) p.reply (reply.LoginPage w v again) w is told refl in
      subst D (some_same made row h)
      (record { later = []; maker = p; earlier = past; parts = refl; browser = b; presented = session; asked = is; shown = shown; drawn = word_is; begun_then = refl })
  turn_begins past p row legal (ask.Authorize (verdict.Grant wish) b session) (reply.ConsentPage w v given client scopes) is told h =
      let made : TurnRow = record { word = w; browser = v; wish = wish; session = session; in_turn = false; begun = p.entry.at } in
      let D : TurnRow → Type 0 = λ r. TurnDrawn (p ∷ past) r in
      let word_is =
      consent_page_word past p.entry wish b session w v given client scopes p.entry.ask is
      (consent_pages_have_a_cause c past p.entry w v given client scopes (replied past p (reply.ConsentPage w v given client scopes) legal told)) in
      let shown = shown_by p.entry.ask (ask.Authorize (verdict.Grant wish) b session) p.reply (reply.ConsentPage w v given client scopes) w is told refl in
      subst D (some_same made row h)
      (record { later = []; maker = p; earlier = past; parts = refl; browser = b; presented = session; asked = is; shown = shown; drawn = word_is; begun_then = refl })
  turn_begins past p row legal asked told is come h = cc

  turn_stays : (past : OpPast) (p : OpPair) (before row : TurnRow) → IsLegalOp c (p ∷ past) → TurnDrawn past before → turn_kept past p before ≡ Some row → TurnDrawn (p ∷ past) row
  turn_stays past p before row legal d h =
      let A : Wish → OpAsk = λ w. ask.Authorize (verdict.Grant w) d.browser d.presented in
      let S : Word → Type 0 = λ v. BeginsTurn d.maker.entry.ask d.maker.reply v in
      record {
        later = p ∷ d.later;
        maker = d.maker;
        earlier = d.earlier;
        parts = longer p past d.later d.earlier d.maker d.parts;
        browser = d.browser;
        presented = d.presented;
        asked = d.asked ∙ ap A (sym (turn_wish_kept past p before row h));
        shown = subst S (sym (turn_names past p before row h)) d.shown;
        drawn = turn_names past p before row h ∙ d.drawn;
        begun_then = turn_begun_kept past p before row h ∙ d.begun_then;
      }

  pub turns_are_drawn : (past : OpPast) → IsLegalOp c past → (w : Word) (row : TurnRow) → row_of turn_name w (turns past) ≡ Some row → TurnDrawn past row
  turns_are_drawn past legal w row h =
      each_row turn_name turn_made turn_kept turn_names c TurnDrawn (λ q p r l all made. turn_begins q p r l p.entry.ask p.reply refl refl made) turn_stays past legal w row h

  -- ---- sessions

  set_is_given : (asked : OpAsk) (told : OpReply) (w : Word) → session_set asked told ≡ Some w → session_given told ≡ Some w
  set_is_given (ask.Login turn signed browser presented) told w h = h
  set_is_given asked told w h = cc

  same_user : (asked : OpAsk) (turn browser presented : Option Word) (user signed : ℕ) → asked ≡ ask.Login turn (Some user) browser presented → signed_user asked ≡ Some signed → user ≡ signed
  same_user asked turn browser presented user signed is h =
      let U : OpAsk → Option ℕ = λ a. signed_user a in
      some_same user signed (sym (ap U is) ∙ h)

  session_renews : (past : OpPast) (p : OpPair) → (w : Word) (user : ℕ) (before : SessionRow) → SessionDrawn past before → SessionDrawn (p ∷ past) (session_by past p (Some before) w user)
  session_renews past p w user before d =
      record {
        later = p ∷ d.later;
        maker = d.maker;
        earlier = d.earlier;
        parts = longer p past d.later d.earlier d.maker d.parts;
        turn = d.turn;
        browser = d.browser;
        presented = d.presented;
        asked = d.asked;
        given = d.given;
        drawn = d.drawn;
        sid_drawn = d.sid_drawn;
      }

  session_is_new : (past : OpPast) (p : OpPair) (w : Word) (user : ℕ) → session_given p.reply ≡ Some w → signed_user p.entry.ask ≡ Some user → live_in p.entry.at w (sessions past) ≡ None
      → PassedPassword past p.entry w → SessionDrawn (p ∷ past) (session_by past p None w user)
  session_is_new past p w user given signed none passed =
      let same : passed.user ≡ user = same_user p.entry.ask passed.turn passed.browser passed.presented passed.user user passed.asked signed in
      let A : ℕ → OpAsk = λ n. ask.Login passed.turn (Some n) passed.browser passed.presented in
      record {
        later = [];
        maker = p;
        earlier = past;
        parts = refl;
        turn = passed.turn;
        browser = passed.browser;
        presented = passed.presented;
        asked = passed.asked ∙ ap A same;
        given = given;
        drawn = new_is_drawn past p.entry.at p.entry passed.user passed.presented w passed.word_is none;
        sid_drawn = refl;
      }

  session_begins_by : (past : OpPast) (p : OpPair) → IsLegalOp c (p ∷ past) → ((w : Word) (row : SessionRow) → row_of session_name w (sessions past) ≡ Some row → SessionDrawn past row)
      → (w : Word) (user : ℕ) → session_given p.reply ≡ Some w → signed_user p.entry.ask ≡ Some user → (found : Option SessionRow) → live_in p.entry.at w (sessions past) ≡ found
      → SessionDrawn (p ∷ past) (session_by past p found w user)
  session_begins_by past p legal all w user given signed (Some before) live =
      session_renews past p w user before (all w before (row_that_lives session_life session_begun p.entry.at (row_of session_name w (sessions past)) before live))
  session_begins_by past p legal all w user given signed None none =
      session_is_new past p w user given signed none (session_words_need_a_password c [] past p w legal given)

  session_begins : (past : OpPast) (p : OpPair) (row : SessionRow) → IsLegalOp c (p ∷ past) → ((w : Word) (r : SessionRow) → row_of session_name w (sessions past) ≡ Some r → SessionDrawn past r)
      → (w : Option Word) (user : Option ℕ) → session_set p.entry.ask p.reply ≡ w → signed_user p.entry.ask ≡ user → session_made_by (sessions past) past p w user ≡ Some row → SessionDrawn (p ∷ past) row
  session_begins past p row legal all (Some w) (Some user) set signed h =
      let held : Option SessionRow = live_in p.entry.at w (sessions past) in
      let D : SessionRow → Type 0 = λ r. SessionDrawn (p ∷ past) r in
      subst D (some_same (session_by past p held w user) row h) (session_begins_by past p legal all w user (set_is_given p.entry.ask p.reply w set) signed held refl)
  session_begins past p row legal all (Some w) None set signed h = cc
  session_begins past p row legal all None user set signed h = cc

  session_stays : (past : OpPast) (p : OpPair) (before row : SessionRow) → IsLegalOp c (p ∷ past) → SessionDrawn past before → session_kept past p before ≡ Some row → SessionDrawn (p ∷ past) row
  session_stays past p before row legal d h =
      let same_user : row.user ≡ before.user = session_keeps (λ (r : SessionRow). r.user) (λ r clients. refl) past p before row h in
      let same_sid : row.sid ≡ before.sid = session_keeps (λ (r : SessionRow). r.sid) (λ r clients. refl) past p before row h in
      let same_word : row.word ≡ before.word = session_names past p before row h in
      let A : ℕ → OpAsk = λ n. ask.Login d.turn (Some n) d.browser d.presented in
      let S : Word → Option Word = λ v. Some v in
      record {
        later = p ∷ d.later;
        maker = d.maker;
        earlier = d.earlier;
        parts = longer p past d.later d.earlier d.maker d.parts;
        turn = d.turn;
        browser = d.browser;
        presented = d.presented;
        asked = d.asked ∙ ap A (sym same_user);
        given = d.given ∙ ap S (sym same_word);
        drawn = same_word ∙ d.drawn;
        sid_drawn = same_sid ∙ d.sid_drawn;
      }

  pub sessions_are_drawn : (past : OpPast) → IsLegalOp c past → (w : Word) (row : SessionRow) → row_of session_name w (sessions past) ≡ Some row → SessionDrawn past row
  sessions_are_drawn past legal w row h =
      each_row session_name session_made session_kept session_names c SessionDrawn
      (λ q p r l all made. session_begins q p r l all (session_set p.entry.ask p.reply) (signed_user p.entry.ask) refl refl made) session_stays past legal w row h

  -- ---- codes

  code_begins : (past : OpPast) (p : OpPair) (row : CodeRow) → IsLegalOp c (p ∷ past) → (told : OpReply) → p.reply ≡ told → (w : Option Word) (wish : Option Wish) (session : Option SessionRow) → code_in told ≡ w
      → wish_by past p.entry.ask ≡ wish → session_of (p ∷ past) (session_used past p.entry.ask p.reply) ≡ session → code_made_by (length past) p.entry.at w wish session ≡ Some row → CodeDrawn (p ∷ past) row
  code_begins past p row legal (reply.Answered answer given) told (Some w) (Some wish) (Some session) is wish_is session_is h =
      let D : CodeRow → Type 0 = λ r. CodeDrawn (p ∷ past) r in
      let cause = answers_have_a_cause c past p.entry answer given (replied past p (reply.Answered answer given) legal told) in
      subst D (some_same (code_issued (length past) p.entry.at w wish session) row h)
      (record {
        later = [];
        maker = p;
        earlier = past;
        parts = refl;
        answer = answer;
        given = given;
        replied = told;
        code_is = is;
        drawn = sym (code_drawn c past p.entry p.entry.ask answer given w cause is);
        session = session;
        about = record { wish_is = wish_is; session_is = session_is };
        user_is = refl;
        sid_is = refl;
        auth_time_is = refl;
        issued_then = refl;
        place = refl;
      })
  code_begins past p row legal (reply.Answered answer given) told (Some w) (Some wish) None is wish_is session_is h = cc
  code_begins past p row legal (reply.Answered answer given) told (Some w) None session is wish_is session_is h = cc
  code_begins past p row legal (reply.Answered answer given) told None wish session is wish_is session_is h = cc
  code_begins past p row legal other told (Some w) wish session is wish_is session_is h = cc
  code_begins past p row legal other told None wish session is wish_is session_is h = cc

  code_stays : (past : OpPast) (p : OpPair) (before row : CodeRow) → IsLegalOp c (p ∷ past) → CodeDrawn past before → code_kept past p before ≡ Some row → CodeDrawn (p ∷ past) row
  code_stays past p before row legal d h =
      let same_word : row.word ≡ before.word = code_names past p before row h in
      let S : Word → Option Word = λ v. Some v in
      let W : CodeRow → Wish = λ r. r.wish in
      let U : CodeRow → ℕ = λ r. r.user in
      let N : CodeRow → Word = λ r. r.sid in
      let T : CodeRow → ℕ = λ r. r.auth_time in
      let I : CodeRow → ℕ = λ r. r.issued in
      let B : CodeRow → ℕ = λ r. r.by in
      let A : Wish → Type 0 = λ w. AnswerAbout d.earlier d.maker w d.session in
      record {
        later = p ∷ d.later;
        maker = d.maker;
        earlier = d.earlier;
        parts = longer p past d.later d.earlier d.maker d.parts;
        answer = d.answer;
        given = d.given;
        replied = d.replied;
        code_is = d.code_is ∙ ap S (sym same_word);
        drawn = same_word ∙ d.drawn;
        session = d.session;
        about = subst A (sym (code_keeps W (λ r spent. refl) past p before row h)) d.about;
        user_is = code_keeps U (λ r spent. refl) past p before row h ∙ d.user_is;
        sid_is = code_keeps N (λ r spent. refl) past p before row h ∙ d.sid_is;
        auth_time_is = code_keeps T (λ r spent. refl) past p before row h ∙ d.auth_time_is;
        issued_then = code_keeps I (λ r spent. refl) past p before row h ∙ d.issued_then;
        place = code_keeps B (λ r spent. refl) past p before row h ∙ d.place;
      }

  pub codes_are_drawn : (past : OpPast) → IsLegalOp c past → (w : Word) (row : CodeRow) → row_of code_name w (codes_issued past) ≡ Some row → CodeDrawn past row
  codes_are_drawn past legal w row h =
      each_row code_name code_made code_kept code_names c CodeDrawn
      (λ q p r l all made. code_begins q p r l p.reply refl (code_in p.reply) (wish_by q p.entry.ask) (session_of (p ∷ q) (session_used q p.entry.ask p.reply)) refl refl refl made) code_stays past legal w row h

  -- ---- access tokens

  -- the code that is redeemed, and the one that is held
  same_code : (past : OpPast) (at : ℕ) (named : Option Word) (code found : CodeRow) → code_of past named ≡ Some code → held_code past at named ≡ Some found → found ≡ code
  same_code past at named code found is held = some_same found code (sym (row_that_lives code_life code_begun at (code_of past named) found held) ∙ is)

  redeemed_for : (past : OpPast) (e : Entry OpAsk) (grant : Grant) (w : Word) (id : Text) → e.ask ≡ ask.Token (Ok grant) → op_answer c past e ≡ reply.Tokens w id → TokensForCode c past e grant w id
  redeemed_for past e grant w id is answered = let C : OpAsk → Type 0 = λ a. TokensCause c past e a w id in subst C is (tokens_have_a_cause c past e w id answered)

  token_redeemed : (past : OpPast) (p : OpPair) (row : TokenRow) → IsLegalOp c (p ∷ past) → (grant : Grant) (w : Word) (id : Text) → p.entry.ask ≡ ask.Token (Ok grant) → p.reply ≡ reply.Tokens w id
      → (found : Option CodeRow) → code_of past (word_of_text grant.code) ≡ found → access_redeemed (length past) p.entry.at w found ≡ Some row → AccessDrawn (p ∷ past) row
  token_redeemed past p row legal grant w id is told (Some code) found h =
      let D : TokenRow → Type 0 = λ r. AccessDrawn (p ∷ past) r in
      let cause = redeemed_for past p.entry grant w id is (replied past p (reply.Tokens w id) legal told) in
      let same : cause.code ≡ code = same_code past p.entry.at (word_of_text grant.code) code cause.code found cause.held in
      let H : CodeRow → Type 0 = λ r. held_code past p.entry.at (word_of_text grant.code) ≡ Some r in
      let K : CodeRow → Type 0 = λ r. r.wish.client ≡ grant.client in
      subst D (some_same (access_issued (length past) p.entry.at w (Some code.word) code.wish code.user) row h)
      (record {
        later = [];
        maker = p;
        earlier = past;
        parts = refl;
        came =
            inr (record {
              grant = grant;
              asked = is;
              code = code;
              held = subst H same cause.held;
              own_client = subst K same cause.own_client;
              of_wish = record { client_is = refl; user_is = refl; scopes_are = refl; asked_are = refl };
              of_code = refl;
              id = id;
              replied = told;
              drawn = sym cause.drawn;
            });
        issued_then = refl;
        place = refl;
      })
  token_redeemed past p row legal grant w id is told None found h = cc

  token_answered : (past : OpPast) (p : OpPair) (row : TokenRow) → IsLegalOp c (p ∷ past) → (answer : Answer) (given : Option Word) → p.reply ≡ reply.Answered answer given → (w : Option Word) → answer.access ≡ w
      → (wish : Option Wish) (session : Option SessionRow) → wish_by past p.entry.ask ≡ wish → session_of (p ∷ past) (session_used past p.entry.ask p.reply) ≡ session
      → access_answered (length past) p.entry.at w wish session ≡ Some row → AccessDrawn (p ∷ past) row
  token_answered past p row legal answer given told (Some w) is (Some wish) (Some session) wish_is session_is h =
      let D : TokenRow → Type 0 = λ r. AccessDrawn (p ∷ past) r in
      let cause = answers_have_a_cause c past p.entry answer given (replied past p (reply.Answered answer given) legal told) in
      subst D (some_same (access_issued (length past) p.entry.at w None wish session.user) row h)
      (record {
        later = [];
        maker = p;
        earlier = past;
        parts = refl;
        came =
            inl (record {
              answer = answer;
              given = given;
              replied = told;
              access_is = is;
              wish = wish;
              session = session;
              about = record { wish_is = wish_is; session_is = session_is };
              of_wish = record { client_is = refl; user_is = refl; scopes_are = refl; asked_are = refl };
              of_no_code = refl;
              drawn = sym (access_drawn c past p.entry p.entry.ask answer given w cause is);
            });
        issued_then = refl;
        place = refl;
      })
  token_answered past p row legal answer given told (Some w) is (Some wish) None wish_is session_is h = cc
  token_answered past p row legal answer given told (Some w) is None session wish_is session_is h = cc
  token_answered past p row legal answer given told None is wish session wish_is session_is h = cc

  -- the session that an answer is about, by the pair's ask and reply
  session_about : (past : OpPast) (p : OpPair) (asked : OpAsk) (told : OpReply) → p.entry.ask ≡ asked → p.reply ≡ told
      → session_of (p ∷ past) (session_used past p.entry.ask p.reply) ≡ session_of (p ∷ past) (session_used past asked told)
  session_about past p asked told is said =
      let A : OpAsk → Option SessionRow = λ a. session_of (p ∷ past) (session_used past a p.reply) in
      let R : OpReply → Option SessionRow = λ r. session_of (p ∷ past) (session_used past asked r) in
      ap A is ∙ ap R said

  token_begins : (past : OpPast) (p : OpPair) (row : TokenRow) → IsLegalOp c (p ∷ past) → (asked : OpAsk) (told : OpReply) → p.entry.ask ≡ asked → p.reply ≡ told → access_given past p asked told ≡ Some row → AccessDrawn (p ∷ past) row
  token_begins past p row legal (ask.Token (Ok grant)) (reply.Tokens w id) is told h = token_redeemed past p row legal grant w id is told (code_of past (word_of_text grant.code)) refl h
  token_begins past p row legal asked (reply.Answered answer given) is told h =
      let W : OpAsk → Option Wish = λ a. wish_by past a in
      token_answered past p row legal answer given told answer.access refl (wish_by past asked) (session_of (p ∷ past) (session_used past asked (reply.Answered answer given))) (ap W is)
      (session_about past p asked (reply.Answered answer given) is told) h
  token_begins past p row legal asked told is come h = cc

  token_still : (past : OpPast) (p : OpPair) (row : TokenRow) → AccessDrawn past row → AccessDrawn (p ∷ past) row
  token_still past p row d =
      record {
        later = p ∷ d.later;
        maker = d.maker;
        earlier = d.earlier;
        parts = longer p past d.later d.earlier d.maker d.parts;
        came = d.came;
        issued_then = d.issued_then;
        place = d.place;
      }

  -- an access token is kept as it is
  token_stays : (past : OpPast) (p : OpPair) (before row : TokenRow) → IsLegalOp c (p ∷ past) → AccessDrawn past before → access_kept past p before ≡ Some row → AccessDrawn (p ∷ past) row
  token_stays past p before row legal d h =
      let I : TokenRow → TokenRow = λ r. r in
      let D : TokenRow → Type 0 = λ r. AccessDrawn (p ∷ past) r in
      subst D (sym (access_keeps I past p before row h)) (token_still past p before d)

  pub accesses_are_drawn : (past : OpPast) → IsLegalOp c past → (w : Word) (row : TokenRow) → row_of access_name w (accesses past) ≡ Some row → AccessDrawn past row
  accesses_are_drawn past legal w row h =
      each_row access_name access_made access_kept access_names c AccessDrawn (λ q p r l all made. token_begins q p r l p.entry.ask p.reply refl refl made) token_stays past legal w row h
