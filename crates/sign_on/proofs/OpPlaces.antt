-- The provider's places: their steps may be taken, and the invariant still holds.
use Rattle.std.proofs.Common.{◌≡◌, ◌≢◌, ℕ, suc, ◌<◌, ◌≤◌, ◌==◌, Bool, true, false, cond, List, [], ◌∷◌, ◌++◌, length, Option, Some, None, option_and_then, option_map, map, Ok, refl, sym, ap, ◌∙◌, subst, inl, inr, eq-eqb, arith}
use Rattle.std.proofs.lemmas.Option.{same_Some}
use Rattle.std.specs.List.{AllByRecursion}
use Rattle.std.specs.Str.{bytes_eq}
use Rattle.sso_base.specs.Words.{Word, Text, IsWord, is_word, fresh_word, word_of_text, word_text}
use Rattle.sso_base.specs.Rows.{row_of}
use Rattle.sso_base.specs.Stands.{is_named}
use Rattle.sso_base.specs.declared.http.Ask.{Ask}
use Rattle.sso_base.proofs.RowLaws.{bytes_same, bytes_true, row_of-more}
use Rattle.sso_model.specs.Lists.{Has, Lacks}
use Rattle.sso_model.specs.Rows.{Signed, Answered, Sent, Live, Machine, Step, answer, redeem, close}
use Rattle.sso_model.specs.Machine.{IsRun, after, after_all}
use Rattle.sso_model.proofs.ListLaws.{all_weaker, all_has, all_filter, all_append}
use Rattle.sso_model.proofs.RunLaws.{run_append, after_append}
use Rattle.client_registry.specs.Configuration.{Configuration}
use Rattle.auth_request.specs.declared.wish.Wish.{Wish}
use Rattle.auth_request.specs.declared.wish.Verdict.TheVariants.{Grant}
use Rattle.auth_answer.specs.declared.answer.Answer.{Answer}
use Rattle.token_endpoint.specs.declared.granting.Grant.{Grant as CodeGrant}
use Rattle.code_grant.specs.declared.rows.TurnRow.{TurnRow}
use Rattle.code_grant.specs.declared.rows.SessionRow.{SessionRow}
use Rattle.code_grant.specs.declared.rows.CodeRow.{CodeRow}
use Rattle.oidc_words.specs.Lives.{turn_life, session_life, code_life}
use Rattle.code_grant.specs.Rows.{turn_name, turn_begun, session_name, session_begun, code_name, code_begun}
use Rattle.op_issue.specs.declared.issuing.Authentication.{Authentication}
use Rattle.op_answer.specs.Authentications.{session_authentication, code_authentication}
use Rattle.op_issue.specs.IdTokens.{hash_of, issued_id}
use Rattle.op_issue.specs.Issued.{issued, issued_code, issued_access, if_wished}
use Rattle.op_issue.specs.Issuing.{MayIssue}
use Rattle.op_issue.specs.Ending.{MayEnd}
use Rattle.op_issue.specs.declared.sign_out.SignOut.{SignOut}
use Rattle.op_issue.specs.LogoutTokens.{logout_claims, issued_logout}
use Rattle.logout_token.specs.declared.claims.LogoutClaims.{LogoutClaims}
use Rattle.sso_base.specs.declared.message.Message.{Message}
use Rattle.sso_base.proofs.WordTexts.{word_text_inj}
use Rattle.op_exchange.specs.declared.ask.OpAsk.{OpAsk}
use Rattle.op_exchange.specs.declared.ask.OpAsk.TheVariants as ask
use Rattle.op_exchange.specs.declared.reply.OpReply.{OpReply}
use Rattle.op_exchange.specs.declared.reply.OpReply.TheVariants as op
use Rattle.op_exchange.specs.Replied.{session_given}
use Rattle.op_request.specs.Prepared.{prepared}
use Rattle.op_request.specs.Requests.{HasCookies}
use Rattle.op_request.proofs.LedTo.{has_cookies}
use Rattle.op_answer.specs.Past.{OpPair, OpPast}
use Rattle.op_answer.specs.Turns.{turns, turn_of}
use Rattle.op_answer.specs.Sessions.{sessions, session_made, session_made_by, session_kept, session_set, session_used, session_of, live_session, ends_session, and_client, client_answered, client_of_wish, wish_by, signed_user}
use Rattle.op_answer.specs.Codes.{codes_issued, code_made, code_made_by, code_kept, held_code}
use Rattle.op_answer.specs.Replies.{session_after, is_turns, sign_out_of}
use Rattle.op_answer.specs.Causes.{AnsweredCause, TokensCause, SignedOutCause}
use Rattle.op_answer.proofs.SignOuts.{sign_outs_have_a_cause}
use Rattle.op_answer.specs.Legal.{IsLegalOp, code_redeemed, place_redeemed}
use Rattle.op_answer.proofs.Answers.{answers_have_a_cause}
use Rattle.op_answer.proofs.TokenResponses.{tokens_have_a_cause}
use Rattle.op_answer.proofs.CodesOnce.{codes_are_answered_once}
use Rattle.op_answer.proofs.KeptNames.{session_names}
use Rattle.sso_base.specs.Legal.{last_moment}
use Rattle.rp_answer.specs.Visits.{live_visits}
use Rattle.sso_places.specs.Site.{Site, IsSite, client_of_party, types_at}
use Rattle.sso_places.specs.World.{Place, Provider, World, op_past, rp_past, op_place, moment_of}
use Rattle.sso_places.specs.Legal.{IsLegalWorld}
use Rattle.sso_places.specs.Cookies.{presented}
use Rattle.sso_places.specs.Told.{told_clients, session_ended}
use Rattle.sso_places.specs.Tokens.{TokenText, token_if}
use Rattle.sso_places.specs.Written.{client_of_uri, logouts_written, op_written, written}
use Rattle.sso_places.proofs.Numbers.{place_at_last, place_at_low}
use Rattle.sso_places.specs.Premises.{HasDistinctWords, leaks}
use Rattle.sso_places.specs.Reading.{machine_of, sign_steps, answer_of, redeem_of, sent_to, sign_out_steps, reply_steps, provider_steps, jti_at}
use Rattle.sso_places.specs.Agreement.{rows_of, SignsOn}
use Rattle.sign_on.proofs.Lists.{all_rows, all_within, row_of-has, lives_some}
use Rattle.sign_on.proofs.Invariant.{IsSetBy, IsDrawnText, IsKnownWish, IsSessionOwned, IsSessionAnswered, IsCodeAnswered, IsTokenAnswered, IsTokenBound, IsTokenSent, IsSentRow, AreSentApart, IsRedeemed, Agrees, Holds, IsKept}
use Rattle.sso_places.proofs.Places.{fresh_is_word, legal_before, distinct_before}
use Rattle.sign_on.proofs.Shared.{began_more, answered_more, events_more, redeemed_more, entered_more, tokens_more, code_more, each_more, op_place_more, op_place_one, text_more, texts_more, sent_more, logouts_more, bound_more, ended_more, answered_by_more, dead_more}
use Rattle.sign_on.proofs.Texts.{issued_answered, issued_hashes, issued_unsent, token_where, token_written, logout_claims_are, logout_unanswered, logout_unbound}
use Rattle.sign_on.proofs.OpSessions.{has_found, sessions_distinct, one_session}
use Rattle.sign_on.proofs.OpOuts.{outs, with_sent, outs_run, outs_after, sent_before, sent_now, sent_all, sent_apart, all_before, all_map, told_is_rising, told_is_answered}
use Rattle.sign_on.proofs.OpRows.{wish_is_known, turns_known, KeptSession, kept_session, KeptCode, kept_code}
use Rattle.sign_on.proofs.OpSigns.{own_word, presents_second, sign_row, AreClientsFrom, IsSigned, Signs, signs}

-- ---- a place of the provider in general

-- what the steps of a reply leave, after this was signed
record Replies (s : Site) (from : ℕ) (request : Ask) (p : OpPair) (world : World) (signed : List Signed) : Type 0 where
  answered : List Answered
  redeemed : List ℕ
  sent : List Sent
  closed : List Text
  run : IsRun (record (machine_of s world) { signed = signed }) (reply_steps s.configuration world from (op_past world) p p.reply)
  leaves : after_all (record (machine_of s world) { signed = signed }) (reply_steps s.configuration world from (op_past world) p p.reply)
      ≡ record (machine_of s world) { signed = signed; answered = answered; redeemed = redeemed; out = sent; closed = closed }
  low : AllByRecursion (λ (row : Answered). row.event ≤ suc (length world)) answered
  once : AllByRecursion (IsRedeemed (Provider from request p ∷ world)) redeemed
  messages : AllByRecursion (IsSentRow s.configuration (Provider from request p ∷ world)) sent
  apart : AreSentApart sent
  ends : AllByRecursion (IsDrawnText (Provider from request p ∷ world)) closed
  tokens : AllByRecursion (IsTokenAnswered s.configuration answered) (op_written s.configuration (op_past world) p.entry p.entry.ask p.reply ++ written s world)
  logouts : AllByRecursion (IsTokenSent s.configuration (Provider from request p ∷ world) sent) (op_written s.configuration (op_past world) p.entry p.entry.ask p.reply ++ written s world)
  bound : AllByRecursion (IsTokenBound s.configuration (Provider from request p ∷ world)) (op_written s.configuration (op_past world) p.entry p.entry.ask p.reply ++ written s world)
  unclosed : AllByRecursion (λ (row : SessionRow). Lacks closed (word_text row.sid)) (sessions (p ∷ op_past world))
  clients : AllByRecursion (IsSessionAnswered answered) (sessions (p ∷ op_past world))
  codes : AllByRecursion (IsCodeAnswered s.configuration (Provider from request p ∷ world) answered) (codes_issued (p ∷ op_past world))

-- so the invariant still holds
op_frame : (s : Site) (from : ℕ) (request : Ask) (p : OpPair) (world : World) → IsSite s → IsLegalWorld s (Provider from request p ∷ world) → IsKept s world
    → (one : Signs s from request p world) → Replies s from request p world one.signed → IsKept s (Provider from request p ∷ world)
unfolding SignsOn
op_frame s from request p world site legal kept one two =
    let x : Place = Provider from request p in
    let m : Machine = machine_of s world in
    let past : OpPast = op_past world in
    let old : Holds s world m = kept.holds in
    let mid : Machine = record m { signed = one.signed } in
    let new : Machine = record m { signed = one.signed; answered = two.answered; redeemed = two.redeemed; out = two.sent; closed = two.closed } in
    let first : List Step = sign_steps from past p (session_given p.reply) in
    let second : List Step = reply_steps s.configuration world from past p p.reply in
    let R : Machine → Type 0 = λ n. IsRun n second in
    let run : IsRun m (provider_steps s.configuration world from past p) = run_append m first second one.run (subst R (sym one.leaves) two.run) in
    let A : Machine → Machine = λ n. after_all n second in
    let leaves : machine_of s (x ∷ world) ≡ new = after_append m first second ∙ ap A one.leaves ∙ two.leaves in
    let live : Agrees s (x ∷ world) m.live =
    λ n known.
    let test : Live → Bool = λ row. row.client == client_of_party s n in
    each_more s x world n (rows_of (client_of_party s n) m.live) (live_visits (types_at s n) (rp_past n world) (last_moment (rp_past n world)))
    (all_filter (λ (row : Live). row.event ≤ length world) test m.live old.events) (old.live n known) in
    let holds : Holds s (x ∷ world) new =
    record {
      closed = two.ends;
      began = began_more x world m.began old.began;
      begun = (tt, old.begun);
      signed = one.texts;
      answered = two.low;
      redeemed = two.once;
      entered = entered_more s x world m.entered old.entered;
      ended = ended_more s x world m.ended old.ended;
      dead = dead_more s x world m.dead old.dead;
      dead_apart = old.dead_apart;
      sent = two.messages;
      sent_apart = two.apart;
      tokens = two.tokens;
      logouts = two.logouts;
      bound = two.bound;
      turns = turns_known s from request p world site legal old.turns;
      sessions = one.sessions_owned;
      unclosed = two.unclosed;
      clients = two.clients;
      codes = two.codes;
      live = live;
      apart = old.apart;
      events = events_more (length world) m.live old.events;
    } in
    let there : Holds s (x ∷ world) (machine_of s (x ∷ world)) = subst (Holds s (x ∷ world)) (sym leaves) holds in
    record { run = (kept.run, run, there.live); holds = there }

-- no answer has the number of the next place
new_event : (n : ℕ) (rows : List Answered) → AllByRecursion (λ (row : Answered). row.event ≤ n) rows → AllByRecursion (λ (row : Answered). row.event ≢ suc n) rows
new_event n rows all =
    all_weaker (λ (row : Answered). row.event ≤ n) (λ (row : Answered). row.event ≢ suc n) rows (λ row low same. let least : row.event ≤ n = low in let is : row.event ≡ suc n = same in absurd (omega arith)) all

-- the codes of a place that makes none
codes_kept : (c : Configuration) (x : Place) (world : World) (p : OpPair) (answered after : List Answered) → ((a : Answered) → Has answered a → Has after a)
    → (row left : CodeRow) → code_kept (op_past world) p row ≡ Some left → IsCodeAnswered c world answered row → IsCodeAnswered c (x ∷ world) after left
codes_kept c x world p answered after stays row left is old =
    let k : KeptCode row left = kept_code (op_past world) p row left is in
    let more : IsCodeAnswered c (x ∷ world) after row = code_more c x world answered after row stays old in
    let same : IsCodeAnswered c (x ∷ world) after (record row { spent = k.spent }) =
    record { wish = more.wish; user = more.user; sid_word = more.sid_word; auth_time = more.auth_time; event = more.event; place = more.place; to = more.to; has = more.has } in
    subst (IsCodeAnswered c (x ∷ world) after) k.is same

-- ---- neither an answer, nor tokens, nor the end of a session

-- the clients of the sessions after a pair that answers none
no_new_client : (answered : List Answered) (past : OpPast) (p : OpPair) (rows : List SessionRow) → client_answered past p ≡ None → AllByRecursion (AreClientsFrom answered past p) rows → AllByRecursion (IsSessionAnswered answered) rows
no_new_client answered past p rows none all =
    all_weaker (AreClientsFrom answered past p) (IsSessionAnswered answered) rows
    (λ row from client has. elim (from client has) [ inl before ↦ before | inr now ↦ (let never : None ≡ Some client = sym none ∙ now.0 in absurd (cc)) ])
    all

quiet : (s : Site) (from : ℕ) (request : Ask) (p : OpPair) (world : World) → IsKept s world → (one : Signs s from request p world)
    → reply_steps s.configuration world from (op_past world) p p.reply ≡ [] → op_written s.configuration (op_past world) p.entry p.entry.ask p.reply ≡ [] → code_made (codes_issued (op_past world)) (op_past world) p ≡ None
    → client_answered (op_past world) p ≡ None → Replies s from request p world one.signed
quiet s from request p world kept one none unwritten unmade unanswered =
    let x : Place = Provider from request p in
    let c : Configuration = s.configuration in
    let m : Machine = machine_of s world in
    let past : OpPast = op_past world in
    let old : Holds s world m = kept.holds in
    let mid : Machine = record m { signed = one.signed } in
    let R : List Step → Type 0 = λ steps. IsRun mid steps in
    let T : List TokenText → Type 0 = λ texts. AllByRecursion (IsTokenAnswered c m.answered) (texts ++ written s world) in
    let L : List TokenText → Type 0 = λ texts. AllByRecursion (IsTokenSent c (x ∷ world) m.out) (texts ++ written s world) in
    let G : List TokenText → Type 0 = λ texts. AllByRecursion (IsTokenBound c (x ∷ world)) (texts ++ written s world) in
    record {
      answered = m.answered;
      redeemed = m.redeemed;
      sent = m.out;
      closed = m.closed;
      run = subst R (sym none) tt;
      leaves = ap (after_all mid) none;
      low = answered_more (length world) m.answered old.answered;
      once = redeemed_more x world m.redeemed old.redeemed;
      messages = sent_more c x world m.out old.sent;
      apart = old.sent_apart;
      ends = texts_more x world m.closed old.closed;
      tokens = subst T (sym unwritten) old.tokens;
      logouts = subst L (sym unwritten) (logouts_more c x world m.out m.out (written s world) (λ row has. has) old.logouts);
      bound = subst G (sym unwritten) (bound_more c x world (written s world) old.bound);
      unclosed = one.unclosed;
      clients = no_new_client m.answered past p (sessions (p ∷ past)) unanswered one.clients;
      codes =
          all_rows (IsCodeAnswered c world m.answered) (IsCodeAnswered c (x ∷ world) m.answered) code_name (code_made (codes_issued past) past p) (code_kept past p) (codes_issued past)
          (codes_kept c x world p m.answered m.answered (λ a has. has))
          (λ row made. let never : None ≡ Some row = sym unmade ∙ made in absurd (cc))
          old.codes;
    }

-- ---- answers

-- what an answer is about: a known wish, and a session of the browser of the place
record Answers (s : Site) (from : ℕ) (p : OpPair) (world : World) (signed : List Signed) (sent : Answer) : Type 0 where
  wish : Wish
  known : IsKnownWish s.configuration wish
  wish_is : wish_by (op_past world) p.entry.ask ≡ Some wish
  row : SessionRow
  row_is : session_of (p ∷ op_past world) (session_used (op_past world) p.entry.ask p.reply) ≡ Some row
  row_has : Has (sessions (p ∷ op_past world)) row
  signs_is : Has signed (sign_row from row)
  sent_is : issued s.configuration wish (session_authentication row) p.entry.at p.entry.fresh ≡ sent

abbrev answered_row : ℕ → ℕ → Wish → SessionRow → Answered
answered_row number from wish row = record { event = number; browser = from; nonce = wish.nonce; client = wish.client; user = row.user; sid = word_text row.sid }

-- the code of an answer
code_answered : (c : Configuration) (x : Place) (world : World) (p : OpPair) (from : ℕ) (wish : Wish) (row : SessionRow) (signed : List Signed) (rows : List Answered) (o : Option Word) (made : CodeRow)
    → IsKnownWish c wish → IsSessionOwned c (x ∷ world) signed row → op_place (x ∷ world) (length (op_past world)) ≡ Some (suc (length world))
    → code_made_by (length (op_past world)) p.entry.at o (Some wish) (Some row) ≡ Some made → IsCodeAnswered c (x ∷ world) (answered_row (suc (length world)) from wish row ∷ rows) made
code_answered c x world p from wish row signed rows None made known owned there is = cc
code_answered c x world p from wish row signed rows (Some w) made known owned there is =
    let first : CodeRow = record { word = w; wish = wish; user = row.user; sid = row.sid; auth_time = row.auth_time; issued = p.entry.at; spent = false; by = length (op_past world) } in
    let answers : IsCodeAnswered c (x ∷ world) (answered_row (suc (length world)) from wish row ∷ rows) first =
    record {
      wish = known;
      user = owned.user;
      sid_word = owned.sid_word;
      auth_time = owned.auth_time;
      event = suc (length world);
      place = there;
      to = from;
      has = inl refl;
    } in
    subst (IsCodeAnswered c (x ∷ world) (answered_row (suc (length world)) from wish row ∷ rows)) (same_Some first made is) answers

-- the place of the newest pair
place_of_last : (from : ℕ) (request : Ask) (p : OpPair) (world : World) → op_place (Provider from request p ∷ world) (length (op_past world)) ≡ Some (suc (length world))
place_of_last from request p world =
    let F : Bool → Option ℕ = λ b. cond b (Some (suc (length world))) (op_place world (length (op_past world))) in
    ap F (eq-eqb (length (op_past world)) (length (op_past world)) refl)

-- a word that was presented
is_word_some : (shown : Option Word) (v : Word) → is_word shown v ≡ true → shown ≡ Some v
is_word_some None v h = cc
is_word_some (Some w) v h = ap (λ (z : Word). Some z) (bytes_same w v h)

-- the client of an answer joins the session that it used
answered_clients : (answered : List Answered) (past : OpPast) (p : OpPair) (a : SessionRow) (new : Answered) (client : ℕ) → session_of (p ∷ past) (session_used past p.entry.ask p.reply) ≡ Some a
    → client_answered past p ≡ Some client → new.client ≡ client → new.user ≡ a.user → new.sid ≡ word_text a.sid
    → AllByRecursion (AreClientsFrom answered past p) (sessions (p ∷ past)) → AllByRecursion (IsSessionAnswered (new ∷ answered)) (sessions (p ∷ past))
answered_clients answered past p a new client used answers client_is user_is sid_is all =
    all_within (AreClientsFrom answered past p) (IsSessionAnswered (new ∷ answered)) (sessions (p ∷ past))
    (λ row has_row from k has.
    elim (from k has) [
      | inl before ↦ answered_by_more answered (new ∷ answered) k row (λ z there. inr there) before
      | inr now ↦
          (let found : row_of session_name row.word (sessions (p ∷ past)) ≡ Some row = has_found session_name (sessions (p ∷ past)) row (sessions_distinct (p ∷ past)) has_row in
          let word : session_used past p.entry.ask p.reply ≡ Some row.word = is_word_some (session_used past p.entry.ask p.reply) row.word now.1 in
          let S : Option Word → Option SessionRow = λ o. session_of (p ∷ past) o in
          let same : a ≡ row = same_Some a row (sym used ∙ ap S word ∙ found) in
          let numbers : client ≡ k = same_Some client k (sym answers ∙ now.0) in
          record {
            answer = new;
            has = inl refl;
            client_is = client_is ∙ numbers;
            user_is = user_is ∙ ap (λ (r : SessionRow). r.user) same;
            sid_is = sid_is ∙ ap (λ (r : SessionRow). word_text r.sid) same;
          })
    ])
    all

answered_replies : (s : Site) (from at : ℕ) (request : Ask) (fresh : List Word) (asked : OpAsk) (sent : Answer) (given : Option Word) (world : World)
    → IsSite s → IsLegalWorld s (Provider from request (record { entry = record { at = at; fresh = fresh; ask = asked }; reply = op.Answered sent given }) ∷ world) → IsKept s world
    → (one : Signs s from request (record { entry = record { at = at; fresh = fresh; ask = asked }; reply = op.Answered sent given }) world)
    → Answers s from (record { entry = record { at = at; fresh = fresh; ask = asked }; reply = op.Answered sent given }) world one.signed sent
    → Replies s from request (record { entry = record { at = at; fresh = fresh; ask = asked }; reply = op.Answered sent given }) world one.signed
answered_replies s from at request fresh asked sent given world site legal kept one a =
    let p : OpPair = record { entry = record { at = at; fresh = fresh; ask = asked }; reply = op.Answered sent given } in
    let x : Place = Provider from request p in
    let c : Configuration = s.configuration in
    let m : Machine = machine_of s world in
    let past : OpPast = op_past world in
    let old : Holds s world m = kept.holds in
    let mid : Machine = record m { signed = one.signed } in
    let number : ℕ = suc (length world) in
    let row : Answered = answered_row number from a.wish a.row in
    let own : IsSessionOwned c (x ∷ world) one.signed a.row = all_has (IsSessionOwned c (x ∷ world) one.signed) (sessions (p ∷ past)) a.row one.sessions_owned a.row_has in
    let unclosed : Lacks m.closed row.sid = all_has (λ (z : SessionRow). Lacks m.closed (word_text z.sid)) (sessions (p ∷ past)) a.row one.unclosed a.row_has in
    let used : Option SessionRow = session_of (p ∷ past) (session_used past asked p.reply) in
    let steps : reply_steps c world from past p p.reply ≡ answer row ∷ [] =
    ap (λ (o : Option Wish). answer_of number from o used ∷ []) a.wish_is ∙ ap (λ (o : Option SessionRow). answer_of number from (Some a.wish) o ∷ []) a.row_is in
    let R : List Step → Type 0 = λ taken. IsRun mid taken in
    let who : Authentication = session_authentication a.row in
    let may : MayIssue c a.wish who at =
    record { registry = site.registry; client = a.known.client; user = own.user; nonce = a.known.nonce; sid = own.sid_word; auth_time = own.auth_time; moment = legal.provider.1.moment } in
    let text : Text = issued_id c a.wish who at (issued_access a.wish fresh) (issued_code a.wish fresh) in
    let says : IsTokenAnswered c (row ∷ m.answered) (a.wish.client, text) =
    issued_answered c a.wish who at (issued_access a.wish fresh) (issued_code a.wish fresh) (row ∷ m.answered) row may a.known.value (inl refl) refl refl refl refl in
    let P : TokenText → Type 0 = IsTokenAnswered c (row ∷ m.answered) in
    let Q : TokenText → Type 0 = IsTokenSent c (x ∷ world) m.out in
    let first : AllByRecursion P (token_if (client_of_uri c a.wish.redirect) (if_wished a.wish.types.id_token text)) =
    token_written P a.wish.client (client_of_uri c a.wish.redirect) a.wish.types.id_token text a.known.uri says in
    let second : AllByRecursion Q (token_if (client_of_uri c a.wish.redirect) (if_wished a.wish.types.id_token text)) =
    token_written Q a.wish.client (client_of_uri c a.wish.redirect) a.wish.types.id_token text a.known.uri
    (issued_unsent c a.wish who at (issued_access a.wish fresh) (issued_code a.wish fresh) (x ∷ world) m.out may a.known.value) in
    let E : TokenText → Type 0 = IsTokenBound c (x ∷ world) in
    let binds : a.wish.types.id_token ≡ true → E (a.wish.client, text) =
    λ wished key y nonce read is.
    let hashes = issued_hashes c a.wish who at (issued_access a.wish fresh) (issued_code a.wish fresh) key y may a.known.value read in
    let I : Answer → Type 0 = λ z. (z.id ≡ Some text) × (y.c_hash ≡ hash_of z.code) × (y.at_hash ≡ hash_of z.access) in
    let F : Bool → Option Text = λ b. if_wished b text in
    let made : I sent = subst I a.sent_is (ap F wished, hashes.0, hashes.1) in
    record { from = from; request = request; pair = p; has = inl refl; replied = made } in
    let third : AllByRecursion E (token_if (client_of_uri c a.wish.redirect) (if_wished a.wish.types.id_token text)) =
    token_where E a.wish.client (client_of_uri c a.wish.redirect) a.wish.types.id_token text a.known.uri binds in
    let U : Answer → Type 0 = λ z. AllByRecursion E (token_if (client_of_uri c z.redirect) z.id) in
    let W : Answer → Type 0 = λ z. AllByRecursion P (token_if (client_of_uri c z.redirect) z.id) in
    let V : Answer → Type 0 = λ z. AllByRecursion Q (token_if (client_of_uri c z.redirect) z.id) in
    let M : Option Wish → Option SessionRow → Option CodeRow = λ o q. code_made_by (length past) at sent.code o q in
    let made_is : code_made (codes_issued past) past p ≡ M (Some a.wish) (Some a.row) = ap (λ (o : Option Wish). M o used) a.wish_is ∙ ap (M (Some a.wish)) a.row_is in
    let answers : client_answered past p ≡ Some a.wish.client = ap (client_of_wish true) a.wish_is in
    record {
      answered = row ∷ m.answered;
      redeemed = m.redeemed;
      sent = m.out;
      closed = m.closed;
      run = subst R (sym steps) ((a.signs_is, unclosed, new_event (length world) m.answered old.answered), tt);
      leaves = ap (after_all mid) steps;
      low = (omega arith, answered_more (length world) m.answered old.answered);
      once = redeemed_more x world m.redeemed old.redeemed;
      messages = sent_more c x world m.out old.sent;
      apart = old.sent_apart;
      ends = texts_more x world m.closed old.closed;
      tokens =
          all_append P (token_if (client_of_uri c sent.redirect) sent.id) (written s world) (subst W a.sent_is first)
          (tokens_more c row m.answered (written s world) old.tokens);
      logouts =
          all_append Q (token_if (client_of_uri c sent.redirect) sent.id) (written s world) (subst V a.sent_is second)
          (logouts_more c x world m.out m.out (written s world) (λ z has. has) old.logouts);
      bound = all_append E (token_if (client_of_uri c sent.redirect) sent.id) (written s world) (subst U a.sent_is third) (bound_more c x world (written s world) old.bound);
      unclosed = one.unclosed;
      clients = answered_clients m.answered past p a.row row a.wish.client a.row_is answers refl refl refl one.clients;
      codes =
          all_rows (IsCodeAnswered c world m.answered) (IsCodeAnswered c (x ∷ world) (row ∷ m.answered)) code_name (code_made (codes_issued past) past p) (code_kept past p) (codes_issued past)
          (codes_kept c x world p m.answered (row ∷ m.answered) (λ z has. inr has))
          (λ made is. code_answered c x world p from a.wish a.row one.signed m.answered sent.code made a.known own (place_of_last from request p world) (sym made_is ∙ is))
          old.codes;
    }

-- ---- which session an answer rests on

-- a session that a pair neither makes nor ends is still there after it
record Rests (p : OpPair) (past : OpPast) (v : Word) (session : SessionRow) (from : ℕ) (signed : List Signed) : Type 0 where
  row : SessionRow
  row_is : session_of (p ∷ past) (Some v) ≡ Some row
  row_has : Has (sessions (p ∷ past)) row
  same : session_authentication row ≡ session_authentication session
  signs_is : Has signed (sign_row from row)

left_some : (ends uses : Bool) (row : SessionRow) (clients : List Bool) → ends ≡ false → (k : List Bool) × (cond ends None (cond uses (Some (record row { clients = clients })) (Some row)) ≡ Some (record row { clients = k }))
left_some true uses row clients e = (let never : true ≡ false = e in cc)
left_some false true row clients e = (clients, refl)
left_some false false row clients e = (row.clients, refl)

rests : (s : Site) (from : ℕ) (request : Ask) (p : OpPair) (world : World) (signed : List Signed) (v : Word) (session : SessionRow)
    → session_set p.entry.ask p.reply ≡ None → ends_session p.entry.ask p.reply session.word ≡ false → live_session (op_past world) p.entry.at (Some v) ≡ Some session
    → Has (presented (Provider from request p)) v → leaks world (Provider from request p) ≡ false
    → AllByRecursion (IsSessionOwned s.configuration (Provider from request p ∷ world) signed) (sessions (p ∷ op_past world)) → Rests p (op_past world) v session from signed
rests s from request p world signed v session unset stays live shows tight owned =
    let x : Place = Provider from request p in
    let c : Configuration = s.configuration in
    let past : OpPast = op_past world in
    let found : row_of session_name v (sessions past) ≡ Some session = lives_some session_life session_begun p.entry.at (row_of session_name v (sessions past)) session live in
    let unmade : session_made (sessions past) past p ≡ None = ap (λ (o : Option Word). session_made_by (sessions past) past p o (signed_user p.entry.ask)) unset in
    let O : Option SessionRow → Option SessionRow = λ o. cond (is_named session_name v o) o (option_and_then (session_kept past p) (row_of session_name v (sessions past))) in
    let left = left_some (ends_session p.entry.ask p.reply session.word) (is_word (session_used past p.entry.ask p.reply) session.word) session (and_client (client_answered past p) session.clients) stays in
    let row : SessionRow = record session { clients = left.0 } in
    let row_is : session_of (p ∷ past) (Some v) ≡ Some row =
    row_of-more session_name session_made session_kept session_names v p past ∙ ap O unmade ∙ ap (option_and_then (session_kept past p)) found ∙ left.1 in
    let has = row_of-has session_name v (sessions (p ∷ past)) row row_is in
    let own : IsSessionOwned c (x ∷ world) signed row = all_has (IsSessionOwned c (x ∷ world) signed) (sessions (p ∷ past)) row owned has.0 in
    let S : Word → Type 0 = λ w. IsSetBy (x ∷ world) own.from w in
    let mine : from ≡ own.from = own_word x world own.from v tight shows (subst S has.1 own.set) in
    let G : ℕ → Type 0 = λ b. Has signed (record { sid = word_text row.sid; user = row.user; browser = b }) in
    record { row = row; row_is = row_is; row_has = has.0; same = refl; signs_is = subst G (sym mine) own.owned.has }

-- ---- the three kinds of answers

turn_has : (past : OpPast) (turn : Option Word) (row : TurnRow) → turn_of past turn ≡ Some row → Has (turns past) row
turn_has past None row h = cc
turn_has past (Some v) row h = (row_of-has turn_name v (turns past) row h).0

-- the word of a session that lives
session_word : (past : OpPast) (at : ℕ) (shown : Option Word) (session : SessionRow) → live_session past at shown ≡ Some session → (v : Word) × (shown ≡ Some v)
session_word past at None session live = cc
session_word past at (Some v) session live = (v, refl)

module _ (s : Site) (from at : ℕ) (request : Ask) (fresh : List Word) (sent : Answer) (given : Option Word) (world : World) (signed : List Signed) (site : IsSite s) (kept : IsKept s world) where
  abbrev answering : OpAsk → OpPair
  answering asked = record { entry = record { at = at; fresh = fresh; ask = asked }; reply = op.Answered sent given }

  abbrev Owned : OpAsk → Type 0
  Owned asked = AllByRecursion (IsSessionOwned s.configuration (Provider from request (answering asked) ∷ world) signed) (sessions (answering asked ∷ op_past world))

  answers_by : (asked : OpAsk) → IsLegalWorld s (Provider from request (answering asked) ∷ world) → leaks world (Provider from request (answering asked)) ≡ false → Owned asked
      → ((w : Word) → given ≡ Some w → IsSigned (op_past world) (answering asked) from signed w)
      → AnsweredCause s.configuration (op_past world) (answering asked).entry asked sent given → Answers s from (answering asked) world signed sent
  answers_by (ask.Authorize (Grant wish) browser shown) legal tight owned by_login cause =
      let p : OpPair = answering (ask.Authorize (Grant wish) browser shown) in
      let past : OpPast = op_past world in
      let word = session_word past at shown cause.session cause.live in
      let asked : prepared s.configuration request ≡ ask.Authorize (Grant wish) browser shown = sym legal.asked.0 in
      let C : OpAsk → Type 0 = λ a. HasCookies request a in
      let cookies = subst C asked (has_cookies s.configuration request) in
      let L : Option Word → Type 0 = λ o. live_session past at o ≡ Some cause.session in
      let r : Rests p past word.0 cause.session from signed =
      rests s from request p world signed word.0 cause.session refl refl (subst L word.1 cause.live) (presents_second from request p shown word.0 cookies.1 word.1) tight owned in
      let S : Option Word → Type 0 = λ o. session_of (p ∷ past) o ≡ Some r.row in
      record {
        wish = wish;
        known = wish_is_known s.configuration request wish browser shown site.registry legal.provider.1.ask asked;
        wish_is = refl;
        row = r.row;
        row_is = subst S (sym word.1) r.row_is;
        row_has = r.row_has;
        signs_is = r.signs_is;
        sent_is = ap (λ (who : Authentication). issued s.configuration wish who at fresh) r.same ∙ cause.answer_is;
      }
  answers_by (ask.Login turn (Some user) browser shown) legal tight owned by_login cause =
      let p : OpPair = answering (ask.Login turn (Some user) browser shown) in
      let past : OpPast = op_past world in
      let c : Configuration = s.configuration in
      let w : Word = (session_after past p.entry user shown).word in
      let signed_in : IsSigned past p from signed w = by_login w cause.given_is in
      let users : signed_in.user ≡ user = cc in
      let shows : signed_in.presented ≡ shown = cc in
      let stood : turn_of past turn ≡ Some cause.row = lives_some turn_life turn_begun at (turn_of past turn) cause.row cause.own.live in
      let S : Option Word → Type 0 = λ o. session_of (p ∷ past) o ≡ Some signed_in.row in
      let same : session_authentication signed_in.row ≡ session_authentication (session_after past p.entry user shown) =
      signed_in.as_after ∙ ap (λ (u : ℕ). session_authentication (session_after past p.entry u signed_in.presented)) users ∙ ap (λ (o : Option Word). session_authentication (session_after past p.entry user o)) shows in
      record {
        wish = cause.row.wish;
        known = all_has (λ (row : TurnRow). IsKnownWish c row.wish) (turns past) cause.row kept.holds.turns (turn_has past turn cause.row stood);
        wish_is = ap (λ (o : Option TurnRow). option_map (λ (row : TurnRow). row.wish) o) stood;
        row = signed_in.row;
        row_is = subst S (sym cause.given_is) signed_in.found;
        row_has = (row_of-has session_name w (sessions (p ∷ past)) signed_in.row signed_in.found).0;
        signs_is = signed_in.signs;
        sent_is = ap (λ (who : Authentication). issued c cause.row.wish who at fresh) same ∙ cause.answer_is;
      }
  answers_by (ask.Consent turn true browser shown) legal tight owned by_login cause =
      let p : OpPair = answering (ask.Consent turn true browser shown) in
      let past : OpPast = op_past world in
      let c : Configuration = s.configuration in
      let stood : turn_of past turn ≡ Some cause.row = lives_some turn_life turn_begun at (turn_of past turn) cause.row cause.own.own.live in
      let word = session_word past at cause.row.session cause.session cause.own.live in
      let T : Option Word → Type 0 = λ o. is_turns shown o ≡ true in
      let shows : shown ≡ Some word.0 = is_word_some shown word.0 (subst T word.1 cause.own.same_session) in
      let asked : prepared c request ≡ ask.Consent turn true browser shown = sym legal.asked.0 in
      let C : OpAsk → Type 0 = λ a. HasCookies request a in
      let cookies = subst C asked (has_cookies c request) in
      let L : Option Word → Type 0 = λ o. live_session past at o ≡ Some cause.session in
      let r : Rests p past word.0 cause.session from signed =
      rests s from request p world signed word.0 cause.session refl refl (subst L word.1 cause.own.live) (presents_second from request p shown word.0 cookies.1 shows) tight owned in
      let S : Option Word → Type 0 = λ o. session_of (p ∷ past) o ≡ Some r.row in
      let used : session_used past p.entry.ask p.reply ≡ Some word.0 = ap (λ (o : Option TurnRow). option_and_then (λ (row : TurnRow). row.session) o) stood ∙ word.1 in
      record {
        wish = cause.row.wish;
        known = all_has (λ (row : TurnRow). IsKnownWish c row.wish) (turns past) cause.row kept.holds.turns (turn_has past turn cause.row stood);
        wish_is = ap (λ (o : Option TurnRow). option_map (λ (row : TurnRow). row.wish) o) stood;
        row = r.row;
        row_is = subst S (sym used) r.row_is;
        row_has = r.row_has;
        signs_is = r.signs_is;
        sent_is = ap (λ (who : Authentication). issued c cause.row.wish who at fresh) r.same ∙ cause.answer_is;
      }
  answers_by asked legal tight owned by_login cause = absurd cause

-- ---- tokens

-- the code of a token response is one of the past
code_has : (past : OpPast) (at : ℕ) (o : Option Word) (row : CodeRow) → held_code past at o ≡ Some row → Has (codes_issued past) row
code_has past at None row h = cc
code_has past at (Some w) row h = (row_of-has code_name w (codes_issued past) row (lives_some code_life code_begun at (row_of code_name w (codes_issued past)) row h)).0

tokens_replies : (s : Site) (from at : ℕ) (request : Ask) (fresh : List Word) (grant : CodeGrant) (access : Word) (id : Text) (world : World) → IsSite s
    → IsLegalWorld s (Provider from request (record { entry = record { at = at; fresh = fresh; ask = ask.Token (Ok grant) }; reply = op.Tokens access id }) ∷ world) → IsKept s world
    → (one : Signs s from request (record { entry = record { at = at; fresh = fresh; ask = ask.Token (Ok grant) }; reply = op.Tokens access id }) world)
    → TokensCause s.configuration (op_past world) (record { at = at; fresh = fresh; ask = ask.Token (Ok grant) }) (ask.Token (Ok grant)) access id
    → Replies s from request (record { entry = record { at = at; fresh = fresh; ask = ask.Token (Ok grant) }; reply = op.Tokens access id }) world one.signed
tokens_replies s from at request fresh grant access id world site legal kept one cause =
    let p : OpPair = record { entry = record { at = at; fresh = fresh; ask = ask.Token (Ok grant) }; reply = op.Tokens access id } in
    let x : Place = Provider from request p in
    let c : Configuration = s.configuration in
    let m : Machine = machine_of s world in
    let past : OpPast = op_past world in
    let old : Holds s world m = kept.holds in
    let mid : Machine = record m { signed = one.signed } in
    let code : CodeRow = cause.code in
    let told : IsCodeAnswered c world m.answered code = all_has (IsCodeAnswered c world m.answered) (codes_issued past) code old.codes (code_has past at (word_of_text grant.code) code cause.held) in
    let redeemed : code_redeemed past p ≡ Some code.by = ap (place_redeemed p.reply) cause.held in
    let row : Answered = record { event = told.event; browser = told.to; nonce = code.wish.nonce; client = code.wish.client; user = code.user; sid = word_text code.sid } in
    let Q : Option ℕ → List Step = λ o. redeem_of (option_and_then (op_place world) o) (ask.Token (Ok grant)) ∷ [] in
    let P : Option ℕ → List Step = λ o. redeem_of o (ask.Token (Ok grant)) ∷ [] in
    let steps : reply_steps c world from past p p.reply ≡ redeem told.event grant.client ∷ [] = ap Q redeemed ∙ ap P told.place in
    let R : List Step → Type 0 = λ taken. IsRun mid taken in
    let fresh_one : Lacks m.redeemed told.event =
    λ has.
    let was : IsRedeemed world told.event = all_has (IsRedeemed world) m.redeemed told.event old.redeemed has in
    let one_k : was.k ≡ code.by = op_place_one world was.k code.by told.event was.at told.place in
    let E : OpPast → Type 0 = λ z. IsLegalOp c (p ∷ z) in
    let Red : OpPast → Type 0 = λ z. code_redeemed z p ≡ Some code.by in
    codes_are_answered_once c [] was.later was.earlier was.pair p code.by (subst E was.parts legal.provider) (was.redeemed ∙ ap (λ (n : ℕ). Some n) one_k) (subst Red was.parts redeemed) in
    let who : Authentication = code_authentication code in
    let may : MayIssue c code.wish who at =
    record { registry = site.registry; client = told.wish.client; user = told.user; nonce = told.wish.nonce; sid = told.sid_word; auth_time = told.auth_time; moment = legal.provider.1.moment } in
    let says : IsTokenAnswered c m.answered (code.wish.client, issued_id c code.wish who at (Some access) None) =
    issued_answered c code.wish who at (Some access) None m.answered row may told.wish.value told.has refl refl refl refl in
    let K : ℕ → Text → Type 0 = λ k t. IsTokenAnswered c m.answered (k, t) in
    let J : ℕ → Type 0 = λ k. K k (issued_id c code.wish who at (Some access) None) in
    let wrote : K grant.client id = subst (K grant.client) cause.token (subst J cause.own_client says) in
    let silent : IsTokenSent c (x ∷ world) m.out (code.wish.client, issued_id c code.wish who at (Some access) None) = issued_unsent c code.wish who at (Some access) None (x ∷ world) m.out may told.wish.value in
    let N : ℕ → Text → Type 0 = λ k t. IsTokenSent c (x ∷ world) m.out (k, t) in
    let O : ℕ → Type 0 = λ k. N k (issued_id c code.wish who at (Some access) None) in
    let unsent : N grant.client id = subst (N grant.client) cause.token (subst O cause.own_client silent) in
    let D : ℕ → Text → Type 0 = λ k t. IsTokenBound c (x ∷ world) (k, t) in
    let H : ℕ → Type 0 = λ k. D k (issued_id c code.wish who at (Some access) None) in
    let binds : D code.wish.client (issued_id c code.wish who at (Some access) None) =
    λ key y nonce read is.
    let hashes = issued_hashes c code.wish who at (Some access) None key y may told.wish.value read in
    record { from = from; request = request; pair = p; has = inl refl; replied = (sym cause.token, hashes.0, hashes.1) } in
    let beside : D grant.client id = subst (D grant.client) cause.token (subst H cause.own_client binds) in
    record {
      answered = m.answered;
      redeemed = told.event ∷ m.redeemed;
      sent = m.out;
      closed = m.closed;
      run = subst R (sym steps) (((row, told.has, refl, cause.own_client), fresh_one), tt);
      leaves = ap (after_all mid) steps;
      low = answered_more (length world) m.answered old.answered;
      once = (
        record { later = []; pair = p; earlier = past; parts = refl; k = code.by; redeemed = redeemed; at = op_place_more x world code.by told.event told.place },
        redeemed_more x world m.redeemed old.redeemed,
      );
      messages = sent_more c x world m.out old.sent;
      apart = old.sent_apart;
      ends = texts_more x world m.closed old.closed;
      tokens = (wrote, old.tokens);
      logouts = (unsent, logouts_more c x world m.out m.out (written s world) (λ z has. has) old.logouts);
      bound = (beside, bound_more c x world (written s world) old.bound);
      unclosed = one.unclosed;
      clients = no_new_client m.answered past p (sessions (p ∷ past)) refl one.clients;
      codes =
          all_rows (IsCodeAnswered c world m.answered) (IsCodeAnswered c (x ∷ world) m.answered) code_name (code_made (codes_issued past) past p) (code_kept past p) (codes_issued past)
          (codes_kept c x world p m.answered m.answered (λ a has. has))
          (λ made never. cc)
          old.codes;
    }

-- ---- a sign-out

-- the session of a sign-out
record Ends (s : Site) (from : ℕ) (request : Ask) (p : OpPair) (world : World) : Type 0 where
  presented : Option Word
  asked : p.entry.ask ≡ ask.SignOut presented
  session : SessionRow
  live : live_session (op_past world) p.entry.at presented ≡ Some session

-- what is left of the sessions is of other session identifiers
left_open : (s : Site) (from : ℕ) (request : Ask) (p : OpPair) (world : World) (messages : List Message) (closed : List Text) → IsLegalWorld s world → HasDistinctWords world → IsKept s world
    → p.reply ≡ op.SignedOut messages → (e : Ends s from request p world) → IsWord e.session.sid → Has (sessions (op_past world)) e.session → e.presented ≡ Some e.session.word
    → AllByRecursion (λ (row : SessionRow). Lacks closed (word_text row.sid)) (sessions (op_past world))
    → AllByRecursion (λ (row : SessionRow). Lacks (word_text e.session.sid ∷ closed) (word_text row.sid)) (sessions (p ∷ op_past world))
left_open s from request p world messages closed legal distinct kept replied e sid has_session shown unclosed =
    let past : OpPast = op_past world in
    let c : Configuration = s.configuration in
    let sid_of : SessionRow → Text = λ row. word_text row.sid in
    let made : session_made (sessions past) past p ≡ None =
    ap (λ (a : OpAsk). session_made_by (sessions past) past p (session_set a p.reply) (signed_user a)) e.asked in
    let Stands : SessionRow → Type 0 = λ row. Has (sessions past) row × Lacks closed (sid_of row) in
    let stand : AllByRecursion Stands (sessions past) =
    all_within (λ (row : SessionRow). Lacks closed (sid_of row)) Stands (sessions past) (λ row has lacks. (has, lacks)) unclosed in
    all_rows Stands (λ (row : SessionRow). Lacks (word_text e.session.sid ∷ closed) (sid_of row)) session_name (session_made (sessions past) past p) (session_kept past p) (sessions past)
    (λ row after left stands.
    let k : KeptSession past p row after = kept_session past p row after left in
    let L : SessionRow → Type 0 = λ r. Lacks (word_text e.session.sid ∷ closed) (word_text r.sid) in
    let word : IsWord row.sid = (all_has (IsSessionOwned c world (machine_of s world).signed) (sessions past) row kept.holds.sessions stands.0).sid_word in
    let U : OpAsk → OpReply → Type 0 = λ a r. ends_session a r row.word ≡ false in
    let A : OpAsk → Type 0 = λ a. U a p.reply in
    let B : OpReply → Type 0 = λ r. U (ask.SignOut e.presented) r in
    let I : Option Word → Type 0 = λ o. is_word o row.word ≡ false in
    let other : bytes_eq e.session.word row.word ≡ false = subst I shown (subst B replied (subst A e.asked k.unended)) in
    let lacks : L row =
    λ has.
    elim has [
      | inl same ↦
          (let sids : e.session.sid ≡ row.sid = word_text_inj e.session.sid row.sid sid word same in
          let words : e.session.word ≡ row.word = one_session s world e.session row legal distinct has_session stands.0 sids in
          let never : true ≡ false = sym (bytes_true e.session.word row.word words) ∙ other in
          absurd (cc))
      | inr there ↦ stands.1 there
    ] in
    subst L k.is lacks)
    (λ row new. let never : None ≡ Some row = sym made ∙ new in absurd (cc))
    stand

signed_out : (s : Site) (from at : ℕ) (request : Ask) (fresh : List Word) (asked : OpAsk) (messages : List Message) (world : World) → IsSite s
    → IsLegalWorld s (Provider from request (record { entry = record { at = at; fresh = fresh; ask = asked }; reply = op.SignedOut messages }) ∷ world)
    → HasDistinctWords (Provider from request (record { entry = record { at = at; fresh = fresh; ask = asked }; reply = op.SignedOut messages }) ∷ world) → IsKept s world
    → (one : Signs s from request (record { entry = record { at = at; fresh = fresh; ask = asked }; reply = op.SignedOut messages }) world)
    → Ends s from request (record { entry = record { at = at; fresh = fresh; ask = asked }; reply = op.SignedOut messages }) world
    → Replies s from request (record { entry = record { at = at; fresh = fresh; ask = asked }; reply = op.SignedOut messages }) world one.signed
unfolding logout_claims
signed_out s from at request fresh asked messages world site legal distinct kept one e =
    let p : OpPair = record { entry = record { at = at; fresh = fresh; ask = asked }; reply = op.SignedOut messages } in
    let x : Place = Provider from request p in
    let c : Configuration = s.configuration in
    let m : Machine = machine_of s world in
    let past : OpPast = op_past world in
    let old : Holds s world m = kept.holds in
    let mid : Machine = record m { signed = one.signed } in
    let number : ℕ = suc (length world) in
    let session : SessionRow = e.session in
    let before : IsLegalWorld s world = legal_before s x world legal in
    -- the session is there, by its word
    let word = session_word past at e.presented session e.live in
    let L : Option Word → Type 0 = λ o. live_session past at o ≡ Some session in
    let found : row_of session_name word.0 (sessions past) ≡ Some session = lives_some session_life session_begun at (row_of session_name word.0 (sessions past)) session (subst L word.1 e.live) in
    let has = row_of-has session_name word.0 (sessions past) session found in
    let shown : e.presented ≡ Some session.word = word.1 ∙ ap (λ (w : Word). Some w) (sym has.1) in
    let own : IsSessionOwned c world m.signed session = all_has (IsSessionOwned c world m.signed) (sessions past) session old.sessions has.0 in
    let unclosed : Lacks m.closed (word_text session.sid) = all_has (λ (z : SessionRow). Lacks m.closed (word_text z.sid)) (sessions past) session old.unclosed has.0 in
    let answers : IsSessionAnswered m.answered session = all_has (IsSessionAnswered m.answered) (sessions past) session old.clients has.0 in
    -- the steps
    let told : List ℕ = told_clients c session.clients in
    let ended : session_ended past at asked ≡ Some session = ap (session_ended past at) e.asked ∙ e.live in
    let first : List Step = outs c number session told in
    let last : List Step = close (word_text session.sid) ∷ [] in
    let steps : reply_steps c world from past p p.reply ≡ first ++ last = ap (sign_out_steps c number) ended in
    let R : List Step → Type 0 = λ taken. IsRun mid taken in
    let rows : List Sent = with_sent c number session told m.out in
    let low_rows : AllByRecursion (λ (o : Sent). o.place < number) m.out =
    all_weaker (IsSentRow c world) (λ (o : Sent). o.place < number) m.out (λ o row. let low : o.place ≤ length world = place_at_low world o.place row.place row.there in omega arith) old.sent in
    let ran : IsRun mid first =
    outs_run c number session mid 0 told (told_is_rising c session.clients) (λ n has_n. answers n (told_is_answered c session.clients n has_n).0) unclosed (all_before c number session m.out low_rows) in
    let gone : after_all mid first ≡ record mid { out = rows } = outs_after c number session mid told in
    let E : Machine → Type 0 = λ z. IsRun z last in
    let F : Machine → Machine = λ z. after_all z last in
    let closes : IsRun (record mid { out = rows }) last = (((sign_row own.from session, one.still (sign_row own.from session) own.owned.has, refl), unclosed), tt) in
    -- the tokens
    let so : SignOut = sign_out_of p.entry session in
    let drew : IsWord (fresh_word fresh 0) = fresh_is_word s x world 0 legal (omega arith) legal.provider.1.four in
    let may : (n : ℕ) → Has told n → MayEnd c n so =
    λ n has_n. record { registry = site.registry; client = (told_is_answered c session.clients n has_n).1; user = own.user; sid = own.sid_word; word = drew; moment = legal.provider.1.moment } in
    let token : ℕ → TokenText = λ n. (n, issued_logout c n so) in
    let W : Option SessionRow → List TokenText = λ o. logouts_written c p.entry o in
    let A : List TokenText → Type 0 = λ ts. AllByRecursion (IsTokenAnswered c m.answered) (ts ++ written s world) in
    let B : List TokenText → Type 0 = λ ts. AllByRecursion (IsTokenSent c (x ∷ world) rows) (ts ++ written s world) in
    let G : List TokenText → Type 0 = λ ts. AllByRecursion (IsTokenBound c (x ∷ world)) (ts ++ written s world) in
    let texts : op_written c past p.entry asked p.reply ≡ map token told = ap W ended in
    let J : ℕ → Option Place → Option Text = λ n o. jti_at n o in
    let T : Option Place → Option ℕ = λ o. option_and_then moment_of o in
    let went : (n : ℕ) → Has told n → IsTokenSent c (x ∷ world) rows (token n) =
    λ n has_n key y read.
    let claims : logout_claims c n so ≡ y = logout_claims_are c n so key y (may n has_n) read in
    record {
      row = sent_to c number session n;
      has = sent_now c number session told m.out n has_n;
      client_is = refl;
      known = own.user;
      jti = ap (J n) (place_at_last x world) ∙ ap (λ (z : LogoutClaims). Some z.jti) claims;
      moment = ap T (place_at_last x world) ∙ ap (λ (z : LogoutClaims). Some z.iat) claims;
      subject = sym (ap (λ (z : LogoutClaims). z.sub) claims);
      sid = sym (ap (λ (z : LogoutClaims). z.sid) claims);
    } in
    record {
      answered = m.answered;
      redeemed = m.redeemed;
      sent = rows;
      closed = word_text session.sid ∷ m.closed;
      run = subst R (sym steps) (run_append mid first last ran (subst E (sym gone) closes));
      leaves = ap (after_all mid) steps ∙ after_append mid first last ∙ ap F gone;
      low = answered_more (length world) m.answered old.answered;
      once = redeemed_more x world m.redeemed old.redeemed;
      messages =
          sent_all c number session (IsSentRow c (x ∷ world)) told m.out
          (λ n has_n. record { place = x; there = place_at_last x world; four = legal.provider.1.four; word = drew; known = (told_is_answered c session.clients n has_n).1 })
          (sent_more c x world m.out old.sent);
      apart = sent_apart c number session 0 told m.out (told_is_rising c session.clients) (all_before c number session m.out low_rows) old.sent_apart;
      ends = (
        text_more x world (word_text session.sid) (all_has (λ (z : Signed). IsDrawnText world z.sid) m.signed (sign_row own.from session) old.signed own.owned.has),
        texts_more x world m.closed old.closed,
      );
      tokens = subst A (sym texts)
          (all_append (IsTokenAnswered c m.answered) (map token told) (written s world)
          (all_map c number session (IsTokenAnswered c m.answered) token told (λ n has_n. logout_unanswered c n so m.answered (may n has_n)))
          old.tokens);
      logouts = subst B (sym texts)
          (all_append (IsTokenSent c (x ∷ world) rows) (map token told) (written s world)
          (all_map c number session (IsTokenSent c (x ∷ world) rows) token told went)
          (logouts_more c x world m.out rows (written s world) (λ z has_z. sent_before c number session told m.out z has_z) old.logouts));
      bound = subst G (sym texts)
          (all_append (IsTokenBound c (x ∷ world)) (map token told) (written s world)
          (all_map c number session (IsTokenBound c (x ∷ world)) token told (λ n has_n. logout_unbound c n so (x ∷ world) (may n has_n)))
          (bound_more c x world (written s world) old.bound));
      unclosed = left_open s from request p world messages m.closed before (distinct_before x world distinct) kept refl e own.sid_word has.0 shown old.unclosed;
      clients = no_new_client m.answered past p (sessions (p ∷ past)) refl one.clients;
      codes =
          all_rows (IsCodeAnswered c world m.answered) (IsCodeAnswered c (x ∷ world) m.answered) code_name (code_made (codes_issued past) past p) (code_kept past p) (codes_issued past)
          (codes_kept c x world p m.answered m.answered (λ a has_a. has_a))
          (λ made never. absurd (cc))
          old.codes;
    }

-- ---- all places of the provider

module _ (s : Site) (from at : ℕ) (request : Ask) (fresh : List Word) (world : World) (site : IsSite s) (kept : IsKept s world) where
  abbrev pair : OpAsk → OpReply → OpPair
  pair asked reply = record { entry = record { at = at; fresh = fresh; ask = asked }; reply = reply }

  tokens_by : (asked : OpAsk) (access : Word) (id : Text) → IsLegalWorld s (Provider from request (pair asked (op.Tokens access id)) ∷ world)
      → (one : Signs s from request (pair asked (op.Tokens access id)) world)
      → TokensCause s.configuration (op_past world) (record { at = at; fresh = fresh; ask = asked }) asked access id → Replies s from request (pair asked (op.Tokens access id)) world one.signed
  tokens_by (ask.Token (Ok grant)) access id legal one cause = tokens_replies s from at request fresh grant access id world site legal kept one cause
  tokens_by asked access id legal one cause = absurd cause

  -- a sign-out of no live session ends none
  nobody : (asked : OpAsk) (messages : List Message) → (one : Signs s from request (pair asked (op.SignedOut messages)) world) → session_ended (op_past world) at asked ≡ None → Replies s from request (pair asked (op.SignedOut messages)) world one.signed
  nobody asked messages one none =
      let c : Configuration = s.configuration in
      quiet s from request (pair asked (op.SignedOut messages)) world kept one (ap (sign_out_steps c (suc (length world))) none) (ap (logouts_written c (pair asked (op.SignedOut messages)).entry) none) refl refl

  signed_out_by : (asked : OpAsk) (messages : List Message) → IsLegalWorld s (Provider from request (pair asked (op.SignedOut messages)) ∷ world) → HasDistinctWords (Provider from request (pair asked (op.SignedOut messages)) ∷ world)
      → (one : Signs s from request (pair asked (op.SignedOut messages)) world)
      → SignedOutCause s.configuration (op_past world) (record { at = at; fresh = fresh; ask = asked }) asked messages → Replies s from request (pair asked (op.SignedOut messages)) world one.signed
  signed_out_by (ask.SignOut presented) messages legal distinct one (inl none) = nobody (ask.SignOut presented) messages one none.0
  signed_out_by (ask.SignOut presented) messages legal distinct one (inr ends) =
      signed_out s from at request fresh (ask.SignOut presented) messages world site legal distinct kept one (record { presented = presented; asked = refl; session = ends.session; live = ends.live })
  signed_out_by asked messages legal distinct one cause = absurd cause

  replies : (asked : OpAsk) (reply : OpReply) → IsLegalWorld s (Provider from request (pair asked reply) ∷ world) → HasDistinctWords (Provider from request (pair asked reply) ∷ world)
      → leaks world (Provider from request (pair asked reply)) ≡ false → (one : Signs s from request (pair asked reply) world) → Replies s from request (pair asked reply) world one.signed
  replies asked (op.Answered sent given) legal distinct tight one =
      answered_replies s from at request fresh asked sent given world site legal kept one
      (answers_by s from at request fresh sent given world one.signed site kept asked legal tight one.sessions_owned one.is_signed
      (answers_have_a_cause s.configuration (op_past world) (record { at = at; fresh = fresh; ask = asked }) sent given (sym legal.provider.3)))
  replies asked (op.Tokens access id) legal distinct tight one =
      tokens_by asked access id legal one (tokens_have_a_cause s.configuration (op_past world) (record { at = at; fresh = fresh; ask = asked }) access id (sym legal.provider.3))
  replies asked (op.SignedOut messages) legal distinct tight one =
      signed_out_by asked messages legal distinct one (sign_outs_have_a_cause s.configuration (op_past world) (record { at = at; fresh = fresh; ask = asked }) messages (sym legal.provider.3))
  replies asked reply legal distinct tight one = quiet s from request (pair asked reply) world kept one refl refl refl refl

-- A place of the provider keeps the invariant.
pub provider_kept : (s : Site) (from : ℕ) (request : Ask) (p : OpPair) (world : World) → IsSite s → IsLegalWorld s (Provider from request p ∷ world) → HasDistinctWords (Provider from request p ∷ world)
    → leaks world (Provider from request p) ≡ false → IsKept s world → IsKept s (Provider from request p ∷ world)
provider_kept s from request p world site legal distinct tight kept =
    let one : Signs s from request p world = signs s from request p world site legal distinct tight kept in
    op_frame s from request p world site legal kept one
    (replies s from p.entry.at request p.entry.fresh world site kept p.entry.ask p.reply legal distinct tight one)
