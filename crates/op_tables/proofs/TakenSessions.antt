-- The session that a login makes has room: it takes the place of a live one, or the provider's answer says that there is room
-- beside the presented one.
use Rattle.std.proofs.Common.{◌≡◌, ◌<◌, ◌≤◌, ℕ, suc, ◌==◌, Bool, true, false, not, ◌&&◌, ◌||◌, cond, List, length, filter_map, Option, Some, None, option_and_then, refl, sym, ◌∙◌, ap, subst, arith}
use Rattle.std.specs.Str.{bytes_eq}
use Rattle.std.proofs.lemmas.Bool.{and_from}
use Rattle.sso_base.specs.Words.{Word, is_word, fresh_word}
use Rattle.sso_base.specs.Rows.{without, row_of}
use Rattle.sso_base.specs.declared.history.Entry.{Entry}
use Rattle.sso_base.proofs.RowLaws.{bytes_same, bytes_true, bytes_turn}
use Rattle.client_registry.specs.Configuration.{Configuration}
use Rattle.code_grant.specs.declared.rows.SessionRow.{SessionRow}
use Rattle.code_grant.specs.Rows.{session_name}
use Rattle.held_rows.specs.Held.{most_rows}
use Rattle.held_rows.proofs.HeldLaws.{row_of_named}
use Rattle.op_exchange.specs.declared.ask.OpAsk.{OpAsk}
use Rattle.op_exchange.specs.declared.ask.OpAsk.TheVariants as ask
use Rattle.op_exchange.specs.declared.reply.OpReply.{OpReply}
use Rattle.op_exchange.specs.declared.reply.OpReply.TheVariants as reply
use Rattle.op_exchange.specs.Replied.{code_in, access_in}
use Rattle.op_answer.specs.Past.{OpPair, OpPast}
use Rattle.op_answer.specs.Sessions.{session_set, signed_user, session_used, and_client, client_answered, session_before, session_by, live_in, session_made_by, session_made, ends_session, session_kept, sessions, live_sessions, live_session}
use Rattle.op_answer.specs.Replies.{if_of_user, session_renewed, session_left, session_after}
use Rattle.op_answer.specs.Room.{sessions_beside, lacks_turn, lacks_session, lacks_new_session, lacks_code, lacks_access}
use Rattle.op_answer.specs.Answering.{op_answer}
use Rattle.op_answer.specs.Causes.{is_own, ConsentPageCause, AnsweredCause, RefusedCause}
use Rattle.op_answer.proofs.KeptNames.{some_same, session_names}
use Rattle.op_answer.proofs.Standing.{own_replies_stand}
use Rattle.op_answer.proofs.Pages.{consent_pages_have_a_cause}
use Rattle.op_answer.proofs.Answers.{answers_have_a_cause}
use Rattle.op_answer.proofs.Refusals.{refusals_have_a_cause}
use Rattle.op_tables.proofs.Leaving.{length-without}
use Rattle.op_tables.proofs.NamedRows.{session_named, sessions_distinct}
use Rattle.held_rows.proofs.Found.{if_some}
use Rattle.held_rows.proofs.Added.{few_there, kept_short}
use Rattle.op_tables.proofs.TakenRows.{without_short, dropped_short, kept_beside}

pub second_false : (a b c d : Bool) → (a || b || c || d) ≡ false → b ≡ false
second_false true b c d h = cc
second_false false true c d h = cc
second_false false false c d h = refl

-- ---- what is kept of the live sessions

-- a rule that ends the presented session in favour of another word
abbrev EndsFor : (SessionRow → Option SessionRow) → Option Word → Word → Type 0
EndsFor k presented w = (row : SessionRow) → (is_word presented row.word && not (bytes_eq w row.word)) ≡ true → k row ≡ None

module _ (k : SessionRow → Option SessionRow) (w : Word) (rows : List SessionRow) where
  other_short : (v : Word) (same : Bool) → bytes_eq v w ≡ same → EndsFor k (Some v) w → length (filter_map k rows) ≤ length (cond same rows (without session_name v rows))
  other_short v true is ends = kept_short k rows
  other_short v false is ends =
      let drops : (row : SessionRow) → bytes_eq row.word v ≡ true → k row ≡ None = λ row e.
      let F : Word → Bool = λ x. bytes_eq v x && not (bytes_eq w x) in
      let N : Bool → Bool = λ b. not b in
      let there : F v ≡ true = and_from (bytes_eq v v) (not (bytes_eq w v)) (bytes_true v v refl) (ap N (bytes_turn v w is)) in
      ends row (ap F (bytes_same row.word v e) ∙ there) in
      dropped_short session_name k v drops rows

  beside_short : (presented : Option Word) → EndsFor k presented w → length (filter_map k rows) ≤ length (sessions_beside presented w rows)
  beside_short None ends = kept_short k rows
  beside_short (Some v) ends = other_short v (bytes_eq v w) refl ends

-- ---- a login whose reply has a session word

record LeavesSession (past : OpPast) (e : Entry OpAsk) (asked : OpAsk) (told : OpReply) (row : SessionRow) : Type 0 where
  user : ℕ
  presented : Option Word
  w : Word
  own : is_own told ≡ true
  word_is : row.word ≡ w
  left : w ≡ (session_after past e user presented).word
  lacks : lacks_session past e.at asked told ≡ lacks_new_session past e.at (session_renewed past e.at user presented) presented (Some w)
  ends : (x : Word) → ends_session asked told x ≡ (is_word presented x && not (bytes_eq w x))

module _ (past : OpPast) (e : Entry OpAsk) where
  -- the row of a word has that word
  word_before : (w sid : Word) (user : ℕ) (found : Option SessionRow) → ((s : SessionRow) → found ≡ Some s → s.word ≡ w) → (session_before w sid user e.at found).word ≡ w
  word_before w sid user None named = refl
  word_before w sid user (Some s) named = named s refl

  word_in : (w : Word) (s : SessionRow) → live_in e.at w (sessions past) ≡ Some s → s.word ≡ w
  word_in w s live = bytes_same s.word w (row_of_named session_name w (live_sessions past e.at) s (sym (session_named past e.at w) ∙ live))

  word_set : (told : OpReply) (w : Word) (user : ℕ) (row : SessionRow)
      → Some (session_by past (record { entry = e; reply = told }) (live_in e.at w (sessions past)) w user) ≡ Some row → row.word ≡ w
  word_set told w user row h =
      let made : SessionRow = session_by past (record { entry = e; reply = told }) (live_in e.at w (sessions past)) w user in
      ap session_name (sym (some_same made row h)) ∙ word_before w (fresh_word e.fresh 1) user (live_in e.at w (sessions past)) (word_in w)

  -- ---- the room that it has

  of_user : (user : ℕ) (found : Option SessionRow) (s : SessionRow) → option_and_then (if_of_user user) found ≡ Some s → found ≡ Some s
  of_user user None s h = cc
  of_user user (Some found) s h = if_some (found.user == user) found s h

  renewed_there : (user : ℕ) (presented : Option Word) (s : SessionRow) → session_renewed past e.at user presented ≡ Some s → row_of session_name s.word (live_sessions past e.at) ≡ Some s
  renewed_there user None s h = cc
  renewed_there user (Some v) s h =
      let live : live_in e.at v (sessions past) ≡ Some s = of_user user (live_session past e.at (Some v)) s h in
      let F : Word → Option SessionRow = λ x. row_of session_name x (live_sessions past e.at) in
      ap F (word_in v s live) ∙ sym (session_named past e.at v) ∙ live

  few_left : (k : SessionRow → Option SessionRow) → ((r s : SessionRow) → k r ≡ Some s → s.word ≡ r.word) → length (live_sessions past e.at) ≤ most_rows
      → (user : ℕ) (presented : Option Word) (w : Word) → EndsFor k presented w
      → (renewed : Option SessionRow) → session_renewed past e.at user presented ≡ renewed → w ≡ (session_left e user renewed).word
      → lacks_new_session past e.at renewed presented (Some w) ≡ false → length (without session_name w (filter_map k (live_sessions past e.at))) < most_rows
  few_left k names most user presented w ends None is word room =
      let live : List SessionRow = live_sessions past e.at in
      let few : length (sessions_beside presented w live) < 65536 = few_there most_rows session_name w (sessions_beside presented w live) room in
      let short : length (filter_map k live) ≤ length (sessions_beside presented w live) = beside_short k w live presented ends in
      let fewer : length (without session_name w (filter_map k live)) ≤ length (filter_map k live) = without_short session_name w (filter_map k live) in
      omega arith
  few_left k names most user presented w ends (Some s) is word room =
      let live : List SessionRow = live_sessions past e.at in
      let F : Word → Option SessionRow = λ x. row_of session_name x live in
      let there : row_of session_name w live ≡ Some s = ap F word ∙ renewed_there user presented s is in
      let less : suc (length (without session_name w live)) ≡ length live = length-without session_name w live s (sessions_distinct past e.at) there in
      let fewer : length (without session_name w (filter_map k live)) ≤ length (without session_name w live) = kept_beside session_name k names w live in
      let all : length live ≤ 65536 = most in
      omega arith

-- ---- the session of the provider's answer

-- without a user no session is made
unsigned : (past : OpPast) (p : OpPair) (given : Option Word) (row : SessionRow) → session_made_by (sessions past) past p given None ≡ Some row → ⊥
unsigned past p None row made = cc
unsigned past p (Some w) row made = cc

module _ (c : Configuration) (past : OpPast) (e : Entry OpAsk) where
  leaves : (asked : OpAsk) (told : OpReply) (row : SessionRow) → e.ask ≡ asked → op_answer c past e ≡ told
      → session_made_by (sessions past) past (record { entry = e; reply = told }) (session_set asked told) (signed_user asked) ≡ Some row → LeavesSession past e asked told row
  leaves (ask.Login turn (Some user) b presented) (reply.ConsentPage v browser (Some w) page scopes) row is led made =
      let C : OpAsk → Type 0 = λ a. ConsentPageCause c past e a v browser (Some w) page scopes in
      let cause : C (ask.Login turn (Some user) b presented) = subst C is (consent_pages_have_a_cause c past e v browser (Some w) page scopes led) in
      record {
        user = user;
        presented = presented;
        w = w;
        own = refl;
        word_is = word_set past e (reply.ConsentPage v browser (Some w) page scopes) w user row made;
        left = some_same w (session_after past e user presented).word cause.given_is;
        lacks = refl;
        ends = λ x. refl;
      }
  leaves (ask.Login turn (Some user) b presented) (reply.Answered answer (Some w)) row is led made =
      let C : OpAsk → Type 0 = λ a. AnsweredCause c past e a answer (Some w) in
      let cause : C (ask.Login turn (Some user) b presented) = subst C is (answers_have_a_cause c past e answer (Some w) led) in
      record {
        user = user;
        presented = presented;
        w = w;
        own = refl;
        word_is = word_set past e (reply.Answered answer (Some w)) w user row made;
        left = some_same w (session_after past e user presented).word cause.given_is;
        lacks = refl;
        ends = λ x. refl;
      }
  leaves (ask.Login turn (Some user) b presented) (reply.Refused refusal (Some w)) row is led made =
      let C : OpAsk → Type 0 = λ a. RefusedCause c past e a refusal (Some w) in
      let cause : C (ask.Login turn (Some user) b presented) = subst C is (refusals_have_a_cause c past e refusal (Some w) led) in
      record {
        user = user;
        presented = presented;
        w = w;
        own = refl;
        word_is = word_set past e (reply.Refused refusal (Some w)) w user row made;
        left = some_same w (session_after past e user presented).word cause.given_is;
        lacks = refl;
        ends = λ x. refl;
      }
  leaves (ask.Login turn None b presented) told row is led made =
      absurd (unsigned past (record { entry = e; reply = told }) (session_set (ask.Login turn None b presented) told) row made)
  leaves asked told row is led made = cc

-- ---- as the pair leaves the live sessions, there is room beside the one of its word

module _ (c : Configuration) (past : OpPast) (p : OpPair) (answers : p.reply ≡ op_answer c past p.entry) (most : length (live_sessions past p.entry.at) ≤ most_rows) where
  room_there : is_own p.reply ≡ true → lacks_session past p.entry.at p.entry.ask p.reply ≡ false
  room_there own =
      second_false (lacks_turn past p.entry.at p.entry.ask p.reply) (lacks_session past p.entry.at p.entry.ask p.reply) (lacks_code past p.entry.at (code_in p.reply))
      (lacks_access past p.entry.at (access_in p.reply)) (own_replies_stand c past p.entry p.reply own (sym answers)).room

  ended_there : (row : SessionRow) → ends_session p.entry.ask p.reply row.word ≡ true → session_kept past p row ≡ None
  ended_there row ended =
      let used : SessionRow = record row { clients = and_client (client_answered past p) row.clients } in
      let B : Bool → Option SessionRow = λ b. cond b None (cond (is_word (session_used past p.entry.ask p.reply) row.word) (Some used) (Some row)) in
      ap B ended

  pub few_beside : (row : SessionRow) → session_made (sessions past) past p ≡ Some row → length (without session_name row.word (filter_map (session_kept past p) (live_sessions past p.entry.at))) < most_rows
  few_beside row made =
      let told = leaves c past p.entry p.entry.ask p.reply row refl (sym answers) made in
      let ends : EndsFor (session_kept past p) told.presented told.w = λ r e. ended_there r (told.ends r.word ∙ e) in
      let L : Word → Type 0 = λ x. length (without session_name x (filter_map (session_kept past p) (live_sessions past p.entry.at))) < most_rows in
      subst L (sym told.word_is)
      (few_left past p.entry (session_kept past p) (session_names past p) most told.user told.presented told.w ends (session_renewed past p.entry.at told.user told.presented) refl
      told.left (sym told.lacks ∙ room_there told.own))
