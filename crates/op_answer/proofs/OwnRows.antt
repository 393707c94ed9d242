-- The rows of a legal past are about wishes that requests to this provider give, and about users and clients of the registry.
use Rattle.std.proofs.Common.{◌≡◌, ◌≤◌, ◌<◌, ℕ, Bool, true, false, ◌&&◌, [], ◌∷◌, length, Option, Some, None, option_map, Ok, refl, sym, ◌∙◌, ap, subst, arith}
use Rattle.sso_base.specs.Words.{Word, IsWord, fresh_word, word_of_text}
use Rattle.sso_base.specs.Rows.{row_of}
use Rattle.sso_base.specs.Values.{latest_moment}
use Rattle.sso_base.specs.Legal.{last_moment}
use Rattle.sso_base.proofs.DrawnWords.{drawn_is_word}
use Rattle.held_rows.proofs.Found.{row_that_lives}
use Rattle.client_registry.specs.Configuration.{Configuration}
use Rattle.client_registry.specs.Numbers.{is_client, is_user}
use Rattle.auth_request.specs.declared.wish.Wish.{Wish}
use Rattle.auth_request.specs.declared.wish.Verdict.TheVariants as verdict
use Rattle.auth_request.specs.Values.{is_short_nonce}
use Rattle.code_grant.specs.declared.rows.TurnRow.{TurnRow}
use Rattle.code_grant.specs.declared.rows.SessionRow.{SessionRow}
use Rattle.code_grant.specs.declared.rows.CodeRow.{CodeRow}
use Rattle.code_grant.specs.declared.rows.TokenRow.{TokenRow}
use Rattle.code_grant.specs.Rows.{turn_name, session_name, session_begun, code_name, access_name}
use Rattle.oidc_words.specs.Lives.{session_life}
use Rattle.op_exchange.specs.declared.ask.OpAsk.{OpAsk}
use Rattle.op_exchange.specs.declared.ask.OpAsk.TheVariants as ask
use Rattle.op_exchange.specs.declared.reply.OpReply.{OpReply}
use Rattle.op_exchange.specs.declared.reply.OpReply.TheVariants as reply
use Rattle.op_exchange.specs.Asks.{is_prepared}
use Rattle.op_exchange.specs.Values.{IsOpAsk}
use Rattle.op_exchange.specs.Replied.{session_given, code_in}
use Rattle.op_answer.specs.Past.{OpPair, OpPast}
use Rattle.op_answer.specs.Turns.{turns, turn_started, turn_made, turn_kept, turn_of}
use Rattle.op_answer.specs.Sessions.{sessions, session_set, signed_user, wish_by, session_used, session_by, live_in, session_made_by, session_made, session_kept, session_of}
use Rattle.op_answer.specs.Codes.{codes_issued, code_issued, code_made_by, code_made, code_kept, code_of}
use Rattle.op_answer.specs.AccessTokens.{accesses, access_issued, access_answered, access_redeemed, access_given, access_made, access_kept}
use Rattle.op_answer.specs.Answering.{op_answer}
use Rattle.op_answer.specs.Causes.{is_own}
use Rattle.op_answer.specs.Legal.{IsLegalOp}
use Rattle.op_answer.specs.OwnRows.{IsOwnWish, IsOwnTurn, IsOwnSession, IsOwnCode, IsOwnToken}
use Rattle.op_answer.proofs.KeptNames.{some_same, turn_names, session_names, code_names, access_names}
use Rattle.op_answer.proofs.KeptRows.{turn_wish_kept, turn_begun_kept, session_keeps, code_keeps, access_keeps}
use Rattle.op_answer.proofs.Standing.{own_replies_stand}
use Rattle.op_answer.proofs.EachRow.{each_row}

no_later : (n : ℕ) → n ≤ n
no_later n = omega arith

later : (a b l m : ℕ) → a ≡ b → b ≤ l → l ≤ m → a ≤ m
later a b l m is low order = omega (arith, is, low, order)

pub last_is_moment : (c : Configuration) (past : OpPast) → IsLegalOp c past → last_moment past ≤ latest_moment
last_is_moment c [] legal = omega arith
last_is_moment c (p ∷ past) legal = legal.1.moment

-- ---- which replies are to asks that a request gives

given_is_own : (told : OpReply) (w : Word) → session_given told ≡ Some w → is_own told ≡ true
given_is_own reply.NotHere w h = cc
given_is_own reply.Full w h = cc
given_is_own other w h = refl

set_is_own : (asked : OpAsk) (told : OpReply) (w : Word) → session_set asked told ≡ Some w → is_own told ≡ true
set_is_own (ask.Login turn signed browser presented) told w h = given_is_own told w h
set_is_own asked told w h = cc

code_is_own : (told : OpReply) (w : Word) → code_in told ≡ Some w → is_own told ≡ true
code_is_own (reply.Answered answer given) w h = refl
code_is_own other w h = cc

known_client : (client short openid : Bool) → (client && short && openid) ≡ true → client ≡ true
known_client true short openid h = refl
known_client false short openid h = cc

module _ (c : Configuration) where
  -- ---- what a pair's ask gives

  module _ (past : OpPast) (p : OpPair) (legal : IsLegalOp c (p ∷ past)) where
    asked_is_prepared : is_own p.reply ≡ true → is_prepared c p.entry.ask ≡ true
    asked_is_prepared own = (own_replies_stand c past p.entry p.reply own (sym legal.3)).prepared

    wish_asked : (wish : Wish) (browser presented : Option Word) → is_own p.reply ≡ true → p.entry.ask ≡ ask.Authorize (verdict.Grant wish) browser presented → IsOwnWish c wish
    wish_asked wish browser presented own is =
        let A : OpAsk → Bool = λ a. is_prepared c a in
        let V : OpAsk → Type 0 = λ a. IsOpAsk a in
        let value : V (ask.Authorize (verdict.Grant wish) browser presented) = subst V is legal.1.ask in
        record { prepared = sym (ap A is) ∙ asked_is_prepared own; value = value.0 }

    pub user_signed : (asked : OpAsk) (user : ℕ) → p.entry.ask ≡ asked → is_own p.reply ≡ true → signed_user asked ≡ Some user → is_user c user ≡ true
    user_signed (ask.Login turn (Some signed) browser presented) user is own h =
        let A : OpAsk → Bool = λ a. is_prepared c a in
        let U : ℕ → Bool = λ n. is_user c n in
        sym (ap U (some_same signed user h)) ∙ sym (ap A is) ∙ asked_is_prepared own
    user_signed (ask.Login turn None browser presented) user is own h = cc
    user_signed asked user is own h = cc

    drawn_word : (n : ℕ) → n < 4 → IsWord (fresh_word p.entry.fresh n)
    drawn_word n low =
        drawn_is_word IsOpAsk (op_answer c) (p ∷ past) (fresh_word p.entry.fresh n) legal
        (record { later = []; maker = p; earlier = past; parts = refl; number = n; low = low; drawn = refl })

  -- ---- turns

  turn_begins : (past : OpPast) (p : OpPair) (row : TurnRow) → IsLegalOp c (p ∷ past) → (asked : OpAsk) (told : OpReply) → p.entry.ask ≡ asked → p.reply ≡ told
      → turn_started p.entry.at asked told ≡ Some row → IsOwnTurn c (p ∷ past) row
  turn_begins past p row legal (ask.Authorize (verdict.Grant wish) b session) (reply.LoginPage w browser again) is told h =
      let made : TurnRow = record { word = w; browser = browser; wish = wish; session = None; in_turn = false; begun = p.entry.at } in
      let O : TurnRow → Type 0 = λ r. IsOwnTurn c (p ∷ past) r in
      subst O (some_same made row h) (record { wish = wish_asked past p legal wish b session (ap is_own told) is; begun = no_later p.entry.at })
  turn_begins past p row legal (ask.Authorize (verdict.Grant wish) b session) (reply.ConsentPage w browser given client scopes) is told h =
      let made : TurnRow = record { word = w; browser = browser; wish = wish; session = session; in_turn = false; begun = p.entry.at } in
      let O : TurnRow → Type 0 = λ r. IsOwnTurn c (p ∷ past) r in
      subst O (some_same made row h) (record { wish = wish_asked past p legal wish b session (ap is_own told) is; begun = no_later p.entry.at })
  turn_begins past p row legal asked told is replied h = cc

  turn_stays : (past : OpPast) (p : OpPair) (before row : TurnRow) → IsLegalOp c (p ∷ past) → IsOwnTurn c past before → turn_kept past p before ≡ Some row → IsOwnTurn c (p ∷ past) row
  turn_stays past p before row legal own h =
      let W : Wish → Type 0 = λ w. IsOwnWish c w in
      record {
        wish = subst W (sym (turn_wish_kept past p before row h)) own.wish;
        begun = later row.begun before.begun (last_moment past) p.entry.at (turn_begun_kept past p before row h) own.begun legal.2;
      }

  pub turns_are_own : (past : OpPast) → IsLegalOp c past → (w : Word) (row : TurnRow) → row_of turn_name w (turns past) ≡ Some row → IsOwnTurn c past row
  turns_are_own past legal w row h =
      each_row turn_name turn_made turn_kept turn_names c (IsOwnTurn c) (λ q p r l all made. turn_begins q p r l p.entry.ask p.reply refl refl made) turn_stays past legal w row h

  -- ---- sessions

  session_begins_by : (past : OpPast) (p : OpPair) → IsLegalOp c (p ∷ past) → ((w : Word) (row : SessionRow) → row_of session_name w (sessions past) ≡ Some row → IsOwnSession c past row)
      → (w : Word) (user : ℕ) → is_user c user ≡ true → (found : Option SessionRow) → live_in p.entry.at w (sessions past) ≡ found → IsOwnSession c (p ∷ past) (session_by past p found w user)
  session_begins_by past p legal all w user known None live = record { user = known; sid = drawn_word past p legal 1 (omega arith); auth_time = no_later p.entry.at }
  session_begins_by past p legal all w user known (Some before) live =
      let own = all w before (row_that_lives session_life session_begun p.entry.at (row_of session_name w (sessions past)) before live) in
      record { user = own.user; sid = own.sid; auth_time = no_later p.entry.at }

  session_begins : (past : OpPast) (p : OpPair) (row : SessionRow) → IsLegalOp c (p ∷ past) → ((w : Word) (r : SessionRow) → row_of session_name w (sessions past) ≡ Some r → IsOwnSession c past r)
      → (w : Option Word) (user : Option ℕ) → session_set p.entry.ask p.reply ≡ w → signed_user p.entry.ask ≡ user → session_made_by (sessions past) past p w user ≡ Some row → IsOwnSession c (p ∷ past) row
  session_begins past p row legal all (Some w) (Some user) set signed h =
      let held : Option SessionRow = live_in p.entry.at w (sessions past) in
      let known : is_user c user ≡ true = user_signed past p legal p.entry.ask user refl (set_is_own p.entry.ask p.reply w set) signed in
      let O : SessionRow → Type 0 = λ r. IsOwnSession c (p ∷ past) r in
      subst O (some_same (session_by past p held w user) row h) (session_begins_by past p legal all w user known held refl)
  session_begins past p row legal all (Some w) None set signed h = cc
  session_begins past p row legal all None user set signed h = cc

  session_stays : (past : OpPast) (p : OpPair) (before row : SessionRow) → IsLegalOp c (p ∷ past) → IsOwnSession c past before → session_kept past p before ≡ Some row → IsOwnSession c (p ∷ past) row
  session_stays past p before row legal own h =
      let U : SessionRow → Bool = λ r. is_user c r.user in
      let T : SessionRow → ℕ = λ r. r.auth_time in
      let same_sid : row.sid ≡ before.sid = session_keeps (λ (r : SessionRow). r.sid) (λ r clients. refl) past p before row h in
      record {
        user = session_keeps U (λ r clients. refl) past p before row h ∙ own.user;
        sid = subst IsWord (sym same_sid) own.sid;
        auth_time = later row.auth_time before.auth_time (last_moment past) p.entry.at (session_keeps T (λ r clients. refl) past p before row h) own.auth_time legal.2;
      }

  pub sessions_are_own : (past : OpPast) → IsLegalOp c past → (w : Word) (row : SessionRow) → row_of session_name w (sessions past) ≡ Some row → IsOwnSession c past row
  sessions_are_own past legal w row h =
      each_row session_name session_made session_kept session_names c (IsOwnSession c)
      (λ q p r l all made. session_begins q p r l all (session_set p.entry.ask p.reply) (signed_user p.entry.ask) refl refl made) session_stays past legal w row h

  -- ---- codes

  turn_found : (past : OpPast) → IsLegalOp c past → (turn : Option Word) (row : TurnRow) → turn_of past turn ≡ Some row → IsOwnTurn c past row
  turn_found past legal (Some w) row h = turns_are_own past legal w row h
  turn_found past legal None row h = cc

  session_found : (past : OpPast) → IsLegalOp c past → (session : Option Word) (row : SessionRow) → session_of past session ≡ Some row → IsOwnSession c past row
  session_found past legal (Some w) row h = sessions_are_own past legal w row h
  session_found past legal None row h = cc

  wish_of_turn : (past : OpPast) → IsLegalOp c past → (turn : Option Word) (wish : Wish) (found : Option TurnRow) → turn_of past turn ≡ found → option_map (λ (row : TurnRow). row.wish) found ≡ Some wish → IsOwnWish c wish
  wish_of_turn past legal turn wish (Some row) is h =
      let W : Wish → Type 0 = λ w. IsOwnWish c w in
      subst W (some_same row.wish wish h) (turn_found past legal turn row is).wish
  wish_of_turn past legal turn wish None is h = cc

  wish_found : (past : OpPast) (p : OpPair) (wish : Wish) → IsLegalOp c (p ∷ past) → is_own p.reply ≡ true → (asked : OpAsk) → p.entry.ask ≡ asked → wish_by past asked ≡ Some wish → IsOwnWish c wish
  wish_found past p wish legal own (ask.Authorize (verdict.Grant w) browser presented) is h =
      let W : Wish → Type 0 = λ v. IsOwnWish c v in
      subst W (some_same w wish h) (wish_asked past p legal w browser presented own is)
  wish_found past p wish legal own (ask.Authorize (verdict.Page why) browser presented) is h = cc
  wish_found past p wish legal own (ask.Authorize (verdict.Refuse refusal) browser presented) is h = cc
  wish_found past p wish legal own (ask.Login turn signed browser presented) is h = wish_of_turn past legal.0 turn wish (turn_of past turn) refl h
  wish_found past p wish legal own (ask.Consent turn agree browser presented) is h = wish_of_turn past legal.0 turn wish (turn_of past turn) refl h
  wish_found past p wish legal own asked is h = cc

  code_begins : (past : OpPast) (p : OpPair) (row : CodeRow) → IsLegalOp c (p ∷ past) → (used : Option Word) (w : Option Word) (wish : Option Wish) (session : Option SessionRow) → code_in p.reply ≡ w
      → wish_by past p.entry.ask ≡ wish → session_of (p ∷ past) used ≡ session → code_made_by (length past) p.entry.at w wish session ≡ Some row → IsOwnCode c (p ∷ past) row
  code_begins past p row legal used (Some w) (Some wish) (Some session) code wish_is session_is h =
      let own = session_found (p ∷ past) legal used session session_is in
      let O : CodeRow → Type 0 = λ r. IsOwnCode c (p ∷ past) r in
      subst O (some_same (code_issued (length past) p.entry.at w wish session) row h)
      (record { wish = wish_found past p wish legal (code_is_own p.reply w code) p.entry.ask refl wish_is; user = own.user; sid = own.sid; auth_time = own.auth_time; issued = no_later p.entry.at })
  code_begins past p row legal used (Some w) (Some wish) None code wish_is session_is h = cc
  code_begins past p row legal used (Some w) None session code wish_is session_is h = cc
  code_begins past p row legal used None wish session code wish_is session_is h = cc

  code_stays : (past : OpPast) (p : OpPair) (before row : CodeRow) → IsLegalOp c (p ∷ past) → IsOwnCode c past before → code_kept past p before ≡ Some row → IsOwnCode c (p ∷ past) row
  code_stays past p before row legal own h =
      let W : Wish → Type 0 = λ w. IsOwnWish c w in
      let U : CodeRow → Bool = λ r. is_user c r.user in
      let T : CodeRow → ℕ = λ r. r.auth_time in
      let I : CodeRow → ℕ = λ r. r.issued in
      let same_wish : row.wish ≡ before.wish = code_keeps (λ (r : CodeRow). r.wish) (λ r spent. refl) past p before row h in
      let same_sid : row.sid ≡ before.sid = code_keeps (λ (r : CodeRow). r.sid) (λ r spent. refl) past p before row h in
      record {
        wish = subst W (sym same_wish) own.wish;
        user = code_keeps U (λ r spent. refl) past p before row h ∙ own.user;
        sid = subst IsWord (sym same_sid) own.sid;
        auth_time = later row.auth_time before.auth_time (last_moment past) p.entry.at (code_keeps T (λ r spent. refl) past p before row h) own.auth_time legal.2;
        issued = later row.issued before.issued (last_moment past) p.entry.at (code_keeps I (λ r spent. refl) past p before row h) own.issued legal.2;
      }

  pub codes_are_own : (past : OpPast) → IsLegalOp c past → (w : Word) (row : CodeRow) → row_of code_name w (codes_issued past) ≡ Some row → IsOwnCode c past row
  codes_are_own past legal w row h =
      each_row code_name code_made code_kept code_names c (IsOwnCode c)
      (λ q p r l all made. code_begins q p r l (session_used q p.entry.ask p.reply) (code_in p.reply) (wish_by q p.entry.ask) (session_of (p ∷ q) (session_used q p.entry.ask p.reply)) refl refl refl made)
      code_stays past legal w row h

  -- ---- access tokens

  code_found : (past : OpPast) → IsLegalOp c past → (code : Option Word) (row : CodeRow) → code_of past code ≡ Some row → IsOwnCode c past row
  code_found past legal (Some w) row h = codes_are_own past legal w row h
  code_found past legal None row h = cc

  client_known : (wish : Wish) → IsOwnWish c wish → is_client c wish.client ≡ true
  client_known wish own = known_client (is_client c wish.client) (is_short_nonce wish.nonce) wish.scopes.openid own.prepared

  token_redeemed : (past : OpPast) (p : OpPair) (row : TokenRow) → IsLegalOp c (p ∷ past) → (w : Word) (named : Option Word) (found : Option CodeRow) → code_of past named ≡ found
      → access_redeemed (length past) p.entry.at w found ≡ Some row → IsOwnToken c (p ∷ past) row
  token_redeemed past p row legal w named (Some code) is h =
      let own = code_found past legal.0 named code is in
      let O : TokenRow → Type 0 = λ r. IsOwnToken c (p ∷ past) r in
      subst O (some_same (access_issued (length past) p.entry.at w (Some code.word) code.wish code.user) row h)
      (record { client = client_known code.wish own.wish; user = own.user; issued = no_later p.entry.at })
  token_redeemed past p row legal w named None is h = cc

  token_answered : (past : OpPast) (p : OpPair) (row : TokenRow) → IsLegalOp c (p ∷ past) → is_own p.reply ≡ true → (used : Option Word) (w : Option Word) (wish : Option Wish) (session : Option SessionRow)
      → wish_by past p.entry.ask ≡ wish → session_of (p ∷ past) used ≡ session → access_answered (length past) p.entry.at w wish session ≡ Some row → IsOwnToken c (p ∷ past) row
  token_answered past p row legal own used (Some w) (Some wish) (Some session) wish_is session_is h =
      let whose = session_found (p ∷ past) legal used session session_is in
      let O : TokenRow → Type 0 = λ r. IsOwnToken c (p ∷ past) r in
      subst O (some_same (access_issued (length past) p.entry.at w None wish session.user) row h)
      (record { client = client_known wish (wish_found past p wish legal own p.entry.ask refl wish_is); user = whose.user; issued = no_later p.entry.at })
  token_answered past p row legal own used (Some w) (Some wish) None wish_is session_is h = cc
  token_answered past p row legal own used (Some w) None session wish_is session_is h = cc
  token_answered past p row legal own used None wish session wish_is session_is h = cc

  token_begins : (past : OpPast) (p : OpPair) (row : TokenRow) → IsLegalOp c (p ∷ past) → (asked : OpAsk) (told : OpReply) → p.entry.ask ≡ asked → p.reply ≡ told → access_given past p asked told ≡ Some row
      → IsOwnToken c (p ∷ past) row
  token_begins past p row legal (ask.Token (Ok grant)) (reply.Tokens w id) is told h = token_redeemed past p row legal w (word_of_text grant.code) (code_of past (word_of_text grant.code)) refl h
  token_begins past p row legal asked (reply.Answered answer given) is told h =
      let used : Option Word = session_used past asked (reply.Answered answer given) in
      let W : OpAsk → Option Wish = λ a. wish_by past a in
      token_answered past p row legal (ap is_own told) used answer.access (wish_by past asked) (session_of (p ∷ past) used) (ap W is) refl h
  token_begins past p row legal asked told is replied h = cc

  token_stays : (past : OpPast) (p : OpPair) (before row : TokenRow) → IsLegalOp c (p ∷ past) → IsOwnToken c past before → access_kept past p before ≡ Some row → IsOwnToken c (p ∷ past) row
  token_stays past p before row legal own h =
      let C : TokenRow → Bool = λ r. is_client c r.client in
      let U : TokenRow → Bool = λ r. is_user c r.user in
      let I : TokenRow → ℕ = λ r. r.issued in
      record {
        client = access_keeps C past p before row h ∙ own.client;
        user = access_keeps U past p before row h ∙ own.user;
        issued = later row.issued before.issued (last_moment past) p.entry.at (access_keeps I past p before row h) own.issued legal.2;
      }

  pub tokens_are_own : (past : OpPast) → IsLegalOp c past → (w : Word) (row : TokenRow) → row_of access_name w (accesses past) ≡ Some row → IsOwnToken c past row
  tokens_are_own past legal w row h =
      each_row access_name access_made access_kept access_names c (IsOwnToken c) (λ q p r l all made. token_begins q p r l p.entry.ask p.reply refl refl made) token_stays past legal w row h
