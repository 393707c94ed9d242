-- The rows after a place of a login at the provider: the turn of a page, the session of a correct password, and the code and
-- the access token of an answer.
use Rattle.std.proofs.Common.{◌≡◌, ℕ, ◌==◌, Bool, true, false, not, cond, ◌∷◌, length, Option, Some, None, option_and_then, Ok, refl, sym, ◌∙◌, ap, subst, inl, inr}
use Rattle.std.proofs.lemmas.Bool.{eqb-true}
use Rattle.std.specs.Str.{bytes_eq}
use Rattle.sso_base.specs.Words.{Word, Text, is_word, fresh_word, word_of_text}
use Rattle.sso_base.specs.Rows.{row_of}
use Rattle.sso_base.proofs.RowLaws.{row_has_name, bool_cases, bytes_true}
use Rattle.held_rows.proofs.Found.{row_that_lives}
use Rattle.oidc_words.specs.Lives.{session_life}
use Rattle.oidc_words.specs.declared.scopes.Scopes.{Scopes}
use Rattle.auth_request.specs.declared.wish.Wish.{Wish}
use Rattle.auth_request.specs.declared.wish.Verdict.TheVariants as verdict
use Rattle.auth_answer.specs.declared.answer.Answer.{Answer}
use Rattle.token_endpoint.specs.declared.granting.Grant.{Grant}
use Rattle.code_grant.specs.declared.rows.TurnRow.{TurnRow}
use Rattle.code_grant.specs.declared.rows.SessionRow.{SessionRow}
use Rattle.code_grant.specs.declared.rows.CodeRow.{CodeRow}
use Rattle.code_grant.specs.declared.rows.TokenRow.{TokenRow}
use Rattle.code_grant.specs.Rows.{turn_name, session_name, session_begun, code_name, access_name}
use Rattle.op_exchange.specs.declared.ask.OpAsk.{OpAsk}
use Rattle.op_exchange.specs.declared.ask.OpAsk.TheVariants as ask
use Rattle.op_exchange.specs.declared.reply.OpReply.{OpReply}
use Rattle.op_exchange.specs.declared.reply.OpReply.TheVariants as reply
use Rattle.op_exchange.specs.Replied.{ends_turn, session_given, code_in}
use Rattle.op_issue.specs.declared.issuing.Authentication.{Authentication}
use Rattle.op_answer.specs.Authentications.{session_authentication}
use Rattle.op_answer.specs.Past.{OpPair, OpPast}
use Rattle.op_answer.specs.Turns.{turns, turn_named, turn_started, turn_made, turn_kept, turn_taken}
use Rattle.op_answer.specs.Sessions.{sessions, session_set, signed_user, wish_by, session_used, session_by, live_in, session_made_by, session_made, session_kept, ends_session, and_client, client_answered, session_of, live_session}
use Rattle.op_answer.specs.Codes.{code_issued, code_made_by, code_made, code_kept, code_of}
use Rattle.op_answer.specs.AccessTokens.{access_issued, access_answered, access_redeemed, access_given, access_made, access_kept, access_token_of}
use Rattle.op_answer.specs.Replies.{if_of_user, session_renewed, session_left, session_after}
use Rattle.op_answer.proofs.KeptNames.{some_same, turn_names, session_names, code_names, access_names}
use Rattle.op_answer.proofs.Renewals.{renewed_lives}
use Rattle.sso_base.specs.Stands.{is_named}
use Rattle.honest_places.proofs.Persisting.{made_stands, kept_stands}
use Rattle.honest_provider.proofs.Rows.{kept_by}
use Rattle.honest_provider.specs.Sparing.{without_clients}

module _ (past : OpPast) (p : OpPair) where
  -- ---- turns

  started : (asked : OpAsk) (told : OpReply) (row : TurnRow) → p.entry.ask ≡ asked → p.reply ≡ told → turn_started p.entry.at asked told ≡ Some row → turn_made (turns past) past p ≡ Some row
  started asked told row is said h =
      let A : OpAsk → Option TurnRow = λ a. turn_started p.entry.at a p.reply in
      let T : OpReply → Option TurnRow = λ r. turn_started p.entry.at asked r in
      ap A is ∙ (ap T said ∙ h)

  pub page_turn : (wish : Wish) (b session : Option Word) (w v : Word) (again : Bool) → p.entry.ask ≡ ask.Authorize (verdict.Grant wish) b session → p.reply ≡ reply.LoginPage w v again
      → row_of turn_name w (turns (p ∷ past)) ≡ Some (record { word = w; browser = v; wish = wish; session = None; in_turn = false; begun = p.entry.at })
  page_turn wish b session w v again is said =
      let row : TurnRow = record { word = w; browser = v; wish = wish; session = None; in_turn = false; begun = p.entry.at } in
      made_stands turn_name turn_made turn_kept turn_names past p row (started (ask.Authorize (verdict.Grant wish) b session) (reply.LoginPage w v again) row is said refl)

  pub consent_turn : (wish : Wish) (b session : Option Word) (w v : Word) (given : Option Word) (client : Text) (scopes : Scopes) → p.entry.ask ≡ ask.Authorize (verdict.Grant wish) b session
      → p.reply ≡ reply.ConsentPage w v given client scopes
      → row_of turn_name w (turns (p ∷ past)) ≡ Some (record { word = w; browser = v; wish = wish; session = session; in_turn = false; begun = p.entry.at })
  consent_turn wish b session w v given client scopes is said =
      let row : TurnRow = record { word = w; browser = v; wish = wish; session = session; in_turn = false; begun = p.entry.at } in
      made_stands turn_name turn_made turn_kept turn_names past p row (started (ask.Authorize (verdict.Grant wish) b session) (reply.ConsentPage w v given client scopes) row is said refl)

  -- a login form for the turn got a consent page
  pub turn_signed : (w : Word) (row : TurnRow) (signed : Option ℕ) (b presented : Option Word) (v u s : Word) (client : Text) (scopes : Scopes) → p.entry.ask ≡ ask.Login (Some w) signed b presented
      → p.reply ≡ reply.ConsentPage v u (Some s) client scopes → row_of turn_name w (turns past) ≡ Some row
      → row_of turn_name w (turns (p ∷ past)) ≡ Some (record row { session = Some s; in_turn = true })
  turn_signed w row signed b presented v u s client scopes is said there =
      let asked : OpAsk = ask.Login (Some w) signed b presented in
      let told : OpReply = reply.ConsentPage v u (Some s) client scopes in
      let M : OpAsk → Option TurnRow = λ a. turn_started p.entry.at a p.reply in
      let K : OpAsk → OpReply → Option TurnRow = λ a r. cond (not (is_word (turn_named a) row.word)) (Some row) (cond (ends_turn r) None (Some (turn_taken a r row))) in
      let B : Bool → Option TurnRow = λ x. cond (not x) (Some row) (Some (record row { session = Some s; in_turn = true })) in
      let named : bytes_eq w row.word ≡ true = bytes_true w row.word (sym (row_has_name turn_name w (turns past) row there)) in
      kept_stands turn_name turn_made turn_kept turn_names past p w row (record row { session = Some s; in_turn = true }) (ap (λ (o : Option TurnRow). is_named turn_name w o) (ap M is))
      there (ap (λ (a : OpAsk). K a p.reply) is ∙ (ap (K asked) said ∙ ap B named))

  -- ---- sessions

  -- the session of a right password: it has the word that the reply gives, is the user's and is of this moment
  pub record Signed (w : Word) (user : ℕ) (left : SessionRow) : Type 0 where
    pub row : SessionRow
    pub stands : session_of (p ∷ past) (Some w) ≡ Some row
    pub user_is : row.user ≡ user
    pub now : row.auth_time ≡ p.entry.at
    pub as_left : session_authentication row ≡ session_authentication left

  -- no session has the first word that was drawn
  abbrev pub IsNew : Type 0
  IsNew = (row : SessionRow) → row_of session_name (fresh_word p.entry.fresh 0) (sessions past) ≡ Some row → ⊥

  of_user : (user : ℕ) (found : Option SessionRow) (s : SessionRow) → option_and_then (if_of_user user) found ≡ Some s → s.user ≡ user
  of_user user None s h = cc
  of_user user (Some found) s h =
      let F : Bool → Option SessionRow = λ b. cond b (Some found) None in
      elim (bool_cases (found.user == user)) [
        | inl same ↦ ap (λ (r : SessionRow). r.user) (sym (some_same found s (sym (ap F same) ∙ h))) ∙ eqb-true found.user user same
        | inr other ↦ (let never : None ≡ Some s = sym (ap F other) ∙ h in cc)
      ]

  -- the session in the table is the one that was left, except for its clients
  record IsLeft (w : Word) (user : ℕ) (row left : SessionRow) : Type 0 where
    word : row.word ≡ w
    user_is : row.user ≡ user
    as_left : session_authentication row ≡ session_authentication left

  left_by : (w : Word) (user : ℕ) (presented : Option Word) (renewed found : Option SessionRow) → session_renewed past p.entry.at user presented ≡ renewed → w ≡ (session_left p.entry user renewed).word
      → live_in p.entry.at w (sessions past) ≡ found → IsNew → IsLeft w user (session_by past p found w user) (session_left p.entry user renewed)
  left_by w user presented None None is word live new = record { word = refl; user_is = refl; as_left = refl }
  left_by w user presented None (Some before) is word live new =
      let L : Word → Type 0 = λ v. row_of session_name v (sessions past) ≡ Some before in
      absurd (new before (subst L word (row_that_lives session_life session_begun p.entry.at (row_of session_name w (sessions past)) before live)))
  left_by w user presented (Some s) None is word live new =
      (let never : None ≡ Some s = sym live ∙ renewed_lives past p.entry.at user presented s w is word in absurd (cc))
  left_by w user presented (Some s) (Some before) is word live new =
      let same : before ≡ s = some_same before s (sym live ∙ renewed_lives past p.entry.at user presented s w is word) in
      let A : SessionRow → Authentication = λ r. session_authentication (record r { auth_time = p.entry.at }) in
      record {
        word = row_has_name session_name w (sessions past) before (row_that_lives session_life session_begun p.entry.at (row_of session_name w (sessions past)) before live);
        user_is = ap (λ (r : SessionRow). r.user) same ∙ of_user user (live_session past p.entry.at presented) s is;
        as_left = ap A same;
      }

  set_of : (asked : OpAsk) (turn : Option Word) (user : ℕ) (b presented : Option Word) (w : Word) → asked ≡ ask.Login turn (Some user) b presented → session_given p.reply ≡ Some w
      → session_made_by (sessions past) past p (session_set asked p.reply) (signed_user asked) ≡ Some (session_by past p (live_in p.entry.at w (sessions past)) w user)
  set_of asked turn user b presented w is given =
      let F : OpAsk → Option SessionRow = λ a. session_made_by (sessions past) past p (session_set a p.reply) (signed_user a) in
      let G : Option Word → Option SessionRow = λ o. session_made_by (sessions past) past p o (Some user) in
      ap F is ∙ ap G given

  pub signs : (turn : Option Word) (user : ℕ) (b presented : Option Word) (w : Word) → p.entry.ask ≡ ask.Login turn (Some user) b presented → session_given p.reply ≡ Some w
      → w ≡ (session_after past p.entry user presented).word → IsNew → Signed w user (session_after past p.entry user presented)
  signs turn user b presented w is given word new =
      let found : Option SessionRow = live_in p.entry.at w (sessions past) in
      let row : SessionRow = session_by past p found w user in
      let facts = left_by w user presented (session_renewed past p.entry.at user presented) found refl word refl new in
      let S : Word → Type 0 = λ v. row_of session_name v (sessions (p ∷ past)) ≡ Some row in
      record {
        row = row;
        stands = subst S facts.word (made_stands session_name session_made session_kept session_names past p row (set_of p.entry.ask turn user b presented w is given));
        user_is = facts.user_is;
        now = refl;
        as_left = facts.as_left;
      }

  -- an authorization request and a consent form keep each session, except for its clients
  abbrev pub leaves_sessions : OpAsk → Bool
  leaves_sessions (ask.Authorize judged b session) = true
  leaves_sessions (ask.Consent turn agree b session) = true
  leaves_sessions asked = false

  unset : (asked : OpAsk) (told : OpReply) (user : Option ℕ) → leaves_sessions asked ≡ true → session_made_by (sessions past) past p (session_set asked told) user ≡ None
  unset (ask.Authorize judged b session) told user h = refl
  unset (ask.Consent turn agree b session) told user h = refl
  unset asked told user h = cc

  unended : (asked : OpAsk) (told : OpReply) (v : Word) → leaves_sessions asked ≡ true → ends_session asked told v ≡ false
  unended (ask.Authorize judged b session) told v h = refl
  unended (ask.Consent turn agree b session) told v h = refl
  unended asked told v h = cc

  pub record Stayed (w : Word) (row : SessionRow) : Type 0 where
    pub after : SessionRow
    pub stands : session_of (p ∷ past) (Some w) ≡ Some after
    pub same : without_clients after ≡ without_clients row

  pub session_stays : (w : Word) (row : SessionRow) → leaves_sessions p.entry.ask ≡ true → session_of past (Some w) ≡ Some row → Stayed w row
  session_stays w row leaves there =
      let left = kept_by row (record row { clients = and_client (client_answered past p) row.clients }) (ends_session p.entry.ask p.reply row.word) (is_word (session_used past p.entry.ask p.reply) row.word)
      (unended p.entry.ask p.reply row.word leaves) refl in
      record {
        after = left.0;
        stands = kept_stands session_name session_made session_kept session_names past p w row left.0 (ap (λ (o : Option SessionRow). is_named session_name w o) (unset p.entry.ask p.reply (signed_user p.entry.ask) leaves)) there left.1;
        same = left.2;
      }

  -- ---- the code and the access token of an answer

  pub code_stands : (k : Word) (wish : Wish) (session : SessionRow) → code_in p.reply ≡ Some k → wish_by past p.entry.ask ≡ Some wish
      → session_of (p ∷ past) (session_used past p.entry.ask p.reply) ≡ Some session
      → code_of (p ∷ past) (Some k) ≡ Some (code_issued (length past) p.entry.at k wish session)
  code_stands k wish session code wish_is session_is =
      let W : Option Wish = wish_by past p.entry.ask in
      let S : Option SessionRow = session_of (p ∷ past) (session_used past p.entry.ask p.reply) in
      let F : Option Word → Option CodeRow = λ o. code_made_by (length past) p.entry.at o W S in
      let G : Option Wish → Option CodeRow = λ o. code_made_by (length past) p.entry.at (Some k) o S in
      let H : Option SessionRow → Option CodeRow = λ o. code_made_by (length past) p.entry.at (Some k) (Some wish) o in
      made_stands code_name code_made code_kept code_names past p (code_issued (length past) p.entry.at k wish session) (ap F code ∙ (ap G wish_is ∙ ap H session_is))

  given_by : (asked : OpAsk) (answer : Answer) (given : Option Word) → access_given past p asked (reply.Answered answer given)
      ≡ access_answered (length past) p.entry.at answer.access (wish_by past asked) (session_of (p ∷ past) (session_used past asked (reply.Answered answer given)))
  given_by (ask.Authorize judged b session) answer given = refl
  given_by (ask.Login turn signed b session) answer given = refl
  given_by (ask.Consent turn agree b session) answer given = refl
  given_by (ask.Token (Ok grant)) answer given = refl
  given_by asked answer given = refl

  pub access_stands : (answer : Answer) (given : Option Word) (a : Word) (wish : Wish) (session : SessionRow) → p.reply ≡ reply.Answered answer given → answer.access ≡ Some a → wish_by past p.entry.ask ≡ Some wish
      → session_of (p ∷ past) (session_used past p.entry.ask p.reply) ≡ Some session
      → access_token_of (p ∷ past) a ≡ Some (access_issued (length past) p.entry.at a None wish session.user)
  access_stands answer given a wish session replied access wish_is session_is =
      let told : OpReply = reply.Answered answer given in
      let W : Option Wish = wish_by past p.entry.ask in
      let R : OpReply → Option TokenRow = λ r. access_given past p p.entry.ask r in
      let U : OpReply → Option SessionRow = λ r. session_of (p ∷ past) (session_used past p.entry.ask r) in
      let F : Option Word → Option TokenRow = λ o. access_answered (length past) p.entry.at o W (U told) in
      let G : Option Wish → Option TokenRow = λ o. access_answered (length past) p.entry.at (Some a) o (U told) in
      let H : Option SessionRow → Option TokenRow = λ o. access_answered (length past) p.entry.at (Some a) (Some wish) o in
      made_stands access_name access_made access_kept access_names past p (access_issued (length past) p.entry.at a None wish session.user)
      (ap R replied ∙ (given_by p.entry.ask answer given ∙ (ap F access ∙ (ap G wish_is ∙ ap H (sym (ap U replied) ∙ session_is)))))

  pub redeemed_stands : (grant : Grant) (a : Word) (id : Text) (code : CodeRow) → p.entry.ask ≡ ask.Token (Ok grant) → p.reply ≡ reply.Tokens a id → code_of past (word_of_text grant.code) ≡ Some code
      → access_token_of (p ∷ past) a ≡ Some (access_issued (length past) p.entry.at a (Some code.word) code.wish code.user)
  redeemed_stands grant a id code is replied there =
      let A : OpAsk → Option TokenRow = λ q. access_given past p q p.reply in
      let R : OpReply → Option TokenRow = λ r. access_given past p (ask.Token (Ok grant)) r in
      let C : Option CodeRow → Option TokenRow = λ o. access_redeemed (length past) p.entry.at a o in
      made_stands access_name access_made access_kept access_names past p (access_issued (length past) p.entry.at a (Some code.word) code.wish code.user) (ap A is ∙ (ap R replied ∙ ap C there))
