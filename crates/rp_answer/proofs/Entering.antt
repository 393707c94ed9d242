-- A session begins only where a login's own browser brought the response of its state, and with an ID Token of its nonce.
use Rattle.std.proofs.Common.{◌≡◌, ℕ, Bool, true, false, not, ◌∷◌, ◌++◌, Option, Some, Result, Ok, option_map, option_and_then, refl, sym, ◌∙◌, ap, subst, inl, inr}
use Rattle.std.specs.Str.{bytes_eq}
use Rattle.sso_base.specs.Words.{Word, Text}
use Rattle.sso_base.specs.Texts.{is_other}
use Rattle.sso_base.specs.declared.history.Entry.{Entry}
use Rattle.sso_base.proofs.Histories.{earlier_is_legal, legal_reply}
use Rattle.sso_base.proofs.RowLaws.{bytes_same}
use Rattle.id_token.specs.declared.claims.IdClaims.{IdClaims}
use Rattle.id_token.specs.declared.no.IdNo.{IdNo}
use Rattle.auth_answer.specs.declared.heard.Heard.{Heard}
use Rattle.token_endpoint.specs.declared.reading.Tokens.{Tokens}
use Rattle.oidc_words.specs.declared.response_types.Types.{Types}
use Rattle.rp_login.specs.declared.rows.LoginRow.{LoginRow}
use Rattle.rp_login.specs.declared.rows.PendingRow.{PendingRow}
use Rattle.rp_login.specs.declared.rows.SessionRow.{SessionRow}
use Rattle.rp_login.specs.declared.rows.Stage.TheVariants as stage
use Rattle.rp_exchange.specs.declared.ask.RpAsk.{RpAsk}
use Rattle.rp_exchange.specs.declared.ask.RpAsk.TheVariants as ask
use Rattle.rp_exchange.specs.declared.reply.RpReply.TheVariants as reply
use Rattle.rp_exchange.specs.Values.{IsRpAsk}
use Rattle.rp_answer.specs.Past.{RpPair, RpPast}
use Rattle.rp_answer.specs.Setup.{PartySetup, party_of}
use Rattle.rp_answer.specs.Pendings.{pending_of}
use Rattle.rp_answer.specs.Visits.{nonce_by, visit_of, visit_after, visit_by}
use Rattle.rp_answer.specs.Answering.{rp_answer}
use Rattle.rp_answer.specs.Causes.{MayEnter}
use Rattle.rp_answer.specs.Legal.{IsLegalRp, JudgedFor, LoginEntered, login_entered_by, place_of_login, place_of_pending}
use Rattle.rp_answer.proofs.Answers.{entered_have_a_cause}
use Rattle.rp_answer.proofs.Sending.{login_found, pending_found, pending_waits, stage_same}
use Rattle.rp_answer.proofs.Exchanges.{exchanges_are_sent, fetches_are_sent, before_later, front_token, back_token, response_before, judged_of}

abbrev entered_of : PartySetup → RpPast → Entry RpAsk → Word → Text → RpAsk → Option ℕ
entered_of s past e w sub asked = login_entered_by (party_of s).types past e asked (reply.Entered w sub)

abbrev visit_in : PartySetup → RpPast → ℕ → Word → Text → RpAsk → Option SessionRow
visit_in s past at w sub asked = visit_by (party_of s).types at past asked (reply.Entered w sub)

-- ---- the session that is made

abbrev session_of : ℕ → Word → Word → Text → Option Text → SessionRow
session_of at w nonce sub sid = record { word = w; nonce = nonce; sub = sub; sid = sid; entered = at }

visit_told : (at : ℕ) (w nonce : Word) (sub : Text) (claims : IdClaims) (named : Option Word) (judged : Option IdClaims) → named ≡ Some nonce → judged ≡ Some claims → claims.sub ≡ sub
    → option_and_then (λ n. option_map (visit_of at w n) judged) named ≡ Some (session_of at w nonce sub claims.sid)
visit_told at w nonce sub claims named judged nonce_is came sub_is =
    let N : Option Word → Option SessionRow = λ o. option_and_then (λ n. option_map (visit_of at w n) judged) o in
    let C : Option IdClaims → Option SessionRow = λ o. option_map (visit_of at w nonce) o in
    let S : Text → Option SessionRow = λ t. Some (session_of at w nonce t claims.sid) in
    ap N nonce_is ∙ ap C came ∙ ap S sub_is

visit_left : (at : ℕ) (w nonce : Word) (sub : Text) (sid : Option Text) (pending : PendingRow) → pending.nonce ≡ nonce → pending.sub ≡ Some sub → pending.sid ≡ sid
    → visit_after at w pending ≡ Some (session_of at w nonce sub sid)
visit_left at w nonce sub sid pending nonce_is sub_is sid_is =
    let U : Option Text → Option SessionRow = λ o. option_map (λ t. session_of at w pending.nonce t pending.sid) o in
    let N : Word → Option SessionRow = λ n. Some (session_of at w n sub pending.sid) in
    let I : Option Text → Option SessionRow = λ o. Some (session_of at w nonce sub o) in
    ap U sub_is ∙ ap N nonce_is ∙ ap I sid_is

not_false : (b : Bool) → not b ≡ false → b ≡ true
not_false true h = refl
not_false false h = cc

-- UserInfo speaks of the subject before
same_sub : (before : Option Text) (sub came : Text) → before ≡ Some sub → is_other came before ≡ false → sub ≡ came
same_sub before sub came is same =
    let O : Option Text → Bool = λ o. is_other came o in
    bytes_same sub came (not_false (bytes_eq sub came) (sym (ap O is) ∙ same))

-- ---- who enters

module _ (s : PartySetup) (past : RpPast) (e : Entry RpAsk) where
  abbrev types : Types
  types = (party_of s).types

  entered_at_once : (heard : Heard) (id : Option (Result IdClaims IdNo)) (browser : Option Word) (w : Word) (sub : Text) → e.ask ≡ ask.Callback (Ok heard) id browser
      → MayEnter s past e (ask.Callback (Ok heard) id browser) w sub → LoginEntered s past e w sub
  entered_at_once heard id browser w sub is cause =
      let token = front_token s e cause.login heard id browser cause.claims is cause.accepted in
      let J : RpAsk → Option IdClaims = judged_of s in
      let L : Option LoginRow → Option Word = λ o. option_map (λ (login : LoginRow). login.nonce) o in
      let F : RpAsk → Type 0 = λ a. JudgedFor s past e a cause.login cause.claims in
      record {
        login = cause.login;
        responded = record { earlier = past; entry = e; heard = heard; id = id; browser = browser; asked = is; own = cause.response.own; now_or_before = inl (refl, refl) };
        enters = ap (entered_of s past e w sub) is ∙ ap place_of_login cause.response.own.live;
        claims = cause.claims;
        judged = subst F (sym is) token;
        sub_is = cause.sub_is;
        visit_is = ap (visit_in s past e.at w sub) is
            ∙ visit_told e.at w cause.login.nonce sub cause.claims (nonce_by types past (ask.Callback (Ok heard) id browser)) (judged_of s (ask.Callback (Ok heard) id browser))
            (ap L (login_found past e.at heard.state cause.login cause.response.own.live)) (sym (ap J is) ∙ token.came) cause.sub_is;
      }

  entered_after_exchange : IsLegalRp s past → (pending : Word) (came : Tokens) (id : Option (Result IdClaims IdNo)) (w : Word) (sub : Text) → e.ask ≡ ask.Tokens pending (Ok came) id
      → MayEnter s past e (ask.Tokens pending (Ok came) id) w sub → LoginEntered s past e w sub
  entered_after_exchange legal pending came id w sub is cause =
      let exchange : PendingRow = cause.exchange in
      let there : pending_of types past pending ≡ Some exchange = pending_found types past e.at pending stage.Tokens exchange cause.live in
      let waits : exchange.stage ≡ stage.Tokens = stage_same stage.Tokens exchange.stage (pending_waits types past e.at pending stage.Tokens exchange cause.live) in
      let by = exchanges_are_sent s past pending exchange legal there waits in
      let token = back_token s e exchange by.login pending came id cause.claims is by.nonce_is by.begun_is cause.accepted in
      let J : RpAsk → Option IdClaims = judged_of s in
      let P : Option PendingRow → Option Word = λ o. option_map (λ (row : PendingRow). row.nonce) o in
      let F : RpAsk → Type 0 = λ a. JudgedFor s past e a by.login cause.claims in
      record {
        login = by.login;
        responded = response_before s past e exchange by;
        enters = ap (entered_of s past e w sub) is ∙ ap place_of_pending cause.live ∙ ap (λ (n : ℕ). Some n) by.place;
        claims = cause.claims;
        judged = subst F (sym is) token;
        sub_is = cause.sub_is;
        visit_is = ap (visit_in s past e.at w sub) is
            ∙ visit_told e.at w by.login.nonce sub cause.claims (nonce_by types past (ask.Tokens pending (Ok came) id)) (judged_of s (ask.Tokens pending (Ok came) id))
            (ap P there ∙ ap (λ (n : Word). Some n) by.nonce_is) (sym (ap J is) ∙ token.came) cause.sub_is;
      }

  entered_after_info : IsLegalRp s past → (pending : Word) (came : Text) (w : Word) (sub : Text) → e.ask ≡ ask.Info pending (Ok came)
      → MayEnter s past e (ask.Info pending (Ok came)) w sub → LoginEntered s past e w sub
  entered_after_info legal pending came w sub is cause =
      let exchange : PendingRow = cause.exchange in
      let there : pending_of types past pending ≡ Some exchange = pending_found types past e.at pending stage.Info exchange cause.live in
      let waits : exchange.stage ≡ stage.Info = stage_same stage.Info exchange.stage (pending_waits types past e.at pending stage.Info exchange cause.live) in
      let by = fetches_are_sent s past pending exchange legal there waits in
      let name : by.claims.sub ≡ sub = same_sub exchange.sub by.claims.sub came by.sub_is cause.same_subject ∙ cause.sub_is in
      let V : Option PendingRow → Option SessionRow = λ o. option_and_then (visit_after e.at w) o in
      let F : RpAsk → Type 0 = λ a. JudgedFor s past e a by.login by.claims in
      record {
        login = by.login;
        responded = record {
          earlier = by.responded.earlier;
          entry = by.responded.entry;
          heard = by.responded.heard;
          id = by.responded.id;
          browser = by.responded.browser;
          asked = by.responded.asked;
          own = by.responded.own;
          now_or_before = inr (before_later past by.later by.earlier by.responded.earlier by.maker by.responded.entry by.parts by.responded.now_or_before);
        };
        enters = ap (entered_of s past e w sub) is ∙ ap place_of_pending cause.live ∙ ap (λ (n : ℕ). Some n) by.place;
        claims = by.claims;
        judged = subst F (sym is) (record { waiting = exchange; live = cause.live; asked_by = by; of_login = refl; claims_are = refl });
        sub_is = name;
        visit_is = ap (visit_in s past e.at w sub) is ∙ ap V there
            ∙ visit_left e.at w by.login.nonce sub by.claims.sid exchange by.nonce_is (by.sub_is ∙ ap (λ (t : Text). Some t) name) by.sid_is;
      }

  entered_by : IsLegalRp s past → (asked : RpAsk) (w : Word) (sub : Text) → e.ask ≡ asked → MayEnter s past e asked w sub → LoginEntered s past e w sub
  entered_by legal (ask.Callback (Ok heard) id browser) w sub is cause = entered_at_once heard id browser w sub is cause
  entered_by legal (ask.Tokens pending (Ok came) id) w sub is cause = entered_after_exchange legal pending came id w sub is cause
  entered_by legal (ask.Info pending (Ok came)) w sub is cause = entered_after_info legal pending came w sub is cause
  entered_by legal asked w sub is cause = absurd cause

pub sessions_need_a_login : (s : PartySetup) (later earlier : RpPast) (p : RpPair) (w : Word) (sub : Text) → IsLegalRp s (later ++ p ∷ earlier)
    → p.reply ≡ reply.Entered w sub → LoginEntered s earlier p.entry w sub
sessions_need_a_login s later earlier p w sub legal replied =
    entered_by s earlier p.entry (earlier_is_legal IsRpAsk (rp_answer s) later (p ∷ earlier) legal).0 p.entry.ask w sub refl (entered_have_a_cause s earlier p.entry w sub (sym (legal_reply IsRpAsk (rp_answer s) later earlier p legal) ∙ replied)).enters
