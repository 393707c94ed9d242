-- What the forms of a login get: the login form a consent page or an answer, the consent form an answer.
use Rattle.std.proofs.Common.{◌≡◌, ◌≤◌, ◌-◌, ℕ, Bool, true, false, ◌||◌, List, ◌∷◌, Option, Some, None, option_map, option_and_then, refl, sym, ◌∙◌, ap, subst, ◌⊎◌, inl, inr, arith}
use Rattle.std.specs.List.{list_any}
use Rattle.std.specs.Option.{option_or}
use Rattle.sso_base.specs.Words.{Word, Text, is_word, fresh_word}
use Rattle.sso_base.specs.declared.http.Ask.{Ask}
use Rattle.sso_base.proofs.RowLaws.{row_has_name, bytes_true}
use Rattle.sso_model.proofs.ListLaws.{has_append_right}
use Rattle.oidc_words.specs.declared.scopes.Scopes.{Scopes}
use Rattle.client_registry.specs.Configuration.{Configuration}
use Rattle.client_registry.specs.Numbers.{party_row, client_id}
use Rattle.auth_request.specs.declared.wish.Wish.{Wish}
use Rattle.id_token.specs.Judging.{IsInAge}
use Rattle.user_interaction.specs.Need.{is_late, is_older, needed_scopes}
use Rattle.code_grant.specs.declared.rows.TurnRow.{TurnRow}
use Rattle.code_grant.specs.declared.rows.SessionRow.{SessionRow}
use Rattle.code_grant.specs.Rows.{turn_name, session_name}
use Rattle.op_issue.specs.declared.issuing.Authentication.{Authentication}
use Rattle.op_issue.specs.Issued.{issued}
use Rattle.op_exchange.specs.declared.ask.OpAsk.{OpAsk}
use Rattle.op_exchange.specs.declared.reply.OpReply.{OpReply}
use Rattle.op_exchange.specs.Replied.{session_given}
use Rattle.op_response.specs.Told.{browser_given}
use Rattle.op_answer.specs.Past.{OpPair, OpPast}
use Rattle.op_answer.specs.Turns.{turns, turn_of, live_turn}
use Rattle.op_answer.specs.Sessions.{sessions, session_of, live_session, session_used, wish_by}
use Rattle.op_answer.specs.Authentications.{session_authentication}
use Rattle.op_answer.specs.Replies.{answered, consent_page, session_after, standing_agreed, is_turns}
use Rattle.op_answer.specs.Answering.{op_answer}
use Rattle.op_answer.proofs.Renewals.{left_cases}
use Rattle.sso_places.specs.declared.types.Jar.{Jar}
use Rattle.sso_places.specs.World.{Place, Provider, World, op_past, drawn}
use Rattle.honest_places.specs.Login.{Visitor, jar_after, FitsJar}
use Rattle.honest_places.specs.InTime.{IsOpInTime, IsConsentInTime}
use Rattle.honest_places.specs.Outcome.{gives_password, is_login_form}
use Rattle.honest_places.proofs.OwnWish.{own_age_is}
use Rattle.honest_provider.proofs.Outcomes.{Consenting, Answering}
use Rattle.honest_provider.proofs.Wanted.{IsPlain}
use Rattle.honest_provider.proofs.Answering.{logs_in, MayConsent, consents}
use Rattle.honest_provider.proofs.Making.{turn_signed, Signed, signs, leaves_sessions, session_stays}
use Rattle.honest_places.proofs.OwnWords.{IsOwn, own_grown}
use Rattle.honest_provider.proofs.Facts.{TurnWaits, ConsentWaits}
use Rattle.honest_provider.proofs.Living.{session_was_drawn, turn_lives, session_lives, presents, in_age, recent_age, not_older, same_jar}
use Rattle.honest_provider.proofs.AtPlace.{Here, plain, told, asks, cookies, fresh_own, shown_own, is_new, same_who, answering, page_first, after_jar}
use Rattle.sso_base.specs.Rows.{lives}
use Rattle.oidc_words.specs.Lives.{turn_life, session_life}
use Rattle.honest_places.specs.Conditions.{within_lives, recent_sign_in}
use Rattle.honest_places.proofs.Conditions.{demanded}
use Rattle.honest_places.specs.OwnWish.{own_wish}
use Rattle.op_exchange.specs.declared.ask.OpAsk.TheVariants as ask
use Rattle.op_exchange.specs.declared.reply.OpReply.TheVariants as op
use Rattle.sso_places.specs.declared.types.To.TheVariants as to
use Rattle.sso_places.specs.declared.types.WorldReply.TheVariants as reply

module _ {c : Configuration} {v : Visitor} {login : List Place} {world : World} {from : ℕ} {request : Ask} {p : OpPair} (here : Here c v login world from request p) where
  abbrev y : Place
  y = Provider from request p

  abbrev past : OpPast
  past = op_past world

  abbrev at : ℕ
  at = p.entry.at

  -- ---- a turn that waits

  module _ (jar : Jar) (w b state nonce : Word) (t : TurnWaits c v login world w b state nonce) (fits : FitsJar jar (jar_after to.Provider login)) where
    own_jar : jar ≡ t.jar
    own_jar = same_jar jar (jar_after to.Provider login) t.jar fits t.kept

    own_browser : is_word jar.first t.row.browser ≡ true
    own_browser =
        let F : Option Word → Bool = λ o. is_word o t.row.browser in
        ap F (ap (λ (j : Jar). j.first) own_jar ∙ t.first) ∙ bytes_true b t.row.browser (sym t.browser_is)

    own_plain : IsPlain t.row.wish
    own_plain = subst IsPlain (sym t.wish_is) (plain here state nonce t.state_word t.nonce_word)

    own_name : t.row.word ≡ w
    own_name = row_has_name turn_name w (turns past) t.row t.stands

    found_wish : option_map (λ (row : TurnRow). row.wish) (turn_of past (Some w)) ≡ Some (own_wish c v.party state nonce)
    found_wish =
        let F : Option TurnRow → Option Wish = λ o. option_map (λ (row : TurnRow). row.wish) o in
        ap F t.stands ∙ ap (λ (k : Wish). Some k) t.wish_is

    -- ---- a login form

    module _ (begun : ℕ) (gone : begun ≤ at) (is : p.entry.ask ≡ ask.Login (Some w) (Some v.user) jar.first jar.second) (time : IsOpInTime None past at p.entry.ask) where
      abbrev login_ask : OpAsk
      login_ask = ask.Login (Some w) (Some v.user) jar.first jar.second

      abbrev s : SessionRow
      s = session_after past p.entry v.user jar.second

      login_live : live_turn past at (Some w) ≡ Some t.row
      login_live =
          let in_time : IsOpInTime None past at login_ask = subst (IsOpInTime None past at) is time in
          turn_lives past at w t.row t.stands (demanded within_lives (lives turn_life t.row.begun at ≡ true) (in_time t.row t.stands))

      signed : session_given p.reply ≡ Some s.word → Signed past p s.word v.user s
      signed given = signs past p (Some w) v.user jar.first jar.second s.word is given refl (is_new here)

      left_own : IsOwn (y ∷ login) (y ∷ world) s.word
      left_own =
          elim (left_cases past p.entry v.user jar.second) [
            | inl new ↦ (let same : fresh_word p.entry.fresh 0 ≡ s.word = sym (ap (λ (k : SessionRow). k.word) new) in subst (IsOwn (y ∷ login) (y ∷ world)) same (fresh_own here 0 (omega arith)))
            | inr renewed ↦
                (let pr = presents past at jar.second renewed.before renewed.live in
                let same : pr.word ≡ s.word = sym (row_has_name session_name pr.word (sessions past) renewed.before pr.there) ∙ sym (ap (λ (k : SessionRow). k.word) renewed.left_is) in
                subst (IsOwn (y ∷ login) (y ∷ world)) same
                (shown_own here pr.word (sym (cookies here login_ask is).1 ∙ pr.is) (has_append_right p.entry.fresh (drawn world) pr.word (session_was_drawn c world pr.word renewed.before here.now.legal.provider.0 pr.there))))
          ]

      login_consents : op_answer c past p.entry ≡ consent_page c t.row.wish t.row.word t.row.browser (Some s.word) → Consenting c v (y ∷ login) (y ∷ world) y state nonce begun
      login_consents answer =
          let client : Text = client_id c t.row.wish.client in
          let scopes : Scopes = needed_scopes t.row.wish in
          let page : OpReply = op.ConsentPage t.row.word t.row.browser (Some s.word) client scopes in
          let replied : p.reply ≡ page = told here page answer in
          let z = signed (ap session_given replied) in
          let B : ℕ → Type 0 = λ k. begun ≤ k in
          record {
            turn = w;
            browser = b;
            given = Some s.word;
            client = client;
            scopes = scopes;
            replied = ap (λ (k : OpReply). reply.Provider k) (replied ∙ ap (λ (k : Word). op.ConsentPage k t.row.browser (Some s.word) client scopes) own_name ∙ ap (λ (k : Word). op.ConsentPage w k (Some s.word) client scopes) t.browser_is);
            known = record {
              turn = record {
                row = record t.row { session = Some s.word; in_turn = true };
                stands = turn_signed past p w t.row (Some v.user) jar.first jar.second t.row.word t.row.browser s.word client scopes is replied t.stands;
                wish_is = t.wish_is;
                browser_is = t.browser_is;
                own = own_grown login world y w t.own;
                word = t.word;
                state_word = t.state_word;
                nonce_word = t.nonce_word;
                jar = after_jar here;
                kept = refl;
                first = page_first here b (ap browser_given replied ∙ ap (λ (k : Word). Some k) t.browser_is);
              };
              word = s.word;
              session_is = refl;
              session = z.row;
              stands = z.stands;
              own = left_own;
              second = ap (λ (k : OpReply). option_or (session_given k) request.second) replied;
              signed_in = inl (refl, subst B (sym z.now) gone);
              owner = λ given. z.user_is;
            };
          }

      login_answers : op_answer c past p.entry ≡ answered c t.row.wish p.entry s (Some s.word) → Answering c v (y ∷ login) (y ∷ world) y state nonce begun
      login_answers answer =
          let who : Authentication = session_authentication s in
          let R : Wish → OpReply = λ k. op.Answered (issued c k who at p.entry.fresh) (Some s.word) in
          let z = signed (ap session_given (told here (R t.row.wish) answer)) in
          let B : ℕ → Type 0 = λ k. begun ≤ k in
          let now_is : at ≡ who.auth_time = sym z.now ∙ ap (λ (k : Authentication). k.auth_time) z.as_left in
          answering here state nonce begun t.state_word t.nonce_word who (Some s.word) s.word z.row z.as_left
          (in_age (party_row c v.party).max_age who.auth_time begun (subst B now_is gone))
          (λ given. sym (ap (λ (k : Authentication). k.user) z.as_left) ∙ z.user_is)
          (answer ∙ ap R t.wish_is) (ap (wish_by past) is ∙ found_wish) (ap (λ (a : OpAsk). session_used past a (R (own_wish c v.party state nonce))) is) z.stands

      pub logs : Consenting c v (y ∷ login) (y ∷ world) y state nonce begun ⊎ Answering c v (y ∷ login) (y ∷ world) y state nonce begun
      logs =
          elim (logs_in c past p.entry (Some w) t.row v.user jar.first jar.second (asks here login_ask is) own_plain login_live own_browser) [
            | inl page ↦ inl (login_consents page)
            | inr answer ↦ inr (login_answers answer)
          ]

  -- ---- a consent form

  module _ (jar : Jar) (w b state nonce : Word) (begun : ℕ) (gone : begun ≤ at) (q : ConsentWaits c v login world w b state nonce begun) (fits : FitsJar jar (jar_after to.Provider login))
      (is : p.entry.ask ≡ ask.Consent (Some w) true jar.first jar.second) (time : IsOpInTime None past at p.entry.ask) where
    abbrev consent_ask : OpAsk
    consent_ask = ask.Consent (Some w) true jar.first jar.second

    abbrev row : TurnRow
    row = q.turn.row

    in_time : IsConsentInTime None past at row
    in_time = (let all : IsOpInTime None past at consent_ask = subst (IsOpInTime None past at) is time in all row q.turn.stands)

    session_found : session_of past row.session ≡ Some q.session
    session_found = ap (session_of past) q.session_is ∙ q.stands

    standing : live_session past at row.session ≡ Some q.session
    standing = ap (live_session past at) q.session_is ∙ session_lives past at q.word q.session q.stands (demanded within_lives (lives session_life q.session.auth_time at ≡ true) (in_time.session q.session session_found))

    second : jar.second ≡ Some q.word
    second = ap (λ (j : Jar). j.second) (own_jar jar w b state nonce q.turn fits) ∙ q.second

    same_session : is_turns jar.second row.session ≡ true
    same_session = ap (is_turns jar.second) q.session_is ∙ (ap (λ o. is_word o q.word) second ∙ bytes_true q.word q.word refl)

    not_late : is_late row.wish (Some (standing_agreed past row q.session)) at ≡ false
    not_late = demanded recent_sign_in (is_late row.wish (Some (standing_agreed past row q.session)) at ≡ false) (in_time.recent q.session session_found)

    signed_before : (in_turn login_wished : Bool) (low : Type 0) → ((in_turn ≡ true) × low) ⊎ ((in_turn ≡ false) × (login_wished ≡ false)) → (in_turn ≡ true) ⊎ (login_wished ≡ false)
    signed_before in_turn login_wished l (inl h) = inl h.0
    signed_before in_turn login_wished l (inr h) = inr h.1

    may : MayConsent c past p.entry (Some w) jar.first jar.second row q.session
    may =
        record {
          live = turn_lives past at w row q.turn.stands (demanded within_lives (lives turn_life row.begun at ≡ true) in_time.turn);
          standing = standing;
          same_browser = own_browser jar w b state nonce q.turn fits;
          same_session = same_session;
          plain = own_plain jar w b state nonce q.turn fits;
          not_late = not_late;
          login = signed_before row.in_turn row.wish.login (begun ≤ q.session.auth_time) q.signed_in;
        }

    age_by : ((row.in_turn ≡ true) × (begun ≤ q.session.auth_time)) ⊎ ((row.in_turn ≡ false) × (row.wish.login ≡ false)) → IsInAge row.wish.max_age (Some q.session.auth_time) begun
    age_by (inl h) = in_age row.wish.max_age q.session.auth_time begun h.1
    age_by (inr h) = recent_age row.wish.max_age q.session.auth_time begun at (not_older row.in_turn (is_older row.wish.max_age (at - q.session.auth_time)) h.0 not_late) gone

    still : list_any gives_password (y ∷ login) ≡ list_any gives_password login
    still = (let F : Bool → Bool = λ k. k || list_any gives_password login in ap F (ap is_login_form is))

    pub agrees : Answering c v (y ∷ login) (y ∷ world) y state nonce begun
    agrees =
        let who : Authentication = session_authentication q.session in
        let R : Wish → OpReply = λ k. op.Answered (issued c k who at p.entry.fresh) None in
        let answer : op_answer c past p.entry ≡ R row.wish = consents c past p.entry (Some w) jar.first jar.second row q.session (asks here consent_ask is) may in
        let stayed = session_stays past p q.word q.session (ap (leaves_sessions past p) is) q.stands in
        let M : Option ℕ → Type 0 = λ m. IsInAge m (Some who.auth_time) begun in
        let S : Option TurnRow → Option Word = λ o. option_and_then (λ (k : TurnRow). k.session) o in
        answering here state nonce begun q.turn.state_word q.turn.nonce_word who None q.word stayed.after (same_who here stayed.after q.session stayed.same)
        (subst M (ap (λ (k : Wish). k.max_age) q.turn.wish_is ∙ own_age_is c v.party state nonce here.registry here.low) (age_by q.signed_in))
        (λ given. q.owner (sym still ∙ given)) (answer ∙ ap R q.turn.wish_is)
        (ap (wish_by past) is ∙ found_wish jar w b state nonce q.turn fits)
        (ap (λ (a : OpAsk). session_used past a (R (own_wish c v.party state nonce))) is ∙ (ap S q.turn.stands ∙ q.session_is)) stayed.stands
