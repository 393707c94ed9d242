-- What an authorization request of a login gets: a login page, a consent page, or an answer at once.
use Rattle.std.proofs.Common.{◌≡◌, ◌≤◌, ℕ, false, List, ◌∷◌, Option, Some, None, refl, sym, ◌∙◌, ap, subst, ◌⊎◌, inl, inr, arith}
use Rattle.std.specs.List.{list_any}
use Rattle.std.specs.Option.{option_or}
use Rattle.sso_base.specs.Words.{Word, IsWord, fresh_word}
use Rattle.sso_base.specs.declared.http.Ask.{Ask}
use Rattle.sso_model.proofs.ListLaws.{has_append_right}
use Rattle.client_registry.specs.Configuration.{Configuration}
use Rattle.client_registry.specs.Numbers.{client_id}
use Rattle.auth_request.specs.declared.wish.Wish.{Wish}
use Rattle.id_token.specs.Judging.{IsInAge}
use Rattle.user_interaction.specs.Need.{needed_scopes}
use Rattle.code_grant.specs.declared.rows.SessionRow.{SessionRow}
use Rattle.op_issue.specs.declared.issuing.Authentication.{Authentication}
use Rattle.op_issue.specs.Issued.{issued}
use Rattle.op_exchange.specs.declared.ask.OpAsk.{OpAsk}
use Rattle.op_exchange.specs.declared.reply.OpReply.{OpReply}
use Rattle.op_exchange.specs.Replied.{session_given}
use Rattle.op_response.specs.Told.{browser_given}
use Rattle.op_answer.specs.Past.{OpPair, OpPast}
use Rattle.op_answer.specs.Sessions.{session_used, wish_by}
use Rattle.op_answer.specs.Authentications.{session_authentication}
use Rattle.op_answer.specs.Replies.{consent_page, page_browser}
use Rattle.op_answer.specs.Answering.{op_answer}
use Rattle.sso_places.specs.declared.types.Jar.{Jar}
use Rattle.sso_places.specs.World.{Place, Provider, World, op_past, drawn}
use Rattle.honest_places.specs.Login.{Visitor}
use Rattle.honest_places.specs.Outcome.{gives_password}
use Rattle.honest_places.specs.OwnWish.{own_wish}
use Rattle.honest_places.proofs.OwnWish.{own_age_is}
use Rattle.honest_provider.proofs.Outcomes.{Paged, Consenting, Answering}
use Rattle.honest_provider.proofs.Answering.{ConsentsAtOnce, AnswersAtOnce, begins}
use Rattle.honest_provider.proofs.Making.{page_turn, consent_turn, leaves_sessions, session_stays}
use Rattle.honest_places.proofs.OwnWords.{IsOwn}
use Rattle.honest_provider.proofs.Facts.{TurnWaits}
use Rattle.honest_provider.proofs.Living.{session_was_drawn, Presents, presents, recent_age}
use Rattle.honest_provider.proofs.AtPlace.{Here, plain, told, asks, cookies, fresh_is_word, fresh_own, shown_own, same_who, answering, page_first, never_given, after_jar}
use Rattle.sso_base.specs.Rows.{row_of}
use Rattle.code_grant.specs.declared.rows.TurnRow.{TurnRow}
use Rattle.code_grant.specs.Rows.{turn_name}
use Rattle.op_answer.specs.Turns.{turns}
use Rattle.auth_request.specs.declared.wish.Verdict.TheVariants as verdict
use Rattle.op_exchange.specs.declared.ask.OpAsk.TheVariants as ask
use Rattle.op_exchange.specs.declared.reply.OpReply.TheVariants as op
use Rattle.sso_places.specs.declared.types.WorldReply.TheVariants as reply

module _ {c : Configuration} {v : Visitor} {login : List Place} {world : World} {from : ℕ} {request : Ask} {p : OpPair} (here : Here c v login world from request p) where
  abbrev y : Place
  y = Provider from request p

  abbrev past : OpPast
  past = op_past world

  abbrev at : ℕ
  at = p.entry.at

  -- ---- an authorization request

  module _ (jar : Jar) (state nonce : Word) (begun : ℕ) (state_word : IsWord state) (nonce_word : IsWord nonce) (is : p.entry.ask ≡ ask.Authorize (verdict.Grant (own_wish c v.party state nonce)) jar.first jar.second)
      (gone : begun ≤ at) (none : list_any gives_password login ≡ false) where
    abbrev request_ask : OpAsk
    request_ask = ask.Authorize (verdict.Grant (own_wish c v.party state nonce)) jar.first jar.second

    abbrev page_b : Word
    page_b = page_browser past p.entry jar.first

    abbrev W : Word
    W = fresh_word p.entry.fresh 1

    -- the turn of the page, and the browser's cookie
    abbrev turn_row : Option Word → TurnRow
    turn_row session = record { word = W; browser = page_b; wish = own_wish c v.party state nonce; session = session; in_turn = false; begun = at }

    abbrev waits : (session : Option Word) → row_of turn_name W (turns (p ∷ past)) ≡ Some (turn_row session) → browser_given p.reply ≡ Some page_b → TurnWaits c v (y ∷ login) (y ∷ world) W page_b state nonce
    waits session stands given =
        record {
          row = turn_row session;
          stands = stands;
          wish_is = refl;
          browser_is = refl;
          own = fresh_own here 1 (omega arith);
          word = fresh_is_word here 1 (omega arith);
          state_word = state_word;
          nonce_word = nonce_word;
          jar = after_jar here;
          kept = refl;
          first = page_first here page_b given;
        }

    pages : op_answer c past p.entry ≡ op.LoginPage W page_b false → Paged c v (y ∷ login) (y ∷ world) y state nonce
    pages answer =
        let replied : p.reply ≡ op.LoginPage W page_b false = told here (op.LoginPage W page_b false) answer in
        record {
          turn = W;
          browser = page_b;
          replied = ap (λ (q : OpReply). reply.Provider q) replied;
          known = waits None (page_turn past p (own_wish c v.party state nonce) jar.first jar.second W page_b false is replied) (ap browser_given replied);
        }

    same_second : request.second ≡ jar.second
    same_second = sym (cookies here request_ask is).1

    presented_own : (q : SessionRow) (pr : Presents past jar.second q) → IsOwn (y ∷ login) (y ∷ world) pr.word
    presented_own q pr =
        shown_own here pr.word (same_second ∙ pr.is) (has_append_right p.entry.fresh (drawn world) pr.word (session_was_drawn c world pr.word q here.now.legal.provider.0 pr.there))

    consents_at_once : ConsentsAtOnce c past p.entry (own_wish c v.party state nonce) jar.first jar.second → Consenting c v (y ∷ login) (y ∷ world) y state nonce begun
    consents_at_once q =
        let wish : Wish = own_wish c v.party state nonce in
        let page : OpReply = consent_page c wish W page_b None in
        let replied : p.reply ≡ page = told here page q.told in
        let pr = presents past at jar.second q.session q.live in
        let stayed = session_stays past p pr.word q.session (ap (leaves_sessions past p) is) pr.there in
        record {
          turn = W;
          browser = page_b;
          given = None;
          client = client_id c wish.client;
          scopes = needed_scopes wish;
          replied = ap (λ (k : OpReply). reply.Provider k) replied;
          known = record {
            turn = waits jar.second (consent_turn past p wish jar.first jar.second W page_b None (client_id c wish.client) (needed_scopes wish) is replied) (ap browser_given replied);
            word = pr.word;
            session_is = pr.is;
            session = stayed.after;
            stands = stayed.stands;
            own = presented_own q.session pr;
            second = ap (λ (k : OpReply). option_or (session_given k) request.second) replied ∙ (same_second ∙ pr.is);
            signed_in = inr (refl, q.no_login);
            owner = λ given. absurd (never_given here request_ask is refl none given);
          };
        }

    answers_at_once : AnswersAtOnce c past p.entry (own_wish c v.party state nonce) jar.second → Answering c v (y ∷ login) (y ∷ world) y state nonce begun
    answers_at_once q =
        let wish : Wish = own_wish c v.party state nonce in
        let who : Authentication = session_authentication q.session in
        let pr = presents past at jar.second q.session q.live in
        let stayed = session_stays past p pr.word q.session (ap (leaves_sessions past p) is) pr.there in
        let M : Option ℕ → Type 0 = λ m. IsInAge m (Some who.auth_time) begun in
        let R : OpReply = op.Answered (issued c wish who at p.entry.fresh) None in
        answering here state nonce begun state_word nonce_word who None pr.word stayed.after (same_who here stayed.after q.session stayed.same)
        (subst M (own_age_is c v.party state nonce here.registry here.low) (recent_age wish.max_age who.auth_time begun at q.not_late gone)) (λ given. absurd (never_given here request_ask is refl none given)) q.told (ap (wish_by past) is)
        (ap (λ (a : OpAsk). session_used past a R) is ∙ pr.is) stayed.stands

    pub authorizes : Paged c v (y ∷ login) (y ∷ world) y state nonce
        ⊎ (Consenting c v (y ∷ login) (y ∷ world) y state nonce begun ⊎ Answering c v (y ∷ login) (y ∷ world) y state nonce begun)
    authorizes =
        elim (begins c past p.entry (own_wish c v.party state nonce) jar.first jar.second (asks here request_ask is) (plain here state nonce state_word nonce_word)) [
          | inl page ↦ inl (pages page)
          | inr (inl q) ↦ inr (inl (consents_at_once q))
          | inr (inr q) ↦ inr (inr (answers_at_once q))
        ]
