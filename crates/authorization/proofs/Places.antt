-- The number that presents a session's cookie had signed in.
use Rattle.std.proofs.Common.{◌≡◌, ℕ, [], ◌∷◌, ◌++◌, Option, Some, refl, sym, ◌∙◌, ap, subst, inl, inr}
use Rattle.sso_base.specs.Words.{Word}
use Rattle.sso_base.specs.declared.http.Ask.{Ask}
use Rattle.sso_model.specs.Lists.{Has}
use Rattle.sso_model.proofs.ListLaws.{has_append_right}
use Rattle.auth_request.specs.declared.wish.Wish.{Wish}
use Rattle.auth_answer.specs.declared.answer.Answer.{Answer}
use Rattle.code_grant.specs.declared.rows.SessionRow.{SessionRow}
use Rattle.op_exchange.specs.declared.ask.OpAsk.{OpAsk}
use Rattle.op_exchange.specs.declared.ask.OpAsk.TheVariants as ask
use Rattle.op_request.specs.PostedForms.{fields_of}
use Rattle.op_request.specs.Prepared.{prepared}
use Rattle.op_request.specs.Requests.{ShowsPassword, HasCookies}
use Rattle.op_request.proofs.LedTo.{has_cookies}
use Rattle.op_request.proofs.PasswordsShown.{signed_shows}
use Rattle.op_response.specs.Told.{browser_given}
use Rattle.op_answer.specs.Past.{OpPair, OpPast}
use Rattle.sso_places.specs.Site.{Site}
use Rattle.sso_places.specs.World.{Place, Provider, World, op_past}
use Rattle.sso_places.specs.Legal.{IsLegalWorld}
use Rattle.sso_places.specs.Cookies.{words_in, set_at, presented}
use Rattle.sso_places.specs.Premises.{IsUnleaked}
use Rattle.sso_places.proofs.Places.{legal_from, unleaked_from}
use Rattle.sign_on.proofs.OpSessions.{IsOpPlace, op_pair_place}
use Rattle.sign_on.proofs.Shared.{own_browser}
use Rattle.authorization.specs.Authorized.{session_presented, SignedInBefore, SignsInHere, SignedIn, Authorizes, IsAuthorized}
use Rattle.authorization.specs.Reached.{HasSignedIn, IsAnsweredTo}

-- ---- the part of a world up to one of its places

pub legal_at : (s : Site) (world after before : World) → world ≡ after ++ before → IsLegalWorld s world → IsLegalWorld s before
legal_at s world after before parts legal = (let L : World → Type 0 = λ w. IsLegalWorld s w in legal_from s after before (subst L parts legal))

pub unleaked_at : (world after before : World) → world ≡ after ++ before → IsUnleaked world → IsUnleaked before
unleaked_at world after before parts unleaked = (let L : World → Type 0 = λ w. IsUnleaked w in unleaked_from after before (subst L parts unleaked))

-- ---- who signed in

presents_cookie : (request : Ask) (asked : OpAsk) (w : Word) → HasCookies request asked → session_presented asked ≡ Some w → request.second ≡ Some w
presents_cookie request (ask.Authorize verdict browser session) w cookies is = sym cookies.1 ∙ is
presents_cookie request (ask.Login turn signed browser session) w cookies is = sym cookies.1 ∙ is
presents_cookie request (ask.Consent turn agree browser session) w cookies is = sym cookies.1 ∙ is
presents_cookie request asked w cookies is = cc

shown_password : (s : Site) (request : Ask) (asked : OpAsk) (turn browser presented : Option Word) (user : ℕ) → asked ≡ prepared s.configuration request → asked ≡ ask.Login turn (Some user) browser presented
    → ShowsPassword s.configuration (fields_of request.body) user
shown_password s request asked turn browser presented user so is = signed_shows s.configuration request turn user browser presented (sym so ∙ is)

module _ (s : Site) (from : ℕ) (request : Ask) (p : OpPair) (earlier : World) (legal : IsLegalWorld s (Provider from request p ∷ earlier)) (unleaked : IsUnleaked (Provider from request p ∷ earlier)) (session : SessionRow) where
  abbrev x : Place
  x = Provider from request p

  signed_before : SignedInBefore (op_past earlier) p session → HasSignedIn s (x ∷ earlier) from session
  signed_before b =
      let d = b.began in
      let at : IsOpPlace earlier d.maker d.earlier = op_pair_place earlier d.later d.maker d.earlier d.parts in
      let y : Place = Provider at.from at.request d.maker in
      let C : OpAsk → Type 0 = λ a. HasCookies request a in
      let cookies : HasCookies request p.entry.ask = subst C (sym legal.asked.0) (has_cookies s.configuration request) in
      let second : request.second ≡ Some session.word = presents_cookie request p.entry.ask session.word cookies b.presents in
      let P : Option Word → Type 0 = λ o. Has (words_in request.first ++ words_in o) session.word in
      let shows : Has (presented x) session.word = subst P (sym second) (has_append_right (words_in request.first) (session.word ∷ []) session.word (inl refl)) in
      let S : Option Word → Type 0 = λ o. Has (words_in (browser_given d.maker.reply) ++ words_in o) session.word in
      let sets : Has (set_at y) session.word = subst S (sym d.given) (has_append_right (words_in (browser_given d.maker.reply)) (session.word ∷ []) session.word (inl refl)) in
      let mine : from ≡ at.from = own_browser x earlier at.from session.word unleaked.1 shows (record { place = y; has = at.has; sets = sets; by = refl }) in
      let older : IsLegalWorld s (y ∷ at.before) = legal_at s (x ∷ earlier) (x ∷ at.after) (y ∷ at.before) (ap (λ (w : World). x ∷ w) at.parts) legal in
      let F : ℕ → Type 0 = λ n. HasSignedIn s (x ∷ earlier) n session in
      subst F (sym mine)
      (record {
        request = at.request;
        pair = d.maker;
        has = inr at.has;
        turn = d.turn;
        browser = d.browser;
        presented = d.presented;
        asked = d.asked;
        password = shown_password s at.request d.maker.entry.ask d.turn d.browser d.presented session.user older.asked.0 d.asked;
        sets = d.given;
      })

  signed_here : SignsInHere p session → HasSignedIn s (x ∷ earlier) from session
  signed_here h =
      record {
        request = request;
        pair = p;
        has = inl refl;
        turn = h.turn;
        browser = h.browser;
        presented = h.presented;
        asked = h.asked;
        password = shown_password s request p.entry.ask h.turn h.browser h.presented session.user legal.asked.0 h.asked;
        sets = h.sets;
      }

  pub signed_in : SignedIn (op_past earlier) p session → HasSignedIn s (x ∷ earlier) from session
  signed_in (inl b) = signed_before b
  signed_in (inr h) = signed_here h

-- ---- an answer of the past went to a number

pub record WasAnswered (s : Site) (world : World) (Is : Answer → Type 0) (wish : Wish) (session : SessionRow) : Type 0 where
  pub browser : ℕ
  pub answer : Answer
  pub answered : IsAnsweredTo s world browser answer wish session
  pub is_such : Is answer

pub was_answered : (s : Site) (world : World) (Is : Answer → Type 0) (wish : Wish) (session : SessionRow) → IsLegalWorld s world → IsUnleaked world → IsAuthorized s.configuration (op_past world) Is wish session
    → WasAnswered s world Is wish session
was_answered s world Is wish session legal unleaked a =
    let at : IsOpPlace world a.pair a.earlier = op_pair_place world a.later a.pair a.earlier a.parts in
    let y : Place = Provider at.from at.request a.pair in
    let A : OpPast → Type 0 = λ past. Authorizes s.configuration past a.pair a.answer wish session in
    let authorizes : Authorizes s.configuration (op_past at.before) a.pair a.answer wish session = subst A (sym at.past_is) a.authorizes in
    record {
      browser = at.from;
      answer = a.answer;
      answered =
          record {
            later = at.after;
            request = at.request;
            pair = a.pair;
            earlier = at.before;
            parts = at.parts;
            authorizes = authorizes;
            signed_in =
                signed_in s at.from at.request a.pair at.before (legal_at s world at.after (y ∷ at.before) at.parts legal) (unleaked_at world at.after (y ∷ at.before) at.parts unleaked) session authorizes.signed_in;
          };
      is_such = a.is_such;
    }
