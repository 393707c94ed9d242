-- Whom answers, tokens and claims reach.
use Rattle.std.proofs.Common.{◌≡◌, ◌==◌, ◌&&◌, ℕ, true, false, [], ◌∷◌, ◌++◌, Option, Some, Ok, refl, sym, ◌∙◌, ap, subst, ◌⊎◌, inl, inr, eqb-true}
use Rattle.std.proofs.lemmas.Bool.{and_parts}
use Rattle.std.specs.List.{list_any}
use Rattle.sso_base.specs.Words.{Word, Text}
use Rattle.sso_base.specs.declared.http.Ask.{Ask}
use Rattle.sso_model.specs.Lists.{Has}
use Rattle.sso_model.proofs.ListLaws.{has_append_right}
use Rattle.auth_request.specs.declared.wish.Wish.{Wish}
use Rattle.auth_answer.specs.declared.answer.Answer.{Answer}
use Rattle.code_grant.specs.declared.rows.SessionRow.{SessionRow}
use Rattle.op_exchange.specs.declared.ask.OpAsk.{OpAsk}
use Rattle.op_exchange.specs.declared.reply.OpReply.{OpReply}
use Rattle.op_exchange.specs.declared.reply.OpReply.TheVariants as reply
use Rattle.op_exchange.specs.Replied.{access_in}
use Rattle.op_answer.specs.Past.{OpPair, OpPast}
use Rattle.rp_exchange.specs.declared.ask.RpAsk.{RpAsk}
use Rattle.rp_exchange.specs.declared.ask.RpAsk.TheVariants as rp_ask
use Rattle.sso_places.specs.Site.{Site, IsSite, client_of_party}
use Rattle.sso_places.specs.World.{Place, Provider, Party, World, from_of, op_past}
use Rattle.sso_places.specs.Cookies.{words_in}
use Rattle.sso_places.specs.Legal.{IsLegalWorld}
use Rattle.sso_places.specs.Premises.{IsUnleaked}
use Rattle.sso_places.specs.Unshared.{access_given, op_shown, access_shown, rp_shown, is_self, takes, is_token_response, is_returned, may_bring, may_show, IsUnshared}
use Rattle.sso_places.proofs.Places.{legal_from, legal_before, unleaked_from}
use Rattle.sso_places.proofs.Unshared.{may_be_shown}
use Rattle.sign_on.proofs.Bound.{IsCut, cut}
use Rattle.sign_on.proofs.OpSessions.{IsOpPlace, op_pair_place}
use Rattle.sign_on.proofs.Pairs.{place_has}
use Rattle.authorization.specs.Authorized.{IsAuthorized, HasCode, HasAccess, Redeems, IsRedeemed, IsAccessFor, Informs}
use Rattle.authorization.specs.Reached.{IsAnsweredTo, IsRedeemedBy, IsTaken, is_response, AsksInFront, AsksWithSecret, GetsClaims}
use Rattle.authorization.specs.Laws.{ReachesItsOwn, EachInfo}
use Rattle.authorization.proofs.Claims.{either}
use Rattle.authorization.proofs.Giving.{answers_authorize, tokens_redeem, infos_inform}
use Rattle.authorization.proofs.Messages.{grant_is_granted, some_taken, HasSent, returned_by, sender_is_client}
use Rattle.authorization.proofs.Places.{legal_at, unleaked_at, signed_in, WasAnswered, was_answered}

module _ (s : Site) (from : ℕ) (request : Ask) (p : OpPair) (earlier : World) (legal : IsLegalWorld s (Provider from request p ∷ earlier)) (unleaked : IsUnleaked (Provider from request p ∷ earlier)) where
  abbrev x : Place
  x = Provider from request p

  pub answered_here : (answer : Answer) (given : Option Word) → p.reply ≡ reply.Answered answer given → (wish : Wish) × (session : SessionRow) × IsAnsweredTo s (x ∷ earlier) from answer wish session
  answered_here answer given is =
      let a = answers_authorize s.configuration [] (op_past earlier) p legal.provider answer given is in (
        a.0,
        a.1,
        record {
          later = [];
          request = request;
          pair = p;
          earlier = earlier;
          parts = refl;
          authorizes = a.2;
          signed_in = signed_in s from request p earlier legal unleaked a.1 a.2.signed_in;
        },
      )

  -- a token response, by what it redeems
  pub redeemed_so : (world after : World) → world ≡ after ++ x ∷ earlier → (access : Word) (id : Text) (wish : Wish) (session : SessionRow) → Redeems s.configuration (op_past earlier) p access id wish session
      → IsRedeemedBy s world from access wish session
  redeemed_so world after parts access id wish session r =
      let was : WasAnswered s earlier (HasCode r.code) wish session =
      was_answered s earlier (HasCode r.code) wish session (legal_before s x earlier legal) unleaked.0 r.authorized in
      record {
        later = after;
        request = request;
        pair = p;
        earlier = earlier;
        parts = parts;
        id = id;
        redeems = r;
        secret = grant_is_granted s.configuration request p.entry.ask r.grant legal.asked.0 r.asked;
        browser = was.browser;
        answer = was.answer;
        answered = was.answered;
        code = was.is_such;
      }

  pub redeemed_here : (access : Word) (id : Text) → p.reply ≡ reply.Tokens access id → (wish : Wish) × (session : SessionRow) × IsRedeemedBy s (x ∷ earlier) from access wish session
  redeemed_here access id is =
      let r = tokens_redeem s.configuration [] (op_past earlier) p legal.provider access id is in
      (r.0, r.1, redeemed_so (x ∷ earlier) [] refl access id r.0 r.1 r.2)

module _ (s : Site) (later earlier : World) (from : ℕ) (request : Ask) (p : OpPair) (legal : IsLegalWorld s (later ++ Provider from request p ∷ earlier)) (unleaked : IsUnleaked (later ++ Provider from request p ∷ earlier)) where
  abbrev here : World
  here = Provider from request p ∷ earlier

  pub answers_reach : (answer : Answer) (given : Option Word) → p.reply ≡ reply.Answered answer given → (wish : Wish) × (session : SessionRow) × IsAnsweredTo s here from answer wish session
  answers_reach answer given is = answered_here s from request p earlier (legal_from s later here legal) (unleaked_from later here unleaked) answer given is

  pub tokens_reach : (access : Word) (id : Text) → p.reply ≡ reply.Tokens access id → (wish : Wish) × (session : SessionRow) × IsRedeemedBy s here from access wish session
  tokens_reach access id is = redeemed_here s from request p earlier (legal_from s later here legal) (unleaked_from later here unleaked) access id is

-- ---- UserInfo

-- an access token that may be shown to the provider is the number's own, or is shown by the server of a party
shown_by : (earlier : World) (from : ℕ) (request : Ask) (p : OpPair) (giver : Place) (access : Word) → may_show earlier (Provider from request p) giver access ≡ true
    → (is_self from (from_of giver) ≡ true) ⊎ ((from ≡ 0) × IsTaken earlier request access)
shown_by earlier from request p giver access may =
    elim (either (is_self from (from_of giver)) ((from == 0) && list_any (takes request access) earlier) may) [
      | inl own ↦ inl own
      | inr server ↦
          (let parts = and_parts (from == 0) (list_any (takes request access) earlier) server in
          inr (eqb-true from 0 parts.0, some_taken earlier request access parts.1))
    ]

-- a party may be shown an access token by its own number, or in the answer to its own token request
brought_by : (before : World) (n from : ℕ) (asked : RpAsk) (giver : Place) (access : Word) → Has (rp_shown asked) access → may_bring before n from asked giver ≡ true
    → ((is_response asked ≡ true) × (is_self from (from_of giver) ≡ true)) ⊎ ((pending : Word) × (is_returned before n pending giver ≡ true))
brought_by before n from (rp_ask.Callback (Ok heard) read browser) giver access shows may = inl (refl, may)
brought_by before n from (rp_ask.Tokens pending came read) giver access shows may = inr (pending, may)
brought_by before n from asked giver access shows may = absurd shows

module _ (s : Site) (later earlier : World) (from : ℕ) (request : Ask) (p : OpPair) (site : IsSite s) (legal : IsLegalWorld s (later ++ Provider from request p ∷ earlier)) (unleaked : IsUnleaked (later ++ Provider from request p ∷ earlier))
    (unshared : IsUnshared (later ++ Provider from request p ∷ earlier)) where
  abbrev asks : Place
  asks = Provider from request p

  abbrev whole : World
  whole = later ++ asks ∷ earlier

  old : IsLegalWorld s earlier
  old = legal_before s asks earlier (legal_from s later (asks ∷ earlier) legal)

  old_unleaked : IsUnleaked earlier
  old_unleaked = (unleaked_from later (asks ∷ earlier) unleaked).0

  -- a place before is one of the world
  in_whole : (y : Place) → Has earlier y → Has whole y
  in_whole y has = has_append_right later (asks ∷ earlier) y (inr has)

  gives_some : (reply : OpReply) (access : Word) → access_in reply ≡ Some access → Has (words_in (access_in reply)) access
  gives_some reply access is = (let G : Option Word → Type 0 = λ o. Has (words_in o) access in subst G (sym is) (inl refl))

  module _ (access : Word) (wish : Wish) (session : SessionRow) (shows : Has (access_shown asks) access) where
    abbrev taker : IsTaken earlier request access → Place
    taker taken = Party taken.number taken.from taken.brought taken.pair

    -- the place at which the party was shown it, and how it came there
    pub record Brought (y : Place) (taken : IsTaken earlier request access) : Type 0 where
      pub at : IsCut whole (taker taken)
      pub how : ((is_response taken.pair.entry.ask ≡ true) × (is_self taken.from (from_of y) ≡ true)) ⊎ ((pending : Word) × (is_returned at.before taken.number pending y ≡ true))

    brought_so : (y : Place) → Has earlier y → Has (access_given y) access → (taken : IsTaken earlier request access) → Brought y taken
    brought_so y has gives taken =
        let q : Place = taker taken in
        let at : IsCut whole q = cut whole q (in_whole q taken.has) in
        let may : may_bring at.before taken.number taken.from taken.pair.entry.ask y ≡ true = may_be_shown whole at.after at.before q y access unshared at.parts taken.shows (in_whole y has) gives in
        record { at = at; how = brought_by at.before taken.number taken.from taken.pair.entry.ask y access taken.shows may }

    in_front : IsAuthorized s.configuration (op_past earlier) (HasAccess access) wish session → AsksInFront s earlier from request access wish session
    in_front a =
        let was : WasAnswered s earlier (HasAccess access) wish session = was_answered s earlier (HasAccess access) wish session old old_unleaked a in
        let by = was.answered in
        let y : Place = Provider was.browser by.request by.pair in
        let has : Has earlier y = place_has earlier by.later by.earlier y by.parts in
        let replied : by.pair.reply ≡ reply.Answered was.answer by.authorizes.given = by.authorizes.replied in
        let gives : Has (access_given y) access = gives_some by.pair.reply access (ap access_in replied ∙ was.is_such) in
        let no_tokens : is_token_response by.pair.reply ≡ true → ⊥ = λ is. let never : false ≡ true = sym (ap is_token_response replied) ∙ is in absurd (cc) in
        record {
          browser = was.browser;
          answer = was.answer;
          answered = was.answered;
          has_access = was.is_such;
          who =
              elim (shown_by earlier from request p y access (may_be_shown whole later earlier asks y access unshared refl shows (in_whole y has) gives)) [
                | inl own ↦ inl own
                | inr server ↦
                    (let seen : Brought y server.1 = brought_so y has gives server.1 in
                    elim seen.how [
                      | inl own ↦ inr (server.0, server.1, record { response = own.0; self = own.1 })
                      | inr returned ↦ absurd (no_tokens (returned_by seen.at.before server.1.number returned.0 was.browser by.request by.pair returned.1).0)
                    ])
              ];
        }

    with_secret : IsRedeemed s.configuration (op_past earlier) access wish session → AsksWithSecret s earlier from request access wish session
    with_secret r =
        let at : IsOpPlace earlier r.pair r.earlier = op_pair_place earlier r.later r.pair r.earlier r.parts in
        let z : Place = Provider at.from at.request r.pair in
        let R : OpPast → Type 0 = λ past. Redeems s.configuration past r.pair access r.id wish session in
        let redeems : Redeems s.configuration (op_past at.before) r.pair access r.id wish session = subst R (sym at.past_is) r.redeems in
        let legal_z : IsLegalWorld s (z ∷ at.before) = legal_at s earlier at.after (z ∷ at.before) at.parts old in
        let unleaked_z : IsUnleaked (z ∷ at.before) = unleaked_at earlier at.after (z ∷ at.before) at.parts old_unleaked in
        let gives : Has (access_given z) access = gives_some r.pair.reply access (ap access_in redeems.replied) in
        record {
          redeemer = at.from;
          redeemed = redeemed_so s at.from at.request r.pair at.before legal_z unleaked_z earlier at.after at.parts access r.id wish session redeems;
          who =
              elim (shown_by earlier from request p z access (may_be_shown whole later earlier asks z access unshared refl shows (in_whole z at.has) gives)) [
                | inl own ↦ inl own
                | inr server ↦
                    (let seen : Brought z server.1 = brought_so z at.has gives server.1 in
                    let q : Place = taker server.1 in
                    elim seen.how [
                      | inl own ↦ inr (server.0, server.1, inr (record { response = own.0; self = own.1 }))
                      | inr returned ↦
                          (let back : HasSent seen.at.before server.1.number at.request = (returned_by seen.at.before server.1.number returned.0 at.from at.request r.pair returned.1).1 in
                          let before : IsLegalWorld s seen.at.before = legal_before s q seen.at.before (legal_at s whole seen.at.after (q ∷ seen.at.before) seen.at.parts legal) in
                          let client : redeems.grant.client ≡ client_of_party s server.1.number =
                          sender_is_client s seen.at.before server.1.number at.request back site before r.pair.entry.ask redeems.grant legal_z.asked.0 redeems.asked in
                          inr (server.0, server.1, inl (sym client ∙ redeems.own_client)))
                    ])
              ];
        }

    who_asks : IsAccessFor s.configuration (op_past earlier) access wish session → AsksInFront s earlier from request access wish session ⊎ AsksWithSecret s earlier from request access wish session
    who_asks (inl a) = inl (in_front a)
    who_asks (inr r) = inr (with_secret r)

  pub infos_reach : (claims : Text) → p.reply ≡ reply.Info claims → GetsClaims s earlier from request p claims
  infos_reach claims is =
      let i = infos_inform s.configuration [] (op_past earlier) p (legal_from s later (asks ∷ earlier) legal).provider claims is in
      let informs : Informs s.configuration (op_past earlier) p claims i.0 i.1 = i.2 in
      let O : OpAsk → Type 0 = λ a. Has (op_shown a) informs.access in
      let shows : Has (access_shown asks) informs.access = subst O (sym informs.asked) (inl refl) in
      record { wish = i.0; session = i.1; informs = informs; who = who_asks informs.access i.0 i.1 shows informs.access_for }

-- ---- in a world

pub reaches_its_own : (s : Site) (world : World) → IsLegalWorld s world → IsUnleaked world → ReachesItsOwn s world
reaches_its_own s world legal unleaked =
    let L : World → Type 0 = λ w. IsLegalWorld s w in
    let U : World → Type 0 = λ w. IsUnleaked w in
    record {
      answers = λ later earlier from request p answer given parts is. answers_reach s later earlier from request p (subst L parts legal) (subst U parts unleaked) answer given is;
      tokens = λ later earlier from request p access id parts is. tokens_reach s later earlier from request p (subst L parts legal) (subst U parts unleaked) access id is;
    }

pub infos_reach_their_own : (s : Site) (world : World) → IsSite s → IsLegalWorld s world → IsUnleaked world → IsUnshared world → EachInfo (GetsClaims s) world
infos_reach_their_own s world site legal unleaked unshared later earlier from request p claims parts is =
    let L : World → Type 0 = λ w. IsLegalWorld s w in
    let U : World → Type 0 = λ w. IsUnleaked w in
    let S : World → Type 0 = λ w. IsUnshared w in
    infos_reach s later earlier from request p site (subst L parts legal) (subst U parts unleaked) (subst S parts unshared) claims is
