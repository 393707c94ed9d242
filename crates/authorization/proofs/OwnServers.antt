-- A server that gets claims is that of the party that is the client.
use Rattle.std.proofs.Common.{◌≡◌, ◌==◌, not, ℕ, Bool, true, false, [], ◌∷◌, ◌++◌, Option, Some, None, option_and_then, Ok, refl, sym, ap, ◌∙◌, subst, ◌⊎◌, inl, inr}
use Rattle.std.proofs.lemmas.Bool.{and_parts}
use Rattle.sso_base.specs.Words.{Word, Text, word_of_text}
use Rattle.sso_base.specs.declared.http.Ask.{Ask}
use Rattle.sso_model.specs.Lists.{Has}
use Rattle.auth_request.specs.declared.wish.Wish.{Wish}
use Rattle.auth_answer.specs.declared.answer.Answer.{Answer}
use Rattle.code_grant.specs.declared.rows.SessionRow.{SessionRow}
use Rattle.op_exchange.specs.declared.reply.OpReply.TheVariants as reply
use Rattle.op_answer.specs.Past.{OpPair}
use Rattle.rp_exchange.specs.declared.ask.RpAsk.{RpAsk}
use Rattle.rp_exchange.specs.declared.ask.RpAsk.TheVariants as ask
use Rattle.rp_answer.specs.Past.{RpPair}
use Rattle.sso_places.specs.Site.{Site, IsSite, client_of_party}
use Rattle.sso_places.specs.World.{Place, Provider, World}
use Rattle.sso_places.specs.Cookies.{words_in}
use Rattle.sso_places.specs.Legal.{IsLegalWorld}
use Rattle.sso_places.specs.Premises.{HasDistinctWords, HasDistinctHashes, IsUnleaked, IsUnforged}
use Rattle.sso_places.specs.Unshared.{rp_shown, fetches, is_self, IsUnshared}
use Rattle.sso_places.proofs.Clashes.{hashes_before}
use Rattle.sso_places.proofs.Places.{distinct_from}
use Rattle.sso_places.proofs.Unshared.{unshared_from}
use Rattle.sign_on.proofs.Entering.{unforged_from}
use Rattle.authorization.specs.Reached.{IsAnsweredTo, IsRedeemedBy, IsTaken, is_response, AsksInFront, AsksWithSecret, GetsClaims, ClientGetsClaims}
use Rattle.authorization.specs.Laws.{EachInfo}
use Rattle.authorization.proofs.FrontTokens.{FetchesInFront, party_is_client, party_is_redeeming_client}
use Rattle.authorization.proofs.Messages.{fetch_of}
use Rattle.authorization.proofs.Places.{legal_at, unleaked_at}
use Rattle.authorization.proofs.Reaching.{infos_reach}

-- ---- a party to which a browser brought the access token

read_word : (o : Option Word) (access : Word) → Has (words_in o) access → o ≡ Some access
read_word None access has = absurd has
read_word (Some w) access (inl same) = ap (λ (v : Word). Some v) same
read_word (Some w) access (inr never) = absurd never

texts_word : (o : Option Text) (access : Word) → Has (words_in (option_and_then word_of_text o)) access → (text : Text) × (o ≡ Some text) × (word_of_text text ≡ Some access)
texts_word None access has = absurd has
texts_word (Some text) access has = (text, refl, read_word (word_of_text text) access has)

fetches_by : (request : Ask) (pair : RpPair) (access : Word) (asked : RpAsk) → pair.entry.ask ≡ asked → is_response asked ≡ true → Has (rp_shown asked) access → fetches request pair.reply ≡ true → FetchesInFront pair access
fetches_by request pair access (ask.Callback (Ok heard) read browser) is response shows sends =
    let text = texts_word heard.access access shows in
    let sent = fetch_of request pair.reply sends in
    record { heard = heard; read = read; browser = browser; asked = is; text = text.0; text_is = text.1; access_is = text.2; word = sent.0; message = sent.1; replied = sent.2 }
fetches_by request pair access asked is response shows sends = absurd (cc)

fetches_in_front : (earlier : World) (request : Ask) (access : Word) (taken : IsTaken earlier request access) → is_response taken.pair.entry.ask ≡ true → FetchesInFront taken.pair access
fetches_in_front earlier request access taken response = fetches_by request taken.pair access taken.pair.entry.ask refl response taken.shows taken.sends

no_server : (from other : ℕ) → is_self from other ≡ true → from ≡ 0 → ⊥
no_server from other self server =
    let other_number : not (from == 0) ≡ true = (and_parts (from == other) (not (from == 0)) self).1 in
    let N : ℕ → Bool = λ n. not (n == 0) in
    let never : false ≡ true = sym (ap N server) ∙ other_number in
    absurd (cc)

-- ---- one place more

answered_more : (s : Site) (x : Place) (world : World) (from : ℕ) (answer : Answer) (wish : Wish) (session : SessionRow) → IsAnsweredTo s world from answer wish session → IsAnsweredTo s (x ∷ world) from answer wish session
answered_more s x world from answer wish session a =
    record { later = x ∷ a.later; request = a.request; pair = a.pair; earlier = a.earlier; parts = ap (λ (w : World). x ∷ w) a.parts; authorizes = a.authorizes; signed_in = a.signed_in }

redeemed_more : (s : Site) (x : Place) (world : World) (from : ℕ) (access : Word) (wish : Wish) (session : SessionRow) → IsRedeemedBy s world from access wish session → IsRedeemedBy s (x ∷ world) from access wish session
redeemed_more s x world from access wish session r =
    record {
      later = x ∷ r.later;
      request = r.request;
      pair = r.pair;
      earlier = r.earlier;
      parts = ap (λ (w : World). x ∷ w) r.parts;
      id = r.id;
      redeems = r.redeems;
      secret = r.secret;
      browser = r.browser;
      answer = r.answer;
      answered = r.answered;
      code = r.code;
    }

-- ---- the law at the last place of a world

module _ (s : Site) (earlier : World) (from : ℕ) (request : Ask) (p : OpPair) (claims : Text) (site : IsSite s) (legal : IsLegalWorld s (Provider from request p ∷ earlier)) (distinct : HasDistinctWords (Provider from request p ∷ earlier))
    (unleaked : IsUnleaked (Provider from request p ∷ earlier)) (unforged : IsUnforged s (Provider from request p ∷ earlier)) (hashes : HasDistinctHashes (Provider from request p ∷ earlier))
    (unshared : IsUnshared (Provider from request p ∷ earlier)) (is : p.reply ≡ reply.Info claims) where
  abbrev x : Place
  x = Provider from request p

  gets : GetsClaims s earlier from request p claims
  gets = infos_reach s [] earlier from request p site legal unleaked unshared claims is

  abbrev Own : Type 0
  Own = (taken : IsTaken earlier request gets.informs.access) × (client_of_party s taken.number ≡ gets.wish.client)

  own_in_front : from ≡ 0 → AsksInFront s earlier from request gets.informs.access gets.wish gets.session → Own
  own_in_front server f =
      elim f.who [
        | inl self ↦ absurd (no_server from f.browser self server)
        | inr other ↦
            (let taken : IsTaken earlier request gets.informs.access = other.1 in
            let front : FetchesInFront taken.pair gets.informs.access = fetches_in_front earlier request gets.informs.access taken other.2.response in (
              taken,
              party_is_client s (x ∷ earlier) site legal distinct unforged hashes taken.number taken.from f.browser taken.brought taken.pair gets.informs.access f.answer gets.wish gets.session (inr taken.has) front
                  (answered_more s x earlier f.browser f.answer gets.wish gets.session f.answered) f.has_access,
            ))
      ]

  own_with_secret : from ≡ 0 → AsksWithSecret s earlier from request gets.informs.access gets.wish gets.session → Own
  own_with_secret server f =
      elim f.who [
        | inl self ↦ absurd (no_server from f.redeemer self server)
        | inr other ↦
            (let taken : IsTaken earlier request gets.informs.access = other.1 in
            elim other.2 [
              | inl client ↦ (taken, client)
              | inr brought ↦
                  (let front : FetchesInFront taken.pair gets.informs.access = fetches_in_front earlier request gets.informs.access taken brought.response in (
                    taken,
                    party_is_redeeming_client s (x ∷ earlier) site legal distinct unforged hashes taken.number taken.from f.redeemer taken.brought taken.pair gets.informs.access gets.wish gets.session (inr taken.has) front
                        (redeemed_more s x earlier f.redeemer gets.informs.access gets.wish gets.session f.redeemed),
                  ))
            ])
      ]

  own_server : from ≡ 0 → AsksInFront s earlier from request gets.informs.access gets.wish gets.session ⊎ AsksWithSecret s earlier from request gets.informs.access gets.wish gets.session → Own
  own_server server (inl f) = own_in_front server f
  own_server server (inr f) = own_with_secret server f

  pub client_gets : ClientGetsClaims s earlier from request p claims
  client_gets = record { gets = gets; own_server = λ server. own_server server gets.who }

-- ---- in a world

hashes_from : (after before : World) → HasDistinctHashes (after ++ before) → HasDistinctHashes before
hashes_from [] before hashes = hashes
hashes_from (x ∷ after) before hashes = hashes_from after before (hashes_before x (after ++ before) hashes).0

pub claims_reach : (s : Site) (world : World) → IsSite s → IsLegalWorld s world → HasDistinctWords world → IsUnleaked world → IsUnforged s world → HasDistinctHashes world → IsUnshared world → EachInfo (ClientGetsClaims s) world
claims_reach s world site legal distinct unleaked unforged hashes unshared later earlier from request p claims parts is =
    let here : World = Provider from request p ∷ earlier in
    let D : World → Type 0 = λ w. HasDistinctWords w in
    let F : World → Type 0 = λ w. IsUnforged s w in
    let H : World → Type 0 = λ w. HasDistinctHashes w in
    let S : World → Type 0 = λ w. IsUnshared w in
    client_gets s earlier from request p claims site (legal_at s world later here parts legal) (distinct_from later here (subst D parts distinct)) (unleaked_at world later here parts unleaked)
    (unforged_from s later here (subst F parts unforged)) (hashes_from later here (subst H parts hashes)) (unshared_from later here (subst S parts unshared)) is
