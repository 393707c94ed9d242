-- A client whose server is none of the world's parties, and counts as number 3, redeems the code of alice's login and requests UserInfo.
-- All premises hold together, and the law applies. If browser 2 posts the consent form with the cookies of browser 1, or requests
-- UserInfo with the client's access token, one premise fails, and so does the law.
use Rattle.std.proofs.Common.{◌≡◌, ◌==◌, not, ℕ, false, [], ◌∷◌, codes, Option, Some, None, ◌⊎◌, inl, inr, refl, sym, ap, ◌∙◌, subst, arith, eqb-true}
use Rattle.std.proofs.lemmas.Bool.{and_parts}
use Rattle.sso_base.specs.Words.{Word, Text, word_text}
use Rattle.sso_base.specs.declared.http.Ask.{Ask}
use Rattle.sso_base.specs.declared.http.Method.TheVariants.{Get}
use Rattle.sso_base.specs.declared.history.Entry.{Entry}
use Rattle.sso_base.proofs.OnLiterals.{base64url_on_literals}
use Rattle.sso_base.proofs.Utf8Bytes.{IsUtf8-are_ascii}
use Rattle.sso_model.specs.Lists.{Has}
use Rattle.sso_model.proofs.ListLaws.{has_append_right}
use Rattle.hmac256.proofs.OnLiterals.{hmac_on_literals}
use Rattle.claim_set.specs.Reading.{claims_text}
use Rattle.client_registry.specs.ClientSets.{no_clients}
use Rattle.request_params.proofs.OnLiterals.{request_params_on_literals}
use Rattle.auth_request.specs.declared.wish.Wish.{Wish}
use Rattle.auth_answer.specs.declared.answer.Answer.{Answer}
use Rattle.userinfo.specs.declared.header.Bearer.{Bearer}
use Rattle.userinfo.specs.declared.header.Bearer.TheVariants.{Given}
use Rattle.userinfo.specs.Request.{info_message}
use Rattle.userinfo.specs.Held.{info_members}
use Rattle.userinfo.proofs.BearerHeaders.{printed_is_read}
use Rattle.code_grant.specs.declared.rows.SessionRow.{SessionRow}
use Rattle.op_exchange.specs.declared.ask.OpAsk.{OpAsk}
use Rattle.op_exchange.specs.declared.ask.OpAsk.TheVariants as ask
use Rattle.op_exchange.specs.declared.reply.OpReply.{OpReply}
use Rattle.op_exchange.specs.declared.reply.OpReply.TheVariants as reply
use Rattle.op_exchange.specs.Values.{IsOpAsk}
use Rattle.op_exchange.proofs.Sample.{callback_uri}
use Rattle.op_request.specs.Prepared.{prepared}
use Rattle.op_issue.specs.IdTokens.{issued_id}
use Rattle.op_answer.specs.Past.{OpPair, OpPast}
use Rattle.op_answer.specs.Legal.{IsLegalOp}
use Rattle.op_answer.specs.Answering.{op_answer}
use Rattle.op_answer.proofs.FirstLogin as op
use Rattle.rp_answer.proofs.Sample.{word}
use Rattle.sso_places.specs.Site.{Site, IsSite}
use Rattle.sso_places.specs.World.{Place, Provider, Party, Nothing, World, from_of, drawn}
use Rattle.sso_places.specs.Legal.{IsLegalWorld}
use Rattle.sso_places.specs.Premises.{HasDistinctWords, HasDistinctHashes, IsUnleaked, IsUnforged, IsJoined}
use Rattle.sso_places.specs.Unshared.{IsUnshared, first_shared}
use Rattle.sso_places.proofs.Clashes.{hashes_after}
use Rattle.sso_places.proofs.SmallSite.{configuration, site, site_is, drawn_word, are_distinct, legal_entry}
use Rattle.sso_places.proofs.LoginByCode.{authorizes, logs_in, consents, redeems, authorize_entry, token_entry, code_answer, our_wish, state_text, code_text, past_consent, code_is, consent_legal, authorize_is_asked, login_is_asked, consent_is_asked, token_is_asked}
use Rattle.sign_on.proofs.Pairs.{place_has}
use Rattle.authorization.specs.Reached.{HasSignedIn, IsAnsweredTo, AsksInFront, AsksWithSecret, ClientGetsClaims}
use Rattle.authorization.specs.Laws.{EachInfo}
use Rattle.authorization.proofs.GivenTokens.{replied_at}
use Rattle.authorization.proofs.OwnServers.{claims_reach}

-- ---- the provider gives tokens for the code

abbrev tokens : OpReply
tokens = reply.Tokens (word 21) (issued_id configuration our_wish op.signed_alice 1000 (Some (word 21)) None)

token_is_answered : op_answer configuration past_consent token_entry ≡ tokens
unfolding op_answer
token_is_answered = rw code_is refl

abbrev past_tokens : OpPast
past_tokens = op.pair_of token_entry tokens ∷ past_consent

tokens_legal : IsLegalOp configuration past_tokens
tokens_legal = (
  consent_legal,
  legal_entry IsOpAsk 21 token_entry.ask refl (record { client = omega arith; code = IsUtf8-are_ascii code_text refl; redirect = IsUtf8-are_ascii our_wish.redirect refl }),
  omega arith,
  sym token_is_answered,
)

-- ---- and claims for the access token

abbrev asks : Ask
asks = record { method = Get; path = codes "/userinfo"; query = []; body = None; first = None; second = None; auth = (info_message [] (word_text (word 21))).auth }

abbrev info_entry : Entry OpAsk
info_entry = op.entry_at 1000 33 (ask.Info (Given (word 21)))

abbrev claims : Text
claims = claims_text (info_members configuration 0 0 our_wish.scopes our_wish.info_asked)

abbrev info_pair : OpPair
info_pair = op.pair_of info_entry (reply.Info claims)

info_is_asked : prepared configuration asks ≡ ask.Info (Given (word 21))
unfolding prepared
info_is_asked = ap (λ (b : Bearer). ask.Info b) (printed_is_read [] (word 21) (drawn_word (word 21) refl refl))

info_is_answered : op_answer configuration past_tokens info_entry ≡ reply.Info claims
unfolding op_answer no_clients
info_is_answered = rw code_is refl

provider_legal : IsLegalOp configuration (info_pair ∷ past_tokens)
provider_legal = (tokens_legal, legal_entry IsOpAsk 33 info_entry.ask refl (drawn_word (word 21) refl refl), omega arith, sym info_is_answered)

-- ---- the worlds, by the number that consents and the number that requests UserInfo

abbrev before : ℕ → World
before by =
    Provider 3 redeems (op.pair_of token_entry tokens)
    ∷ Provider by consents (op.pair_of op.consent_entry code_answer)
    ∷ Provider 1 logs_in (op.pair_of op.login_entry op.consent_page)
    ∷ Provider 1 authorizes (op.pair_of authorize_entry op.login_page)
    ∷ []

abbrev asked : ℕ → ℕ → World
asked by from = Provider from asks info_pair ∷ before by

legal : (by from : ℕ) → IsLegalWorld site (asked by from)
legal by from =
    record {
      provider = provider_legal;
      parties = λ n. tt;
      asked = (sym info_is_asked, (sym token_is_asked, (sym consent_is_asked, (sym login_is_asked, (sym authorize_is_asked, tt)))));
    }

distinct : (by from : ℕ) → HasDistinctWords (asked by from)
distinct by from = are_distinct (drawn (asked by from)) refl

unforged : (by from : ℕ) → IsUnforged site (asked by from)
unfolding request_params_on_literals
unforged by from = (((((tt, refl), refl), refl), refl), refl)

joined : (by from : ℕ) → IsJoined (asked by from)
joined by from = tt

-- the code is `word 15`, and the access token `word 21`
hashes : (by from : ℕ) → HasDistinctHashes (asked by from)
unfolding hmac_on_literals base64url_on_literals
hashes by from =
    let signed : World = Provider 1 logs_in (op.pair_of op.login_entry op.consent_page) ∷ Provider 1 authorizes (op.pair_of authorize_entry op.login_page) ∷ [] in
    let consented : Place = Provider by consents (op.pair_of op.consent_entry code_answer) in
    let redeemed : Place = Provider 3 redeems (op.pair_of token_entry tokens) in
    hashes_after (Provider from asks info_pair) (before by)
    (hashes_after redeemed (consented ∷ signed) (hashes_after consented signed (λ v w has_v has_w same. absurd has_v) refl) refl)
    refl

unleaked : (from : ℕ) → IsUnleaked (asked 1 from)
unleaked from = (((((tt, refl), refl), refl), refl), refl)

unshared : (by : ℕ) → IsUnshared (asked by 3)
unshared by = (((((tt, refl), refl), refl), refl), refl)

-- ---- all premises hold together

gets : ClientGetsClaims site (before 1) 3 asks info_pair claims
gets = claims_reach site (asked 1 3) site_is (legal 1 3) (distinct 1 3) (unleaked 3) (unforged 1 3) (hashes 1 3) (unshared 1) [] (before 1) 3 asks info_pair claims refl refl

first_shared-none : first_shared (asked 1 3) ≡ None
first_shared-none = refl

first_shared-fifth : first_shared (asked 1 2) ≡ Some 5
first_shared-fifth = refl

-- ---- who got what

abbrev asked_at : Place → OpAsk
asked_at (Provider from request p) = p.entry.ask
asked_at (Party n from request p) = ask.NotHere
asked_at Nothing = ask.NotHere

-- the one authorization response went to the number that consented, and has no access token
answered_to : (by from : ℕ) (request : Ask) (pair : OpPair) → Has (before by) (Provider from request pair) → (a : Answer) (given : Option Word) → pair.reply ≡ reply.Answered a given → (by ≡ from) × (a.access ≡ None)
answered_to by from request pair (inl same) a given is = (let never : tokens ≡ reply.Answered a given = ap replied_at same ∙ is in absurd (cc))
answered_to by from request pair (inr (inl same)) a given is =
    let told : code_answer ≡ reply.Answered a given = ap replied_at same ∙ is in
    let ours : Answer = record { redirect = callback_uri; fragment = false; code = Some (word 15); access = None; id = None; state = Some state_text } in
    let one : ours ≡ a = cc in
    (ap from_of same, sym (ap (λ (v : Answer). v.access) one))
answered_to by from request pair (inr (inr (inl same))) a given is = (let never : op.consent_page ≡ reply.Answered a given = ap replied_at same ∙ is in absurd (cc))
answered_to by from request pair (inr (inr (inr (inl same)))) a given is = (let never : op.login_page ≡ reply.Answered a given = ap replied_at same ∙ is in absurd (cc))
answered_to by from request pair (inr (inr (inr (inr never)))) a given is = absurd never

-- the one token response went to number 3
redeemed_to : (by from : ℕ) (request : Ask) (pair : OpPair) → Has (before by) (Provider from request pair) → (access : Word) (id : Text) → pair.reply ≡ reply.Tokens access id → ◌≡◌ {A = ℕ} 3 from
redeemed_to by from request pair (inl same) access id is = ap from_of same
redeemed_to by from request pair (inr (inl same)) access id is = (let never : code_answer ≡ reply.Tokens access id = ap replied_at same ∙ is in absurd (cc))
redeemed_to by from request pair (inr (inr (inl same))) access id is = (let never : op.consent_page ≡ reply.Tokens access id = ap replied_at same ∙ is in absurd (cc))
redeemed_to by from request pair (inr (inr (inr (inl same)))) access id is = (let never : op.login_page ≡ reply.Tokens access id = ap replied_at same ∙ is in absurd (cc))
redeemed_to by from request pair (inr (inr (inr (inr never)))) access id is = absurd never

-- the one login form came from browser 1
signed_in_by : (by from : ℕ) (request : Ask) (pair : OpPair) → Has (before by) (Provider from request pair) → (turn browser presented : Option Word) (user : ℕ) → pair.entry.ask ≡ ask.Login turn (Some user) browser presented → ◌≡◌ {A = ℕ} 1 from
signed_in_by by from request pair (inl same) turn browser presented user is = (let never : token_entry.ask ≡ ask.Login turn (Some user) browser presented = ap asked_at same ∙ is in absurd (cc))
signed_in_by by from request pair (inr (inl same)) turn browser presented user is = (let never : op.consent_entry.ask ≡ ask.Login turn (Some user) browser presented = ap asked_at same ∙ is in absurd (cc))
signed_in_by by from request pair (inr (inr (inl same))) turn browser presented user is = ap from_of same
signed_in_by by from request pair (inr (inr (inr (inl same)))) turn browser presented user is = (let never : authorize_entry.ask ≡ ask.Login turn (Some user) browser presented = ap asked_at same ∙ is in absurd (cc))
signed_in_by by from request pair (inr (inr (inr (inr never)))) turn browser presented user is = absurd never

not_in_front : (by from : ℕ) (access : Word) (wish : Wish) (session : SessionRow) → AsksInFront site (before by) from asks access wish session → ⊥
not_in_front by from access wish session f =
    let a = f.answered in
    let y : Place = Provider f.browser a.request a.pair in
    let none : f.answer.access ≡ None = (answered_to by f.browser a.request a.pair (place_has (before by) a.later a.earlier y a.parts) f.answer a.authorizes.given a.authorizes.replied).1 in
    let never : None ≡ Some access = sym none ∙ f.has_access in
    absurd (cc)

-- ---- the cookies

-- if browser 2 consents, the number that got the code had not signed in
not_answered : (world : World) (browser : ℕ) (answer : Answer) (wish : Wish) (session : SessionRow) → ((y : Place) → Has world y → Has (before 2) y) → IsAnsweredTo site world browser answer wish session → ⊥
not_answered world browser answer wish session among a =
    let x : Place = Provider browser a.request a.pair in
    let there : (y : Place) → Has (x ∷ a.earlier) y → Has (before 2) y =
    λ y has.
    let H : World → Type 0 = λ w. Has w y in
    among y (subst H (sym a.parts) (has_append_right a.later (x ∷ a.earlier) y has)) in
    let signed : HasSignedIn site (x ∷ a.earlier) browser session = a.signed_in in
    let to : ◌≡◌ {A = ℕ} 2 browser = (answered_to 2 browser a.request a.pair (there x (inl refl)) answer a.authorizes.given a.authorizes.replied).0 in
    let by : ◌≡◌ {A = ℕ} 1 browser =
    signed_in_by 2 browser signed.request signed.pair (there (Provider browser signed.request signed.pair) signed.has) signed.turn signed.browser signed.presented session.user signed.asked in
    absurd (omega (arith, to, by))

stolen_code : (from : ℕ) (access : Word) (wish : Wish) (session : SessionRow) → AsksWithSecret site (before 2) from asks access wish session → ⊥
stolen_code from access wish session f =
    let r = f.redeemed in
    let x : Place = Provider f.redeemer r.request r.pair in
    let among : (y : Place) → Has r.earlier y → Has (before 2) y =
    λ y has.
    let H : World → Type 0 = λ w. Has w y in
    subst H (sym r.parts) (has_append_right r.later (x ∷ r.earlier) y (inr has)) in
    not_answered r.earlier r.browser r.answer wish session among r.answered

no_one : (by from : ℕ) → ((access : Word) (wish : Wish) (session : SessionRow) → AsksWithSecret site (before by) from asks access wish session → ⊥) → (access : Word) (wish : Wish) (session : SessionRow)
    → AsksInFront site (before by) from asks access wish session ⊎ AsksWithSecret site (before by) from asks access wish session → ⊥
no_one by from never access wish session (inl f) = not_in_front by from access wish session f
no_one by from never access wish session (inr f) = never access wish session f

no_claims : (by from : ℕ) → ((access : Word) (wish : Wish) (session : SessionRow) → AsksWithSecret site (before by) from asks access wish session → ⊥) → ClientGetsClaims site (before by) from asks info_pair claims → ⊥
no_claims by from never c = no_one by from never c.gets.informs.access c.gets.wish c.gets.session c.gets.who

pub not_without_secret_cookies : ((s : Site) (world : World) → IsSite s → IsLegalWorld s world → HasDistinctWords world → IsUnforged s world → IsJoined world → HasDistinctHashes world → IsUnshared world → EachInfo (ClientGetsClaims s) world)
    → ⊥
not_without_secret_cookies law =
    let c : ClientGetsClaims site (before 2) 3 asks info_pair claims =
    law site (asked 2 3) site_is (legal 2 3) (distinct 2 3) (unforged 2 3) (joined 2 3) (hashes 2 3) (unshared 2) [] (before 2) 3 asks info_pair claims refl refl in
    no_claims 2 3 (stolen_code 3) c

-- ---- the access token

stolen_token : (access : Word) (wish : Wish) (session : SessionRow) → AsksWithSecret site (before 1) 2 asks access wish session → ⊥
stolen_token access wish session f =
    let r = f.redeemed in
    let y : Place = Provider f.redeemer r.request r.pair in
    let server : ◌≡◌ {A = ℕ} 3 f.redeemer = redeemed_to 1 f.redeemer r.request r.pair (place_has (before 1) r.later r.earlier y r.parts) access r.id r.redeems.replied in
    elim f.who [
      | inl self ↦
          (let same : ◌≡◌ {A = ℕ} 2 f.redeemer = eqb-true 2 f.redeemer (and_parts (2 == f.redeemer) (not (2 == 0)) self).0 in
          absurd (omega (arith, same, server)))
      | inr other ↦ (let same : ◌≡◌ {A = ℕ} 2 0 = other.0 in absurd (omega (arith, same)))
    ]

pub not_without_secret_access_tokens : ((s : Site) (world : World) → IsSite s → IsLegalWorld s world → HasDistinctWords world → IsUnleaked world → IsUnforged s world → IsJoined world → HasDistinctHashes world → EachInfo (ClientGetsClaims s) world)
    → ⊥
not_without_secret_access_tokens law =
    let c : ClientGetsClaims site (before 1) 2 asks info_pair claims =
    law site (asked 1 2) site_is (legal 1 2) (distinct 1 2) (unleaked 2) (unforged 1 2) (joined 1 2) (hashes 1 2) [] (before 1) 2 asks info_pair claims refl refl in
    no_claims 1 2 stolen_token c
