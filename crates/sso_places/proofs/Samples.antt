-- The definitions, tried on one login and on what comes after it. What is sealed and spelled stays closed.
use Rattle.std.proofs.Common.{◌≡◌, ℕ, zero, suc, Bool, true, false, cond, [], ◌∷◌, length, Option, Some, None, is_some, option_and_then, Ok, codes, inl, inr, refl, sym, ◌∙◌, ap, arith}
use Rattle.std.specs.Str.{bytes_eq}
use Rattle.sso_base.specs.Words.{Word, Text, IsWord, word_text, word_of_text}
use Rattle.sso_base.specs.Base64Url.{all_bytes}
use Rattle.sso_base.proofs.RowLaws.{bytes_true}
use Rattle.sso_base.proofs.Spelling.{IsBytes-from_all_bytes}
use Rattle.sso_model.specs.Machine.{IsRun, after}
use Rattle.sso_model.specs.Rows.{Began, Live, Sent, Dead, Machine, enter, see, drop, lapse, end, out, close, forget, unnamed}
use Rattle.client_registry.specs.declared.records.Provider.{Provider as Trusted}
use Rattle.client_registry.specs.Configuration.{Configuration}
use Rattle.client_registry.specs.ClientSets.{no_clients}
use Rattle.client_registry.specs.Numbers.{client_sealing}
use Rattle.request_params.specs.declared.params.Params.{Params}
use Rattle.id_token.specs.declared.claims.IdClaims.{IdClaims}
use Rattle.token_endpoint.specs.Request.{token_message}
use Rattle.userinfo.specs.declared.header.Bearer.TheVariants.{Given}
use Rattle.op_exchange.specs.declared.ask.OpAsk.TheVariants as op_ask
use Rattle.op_exchange.specs.declared.reply.OpReply.{OpReply}
use Rattle.op_exchange.specs.declared.reply.OpReply.TheVariants.{Tokens as TokensReply, Info as InfoReply, Keys, NotHere}
use Rattle.op_exchange.proofs.Sample.{sample as op_sample, wish, callback_uri}
use Rattle.op_issue.specs.IdTokens.{issued_id}
use Rattle.op_issue.specs.LogoutTokens.{logout_id, issued_logout}
use Rattle.op_issue.proofs.SmallRegistry.{small, small_registry}
use Rattle.op_answer.specs.Answering.{op_answer}
use Rattle.op_answer.proofs.FirstLogin as op
use Rattle.op_request.specs.Prepared.{prepared}
use Rattle.op_answer.proofs.Sessions.{alice_out, message_to_shop}
use Rattle.rp_exchange.specs.declared.ask.RpAsk.TheVariants as rp_ask
use Rattle.rp_exchange.specs.declared.reply.RpReply.TheVariants.{Ask, Fetch, Entered, Nobody, Ended}
use Rattle.rp_answer.specs.Past.{RpPair}
use Rattle.rp_answer.proofs.Sample.{word, words, op as provider, shop, shop_client, news_client, shop_uri, hybrid_setup, registered, pair_of, entry_at}
use Rattle.rp_answer.proofs.FirstVisit as rp
use Rattle.rp_answer.proofs.LoggedOut.{claims, logout_at}
use Rattle.sso_places.specs.declared.types.WorldAsk.TheVariants.{Http, Info}
use Rattle.sso_places.specs.declared.types.Broken.TheVariants.{Forged, Leaked, HashClash}
use Rattle.sso_places.specs.Site.{Site, own_site, IsSite}
use Rattle.sso_places.specs.World.{Place, Provider, Party, Nothing, World, place_at, from_of, op_place, entered_as}
use Rattle.sso_places.specs.Told.{told_clients}
use Rattle.sso_places.specs.Written.{rp_written, written_at}
use Rattle.sso_places.specs.Tokens.{is_sealed, is_sealed_for}
use Rattle.sso_places.specs.Checked.{object_in, checked}
use Rattle.sso_places.specs.Premises.{IsJoined}
use Rattle.sso_places.specs.Legal.{IsLegalWorld}
use Rattle.sso_places.specs.FirstBroken.{do_clash, first_broken}
use Rattle.sso_places.specs.Reading.{steps_at, machine_of}
use Rattle.sso_places.specs.Agreement.{IsSameSession, LiveRowsAgree}
use Rattle.sso_places.specs.SameBrowser.{IsAskedOnlyFrom, IsAnsweredOnlyTo}
use Rattle.sso_places.specs.Binding.{HasCodeBeside, HasAccessBeside, ExchangesCode, IsRedeemed, AsksForInfo, IsInformed}
use Rattle.sso_places.proofs.Story.{configuration, site, shows, at_op, at_shop, authorized, consented, came, callback, exchanged, tokens_pair, entered, own_session, signed_on, visit_at, leave, sign_out, signed_out, logout}

-- ---- the reading of a whole login

abbrev session : Live
session = record { event = 7; client = 0; browser = 1; nonce = Some (word_text (word 3)); user = 0; sid = codes "sid" }

abbrev machine_entered : Machine
machine_entered =
    record {
      began = record { client = 0; browser = 1; nonce = Some (word_text (word 3)) } ∷ [];
      signed = record { sid = word_text (word 10); user = 0; browser = 1 } ∷ [];
      answered = record { event = 4; browser = 1; nonce = Some (word_text (word 3)); client = 0; user = 0; sid = word_text (word 10) } ∷ [];
      redeemed = 4 ∷ [];
      out = [];
      closed = [];
      entered = record { client = 0; nonce = Some (word_text (word 3)) } ∷ [];
      live = session ∷ [];
      ended = [];
      dead = [];
    }

whole_login : (code : Text) → word_of_text code ≡ Some (word 15) → machine_of site (entered code) ≡ machine_entered
unfolding no_clients
whole_login code spells = rw spells refl

-- ---- what comes after it

user_is_shown : (code : Text) → steps_at site (entered code) machine_entered (visit_at 1 1002) ≡ see 7 0 1 0 ∷ []
user_is_shown code = refl

-- another browser's step names that browser, and may not be taken
user_is_shown_elsewhere : (code : Text) → steps_at site (entered code) machine_entered (visit_at 2 1002) ≡ see 7 0 2 0 ∷ []
user_is_shown_elsewhere code = refl

-- the session lapses 28,800 seconds after it was entered, and not before
not_yet_over : (code : Text) → steps_at site (entered code) machine_entered (visit_at 1 29799) ≡ see 7 0 1 0 ∷ []
not_yet_over code = refl

over : (code : Text) → steps_at site (entered code) machine_entered (visit_at 1 29800) ≡ lapse 7 ∷ see 7 0 1 0 ∷ []
over code = refl

browser_leaves : (code : Text) → steps_at site (entered code) machine_entered leave ≡ drop 7 0 1 ∷ []
browser_leaves code = refl

-- nobody was let in under the word
nobody_to_leave : steps_at site consented (machine_of site consented) leave ≡ unnamed ∷ []
unfolding no_clients
nobody_to_leave = refl

-- ---- a sign-out, and the logout token of its message

abbrev message : Sent
message = record { place = 8; client = 0; user = 0; sid = word_text (word 10); only = true }

tells_the_shop : (code : Text) → steps_at site (entered code) machine_entered sign_out ≡ out message ∷ close (word_text (word 10)) ∷ []
unfolding no_clients
tells_the_shop code = refl

tells_nobody : steps_at site [] (machine_of site []) sign_out ≡ []
tells_nobody = refl

only_the_shop : told_clients configuration (true ∷ true ∷ []) ≡ 0 ∷ []
only_the_shop = refl

nobody_answered : told_clients configuration (false ∷ false ∷ []) ≡ []
nobody_answered = refl

logout_is_written : (code : Text) → written_at site (entered code) sign_out ≡ (0, issued_logout configuration 0 alice_out) ∷ []
unfolding no_clients
logout_is_written code = refl

abbrev machine_told : Machine
machine_told = record machine_entered { out = message ∷ []; closed = word_text (word 10) ∷ [] }

logout_ends_it : (code jti : Text) → bytes_eq (logout_id (word 29) 0) jti ≡ true → steps_at site (signed_out code) machine_told (logout jti) ≡ end message 1 ∷ []
logout_ends_it code jti same = rw same refl

-- no message has another `jti`
unknown_logout : (code jti : Text) → bytes_eq (logout_id (word 29) 0) jti ≡ false → steps_at site (signed_out code) machine_told (logout jti) ≡ unnamed ∷ []
unknown_logout code jti other = rw other refl

-- its session identifier is dead then, since the message is for this session alone
abbrev ended_sid : Dead
ended_sid = record { client = 0; sid = word_text (word 10) }

one_is_dead : (after machine_told (end message 1)).dead ≡ ended_sid ∷ []
one_is_dead = refl

-- ---- a dead session identifier is forgotten 661 seconds after the last logout token that named it, and not before

-- at this moment the shop accepts a logout token with this `sid`
abbrev named_at : ℕ → Place
named_at at = Party 0 0 (Http (shows None None)) (pair_of (logout_at at (record claims { sid = Some (codes "sid") })) (Ended 1))

abbrev dead : Dead
dead = record { client = 0; sid = codes "sid" }

abbrev machine_dead : Machine
machine_dead = record machine_entered { live = []; dead = dead ∷ [] }

-- a browser visits the party with this number, and nobody is logged in there
abbrev nobody_at : ℕ → ℕ → Place
nobody_at n at = Party n 1 (Http (shows None None)) (pair_of (entry_at at 41 (rp_ask.Visit None)) Nobody)

still_remembered : steps_at site (named_at 1100 ∷ []) machine_dead (nobody_at 0 1760) ≡ []
still_remembered = refl

forgotten : steps_at site (named_at 1100 ∷ []) machine_dead (nobody_at 0 1761) ≡ forget dead ∷ []
forgotten = refl

named_again : steps_at site (named_at 1200 ∷ named_at 1100 ∷ []) machine_dead (nobody_at 0 1761) ≡ []
named_again = refl

-- the other party forgets none of the shop's
other_party_forgets_none : steps_at site (named_at 1100 ∷ []) machine_dead (nobody_at 1 1761) ≡ []
other_party_forgets_none = refl

-- ---- numbers of places

numbered : place_at (callback ∷ []) 1 ≡ Some callback
numbered = refl

no_place : place_at consented 5 ≡ None
no_place = refl

code_made_at : op_place consented 2 ≡ Some 4
code_made_at = refl

no_such_pair : op_place consented 3 ≡ None
no_such_pair = refl

let_in_at : entered_as 0 (word 26) (entered (codes "code")) ≡ Some 7
let_in_at = refl

not_let_in : entered_as 1 (word 26) (entered (codes "code")) ≡ None
not_let_in = refl

-- ---- a login that waits for UserInfo, and one that does not

abbrev fetches : Place
fetches = at_shop came (pair_of (rp.tokens_entry 1000 (word_text (word 3))) (Fetch (word 17) message_to_shop))

abbrev told : Place
told = at_shop (Info (word 17) (record { status = 200; body = [] })) (pair_of (entry_at 1000 29 (rp_ask.Info (word 17) (Ok (codes "alice")))) (Entered (word 30) (codes "alice")))

enters_after_info : (code : Text) → steps_at site (fetches ∷ exchanged code) (machine_of site []) told ≡ enter (record session { event = 8 }) ∷ []
enters_after_info code = refl

no_info_awaited : (code : Text) → steps_at site (exchanged code) (machine_of site []) told ≡ unnamed ∷ []
no_info_awaited code = refl

-- ---- cookies: a session's word, shown by its own browser, by another, and by a server

abbrev logged_in : World
logged_in = at_op (shows (Some (word 5)) None) (op.pair_of op.login_entry op.consent_page) ∷ []

abbrev consent_from : ℕ → World
consent_from from = Provider from (shows (Some (word 5)) (Some (word 9))) (op.pair_of op.consent_entry op.code_answer) ∷ logged_in

stolen_cookie : first_broken site (consent_from 2) ≡ Some (Leaked 2)
stolen_cookie = refl

-- the number 0 is a number too
stolen_by_server : first_broken site (consent_from 0) ≡ Some (Leaked 2)
stolen_by_server = refl

-- what fails first stays so
stolen_before : first_broken site (Nothing ∷ consent_from 2) ≡ Some (Leaked 2)
stolen_before = refl

own_cookie : first_broken site (consent_from 1) ≡ None
own_cookie = refl

-- ---- an ID Token that no place wrote, sealed under the client's secret, and one that is not

abbrev brings : Text → Place
brings id =
    at_shop came (pair_of (entry_at 1000 25 (rp_ask.Tokens (word 17) (Ok (record { access = codes "access"; id = id })) None)) rp.entered)

forged : (id : Text) → is_sealed (client_sealing configuration 0) id ≡ true → first_broken site (brings id ∷ []) ≡ Some (Forged 1)
forged id seals = rw seals refl

refused : (id : Text) → is_sealed (client_sealing configuration 0) id ≡ false → first_broken site (brings id ∷ []) ≡ None
refused id seals = rw seals refl

-- ---- a token is sealed for a client under its secret, and while that is changed under the old one; none is sealed for an unknown client

abbrev changed : Configuration
changed = record configuration { clients = (record shop_client { old_secret = Some (codes "old") }) ∷ news_client ∷ [] }

sealed_under_the_secret : (id : Text) → is_sealed shop_client.secret id ≡ true → is_sealed_for changed (0, id) ≡ true
sealed_under_the_secret id seals = rw seals refl

sealed_under_the_old_secret : (id : Text) → is_sealed shop_client.secret id ≡ false → is_sealed (codes "old") id ≡ true → is_sealed_for changed (0, id) ≡ true
sealed_under_the_old_secret id other seals = rw (other, seals) refl

sealed_under_neither : (id : Text) → is_sealed shop_client.secret id ≡ false → is_sealed (codes "old") id ≡ false → is_sealed_for changed (0, id) ≡ false
sealed_under_neither id other old = rw (other, old) refl

sealed_for_nobody : (id : Text) → is_sealed_for changed (2, id) ≡ false
sealed_for_nobody id = refl

-- so a token under the old secret that no place wrote is forged
forged_under_the_old_secret : (id : Text) → is_sealed shop_client.secret id ≡ false → is_sealed (codes "old") id ≡ true → first_broken (own_site changed) (brings id ∷ []) ≡ Some (Forged 1)
forged_under_the_old_secret id other seals = rw (other, seals) refl

-- ---- access tokens that have one half digest, and some that have not

abbrev gives : Word → Place
gives access = at_op (shows None None) (op.pair_of (op.token_entry 1000 (codes "code")) (TokensReply access (codes "id")))

abbrev given : Word → Word → World
given first second = gives second ∷ gives first ∷ []

clash : (v w : Word) → do_clash w v ≡ true → first_broken site (given v w) ≡ Some (HashClash 1 2)
clash v w apart = rw (bytes_true v v refl, bytes_true w w refl, apart) refl

no_clash : (v w : Word) → do_clash w v ≡ false → first_broken site (given v w) ≡ None
no_clash v w same = rw (bytes_true v v refl, bytes_true w w refl, same) refl

-- ---- a legal world, and one whose reply is not the answer

abbrev lost : OpReply → Place
lost reply = at_op (shows None None) (op.pair_of (op.entry_at 1000 5 op_ask.NotHere) reply)

lost_is_answered : op_answer configuration [] (op.entry_at 1000 5 op_ask.NotHere) ≡ NotHere
unfolding op_answer
lost_is_answered = refl

lost_is_asked : prepared configuration (shows None None) ≡ op_ask.NotHere
unfolding prepared
lost_is_asked = refl

drawn_word : (w : Word) → length w ≡ 32 → all_bytes w ≡ true → IsWord w
drawn_word w long bytes = record { long = long; bytes = IsBytes-from_all_bytes w bytes }

legal : IsLegalWorld site (lost NotHere ∷ [])
legal = record {
  provider = (
    tt,
    record {
      moment = omega arith;
      four = refl;
      words = (drawn_word (word 5) refl refl, (drawn_word (word 6) refl refl, (drawn_word (word 7) refl refl, (drawn_word (word 8) refl refl, tt))));
      ask = tt;
    },
    omega arith,
    sym lost_is_answered,
  );
  parties = λ n. tt;
  asked = (sym lost_is_asked, tt);
}

other_reply : IsLegalWorld site (lost Keys ∷ []) → ⊥
other_reply world =
    let told : Keys ≡ NotHere = world.provider.3 ∙ lost_is_answered in
    absurd (cc)

other_ask : IsLegalWorld site (at_op (shows None None) (op.pair_of (op.entry_at 1000 5 op_ask.Keys) Keys) ∷ []) → ⊥
other_ask world =
    let told : op_ask.Keys ≡ op_ask.NotHere = world.asked.0 ∙ lost_is_asked in
    absurd (cc)

-- ---- token texts

token_is_checked : checked site (at_shop came tokens_pair) ≡ (0, codes "id") ∷ []
token_is_checked = refl

callback_checks_none : checked site callback ≡ []
callback_checks_none = refl

-- ---- an answer of the provider under the number of its question, and under another

abbrev from_in : Option Place → ℕ
from_in None = 1
from_in (Some x) = from_of x

joined : IsJoined (at_shop came tokens_pair ∷ callback ∷ [])
joined = ((tt, tt), λ y holds. ap (λ (o : Option Place). from_in o) (sym holds))

apart : IsJoined (Party 0 2 came tokens_pair ∷ callback ∷ []) → ⊥
apart whole =
    let same : ◌≡◌ {A = ℕ} 1 2 = whole.1 callback refl in
    absurd (omega arith)

-- ---- who takes part

abbrev other_provider : Trusted
other_provider = record (small.provider) { issuer = [] }

small_site : IsSite (own_site small)
small_site = record { registry = small_registry; one_issuer = λ n. refl }

other_site : IsSite (record { configuration = small; trusts = λ n. other_provider }) → ⊥
other_site is =
    let same : length (other_provider.issuer) ≡ length (small.provider.issuer) = ap (λ (t : Text). length t) (is.one_issuer 0) in
    absurd (cc)

-- ---- who sent a nonce, and what is in one reply

asked_from_one : IsAskedOnlyFrom consented 1 (Some (word_text (word 3)))
asked_from_one = (λ never. absurd never, (λ never. absurd never, (λ asked. refl, (tt, tt))))

asked_from_two : IsAskedOnlyFrom (Provider 2 (shows None None) authorized ∷ []) 1 (Some (word_text (word 3))) → ⊥
asked_from_two all =
    let same : ◌≡◌ {A = ℕ} 2 1 = all.0 refl in
    absurd (omega arith)

access_beside : HasAccessBeside (codes "id") (word_text (word 21)) (TokensReply (word 21) (codes "id"))
access_beside = (refl, refl)

no_code_beside : HasCodeBeside (codes "id") (word_text (word 21)) (TokensReply (word 21) (codes "id")) → ⊥
no_code_beside h = h

-- ---- the login may enter, and not in another browser; then the machine's session is the party's

abbrev founded : Live
founded = record session { sid = word_text (word 10) }

enters : (code : Text) → word_of_text code ≡ Some (word 15)
    → IsRun (machine_of site (exchanged code)) (steps_at site (exchanged code) (machine_of site (exchanged code)) (at_shop came own_session))
unfolding no_clients
enters code spells =
    rw spells (
      (
        inl refl,
        record { answered = record { event = 4; browser = 1; nonce = Some (word_text (word 3)); client = 0; user = 0; sid = word_text (word 10) }; has = inl refl; nonce = refl; client = refl; user = refl; sid = refl },
        λ never. never,
        λ never. never,
      ),
      tt,
    )

enters_elsewhere : (code : Text) → word_of_text code ≡ Some (word 15)
    → IsRun (machine_of site (exchanged code)) (steps_at site (exchanged code) (machine_of site (exchanged code)) (Party 0 2 came own_session)) → ⊥
unfolding no_clients
enters_elsewhere code spells =
    rw spells (λ run.
    elim run.0.0 [ inl same ↦ let other : ◌≡◌ {A = ℕ} 1 2 = ap (λ (b : Began). b.browser) same in absurd (omega (arith, other)) | inr never ↦ never ])

same_session : (code : Text) → IsSameSession site (signed_on code) 0 founded (record { word = word 26; sub = codes "alice"; sid = Some (word_text (word 10)); nonce = word 3; entered = 1000 })
same_session code = record { request = came; pair = own_session; place = refl; reply = refl; moment = refl; nonce = refl; user = refl; sid = refl }

rows_agree : (code : Text) → word_of_text code ≡ Some (word 15) → LiveRowsAgree site (signed_on code)
unfolding no_clients
rows_agree code spells zero low = rw spells (same_session code, tt)
rows_agree code spells (suc zero) low = rw spells tt
rows_agree code spells (suc (suc n)) low = absurd (omega (arith, low))

-- the token names another session
rows_differ : (code : Text) → word_of_text code ≡ Some (word 15) → bytes_eq (codes "sid") (word_text (word 10)) ≡ false
    → IsSameSession site (signed_on code) 0 founded (record { word = word 26; sub = codes "alice"; sid = Some (codes "sid"); nonce = word 3; entered = 1000 }) → ⊥
rows_differ code spells other same =
    let given = same.sid in
    let one : codes "sid" ≡ word_text (word 10) = cc in
    let never : true ≡ false = sym (bytes_true (codes "sid") (word_text (word 10)) one) ∙ other in
    absurd (cc)

-- ---- who received an answer, and what a party exchanges and requests

answered_to_one : (code : Text) → word_of_text code ≡ Some (word 15) → IsAnsweredOnlyTo (machine_of site (signed_on code)).answered 1 (Some (word_text (word 3)))
unfolding no_clients
answered_to_one code spells = rw spells (λ nonce. refl, tt)

not_to_two : (code : Text) → word_of_text code ≡ Some (word 15) → IsAnsweredOnlyTo (machine_of site (signed_on code)).answered 2 (Some (word_text (word 3))) → ⊥
unfolding no_clients
not_to_two code spells = rw spells (λ only. let same : ◌≡◌ {A = ℕ} 1 2 = only.0 refl in absurd (omega (arith, same)))

abbrev hybrid_site : Site
hybrid_site = own_site (hybrid_setup.configuration)

abbrev responded : RpPair
responded =
    pair_of (entry_at 1000 17 (rp_ask.Callback (Ok (record (rp.heard) { id = Some (codes "id") })) None (Some (word 1)))) rp.exchange

exchanges : ExchangesCode hybrid_site 0 responded (codes "id") (codes "code")
exchanges =
    record {
      has_code = refl;
      has_id = refl;
      heard = record (rp.heard) { id = Some (codes "id") };
      read = None;
      browser = Some (word 1);
      asked = refl;
      id_is = refl;
      code_is = refl;
      word = word 17;
      message = token_message shop_client provider.token (codes "code") shop_uri;
      replied = refl;
    }

-- a party of the type `code` has no ID Token with its code
exchanges_alone : ExchangesCode site 0 responded (codes "id") (codes "code") → ⊥
exchanges_alone h = let never : false ≡ true = h.has_id in absurd (cc)

redeems : IsRedeemed (exchanged (codes "code")) (codes "code")
redeems =
    record {
      from = 1;
      request = shows None None;
      pair = op.pair_of (op.token_entry 1000 (codes "code")) (op.tokens_reply 1000);
      has = inl refl;
      grant = record { client = 0; code = codes "code"; redirect = callback_uri };
      asked = refl;
      code_is = refl;
      access = word 21;
      id = issued_id op_sample wish (op.signed_alice) 1000 (Some (word 21)) None;
      replied = refl;
    }

abbrev hashed : IdClaims
hashed = record (rp.claims (word_text (word 3))) { at_hash = Some (codes "half") }

abbrev fetching : Option Text → RpPair
fetching hash =
    pair_of (entry_at 1000 25 (rp_ask.Tokens (word 17) (Ok (record { access = codes "access"; id = codes "id" })) (Some (Ok (record hashed { at_hash = hash })))))
    (Fetch (word 17) message_to_shop)

asks_for_info : AsksForInfo site 0 (fetching (Some (codes "half"))) (codes "id") (codes "access")
asks_for_info =
    record { came = (refl, refl); claims = hashed; judged = refl; hash = refl; word = word 17; message = message_to_shop; replied = refl }

asks_without_hash : AsksForInfo site 0 (fetching None) (codes "id") (codes "access") → ⊥
asks_without_hash h =
    let H : Option IdClaims → Bool = λ o. cond (is_some o) (is_some (option_and_then (λ (x : IdClaims). x.at_hash) o)) true in
    let never : false ≡ true = ap H h.judged ∙ h.hash in
    absurd (cc)

informs : IsInformed (at_op (shows None None) (op.pair_of (op.entry_at 1000 29 (op_ask.Info (Given (word 21)))) (InfoReply (codes "{}"))) ∷ []) (word_text (word 21))
informs =
    record {
      from = 1;
      request = shows None None;
      pair = op.pair_of (op.entry_at 1000 29 (op_ask.Info (Given (word 21)))) (InfoReply (codes "{}"));
      has = inl refl;
      w = word 21;
      asked = refl;
      access_is = refl;
      claims = codes "{}";
      replied = refl;
    }

nobody_informed : IsInformed [] (codes "access") → ⊥
nobody_informed h = h.has

-- ---- the request object of an authorization request of a known client, and of an unknown one

abbrev object_params : Text → Params
object_params client =
    record {
      response_type = None;
      client_id = Some client;
      redirect_uri = None;
      scope = None;
      state = None;
      nonce = None;
      response_mode = None;
      prompt = None;
      max_age = None;
      claims = None;
      request = Some (codes "object");
      request_uri = None;
      registration = None;
    }

object_is_checked : object_in configuration (Ok (object_params (codes "news-client"))) ≡ (1, codes "object") ∷ []
object_is_checked = refl

object_of_nobody : object_in configuration (Ok (object_params (codes "nobody"))) ≡ []
object_of_nobody = refl

-- one that signs its requests writes a request object, and one that does not writes none
signed_party_writes : (to : Text) (browser : Word) → length (rp_written (own_site (registered (record shop { signed = true } ∷ []))) 0 (words 1) (Ask to browser)) ≡ 1
signed_party_writes to browser = refl

unsigned_party_writes_none : (to : Text) (browser : Word) → rp_written site 0 (words 1) (Ask to browser) ≡ []
unsigned_party_writes_none to browser = refl
