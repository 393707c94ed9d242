-- A place that lets a login in: its step may be taken, and the invariant still holds.
use Rattle.std.proofs.Common.{◌≡◌, ◌≢◌, ℕ, suc, ◌<◌, ◌≤◌, not, Bool, true, false, List, [], ◌∷◌, ◌++◌, length, filter, Option, Some, None, option_and_then, option_map, Result, Ok, Err, refl, sym, ap, ◌∙◌, subst, inl, inr, arith, ◌+◌, ◌==◌, ◌&&◌, nat_le, nat_lt, cond, eq-eqb}
use Rattle.std.proofs.lemmas.Option.{same_Some}
use Rattle.std.proofs.lemmas.List.{append_assoc}
use Rattle.std.specs.List.{AllByRecursion}
use Rattle.std.specs.Str.{bytes_eq}
use Rattle.sso_base.specs.Words.{Word, Text, IsWord, is_word, fresh_word, word_text}
use Rattle.sso_base.specs.Texts.{is_other}
use Rattle.sso_base.specs.Rows.{row_of, lives, if_lives}
use Rattle.sso_base.specs.Legal.{last_moment}
use Rattle.sso_base.proofs.RowLaws.{bool_cases, option_cases, bytes_same, bytes_true, row_has_name}
use Rattle.sso_model.specs.Lists.{Has, Lacks}
use Rattle.sso_model.specs.Rows.{Began, Answered, Entered, Live, Machine, Step, enter, Dead}
use Rattle.sso_model.specs.Machine.{IsRun, IsAnsweredFor, after_all, dead_row}
use Rattle.sso_model.proofs.ListLaws.{all_weaker, all_has, all_filter, all_append, has_append_right}
use Rattle.sso_model.proofs.RunLaws.{apart_filter, apart_push}
use Rattle.oidc_words.specs.Lives.{visit_life, seen_life}
use Rattle.oidc_words.specs.declared.response_types.Types.{Types}
use Rattle.client_registry.specs.Configuration.{Configuration}
use Rattle.client_registry.specs.declared.records.Client.{Client}
use Rattle.client_registry.specs.Numbers.{party_client}
use Rattle.id_token.specs.declared.claims.IdClaims.{IdClaims}
use Rattle.id_token.specs.declared.no.IdNo.{IdNo}
use Rattle.id_token.specs.Judging.{IsGoodIdToken}
use Rattle.id_token.proofs.Good.{passes_good}
use Rattle.auth_answer.specs.declared.heard.Heard.{Heard}
use Rattle.token_endpoint.specs.declared.reading.Tokens.{Tokens as ComeTokens}
use Rattle.login_request.proofs.PartyRows.{client_is_known}
use Rattle.rp_login.specs.declared.rows.LoginRow.{LoginRow}
use Rattle.rp_login.specs.declared.rows.PendingRow.{PendingRow}
use Rattle.rp_login.specs.declared.rows.SessionRow.{SessionRow}
use Rattle.rp_login.specs.declared.rows.Stage.TheVariants as stage
use Rattle.rp_login.specs.Rows.{visit_name, dead_name, dead_begun}
use Rattle.rp_exchange.specs.declared.ask.RpAsk.{RpAsk}
use Rattle.rp_exchange.specs.declared.ask.RpAsk.TheVariants as ask
use Rattle.rp_exchange.specs.declared.reply.RpReply.{RpReply}
use Rattle.rp_exchange.specs.declared.reply.RpReply.TheVariants as rp
use Rattle.client_keys.specs.Opening.{opening}
use Rattle.rp_request.specs.Opened.{id_read_for}
use Rattle.rp_request.specs.Requests.{HasCookies, IsOpened}
use Rattle.rp_request.proofs.Opened.{token-id_read_for}
use Rattle.rp_request.proofs.Routing.{has_cookies}
use Rattle.rp_request.proofs.Callbacks.{callback_opened}
use Rattle.rp_request.proofs.TokenAnswers.{tokens_opened}
use Rattle.rp_response.specs.Told.{browser_given, session_given}
use Rattle.rp_answer.specs.Past.{RpPair, RpPast}
use Rattle.rp_answer.specs.Asked.{if_wanted, claims_read, claims_judged, sid_in}
use Rattle.rp_answer.specs.Logins.{login_of, live_login}
use Rattle.rp_answer.specs.Pendings.{pendings, pending_of}
use Rattle.rp_answer.specs.Visits.{visits, visit_by, visit_of, visit_of_pending, visit_after, nonce_by, live_visits}
use Rattle.rp_answer.specs.Replies.{front_rules, back_rules}
use Rattle.rp_answer.specs.Causes.{OwnLogin, EnteredCause, EnteredAtOnce, EnteredAfterExchange, EnteredAfterInfo}
use Rattle.rp_answer.specs.Legal.{BegunBy, EnteredBy, ExchangedBy, FetchedBy, login_entered, place_of_login, place_of_pending}
use Rattle.rp_answer.proofs.Drawn.{logins_are_drawn}
use Rattle.rp_answer.proofs.Sessions.{visits_are_drawn}
use Rattle.rp_answer.proofs.Sending.{login_found, pending_found, pending_waits, stage_same, named_row}
use Rattle.rp_answer.proofs.Exchanges.{fetches_are_sent}
use Rattle.rp_answer.proofs.LoginsOnce.{logins_enter_once}
use Rattle.sso_model.proofs.NamedEnds.{filter_passes}
use Rattle.sso_model.proofs.ForgetRuns.{deads_filter}
use Rattle.rp_login.specs.declared.rows.DeadRow.{DeadRow}
use Rattle.rp_answer.specs.Deads.{deads, live_dead}
use Rattle.rp_answer.specs.Alive.{sid_waiting, sid_judged, dead_for}
use Rattle.sso_places.specs.declared.types.WorldAsk.{WorldAsk}
use Rattle.sso_places.specs.Each.{Each}
use Rattle.sso_places.specs.Site.{Site, IsSite, setup_at, client_of_party, types_at}
use Rattle.sso_places.specs.World.{Place, Party, World, from_of, rp_past, fresh_of}
use Rattle.sso_places.specs.Legal.{IsLegalWorld, party_prepared}
use Rattle.sso_places.specs.Cookies.{words_in, set_at, presented}
use Rattle.sso_places.specs.Tokens.{TokenText, token_if, is_sealed_for}
use Rattle.sso_places.specs.Written.{written_at, written}
use Rattle.sso_places.specs.Checked.{rp_checked, checked}
use Rattle.sso_places.specs.Premises.{HasDistinctWords, IsUnleaked, IsUnforged, leaks, forges, asks_under, holds, holder, IsJoinedAt, IsJoined}
use Rattle.sso_places.specs.Reading.{machine_of, party_steps, enter_of, enter_as, user_of_subject, is_over, is_forgotten, is_after}
use Rattle.sso_places.specs.Agreement.{IsSameSession, rows_of}
use Rattle.sso_places.proofs.Numbers.{place_at_last}
use Rattle.sign_on.proofs.Lists.{each_push, all_back}
use Rattle.sign_on.proofs.Invariant.{AnsweredAs, IsTokenAnswered, IsBegunAt, IsEnteredRow, IsBegun, IsBegunPlace, Agrees, Holds, IsKept, IsDeadRow}
use Rattle.sso_places.proofs.Places.{IsWhole, whole_places, past_own, party_legal, legal_before, legal_from, unleaked_from, distinct_before, has_words, drawn_other, place_drawn}
use Rattle.sign_on.proofs.Shared.{own_browser, was_written, began_more, entered_more, begun_at_more, events_more, ended_more, dead_more}
use Rattle.sign_on.proofs.Registry.{subject_finds, parties_apart}
use Rattle.sign_on.proofs.Keys.{id_sealed_for}
use Rattle.sign_on.proofs.AskKinds.{IsRequest, as_request, IsTokens, as_tokens, IsInfo, as_info}
use Rattle.sign_on.proofs.LiveRows.{not_le, settled, own_pushed, other_pushed, visits_pushed, live_pushed}
use Rattle.sign_on.proofs.Pairs.{IsPlaceOf, pair_place, place_has, one_begun, entered_word, IsSender, sends, sender_has, sender_holds, joins}
use Rattle.sign_on.proofs.RpPlaces.{lapsed, Does, agrees_by, others_agree, own_settled_agree, unforgotten}

-- ---- the login of a response

-- The browser of this number had begun the login.
record Begins (s : Site) (n from : ℕ) (began : List Began) (past : RpPast) (nonce : Word) (k : ℕ) : Type 0 where
  has : Has began (record { client = client_of_party s n; browser = from; nonce = Some (word_text nonce) })
  at : IsBegunAt past k (Some (word_text nonce))

login_by : (past : RpPast) (state : Option Word) (login : LoginRow) → login_of past state ≡ Some login → BegunBy past login
login_by past None login h = absurd (cc)
login_by past (Some w) login h = logins_are_drawn past w login h

-- a word that was presented
presented_word : (shown : Option Word) (v : Word) → is_word shown v ≡ true → shown ≡ Some v
presented_word None v h = cc
presented_word (Some w) v h = ap (λ (z : Word). Some z) (bytes_same w v h)

-- the first cookie of a callback is presented
presents_first : (s : Site) (n from : ℕ) (request : WorldAsk) (p : RpPair) (heard : Heard) (id : Option (Result IdClaims IdNo)) (browser : Option Word) (w : Word)
    → p.entry.ask ≡ ask.Callback (Ok heard) id browser → p.entry.ask ≡ party_prepared s.configuration n request → browser ≡ Some w → Has (presented (Party n from request p)) w
presents_first s n from request p heard id browser w callback asked is =
    let c : Configuration = s.configuration in
    let came : IsRequest c n request (ask.Callback (Ok heard) id browser) = as_request c n request (ask.Callback (Ok heard) id browser) (sym callback ∙ asked) refl in
    let C : RpAsk → Type 0 = λ a. HasCookies came.request a in
    let cookie : browser ≡ came.request.first = subst C came.asked_is (has_cookies c n came.request) in
    let P : Option Word → Type 0 = λ o. Has (words_in o ++ words_in came.request.second) w in
    let Q : WorldAsk → Type 0 = λ z. Has (presented (Party n from z p)) w in
    subst Q (sym came.came_is) (subst P (sym is ∙ cookie) (inl refl))

-- at a place of the response, its own number began the login
begun_there : (s : Site) (n from : ℕ) (request : WorldAsk) (p : RpPair) (before : World) (began : List Began) (heard : Heard) (id : Option (Result IdClaims IdNo)) (browser : Option Word) (at : ℕ) (login : LoginRow)
    → IsLegalWorld s (Party n from request p ∷ before) → leaks before (Party n from request p) ≡ false → AllByRecursion (IsBegunPlace s began) before
    → p.entry.ask ≡ ask.Callback (Ok heard) id browser → live_login (rp_past n before) at heard.state ≡ Some login → is_word browser login.browser ≡ true
    → Begins s n from began (rp_past n before) login.nonce login.by
begun_there s n from request p before began heard id browser at login legal tight begun asked live mine =
    let x : Place = Party n from request p in
    let past : RpPast = rp_past n before in
    let by : BegunBy past login = login_by past heard.state login (login_found past at heard.state login live) in
    let there : IsPlaceOf before n by.maker by.earlier = pair_place n before by.later by.maker by.earlier by.parts in
    let y : Place = Party n there.from there.request by.maker in
    let has : Has before y = place_has before there.after there.before y there.parts in
    let old : IsLegalWorld s before = legal_before s x before legal in
    let whole : length by.maker.entry.fresh ≡ 4 = all_has IsWhole before y (whole_places s before old) has in
    let value : IsWord (fresh_word by.maker.entry.fresh 2) = has_words s before y 2 old has (omega arith) whole in
    let B : RpReply → Type 0 = λ r. IsBegun s began n there.from by.maker.entry.fresh r in
    let begins : Has began (record { client = client_of_party s n; browser = there.from; nonce = Some (word_text (fresh_word by.maker.entry.fresh 2)) }) =
    subst B by.replied (all_has (IsBegunPlace s began) before y begun has) in
    let S : RpReply → Type 0 = λ r. Has (words_in (browser_given r) ++ words_in (session_given r)) login.browser in
    let sets : Has (set_at y) login.browser = subst S (sym by.replied) (inl refl) in
    let shows : Has (presented x) login.browser = presents_first s n from request p heard id browser login.browser asked legal.asked.0.1 (presented_word browser login.browser mine) in
    let same : from ≡ there.from = own_browser x before there.from login.browser tight shows (record { place = y; has = has; sets = sets; by = refl }) in
    let G : ℕ → Word → Type 0 = λ b v. Has began (record { client = client_of_party s n; browser = b; nonce = Some (word_text v) }) in
    let H : Word → Type 0 = λ v. G there.from v in
    let K : ℕ → Type 0 = λ b. G b login.nonce in
    record {
      has = subst K (sym same) (subst H (sym by.nonce_drawn) begins);
      at = record { later = by.later; maker = by.maker; earlier = by.earlier; parts = by.parts; at = sym by.place; whole = whole; value = value; nonce_is = ap (λ (v : Word). Some (word_text v)) by.nonce_drawn };
    }

-- so did that of an earlier place of the response
begun_at_place : (s : Site) (n : ℕ) (world : World) (later : RpPast) (p : RpPair) (earlier : RpPast) (heard : Heard) (id : Option (Result IdClaims IdNo)) (browser : Option Word) (login : LoginRow)
    → (there : IsPlaceOf world n p earlier) → rp_past n world ≡ later ++ p ∷ earlier → IsLegalWorld s world → IsUnleaked world → (began : List Began) → AllByRecursion (IsBegunPlace s began) world
    → p.entry.ask ≡ ask.Callback (Ok heard) id browser → OwnLogin earlier p.entry heard browser login → Begins s n there.from began (rp_past n world) login.nonce login.by
begun_at_place s n world later p earlier heard id browser login there parts legal unleaked began begun asked own =
    let y : Place = Party n there.from there.request p in
    let past : RpPast = rp_past n world in
    let L : World → Type 0 = λ z. IsLegalWorld s z in
    let legal_y : IsLegalWorld s (y ∷ there.before) = legal_from s there.after (y ∷ there.before) (subst L there.parts legal) in
    let U : World → Type 0 = λ z. IsUnleaked z in
    let tight_y : leaks there.before y ≡ false = (unleaked_from there.after (y ∷ there.before) (subst U there.parts unleaked)).1 in
    let B : World → Type 0 = λ z. AllByRecursion (IsBegunPlace s began) z in
    let begun_y : AllByRecursion (IsBegunPlace s began) there.before = (all_back (IsBegunPlace s began) there.after (y ∷ there.before) (subst B there.parts begun)).1 in
    let V : RpPast → Type 0 = λ z. live_login z p.entry.at heard.state ≡ Some login in
    let here : Begins s n there.from began (rp_past n there.before) login.nonce login.by =
    begun_there s n there.from there.request p there.before began heard id browser p.entry.at login legal_y tight_y begun_y asked (subst V (sym there.past_is) own.live) own.same_browser in
    let added : RpPast = later ++ p ∷ [] in
    let whole_past : past ≡ added ++ rp_past n there.before =
    parts ∙ sym (append_assoc later (p ∷ []) earlier) ∙ ap (λ (z : RpPast). added ++ z) (sym there.past_is) in
    record { has = here.has; at = begun_at_more added (rp_past n there.before) past login.by (Some (word_text login.nonce)) whole_past here.at }

begins_as : (s : Site) (n b from : ℕ) (began : List Began) (past : RpPast) (v nonce : Word) (k j : ℕ) → b ≡ from → v ≡ nonce → k ≡ j → Begins s n b began past v k → Begins s n from began past nonce j
begins_as s n b from began past v nonce k j browsers nonces numbers begins =
    let B : ℕ → Type 0 = λ z. Begins s n z began past v k in
    let V : Word → Type 0 = λ z. Begins s n from began past z k in
    let K : ℕ → Type 0 = λ z. Begins s n from began past nonce z in
    subst K numbers (subst V nonces (subst B browsers begins))

-- ---- the ID Token that was read, by its text

record HasToken (s : Site) (n from : ℕ) (request : WorldAsk) (p : RpPair) (claims : IdClaims) : Type 0 where
  text : Text
  checks : Has (checked s (Party n from request p)) (client_of_party s n, text)
  read : id_read_for (party_client s.configuration n) text ≡ Ok claims
  seals : is_sealed_for s.configuration (client_of_party s n, text) ≡ true

-- the text of an ID Token that was read
pub record ReadOf (client : Client) (o : Option Text) (claims : IdClaims) : Type 0 where
  pub text : Text
  pub there : o ≡ Some text
  pub read : id_read_for client text ≡ Ok claims

pub read_of : (client : Client) (o : Option Text) (id : Option (Result IdClaims IdNo)) (claims : IdClaims) → IsOpened client o id → id ≡ Some (Ok claims) → ReadOf client o claims
read_of client None None claims opened is = absurd (cc)
read_of client None (Some id) claims opened is = absurd opened
read_of client (Some text) None claims opened is = absurd (cc)
read_of client (Some text) (Some (Ok x)) claims opened is =
    let same : x ≡ claims = cc in
    let R : IdClaims → Type 0 = λ y. id_read_for client text ≡ Ok y in
    record { text = text; there = refl; read = subst R same (token-id_read_for client text x opened) }
read_of client (Some text) (Some (Err why)) claims opened is = absurd (cc)

-- an ID Token counts if the response type has one
claims_of : (id : Option (Result IdClaims IdNo)) (claims : IdClaims) → claims_read id ≡ Some claims → id ≡ Some (Ok claims)
claims_of None claims h = cc
claims_of (Some (Ok x)) claims h = (let same : x ≡ claims = cc in ap (λ (y : IdClaims). Some (Ok y)) same)
claims_of (Some (Err why)) claims h = cc

wanted_claims : (wanted : Bool) (id : Option (Result IdClaims IdNo)) (claims : IdClaims) → if_wanted wanted (claims_read id) ≡ Some claims → id ≡ Some (Ok claims)
wanted_claims true id claims h = claims_of id claims h
wanted_claims false id claims h = absurd (cc)

pub wanted_id : (wanted : Bool) (id : Option (Result IdClaims IdNo)) (claims : IdClaims) → if_wanted wanted id ≡ Some (Ok claims) → id ≡ Some (Ok claims)
wanted_id true id claims h = h
wanted_id false id claims h = absurd (cc)

wanted_read : (wanted : Bool) (id : Option (Result IdClaims IdNo)) (claims : IdClaims) → if_wanted wanted id ≡ Some (Ok claims) → if_wanted wanted (claims_read id) ≡ Some claims
wanted_read true id claims h = ap claims_read h
wanted_read false id claims h = absurd (cc)

-- a subject that is no other is this one
not_other : (before sub : Text) → is_other sub (Some before) ≡ false → before ≡ sub
not_other before sub h =
    elim (bool_cases (bytes_eq before sub)) [
      | inl same ↦ bytes_same before sub same
      | inr other ↦ (let never : true ≡ false = sym (ap not other) ∙ h in absurd (cc))
    ]

callback_token : (s : Site) (n from : ℕ) (request : WorldAsk) (p : RpPair) (heard : Heard) (id : Option (Result IdClaims IdNo)) (browser : Option Word) (claims : IdClaims) → IsSite s → n < length s.configuration.parties
    → p.entry.ask ≡ ask.Callback (Ok heard) id browser → p.entry.ask ≡ party_prepared s.configuration n request → id ≡ Some (Ok claims) → HasToken s n from request p claims
callback_token s n from request p heard id browser claims site known callback asked is =
    let c : Configuration = s.configuration in
    let client : ℕ = client_of_party s n in
    let came : IsRequest c n request (ask.Callback (Ok heard) id browser) = as_request c n request (ask.Callback (Ok heard) id browser) (sym callback ∙ asked) refl in
    let opened : IsOpened (party_client c n) heard.id id = callback_opened c n came.request heard id browser came.asked_is in
    let text : ReadOf (party_client c n) heard.id claims = read_of (party_client c n) heard.id id claims opened is in
    let T : Option Text → Type 0 = λ o. Has {A = TokenText} (token_if (Some client) o) (client, text.text) in
    let A : RpAsk → Type 0 = λ a. Has {A = TokenText} (rp_checked client request a) (client, text.text) in
    record { text = text.text; checks = subst A (sym callback) (subst T (sym text.there) (inl refl)); read = text.read; seals = id_sealed_for c n text.text claims site.registry known text.read }

tokens_token : (s : Site) (n from : ℕ) (request : WorldAsk) (p : RpPair) (pending : Word) (came : ComeTokens) (id : Option (Result IdClaims IdNo)) (claims : IdClaims) → IsSite s → n < length s.configuration.parties
    → p.entry.ask ≡ ask.Tokens pending (Ok came) id → p.entry.ask ≡ party_prepared s.configuration n request → id ≡ Some (Ok claims) → HasToken s n from request p claims
tokens_token s n from request p pending came id claims site known tokens asked is =
    let c : Configuration = s.configuration in
    let client : ℕ = client_of_party s n in
    let answer : IsTokens c n request (ask.Tokens pending (Ok came) id) pending = as_tokens c n request pending (Ok came) id (sym tokens ∙ asked) in
    let opened : IsOpened (party_client c n) (Some came.id) id = tokens_opened c n pending answer.answer pending came id answer.asked_is in
    let text : ReadOf (party_client c n) (Some came.id) claims = read_of (party_client c n) (Some came.id) id claims opened is in
    let texts : came.id ≡ text.text = same_Some came.id text.text text.there in
    let T : Text → Type 0 = λ t. Has {A = TokenText} ((client, came.id) ∷ []) (client, t) in
    let A : RpAsk → Type 0 = λ a. Has {A = TokenText} (rp_checked client request a) (client, text.text) in
    record { text = text.text; checks = subst A (sym tokens) (subst T texts (inl refl)); read = text.read; seals = id_sealed_for c n text.text claims site.registry known text.read }

-- ---- the tie: an ID Token that a place verified was written, so its nonce was answered

written_from : (s : Site) (after before : World) (t : TokenText) → Has (written s before) t → Has (written s (after ++ before)) t
written_from s [] before t has = has
written_from s (x ∷ after) before t has = has_append_right (written_at s (after ++ before) x) (written s (after ++ before)) t (written_from s after before t has)

pub unforged_from : (s : Site) (after before : World) → IsUnforged s (after ++ before) → IsUnforged s before
unforged_from s [] before unforged = unforged
unforged_from s (x ∷ after) before unforged = unforged_from s after before unforged.0

tied : (s : Site) (n from : ℕ) (request : WorldAsk) (p : RpPair) (before : World) (claims : IdClaims) (nonce : Text) (answered : List Answered) → forges s before (Party n from request p) ≡ false → HasToken s n from request p claims
    → claims.nonce ≡ Some nonce → ((t : TokenText) → Has (written s before) t → IsTokenAnswered s.configuration answered t) → AnsweredAs s.configuration answered (client_of_party s n) claims nonce
tied s n from request p before claims nonce answered clean token is says =
    let c : Configuration = s.configuration in
    let client : ℕ = client_of_party s n in
    let wrote : Has (written s before) (client, token.text) = was_written s before (Party n from request p) (client, token.text) clean token.checks token.seals in
    says (client, token.text) wrote (opening (party_client c n) token.text) claims nonce token.read is

-- ---- what an entering place shows

record Enters (s : Site) (n from : ℕ) (p : RpPair) (world : World) (w : Word) (sub : Text) : Type 0 where
  visit : SessionRow
  made : visit_by (types_at s n) p.entry.at (rp_past n world) p.entry.ask (rp.Entered w sub) ≡ Some visit
  word_is : visit.word ≡ w
  sub_is : visit.sub ≡ sub
  entered_is : visit.entered ≡ p.entry.at
  k : ℕ
  begins : Begins s n from (machine_of s world).began (rp_past n world) visit.nonce k
  entered : login_entered (types_at s n) (rp_past n world) p ≡ Some k
  claims : IdClaims
  token : AnsweredAs s.configuration (machine_of s world).answered (client_of_party s n) claims (word_text visit.nonce)
  claims_sub : claims.sub ≡ visit.sub
  claims_sid : claims.sid ≡ visit.sid
  sid_is : sid_judged (types_at s n) (rp_past n world) p.entry.at p.entry.ask ≡ visit.sid

-- of the last ID Token: that of a response, or of a token response
visit_is : (types : Types) (at : ℕ) (past : RpPast) (w : Word) (nonce : Option Word) (claims : Option IdClaims) (v : Word) (x : IdClaims) → nonce ≡ Some v → claims ≡ Some x
    → option_and_then (λ u. option_map (visit_of at w u) claims) nonce ≡ Some (visit_of at w v x)
visit_is types at past w given claims v x nonce_is claims_are =
    let M : Option Word → Option IdClaims → Option SessionRow = λ o q. option_and_then (λ u. option_map (visit_of at w u) q) o in
    ap (λ (o : Option Word). M o claims) nonce_is ∙ ap (M (Some v)) claims_are

module _ (s : Site) (n from at : ℕ) (request : WorldAsk) (fresh : List Word) (w : Word) (sub : Text) (world : World) (site : IsSite s) (kept : IsKept s world) where
  abbrev pair : RpAsk → RpPair
  pair asked = record { entry = record { at = at; fresh = fresh; ask = asked }; reply = rp.Entered w sub }

  abbrev here : RpAsk → Place
  here asked = Party n from request (pair asked)

  abbrev c : Configuration
  c = s.configuration

  abbrev m : Machine
  m = machine_of s world

  abbrev types : Types
  types = types_at s n

  abbrev past : RpPast
  past = rp_past n world

  says : (t : TokenText) → Has (written s world) t → IsTokenAnswered c m.answered t
  says t has = all_has (IsTokenAnswered c m.answered) (written s world) t kept.holds.tokens has

  -- a callback lets in
  at_once : (heard : Heard) (id : Option (Result IdClaims IdNo)) (browser : Option Word) → IsLegalWorld s (here (ask.Callback (Ok heard) id browser) ∷ world) → leaks world (here (ask.Callback (Ok heard) id browser)) ≡ false
      → forges s world (here (ask.Callback (Ok heard) id browser)) ≡ false
      → EnteredAtOnce (setup_at s n) past (pair (ask.Callback (Ok heard) id browser)).entry heard id browser w sub → Enters s n from (pair (ask.Callback (Ok heard) id browser)) world w sub
  at_once heard id browser legal tight clean cause =
      let p : RpPair = pair (ask.Callback (Ok heard) id browser) in
      let login : LoginRow = cause.login in
      let begins : Begins s n from m.began past login.nonce login.by =
      begun_there s n from request p world m.began heard id browser at login legal tight kept.holds.begun refl cause.response.own.live cause.response.own.same_browser in
      let found : login_of past heard.state ≡ Some login = login_found past at heard.state login cause.response.own.live in
      let wanted : if_wanted types.id_token id ≡ Some (Ok cause.claims) = cause.accepted.read in
      let came : id ≡ Some (Ok cause.claims) = wanted_id types.id_token id cause.claims wanted in
      let good : IsGoodIdToken (front_rules (setup_at s n) login heard) cause.claims at = passes_good (front_rules (setup_at s n) login heard) cause.claims at cause.accepted.judged in
      let token : HasToken s n from request p cause.claims = callback_token s n from request p heard id browser cause.claims site legal.asked.0.0 refl legal.asked.0.1 came in
      let nonce : nonce_by types past (ask.Callback (Ok heard) id browser) ≡ Some login.nonce = ap (λ (o : Option LoginRow). option_map (λ (row : LoginRow). row.nonce) o) found in
      let judged : claims_judged types (ask.Callback (Ok heard) id browser) ≡ Some cause.claims = wanted_read types.id_token id cause.claims wanted in
      record {
        visit = visit_of at w login.nonce cause.claims;
        made = visit_is types at past w (nonce_by types past (ask.Callback (Ok heard) id browser)) (claims_judged types (ask.Callback (Ok heard) id browser)) login.nonce cause.claims nonce judged;
        word_is = refl;
        sub_is = cause.sub_is;
        entered_is = refl;
        k = login.by;
        begins = begins;
        entered = ap place_of_login cause.response.own.live;
        claims = cause.claims;
        token = tied s n from request p world cause.claims (word_text login.nonce) m.answered clean token good.nonce says;
        claims_sub = refl;
        claims_sid = refl;
        sid_is = ap sid_in judged;
      }

  -- the exchange that an answer is to: its login was begun by the number under which the answer comes
  exchange_begins : (asked : RpAsk) (pending : Word) (exchange : PendingRow) → IsLegalWorld s (here asked ∷ world) → HasDistinctWords world → IsUnleaked world → IsJoined world
      → ((y : Place) → holder pending world ≡ Some y → from_of y ≡ from) → pending_of types past pending ≡ Some exchange → exchange.stage ≡ stage.Tokens
      → Begins s n from m.began past exchange.nonce exchange.by
  exchange_begins asked pending exchange legal distinct unleaked joined held found waits =
      let before : IsLegalWorld s world = legal_before s (here asked) world legal in
      let sent : IsSender s n world exchange = sends s n world pending exchange before found waits in
      let by : ExchangedBy (setup_at s n) past exchange = sent.by in
      let z : Place = Party n sent.there.from sent.there.request by.maker in
      let has : Has world z = sender_has s n world exchange sent in
      let four : length (fresh_of z) ≡ 4 = all_has IsWhole world z (whole_places s world before) has in
      let named : exchange.word ≡ pending = named_row pending (pendings types past) exchange found in
      let H : Word → Type 0 = λ u. (v : Place) → holder u world ≡ Some v → from_of v ≡ from in
      let same : sent.there.from ≡ from =
      joins s world from exchange.word z z before distinct joined (subst H (sym named) held) has (sender_holds s n world exchange sent) has four (sym by.drawn) in
      let begins : Begins s n sent.there.from m.began past by.login.nonce by.login.by =
      begun_at_place s n world by.later by.maker by.earlier by.heard by.id by.browser by.login sent.there by.parts before unleaked m.began kept.holds.begun by.asked by.own in
      begins_as s n sent.there.from from m.began past by.login.nonce exchange.nonce by.login.by exchange.by same (sym by.nonce_is) (sym by.place) begins

  -- a token response lets in
  after_exchange : (pending : Word) (came : ComeTokens) (id : Option (Result IdClaims IdNo)) → IsLegalWorld s (here (ask.Tokens pending (Ok came) id) ∷ world) → HasDistinctWords world → IsUnleaked world → IsJoined world
      → IsJoinedAt world from request → forges s world (here (ask.Tokens pending (Ok came) id)) ≡ false
      → EnteredAfterExchange (setup_at s n) past (pair (ask.Tokens pending (Ok came) id)).entry pending came id w sub → Enters s n from (pair (ask.Tokens pending (Ok came) id)) world w sub
  after_exchange pending came id legal distinct unleaked joined here_joined clean cause =
      let asked : RpAsk = ask.Tokens pending (Ok came) id in
      let p : RpPair = pair asked in
      let exchange : PendingRow = cause.exchange in
      let found : pending_of types past pending ≡ Some exchange = pending_found types past at pending stage.Tokens exchange cause.live in
      let waits : exchange.stage ≡ stage.Tokens = stage_same stage.Tokens exchange.stage (pending_waits types past at pending stage.Tokens exchange cause.live) in
      let answer : IsTokens c n request asked pending = as_tokens c n request pending (Ok came) id legal.asked.0.1 in
      let J : WorldAsk → Type 0 = λ r. IsJoinedAt world from r in
      let held : (y : Place) → holder pending world ≡ Some y → from_of y ≡ from = subst J answer.came_is here_joined in
      let good : IsGoodIdToken (back_rules (setup_at s n) exchange came) cause.claims at = passes_good (back_rules (setup_at s n) exchange came) cause.claims at cause.accepted.judged in
      let token : HasToken s n from request p cause.claims = tokens_token s n from request p pending came id cause.claims site legal.asked.0.0 refl legal.asked.0.1 cause.accepted.read in
      let nonce : nonce_by types past asked ≡ Some exchange.nonce = ap (λ (o : Option PendingRow). option_map (λ (row : PendingRow). row.nonce) o) found in
      let judged : claims_judged types asked ≡ Some cause.claims = ap claims_read cause.accepted.read in
      record {
        visit = visit_of at w exchange.nonce cause.claims;
        made = visit_is types at past w (nonce_by types past asked) (claims_judged types asked) exchange.nonce cause.claims nonce judged;
        word_is = refl;
        sub_is = cause.sub_is;
        entered_is = refl;
        k = exchange.by;
        begins = exchange_begins asked pending exchange legal distinct unleaked joined held found waits;
        entered = ap place_of_pending cause.live;
        claims = cause.claims;
        token = tied s n from request p world cause.claims (word_text exchange.nonce) m.answered clean token good.nonce says;
        claims_sub = refl;
        claims_sid = refl;
        sid_is = ap sid_in judged;
      }

  -- a UserInfo response completes a login: the ID Token was verified at the place of the UserInfo request
  asked_for : (row : PendingRow) → IsLegalWorld s world → IsUnforged s world → (by : FetchedBy (setup_at s n) past row) → AnsweredAs c m.answered (client_of_party s n) by.claims (word_text row.nonce)
  asked_for row before unforged by =
      let there : IsPlaceOf world n by.maker by.earlier = pair_place n world by.later by.maker by.earlier by.parts in
      let y : Place = Party n there.from there.request by.maker in
      let L : World → Type 0 = λ z. IsLegalWorld s z in
      let legal_y : IsLegalWorld s (y ∷ there.before) = legal_from s there.after (y ∷ there.before) (subst L there.parts before) in
      let F : World → Type 0 = λ z. IsUnforged s z in
      let clean_y : forges s there.before y ≡ false = (unforged_from s there.after (y ∷ there.before) (subst F there.parts unforged)).1 in
      let good : IsGoodIdToken by.token.rules by.claims by.maker.entry.at = passes_good by.token.rules by.claims by.maker.entry.at by.token.judged in
      let nonce : by.claims.nonce ≡ Some (word_text row.nonce) = good.nonce ∙ ap (λ (t : Text). Some t) (by.token.nonce_is ∙ ap word_text (sym by.nonce_is)) in
      let token : HasToken s n there.from there.request by.maker by.claims =
      elim by.word_is [
        | inl once ↦
            (let C : RpAsk → Type 0 = λ a. claims_judged types a ≡ Some by.claims in
            callback_token s n there.from there.request by.maker once.heard once.id once.browser by.claims site legal_y.asked.0.0 once.asked legal_y.asked.0.1 (wanted_claims types.id_token once.id by.claims (subst C once.asked by.token.came)))
        | inr after ↦
            (let C : RpAsk → Type 0 = λ a. claims_judged types a ≡ Some by.claims in
            tokens_token s n there.from there.request by.maker row.word after.came after.id by.claims site legal_y.asked.0.0 after.asked legal_y.asked.0.1 (claims_of after.id by.claims (subst C after.asked by.token.came)))
      ] in
      let W : World → Type 0 = λ z. (t : TokenText) → Has (written s there.before) t → Has (written s z) t in
      let wrote : W world = subst W (sym there.parts) (λ t has. written_from s there.after (y ∷ there.before) t (has_append_right (written_at s there.before y) (written s there.before) t has)) in
      tied s n there.from there.request by.maker there.before by.claims (word_text row.nonce) m.answered clean_y token nonce (λ t has. says t (wrote t has))

  -- and the login was begun by the number under which the answer comes
  fetch_begins : (asked : RpAsk) (pending : Word) (row : PendingRow) → IsLegalWorld s (here asked ∷ world) → HasDistinctWords world → IsUnleaked world → IsJoined world
      → ((y : Place) → holder pending world ≡ Some y → from_of y ≡ from) → pending_of types past pending ≡ Some row → (by : FetchedBy (setup_at s n) past row)
      → Begins s n from m.began past row.nonce row.by
  fetch_begins asked pending row legal distinct unleaked joined held found by =
      let before : IsLegalWorld s world = legal_before s (here asked) world legal in
      let there : IsPlaceOf world n by.maker by.earlier = pair_place n world by.later by.maker by.earlier by.parts in
      let y : Place = Party n there.from there.request by.maker in
      let has : Has world y = place_has world there.after there.before y there.parts in
      let four_y : length (fresh_of y) ≡ 4 = all_has IsWhole world y (whole_places s world before) has in
      let does : holds row.word y ≡ true = ap (asks_under row.word) by.replied ∙ bytes_true row.word row.word refl in
      let named : row.word ≡ pending = named_row pending (pendings types past) row found in
      let H : Word → Type 0 = λ u. (v : Place) → holder u world ≡ Some v → from_of v ≡ from in
      let holds_now : (v : Place) → holder row.word world ≡ Some v → from_of v ≡ from = subst H (sym named) held in
      elim by.word_is [
        | inl once ↦
            (let same : there.from ≡ from = joins s world from row.word y y before distinct joined holds_now has does has four_y (sym once.drawn) in
            let begins : Begins s n there.from m.began past by.login.nonce by.login.by =
            begun_at_place s n world by.later by.maker by.earlier once.heard once.id once.browser by.login there by.parts before unleaked m.began kept.holds.begun once.asked once.own in
            begins_as s n there.from from m.began past by.login.nonce row.nonce by.login.by row.by same (sym by.nonce_is) (sym by.place) begins)
        | inr after ↦
            (let sent : ExchangedBy (setup_at s n) by.earlier after.exchange = after.sent in
            -- the place of the token exchange is before that of the UserInfo request
            let earlier_parts : past ≡ (by.later ++ by.maker ∷ sent.later) ++ sent.maker ∷ sent.earlier =
            by.parts ∙ ap (λ (z : RpPast). by.later ++ by.maker ∷ z) sent.parts ∙ sym (append_assoc by.later (by.maker ∷ sent.later) (sent.maker ∷ sent.earlier)) in
            let first : IsPlaceOf world n sent.maker sent.earlier = pair_place n world (by.later ++ by.maker ∷ sent.later) sent.maker sent.earlier earlier_parts in
            let z : Place = Party n first.from first.request sent.maker in
            let has_z : Has world z = place_has world first.after first.before z first.parts in
            let four_z : length (fresh_of z) ≡ 4 = all_has IsWhole world z (whole_places s world before) has_z in
            let same : first.from ≡ from = joins s world from row.word y z before distinct joined holds_now has does has_z four_z (sym sent.drawn ∙ after.word_is) in
            let begins : Begins s n first.from m.began past sent.login.nonce sent.login.by =
            begun_at_place s n world (by.later ++ by.maker ∷ sent.later) sent.maker sent.earlier sent.heard sent.id sent.browser sent.login first earlier_parts before unleaked m.began kept.holds.begun sent.asked sent.own in
            begins_as s n first.from from m.began past sent.login.nonce row.nonce sent.login.by row.by same
            (ap (λ (l : LoginRow). l.nonce) after.of_login ∙ sym by.nonce_is) (ap (λ (l : LoginRow). l.by) after.of_login ∙ sym by.place) begins)
      ]

  after_info : (pending : Word) (came : Text) → IsLegalWorld s (here (ask.Info pending (Ok came)) ∷ world) → HasDistinctWords world → IsUnleaked world → IsUnforged s world → IsJoined world → IsJoinedAt world from request
      → EnteredAfterInfo (setup_at s n) past (pair (ask.Info pending (Ok came))).entry pending came w sub → Enters s n from (pair (ask.Info pending (Ok came))) world w sub
  after_info pending came legal distinct unleaked unforged joined here_joined cause =
      let asked : RpAsk = ask.Info pending (Ok came) in
      let before : IsLegalWorld s world = legal_before s (here asked) world legal in
      let row : PendingRow = cause.exchange in
      let found : pending_of types past pending ≡ Some row = pending_found types past at pending stage.Info row cause.live in
      let waits : row.stage ≡ stage.Info = stage_same stage.Info row.stage (pending_waits types past at pending stage.Info row cause.live) in
      let by : FetchedBy (setup_at s n) past row = fetches_are_sent (setup_at s n) past pending row (before.parties n) found waits in
      let answer : IsInfo c n request pending = as_info c n request pending (Ok came) legal.asked.0.1 in
      let J : WorldAsk → Type 0 = λ r. IsJoinedAt world from r in
      let held : (y : Place) → holder pending world ≡ Some y → from_of y ≡ from = subst J answer.came_is here_joined in
      let O : Option Text → Type 0 = λ o. is_other came o ≡ false in
      let same : by.claims.sub ≡ came = not_other by.claims.sub came (subst O by.sub_is cause.same_subject) in
      let P : Option PendingRow → Option SessionRow = λ o. option_and_then (visit_after at w) o in
      let S : Option Text → Option SessionRow = λ o. option_map (visit_of_pending at w row) o in
      record {
        visit = visit_of_pending at w row by.claims.sub;
        made = ap P found ∙ ap S by.sub_is;
        word_is = refl;
        sub_is = same ∙ cause.sub_is;
        entered_is = refl;
        k = row.by;
        begins = fetch_begins asked pending row legal distinct unleaked joined held found by;
        entered = ap place_of_pending cause.live;
        claims = by.claims;
        token = asked_for row before unforged by;
        claims_sub = refl;
        claims_sid = sym by.sid_is;
        sid_is = ap sid_waiting cause.live;
      }

-- ---- the step of an entering place

-- the login was not entered before
not_entered : (s : Site) (n from : ℕ) (p : RpPair) (world : World) (w : Word) (sub : Text) (rows : List Entered) → IsSite s → n < length s.configuration.parties → HasDistinctWords world
    → (f : Enters s n from p world w sub) → AllByRecursion (IsEnteredRow s world) rows → Lacks rows (record { client = client_of_party s n; nonce = Some (word_text f.visit.nonce) })
not_entered s n from p world w sub rows site mine distinct f all has =
    let row : Entered = record { client = client_of_party s n; nonce = Some (word_text f.visit.nonce) } in
    let was : IsEnteredRow s world row = all_has (IsEnteredRow s world) rows row all has in
    let same : was.n ≡ n = parties_apart s.configuration was.n n site.registry was.known mine (sym was.client) in
    let past : RpPast = rp_past n world in
    let types : Types = types_at s n in
    let B : ℕ → Type 0 = λ j. IsBegunAt (rp_past j world) was.k row.nonce in
    let one : was.k ≡ f.k = one_begun n world was.k f.k row.nonce distinct (subst B same was.begun) f.begins.at in
    let P : ℕ → Type 0 = λ j. rp_past j world ≡ was.later ++ was.pair ∷ was.earlier in
    let parts : past ≡ was.later ++ was.pair ∷ was.earlier = subst P same was.parts in
    let E : ℕ → Type 0 = λ j. login_entered (types_at s j) was.earlier was.pair ≡ Some was.k in
    let before : login_entered types was.earlier was.pair ≡ Some f.k = subst E same was.entered ∙ ap (λ (k : ℕ). Some k) one in
    let F : RpPast → Type 0 = λ z. login_entered types z p ≡ Some f.k in
    logins_enter_once types was.later was.earlier was.pair p f.k before (subst F parts f.entered)

-- no visit has a word that is drawn now
no_visit_yet : (s : Site) (n : ℕ) (x : Place) (world : World) (w : Word) → IsLegalWorld s world → HasDistinctWords (x ∷ world) → length (fresh_of x) ≡ 4 → fresh_word (fresh_of x) 1 ≡ w → row_of visit_name w (visits (types_at s n) (rp_past n world)) ≡ None
no_visit_yet s n x world w legal distinct whole word =
    let types : Types = types_at s n in
    let past : RpPast = rp_past n world in
    elim (option_cases (row_of visit_name w (visits types past))) [
      | inl none ↦ none
      | inr some ↦
          (let by : EnteredBy (setup_at s n) past some.0 = visits_are_drawn (setup_at s n) past w some.0 (legal.parties n) some.1 in
          let there : IsPlaceOf world n by.maker by.earlier = pair_place n world by.later by.maker by.earlier by.parts in
          let y : Place = Party n there.from there.request by.maker in
          let has : Has world y = place_has world there.after there.before y there.parts in
          let whole_y : length by.maker.entry.fresh ≡ 4 = all_has IsWhole world y (whole_places s world legal) has in
          let named : some.0.word ≡ w = row_has_name visit_name w (visits types past) some.0 some.1 in
          absurd (drawn_other x world 1 (fresh_word by.maker.entry.fresh 1) distinct (omega arith) whole (place_drawn world y 1 has (omega arith) whole_y) (sym by.drawn ∙ named ∙ sym word)))
    ]

-- nobody of the machine has the number of the next place
others_before : (n : ℕ) (live : List Live) → AllByRecursion (λ (row : Live). row.event ≤ n) live → AllByRecursion (λ (row : Live). row.event ≢ suc n) live
others_before n live low =
    all_weaker (λ (row : Live). row.event ≤ n) (λ (row : Live). row.event ≢ suc n) live
    (λ row below same. let least : row.event ≤ n = below in let is : row.event ≡ suc n = same in absurd (omega arith)) low

-- no session identifier is dead that the party does not remember
not_dead : (s : Site) (n at : ℕ) (world : World) (row : Live) (types : Types) (asked : RpAsk) → IsSite s → n < length s.configuration.parties → IsKept s world → row.client ≡ client_of_party s n
    → sid_judged types (rp_past n world) at asked ≡ Some row.sid → dead_for types (rp_past n world) at asked ≡ None → Lacks (unforgotten (rp_past n world) (client_of_party s n) at (machine_of s world).dead) (dead_row row)
not_dead s n at world row types asked site mine kept client sid alive has =
    let m : Machine = machine_of s world in
    let past : RpPast = rp_past n world in
    let test : Dead → Bool = λ other. not (is_forgotten past (client_of_party s n) at other) in
    let was : IsDeadRow s world (dead_row row) =
    all_has (IsDeadRow s world) (unforgotten past (client_of_party s n) at m.dead) (dead_row row) (all_filter (IsDeadRow s world) test m.dead kept.holds.dead) has in
    let same : was.n ≡ n = parties_apart s.configuration was.n n site.registry was.known mine (sym was.client ∙ client) in
    let R : ℕ → Type 0 = λ k. row_of dead_name row.sid (deads (rp_past k world)) ≡ Some was.dead in
    let found : row_of dead_name row.sid (deads past) ≡ Some was.dead = subst R same was.remembered in
    let passes : test (dead_row row) ≡ true = filter_passes test m.dead (dead_row row) has in
    let A : Option DeadRow → Bool = λ o. not ((row.client == client_of_party s n) && is_after seen_life at (option_map dead_begun o)) in
    let B : Bool → Bool = λ b. not (b && nat_le (was.dead.accepted + seen_life) at) in
    let young : not (nat_le (was.dead.accepted + seen_life) at) ≡ true = sym (ap B (eq-eqb row.client (client_of_party s n) client)) ∙ sym (ap A found) ∙ passes in
    let lives_now : nat_lt at (was.dead.accepted + seen_life) ≡ true = sym (not_le (was.dead.accepted + seen_life) at) ∙ young in
    let D : Option Text → Option DeadRow = λ o. option_and_then (live_dead past at) o in
    let I : Option DeadRow → Option DeadRow = λ o. option_and_then (if_lives seen_life dead_begun at) o in
    let C : Bool → Option DeadRow = λ b. cond b (Some was.dead) None in
    let never : Some was.dead ≡ None = sym (ap D sid ∙ ap I found ∙ ap C lives_now) ∙ alive in
    cc

entered_done : (s : Site) (n from at : ℕ) (request : WorldAsk) (fresh : List Word) (asked : RpAsk) (w : Word) (sub : Text) (world : World) → IsSite s
    → IsLegalWorld s (Party n from request (record { entry = record { at = at; fresh = fresh; ask = asked }; reply = rp.Entered w sub }) ∷ world)
    → HasDistinctWords (Party n from request (record { entry = record { at = at; fresh = fresh; ask = asked }; reply = rp.Entered w sub }) ∷ world) → IsKept s world
    → dead_for (types_at s n) (rp_past n world) at asked ≡ None
    → Enters s n from (record { entry = record { at = at; fresh = fresh; ask = asked }; reply = rp.Entered w sub }) world w sub
    → Does s n from request (record { entry = record { at = at; fresh = fresh; ask = asked }; reply = rp.Entered w sub }) world
entered_done s n from at request fresh asked w sub world site legal distinct kept alive f =
    let p : RpPair = record { entry = record { at = at; fresh = fresh; ask = asked }; reply = rp.Entered w sub } in
    let x : Place = Party n from request p in
    let c : Configuration = s.configuration in
    let m : Machine = machine_of s world in
    let old : Holds s world m = kept.holds in
    let types : Types = types_at s n in
    let past : RpPast = rp_past n world in
    let client : ℕ = client_of_party s n in
    let number : ℕ = suc (length world) in
    let mine : n < length c.parties = legal.asked.0.0 in
    let own = party_legal s n from request p world legal in
    let before : IsLegalWorld s world = legal_before s x world legal in
    let visit : SessionRow = f.visit in
    let user : user_of_subject c client visit.sub ≡ Some f.token.row.user =
    ap (user_of_subject c client) (sym (f.token.subject ∙ f.claims_sub)) ∙ subject_finds c client f.token.row.user site.registry (client_is_known c n site.registry mine) f.token.known in
    let sid : visit.sid ≡ Some f.token.row.sid = sym f.claims_sid ∙ f.token.sid in
    let row : Live = record { event = number; client = client; browser = from; nonce = Some (word_text visit.nonce); user = f.token.row.user; sid = f.token.row.sid } in
    let V : Option SessionRow → List Step = λ o. enter_of c number client from o ∷ [] in
    let S : Option ℕ → Option Text → List Step = λ u g. enter_as number client from visit.nonce u g ∷ [] in
    let steps : party_steps s world m.out n from past p asked p.reply ≡ enter row ∷ [] =
    ap V f.made ∙ ap (λ (u : Option ℕ). S u visit.sid) user ∙ ap (S (Some f.token.row.user)) sid in
    let mid : Machine = lapsed s n at world in
    let R : List Step → Type 0 = λ taken. IsRun mid taken in
    let answered : IsAnsweredFor mid row = record { answered = f.token.row; has = f.token.has; nonce = f.token.nonce_is; client = f.token.client_is; user = refl; sid = refl } in
    let unused : Lacks m.entered (record { client = client; nonce = Some (word_text visit.nonce) }) =
    not_entered s n from p world w sub m.entered site mine (distinct_before x world distinct) f old.entered in
    let undead : Lacks mid.dead (dead_row row) = not_dead s n at world row types asked site mine kept refl (f.sid_is ∙ sid) alive in
    let rows : List Live = settled world client at m.live in
    let test : Live → Bool = λ r. not (is_over world client at r) in
    let low : AllByRecursion (λ (r : Live). r.event ≤ length world) rows = all_filter (λ (r : Live). r.event ≤ length world) test m.live old.events in
    -- the new visit
    let word : fresh_word fresh 1 ≡ w = entered_word (setup_at s n) past p w sub own refl in
    let none : row_of visit_name w (visits types past) ≡ None = no_visit_yet s n x world w before distinct own.1.four word in
    let N : Word → Type 0 = λ v. row_of visit_name v (visits types past) ≡ None in
    let pushed : visits types (p ∷ past) ≡ visits types past ++ visit ∷ [] = visits_pushed types past p visit refl f.made (subst N (sym f.word_is) none) in
    let E : Word → Text → Type 0 = λ v t. p.reply ≡ rp.Entered v t in
    let E_of : Word → Type 0 = λ v. E v sub in
    let same_session : IsSameSession s (x ∷ world) n row visit =
    record {
      request = request;
      pair = p;
      place = place_at_last x world;
      reply = subst (E visit.word) (sym f.sub_is) (subst E_of (sym f.word_is) refl);
      moment = sym f.entered_is;
      nonce = refl;
      user = user;
      sid = sid;
    } in
    let Z : RpPast → List SessionRow = λ z. live_visits types z (last_moment z) in
    let L : List SessionRow → List SessionRow = λ vs. filter (λ r. lives visit_life r.entered at) vs in
    let visits_are : Z (rp_past n (x ∷ world)) ≡ live_visits types past at ++ visit ∷ [] = ap Z (past_own n from request p world) ∙ ap L pushed ∙ live_pushed (visits types past) visit at f.entered_is in
    let B : List Live → List SessionRow → Type 0 = λ rs vs. Each (IsSameSession s (x ∷ world) n) rs vs in
    let both : B (rows_of client rows ++ row ∷ []) (live_visits types past at ++ visit ∷ []) =
    each_push (IsSameSession s (x ∷ world) n) (rows_of client rows) (live_visits types past at) row visit (own_settled_agree s n from request p world mine own.2 kept) same_session in
    let W : List SessionRow → Type 0 = λ vs. B (rows_of client (rows ++ row ∷ [])) vs in
    let Y : List Live → Type 0 = λ rs. B rs (live_visits types past at ++ visit ∷ []) in
    let own_agrees : W (Z (rp_past n (x ∷ world))) = subst W (sym visits_are) (subst Y (sym (own_pushed client rows row refl)) both) in
    let agrees : Agrees s (x ∷ world) (rows ++ row ∷ []) =
    agrees_by s (x ∷ world) n (rows ++ row ∷ []) own_agrees
    (λ k known other.
    let apart : client ≡ client_of_party s k → ⊥ = λ same. other (parties_apart c n k site.registry mine known same) in
    let Q : List Live → Type 0 = λ rs. Each (IsSameSession s (x ∷ world) k) rs (live_visits (types_at s k) (rp_past k (x ∷ world)) (last_moment (rp_past k (x ∷ world)))) in
    subst Q (sym (other_pushed (client_of_party s k) rows row apart)) (others_agree s n from request p world site mine kept k known other)) in
    let added : RpPast = p ∷ [] in
    record {
      began = m.began;
      entered = record { client = client; nonce = Some (word_text visit.nonce) } ∷ m.entered;
      live = rows ++ row ∷ [];
      ended = m.ended;
      dead = unforgotten past client at m.dead;
      run = subst R (sym steps) ((f.begins.has, answered, unused, undead), tt);
      leaves = ap (after_all mid) steps;
      nonces = began_more x world m.began old.began;
      begins = tt;
      still = λ b has. has;
      entries = (
        record {
          n = n;
          known = mine;
          client = refl;
          later = [];
          pair = p;
          earlier = past;
          parts = past_own n from request p world;
          k = f.k;
          entered = f.entered;
          begun = begun_at_more added past (rp_past n (x ∷ world)) f.k (Some (word_text visit.nonce)) (past_own n from request p world) f.begins.at;
        },
        entered_more s x world m.entered old.entered,
      );
      endings = ended_more s x world m.ended old.ended;
      deaths = dead_more s x world (unforgotten past client at m.dead) (all_filter (IsDeadRow s world) (λ r. not (is_forgotten past client at r)) m.dead old.dead);
      dead_once = deads_filter (λ r. not (is_forgotten past client at r)) m.dead old.dead_apart;
      texts = tt;
      logouts = tt;
      bound = tt;
      agrees = agrees;
      apart = apart_push rows row (apart_filter test m.live old.apart) (others_before (length world) rows low);
      low = all_append (λ (r : Live). r.event ≤ number) rows (row ∷ []) (events_more (length world) rows low) (omega arith, tt);
    }

-- ---- the three kinds of entering

pub entering_done : (s : Site) (n from at : ℕ) (request : WorldAsk) (fresh : List Word) (asked : RpAsk) (w : Word) (sub : Text) (world : World) → IsSite s
    → IsLegalWorld s (Party n from request (record { entry = record { at = at; fresh = fresh; ask = asked }; reply = rp.Entered w sub }) ∷ world)
    → HasDistinctWords (Party n from request (record { entry = record { at = at; fresh = fresh; ask = asked }; reply = rp.Entered w sub }) ∷ world)
    → IsUnleaked world → leaks world (Party n from request (record { entry = record { at = at; fresh = fresh; ask = asked }; reply = rp.Entered w sub })) ≡ false
    → IsUnforged s world → forges s world (Party n from request (record { entry = record { at = at; fresh = fresh; ask = asked }; reply = rp.Entered w sub })) ≡ false
    → IsJoined world → IsJoinedAt world from request → IsKept s world
    → EnteredCause (setup_at s n) (rp_past n world) (record { at = at; fresh = fresh; ask = asked }) asked w sub
    → Does s n from request (record { entry = record { at = at; fresh = fresh; ask = asked }; reply = rp.Entered w sub }) world
entering_done s n from at request fresh (ask.Callback (Ok heard) id browser) w sub world site legal distinct unleaked tight unforged clean joined here_joined kept cause =
    entered_done s n from at request fresh (ask.Callback (Ok heard) id browser) w sub world site legal distinct kept cause.alive
    (at_once s n from at request fresh w sub world site kept heard id browser legal tight clean cause.enters)
entering_done s n from at request fresh (ask.Tokens pending (Ok came) id) w sub world site legal distinct unleaked tight unforged clean joined here_joined kept cause =
    let x : Place = Party n from request (record { entry = record { at = at; fresh = fresh; ask = ask.Tokens pending (Ok came) id }; reply = rp.Entered w sub }) in
    entered_done s n from at request fresh (ask.Tokens pending (Ok came) id) w sub world site legal distinct kept cause.alive
    (after_exchange s n from at request fresh w sub world site kept pending came id legal (distinct_before x world distinct) unleaked joined here_joined clean cause.enters)
entering_done s n from at request fresh (ask.Info pending (Ok came)) w sub world site legal distinct unleaked tight unforged clean joined here_joined kept cause =
    let x : Place = Party n from request (record { entry = record { at = at; fresh = fresh; ask = ask.Info pending (Ok came) }; reply = rp.Entered w sub }) in
    entered_done s n from at request fresh (ask.Info pending (Ok came)) w sub world site legal distinct kept cause.alive
    (after_info s n from at request fresh w sub world site kept pending came legal (distinct_before x world distinct) unleaked unforged joined here_joined cause.enters)
entering_done s n from at request fresh asked w sub world site legal distinct unleaked tight unforged clean joined here_joined kept cause = absurd cause.enters
