-- Whole logins of the six response types. What is left to compute of each is what the party replies, that no half digests are alike,
-- and its session. The code of the answer is `word 15`, its access token `word 16`; that of the token response is `word 21`.
use Rattle.std.proofs.Common.{◌≡◌, ◌&&◌, ◌||◌, ℕ, Bool, true, false, List, [], ◌∷◌, length, codes, Some, inl, inr, refl, sym, ap, ◌∙◌, arith}
use Rattle.std.specs.List.{list_any}
use Rattle.std.specs.Str.{bytes_eq}
use Rattle.sso_base.specs.Words.{Word, Text, word_text}
use Rattle.sso_base.specs.declared.history.Entry.{Entry}
use Rattle.sso_base.proofs.OnLiterals.{base64url_on_literals}
use Rattle.sso_base.proofs.RowLaws.{bool_cases, bytes_true}
use Rattle.hmac256.proofs.OnLiterals.{hmac_on_literals}
use Rattle.oidc_words.specs.Types.{types_text}
use Rattle.client_registry.specs.ClientSets.{no_clients}
use Rattle.id_token.specs.HalfHash.{half_hash_of}
use Rattle.op_issue.specs.IdTokens.{id_claims}
use Rattle.op_answer.specs.AccessTokens.{access_token_of}
use Rattle.op_answer.specs.Answering.{op_answer}
use Rattle.rp_exchange.specs.declared.ask.RpAsk.{RpAsk}
use Rattle.rp_answer.specs.Answering.{rp_answer}
use Rattle.rp_answer.specs.Setup.{PartySetup}
use Rattle.rp_answer.specs.Visits.{live_visits}
use Rattle.rp_answer.proofs.Sample.{word}
use Rattle.sso_places.specs.declared.types.WorldAsk.{WorldAsk}
use Rattle.sso_places.specs.declared.types.WorldAsk.TheVariants.{Info}
use Rattle.sso_places.specs.Cookies.{no_jar}
use Rattle.sso_places.specs.Premises.{HasDistinctWords, HasDistinctHashes}
use Rattle.sso_places.specs.Reading.{machine_of}
use Rattle.sso_places.specs.Site.{own_site, setup_at}
use Rattle.sso_places.specs.Unshared.{IsUnshared}
use Rattle.sso_places.specs.World.{Place, op_past, rp_past, drawn}
use Rattle.sso_places.proofs.Clashes.{hashes_after}
use Rattle.sso_places.proofs.SmallSite.{drawn_word, are_distinct}
use Rattle.honest_places.specs.Outcome.{LetsIn, gives_password}
use Rattle.honest_worlds.specs.Session.{HoldsSession}
use Rattle.honest_worlds.specs.Whole.{answers_info, IsWholeLogin}
use Rattle.honest_worlds.proofs.Alone.{KeepsAll}
use Rattle.honest_worlds.proofs.AnyType.{Wants, with_code, without_code, types_of, registered, is_registry, visitor, may_log_in, code_is}
use Rattle.honest_worlds.proofs.UpToAnswer.{past_begin, consents_there, three}
use Rattle.honest_worlds.proofs.Responding.{request, callback_entry, four, responded, responding}
use Rattle.honest_worlds.proofs.Exchanging.{pending_in_time, redeems_there, five, six, given_request, given_entry, given, giving}
use Rattle.honest_worlds.proofs.Informing.{fetch, entered, info_entry, told_entry, access_in_time, told, NeedsInfo, asks_there, handed, informs_there, enters_there, entering}
use Rattle.honest_worlds.proofs.OwnTokens.{shown_21, response_shows, response_unshared, given_unshared, front_info_unshared, code_info_unshared}
use Rattle.honest_worlds.proofs.Sessions.{did, row_of, holds}

-- ---- what is the same in all of them

module _ (wants : Wants) where
  abbrev Session : List Place → Type 0
  Session world = HoldsSession (own_site (registered wants)) visitor world

  -- a login that keeps all premises, lets alice in and ends with a session is whole
  abbrev whole : (last : Place) (earlier : List Place) → KeepsAll (registered wants) visitor last earlier → HasDistinctWords (last ∷ earlier) → HasDistinctHashes (last ∷ earlier)
      → IsUnshared (last ∷ earlier) → list_any answers_info (last ∷ earlier) ≡ (wants.info && (wants.code || wants.token))
      → list_any gives_password (last ∷ earlier) ≡ true → LetsIn visitor last (codes "alice") → Session (last ∷ earlier) → (text : Text) → types_text (types_of wants) ≡ text
      → IsWholeLogin text wants.info (length (last ∷ earlier))
  whole last earlier keeps distinct hashes unshared informs password lets_in session text type_is =
      record {
        configuration = registered wants;
        visitor = visitor;
        last = last;
        earlier = earlier;
        type_is = type_is;
        info_is = refl;
        count = refl;
        registry = is_registry wants;
        legal = keeps.stands.legal;
        order = keeps.stands.order;
        distinct = distinct;
        hashes = hashes;
        unforged = keeps.unforged;
        unleaked = keeps.unleaked;
        joined = keeps.joined;
        unshared = unshared;
        informs = informs;
        may = may_log_in wants;
        honest = keeps.honest;
        password = password;
        lets_in = lets_in;
        session = session;
      }

  abbrev setup : PartySetup
  setup = setup_at (own_site (registered wants)) 0

  -- where the party asks for UserInfo, its claims let alice in
  module _ (access : Word) (asked : WorldAsk) (e : Entry RpAsk) (earlier : List Place) where
    abbrev informed : Place
    informed = enters_there wants access asked e earlier

    abbrev up_to_claims : List Place
    up_to_claims = informs_there wants access asked e earlier ∷ asks_there wants access asked e earlier ∷ earlier

    abbrev by_info : NeedsInfo wants access asked e earlier → HasDistinctWords (informed ∷ up_to_claims) → HasDistinctHashes earlier → IsUnshared (informed ∷ up_to_claims)
        → true ≡ (wants.info && (wants.code || wants.token)) → list_any gives_password earlier ≡ true → Session (informed ∷ up_to_claims) → (text : Text) → types_text (types_of wants) ≡ text → IsWholeLogin text wants.info (length (informed ∷ up_to_claims))
    by_info needs distinct hashes unshared informs password session text type_is =
        whole informed up_to_claims (entering wants access asked e earlier needs) distinct hashes unshared informs password (record { request = _; pair = _; word = word 34; place = refl; replied = refl }) session text type_is

abbrev nonce : Text
nonce = word_text (word 3)

nonce_is : bytes_eq nonce nonce ≡ true
nonce_is = bytes_true nonce nonce refl

abbrev half : ℕ → Text
half n = half_hash_of (word_text (word n))

half_is : (n : ℕ) → bytes_eq (half n) (half n) ≡ true
half_is n = bytes_true (half n) (half n) refl

-- ---- no code, and no UserInfo: the ID Token of the answer lets alice in

module _ (token info : Bool) where
  abbrev pub fronted : Wants
  fronted = without_code token info

  abbrev enters_at_once : Place
  enters_at_once = responded fronted (entered (word 18))

  abbrev EntersAtOnce : Type 0
  EntersAtOnce = rp_answer (setup fronted) (past_begin fronted) (callback_entry fronted) ≡ entered (word 18)

pub front_hashes : (token info : Bool) → HasDistinctHashes (four (fronted token info))
front_hashes true info = hashes_after (consents_there (fronted true info)) (three (fronted true info)) (λ v w has_v has_w same. absurd has_v) refl
front_hashes false info = λ v w has_v has_w same. absurd has_v

front_machine : (token info : Bool) → machine_of (own_site (registered (fronted token info))) (enters_at_once token info ∷ four (fronted token info)) ≡ did [] 5
unfolding no_clients id_claims
front_machine token info = refl

front_live : (token info : Bool) → live_visits (types_of (fronted token info)) (rp_past 0 (enters_at_once token info ∷ four (fronted token info))) 1000 ≡ row_of (word 18) ∷ []
unfolding id_claims
front_live token info = refl

pub front_session : (token info : Bool) → HoldsSession (own_site (registered (fronted token info))) visitor (enters_at_once token info ∷ four (fronted token info))
front_session token info =
    let wants : Wants = fronted token info in
    holds wants (word 18) (request wants) (callback_entry wants) (four wants) [] (front_machine token info) (front_live token info) refl

abbrev by_front : (token info : Bool) → EntersAtOnce token info → false ≡ (info && token) → (text : Text) → types_text (types_of (fronted token info)) ≡ text → IsWholeLogin text info 5
by_front token info is informs text type_is =
    let wants : Wants = fronted token info in
    whole wants (enters_at_once token info) (four wants) (responding wants (entered (word 18)) is refl) (are_distinct (drawn (enters_at_once token info ∷ four wants)) refl) (front_hashes token info)
    (response_unshared wants (entered (word 18)) (bool_cases token)) informs refl
    (record { request = request wants; pair = _; word = word 18; place = refl; replied = refl }) (front_session token info) text type_is

-- where there is no access token, UserInfo is not asked for
pub id_enters : EntersAtOnce false true
unfolding rp_answer id_claims
id_enters = rw nonce_is refl

abbrev pub by_id : IsWholeLogin (codes "id_token") true 5
by_id = by_front false true id_enters refl (codes "id_token") refl

pub id_token_enters : EntersAtOnce true false
unfolding rp_answer id_claims
id_token_enters = rw (nonce_is, half_is 16) refl

abbrev pub by_id_token : IsWholeLogin (codes "id_token token") false 5
by_id_token = by_front true false id_token_enters refl (codes "id_token token") refl

-- ---- no code: UserInfo is asked for at once, with the access token of the answer

abbrev pub asking : Wants
asking = fronted true true

front_fetches : rp_answer (setup asking) (past_begin asking) (callback_entry asking) ≡ fetch (word 16)
unfolding rp_answer id_claims
front_fetches = rw (nonce_is, half_is 16) refl

front_known : op_answer (registered asking) (op_past (four asking)) (info_entry (word 16)) ≡ told asking (word 16) (request asking) (callback_entry asking) (four asking)
unfolding op_answer no_clients
front_known = refl

front_in_time : access_in_time (access_token_of (op_past (four asking)) (word 16)) ≡ true
unfolding no_clients
front_in_time = refl

front_informed : rp_answer (setup asking) (rp_past 0 (responded asking (fetch (word 16)) ∷ four asking)) told_entry ≡ entered (word 34)
unfolding rp_answer id_claims
front_informed = refl

pub front_needs : NeedsInfo asking (word 16) (request asking) (callback_entry asking) (four asking)
front_needs =
    record {
      before = responding asking (fetch (word 16)) front_fetches refl;
      is_word = drawn_word (word 16) refl refl;
      early = omega arith;
      at = omega arith;
      jar = record { first = Some (word 5); second = Some (word 9) };
      cookies = refl;
      known = front_known;
      token_in_time = λ row is. sym (ap access_in_time is) ∙ front_in_time;
      waits_in_time = λ row is. sym (ap pending_in_time is);
      quiet = (refl, (refl, tt));
      enters = front_informed;
    }

abbrev front_signed_on : List Place
front_signed_on =
    informed asking (word 16) (request asking) (callback_entry asking) (four asking) ∷ up_to_claims asking (word 16) (request asking) (callback_entry asking) (four asking)

front_info_machine : machine_of (own_site (registered asking)) front_signed_on ≡ did [] 7
unfolding no_clients id_claims
front_info_machine = refl

front_info_live : live_visits (types_of asking) (rp_past 0 front_signed_on) 1000 ≡ row_of (word 34) ∷ []
unfolding id_claims
front_info_live = refl

pub front_info_session : HoldsSession (own_site (registered asking)) visitor front_signed_on
front_info_session =
    holds asking (word 34) (Info (word 17) (handed asking (word 16) (request asking) (callback_entry asking) (four asking)).answer) told_entry (up_to_claims asking (word 16) (request asking) (callback_entry asking) (four asking)) [] front_info_machine front_info_live refl

abbrev pub by_id_token_with_info : IsWholeLogin (codes "id_token token") true 7
by_id_token_with_info =
    by_info asking (word 16) (request asking) (callback_entry asking) (four asking) front_needs
    (are_distinct (drawn front_signed_on) refl) (front_hashes true true)
    (front_info_unshared asking (request asking) (callback_entry asking) (response_unshared asking (fetch (word 16)) (inl refl)) (response_shows asking (fetch (word 16)) refl))
    refl refl front_info_session (codes "id_token token") refl

-- ---- a code, and no UserInfo: the tokens let her in

pub code_hashes : (id token info : Bool) → HasDistinctHashes (six (with_code id token info))
unfolding hmac_on_literals base64url_on_literals
code_hashes id true info =
    let wants : Wants = with_code id true info in
    hashes_after (redeems_there wants) (five wants) (hashes_after (consents_there wants) (three wants) (λ v w has_v has_w same. absurd has_v) refl) refl
code_hashes id false info =
    let wants : Wants = with_code id false info in
    hashes_after (redeems_there wants) (five wants) (hashes_after (consents_there wants) (three wants) (λ v w has_v has_w same. absurd has_v) refl) refl

abbrev pub enters_with_tokens : Place
enters_with_tokens = given false false false (entered (word 26))

pub code_enters : rp_answer (setup (with_code false false false)) (rp_past 0 (six (with_code false false false))) (given_entry false false false) ≡ entered (word 26)
unfolding rp_answer id_claims
code_enters = rw (nonce_is, half_is 21) refl

code_machine : machine_of (own_site (registered (with_code false false false))) (enters_with_tokens ∷ six (with_code false false false)) ≡ did (4 ∷ []) 7
unfolding no_clients id_claims
code_machine = rw code_is refl

code_live : live_visits (types_of (with_code false false false)) (rp_past 0 (enters_with_tokens ∷ six (with_code false false false))) 1000 ≡ row_of (word 26) ∷ []
unfolding id_claims
code_live = refl

pub code_session : HoldsSession (own_site (registered (with_code false false false))) visitor (enters_with_tokens ∷ six (with_code false false false))
code_session = holds (with_code false false false) (word 26) (given_request false false false) (given_entry false false false) (six (with_code false false false)) (4 ∷ []) code_machine code_live refl

abbrev pub by_code : IsWholeLogin (codes "code") false 7
by_code =
    whole (with_code false false false) enters_with_tokens (six (with_code false false false)) (giving false false false (entered (word 26)) code_enters refl)
    (are_distinct (drawn (enters_with_tokens ∷ six (with_code false false false))) refl) (code_hashes false false false)
    (given_unshared false false false (entered (word 26)) (inr refl)) refl refl
    (record { request = given_request false false false; pair = _; word = word 26; place = refl; replied = refl }) code_session (codes "code") refl

-- ---- a code: UserInfo is asked for after the tokens

code_fetches : (id token : Bool) → rp_answer (setup (with_code id token true)) (rp_past 0 (six (with_code id token true))) (given_entry id token true) ≡ fetch (word 21)
unfolding rp_answer id_claims
code_fetches true true = rw (nonce_is, half_is 21) refl
code_fetches true false = rw (nonce_is, half_is 21) refl
code_fetches false true = rw (nonce_is, half_is 21) refl
code_fetches false false = rw (nonce_is, half_is 21) refl

module _ (id token : Bool) where
  abbrev wants : Wants
  wants = with_code id token true

  abbrev asked : WorldAsk
  asked = given_request id token true

  abbrev at : Entry RpAsk
  at = given_entry id token true

  abbrev before : List Place
  before = six wants

code_known : (id token : Bool) → op_answer (registered (wants id token)) (op_past (before id token)) (info_entry (word 21)) ≡ told (wants id token) (word 21) (asked id token) (at id token) (before id token)
unfolding op_answer no_clients
code_known id true = rw code_is refl
code_known id false = rw code_is refl

code_in_time : (id token : Bool) → access_in_time (access_token_of (op_past (before id token)) (word 21)) ≡ true
unfolding no_clients
code_in_time id true = rw code_is refl
code_in_time id false = rw code_is refl

code_informed : (id token : Bool) → rp_answer (setup (wants id token)) (rp_past 0 (given id token true (fetch (word 21)) ∷ before id token)) told_entry ≡ entered (word 34)
unfolding rp_answer id_claims
code_informed id token = refl

pub code_needs : (id token : Bool) → NeedsInfo (wants id token) (word 21) (asked id token) (at id token) (before id token)
code_needs id token =
    record {
      before = giving id token true (fetch (word 21)) (code_fetches id token) refl;
      is_word = drawn_word (word 21) refl refl;
      early = omega arith;
      at = omega arith;
      jar = no_jar;
      cookies = refl;
      known = code_known id token;
      token_in_time = λ row is. sym (ap access_in_time is) ∙ code_in_time id token;
      waits_in_time = λ row is. sym (ap pending_in_time is);
      quiet = (refl, (refl, (refl, tt)));
      enters = code_informed id token;
    }

module _ (id token : Bool) where
  abbrev code_informed_there : List Place
  code_informed_there = up_to_claims (wants id token) (word 21) (asked id token) (at id token) (before id token)

  abbrev code_signed_on : List Place
  code_signed_on = informed (wants id token) (word 21) (asked id token) (at id token) (before id token) ∷ code_informed_there

code_info_machine : (id token : Bool) → machine_of (own_site (registered (wants id token))) (code_signed_on id token) ≡ did (4 ∷ []) 9
unfolding no_clients id_claims
code_info_machine id token = rw code_is refl

code_info_live : (id token : Bool) → live_visits (types_of (wants id token)) (rp_past 0 (code_signed_on id token)) 1000 ≡ row_of (word 34) ∷ []
unfolding id_claims
code_info_live id token = refl

pub code_info_session : (id token : Bool) → HoldsSession (own_site (registered (wants id token))) visitor (code_signed_on id token)
code_info_session id token =
    holds (wants id token) (word 34) (Info (word 17) (handed (wants id token) (word 21) (asked id token) (at id token) (before id token)).answer) told_entry (code_informed_there id token) (4 ∷ []) (code_info_machine id token) (code_info_live id token) refl

abbrev pub by_code_with_info : (id token : Bool) (text : Text) → types_text (types_of (wants id token)) ≡ text → IsWholeLogin text true 9
by_code_with_info id token text type_is =
    by_info (wants id token) (word 21) (asked id token) (at id token) (before id token) (code_needs id token)
    (are_distinct (drawn (code_signed_on id token)) refl) (code_hashes id token true)
    (code_info_unshared (wants id token) (asked id token) (at id token) (given_unshared id token true (fetch (word 21)) (bool_cases token)) shown_21)
    refl refl (code_info_session id token) text type_is
