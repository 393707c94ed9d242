-- The first four places of a login at a party of any response type: it begins, alice gets the login page, the consent page, and an
-- answer. All premises are kept. All places of the samples are at the moment 1000, and each draws the next four words, from `word 1` on.
use Rattle.std.proofs.Common.{◌≡◌, ◌-◌, ◌||◌, not, ◌&&◌, Bool, true, false, cond, List, [], ◌∷◌, Option, Some, None, option_and_then, Result, refl, sym, ap, ◌∙◌, arith}
use Rattle.std.specs.List.{list_any}
use Rattle.sso_base.specs.Rows.{lives}
use Rattle.sso_base.specs.Words.{Word, IsWord}
use Rattle.sso_base.specs.declared.history.Entry.{Entry}
use Rattle.sso_base.specs.declared.http.Ask.{Ask}
use Rattle.sso_base.proofs.OnLiterals.{base64url_on_literals}
use Rattle.sso_base.proofs.Utf8Bytes.{IsUtf8-are_ascii}
use Rattle.oidc_words.specs.Claims.{scopes_with_any}
use Rattle.oidc_words.specs.Lives.{turn_life, session_life}
use Rattle.oidc_words.specs.Paths.{authorize_path, login_path, consent_path, begin_path}
use Rattle.oidc_words.specs.Scopes.{joined}
use Rattle.client_registry.specs.ClientSets.{no_clients}
use Rattle.client_registry.specs.Configuration.{Configuration}
use Rattle.client_registry.specs.Registered.{IsRegistry}
use Rattle.request_params.specs.declared.params.Params.{Params}
use Rattle.request_params.specs.declared.no.AskNo.{AskNo}
use Rattle.request_params.specs.Form.{form_text}
use Rattle.request_params.specs.Printing.{request_form}
use Rattle.auth_request.specs.declared.wish.Verdict.{Verdict}
use Rattle.auth_request.specs.declared.wish.Verdict.TheVariants.{Grant}
use Rattle.auth_answer.specs.declared.answer.Answer.{Answer}
use Rattle.user_interaction.specs.Need.{is_older, needed, needed_scopes}
use Rattle.code_grant.specs.declared.rows.TurnRow.{TurnRow}
use Rattle.code_grant.specs.declared.rows.SessionRow.{SessionRow}
use Rattle.login_request.specs.Parties.{MayAsk}
use Rattle.login_request.specs.Request.{login_location, login_params}
use Rattle.login_request.proofs.Asked.{plain_read}
use Rattle.op_issue.specs.Issued.{if_wished, issued}
use Rattle.op_exchange.specs.Values.{IsOpAsk}
use Rattle.op_exchange.specs.declared.ask.OpAsk.{OpAsk}
use Rattle.op_exchange.specs.declared.ask.OpAsk.TheVariants as op_ask
use Rattle.op_exchange.specs.declared.reply.OpReply.{OpReply}
use Rattle.op_exchange.specs.declared.reply.OpReply.TheVariants as op
use Rattle.op_request.specs.Prepared.{prepared as op_prepared}
use Rattle.op_answer.specs.Answering.{op_answer}
use Rattle.op_answer.specs.Past.{OpPast}
use Rattle.op_answer.specs.Room.{lacks_code, lacks_access}
use Rattle.op_answer.specs.Sessions.{session_of}
use Rattle.op_answer.specs.Turns.{turn_of}
use Rattle.op_answer.proofs.FirstLogin.{entry_at, pair_of, login_page, login_entry, consent_page, consent_entry, signed_alice}
use Rattle.rp_exchange.specs.Values.{IsRpAsk}
use Rattle.rp_exchange.specs.declared.ask.RpAsk.TheVariants as rp_ask
use Rattle.rp_exchange.specs.declared.reply.RpReply.{RpReply}
use Rattle.rp_exchange.specs.declared.reply.RpReply.TheVariants as rp
use Rattle.rp_request.specs.Prepared.{prepared as rp_prepared}
use Rattle.rp_answer.specs.Answering.{rp_answer}
use Rattle.rp_answer.specs.Past.{RpPast}
use Rattle.rp_answer.proofs.Sample.{word, words, op as provider, pair_of as rp_pair}
use Rattle.rp_answer.proofs.FirstVisit.{begin_entry}
use Rattle.sso_places.specs.declared.types.Jar.{Jar}
use Rattle.sso_places.specs.declared.types.To.TheVariants as to
use Rattle.sso_places.specs.declared.types.WorldAsk.TheVariants.{Http}
use Rattle.sso_places.specs.declared.types.WorldReply.TheVariants as reply
use Rattle.sso_places.specs.Checked.{object_in}
use Rattle.sso_places.specs.Cookies.{no_jar}
use Rattle.sso_places.specs.Premises.{is_forged, forges}
use Rattle.sso_places.specs.Site.{own_site, setup_at}
use Rattle.sso_places.specs.World.{Place, Provider, Party, op_past, reply_at}
use Rattle.sso_places.proofs.Objects.{may_ask}
use Rattle.sso_places.proofs.SmallSite.{drawn_word, legal_entry}
use Rattle.web_requests.specs.declared.location.Location.{Location}
use Rattle.web_requests.specs.Following.{followed}
use Rattle.web_requests.specs.Posting.{login_form, consent_form, login_posted, consent_posted}
use Rattle.web_requests.specs.Sending.{sent, got, posted}
use Rattle.web_requests.proofs.FollowedRequests.{request_there, request_read_whole}
use Rattle.web_requests.proofs.PostedForms.{begin_read, login_read, consent_read}
use Rattle.honest_places.specs.InTime.{IsConsentInTime}
use Rattle.honest_places.specs.Login.{called_for, begun}
use Rattle.honest_places.proofs.OwnWish.{own_wish_granted}
use Rattle.honest_worlds.proofs.Alone.{provider_reads_it, party_reads_it, KeepsAll, provider_next}
use Rattle.honest_worlds.proofs.Growing.{nothing_stands, party_stands}
use Rattle.honest_worlds.proofs.AnyType.{Wants, every_type, asker, is_registry, visitor, right_password, silent, word_2, word_3, registered, ours, ours_is, ours_value}

module _ (wants : Wants) where
  abbrev c : Configuration
  c = registered wants

  r : IsRegistry c
  r = is_registry wants

  -- ---- the login begins

  abbrev pub begins : Ask
  begins = got begin_path [] no_jar

  abbrev pub asked : RpReply
  asked = rp.Ask (login_location every_type (asker wants) provider (word 2) (word 3)) (word 1)

  abbrev pub past_begin : RpPast
  past_begin = rp_pair begin_entry asked ∷ []

  abbrev pub begins_there : Place
  begins_there = Party 0 1 (Http begins) (rp_pair begin_entry asked)

  begin_is_asked : rp_prepared c 0 begins ≡ rp_ask.Begin None
  begin_is_asked = party_reads_it c 1 0 (Some (sent 1 (to.Party 0) begins)) begins (rp_ask.Begin None) (begin_read c 1 no_jar 0 r (omega arith)) refl

  begin_is_answered : rp_answer (setup_at (own_site c) 0) [] begin_entry ≡ asked
  unfolding rp_answer
  begin_is_answered = refl

  begun_alone : KeepsAll c visitor begins_there []
  begun_alone =
      record {
        stands =
            party_stands c [] 0 1 (Http begins) (rp_pair begin_entry asked) (nothing_stands c)
            (record {
              known = omega arith;
              asked = begin_is_asked;
              entry = legal_entry IsRpAsk 1 begin_entry.ask refl tt;
              after_own = omega arith;
              after_all = omega arith;
              answered = begin_is_answered;
            });
        unforged = (tt, refl);
        unleaked = (tt, refl);
        joined = (tt, tt);
        honest = begun [] begins_there (record { jar = no_jar; asked = refl; room = λ kept. refl });
      }

  -- ---- its authorization request gets the login page

  pub may : MayAsk c 0 c.provider.issuer (word 2) (word 3)
  may = may_ask (own_site c) 0 (word 2) (word 3) (record { registry = r; one_issuer = λ n. refl }) (omega arith) word_2 word_3

  abbrev pub authorizes : Ask
  authorizes = got authorize_path (request_form (login_params every_type (asker wants) (word 2) (word 3))) no_jar

  abbrev pub authorize_entry : Entry OpAsk
  authorize_entry = entry_at 1000 5 (op_ask.Authorize (Grant (ours wants)) None None)

  abbrev pub authorizes_there : Place
  authorizes_there = Provider 1 authorizes (pair_of authorize_entry login_page)

  follows : called_for c visitor no_jar [] (reply_at begins_there) ≡ Some (sent 1 to.Provider authorizes)
  unfolding followed
  follows = ap (option_and_then (λ (l : Location). followed c 1 l no_jar)) (request_there c 0 (word 2) (word 3) may (word 1))

  authorize_is_asked : op_prepared c authorizes ≡ authorize_entry.ask
  authorize_is_asked =
      request_read_whole c 0 (word 2) (word 3) may no_jar
      ∙ ap (λ (v : Verdict). op_ask.Authorize v None None) (own_wish_granted c 0 (word 2) (word 3) may (silent wants) ∙ ap Grant (ours_is wants))

  authorize_is_answered : op_answer c [] authorize_entry ≡ login_page
  unfolding op_answer needed needed_scopes joined scopes_with_any no_clients base64url_on_literals
  authorize_is_answered = refl

  -- there is no request object
  no_object : forges (own_site c) (begins_there ∷ []) authorizes_there ≡ false
  no_object =
      let F : Result Params AskNo → Bool = λ read. list_any (is_forged (own_site c) (begins_there ∷ [])) (object_in c read) in
      ap F (plain_read c 0 provider (word 2) (word 3) may refl)

  authorized : KeepsAll c visitor authorizes_there (begins_there ∷ [])
  authorized =
      provider_next c visitor begins_there [] 1 authorizes (pair_of authorize_entry login_page) begun_alone
      (record {
        jar = no_jar;
        called = follows;
        cookies = tt;
        replies = record {
          asked = authorize_is_asked;
          entry = legal_entry IsOpAsk 5 authorize_entry.ask refl (ours_value wants, tt, tt);
          after_own = omega arith;
          after_all = omega arith;
          answered = authorize_is_answered;
        };
        in_time = tt;
        room = refl;
        unforged = no_object;
        unleaked = refl;
      })

  -- ---- alice signs in and gets the consent page

  abbrev first_jar : Jar
  first_jar = record { first = Some (word 5); second = None }

  abbrev pub logs_in : Ask
  logs_in = posted login_path (Some (form_text (login_form (word 6) visitor.id visitor.password))) first_jar

  abbrev pub logs_in_there : Place
  logs_in_there = Provider 1 logs_in (pair_of login_entry consent_page)

  pub fills_in : login_posted c 1 (reply.Provider login_page) visitor.id visitor.password first_jar ≡ Some (sent 1 to.Provider logs_in)
  unfolding login_posted
  fills_in = refl

  pub word_5 : IsWord (word 5)
  word_5 = drawn_word (word 5) refl refl

  pub word_6 : IsWord (word 6)
  word_6 = drawn_word (word 6) refl refl

  word_9 : IsWord (word 9)
  word_9 = drawn_word (word 9) refl refl

  pub login_is_asked : op_prepared c logs_in ≡ login_entry.ask
  login_is_asked =
      let texts = IsUtf8-are_ascii visitor.id refl in
      provider_reads_it c 1 (login_posted c 1 (reply.Provider login_page) visitor.id visitor.password first_jar) logs_in _
      (login_read c 1 first_jar (word 6) (word 5) false visitor.id visitor.password word_6 texts (IsUtf8-are_ascii visitor.password refl)) fills_in
      ∙ ap (λ o. op_ask.Login (Some (word 6)) o (Some (word 5)) None) (right_password wants)

  abbrev past_authorize : OpPast
  past_authorize = pair_of authorize_entry login_page ∷ []

  login_is_answered : op_answer c past_authorize login_entry ≡ consent_page
  unfolding op_answer needed needed_scopes joined scopes_with_any no_clients
  login_is_answered = refl

  abbrev turn_in_time : Option TurnRow → Bool
  turn_in_time None = true
  turn_in_time (Some row) = lives turn_life row.begun 1000

  signed_in : KeepsAll c visitor logs_in_there (authorizes_there ∷ begins_there ∷ [])
  signed_in =
      provider_next c visitor authorizes_there (begins_there ∷ []) 1 logs_in (pair_of login_entry consent_page) authorized
      (record {
        jar = first_jar;
        called = fills_in;
        cookies = refl;
        replies = record {
          asked = login_is_asked;
          entry = legal_entry IsOpAsk 9 login_entry.ask refl (word_6, omega arith, word_5, tt);
          after_own = omega arith;
          after_all = omega arith;
          answered = login_is_answered;
        };
        in_time = λ row is kept. sym (ap turn_in_time is);
        room = refl;
        unforged = refl;
        unleaked = refl;
      })

  -- ---- she consents and gets an answer

  abbrev second_jar : Jar
  second_jar = record { first = Some (word 5); second = Some (word 9) }

  abbrev pub consents : Ask
  consents = posted consent_path (Some (form_text (consent_form (word 6) true))) second_jar

  abbrev pub answer : Answer
  answer = issued c (ours wants) signed_alice 1000 (words 13)

  abbrev pub answered : OpReply
  answered = op.Answered answer None

  abbrev pub consents_there : Place
  consents_there = Provider 1 consents (pair_of consent_entry answered)

  pub says_yes : consent_posted c 1 (reply.Provider consent_page) true second_jar ≡ Some (sent 1 to.Provider consents)
  unfolding consent_posted
  says_yes = refl

  consent_is_asked : op_prepared c consents ≡ consent_entry.ask
  consent_is_asked =
      provider_reads_it c 1 (consent_posted c 1 (reply.Provider consent_page) true second_jar) consents consent_entry.ask (consent_read c 1 second_jar (word 6) (word 5) (Some (word 9)) _ _ true word_6) says_yes

  abbrev past_login : OpPast
  past_login = pair_of login_entry consent_page ∷ past_authorize

  has_room : (b d : Bool) → (lacks_code past_login 1000 (if_wished b (word 15)) || lacks_access past_login 1000 (if_wished d (word 16))) ≡ false
  has_room true true = refl
  has_room true false = refl
  has_room false true = refl
  has_room false false = refl

  consent_is_answered : op_answer c past_login consent_entry ≡ answered
  unfolding op_answer needed needed_scopes joined scopes_with_any no_clients
  consent_is_answered = ap (λ b. cond b op.Full answered) (has_room wants.code wants.token)

  abbrev pub three : List Place
  three = logs_in_there ∷ authorizes_there ∷ begins_there ∷ []

  abbrev turn_session : Option TurnRow → Option Word
  turn_session None = None
  turn_session (Some row) = row.session

  abbrev turn_in : Option TurnRow → Bool
  turn_in None = true
  turn_in (Some row) = row.in_turn

  abbrev session_in_time : Option SessionRow → Bool
  session_in_time None = true
  session_in_time (Some session) = lives session_life session.auth_time 1000

  consent_in_time : (row : TurnRow) → turn_of (op_past three) (Some (word 6)) ≡ Some row → IsConsentInTime None (op_past three) 1000 row
  unfolding no_clients
  consent_in_time row is =
      let session : row.session ≡ Some (word 9) = sym (ap turn_session is) in
      let in_turn : row.in_turn ≡ true = sym (ap turn_in is) in
      record {
        turn = λ kept. sym (ap turn_in_time is);
        session = λ s there kept. (let found : session_of (op_past three) (Some (word 9)) ≡ Some s = sym (ap (session_of (op_past three)) session) ∙ there in sym (ap session_in_time found));
        recent = λ s there kept. ap (λ b. not b && is_older row.wish.max_age (1000 - s.auth_time)) in_turn;
      }

  pub answered_alone : KeepsAll c visitor consents_there three
  answered_alone =
      provider_next c visitor logs_in_there (authorizes_there ∷ begins_there ∷ []) 1 consents (pair_of consent_entry answered) signed_in
      (record {
        jar = second_jar;
        called = says_yes;
        cookies = refl;
        replies = record {
          asked = consent_is_asked;
          entry = legal_entry IsOpAsk 13 consent_entry.ask refl (word_6, word_5, word_9);
          after_own = omega arith;
          after_all = omega arith;
          answered = consent_is_answered;
        };
        in_time = consent_in_time;
        room = refl;
        unforged = refl;
        unleaked = refl;
      })
