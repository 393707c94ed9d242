-- `no_logout` cannot be left out: while the shop waits for alice's tokens, somebody who has the secret of its client sends it a logout
-- token with the `sid` of her session. It ends no session, but the shop remembers it, and refuses the login. (The provider writes such
-- a token only for a sign-out, and a request to sign out presents a word of the login.)
use Rattle.std.proofs.Common.{◌≡◌, ◌<◌, [], ◌∷◌, length, Some, None, Ok, codes, refl, arith, ap, ◌∙◌}
use Rattle.std.specs.Str.{IsUtf8}
use Rattle.sso_base.specs.Words.{Text, word_of_text, word_text}
use Rattle.sso_base.specs.declared.history.Entry.{Entry}
use Rattle.sso_base.specs.declared.http.Ask.{Ask}
use Rattle.sso_base.specs.declared.message.Message.{Message}
use Rattle.sso_base.proofs.RowLaws.{bytes_true}
use Rattle.sso_base.proofs.Utf8Bytes.{IsUtf8-are_ascii}
use Rattle.sso_base.proofs.WordUtf8.{IsUtf8-word_text}
use Rattle.client_registry.specs.Numbers.{client_sealing}
use Rattle.id_token.specs.declared.claims.IdClaims.{IdClaims}
use Rattle.id_token.specs.HalfHash.{half_hash_of}
use Rattle.code_grant.specs.declared.rows.CodeRow.{CodeRow}
use Rattle.op_exchange.specs.declared.reply.OpReply.TheVariants.{SignedOut}
use Rattle.op_issue.specs.declared.sign_out.SignOut.{SignOut}
use Rattle.op_issue.specs.Ending.{MayEnd}
use Rattle.op_issue.specs.IdTokens.{id_claims, issued_id}
use Rattle.op_issue.specs.Issuing.{MayIssue}
use Rattle.op_issue.specs.LogoutMessages.{logout_message}
use Rattle.op_issue.specs.LogoutTokens.{logout_claims, issued_logout}
use Rattle.op_issue.proofs.LogoutForms.{token_ascii}
use Rattle.op_issue.proofs.LogoutSealable as logouts
use Rattle.op_answer.specs.Codes.{code_of}
use Rattle.op_answer.proofs.FirstLogin.{signed_alice}
use Rattle.rp_login.specs.declared.rows.PendingRow.{PendingRow}
use Rattle.rp_exchange.specs.Values.{IsRpAsk, IsIdValue}
use Rattle.rp_exchange.specs.declared.ask.RpAsk.{RpAsk}
use Rattle.rp_exchange.specs.declared.ask.RpAsk.TheVariants as rp_ask
use Rattle.rp_exchange.specs.declared.no.RpNo.TheVariants as no
use Rattle.rp_exchange.specs.declared.reply.RpReply.{RpReply}
use Rattle.rp_exchange.specs.declared.reply.RpReply.TheVariants.{Ended, Refused}
use Rattle.rp_request.specs.Opened.{logout_read_for}
use Rattle.rp_request.specs.Prepared.{prepared}
use Rattle.rp_request.proofs.Opened.{logout_alike}
use Rattle.rp_answer.specs.Answering.{rp_answer}
use Rattle.rp_answer.specs.Pendings.{pending_of}
use Rattle.rp_answer.proofs.Sample.{word, only_code, shop_client, entry_at, pair_of}
use Rattle.sso_places.specs.declared.types.To.TheVariants as to
use Rattle.sso_places.specs.declared.types.WorldAsk.{WorldAsk}
use Rattle.sso_places.specs.declared.types.WorldAsk.TheVariants.{Http, Tokens}
use Rattle.sso_places.specs.declared.types.WorldReply.TheVariants as reply
use Rattle.sso_places.specs.Cookies.{jar_set}
use Rattle.sso_places.specs.Site.{setup_at}
use Rattle.sso_places.specs.World.{Place, Party, World, op_past, rp_past, drawn}
use Rattle.sso_places.proofs.SmallSite.{configuration, site, registry, drawn_word, are_distinct, legal_entry}
use Rattle.sso_places.proofs.LoginByCode.{our_wish, wish_is_value, nonce_fits, code_text, code_is, message, exchange, redeems}
use Rattle.cookie_jars.specs.Jars.{jar_with}
use Rattle.web_requests.specs.Asked.{AsksParty, AnswersTokens}
use Rattle.web_requests.specs.Carrying.{message_ask, carried}
use Rattle.web_requests.specs.Handing.{handed_back}
use Rattle.web_requests.specs.Sending.{sent}
use Rattle.web_requests.proofs.CarriedLogouts.{logout_carried}
use Rattle.honest_places.specs.Conditions.{no_logout}
use Rattle.honest_places.specs.Login.{jar_shown, IsHonestBut, waited, went_on}
use Rattle.honest_party.proofs.Followed.{issued_utf8, tokens_arrive}
use Rattle.honest_worlds.specs.Needed.{FailsWithout}
use Rattle.honest_worlds.proofs.Alone.{party_reads_it}
use Rattle.honest_worlds.proofs.Building.{CodeLives, PendingLives, of_row, fails_there}
use Rattle.honest_worlds.proofs.ClaimValues.{claims_value}
use Rattle.honest_worlds.proofs.FirstPlaces.{alice, alice_may, exchanges, answered, exchanged, second_jar, carries, exchanged_honestly}
use Rattle.honest_worlds.proofs.Growing.{Stands, party_stands}
use Rattle.honest_worlds.proofs.Redeeming.{tokens, redeems_from, redeemed, redeemed_stands}

-- ---- the shop's token request gets tokens

code_comes_in_time : (row : CodeRow) → code_of (op_past exchanged) (word_of_text code_text) ≡ Some row → CodeLives (Some no_logout) 1000 row
code_comes_in_time = of_row (CodeLives (Some no_logout) 1000) (code_of (op_past exchanged) (word_of_text code_text)) (rw code_is (λ kept. refl))

redeemed_honestly : IsHonestBut (Some no_logout) configuration alice (redeemed 0) (redeemed 0)
redeemed_honestly =
    went_on exchanged exchanges answered (redeems_from 0) (exchanged_honestly (Some no_logout))
    (record {
      jar = second_jar;
      done = sent 0 to.Provider redeems;
      called = carries;
      asked = refl;
      cookies = λ kept. refl;
      in_time = code_comes_in_time;
      alive = tt;
      room = λ kept. refl;
    })

-- ---- a logout token comes to the shop, as the provider would write it if alice signed out

abbrev out : SignOut
out = record { who = signed_alice; at = 1000; word = word 33 }

may_end : MayEnd configuration 0 out
may_end = record {
  registry = registry;
  client = omega arith;
  user = omega arith;
  sid = drawn_word (word 10) refl refl;
  word = drawn_word (word 33) refl refl;
  moment = omega arith;
}

abbrev logout_uri : Text
logout_uri = codes "http://127.0.0.1:8081/logout"

abbrev logout_token : Text
logout_token = issued_logout configuration 0 out

abbrev notice : Message
notice = logout_message configuration out 0 logout_uri

abbrev logs_out : Ask
logs_out = message_ask (codes "/logout") [] notice

abbrev logout_entry : Entry RpAsk
logout_entry = entry_at 1000 25 (rp_ask.Logout (Ok (logout_claims configuration 0 out)))

token_is_read : logout_read_for shop_client logout_token ≡ Ok (logout_claims configuration 0 out)
token_is_read = logout_alike shop_client (client_sealing configuration 0) logout_token (logout_claims configuration 0 out) refl (logouts.is_read_back configuration 0 out may_end)

token_is_text : IsUtf8 logout_token
token_is_text = IsUtf8-are_ascii logout_token (token_ascii configuration 0 out)

arrives : AsksParty configuration 0 0 (carried configuration (reply.Provider (SignedOut (notice ∷ []))) 0) (rp_ask.Logout (logout_read_for shop_client logout_token))
arrives = logout_carried configuration 0 logout_uri logout_token (notice ∷ []) 0 registry refl refl refl token_is_text refl

is_carried : carried configuration (reply.Provider (SignedOut (notice ∷ []))) 0 ≡ Some (sent 0 (to.Party 0) logs_out)
unfolding carried
is_carried = refl

logout_is_asked : prepared configuration 0 logs_out ≡ logout_entry.ask
logout_is_asked =
    party_reads_it configuration 0 0 (carried configuration (reply.Provider (SignedOut (notice ∷ []))) 0) logs_out (rp_ask.Logout (logout_read_for shop_client logout_token)) arrives is_carried
    ∙ ap (λ read. rp_ask.Logout read) token_is_read

logout_asks : IsRpAsk logout_entry.ask
unfolding logout_claims
logout_asks =
    let texts = logouts.has_texts configuration 0 out may_end in
    record { iss = texts.iss; aud = texts.aud; iat = omega arith; exp = omega arith; jti = texts.jti; sub = texts.sub; sid = texts.sid }

logout_ends_none : rp_answer (setup_at site 0) (rp_past 0 (redeemed 0)) logout_entry ≡ Ended 0
unfolding rp_answer logout_claims
logout_ends_none = refl

abbrev logs_out_there : Place
logs_out_there = Party 0 0 (Http logs_out) (pair_of logout_entry (Ended 0))

abbrev logged_out : World
logged_out = logs_out_there ∷ redeemed 0

logged_out_stands : Stands configuration logged_out
logged_out_stands = party_stands configuration (redeemed 0) 0 0 (Http logs_out) (pair_of logout_entry (Ended 0)) (redeemed_stands 0) (record {
  known = omega arith;
  asked = logout_is_asked;
  entry = legal_entry IsRpAsk 25 logout_entry.ask refl logout_asks;
  after_own = omega arith;
  after_all = omega arith;
  answered = logout_ends_none;
})

-- it presents no word at all
logged_out_honestly : IsHonestBut (Some no_logout) configuration alice logged_out (redeemed 0)
logged_out_honestly = waited (redeemed 0) (redeemed 0) logs_out_there redeemed_honestly (λ kept w has. absurd has)

-- ---- the tokens are given back to the shop

abbrev id : Text
id = issued_id configuration our_wish signed_alice 1000 (Some (word 21)) None

abbrev claims : IdClaims
claims = id_claims configuration our_wish signed_alice 1000 (Some (word 21)) None

abbrev given_entry : Entry RpAsk
given_entry = entry_at 1000 29 (rp_ask.Tokens (word 17) (Ok (record { access = word_text (word 21); id = id })) (Some (Ok claims)))

abbrev refused : RpReply
refused = Refused (no.EndedSid 3)

may_issue : MayIssue configuration our_wish signed_alice 1000
may_issue = record {
  registry = registry;
  client = omega arith;
  user = omega arith;
  nonce = refl;
  sid = drawn_word (word 10) refl refl;
  auth_time = omega arith;
  moment = omega arith;
}

known : 0 < length configuration.parties
known = omega arith

handed : AnswersTokens configuration 1 0 (word 17) (handed_back configuration 1 (to.Party 0) (reply.Party exchange) to.Provider (reply.Provider tokens)) given_entry.ask
handed = tokens_arrive configuration 0 registry known our_wish signed_alice 1000 1 (word 17) (word 21) message refl may_issue wish_is_value

claims_are_values : IsIdValue claims
claims_are_values = claims_value configuration our_wish (Some (word 21)) None may_issue wish_is_value refl

given_asks : IsRpAsk given_entry.ask
given_asks = (
  drawn_word (word 17) refl refl,
  (IsUtf8-word_text (word 21), issued_utf8 configuration our_wish signed_alice 1000 (Some (word 21)) None),
  claims_are_values,
)

-- the logout was the third request to the shop
login_is_refused : rp_answer (setup_at site 0) (rp_past 0 logged_out) given_entry ≡ refused
unfolding rp_answer id_claims logout_claims
login_is_refused =
    let half = half_hash_of (word_text (word 21)) in
    let sid = word_text (word 10) in
    rw (nonce_fits, bytes_true half half refl, bytes_true sid sid refl) refl

abbrev given_request : WorldAsk
given_request = Tokens (word 17) handed.answer

abbrev fails : Place
fails = Party 0 1 given_request (pair_of given_entry refused)

stands : Stands configuration (fails ∷ logged_out)
stands = party_stands configuration logged_out 0 1 given_request (pair_of given_entry refused) logged_out_stands (record {
  known = known;
  asked = handed.read;
  entry = legal_entry IsRpAsk 29 given_entry.ask refl given_asks;
  after_own = omega arith;
  after_all = omega arith;
  answered = login_is_refused;
})

tokens_in_time : (row : PendingRow) → pending_of only_code (rp_past 0 logged_out) (word 17) ≡ Some row → PendingLives (Some no_logout) 1000 row
tokens_in_time = of_row (PendingLives (Some no_logout) 1000) (pending_of only_code (rp_past 0 logged_out) (word 17)) (λ kept. refl)

pub early_logout_fails : FailsWithout no_logout
early_logout_fails =
    fails_there configuration no_logout alice logged_out fails (redeems_from 0) exchanged registry stands (are_distinct (drawn (fails ∷ logged_out)) refl) (alice_may (Some no_logout)) logged_out_honestly
    (record {
      jar = jar_with (jar_set exchanges) (jar_shown exchanges);
      done = record { from = 1; to = to.Party 0; ask = given_request };
      called = handed.is;
      asked = refl;
      cookies = λ kept. refl;
      in_time = tokens_in_time;
      alive = λ sid is kept. absurd (kept refl);
      room = λ kept. refl;
    })
    refl
