-- A login at a party whose response type has a code, from the exchange of the code to the tokens that are given back. All premises
-- are kept, whatever the party replies to the tokens.
use Rattle.std.proofs.Common.{◌≡◌, ℕ, Bool, true, false, List, [], ◌∷◌, Option, Some, None, Ok, refl, sym, ap, ◌∙◌, arith}
use Rattle.sso_base.specs.Rows.{lives}
use Rattle.sso_base.specs.Words.{Text, word_text, word_of_text}
use Rattle.sso_base.specs.declared.history.Entry.{Entry}
use Rattle.sso_base.specs.declared.http.Ask.{Ask}
use Rattle.sso_base.specs.declared.message.Message.{Message}
use Rattle.sso_base.proofs.RowLaws.{bytes_true}
use Rattle.sso_base.proofs.Utf8Bytes.{IsUtf8-are_ascii}
use Rattle.sso_base.proofs.WordUtf8.{IsUtf8-word_text}
use Rattle.oidc_words.specs.Lives.{code_usable, pending_life}
use Rattle.oidc_words.specs.Paths.{token_path}
use Rattle.client_registry.specs.ClientSets.{no_clients}
use Rattle.client_registry.specs.Configuration.{Configuration}
use Rattle.id_token.specs.declared.claims.IdClaims.{IdClaims}
use Rattle.id_token.specs.HalfHash.{half_hash_of}
use Rattle.token_endpoint.specs.Request.{token_message}
use Rattle.token_endpoint.specs.declared.granting.Grant.{Grant}
use Rattle.code_grant.specs.declared.rows.CodeRow.{CodeRow}
use Rattle.op_issue.specs.IdTokens.{id_claims, issued_id}
use Rattle.op_exchange.specs.Values.{IsOpAsk}
use Rattle.op_exchange.specs.declared.ask.OpAsk.{OpAsk}
use Rattle.op_exchange.specs.declared.ask.OpAsk.TheVariants as op_ask
use Rattle.op_exchange.specs.declared.reply.OpReply.{OpReply}
use Rattle.op_exchange.specs.declared.reply.OpReply.TheVariants as op
use Rattle.op_exchange.proofs.Sample.{callback_uri}
use Rattle.op_request.specs.Prepared.{prepared as op_prepared}
use Rattle.op_answer.specs.Answering.{op_answer}
use Rattle.op_answer.specs.Past.{OpPast}
use Rattle.op_answer.specs.Codes.{code_of}
use Rattle.op_answer.proofs.FirstLogin.{signed_alice, entry_at as op_entry, pair_of as op_pair}
use Rattle.rp_login.specs.declared.rows.PendingRow.{PendingRow}
use Rattle.rp_exchange.specs.Values.{IsRpAsk}
use Rattle.rp_exchange.specs.declared.ask.RpAsk.{RpAsk}
use Rattle.rp_exchange.specs.declared.ask.RpAsk.TheVariants as rp_ask
use Rattle.rp_exchange.specs.declared.reply.RpReply.{RpReply}
use Rattle.rp_exchange.specs.declared.reply.RpReply.TheVariants as rp
use Rattle.rp_answer.specs.Answering.{rp_answer}
use Rattle.rp_answer.proofs.Sample.{word, entry_at, pair_of, op as provider, shop_uri}
use Rattle.sso_places.specs.declared.types.To.TheVariants as to
use Rattle.sso_places.specs.declared.types.WorldAsk.{WorldAsk}
use Rattle.sso_places.specs.declared.types.WorldAsk.TheVariants.{Tokens}
use Rattle.sso_places.specs.declared.types.WorldReply.TheVariants as reply
use Rattle.sso_places.specs.Cookies.{jar_set}
use Rattle.sso_places.specs.Premises.{forges}
use Rattle.sso_places.specs.Site.{own_site, setup_at}
use Rattle.sso_places.specs.World.{Place, Provider, Party, from_of, op_past, rp_past}
use Rattle.sso_places.specs.Written.{written}
use Rattle.sso_places.proofs.SmallSite.{drawn_word, legal_entry}
use Rattle.cookie_jars.specs.Jars.{jar_with}
use Rattle.web_requests.specs.Asked.{AnswersTokens}
use Rattle.web_requests.specs.Carrying.{message_ask, carried}
use Rattle.web_requests.specs.Handing.{handed_back}
use Rattle.web_requests.specs.Sending.{sent}
use Rattle.honest_places.specs.Login.{jar_shown, is_full}
use Rattle.honest_party.proofs.Followed.{exchange_arrives, tokens_arrive, issued_utf8}
use Rattle.honest_worlds.proofs.Alone.{provider_reads_it, KeepsAll, provider_next, party_next}
use Rattle.honest_worlds.proofs.AnyType.{Wants, with_code, every_type, registered, is_registry, visitor, code_is, ours, ours_value, may_issue, claims_are_values}
use Rattle.honest_worlds.proofs.UpToAnswer.{past_begin}
use Rattle.honest_worlds.proofs.Responding.{token_there, not_forged, callback_entry, four, responded, responding}
use Rattle.honest_worlds.proofs.NoLogout.{not_named}

-- the number of the place that holds a question
abbrev pub from_there : Option Place → ℕ
from_there None = 1
from_there (Some x) = from_of x

abbrev pub pending_in_time : Option PendingRow → Bool
pending_in_time None = true
pending_in_time (Some row) = lives pending_life row.since 1000

-- ---- the exchange

abbrev pub message : Message
message = token_message every_type provider.token (word_text (word 15)) shop_uri

abbrev pub exchange : RpReply
exchange = rp.Exchange (word 17) message

abbrev pub grant : Grant
grant = record { client = 0; code = word_text (word 15); redirect = callback_uri }

abbrev pub token_entry : Entry OpAsk
token_entry = op_entry 1000 21 (op_ask.Token (Ok grant))

abbrev Exchanges : Wants → Type 0
Exchanges wants = rp_answer (setup_at (own_site (registered wants)) 0) (past_begin wants) (callback_entry wants) ≡ exchange

exchanges : (id token info : Bool) → Exchanges (with_code id token info)
unfolding rp_answer id_claims
exchanges true true info =
    let nonce = word_text (word 3) in
    let code_half = half_hash_of (word_text (word 15)) in
    let access_half = half_hash_of (word_text (word 16)) in
    rw (bytes_true nonce nonce refl, bytes_true code_half code_half refl, bytes_true access_half access_half refl) refl
exchanges true false info =
    let nonce = word_text (word 3) in
    let code_half = half_hash_of (word_text (word 15)) in
    rw (bytes_true nonce nonce refl, bytes_true code_half code_half refl) refl
exchanges false true info = refl
exchanges false false info = refl

-- ---- what the provider gives for the code

module _ (wants : Wants) where
  abbrev pub text : Text
  text = issued_id (registered wants) (ours wants) signed_alice 1000 (Some (word 21)) None

  abbrev pub claims : IdClaims
  claims = id_claims (registered wants) (ours wants) signed_alice 1000 (Some (word 21)) None

  abbrev pub tokens : OpReply
  tokens = op.Tokens (word 21) text

  abbrev pub exchanged_there : Place
  exchanged_there = responded wants exchange

  abbrev pub redeems : Ask
  redeems = message_ask token_path [] message

  abbrev pub redeems_there : Place
  redeems_there = Provider 0 redeems (op_pair token_entry tokens)

  abbrev pub five : List Place
  five = exchanged_there ∷ four wants

  abbrev pub six : List Place
  six = redeems_there ∷ five

-- the table of access tokens may have one of the response
tokens_come : (id token info : Bool) → op_answer (registered (with_code id token info)) (op_past (four (with_code id token info))) token_entry ≡ tokens (with_code id token info)
unfolding op_answer no_clients
tokens_come id true info = rw code_is refl
tokens_come id false info = rw code_is refl

abbrev code_in_time : Option CodeRow → Bool
code_in_time None = true
code_in_time (Some row) = lives code_usable row.issued 1000

code_comes_in_time : (id token info : Bool) (row : CodeRow) → code_of (op_past (four (with_code id token info))) (word_of_text grant.code) ≡ Some row → lives code_usable row.issued 1000 ≡ true
unfolding no_clients
code_comes_in_time id token info row is =
    let past : OpPast = op_past (four (with_code id token info)) in
    let found : code_of past (Some (word 15)) ≡ Some row = ap (code_of past) (sym code_is) ∙ is in
    sym (ap code_in_time found)

module _ (id token info : Bool) where
  abbrev wants : Wants
  wants = with_code id token info

  abbrev c : Configuration
  c = registered wants

  exchanged : KeepsAll c visitor (exchanged_there wants) (four wants)
  exchanged = responding wants exchange (exchanges id token info) refl

  -- ---- the token request gets them

  pub carries : carried c (reply.Party exchange) 0 ≡ Some (sent 0 to.Provider (redeems wants))
  unfolding carried token_message
  carries = refl

  token_is_asked : op_prepared c (redeems wants) ≡ token_entry.ask
  token_is_asked =
      provider_reads_it c 0 (carried c (reply.Party exchange) 0) (redeems wants) token_entry.ask (exchange_arrives c 0 (is_registry wants) (omega arith) (word 17) (word 15)) carries

  redeemed : KeepsAll c visitor (redeems_there wants) (five wants)
  redeemed =
      provider_next c visitor (exchanged_there wants) (four wants) 0 (redeems wants) (op_pair token_entry (tokens wants)) exchanged
      (record {
        jar = record { first = Some (word 5); second = Some (word 9) };
        called = carries;
        cookies = refl;
        replies = record {
          asked = token_is_asked;
          entry = legal_entry IsOpAsk 21 token_entry.ask refl (record { client = omega arith; code = IsUtf8-word_text (word 15); redirect = IsUtf8-are_ascii callback_uri refl });
          after_own = omega arith;
          after_all = omega arith;
          answered = tokens_come id token info;
        };
        in_time = λ row is kept. code_comes_in_time id token info row is;
        room = refl;
        unforged = refl;
        unleaked = refl;
      })

  -- ---- they are given back

  abbrev pub given_entry : Entry RpAsk
  given_entry = entry_at 1000 25 (rp_ask.Tokens (word 17) (Ok (record { access = word_text (word 21); id = text wants })) (Some (Ok (claims wants))))

  pub handed : AnswersTokens c 1 0 (word 17) (handed_back c 1 (to.Party 0) (reply.Party exchange) to.Provider (reply.Provider (tokens wants))) given_entry.ask
  handed = tokens_arrive c 0 (is_registry wants) (omega arith) (ours wants) signed_alice 1000 1 (word 17) (word 21) message refl (may_issue wants) (ours_value wants)

  abbrev pub given_request : WorldAsk
  given_request = Tokens (word 17) handed.answer

  abbrev pub given : RpReply → Place
  given told = Party 0 1 given_request (pair_of given_entry told)

  unforged : (told : RpReply) → forges (own_site c) (six wants) (given told) ≡ false
  unforged told = not_forged _ _ (token_there true (text wants) (written (own_site c) (five wants)) refl)

  asks : IsRpAsk given_entry.ask
  asks = (
    drawn_word (word 17) refl refl,
    (IsUtf8-word_text (word 21), issued_utf8 c (ours wants) signed_alice 1000 (Some (word 21)) None),
    claims_are_values wants (Some (word 21)) None,
  )

  pub giving : (told : RpReply) → rp_answer (setup_at (own_site c) 0) (rp_past 0 (six wants)) given_entry ≡ told → is_full (reply.Party told) ≡ false → KeepsAll c visitor (given told) (six wants)
  giving told is room =
      party_next c visitor (redeems_there wants) (five wants) 0 1 given_request (pair_of given_entry told) redeemed
      (record {
        jar = jar_with (jar_set (exchanged_there wants)) (jar_shown (exchanged_there wants));
        called = handed.is;
        cookies = refl;
        replies = record {
          known = omega arith;
          asked = handed.read;
          entry = legal_entry IsRpAsk 25 given_entry.ask refl asks;
          after_own = omega arith;
          after_all = omega arith;
          answered = is;
        };
        in_time = λ row is kept. sym (ap pending_in_time is);
        alive = λ sid is. not_named (rp_past 0 (six wants)) sid (refl, (refl, tt));
        room = room;
        unforged = unforged told;
        unleaked = refl;
        joined = λ y is. sym (ap from_there is);
      })
