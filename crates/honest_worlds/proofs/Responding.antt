-- The fifth place of a login at a party of any response type: the answer comes to the party. All premises are kept, whatever the
-- party replies.
use Rattle.std.proofs.Common.{◌≡◌, ◌||◌, not, ◌&&◌, ◌++◌, ◌+◌, ℕ, Bool, true, false, List, ◌∷◌, codes, Option, Some, None, option_map, Ok, refl, sym, ap, ◌∙◌, arith}
use Rattle.std.specs.Prelude.{IfSome}
use Rattle.std.specs.List.{list_any}
use Rattle.std.specs.Str.{IsUtf8}
use Rattle.sso_base.specs.Rows.{lives}
use Rattle.sso_base.specs.Words.{Word, Text, word_text}
use Rattle.sso_base.specs.declared.history.Entry.{Entry}
use Rattle.sso_base.specs.declared.http.Ask.{Ask}
use Rattle.sso_base.proofs.RowLaws.{bytes_true}
use Rattle.sso_base.proofs.WordUtf8.{IsUtf8-word_text}
use Rattle.oidc_words.specs.Lives.{login_life, id_token_life, leeway}
use Rattle.oidc_words.specs.Types.{is_in_fragment}
use Rattle.client_registry.specs.Configuration.{Configuration}
use Rattle.id_token.specs.declared.claims.IdClaims.{IdClaims}
use Rattle.auth_answer.specs.declared.answer.Answer.{Answer}
use Rattle.auth_answer.specs.Printing.{answer_form}
use Rattle.op_issue.specs.IdTokens.{id_claims, issued_id}
use Rattle.op_issue.specs.Issued.{if_wished, issued_access, issued_code}
use Rattle.op_exchange.proofs.Sample.{callback_uri}
use Rattle.op_answer.proofs.FirstLogin.{signed_alice}
use Rattle.rp_login.specs.declared.rows.LoginRow.{LoginRow}
use Rattle.rp_exchange.specs.Values.{IsRpAsk, IsIdValue, IsIdRead}
use Rattle.rp_exchange.specs.declared.ask.RpAsk.{RpAsk}
use Rattle.rp_exchange.specs.declared.ask.RpAsk.TheVariants as rp_ask
use Rattle.rp_exchange.specs.declared.reply.RpReply.{RpReply}
use Rattle.rp_request.specs.Prepared.{prepared as rp_prepared}
use Rattle.rp_answer.specs.Answering.{rp_answer}
use Rattle.rp_answer.specs.Asked.{if_wanted, claims_read}
use Rattle.rp_answer.proofs.Sample.{word, words, entry_at, pair_of}
use Rattle.sso_places.specs.declared.types.Jar.{Jar}
use Rattle.sso_places.specs.declared.types.To.TheVariants as to
use Rattle.sso_places.specs.declared.types.WorldAsk.{WorldAsk}
use Rattle.sso_places.specs.declared.types.WorldAsk.TheVariants.{Http}
use Rattle.sso_places.specs.declared.types.WorldReply.TheVariants as reply
use Rattle.sso_places.specs.Cookies.{http_words, jar_words}
use Rattle.sso_places.specs.Premises.{is_written, is_forged, forges, set_elsewhere, leaks}
use Rattle.sso_places.specs.Site.{Site, own_site, setup_at}
use Rattle.sso_places.specs.Tokens.{TokenText, is_token, token_if}
use Rattle.sso_places.specs.World.{Place, Party, World}
use Rattle.sso_places.proofs.SmallSite.{drawn_word, legal_entry}
use Rattle.web_requests.specs.Following.{response_ask, followed, reply_followed}
use Rattle.web_requests.specs.Locations.{location_at, location_of}
use Rattle.web_requests.specs.Sending.{sent}
use Rattle.honest_places.specs.InTime.{IsResponseInTime}
use Rattle.honest_places.specs.Login.{is_full}
use Rattle.honest_party.proofs.Followed.{answer_arrives, issued_utf8}
use Rattle.honest_worlds.proofs.Alone.{party_reads_it, KeepsAll, party_next}
use Rattle.honest_worlds.proofs.AnyType.{Wants, types_of, is_registry, visitor, word_2, registered, ours, ours_value, may_issue, claims_are_values}
use Rattle.honest_worlds.proofs.UpToAnswer.{past_begin, answer, answered, consents_there, three, answered_alone}
use Rattle.honest_worlds.proofs.NoLogout.{not_named}

-- ---- what a response has where its type has it

word_if : (flag : Bool) (w : Word) → IfSome (option_map word_text (if_wished flag w)) IsUtf8
word_if true w = IsUtf8-word_text w
word_if false w = tt

text_if : (flag : Bool) (t : Text) → IsUtf8 t → IfSome (if_wished flag t) IsUtf8
text_if true t is = is
text_if false t is = tt

claims_if : (flag : Bool) (x : IdClaims) → IsIdValue x → IsIdRead (if_wished flag (Ok x))
claims_if true x is = is
claims_if false x is = tt

abbrev is_of : IdClaims → Option IdClaims → ℕ
is_of x None = x.iat
is_of x (Some y) = y.iat

-- the ID Token comes at once
at_once : (flag : Bool) (x : IdClaims) → x.iat ≡ 1000 → (y : IdClaims) → if_wanted flag (claims_read (if_wished flag (Ok x))) ≡ Some y → lives (id_token_life + leeway) y.iat 1000 ≡ true
at_once true x is y there = ap (λ n. lives (id_token_life + leeway) n 1000) (sym (ap (is_of x) there) ∙ is)
at_once false x is y there = absurd (cc)

-- ---- a text that was written is not forged

pub token_there : (flag : Bool) (text : Text) (rest : List TokenText) → flag ≡ true → list_any (is_token (0, text)) (token_if (Some 0) (if_wished flag text) ++ rest) ≡ true
token_there true text rest is = ap (λ b. b || list_any (is_token (0, text)) rest) (bytes_true text text refl)
token_there false text rest is = absurd (cc)

pub not_forged : (seals written : Bool) → written ≡ true → ((seals && not written) || false) ≡ false
not_forged true true is = refl
not_forged false true is = refl
not_forged seals false is = absurd (cc)

unforged_if : (s : Site) (world : World) (flag : Bool) (text : Text) → (flag ≡ true → is_written s world (0, text) ≡ true) → list_any (is_forged s world) (token_if (Some 0) (if_wished flag text)) ≡ false
unforged_if s world true text written = not_forged _ _ (written refl)
unforged_if s world false text written = refl

-- ---- the response

module _ (wants : Wants) where
  abbrev c : Configuration
  c = registered wants

  abbrev our_answer : Answer
  our_answer = answer wants

  abbrev pub jar : Jar
  jar = record { first = Some (word 1); second = None }

  abbrev pub response : Ask
  response = response_ask (codes "/cb") (is_in_fragment (types_of wants)) (answer_form our_answer) jar

  at_uri : (fragment : Bool) → followed c 1 (location_at c callback_uri fragment (answer_form our_answer)) jar ≡ Some (sent 1 (to.Party 0) (response_ask (codes "/cb") fragment (answer_form our_answer) jar))
  unfolding followed
  at_uri true = refl
  at_uri false = refl

  follows : reply_followed c 1 (reply.Provider (answered wants)) jar ≡ Some (sent 1 (to.Party 0) response)
  unfolding location_of
  follows = at_uri (is_in_fragment (types_of wants))

  abbrev access : Option Word
  access = issued_access (ours wants) (words 13)

  abbrev beside : Option Word
  beside = issued_code (ours wants) (words 13)

  abbrev pub claims : IdClaims
  claims = id_claims c (ours wants) signed_alice 1000 access beside

  abbrev text : Text
  text = issued_id c (ours wants) signed_alice 1000 access beside

  abbrev pub callback_entry : Entry RpAsk
  callback_entry =
      entry_at 1000 17 (rp_ask.Callback
      (Ok (record { state = Some (word 2); error = None; code = option_map word_text our_answer.code; access = option_map word_text our_answer.access; id = our_answer.id }))
      (if_wished wants.id (Ok claims))
      (Some (word 1)))

  is_asked : rp_prepared c 0 response ≡ callback_entry.ask
  is_asked =
      party_reads_it c 1 0 (reply_followed c 1 (reply.Provider (answered wants)) jar) response callback_entry.ask
      (answer_arrives c 0 (is_registry wants) (omega arith) (ours wants) signed_alice 1000 (words 13) (word 2) None 1 jar
      (record { client = refl; redirect = refl; types = refl; state = refl; word = word_2 }) (may_issue wants) (ours_value wants))
      follows

  asks : IsRpAsk callback_entry.ask
  asks = (
    record {
      state = word_2;
      code = word_if wants.code (word 15);
      access = word_if wants.token (word 16);
      id = text_if wants.id text (issued_utf8 c (ours wants) signed_alice 1000 access beside);
    },
    claims_if wants.id claims (claims_are_values wants access beside),
    drawn_word (word 1) refl refl,
  )

  -- ---- it is in time, and nothing in it is forged or stolen

  abbrev login_in_time : Option LoginRow → Bool
  login_in_time None = true
  login_in_time (Some row) = lives login_life row.begun 1000

  in_time : IsResponseInTime None (types_of wants) (past_begin wants) 1000 callback_entry.ask
  unfolding id_claims
  in_time = record {
    login = λ row is kept. sym (ap login_in_time is);
    token = λ y there kept. at_once wants.id claims refl y there;
  }

  abbrev pub four : List Place
  four = consents_there wants ∷ three wants

  unforged : (p : _) → forges (own_site c) four (Party 0 1 (Http response) (pair_of callback_entry p)) ≡ false
  unforged p = unforged_if (own_site c) four wants.id text (token_there wants.id text _)

  pub response_words : (fragment : Bool) → http_words (response_ask (codes "/cb") fragment (answer_form our_answer) jar) ≡ jar_words jar
  response_words true = refl
  response_words false = refl

  unleaked : (p : _) → leaks four (Party 0 1 (Http response) (pair_of callback_entry p)) ≡ false
  unleaked p = ap (list_any (set_elsewhere four 1)) (response_words (is_in_fragment (types_of wants)))

  -- ---- the place

  abbrev pub request : WorldAsk
  request = Http response

  abbrev pub responded : RpReply → Place
  responded reply = Party 0 1 request (pair_of callback_entry reply)

  pub responding : (told : RpReply) → rp_answer (setup_at (own_site c) 0) (past_begin wants) callback_entry ≡ told → is_full (reply.Party told) ≡ false
      → KeepsAll c visitor (responded told) four
  responding told is room =
      party_next c visitor (consents_there wants) (three wants) 0 1 request (pair_of callback_entry told) (answered_alone wants)
      (record {
        jar = jar;
        called = follows;
        cookies = refl;
        replies = record {
          known = omega arith;
          asked = is_asked;
          entry = legal_entry IsRpAsk 17 callback_entry.ask refl asks;
          after_own = omega arith;
          after_all = omega arith;
          answered = is;
        };
        in_time = in_time;
        alive = λ sid is. not_named (past_begin wants) sid (refl, tt);
        room = room;
        unforged = unforged told;
        unleaked = unleaked told;
        joined = tt;
      })
