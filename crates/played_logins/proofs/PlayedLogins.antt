-- Whole logins of the six response types are plays of traces.
use Rattle.std.proofs.Common.{◌≡◌, ◌+◌, ℕ, Bool, true, false, List, ◌∷◌, codes, Ok, nat_le, refl, ap, ◌∙◌}
use Rattle.hex.specs.Hex.{decode_pairs}
use Rattle.sso_base.specs.Journal.{most_weight}
use Rattle.sso_base.specs.Words.{Text}
use Rattle.sso_base.specs.declared.history.Entry.{Entry}
use Rattle.sso_base.proofs.OnLiterals.{base64url_on_literals}
use Rattle.jws_compact.proofs.OnLiterals.{jws_on_literals}
use Rattle.claim_set.proofs.OnLiterals.{claims_on_literals}
use Rattle.oidc_words.specs.Types.{types_text}
use Rattle.client_registry.specs.Configuration.{Configuration}
use Rattle.id_token.specs.Claims.{id_members}
use Rattle.id_token.specs.Sealing.{id_text}
use Rattle.userinfo.specs.Held.{held_members, text_claims, user_claims}
use Rattle.userinfo.specs.declared.header.Bearer.TheVariants.{Given}
use Rattle.op_issue.specs.IdTokens.{id_claims, issued_id}
use Rattle.op_exchange.specs.Weight.{ask_weight as op_weight}
use Rattle.op_exchange.specs.declared.ask.OpAsk.TheVariants as op_ask
use Rattle.rp_exchange.specs.Weight.{ask_weight as rp_weight}
use Rattle.rp_exchange.specs.declared.ask.RpAsk.{RpAsk}
use Rattle.rp_exchange.specs.declared.reply.RpReply.{RpReply}
use Rattle.rp_answer.proofs.Sample.{word, words}
use Rattle.sso_places.specs.declared.types.To.TheVariants as to
use Rattle.sso_places.specs.declared.types.WorldAsk.{WorldAsk}
use Rattle.sso_places.specs.declared.types.WorldAsk.TheVariants.{Info}
use Rattle.sso_places.specs.FirstBroken.{IsUnbroken}
use Rattle.sso_places.specs.Legal.{IsLegalWorld}
use Rattle.sso_places.specs.Site.{Site, own_site}
use Rattle.sso_places.specs.World.{Place, World}
use Rattle.sso_places.proofs.FirstBroken.{none_if_unbroken}
use Rattle.sso_places.proofs.Places.{legal_before}
use Rattle.running_world.specs.Stepping.{role_weight}
use Rattle.trace_lines.specs.declared.line.Line.{Line}
use Rattle.trace_lines.specs.declared.line.Line.TheVariants.{Carry, Back}
use Rattle.trace_lines.specs.Trace.{Told, trace_told}
use Rattle.trace_lines.specs.Verbs.{verb_text, verb_of}
use Rattle.oidc_replay.specs.Play.{Played, play_of}
use Rattle.oidc_replay.specs.End.{end_by, play_end, end_of}
use Rattle.honest_worlds.specs.Whole.{IsWholeLogin}
use Rattle.honest_worlds.proofs.AnyType.{Wants, with_code, types_of, registered}
use Rattle.honest_worlds.proofs.Responding.{callback_entry, four}
use Rattle.honest_worlds.proofs.Exchanging.{exchange, token_entry, tokens, redeems, redeems_there, five, six, carries as carries_code, given_entry, given_request, given, handed as tokens_handed}
use Rattle.honest_worlds.proofs.Informing.{fetch, entered, told_entry, told, asks_there, informs, informs_there, enters_there, carries as carries_question, handed as claims_handed}
use Rattle.honest_worlds.proofs.WholeLogins.{fronted, by_id, by_id_token, by_code, by_code_with_info}
use Rattle.played_logins.specs.Played.{IsPlayedLogin}
use Rattle.played_logins.specs.Traces as trace
use Rattle.played_logins.proofs.Going.{zeros, Makes, asks_provider, asks_party}
use Rattle.played_logins.proofs.Response.{response_lines, up_to_response}

-- ---- traces

abbrev told_lines : List Line → Told
told_lines lines = record { seed = zeros; lines = lines }

abbrev exchange_lines : List Line
exchange_lines = Back 5 6 ∷ Carry 5 0 ∷ response_lines

abbrev info_lines : List Line
info_lines = Back 7 8 ∷ Carry 7 0 ∷ exchange_lines

module _ (wants : Wants) where
  response_read : trace_told (registered wants) trace.by_response ≡ Ok (told_lines response_lines)
  unfolding trace_told decode_pairs verb_text verb_of
  response_read = refl

  exchange_read : trace_told (registered wants) trace.by_code ≡ Ok (told_lines exchange_lines)
  unfolding trace_told decode_pairs verb_text verb_of
  exchange_read = refl

  info_read : trace_told (registered wants) trace.by_code_with_info ≡ Ok (told_lines info_lines)
  unfolding trace_told decode_pairs verb_text verb_of
  info_read = refl

-- ---- a whole login that its lines make is played

module _ (bytes response_type : Text) (info : Bool) (places : ℕ) (login : IsWholeLogin response_type info places) (lines : List Line) where
  abbrev registry : Configuration
  registry = login.configuration

  abbrev whole : World
  whole = login.last ∷ login.earlier

  played : trace_told registry bytes ≡ Ok (told_lines lines) → Makes registry lines whole → IsPlayedLogin bytes response_type info places
  unfolding play_of end_of Makes
  played read is =
      let unbroken : IsUnbroken (own_site registry) whole = record { unforged = login.unforged; unleaked = login.unleaked; hashes = login.hashes } in
      record {
        login = login;
        told = told_lines lines;
        read = read;
        world = ap (λ (p : Played). p.world) is;
        end = ap (play_end registry) is ∙ ap end_by (none_if_unbroken (own_site registry) whole unbroken);
      }

-- ---- no code

front_light : (token info : Bool) → nat_le (role_weight (to.Party 0) (four (fronted token info)) + rp_weight (callback_entry (fronted token info)).ask) most_weight ≡ true
unfolding issued_id id_text id_claims id_members held_members user_claims text_claims jws_on_literals claims_on_literals
front_light true info = refl
front_light false info = refl

pub id_played : IsPlayedLogin trace.by_response (codes "id_token") true 5
id_played =
    played trace.by_response (codes "id_token") true 5 by_id response_lines (response_read (fronted false true))
    (up_to_response (fronted false true) (entered (word 18)) by_id.legal (front_light false true))

pub id_token_played : IsPlayedLogin trace.by_response (codes "id_token token") false 5
id_token_played =
    played trace.by_response (codes "id_token token") false 5 by_id_token response_lines (response_read (fronted true false))
    (up_to_response (fronted true false) (entered (word 18)) by_id_token.legal (front_light true false))

-- ---- a code

abbrev carry_lines : List Line
carry_lines = Carry 5 0 ∷ response_lines

code_light : (id token info : Bool) → nat_le (role_weight (to.Party 0) (four (with_code id token info)) + rp_weight (callback_entry (with_code id token info)).ask) most_weight ≡ true
unfolding issued_id id_text id_claims id_members held_members user_claims text_claims jws_on_literals claims_on_literals
code_light true true info = refl
code_light true false info = refl
code_light false true info = refl
code_light false false info = refl

redeem_light : (id token info : Bool) → nat_le (role_weight to.Provider (five (with_code id token info)) + op_weight token_entry.ask) most_weight ≡ true
unfolding base64url_on_literals
redeem_light id token info = refl

given_light : (id token info : Bool) → nat_le (role_weight (to.Party 0) (six (with_code id token info)) + rp_weight (given_entry id token info).ask) most_weight ≡ true
unfolding issued_id id_text id_claims id_members held_members user_claims text_claims jws_on_literals claims_on_literals
given_light true true info = refl
given_light true false info = refl
given_light false true info = refl
given_light false false info = refl

module _ (id token info : Bool) where
  abbrev wants : Wants
  wants = with_code id token info

  abbrev s : Site
  s = own_site (registered wants)

  -- whatever the party replies to the tokens
  up_to_tokens : (reply : RpReply) → IsLegalWorld s (given id token info reply ∷ six wants) → Makes (registered wants) exchange_lines (given id token info reply ∷ six wants)
  up_to_tokens reply legal =
      let sixth : IsLegalWorld s (six wants) = legal_before s (given id token info reply) (six wants) legal in
      let fifth : IsLegalWorld s (five wants) = legal_before s (redeems_there wants) (five wants) sixth in
      let came : Makes (registered wants) response_lines (five wants) = up_to_response wants exchange fifth (code_light id token info) in
      let redeemed : Makes (registered wants) carry_lines (six wants) =
      asks_provider (registered wants) response_lines (five wants) came (Carry 5 0) (λ play. refl) 0 (redeems wants) (words 21) token_entry.ask (tokens wants) sixth refl refl (carries_code id token info) (redeem_light id token info) in
      asks_party (registered wants) carry_lines (six wants) redeemed (Back 5 6) (λ play. refl) 0 1 (given_request id token info) (words 25) (given_entry id token info).ask reply legal refl refl (tokens_handed id token info).is
      (given_light id token info)

pub code_played : IsPlayedLogin trace.by_code (codes "code") false 7
code_played =
    played trace.by_code (codes "code") false 7 by_code exchange_lines (exchange_read (with_code false false false)) (up_to_tokens false false false (entered (word 26)) by_code.legal)

-- ---- and UserInfo

module _ (id token : Bool) where
  abbrev asker : Wants
  asker = with_code id token true

  abbrev before : World
  before = six asker

  abbrev asks : Place
  asks = asks_there asker (word 21) (given_request id token true) (given_entry id token true) before

  abbrev informing : Place
  informing = informs_there asker (word 21) (given_request id token true) (given_entry id token true) before

  abbrev enters : Place
  enters = enters_there asker (word 21) (given_request id token true) (given_entry id token true) before

  abbrev asked : World
  asked = asks ∷ before

  abbrev informed : World
  informed = informing ∷ asked

asks_light : (id token : Bool) → nat_le (role_weight to.Provider (asked id token) + op_weight (op_ask.Info (Given (word 21)))) most_weight ≡ true
unfolding base64url_on_literals
asks_light id token = refl

told_light : (id token : Bool) → nat_le (role_weight (to.Party 0) (informed id token) + rp_weight told_entry.ask) most_weight ≡ true
unfolding issued_id id_text id_claims id_members held_members user_claims text_claims jws_on_literals claims_on_literals
told_light true true = refl
told_light true false = refl
told_light false true = refl
told_light false false = refl

module _ (id token : Bool) where
  abbrev r : Configuration
  r = registered (asker id token)

  abbrev request : WorldAsk
  request = given_request id token true

  abbrev e : Entry RpAsk
  e = given_entry id token true

  up_to_claims : IsLegalWorld (own_site r) (enters id token ∷ informed id token) → Makes r info_lines (enters id token ∷ informed id token)
  up_to_claims legal =
      let eighth : IsLegalWorld (own_site r) (informed id token) = legal_before (own_site r) (enters id token) (informed id token) legal in
      let seventh : IsLegalWorld (own_site r) (asked id token) = legal_before (own_site r) (informing id token) (asked id token) eighth in
      let came : Makes r exchange_lines (asked id token) = up_to_tokens id token true (fetch (word 21)) seventh in
      let answered : Makes r (Carry 7 0 ∷ exchange_lines) (informed id token) =
      asks_provider r exchange_lines (asked id token) came (Carry 7 0) (λ play. refl) 0 (informs (asker id token) (word 21) request e (before id token)) (words 29) (op_ask.Info (Given (word 21)))
      (told (asker id token) (word 21) request e (before id token)) eighth refl refl (carries_question (asker id token) (word 21) request e (before id token)) (asks_light id token) in
      asks_party r (Carry 7 0 ∷ exchange_lines) (informed id token) answered (Back 7 8) (λ play. refl) 0 1 (Info (word 17) (claims_handed (asker id token) (word 21) request e (before id token)).answer) (words 33)
      told_entry.ask (entered (word 34)) legal refl refl (claims_handed (asker id token) (word 21) request e (before id token)).is (told_light id token)

  pub info_played : (text : Text) → types_text (types_of (asker id token)) ≡ text → IsPlayedLogin trace.by_code_with_info text true 9
  info_played text type_is =
      played trace.by_code_with_info text true 9 (by_code_with_info id token text type_is) info_lines (info_read (asker id token)) (up_to_claims (by_code_with_info id token text type_is).legal)
