-- The messages of parties. What the premise on access tokens finds of them, and that a party's token request shows the secret of the
-- client that the party is.
use Rattle.std.proofs.Common.{◌≡◌, ◌<◌, ◌==◌, ◌&&◌, ℕ, Bool, true, false, cond, length, List, ◌∷◌, Option, Some, None, Ok, refl, sym, ◌∙◌, ap, subst, eqb-true}
use Rattle.std.proofs.lemmas.Bool.{and_parts}
use Rattle.std.specs.List.{list_any}
use Rattle.std.specs.Prelude.{IfSome}
use Rattle.std.specs.Str.{IsUtf8, bytes_eq}
use Rattle.sso_base.specs.Words.{Word, Text}
use Rattle.sso_base.specs.declared.http.Ask.{Ask}
use Rattle.sso_base.specs.declared.history.Entry.{Entry}
use Rattle.sso_base.specs.declared.message.Message.{Message}
use Rattle.sso_base.proofs.RowLaws.{bytes_same}
use Rattle.claim_set.proofs.PlainTexts.{IsUtf8-plain}
use Rattle.sso_model.specs.Lists.{Has}
use Rattle.client_registry.specs.Configuration.{Configuration}
use Rattle.client_registry.specs.Numbers.{party_row, party_client}
use Rattle.token_endpoint.specs.declared.granting.Grant.{Grant}
use Rattle.token_endpoint.specs.Request.{grant_read, token_message}
use Rattle.token_endpoint.specs.Granted.{IsGrant}
use Rattle.token_endpoint.proofs.Requests.{granted}
use Rattle.token_endpoint.proofs.RoundTrip.{printed_granted}
use Rattle.login_request.proofs.PartyRows.{rows_keep_rules, url_text}
use Rattle.op_exchange.specs.declared.ask.OpAsk.{OpAsk}
use Rattle.op_exchange.specs.declared.ask.OpAsk.TheVariants as op_ask
use Rattle.op_request.specs.Prepared.{prepared}
use Rattle.op_request.proofs.LedTo.{led_to}
use Rattle.op_answer.specs.Past.{OpPair}
use Rattle.rp_exchange.specs.declared.ask.RpAsk.{RpAsk}
use Rattle.rp_exchange.specs.declared.ask.RpAsk.TheVariants as rp_ask
use Rattle.rp_exchange.specs.declared.reply.RpReply.{RpReply}
use Rattle.rp_exchange.specs.declared.reply.RpReply.TheVariants as rp
use Rattle.rp_exchange.specs.Values.{IsRpAsk}
use Rattle.rp_answer.specs.Past.{RpPair, RpPast}
use Rattle.rp_answer.specs.Causes.{ExchangeCause}
use Rattle.rp_answer.specs.Legal.{IsLegalRp}
use Rattle.rp_answer.proofs.Answers.{exchanges_have_a_cause}
use Rattle.sso_places.specs.declared.types.WorldAsk.{WorldAsk}
use Rattle.sso_places.specs.Site.{Site, IsSite, setup_at, client_of_party}
use Rattle.sso_places.specs.World.{Place, Provider, Party, Nothing, World, rp_past}
use Rattle.sso_places.specs.Legal.{IsLegalWorld}
use Rattle.sso_places.specs.Unshared.{rp_shown, is_among, is_same, brings, fetches, exchanges, takes, asks_tokens, is_token_response, is_returned}
use Rattle.sso_places.proofs.Lists.{any_has}
use Rattle.sso_places.proofs.Places.{party_legal}
use Rattle.sign_on.proofs.Bound.{IsCut, cut}
use Rattle.sign_on.proofs.Keys.{its_client}
use Rattle.authorization.specs.Reached.{IsTaken}
use Rattle.authorization.proofs.Places.{legal_at}

-- the grant of a token request is what reading the request gives
pub grant_is_read : (c : Configuration) (request : Ask) (asked : OpAsk) (grant : Grant) → asked ≡ prepared c request → asked ≡ op_ask.Token (Ok grant) → grant_read c request.auth request.body ≡ Ok grant
grant_is_read c request asked grant so is = sym (led_to c request (op_ask.Token (Ok grant)) (sym so ∙ is))

pub grant_is_granted : (c : Configuration) (request : Ask) (asked : OpAsk) (grant : Grant) → asked ≡ prepared c request → asked ≡ op_ask.Token (Ok grant) → IsGrant c request.auth request.body grant
grant_is_granted c request asked grant so is = granted c request.auth request.body grant (grant_is_read c request asked grant so is)

-- ---- what the premise on access tokens finds

same_option : (t u : Option Text) → is_same t u ≡ true → t ≡ u
same_option None None h = refl
same_option (Some t) (Some u) h = ap (λ (x : Text). Some x) (bytes_same t u h)
same_option None (Some u) h = absurd (cc)
same_option (Some t) None h = absurd (cc)

among_has : (ws : List Word) (w : Word) → is_among ws w ≡ true → Has ws w
among_has ws w h =
    let V : Word → Bool = λ v. bytes_eq v w in
    let found = any_has V ws h in
    let H : Word → Type 0 = λ v. Has ws v in
    subst H (bytes_same found.0 w found.2) found.1

-- a UserInfo request is the message of a party
pub fetch_of : (request : Ask) (reply : RpReply) → fetches request reply ≡ true → (w : Word) × (message : Message) × (reply ≡ rp.Fetch w message)
fetch_of request (rp.Fetch w message) h = (w, message, refl)
fetch_of request reply h = absurd (cc)

taken_at : (world : World) (request : Ask) (access : Word) (y : Place) → Has world y → takes request access y ≡ true → IsTaken world request access
taken_at world request access (Party n from brought p) has h =
    let parts = and_parts (is_among (rp_shown p.entry.ask) access) (fetches request p.reply) h in
    record { number = n; from = from; brought = brought; pair = p; has = has; shows = among_has (rp_shown p.entry.ask) access parts.0; sends = parts.1 }
taken_at world request access (Provider from asked p) has h = absurd (cc)
taken_at world request access Nothing has h = absurd (cc)

pub some_taken : (world : World) (request : Ask) (access : Word) → list_any (takes request access) world ≡ true → IsTaken world request access
some_taken world request access h =
    let T : Place → Bool = λ y. takes request access y in
    let found = any_has T world h in
    taken_at world request access found.0 found.1 found.2

-- a token request is the message of the party with this number
pub record HasSent (world : World) (n : ℕ) (request : Ask) : Type 0 where
  pub from : ℕ
  pub brought : WorldAsk
  pub pair : RpPair
  pub has : Has world (Party n from brought pair)
  pub pending : Word
  pub message : Message
  pub sent : pair.reply ≡ rp.Exchange pending message
  pub auth : request.auth ≡ message.auth
  pub body : request.body ≡ message.body

sent_by : (world : World) (n from : ℕ) (brought : WorldAsk) (pair : RpPair) (request : Ask) (pending : Word) (reply : RpReply) → Has world (Party n from brought pair) → pair.reply ≡ reply
    → exchanges request pending reply ≡ true → HasSent world n request
sent_by world n from brought pair request pending (rp.Exchange w message) has is h =
    let own = (and_parts (bytes_eq w pending) (brings request message) h).1 in
    let parts = and_parts (is_same request.auth message.auth) (is_same request.body message.body) own in
    record {
      from = from;
      brought = brought;
      pair = pair;
      has = has;
      pending = w;
      message = message;
      sent = is;
      auth = same_option request.auth message.auth parts.0;
      body = same_option request.body message.body parts.1;
    }
sent_by world n from brought pair request pending reply has is h = absurd (cc)

sent_at : (world : World) (n : ℕ) (pending : Word) (request : Ask) (y : Place) → Has world y → asks_tokens n pending request y ≡ true → HasSent world n request
sent_at world n pending request (Party k from brought p) has h =
    let parts = and_parts (k == n) (exchanges request pending p.reply) h in
    let H : ℕ → Type 0 = λ j. Has world (Party j from brought p) in
    sent_by world n from brought p request pending p.reply (subst H (eqb-true k n parts.0) has) refl parts.1
sent_at world n pending request (Provider from asked p) has h = absurd (cc)
sent_at world n pending request Nothing has h = absurd (cc)

pub returned_by : (world : World) (n : ℕ) (pending : Word) (to : ℕ) (request : Ask) (p : OpPair) → is_returned world n pending (Provider to request p) ≡ true → (is_token_response p.reply ≡ true) × HasSent world n request
returned_by world n pending to request p h =
    let T : Place → Bool = λ y. asks_tokens n pending request y in
    let parts = and_parts ((to == 0) && is_token_response p.reply) (list_any T world) h in
    let found = any_has T world parts.1 in
    ((and_parts (to == 0) (is_token_response p.reply) parts.0).1, sent_at world n pending request found.0 found.1 found.2)

-- ---- what a party sends to the token endpoint

record IsExchange (s : Site) (n : ℕ) (message : Message) : Type 0 where
  endpoint : Text
  code : Text
  text : IsUtf8 code
  message_is : token_message (party_client s.configuration n) endpoint code (party_row s.configuration n).redirect ≡ message

front_text : (wanted : Bool) (o : Option Text) (code : Text) → IfSome o IsUtf8 → cond wanted o None ≡ Some code → IsUtf8 code
front_text true o code text is = (let U : Option Text → Type 0 = λ v. IfSome v IsUtf8 in subst U is text)
front_text false o code text is = absurd (cc)

exchanged : (s : Site) (n : ℕ) (past : RpPast) (e : Entry RpAsk) (asked : RpAsk) (w : Word) (message : Message) → IsRpAsk asked → ExchangeCause (setup_at s n) past e asked w message → IsExchange s n message
exchanged s n past e (rp_ask.Callback (Ok heard) id browser) w message value cause =
    record {
      endpoint = (s.trusts n).token;
      code = cause.code;
      text = front_text (party_row s.configuration n).types.code heard.code cause.code value.0.code cause.code_is;
      message_is = cause.message_is;
    }
exchanged s n past e asked w message value cause = absurd cause

message_grant : (s : Site) (n : ℕ) (message : Message) → IsSite s → n < length s.configuration.parties → (x : IsExchange s n message)
    → grant_read s.configuration message.auth message.body ≡ Ok (record { client = client_of_party s n; code = x.code; redirect = (party_row s.configuration n).redirect })
message_grant s n message site low x =
    let c : Configuration = s.configuration in
    let rules = rows_keep_rules c n site.registry low in
    let plain = url_text (party_row c n).redirect (party_row c n).redirect_url rules.party_rules.redirect in
    let G : Message → Type 0 = λ m. grant_read c m.auth m.body ≡ Ok (record { client = client_of_party s n; code = x.code; redirect = (party_row c n).redirect }) in
    subst G x.message_is
    (printed_granted c (party_row c n).client (party_client c n) x.endpoint x.code (party_row c n).redirect site.registry (its_client c n site.registry low) x.text (IsUtf8-plain (party_row c n).redirect plain.plain))

-- the number that sends a party's token request has the grant of the party's client
pub sender_is_client : (s : Site) (world : World) (n : ℕ) (request : Ask) → HasSent world n request → IsSite s → IsLegalWorld s world
    → (asked : OpAsk) (grant : Grant) → asked ≡ prepared s.configuration request → asked ≡ op_ask.Token (Ok grant) → grant.client ≡ client_of_party s n
sender_is_client s world n request sent site legal asked grant so is =
    let c : Configuration = s.configuration in
    let q : Place = Party n sent.from sent.brought sent.pair in
    let at : IsCut world q = cut world q sent.has in
    let older : IsLegalWorld s (q ∷ at.before) = legal_at s world at.after (q ∷ at.before) at.parts legal in
    let own : IsLegalRp (setup_at s n) (sent.pair ∷ rp_past n at.before) = party_legal s n sent.from sent.brought sent.pair at.before older in
    let cause : ExchangeCause (setup_at s n) (rp_past n at.before) sent.pair.entry sent.pair.entry.ask sent.pending sent.message =
    exchanges_have_a_cause (setup_at s n) (rp_past n at.before) sent.pair.entry sent.pending sent.message (sym own.3 ∙ sent.sent) in
    let x : IsExchange s n sent.message = exchanged s n (rp_past n at.before) sent.pair.entry sent.pair.entry.ask sent.pending sent.message own.1.ask cause in
    let own_grant : Grant = record { client = client_of_party s n; code = x.code; redirect = (party_row c n).redirect } in
    let B : Option (List ℕ) → Type 0 = λ b. grant_read c sent.message.auth b ≡ Ok grant in
    let D : Option Text → Type 0 = λ a. grant_read c a request.body ≡ Ok grant in
    let read : grant_read c sent.message.auth sent.message.body ≡ Ok grant = subst B sent.body (subst D sent.auth (grant_is_read c request asked grant so is)) in
    let told : grant_read c sent.message.auth sent.message.body ≡ Ok own_grant = message_grant s n sent.message site older.asked.0.0 x in
    let same : grant ≡ own_grant = cc in
    ap (λ (g : Grant). g.client) same
