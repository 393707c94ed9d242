-- The provider's rows after one more pair: the wishes of turns are known, and a session or a code that is kept stays as it was.
use Rattle.std.proofs.Common.{◌≡◌, ℕ, ◌<◌, ◌≤◌, not, ◌&&◌, Bool, true, false, cond, List, ◌∷◌, length, Option, Some, None, IfSome, ◌⊎◌, inl, inr, refl, sym, ap, ◌∙◌, subst}
use Rattle.std.proofs.lemmas.Option.{same_Some}
use Rattle.std.proofs.lemmas.Bool.{ltb-true, le-leb}
use Rattle.std.specs.List.{AllByRecursion}
use Rattle.sso_base.specs.Words.{Word, Text, is_word}
use Rattle.sso_base.proofs.RowLaws.{bool_cases}
use Rattle.sso_base.specs.declared.http.Ask.{Ask}
use Rattle.client_registry.specs.Configuration.{Configuration}
use Rattle.client_registry.specs.Registered.{IsRegistry}
use Rattle.auth_request.specs.declared.wish.Wish.{Wish}
use Rattle.auth_request.specs.declared.wish.Verdict.TheVariants.{Grant}
use Rattle.auth_request.specs.Granted.{IsWish}
use Rattle.auth_request.proofs.Wishes.{wish_keeps}
use Rattle.code_grant.specs.declared.rows.TurnRow.{TurnRow}
use Rattle.code_grant.specs.declared.rows.SessionRow.{SessionRow}
use Rattle.code_grant.specs.declared.rows.CodeRow.{CodeRow}
use Rattle.code_grant.specs.Rows.{turn_name}
use Rattle.op_exchange.specs.declared.ask.OpAsk.{OpAsk}
use Rattle.op_exchange.specs.declared.ask.OpAsk.TheVariants.{Authorize, Login}
use Rattle.op_exchange.specs.declared.reply.OpReply.{OpReply}
use Rattle.op_exchange.specs.declared.reply.OpReply.TheVariants.{LoginPage, ConsentPage, Answered, Refused}
use Rattle.auth_request.specs.Values.{is_short_nonce}
use Rattle.op_exchange.specs.Asks.{is_prepared}
use Rattle.client_registry.specs.Numbers.{is_user}
use Rattle.op_exchange.specs.Values.{IsOpAsk}
use Rattle.op_exchange.specs.Replied.{ends_turn, session_given}
use Rattle.op_request.specs.Prepared.{prepared}
use Rattle.op_request.specs.Requests.{IsGranted}
use Rattle.op_request.proofs.GrantedWishes.{wish_granted}
use Rattle.op_request.proofs.PreparedAsks.{always_prepared}
use Rattle.op_answer.specs.Past.{OpPair, OpPast}
use Rattle.op_answer.specs.Turns.{turns, turn_made, turn_started, turn_kept, turn_taken, turn_named}
use Rattle.op_answer.specs.Sessions.{session_set, session_kept, session_used, and_client, client_answered, ends_session}
use Rattle.op_answer.specs.Codes.{code_kept, code_named, is_tokens}
use Rattle.sso_places.specs.Site.{Site, IsSite}
use Rattle.sso_places.specs.World.{World, Provider, op_past}
use Rattle.sso_places.specs.Legal.{IsLegalWorld}
use Rattle.sign_on.proofs.Lists.{all_rows}
use Rattle.sign_on.proofs.Registry.{uri_finds}
use Rattle.sign_on.proofs.Invariant.{IsKnownWish}
use Rattle.request_params.specs.Form.{form_of}

-- ---- wishes

short_nonce : (o : Option Text) → IfSome o (λ t. length t ≤ 255) → is_short_nonce o ≡ true
short_nonce None short = refl
short_nonce (Some t) short = (let low : length t ≤ 255 = short in le-leb (length t) 255 low)

-- the wish of a prepared authorization request is of a client of the registry
pub wish_is_known : (c : Configuration) (request : Ask) (wish : Wish) (browser session : Option Word) → IsRegistry c → IsOpAsk (Authorize (Grant wish) browser session)
    → prepared c request ≡ Authorize (Grant wish) browser session → IsKnownWish c wish
wish_is_known c request wish browser session registry value asked =
    let granted : IsGranted c (form_of request.method request) wish = wish_granted c request wish browser session asked in
    let keeps : IsWish c wish = wish_keeps c granted.whole false wish granted.granted in
    record {
      client = keeps.below;
      nonce = short_nonce wish.nonce keeps.short_nonce;
      value = value.0;
      uri = uri_finds c wish.client keeps.client wish.redirect registry keeps.there keeps.registered;
    }

-- a user who signs in is one of the registry
pub user_is_known : (c : Configuration) (request : Ask) (turn browser presented : Option Word) (user : ℕ) → IsRegistry c → prepared c request ≡ Login turn (Some user) browser presented → user < length c.users
user_is_known c request turn browser presented user registry asked =
    let P : OpAsk → Bool = λ x. is_prepared c x in
    let known : is_user c user ≡ true = sym (ap P asked) ∙ always_prepared c request registry in
    ltb-true user (length c.users) known

-- ---- turns

record Started (asked : OpAsk) (row : TurnRow) : Type 0 where
  browser : Option Word
  session : Option Word
  is : asked ≡ Authorize (Grant row.wish) browser session

started : (at : ℕ) (asked : OpAsk) (reply : OpReply) (row : TurnRow) → turn_started at asked reply ≡ Some row → Started asked row
started at (Authorize (Grant wish) b session) (LoginPage w browser again) row h =
    let W : Wish → OpAsk = λ v. Authorize (Grant v) b session in
    let same : wish ≡ row.wish = cc in
    record { browser = b; session = session; is = ap W same }
started at (Authorize (Grant wish) b session) (ConsentPage w browser given client scopes) row h =
    let W : Wish → OpAsk = λ v. Authorize (Grant v) b session in
    let same : wish ≡ row.wish = cc in
    record { browser = b; session = session; is = ap W same }
started at asked reply row h = absurd (cc)

taken_wish : (asked : OpAsk) (reply : OpReply) (row : TurnRow) → (turn_taken asked reply row).wish ≡ row.wish
taken_wish (Login turn signed b presented) (ConsentPage w browser (Some session) client scopes) row = refl
taken_wish asked reply row = refl

kept_wish_by : (other ends : Bool) (row taken after : TurnRow) → taken.wish ≡ row.wish → cond other (Some row) (cond ends None (Some taken)) ≡ Some after → row.wish ≡ after.wish
kept_wish_by true ends row taken after e h = ap (λ (r : TurnRow). r.wish) (same_Some row after h)
kept_wish_by false true row taken after e h = cc
kept_wish_by false false row taken after e h = sym e ∙ ap (λ (r : TurnRow). r.wish) (same_Some taken after h)

kept_wish : (past : OpPast) (p : OpPair) (row after : TurnRow) → turn_kept past p row ≡ Some after → row.wish ≡ after.wish
kept_wish past p row after h =
    kept_wish_by (not (is_word (turn_named p.entry.ask) row.word)) (ends_turn p.reply) row (turn_taken p.entry.ask p.reply row) after (taken_wish p.entry.ask p.reply row) h

abbrev IsKnownTurn : Configuration → TurnRow → Type 0
IsKnownTurn c row = IsKnownWish c row.wish

-- the wishes of all turns are known
pub turns_known : (s : Site) (from : ℕ) (request : Ask) (p : OpPair) (world : World) → IsSite s → IsLegalWorld s (Provider from request p ∷ world)
    → AllByRecursion (λ (row : TurnRow). IsKnownWish s.configuration row.wish) (turns (op_past world)) → AllByRecursion (λ (row : TurnRow). IsKnownWish s.configuration row.wish) (turns (p ∷ op_past world))
turns_known s from request p world site legal old =
    let c : Configuration = s.configuration in
    let past : OpPast = op_past world in
    let asked : p.entry.ask ≡ prepared c request = legal.asked.0 in
    all_rows (IsKnownTurn c) (IsKnownTurn c) turn_name (turn_made (turns past) past p) (turn_kept past p) (turns past)
    (λ row after left known. subst (IsKnownWish c) (kept_wish past p row after left) known)
    (λ row made.
    let begun : Started p.entry.ask row = started p.entry.at p.entry.ask p.reply row made in
    wish_is_known c request row.wish begun.browser begun.session site.registry (subst IsOpAsk begun.is legal.provider.1.ask) (sym asked ∙ begun.is))
    old

-- ---- sessions

-- A session that a pair keeps has other clients at most: those that it had, and the one that an answer which used it has.
pub record KeptSession (past : OpPast) (p : OpPair) (row after : SessionRow) : Type 0 where
  pub unended : ends_session p.entry.ask p.reply row.word ≡ false
  pub clients : List Bool
  pub is : (record row { clients = clients }) ≡ after
  pub clients_are : (clients ≡ row.clients) ⊎ ((is_word (session_used past p.entry.ask p.reply) row.word ≡ true) × (clients ≡ and_client (client_answered past p) row.clients))

pub kept_session : (past : OpPast) (p : OpPair) (row after : SessionRow) → session_kept past p row ≡ Some after → KeptSession past p row after
kept_session past p row after h =
    let ends : Bool = ends_session p.entry.ask p.reply row.word in
    let uses : Bool = is_word (session_used past p.entry.ask p.reply) row.word in
    let clients : List Bool = and_client (client_answered past p) row.clients in
    let E : Bool → Option SessionRow = λ b. cond b None (cond uses (Some (record row { clients = clients })) (Some row)) in
    let U : Bool → Option SessionRow = λ b. cond b (Some (record row { clients = clients })) (Some row) in
    elim (bool_cases ends) [
      | inl gone ↦ (let never : None ≡ Some after = sym (ap E gone) ∙ h in absurd (cc))
      | inr stays ↦
          (let rest : U uses ≡ Some after = sym (ap E stays) ∙ h in
          elim (bool_cases uses) [
            | inl used ↦ record { unended = stays; clients = clients; is = same_Some (record row { clients = clients }) after (sym (ap U used) ∙ rest); clients_are = inr (used, refl) }
            | inr unused ↦ record { unended = stays; clients = row.clients; is = same_Some row after (sym (ap U unused) ∙ rest); clients_are = inl refl }
          ])
    ]

-- a reply that gives no session word sets none
pub set_none : (asked : OpAsk) (reply : OpReply) → session_given reply ≡ None → session_set asked reply ≡ None
set_none (Login turn signed b presented) (ConsentPage w browser session client scopes) h = h
set_none (Login turn signed b presented) (Answered answer session) h = h
set_none (Login turn signed b presented) (Refused refusal session) h = h
set_none asked reply h = refl

-- one that a login form gives, it sets
pub set_some : (turn : Option Word) (signed : Option ℕ) (b presented : Option Word) (reply : OpReply) (w : Word) → session_given reply ≡ Some w → session_set (Login turn signed b presented) reply ≡ Some w
set_some turn signed b presented (ConsentPage v browser session client scopes) w h = h
set_some turn signed b presented (Answered answer session) w h = h
set_some turn signed b presented (Refused refusal session) w h = h
set_some turn signed b presented reply w h = absurd (cc)

-- ---- codes

-- a code that a pair keeps is spent or not
pub record KeptCode (row after : CodeRow) : Type 0 where
  pub spent : Bool
  pub is : (record row { spent = spent }) ≡ after

kept_code_by : (spends : Bool) (row after : CodeRow) → cond spends (Some (record row { spent = true })) (Some row) ≡ Some after → KeptCode row after
kept_code_by true row after h = record { spent = true; is = same_Some (record row { spent = true }) after h }
kept_code_by false row after h = record { spent = row.spent; is = same_Some row after h }

pub kept_code : (past : OpPast) (p : OpPair) (row after : CodeRow) → code_kept past p row ≡ Some after → KeptCode row after
kept_code past p row after h = kept_code_by (is_word (code_named p.entry.ask) row.word && is_tokens p.reply) row after h
