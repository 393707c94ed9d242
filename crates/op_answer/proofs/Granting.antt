-- A scope value is granted if and only if a consent form said yes to it.
use Rattle.std.proofs.Common.{◌≡◌, ◌↔◌, ℕ, ◌==◌, Bool, true, false, ◌&&◌, ◌||◌, cond, [], ◌∷◌, ◌++◌, Option, Some, None, refl, sym, ◌∙◌, ap, ◌⊎◌, inl, inr}
use Rattle.std.proofs.lemmas.Bool.{and_parts, and_from, or_left, or_right, eqb-true, eq-eqb}
use Rattle.sso_base.specs.Words.{Word}
use Rattle.oidc_words.specs.declared.scopes.Scopes.{Scopes}
use Rattle.oidc_words.specs.Scopes.{no_scopes, joined}
use Rattle.user_interaction.specs.Need.{needed_scopes}
use Rattle.code_grant.specs.declared.rows.TurnRow.{TurnRow}
use Rattle.code_grant.specs.declared.rows.SessionRow.{SessionRow}
use Rattle.op_exchange.specs.declared.ask.OpAsk.{OpAsk}
use Rattle.op_exchange.specs.declared.ask.OpAsk.TheVariants as ask
use Rattle.op_exchange.specs.declared.reply.OpReply.{OpReply}
use Rattle.op_exchange.specs.declared.reply.OpReply.TheVariants as reply
use Rattle.op_exchange.specs.Replied.{ends_turn}
use Rattle.op_answer.specs.Past.{OpPair, OpPast}
use Rattle.op_answer.specs.Turns.{turn_of}
use Rattle.op_answer.specs.Sessions.{session_of}
use Rattle.op_answer.specs.Consents.{turn_agreed, is_grant_of, granted_by, grant_of}
use Rattle.op_answer.specs.Granted.{SaysYes, Granted}

either : (x y : Bool) → (x || y) ≡ true → (x ≡ true) ⊎ (y ≡ true)
either true y h = inl refl
either false y h = inr h

-- a scope value, told by whether scope values have it: none has it, and a union has what either has
module _ (user client : ℕ) (has : Scopes → Bool) (none : has no_scopes ≡ false) (union : (s t : Scopes) → has (joined s t) ≡ (has s || has t)) where
  -- ---- what was granted, somebody said yes to

  module _ (past : OpPast) (p : OpPair) (turn browser presented : Option Word) (asked : p.entry.ask ≡ ask.Consent turn true browser presented) (ended : ends_turn p.reply ≡ true) where
    yes_by_user : (row : TurnRow) → turn_of past turn ≡ Some row → (session : SessionRow) → session_of past row.session ≡ Some session → (same : Bool)
        → (session.user == user && row.wish.client == client) ≡ same → has (cond same (needed_scopes row.wish) no_scopes) ≡ true → SaysYes past p user client has
    yes_by_user row row_is session session_is true same h =
        let parts = and_parts (session.user == user) (row.wish.client == client) same in
        record {
          turn = turn;
          browser = browser;
          presented = presented;
          asked = asked;
          ended = ended;
          row = row;
          row_is = row_is;
          session = session;
          session_is = session_is;
          user_is = eqb-true session.user user parts.0;
          client_is = eqb-true row.wish.client client parts.1;
          about = h;
        }
    yes_by_user row row_is session session_is false same h = (let k : false ≡ true = sym none ∙ h in cc)

    yes_by_session : (row : TurnRow) → turn_of past turn ≡ Some row → (found : Option SessionRow) → session_of past row.session ≡ found
        → has (cond (is_grant_of user client row found) (needed_scopes row.wish) no_scopes) ≡ true → SaysYes past p user client has
    yes_by_session row row_is None found_is h = (let k : false ≡ true = sym none ∙ h in cc)
    yes_by_session row row_is (Some session) found_is h =
        yes_by_user row row_is session found_is (session.user == user && row.wish.client == client) refl h

    yes_by_turn : (found : Option TurnRow) → turn_of past turn ≡ found → has (granted_by past user client found) ≡ true → SaysYes past p user client has
    yes_by_turn None found_is h = (let k : false ≡ true = sym none ∙ h in cc)
    yes_by_turn (Some row) found_is h = yes_by_session row found_is (session_of past row.session) refl h

  said_yes : (past : OpPast) (p : OpPair) (asked : OpAsk) (told : OpReply) → p.entry.ask ≡ asked → p.reply ≡ told → has (granted_by past user client (turn_agreed past asked told)) ≡ true
      → SaysYes past p user client has
  said_yes past p (ask.Consent turn true browser presented) (reply.Answered answer given) asked told h =
      yes_by_turn past p turn browser presented asked (ap ends_turn told) (turn_of past turn) refl h
  said_yes past p (ask.Consent turn true browser presented) (reply.Refused refusal given) asked told h =
      yes_by_turn past p turn browser presented asked (ap ends_turn told) (turn_of past turn) refl h
  said_yes past p other replied asked told h = (let k : false ≡ true = sym none ∙ h in cc)

  pub granted_by_a_yes : (past : OpPast) → has (grant_of past user client) ≡ true → Granted past user client has
  granted_by_a_yes [] h = (let k : false ≡ true = sym none ∙ h in cc)
  granted_by_a_yes (p ∷ past) h =
      let now : Scopes = granted_by past user client (turn_agreed past p.entry.ask p.reply) in
      elim (either (has (grant_of past user client)) (has now) (sym (union (grant_of past user client) now) ∙ h)) [
        | inl before ↦
            (let found = granted_by_a_yes past before in
            let P : OpPast → OpPast = λ q. p ∷ q in
            record { later = p ∷ found.later; pair = found.pair; earlier = found.earlier; parts = ap P found.parts; yes = found.yes })
        | inr here ↦ record { later = []; pair = p; earlier = past; parts = refl; yes = said_yes past p p.entry.ask p.reply refl refl here }
      ]

  -- ---- what somebody said yes to is granted

  agreed_turn : (past : OpPast) (turn browser presented : Option Word) (told : OpReply) → ends_turn told ≡ true → turn_agreed past (ask.Consent turn true browser presented) told ≡ turn_of past turn
  agreed_turn past turn browser presented (reply.Answered answer given) ended = refl
  agreed_turn past turn browser presented (reply.Refused refusal given) ended = refl
  agreed_turn past turn browser presented other ended = cc

  yes_grants : (past : OpPast) (p : OpPair) → SaysYes past p user client has → has (granted_by past user client (turn_agreed past p.entry.ask p.reply)) ≡ true
  yes_grants past p said =
      let H : OpAsk → Bool = λ asked. has (granted_by past user client (turn_agreed past asked p.reply)) in
      let T : Option TurnRow → Bool = λ found. has (granted_by past user client found) in
      let S : Option SessionRow → Bool = λ found. has (cond (is_grant_of user client said.row found) (needed_scopes said.row.wish) no_scopes) in
      let B : Bool → Bool = λ same. has (cond same (needed_scopes said.row.wish) no_scopes) in
      ap H said.asked ∙ ap T (agreed_turn past said.turn said.browser said.presented p.reply said.ended ∙ said.row_is) ∙ ap S said.session_is
      ∙ ap B (and_from (said.session.user == user) (said.row.wish.client == client) (eq-eqb said.session.user user said.user_is) (eq-eqb said.row.wish.client client said.client_is))
      ∙ said.about

  still_granted : (later : OpPast) (p : OpPair) (earlier : OpPast) → SaysYes earlier p user client has → has (grant_of (later ++ p ∷ earlier) user client) ≡ true
  still_granted [] p earlier said =
      let now : Scopes = granted_by earlier user client (turn_agreed earlier p.entry.ask p.reply) in
      union (grant_of earlier user client) now ∙ or_right (has (grant_of earlier user client)) (has now) (yes_grants earlier p said)
  still_granted (q ∷ later) p earlier said =
      let past : OpPast = later ++ p ∷ earlier in
      let now : Scopes = granted_by past user client (turn_agreed past q.entry.ask q.reply) in
      union (grant_of past user client) now ∙ or_left (has (grant_of past user client)) (has now) (still_granted later p earlier said)

  pub a_yes_is_granted : (past : OpPast) → Granted past user client has → has (grant_of past user client) ≡ true
  a_yes_is_granted past granted =
      let G : OpPast → Bool = λ q. has (grant_of q user client) in
      ap G granted.parts ∙ still_granted granted.later granted.pair granted.earlier granted.yes

-- ---- the five scope values

openid_either : (s t : Scopes) → (joined s t).openid ≡ (s.openid || t.openid)
unfolding joined
openid_either s t = refl

profile_either : (s t : Scopes) → (joined s t).profile ≡ (s.profile || t.profile)
unfolding joined
profile_either s t = refl

email_either : (s t : Scopes) → (joined s t).email ≡ (s.email || t.email)
unfolding joined
email_either s t = refl

address_either : (s t : Scopes) → (joined s t).address ≡ (s.address || t.address)
unfolding joined
address_either s t = refl

phone_either : (s t : Scopes) → (joined s t).phone ≡ (s.phone || t.phone)
unfolding joined
phone_either s t = refl

pub openid_granted : (past : OpPast) (user client : ℕ) → ((grant_of past user client).openid ≡ true) ↔ Granted past user client (λ s. s.openid)
openid_granted past user client =
    (granted_by_a_yes user client (λ s. s.openid) refl openid_either past, a_yes_is_granted user client (λ s. s.openid) refl openid_either past)

pub profile_granted : (past : OpPast) (user client : ℕ) → ((grant_of past user client).profile ≡ true) ↔ Granted past user client (λ s. s.profile)
profile_granted past user client =
    (granted_by_a_yes user client (λ s. s.profile) refl profile_either past, a_yes_is_granted user client (λ s. s.profile) refl profile_either past)

pub email_granted : (past : OpPast) (user client : ℕ) → ((grant_of past user client).email ≡ true) ↔ Granted past user client (λ s. s.email)
email_granted past user client =
    (granted_by_a_yes user client (λ s. s.email) refl email_either past, a_yes_is_granted user client (λ s. s.email) refl email_either past)

pub address_granted : (past : OpPast) (user client : ℕ) → ((grant_of past user client).address ≡ true) ↔ Granted past user client (λ s. s.address)
address_granted past user client =
    (granted_by_a_yes user client (λ s. s.address) refl address_either past, a_yes_is_granted user client (λ s. s.address) refl address_either past)

pub phone_granted : (past : OpPast) (user client : ℕ) → ((grant_of past user client).phone ≡ true) ↔ Granted past user client (λ s. s.phone)
phone_granted past user client =
    (granted_by_a_yes user client (λ s. s.phone) refl phone_either past, a_yes_is_granted user client (λ s. s.phone) refl phone_either past)
