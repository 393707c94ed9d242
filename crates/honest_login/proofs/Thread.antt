-- What is known of an honest login after its last place, by the kind of the place: there are nine.
use Rattle.std.proofs.Common.{◌≡◌, ◌≤◌, ℕ, true, false, List, ◌∷◌, length, Some}
use Rattle.std.specs.List.{list_any}
use Rattle.sso_base.specs.Words.{Word, Text, IsWord, fresh_word, word_text}
use Rattle.sso_base.specs.Rows.{row_of}
use Rattle.sso_base.specs.declared.message.Message.{Message}
use Rattle.client_registry.specs.Configuration.{Configuration, subject_at}
use Rattle.client_registry.specs.Numbers.{party_row, party_client}
use Rattle.login_request.specs.Request.{login_location}
use Rattle.op_issue.specs.declared.issuing.Authentication.{Authentication}
use Rattle.rp_login.specs.declared.rows.LoginRow.{LoginRow}
use Rattle.rp_login.specs.declared.rows.Stage.{Stage}
use Rattle.rp_login.specs.declared.rows.Stage.TheVariants as stage
use Rattle.rp_login.specs.Rows.{login_name}
use Rattle.rp_exchange.specs.declared.reply.RpReply.{RpReply}
use Rattle.rp_exchange.specs.declared.reply.RpReply.TheVariants as rp
use Rattle.rp_answer.specs.Past.{RpPair}
use Rattle.rp_answer.specs.Setup.{PartySetup}
use Rattle.rp_answer.specs.Logins.{logins}
use Rattle.rp_answer.specs.Replies.{exchange}
use Rattle.sso_places.specs.declared.types.Jar.{Jar}
use Rattle.sso_places.specs.declared.types.To.TheVariants as to
use Rattle.sso_places.specs.declared.types.WorldAsk.{WorldAsk}
use Rattle.sso_places.specs.declared.types.WorldReply.TheVariants as reply
use Rattle.sso_places.specs.Site.{own_site, setup_at}
use Rattle.sso_places.specs.World.{Place, Party, World, rp_past, reply_at}
use Rattle.honest_places.specs.Login.{Visitor, jar_after}
use Rattle.sso_places.specs.Premises.{last_at}
use Rattle.honest_places.specs.Outcome.{gives_password}
use Rattle.honest_party.proofs.Places.{Fetches}
use Rattle.honest_party.proofs.Steps.{PendingStands}
use Rattle.honest_places.proofs.OwnWords.{IsOwn}
use Rattle.honest_places.proofs.Worlds.{IsVisitor}
use Rattle.honest_provider.proofs.Facts.{AccessWaits}
use Rattle.honest_provider.proofs.Outcomes.{Paged, Consenting, AnswerKnown, Answering, Giving, Telling}

-- ---- the party's half

-- the party has a row of the login, and the browser has its cookie
pub record LoginKnown (v : Visitor) (login : List Place) (world : World) (state nonce lb : Word) (from : ℕ) : Type 0 where
  pub row : LoginRow
  pub stands : row_of login_name state (logins (rp_past v.party world)) ≡ Some row
  pub state_is : row.state ≡ state
  pub nonce_is : row.nonce ≡ nonce
  pub browser_is : row.browser ≡ lb
  pub begun_is : row.begun ≡ from
  pub own : IsOwn login world state
  pub state_word : IsWord state
  pub nonce_word : IsWord nonce
  pub past : from ≤ last_at world
  pub jar : Jar
  pub jar_is : jar_after (to.Party v.party) login ≡ Some jar
  pub first : jar.first ≡ Some lb

-- a request of the party waits
pub record Waiting (c : Configuration) (v : Visitor) (login : List Place) (world : World) (w : Word) (waits : Stage) (nonce : Word) (from at : ℕ) (sub : Text) : Type 0 where
  pub stands : PendingStands (party_row c v.party).types (rp_past v.party world) w waits nonce from at sub
  pub own : IsOwn login world w
  pub past : at ≤ last_at world

-- the newest of these places is one at which the party replied so
pub record AskedBefore (v : Visitor) (earlier : List Place) (told : RpReply) : Type 0 where
  pub asking : Place
  pub rest : List Place
  pub earlier_is : earlier ≡ asking ∷ rest
  pub request : WorldAsk
  pub pair : RpPair
  pub place : asking ≡ Party v.party v.browser request pair
  pub replied : pair.reply ≡ told

-- ---- the nine kinds

module _ (c : Configuration) (v : Visitor) (world : World) (last : Place) (earlier : List Place) where
  abbrev L : List Place
  L = last ∷ earlier

  abbrev S : PartySetup
  S = setup_at (own_site c) v.party

  -- 1: the party sent its authorization request
  pub record IsAsking : Type 0 where
    pub state : Word
    pub nonce : Word
    pub lb : Word
    pub from : ℕ
    pub login : LoginKnown v L world state nonce lb from
    pub replied : reply_at last ≡ reply.Party (rp.Ask (login_location (party_client c v.party) (party_row c v.party) c.provider state nonce) lb)
    pub short : length L ≤ 1
    pub quiet : list_any gives_password L ≡ false

  -- 2: a login page
  pub record IsPaged : Type 0 where
    pub state : Word
    pub nonce : Word
    pub lb : Word
    pub from : ℕ
    pub login : LoginKnown v L world state nonce lb from
    pub page : Paged c v L world last state nonce
    pub short : length L ≤ 2

  -- 3: a consent page
  pub record IsConsenting : Type 0 where
    pub state : Word
    pub nonce : Word
    pub lb : Word
    pub from : ℕ
    pub login : LoginKnown v L world state nonce lb from
    pub page : Consenting c v L world last state nonce from
    pub short : length L ≤ 3

  -- 4: an answer
  pub record IsAnswered : Type 0 where
    pub state : Word
    pub nonce : Word
    pub lb : Word
    pub from : ℕ
    pub login : LoginKnown v L world state nonce lb from
    pub answer : Answering c v L world last state nonce from
    pub short : length L ≤ 4

  -- 5: the party exchanges the code
  pub record IsExchanging : Type 0 where
    pub state : Word
    pub nonce : Word
    pub from : ℕ
    pub state_word : IsWord state
    pub nonce_word : IsWord nonce
    pub who : Authentication
    pub at : ℕ
    pub fresh : List Word
    pub request : WorldAsk
    pub pair : RpPair
    pub place : last ≡ Party v.party v.browser request pair
    pub replied : pair.reply ≡ exchange S pair.entry (word_text (fresh_word fresh 2))
    pub code : (party_row c v.party).types.code ≡ true
    pub known : AnswerKnown c v L world state nonce from who at fresh
    pub waits : Waiting c v L world (fresh_word pair.entry.fresh 0) stage.Tokens nonce from pair.entry.at (subject_at c (party_row c v.party).client who.user)
    pub short : length L ≤ 5

  -- 6: tokens
  pub record IsGiven : Type 0 where
    pub state : Word
    pub nonce : Word
    pub from : ℕ
    pub since : ℕ
    pub state_word : IsWord state
    pub nonce_word : IsWord nonce
    pub user : ℕ
    pub visitor : IsVisitor v L user
    pub giving : Giving c v L world last state nonce from user since
    pub w : Word
    pub message : Message
    pub before : AskedBefore v earlier (rp.Exchange w message)
    pub waits : Waiting c v L world w stage.Tokens nonce from since (subject_at c (party_row c v.party).client user)
    pub short : length L ≤ 6

  -- 7: the party requests UserInfo
  pub record IsFetching : Type 0 where
    pub nonce : Word
    pub from : ℕ
    pub since : ℕ
    pub user : ℕ
    pub visitor : IsVisitor v L user
    pub w : Word
    pub access : Word
    pub known : AccessWaits c v L world access user
    pub request : WorldAsk
    pub pair : RpPair
    pub place : last ≡ Party v.party v.browser request pair
    pub replied : Fetches S w access pair.reply
    pub waits : Waiting c v L world w stage.Info nonce from since (subject_at c (party_row c v.party).client user)
    pub short : length L ≤ 7

  -- 8: the user's claims
  pub record IsTold : Type 0 where
    pub nonce : Word
    pub from : ℕ
    pub since : ℕ
    pub user : ℕ
    pub visitor : IsVisitor v L user
    pub telling : Telling c v L world last user
    pub w : Word
    pub message : Message
    pub before : AskedBefore v earlier (rp.Fetch w message)
    pub waits : Waiting c v L world w stage.Info nonce from since (subject_at c (party_row c v.party).client user)
    pub short : length L ≤ 8

  -- 9: the browser is let in
  pub record IsIn : Type 0 where
    pub user : ℕ
    pub visitor : IsVisitor v L user
    pub request : WorldAsk
    pub pair : RpPair
    pub word : Word
    pub place : last ≡ Party v.party v.browser request pair
    pub replied : pair.reply ≡ rp.Entered word (subject_at c (party_row c v.party).client user)
    pub short : length L ≤ 9

  pub data Knows : Type 0 where
    is_asking : IsAsking → Knows
    is_paged : IsPaged → Knows
    is_consenting : IsConsenting → Knows
    is_answered : IsAnswered → Knows
    is_exchanging : IsExchanging → Knows
    is_given : IsGiven → Knows
    is_fetching : IsFetching → Knows
    is_told : IsTold → Knows
    is_in : IsIn → Knows
