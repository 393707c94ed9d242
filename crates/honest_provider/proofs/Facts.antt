-- The provider's rows for an honest login: its turn, its session, its code and its access token.
use Rattle.std.proofs.Common.{◌≡◌, ◌≤◌, ℕ, true, false, List, ◌∷◌, Option, Some, None, IfSome, sym, ◌∙◌, ap, subst, ◌⊎◌}
use Rattle.std.specs.List.{list_any}
use Rattle.sso_base.specs.Words.{Word, IsWord, fresh_word}
use Rattle.sso_base.specs.Rows.{row_of}
use Rattle.client_registry.specs.Configuration.{Configuration}
use Rattle.client_registry.specs.Numbers.{party_row}
use Rattle.code_grant.specs.declared.rows.TurnRow.{TurnRow}
use Rattle.code_grant.specs.declared.rows.SessionRow.{SessionRow}
use Rattle.code_grant.specs.declared.rows.CodeRow.{CodeRow}
use Rattle.code_grant.specs.declared.rows.TokenRow.{TokenRow}
use Rattle.code_grant.specs.Rows.{turn_name, session_name, code_name, access_name}
use Rattle.op_issue.specs.declared.issuing.Authentication.{Authentication}
use Rattle.op_answer.specs.Turns.{turns}
use Rattle.op_answer.specs.Sessions.{sessions}
use Rattle.op_answer.specs.Codes.{codes_issued}
use Rattle.op_answer.specs.AccessTokens.{accesses}
use Rattle.op_answer.specs.Authentications.{code_authentication}
use Rattle.rp_answer.specs.Past.{RpPair}
use Rattle.sso_places.specs.declared.types.Jar.{Jar}
use Rattle.sso_places.specs.declared.types.To.TheVariants as to
use Rattle.sso_places.specs.declared.types.WorldAsk.{WorldAsk}
use Rattle.sso_places.specs.World.{Place, Party, World, op_past}
use Rattle.honest_places.specs.Login.{Visitor, jar_after, Spares}
use Rattle.honest_places.specs.Outcome.{gives_password}
use Rattle.honest_places.specs.OwnWish.{own_wish}
use Rattle.honest_places.proofs.OwnWords.{IsOwn, own_later, own_grown}
use Rattle.honest_places.proofs.Worlds.{Now}
use Rattle.honest_provider.proofs.Waiting.{turn_waits, session_waits, code_waits, access_waits}

module _ (c : Configuration) (v : Visitor) where
  -- a turn with a page, and the browser's cookie
  pub record TurnWaits (login : List Place) (world : World) (w b state nonce : Word) : Type 0 where
    pub row : TurnRow
    pub stands : row_of turn_name w (turns (op_past world)) ≡ Some row
    pub wish_is : row.wish ≡ own_wish c v.party state nonce
    pub browser_is : row.browser ≡ b
    pub own : IsOwn login world w
    pub word : IsWord w
    pub state_word : IsWord state
    pub nonce_word : IsWord nonce
    pub jar : Jar
    pub kept : jar_after to.Provider login ≡ Some jar
    pub first : jar.first ≡ Some b

  -- with the session that is to be answered; it was begun in the turn, or the party wants no new login
  pub record ConsentWaits (login : List Place) (world : World) (w b state nonce : Word) (begun : ℕ) : Type 0 where
    pub turn : TurnWaits login world w b state nonce
    pub word : Word
    pub session_is : turn.row.session ≡ Some word
    pub session : SessionRow
    pub stands : row_of session_name word (sessions (op_past world)) ≡ Some session
    pub own : IsOwn login world word
    pub second : turn.jar.second ≡ Some word
    pub signed_in : ((turn.row.in_turn ≡ true) × (begun ≤ session.auth_time)) ⊎ ((turn.row.in_turn ≡ false) × (turn.row.wish.login ≡ false))
    pub owner : list_any gives_password login ≡ true → session.user ≡ v.user

  pub record CodeWaits (login : List Place) (world : World) (state nonce k : Word) (who : Authentication) : Type 0 where
    pub row : CodeRow
    pub stands : row_of code_name k (codes_issued (op_past world)) ≡ Some row
    pub wish_is : row.wish ≡ own_wish c v.party state nonce
    pub who_is : code_authentication row ≡ who
    pub unspent : row.spent ≡ false
    pub own : IsOwn login world k
    pub word : IsWord k

  pub record AccessWaits (login : List Place) (world : World) (a : Word) (user : ℕ) : Type 0 where
    pub row : TokenRow
    pub stands : row_of access_name a (accesses (op_past world)) ≡ Some row
    pub client_is : row.client ≡ (party_row c v.party).client
    pub user_is : row.user ≡ user
    pub own : IsOwn login world a
    pub own_code : IfSome row.code (IsOwn login world)
    pub word : IsWord a

  pub record AnswerWaits (login : List Place) (world : World) (state nonce : Word) (who : Authentication) (fresh : List Word) : Type 0 where
    pub code : (own_wish c v.party state nonce).types.code ≡ true → CodeWaits login world state nonce (fresh_word fresh 2) who
    pub access : (own_wish c v.party state nonce).types.token ≡ true → AccessWaits login world (fresh_word fresh 3) who.user

  -- ---- after a place that spares the login

  module _ (login : List Place) (world : World) (x : Place) (now : Now c x world) (spares : Spares login x) where
    pub turn_later : (w b state nonce : Word) → TurnWaits login world w b state nonce → TurnWaits login (x ∷ world) w b state nonce
    turn_later w b state nonce q =
        record {
          row = q.row;
          stands = turn_waits c login world x now spares w q.row q.own q.stands;
          wish_is = q.wish_is;
          browser_is = q.browser_is;
          own = own_later login world x w q.own;
          word = q.word;
          state_word = q.state_word;
          nonce_word = q.nonce_word;
          jar = q.jar;
          kept = q.kept;
          first = q.first;
        }

    pub consent_later : (w b state nonce : Word) (begun : ℕ) → ConsentWaits login world w b state nonce begun → ConsentWaits login (x ∷ world) w b state nonce begun
    unfolding turn_later
    consent_later w b state nonce begun q =
        let after = session_waits c login world x now spares q.word q.session q.own q.stands in
        let U : SessionRow → ℕ = λ r. r.user in
        let T : SessionRow → ℕ = λ r. r.auth_time in
        let same_user : after.0.user ≡ q.session.user = ap U after.2 in
        let same_time : after.0.auth_time ≡ q.session.auth_time = ap T after.2 in
        let row : TurnRow = q.turn.row in
        let A : ℕ → Type 0 = λ t. ((row.in_turn ≡ true) × (begun ≤ t)) ⊎ ((row.in_turn ≡ false) × (row.wish.login ≡ false)) in
        record {
          turn = turn_later w b state nonce q.turn;
          word = q.word;
          session_is = q.session_is;
          session = after.0;
          stands = after.1;
          own = own_later login world x q.word q.own;
          second = q.second;
          signed_in = subst A (sym same_time) q.signed_in;
          owner = λ given. same_user ∙ q.owner given;
        }

    code_later : (state nonce k : Word) (who : Authentication) → CodeWaits login world state nonce k who → CodeWaits login (x ∷ world) state nonce k who
    code_later state nonce k who q =
        record {
          row = q.row;
          stands = code_waits c login world x now spares k q.row q.own q.stands;
          wish_is = q.wish_is;
          who_is = q.who_is;
          unspent = q.unspent;
          own = own_later login world x k q.own;
          word = q.word;
        }

    own_code_later : (code : Option Word) → IfSome code (IsOwn login world) → IfSome code (IsOwn login (x ∷ world))
    own_code_later None own = tt
    own_code_later (Some k) own = own_later login world x k own

    pub access_later : (a : Word) (user : ℕ) → AccessWaits login world a user → AccessWaits login (x ∷ world) a user
    access_later a user q =
        record {
          row = q.row;
          stands = access_waits c login world x now spares a q.row q.own q.own_code q.stands;
          client_is = q.client_is;
          user_is = q.user_is;
          own = own_later login world x a q.own;
          own_code = own_code_later q.row.code q.own_code;
          word = q.word;
        }

    pub answer_later : (state nonce : Word) (who : Authentication) (fresh : List Word) → AnswerWaits login world state nonce who fresh → AnswerWaits login (x ∷ world) state nonce who fresh
    answer_later state nonce who fresh q =
        record {
          code = λ has. code_later state nonce (fresh_word fresh 2) who (q.code has);
          access = λ has. access_later (fresh_word fresh 3) who.user (q.access has);
        }

  -- ---- after a place of the login at the party

  module _ (login : List Place) (world : World) (n from : ℕ) (request : WorldAsk) (p : RpPair) where
    abbrev y : Place
    y = Party n from request p

    code_there : (state nonce k : Word) (who : Authentication) → CodeWaits login world state nonce k who → CodeWaits (y ∷ login) (y ∷ world) state nonce k who
    code_there state nonce k who q =
        record { row = q.row; stands = q.stands; wish_is = q.wish_is; who_is = q.who_is; unspent = q.unspent; own = own_grown login world y k q.own; word = q.word }

    own_code_there : (code : Option Word) → IfSome code (IsOwn login world) → IfSome code (IsOwn (y ∷ login) (y ∷ world))
    own_code_there None own = tt
    own_code_there (Some k) own = own_grown login world y k own

    pub access_there : (a : Word) (user : ℕ) → AccessWaits login world a user → AccessWaits (y ∷ login) (y ∷ world) a user
    access_there a user q =
        record {
          row = q.row;
          stands = q.stands;
          client_is = q.client_is;
          user_is = q.user_is;
          own = own_grown login world y a q.own;
          own_code = own_code_there q.row.code q.own_code;
          word = q.word;
        }

    pub answer_there : (state nonce : Word) (who : Authentication) (fresh : List Word) → AnswerWaits login world state nonce who fresh → AnswerWaits (y ∷ login) (y ∷ world) state nonce who fresh
    answer_there state nonce who fresh q =
        record {
          code = λ has. code_there state nonce (fresh_word fresh 2) who (q.code has);
          access = λ has. access_there (fresh_word fresh 3) who.user (q.access has);
        }
