-- The rows and the steps of the sign-on machine. Clients, users and browsers are numbers. A nonce and a session identifier are
-- the bytes of the request or the token. An event is the number of the place at which it happened.
use Rattle.std.specs.Prelude.{ℕ, Bool, List, Option}

-- a browser began a login at a client
pub record Began : Type 0 where
  pub client : ℕ
  pub browser : ℕ
  pub nonce : Option (List ℕ)

-- a user signed in at the provider by password, in a browser
pub record Signed : Type 0 where
  pub sid : List ℕ
  pub user : ℕ
  pub browser : ℕ

-- the provider answered a client's nonce for a user, to a browser
pub record Answered : Type 0 where
  pub event : ℕ
  pub browser : ℕ
  pub nonce : Option (List ℕ)
  pub client : ℕ
  pub user : ℕ
  pub sid : List ℕ

-- the provider sent a client a logout message; its place and client identify it
pub record Sent : Type 0 where
  pub place : ℕ
  pub client : ℕ
  pub user : ℕ
  pub sid : List ℕ
  -- it ends only the sessions with this session identifier
  pub only : Bool

-- a client accepted a login that it had begun
pub record Entered : Type 0 where
  pub client : ℕ
  pub nonce : Option (List ℕ)

-- a session identifier that a client remembers: it accepted a logout message for the sessions with this identifier
pub record Dead : Type 0 where
  pub client : ℕ
  pub sid : List ℕ

-- a session that a client holds for a browser
pub record Live : Type 0 where
  pub event : ℕ
  pub client : ℕ
  pub browser : ℕ
  pub nonce : Option (List ℕ)
  pub user : ℕ
  pub sid : List ℕ

-- the live sessions are in the order in which they were entered; all other lists have the newest first
pub record Machine : Type 0 where
  pub began : List Began
  pub signed : List Signed
  pub answered : List Answered
  pub redeemed : List ℕ
  pub out : List Sent
  pub closed : List (List ℕ)
  pub entered : List Entered
  pub live : List Live
  pub ended : List Sent
  pub dead : List Dead

pub data Step : Type 0 where
  -- a browser begins a login at a client
  begin : (row : Began) → Step
  -- a user signs in by password
  sign : (row : Signed) → Step
  -- the provider answers a nonce
  answer : (row : Answered) → Step
  -- the code of an answer is redeemed by a client
  redeem : (event client : ℕ) → Step
  -- a logout message goes out
  out : (row : Sent) → Step
  -- a session of the provider ends
  close : (sid : List ℕ) → Step
  -- a client accepts a login
  enter : (row : Live) → Step
  -- a client shows its user to a browser
  see : (event client browser user : ℕ) → Step
  -- a browser leaves a client
  drop : (event client browser : ℕ) → Step
  -- a client accepts a logout message and ends this number of sessions
  end : (row : Sent) (count : ℕ) → Step
  -- a client no longer remembers an ended session identifier
  forget : (row : Dead) → Step
  -- the lifetime of a session is over
  lapse : (event : ℕ) → Step
  -- a step about something that does not exist
  unnamed : Step
