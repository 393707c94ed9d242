-- What the laws say of pairs of a history, and of the rows after a past.
use Rattle.std.specs.Prelude.{◌≡◌, ◌<◌, ◌⊎◌, ℕ, true, false, List, [], ◌∷◌, ◌++◌, Option, Some, Ok}
use Rattle.sso_base.specs.Words.{Word, fresh_word}
use Rattle.sso_base.specs.Rows.{row_of}
use Rattle.sso_base.specs.Drawn.{IsDrawn}
use Rattle.sso_base.specs.declared.history.Pair.{Pair}
use Rattle.oidc_words.specs.declared.scopes.Scopes.{Scopes}
use Rattle.userinfo.specs.declared.header.Bearer.TheVariants.{Given}
use Rattle.token_endpoint.specs.declared.granting.Grant.{Grant}
use Rattle.code_grant.specs.declared.rows.CodeRow.{CodeRow}
use Rattle.op_exchange.specs.declared.ask.OpAsk.{OpAsk}
use Rattle.op_exchange.specs.declared.ask.OpAsk.TheVariants.{Token, Info}
use Rattle.op_exchange.specs.declared.reply.OpReply.{OpReply}
use Rattle.op_answer.specs.Past.{OpPair}
use Rattle.refresh_answer.specs.declared.asks.RefreshGrant.{RefreshGrant}
use Rattle.refresh_answer.specs.declared.asks.RefreshAsk.TheVariants as ask
use Rattle.refresh_answer.specs.declared.asks.OwnReply.TheVariants as own
use Rattle.refresh_answer.specs.declared.asks.RefreshReply.TheVariants.{Own}
use Rattle.refresh_answer.specs.declared.rows.FamilyRow.{FamilyRow}
use Rattle.refresh_answer.specs.declared.rows.AccessRow.{AccessRow}
use Rattle.refresh_answer.specs.declared.rows.RefreshRow.{RefreshRow}
use Rattle.refresh_answer.specs.Rows.{token_name, access_name, new_token}
use Rattle.refresh_answer.specs.Around.{Outer, outer_plain}
use Rattle.refresh_answer.specs.Families.{presented, row_presented, family_at, code_presented, tokens, accesses, families, living}

-- no pair of a past, newest pair first, drew a word that an earlier pair drew
abbrev pub HasNewWords : {A R : Type 0} → List (Outer A R) → Type 0
HasNewWords [] = Unit {0}
HasNewWords (p ∷ past) = HasNewWords past × ((k : ℕ) → k < 4 → IsDrawn past (fresh_word p.entry.fresh k) → ⊥)

-- ---- pairs

-- the pair presents this refresh token, and the client gets new tokens
pub record IsRefreshed {A R : Type 0} (p : Outer A R) (w : Word) : Type 0 where
  pub presented_is : presented p.entry.ask ≡ Some w
  pub access : Word
  pub refresh : Word
  pub scopes : Scopes
  pub replied : p.reply ≡ Own (own.Refreshed access refresh scopes)

-- the pair presents this access token, and the core itself replies with claims
pub record IsInfo {A R : Type 0} (plain : A → Option OpAsk) (p : Outer A R) (w : Word) : Type 0 where
  pub asked : outer_plain plain p.entry.ask ≡ Some (Info (Given w))
  pub claims : List ℕ
  pub replied : p.reply ≡ Own (own.Info claims)

-- ---- rows

-- this is the current token of the family, and no other one is
pub record IsCurrentIn (rows : List RefreshRow) (n : ℕ) (w : Word) : Type 0 where
  pub row : row_of token_name w rows ≡ Some (new_token n w)
  pub alone : (v : Word) → row_of token_name v rows ≡ Some (new_token n v) → v ≡ w

-- a refresh token of the family, and an access token of it
pub record IsTokenOf (rows : List RefreshRow) (n : ℕ) (w : Word) : Type 0 where
  pub row : RefreshRow
  pub stands : row_of token_name w rows ≡ Some row
  pub family : row.family ≡ n

pub record IsAccessOf (rows : List AccessRow) (n : ℕ) (w : Word) : Type 0 where
  pub row : AccessRow
  pub stands : row_of access_name w rows ≡ Some row
  pub family : row.family ≡ n

module _ {A R : Type 0} (plain : A → Option OpAsk) (given : R → Option OpReply) (provided : List (Pair A R) → List OpPair) where
  -- at some moment of the past the word was a refresh token of the family, or an access token of it
  pub record WasTokenOf (past : List (Outer A R)) (n : ℕ) (w : Word) : Type 0 where
    pub later : List (Outer A R)
    pub earlier : List (Outer A R)
    pub parts : past ≡ later ++ earlier
    pub token : IsTokenOf (tokens plain given provided earlier) n w

  pub record WasAccessOf (past : List (Outer A R)) (n : ℕ) (w : Word) : Type 0 where
    pub later : List (Outer A R)
    pub earlier : List (Outer A R)
    pub parts : past ≡ later ++ earlier
    pub token : IsAccessOf (accesses plain given provided earlier) n w

  -- the family has begun, and may have ended since
  pub record HasBegun (past : List (Outer A R)) (f : FamilyRow) : Type 0 where
    pub later : List (Outer A R)
    pub earlier : List (Outer A R)
    pub parts : past ≡ later ++ earlier
    pub stands : family_at f.by (families plain given provided earlier) ≡ Some f

  -- the client of the family presents an old token of it
  pub record IsReuse (past : List (Outer A R)) (p : Outer A R) (f : FamilyRow) : Type 0 where
    pub begun : HasBegun past f
    pub grant : RefreshGrant
    pub asked : p.entry.ask ≡ ask.Refresh (Ok grant)
    pub client : grant.client ≡ f.client
    pub row : RefreshRow
    pub presented_is : row_presented (tokens plain given provided past) p.entry.ask ≡ Some row
    pub old : row.current ≡ false
    pub family : row.family ≡ f.by

  -- the client of the family requests tokens for its code, for which there were tokens before (RFC 6749, 4.1.2)
  pub record IsRepeatedCode (past : List (Outer A R)) (p : Outer A R) (f : FamilyRow) : Type 0 where
    pub begun : HasBegun past f
    pub grant : Grant
    pub asked : outer_plain plain p.entry.ask ≡ Some (Token (Ok grant))
    pub client : grant.client ≡ f.client
    pub code : CodeRow
    pub held : code_presented plain given provided past p.entry.at p.entry.ask ≡ Some code
    pub spent : code.spent ≡ true
    pub code_is : code.word ≡ f.code

  abbrev pub EndsFamily : List (Outer A R) → Outer A R → FamilyRow → Type 0
  EndsFamily past p f = IsReuse past p f ⊎ IsRepeatedCode past p f

  -- the client of a living family presents the current token of it, and gets tokens with the scope values of the family
  pub record IsByItsClient (past : List (Outer A R)) (p : Outer A R) (scopes : Scopes) : Type 0 where
    pub grant : RefreshGrant
    pub asked : p.entry.ask ≡ ask.Refresh (Ok grant)
    pub row : RefreshRow
    pub presented_is : row_presented (tokens plain given provided past) p.entry.ask ≡ Some row
    pub current : row.current ≡ true
    pub family : FamilyRow
    pub lives : living plain given provided past p.entry.at row.family ≡ Some family
    pub client : grant.client ≡ family.client
    pub scopes_are : scopes ≡ family.scopes

  -- the pair leaves all families and tokens as they are
  pub record IsAsBefore (past : List (Outer A R)) (p : Outer A R) : Type 0 where
    pub families_stay : families plain given provided (p ∷ past) ≡ families plain given provided past
    pub tokens_stay : tokens plain given provided (p ∷ past) ≡ tokens plain given provided past
    pub accesses_stay : accesses plain given provided (p ∷ past) ≡ accesses plain given provided past
