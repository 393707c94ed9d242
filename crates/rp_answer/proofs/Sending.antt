-- How a pending exchange is made: by the token request for the code of a response, or by a UserInfo request, at once or after
-- the token response.
use Rattle.std.proofs.Common.{◌≡◌, ℕ, Bool, true, false, cond, List, Option, Some, None, Result, option_map, option_and_then, refl, sym, ◌∙◌, ap, ◌⊎◌, inl, inr}
use Rattle.sso_base.specs.Words.{Word}
use Rattle.sso_base.specs.Rows.{row_of}
use Rattle.sso_base.specs.declared.message.Message.{Message}
use Rattle.sso_base.proofs.RowLaws.{row_has_name}
use Rattle.held_rows.proofs.Found.{row_that_lives}
use Rattle.id_token.specs.declared.claims.IdClaims.{IdClaims}
use Rattle.id_token.specs.declared.no.IdNo.{IdNo}
use Rattle.token_endpoint.specs.declared.reading.Tokens.{Tokens}
use Rattle.token_endpoint.specs.declared.no.TokensNo.{TokensNo}
use Rattle.oidc_words.specs.declared.response_types.Types.{Types}
use Rattle.oidc_words.specs.Lives.{login_life, pending_life}
use Rattle.rp_login.specs.declared.rows.LoginRow.{LoginRow}
use Rattle.rp_login.specs.declared.rows.PendingRow.{PendingRow}
use Rattle.rp_login.specs.declared.rows.Stage.{Stage}
use Rattle.rp_login.specs.declared.rows.Stage.TheVariants as stage
use Rattle.rp_login.specs.Rows.{login_begun, pending_name, pending_begun}
use Rattle.rp_exchange.specs.declared.ask.RpAsk.{RpAsk}
use Rattle.rp_exchange.specs.declared.ask.RpAsk.TheVariants as ask
use Rattle.rp_exchange.specs.declared.reply.RpReply.{RpReply}
use Rattle.rp_exchange.specs.declared.reply.RpReply.TheVariants as reply
use Rattle.rp_answer.specs.Past.{RpPast}
use Rattle.rp_answer.specs.Asked.{state_named}
use Rattle.rp_answer.specs.Logins.{login_of, live_login}
use Rattle.rp_answer.specs.Pendings.{is_stage, if_stage, pending_started, pending_followed, started_by, fetched_by, pending_by, pending_of, any_live_pending, live_pending}
use Rattle.rp_answer.proofs.KeptNames.{some_same}

-- ---- what lives was found

pub login_found : (past : RpPast) (at : ℕ) (state : Option Word) (login : LoginRow) → live_login past at state ≡ Some login → login_of past state ≡ Some login
login_found past at state login h = row_that_lives login_life login_begun at (login_of past state) login h

-- the row that is found has the name
pub named_row : (w : Word) (rows : List PendingRow) (row : PendingRow) → row_of pending_name w rows ≡ Some row → row.word ≡ w
named_row w rows row h = row_has_name pending_name w rows row h

-- and is of the stage that was asked for
pub record Staged (wanted : Stage) (found : Option PendingRow) (row : PendingRow) : Type 0 where
  pub there : found ≡ Some row
  pub waits : is_stage wanted row.stage ≡ true

staged_one : (wanted : Stage) (r row : PendingRow) (same : Bool) → is_stage wanted r.stage ≡ same → cond same (Some r) None ≡ Some row → Staged wanted (Some r) row
staged_one wanted r row true is h = record { there = h; waits = ap (λ (x : PendingRow). is_stage wanted x.stage) (sym (some_same r row h)) ∙ is }
staged_one wanted r row false is h = cc

pub staged : (wanted : Stage) (found : Option PendingRow) (row : PendingRow) → option_and_then (if_stage wanted) found ≡ Some row → Staged wanted found row
staged wanted None row h = cc
staged wanted (Some r) row h = staged_one wanted r row (is_stage wanted r.stage) refl h

pub pending_found : (types : Types) (past : RpPast) (at : ℕ) (w : Word) (wanted : Stage) (row : PendingRow) → live_pending types past at w wanted ≡ Some row → pending_of types past w ≡ Some row
pending_found types past at w wanted row h =
    row_that_lives pending_life pending_begun at (pending_of types past w) row (staged wanted (any_live_pending types past at w) row h).there

pub pending_waits : (types : Types) (past : RpPast) (at : ℕ) (w : Word) (wanted : Stage) (row : PendingRow) → live_pending types past at w wanted ≡ Some row → is_stage wanted row.stage ≡ true
pending_waits types past at w wanted row h = (staged wanted (any_live_pending types past at w) row h).waits

pub stage_same : (s t : Stage) → is_stage s t ≡ true → t ≡ s
stage_same stage.Tokens stage.Tokens h = refl
stage_same stage.Tokens stage.Info h = cc
stage_same stage.Info stage.Tokens h = cc
stage_same stage.Info stage.Info h = refl

-- ---- the row is made of a login, or of the exchange before

pub record Started (types : Types) (at : ℕ) (past : RpPast) (asked : RpAsk) (w : Word) (waits : Stage) (row : PendingRow) : Type 0 where
  pub login : LoginRow
  pub found : login_of past (state_named asked) ≡ Some login
  pub started : pending_started types at asked w waits login ≡ row

pub record Followed (types : Types) (at : ℕ) (held : List PendingRow) (asked : RpAsk) (answered w : Word) (row : PendingRow) : Type 0 where
  pub before : PendingRow
  pub found : row_of pending_name answered held ≡ Some before
  pub waits : is_stage stage.Tokens before.stage ≡ true
  pub followed : pending_followed types at asked w before ≡ row

module _ (types : Types) (at : ℕ) (past : RpPast) (held : List PendingRow) (row : PendingRow) where
  started_of : (asked : RpAsk) (w : Word) (waits : Stage) (found : Option LoginRow) → login_of past (state_named asked) ≡ found
      → option_map (pending_started types at asked w waits) found ≡ Some row → Started types at past asked w waits row
  started_of asked w waits None is h = cc
  started_of asked w waits (Some login) is h = record { login = login; found = is; started = some_same (pending_started types at asked w waits login) row h }

  started : (asked : RpAsk) (w : Word) (waits : Stage) → started_by types at past asked w waits ≡ Some row → Started types at past asked w waits row
  started asked w waits h = started_of asked w waits (login_of past (state_named asked)) refl h

  followed_of : (asked : RpAsk) (answered w : Word) (found : Option PendingRow) → option_and_then (if_stage stage.Tokens) (row_of pending_name answered held) ≡ found
      → option_map (pending_followed types at asked w) found ≡ Some row → Followed types at held asked answered w row
  followed_of asked answered w None is h = cc
  followed_of asked answered w (Some before) is h =
      let s = staged stage.Tokens (row_of pending_name answered held) before is in
      record { before = before; found = s.there; waits = s.waits; followed = some_same (pending_followed types at asked w before) row h }

  -- ---- by which reply

  pub record ByExchange (asked : RpAsk) (told : RpReply) : Type 0 where
    pub w : Word
    pub message : Message
    pub replied : told ≡ reply.Exchange w message
    pub made : Started types at past asked w stage.Tokens row

  pub record ByFetch (asked : RpAsk) (told : RpReply) : Type 0 where
    pub w : Word
    pub message : Message
    pub replied : told ≡ reply.Fetch w message
    pub made : Started types at past asked w stage.Info row

  pub record ByFollowing (asked : RpAsk) (told : RpReply) : Type 0 where
    pub w : Word
    pub message : Message
    pub replied : told ≡ reply.Fetch w message
    pub answered : Word
    pub came : Result Tokens TokensNo
    pub id : Option (Result IdClaims IdNo)
    pub asked_is : asked ≡ ask.Tokens answered came id
    pub made : Followed types at held asked answered w row

  abbrev pub Sent : RpAsk → RpReply → Type 0
  Sent asked told = ByExchange asked told ⊎ (ByFetch asked told ⊎ ByFollowing asked told)

  fetched : (w : Word) (message : Message) (asked : RpAsk) → fetched_by types at past held w asked ≡ Some row → Sent asked (reply.Fetch w message)
  fetched w message (ask.Tokens answered came id) h =
      inr (inr (record {
        w = w;
        message = message;
        replied = refl;
        answered = answered;
        came = came;
        id = id;
        asked_is = refl;
        made = followed_of (ask.Tokens answered came id) answered w (option_and_then (if_stage stage.Tokens) (row_of pending_name answered held)) refl h;
      }))
  fetched w message asked h = inr (inl (record { w = w; message = message; replied = refl; made = started asked w stage.Info h }))

  pub sent : (asked : RpAsk) (told : RpReply) → pending_by types at past held asked told ≡ Some row → Sent asked told
  sent asked (reply.Exchange w message) h = inl (record { w = w; message = message; replied = refl; made = started asked w stage.Tokens h })
  sent asked (reply.Fetch w message) h = fetched w message asked h
  sent asked told h = cc
