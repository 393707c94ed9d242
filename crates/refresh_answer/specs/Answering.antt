-- The replies of the core (RFC 6749, 6 and 10.4; RFC 9700, 4.14.2). It stands around an inner core, whose requests and replies are A and
-- R. `plain` gives the provider's request in a request, `given` the reply that the provider gave, and `provided` the provider's history.
use Rattle.std.proofs.Common.{ap}
use Rattle.std.specs.Prelude.{◌≡◌, ℕ, ◌==◌, ◌&&◌, List, Option, Some, None, option_and_then, option_map, Result, Ok, Err, if◌then◌else◌}
use Rattle.sso_base.specs.Words.{Word, word_of_text, fresh_word}
use Rattle.sso_base.specs.Rows.{row_of}
use Rattle.sso_base.specs.declared.history.Entry.{Entry}
use Rattle.sso_base.specs.declared.history.Pair.{Pair}
use Rattle.client_registry.specs.Configuration.{Configuration}
use Rattle.claim_set.specs.Reading.{claims_text}
use Rattle.userinfo.specs.Held.{info_members}
use Rattle.userinfo.specs.declared.header.Bearer.TheVariants.{Given}
use Rattle.token_endpoint.specs.declared.no.GrantNo.{GrantNo}
use Rattle.token_endpoint.specs.declared.no.GrantNo.TheVariants.{NoMemory}
use Rattle.token_endpoint.specs.declared.error.TokenError.TheVariants.{InvalidGrant}
use Rattle.token_endpoint.specs.Errors.{token_error}
use Rattle.op_exchange.specs.declared.ask.OpAsk.{OpAsk}
use Rattle.op_exchange.specs.declared.ask.OpAsk.TheVariants.{Info}
use Rattle.op_exchange.specs.declared.reply.OpReply.{OpReply}
use Rattle.op_exchange.specs.declared.reply.OpReply.TheVariants.{Tokens}
use Rattle.op_answer.specs.Past.{OpPair}
use Rattle.core_stack.specs.Stacked.{AreAnswered, IsLegalStack}
use Rattle.refresh_answer.specs.declared.asks.RefreshGrant.{RefreshGrant}
use Rattle.refresh_answer.specs.declared.asks.RefreshAsk.{RefreshAsk}
use Rattle.refresh_answer.specs.declared.asks.RefreshAsk.TheVariants as ask
use Rattle.refresh_answer.specs.declared.asks.OwnReply.{OwnReply}
use Rattle.refresh_answer.specs.declared.asks.OwnReply.TheVariants as own
use Rattle.refresh_answer.specs.declared.asks.RefreshReply.{RefreshReply}
use Rattle.refresh_answer.specs.declared.asks.RefreshReply.TheVariants.{Through, First, Own}
use Rattle.refresh_answer.specs.declared.rows.FamilyRow.{FamilyRow}
use Rattle.refresh_answer.specs.declared.rows.RefreshRow.{RefreshRow}
use Rattle.refresh_answer.specs.Rows.{token_name}
use Rattle.refresh_answer.specs.Around.{Outer, passed, outer_weight, IsRefreshAsk}
use Rattle.refresh_answer.specs.Families.{has_room, tokens, living, held_tokens, begins, access_family}

-- ---- what the core replies by itself

-- a new access token and a new refresh token, if there is room for one
abbrev pub rotated : List RefreshRow → List Word → FamilyRow → OwnReply
rotated held fresh f =
    if has_room held (fresh_word fresh 1) then own.Refreshed (fresh_word fresh 0) (fresh_word fresh 1) f.scopes else own.Full

-- the token of this row: of no living family, of another client's, an old one, or the current one
abbrev pub refreshed_by : List RefreshRow → List Word → RefreshGrant → RefreshRow → Option FamilyRow → OwnReply
refreshed_by held fresh grant row None = own.Refused InvalidGrant
refreshed_by held fresh grant row (Some f) =
    if (grant.client == f.client) && row.current then rotated held fresh f else own.Refused InvalidGrant

-- the claims of a family's user for its client
abbrev pub family_info : Configuration → FamilyRow → OwnReply
family_info c f = own.Info (claims_text (info_members c f.client f.user f.scopes f.asked))

-- tokens for a code, with the first token of a family if one begins
abbrev pub with_first : {R : Type 0} → Option FamilyRow → Option OpReply → R → Word → RefreshReply R
with_first (Some f) (Some (Tokens access id)) reply refresh = First reply refresh
with_first begins told reply refresh = Through reply

-- the core's own reply, if it has one, and otherwise a reply of the inner core
abbrev pub IsReply : {R : Type 0} → (R → Option OpReply) → Option OwnReply → Option FamilyRow → Word → RefreshReply R → Type 0
IsReply given (Some own) begins refresh reply = reply ≡ Own own
IsReply {R} given None begins refresh reply = (inner : R) × (reply ≡ with_first begins (given inner) inner refresh)

module _ {A R : Type 0} (plain : A → Option OpAsk) (given : R → Option OpReply) (provided : List (Pair A R) → List OpPair) where
  abbrev pub refreshed : List (Outer A R) → ℕ → List Word → RefreshGrant → Option RefreshRow → OwnReply
  refreshed past at fresh grant None = own.Refused InvalidGrant
  refreshed past at fresh grant (Some row) =
      refreshed_by (held_tokens plain given provided past at) fresh grant row (living plain given provided past at row.family)

  -- a refresh request; reading one reports `NoMemory` by itself, so no request holds it
  abbrev pub refresh_reply : List (Outer A R) → ℕ → List Word → Result RefreshGrant GrantNo → OwnReply
  refresh_reply past at fresh (Err NoMemory) = own.NotHere
  refresh_reply past at fresh (Err why) = own.Refused (token_error why)
  refresh_reply past at fresh (Ok grant) =
      refreshed past at fresh grant
      (option_and_then (λ w. row_of token_name w (tokens plain given provided past)) (word_of_text grant.token))

  -- a UserInfo request with an access token of a family
  abbrev pub info_reply : Configuration → List (Outer A R) → ℕ → Option OpAsk → Option OwnReply
  info_reply c past at (Some (Info (Given w))) = option_map (family_info c) (access_family plain given provided past at w)
  info_reply c past at asked = None

  abbrev pub own_reply : Configuration → List (Outer A R) → ℕ → List Word → RefreshAsk A → Option OwnReply
  own_reply c past at fresh (ask.Refresh grant) = Some (refresh_reply past at fresh grant)
  own_reply c past at fresh (ask.Through inner offline) = info_reply c past at (plain inner)

  abbrev pub IsRefreshReply : Configuration → List (Outer A R) → Entry (RefreshAsk A) → RefreshReply R → Type 0
  IsRefreshReply c past e reply =
      IsReply given (own_reply c past e.at e.fresh e.ask) (begins plain given provided past e) (fresh_word e.fresh 1) reply

-- ---- legal histories

-- a past, newest pair first, whose replies are those of this core, whatever it weighs
abbrev pub IsRefreshPast : {A R : Type 0} → (A → Option OpAsk) → (R → Option OpReply) → (List (Pair A R) → List OpPair) → (A → Type 0)
    → Configuration → List (Outer A R) → Type 0
IsRefreshPast plain given provided IsAsk c past = AreAnswered (IsRefreshAsk IsAsk) (IsRefreshReply plain given provided c) past

-- the setup of the inner core, and the registry
pub record Setup (S : Type 0) : Type 0 where
  pub inner : S
  pub registry : Configuration

pub inner_setup : {S : Type 0} (s t : Setup S) → s ≡ t → s.inner ≡ t.inner
inner_setup {S} s t same = let I : Setup S → S = λ u. u.inner in ap I same

abbrev pub IsLegalRefresh : {A R S : Type 0} → (A → Option OpAsk) → (R → Option OpReply) → (List (Pair A R) → List OpPair) → (A → Type 0)
    → (A → ℕ) → (S → ℕ) → (S → List (Pair A R) → Type 0) → Setup S → List (Outer A R) → Type 0
IsLegalRefresh {A} {R} {S} plain given provided IsAsk weighs most IsLegalInner s h =
    IsLegalStack (IsRefreshAsk IsAsk) (IsRefreshReply plain given provided s.registry) passed (outer_weight weighs)
    (λ (t : Setup S). most t.inner) (λ (t : Setup S) (l : List (Pair A R)). IsLegalInner t.inner l) s h
