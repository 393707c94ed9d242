-- The reply to a refresh request by the book at its moment, and what it changes in the book.
use Rattle.std.specs.Prelude.{◌≡◌, ℕ, ◌==◌, true, not, List, filter, Option, Some, None, option_and_then, Ok, Err, if◌then◌else◌}
use Rattle.sso_base.specs.Words.{Word, word_of_text, fresh_word}
use Rattle.sso_base.specs.Rows.{put, row_of}
use Rattle.token_endpoint.specs.declared.no.GrantNo.{GrantNo}
use Rattle.token_endpoint.specs.declared.no.GrantNo.TheVariants.{NoMemory}
use Rattle.token_endpoint.specs.declared.error.TokenError.TheVariants.{InvalidGrant}
use Rattle.token_endpoint.specs.Errors.{token_error}
use Rattle.refresh_answer.specs.declared.asks.RefreshGrant.{RefreshGrant}
use Rattle.refresh_answer.specs.declared.asks.RefreshAsk.{RefreshAsk}
use Rattle.refresh_answer.specs.declared.asks.RefreshAsk.TheVariants as ask
use Rattle.refresh_answer.specs.declared.asks.OwnReply.{OwnReply}
use Rattle.refresh_answer.specs.declared.asks.OwnReply.TheVariants as own
use Rattle.refresh_answer.specs.declared.rows.FamilyRow.{FamilyRow}
use Rattle.refresh_answer.specs.declared.rows.RefreshRow.{RefreshRow}
use Rattle.refresh_answer.specs.declared.rows.AccessRow.{AccessRow}
use Rattle.refresh_answer.specs.Rows.{token_name, access_name, new_token, old_token}
use Rattle.refresh_answer.specs.Families.{family_at, has_room}
use Rattle.refresh_rows.specs.TokenRows.{is_of}
use Rattle.refresh_rows.specs.Booked.{Booked, is_of_place}
use Rattle.refresh_book.specs.declared.renewing.Renewal.{Renewal}
use Rattle.refresh_book.specs.declared.renewing.Renewal.TheVariants.{Unread, Refused, Full, Reused, Rotated}

abbrev pub reply_of : Renewal → OwnReply
reply_of Unread = own.NotHere
reply_of (Refused code) = own.Refused code
reply_of Full = own.Full
reply_of (Reused place client) = own.Refused InvalidGrant
reply_of (Rotated row access refresh scopes) = own.Refreshed access refresh scopes

-- ---- the renewal

abbrev pub rotation : List RefreshRow → List Word → RefreshRow → FamilyRow → Renewal
rotation tokens fresh row f =
    if has_room tokens (fresh_word fresh 1) then Rotated row (fresh_word fresh 0) (fresh_word fresh 1) f.scopes else Full

abbrev pub of_family : List RefreshRow → List Word → ℕ → RefreshRow → Option FamilyRow → Renewal
of_family tokens fresh client row None = Refused InvalidGrant
of_family tokens fresh client row (Some f) = if f.client == client then rotation tokens fresh row f else Refused InvalidGrant

abbrev pub of_current : Booked → List Word → ℕ → RefreshRow → Renewal
of_current b fresh client row = of_family b.tokens fresh client row (family_at row.family b.families)

abbrev pub renewal_of : Booked → List Word → ℕ → Option RefreshRow → Renewal
renewal_of b fresh client None = Refused InvalidGrant
renewal_of b fresh client (Some row) = if row.current then of_current b fresh client row else Reused row.family client

abbrev pub refusal : GrantNo → Renewal
refusal NoMemory = Unread
refusal why = Refused (token_error why)

abbrev pub renewal_for : Booked → List Word → RefreshGrant → Renewal
renewal_for b fresh grant = renewal_of b fresh grant.client (option_and_then (λ w. row_of token_name w b.tokens) (word_of_text grant.token))

abbrev pub renewal_asked : {A : Type 0} → Booked → List Word → RefreshAsk A → Renewal
renewal_asked b fresh (ask.Refresh (Ok grant)) = renewal_for b fresh grant
renewal_asked b fresh (ask.Refresh (Err why)) = refusal why
renewal_asked b fresh (ask.Through inner offline) = Unread

-- ---- the book after it

-- new tokens need a token in the book, and a new word
abbrev pub MayNote : Booked → Renewal → Type 0
MayNote b (Rotated row access refresh scopes) = (row_of token_name row.word b.tokens ≡ Some row) × (has_room b.tokens refresh ≡ true)
MayNote b renewal = Unit {0}

-- the tokens and the access tokens of families that are left
abbrev pub tokens_left : List FamilyRow → List RefreshRow → List RefreshRow
tokens_left fs rows = filter (λ (t : RefreshRow). is_of fs t.family) rows

abbrev pub accesses_left : List FamilyRow → List AccessRow → List AccessRow
accesses_left fs rows = filter (λ (x : AccessRow). is_of fs x.family) rows

pub record AreRows (b : Booked) (fs : List FamilyRow) (ts : List RefreshRow) (xs : List AccessRow) (last : ℕ) : Type 0 where
  pub families : b.families ≡ fs
  pub tokens : b.tokens ≡ ts
  pub accesses : b.accesses ≡ xs
  pub last_is : b.last ≡ last

-- a rotation makes the token old and adds a new one with an access token, and the reuse of an old token ends its family
abbrev pub Noted : Booked → Booked → Renewal → Type 0
Noted b d (Rotated row access refresh scopes) =
    AreRows d b.families (put token_name (Some (new_token row.family refresh)) (put token_name (Some (old_token row)) b.tokens))
    (put access_name (Some (record { word = access; family = row.family; issued = b.last })) b.accesses) b.last
Noted b d (Reused place client) =
    AreRows d (filter (λ f. not (is_of_place place client f)) b.families) (tokens_left d.families b.tokens)
    (accesses_left d.families b.accesses) b.last
Noted b d renewal = AreRows d b.families b.tokens b.accesses b.last
