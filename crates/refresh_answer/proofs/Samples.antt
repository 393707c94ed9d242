-- The definitions of families, computed: what each accepts, and what it refuses.
use Rattle.std.proofs.Common.{◌≡◌, ℕ, true, false, [], ◌∷◌, Some, None, Ok, refl}
use Rattle.sso_base.specs.Words.{Word}
use Rattle.oidc_words.specs.Scopes.{no_scopes}
use Rattle.token_endpoint.specs.declared.error.TokenError.TheVariants.{InvalidGrant}
use Rattle.op_exchange.specs.declared.reply.OpReply.TheVariants as op_reply
use Rattle.refresh_answer.specs.declared.asks.RefreshGrant.{RefreshGrant}
use Rattle.refresh_answer.specs.declared.asks.RefreshAsk.{RefreshAsk}
use Rattle.refresh_answer.specs.declared.asks.RefreshAsk.TheVariants as ask
use Rattle.refresh_answer.specs.declared.asks.OwnReply.TheVariants as own
use Rattle.refresh_answer.specs.declared.asks.RefreshReply.TheVariants.{Through, First}
use Rattle.refresh_answer.specs.declared.rows.FamilyRow.{FamilyRow}
use Rattle.refresh_answer.specs.declared.rows.RefreshRow.{RefreshRow}
use Rattle.refresh_answer.specs.Rows.{new_token, old_token}
use Rattle.refresh_answer.specs.Families.{is_replay, living_in, has_room}
use Rattle.refresh_answer.specs.Answering.{refreshed_by, with_first}

abbrev one : Word
one = 1 ∷ []

abbrev two : Word
two = 2 ∷ []

-- the family of the pair 3, of the client 0
abbrev family : FamilyRow
family = record { by = 3; code = []; client = 0; user = 0; scopes = no_scopes; asked = []; begun = 10 }

abbrev current : RefreshRow
current = new_token 3 one

abbrev old : RefreshRow
old = old_token current

abbrev shown_by : ℕ → RefreshGrant
shown_by client = record { client = client; token = [] }

abbrev refresh_by : ℕ → RefreshAsk ℕ
refresh_by client = ask.Refresh (Ok (shown_by client))

-- ---- refresh requests

current-is_refreshed : refreshed_by (current ∷ []) (two ∷ (3 ∷ []) ∷ []) (shown_by 0) current (Some family) ≡ own.Refreshed two (3 ∷ []) no_scopes
current-is_refreshed = refl

old-is_refused : refreshed_by (old ∷ []) (two ∷ (3 ∷ []) ∷ []) (shown_by 0) old (Some family) ≡ own.Refused InvalidGrant
old-is_refused = refl

another_client-is_refused : refreshed_by (current ∷ []) (two ∷ (3 ∷ []) ∷ []) (shown_by 1) current (Some family) ≡ own.Refused InvalidGrant
another_client-is_refused = refl

no_family-is_refused : refreshed_by (current ∷ []) (two ∷ (3 ∷ []) ∷ []) (shown_by 0) current None ≡ own.Refused InvalidGrant
no_family-is_refused = refl

held_word-is_full : refreshed_by (current ∷ []) (two ∷ one ∷ []) (shown_by 0) current (Some family) ≡ own.Full
held_word-is_full = refl

new_word-has_room : has_room (current ∷ []) two ≡ true
new_word-has_room = refl

-- ---- families

old-ends_its_family : is_replay (Some old) (refresh_by 0) family ≡ true
old-ends_its_family = refl

current-ends_none : is_replay (Some current) (refresh_by 0) family ≡ false
current-ends_none = refl

another_client-ends_none : is_replay (Some old) (refresh_by 1) family ≡ false
another_client-ends_none = refl

lives-30_days : living_in (family ∷ []) 2592009 3 ≡ Some family
lives-30_days = refl

over-after_30_days : living_in (family ∷ []) 2592010 3 ≡ None
over-after_30_days = refl

-- ---- first tokens

first-with_tokens : with_first {R = ℕ} (Some family) (Some (op_reply.Tokens one [])) 0 two ≡ First 0 two
first-with_tokens = refl

none-with_a_refusal : with_first {R = ℕ} (Some family) (Some (op_reply.TokenRefused InvalidGrant)) 0 two ≡ Through 0
none-with_a_refusal = refl
