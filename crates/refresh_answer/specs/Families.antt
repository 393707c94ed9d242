-- Families of refresh tokens, by recursion on the past, newest pair first. `plain` gives the provider's request in a request, `given` the
-- reply that the provider gave, and `provided` the provider's history.
use Rattle.std.specs.Prelude.{ℕ, ◌==◌, nat_lt, Bool, true, false, not, ◌&&◌, ◌||◌, List, [], ◌∷◌, ◌++◌, length, reverse, filter, Option, Some, None}
use Rattle.std.specs.Prelude.{option_and_then, option_map, is_some, Ok, if◌then◌else◌}
use Rattle.std.specs.Str.{bytes_eq}
use Rattle.sso_base.specs.Words.{Word, word_of_text, fresh_word}
use Rattle.sso_base.specs.Rows.{put, row_of, if_lives}
use Rattle.sso_base.specs.declared.history.Entry.{Entry}
use Rattle.sso_base.specs.declared.history.Pair.{Pair}
use Rattle.oidc_words.specs.Lives.{access_life, family_life}
use Rattle.code_grant.specs.declared.rows.CodeRow.{CodeRow}
use Rattle.op_exchange.specs.declared.ask.OpAsk.{OpAsk}
use Rattle.op_exchange.specs.declared.ask.OpAsk.TheVariants.{Token}
use Rattle.op_exchange.specs.declared.reply.OpReply.{OpReply}
use Rattle.op_answer.specs.Past.{OpPair, OpPast}
use Rattle.op_answer.specs.Codes.{held_code}
use Rattle.core_stack.specs.Marks.{mark_in_code, marked_code}
use Rattle.refresh_answer.specs.declared.asks.RefreshAsk.{RefreshAsk}
use Rattle.refresh_answer.specs.declared.asks.RefreshAsk.TheVariants as ask
use Rattle.refresh_answer.specs.declared.asks.OwnReply.TheVariants as own
use Rattle.refresh_answer.specs.declared.asks.RefreshReply.{RefreshReply}
use Rattle.refresh_answer.specs.declared.asks.RefreshReply.TheVariants.{First, Own}
use Rattle.refresh_answer.specs.declared.rows.FamilyRow.{FamilyRow}
use Rattle.refresh_answer.specs.declared.rows.AccessRow.{AccessRow}
use Rattle.refresh_answer.specs.declared.rows.RefreshRow.{RefreshRow}
use Rattle.refresh_answer.specs.Rows.{most_tokens, token_name, access_name, access_begun, family_begun, new_token, old_token}
use Rattle.refresh_answer.specs.Around.{Outer, inner_history, outer_plain, outer_given, offline_mark}

-- ---- refresh tokens

-- the refresh token of a request, if it is a refresh request that can be read
abbrev pub presented : {A : Type 0} → RefreshAsk A → Option Word
presented (ask.Refresh (Ok grant)) = word_of_text grant.token
presented asked = None

-- the row of the token that a request presents
abbrev pub row_presented : {A : Type 0} → List RefreshRow → RefreshAsk A → Option RefreshRow
row_presented tokens asked = option_and_then (λ w. row_of token_name w tokens) (presented asked)

-- a token for which the client got new ones is old
abbrev pub token_retired : {R : Type 0} → Option RefreshRow → RefreshReply R → Option RefreshRow
token_retired row (Own (own.Refreshed access refresh scopes)) = option_map old_token row
token_retired row reply = None

-- The first token is of the family that begins at this place in the history, and a new token is of the family of the presented one.
abbrev pub token_made : {R : Type 0} → ℕ → Option RefreshRow → RefreshReply R → Option RefreshRow
token_made place row (First inner refresh) = Some (new_token place refresh)
token_made place row (Own (own.Refreshed access refresh scopes)) = option_map (λ (t : RefreshRow). new_token t.family refresh) row
token_made place row reply = None

-- a new access token is of the family of the presented token
abbrev pub access_made : {R : Type 0} → ℕ → Option RefreshRow → RefreshReply R → Option AccessRow
access_made at row (Own (own.Refreshed access refresh scopes)) =
    option_map (λ (t : RefreshRow). record { word = access; family = t.family; issued = at }) row
access_made at row reply = None

-- ---- families

-- the family that begins with tokens for a code
abbrev pub family_for : ℕ → ℕ → CodeRow → FamilyRow
family_for place at code = record {
  by = place;
  code = code.word;
  client = code.wish.client;
  user = code.user;
  scopes = code.wish.scopes;
  asked = code.wish.info_asked;
  begun = at;
}

-- the family that began at this place
abbrev pub family_at : ℕ → List FamilyRow → Option FamilyRow
family_at n [] = None
family_at n (f ∷ families) = if f.by == n then Some f else family_at n families

-- the client of the family presents an old token of it
abbrev pub is_replay : {A : Type 0} → Option RefreshRow → RefreshAsk A → FamilyRow → Bool
is_replay (Some row) (ask.Refresh (Ok grant)) f = not row.current && (row.family == f.by) && (grant.client == f.client)
is_replay row asked f = false

-- the client of the family requests tokens for its code, which was redeemed (RFC 6749, 4.1.2)
abbrev pub is_code_replay : Option CodeRow → Option OpAsk → FamilyRow → Bool
is_code_replay (Some code) (Some (Token (Ok grant))) f = code.spent && bytes_eq code.word f.code && (grant.client == f.client)
is_code_replay code asked f = false

-- the code of a token request
abbrev pub token_code : Option OpAsk → Option Word
token_code (Some (Token (Ok grant))) = word_of_text grant.code
token_code asked = None

abbrev pub if_true : {X : Type 0} → Bool → Option X → Option X
if_true true o = o
if_true false o = None

-- a family begins only with a reply that has its first token
abbrev pub begun_by : {R : Type 0} → RefreshReply R → Option FamilyRow → Option FamilyRow
begun_by (First inner refresh) o = o
begun_by reply o = None

abbrev pub appended : {X : Type 0} → List X → Option X → List X
appended l None = l
appended l (Some x) = l ++ x ∷ []

-- ---- what lives at a moment

abbrev pub living_in : List FamilyRow → ℕ → ℕ → Option FamilyRow
living_in families at n = option_and_then (if_lives family_life family_begun at) (family_at n families)

-- the tokens of families that live, old ones too
abbrev pub held_in : List FamilyRow → ℕ → List RefreshRow → List RefreshRow
held_in families at rows = filter (λ (row : RefreshRow). is_some (living_in families at row.family)) rows

-- there is room for one more token, and no held token has its word
abbrev pub has_room : List RefreshRow → Word → Bool
has_room held w = nat_lt (length held) most_tokens && not (is_some (row_of token_name w held))

-- the provider's past
abbrev pub provider_past : {A R : Type 0} → (List (Pair A R) → List OpPair) → List (Outer A R) → OpPast
provider_past provided past = reverse (provided (inner_history (reverse past)))

module _ {A R : Type 0} (plain : A → Option OpAsk) (given : R → Option OpReply) (provided : List (Pair A R) → List OpPair) where
  -- the code of a token request, if the provider holds it
  abbrev pub code_presented : List (Outer A R) → ℕ → RefreshAsk A → Option CodeRow
  code_presented past at asked = held_code (provider_past provided past) at (token_code (outer_plain plain asked))

  -- whether the authorization request that a code answers was for offline access
  abbrev pub code_offline : List (Outer A R) → ℕ → Option Word → Bool
  code_offline past at w = mark_in_code false (marked_code (outer_plain plain) (outer_given given) offline_mark false past at w)

  -- ---- after a past

  abbrev pub tokens : List (Outer A R) → List RefreshRow
  tokens [] = []
  tokens (p ∷ past) =
      put token_name (token_made (length past) (row_presented (tokens past) p.entry.ask) p.reply)
      (put token_name (token_retired (row_presented (tokens past) p.entry.ask) p.reply) (tokens past))

  abbrev pub accesses : List (Outer A R) → List AccessRow
  accesses [] = []
  accesses (p ∷ past) = put access_name (access_made p.entry.at (row_presented (tokens past) p.entry.ask) p.reply) (accesses past)

  -- a family ends if its client presents an old token of it, or its code once more
  abbrev pub ends : List (Outer A R) → ℕ → RefreshAsk A → FamilyRow → Bool
  ends past at asked f =
      is_replay (row_presented (tokens past) asked) asked f || is_code_replay (code_presented past at asked) (outer_plain plain asked) f

  -- the family that begins if the provider gives tokens: the code is held and offline, and there is room for a token
  abbrev pub begins_in : List FamilyRow → List (Outer A R) → Entry (RefreshAsk A) → Option FamilyRow
  begins_in families past e =
      if_true
      (code_offline past e.at (token_code (outer_plain plain e.ask)) && has_room (held_in families e.at (tokens past)) (fresh_word e.fresh 1))
      (option_map (family_for (length past) e.at) (code_presented past e.at e.ask))

  -- families that were not ended, also those whose life is over
  abbrev pub families : List (Outer A R) → List FamilyRow
  families [] = []
  families (p ∷ past) =
      appended (filter (λ f. not (ends past p.entry.at p.entry.ask f)) (families past))
      (begun_by p.reply (begins_in (families past) past p.entry))

  -- the family that began at this place, if it lives
  abbrev pub living : List (Outer A R) → ℕ → ℕ → Option FamilyRow
  living past at n = living_in (families past) at n

  abbrev pub held_tokens : List (Outer A R) → ℕ → List RefreshRow
  held_tokens past at = held_in (families past) at (tokens past)

  abbrev pub begins : List (Outer A R) → Entry (RefreshAsk A) → Option FamilyRow
  begins past e = begins_in (families past) past e

  -- the family of an access token, if both live
  abbrev pub access_family : List (Outer A R) → ℕ → Word → Option FamilyRow
  access_family past at w =
      option_and_then (λ (row : AccessRow). living past at row.family)
      (option_and_then (if_lives access_life access_begun at) (row_of access_name w (accesses past)))
