-- The definitions computed on small cases: what each accepts, and what it refuses.
use Rattle.std.proofs.Common.{◌≡◌, ◌<◌, ◌≤◌, ℕ, suc, zero, true, false, codes, replicate, List, [], ◌∷◌, Option, Some, None, refl, ap, arith}
use Rattle.std.proofs.lemmas.List.{length-replicate}
use Rattle.sso_base.specs.Words.{Word}
use Rattle.sso_base.specs.Rows.{lives, live_rows}
use Rattle.oidc_words.specs.declared.scopes.Scopes.{Scopes}
use Rattle.oidc_words.specs.Scopes.{no_scopes, joined}
use Rattle.auth_request.specs.declared.wish.Wish.{Wish}
use Rattle.code_grant.specs.declared.rows.TurnRow.{TurnRow}
use Rattle.code_grant.specs.declared.rows.SessionRow.{SessionRow}
use Rattle.code_grant.specs.declared.rows.CodeRow.{CodeRow}
use Rattle.code_grant.specs.declared.rows.TokenRow.{TokenRow}
use Rattle.code_grant.specs.declared.redeem.Redeem.TheVariants.{Redeemed, Unknown, OtherClient, Spent, Expired, OtherUri}
use Rattle.code_grant.specs.declared.table.Table.TheVariants.{Turns, Sessions, Codes, Tokens}
use Rattle.code_grant.specs.Calls.{purge, issue_code, redeem, after, after_all, NoneIssues, IsSpent, NoneIsOf}
use Rattle.client_registry.specs.ClientSets.{has_client, with_client}
use Rattle.code_grant.specs.Consents.{granted_to, with_grant}
use Rattle.held_rows.specs.Held.{IsInOrder, IsHeld, none_after, IsFull}
use Rattle.code_grant.specs.Rows.{turn_name, turn_begun}
use Rattle.oidc_words.specs.Lives.{turn_life, session_life, code_life, code_usable, access_life}
use Rattle.code_grant.specs.Redeeming.{redeem_of, IsRedeemable}
use Rattle.code_grant.specs.Tables.{Tables, with_room, purged, has_room, IsFullTable, with_turn, with_token, turn_set, turn_with, turn_ended, session_ended, session_renewed, session_visited, redemption, code_spent}
use Rattle.code_grant.proofs.Redemptions.{redeemed_is_redeemable}

-- ---- words, URIs and a wish of client 3

abbrev first : Word
first = 1 ∷ []

abbrev second : Word
second = 2 ∷ []

abbrev third : Word
third = 3 ∷ []

abbrev uri : List ℕ
uri = codes "http://127.0.0.1:8081/cb"

abbrev wish : Wish
wish = record {
  client = 3;
  redirect = uri;
  types = record { code = true; id_token = false; token = false };
  scopes = no_scopes;
  state = None;
  nonce = None;
  none = false;
  login = false;
  consent = false;
  max_age = None;
  subs = None;
  id_asked = [];
  info_asked = [];
}

-- ---- rows that began at a moment

abbrev turn : Word → ℕ → TurnRow
turn w at = record { word = w; browser = third; wish = wish; session = None; in_turn = false; begun = at }

abbrev session : Word → ℕ → SessionRow
session w at = record { word = w; sid = third; user = 5; auth_time = at; clients = false ∷ false ∷ [] }

abbrev code : Word → ℕ → CodeRow
code w at = record { word = w; wish = wish; user = 5; sid = third; auth_time = at; issued = at; spent = false; by = 6 }

abbrev token : Word → Option Word → ℕ → TokenRow
token w given at = record { word = w; client = 3; user = 5; scopes = no_scopes; asked = []; code = given; issued = at; by = 7 }

abbrev tables : Tables
tables = record {
  turns = turn first 1000 ∷ turn second 1001 ∷ [];
  sessions = session first 1000 ∷ session second 1001 ∷ [];
  codes = code first 1000 ∷ code second 1001 ∷ [];
  tokens = token first None 1000 ∷ token second (Some first) 1001 ∷ token third (Some second) 1001 ∷ [];
  consents = [];
  reserved = record { turns = false; sessions = false; codes = false; tokens = false };
}

-- ---- lives

lives-the_last_second_of_each : (lives turn_life 1000 1599 ≡ true) × (lives session_life 1000 44199 ≡ true) × (lives code_usable 1000 1119 ≡ true) × (lives code_life 1000 4719 ≡ true) × (lives access_life 1000 4599 ≡ true)
lives-the_last_second_of_each = (refl, refl, refl, refl, refl)

lives-not_at_the_end_of_each : (lives turn_life 1000 1600 ≡ false) × (lives session_life 1000 44200 ≡ false) × (lives code_usable 1000 1120 ≡ false) × (lives code_life 1000 4720 ≡ false) × (lives access_life 1000 4600 ≡ false)
lives-not_at_the_end_of_each = (refl, refl, refl, refl, refl)

-- ---- what a table keeps

is_held-two_turns : IsHeld turn_name turn_begun (λ (row : TurnRow). row.wish.client < 128) tables.turns
is_held-two_turns = record {
  distinct = (refl, (refl, tt));
  ordered = ((omega arith, tt), (tt, tt));
  few = omega arith;
  sound = (omega arith, (omega arith, tt));
}

is_held-not_with_two_of_one_word : IsHeld turn_name turn_begun (λ (row : TurnRow). row.wish.client < 128) (turn first 1000 ∷ turn first 1001 ∷ []) → ⊥
is_held-not_with_two_of_one_word held = (let k : Some (turn first 1001) ≡ None = held.distinct.0 in cc)

is_in_order-not_with_an_earlier_one_last : IsInOrder turn_begun (turn first 1001 ∷ turn second 1000 ∷ []) → ⊥
is_in_order-not_with_an_earlier_one_last order = (let k : 1001 ≤ 1000 = order.0.0 in absurd (omega arith))

none_after-the_last : none_after turn_begun 1001 tables.turns ≡ true
none_after-the_last = refl

none_after-not_before_the_last : none_after turn_begun 1000 tables.turns ≡ false
none_after-not_before_the_last = refl

-- ---- purges and room

purged-at_the_end_of_the_first_turn : purged 1600 tables ≡ record tables { turns = turn second 1001 ∷ [] }
purged-at_the_end_of_the_first_turn = refl

purged-one_second_before : purged 1599 tables ≡ tables
purged-one_second_before = refl

has_room-two_rows : (has_room Turns 1000 tables ≡ true) × (has_room Sessions 1000 tables ≡ true) × (has_room Codes 1000 tables ≡ true) × (has_room Tokens 1000 tables ≡ true)
has_room-two_rows = (refl, refl, refl, refl)

live_replicate : (n : ℕ) (row : TurnRow) → lives turn_life row.begun 1000 ≡ true → live_rows turn_life turn_begun 1000 (replicate n row) ≡ replicate n row
live_replicate zero row h = refl
live_replicate (suc n) row h = rw h (ap (λ (rows : List TurnRow). row ∷ rows) (live_replicate n row h))

is_full-65536_rows_that_live : IsFull turn_life turn_begun 1000 (replicate 65536 (turn first 1000))
is_full-65536_rows_that_live = record { most = length-replicate 65536 (turn first 1000); live = live_replicate 65536 (turn first 1000) refl }

is_full-not_two_rows : IsFullTable Turns 1000 tables → ⊥
is_full-not_two_rows full = (let k : 2 ≡ 65536 = full.most in absurd (omega arith))

-- ---- one row more

with_turn-at_the_end : with_turn (turn third 1002) tables ≡ record tables { turns = turn first 1000 ∷ turn second 1001 ∷ turn third 1002 ∷ [] }
with_turn-at_the_end = refl

with_token-uses_its_room_alone : (with_token (token first None 1000) (with_room tables)).reserved ≡ record { turns = true; sessions = true; codes = true; tokens = false }
with_token-uses_its_room_alone = refl

-- ---- turns and sessions

turn_set-the_named_one : turn_set second third true tables ≡ record tables { turns = turn first 1000 ∷ turn_with third true (turn second 1001) ∷ [] }
turn_set-the_named_one = refl

turn_set-none : turn_set third third true tables ≡ tables
turn_set-none = refl

turn_ended-the_named_one : turn_ended first tables ≡ record tables { turns = turn second 1001 ∷ [] }
turn_ended-the_named_one = refl

session_renewed-goes_to_the_end : session_renewed first 1100 tables ≡ record tables { sessions = session second 1001 ∷ session first 1100 ∷ [] }
session_renewed-goes_to_the_end = refl

session_renewed-none : session_renewed third 1100 tables ≡ tables
session_renewed-none = refl

session_visited-the_named_one : session_visited second 1 tables ≡ record tables { sessions = session first 1000 ∷ record (session second 1001) { clients = false ∷ true ∷ [] } ∷ [] }
session_visited-the_named_one = refl

session_ended-the_named_one : session_ended second tables ≡ record tables { sessions = session first 1000 ∷ [] }
session_ended-the_named_one = refl

-- ---- sets of clients

has_client-added : has_client 1 (with_client 1 (false ∷ false ∷ [])) ≡ true
has_client-added = refl

has_client-not_another : has_client 0 (with_client 1 (false ∷ false ∷ [])) ≡ false
has_client-not_another = refl

-- ---- redemptions

redemption-of_its_client : redemption first 3 uri 1119 tables ≡ Redeemed
redemption-of_its_client = refl

redemption-unknown : redemption third 3 uri 1119 tables ≡ Unknown
redemption-unknown = refl

redemption-other_client_before_all_others : redeem_of 4 [] 1120 (Some (code_spent (code first 1000))) ≡ OtherClient
redemption-other_client_before_all_others = refl

redemption-spent_before_expired : redeem_of 3 [] 1120 (Some (code_spent (code first 1000))) ≡ Spent
redemption-spent_before_expired = refl

redemption-expired_before_the_uri : redeem_of 3 [] 1120 (Some (code first 1000)) ≡ Expired
redemption-expired_before_the_uri = refl

redemption-other_uri : redeem_of 3 [] 1119 (Some (code first 1000)) ≡ OtherUri
redemption-other_uri = refl

is_redeemable-by_its_client : IsRedeemable 3 uri 1119 (code first 1000)
is_redeemable-by_its_client = redeemed_is_redeemable 3 uri 1119 (code first 1000) refl

is_redeemable-not_by_another : IsRedeemable 4 uri 1119 (code first 1000) → ⊥
is_redeemable-not_by_another good = (let k : 3 ≡ 4 = good.own_client in absurd (omega arith))

-- ---- what a redemption changes

after-redeemed : after (redeem first 3 uri 1119) tables ≡ record tables { codes = code_spent (code first 1000) ∷ code second 1001 ∷ [] }
after-redeemed = refl

after-twice : after_all (redeem first 3 uri 1119 ∷ redeem first 3 [] 2000 ∷ []) tables
    ≡ record tables { codes = code_spent (code first 1000) ∷ code second 1001 ∷ []; tokens = token first None 1000 ∷ token third (Some second) 1001 ∷ [] }
after-twice = refl

after-expired : after (redeem first 3 uri 1120) tables ≡ tables
after-expired = refl

-- ---- codes that are spent, and the access tokens of a code

is_spent-after_its_redemption : IsSpent first (after (redeem first 3 uri 1119) tables)
is_spent-after_its_redemption = (λ e. refl, (λ e. (let k : false ≡ true = e in cc), tt))

is_spent-not_before : IsSpent first tables → ⊥
is_spent-not_before spent = (let k : false ≡ true = spent.0 refl in cc)

none_issues-a_purge_and_another_code : NoneIssues first (purge 1000 ∷ issue_code (code second 1000) ∷ [])
none_issues-a_purge_and_another_code = (refl, (refl, tt))

none_issues-not_the_code_itself : NoneIssues first (issue_code (code first 1000) ∷ []) → ⊥
none_issues-not_the_code_itself none = (let k : true ≡ false = none.0 in cc)

none_is_of-after_a_second_use : NoneIsOf first (after_all (redeem first 3 uri 1119 ∷ redeem first 3 [] 2000 ∷ []) tables).tokens
none_is_of-after_a_second_use = (refl, (refl, tt))

none_is_of-not_before : NoneIsOf first tables.tokens → ⊥
none_is_of-not_before none = (let k : true ≡ false = none.1.0 in cc)

-- ---- what users have granted

abbrev openid : Scopes
openid = record no_scopes { openid = true }

abbrev email : Scopes
email = record no_scopes { email = true }

granted_to-the_client_of_that_number : granted_to 0 1 (openid ∷ email ∷ []) ≡ email
unfolding granted_to
granted_to-the_client_of_that_number = refl

with_grant-joins : with_grant 0 1 openid (openid ∷ email ∷ []) ≡ openid ∷ record no_scopes { openid = true; email = true } ∷ []
unfolding with_grant joined
with_grant-joins = refl
