-- The definitions of renewals and of families that begin, computed: what each accepts, and what it refuses.
use Rattle.std.proofs.Common.{◌≡◌, true, false, [], ◌∷◌, List, Some, None, Err, refl}
use Rattle.sso_base.specs.Words.{Word}
use Rattle.oidc_words.specs.Scopes.{no_scopes}
use Rattle.userinfo.specs.declared.header.Bearer.TheVariants.{Given}
use Rattle.token_endpoint.specs.declared.no.GrantNo.TheVariants as no
use Rattle.token_endpoint.specs.declared.error.TokenError.TheVariants.{InvalidRequest, InvalidGrant}
use Rattle.op_exchange.specs.declared.ask.OpAsk.{OpAsk}
use Rattle.op_exchange.specs.declared.ask.OpAsk.TheVariants as op_ask
use Rattle.op_exchange.specs.declared.reply.OpReply.TheVariants as op_reply
use Rattle.refresh_answer.specs.declared.asks.RefreshAsk.TheVariants as ask
use Rattle.refresh_answer.specs.declared.asks.OwnReply.TheVariants as own
use Rattle.refresh_answer.specs.declared.rows.FamilyRow.{FamilyRow}
use Rattle.refresh_answer.specs.declared.rows.RefreshRow.{RefreshRow}
use Rattle.refresh_answer.specs.Rows.{new_token, old_token}
use Rattle.refresh_rows.specs.Booked.{Booked}
use Rattle.refresh_book.specs.declared.renewing.Renewal.TheVariants.{Unread, Refused, Full, Reused, Rotated}
use Rattle.refresh_book.specs.Keeps.{is_refresh_ask, bearer_in}
use Rattle.refresh_book.specs.Renewing.{reply_of, renewal_of, refusal}
use Rattle.refresh_book.specs.Beginning.{is_spent, gives_tokens, first_of, token_of}
use Rattle.refresh_book.specs.Prepared.{is_token, alone}

abbrev one : Word
one = 1 ∷ []

abbrev two : Word
two = 2 ∷ []

abbrev three : Word
three = 3 ∷ []

abbrev drawn : List Word
drawn = two ∷ three ∷ []

-- the family of the pair 3, of the client 0
abbrev family : FamilyRow
family = record { by = 3; code = one; client = 0; user = 0; scopes = no_scopes; asked = []; begun = 10 }

abbrev current : RefreshRow
current = new_token 3 one

abbrev book : Booked
book = record { families = family ∷ []; tokens = current ∷ []; accesses = []; last = 20; family_room = 1; token_room = 1; access_room = 1 }

-- ---- renewals

current-is_rotated : renewal_of book drawn 0 (Some current) ≡ Rotated current two three no_scopes
current-is_rotated = refl

old-is_reused : renewal_of book drawn 0 (Some (old_token current)) ≡ Reused 3 0
old-is_reused = refl

another_client-is_refused : renewal_of book drawn 1 (Some current) ≡ Refused InvalidGrant
another_client-is_refused = refl

unknown-is_refused : renewal_of book drawn 0 None ≡ Refused InvalidGrant
unknown-is_refused = refl

another_family-is_refused : renewal_of book drawn 0 (Some (new_token 4 one)) ≡ Refused InvalidGrant
another_family-is_refused = refl

held_word-is_full : renewal_of book (two ∷ one ∷ []) 0 (Some current) ≡ Full
held_word-is_full = refl

no_form-is_refused : refusal no.BadForm ≡ Refused InvalidRequest
no_form-is_refused = refl

no_memory-is_unread : refusal no.NoMemory ≡ Unread
no_memory-is_unread = refl

reused-is_refused : reply_of (Reused 3 0) ≡ own.Refused InvalidGrant
reused-is_refused = refl

-- ---- requests

refresh-is_one : is_refresh_ask {A = OpAsk} (ask.Refresh (Err no.BadForm)) ≡ true
refresh-is_one = refl

inner-is_none : is_refresh_ask (alone op_ask.NotHere) ≡ false
inner-is_none = refl

bearer-is_found : bearer_in (Some (op_ask.Info (Given one))) ≡ Some one
bearer-is_found = refl

bearer-of_another_request : bearer_in (Some op_ask.NotHere) ≡ None
bearer-of_another_request = refl

token_request-is_one : is_token (Some (op_ask.Token (Err no.BadForm))) ≡ true
token_request-is_one = refl

token_request-is_no_other : is_token (Some op_ask.NotHere) ≡ false
token_request-is_no_other = refl

-- ---- families that begin

tokens-are_given : gives_tokens (Some (op_reply.Tokens one [])) ≡ true
tokens-are_given = refl

tokens-are_not_given : gives_tokens (Some op_reply.NotHere) ≡ false
tokens-are_not_given = refl

first-of_a_family : first_of (Some family) two ≡ Some two
first-of_a_family = refl

first-of_none : first_of None two ≡ None
first-of_none = refl

token-of_a_family : token_of (Some family) two ≡ Some (new_token 3 two)
token-of_a_family = refl

spent-is_of_its_family : is_spent (Some (record { code = one; client = 0 })) family ≡ true
spent-is_of_its_family = refl

spent-is_of_its_client : is_spent (Some (record { code = one; client = 1 })) family ≡ false
spent-is_of_its_client = refl

spent-is_of_its_code : is_spent (Some (record { code = two; client = 0 })) family ≡ false
spent-is_of_its_code = refl
