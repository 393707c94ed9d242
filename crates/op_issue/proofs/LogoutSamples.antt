-- Sign-outs of one user of a small registry, by computation. Sealing stays closed.
use Rattle.std.proofs.Common.{◌≡◌, ◌≤◌, ◌<◌, ℕ, true, false, List, [], ◌∷◌, codes, Some, None, Ok, refl, arith, inl}
use Rattle.sso_base.specs.Lists.{Has}
use Rattle.sso_base.specs.Words.{Text, IsWord, word_text}
use Rattle.sso_base.specs.declared.message.Message.{Message}
use Rattle.sso_base.proofs.Spelling.{IsBytes-from_all_bytes}
use Rattle.claim_set.specs.Reading.{claims_text}
use Rattle.jws_compact.specs.declared.sealing.Typ.TheVariants.{LogoutJwt}
use Rattle.jws_compact.specs.Jws.{written}
use Rattle.client_keys.specs.Opening.{verdict_for}
use Rattle.request_params.specs.Form.{form_text}
use Rattle.logout_token.specs.declared.claims.LogoutClaims.{LogoutClaims}
use Rattle.logout_token.specs.LogoutToken.{logout_members, logout_read}
use Rattle.logout_token.specs.Judging.{IsGoodLogoutToken}
use Rattle.client_registry.specs.Configuration.{Configuration}
use Rattle.client_registry.specs.ClientSets.{no_clients, with_client}
use Rattle.op_issue.proofs.SmallRegistry.{word, secret, shop, small, small_registry, signed, word_10}
use Rattle.op_issue.specs.declared.sign_out.SignOut.{SignOut}
use Rattle.op_issue.specs.LogoutTokens.{logout_id, wants_sid, logout_claims, issued_logout}
use Rattle.op_issue.specs.LogoutMessages.{logout_message, message_if, messages_from, logout_messages}
use Rattle.op_issue.specs.Ending.{MayEnd}
use Rattle.op_issue.specs.Told.{TellsAt, Tells}
use Rattle.op_issue.proofs.LogoutSealable.{is_read_back}
use Rattle.op_issue.proofs.OpenedTexts.{logout_opens}
use Rattle.op_issue.proofs.GoodLogouts.{is_good, ends}
use Rattle.op_issue.proofs.Identifiers.{ids_tell}
use Rattle.op_issue.proofs.MessagesTold.{tells_among, told_in_order}

abbrev out : SignOut
out = record { who = signed; at = 1000; word = word 9 }

abbrev logout_uri : Text
logout_uri = codes "https://a.b/out"

-- ---- for whom logout tokens are issued

word_9 : IsWord (word 9)
word_9 = record { long = refl; bytes = IsBytes-from_all_bytes (word 9) refl }

may_end : MayEnd small 0 out
may_end = record { registry = small_registry; client = omega arith; user = omega arith; sid = word_10; word = word_9; moment = omega arith }

not_for_a_second_client : MayEnd small 1 out → ⊥
not_for_a_second_client h = absurd (omega (arith, h.client))

not_after_the_last_moment : MayEnd small 0 (record out { at = 1099511000001 }) → ⊥
not_after_the_last_moment h = let moment : 1099511000001 ≤ 1099511000000 = h.moment in absurd (omega (arith, moment))

is_read : logout_read secret (issued_logout small 0 out) ≡ Ok (logout_claims small 0 out)
is_read = is_read_back small 0 out may_end

is_opened : verdict_for shop (issued_logout small 0 out) ≡ Ok (written LogoutJwt (claims_text (logout_members (logout_claims small 0 out))))
is_opened = logout_opens small 0 out shop refl may_end

-- ---- the claims

sid-is_wanted : wants_sid (Some shop) ≡ true
sid-is_wanted = refl

sid-is_not_wanted : wants_sid (Some (record shop { logout_session = false })) ≡ false
sid-is_not_wanted = refl

sid-of_nobody : wants_sid None ≡ false
sid-of_nobody = refl

abbrev claims_with_sid : LogoutClaims
claims_with_sid =
    record {
      iss = codes "https://a.b";
      aud = codes "shop" ∷ [];
      iat = 1000;
      exp = 1120;
      jti = logout_id (word 9) 0;
      sub = Some (codes "alice");
      sid = Some (word_text (word 10));
    }

claims-of_shop : logout_claims small 0 out ≡ claims_with_sid
unfolding logout_claims
claims-of_shop = refl

claims-without_sid : logout_claims (record small { clients = (record shop { logout_session = false }) ∷ [] }) 0 out ≡ record claims_with_sid { sid = None }
unfolding logout_claims
claims-without_sid = refl

good_to_the_last_second : IsGoodLogoutToken (codes "https://a.b") (codes "shop") (logout_claims small 0 out) 1179
good_to_the_last_second = is_good small 0 out 1179 (omega arith) (omega arith)

not_good_a_second_later : IsGoodLogoutToken (codes "https://a.b") (codes "shop") (logout_claims small 0 out) 1180 → ⊥
not_good_a_second_later h = absurd (omega (arith, ends small 0 out (codes "https://a.b") (codes "shop") 1180 h))

-- ---- the identifiers

none_is_one : ◌≡◌ {A = ℕ} 0 1 → ⊥
none_is_one h = absurd (omega (arith, h))

ids_of_two_clients_differ : logout_id (word 9) 0 ≡ logout_id (word 9) 1 → ⊥
ids_of_two_clients_differ same = none_is_one ((ids_tell (word 9) (word 9) 0 1 word_9 word_9 (omega arith) (omega arith) same).1)

-- ---- the messages

abbrev to_shop : Message
to_shop = record { to = logout_uri; auth = None; body = Some (form_text ((codes "logout_token", issued_logout small 0 out) ∷ [])) }

message-is_a_post : logout_message small out 0 logout_uri ≡ to_shop
message-is_a_post = refl

message-where_answered : message_if small out 0 true (Some logout_uri) ≡ to_shop ∷ []
message-where_answered = refl

no_message-where_not_answered : message_if small out 0 false (Some logout_uri) ≡ []
no_message-where_not_answered = refl

no_message-without_a_uri : message_if small out 0 true None ≡ []
no_message-without_a_uri = refl

-- of three clients the second was not answered, and the third has no logout URI
only_the_first : messages_from small out (with_client 2 (with_client 0 no_clients)) 0 (shop ∷ shop ∷ (record shop { logout = None }) ∷ []) ≡ to_shop ∷ []
unfolding no_clients
only_the_first = refl

-- in the order of the registry
both_in_order : messages_from small out (with_client 0 (with_client 1 no_clients)) 0 (shop ∷ shop ∷ []) ≡ to_shop ∷ logout_message small out 1 logout_uri ∷ []
unfolding no_clients
both_in_order = refl

tells_shop : logout_messages small out (with_client 0 no_clients) ≡ to_shop ∷ []
unfolding logout_messages no_clients
tells_shop = refl

tells_nobody : logout_messages small out no_clients ≡ []
unfolding logout_messages no_clients
tells_nobody = refl

-- ---- whom a message tells

told_first : TellsAt small out (with_client 0 no_clients) 0 to_shop
unfolding no_clients
told_first = record { client = shop; client_is = refl; answers = refl; uri = logout_uri; uri_is = refl; message_is = refl }

shop_is_told : Tells small out (with_client 0 no_clients) to_shop
shop_is_told = (0, told_first)

not_as_a_second_client : TellsAt small out (with_client 0 no_clients) 1 to_shop → ⊥
not_as_a_second_client t = let none : None ≡ Some t.client = t.client_is in cc

shop_is_among : Has (to_shop ∷ []) to_shop
shop_is_among = inl refl

nobody_is_among : Has {A = Message} [] to_shop → ⊥
nobody_is_among h = h

there_is_none : (l : List Message) → l ≡ [] → Has l to_shop → ⊥
there_is_none [] is h = h
there_is_none (m ∷ l) is h = cc

not_where_nobody_is_answered : Tells small out no_clients to_shop → ⊥
not_where_nobody_is_answered t = there_is_none (logout_messages small out no_clients) tells_nobody (tells_among small out no_clients to_shop t)

-- ---- in the order of the registry

-- the same registry with a second client
abbrev two : Configuration
two = record small { clients = shop ∷ (record shop { id = codes "news" }) ∷ [] }

abbrev to_first : Message
to_first = logout_message two out 0 logout_uri

abbrev to_second : Message
to_second = logout_message two out 1 logout_uri

both_answered : logout_messages two out (with_client 0 (with_client 1 no_clients)) ≡ to_first ∷ to_second ∷ []
unfolding logout_messages no_clients
both_answered = refl

told_one_after_another : (i : ℕ) × (j : ℕ) × (i < j) × TellsAt two out (with_client 0 (with_client 1 no_clients)) i to_first × TellsAt two out (with_client 0 (with_client 1 no_clients)) j to_second
told_one_after_another = told_in_order two out (with_client 0 (with_client 1 no_clients)) [] [] [] to_first to_second both_answered
