-- The definitions computed on small cases: what each accepts, and what it refuses.
use Rattle.std.proofs.Common.{◌≡◌, ℕ, ◌++◌, true, false, List, [], ◌∷◌, codes, replicate, Some, None, Result, Ok, Err, refl, sym, ap, ◌∙◌, arith}
use Rattle.serde_json.specs.Data.{string, boolean, number, unsigned, Members, no_members, member, put}
use Rattle.sso_base.specs.declared.message.Answered.{Answered}
use Rattle.sso_base.specs.Words.{Word, IsWord, word_text}
use Rattle.sso_base.proofs.OnLiterals.{base64url_on_literals}
use Rattle.sso_base.proofs.Spelling.{IsBytes-from_all_bytes}
use Rattle.claim_set.specs.declared.no.ClaimNo.TheVariants.{NotJson, NotObject, WrongKind}
use Rattle.claim_set.specs.declared.no.ClaimNo.TheVariants as claims
use Rattle.claim_set.proofs.OnLiterals.{claims_on_literals}
use Rattle.client_registry.specs.declared.records.User.{User}
use Rattle.client_registry.specs.Configuration.{Configuration}
use Rattle.client_registry.specs.Records.{usual_settings}
use Rattle.oidc_words.specs.declared.scopes.Scopes.{Scopes}
use Rattle.oidc_words.specs.Claims.{profile_claims, email_claims, address_claims, phone_claims, is_claim_of}
use Rattle.oidc_words.specs.Scopes.{no_scopes, all_scopes}
use Rattle.userinfo.specs.declared.header.Bearer.TheVariants.{Absent, Unreadable, Given}
use Rattle.userinfo.specs.declared.no.InfoNo.{InfoNo}
use Rattle.userinfo.specs.declared.no.InfoNo.TheVariants as no
use Rattle.userinfo.specs.Held.{is_wanted, members_with, text_claims, user_claims, held_members, info_members}
use Rattle.userinfo.specs.Header.{bearer_read, IsBearer}
use Rattle.userinfo.specs.Request.{info_message}
use Rattle.userinfo.specs.Answer.{info_read, IsUserInfo, hides_memory}
use Rattle.userinfo.proofs.BearerHeaders.{bearer_is_read}
use Rattle.userinfo.proofs.Answering.{read_is_info}

-- ---- what is wanted

abbrev email_only : Scopes
email_only = record { openid = true; profile = false; email = true; address = false; phone = false }

wanted-of_a_scope_value : is_wanted email_only [] (codes "email_verified") ≡ true
unfolding is_claim_of profile_claims email_claims
wanted-of_a_scope_value = refl

wanted-by_its_name : is_wanted email_only (codes "locale" ∷ codes "name" ∷ []) (codes "name") ≡ true
unfolding is_claim_of profile_claims email_claims address_claims phone_claims
wanted-by_its_name = refl

unwanted-of_another_scope_value : is_wanted email_only [] (codes "phone_number") ≡ false
unfolding is_claim_of profile_claims email_claims address_claims phone_claims
unwanted-of_another_scope_value = refl

unwanted-no_standard_claim : is_wanted all_scopes (codes "sub" ∷ []) (codes "sub") ≡ false
unfolding is_claim_of profile_claims email_claims address_claims phone_claims
unwanted-no_standard_claim = refl

-- ---- a user with a name, an address to write to, and a claim that is no standard claim

abbrev all_of_alice : Members
all_of_alice =
    member (codes "email") (string (codes "a@b.org")) (
    member (codes "email_verified") (boolean true) (
    member (codes "name") (string (codes "Alice")) (
    member (codes "shoe_size") (number (unsigned 38)) no_members)))

abbrev alice : User
alice = record { id = codes "alice"; salt = []; rounds = 1; proof = []; claims = codes "{\"email\":\"a@b.org\",\"email_verified\":true,\"name\":\"Alice\",\"shoe_size\":38}" }

abbrev here : Configuration
here = record {
  provider = record { issuer = []; authorize = []; token = []; userinfo = None };
  prefix = [];
  listen = [];
  secure = false;
  users = alice ∷ [];
  clients = [];
  parties = [];
  subjects = (codes "x7" ∷ []) ∷ [];
  lasting = false;
  full_pages = false;
  title = [];
  settings = usual_settings;
}

members_with-two_of_three : members_with (λ k. is_wanted email_only [] k) all_of_alice ≡ member (codes "email") (string (codes "a@b.org")) (member (codes "email_verified") (boolean true) no_members)
unfolding is_claim_of profile_claims email_claims address_claims phone_claims
members_with-two_of_three = refl

members_with-none : members_with (λ k. false) all_of_alice ≡ no_members
members_with-none = refl

text_claims-of_alice : text_claims alice.claims ≡ all_of_alice
unfolding text_claims claims_on_literals
text_claims-of_alice = refl

text_claims-no_object : text_claims (codes "[]") ≡ no_members
unfolding text_claims claims_on_literals
text_claims-no_object = refl

user_claims-of_alice : user_claims here 0 ≡ all_of_alice
unfolding user_claims
user_claims-of_alice = text_claims-of_alice

user_claims-no_such_user : user_claims here 1 ≡ no_members
unfolding user_claims
user_claims-no_such_user = refl

held-of_scope_values : held_members here 0 email_only [] ≡ member (codes "email") (string (codes "a@b.org")) (member (codes "email_verified") (boolean true) no_members)
unfolding held_members
held-of_scope_values = ap (members_with (is_wanted email_only [])) user_claims-of_alice ∙ members_with-two_of_three

held-asked_and_not_held : held_members here 0 no_scopes (codes "nickname" ∷ codes "name" ∷ codes "sub" ∷ codes "shoe_size" ∷ []) ≡ member (codes "name") (string (codes "Alice")) no_members
unfolding held_members is_claim_of profile_claims email_claims address_claims phone_claims
held-asked_and_not_held = ap (members_with (is_wanted no_scopes (codes "nickname" ∷ codes "name" ∷ codes "sub" ∷ codes "shoe_size" ∷ []))) user_claims-of_alice

info-of_scope_values : info_members here 0 0 email_only [] ≡ member (codes "email") (string (codes "a@b.org")) (member (codes "email_verified") (boolean true) (member (codes "sub") (string (codes "x7")) no_members))
unfolding info_members
info-of_scope_values = ap (put (codes "sub") (string (codes "x7"))) held-of_scope_values

info-of_nothing : info_members here 0 1 all_scopes (codes "name" ∷ []) ≡ member (codes "sub") (string []) no_members
unfolding info_members held_members user_claims
info-of_nothing = refl

-- ---- headers

-- 31 zero bytes and a one; by another program its text is 41 times `A` and then `AE`
abbrev one : Word
one = replicate 31 0 ++ 1 ∷ []

is_word-one : IsWord one
is_word-one = record { long = refl; bytes = IsBytes-from_all_bytes one refl }

abbrev header_of_one : List ℕ
header_of_one = codes "BEARER AAAAAAAAAAAAAAAAAAAAAAAAAAAAAAAAAAAAAAAAAAE"

text-one : word_text one ≡ codes "AAAAAAAAAAAAAAAAAAAAAAAAAAAAAAAAAAAAAAAAAAE"
unfolding base64url_on_literals
text-one = refl

is_bearer-one : IsBearer header_of_one one
is_bearer-one = record { scheme = codes "BEARER"; name = refl; word = is_word-one; text = ap (λ t. codes "BEARER " ++ t) (sym text-one) }

read-one : bearer_read (Some header_of_one) ≡ Given one
read-one = bearer_is_read header_of_one one is_bearer-one

read-no_word : bearer_read (Some (codes "bearer x")) ≡ Unreadable
unfolding bearer_read base64url_on_literals
read-no_word = refl

read-the_scheme_alone : bearer_read (Some (codes "Bearer")) ≡ Unreadable
unfolding bearer_read
read-the_scheme_alone = refl

read-another_scheme : bearer_read (Some (codes "Basic x")) ≡ Absent
unfolding bearer_read
read-another_scheme = refl

read-no_header : bearer_read None ≡ Absent
unfolding bearer_read
read-no_header = refl

not_bearer-no_word : (w : Word) → IsBearer (codes "bearer x") w → ⊥
not_bearer-no_word w h = cc (sym read-no_word ∙ bearer_is_read (codes "bearer x") w h)

message-of_a_token : info_message (codes "https://a.b/u") (codes "x7") ≡ record { to = codes "https://a.b/u"; auth = Some (codes "Bearer x7"); body = None }
unfolding info_message
message-of_a_token = refl

-- ---- answers

abbrev answer : ℕ → List ℕ → Answered
answer status body = record { status = status; body = body }

abbrev refused : InfoNo → Result (List ℕ) InfoNo
refused e = Err e

read-a_subject : info_read (answer 200 (codes "{\"name\":\"Alice\",\"sub\":\"x7\"}")) ≡ Ok (codes "x7")
unfolding info_read claims_on_literals
read-a_subject = refl

refused-another_status : info_read (answer 401 (codes "{\"sub\":\"x7\"}")) ≡ refused (no.Status 401)
unfolding info_read
refused-another_status = refl

refused-no_json : info_read (answer 200 (codes "{")) ≡ refused (no.Claims NotJson)
unfolding info_read claims_on_literals
refused-no_json = refl

refused-no_object : info_read (answer 200 (codes "[]")) ≡ refused (no.Claims NotObject)
unfolding info_read claims_on_literals
refused-no_object = refl

refused-a_number : info_read (answer 200 (codes "{\"sub\":7}")) ≡ refused (no.Claims (WrongKind (codes "sub")))
unfolding info_read claims_on_literals
refused-a_number = refl

refused-no_subject : info_read (answer 200 (codes "{\"name\":\"Alice\"}")) ≡ refused no.NoSub
unfolding info_read claims_on_literals
refused-no_subject = refl

info-of_the_subject : IsUserInfo (answer 200 (codes "{\"name\":\"Alice\",\"sub\":\"x7\"}")) (codes "x7")
info-of_the_subject = read_is_info (answer 200 (codes "{\"name\":\"Alice\",\"sub\":\"x7\"}")) (codes "x7") read-a_subject

not_info-another_status : (t : List ℕ) → IsUserInfo (answer 401 (codes "{\"sub\":\"x7\"}")) t → ⊥
not_info-another_status t h = omega (arith, h.status)

hides-where_memory_ran_out_inside : hides_memory (no.Claims claims.NoMemory) ≡ true
hides-where_memory_ran_out_inside = refl

hides-not_in_a_cause : hides_memory (no.Claims NotJson) ≡ false
hides-not_in_a_cause = refl
