-- Texts: which of those that are written read as an ID Token, and which as a logout token.
use Rattle.std.proofs.Common.{◌≡◌, ℕ, ◌<◌, Bool, true, false, cond, List, [], ◌∷◌, length, Option, Some, None, Result, Ok, Err, is_some, codes, refl, sym, ap, ◌∙◌, subst}
use Rattle.std.specs.List.{AllByRecursion}
use Rattle.std.specs.Result.{result_ok}
use Rattle.sso_base.specs.Words.{Word, Text, IsWord, fresh_word, word_text}
use Rattle.sso_model.specs.Rows.{Answered, Sent}
use Rattle.sso_model.specs.Lists.{Has}
use Rattle.jws_compact.specs.Jws.{verdict as opened_as}
use Rattle.jws_compact.specs.declared.unsealing.Unsealed.{Unsealed}
use Rattle.jws_compact.specs.declared.no.JwsNo.{JwsNo}
use Rattle.client_keys.proofs.EachKey.{read_once}
use Rattle.jws_compact.proofs.Opening.{same_payload}
use Rattle.client_registry.specs.Configuration.{Configuration, subject_at}
use Rattle.client_registry.specs.Numbers.{client_sealing, party_row, party_client}
use Rattle.id_token.specs.declared.claims.IdClaims.{IdClaims}
use Rattle.id_token.specs.Reading.{id_read}
use Rattle.id_token.specs.Token.{IsIdToken}
use Rattle.id_token.proofs.Tokens.{unopened, id_read-token}
use Rattle.logout_token.specs.declared.claims.LogoutClaims.{LogoutClaims}
use Rattle.logout_token.specs.LogoutToken.{logout_read}
use Rattle.logout_token.specs.Token.{IsLogoutToken}
use Rattle.logout_token.proofs.Tokens.{logout_read-unopened, IsLogoutToken-read}
use Rattle.auth_request.specs.declared.wish.Wish.{Wish}
use Rattle.auth_request.specs.Values.{IsWishValue}
use Rattle.login_request.specs.Parties.{MayAsk}
use Rattle.login_request.specs.Request.{login_object}
use Rattle.token_kinds.proofs.Apart.{same_claims, nothing_stands}
use Rattle.op_issue.specs.declared.issuing.Authentication.{Authentication}
use Rattle.op_issue.specs.declared.sign_out.SignOut.{SignOut}
use Rattle.op_issue.specs.IdTokens.{hash_of, id_claims, issued_id}
use Rattle.op_issue.specs.Issued.{if_wished}
use Rattle.op_issue.specs.Issuing.{MayIssue}
use Rattle.op_issue.specs.Ending.{MayEnd}
use Rattle.op_issue.specs.LogoutTokens.{logout_claims, issued_logout}
use Rattle.op_issue.proofs.Sealable.{is_read_back}
use Rattle.op_issue.proofs.LogoutSealable as logouts
use Rattle.op_answer.proofs.TokensApart.{id_is_no_logout}
use Rattle.rp_answer.proofs.ObjectsApart.{object_no_id, object_no_logout}
use Rattle.sso_places.specs.Site.{Site, IsSite, client_of_party}
use Rattle.sso_places.specs.World.{World}
use Rattle.sso_places.specs.Tokens.{TokenText, token_if, is_sealed}
use Rattle.sso_places.specs.Written.{object_written}
use Rattle.sso_places.proofs.Objects.{may_ask}
use Rattle.sign_on.proofs.Invariant.{IsTokenAnswered, IsTokenSent, IsTokenBound}

-- ---- what is read is sealed

read_by : (k t : Text) (x : IdClaims) (r : Result Unsealed JwsNo) → opened_as k t ≡ r → id_read k t ≡ Ok x → is_sealed k t ≡ true
read_by k t x (Ok u) opened read = (let S : Result Unsealed JwsNo → Bool = λ o. is_some (result_ok o) in ap S opened)
read_by k t x (Err why) opened read = (let never = sym read ∙ unopened k t why opened in cc)

pub read_is_sealed : (k t : Text) (x : IdClaims) → id_read k t ≡ Ok x → is_sealed k t ≡ true
read_is_sealed k t x read = read_by k t x (opened_as k t) refl read

logout_by : (k t : Text) (y : LogoutClaims) (r : Result Unsealed JwsNo) → opened_as k t ≡ r → logout_read k t ≡ Ok y → is_sealed k t ≡ true
logout_by k t y (Ok u) opened read = (let S : Result Unsealed JwsNo → Bool = λ o. is_some (result_ok o) in ap S opened)
logout_by k t y (Err why) opened read = (let never = sym read ∙ logout_read-unopened k t why opened in cc)

pub logout_is_sealed : (k t : Text) (y : LogoutClaims) → logout_read k t ≡ Ok y → is_sealed k t ≡ true
logout_is_sealed k t y read = logout_by k t y (opened_as k t) refl read

-- ---- whatever key reads a text, it reads the same claims

pub id_once : (k l t : Text) (x y : IdClaims) → id_read k t ≡ Ok x → id_read l t ≡ Ok y → x ≡ y
unfolding id_read
id_once k l t x y one two = read_once _ _ k l t x y one two

logout_once : (k l t : Text) (x y : LogoutClaims) → logout_read k t ≡ Ok x → logout_read l t ≡ Ok y → x ≡ y
unfolding logout_read
logout_once k l t x y one two = read_once _ _ k l t x y one two

-- ---- a request object is no token

all_if : (P : TokenText → Type 0) (b : Bool) (t : TokenText) → P t → AllByRecursion P (cond b (t ∷ []) [])
all_if P true t says = (says, tt)
all_if P false t says = tt

module _ (s : Site) (n : ℕ) (fresh : List Word) (site : IsSite s) (known : n < length s.configuration.parties) (state : IsWord (fresh_word fresh 1)) (nonce : IsWord (fresh_word fresh 2)) where
  abbrev c : Configuration
  c = s.configuration

  abbrev object : TokenText
  object = (client_of_party s n, login_object (party_client c n) (party_row c n) (s.trusts n).issuer (fresh_word fresh 1) (fresh_word fresh 2))

  abbrev may : MayAsk c n (s.trusts n).issuer (fresh_word fresh 1) (fresh_word fresh 2)
  may = may_ask s n (fresh_word fresh 1) (fresh_word fresh 2) site known state nonce

  pub object_answered : (answered : List Answered) → AllByRecursion (IsTokenAnswered c answered) (object_written s n fresh)
  object_answered answered =
      all_if (IsTokenAnswered c answered) (party_row c n).signed object
      (λ key x given read is. absurd (object_no_id c n (s.trusts n).issuer (fresh_word fresh 1) (fresh_word fresh 2) key x may read))

  pub object_sent : (world : World) (sent : List Sent) → AllByRecursion (IsTokenSent c world sent) (object_written s n fresh)
  object_sent world sent =
      all_if (IsTokenSent c world sent) (party_row c n).signed object
      (λ key y read. absurd (object_no_logout c n (s.trusts n).issuer (fresh_word fresh 1) (fresh_word fresh 2) key y may read))

  pub object_bound : (world : World) → AllByRecursion (IsTokenBound c world) (object_written s n fresh)
  object_bound world =
      all_if (IsTokenBound c world) (party_row c n).signed object
      (λ key x given read is. absurd (object_no_id c n (s.trusts n).issuer (fresh_word fresh 1) (fresh_word fresh 2) key x may read))

-- ---- an ID Token that the provider wrote

pub issued_answered : (c : Configuration) (wish : Wish) (who : Authentication) (at : ℕ) (access code : Option Word) (answered : List Answered) (row : Answered) → MayIssue c wish who at → IsWishValue wish
    → Has answered row → row.nonce ≡ wish.nonce → row.client ≡ wish.client → row.user ≡ who.user → row.sid ≡ word_text who.sid
    → IsTokenAnswered c answered (wish.client, issued_id c wish who at access code)
unfolding id_claims
issued_answered c wish who at access code answered row may value has nonce client user sid key x given read is =
    let same : id_claims c wish who at access code ≡ x = id_once (client_sealing c wish.client) key (issued_id c wish who at access code) (id_claims c wish who at access code) x (is_read_back c wish who at access code may value) read in
    let Known : ℕ → Type 0 = λ u. u < length c.users in
    record {
      row = row;
      has = has;
      nonce_is = nonce ∙ ap (λ (y : IdClaims). y.nonce) same ∙ is;
      client_is = client;
      known = subst Known (sym user) may.user;
      subject = ap (subject_at c wish.client) user ∙ ap (λ (y : IdClaims). y.sub) same;
      sid = sym (ap (λ (y : IdClaims). y.sid) same) ∙ ap (λ (t : Text). Some t) (sym sid);
    }

-- it has the half digests of the code and of the access token that it was written with
pub issued_hashes : (c : Configuration) (wish : Wish) (who : Authentication) (at : ℕ) (access code : Option Word) (key : Text) (x : IdClaims) → MayIssue c wish who at → IsWishValue wish
    → id_read key (issued_id c wish who at access code) ≡ Ok x → (x.c_hash ≡ hash_of code) × (x.at_hash ≡ hash_of access)
unfolding id_claims
issued_hashes c wish who at access code key x may value read =
    let same : id_claims c wish who at access code ≡ x = id_once (client_sealing c wish.client) key (issued_id c wish who at access code) (id_claims c wish who at access code) x (is_read_back c wish who at access code may value) read in
    (sym (ap (λ (y : IdClaims). y.c_hash) same), sym (ap (λ (y : IdClaims). y.at_hash) same))

-- it is no logout token
pub issued_unsent : (c : Configuration) (wish : Wish) (who : Authentication) (at : ℕ) (access code : Option Word) (world : World) (sent : List Sent) → MayIssue c wish who at → IsWishValue wish
    → IsTokenSent c world sent (wish.client, issued_id c wish who at access code)
issued_unsent c wish who at access code world sent may value key y read = absurd (id_is_no_logout c wish who at access code key y may value read)

-- what is true for the token of an answer, if it has one, is true for what the answer writes
pub token_where : (P : TokenText → Type 0) (client : ℕ) (o : Option ℕ) (b : Bool) (t : Text) → o ≡ Some client → (b ≡ true → P (client, t)) → AllByRecursion P (token_if o (if_wished b t))
token_where P client o true t is says =
    let Q : Option ℕ → Type 0 = λ k. AllByRecursion P (token_if k (Some t)) in
    subst Q (sym is) (says refl, tt)
token_where P client o false t is says =
    let Q : Option ℕ → Type 0 = λ k. AllByRecursion P (token_if k None) in
    subst Q (sym is) tt

pub token_written : (P : TokenText → Type 0) (client : ℕ) (o : Option ℕ) (b : Bool) (t : Text) → o ≡ Some client → P (client, t) → AllByRecursion P (token_if o (if_wished b t))
token_written P client o b t is says = token_where P client o b t is (λ wished. says)

-- ---- a logout token that the provider wrote

-- it is read as its claims
pub logout_claims_are : (c : Configuration) (client : ℕ) (out : SignOut) (key : Text) (y : LogoutClaims) → MayEnd c client out → logout_read key (issued_logout c client out) ≡ Ok y → logout_claims c client out ≡ y
logout_claims_are c client out key y may read =
    logout_once (client_sealing c client) key (issued_logout c client out) (logout_claims c client out) y (logouts.is_read_back c client out may) read

-- and it has no nonce, so it is no ID Token that counts
logout_no_nonce : (c : Configuration) (client : ℕ) (out : SignOut) (key : Text) (x : IdClaims) (given : Text) → MayEnd c client out → id_read key (issued_logout c client out) ≡ Ok x → x.nonce ≡ Some given → ⊥
logout_no_nonce c client out key x given may read is =
    let k : Text = client_sealing c client in
    let t : Text = issued_logout c client out in
    let told : IsLogoutToken k t (logout_claims c client out) = IsLogoutToken-read k t (logout_claims c client out) (logouts.is_read_back c client out may) in
    let id : IsIdToken key t x = id_read-token key t x read in
    let payload = same_payload k key told.header id.header told.payload id.payload t told.sealed id.sealed in
    let claims = same_claims told.claims id.claims told.payload id.payload payload told.reads id.reads in
    nothing_stands (codes "nonce") given x.nonce told.claims id.claims claims told.has.no_nonce id.has.nonce is

pub logout_unanswered : (c : Configuration) (client : ℕ) (out : SignOut) (answered : List Answered) → MayEnd c client out → IsTokenAnswered c answered (client, issued_logout c client out)
logout_unanswered c client out answered may key x given read is = absurd (logout_no_nonce c client out key x given may read is)

pub logout_unbound : (c : Configuration) (client : ℕ) (out : SignOut) (world : World) → MayEnd c client out → IsTokenBound c world (client, issued_logout c client out)
logout_unbound c client out world may key x given read is = absurd (logout_no_nonce c client out key x given may read is)
