-- No definition of reading refuses for want of memory.
use Rattle.std.proofs.Common.{◌≡◌, ◌≢◌, ◌==◌, ℕ, List, [], ◌∷◌, ◌++◌, length, Bool, true, false, not, nat_lt, Option, Some, None, Result, Ok, Err, IsOk, codes, refl, sym, ap, ◌∙◌, subst, true≢false}
use Rattle.std.specs.Prelude.{IfErr}
use Rattle.std.specs.List.{AllByRecursion}
use Rattle.std.specs.Str.{bytes_eq}
use Rattle.serde_json.specs.Data.{Data, Members}
use Rattle.serde_json.specs.Find.{get_member, as_object, as_str}
use Rattle.claim_set.specs.Kinds.{of_kind, kind_found}
use Rattle.hmac256.specs.Hmac.{hmac_of}
use Rattle.sso_base.specs.Base64Url.{unb64u, unb64u_32}
use Rattle.sso_base.specs.Refusals.{first_refusal, and_then_as, demand, forbid}
use Rattle.sso_base.specs.declared.message.Answered.{Answered}
use Rattle.sso_base.proofs.Statuses.{is_200}
use Rattle.claim_set.specs.declared.no.ClaimNo.{ClaimNo}
use Rattle.claim_set.specs.declared.no.ClaimNo.TheVariants as claim_no
use Rattle.claim_set.specs.Reading.{first_float, if_whole, if_members, if_read, json_in, Reads, claims_read}
use Rattle.claim_set.proofs.Parsing.{read_reads}
use Rattle.jws_compact.specs.declared.no.JwsNo.{JwsNo}
use Rattle.jws_compact.specs.declared.no.JwsNo.TheVariants as jws_no
use Rattle.jws_compact.specs.declared.unsealing.Unsealed.{Unsealed}
use Rattle.jws_compact.specs.Jws.{three_parts, read_object, is_hs256, has_crit, verdict}
use Rattle.id_token.specs.declared.claims.IdClaims.{IdClaims}
use Rattle.id_token.specs.declared.no.IdNo.{IdNo}
use Rattle.id_token.specs.declared.no.IdNo.TheVariants as id_no
use Rattle.id_token.specs.Token.{id_refusals}
use Rattle.id_token.proofs.Refused.{id_of-refused, id_of-accepted}
use Rattle.id_token.specs.Reading as id_token
use Rattle.token_endpoint.specs.declared.reading.Tokens.{Tokens}
use Rattle.token_endpoint.specs.declared.no.TokensNo.{TokensNo}
use Rattle.token_endpoint.specs.declared.no.TokensNo.TheVariants as tokens_no
use Rattle.token_endpoint.specs.Answer as tokens
use Rattle.token_endpoint.proofs.Responses.{other_status, unread, refused, accepted}
use Rattle.userinfo.specs.declared.no.InfoNo.{InfoNo}
use Rattle.userinfo.specs.declared.no.InfoNo.TheVariants as info_no
use Rattle.userinfo.specs.Answer as info
use Rattle.logout_token.specs.declared.claims.LogoutClaims.{LogoutClaims}
use Rattle.logout_token.specs.declared.no.LogoutNo.{LogoutNo}
use Rattle.logout_token.specs.declared.no.LogoutNo.TheVariants as logout_no
use Rattle.logout_token.specs.LogoutToken as logout_token
use Rattle.logout_token.specs.Token.{logout_refusals}
use Rattle.logout_token.proofs.Refused.{logout_of-refused, logout_of-accepted}
use Rattle.logout_token.proofs.Tokens.{IsLogoutToken-read}
use Rattle.rp_exchange.specs.Asks.{is_id_refusal, is_tokens_refusal, is_info_refusal, is_logout_refusal, is_id_read, is_info_read, is_logout_read}

-- ---- what each refusal keeps

pub if_err : {A E : Type 0} (P : E → Type 0) (r : Result A E) → ((x : E) → r ≡ Err x → P x) → IfErr r P
if_err P (Ok a) each = tt
if_err P (Err e) each = each e refl

demand_keeps : {A B E : Type 0} (P : E → Type 0) (e : E) (o : Option A) (f : A → Result B E) (x : E) → demand e o f ≡ Err x → P e → ((a : A) → f a ≡ Err x → P x) → P x
demand_keeps P e None f x h p rest = let same : e ≡ x = cc in subst P same p
demand_keeps P e (Some a) f x h p rest = rest a h

forbid_keeps : {B E : Type 0} (P : E → Type 0) (e : E) (b : Bool) (r : Result B E) (x : E) → forbid e b r ≡ Err x → P e → (r ≡ Err x → P x) → P x
forbid_keeps P e true r x h p rest = let same : e ≡ x = cc in subst P same p
forbid_keeps P e false r x h p rest = rest h

abbrev ok_of : {B E : Type 0} → B → Result B E
ok_of v = Ok v

ok_keeps : {B E : Type 0} (P : E → Type 0) (v : B) (x : E) → ok_of v ≡ Err x → P x
ok_keeps P v x h = absurd (cc)

is_ok_keeps : {A E : Type 0} (P : E → Type 0) (r : Result A E) → IsOk r → IfErr r P
is_ok_keeps P (Ok a) h = tt
is_ok_keeps P (Err e) h = absurd (true≢false (sym h))

-- the first of these refusals
first_keeps : {E : Type 0} (P : E → Type 0) (cs : List (Bool × E)) → AllByRecursion (λ (c : Bool × E). P c.1) cs → IfErr (first_refusal cs) P
first_keeps P [] all = tt
first_keeps P ((true, e) ∷ cs) all = all.0
first_keeps P ((false, e) ∷ cs) all = first_keeps P cs all.1

-- ---- claims

module _ (P : ClaimNo → Type 0) (not_json : P claim_no.NotJson) (not_object : P claim_no.NotObject) (wrong_kind : (name : List ℕ) → P (claim_no.WrongKind name)) where
  whole_refused : (o : Option (List ℕ)) (ms : Members) → IfErr (if_whole o ms) P
  whole_refused None ms = tt
  whole_refused (Some name) ms = wrong_kind name

  members_refused : (o : Option Members) → IfErr (if_members o) P
  members_refused None = not_object
  members_refused (Some ms) = whole_refused (first_float ms) ms

  json_refused : (o : Option Data) → IfErr (if_read o) P
  json_refused None = not_json
  json_refused (Some d) = members_refused (as_object d)

  claims_refused : (b : List ℕ) → IfErr (claims_read b) P
  claims_refused b = json_refused (json_in b)

-- ---- sealed texts

abbrev IsJwsRefusal : JwsNo → Type 0
IsJwsRefusal e = is_id_refusal (id_no.Jws e) ≡ true

jws_at : (k t : List ℕ) (x : JwsNo) → verdict k t ≡ Err x → IsJwsRefusal x
unfolding verdict
jws_at k t x e =
    forbid_keeps IsJwsRefusal jws_no.TooLong (nat_lt 8192 (length t)) _ x e refl (λ short.
    demand_keeps IsJwsRefusal jws_no.NotThreeParts (three_parts t) _ x short refl (λ s three.
    demand_keeps IsJwsRefusal jws_no.HeaderSpelling (unb64u s.0) _ x three refl (λ h header.
    demand_keeps IsJwsRefusal jws_no.PayloadSpelling (unb64u s.1) _ x header refl (λ p payload.
    demand_keeps IsJwsRefusal jws_no.MacSpelling (unb64u_32 s.2) _ x payload refl (λ m mac.
    demand_keeps IsJwsRefusal jws_no.HeaderNotObject (read_object h) _ x mac refl (λ d object.
    forbid_keeps IsJwsRefusal jws_no.AlgNotHs256 (not (is_hs256 d)) _ x object refl (λ alg.
    forbid_keeps IsJwsRefusal jws_no.Crit (has_crit d) _ x alg refl (λ crit.
    forbid_keeps IsJwsRefusal jws_no.BadMac (not (bytes_eq m (hmac_of k (s.0 ++ 46 ∷ s.1)))) _ x crit refl (λ good.
    ok_keeps IsJwsRefusal _ x good)))))))))

jws_refused : (k t : List ℕ) → IfErr (verdict k t) IsJwsRefusal
jws_refused k t = if_err IsJwsRefusal (verdict k t) (jws_at k t)

-- ---- ID Tokens

abbrev IsIdRefusal : IdNo → Type 0
IsIdRefusal e = is_id_refusal e ≡ true

abbrev InId : ClaimNo → Type 0
InId e = is_id_refusal (id_no.Claims e) ≡ true

id_of_at : (ms : Members) (r : Result (Unit {0}) IdNo) → first_refusal (id_refusals ms) ≡ r → IfErr r IsIdRefusal → IfErr (id_token.id_of ms) IsIdRefusal
id_of_at ms (Ok u) is p = is_ok_keeps IsIdRefusal (id_token.id_of ms) (id_of-accepted ms is)
id_of_at ms (Err e) is p = subst (λ (r : Result IdClaims IdNo). IfErr r IsIdRefusal) (sym (id_of-refused ms e is)) p

id_of_refused : (ms : Members) → IfErr (id_token.id_of ms) IsIdRefusal
id_of_refused ms =
    id_of_at ms (first_refusal (id_refusals ms)) refl
    (first_keeps IsIdRefusal (id_refusals ms) (refl, (refl, (refl, (refl, (refl, (refl, (refl, (refl, (refl, (refl, (refl, (refl, (refl, (refl, (refl, (refl, tt)))))))))))))))))

read_refused : (r : Result Members ClaimNo) → IfErr r InId → IfErr (and_then_as id_no.Claims r id_token.id_of) IsIdRefusal
read_refused (Ok ms) h = id_of_refused ms
read_refused (Err e) h = h

opened_refused : (r : Result Unsealed JwsNo) → IfErr r IsJwsRefusal → IfErr (and_then_as id_no.Jws r (λ (u : Unsealed). and_then_as id_no.Claims (claims_read u.payload) id_token.id_of)) IsIdRefusal
opened_refused (Ok u) h = read_refused (claims_read u.payload) (claims_refused InId refl refl (λ n. refl) u.payload)
opened_refused (Err e) h = h

id_refused : (k t : List ℕ) → IfErr (id_token.id_read k t) IsIdRefusal
unfolding id_token.id_read
id_refused k t = opened_refused (verdict k t) (jws_refused k t)

is_read_at : (r : Result IdClaims IdNo) → IfErr r IsIdRefusal → is_id_read r ≡ true
is_read_at (Ok claims) h = refl
is_read_at (Err why) h = h

pub id_is_read : (k t : List ℕ) → is_id_read (id_token.id_read k t) ≡ true
id_is_read k t = is_read_at (id_token.id_read k t) (id_refused k t)

-- ---- token responses

abbrev IsTokensRefusal : TokensNo → Type 0
IsTokensRefusal e = is_tokens_refusal e ≡ true

abbrev InTokens : ClaimNo → Type 0
InTokens e = is_tokens_refusal (tokens_no.Claims e) ≡ true

not_200 : (n : ℕ) → (n == 200) ≡ false → n ≢ 200
not_200 n h = λ e. true≢false (sym (ap (λ m. m == 200) e) ∙ h)

module _ (a : Answered) where
  abbrev TokensAreRefused : Result Tokens TokensNo → Type 0
  TokensAreRefused r = IfErr r IsTokensRefusal

  members_at : (ms : Members) (r : Result (Unit {0}) TokensNo) → a.status ≡ 200 → Reads a.body ms → first_refusal (tokens.token_refusals ms) ≡ r → IfErr r IsTokensRefusal → TokensAreRefused (tokens.tokens_read a)
  members_at ms (Ok u) ok reads is p = is_ok_keeps IsTokensRefusal (tokens.tokens_read a) (accepted a ms ok reads is)
  members_at ms (Err e) ok reads is p = subst TokensAreRefused (sym (refused a ms e ok reads is)) p

  body_at : (r : Result Members ClaimNo) → a.status ≡ 200 → claims_read a.body ≡ r → IfErr r InTokens → TokensAreRefused (tokens.tokens_read a)
  body_at (Ok ms) ok is p =
      members_at ms (first_refusal (tokens.token_refusals ms)) ok (read_reads a.body ms is) refl
      (first_keeps IsTokensRefusal (tokens.token_refusals ms) (refl, (refl, (refl, (refl, (refl, (refl, (refl, tt))))))))
  body_at (Err e) ok is p = subst TokensAreRefused (sym (unread a e ok is)) p

  status_at : (b : Bool) → (a.status == 200) ≡ b → TokensAreRefused (tokens.tokens_read a)
  status_at true is =
      body_at (claims_read a.body) (is_200 a.status is) refl (claims_refused InTokens refl refl (λ n. refl) a.body)
  status_at false is = subst TokensAreRefused (sym (other_status a (not_200 a.status is))) refl

  pub tokens_refused : IfErr (tokens.tokens_read a) (λ e. is_tokens_refusal e ≡ true)
  tokens_refused = status_at (a.status == 200) refl

-- ---- UserInfo responses

abbrev IsInfoRefusal : InfoNo → Type 0
IsInfoRefusal e = is_info_refusal e ≡ true

abbrev InInfo : ClaimNo → Type 0
InInfo e = is_info_refusal (info_no.Claims e) ≡ true

kind_refused : (name : List ℕ) (o : Option (List ℕ)) → IfErr (info.if_there (kind_found name o)) IsInfoRefusal
kind_refused name None = refl
kind_refused name (Some sub) = tt

sub_refused : (o : Option Data) → IfErr (info.if_there (of_kind (codes "sub") o as_str)) IsInfoRefusal
sub_refused None = refl
sub_refused (Some d) = kind_refused (codes "sub") (as_str d)

told_refused : (r : Result Members ClaimNo) → IfErr r InInfo → IfErr (and_then_as info_no.Claims r info.sub_in) IsInfoRefusal
told_refused (Ok ms) h = sub_refused (get_member (codes "sub") ms)
told_refused (Err e) h = h

info_at : (a : Answered) (b : Bool) → IfErr (forbid (info_no.Status a.status) b (and_then_as info_no.Claims (claims_read a.body) info.sub_in)) IsInfoRefusal
info_at a true = refl
info_at a false = told_refused (claims_read a.body) (claims_refused InInfo refl refl (λ n. refl) a.body)

info_refused : (a : Answered) → IfErr (info.info_read a) IsInfoRefusal
unfolding info.info_read
info_refused a = info_at a (not (a.status == 200))

is_told_at : (r : Result (List ℕ) InfoNo) → IfErr r IsInfoRefusal → is_info_read r ≡ true
is_told_at (Ok sub) h = refl
is_told_at (Err why) h = h

pub info_is_read : (a : Answered) → is_info_read (info.info_read a) ≡ true
info_is_read a = is_told_at (info.info_read a) (info_refused a)

-- ---- logout tokens

abbrev IsLogoutRefusal : LogoutNo → Type 0
IsLogoutRefusal e = is_logout_refusal e ≡ true

abbrev InLogout : ClaimNo → Type 0
InLogout e = is_logout_refusal (logout_no.Claims e) ≡ true

-- a text that is not sealed is refused alike
jws_alike : (e : JwsNo) → is_id_refusal (id_no.Jws e) ≡ is_logout_refusal (logout_no.Jws e)
jws_alike jws_no.NoMemory = refl
jws_alike e = refl

logout_of_at : (typ : Option (List ℕ)) (ms : Members) (r : Result (Unit {0}) LogoutNo) → first_refusal (logout_refusals typ ms) ≡ r → IfErr r IsLogoutRefusal → IfErr (logout_token.logout_of typ ms) IsLogoutRefusal
logout_of_at typ ms (Ok u) is p = is_ok_keeps IsLogoutRefusal (logout_token.logout_of typ ms) (logout_of-accepted typ ms is)
logout_of_at typ ms (Err e) is p = subst (λ (r : Result LogoutClaims LogoutNo). IfErr r IsLogoutRefusal) (sym (logout_of-refused typ ms e is)) p

logout_of_refused : (typ : Option (List ℕ)) (ms : Members) → IfErr (logout_token.logout_of typ ms) IsLogoutRefusal
logout_of_refused typ ms =
    logout_of_at typ ms (first_refusal (logout_refusals typ ms)) refl
    (first_keeps IsLogoutRefusal (logout_refusals typ ms) (refl, (refl, (refl, (refl, (refl, (refl, (refl, (refl, (refl, (refl, (refl, (refl, (refl, (refl, (refl, (refl, tt)))))))))))))))))

logout_read_refused : (typ : Option (List ℕ)) (r : Result Members ClaimNo) → IfErr r InLogout → IfErr (and_then_as logout_no.Claims r (logout_token.logout_of typ)) IsLogoutRefusal
logout_read_refused typ (Ok ms) h = logout_of_refused typ ms
logout_read_refused typ (Err e) h = h

logout_opened_refused : (r : Result Unsealed JwsNo) → IfErr r IsJwsRefusal → IfErr (and_then_as logout_no.Jws r (λ (u : Unsealed). and_then_as logout_no.Claims (claims_read u.payload) (logout_token.logout_of u.typ))) IsLogoutRefusal
logout_opened_refused (Ok u) h = logout_read_refused u.typ (claims_read u.payload) (claims_refused InLogout refl refl (λ n. refl) u.payload)
logout_opened_refused (Err e) h = sym (jws_alike e) ∙ h

logout_refused : (k t : List ℕ) → IfErr (logout_token.logout_read k t) IsLogoutRefusal
unfolding logout_token.logout_read
logout_refused k t = logout_opened_refused (verdict k t) (jws_refused k t)

is_logout_at : (k t : List ℕ) (r : Result LogoutClaims LogoutNo) → logout_token.logout_read k t ≡ r → IfErr r IsLogoutRefusal → is_logout_read r ≡ true
is_logout_at k t (Ok claims) is h = (IsLogoutToken-read k t claims is).has.names
is_logout_at k t (Err why) is h = h

pub logout_is_read : (k t : List ℕ) → is_logout_read (logout_token.logout_read k t) ≡ true
logout_is_read k t = is_logout_at k t (logout_token.logout_read k t) refl (logout_refused k t)
