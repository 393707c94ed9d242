-- What is read is exactly what stands in the claim set.
use Rattle.std.proofs.Common.{◌≡◌, ◌<◌, ◌^◌, ℕ, List, Bool, true, false, cond, Option, Some, None, option_map, Ok, Err, codes, refl, ap, ◌∙◌}
use Rattle.std.specs.Prelude.{IfSome, IsTrue}
use Rattle.serde_json.specs.Data.{Members, string}
use Rattle.serde_json.specs.Find.{get_member}
use Rattle.sso_base.proofs.Refusals.{and_then_ok, and_then_as_ok, demand_ok, holds_as}
use Rattle.claim_set.specs.Kinds.{data_texts, text_claim, number_claim, texts_claim}
use Rattle.claim_set.specs.Building.{number_value, without_all}
use Rattle.claim_set.specs.declared.no.ClaimNo.{ClaimNo}
use Rattle.claim_set.specs.declared.no.ClaimNo.TheVariants.{WrongKind}
use Rattle.claim_set.proofs.KindLaws.{text_read, number_read, text_there, number_there, there, holds_of, found_of_kind, stands_of_kind}
use Rattle.id_token.specs.declared.claims.IdClaims.{IdClaims}
use Rattle.id_token.specs.declared.claims.RawClaims.{RawClaims}
use Rattle.id_token.specs.declared.no.IdNo.{IdNo}
use Rattle.id_token.specs.declared.no.IdNo.TheVariants.{Claims, Missing}
use Rattle.id_token.specs.Claims.{is_subject, id_names}
use Rattle.id_token.specs.Reading.{if_subject, raw_in, whole, id_of}
use Rattle.id_token.specs.Token.{HasClaims}

-- ---- what stands there is read

module _ (ms : Members) (x : IdClaims) (has : HasClaims ms x) where
  subject_is : if_subject (Some x.sub) ≡ Ok (Some x.sub)
  subject_is = rw (has.is_subject)

  raw_of : RawClaims
  raw_of = record { at_hash = x.at_hash; aud = Some x.aud; auth_time = x.auth_time; azp = x.azp; c_hash = x.c_hash; exp = Some x.exp; iat = Some x.iat; iss = Some x.iss; nonce = x.nonce; sid = x.sid; sub = Some x.sub }

  raw_is : raw_in ms ≡ Ok raw_of
  unfolding raw_in raw_of
  raw_is = rw (
    text_read ms (codes "at_hash") x.at_hash has.at_hash,
    found_of_kind (codes "aud") data_texts (get_member (codes "aud") ms) x.aud has.aud,
    number_read ms (codes "auth_time") x.auth_time has.auth_time has.auth_time_fits,
    text_read ms (codes "azp") x.azp has.azp,
    text_read ms (codes "c_hash") x.c_hash has.c_hash,
    number_read ms (codes "exp") (Some x.exp) has.exp has.exp_fits,
    number_read ms (codes "iat") (Some x.iat) has.iat has.iat_fits,
    text_read ms (codes "iss") (Some x.iss) has.iss,
    text_read ms (codes "nonce") x.nonce has.nonce,
    text_read ms (codes "sid") x.sid has.sid,
    text_read ms (codes "sub") (Some x.sub) has.sub,
    subject_is,
  )

  whole_is : whole raw_of (without_all id_names ms) ≡ Ok x
  unfolding whole raw_of
  whole_is = rw (← has.more) refl

  pub id_of-has : id_of ms ≡ Ok x
  unfolding id_of
  id_of-has = rw (raw_is) whole_is

-- ---- what is read stands there

subject_ok : (given sub : Option (List ℕ)) → if_subject given ≡ Ok sub → (given ≡ sub) × IfSome sub (λ s. IsTrue (is_subject s))
subject_ok None None h = (refl, tt)
subject_ok None (Some s) h = absurd (cc)
subject_ok (Some t) sub h = tested t (is_subject t) refl sub h where
  tested : (t : List ℕ) (b : Bool) → is_subject t ≡ b → (sub : Option (List ℕ)) → cond b (Ok (Some t)) (Err (WrongKind (codes "sub"))) ≡ Ok sub → (Some t ≡ sub) × IfSome sub (λ s. IsTrue (is_subject s))
  tested t true is None h = absurd (cc)
  tested t true is (Some s) h = let same : t ≡ s = cc in (ap Some same, rw (← same) is)
  tested t false is sub h = absurd (cc)

-- the fields, as far as they are there
record HasRaw (ms : Members) (r : RawClaims) : Type 0 where
  iss : get_member (codes "iss") ms ≡ option_map string r.iss
  sub : get_member (codes "sub") ms ≡ option_map string r.sub
  aud : texts_claim (codes "aud") ms ≡ Ok r.aud
  exp : (get_member (codes "exp") ms ≡ option_map number_value r.exp) × IfSome r.exp (λ n. n < 2 ^ 40)
  iat : (get_member (codes "iat") ms ≡ option_map number_value r.iat) × IfSome r.iat (λ n. n < 2 ^ 40)
  auth_time : (get_member (codes "auth_time") ms ≡ option_map number_value r.auth_time) × IfSome r.auth_time (λ n. n < 2 ^ 40)
  azp : get_member (codes "azp") ms ≡ option_map string r.azp
  nonce : get_member (codes "nonce") ms ≡ option_map string r.nonce
  sid : get_member (codes "sid") ms ≡ option_map string r.sid
  at_hash : get_member (codes "at_hash") ms ≡ option_map string r.at_hash
  c_hash : get_member (codes "c_hash") ms ≡ option_map string r.c_hash
  is_subject : IfSome r.sub (λ s. IsTrue (is_subject s))

raw_stands : (ms : Members) (r : RawClaims) → raw_in ms ≡ Ok r → HasRaw ms r
unfolding raw_in
raw_stands ms r h =
    let at_hash = and_then_ok (text_claim (codes "at_hash") ms) _ r h in
    let aud = and_then_ok (texts_claim (codes "aud") ms) _ r at_hash.2 in
    let auth_time = and_then_ok (number_claim (codes "auth_time") ms) _ r aud.2 in
    let azp = and_then_ok (text_claim (codes "azp") ms) _ r auth_time.2 in
    let c_hash = and_then_ok (text_claim (codes "c_hash") ms) _ r azp.2 in
    let exp = and_then_ok (number_claim (codes "exp") ms) _ r c_hash.2 in
    let iat = and_then_ok (number_claim (codes "iat") ms) _ r exp.2 in
    let iss = and_then_ok (text_claim (codes "iss") ms) _ r iat.2 in
    let nonce = and_then_ok (text_claim (codes "nonce") ms) _ r iss.2 in
    let sid = and_then_ok (text_claim (codes "sid") ms) _ r nonce.2 in
    let given = and_then_ok (text_claim (codes "sub") ms) _ r sid.2 in
    let sub = and_then_ok (if_subject given.0) _ r given.2 in
    let subject = subject_ok given.0 sub.0 sub.1 in
    holds_as ClaimNo (HasRaw ms) _ r sub.2 (record {
      iss = text_there ms (codes "iss") iss.0 iss.1;
      sub = text_there ms (codes "sub") given.0 given.1 ∙ ap (option_map string) subject.0;
      aud = aud.1;
      exp = number_there ms (codes "exp") exp.0 exp.1;
      iat = number_there ms (codes "iat") iat.0 iat.1;
      auth_time = number_there ms (codes "auth_time") auth_time.0 auth_time.1;
      azp = text_there ms (codes "azp") azp.0 azp.1;
      nonce = text_there ms (codes "nonce") nonce.0 nonce.1;
      sid = text_there ms (codes "sid") sid.0 sid.1;
      at_hash = text_there ms (codes "at_hash") at_hash.0 at_hash.1;
      c_hash = text_there ms (codes "c_hash") c_hash.0 c_hash.1;
      is_subject = subject.1;
    })

whole_stands : (ms more : Members) (r : RawClaims) (x : IdClaims) → HasRaw ms r → more ≡ without_all id_names ms → whole r more ≡ Ok x → HasClaims ms x
unfolding whole
whole_stands ms more r x raw others h =
    let iss = demand_ok (Missing (codes "iss")) r.iss _ x h in
    let sub = demand_ok (Missing (codes "sub")) r.sub _ x iss.2 in
    let aud = demand_ok (Missing (codes "aud")) r.aud _ x sub.2 in
    let exp = demand_ok (Missing (codes "exp")) r.exp _ x aud.2 in
    let iat = demand_ok (Missing (codes "iat")) r.iat _ x exp.2 in
    holds_as IdNo (HasClaims ms) _ x iat.2 (record {
      iss = there r.iss string iss.0 _ iss.1 raw.iss;
      sub = there r.sub string sub.0 _ sub.1 raw.sub;
      aud = stands_of_kind (codes "aud") data_texts (get_member (codes "aud") ms) aud.0 (raw.aud ∙ ap Ok aud.1);
      exp = there r.exp number_value exp.0 _ exp.1 raw.exp.0;
      iat = there r.iat number_value iat.0 _ iat.1 raw.iat.0;
      auth_time = raw.auth_time.0;
      azp = raw.azp;
      nonce = raw.nonce;
      sid = raw.sid;
      at_hash = raw.at_hash;
      c_hash = raw.c_hash;
      more = others;
      is_subject = holds_of r.sub (λ s. IsTrue (is_subject s)) sub.0 sub.1 raw.is_subject;
      exp_fits = holds_of r.exp (λ n. n < 2 ^ 40) exp.0 exp.1 raw.exp.1;
      iat_fits = holds_of r.iat (λ n. n < 2 ^ 40) iat.0 iat.1 raw.iat.1;
      auth_time_fits = raw.auth_time.1;
    })

pub has-id_of : (ms : Members) (x : IdClaims) → id_of ms ≡ Ok x → HasClaims ms x
unfolding id_of
has-id_of ms x h =
    let raw = and_then_as_ok Claims (raw_in ms) _ x h in
    whole_stands ms (without_all id_names ms) raw.0 x (raw_stands ms raw.0 raw.1) refl raw.2
