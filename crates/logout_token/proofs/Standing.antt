-- What is read is exactly what stands in the claim set.
use Rattle.std.proofs.Common.{◌≡◌, ◌<◌, ◌^◌, ℕ, List, Bool, true, false, not, ◌&&◌, ◌||◌, Option, Some, None, option_map, option_and_then, is_some, Ok, codes, refl, sym, ap, ◌∙◌, true≢false, inl, inr}
use Rattle.std.specs.Prelude.{IfSome, ◌⊎◌}
use Rattle.std.specs.Str.{bytes_eq, str_to_ascii_lowercase}
use Rattle.std.proofs.lemmas.Slice.Eq.{bytes_eq-Decides}
use Rattle.serde_json.specs.Data.{Data, null, boolean, number, string, array, object, Members}
use Rattle.serde_json.specs.Find.{get_member, as_object}
use Rattle.sso_base.proofs.Refusals.{and_then_ok, and_then_as_ok, demand_ok, forbid_ok, holds_as}
use Rattle.sso_base.proofs.Decided.{not_not}
use Rattle.claim_set.specs.Kinds.{data_texts, text_claim, number_claim, texts_claim}
use Rattle.claim_set.specs.Building.{number_value}
use Rattle.claim_set.specs.declared.no.ClaimNo.{ClaimNo}
use Rattle.claim_set.proofs.KindLaws.{text_read, number_read, text_there, number_there, there, holds_of, found_of_kind, stands_of_kind}
use Rattle.logout_token.specs.declared.claims.LogoutClaims.{LogoutClaims}
use Rattle.logout_token.specs.declared.claims.RawLogout.{RawLogout}
use Rattle.logout_token.specs.declared.no.LogoutNo.{LogoutNo}
use Rattle.logout_token.specs.declared.no.LogoutNo.TheVariants.{Claims, Missing}
use Rattle.logout_token.specs.LogoutToken.{event_name, raw_in, typ_fits, has_event, whole, logout_of}
use Rattle.logout_token.specs.Token.{HasEvent, HasLogoutClaims, IsLogoutTyp}

-- ---- the kind of token, and the logout event

either_fits : (s a b : List ℕ) → ((s ≡ a) ⊎ (s ≡ b)) → (bytes_eq s a || bytes_eq s b) ≡ true
either_fits s a b (inl h) = let same : bytes_eq s a ≡ true = (bytes_eq-Decides s a).1 h in rw same
either_fits s a b (inr h) = second (bytes_eq s a) (bytes_eq s b) ((bytes_eq-Decides s b).1 h) where
  second : (p q : Bool) → q ≡ true → (p || q) ≡ true
  second true q is = refl
  second false q is = is

which_fits : (s a b : List ℕ) → (bytes_eq s a || bytes_eq s b) ≡ true → (s ≡ a) ⊎ (s ≡ b)
which_fits s a b h = at (bytes_eq s a) refl h where
  at : (p : Bool) → bytes_eq s a ≡ p → (p || bytes_eq s b) ≡ true → (s ≡ a) ⊎ (s ≡ b)
  at true is h = inl ((bytes_eq-Decides s a).0 is)
  at false is h = inr ((bytes_eq-Decides s b).0 h)

pub fits-IsLogoutTyp : (typ : Option (List ℕ)) → IsLogoutTyp typ → typ_fits typ ≡ true
fits-IsLogoutTyp None h = refl
fits-IsLogoutTyp (Some t) h = either_fits (str_to_ascii_lowercase t) (codes "jwt") (codes "logout+jwt") h

pub IsLogoutTyp-fits : (typ : Option (List ℕ)) → typ_fits typ ≡ true → IsLogoutTyp typ
IsLogoutTyp-fits None h = tt
IsLogoutTyp-fits (Some t) h = which_fits (str_to_ascii_lowercase t) (codes "jwt") (codes "logout+jwt") h

object_of : (o : Option Data) → is_some (option_and_then as_object o) ≡ true → (ns : Members) × (o ≡ Some (object ns))
object_of None h = absurd (cc)
object_of (Some null) h = absurd (cc)
object_of (Some (boolean b)) h = absurd (cc)
object_of (Some (number n)) h = absurd (cc)
object_of (Some (string s)) h = absurd (cc)
object_of (Some (array ds)) h = absurd (cc)
object_of (Some (object ns)) h = (ns, refl)

there_at : (r : Option Members) → is_some (option_and_then as_object (option_and_then (get_member event_name) r)) ≡ true → is_some r ≡ true
there_at None h = h
there_at (Some ns) h = refl

inside_at : (ns : Members) (o : Option Data) → o ≡ Some (object ns) → is_some (option_and_then as_object (option_and_then (get_member event_name) (option_and_then as_object o))) ≡ true
    → is_some (option_and_then as_object (get_member event_name ns)) ≡ true
inside_at ns o is h = rw (is) at h

event_stands : (ms : Members) → has_event ms ≡ true → HasEvent ms
event_stands ms h =
    let events = get_member (codes "events") ms in
    let outer = object_of events (there_at (option_and_then as_object events) h) in
    let inner = object_of (get_member event_name outer.0) (inside_at outer.0 events outer.1 h) in
    record { inside = outer.0; event = inner.0; events_are = outer.1; event_is = inner.1 }

pub event_is_there : (ms : Members) → HasEvent ms → has_event ms ≡ true
event_is_there ms e = rw (e.events_are, e.event_is)

-- ---- what stands there is read

somebody : (a b : Option (List ℕ)) → (is_some a || is_some b) ≡ true → (not (is_some a) && not (is_some b)) ≡ false
somebody None None h = sym h
somebody None (Some s) h = refl
somebody (Some s) b h = refl

module _ (ms : Members) (x : LogoutClaims) (has : HasLogoutClaims ms x) where
  raw_of : RawLogout
  raw_of = record { aud = Some x.aud; exp = Some x.exp; iat = Some x.iat; iss = Some x.iss; jti = Some x.jti; sid = x.sid; sub = x.sub }

  raw_is : raw_in ms ≡ Ok raw_of
  unfolding raw_in raw_of
  raw_is = rw (
    found_of_kind (codes "aud") data_texts (get_member (codes "aud") ms) x.aud has.aud,
    number_read ms (codes "exp") (Some x.exp) has.exp has.exp_fits,
    number_read ms (codes "iat") (Some x.iat) has.iat has.iat_fits,
    text_read ms (codes "iss") (Some x.iss) has.iss,
    text_read ms (codes "jti") (Some x.jti) has.jti,
    text_read ms (codes "sid") x.sid has.sid,
    text_read ms (codes "sub") x.sub has.sub,
  )

  whole_is : whole raw_of ms ≡ Ok x
  unfolding whole raw_of
  whole_is = rw (event_is_there ms has.event, has.no_nonce, somebody x.sub x.sid has.names)

  pub logout_of-has : (typ : Option (List ℕ)) → IsLogoutTyp typ → logout_of typ ms ≡ Ok x
  unfolding logout_of
  logout_of-has typ kind = rw (raw_is, fits-IsLogoutTyp typ kind) whole_is

-- ---- what is read stands there

none_there : (o : Option Data) → is_some o ≡ false → o ≡ None
none_there None h = refl
none_there (Some d) h = absurd (true≢false h)

named : (a b : Option (List ℕ)) → (not (is_some a) && not (is_some b)) ≡ false → (is_some a || is_some b) ≡ true
named None None h = absurd (true≢false h)
named None (Some s) h = refl
named (Some s) b h = refl

-- the claims, as far as they are there
record HasRaw (ms : Members) (r : RawLogout) : Type 0 where
  iss : get_member (codes "iss") ms ≡ option_map string r.iss
  aud : texts_claim (codes "aud") ms ≡ Ok r.aud
  iat : (get_member (codes "iat") ms ≡ option_map number_value r.iat) × IfSome r.iat (λ n. n < 2 ^ 40)
  exp : (get_member (codes "exp") ms ≡ option_map number_value r.exp) × IfSome r.exp (λ n. n < 2 ^ 40)
  jti : get_member (codes "jti") ms ≡ option_map string r.jti
  sub : get_member (codes "sub") ms ≡ option_map string r.sub
  sid : get_member (codes "sid") ms ≡ option_map string r.sid

raw_stands : (ms : Members) (r : RawLogout) → raw_in ms ≡ Ok r → HasRaw ms r
unfolding raw_in
raw_stands ms r h =
    let aud = and_then_ok (texts_claim (codes "aud") ms) _ r h in
    let exp = and_then_ok (number_claim (codes "exp") ms) _ r aud.2 in
    let iat = and_then_ok (number_claim (codes "iat") ms) _ r exp.2 in
    let iss = and_then_ok (text_claim (codes "iss") ms) _ r iat.2 in
    let jti = and_then_ok (text_claim (codes "jti") ms) _ r iss.2 in
    let sid = and_then_ok (text_claim (codes "sid") ms) _ r jti.2 in
    let sub = and_then_ok (text_claim (codes "sub") ms) _ r sid.2 in
    holds_as ClaimNo (HasRaw ms) _ r sub.2 (record {
      iss = text_there ms (codes "iss") iss.0 iss.1;
      aud = aud.1;
      iat = number_there ms (codes "iat") iat.0 iat.1;
      exp = number_there ms (codes "exp") exp.0 exp.1;
      jti = text_there ms (codes "jti") jti.0 jti.1;
      sub = text_there ms (codes "sub") sub.0 sub.1;
      sid = text_there ms (codes "sid") sid.0 sid.1;
    })

whole_stands : (ms : Members) (r : RawLogout) (x : LogoutClaims) → HasRaw ms r → whole r ms ≡ Ok x → HasLogoutClaims ms x
unfolding whole
whole_stands ms r x raw h =
    let iss = demand_ok (Missing (codes "iss")) r.iss _ x h in
    let aud = demand_ok (Missing (codes "aud")) r.aud _ x iss.2 in
    let iat = demand_ok (Missing (codes "iat")) r.iat _ x aud.2 in
    let exp = demand_ok (Missing (codes "exp")) r.exp _ x iat.2 in
    let jti = demand_ok (Missing (codes "jti")) r.jti _ x exp.2 in
    let event = forbid_ok _ _ _ x jti.2 in
    let nonce = forbid_ok _ _ _ x event.1 in
    let names = forbid_ok _ _ _ x nonce.1 in
    holds_as LogoutNo (HasLogoutClaims ms) _ x names.1 (record {
      iss = there r.iss string iss.0 _ iss.1 raw.iss;
      aud = stands_of_kind (codes "aud") data_texts (get_member (codes "aud") ms) aud.0 (raw.aud ∙ ap Ok aud.1);
      iat = there r.iat number_value iat.0 _ iat.1 raw.iat.0;
      exp = there r.exp number_value exp.0 _ exp.1 raw.exp.0;
      jti = there r.jti string jti.0 _ jti.1 raw.jti;
      sub = raw.sub;
      sid = raw.sid;
      event = event_stands ms (not_not (has_event ms) event.0);
      no_nonce = none_there (get_member (codes "nonce") ms) nonce.0;
      names = named r.sub r.sid names.0;
      iat_fits = holds_of r.iat (λ n. n < 2 ^ 40) iat.0 iat.1 raw.iat.1;
      exp_fits = holds_of r.exp (λ n. n < 2 ^ 40) exp.0 exp.1 raw.exp.1;
    })

pub has-logout_of : (typ : Option (List ℕ)) (ms : Members) (x : LogoutClaims) → logout_of typ ms ≡ Ok x → IsLogoutTyp typ × HasLogoutClaims ms x
unfolding logout_of
has-logout_of typ ms x h =
    let raw = and_then_as_ok Claims (raw_in ms) _ x h in
    let kind = forbid_ok _ (not (typ_fits typ)) (whole raw.0 ms) x raw.2 in
    (IsLogoutTyp-fits typ (not_not (typ_fits typ) kind.0), whole_stands ms raw.0 x (raw_stands ms raw.0 raw.1) kind.1)
