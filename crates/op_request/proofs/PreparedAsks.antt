-- What is prepared is an ask that requests give.
use Rattle.std.proofs.Common.{◌≡◌, ◌≤◌, ◌<◌, ℕ, List, length, Bool, true, false, nat_lt, nat_le, ◌&&◌, Option, Some, None, option_and_then, cond, Ok, Err, slice_get, refl, sym, ◌∙◌, ap, arith}
use Rattle.std.specs.Prelude.{IfSome}
use Rattle.std.proofs.lemmas.Grind.{common_steps}
use Rattle.std.proofs.lemmas.Option.{slice_get_within}
use Rattle.sso_base.specs.Words.{Text}
use Rattle.sso_base.specs.declared.http.Ask.{Ask}
use Rattle.client_registry.specs.declared.records.Client.{Client}
use Rattle.client_registry.specs.Rules.{user_place}
use Rattle.client_registry.specs.Configuration.{Configuration}
use Rattle.client_registry.specs.Numbers.{is_client, is_user}
use Rattle.client_registry.specs.Registered.{IsRegistry}
use Rattle.request_params.specs.declared.params.Params.{Params}
use Rattle.auth_request.specs.declared.wish.Verdict.{Verdict}
use Rattle.auth_request.specs.declared.wish.Verdict.TheVariants as verdict
use Rattle.auth_request.specs.Judgement.{judgement}
use Rattle.auth_request.proofs.Wishes.{wish_keeps}
use Rattle.token_endpoint.specs.declared.no.GrantNo.TheVariants as grant_no
use Rattle.token_endpoint.specs.Granted.{Cause}
use Rattle.token_endpoint.proofs.Requests.{granted}
use Rattle.token_endpoint.proofs.Refused.{caused}
use Rattle.op_exchange.specs.declared.ask.OpAsk.{OpAsk}
use Rattle.op_exchange.specs.declared.ask.OpAsk.TheVariants as ask
use Rattle.auth_request.specs.Values.{is_short_nonce}
use Rattle.op_exchange.specs.Asks.{is_prepared_verdict, is_prepared}
use Rattle.op_exchange.specs.Fields.{user_field, password_field}
use Rattle.op_request.specs.PostedForms.{fields_of, field}
use Rattle.op_request.specs.Prepared.{client_named, with_object, judged_whole, judged_by, if_password, is_password_of, signed_user, prepared}
use Rattle.op_request.proofs.SignedUsers.{user_within}
use Rattle.op_request.proofs.LedTo.{Led, led}

below : (n m : ℕ) → n < m → nat_lt n m ≡ true
below n m h = grind (arith, common_steps)

up_to : (n m : ℕ) → n ≤ m → nat_le n m ≡ true
up_to n m h = grind (arith, common_steps)

short : (o : Option Text) → IfSome o (λ t. length t ≤ 255) → is_short_nonce o ≡ true
short None h = refl
short (Some nonce) h = up_to (length nonce) 255 h

all_three : (a b d : Bool) → a ≡ true → b ≡ true → d ≡ true → (a && b && d) ≡ true
all_three true true true p q r = refl
all_three false b d p q r = absurd (cc)
all_three true false d p q r = absurd (cc)
all_three true true false p q r = absurd (cc)

-- ---- verdicts

verdict_at : (c : Configuration) (p : Params) (b : Bool) (v : Verdict) → judgement c p b ≡ v → is_prepared_verdict c v ≡ true
verdict_at c p b (verdict.Page why) h = refl
verdict_at c p b (verdict.Refuse refusal) h = refl
verdict_at c p b (verdict.Grant w) h =
    let k = wish_keeps c p b w h in
    all_three (is_client c w.client) (is_short_nonce w.nonce) w.scopes.openid (below w.client (length c.clients) k.below) (short w.nonce k.short_nonce) k.openid

judgement_prepared : (c : Configuration) (p : Params) (b : Bool) → is_prepared_verdict c (judgement c p b) ≡ true
judgement_prepared c p b = verdict_at c p b (judgement c p b) refl

whole_prepared : (c : Configuration) (p : Params) (o : Option Params) → is_prepared_verdict c (judged_whole c p o) ≡ true
whole_prepared c p None = judgement_prepared c p true
whole_prepared c p (Some whole) = judgement_prepared c whole false

by_prepared : (c : Configuration) (p : Params) (k : Option Client) (o : Option Text) → is_prepared_verdict c (judged_by c p k o) ≡ true
by_prepared c p (Some client) (Some object) = whole_prepared c p (with_object c client p object)
by_prepared c p (Some client) None = judgement_prepared c p false
by_prepared c p None (Some object) = judgement_prepared c p false
by_prepared c p None None = judgement_prepared c p false

-- ---- users

proved_at : (c : Configuration) (b : Bool) (n user : ℕ) → cond b (Some n) None ≡ Some user → n < length c.users → is_user c user ≡ true
proved_at c true n user h low = let same : n ≡ user = cc in below user (length c.users) (omega (arith, same, low))
proved_at c false n user h low = absurd (cc)

place_at : (c : Configuration) (id password : Text) (user : ℕ) (o : Option ℕ) → user_place id c.users ≡ o → option_and_then (if_password c password) o ≡ Some user → is_user c user ≡ true
place_at c id password user None is h = absurd (cc)
place_at c id password user (Some n) is h = proved_at c (is_password_of (slice_get c.users n) password) n user h (user_within id c.users n is)

signed_is_user : (c : Configuration) (id password : Text) (user : ℕ) → signed_user c id password ≡ Some user → is_user c user ≡ true
signed_is_user c id password user h = place_at c id password user (user_place id c.users) refl h

-- ---- grants

no_memory : (c : Configuration) (auth body : Option (List ℕ)) → Cause c auth body grant_no.NoMemory → ⊥
no_memory c auth None h = cc
no_memory c auth (Some form) h = h

-- ---- any ask

ask_prepared : (c : Configuration) (request : Ask) → IsRegistry c → (x : OpAsk) → Led c request x → is_prepared c x ≡ true
ask_prepared c request r (ask.Authorize verdict browser session) l =
    ap (is_prepared_verdict c) l.verdict ∙ by_prepared c l.params (client_named c l.params) l.params.request
ask_prepared c request r (ask.Login turn (Some user) browser session) l =
    signed_is_user c (field user_field (fields_of request.body)) (field password_field (fields_of request.body)) user (sym l.signed_is)
ask_prepared c request r (ask.Login turn None browser session) l = refl
ask_prepared c request r (ask.Consent turn agree browser session) l = refl
ask_prepared c request r (ask.Token (Ok grant)) l =
    let g = granted c request.auth request.body grant (sym l) in
    below grant.client (length c.clients) (slice_get_within c.clients grant.client g.client.client g.client.there)
ask_prepared c request r (ask.Token (Err grant_no.NoMemory)) l =
    absurd (no_memory c request.auth request.body (caused c request.auth request.body grant_no.NoMemory r.client_ids (sym l)))
ask_prepared c request r (ask.Token (Err grant_no.BadForm)) l = refl
ask_prepared c request r (ask.Token (Err (grant_no.Twice name))) l = refl
ask_prepared c request r (ask.Token (Err grant_no.TwoAuths)) l = refl
ask_prepared c request r (ask.Token (Err grant_no.NoAuth)) l = refl
ask_prepared c request r (ask.Token (Err grant_no.WrongClient)) l = refl
ask_prepared c request r (ask.Token (Err grant_no.OtherGrant)) l = refl
ask_prepared c request r (ask.Token (Err (grant_no.Missing name))) l = refl
ask_prepared c request r (ask.Info bearer) l = refl
ask_prepared c request r (ask.SignOut session) l = refl
ask_prepared c request r ask.Metadata l = refl
ask_prepared c request r ask.Keys l = refl
ask_prepared c request r ask.Twice l = refl
ask_prepared c request r ask.NotHere l = refl

pub always_prepared : (c : Configuration) (request : Ask) → IsRegistry c → is_prepared c (prepared c request) ≡ true
always_prepared c request r = ask_prepared c request r (prepared c request) (led c request)
