-- A claim set that is no request object is refused for the first reason.
use Rattle.std.proofs.Common.{◌≡◌, ℕ, drop, List, ◌∷◌, Bool, true, false, ◌||◌, Option, Some, None, option_and_then, is_some, Result, Ok, Err, IsOk, codes, refl, ap, ◌∙◌}
use Rattle.serde_json.specs.Data.{Data, Members}
use Rattle.serde_json.specs.Find.{get_member, as_str}
use Rattle.sso_base.specs.Refusals.{first_refusal, and_then, and_then_as, forbid}
use Rattle.sso_base.specs.Texts.{is_other}
use Rattle.claim_set.specs.Kinds.{of_kind, kind_found, data_texts}
use Rattle.claim_set.specs.declared.no.ClaimNo.{ClaimNo}
use Rattle.claim_set.proofs.KindLaws.{is_there, after_kind, refused_of, is_refused, is_accepted}
use Rattle.client_registry.specs.declared.records.Client.{Client}
use Rattle.request_params.specs.declared.params.Params.{Params}
use Rattle.request_object.specs.declared.raw.FirstClaims.{FirstClaims}
use Rattle.request_object.specs.declared.raw.LastClaims.{LastClaims}
use Rattle.request_object.specs.declared.raw.RawRequest.{RawRequest}
use Rattle.request_object.specs.declared.no.ObjNo.{ObjNo}
use Rattle.request_object.specs.declared.no.ObjNo.TheVariants.{Claims, Issuer, Audience, Nested}
use Rattle.request_object.specs.Reading.{digits_in, object_text, text_or, first_in, last_in, lacks, judged, request_of}
use Rattle.request_object.specs.Object.{request_refusals}

after_test : (e : ObjNo) (b c : Bool) (r : Result Params ObjNo) (cs : List (Bool × ObjNo)) → b ≡ c → refused_of r ≡ first_refusal cs → refused_of (forbid e b r) ≡ first_refusal ((c, e) ∷ cs)
after_test e true true r cs same goes = refl
after_test e true false r cs same goes = absurd (cc)
after_test e false true r cs same goes = absurd (cc)
after_test e false false r cs same goes = goes

found_as : {A : Type 0} (name : List ℕ) (q v : Option A) → kind_found name q ≡ Ok v → v ≡ q
found_as name None v h = absurd (cc)
found_as name (Some a) v h = cc

-- what was read is what is of the kind
is_of_kind : {A : Type 0} (name : List ℕ) (kind : Data → Option A) (o : Option Data) (v : Option A) → of_kind name o kind ≡ Ok v → v ≡ option_and_then kind o
is_of_kind name kind None v h = cc
is_of_kind name kind (Some d) v h = found_as name (kind d) v h

either_there : {A B : Type 0} (a b : Option A) (o q : Option B) → is_some a ≡ is_some o → is_some b ≡ is_some q → (is_some a || is_some b) ≡ (is_some o || is_some q)
either_there a b o q h g = rw (h, g) refl

abbrev judged_if_read : Client → List ℕ → Result RawRequest ClaimNo → Result Params ObjNo
judged_if_read client issuer r = and_then_as Claims r (judged client issuer)

refusals_of : (client : Client) (issuer : List ℕ) (ms : Members) → refused_of (request_of client issuer ms) ≡ first_refusal (request_refusals client issuer ms)
unfolding request_of first_in last_in judged
refusals_of client issuer ms =
    let left : ℕ → List (Bool × ObjNo) = λ n. drop n (request_refusals client issuer ms) in
    let at : List ℕ → Option Data = λ name. get_member name ms in
    let g : Result FirstClaims ClaimNo → Result (Unit {0}) ObjNo = λ r. refused_of (judged_if_read client issuer (and_then r (λ first. and_then (last_in ms) (λ last. Ok (record { first = first; last = last }))))) in
    let k : FirstClaims → Result LastClaims ClaimNo → Result (Unit {0}) ObjNo = λ first r. refused_of (judged_if_read client issuer (and_then r (λ last. Ok (record { first = first; last = last })))) in
    after_kind (codes "aud") data_texts (at (codes "aud")) _ g Claims (left 1) (λ e. refl) (λ aud h1.
    after_kind (codes "claims") (text_or object_text) (at (codes "claims")) _ g Claims (left 2) (λ e. refl) (λ claims h2.
    after_kind (codes "client_id") as_str (at (codes "client_id")) _ g Claims (left 3) (λ e. refl) (λ client_id h3.
    after_kind (codes "iss") as_str (at (codes "iss")) _ g Claims (left 4) (λ e. refl) (λ iss h4.
    after_kind (codes "max_age") (text_or digits_in) (at (codes "max_age")) _ g Claims (left 5) (λ e. refl) (λ max_age h5.
    after_kind (codes "nonce") as_str (at (codes "nonce")) _ g Claims (left 6) (λ e. refl) (λ nonce h6.
    after_kind (codes "prompt") as_str (at (codes "prompt")) _ g Claims (left 7) (λ e. refl) (λ prompt h7.
    let k1 = k (record { aud = aud; claims = claims; client_id = client_id; iss = iss; max_age = max_age; nonce = nonce; prompt = prompt }) in
    after_kind (codes "redirect_uri") as_str (at (codes "redirect_uri")) _ k1 Claims (left 8) (λ e. refl) (λ redirect_uri h8.
    after_kind (codes "registration") as_str (at (codes "registration")) _ k1 Claims (left 9) (λ e. refl) (λ registration h9.
    after_kind (codes "request") as_str (at (codes "request")) _ k1 Claims (left 10) (λ e. refl) (λ request h10.
    after_kind (codes "request_uri") as_str (at (codes "request_uri")) _ k1 Claims (left 11) (λ e. refl) (λ request_uri h11.
    after_kind (codes "response_mode") as_str (at (codes "response_mode")) _ k1 Claims (left 12) (λ e. refl) (λ response_mode h12.
    after_kind (codes "response_type") as_str (at (codes "response_type")) _ k1 Claims (left 13) (λ e. refl) (λ response_type h13.
    after_kind (codes "scope") as_str (at (codes "scope")) _ k1 Claims (left 14) (λ e. refl) (λ scope h14.
    after_kind (codes "state") as_str (at (codes "state")) _ k1 Claims (left 15) (λ e. refl) (λ state h15.
    after_test Issuer (is_other client.id iss) (is_other client.id (option_and_then as_str (at (codes "iss")))) _ (left 16) (ap (is_other client.id) (is_of_kind (codes "iss") as_str (at (codes "iss")) iss h4)) (
    after_test Audience (lacks issuer aud) (lacks issuer (option_and_then data_texts (at (codes "aud")))) _ (left 17) (ap (lacks issuer) (is_of_kind (codes "aud") data_texts (at (codes "aud")) aud h1)) (
    after_test Nested (is_some request || is_some request_uri) (is_some (at (codes "request")) || is_some (at (codes "request_uri"))) _ (left 18)
    (either_there request request_uri (at (codes "request")) (at (codes "request_uri")) (is_there (codes "request") as_str _ request h10) (is_there (codes "request_uri") as_str _ request_uri h11))
    refl)))))))))))))))))

pub request_of-refused : (client : Client) (issuer : List ℕ) (ms : Members) (e : ObjNo) → first_refusal (request_refusals client issuer ms) ≡ Err e → request_of client issuer ms ≡ Err e
request_of-refused client issuer ms e h = is_refused (request_of client issuer ms) e (refusals_of client issuer ms ∙ h)

pub request_of-accepted : (client : Client) (issuer : List ℕ) (ms : Members) → first_refusal (request_refusals client issuer ms) ≡ Ok tt → IsOk (request_of client issuer ms)
request_of-accepted client issuer ms h = is_accepted (request_of client issuer ms) (refusals_of client issuer ms ∙ h)
