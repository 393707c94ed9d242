-- What is fetched of contents answers as the whole contents do.
use Rattle.std.proofs.Common.{◌≡◌, ℕ, ◌<◌, ◌≤◌, ◌+◌, ◌-◌, nat_lt, nat_le, Bool, true, false, cond, List, length, take, drop, codes, Option, Some, None}
use Rattle.std.proofs.Common.{option_map, Result, Ok, Err, inl, inr, arith, refl, ap, ◌∙◌, sym, subst}
use Rattle.std.proofs.lemmas.List.{take_all, length-take-le}
use Rattle.std.proofs.lemmas.Bool.{and_right}
use Rattle.std.proofs.lemmas.Bool.Decides.{leb_tells}
use Rattle.std.specs.Result.{IfOk}
use Rattle.std.specs.Str.{bytes_eq}
use Rattle.sso_base.specs.Words.{Text}
use Rattle.sso_base.specs.Outside.{Content}
use Rattle.sso_base.proofs.RowLaws.{bool_cases}
use Rattle.jws_compact.specs.declared.no.JwsNo.TheVariants.{TooLong}
use Rattle.jws_compact.specs.Jws.{verdict}
use Rattle.configuration_rows.specs.declared.no.RegNo.{RegNo}
use Rattle.configuration_rows.specs.declared.no.RegNo.TheVariants as reg
use Rattle.client_registry.specs.Configuration.{Configuration}
use Rattle.client_registry.specs.Reading.{registry_read, document_read, document_in}
use Rattle.client_registry.specs.Rules.{party_place}
use Rattle.discovery_doc.specs.Reading.{discovery_read}
use Rattle.rp_answer.specs.Setup.{PartySetup}
use Rattle.std.proofs.lemmas.Grind.{common_steps}
use Rattle.trace_lines.specs.declared.no.TraceNo.TheVariants as no
use Rattle.trace_lines.specs.Trace.{trace_told, told_of, lines_of}
use Rattle.sso.specs.Answer.{Answer, registry_name, configuration_refusal, answer_to, trace_answer, replay_answer, without_feed, is_secret}
use Rattle.sso.specs.Answer.{token_refusal, verdict_answer, token_answer}
use Rattle.server_desk.specs.declared.desk.Desk.{Desk}
use Rattle.serving.specs.declared.summary.Summary.{Summary}
use Rattle.serving.specs.Summaries.{Telling}
use Rattle.sso_serve.specs.Servers.{ServesOp, ServesOpPlus, ServesRpPlus}
use Rattle.sso.specs.Asked.{op_asked, provider_asked, op_plus_asked, plus_asked, metadata_refusal, provider_read, described, trusted, rp_asked, party_asked}
use Rattle.sso.specs.Asked.{number_asked, setup_asked}
use Rattle.sso.specs.Outcomes.{IsContent, IsContentIf, IsFetched, IsFetchedIf, AnswersReplay, AnswersToken, ServedBy, AnswersServer, ServedOp}
use Rattle.sso.specs.Outcomes.{ServedRp, ServedOpPlus, ServedRpPlus, AnswersRp, Plays}

-- ---- One content

from_fetch : (contents : Option (List Content)) (name : Text) (most : ℕ) (bytes : List ℕ) → IsFetched contents name most bytes → (content : List ℕ) × IsContent contents name content × (bytes ≡ take most content)
from_fetch None name most bytes fetched = (bytes, tt, sym (take_all most bytes fetched.1))
from_fetch (Some contents) name most bytes fetched = fetched.0

-- ---- The configuration

is_longer : (most n : ℕ) → most < n → nat_lt most n ≡ true
is_longer most n above = grind (arith, common_steps)

too_long_configuration : (config : List ℕ) → nat_lt 1048576 (length config) ≡ true → registry_read config ≡ Err reg.TooLong
too_long_configuration config long = ap (λ (b : Bool). cond b (Err reg.TooLong) (document_read (document_in config))) long

registry_cut : (config : List ℕ) → registry_read (take 1048577 config) ≡ registry_read config
registry_cut config =
    elim (leb_tells (length config) 1048577) [
      | inl p ↦ ap registry_read (take_all 1048577 config p.1)
      | inr p ↦
          let e : length (take 1048577 config) ≡ 1048577 = length-take-le 1048577 config (omega arith) in
          too_long_configuration (take 1048577 config) (is_longer 1048576 (length (take 1048577 config)) (omega arith))
          ∙ sym (too_long_configuration config (is_longer 1048576 (length config) (omega arith)))
    ]

-- ---- The trace

too_long_trace : (c : Configuration) (trace : List ℕ) → nat_lt 4194304 (length trace) ≡ true → trace_told c trace ≡ Err no.Size
unfolding trace_told
too_long_trace c trace long = ap (λ (b : Bool). cond b (Err no.Size) (told_of c (lines_of trace))) long

trace_cut : (c : Configuration) (trace : List ℕ) → trace_told c (take 4194305 trace) ≡ trace_told c trace
trace_cut c trace =
    elim (leb_tells (length trace) 4194305) [
      | inl p ↦ ap (trace_told c) (take_all 4194305 trace p.1)
      | inr p ↦
          let e : length (take 4194305 trace) ≡ 4194305 = length-take-le 4194305 trace (omega arith) in
          too_long_trace c (take 4194305 trace) (is_longer 4194304 (length (take 4194305 trace)) (omega arith))
          ∙ sym (too_long_trace c trace (is_longer 4194304 (length trace) (omega arith)))
    ]

-- ---- The configuration and the trace

replay_cut : (read : Result Configuration RegNo) (trace : List ℕ) → replay_answer read (take 4194305 trace) ≡ replay_answer read trace
replay_cut (Ok c) trace = ap (trace_answer c) (trace_cut c trace)
replay_cut (Err why) trace = refl

answer_cut : (config trace : List ℕ) → answer_to (take 1048577 config) (take 4194305 trace) ≡ answer_to config trace
unfolding answer_to
answer_cut config trace =
    ap (λ (read : Result Configuration RegNo). replay_answer read (take 4194305 trace)) (registry_cut config) ∙ replay_cut (registry_read config) trace

-- The outcome for what was fetched is the outcome for the contents with these names.
pub replay_fetched : (contents : Option (List Content)) (config_at trace_at : Text) (config trace : List ℕ) (answer : Answer)
    → IsFetched contents config_at 1048577 config → IsFetched contents trace_at 4194305 trace
    → answer ≡ answer_to config trace → Plays config trace → AnswersReplay contents config_at trace_at answer
unfolding Plays
replay_fetched contents config_at trace_at config trace answer config_from trace_from e well =
    let c = from_fetch contents config_at 1048577 config config_from in
    let t = from_fetch contents trace_at 4194305 trace trace_from in
    record {
      config = c.0;
      trace = t.0;
      config_there = c.1;
      trace_there = t.1;
      answers = e ∙ ap (λ (v : List ℕ). answer_to v trace) c.2 ∙ ap (λ (v : List ℕ). answer_to (take 1048577 c.0) v) t.2 ∙ answer_cut c.0 t.0;
      well = λ k read told is. well k (ap registry_read c.2 ∙ registry_cut c.0 ∙ read) told (ap (trace_told k) t.2 ∙ trace_cut k t.0 ∙ is);
    }

-- ---- The secret

is_above : (most n : ℕ) → most < n → nat_le n most ≡ false
is_above most n above = elim (leb_tells n most) [ inl p ↦ absurd (omega arith) | inr p ↦ p.0 ]

few_dropped : (bytes : List ℕ) → length bytes ≤ length (without_feed bytes) + 1
few_dropped bytes =
    let Few : Bool → Type 0 = λ b. length bytes ≤ length (cond b (take (length bytes - 1) bytes) bytes) + 1 in
    elim (bool_cases (bytes_eq (drop (length bytes - 1) bytes) (codes "\n"))) [
      | inl ends ↦
          let e : length (take (length bytes - 1) bytes) ≡ length bytes - 1 = length-take-le (length bytes - 1) bytes (omega arith) in
          subst Few (sym ends) (omega arith)
      | inr other ↦ subst Few (sym other) (omega arith)
    ]

long_secret : (bytes : List ℕ) → 129 < length bytes → is_secret (without_feed bytes) ≡ false
long_secret bytes long =
    let few : length bytes ≤ length (without_feed bytes) + 1 = few_dropped bytes in
    and_right (nat_lt 0 (length (without_feed bytes))) (nat_le (length (without_feed bytes)) 128)
    (is_above 128 (length (without_feed bytes)) (omega arith))

secret_refused : (secret token : List ℕ) → is_secret (without_feed secret) ≡ false → token_answer secret token ≡ token_refusal (codes "Secret")
unfolding token_answer
secret_refused secret token is_not =
    ap (λ (b : Bool). cond b (verdict_answer (verdict (without_feed secret) (without_feed token))) (token_refusal (codes "Secret"))) is_not

secret_cut : (secret token : List ℕ) → token_answer (take 130 secret) token ≡ token_answer secret token
secret_cut secret token =
    elim (leb_tells (length secret) 130) [
      | inl p ↦ ap (λ (v : List ℕ). token_answer v token) (take_all 130 secret p.1)
      | inr p ↦
          let e : length (take 130 secret) ≡ 130 = length-take-le 130 secret (omega arith) in
          secret_refused (take 130 secret) token (long_secret (take 130 secret) (omega arith))
          ∙ sym (secret_refused secret token (long_secret secret (omega arith)))
    ]

-- ---- The token

too_long_token : (key text : List ℕ) → nat_lt 8192 (length text) ≡ true → verdict key text ≡ Err TooLong
unfolding verdict
too_long_token key text long = rw long

long_token : (key token : List ℕ) → 8193 < length token → verdict key (without_feed token) ≡ Err TooLong
long_token key token long =
    let few : length token ≤ length (without_feed token) + 1 = few_dropped token in
    too_long_token key (without_feed token)
    (elim (leb_tells 8193 (length (without_feed token))) [ inl p ↦ p.0 | inr p ↦ absurd (omega arith) ])

verdict_cut : (key token : List ℕ) → verdict key (without_feed (take 8194 token)) ≡ verdict key (without_feed token)
verdict_cut key token =
    elim (leb_tells (length token) 8194) [
      | inl p ↦ ap (λ (v : List ℕ). verdict key (without_feed v)) (take_all 8194 token p.1)
      | inr p ↦
          let e : length (take 8194 token) ≡ 8194 = length-take-le 8194 token (omega arith) in
          long_token key (take 8194 token) (omega arith) ∙ sym (long_token key token (omega arith))
    ]

token_cut : (secret token : List ℕ) → token_answer secret (take 8194 token) ≡ token_answer secret token
unfolding token_answer
token_cut secret token =
    ap (λ x. cond (is_secret (without_feed secret)) (verdict_answer x) (token_refusal (codes "Secret"))) (verdict_cut (without_feed secret) token)

pub token_fetched : (contents : Option (List Content)) (secret_at token_at : Text) (secret token : List ℕ) (answer : Answer)
    → IsFetched contents secret_at 130 secret → IsFetched contents token_at 8194 token
    → answer ≡ token_answer secret token → AnswersToken contents secret_at token_at answer
token_fetched contents secret_at token_at secret token answer secret_from token_from e =
    let s = from_fetch contents secret_at 130 secret secret_from in
    let t = from_fetch contents token_at 8194 token token_from in
    record {
      secret = s.0;
      token = t.0;
      secret_there = s.1;
      token_there = t.1;
      answers = e ∙ ap (λ (v : List ℕ). token_answer v token) s.2 ∙ ap (λ (v : List ℕ). token_answer (take 130 s.0) v) t.2 ∙ secret_cut s.0 (take 8194 t.0) ∙ token_cut s.0 t.0;
    }

-- ---- The configuration and the metadata

described_long : (c : Configuration) (metadata : List ℕ) → nat_le (length metadata) 65536 ≡ false → described c metadata ≡ Err (metadata_refusal (codes "Size"))
unfolding described
described_long c metadata long = ap (λ (b : Bool). cond b (provider_read (discovery_read c.provider.issuer metadata)) (Err (metadata_refusal (codes "Size")))) long

described_cut : (c : Configuration) (metadata : List ℕ) → described c (take 65537 metadata) ≡ described c metadata
described_cut c metadata =
    elim (leb_tells (length metadata) 65537) [
      | inl p ↦ ap (described c) (take_all 65537 metadata p.1)
      | inr p ↦
          let e : length (take 65537 metadata) ≡ 65537 = length-take-le 65537 metadata (omega arith) in
          described_long c (take 65537 metadata) (is_above 65536 (length (take 65537 metadata)) (omega arith))
          ∙ sym (described_long c metadata (is_above 65536 (length metadata) (omega arith)))
    ]

-- the bytes that were fetched, if there are any
abbrev front_of : Option (List ℕ) → Option (List ℕ)
front_of metadata = option_map (take 65537) metadata

trusted_cut : (c : Configuration) (metadata : Option (List ℕ)) → trusted c (front_of metadata) ≡ trusted c metadata
trusted_cut c (Some metadata) = described_cut c metadata
trusted_cut c None = refl

number_cut : (c : Configuration) (number : Option ℕ) (metadata : Option (List ℕ)) → number_asked c number (front_of metadata) ≡ number_asked c number metadata
number_cut c (Some number) metadata = ap (setup_asked c number) (trusted_cut c metadata)
number_cut c None metadata = refl

party_cut : (read : Result Configuration RegNo) (party : Text) (metadata : Option (List ℕ)) → party_asked read party (front_of metadata) ≡ party_asked read party metadata
party_cut (Ok c) party metadata = number_cut c (party_place party c.parties) metadata
party_cut (Err why) party metadata = refl

rp_cut : (config : List ℕ) (party : Text) (metadata : Option (List ℕ)) → rp_asked (take 1048577 config) party (front_of metadata) ≡ rp_asked config party metadata
unfolding rp_asked
rp_cut config party metadata =
    ap (λ (read : Result Configuration RegNo). party_asked read party (front_of metadata)) (registry_cut config) ∙ party_cut (registry_read config) party metadata

op_cut : (config : List ℕ) → op_asked (take 1048577 config) ≡ op_asked config
unfolding op_asked
op_cut config = ap provider_asked (registry_cut config)

too_long_plus : (config : List ℕ) → registry_read config ≡ Err reg.TooLong → op_plus_asked config ≡ Err (configuration_refusal (registry_name reg.TooLong))
unfolding op_plus_asked
too_long_plus config long = ap (λ (read : Result Configuration RegNo). plus_asked config read) long

op_plus_cut : (config : List ℕ) → op_plus_asked (take 1048577 config) ≡ op_plus_asked config
op_plus_cut config =
    elim (leb_tells (length config) 1048577) [
      | inl p ↦ ap op_plus_asked (take_all 1048577 config p.1)
      | inr p ↦
          let e : length (take 1048577 config) ≡ 1048577 = length-take-le 1048577 config (omega arith) in
          too_long_plus (take 1048577 config)
          (too_long_configuration (take 1048577 config) (is_longer 1048576 (length (take 1048577 config)) (omega arith)))
          ∙ sym (too_long_plus config (too_long_configuration config (is_longer 1048576 (length config) (omega arith))))
    ]

from_fetch_if : (contents : Option (List Content)) (name : Option Text) (bytes : Option (List ℕ)) → IsFetchedIf contents name 65537 bytes
    → (content : Option (List ℕ)) × IsContentIf contents name content × (bytes ≡ front_of content)
from_fetch_if contents (Some name) (Some bytes) fetched =
    let f = from_fetch contents name 65537 bytes fetched in
    (Some f.0, f.1, ap Some f.2)
from_fetch_if contents None None fetched = (None, tt, refl)
from_fetch_if contents (Some name) None fetched = absurd (fetched)
from_fetch_if contents None (Some bytes) fetched = absurd (fetched)

server_fetched : {X Core A R : Type 0} (Unchanged : Type 0) (Serves : X → Summary Core A R → Type 0) (asked : List ℕ → Result X Answer)
    → ((config : List ℕ) → asked (take 1048577 config) ≡ asked config)
    → (contents : Option (List Content)) (config_at : Text) (bytes config : List ℕ) (answer : Answer)
    → bytes ≡ config → IsFetched contents config_at 1048577 config → ServedBy Unchanged Serves (asked bytes) answer
    → AnswersServer Unchanged Serves asked contents config_at answer
server_fetched {X} Unchanged Serves asked cut contents config_at bytes config answer same config_from served =
    let c = from_fetch contents config_at 1048577 config config_from in
    let V : Result X Answer → Type 0 = λ a. ServedBy Unchanged Serves a answer in
    record { config = c.0; config_there = c.1; served = subst V (ap asked (same ∙ c.2) ∙ cut c.0) served }

module _ {D L C W S K : Type 0} (t : Telling D L C W S K) (olds news : List (Desk D L C W)) where
  pub op_fetched : (contents : Option (List Content)) (config_at : Text) (bytes config : List ℕ) (answer : Answer)
      → bytes ≡ config → IsFetched contents config_at 1048577 config → ServedOp t olds news (op_asked bytes) answer
      → AnswersServer (news ≡ olds) (ServesOp t olds news) op_asked contents config_at answer
  op_fetched contents config_at bytes config answer same config_from served =
      server_fetched (news ≡ olds) (ServesOp t olds news) op_asked op_cut contents config_at bytes config answer same config_from served

  pub op_plus_fetched : (contents : Option (List Content)) (config_at : Text) (bytes config : List ℕ) (answer : Answer)
      → bytes ≡ config → IsFetched contents config_at 1048577 config → ServedOpPlus t olds news (op_plus_asked bytes) answer
      → AnswersServer (news ≡ olds) (ServesOpPlus t olds news) op_plus_asked contents config_at answer
  op_plus_fetched contents config_at bytes config answer same config_from served =
      server_fetched (news ≡ olds) (ServesOpPlus t olds news) op_plus_asked op_plus_cut contents config_at bytes config answer same config_from served

  pub rp_plus_fetched : (contents : Option (List Content)) (config_at party : Text) (bytes config : List ℕ) (answer : Answer)
      → bytes ≡ config → IsFetched contents config_at 1048577 config → ServedRpPlus t olds news (rp_asked bytes party None) answer
      → AnswersServer (news ≡ olds) (ServesRpPlus t olds news) (λ v. rp_asked v party None) contents config_at answer
  rp_plus_fetched contents config_at party bytes config answer same config_from served =
      server_fetched (news ≡ olds) (ServesRpPlus t olds news) (λ v. rp_asked v party None) (λ v. rp_cut v party None) contents config_at
      bytes config answer same config_from served

  pub rp_fetched : (contents : Option (List Content)) (config_at party : Text) (metadata_at : Option Text) (bytes config : List ℕ) (metadata : Option (List ℕ)) (answer : Answer)
      → bytes ≡ config → IsFetched contents config_at 1048577 config → IsFetchedIf contents metadata_at 65537 metadata
      → ServedRp t olds news (rp_asked bytes party metadata) answer → AnswersRp t olds news contents config_at party metadata_at answer
  rp_fetched contents config_at party metadata_at bytes config metadata answer same config_from metadata_from served =
      let c = from_fetch contents config_at 1048577 config config_from in
      let m = from_fetch_if contents metadata_at metadata metadata_from in
      let V : Result PartySetup Answer → Type 0 = λ asked. ServedRp t olds news asked answer in
      record {
        config = c.0;
        metadata = m.0;
        config_there = c.1;
        metadata_there = m.1;
        served = subst V (ap (λ v. rp_asked v party metadata) (same ∙ c.2) ∙ ap (rp_asked (take 1048577 c.0) party) m.2 ∙ rp_cut c.0 party m.0) served;
      }

-- ---- Two clauses at once

pub if_ok_both : {X E : Type 0} (r : Result X E) (P Q R : X → Type 0) → ((x : X) → P x → Q x → R x) → IfOk r P → IfOk r Q → IfOk r R
if_ok_both (Ok x) P Q R f p q = f x p q
if_ok_both (Err e) P Q R f p q = tt
