-- How calls end, computed over the definitions on small contents: for each status a call that ends so, and one that does not.
use Rattle.std.proofs.Common.{◌≡◌, ℕ, Bool, true, false, nat_le, List, [], ◌∷◌, ◌++◌, length, codes, Option, Some, None, Result, Ok, Err, inl, inr, refl, ap}
use Rattle.std.proofs.Common.{sym, ◌∙◌, subst, arith}
use Rattle.std.proofs.lemmas.Option.{same_Some}
use Rattle.std.specs.Fmt.{digits}
use Rattle.std.specs.Str.{is_utf8, chars}
use Rattle.hex.specs.Hex.{decode_pairs}
use Rattle.hex.proofs.OnLiterals.{hex_on_literals}
use Rattle.toml.proofs.OnLiterals.{toml_on_literals}
use Rattle.url.proofs.OnLiterals.{url_on_literals}
use Rattle.registered_url.specs.Rule.{parts_of}
use Rattle.configuration_rows.specs.declared.no.RegNo.{RegNo}
use Rattle.configuration_rows.specs.declared.no.RegNo.TheVariants as reg
use Rattle.configuration_rows.specs.Rows.{rows_refusals}
use Rattle.client_registry.specs.Rules.{records_refusals, subjects_refusals}
use Rattle.client_registry.specs.declared.records.Provider.{Provider}
use Rattle.client_registry.specs.Configuration.{Configuration, configuration_of}
use Rattle.configuration_rows.specs.Versions.{version_in}
use Rattle.client_registry.specs.Reading.{document_in, rows_read, records_read, subjects_read, registry_read}
use Rattle.client_registry.specs.Records.{usual_settings}
use Rattle.sso_base.specs.Words.{Text}
use Rattle.sso_base.specs.Outside.{Content, content_of}
use Rattle.jws_compact.specs.declared.no.JwsNo.{JwsNo}
use Rattle.jws_compact.specs.declared.no.JwsNo.TheVariants.{NotThreeParts}
use Rattle.jws_compact.specs.declared.unsealing.Unsealed.{Unsealed}
use Rattle.jws_compact.specs.Jws.{verdict}
use Rattle.jws_compact.proofs.OnLiterals.{jws_on_literals}
use Rattle.jws_compact.specs.Names.{jws_name}
use Rattle.sso_places.specs.declared.types.Broken.TheVariants.{Leaked}
use Rattle.sso_places.specs.Agreement.{SignsOn}
use Rattle.sso_places.specs.Site.{own_site}
use Rattle.sso_places.specs.World.{Place, Provider as AtProvider, Party, World}
use Rattle.trace_lines.specs.declared.no.TraceNo.TheVariants as no
use Rattle.trace_lines.specs.Trace.{Told, trace_told}
use Rattle.storm_texts.specs.Config.{config_text}
use Rattle.storm_texts.specs.Trace.{trace_text}
use Rattle.oidc_replay.specs.Storm.{storm_text}
use Rattle.oidc_replay.specs.declared.replaying.ReplayEnd.TheVariants as end
use Rattle.oidc_replay.specs.Play.{play_of}
use Rattle.oidc_replay.specs.End.{end_of}
use Rattle.oidc_replay.specs.Text.{text_of}
use Rattle.oidc_replay.specs.Bound.{IsWhollyBound}
use Rattle.honest_places.specs.Login.{Visitor, IsHonestBut, begun, waited, went_on}
use Rattle.oidc_replay.specs.Theorem.{SignsOnWell, PlaysWell}
use Rattle.discovery_doc.specs.Reading.{discovery_read}
use Rattle.end_request.specs.Returning.{returns_read}
use Rattle.op_exchange.specs.declared.ask.OpAsk.{OpAsk}
use Rattle.op_exchange.specs.declared.reply.OpReply.{OpReply}
use Rattle.op_core.specs.Providing.{Providing}
use Rattle.command_line.specs.declared.command.Command.{Command}
use Rattle.command_line.specs.declared.command.Command.TheVariants.{Replay, Rp, OpPlus, RpPlus, Storm, Token}
use Rattle.command_line.specs.Commands.{command_of}
use Rattle.serving.specs.declared.summary.Summary.{Summary}
use Rattle.serving.specs.Summaries.{Telling}
use Rattle.sso_serve.specs.Cores.{end_setup}
use Rattle.sso_serve.specs.Servers.{OpPlusSummary, ServesOp, ServesOpPlus}
use Rattle.sso.specs.Answer.{configuration_refusal, end_status, answer_to, replay_answer, registry_name, configuration_text, usage_text, trace_name}
use Rattle.sso.specs.Answer.{refused_text, without_feed, token_text, token_answer}
use Rattle.sso.specs.Asked.{provider_asked, op_asked, returns_asked, plus_asked, op_plus_asked, metadata_refusal, described, party_asked, rp_asked, served_text}
use Rattle.sso.specs.Ends.{IsConfigOf, IsTraceOf, asks_play, ShowsUsage, ReportsShelf, IsConfigurationNo, RefusesConfiguration, RefusesTrace, RefusesToken}
use Rattle.sso.specs.Ends.{OpensToken, IsTokenNo, op_status, rp_status, status_of_asked, status_for}
use Rattle.sso.specs.Ends.{RunsProvider, RunsProviderPlus, RunsPartyPlus, is_serving}
use Rattle.sso.specs.SignOn.{Replays, Storms}

-- a small configuration, and what is read of it
abbrev small : List ℕ
small = codes "version = 1\n[provider]\nissuer = \"https://a.b\"\nlisten = \"a.b:443\"\nsalt = \"00112233445566778899aabbccddeeff\"\n"

abbrev configuration : Configuration
configuration = record {
  provider = record { issuer = codes "https://a.b"; authorize = codes "https://a.b/authorize"; token = codes "https://a.b/token"; userinfo = Some (codes "https://a.b/userinfo") };
  prefix = [];
  listen = codes "a.b:443";
  secure = true;
  users = [];
  clients = [];
  parties = [];
  subjects = [];
  lasting = false;
  full_pages = false;
  title = codes "a.b";
  settings = usual_settings;
}

small_read : registry_read small ≡ Ok configuration
unfolding document_in toml_on_literals version_in rows_read records_read subjects_read rows_refusals records_refusals subjects_refusals configuration_of url_on_literals parts_of hex_on_literals is_utf8 chars
small_read = refl

-- one that is no TOML
other_refused : registry_read (codes "version") ≡ Err reg.NotToml
unfolding document_in toml_on_literals is_utf8 chars
other_refused = refl

abbrev words : List Text
words = codes "replay" ∷ codes "config" ∷ codes "trace" ∷ []

abbrev header : List ℕ
header = codes "sso-trace 1 101010101010101010101010101010101010101010101010\n"

abbrev seed : List ℕ
seed = 16 ∷ 16 ∷ 16 ∷ 16 ∷ 16 ∷ 16 ∷ 16 ∷ 16 ∷ 16 ∷ 16 ∷ 16 ∷ 16 ∷ 16 ∷ 16 ∷ 16 ∷ 16 ∷ 16 ∷ 16 ∷ 16 ∷ 16 ∷ 16 ∷ 16 ∷ 16 ∷ 16 ∷ []

-- a shelf with this configuration and this trace
abbrev with : List ℕ → List ℕ → List Content
with config trace = (codes "config", config) ∷ (codes "trace", trace) ∷ []

abbrev token_words : List Text
token_words = codes "token" ∷ codes "secret" ∷ codes "token" ∷ []

abbrev key : List ℕ
key = codes "key"

-- the payload {} under this key
abbrev sealed : List ℕ
sealed = codes "eyJhbGciOiJIUzI1NiIsInR5cCI6IkpXVCJ9.e30.9EmJDfAi6fqc_FoO3yD77spdi7QZX-s9VzN89vOaOp0"

abbrev unsealed : Unsealed
unsealed = record { typ = Some (codes "JWT"); payload = codes "{}" }

-- a shelf with this secret and this token
abbrev holding : List ℕ → List ℕ → List Content
holding secret token = (codes "secret", secret) ∷ (codes "token", token) ∷ []

-- ---- Line feeds

feed-is_dropped : without_feed (codes "key\n") ≡ codes "key"
feed-is_dropped = refl

feed-alone_is_dropped : without_feed (codes "\n") ≡ []
feed-alone_is_dropped = refl

feed-one_of_two_is_dropped : without_feed (codes "key\n\n") ≡ codes "key\n"
feed-one_of_two_is_dropped = refl

feed-not_before_the_end : without_feed (codes "\nkey") ≡ codes "\nkey"
feed-not_before_the_end = refl

feed-none_in_nothing : without_feed [] ≡ []
feed-none_in_nothing = refl

-- ---- Commands

abbrev replaying : Option Command
replaying = Some (Replay (codes "config") (codes "trace"))

words_read : command_of words ≡ replaying
unfolding command_of
words_read = refl

abbrev opening : Option Command
opening = Some (Token (codes "secret") (codes "token"))

token_words_read : command_of token_words ≡ opening
unfolding command_of
token_words_read = refl

-- ---- Statuses by the contents

accepted-is_0 : status_for (with small header) replaying ≡ Some 0
unfolding answer_to trace_told end_of play_of decode_pairs
accepted-is_0 = ap (λ (r : Result Configuration RegNo). Some (replay_answer r header).status) small_read

other_words-are_2 : status_for (with small header) None ≡ Some 2
other_words-are_2 = refl

refused_configuration-is_3 : status_for (with (codes "version") header) replaying ≡ Some 3
unfolding answer_to
refused_configuration-is_3 = ap (λ (r : Result Configuration RegNo). Some (replay_answer r header).status) other_refused

refused-is_4 : status_for (with small (codes "hello\n")) replaying ≡ Some 4
unfolding answer_to trace_told
refused-is_4 = ap (λ (r : Result Configuration RegNo). Some (replay_answer r (codes "hello\n")).status) small_read

broken-is_7 : end_status (end.Broken (Leaked 9)) ≡ 7
broken-is_7 = refl

full-is_8 : end_status (end.Journal 262145) ≡ 8
full-is_8 = refl

absent-is_5 : status_for ((codes "config", small) ∷ []) replaying ≡ Some 5
absent-is_5 = refl

opened-is_0 : status_for (holding (codes "key\n") (sealed ++ 10 ∷ [])) opening ≡ Some 0
unfolding token_answer jws_on_literals
opened-is_0 = refl

no_secret-is_10 : status_for (holding (codes "\n") sealed) opening ≡ Some 10
unfolding token_answer
no_secret-is_10 = refl

other_secret-is_10 : status_for (holding (codes "kez") sealed) opening ≡ Some 10
unfolding token_answer jws_on_literals
other_secret-is_10 = refl

absent_token-is_5 : status_for ((codes "secret", key) ∷ []) opening ≡ Some 5
absent_token-is_5 = refl

-- ---- Ends

usage_shown : ShowsUsage (codes "--help" ∷ []) (Some []) (Some usage_text)
unfolding command_of
usage_shown = record { words_are_none = refl; wrote = refl }

usage_not_shown : ShowsUsage words (Some []) (Some usage_text) → ⊥
usage_not_shown shows = (let never : ◌≡◌ {A = Option Command} replaying None = sym words_read ∙ shows.words_are_none in cc)

shelf_not_reported : ReportsShelf 3 3 words None None → ⊥
shelf_not_reported reports = (let rose = reports.rose in absurd (omega arith))

configuration_refused : RefusesConfiguration (Some (with (codes "version") header)) words (Some []) (Some (codes "configuration NotToml\n"))
unfolding configuration_text registry_name
configuration_refused = record { command = Replay (codes "config") (codes "trace"); words_are = words_read; config = codes "version"; there = refl; name = codes "NotToml"; why = inl (reg.NotToml, other_refused, refl); wrote = refl }

small_is_taken : (name : Text) → IsConfigurationNo (Replay (codes "config") (codes "trace")) small name → ⊥
small_is_taken name (inl refused) = (let never : ◌≡◌ {A = Result Configuration RegNo} (Ok configuration) (Err refused.0) = sym small_read ∙ refused.1 in cc)
small_is_taken name (inr other) = other.2

-- the command and the name of its configuration are those of the words
configuration_not_refused : RefusesConfiguration (Some (with small header)) words None None → ⊥
configuration_not_refused refuses =
    let same : Replay (codes "config") (codes "trace") ≡ refuses.command = same_Some (Replay (codes "config") (codes "trace")) refuses.command (sym words_read ∙ refuses.words_are) in
    let There : Command → Type 0 = λ command. IsConfigOf (Some (with small header)) command refuses.config in
    let small_is : small ≡ refuses.config = same_Some small refuses.config (subst There (sym same) refuses.there) in
    let Refused : Command → Type 0 = λ command. IsConfigurationNo command refuses.config refuses.name in
    let Small : List ℕ → Type 0 = λ config. IsConfigurationNo (Replay (codes "config") (codes "trace")) config refuses.name in
    small_is_taken refuses.name (subst Small (sym small_is) (subst Refused (sym same) refuses.why))

trace_refused : RefusesTrace (Some (with small (codes "hello\n"))) words (Some []) (Some (codes "trace Header\n"))
unfolding trace_told refused_text trace_name
trace_refused =
    record { command = Replay (codes "config") (codes "trace"); words_are = words_read; config = small; config_there = refl; configuration = configuration; read = small_read; trace = codes "hello\n"; trace_there = refl; why = no.Header; refused = refl; wrote = refl }

-- the header alone is a trace of no line
abbrev nothing_told : Told
nothing_told = record { seed = seed; lines = [] }

nothing_accepted : trace_told configuration header ≡ Ok nothing_told
unfolding trace_told decode_pairs
nothing_accepted = refl

-- a world of no place has none in it, and a history of no pair has none
no_place : {A : Type 0} (later earlier : List A) (x : A) → [] ≡ later ++ x ∷ earlier → ⊥
no_place [] earlier x is = absurd (cc)
no_place (y ∷ later) earlier x is = absurd (cc)

nothing_is_bound : IsWhollyBound (own_site configuration) []
nothing_is_bound =
    record {
      codes = λ n from request p later earlier id code is exchanged redeemed. absurd (no_place later earlier (Party n from request p) is);
      access_tokens = λ n from request p later earlier id access is asks informed. absurd (no_place later earlier (Party n from request p) is);
    }

no_login : (later before : World) (v : Visitor) (login : List Place) → [] ≡ later ++ before → IsHonestBut None configuration v before login → ⊥
no_login later w v l is (begun world x begins) = no_place later world x is
no_login later w v l is (waited world login x honest spares) = no_place later world x is
no_login later w v l is (went_on world last earlier x honest continues) = no_place later world x is

nothing_signs_well : SignsOnWell (own_site configuration) []
unfolding SignsOn
nothing_signs_well =
    record { signs = tt; founded = tt; once = record { entered = tt; redeemed = tt; ended = tt }; same_browser = λ browser nonce only. tt }

nothing_plays_well : PlaysWell configuration nothing_told
unfolding play_of end_of SignsOn
nothing_plays_well =
    record {
      legal = record { provider = tt; parties = λ n. tt; asked = tt };
      signs = λ unforged unleaked. tt;
      founded = λ unforged unleaked. (tt, nothing_signs_well.once);
      same_browser = λ unleaked. nothing_signs_well.same_browser;
      binds = λ unforged unleaked hashes. nothing_is_bound;
      succeeds = λ later before v last earlier is may honest. absurd (no_login later before v (last ∷ earlier) is honest);
      met = λ is. (nothing_signs_well, nothing_is_bound);
      until = λ broken later before ends is. (let never : end.Met ≡ end.Broken broken = ends in absurd (cc));
      gives =
          record {
            answers = λ later earlier p answer given is told. absurd (no_place later earlier p is);
            tokens = λ later earlier p access id is told. absurd (no_place later earlier p is);
            infos = λ later earlier p claims is told. absurd (no_place later earlier p is);
          };
      reaches = λ unleaked.
          record {
            answers = λ later earlier from request p answer given is told. absurd (no_place later earlier (AtProvider from request p) is);
            tokens = λ later earlier from request p access id is told. absurd (no_place later earlier (AtProvider from request p) is);
          };
      informs = λ unleaked unshared later earlier from request p claims is told. absurd (no_place later earlier (AtProvider from request p) is);
      clients = λ unforged unleaked hashes unshared later earlier from request p claims is told. absurd (no_place later earlier (AtProvider from request p) is);
      tested = λ met none later earlier from request p claims is told. absurd (no_place later earlier (AtProvider from request p) is);
    }

replayed : Replays (Some (with small header)) words 0 (Some []) (Some (codes "premises met\n"))
unfolding text_of end_of play_of
replayed =
    record {
      config_at = codes "config";
      trace_at = codes "trace";
      words_are = words_read;
      config = small;
      config_there = refl;
      configuration = configuration;
      read = small_read;
      trace = header;
      trace_there = refl;
      told = nothing_told;
      accepted = nothing_accepted;
      ends = refl;
      wrote = refl;
      well = nothing_plays_well;
    }

abbrev storm_words : List Text
storm_words = codes "storm" ∷ codes "0" ∷ codes "1" ∷ []

storming : command_of storm_words ≡ Some (Storm 0 1)
unfolding command_of digits
storming = refl

-- the outcome over a configuration that is accepted, if the trace is too
stormed : (c : Configuration) (told : Told) → registry_read config_text ≡ Ok c → trace_told c (trace_text 0 1) ≡ Ok told → PlaysWell c told
    → Storms storm_words (end_status (end_of c told)) (Some []) (Some (storm_text c told 0 1))
stormed c told read accepted well =
    record { number = 0; count = 1; words_are = storming; configuration = c; read = read; told = told; accepted = accepted; ends = refl; wrote = refl; well = well }

-- other words are no storm
not_stormed : Storms words 0 None None → ⊥
not_stormed storms = (let never : ◌≡◌ {A = Option Command} replaying (Some (Storm storms.number storms.count)) = sym words_read ∙ storms.words_are in cc)

-- no shelf gives a storm its configuration
storm_config-is_its_own : IsConfigOf (Some (with small header)) (Storm 0 1) config_text
storm_config-is_its_own = refl

storm_trace-is_its_own : IsTraceOf None (Storm 0 1) (trace_text 0 1)
storm_trace-is_its_own = refl

token_has_no_trace : IsTraceOf None (Token (codes "secret") (codes "token")) [] → ⊥
token_has_no_trace never = never

replay-plays : asks_play replaying ≡ true
replay-plays = refl

token-does_not : asks_play opening ≡ false
token-does_not = refl

token_opened : OpensToken (Some (holding (codes "key\n") sealed)) token_words (Some []) (Some (codes "{}\n"))
unfolding jws_on_literals
token_opened =
    record {
      secret_at = codes "secret";
      token_at = codes "token";
      words_are = token_words_read;
      secret = codes "key\n";
      secret_there = refl;
      secret_fits = refl;
      token = sealed;
      token_there = refl;
      unsealed = unsealed;
      opened = refl;
      wrote = refl;
    }

secret_refused : RefusesToken (Some (holding (codes "\n") sealed)) token_words (Some []) (Some (codes "token Secret\n"))
unfolding token_text
secret_refused =
    record { secret_at = codes "secret"; token_at = codes "token"; words_are = token_words_read; secret = codes "\n"; secret_there = refl; token = sealed; token_there = refl; name = codes "Secret"; why = inl (refl, refl); wrote = refl }

token_refused : RefusesToken (Some (holding key (codes "e30.e30"))) token_words (Some []) (Some (codes "token NotThreeParts\n"))
unfolding jws_on_literals jws_name token_text
token_refused =
    record {
      secret_at = codes "secret";
      token_at = codes "token";
      words_are = token_words_read;
      secret = key;
      secret_there = refl;
      token = codes "e30.e30";
      token_there = refl;
      name = codes "NotThreeParts";
      why = inr (refl, (NotThreeParts, refl, refl));
      wrote = refl;
    }

sealed_opens : verdict key sealed ≡ Ok unsealed
unfolding jws_on_literals
sealed_opens = refl

sealed_is_no_refusal : (name : Text) → IsTokenNo key sealed name → ⊥
sealed_is_no_refusal name (inl other) = (let never : ◌≡◌ {A = Bool} true false = other.0 in cc)
sealed_is_no_refusal name (inr refused) = (let never : ◌≡◌ {A = Result Unsealed JwsNo} (Ok unsealed) (Err refused.1.0) = sym sealed_opens ∙ refused.1.1 in cc)

token_not_refused : RefusesToken (Some (holding key sealed)) token_words None None → ⊥
token_not_refused refuses =
    let same : Token (codes "secret") (codes "token") ≡ Token refuses.secret_at refuses.token_at = same_Some (Token (codes "secret") (codes "token")) (Token refuses.secret_at refuses.token_at) (sym token_words_read ∙ refuses.words_are) in
    let secret_is : codes "secret" ≡ refuses.secret_at = cc in
    let token_is : codes "token" ≡ refuses.token_at = cc in
    let SecretAt : Text → Type 0 = λ name. content_of (holding key sealed) name ≡ Some refuses.secret in
    let TokenAt : Text → Type 0 = λ name. content_of (holding key sealed) name ≡ Some refuses.token in
    let OfSecret : List ℕ → Type 0 = λ v. IsTokenNo (without_feed v) (without_feed refuses.token) refuses.name in
    let OfToken : List ℕ → Type 0 = λ v. IsTokenNo key (without_feed v) refuses.name in
    sealed_is_no_refusal refuses.name
    (subst OfToken (sym (same_Some sealed refuses.token (subst TokenAt (sym token_is) refuses.token_there)))
    (subst OfSecret (sym (same_Some key refuses.secret (subst SecretAt (sym secret_is) refuses.secret_there))) refuses.why))

-- ---- What is to be served

served-the_provider : op_asked small ≡ Ok configuration
unfolding op_asked
served-the_provider = ap provider_asked small_read

provider-is_for_the_doors : op_status (Some small) ≡ None
provider-is_for_the_doors = ap status_of_asked served-the_provider

not_served-no_toml : op_asked (codes "version") ≡ Err (configuration_refusal (codes "NotToml"))
unfolding op_asked registry_name
not_served-no_toml = ap provider_asked other_refused

refused_provider-is_3 : op_status (Some (codes "version")) ≡ Some 3
refused_provider-is_3 = ap status_of_asked not_served-no_toml

absent_provider-is_5 : op_status None ≡ Some 5
absent_provider-is_5 = refl

not_served-no_party : rp_asked small (codes "shop") None ≡ Err (configuration_refusal (codes "NoParty"))
unfolding rp_asked
not_served-no_party = ap (λ r. party_asked r (codes "shop") None) small_read

no_party-is_3 : rp_status (codes "shop") (Some small) (Some None) ≡ Some 3
no_party-is_3 = ap status_of_asked not_served-no_party

absent_metadata-is_5 : rp_status (codes "shop") (Some small) None ≡ Some 5
absent_metadata-is_5 = refl

described-by_what_is_read : (metadata : List ℕ) (p : Provider) → nat_le (length metadata) 65536 ≡ true → discovery_read (codes "https://a.b") metadata ≡ Ok p → described configuration metadata ≡ Ok p
unfolding described
described-by_what_is_read metadata p fits read = rw (fits, read) refl

not_described-too_long : (metadata : List ℕ) → nat_le (length metadata) 65536 ≡ false → described configuration metadata ≡ Err (metadata_refusal (codes "Size"))
unfolding described
not_described-too_long metadata long = rw (long) refl

abbrev party_words : List Text
party_words = codes "rp" ∷ codes "config" ∷ codes "shop" ∷ []

no_party_refused : RefusesConfiguration (Some (with small header)) party_words (Some []) (Some (codes "configuration NoParty\n"))
unfolding configuration_text command_of
no_party_refused =
    record { command = Rp (codes "config") (codes "shop") None; words_are = refl; config = small; there = refl; name = codes "NoParty"; why = inr (configuration, small_read, (refl, refl)); wrote = refl }

-- with proof keys
small_returns : returns_read small ≡ Ok []
unfolding returns_read document_in toml_on_literals is_utf8 chars
small_returns = refl

served-the_provider_plus : op_plus_asked small ≡ Ok (end_setup configuration [])
unfolding op_plus_asked
served-the_provider_plus = ap (plus_asked small) small_read ∙ ap (returns_asked configuration) small_returns

-- a refusal of where browsers may be sent is one of the configuration, with its name
not_served-returns : (c : Configuration) (id : Text) → returns_asked c (Err (reg.TooMany id)) ≡ Err (configuration_refusal (registry_name (reg.TooMany id)))
not_served-returns c id = refl

provider_plus-is_for_the_doors : status_for (with small header) (Some (OpPlus (codes "config"))) ≡ None
provider_plus-is_for_the_doors = ap status_of_asked served-the_provider_plus

no_party_plus-is_3 : status_for (with small header) (Some (RpPlus (codes "config") (codes "shop"))) ≡ Some 3
no_party_plus-is_3 = no_party-is_3

absent_party_plus-is_5 : status_for [] (Some (RpPlus (codes "config") (codes "shop"))) ≡ Some 5
absent_party_plus-is_5 = refl

plus-serves : is_serving (Some (OpPlus (codes "config"))) ≡ true
plus-serves = refl

token-serves_not : is_serving opening ≡ false
token-serves_not = refl

no_party_plus_refused : RefusesConfiguration (Some (with small header)) (codes "rp-plus" ∷ codes "config" ∷ codes "shop" ∷ []) (Some [])
    (Some (codes "configuration NoParty\n"))
unfolding configuration_text command_of
no_party_plus_refused =
    record {
      command = RpPlus (codes "config") (codes "shop");
      words_are = refl;
      config = small;
      there = refl;
      name = codes "NoParty";
      why = inr (configuration, small_read, (refl, refl));
      wrote = refl;
    }

-- ---- Servers without desks

module _ {D L C W S K : Type 0} (t : Telling D L C W S K) where
  abbrev op_words : List Text
  op_words = codes "op" ∷ codes "config" ∷ []

  abbrev nothing : Summary Providing OpAsk OpReply
  nothing = record { served = 0; entries = 0; fault = false; closed = None }

  nothing_served : ServesOp t [] [] configuration nothing
  nothing_served = record { none = λ _. (refl, refl, refl, refl, refl); some = λ few. absurd (omega arith); failed = λ never. absurd (cc); well = λ _. tt }

  provider_run : RunsProvider t [] [] (Some (with small header)) op_words false (Some []) (Some (codes "served 0 entries 0\n"))
  unfolding command_of served_text digits
  provider_run =
      record { config_at = codes "config"; words_are = refl; config = small; there = refl; configuration = configuration; read = small_read; summary = nothing; served = nothing_served; ended = refl; wrote = refl }

  -- no door failed
  provider_not_run : RunsProvider t [] [] (Some (with small header)) op_words true (Some []) (Some (codes "door\n")) → ⊥
  provider_not_run runs = runs.served.failed runs.ended

  -- with proof keys
  abbrev op_plus_words : List Text
  op_plus_words = codes "op-plus" ∷ codes "config" ∷ []

  abbrev nothing_plus : OpPlusSummary
  nothing_plus = record { served = 0; entries = 0; fault = false; closed = None }

  nothing_plus_served : ServesOpPlus t [] [] (end_setup configuration []) nothing_plus
  nothing_plus_served =
      record { none = λ _. (refl, refl, refl, refl, refl); some = λ few. absurd (omega arith); failed = λ never. absurd (cc); well = λ _. tt }

  provider_plus_run : RunsProviderPlus t [] [] (Some (with small header)) op_plus_words false (Some []) (Some (codes "served 0 entries 0\n"))
  unfolding command_of served_text digits
  provider_plus_run =
      record {
        config_at = codes "config";
        words_are = refl;
        config = small;
        there = refl;
        configuration = configuration;
        read = small_read;
        returns = [];
        sends = small_returns;
        summary = nothing_plus;
        served = nothing_plus_served;
        ended = refl;
        wrote = refl;
      }

  -- other words are no party with proof keys
  party_plus_not_run : RunsPartyPlus t [] [] (Some (with small header)) words false None None → ⊥
  party_plus_not_run runs =
      (let never : ◌≡◌ {A = Option Command} replaying (Some (RpPlus runs.config_at runs.party)) = sym words_read ∙ runs.words_are in cc)
