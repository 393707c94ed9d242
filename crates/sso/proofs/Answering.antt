-- How a call ends, from what was answered and how that was written.
use Rattle.std.proofs.Common.{◌≡◌, ℕ, Bool, true, false, nat_le, cond, List, length, codes, Option, Some, None, is_some, option_map, Result, Ok, Err, inl}
use Rattle.std.proofs.Common.{inr, refl, ap, ◌∙◌, sym, subst}
use Rattle.sso_base.specs.Words.{Text}
use Rattle.sso_base.specs.Outside.{Content, content_of, Takes}
use Rattle.sso_base.proofs.RowLaws.{bool_cases}
use Rattle.jws_compact.specs.declared.no.JwsNo.{JwsNo}
use Rattle.jws_compact.specs.declared.unsealing.Unsealed.{Unsealed}
use Rattle.jws_compact.specs.Jws.{verdict}
use Rattle.jws_compact.specs.Names.{jws_name}
use Rattle.configuration_rows.specs.declared.no.RegNo.{RegNo}
use Rattle.client_registry.specs.declared.records.Provider.{Provider}
use Rattle.client_registry.specs.Configuration.{Configuration}
use Rattle.client_registry.specs.Reading.{registry_read}
use Rattle.client_registry.specs.Rules.{party_place}
use Rattle.discovery_doc.specs.declared.no.DiscNo.{DiscNo}
use Rattle.discovery_doc.specs.Reading.{discovery_read}
use Rattle.rp_accept.specs.Serving.{setup_of}
use Rattle.end_request.specs.Returning.{ReturnLists, returns_read}
use Rattle.command_line.specs.declared.command.Command.{Command}
use Rattle.command_line.specs.declared.command.Command.TheVariants.{Replay, Op, Rp, OpPlus, RpPlus, Storm, Token}
use Rattle.command_line.specs.Commands.{command_of, is_command}
use Rattle.serving.specs.declared.summary.Summary.{Summary}
use Rattle.sso_serve.specs.Servers.{ServesOp, ServesRp, ServesOpPlus, ServesRpPlus}
use Rattle.trace_lines.specs.declared.no.TraceNo.{TraceNo}
use Rattle.trace_lines.specs.Trace.{Told, trace_told}
use Rattle.storm_texts.specs.Config.{config_text}
use Rattle.storm_texts.specs.Trace.{trace_text}
use Rattle.oidc_replay.specs.declared.replaying.ReplayEnd.{ReplayEnd}
use Rattle.oidc_replay.specs.declared.replaying.ReplayEnd.TheVariants as end
use Rattle.oidc_replay.specs.End.{end_of}
use Rattle.sso.specs.Answer.{Answer, registry_name, configuration_refusal, end_status, trace_answer, replay_answer, answer_to, storm_told, storm_over}
use Rattle.sso.specs.Answer.{storm_answer, without_feed, is_secret, token_refusal, verdict_answer, token_answer}
use Rattle.sso.specs.Asked.{provider_asked, op_asked, returns_asked, plus_asked, op_plus_asked, metadata_refusal, metadata_name, provider_read, described}
use Rattle.sso.specs.Asked.{trusted, setup_asked, number_asked, party_asked, rp_asked, server_answer}
use Rattle.sso.specs.Ends.{IsConfigOf, op_plus_status}
use Rattle.sso.specs.Ends.{IsConfigurationNo, IsTokenNo, IsMetadataNo, status_of_both, status_of_asked, op_status, content_if, rp_status, status_for}
use Rattle.sso.specs.Ends.{IsStatus, IsStatusOf, is_serving}
use Rattle.sso.specs.Outcomes.{IsContent, IsContentIf, Plays, FailsAtShelf, AnswersReplay, AnswersStorm, AnswersToken, ServedBy, ServedOp, ServedOpPlus}
use Rattle.sso.specs.Outcomes.{ServedRp, ServedRpPlus, MayReplay, MayOpen, MayAnswer, IsWritten}
use Rattle.sso.specs.Outcomes.{MayServeOp, MayServeRp, MayServeOpPlus, MayServeRpPlus, usage_answer, shelf_answer}
use Rattle.sso.specs.SignOn.{Replays, Storms}
use Rattle.sso.specs.Statuses.{Call, Ended}
use Rattle.sso.proofs.Endings.{runs_end, usage_ends, configuration_ends, trace_ends, shelf_ends, broken_ends, full_ends, sink_ends, door_ends, refusal_ends}

module _ {D L C W S K : Type 0} (call : Call D L C W S K) where
  -- an answer that was written whole
  abbrev Whole : Answer → Type 0
  Whole answer = Takes call.old call.new answer.text

  whole_as : (answer other : Answer) → Whole answer → answer ≡ other → Whole other
  whole_as answer other wrote is = (let W : Answer → Type 0 = λ v. Whole v in subst W is wrote)

  ended_as : (answer other : Answer) → answer ≡ other → Ended call other.status → Ended call answer.status
  ended_as answer other is ended = (let E : Answer → Type 0 = λ v. Ended call v.status in subst E (sym is) ended)

  shelf_failed : (command : Command) (answer : Answer) → command_of call.words ≡ Some command → call.news ≡ call.olds
      → FailsAtShelf call.shelf_before call.shelf_after answer → Whole answer → Ended call answer.status
  unfolding shelf_answer
  shelf_failed command answer words_are idle failed wrote =
      ended_as answer shelf_answer failed.0
      (shelf_ends call idle (record { words_are = ap is_some words_are; rose = failed.1; wrote = whole_as answer shelf_answer wrote failed.0 }))

  -- ---- `replay`

  -- the configuration is refused
  unread_ends : (config_at trace_at : Text) (answer : Answer) → command_of call.words ≡ Some (Replay config_at trace_at) → call.news ≡ call.olds
      → (a : AnswersReplay call.contents config_at trace_at answer) → (why : RegNo) → registry_read a.config ≡ Err why
      → answer ≡ configuration_refusal (registry_name why) → Whole answer → Ended call answer.status
  unread_ends config_at trace_at answer words_are idle a why refused is wrote =
      ended_as answer (configuration_refusal (registry_name why)) is
      (configuration_ends call idle
      (record {
        command = Replay config_at trace_at;
        words_are = words_are;
        config = a.config;
        there = a.config_there;
        name = registry_name why;
        why = inl (why, refused, refl);
        wrote = whole_as answer (configuration_refusal (registry_name why)) wrote is;
      }))

  -- the status of a play, by how it ended
  play_ends : call.news ≡ call.olds → (end : ReplayEnd) → Replays call.contents call.words (end_status end) call.old call.new → Ended call (end_status end)
  play_ends idle end.Met replays = runs_end call (inl replays)
  play_ends idle (end.Broken broken) replays = broken_ends call idle (inl replays)
  play_ends idle (end.Journal place) replays = full_ends call idle (inl replays)

  -- the configuration is accepted
  traced_ends : (config_at trace_at : Text) (answer : Answer) → command_of call.words ≡ Some (Replay config_at trace_at) → call.news ≡ call.olds
      → (a : AnswersReplay call.contents config_at trace_at answer) → (c : Configuration) → registry_read a.config ≡ Ok c → Whole answer
      → (told : Result Told TraceNo) → trace_told c a.trace ≡ told → answer ≡ trace_answer c told → Ended call answer.status
  unfolding Plays
  traced_ends config_at trace_at answer words_are idle a c read wrote (Ok told) accepted is =
      ended_as answer (trace_answer c (Ok told)) is
      (play_ends idle (end_of c told)
      (record {
        config_at = config_at;
        trace_at = trace_at;
        words_are = words_are;
        config = a.config;
        config_there = a.config_there;
        configuration = c;
        read = read;
        trace = a.trace;
        trace_there = a.trace_there;
        told = told;
        accepted = accepted;
        ends = refl;
        wrote = whole_as answer (trace_answer c (Ok told)) wrote is;
        well = a.well c read told accepted;
      }))
  traced_ends config_at trace_at answer words_are idle a c read wrote (Err why) refused is =
      ended_as answer (trace_answer c (Err why)) is
      (trace_ends call idle
      (record {
        command = Replay config_at trace_at;
        words_are = words_are;
        config = a.config;
        config_there = a.config_there;
        configuration = c;
        read = read;
        trace = a.trace;
        trace_there = a.trace_there;
        why = why;
        refused = refused;
        wrote = whole_as answer (trace_answer c (Err why)) wrote is;
      }))

  replay_by : (config_at trace_at : Text) (answer : Answer) → command_of call.words ≡ Some (Replay config_at trace_at) → call.news ≡ call.olds
      → (a : AnswersReplay call.contents config_at trace_at answer) → Whole answer
      → (read : Result Configuration RegNo) → registry_read a.config ≡ read → answer ≡ replay_answer read a.trace → Ended call answer.status
  replay_by config_at trace_at answer words_are idle a wrote (Err why) read is = unread_ends config_at trace_at answer words_are idle a why read is wrote
  replay_by config_at trace_at answer words_are idle a wrote (Ok c) read is =
      traced_ends config_at trace_at answer words_are idle a c read wrote (trace_told c a.trace) refl is

  replay_ends : (config_at trace_at : Text) (answer : Answer) → command_of call.words ≡ Some (Replay config_at trace_at) → call.news ≡ call.olds
      → MayReplay call.contents call.shelf_before call.shelf_after config_at trace_at answer → Whole answer → Ended call answer.status
  unfolding answer_to
  replay_ends config_at trace_at answer words_are idle (inl failed) wrote = shelf_failed (Replay config_at trace_at) answer words_are idle failed wrote
  replay_ends config_at trace_at answer words_are idle (inr a) wrote =
      replay_by config_at trace_at answer words_are idle a wrote (registry_read a.config) refl a.answers

  -- ---- `storm`

  -- the configuration is refused
  storm_unread : (number count : ℕ) (answer : Answer) → command_of call.words ≡ Some (Storm number count) → call.news ≡ call.olds
      → (why : RegNo) → registry_read config_text ≡ Err why → answer ≡ configuration_refusal (registry_name why) → Whole answer → Ended call answer.status
  storm_unread number count answer words_are idle why refused is wrote =
      ended_as answer (configuration_refusal (registry_name why)) is
      (configuration_ends call idle
      (record {
        command = Storm number count;
        words_are = words_are;
        config = config_text;
        there = refl;
        name = registry_name why;
        why = inl (why, refused, refl);
        wrote = whole_as answer (configuration_refusal (registry_name why)) wrote is;
      }))

  -- the status of a play, by how it ended
  storm_played : call.news ≡ call.olds → (end : ReplayEnd) → Storms call.words (end_status end) call.old call.new → Ended call (end_status end)
  storm_played idle end.Met storms = runs_end call (inr (inr (inr (inr (inr (inr storms))))))
  storm_played idle (end.Broken broken) storms = broken_ends call idle (inr storms)
  storm_played idle (end.Journal place) storms = full_ends call idle (inr storms)

  -- the configuration is accepted
  storm_traced : (number count : ℕ) (answer : Answer) → command_of call.words ≡ Some (Storm number count) → call.news ≡ call.olds
      → AnswersStorm number count answer → (c : Configuration) → registry_read config_text ≡ Ok c → Whole answer
      → (told : Result Told TraceNo) → trace_told c (trace_text number count) ≡ told → answer ≡ storm_told c number count told → Ended call answer.status
  unfolding Plays
  storm_traced number count answer words_are idle a c read wrote (Ok told) accepted is =
      ended_as answer (storm_told c number count (Ok told)) is
      (storm_played idle (end_of c told)
      (record {
        number = number;
        count = count;
        words_are = words_are;
        configuration = c;
        read = read;
        told = told;
        accepted = accepted;
        ends = refl;
        wrote = whole_as answer (storm_told c number count (Ok told)) wrote is;
        well = a.well c read told accepted;
      }))
  storm_traced number count answer words_are idle a c read wrote (Err why) refused is =
      ended_as answer (storm_told c number count (Err why)) is
      (trace_ends call idle
      (record {
        command = Storm number count;
        words_are = words_are;
        config = config_text;
        config_there = refl;
        configuration = c;
        read = read;
        trace = trace_text number count;
        trace_there = refl;
        why = why;
        refused = refused;
        wrote = whole_as answer (storm_told c number count (Err why)) wrote is;
      }))

  storm_by : (number count : ℕ) (answer : Answer) → command_of call.words ≡ Some (Storm number count) → call.news ≡ call.olds
      → AnswersStorm number count answer → Whole answer
      → (read : Result Configuration RegNo) → registry_read config_text ≡ read → answer ≡ storm_over read number count → Ended call answer.status
  storm_by number count answer words_are idle a wrote (Err why) read is = storm_unread number count answer words_are idle why read is wrote
  storm_by number count answer words_are idle a wrote (Ok c) read is =
      storm_traced number count answer words_are idle a c read wrote (trace_told c (trace_text number count)) refl is

  storm_ends : (number count : ℕ) (answer : Answer) → command_of call.words ≡ Some (Storm number count) → call.news ≡ call.olds
      → AnswersStorm number count answer → Whole answer → Ended call answer.status
  unfolding storm_answer
  storm_ends number count answer words_are idle a wrote =
      storm_by number count answer words_are idle a wrote (registry_read config_text) refl a.answers

  -- ---- `token`

  token_refused : (secret_at token_at : Text) (answer : Answer) → command_of call.words ≡ Some (Token secret_at token_at) → call.news ≡ call.olds
      → (a : AnswersToken call.contents secret_at token_at answer) → (name : Text)
      → IsTokenNo (without_feed a.secret) (without_feed a.token) name → answer ≡ token_refusal name → Whole answer → Ended call answer.status
  token_refused secret_at token_at answer words_are idle a name why is wrote =
      ended_as answer (token_refusal name) is
      (refusal_ends call idle (inl
      (record {
        secret_at = secret_at;
        token_at = token_at;
        words_are = words_are;
        secret = a.secret;
        secret_there = a.secret_there;
        token = a.token;
        token_there = a.token_there;
        name = name;
        why = why;
        wrote = whole_as answer (token_refusal name) wrote is;
      })))

  -- the secret has 1 to 128 bytes
  verdict_ends : (secret_at token_at : Text) (answer : Answer) → command_of call.words ≡ Some (Token secret_at token_at) → call.news ≡ call.olds
      → (a : AnswersToken call.contents secret_at token_at answer) → is_secret (without_feed a.secret) ≡ true → Whole answer
      → (found : Result Unsealed JwsNo) → verdict (without_feed a.secret) (without_feed a.token) ≡ found → answer ≡ verdict_answer found → Ended call answer.status
  verdict_ends secret_at token_at answer words_are idle a fits wrote (Ok unsealed) opened is =
      ended_as answer (verdict_answer (Ok unsealed)) is
      (runs_end call (inr (inl
      (record {
        secret_at = secret_at;
        token_at = token_at;
        words_are = words_are;
        secret = a.secret;
        secret_there = a.secret_there;
        secret_fits = fits;
        token = a.token;
        token_there = a.token_there;
        unsealed = unsealed;
        opened = opened;
        wrote = whole_as answer (verdict_answer (Ok unsealed)) wrote is;
      }))))
  verdict_ends secret_at token_at answer words_are idle a fits wrote (Err why) refused is =
      token_refused secret_at token_at answer words_are idle a (jws_name why) (inr (fits, (why, refused, refl))) is wrote

  token_ends : (secret_at token_at : Text) (answer : Answer) → command_of call.words ≡ Some (Token secret_at token_at) → call.news ≡ call.olds
      → MayOpen call.contents call.shelf_before call.shelf_after secret_at token_at answer → Whole answer → Ended call answer.status
  unfolding token_answer
  token_ends secret_at token_at answer words_are idle (inl failed) wrote = shelf_failed (Token secret_at token_at) answer words_are idle failed wrote
  token_ends secret_at token_at answer words_are idle (inr a) wrote =
      let found = verdict (without_feed a.secret) (without_feed a.token) in
      let A : Bool → Answer = λ b. cond b (verdict_answer found) (token_refusal (codes "Secret")) in
      elim (bool_cases (is_secret (without_feed a.secret))) [
        | inl fits ↦ verdict_ends secret_at token_at answer words_are idle a fits wrote found refl (a.answers ∙ ap A fits)
        | inr other ↦ token_refused secret_at token_at answer words_are idle a (codes "Secret") (inl (other, refl)) (a.answers ∙ ap A other) wrote
      ]

  -- ---- `op` and `op-plus`

  -- a command rejects its configuration for a reason of this name
  configuration_no : (command : Command) (config : List ℕ) (name : Text) (answer : Answer) → command_of call.words ≡ Some command
      → IsConfigOf call.contents command config → call.news ≡ call.olds → IsConfigurationNo command config name
      → answer ≡ configuration_refusal name → Whole answer → Ended call answer.status
  configuration_no command config name answer words_are there idle why is wrote =
      ended_as answer (configuration_refusal name) is
      (configuration_ends call idle
      (record {
        command = command;
        words_are = words_are;
        config = config;
        there = there;
        name = name;
        why = why;
        wrote = whole_as answer (configuration_refusal name) wrote is;
      }))

  provider_by : (config_at : Text) (config : List ℕ) (answer : Answer) → command_of call.words ≡ Some (Op config_at)
      → IsContent call.contents config_at config
      → (read : Result Configuration RegNo) → registry_read config ≡ read
      → ServedOp call.tells call.olds call.news (provider_asked read) answer → Whole answer → Ended call answer.status
  provider_by config_at config answer words_are there (Err why) read (is, idle) wrote =
      configuration_no (Op config_at) config (registry_name why) answer words_are there idle (inl (why, read, refl)) is wrote
  provider_by config_at config answer words_are there (Ok c) read (s, serves, is) wrote =
      elim (bool_cases s.fault) [
        | inl failed ↦
            let so : answer ≡ server_answer true s.served s.entries = is ∙ ap (λ (b : Bool). server_answer b s.served s.entries) failed in
            ended_as answer (server_answer true s.served s.entries) so
            (door_ends call (inl
            (record {
              config_at = config_at;
              words_are = words_are;
              config = config;
              there = there;
              configuration = c;
              read = read;
              summary = s;
              served = serves;
              ended = failed;
              wrote = whole_as answer (server_answer true s.served s.entries) wrote so;
            })))
        | inr well ↦
            let so : answer ≡ server_answer false s.served s.entries = is ∙ ap (λ (b : Bool). server_answer b s.served s.entries) well in
            ended_as answer (server_answer false s.served s.entries) so
            (runs_end call (inr (inr (inl
            (record {
              config_at = config_at;
              words_are = words_are;
              config = config;
              there = there;
              configuration = c;
              read = read;
              summary = s;
              served = serves;
              ended = well;
              wrote = whole_as answer (server_answer false s.served s.entries) wrote so;
            })))))
      ]

  op_ends : (config_at : Text) (answer : Answer) → command_of call.words ≡ Some (Op config_at)
      → MayServeOp call.tells call.olds call.news call.contents call.shelf_before call.shelf_after config_at answer → Whole answer → Ended call answer.status
  unfolding op_asked
  op_ends config_at answer words_are (inl failed) wrote = shelf_failed (Op config_at) answer words_are failed.1 failed.0 wrote
  op_ends config_at answer words_are (inr a) wrote =
      provider_by config_at a.config answer words_are a.config_there (registry_read a.config) refl a.served wrote

  -- the configuration is accepted
  sending_by : (config_at : Text) (config : List ℕ) (answer : Answer) → command_of call.words ≡ Some (OpPlus config_at)
      → IsContent call.contents config_at config → (c : Configuration) → registry_read config ≡ Ok c
      → (sends : Result ReturnLists RegNo) → returns_read config ≡ sends
      → ServedOpPlus call.tells call.olds call.news (returns_asked c sends) answer → Whole answer → Ended call answer.status
  sending_by config_at config answer words_are there c read (Err why) refused (is, idle) wrote =
      configuration_no (OpPlus config_at) config (registry_name why) answer words_are there idle (inr (c, read, (why, refused, refl))) is wrote
  sending_by config_at config answer words_are there c read (Ok returns) sends (s, serves, is) wrote =
      elim (bool_cases s.fault) [
        | inl failed ↦
            let so : answer ≡ server_answer true s.served s.entries = is ∙ ap (λ (b : Bool). server_answer b s.served s.entries) failed in
            ended_as answer (server_answer true s.served s.entries) so
            (door_ends call (inr (inr (inl
            (record {
              config_at = config_at;
              words_are = words_are;
              config = config;
              there = there;
              configuration = c;
              read = read;
              returns = returns;
              sends = sends;
              summary = s;
              served = serves;
              ended = failed;
              wrote = whole_as answer (server_answer true s.served s.entries) wrote so;
            })))))
        | inr well ↦
            let so : answer ≡ server_answer false s.served s.entries = is ∙ ap (λ (b : Bool). server_answer b s.served s.entries) well in
            ended_as answer (server_answer false s.served s.entries) so
            (runs_end call (inr (inr (inr (inr (inl
            (record {
              config_at = config_at;
              words_are = words_are;
              config = config;
              there = there;
              configuration = c;
              read = read;
              returns = returns;
              sends = sends;
              summary = s;
              served = serves;
              ended = well;
              wrote = whole_as answer (server_answer false s.served s.entries) wrote so;
            })))))))
      ]

  provider_plus_by : (config_at : Text) (config : List ℕ) (answer : Answer) → command_of call.words ≡ Some (OpPlus config_at)
      → IsContent call.contents config_at config
      → (read : Result Configuration RegNo) → registry_read config ≡ read
      → ServedOpPlus call.tells call.olds call.news (plus_asked config read) answer → Whole answer → Ended call answer.status
  provider_plus_by config_at config answer words_are there (Ok c) read served wrote =
      sending_by config_at config answer words_are there c read (returns_read config) refl served wrote
  provider_plus_by config_at config answer words_are there (Err why) read (is, idle) wrote =
      configuration_no (OpPlus config_at) config (registry_name why) answer words_are there idle (inl (why, read, refl)) is wrote

  op_plus_ends : (config_at : Text) (answer : Answer) → command_of call.words ≡ Some (OpPlus config_at)
      → MayServeOpPlus call.tells call.olds call.news call.contents call.shelf_before call.shelf_after config_at answer → Whole answer
      → Ended call answer.status
  unfolding op_plus_asked
  op_plus_ends config_at answer words_are (inl failed) wrote = shelf_failed (OpPlus config_at) answer words_are failed.1 failed.0 wrote
  op_plus_ends config_at answer words_are (inr a) wrote =
      provider_plus_by config_at a.config answer words_are a.config_there (registry_read a.config) refl a.served wrote

  -- ---- `rp`

  -- the words and the contents of a call of `rp`
  record Party (config_at party : Text) (metadata_at : Option Text) (config : List ℕ) (metadata : Option (List ℕ)) : Type 0 where
    words_are : command_of call.words ≡ Some (Rp config_at party metadata_at)
    config_there : IsContent call.contents config_at config
    metadata_there : IsContentIf call.contents metadata_at metadata

  party_refused : (config_at party : Text) (metadata_at : Option Text) (config : List ℕ) (metadata : Option (List ℕ)) (answer : Answer)
      → Party config_at party metadata_at config metadata → call.news ≡ call.olds → (name : Text)
      → IsConfigurationNo (Rp config_at party metadata_at) config name → answer ≡ configuration_refusal name → Whole answer → Ended call answer.status
  party_refused config_at party metadata_at config metadata answer given idle name why is wrote =
      configuration_no (Rp config_at party metadata_at) config name answer given.words_are given.config_there idle why is wrote

  -- the metadata are refused
  metadata_ends : (config_at party metadata_at : Text) (config metadata : List ℕ) (answer : Answer)
      → Party config_at party (Some metadata_at) config (Some metadata) → call.news ≡ call.olds
      → (c : Configuration) → registry_read config ≡ Ok c → (number : ℕ) → party_place party c.parties ≡ Some number
      → (name : Text) → IsMetadataNo c metadata name → answer ≡ metadata_refusal name → Whole answer → Ended call answer.status
  metadata_ends config_at party metadata_at config metadata answer given idle c read number known name why is wrote =
      ended_as answer (metadata_refusal name) is
      (refusal_ends call idle (inr
      (record {
        config_at = config_at;
        party = party;
        metadata_at = metadata_at;
        words_are = given.words_are;
        config = config;
        config_there = given.config_there;
        configuration = c;
        read = read;
        number = number;
        known = known;
        metadata = metadata;
        metadata_there = given.metadata_there;
        name = name;
        why = why;
        wrote = whole_as answer (metadata_refusal name) wrote is;
      })))

  -- the party is served
  party_ends : (config_at party : Text) (metadata_at : Option Text) (config : List ℕ) (metadata : Option (List ℕ)) (answer : Answer)
      → Party config_at party metadata_at config metadata
      → (c : Configuration) → registry_read config ≡ Ok c → (number : ℕ) → party_place party c.parties ≡ Some number
      → (provider : Provider) → trusted c metadata ≡ Ok provider
      → ServedRp call.tells call.olds call.news (Ok (setup_of c number provider)) answer → Whole answer → Ended call answer.status
  party_ends config_at party metadata_at config metadata answer given c read number known provider trusts (s, serves, is) wrote =
      elim (bool_cases s.fault) [
        | inl failed ↦
            let so : answer ≡ server_answer true s.served s.entries = is ∙ ap (λ (b : Bool). server_answer b s.served s.entries) failed in
            ended_as answer (server_answer true s.served s.entries) so
            (door_ends call (inr (inl
            (record { config_at = config_at; party = party; metadata_at = metadata_at; words_are = given.words_are; config = config; config_there = given.config_there; metadata = metadata; metadata_there = given.metadata_there; configuration = c; read = read; number = number; known = known; provider = provider; trusts = trusts; summary = s; served = serves; ended = failed; wrote = whole_as answer (server_answer true s.served s.entries) wrote so }))))
        | inr well ↦
            let so : answer ≡ server_answer false s.served s.entries = is ∙ ap (λ (b : Bool). server_answer b s.served s.entries) well in
            ended_as answer (server_answer false s.served s.entries) so
            (runs_end call (inr (inr (inr (inl
            (record { config_at = config_at; party = party; metadata_at = metadata_at; words_are = given.words_are; config = config; config_there = given.config_there; metadata = metadata; metadata_there = given.metadata_there; configuration = c; read = read; number = number; known = known; provider = provider; trusts = trusts; summary = s; served = serves; ended = well; wrote = whole_as answer (server_answer false s.served s.entries) wrote so }))))))
      ]

  -- the document was read
  document_by : (config_at party metadata_at : Text) (config metadata : List ℕ) (answer : Answer)
      → Party config_at party (Some metadata_at) config (Some metadata)
      → (c : Configuration) → registry_read config ≡ Ok c → (number : ℕ) → party_place party c.parties ≡ Some number
      → nat_le (length metadata) 65536 ≡ true → described c metadata ≡ provider_read (discovery_read c.provider.issuer metadata)
      → (read : Result Provider DiscNo) → discovery_read c.provider.issuer metadata ≡ read
      → ServedRp call.tells call.olds call.news (setup_asked c number (provider_read read)) answer → Whole answer → Ended call answer.status
  document_by config_at party metadata_at config metadata answer given c read number known fits so (Err why) found (is, idle) wrote =
      metadata_ends config_at party metadata_at config metadata answer given idle c read number known (metadata_name why) (inr (fits, (why, found, refl))) is wrote
  document_by config_at party metadata_at config metadata answer given c read number known fits so (Ok provider) found served wrote =
      party_ends config_at party (Some metadata_at) config (Some metadata) answer given c read number known provider (so ∙ ap provider_read found) served wrote

  described_by : (config_at party metadata_at : Text) (config metadata : List ℕ) (answer : Answer)
      → Party config_at party (Some metadata_at) config (Some metadata)
      → (c : Configuration) → registry_read config ≡ Ok c → (number : ℕ) → party_place party c.parties ≡ Some number
      → ServedRp call.tells call.olds call.news (setup_asked c number (described c metadata)) answer → Whole answer → Ended call answer.status
  unfolding described
  described_by config_at party metadata_at config metadata answer given c read number known served wrote =
      let P : Bool → Result Provider Answer = λ b. cond b (provider_read (discovery_read c.provider.issuer metadata)) (Err (metadata_refusal (codes "Size"))) in
      let V : Bool → Type 0 = λ b. ServedRp call.tells call.olds call.news (setup_asked c number (P b)) answer in
      elim (bool_cases (nat_le (length metadata) 65536)) [
        | inl fits ↦
            document_by config_at party metadata_at config metadata answer given c read number known fits (ap P fits) (discovery_read c.provider.issuer metadata) refl (subst V fits served) wrote
        | inr long ↦
            let refused : (answer ≡ metadata_refusal (codes "Size")) × (call.news ≡ call.olds) = subst V long served in
            metadata_ends config_at party metadata_at config metadata answer given refused.1 c read number known (codes "Size") (inl (long, refl)) refused.0 wrote
      ]

  -- the configuration has the party
  known_by : (config_at party : Text) (metadata_at : Option Text) (config : List ℕ) (metadata : Option (List ℕ)) (answer : Answer)
      → Party config_at party metadata_at config metadata
      → (c : Configuration) → registry_read config ≡ Ok c → (number : ℕ) → party_place party c.parties ≡ Some number
      → ServedRp call.tells call.olds call.news (setup_asked c number (trusted c metadata)) answer → Whole answer → Ended call answer.status
  known_by config_at party (Some metadata_at) config (Some metadata) answer given c read number known served wrote =
      described_by config_at party metadata_at config metadata answer given c read number known served wrote
  known_by config_at party None config None answer given c read number known served wrote =
      party_ends config_at party None config None answer given c read number known c.provider refl served wrote
  known_by config_at party (Some metadata_at) config None answer given c read number known served wrote = absurd (given.metadata_there)
  known_by config_at party None config (Some metadata) answer given c read number known served wrote = absurd (given.metadata_there)

  numbered_by : (config_at party : Text) (metadata_at : Option Text) (config : List ℕ) (metadata : Option (List ℕ)) (answer : Answer)
      → Party config_at party metadata_at config metadata
      → (c : Configuration) → registry_read config ≡ Ok c → (number : Option ℕ) → party_place party c.parties ≡ number
      → ServedRp call.tells call.olds call.news (number_asked c number metadata) answer → Whole answer → Ended call answer.status
  numbered_by config_at party metadata_at config metadata answer given c read (Some number) known served wrote =
      known_by config_at party metadata_at config metadata answer given c read number known served wrote
  numbered_by config_at party metadata_at config metadata answer given c read None unknown (is, idle) wrote =
      party_refused config_at party metadata_at config metadata answer given idle (codes "NoParty") (inr (c, read, (unknown, refl))) is wrote

  rp_by : (config_at party : Text) (metadata_at : Option Text) (config : List ℕ) (metadata : Option (List ℕ)) (answer : Answer)
      → Party config_at party metadata_at config metadata
      → (read : Result Configuration RegNo) → registry_read config ≡ read
      → ServedRp call.tells call.olds call.news (party_asked read party metadata) answer → Whole answer → Ended call answer.status
  rp_by config_at party metadata_at config metadata answer given (Ok c) read served wrote =
      numbered_by config_at party metadata_at config metadata answer given c read (party_place party c.parties) refl served wrote
  rp_by config_at party metadata_at config metadata answer given (Err why) read (is, idle) wrote =
      party_refused config_at party metadata_at config metadata answer given idle (registry_name why) (inl (why, read, refl)) is wrote

  rp_ends : (config_at party : Text) (metadata_at : Option Text) (answer : Answer) → command_of call.words ≡ Some (Rp config_at party metadata_at)
      → MayServeRp call.tells call.olds call.news call.contents call.shelf_before call.shelf_after config_at party metadata_at answer → Whole answer → Ended call answer.status
  unfolding rp_asked
  rp_ends config_at party metadata_at answer words_are (inl failed) wrote = shelf_failed (Rp config_at party metadata_at) answer words_are failed.1 failed.0 wrote
  rp_ends config_at party metadata_at answer words_are (inr a) wrote =
      rp_by config_at party metadata_at a.config a.metadata answer
      (record { words_are = words_are; config_there = a.config_there; metadata_there = a.metadata_there }) (registry_read a.config) refl a.served wrote

  -- ---- `rp-plus`

  party_plus_ends : (config_at party : Text) (config : List ℕ) (answer : Answer) → command_of call.words ≡ Some (RpPlus config_at party)
      → IsContent call.contents config_at config
      → (c : Configuration) → registry_read config ≡ Ok c → (number : ℕ) → party_place party c.parties ≡ Some number
      → ServedRpPlus call.tells call.olds call.news (Ok (setup_of c number c.provider)) answer → Whole answer → Ended call answer.status
  party_plus_ends config_at party config answer words_are there c read number known (s, serves, is) wrote =
      elim (bool_cases s.fault) [
        | inl failed ↦
            let so : answer ≡ server_answer true s.served s.entries = is ∙ ap (λ (b : Bool). server_answer b s.served s.entries) failed in
            ended_as answer (server_answer true s.served s.entries) so
            (door_ends call (inr (inr (inr
            (record {
              config_at = config_at;
              party = party;
              words_are = words_are;
              config = config;
              there = there;
              configuration = c;
              read = read;
              number = number;
              known = known;
              summary = s;
              served = serves;
              ended = failed;
              wrote = whole_as answer (server_answer true s.served s.entries) wrote so;
            })))))
        | inr well ↦
            let so : answer ≡ server_answer false s.served s.entries = is ∙ ap (λ (b : Bool). server_answer b s.served s.entries) well in
            ended_as answer (server_answer false s.served s.entries) so
            (runs_end call (inr (inr (inr (inr (inr (inl
            (record {
              config_at = config_at;
              party = party;
              words_are = words_are;
              config = config;
              there = there;
              configuration = c;
              read = read;
              number = number;
              known = known;
              summary = s;
              served = serves;
              ended = well;
              wrote = whole_as answer (server_answer false s.served s.entries) wrote so;
            }))))))))
      ]

  numbered_plus : (config_at party : Text) (config : List ℕ) (answer : Answer) → command_of call.words ≡ Some (RpPlus config_at party)
      → IsContent call.contents config_at config
      → (c : Configuration) → registry_read config ≡ Ok c → (number : Option ℕ) → party_place party c.parties ≡ number
      → ServedRpPlus call.tells call.olds call.news (number_asked c number None) answer → Whole answer → Ended call answer.status
  numbered_plus config_at party config answer words_are there c read (Some number) known served wrote =
      party_plus_ends config_at party config answer words_are there c read number known served wrote
  numbered_plus config_at party config answer words_are there c read None unknown (is, idle) wrote =
      configuration_no (RpPlus config_at party) config (codes "NoParty") answer words_are there idle (inr (c, read, (unknown, refl))) is wrote

  party_plus_by : (config_at party : Text) (config : List ℕ) (answer : Answer) → command_of call.words ≡ Some (RpPlus config_at party)
      → IsContent call.contents config_at config
      → (read : Result Configuration RegNo) → registry_read config ≡ read
      → ServedRpPlus call.tells call.olds call.news (party_asked read party None) answer → Whole answer → Ended call answer.status
  party_plus_by config_at party config answer words_are there (Ok c) read served wrote =
      numbered_plus config_at party config answer words_are there c read (party_place party c.parties) refl served wrote
  party_plus_by config_at party config answer words_are there (Err why) read (is, idle) wrote =
      configuration_no (RpPlus config_at party) config (registry_name why) answer words_are there idle (inl (why, read, refl)) is wrote

  rp_plus_ends : (config_at party : Text) (answer : Answer) → command_of call.words ≡ Some (RpPlus config_at party)
      → MayServeRpPlus call.tells call.olds call.news call.contents call.shelf_before call.shelf_after config_at party answer → Whole answer
      → Ended call answer.status
  unfolding rp_asked
  rp_plus_ends config_at party answer words_are (inl failed) wrote = shelf_failed (RpPlus config_at party) answer words_are failed.1 failed.0 wrote
  rp_plus_ends config_at party answer words_are (inr a) wrote =
      party_plus_by config_at party a.config answer words_are a.config_there (registry_read a.config) refl a.served wrote

  -- ---- Every answer

  -- what may be answered to a command
  abbrev May : Option Command → Answer → Type 0
  May command answer = MayAnswer call.tells call.olds call.news call.contents call.shelf_before call.shelf_after command answer

  -- if nothing is served, the desks are unchanged
  abbrev Idle : Option Command → Type 0
  Idle command = is_serving command ≡ false → call.news ≡ call.olds

  whole_ends : (command : Option Command) (answer : Answer) → command_of call.words ≡ command → Idle command → May command answer → Whole answer → Ended call answer.status
  unfolding usage_answer
  whole_ends None answer words_are idle is wrote =
      ended_as answer usage_answer is (usage_ends call (idle refl) (record { words_are_none = words_are; wrote = whole_as answer usage_answer wrote is }))
  whole_ends (Some (Replay config trace)) answer words_are idle may wrote = replay_ends config trace answer words_are (idle refl) may wrote
  whole_ends (Some (Storm number count)) answer words_are idle may wrote = storm_ends number count answer words_are (idle refl) may wrote
  whole_ends (Some (Token secret token)) answer words_are idle may wrote = token_ends secret token answer words_are (idle refl) may wrote
  whole_ends (Some (Op config)) answer words_are idle may wrote = op_ends config answer words_are may wrote
  whole_ends (Some (Rp config party metadata)) answer words_are idle may wrote = rp_ends config party metadata answer words_are may wrote
  whole_ends (Some (OpPlus config)) answer words_are idle may wrote = op_plus_ends config answer words_are may wrote
  whole_ends (Some (RpPlus config party)) answer words_are idle may wrote = rp_plus_ends config party answer words_are may wrote

  abbrev Written : Answer → ℕ → Type 0
  Written answer status = IsWritten call.old call.new call.before call.after answer status

  -- Whatever may be answered, and however it is written, the call ends so.
  pub call_ends : (answer : Answer) (status : ℕ) → Idle (command_of call.words) → May (command_of call.words) answer → Written answer status → Ended call status
  call_ends answer status idle may (inl whole) =
      let E : ℕ → Type 0 = λ n. Ended call n in
      subst E (sym whole.0) (whole_ends (command_of call.words) answer refl idle may whole.1)
  call_ends answer status idle may (inr front) =
      let E : ℕ → Type 0 = λ n. Ended call n in
      subst E (sym front.0) (sink_ends call (record { rose = front.2; answer = answer; may = may; wrote = front.1 }))

  -- ---- Statuses by the words

  by_words : (command : Option Command) (answer : Answer) (status : ℕ) → is_some command ≡ false → May command answer → Written answer status → IsStatus 2 status
  unfolding usage_answer
  by_words None answer status is_not is (inl whole) = inl (whole.0 ∙ ap (λ (v : Answer). v.status) is)
  by_words None answer status is_not is (inr front) = inr (inr front.0)
  by_words (Some command) answer status is_not may written = absurd (cc)

  pub words_tell : (answer : Answer) (status : ℕ) → May (command_of call.words) answer → Written answer status → is_command call.words ≡ false → IsStatus 2 status
  words_tell answer status may written is_not = by_words (command_of call.words) answer status is_not may written

  by_storm : (number count : ℕ) (answer : Answer) (status : ℕ) → AnswersStorm number count answer → Written answer status → IsStatus (storm_answer number count).status status
  by_storm number count answer status a (inl whole) = inl (whole.0 ∙ ap (λ (v : Answer). v.status) a.answers)
  by_storm number count answer status a (inr front) = inr (inr front.0)

  pub storm_tells : (answer : Answer) (status : ℕ) → May (command_of call.words) answer → Written answer status
      → (number count : ℕ) → command_of call.words ≡ Some (Storm number count) → IsStatus (storm_answer number count).status status
  storm_tells answer status may written number count is =
      let M : Option Command → Type 0 = λ command. May command answer in
      by_storm number count answer status (subst M is may) written

  -- ---- Statuses by the contents

  -- the shelf has these known contents
  abbrev Tells : List Content → Type 0
  Tells held = call.contents ≡ Some held

  told_at : (held : List Content) (name : Text) (content : List ℕ) → Tells held → IsContent call.contents name content → content_of held name ≡ Some content
  told_at held name content is there = (let C : Option (List Content) → Type 0 = λ v. IsContent v name content in subst C is there)

  both_told : (answer : List ℕ → List ℕ → Answer) (held : List Content) (first_at second_at : Text) (first second : List ℕ)
      → content_of held first_at ≡ Some first → content_of held second_at ≡ Some second
      → status_of_both answer (content_of held first_at) (content_of held second_at) ≡ (answer first second).status
  both_told answer held first_at second_at first second first_there second_there =
      ap (λ (o : Option (List ℕ)). status_of_both answer o (content_of held second_at)) first_there
      ∙ ap (λ (o : Option (List ℕ)). status_of_both answer (Some first) o) second_there

  -- a failed shelf
  failed_told : (wanted : Option ℕ) (answer : Answer) → answer ≡ shelf_answer → IsStatusOf wanted answer.status
  unfolding shelf_answer
  failed_told (Some wanted) answer is = inr (inr (inl (ap (λ (v : Answer). v.status) is)))
  failed_told None answer is = inr (inr (inr (inl (ap (λ (v : Answer). v.status) is))))

  -- what was to be served was refused, or was served
  served_told : {X Core A R : Type 0} (Serves : X → Summary Core A R → Type 0) (asked : Result X Answer) (answer : Answer)
      → ServedBy (call.news ≡ call.olds) Serves asked answer → IsStatusOf (status_of_asked asked) answer.status
  served_told Serves (Err refusal) answer (is, idle) = inl (ap (λ (v : Answer). v.status) is)
  served_told Serves (Ok x) answer (s, serves, is) =
      elim (bool_cases s.fault) [
        | inl failed ↦ inr (inl (ap (λ (v : Answer). v.status) is ∙ ap (λ (b : Bool). (server_answer b s.served s.entries).status) failed))
        | inr well ↦ inl (ap (λ (v : Answer). v.status) is ∙ ap (λ (b : Bool). (server_answer b s.served s.entries).status) well)
      ]

  metadata_told : (held : List Content) (name : Option Text) (content : Option (List ℕ)) → Tells held → IsContentIf call.contents name content → content_if held name ≡ Some content
  metadata_told held (Some name) (Some content) is there = ap (option_map Some) (told_at held name content is there)
  metadata_told held None None is there = refl
  metadata_told held (Some name) None is there = absurd (there)
  metadata_told held None (Some content) is there = absurd (there)

  -- the status of an answer that was written whole
  whole_told : (held : List Content) → Tells held → (command : Option Command) (answer : Answer) → May command answer
      → IsStatusOf (status_for held command) answer.status
  unfolding usage_answer
  whole_told held is None answer usage = inl (ap (λ (v : Answer). v.status) usage)
  whole_told held is (Some (Replay config trace)) answer (inl failed) = failed_told (status_for held (Some (Replay config trace))) answer failed.0
  whole_told held is (Some (Replay config trace)) answer (inr a) =
      inl (ap (λ (v : Answer). v.status) a.answers
      ∙ sym (both_told answer_to held config trace a.config a.trace (told_at held config a.config is a.config_there) (told_at held trace a.trace is a.trace_there)))
  whole_told held is (Some (Storm number count)) answer a = inl (ap (λ (v : Answer). v.status) a.answers)
  whole_told held is (Some (Token secret token)) answer (inl failed) = failed_told (status_for held (Some (Token secret token))) answer failed.0
  whole_told held is (Some (Token secret token)) answer (inr a) =
      inl (ap (λ (v : Answer). v.status) a.answers
      ∙ sym (both_told token_answer held secret token a.secret a.token (told_at held secret a.secret is a.secret_there) (told_at held token a.token is a.token_there)))
  whole_told held is (Some (Op config)) answer (inl failed) = failed_told (status_for held (Some (Op config))) answer failed.0.0
  whole_told held is (Some (Op config)) answer (inr a) =
      let S : Option (List ℕ) → Type 0 = λ o. IsStatusOf (op_status o) answer.status in
      subst S (sym (told_at held config a.config is a.config_there)) (served_told (ServesOp call.tells call.olds call.news) (op_asked a.config) answer a.served)
  whole_told held is (Some (Rp config party metadata)) answer (inl failed) = failed_told (status_for held (Some (Rp config party metadata))) answer failed.0.0
  whole_told held is (Some (Rp config party metadata)) answer (inr a) =
      let S : Option (List ℕ) → Type 0 = λ o. IsStatusOf (rp_status party o (content_if held metadata)) answer.status in
      let M : Option (Option (List ℕ)) → Type 0 = λ o. IsStatusOf (rp_status party (Some a.config) o) answer.status in
      subst S (sym (told_at held config a.config is a.config_there))
      (subst M (sym (metadata_told held metadata a.metadata is a.metadata_there))
      (served_told (ServesRp call.tells call.olds call.news) (rp_asked a.config party a.metadata) answer a.served))
  whole_told held is (Some (OpPlus config)) answer (inl failed) = failed_told (status_for held (Some (OpPlus config))) answer failed.0.0
  whole_told held is (Some (OpPlus config)) answer (inr a) =
      let S : Option (List ℕ) → Type 0 = λ o. IsStatusOf (op_plus_status o) answer.status in
      subst S (sym (told_at held config a.config is a.config_there))
      (served_told (ServesOpPlus call.tells call.olds call.news) (op_plus_asked a.config) answer a.served)
  whole_told held is (Some (RpPlus config party)) answer (inl failed) = failed_told (status_for held (Some (RpPlus config party))) answer failed.0.0
  whole_told held is (Some (RpPlus config party)) answer (inr a) =
      let S : Option (List ℕ) → Type 0 = λ o. IsStatusOf (rp_status party o (Some None)) answer.status in
      subst S (sym (told_at held config a.config is a.config_there))
      (served_told (ServesRpPlus call.tells call.olds call.news) (rp_asked a.config party None) answer a.served)

  cut_told : (wanted : Option ℕ) (status : ℕ) → status ≡ 6 → IsStatusOf wanted status
  cut_told (Some wanted) status is = inr (inr (inr is))
  cut_told None status is = inr (inr (inr (inr is)))

  pub contents_tell : (answer : Answer) (status : ℕ) → May (command_of call.words) answer → Written answer status
      → (held : List Content) → call.contents ≡ Some held → IsStatusOf (status_for held (command_of call.words)) status
  contents_tell answer status may (inl whole) held is =
      let S : ℕ → Type 0 = λ n. IsStatusOf (status_for held (command_of call.words)) n in
      subst S (sym whole.0) (whole_told held is (command_of call.words) answer may)
  contents_tell answer status may (inr front) held is = cut_told (status_for held (command_of call.words)) status front.0
