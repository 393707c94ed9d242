-- How a call ends: one lemma for each status, and the clauses of the top call, which are read off.
use Rattle.std.proofs.Common.{◌≡◌, ◌⊎◌, ℕ, Bool, true, false, List, Option, Some, is_some, Ok, Err, is_ok, inl, inr, arith, refl, ap, sym, ◌∙◌, subst}
use Rattle.sso_base.specs.Words.{Text}
use Rattle.client_registry.specs.Configuration.{Configuration}
use Rattle.client_registry.specs.Reading.{registry_read}
use Rattle.command_line.specs.declared.command.Command.{Command}
use Rattle.command_line.specs.declared.command.Command.TheVariants.{Replay, Op, Rp, OpPlus, RpPlus, Storm, Token}
use Rattle.command_line.specs.Commands.{command_of, is_command, asks_replay, asks_op, asks_rp, asks_op_plus, asks_rp_plus, asks_storm, asks_token}
use Rattle.command_line.specs.Commands.{IsInRange}
use Rattle.command_line.proofs.Laws.{range_read}
use Rattle.trace_lines.specs.declared.no.TraceNo.{TraceNo}
use Rattle.trace_lines.specs.Trace.{trace_told}
use Rattle.storm_texts.proofs.Accepted.{storm_accepted}
use Rattle.storm_texts.proofs.Configured.{storm_configured, storm_known}
use Rattle.sso.specs.Ends.{asks_play, ShowsUsage, ReportsShelf, IsConfigOf, IsTraceOf, IsConfigurationNo, RefusesConfiguration, RefusesTrace, OpensToken}
use Rattle.sso.specs.Ends.{RunsProvider, RunsParty, RunsProviderPlus, RunsPartyPlus}
use Rattle.sso.specs.SignOn.{Replays, Storms}
use Rattle.sso.specs.Statuses.{Call, Runs, Played, FailsAtDoor, Refuses, Stops, At, Ended}

module _ {D L C W S K : Type 0} (call : Call D L C W S K) where
  -- ---- the statuses

  pub runs_end : Runs call → Ended call 0
  runs_end runs = record { at = runs; range = omega arith; unserved = λ never. absurd (cc) }

  pub no_memory_ends : call.new ≡ call.old → Ended call 1
  no_memory_ends same = record { at = same; range = omega arith; unserved = λ never. absurd (cc) }

  pub usage_ends : call.news ≡ call.olds → ShowsUsage call.words call.old call.new → Ended call 2
  usage_ends idle shows = record { at = shows; range = omega arith; unserved = λ _. idle }

  pub configuration_ends : call.news ≡ call.olds → RefusesConfiguration call.contents call.words call.old call.new → Ended call 3
  configuration_ends idle refuses = record { at = refuses; range = omega arith; unserved = λ _. idle }

  pub trace_ends : call.news ≡ call.olds → RefusesTrace call.contents call.words call.old call.new → Ended call 4
  trace_ends idle refuses = record { at = refuses; range = omega arith; unserved = λ _. idle }

  pub shelf_ends : call.news ≡ call.olds → ReportsShelf call.shelf_before call.shelf_after call.words call.old call.new → Ended call 5
  shelf_ends idle reports = record { at = reports; range = omega arith; unserved = λ _. idle }

  pub broken_ends : call.news ≡ call.olds → Played call 7 → Ended call 7
  broken_ends idle plays = record { at = plays; range = omega arith; unserved = λ _. idle }

  pub full_ends : call.news ≡ call.olds → Played call 8 → Ended call 8
  full_ends idle plays = record { at = plays; range = omega arith; unserved = λ _. idle }

  pub sink_ends : Stops call → Ended call 6
  sink_ends stops = record { at = stops; range = omega arith; unserved = λ never. absurd (cc) }

  pub door_ends : FailsAtDoor call → Ended call 9
  door_ends fails = record { at = fails; range = omega arith; unserved = λ never. absurd (cc) }

  pub refusal_ends : call.news ≡ call.olds → Refuses call → Ended call 10
  refusal_ends idle refuses = record { at = refuses; range = omega arith; unserved = λ _. idle }

  -- ---- the clauses

  -- what is so at the status that came
  at_status : (status wanted : ℕ) → Ended call status → status ≡ wanted → At call wanted
  at_status status wanted ended is = (let A : ℕ → Type 0 = λ n. At call n in subst A is ended.at)

  -- words are of one command
  not_both : {X : Type 0} (asks : Option Command → Bool) (command : Option Command) → asks (command_of call.words) ≡ true
      → command_of call.words ≡ command → asks command ≡ false → X
  not_both asks command is_so words_are is_not =
      (let never : ◌≡◌ {A = Bool} true false = sym is_so ∙ ap asks words_are ∙ is_not in cc)

  replayed_of : Runs call → asks_replay (command_of call.words) ≡ true → Replays call.contents call.words 0 call.old call.new
  replayed_of (inl replays) is_so = replays
  replayed_of (inr (inl opens)) is_so = not_both asks_replay _ is_so opens.words_are refl
  replayed_of (inr (inr (inl serves))) is_so = not_both asks_replay _ is_so serves.words_are refl
  replayed_of (inr (inr (inr (inl serves)))) is_so = not_both asks_replay _ is_so serves.words_are refl
  replayed_of (inr (inr (inr (inr (inl serves))))) is_so = not_both asks_replay _ is_so serves.words_are refl
  replayed_of (inr (inr (inr (inr (inr (inl serves)))))) is_so = not_both asks_replay _ is_so serves.words_are refl
  replayed_of (inr (inr (inr (inr (inr (inr storms)))))) is_so = not_both asks_replay _ is_so storms.words_are refl

  opened_of : Runs call → asks_token (command_of call.words) ≡ true → OpensToken call.contents call.words call.old call.new
  opened_of (inl replays) is_so = not_both asks_token _ is_so replays.words_are refl
  opened_of (inr (inl opens)) is_so = opens
  opened_of (inr (inr (inl serves))) is_so = not_both asks_token _ is_so serves.words_are refl
  opened_of (inr (inr (inr (inl serves)))) is_so = not_both asks_token _ is_so serves.words_are refl
  opened_of (inr (inr (inr (inr (inl serves))))) is_so = not_both asks_token _ is_so serves.words_are refl
  opened_of (inr (inr (inr (inr (inr (inl serves)))))) is_so = not_both asks_token _ is_so serves.words_are refl
  opened_of (inr (inr (inr (inr (inr (inr storms)))))) is_so = not_both asks_token _ is_so storms.words_are refl

  provider_of : Runs call → asks_op (command_of call.words) ≡ true
      → RunsProvider call.tells call.olds call.news call.contents call.words false call.old call.new
  provider_of (inl replays) is_so = not_both asks_op _ is_so replays.words_are refl
  provider_of (inr (inl opens)) is_so = not_both asks_op _ is_so opens.words_are refl
  provider_of (inr (inr (inl serves))) is_so = serves
  provider_of (inr (inr (inr (inl serves)))) is_so = not_both asks_op _ is_so serves.words_are refl
  provider_of (inr (inr (inr (inr (inl serves))))) is_so = not_both asks_op _ is_so serves.words_are refl
  provider_of (inr (inr (inr (inr (inr (inl serves)))))) is_so = not_both asks_op _ is_so serves.words_are refl
  provider_of (inr (inr (inr (inr (inr (inr storms)))))) is_so = not_both asks_op _ is_so storms.words_are refl

  party_of : Runs call → asks_rp (command_of call.words) ≡ true
      → RunsParty call.tells call.olds call.news call.contents call.words false call.old call.new
  party_of (inl replays) is_so = not_both asks_rp _ is_so replays.words_are refl
  party_of (inr (inl opens)) is_so = not_both asks_rp _ is_so opens.words_are refl
  party_of (inr (inr (inl serves))) is_so = not_both asks_rp _ is_so serves.words_are refl
  party_of (inr (inr (inr (inl serves)))) is_so = serves
  party_of (inr (inr (inr (inr (inl serves))))) is_so = not_both asks_rp _ is_so serves.words_are refl
  party_of (inr (inr (inr (inr (inr (inl serves)))))) is_so = not_both asks_rp _ is_so serves.words_are refl
  party_of (inr (inr (inr (inr (inr (inr storms)))))) is_so = not_both asks_rp _ is_so storms.words_are refl

  provider_plus_of : Runs call → asks_op_plus (command_of call.words) ≡ true
      → RunsProviderPlus call.tells call.olds call.news call.contents call.words false call.old call.new
  provider_plus_of (inl replays) is_so = not_both asks_op_plus _ is_so replays.words_are refl
  provider_plus_of (inr (inl opens)) is_so = not_both asks_op_plus _ is_so opens.words_are refl
  provider_plus_of (inr (inr (inl serves))) is_so = not_both asks_op_plus _ is_so serves.words_are refl
  provider_plus_of (inr (inr (inr (inl serves)))) is_so = not_both asks_op_plus _ is_so serves.words_are refl
  provider_plus_of (inr (inr (inr (inr (inl serves))))) is_so = serves
  provider_plus_of (inr (inr (inr (inr (inr (inl serves)))))) is_so = not_both asks_op_plus _ is_so serves.words_are refl
  provider_plus_of (inr (inr (inr (inr (inr (inr storms)))))) is_so = not_both asks_op_plus _ is_so storms.words_are refl

  party_plus_of : Runs call → asks_rp_plus (command_of call.words) ≡ true
      → RunsPartyPlus call.tells call.olds call.news call.contents call.words false call.old call.new
  party_plus_of (inl replays) is_so = not_both asks_rp_plus _ is_so replays.words_are refl
  party_plus_of (inr (inl opens)) is_so = not_both asks_rp_plus _ is_so opens.words_are refl
  party_plus_of (inr (inr (inl serves))) is_so = not_both asks_rp_plus _ is_so serves.words_are refl
  party_plus_of (inr (inr (inr (inl serves)))) is_so = not_both asks_rp_plus _ is_so serves.words_are refl
  party_plus_of (inr (inr (inr (inr (inl serves))))) is_so = not_both asks_rp_plus _ is_so serves.words_are refl
  party_plus_of (inr (inr (inr (inr (inr (inl serves)))))) is_so = serves
  party_plus_of (inr (inr (inr (inr (inr (inr storms)))))) is_so = not_both asks_rp_plus _ is_so storms.words_are refl

  stormed_of : Runs call → asks_storm (command_of call.words) ≡ true → Storms call.words 0 call.old call.new
  stormed_of (inl replays) is_so = not_both asks_storm _ is_so replays.words_are refl
  stormed_of (inr (inl opens)) is_so = not_both asks_storm _ is_so opens.words_are refl
  stormed_of (inr (inr (inl serves))) is_so = not_both asks_storm _ is_so serves.words_are refl
  stormed_of (inr (inr (inr (inl serves)))) is_so = not_both asks_storm _ is_so serves.words_are refl
  stormed_of (inr (inr (inr (inr (inl serves))))) is_so = not_both asks_storm _ is_so serves.words_are refl
  stormed_of (inr (inr (inr (inr (inr (inl serves)))))) is_so = not_both asks_storm _ is_so serves.words_are refl
  stormed_of (inr (inr (inr (inr (inr (inr storms)))))) is_so = storms

  -- a play that ended with this status is of one of two commands
  replay_of : (status : ℕ) → Played call status → asks_replay (command_of call.words) ≡ true → Replays call.contents call.words status call.old call.new
  replay_of status (inl replays) is_so = replays
  replay_of status (inr storms) is_so = not_both asks_replay _ is_so storms.words_are refl

  storm_of : (status : ℕ) → Played call status → asks_storm (command_of call.words) ≡ true → Storms call.words status call.old call.new
  storm_of status (inl replays) is_so = not_both asks_storm _ is_so replays.words_are refl
  storm_of status (inr storms) is_so = storms

  play_in : (status : ℕ) → Played call status → asks_play (command_of call.words) ≡ true
  play_in status (inl replays) = ap asks_play replays.words_are
  play_in status (inr storms) = ap asks_play storms.words_are

  command_in : Runs call → is_command call.words ≡ true
  command_in (inl replays) = ap is_some replays.words_are
  command_in (inr (inl opens)) = ap is_some opens.words_are
  command_in (inr (inr (inl serves))) = ap is_some serves.words_are
  command_in (inr (inr (inr (inl serves)))) = ap is_some serves.words_are
  command_in (inr (inr (inr (inr (inl serves))))) = ap is_some serves.words_are
  command_in (inr (inr (inr (inr (inr (inl serves)))))) = ap is_some serves.words_are
  command_in (inr (inr (inr (inr (inr (inr storms)))))) = ap is_some storms.words_are

  -- no configuration of a storm is refused
  none_refused : (command : Command) (config : List ℕ) (name : Text) → IsConfigOf call.contents command config → IsConfigurationNo command config name → asks_storm (Some command) ≡ false
  none_refused (Storm number count) config name is (inl (why, refused, called)) =
      (let never : ◌≡◌ {A = Bool} true false = sym storm_configured ∙ ap (λ (bytes : List ℕ). is_ok (registry_read bytes)) (sym is) ∙ ap is_ok refused in cc)
  none_refused (Storm number count) config name is (inr (c, read, never)) = absurd (never)
  none_refused (Replay config_at trace_at) config name is why = refl
  none_refused (Op config_at) config name is why = refl
  none_refused (Rp config_at party metadata_at) config name is why = refl
  none_refused (OpPlus config_at) config name is why = refl
  none_refused (RpPlus config_at party) config name is why = refl
  none_refused (Token secret_at token_at) config name is why = refl

  no_storm : RefusesConfiguration call.contents call.words call.old call.new → asks_storm (command_of call.words) ≡ false
  no_storm refuses = ap asks_storm refuses.words_are ∙ none_refused refuses.command refuses.config refuses.name refuses.there refuses.why

  -- nor is the trace of one
  none_unread : (command : Command) (config : List ℕ) (c : Configuration) (trace : List ℕ) (why : TraceNo) → IsInRange command → IsConfigOf call.contents command config → registry_read config ≡ Ok c → IsTraceOf call.contents command trace → trace_told c trace ≡ Err why → asks_storm (Some command) ≡ false
  none_unread (Storm number count) config c trace why range is read made refused =
      (let accepted = storm_accepted c number count (storm_known c (ap (λ (bytes : List ℕ). registry_read bytes) (sym is) ∙ read)) range.2 in
      let never = sym accepted.1 ∙ ap (λ (bytes : List ℕ). trace_told c bytes) (sym made) ∙ refused in
      cc)
  none_unread (Replay config_at trace_at) config c trace why range is read made refused = refl
  none_unread (Op config_at) config c trace why range is read made refused = refl
  none_unread (Rp config_at party metadata_at) config c trace why range is read made refused = refl
  none_unread (OpPlus config_at) config c trace why range is read made refused = refl
  none_unread (RpPlus config_at party) config c trace why range is read made refused = refl
  none_unread (Token secret_at token_at) config c trace why range is read made refused = refl

  read_storm : RefusesTrace call.contents call.words call.old call.new → asks_storm (command_of call.words) ≡ false
  read_storm r =
      ap asks_storm r.words_are
      ∙ none_unread r.command r.config r.configuration r.trace r.why (range_read call.words r.command r.words_are) r.config_there r.read r.trace_there r.refused

  pub replayed : (status : ℕ) → Ended call status → status ≡ 0 → asks_replay (command_of call.words) ≡ true → Replays call.contents call.words 0 call.old call.new
  replayed status ended is = replayed_of (at_status status 0 ended is)

  pub configured : (status : ℕ) → Ended call status → status ≡ 3 → asks_storm (command_of call.words) ≡ false
  configured status ended is = no_storm (at_status status 3 ended is)

  pub accepted : (status : ℕ) → Ended call status → status ≡ 4 → asks_storm (command_of call.words) ≡ false
  accepted status ended is = read_storm (at_status status 4 ended is)

  pub broken : (status : ℕ) → Ended call status → status ≡ 7 → asks_replay (command_of call.words) ≡ true → Replays call.contents call.words 7 call.old call.new
  broken status ended is = replay_of 7 (at_status status 7 ended is)

  pub full : (status : ℕ) → Ended call status → status ≡ 8 → asks_replay (command_of call.words) ≡ true → Replays call.contents call.words 8 call.old call.new
  full status ended is = replay_of 8 (at_status status 8 ended is)

  pub stormed : (status : ℕ) → Ended call status → status ≡ 0 → asks_storm (command_of call.words) ≡ true → Storms call.words 0 call.old call.new
  stormed status ended is = stormed_of (at_status status 0 ended is)

  pub storm_broken : (status : ℕ) → Ended call status → status ≡ 7 → asks_storm (command_of call.words) ≡ true → Storms call.words 7 call.old call.new
  storm_broken status ended is = storm_of 7 (at_status status 7 ended is)

  pub storm_full : (status : ℕ) → Ended call status → status ≡ 8 → asks_storm (command_of call.words) ≡ true → Storms call.words 8 call.old call.new
  storm_full status ended is = storm_of 8 (at_status status 8 ended is)

  pub play : (status : ℕ) → Ended call status → (status ≡ 7) ⊎ (status ≡ 8) → asks_play (command_of call.words) ≡ true
  play status ended (inl is) = play_in 7 (at_status status 7 ended is)
  play status ended (inr is) = play_in 8 (at_status status 8 ended is)

  pub opened : (status : ℕ) → Ended call status → status ≡ 0 → asks_token (command_of call.words) ≡ true → OpensToken call.contents call.words call.old call.new
  opened status ended is = opened_of (at_status status 0 ended is)

  pub provider : (status : ℕ) → Ended call status → status ≡ 0 → asks_op (command_of call.words) ≡ true
      → RunsProvider call.tells call.olds call.news call.contents call.words false call.old call.new
  provider status ended is = provider_of (at_status status 0 ended is)

  pub party : (status : ℕ) → Ended call status → status ≡ 0 → asks_rp (command_of call.words) ≡ true
      → RunsParty call.tells call.olds call.news call.contents call.words false call.old call.new
  party status ended is = party_of (at_status status 0 ended is)

  pub provider_plus : (status : ℕ) → Ended call status → status ≡ 0 → asks_op_plus (command_of call.words) ≡ true
      → RunsProviderPlus call.tells call.olds call.news call.contents call.words false call.old call.new
  provider_plus status ended is = provider_plus_of (at_status status 0 ended is)

  pub party_plus : (status : ℕ) → Ended call status → status ≡ 0 → asks_rp_plus (command_of call.words) ≡ true
      → RunsPartyPlus call.tells call.olds call.news call.contents call.words false call.old call.new
  party_plus status ended is = party_plus_of (at_status status 0 ended is)

  pub command : (status : ℕ) → Ended call status → status ≡ 0 → is_command call.words ≡ true
  command status ended is = command_in (at_status status 0 ended is)

  pub memory : (status : ℕ) → Ended call status → status ≡ 1 → call.new ≡ call.old
  memory status ended is = at_status status 1 ended is

  pub usage : (status : ℕ) → Ended call status → status ≡ 2 → ShowsUsage call.words call.old call.new
  usage status ended is = at_status status 2 ended is

  pub configuration : (status : ℕ) → Ended call status → status ≡ 3 → RefusesConfiguration call.contents call.words call.old call.new
  configuration status ended is = at_status status 3 ended is

  pub trace : (status : ℕ) → Ended call status → status ≡ 4 → RefusesTrace call.contents call.words call.old call.new
  trace status ended is = at_status status 4 ended is

  pub shelf : (status : ℕ) → Ended call status → status ≡ 5 → ReportsShelf call.shelf_before call.shelf_after call.words call.old call.new
  shelf status ended is = at_status status 5 ended is

  pub sink : (status : ℕ) → Ended call status → status ≡ 6 → Stops call
  sink status ended is = at_status status 6 ended is

  pub door : (status : ℕ) → Ended call status → status ≡ 9 → FailsAtDoor call
  door status ended is = at_status status 9 ended is

  pub refused : (status : ℕ) → Ended call status → status ≡ 10 → Refuses call
  refused status ended is = at_status status 10 ended is
