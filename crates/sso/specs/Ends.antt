-- How a call of the program ends: for each status, what is true then. A shelf's contents and a sink's output are options, since
-- those of real files and of a real output are unknown.
use Rattle.std.specs.Prelude.{◌≡◌, ◌⊎◌, ℕ, Bool, true, false, ◌||◌, ◌==◌, nat_le, List, [], ◌∷◌, ◌++◌, length, Option, Some, None, option_map, Result, Ok, Err}
use Rattle.std.specs.Prelude.{codes}
use Rattle.sso_base.specs.Words.{Text}
use Rattle.sso_base.specs.Faults.{Rose}
use Rattle.sso_base.specs.Outside.{Content, content_of, Takes, TakesFront}
use Rattle.jws_compact.specs.declared.no.JwsNo.{JwsNo}
use Rattle.jws_compact.specs.declared.unsealing.Unsealed.{Unsealed}
use Rattle.jws_compact.specs.Jws.{verdict}
use Rattle.jws_compact.specs.Names.{jws_name}
use Rattle.configuration_rows.specs.declared.no.RegNo.{RegNo}
use Rattle.client_registry.specs.declared.records.Provider.{Provider}
use Rattle.client_registry.specs.Configuration.{Configuration}
use Rattle.client_registry.specs.Reading.{registry_read}
use Rattle.client_registry.specs.Rules.{party_place}
use Rattle.discovery_doc.specs.declared.no.DiscNo.{DiscNo}
use Rattle.discovery_doc.specs.Reading.{discovery_read}
use Rattle.end_request.specs.Returning.{ReturnLists, returns_read}
use Rattle.op_exchange.specs.declared.ask.OpAsk.{OpAsk}
use Rattle.op_exchange.specs.declared.reply.OpReply.{OpReply}
use Rattle.op_core.specs.Providing.{Providing}
use Rattle.rp_exchange.specs.declared.ask.RpAsk.{RpAsk}
use Rattle.rp_exchange.specs.declared.reply.RpReply.{RpReply}
use Rattle.rp_accept.specs.Serving.{setup_of}
use Rattle.rp_core.specs.Relying.{Relying}
use Rattle.command_line.specs.declared.command.Command.{Command}
use Rattle.command_line.specs.declared.command.Command.TheVariants.{Replay, Op, Rp, OpPlus, RpPlus, Storm, Token}
use Rattle.command_line.specs.Commands.{command_of, is_command}
use Rattle.server_desk.specs.declared.desk.Desk.{Desk}
use Rattle.serving.specs.declared.summary.Summary.{Summary}
use Rattle.serving.specs.Summaries.{Telling}
use Rattle.sso_serve.specs.Cores.{end_setup}
use Rattle.sso_serve.specs.Servers.{OpPlusSummary, RpPlusSummary, ServesOp, ServesRp, ServesOpPlus, ServesRpPlus}
use Rattle.trace_lines.specs.declared.no.TraceNo.{TraceNo}
use Rattle.trace_lines.specs.Trace.{trace_told}
use Rattle.storm_texts.specs.Config.{config_text}
use Rattle.storm_texts.specs.Trace.{trace_text}
use Rattle.sso.specs.Answer.{Answer, usage_text, shelf_text, registry_name, configuration_text, refused_text, answer_to, storm_answer, without_feed, is_secret}
use Rattle.sso.specs.Answer.{token_text, token_answer}
use Rattle.sso.specs.Asked.{metadata_name, metadata_text, trusted, op_asked, op_plus_asked, rp_asked, server_answer}
use Rattle.sso.specs.Outcomes.{IsContent, IsContentIf, MayAnswer}

-- ---- no command, and no content

-- The words are not a command, and the usage was written.
pub record ShowsUsage (words : List Text) (old new : Option (List ℕ)) : Type 0 where
  pub words_are_none : command_of words ≡ None
  pub wrote : Takes old new usage_text

-- The shelf failed during this call, and the text for that was written.
pub record ReportsShelf (before after : ℕ) (words : List Text) (old new : Option (List ℕ)) : Type 0 where
  pub words_are : is_command words ≡ true
  pub rose : Rose before after
  pub wrote : Takes old new shelf_text

-- ---- a configuration

-- the configuration of a command: the content with the command's name, or that of every storm
abbrev pub IsConfigOf : Option (List Content) → Command → List ℕ → Type 0
IsConfigOf contents (Replay config_at trace_at) config = IsContent contents config_at config
IsConfigOf contents (Op config_at) config = IsContent contents config_at config
IsConfigOf contents (Rp config_at party metadata_at) config = IsContent contents config_at config
IsConfigOf contents (OpPlus config_at) config = IsContent contents config_at config
IsConfigOf contents (RpPlus config_at party) config = IsContent contents config_at config
IsConfigOf contents (Storm number count) config = config ≡ config_text
IsConfigOf contents (Token secret_at token_at) config = ⊥

-- the trace of a command: the content with the command's name, or the trace that the numbers of a storm determine
abbrev pub IsTraceOf : Option (List Content) → Command → List ℕ → Type 0
IsTraceOf contents (Replay config_at trace_at) trace = IsContent contents trace_at trace
IsTraceOf contents (Storm number count) trace = trace ≡ trace_text number count
IsTraceOf contents command trace = ⊥

-- the name of the reason for which a command rejects what reading accepts: the configuration lacks the party that the command names, or
-- where browsers may be sent is rejected in it
abbrev pub IsCommandNo : Command → List ℕ → Configuration → Text → Type 0
IsCommandNo (Rp config_at party metadata_at) config c name = (party_place party c.parties ≡ None) × (name ≡ codes "NoParty")
IsCommandNo (RpPlus config_at party) config c name = (party_place party c.parties ≡ None) × (name ≡ codes "NoParty")
IsCommandNo (OpPlus config_at) config c name = (why : RegNo) × (returns_read config ≡ Err why) × (name ≡ registry_name why)
IsCommandNo command config c name = ⊥

-- the name of the reason for which a command rejects a configuration: reading rejects it, or the command does
abbrev pub IsConfigurationNo : Command → List ℕ → Text → Type 0
IsConfigurationNo command config name =
    ((why : RegNo) × (registry_read config ≡ Err why) × (name ≡ registry_name why))
    ⊎ ((c : Configuration) × (registry_read config ≡ Ok c) × IsCommandNo command config c name)

-- The configuration is rejected, and the reason was written.
pub record RefusesConfiguration (contents : Option (List Content)) (words : List Text) (old new : Option (List ℕ)) : Type 0 where
  pub command : Command
  pub words_are : command_of words ≡ Some command
  pub config : List ℕ
  pub there : IsConfigOf contents command config
  pub name : Text
  pub why : IsConfigurationNo command config name
  pub wrote : Takes old new (configuration_text name)

-- ---- `replay` and `storm`

-- The configuration is accepted, the trace is rejected, and the reason was written.
pub record RefusesTrace (contents : Option (List Content)) (words : List Text) (old new : Option (List ℕ)) : Type 0 where
  pub command : Command
  pub words_are : command_of words ≡ Some command
  pub config : List ℕ
  pub config_there : IsConfigOf contents command config
  pub configuration : Configuration
  pub read : registry_read config ≡ Ok configuration
  pub trace : List ℕ
  pub trace_there : IsTraceOf contents command trace
  pub why : TraceNo
  pub refused : trace_told configuration trace ≡ Err why
  pub wrote : Takes old new (refused_text why)

-- ---- `token`

-- The secret has 1 to 128 bytes, and the token is sealed under it, each without a line feed at its end. The payload was
-- written.
pub record OpensToken (contents : Option (List Content)) (words : List Text) (old new : Option (List ℕ)) : Type 0 where
  pub secret_at : Text
  pub token_at : Text
  pub words_are : command_of words ≡ Some (Token secret_at token_at)
  pub secret : List ℕ
  pub secret_there : IsContent contents secret_at secret
  pub secret_fits : is_secret (without_feed secret) ≡ true
  pub token : List ℕ
  pub token_there : IsContent contents token_at token
  pub unsealed : Unsealed
  pub opened : verdict (without_feed secret) (without_feed token) ≡ Ok unsealed
  pub wrote : Takes old new (unsealed.payload ++ 10 ∷ [])

-- the name of the reason for which a token is rejected; the secret's length comes first
abbrev pub IsTokenNo : List ℕ → List ℕ → Text → Type 0
IsTokenNo secret token name =
    ((is_secret secret ≡ false) × (name ≡ codes "Secret"))
    ⊎ ((is_secret secret ≡ true) × ((why : JwsNo) × (verdict secret token ≡ Err why) × (name ≡ jws_name why)))

-- The secret has another length, or the token is not sealed under it, and the reason was written.
pub record RefusesToken (contents : Option (List Content)) (words : List Text) (old new : Option (List ℕ)) : Type 0 where
  pub secret_at : Text
  pub token_at : Text
  pub words_are : command_of words ≡ Some (Token secret_at token_at)
  pub secret : List ℕ
  pub secret_there : IsContent contents secret_at secret
  pub token : List ℕ
  pub token_there : IsContent contents token_at token
  pub name : Text
  pub why : IsTokenNo (without_feed secret) (without_feed token) name
  pub wrote : Takes old new (token_text name)

-- ---- `rp` with metadata

-- the name of the reason for which metadata are rejected; their size comes first
abbrev pub IsMetadataNo : Configuration → List ℕ → Text → Type 0
IsMetadataNo c metadata name =
    ((nat_le (length metadata) 65536 ≡ false) × (name ≡ codes "Size"))
    ⊎ ((nat_le (length metadata) 65536 ≡ true) × ((why : DiscNo) × (discovery_read c.provider.issuer metadata ≡ Err why) × (name ≡ metadata_name why)))

-- The configuration has the party, the provider's metadata are rejected, and the reason was written.
pub record RefusesMetadata (contents : Option (List Content)) (words : List Text) (old new : Option (List ℕ)) : Type 0 where
  pub config_at : Text
  pub party : Text
  pub metadata_at : Text
  pub words_are : command_of words ≡ Some (Rp config_at party (Some metadata_at))
  pub config : List ℕ
  pub config_there : IsContent contents config_at config
  pub configuration : Configuration
  pub read : registry_read config ≡ Ok configuration
  pub number : ℕ
  pub known : party_place party configuration.parties ≡ Some number
  pub metadata : List ℕ
  pub metadata_there : IsContent contents metadata_at metadata
  pub name : Text
  pub why : IsMetadataNo configuration metadata name
  pub wrote : Takes old new (metadata_text name)

-- ---- servers: the desks served

module _ {D L C W S K : Type 0} (t : Telling D L C W S K) (olds news : List (Desk D L C W)) where
  -- `op`
  -- The configuration is accepted, the desks served its provider, and the result was written: that a door failed, or how much was
  -- served.
  pub record RunsProvider (contents : Option (List Content)) (words : List Text) (failed : Bool) (old new : Option (List ℕ)) : Type 0 where
    pub config_at : Text
    pub words_are : command_of words ≡ Some (Op config_at)
    pub config : List ℕ
    pub there : IsContent contents config_at config
    pub configuration : Configuration
    pub read : registry_read config ≡ Ok configuration
    pub summary : Summary Providing OpAsk OpReply
    pub served : ServesOp t olds news configuration summary
    pub ended : summary.fault ≡ failed
    pub wrote : Takes old new (server_answer failed summary.served summary.entries).text

  -- `op-plus`: the same, and where browsers may be sent is accepted too
  pub record RunsProviderPlus (contents : Option (List Content)) (words : List Text) (failed : Bool) (old new : Option (List ℕ)) : Type 0 where
    pub config_at : Text
    pub words_are : command_of words ≡ Some (OpPlus config_at)
    pub config : List ℕ
    pub there : IsContent contents config_at config
    pub configuration : Configuration
    pub read : registry_read config ≡ Ok configuration
    pub returns : ReturnLists
    pub sends : returns_read config ≡ Ok returns
    pub summary : OpPlusSummary
    pub served : ServesOpPlus t olds news (end_setup configuration returns) summary
    pub ended : summary.fault ≡ failed
    pub wrote : Takes old new (server_answer failed summary.served summary.entries).text

  -- `rp`
  -- The same for a party of the configuration, which trusts the configuration's provider, or the one of the metadata.
  pub record RunsParty (contents : Option (List Content)) (words : List Text) (failed : Bool) (old new : Option (List ℕ)) : Type 0 where
    pub config_at : Text
    pub party : Text
    pub metadata_at : Option Text
    pub words_are : command_of words ≡ Some (Rp config_at party metadata_at)
    pub config : List ℕ
    pub config_there : IsContent contents config_at config
    pub metadata : Option (List ℕ)
    pub metadata_there : IsContentIf contents metadata_at metadata
    pub configuration : Configuration
    pub read : registry_read config ≡ Ok configuration
    pub number : ℕ
    pub known : party_place party configuration.parties ≡ Some number
    pub provider : Provider
    pub trusts : trusted configuration metadata ≡ Ok provider
    pub summary : Summary Relying RpAsk RpReply
    pub served : ServesRp t olds news (setup_of configuration number provider) summary
    pub ended : summary.fault ≡ failed
    pub wrote : Takes old new (server_answer failed summary.served summary.entries).text

  -- `rp-plus`: a party of the configuration, which trusts the configuration's provider
  pub record RunsPartyPlus (contents : Option (List Content)) (words : List Text) (failed : Bool) (old new : Option (List ℕ)) : Type 0 where
    pub config_at : Text
    pub party : Text
    pub words_are : command_of words ≡ Some (RpPlus config_at party)
    pub config : List ℕ
    pub there : IsContent contents config_at config
    pub configuration : Configuration
    pub read : registry_read config ≡ Ok configuration
    pub number : ℕ
    pub known : party_place party configuration.parties ≡ Some number
    pub summary : RpPlusSummary
    pub served : ServesRpPlus t olds news (setup_of configuration number configuration.provider) summary
    pub ended : summary.fault ≡ failed
    pub wrote : Takes old new (server_answer failed summary.served summary.entries).text

  -- ---- any outcome, cut short

  -- The sink failed during this call, and a prefix of a possible outcome was written.
  pub record StopsWriting
      (contents : Option (List Content)) (shelf_before shelf_after : ℕ) (words : List Text) (before after : ℕ)
      (old new : Option (List ℕ)) : Type 0 where
    pub rose : Rose before after
    pub answer : Answer
    pub may : MayAnswer t olds news contents shelf_before shelf_after (command_of words) answer
    pub wrote : TakesFront old new answer.text

-- ---- which status is returned

-- the status of the outcome for two contents, if both exist
abbrev pub status_of_both : (List ℕ → List ℕ → Answer) → Option (List ℕ) → Option (List ℕ) → ℕ
status_of_both answer None second = 5
status_of_both answer (Some first) None = 5
status_of_both answer (Some first) (Some second) = (answer first second).status

-- the status if serving is refused; none if it is not, since the doors then decide
abbrev pub status_of_asked : {X : Type 0} → Result X Answer → Option ℕ
status_of_asked (Err refusal) = Some refusal.status
status_of_asked (Ok asked) = None

abbrev pub op_status : Option (List ℕ) → Option ℕ
op_status None = Some 5
op_status (Some config) = status_of_asked (op_asked config)

abbrev pub op_plus_status : Option (List ℕ) → Option ℕ
op_plus_status None = Some 5
op_plus_status (Some config) = status_of_asked (op_plus_asked config)

-- the content of a name, if one is given; the inner option is whether the content exists
abbrev pub content_if : List Content → Option Text → Option (Option (List ℕ))
content_if contents None = Some None
content_if contents (Some name) = option_map Some (content_of contents name)

abbrev pub rp_status : Text → Option (List ℕ) → Option (Option (List ℕ)) → Option ℕ
rp_status party None metadata = Some 5
rp_status party (Some config) None = Some 5
rp_status party (Some config) (Some metadata) = status_of_asked (rp_asked config party metadata)

-- the status, by the command of the words and the known contents of a shelf; none if something is served
abbrev pub status_for : List Content → Option Command → Option ℕ
status_for contents None = Some 2
status_for contents (Some (Replay config trace)) = Some (status_of_both answer_to (content_of contents config) (content_of contents trace))
status_for contents (Some (Storm number count)) = Some (storm_answer number count).status
status_for contents (Some (Token secret token)) = Some (status_of_both token_answer (content_of contents secret) (content_of contents token))
status_for contents (Some (Op config)) = op_status (content_of contents config)
status_for contents (Some (Rp config party metadata)) = rp_status party (content_of contents config) (content_if contents metadata)
status_for contents (Some (OpPlus config)) = op_plus_status (content_of contents config)
status_for contents (Some (RpPlus config party)) = rp_status party (content_of contents config) (Some None)

-- The status is this one, unless memory ran out or the sink failed.
abbrev pub IsStatus : ℕ → ℕ → Type 0
IsStatus wanted status = (status ≡ wanted) ⊎ (status ≡ 1) ⊎ (status ≡ 6)

-- The status is this one, or one of a server that has ended, unless memory ran out, or the shelf or the sink failed.
abbrev pub IsStatusOf : Option ℕ → ℕ → Type 0
IsStatusOf (Some wanted) status = (status ≡ wanted) ⊎ (status ≡ 1) ⊎ (status ≡ 5) ⊎ (status ≡ 6)
IsStatusOf None status = (status ≡ 0) ⊎ (status ≡ 9) ⊎ (status ≡ 1) ⊎ (status ≡ 5) ⊎ (status ≡ 6)

-- the status is one at which nothing was served: wrong words, a shelf failure, a refusal, or the end of a play
abbrev pub is_refusal : ℕ → Bool
is_refusal status = status == 2 || status == 3 || status == 4 || status == 5 || status == 7 || status == 8 || status == 10

-- the command plays
abbrev pub asks_play : Option Command → Bool
asks_play (Some (Replay config trace)) = true
asks_play (Some (Storm number count)) = true
asks_play command = false

-- the command serves
abbrev pub is_serving : Option Command → Bool
is_serving (Some (Op config)) = true
is_serving (Some (Rp config party metadata)) = true
is_serving (Some (OpPlus config)) = true
is_serving (Some (RpPlus config party)) = true
is_serving command = false

-- the provider or a party is served
abbrev pub RunsServer : {D L C W S K : Type 0} → Telling D L C W S K → List (Desk D L C W) → List (Desk D L C W)
    → Option (List Content) → List Text → Bool → Option (List ℕ) → Option (List ℕ) → Type 0
RunsServer t olds news contents words failed old new =
    RunsProvider t olds news contents words failed old new
    ⊎ RunsParty t olds news contents words failed old new
    ⊎ RunsProviderPlus t olds news contents words failed old new
    ⊎ RunsPartyPlus t olds news contents words failed old new

-- a token or a discovery document is refused
abbrev pub RefusesTokenOrMetadata : Option (List Content) → List Text → Option (List ℕ) → Option (List ℕ) → Type 0
RefusesTokenOrMetadata contents words old new = RefusesToken contents words old new ⊎ RefusesMetadata contents words old new
