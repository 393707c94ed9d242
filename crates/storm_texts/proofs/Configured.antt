-- The configuration of every storm is accepted, and has its parties. It is read here as the program reads it, by computing.
use Rattle.std.proofs.Common.{◌≡◌, ◌&&◌, Bool, true, false, Result, Ok, Err, is_ok, is_some, refl, sym, ap, ◌∙◌}
use Rattle.std.specs.Str.{is_utf8, chars}
use Rattle.std.proofs.lemmas.Bool.{and_parts}
use Rattle.hex.proofs.OnLiterals.{hex_on_literals}
use Rattle.toml.proofs.OnLiterals.{toml_on_literals}
use Rattle.url.proofs.OnLiterals.{url_on_literals}
use Rattle.registered_url.specs.Rule.{parts_of}
use Rattle.json.specs.Print.{escape_byte}
use Rattle.oidc_words.specs.Claims.{flag_claims, seconds_claims, address_claims, is_claim_of, profile_claims, email_claims}
use Rattle.oidc_words.specs.Types.{spellings}
use Rattle.configuration_rows.specs.declared.no.RegNo.{RegNo}
use Rattle.configuration_rows.specs.Versions.{version_in}
use Rattle.configuration_rows.specs.Rows.{rows_refusals, lacks_type}
use Rattle.client_registry.specs.Records.{party_of}
use Rattle.client_registry.specs.Rules.{records_refusals, subjects_refusals, party_place}
use Rattle.client_registry.specs.Configuration.{Configuration, configuration_of}
use Rattle.client_registry.specs.Reading.{document_in, rows_read, records_read, subjects_read, registry_read}
use Rattle.storm_texts.specs.declared.login.Party.{Party}
use Rattle.storm_texts.specs.declared.login.Party.TheVariants.{Shop, News, Mail}
use Rattle.storm_texts.specs.Config.{config_text, provider_text, users_text, clients_text, parties_text}
use Rattle.storm_texts.specs.Logins.{party_name}
use Rattle.storm_texts.specs.Parties.{KnowsParties}

-- the configuration has a party of the name
abbrev has : Configuration → Party → Bool
has c party = is_some (party_place (party_name party) c.parties)

-- the configuration is accepted, and has the parties of a storm
abbrev is_ready : Result Configuration RegNo → Bool
is_ready (Err why) = false
is_ready (Ok c) = has c Shop && (has c News && has c Mail)

storm_ready : is_ready (registry_read config_text) ≡ true
unfolding config_text provider_text users_text clients_text parties_text document_in toml_on_literals version_in rows_read records_read subjects_read rows_refusals records_refusals subjects_refusals configuration_of url_on_literals parts_of hex_on_literals is_utf8 chars flag_claims seconds_claims address_claims is_claim_of profile_claims email_claims spellings lacks_type party_of escape_byte
storm_ready = refl

ready_ok : (r : Result Configuration RegNo) → is_ready r ≡ true → is_ok r ≡ true
ready_ok (Err why) h = absurd (cc)
ready_ok (Ok c) h = refl

ready_knows : (c : Configuration) → is_ready (Ok c) ≡ true → KnowsParties c
ready_knows c h Shop = (and_parts (has c Shop) (has c News && has c Mail) h).0
ready_knows c h News = (and_parts (has c News) (has c Mail) (and_parts (has c Shop) (has c News && has c Mail) h).1).0
ready_knows c h Mail = (and_parts (has c News) (has c Mail) (and_parts (has c Shop) (has c News && has c Mail) h).1).1

pub storm_configured : is_ok (registry_read config_text) ≡ true
storm_configured = ready_ok (registry_read config_text) storm_ready

pub storm_known : (c : Configuration) → registry_read config_text ≡ Ok c → KnowsParties c
storm_known c read = ready_knows c (ap is_ready (sym read) ∙ storm_ready)
