-- Laws about texts that are sealed for a client. Each is a clause of a function of `law.rt`, which says it in words.
use Rattle.std.specs.Prelude.{◌≡◌, true, Ok, Err}
use Rattle.sso_base.specs.Words.{Text}
use Rattle.jws_compact.specs.declared.no.JwsNo.TheVariants.{BadMac}
use Rattle.jws_compact.specs.declared.unsealing.Unsealed.{Unsealed}
use Rattle.jws_compact.specs.Jws.{verdict}
use Rattle.client_registry.specs.declared.records.Client.{Client}
use Rattle.client_registry.specs.Secrets.{has_secret}
use Rattle.client_keys.specs.Opening.{verdict_for}

abbrev pub TextsOfEachSecretAreOpened : Type 0
TextsOfEachSecretAreOpened =
    (client : Client) (secret t : Text) (u : Unsealed) → has_secret secret client ≡ true → verdict secret t ≡ Ok u
    → verdict_for client t ≡ Ok u

abbrev pub MacsThatAreWrongUnderEachAreWrong : Type 0
MacsThatAreWrongUnderEachAreWrong =
    (client : Client) (t : Text) → ((secret : Text) → has_secret secret client ≡ true → verdict secret t ≡ Err BadMac)
    → verdict_for client t ≡ Err BadMac
