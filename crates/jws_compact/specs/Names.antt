-- The printed names of the errors of sealed texts.
use Rattle.std.specs.Prelude.{codes}
use Rattle.sso_base.specs.Words.{Text}
use Rattle.jws_compact.specs.declared.no.JwsNo.{JwsNo}
use Rattle.jws_compact.specs.declared.no.JwsNo.TheVariants.{NoMemory, TooLong, NotThreeParts, HeaderSpelling, PayloadSpelling, MacSpelling, HeaderNotObject}
use Rattle.jws_compact.specs.declared.no.JwsNo.TheVariants.{AlgNotHs256, Crit, BadMac}

-- the name of an error
unfoldable pub jws_name : JwsNo → Text
jws_name NoMemory = codes "NoMemory"
jws_name TooLong = codes "TooLong"
jws_name NotThreeParts = codes "NotThreeParts"
jws_name HeaderSpelling = codes "HeaderSpelling"
jws_name PayloadSpelling = codes "PayloadSpelling"
jws_name MacSpelling = codes "MacSpelling"
jws_name HeaderNotObject = codes "HeaderNotObject"
jws_name AlgNotHs256 = codes "AlgNotHs256"
jws_name Crit = codes "Crit"
jws_name BadMac = codes "BadMac"
