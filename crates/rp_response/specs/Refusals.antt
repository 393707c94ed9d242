-- The printed names of errors: the error's own name, then that of the wrapped error. The contents of an error are not shown,
-- except the code of the provider.
use Rattle.std.specs.Prelude.{◌++◌, codes}
use Rattle.sso_base.specs.Words.{Text}
use Rattle.jws_compact.specs.declared.no.JwsNo.{JwsNo}
use Rattle.jws_compact.specs.Names.{jws_name}
use Rattle.claim_set.specs.declared.no.ClaimNo.{ClaimNo}
use Rattle.claim_set.specs.declared.no.ClaimNo.TheVariants as claim_no
use Rattle.id_token.specs.declared.no.IdNo.{IdNo}
use Rattle.id_token.specs.declared.no.IdNo.TheVariants as id_no
use Rattle.logout_token.specs.declared.no.LogoutNo.{LogoutNo}
use Rattle.logout_token.specs.declared.no.LogoutNo.TheVariants as logout_no
use Rattle.token_endpoint.specs.declared.no.TokensNo.{TokensNo}
use Rattle.token_endpoint.specs.declared.no.TokensNo.TheVariants as tokens_no
use Rattle.userinfo.specs.declared.no.InfoNo.{InfoNo}
use Rattle.userinfo.specs.declared.no.InfoNo.TheVariants as info_no
use Rattle.oidc_words.specs.Errors.{error_text}
use Rattle.rp_exchange.specs.declared.no.RpNo.{RpNo}
use Rattle.rp_exchange.specs.declared.no.RpNo.TheVariants as no

-- ---- wrapped errors

abbrev pub claim_name : ClaimNo → Text
claim_name claim_no.NoMemory = codes "NoMemory"
claim_name claim_no.NotJson = codes "NotJson"
claim_name claim_no.NotObject = codes "NotObject"
claim_name (claim_no.WrongKind name) = codes "WrongKind"

abbrev pub jws_words : JwsNo → Text
jws_words why = codes "Jws " ++ jws_name why

abbrev pub claims_words : ClaimNo → Text
claims_words why = codes "Claims " ++ claim_name why

-- ---- errors of tokens and of responses

abbrev pub id_words : IdNo → Text
id_words id_no.NoMemory = codes "NoMemory"
id_words (id_no.Jws why) = jws_words why
id_words (id_no.Claims why) = claims_words why
id_words (id_no.Missing name) = codes "Missing"
id_words id_no.Issuer = codes "Issuer"
id_words id_no.Audience = codes "Audience"
id_words id_no.Azp = codes "Azp"
id_words (id_no.Expired exp) = codes "Expired"
id_words (id_no.TooOld iat) = codes "TooOld"
id_words (id_no.FromFuture iat) = codes "FromFuture"
id_words id_no.Nonce = codes "Nonce"
id_words id_no.AuthTime = codes "AuthTime"
id_words id_no.TokenHash = codes "TokenHash"
id_words id_no.CodeHash = codes "CodeHash"

abbrev pub tokens_words : TokensNo → Text
tokens_words (tokens_no.Status status) = codes "Status"
tokens_words (tokens_no.Claims why) = claims_words why
tokens_words (tokens_no.Missing name) = codes "Missing"
tokens_words tokens_no.NotBearer = codes "NotBearer"
tokens_words tokens_no.NoMemory = codes "NoMemory"

abbrev pub info_words : InfoNo → Text
info_words info_no.NoMemory = codes "NoMemory"
info_words (info_no.Status status) = codes "Status"
info_words (info_no.Claims why) = claims_words why
info_words info_no.NoSub = codes "NoSub"

abbrev pub logout_words : LogoutNo → Text
logout_words logout_no.NoMemory = codes "NoMemory"
logout_words (logout_no.Jws why) = jws_words why
logout_words (logout_no.Claims why) = claims_words why
logout_words logout_no.WrongTyp = codes "WrongTyp"
logout_words (logout_no.Missing name) = codes "Missing"
logout_words logout_no.NoEvent = codes "NoEvent"
logout_words logout_no.HasNonce = codes "HasNonce"
logout_words logout_no.NamesNobody = codes "NamesNobody"
logout_words logout_no.Issuer = codes "Issuer"
logout_words logout_no.Audience = codes "Audience"
logout_words (logout_no.Expired exp) = codes "Expired"
logout_words (logout_no.TooOld iat) = codes "TooOld"
logout_words (logout_no.FromFuture iat) = codes "FromFuture"

-- ---- a relying party's errors

abbrev pub refusal_words : RpNo → Text
refusal_words (no.Twice name) = codes "Twice"
refusal_words no.NoState = codes "NoState"
refusal_words no.StaleLogin = codes "StaleLogin"
refusal_words no.WrongBrowser = codes "WrongBrowser"
refusal_words (no.Provider code) = codes "Provider " ++ error_text code
refusal_words (no.Missing part) = codes "Missing"
refusal_words (no.Id why) = codes "Id " ++ id_words why
refusal_words no.StalePending = codes "StalePending"
refusal_words (no.Tokens why) = codes "Tokens " ++ tokens_words why
refusal_words (no.Info why) = codes "Info " ++ info_words why
refusal_words no.SubjectDiffers = codes "SubjectDiffers"
refusal_words (no.Full table) = codes "Full"
refusal_words (no.Logout why) = codes "Logout " ++ logout_words why
refusal_words (no.Seen place) = codes "Seen"
refusal_words (no.EndedSid place) = codes "EndedSid"

abbrev pub refusal_line : RpNo → Text
refusal_line why = codes "refused " ++ refusal_words why
