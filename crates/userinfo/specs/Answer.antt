-- UserInfo responses (OpenID Connect Core 1.0, 5.3.2 and 5.3.3).
use Rattle.std.specs.Prelude.{◌≡◌, ℕ, ◌==◌, Bool, true, false, not, List, codes, Option, Some, None, Result, Ok, Err}
use Rattle.serde_json.specs.Data.{string, Members}
use Rattle.serde_json.specs.Find.{get_member}
use Rattle.sso_base.specs.declared.message.Answered.{Answered}
use Rattle.sso_base.specs.Refusals.{and_then_as, forbid}
use Rattle.claim_set.specs.declared.no.ClaimNo.{ClaimNo}
use Rattle.claim_set.specs.declared.no.ClaimNo.TheVariants as claims
use Rattle.claim_set.specs.Kinds.{text_claim}
use Rattle.claim_set.specs.Reading.{Reads, claims_read}
use Rattle.userinfo.specs.declared.no.InfoNo.{InfoNo}
use Rattle.userinfo.specs.declared.no.InfoNo.TheVariants.{Status, Claims, NoSub}

abbrev pub if_there : Result (Option (List ℕ)) ClaimNo → Result (List ℕ) InfoNo
if_there (Ok None) = Err NoSub
if_there (Ok (Some sub)) = Ok sub
if_there (Err e) = Err (Claims e)

-- the subject among claims
abbrev pub sub_in : Members → Result (List ℕ) InfoNo
sub_in ms = if_there (text_claim (codes "sub") ms)

-- the subject in a response, or the first error that applies
unfoldable pub info_read : Answered → Result (List ℕ) InfoNo
info_read a = forbid (Status a.status) (not (a.status == 200)) (and_then_as Claims (claims_read a.body) sub_in)

-- the response is a UserInfo response about this subject: status 200, and claims with this `sub`
pub record IsUserInfo (a : Answered) (sub : List ℕ) : Type 0 where
  pub status : a.status ≡ 200
  pub claims : Members
  pub reads : Reads a.body claims
  pub names : get_member (codes "sub") claims ≡ Some (string sub)

-- `NoMemory` is wrapped in another error
abbrev pub hides_memory : InfoNo → Bool
hides_memory (Claims claims.NoMemory) = true
hides_memory e = false
