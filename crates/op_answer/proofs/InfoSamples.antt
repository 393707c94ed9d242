-- The provider's answers to UserInfo requests, by computation.
use Rattle.std.proofs.Common.{◌≡◌, ℕ, true, false, [], ◌∷◌, Some, refl}
use Rattle.sso_base.specs.Words.{Text, word_of_text}
use Rattle.sso_base.specs.declared.history.Entry.{Entry}
use Rattle.claim_set.specs.Reading.{claims_text}
use Rattle.token_endpoint.specs.declared.error.TokenError.TheVariants.{InvalidGrant}
use Rattle.userinfo.specs.declared.header.Bearer.{Bearer}
use Rattle.userinfo.specs.declared.header.Bearer.TheVariants.{Absent, Unreadable, Given}
use Rattle.userinfo.specs.Held.{info_members}
use Rattle.op_exchange.specs.declared.ask.OpAsk.{OpAsk}
use Rattle.op_exchange.specs.declared.ask.OpAsk.TheVariants as ask
use Rattle.op_exchange.specs.declared.reply.OpReply.TheVariants.{Info, InfoRefused, TokenRefused}
use Rattle.op_exchange.proofs.Sample.{word, sample, profile_scopes}
use Rattle.op_answer.specs.Answering.{op_answer}
use Rattle.op_answer.proofs.FirstLogin.{entry_at, pair_of, token_entry, past_code, past_tokens}

abbrev pub info_entry : ℕ → Bearer → Entry OpAsk
info_entry at given = entry_at at 41 (ask.Info given)

-- an access token of the first login is about alice at the shop, and the scope values of the login
abbrev pub alice_info : Text
alice_info = claims_text (info_members sample 0 0 profile_scopes [])

-- it lives for an hour
pub alice_is_told : (t : Text) → word_of_text t ≡ Some (word 15) → op_answer sample (past_tokens t) (info_entry 4599 (Given (word 21))) ≡ Info alice_info
unfolding op_answer
alice_is_told t spells = rw spells refl

pub nobody_is_told_after_an_hour : (t : Text) → word_of_text t ≡ Some (word 15) → op_answer sample (past_tokens t) (info_entry 4600 (Given (word 21))) ≡ InfoRefused true
unfolding op_answer
nobody_is_told_after_an_hour t spells = rw spells refl

-- or until its code is used again
pub nobody_is_told_after_a_second_use : (t : Text) → word_of_text t ≡ Some (word 15)
    → op_answer sample (pair_of (token_entry 1000 t) (TokenRefused InvalidGrant) ∷ past_tokens t) (info_entry 1001 (Given (word 21))) ≡ InfoRefused true
unfolding op_answer
nobody_is_told_after_a_second_use t spells = rw spells (rw spells refl)

pub nobody_is_told_without_a_token : op_answer sample past_code (info_entry 1000 Absent) ≡ InfoRefused false
unfolding op_answer
nobody_is_told_without_a_token = refl

pub nobody_is_told_by_another_text : op_answer sample past_code (info_entry 1000 Unreadable) ≡ InfoRefused true
unfolding op_answer
nobody_is_told_by_another_text = refl

-- a code is no access token
pub nobody_is_told_by_a_code : op_answer sample past_code (info_entry 1000 (Given (word 15))) ≡ InfoRefused true
unfolding op_answer
nobody_is_told_by_a_code = refl
