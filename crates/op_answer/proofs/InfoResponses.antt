-- What UserInfo responses say, and which asks get them.
use Rattle.std.proofs.Common.{◌≡◌, Bool, Option, Some, None, refl, sym, ◌∙◌, ap}
use Rattle.sso_base.specs.Words.{Word, Text}
use Rattle.sso_base.specs.declared.history.Entry.{Entry}
use Rattle.client_registry.specs.Configuration.{Configuration}
use Rattle.userinfo.specs.declared.header.Bearer.{Bearer}
use Rattle.userinfo.specs.declared.header.Bearer.TheVariants as bearer
use Rattle.code_grant.specs.declared.rows.TokenRow.{TokenRow}
use Rattle.op_exchange.specs.declared.ask.OpAsk.{OpAsk}
use Rattle.op_exchange.specs.declared.ask.OpAsk.TheVariants as ask
use Rattle.op_exchange.specs.declared.reply.OpReply.{OpReply}
use Rattle.op_exchange.specs.declared.reply.OpReply.TheVariants.{Info, InfoRefused}
use Rattle.op_answer.specs.Past.{OpPast}
use Rattle.op_answer.specs.AccessTokens.{live_access_token}
use Rattle.op_answer.specs.Replies.{info, info_by}
use Rattle.op_answer.specs.Answering.{op_reply, op_answer}
use Rattle.op_answer.specs.Causes.{Stood, InfoForToken, InfoCause, InfoRefusedCause}
use Rattle.op_answer.proofs.Standing.{own_replies_stand, standing_is_the_answer, stands_without_rows}
use Rattle.op_answer.proofs.Forms.{request_told, login_told, consent_told, token_told, sign_out_told}

module _ (c : Configuration) (past : OpPast) (e : Entry OpAsk) where
  info_found : (w : Word) (claims : Text) (found : Option TokenRow) → live_access_token past e.at w ≡ found → info_by c found ≡ Info claims → InfoForToken c past e w claims
  info_found w claims (Some token) live h = record { token = token; live = live; claims_are = cc }
  info_found w claims None live h = cc

  info_given : (given : Bearer) (claims : Text) → info c past e given ≡ Info claims → InfoCause c past e (ask.Info given) claims
  info_given (bearer.Given w) claims h = info_found w claims (live_access_token past e.at w) refl h
  info_given bearer.Absent claims h = cc
  info_given bearer.Unreadable claims h = cc

  info_asked : (asked : OpAsk) (claims : Text) → op_reply c past e asked ≡ Info claims → InfoCause c past e asked claims
  info_asked (ask.Authorize verdict browser presented) claims h = let told = request_told c past e (Info claims) verdict browser presented h in cc
  info_asked (ask.Login turn signed browser presented) claims h = let told = login_told c past e (Info claims) turn signed browser presented h in cc
  info_asked (ask.Consent turn agree browser presented) claims h = let told = consent_told c past e (Info claims) turn agree browser presented h in cc
  info_asked (ask.Token grant) claims h = let told = token_told c past e (Info claims) grant h in cc
  info_asked (ask.Info given) claims h = info_given given claims h
  info_asked (ask.SignOut presented) claims h = let told = sign_out_told c past e (Info claims) presented h in cc
  info_asked ask.Metadata claims h = cc
  info_asked ask.Keys claims h = cc
  info_asked ask.Twice claims h = cc
  info_asked ask.NotHere claims h = cc

  pub infos_have_a_cause : (claims : Text) → op_answer c past e ≡ Info claims → InfoCause c past e e.ask claims
  infos_have_a_cause claims h = info_asked e.ask claims (own_replies_stand c past e (Info claims) refl h).reply_is

  -- ---- UserInfo error responses

  refused_found : (w : Word) (given : Bool) (found : Option TokenRow) → live_access_token past e.at w ≡ found → info_by c found ≡ InfoRefused given → InfoRefusedCause past e (ask.Info (bearer.Given w)) given
  refused_found w given (Some token) live h = cc
  refused_found w given None live h = (live, cc)

  refused_given : (came : Bearer) (given : Bool) → info c past e came ≡ InfoRefused given → InfoRefusedCause past e (ask.Info came) given
  refused_given (bearer.Given w) given h = refused_found w given (live_access_token past e.at w) refl h
  refused_given bearer.Absent given h = cc
  refused_given bearer.Unreadable given h = cc

  refused_asked : (asked : OpAsk) (given : Bool) → op_reply c past e asked ≡ InfoRefused given → InfoRefusedCause past e asked given
  refused_asked (ask.Authorize verdict browser presented) given h = let told = request_told c past e (InfoRefused given) verdict browser presented h in cc
  refused_asked (ask.Login turn signed browser presented) given h = let told = login_told c past e (InfoRefused given) turn signed browser presented h in cc
  refused_asked (ask.Consent turn agree browser presented) given h = let told = consent_told c past e (InfoRefused given) turn agree browser presented h in cc
  refused_asked (ask.Token grant) given h = let told = token_told c past e (InfoRefused given) grant h in cc
  refused_asked (ask.Info came) given h = refused_given came given h
  refused_asked (ask.SignOut presented) given h = let told = sign_out_told c past e (InfoRefused given) presented h in cc
  refused_asked ask.Metadata given h = cc
  refused_asked ask.Keys given h = cc
  refused_asked ask.Twice given h = cc
  refused_asked ask.NotHere given h = cc

  pub info_refusals_have_a_cause : (given : Bool) → op_answer c past e ≡ InfoRefused given → InfoRefusedCause past e e.ask given
  info_refusals_have_a_cause given h = refused_asked e.ask given (own_replies_stand c past e (InfoRefused given) refl h).reply_is

  -- ---- a UserInfo request gets what its cause says: it is always prepared, and makes no row

  info_stands : (asked : OpAsk) (claims : Text) → e.ask ≡ asked → InfoCause c past e asked claims → Stood c past e (Info claims)
  info_stands (ask.Info (bearer.Given w)) claims is cause =
      let T : Option TokenRow → OpReply = λ o. info_by c o in
      let I : Text → OpReply = λ t. Info t in
      stands_without_rows c past e (ask.Info (bearer.Given w)) (Info claims) is refl refl (ap T cause.live ∙ ap I cause.claims_are)
  info_stands other claims is cause = absurd cause

  pub caused_infos : (claims : Text) → InfoCause c past e e.ask claims → op_answer c past e ≡ Info claims
  caused_infos claims cause = standing_is_the_answer c past e (Info claims) (info_stands e.ask claims refl cause)

  refusal_stands : (asked : OpAsk) (given : Bool) → e.ask ≡ asked → InfoRefusedCause past e asked given → Stood c past e (InfoRefused given)
  refusal_stands (ask.Info bearer.Absent) given is cause =
      let R : Bool → OpReply = λ b. InfoRefused b in
      stands_without_rows c past e (ask.Info bearer.Absent) (InfoRefused given) is refl refl (ap R (sym cause))
  refusal_stands (ask.Info bearer.Unreadable) given is cause =
      let R : Bool → OpReply = λ b. InfoRefused b in
      stands_without_rows c past e (ask.Info bearer.Unreadable) (InfoRefused given) is refl refl (ap R (sym cause))
  refusal_stands (ask.Info (bearer.Given w)) given is cause =
      let T : Option TokenRow → OpReply = λ o. info_by c o in
      let R : Bool → OpReply = λ b. InfoRefused b in
      stands_without_rows c past e (ask.Info (bearer.Given w)) (InfoRefused given) is refl refl (ap T cause.0 ∙ ap R (sym cause.1))
  refusal_stands other given is cause = absurd cause

  pub caused_info_refusals : (given : Bool) → InfoRefusedCause past e e.ask given → op_answer c past e ≡ InfoRefused given
  caused_info_refusals given cause = standing_is_the_answer c past e (InfoRefused given) (refusal_stands e.ask given refl cause)
