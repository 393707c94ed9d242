-- What sign-outs say, and which asks get them.
use Rattle.std.proofs.Common.{◌≡◌, List, Option, Some, None, refl, sym, ◌∙◌, ap, inl, inr}
use Rattle.sso_base.specs.Words.{Word}
use Rattle.sso_base.specs.declared.history.Entry.{Entry}
use Rattle.sso_base.specs.declared.message.Message.{Message}
use Rattle.client_registry.specs.Configuration.{Configuration}
use Rattle.code_grant.specs.declared.rows.SessionRow.{SessionRow}
use Rattle.op_exchange.specs.declared.ask.OpAsk.{OpAsk}
use Rattle.op_exchange.specs.declared.ask.OpAsk.TheVariants as ask
use Rattle.op_exchange.specs.declared.reply.OpReply.{OpReply}
use Rattle.op_exchange.specs.declared.reply.OpReply.TheVariants.{SignedOut}
use Rattle.op_answer.specs.Past.{OpPast}
use Rattle.op_answer.specs.Sessions.{live_session}
use Rattle.op_answer.specs.Replies.{sign_out_by}
use Rattle.op_answer.specs.Answering.{op_reply, op_answer}
use Rattle.op_answer.specs.Causes.{Stood, SignedOutCause}
use Rattle.op_answer.proofs.Standing.{own_replies_stand, standing_is_the_answer, stands_without_rows}
use Rattle.op_answer.proofs.Forms.{request_told, login_told, consent_told, token_told, info_told}

module _ (c : Configuration) (past : OpPast) (e : Entry OpAsk) (messages : List Message) where
  ended_found : (presented : Option Word) (found : Option SessionRow) → live_session past e.at presented ≡ found → sign_out_by c e found ≡ SignedOut messages
      → SignedOutCause c past e (ask.SignOut presented) messages
  ended_found presented None live h = inl (live, cc)
  ended_found presented (Some session) live h = inr (record { session = session; live = live; messages_are = cc })

  signed_out_asked : (asked : OpAsk) → op_reply c past e asked ≡ SignedOut messages → SignedOutCause c past e asked messages
  signed_out_asked (ask.Authorize verdict browser presented) h = let told = request_told c past e (SignedOut messages) verdict browser presented h in cc
  signed_out_asked (ask.Login turn signed browser presented) h = let told = login_told c past e (SignedOut messages) turn signed browser presented h in cc
  signed_out_asked (ask.Consent turn agree browser presented) h = let told = consent_told c past e (SignedOut messages) turn agree browser presented h in cc
  signed_out_asked (ask.Token grant) h = let told = token_told c past e (SignedOut messages) grant h in cc
  signed_out_asked (ask.Info given) h = let told = info_told c past e (SignedOut messages) given h in cc
  signed_out_asked (ask.SignOut presented) h = ended_found presented (live_session past e.at presented) refl h
  signed_out_asked ask.Metadata h = cc
  signed_out_asked ask.Keys h = cc
  signed_out_asked ask.Twice h = cc
  signed_out_asked ask.NotHere h = cc

  pub sign_outs_have_a_cause : op_answer c past e ≡ SignedOut messages → SignedOutCause c past e e.ask messages
  sign_outs_have_a_cause h = signed_out_asked e.ask (own_replies_stand c past e (SignedOut messages) refl h).reply_is

  -- ---- a sign-out gets what its cause says: it is always prepared, and makes no row

  sign_out_stands : (asked : OpAsk) → e.ask ≡ asked → SignedOutCause c past e asked messages → Stood c past e (SignedOut messages)
  sign_out_stands (ask.SignOut presented) is (inl none) =
      let F : Option SessionRow → OpReply = λ o. sign_out_by c e o in
      let S : List Message → OpReply = λ l. SignedOut l in
      stands_without_rows c past e (ask.SignOut presented) (SignedOut messages) is refl refl (ap F none.0 ∙ ap S (sym none.1))
  sign_out_stands (ask.SignOut presented) is (inr ended) =
      let F : Option SessionRow → OpReply = λ o. sign_out_by c e o in
      let S : List Message → OpReply = λ l. SignedOut l in
      stands_without_rows c past e (ask.SignOut presented) (SignedOut messages) is refl refl (ap F ended.live ∙ ap S ended.messages_are)
  sign_out_stands other is cause = absurd cause

  pub caused_sign_outs : SignedOutCause c past e e.ask messages → op_answer c past e ≡ SignedOut messages
  caused_sign_outs cause = standing_is_the_answer c past e (SignedOut messages) (sign_out_stands e.ask refl cause)
