-- What token responses say.
use Rattle.std.proofs.Common.{◌≡◌, ℕ, ◌==◌, Bool, true, false, not, cond, Option, Some, None, Result, Ok, Err, refl}
use Rattle.std.specs.Str.{bytes_eq}
use Rattle.std.proofs.lemmas.Bool.{eqb-true}
use Rattle.sso_base.specs.Words.{Word, Text, word_of_text}
use Rattle.sso_base.specs.Rows.{lives}
use Rattle.sso_base.specs.declared.history.Entry.{Entry}
use Rattle.sso_base.proofs.RowLaws.{bytes_same}
use Rattle.client_registry.specs.Configuration.{Configuration}
use Rattle.token_endpoint.specs.declared.granting.Grant.{Grant}
use Rattle.token_endpoint.specs.declared.no.GrantNo.{GrantNo}
use Rattle.token_endpoint.specs.declared.error.TokenError.{TokenError}
use Rattle.code_grant.specs.declared.rows.CodeRow.{CodeRow}
use Rattle.code_grant.specs.declared.redeem.Redeem.{Redeem}
use Rattle.code_grant.specs.declared.redeem.Redeem.TheVariants.{Redeemed, Unknown, OtherClient, Spent, Expired, OtherUri}
use Rattle.code_grant.specs.Redeeming.{redeem_of}
use Rattle.oidc_words.specs.Lives.{code_usable}
use Rattle.op_exchange.specs.declared.ask.OpAsk.{OpAsk}
use Rattle.op_exchange.specs.declared.ask.OpAsk.TheVariants as ask
use Rattle.op_exchange.specs.declared.reply.OpReply.TheVariants.{Tokens, TokenRefused}
use Rattle.op_answer.specs.Past.{OpPast}
use Rattle.op_answer.specs.Codes.{redeem, held_code}
use Rattle.op_answer.specs.Replies.{token, tokens_by}
use Rattle.op_answer.specs.Answering.{op_reply, op_answer}
use Rattle.op_answer.specs.Causes.{TokensForCode, TokensCause, TokenRefusedCause}
use Rattle.op_answer.proofs.Standing.{own_replies_stand}
use Rattle.op_answer.proofs.Forms.{request_told, login_told, consent_told, info_told, sign_out_told}

-- ---- the code's row, where it is redeemed

record Good (at : ℕ) (grant : Grant) (code : CodeRow) : Type 0 where
  client : code.wish.client ≡ grant.client
  unspent : code.spent ≡ false
  usable : lives code_usable code.issued at ≡ true
  uri : code.wish.redirect ≡ grant.redirect

redeemed_by : (client spent usable uri : Bool)
    → cond (not client) OtherClient (cond spent Spent (cond (not usable) Expired (cond (not uri) OtherUri Redeemed))) ≡ Redeemed
    → (client ≡ true) × (spent ≡ false) × (usable ≡ true) × (uri ≡ true)
redeemed_by false spent usable uri h = cc
redeemed_by true true usable uri h = cc
redeemed_by true false false uri h = cc
redeemed_by true false true false h = cc
redeemed_by true false true true h = (refl, refl, refl, refl)

good : (at : ℕ) (grant : Grant) (code : CodeRow) → redeem_of grant.client grant.redirect at (Some code) ≡ Redeemed → Good at grant code
good at grant code h =
    let told = redeemed_by (code.wish.client == grant.client) code.spent (lives code_usable code.issued at) (bytes_eq code.wish.redirect grant.redirect) h in
    record {
      client = eqb-true code.wish.client grant.client told.0;
      unspent = told.1;
      usable = told.2;
      uri = bytes_same code.wish.redirect grant.redirect told.3;
    }

module _ (c : Configuration) (past : OpPast) (e : Entry OpAsk) where
  tokens_found : (grant : Grant) (w : Word) (id : Text) (found : Option CodeRow) (r : Redeem) → held_code past e.at (word_of_text grant.code) ≡ found
      → redeem_of grant.client grant.redirect e.at found ≡ r → tokens_by c e r found ≡ Tokens w id → TokensForCode c past e grant w id
  tokens_found grant w id (Some code) Redeemed held judged h =
      let fits = good e.at grant code judged in
      record {
        code = code;
        held = held;
        own_client = fits.client;
        unspent = fits.unspent;
        usable = fits.usable;
        own_uri = fits.uri;
        drawn = cc;
        token = cc;
      }
  tokens_found grant w id None Redeemed held judged h = cc
  tokens_found grant w id found Unknown held judged h = cc
  tokens_found grant w id found OtherClient held judged h = cc
  tokens_found grant w id found Spent held judged h = cc
  tokens_found grant w id found Expired held judged h = cc
  tokens_found grant w id found OtherUri held judged h = cc

  tokens_granted : (grant : Result Grant GrantNo) (w : Word) (id : Text) → token c past e grant ≡ Tokens w id → TokensCause c past e (ask.Token grant) w id
  tokens_granted (Err why) w id h = cc
  tokens_granted (Ok grant) w id h =
      let found = held_code past e.at (word_of_text grant.code) in
      tokens_found grant w id found (redeem past e.at grant) refl refl h

  pub tokens_asked : (asked : OpAsk) (w : Word) (id : Text) → op_reply c past e asked ≡ Tokens w id → TokensCause c past e asked w id
  tokens_asked (ask.Authorize verdict browser presented) w id h = let told = request_told c past e (Tokens w id) verdict browser presented h in cc
  tokens_asked (ask.Login turn signed browser presented) w id h = let told = login_told c past e (Tokens w id) turn signed browser presented h in cc
  tokens_asked (ask.Consent turn agree browser presented) w id h = let told = consent_told c past e (Tokens w id) turn agree browser presented h in cc
  tokens_asked (ask.Token grant) w id h = tokens_granted grant w id h
  tokens_asked (ask.Info bearer) w id h = let told = info_told c past e (Tokens w id) bearer h in cc
  tokens_asked (ask.SignOut session) w id h = let told = sign_out_told c past e (Tokens w id) session h in cc
  tokens_asked ask.Metadata w id h = cc
  tokens_asked ask.Keys w id h = cc
  tokens_asked ask.Twice w id h = cc
  tokens_asked ask.NotHere w id h = cc

  pub tokens_have_a_cause : (w : Word) (id : Text) → op_answer c past e ≡ Tokens w id → TokensCause c past e e.ask w id
  tokens_have_a_cause w id h = tokens_asked e.ask w id (own_replies_stand c past e (Tokens w id) refl h).reply_is

  -- ---- token error responses

  refused_found : (grant : Grant) (code : TokenError) (found : Option CodeRow) (r : Redeem) → held_code past e.at (word_of_text grant.code) ≡ found
      → redeem_of grant.client grant.redirect e.at found ≡ r → tokens_by c e r found ≡ TokenRefused code → TokenRefusedCause past e (ask.Token (Ok grant)) code
  refused_found grant code (Some row) Redeemed held judged h = cc
  refused_found grant code None Redeemed held judged h = cc
  refused_found grant code found Unknown held judged h = (λ good. cc, cc)
  refused_found grant code found OtherClient held judged h = (λ good. cc, cc)
  refused_found grant code found Spent held judged h = (λ good. cc, cc)
  refused_found grant code found Expired held judged h = (λ good. cc, cc)
  refused_found grant code found OtherUri held judged h = (λ good. cc, cc)

  refused_granted : (grant : Result Grant GrantNo) (code : TokenError) → token c past e grant ≡ TokenRefused code → TokenRefusedCause past e (ask.Token grant) code
  refused_granted (Err why) code h = cc
  refused_granted (Ok grant) code h =
      let found = held_code past e.at (word_of_text grant.code) in
      refused_found grant code found (redeem past e.at grant) refl refl h

  refused_asked : (asked : OpAsk) (code : TokenError) → op_reply c past e asked ≡ TokenRefused code → TokenRefusedCause past e asked code
  refused_asked (ask.Authorize verdict browser presented) code h = let told = request_told c past e (TokenRefused code) verdict browser presented h in cc
  refused_asked (ask.Login turn signed browser presented) code h = let told = login_told c past e (TokenRefused code) turn signed browser presented h in cc
  refused_asked (ask.Consent turn agree browser presented) code h = let told = consent_told c past e (TokenRefused code) turn agree browser presented h in cc
  refused_asked (ask.Token grant) code h = refused_granted grant code h
  refused_asked (ask.Info bearer) code h = let told = info_told c past e (TokenRefused code) bearer h in cc
  refused_asked (ask.SignOut session) code h = let told = sign_out_told c past e (TokenRefused code) session h in cc
  refused_asked ask.Metadata code h = cc
  refused_asked ask.Keys code h = cc
  refused_asked ask.Twice code h = cc
  refused_asked ask.NotHere code h = cc

  pub token_errors_have_a_cause : (code : TokenError) → op_answer c past e ≡ TokenRefused code → TokenRefusedCause past e e.ask code
  token_errors_have_a_cause code h = refused_asked e.ask code (own_replies_stand c past e (TokenRefused code) refl h).reply_is
