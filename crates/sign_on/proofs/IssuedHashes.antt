-- The ID Token of a token response: it is a text in UTF-8, and under whatever secret it is read, its claims have an `at_hash`
-- (OpenID Connect Core 1.0, 3.1.3.6).
use Rattle.std.proofs.Common.{◌≡◌, ◌<◌, ◌≤◌, ℕ, true, ◌&&◌, ◌∷◌, length, Option, Some, None, is_some, Ok, refl, sym, ap, ◌∙◌, subst, arith}
use Rattle.std.specs.Str.{IsUtf8}
use Rattle.std.proofs.lemmas.Bool.{ltb-true, and_parts}
use Rattle.json.proofs.Printed.Utf8.{IsUtf8-are_ascii}
use Rattle.sso_base.specs.Legal.{last_moment}
use Rattle.sso_base.specs.Values.{latest_moment}
use Rattle.sso_base.specs.Words.{Word, Text, word_of_text}
use Rattle.sso_base.specs.Rows.{row_of}
use Rattle.sso_base.specs.declared.history.Entry.{Entry}
use Rattle.jws_compact.specs.declared.sealing.Typ.TheVariants.{Jwt}
use Rattle.jws_compact.proofs.Ascii.{sealed_ascii}
use Rattle.claim_set.specs.Reading.{claims_text}
use Rattle.client_registry.specs.Configuration.{Configuration}
use Rattle.client_registry.specs.Numbers.{client_sealing, is_client}
use Rattle.client_registry.specs.Registered.{IsRegistry}
use Rattle.auth_request.specs.declared.wish.Wish.{Wish}
use Rattle.auth_request.specs.Values.{is_short_nonce, IsWishValue}
use Rattle.id_token.specs.declared.claims.IdClaims.{IdClaims}
use Rattle.id_token.specs.Claims.{id_members}
use Rattle.id_token.specs.Reading.{id_read}
use Rattle.id_token.specs.Sealing.{id_text}
use Rattle.code_grant.specs.declared.rows.CodeRow.{CodeRow}
use Rattle.code_grant.specs.Rows.{code_name, code_begun}
use Rattle.oidc_words.specs.Lives.{code_life}
use Rattle.op_issue.specs.declared.issuing.Authentication.{Authentication}
use Rattle.op_issue.specs.IdTokens.{id_claims, issued_id}
use Rattle.op_issue.specs.Issuing.{MayIssue}
use Rattle.op_issue.proofs.Sealable.{is_read_back}
use Rattle.op_exchange.specs.declared.ask.OpAsk.{OpAsk}
use Rattle.op_exchange.specs.declared.ask.OpAsk.TheVariants as ask
use Rattle.op_exchange.specs.declared.reply.OpReply.TheVariants as op
use Rattle.op_exchange.specs.Asks.{is_prepared_wish}
use Rattle.op_answer.specs.Past.{OpPair, OpPast}
use Rattle.op_answer.specs.Codes.{codes_issued, held_code}
use Rattle.op_answer.specs.Answering.{op_answer}
use Rattle.op_answer.specs.Authentications.{code_authentication}
use Rattle.op_answer.specs.Causes.{TokensCause}
use Rattle.op_answer.specs.Legal.{IsLegalOp}
use Rattle.op_answer.specs.OwnRows.{IsOwnCode}
use Rattle.op_answer.proofs.OwnRows.{codes_are_own, last_is_moment}
use Rattle.op_answer.proofs.TokenResponses.{tokens_have_a_cause}
use Rattle.sign_on.proofs.Lists.{lives_some}
use Rattle.sign_on.proofs.Texts.{id_once}

-- ---- it is in UTF-8

issued_text : (c : Configuration) (wish : Wish) (who : Authentication) (at : ℕ) (access code : Option Word) → IsUtf8 (issued_id c wish who at access code)
unfolding issued_id id_text
issued_text c wish who at access code =
    IsUtf8-are_ascii (issued_id c wish who at access code) (sealed_ascii (client_sealing c wish.client) (claims_text (id_members (id_claims c wish who at access code))) Jwt)

abbrev HasText : Configuration → OpPast → Entry OpAsk → OpAsk → Word → Text → Type 0
HasText c past e asked access id = TokensCause c past e asked access id → IsUtf8 id

caused_text : (c : Configuration) (past : OpPast) (e : Entry OpAsk) (asked : OpAsk) (access : Word) (id : Text) → HasText c past e asked access id
caused_text c past e (ask.Token (Ok grant)) access id cause =
    subst IsUtf8 cause.token (issued_text c cause.code.wish (code_authentication cause.code) e.at (Some access) None)
caused_text c past e asked access id cause = absurd cause

-- the ID Token with an access token is a text
pub tokens_are_text : (c : Configuration) (past : OpPast) (e : Entry OpAsk) (access : Word) (id : Text) → op_answer c past e ≡ op.Tokens access id → IsUtf8 id
tokens_are_text c past e access id answered = caused_text c past e e.ask access id (tokens_have_a_cause c past e access id answered)

-- ---- with an access token, an ID Token has its hash

hash_is_there : (c : Configuration) (wish : Wish) (who : Authentication) (at : ℕ) (access : Word) → is_some (id_claims c wish who at (Some access) None).at_hash ≡ true
unfolding id_claims
hash_is_there c wish who at access = refl

issued_has_hash : (c : Configuration) (wish : Wish) (who : Authentication) (at : ℕ) (access : Word) (key : Text) (x : IdClaims) → MayIssue c wish who at → IsWishValue wish
    → id_read key (issued_id c wish who at (Some access) None) ≡ Ok x → is_some x.at_hash ≡ true
issued_has_hash c wish who at access key x may value read =
    let claims : IdClaims = id_claims c wish who at (Some access) None in
    let same : claims ≡ x =
    id_once (client_sealing c wish.client) key (issued_id c wish who at (Some access) None) claims x
    (is_read_back c wish who at (Some access) None may value) read in
    ap (λ (y : IdClaims). is_some y.at_hash) (sym same) ∙ hash_is_there c wish who at access

-- ---- what the provider issues for a code of its past

pub wish_parts : (c : Configuration) (wish : Wish) → is_prepared_wish c wish ≡ true → (wish.client < length c.clients) × (is_short_nonce wish.nonce ≡ true)
wish_parts c wish h =
    let asked = and_parts (is_client c wish.client && is_short_nonce wish.nonce) wish.scopes.openid h in
    let parts = and_parts (is_client c wish.client) (is_short_nonce wish.nonce) asked.0 in
    (ltb-true wish.client (length c.clients) parts.0, parts.1)

pub code_found : (c : Configuration) (past : OpPast) (at : ℕ) (o : Option Word) (row : CodeRow) → IsLegalOp c past → held_code past at o ≡ Some row → IsOwnCode c past row
code_found c past at None row legal h = absurd (cc)
code_found c past at (Some w) row legal h = codes_are_own c past legal w row (lives_some code_life code_begun at (row_of code_name w (codes_issued past)) row h)

module _ (c : Configuration) (past : OpPast) (p : OpPair) (registry : IsRegistry c) (legal : IsLegalOp c (p ∷ past)) where
  pub may_issue : (row : CodeRow) → IsOwnCode c past row → MayIssue c row.wish (code_authentication row) p.entry.at
  may_issue row own =
      let wish = wish_parts c row.wish own.wish.prepared in
      let then : row.auth_time ≤ last_moment past = own.auth_time in
      let last : last_moment past ≤ latest_moment = last_is_moment c past legal.0 in
      record {
        registry = registry;
        client = wish.0;
        user = ltb-true row.user (length c.users) own.user;
        nonce = wish.1;
        sid = own.sid;
        auth_time = omega arith;
        moment = legal.1.moment;
      }

  caused_hash : (asked : OpAsk) (access : Word) (id key : Text) (x : IdClaims) → TokensCause c past p.entry asked access id → id_read key id ≡ Ok x → is_some x.at_hash ≡ true
  caused_hash (ask.Token (Ok grant)) access id key x cause read =
      let own : IsOwnCode c past cause.code = code_found c past p.entry.at (word_of_text grant.code) cause.code legal.0 cause.held in
      let R : Text → Type 0 = λ t. id_read key t ≡ Ok x in
      issued_has_hash c cause.code.wish (code_authentication cause.code) p.entry.at access key x (may_issue cause.code own) own.wish.value (subst R (sym cause.token) read)
  caused_hash asked access id key x cause read = absurd cause

  -- the claims of the ID Token of a token response, read under whatever secret, have an `at_hash`
  pub tokens_have_hash : (access : Word) (id key : Text) (x : IdClaims) → p.reply ≡ op.Tokens access id → id_read key id ≡ Ok x → is_some x.at_hash ≡ true
  tokens_have_hash access id key x replied read =
      caused_hash p.entry.ask access id key x (tokens_have_a_cause c past p.entry access id (sym legal.3 ∙ replied)) read
