-- Each text that is written in a legal world and read as an ID Token with a nonce was in a reply of the provider, whose code and
-- access token have the half hashes of its claims. No premise is needed for this.
use Rattle.std.proofs.Common.{◌≡◌, ◌≤◌, ℕ, Bool, true, false, [], ◌∷◌, length, Option, Some, None, Ok, refl, sym, ap, ◌∙◌, subst, inl, arith, ltb-true}
use Rattle.std.specs.List.{AllByRecursion}
use Rattle.sso_base.specs.Words.{Word, Text, IsWord, fresh_word, word_of_text}
use Rattle.sso_base.specs.Rows.{row_of}
use Rattle.sso_base.specs.declared.http.Ask.{Ask}
use Rattle.sso_model.specs.Lists.{Has}
use Rattle.sso_model.proofs.ListLaws.{all_append}
use Rattle.held_rows.proofs.Found.{row_that_lives}
use Rattle.client_registry.specs.Configuration.{Configuration}
use Rattle.client_registry.specs.Registered.{IsRegistry}
use Rattle.oidc_words.specs.Lives.{session_life}
use Rattle.auth_answer.specs.declared.answer.Answer.{Answer}
use Rattle.id_token.specs.Reading.{id_read}
use Rattle.token_endpoint.specs.declared.granting.Grant.{Grant}
use Rattle.code_grant.specs.declared.rows.SessionRow.{SessionRow}
use Rattle.code_grant.specs.Rows.{session_name, session_begun}
use Rattle.op_exchange.specs.declared.ask.OpAsk.{OpAsk}
use Rattle.op_exchange.specs.declared.ask.OpAsk.TheVariants as op_ask
use Rattle.op_exchange.specs.declared.reply.OpReply.{OpReply}
use Rattle.op_exchange.specs.declared.reply.OpReply.TheVariants as op
use Rattle.op_issue.specs.declared.issuing.Authentication.{Authentication}
use Rattle.op_issue.specs.declared.sign_out.SignOut.{SignOut}
use Rattle.op_issue.specs.Ending.{MayEnd}
use Rattle.op_issue.specs.IdTokens.{hash_of, issued_id}
use Rattle.op_issue.specs.Issued.{if_wished, issued_access, issued_code}
use Rattle.op_issue.specs.Issuing.{MayIssue}
use Rattle.op_issue.specs.LogoutTokens.{issued_logout}
use Rattle.op_answer.specs.Past.{OpPair, OpPast}
use Rattle.op_answer.specs.Authentications.{session_authentication, code_authentication}
use Rattle.op_answer.specs.Causes.{TokensForCode, TokensCause}
use Rattle.op_answer.specs.Legal.{IsLegalOp}
use Rattle.op_answer.specs.OwnRows.{IsOwnSession, IsOwnCode}
use Rattle.op_answer.specs.Replies.{sign_out_of}
use Rattle.op_answer.specs.Sessions.{sessions, session_used, session_of}
use Rattle.op_answer.proofs.OwnRows.{sessions_are_own}
use Rattle.op_answer.proofs.TokenResponses.{tokens_have_a_cause}
use Rattle.rp_exchange.specs.declared.reply.RpReply.{RpReply}
use Rattle.rp_exchange.specs.declared.reply.RpReply.TheVariants as rp
use Rattle.rp_answer.specs.Past.{RpPair}
use Rattle.sso_places.specs.declared.types.WorldAsk.{WorldAsk}
use Rattle.sso_places.specs.Site.{Site, IsSite}
use Rattle.sso_places.specs.World.{Place, Provider, Party, Nothing, World, op_past}
use Rattle.sso_places.specs.Legal.{IsLegalWorld}
use Rattle.sso_places.specs.Told.{told_clients, session_ended}
use Rattle.sso_places.specs.Tokens.{TokenText, token_if}
use Rattle.sso_places.specs.Written.{client_of_uri, logouts_written, op_written, rp_written, written_at, written}
use Rattle.sso_places.proofs.Places.{legal_before, party_legal, fresh_is_word}
use Rattle.sign_on.proofs.Invariant.{IsIdOf, IsTokenBound}
use Rattle.sign_on.proofs.IssuedHashes.{wish_parts, code_found, may_issue}
use Rattle.sign_on.proofs.OpOuts.{all_map, told_is_answered}
use Rattle.sign_on.proofs.Shared.{bound_more}
use Rattle.sign_on.proofs.Texts.{issued_hashes, object_bound, logout_unbound}
use Rattle.authorization.proofs.Answering.{AnswersIn, answers_in}

-- ---- what an authorization response has may be issued

session_own : (c : Configuration) (past : OpPast) (o : Option Word) (row : SessionRow) → IsLegalOp c past → session_of past o ≡ Some row → IsOwnSession c past row
session_own c past None row legal is = absurd (cc)
session_own c past (Some w) row legal is = sessions_are_own c past legal w row is

pub answer_may_issue : (c : Configuration) (past : OpPast) (p : OpPair) (answer : Answer) → IsRegistry c → IsLegalOp c (p ∷ past) → (a : AnswersIn c past p answer) → MayIssue c a.wish (session_authentication a.session) p.entry.at
answer_may_issue c past p answer registry legal a =
    let own : IsOwnSession c (p ∷ past) a.session = session_own c (p ∷ past) (session_used past p.entry.ask p.reply) a.session legal a.session_is in
    let wish = wish_parts c a.wish a.own_wish.prepared in
    record {
      registry = registry;
      client = wish.0;
      user = ltb-true a.session.user (length c.users) own.user;
      nonce = wish.1;
      sid = own.sid;
      auth_time = (let then : a.session.auth_time ≤ p.entry.at = own.auth_time in let now : p.entry.at ≤ 1099511000000 = legal.1.moment in omega arith);
      moment = legal.1.moment;
    }

-- ---- at a place of the provider

module _ (s : Site) (from : ℕ) (request : Ask) (p : OpPair) (world : World) (site : IsSite s) (legal : IsLegalWorld s (Provider from request p ∷ world)) where
  abbrev c : Configuration
  c = s.configuration

  abbrev past : OpPast
  past = op_past world

  abbrev E : TokenText → Type 0
  E = IsTokenBound c (Provider from request p ∷ world)

  -- whichever client the text is for
  token_any : (o : Option ℕ) (b : Bool) (t : Text) → (b ≡ true → (k : ℕ) → E (k, t)) → AllByRecursion E (token_if o (if_wished b t))
  token_any None true t says = tt
  token_any None false t says = tt
  token_any (Some k) true t says = (says refl k, tt)
  token_any (Some k) false t says = tt

  by_response : (answer : Answer) (given : Option Word) → p.reply ≡ op.Answered answer given → AllByRecursion E (token_if (client_of_uri c answer.redirect) answer.id)
  by_response answer given is =
      let a : AnswersIn c past p answer = answers_in c past p answer given legal.provider is in
      let who : Authentication = session_authentication a.session in
      let access : Option Word = issued_access a.wish p.entry.fresh in
      let code : Option Word = issued_code a.wish p.entry.fresh in
      let text : Text = issued_id c a.wish who p.entry.at access code in
      let may : MayIssue c a.wish who p.entry.at = answer_may_issue c past p answer site.registry legal.provider a in
      let says : a.wish.types.id_token ≡ true → (k : ℕ) → E (k, text) =
      λ wished k key y nonce read has_nonce.
      let hashes = issued_hashes c a.wish who p.entry.at access code key y may a.own_wish.value read in
      let I : Answer → Type 0 = λ z. (z.id ≡ Some text) × (y.c_hash ≡ hash_of z.code) × (y.at_hash ≡ hash_of z.access) in
      let F : Bool → Option Text = λ b. if_wished b text in
      let own : I answer = subst I a.authorizes.issued_so (ap F wished, hashes.0, hashes.1) in
      let R : OpReply → Type 0 = λ r. IsIdOf text y r in
      record { from = from; request = request; pair = p; has = inl refl; replied = subst R (sym is) own } in
      let A : Answer → Type 0 = λ z. AllByRecursion E (token_if (client_of_uri c z.redirect) z.id) in
      subst A a.authorizes.issued_so (token_any (client_of_uri c a.wish.redirect) a.wish.types.id_token text says)

  by_tokens : (grant : Grant) (access : Word) (id : Text) → p.entry.ask ≡ op_ask.Token (Ok grant) → p.reply ≡ op.Tokens access id → IsTokenBound c (Provider from request p ∷ world) (grant.client, id)
  by_tokens grant access id asked is key y nonce read has_nonce =
      let C : OpAsk → Type 0 = λ a. TokensCause c past p.entry a access id in
      let cause : TokensForCode c past p.entry grant access id = subst C asked (tokens_have_a_cause c past p.entry access id (sym legal.provider.3 ∙ is)) in
      let own : IsOwnCode c past cause.code = code_found c past p.entry.at (word_of_text grant.code) cause.code legal.provider.0 cause.held in
      let who : Authentication = code_authentication cause.code in
      let may : MayIssue c cause.code.wish who p.entry.at = may_issue c past p site.registry legal.provider cause.code own in
      let K : Text → Type 0 = λ t. id_read key t ≡ Ok y in
      let hashes = issued_hashes c cause.code.wish who p.entry.at (Some access) None key y may own.wish.value (subst K (sym cause.token) read) in
      let R : OpReply → Type 0 = λ r. IsIdOf id y r in
      record { from = from; request = request; pair = p; has = inl refl; replied = subst R (sym is) (refl, hashes.0, hashes.1) }

  ended_own : (asked : OpAsk) (session : SessionRow) → session_ended past p.entry.at asked ≡ Some session → IsOwnSession c past session
  ended_own (op_ask.SignOut (Some w)) session is =
      sessions_are_own c past legal.provider.0 w session (row_that_lives session_life session_begun p.entry.at (row_of session_name w (sessions past)) session is)
  ended_own (op_ask.SignOut None) session is = absurd (cc)
  ended_own asked session is = absurd (cc)

  by_sign_out : (o : Option SessionRow) → session_ended past p.entry.at p.entry.ask ≡ o → AllByRecursion E (logouts_written c p.entry o)
  by_sign_out None is = tt
  by_sign_out (Some session) is =
      let own : IsOwnSession c past session = ended_own p.entry.ask session is in
      let drew : IsWord (fresh_word p.entry.fresh 0) = fresh_is_word s (Provider from request p) world 0 legal (omega arith) legal.provider.1.four in
      let out : SignOut = sign_out_of p.entry session in
      let token : ℕ → TokenText = λ n. (n, issued_logout c n out) in
      let may : (n : ℕ) → Has (told_clients c session.clients) n → MayEnd c n out =
      λ n has.
      record {
        registry = site.registry;
        client = (told_is_answered c session.clients n has).1;
        user = ltb-true session.user (length c.users) own.user;
        sid = own.sid;
        word = drew;
        moment = legal.provider.1.moment;
      } in
      all_map c 0 session E token (told_clients c session.clients) (λ n has. logout_unbound c n out (Provider from request p ∷ world) (may n has))

  by_reply : (asked : OpAsk) (told : OpReply) → p.entry.ask ≡ asked → p.reply ≡ told → AllByRecursion E (op_written c past p.entry asked told)
  by_reply asked (op.Answered answer given) is so = by_response answer given so
  by_reply (op_ask.Token (Ok grant)) (op.Tokens access id) is so = (by_tokens grant access id is so, tt)
  by_reply asked (op.SignedOut messages) is so =
      let S : OpAsk → Type 0 = λ a. AllByRecursion E (logouts_written c p.entry (session_ended past p.entry.at a)) in
      subst S is (by_sign_out (session_ended past p.entry.at p.entry.ask) refl)
  by_reply asked told is so = tt

-- ---- at any place

party_bound : (s : Site) (n from : ℕ) (request : WorldAsk) (p : RpPair) (world : World) → IsSite s → IsLegalWorld s (Party n from request p ∷ world) → (told : RpReply)
    → AllByRecursion (IsTokenBound s.configuration (Party n from request p ∷ world)) (rp_written s n p.entry.fresh told)
party_bound s n from request p world site legal (rp.Ask to browser) =
    let x : Place = Party n from request p in
    let four : length p.entry.fresh ≡ 4 = (party_legal s n from request p world legal).1.four in
    object_bound s n p.entry.fresh site legal.asked.0.0 (fresh_is_word s x world 1 legal (omega arith) four) (fresh_is_word s x world 2 legal (omega arith) four) (x ∷ world)
party_bound s n from request p world site legal told = tt

place_bound : (s : Site) (x : Place) (world : World) → IsSite s → IsLegalWorld s (x ∷ world) → AllByRecursion (IsTokenBound s.configuration (x ∷ world)) (written_at s world x)
place_bound s (Provider from request p) world site legal = by_reply s from request p world site legal p.entry.ask p.reply refl refl
place_bound s (Party n from request p) world site legal = party_bound s n from request p world site legal p.reply
place_bound s Nothing world site legal = tt

pub tokens_are_bound : (s : Site) (world : World) → IsSite s → IsLegalWorld s world → AllByRecursion (IsTokenBound s.configuration world) (written s world)
tokens_are_bound s [] site legal = tt
tokens_are_bound s (x ∷ world) site legal =
    all_append (IsTokenBound s.configuration (x ∷ world)) (written_at s world x) (written s world) (place_bound s x world site legal)
    (bound_more s.configuration x world (written s world) (tokens_are_bound s world site (legal_before s x world legal)))
