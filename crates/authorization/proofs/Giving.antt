-- Codes, token responses, access tokens and UserInfo responses rest on such answers.
use Rattle.std.proofs.Common.{◌≡◌, ℕ, List, [], ◌∷◌, ◌++◌, length, Option, Some, None, Ok, refl, sym, ◌∙◌, ap, subst, inl, inr}
use Rattle.sso_base.specs.Words.{Word, Text, word_of_text}
use Rattle.sso_base.specs.Rows.{row_of}
use Rattle.sso_base.proofs.RowLaws.{row_has_name}
use Rattle.sso_base.proofs.Histories.{earlier_is_legal}
use Rattle.held_rows.proofs.Found.{row_that_lives}
use Rattle.client_registry.specs.Configuration.{Configuration}
use Rattle.claim_set.specs.Reading.{claims_text}
use Rattle.oidc_words.specs.Lives.{code_life, access_life}
use Rattle.oidc_words.specs.declared.scopes.Scopes.{Scopes}
use Rattle.auth_request.specs.declared.wish.Wish.{Wish}
use Rattle.auth_answer.specs.declared.answer.Answer.{Answer}
use Rattle.userinfo.specs.declared.header.Bearer.TheVariants as bearer
use Rattle.userinfo.specs.Held.{info_members}
use Rattle.code_grant.specs.declared.rows.SessionRow.{SessionRow}
use Rattle.code_grant.specs.declared.rows.CodeRow.{CodeRow}
use Rattle.code_grant.specs.declared.rows.TokenRow.{TokenRow}
use Rattle.code_grant.specs.Rows.{code_name, code_begun, access_name, access_begun}
use Rattle.op_exchange.specs.declared.ask.OpAsk.{OpAsk}
use Rattle.op_exchange.specs.declared.ask.OpAsk.TheVariants as ask
use Rattle.op_exchange.specs.declared.reply.OpReply.{OpReply}
use Rattle.op_exchange.specs.declared.reply.OpReply.TheVariants as reply
use Rattle.op_exchange.specs.Replied.{code_in}
use Rattle.op_exchange.specs.Values.{IsOpAsk}
use Rattle.op_issue.specs.declared.issuing.Authentication.{Authentication}
use Rattle.op_issue.specs.IdTokens.{issued_id}
use Rattle.op_answer.specs.Past.{OpPair, OpPast}
use Rattle.op_answer.specs.Sessions.{wish_by, session_used, session_of}
use Rattle.op_answer.specs.Codes.{codes_issued, code_issued, code_made_by, code_made, code_kept, code_of, code_named, held_code}
use Rattle.op_answer.specs.AccessTokens.{accesses, access_issued, access_answered, access_redeemed, access_given, access_made, access_kept, access_token_of}
use Rattle.op_answer.specs.Authentications.{session_authentication, code_authentication}
use Rattle.op_answer.specs.Answering.{op_answer}
use Rattle.op_answer.specs.Causes.{TokensCause, InfoCause}
use Rattle.op_answer.specs.Legal.{IsLegalOp}
use Rattle.op_answer.proofs.KeptNames.{some_same, code_names, access_names}
use Rattle.op_answer.proofs.KeptRows.{code_keeps, access_keeps}
use Rattle.op_answer.proofs.EachRow.{each_row}
use Rattle.op_answer.proofs.TokenResponses.{tokens_have_a_cause}
use Rattle.op_answer.proofs.InfoResponses.{infos_have_a_cause}
use Rattle.authorization.specs.Authorized.{Authorizes, IsAuthorized, HasCode, HasAccess, Redeems, IsRedeemed, IsAccessFor, Informs}
use Rattle.authorization.specs.Laws.{GivesByRight}
use Rattle.authorization.proofs.Answering.{AnswersIn, answers_in}

-- ---- one more pair stands before those that are later

longer : (p : OpPair) (past later earlier : OpPast) (maker : OpPair) → past ≡ later ++ maker ∷ earlier → p ∷ past ≡ (p ∷ later) ++ maker ∷ earlier
longer p past later earlier maker parts = let P : OpPast → OpPast = λ q. p ∷ q in ap P parts

authorized_more : (c : Configuration) (p : OpPair) (past : OpPast) (Is : Answer → Type 0) (wish : Wish) (session : SessionRow) → IsAuthorized c past Is wish session → IsAuthorized c (p ∷ past) Is wish session
authorized_more c p past Is wish session a =
    record {
      later = p ∷ a.later;
      pair = a.pair;
      earlier = a.earlier;
      parts = longer p past a.later a.earlier a.pair a.parts;
      answer = a.answer;
      authorizes = a.authorizes;
      is_such = a.is_such;
    }

redeemed_more : (c : Configuration) (p : OpPair) (past : OpPast) (access : Word) (wish : Wish) (session : SessionRow) → IsRedeemed c past access wish session → IsRedeemed c (p ∷ past) access wish session
redeemed_more c p past access wish session a =
    record { later = p ∷ a.later; pair = a.pair; earlier = a.earlier; parts = longer p past a.later a.earlier a.pair a.parts; id = a.id; redeems = a.redeems }

access_for_more : (c : Configuration) (p : OpPair) (past : OpPast) (access : Word) (wish : Wish) (session : SessionRow) → IsAccessFor c past access wish session → IsAccessFor c (p ∷ past) access wish session
access_for_more c p past access wish session (inl a) = inl (authorized_more c p past (HasAccess access) wish session a)
access_for_more c p past access wish session (inr r) = inr (redeemed_more c p past access wish session r)

-- the pair itself has such an answer
authorized_here : (c : Configuration) (p : OpPair) (past : OpPast) (Is : Answer → Type 0) (answer : Answer) (a : AnswersIn c past p answer) → Is answer → IsAuthorized c (p ∷ past) Is a.wish a.session
authorized_here c p past Is answer a such = record { later = []; pair = p; earlier = past; parts = refl; answer = answer; authorizes = a.authorizes; is_such = such }

-- ---- codes

pub record CodeGiven (c : Configuration) (past : OpPast) (row : CodeRow) : Type 0 where
  pub session : SessionRow
  pub authorized : IsAuthorized c past (HasCode row.word) row.wish session
  pub same : code_authentication row ≡ session_authentication session

module _ (c : Configuration) where
  code_begins : (past : OpPast) (p : OpPair) (row : CodeRow) → IsLegalOp c (p ∷ past) → (told : OpReply) → p.reply ≡ told → (w : Option Word) → code_in told ≡ w
      → code_made_by (length past) p.entry.at w (wish_by past p.entry.ask) (session_of (p ∷ past) (session_used past p.entry.ask p.reply)) ≡ Some row → CodeGiven c (p ∷ past) row
  code_begins past p row legal (reply.Answered answer given) told (Some w) has made =
      let a : AnswersIn c past p answer = answers_in c past p answer given legal told in
      let M : Option Wish → Option SessionRow → Option CodeRow = λ o s. code_made_by (length past) p.entry.at (Some w) o s in
      let is : M (wish_by past p.entry.ask) (session_of (p ∷ past) (session_used past p.entry.ask p.reply)) ≡ M (Some a.wish) (Some a.session) =
      ap (λ (o : Option Wish). M o (session_of (p ∷ past) (session_used past p.entry.ask p.reply))) a.authorizes.wished ∙ ap (M (Some a.wish)) a.session_is in
      let D : CodeRow → Type 0 = λ r. CodeGiven c (p ∷ past) r in
      subst D (some_same (code_issued (length past) p.entry.at w a.wish a.session) row (sym is ∙ made))
      (record { session = a.session; authorized = authorized_here c p past (HasCode w) answer a has; same = refl })
  code_begins past p row legal told is (Some w) has made = cc
  code_begins past p row legal told is None has made = cc

  code_stays : (past : OpPast) (p : OpPair) (before row : CodeRow) → IsLegalOp c (p ∷ past) → CodeGiven c past before → code_kept past p before ≡ Some row → CodeGiven c (p ∷ past) row
  code_stays past p before row legal g h =
      let W : Word → Wish → Type 0 = λ w v. IsAuthorized c (p ∷ past) (HasCode w) v g.session in
      let V : Wish → Type 0 = λ v. W row.word v in
      let U : Word → Type 0 = λ w. W w before.wish in
      let wishes : row.wish ≡ before.wish = code_keeps (λ (r : CodeRow). r.wish) (λ r spent. refl) past p before row h in
      let now : W before.word before.wish = authorized_more c p past (HasCode before.word) before.wish g.session g.authorized in
      record {
        session = g.session;
        authorized = subst V (sym wishes) (subst U (sym (code_names past p before row h)) now);
        same = code_keeps code_authentication (λ r spent. refl) past p before row h ∙ g.same;
      }

  pub codes_are_given : (past : OpPast) → IsLegalOp c past → (w : Word) (row : CodeRow) → row_of code_name w (codes_issued past) ≡ Some row → CodeGiven c past row
  codes_are_given past legal w row h =
      each_row code_name code_made code_kept code_names c (CodeGiven c) (λ q p r l all made. code_begins q p r l p.reply refl (code_in p.reply) refl made) code_stays past legal w row h

  -- ---- token responses

  pub record RedeemsIn (past : OpPast) (p : OpPair) (access : Word) (id : Text) : Type 0 where
    pub code : CodeRow
    pub session : SessionRow
    pub code_is : code_of past (code_named p.entry.ask) ≡ Some code
    pub user_is : code.user ≡ session.user
    pub redeems : Redeems c past p access id code.wish session

  code_word : (past : OpPast) (at : ℕ) (o : Option Word) (code : CodeRow) → held_code past at o ≡ Some code → (v : Word) × (o ≡ Some v)
  code_word past at None code h = cc
  code_word past at (Some v) code h = (v, refl)

  redeems_by : (past : OpPast) (p : OpPair) (access : Word) (id : Text) → IsLegalOp c past → (asked : OpAsk) → p.entry.ask ≡ asked → p.reply ≡ reply.Tokens access id → TokensCause c past p.entry asked access id
      → RedeemsIn past p access id
  redeems_by past p access id legal (ask.Token (Ok grant)) is told t =
      let o : Option Word = word_of_text grant.code in
      let word = code_word past p.entry.at o t.code t.held in
      let found : code_of past o ≡ Some t.code = row_that_lives code_life code_begun p.entry.at (code_of past o) t.code t.held in
      let C : Option Word → Type 0 = λ v. code_of past v ≡ Some t.code in
      let row : row_of code_name word.0 (codes_issued past) ≡ Some t.code = subst C word.1 found in
      let named : t.code.word ≡ word.0 = row_has_name code_name word.0 (codes_issued past) t.code row in
      let g : CodeGiven c past t.code = codes_are_given past legal word.0 t.code row in
      let N : OpAsk → Option CodeRow = λ a. code_of past (code_named a) in
      record {
        code = t.code;
        session = g.session;
        code_is = ap N is ∙ found;
        user_is = ap (λ (who : Authentication). who.user) g.same;
        redeems =
            record {
              grant = grant;
              asked = is;
              replied = told;
              code = t.code.word;
              code_is = word.1 ∙ ap (λ (v : Word). Some v) (sym named);
              authorized = g.authorized;
              own_client = sym t.own_client;
              own_uri = sym t.own_uri;
              issued_so = ap (λ (who : Authentication). issued_id c t.code.wish who p.entry.at (Some access) None) (sym g.same) ∙ t.token;
            };
      }
  redeems_by past p access id legal asked is told t = absurd t

  pub redeems_in : (past : OpPast) (p : OpPair) (access : Word) (id : Text) → IsLegalOp c (p ∷ past) → p.reply ≡ reply.Tokens access id → RedeemsIn past p access id
  redeems_in past p access id legal is = redeems_by past p access id legal.0 p.entry.ask refl is (tokens_have_a_cause c past p.entry access id (sym legal.3 ∙ is))

  -- ---- access tokens

  pub record AccessGiven (past : OpPast) (row : TokenRow) : Type 0 where
    pub wish : Wish
    pub session : SessionRow
    pub access_for : IsAccessFor c past row.word wish session
    pub client_is : row.client ≡ wish.client
    pub user_is : row.user ≡ session.user
    pub scopes_are : row.scopes ≡ wish.scopes
    pub asked_are : row.asked ≡ wish.info_asked

  token_redeemed : (past : OpPast) (p : OpPair) (row : TokenRow) → IsLegalOp c (p ∷ past) → (grant_code : Option Word) (w : Word) (id : Text) → code_named p.entry.ask ≡ grant_code → p.reply ≡ reply.Tokens w id
      → access_redeemed (length past) p.entry.at w (code_of past grant_code) ≡ Some row → AccessGiven (p ∷ past) row
  token_redeemed past p row legal grant_code w id named told made =
      let r : RedeemsIn past p w id = redeems_in past p w id legal told in
      let M : Option CodeRow → Option TokenRow = λ o. access_redeemed (length past) p.entry.at w o in
      let N : Option Word → Option CodeRow = λ o. code_of past o in
      let is : M (code_of past grant_code) ≡ M (Some r.code) = ap M (sym (ap N named) ∙ r.code_is) in
      let D : TokenRow → Type 0 = λ t. AccessGiven (p ∷ past) t in
      subst D (some_same (access_issued (length past) p.entry.at w (Some r.code.word) r.code.wish r.code.user) row (sym is ∙ made))
      (record {
        wish = r.code.wish;
        session = r.session;
        access_for = inr (record { later = []; pair = p; earlier = past; parts = refl; id = id; redeems = r.redeems });
        client_is = refl;
        user_is = r.user_is;
        scopes_are = refl;
        asked_are = refl;
      })

  token_answered : (past : OpPast) (p : OpPair) (row : TokenRow) → IsLegalOp c (p ∷ past) → (answer : Answer) (given : Option Word) → p.reply ≡ reply.Answered answer given → (w : Option Word) → answer.access ≡ w
      → access_answered (length past) p.entry.at w (wish_by past p.entry.ask) (session_of (p ∷ past) (session_used past p.entry.ask p.reply)) ≡ Some row → AccessGiven (p ∷ past) row
  token_answered past p row legal answer given told (Some w) has made =
      let a : AnswersIn c past p answer = answers_in c past p answer given legal told in
      let M : Option Wish → Option SessionRow → Option TokenRow = λ o s. access_answered (length past) p.entry.at (Some w) o s in
      let is : M (wish_by past p.entry.ask) (session_of (p ∷ past) (session_used past p.entry.ask p.reply)) ≡ M (Some a.wish) (Some a.session) =
      ap (λ (o : Option Wish). M o (session_of (p ∷ past) (session_used past p.entry.ask p.reply))) a.authorizes.wished ∙ ap (M (Some a.wish)) a.session_is in
      let D : TokenRow → Type 0 = λ t. AccessGiven (p ∷ past) t in
      subst D (some_same (access_issued (length past) p.entry.at w None a.wish a.session.user) row (sym is ∙ made))
      (record {
        wish = a.wish;
        session = a.session;
        access_for = inl (authorized_here c p past (HasAccess w) answer a has);
        client_is = refl;
        user_is = refl;
        scopes_are = refl;
        asked_are = refl;
      })
  token_answered past p row legal answer given told None has made = cc

  token_begins : (past : OpPast) (p : OpPair) (row : TokenRow) → IsLegalOp c (p ∷ past) → (asked : OpAsk) (told : OpReply) → p.entry.ask ≡ asked → p.reply ≡ told → access_given past p asked told ≡ Some row
      → AccessGiven (p ∷ past) row
  token_begins past p row legal (ask.Token (Ok grant)) (reply.Tokens w id) is told made =
      let N : OpAsk → Option Word = λ a. code_named a in
      token_redeemed past p row legal (word_of_text grant.code) w id (ap N is) told made
  token_begins past p row legal asked (reply.Answered answer given) is told made =
      let M : OpAsk → OpReply → Option TokenRow = λ a r. access_answered (length past) p.entry.at answer.access (wish_by past a) (session_of (p ∷ past) (session_used past a r)) in
      let same : M p.entry.ask p.reply ≡ M asked (reply.Answered answer given) = ap (λ (a : OpAsk). M a p.reply) is ∙ ap (M asked) told in
      token_answered past p row legal answer given told answer.access refl (same ∙ made)
  token_begins past p row legal asked told is told_is made = cc

  token_stays : (past : OpPast) (p : OpPair) (before row : TokenRow) → IsLegalOp c (p ∷ past) → AccessGiven past before → access_kept past p before ≡ Some row → AccessGiven (p ∷ past) row
  token_stays past p before row legal g h =
      let A : Word → Type 0 = λ w. IsAccessFor c (p ∷ past) w g.wish g.session in
      let F : TokenRow → ℕ = λ r. r.client in
      let U : TokenRow → ℕ = λ r. r.user in
      let S : TokenRow → Scopes = λ r. r.scopes in
      let K : TokenRow → List Text = λ r. r.asked in
      record {
        wish = g.wish;
        session = g.session;
        access_for = subst A (sym (access_names past p before row h)) (access_for_more c p past before.word g.wish g.session g.access_for);
        client_is = access_keeps F past p before row h ∙ g.client_is;
        user_is = access_keeps U past p before row h ∙ g.user_is;
        scopes_are = access_keeps S past p before row h ∙ g.scopes_are;
        asked_are = access_keeps K past p before row h ∙ g.asked_are;
      }

  pub accesses_are_given : (past : OpPast) → IsLegalOp c past → (w : Word) (row : TokenRow) → row_of access_name w (accesses past) ≡ Some row → AccessGiven past row
  accesses_are_given past legal w row h =
      each_row access_name access_made access_kept access_names c AccessGiven (λ q p r l all made. token_begins q p r l p.entry.ask p.reply refl refl made) token_stays past legal w row h

  -- ---- UserInfo responses

  informs_by : (past : OpPast) (p : OpPair) (claims : Text) → IsLegalOp c past → (asked : OpAsk) → p.entry.ask ≡ asked → InfoCause c past p.entry asked claims
      → (wish : Wish) × (session : SessionRow) × Informs c past p claims wish session
  informs_by past p claims legal (ask.Info (bearer.Given w)) is t =
      let found : row_of access_name w (accesses past) ≡ Some t.token = row_that_lives access_life access_begun p.entry.at (access_token_of past w) t.token t.live in
      let named : t.token.word ≡ w = row_has_name access_name w (accesses past) t.token found in
      let g : AccessGiven past t.token = accesses_are_given past legal w t.token found in
      let A : Word → Type 0 = λ v. IsAccessFor c past v g.wish g.session in
      let T : ℕ → ℕ → Scopes → List Text → Text = λ k u s n. claims_text (info_members c k u s n) in
      let row : TokenRow = t.token in
      let same : T row.client row.user row.scopes row.asked ≡ T g.wish.client g.session.user g.wish.scopes g.wish.info_asked =
      ap (λ (k : ℕ). T k row.user row.scopes row.asked) g.client_is ∙ ap (λ (u : ℕ). T g.wish.client u row.scopes row.asked) g.user_is
      ∙ ap (λ (s : Scopes). T g.wish.client g.session.user s row.asked) g.scopes_are ∙ ap (T g.wish.client g.session.user g.wish.scopes) g.asked_are in
      (g.wish, g.session, record { access = w; asked = is; access_for = subst A named g.access_for; told = sym same ∙ t.claims_are })
  informs_by past p claims legal asked is t = absurd t

  pub informs_in : (past : OpPast) (p : OpPair) (claims : Text) → IsLegalOp c (p ∷ past) → p.reply ≡ reply.Info claims → (wish : Wish) × (session : SessionRow) × Informs c past p claims wish session
  informs_in past p claims legal is = informs_by past p claims legal.0 p.entry.ask refl (infos_have_a_cause c past p.entry claims (sym legal.3 ∙ is))

-- ---- anywhere in a legal past

module _ (c : Configuration) (later earlier : OpPast) (p : OpPair) (legal : IsLegalOp c (later ++ p ∷ earlier)) where
  here : IsLegalOp c (p ∷ earlier)
  here = earlier_is_legal IsOpAsk (op_answer c) later (p ∷ earlier) legal

  pub answers_authorize : (answer : Answer) (given : Option Word) → p.reply ≡ reply.Answered answer given → (wish : Wish) × (session : SessionRow) × Authorizes c earlier p answer wish session
  answers_authorize answer given is = (let a = answers_in c earlier p answer given here is in (a.wish, a.session, a.authorizes))

  pub tokens_redeem : (access : Word) (id : Text) → p.reply ≡ reply.Tokens access id → (wish : Wish) × (session : SessionRow) × Redeems c earlier p access id wish session
  tokens_redeem access id is = (let r = redeems_in c earlier p access id here is in (r.code.wish, r.session, r.redeems))

  pub infos_inform : (claims : Text) → p.reply ≡ reply.Info claims → (wish : Wish) × (session : SessionRow) × Informs c earlier p claims wish session
  infos_inform claims is = informs_in c earlier p claims here is

pub gives_by_right : (c : Configuration) (past : OpPast) → IsLegalOp c past → GivesByRight c past
gives_by_right c past legal =
    let L : OpPast → Type 0 = λ q. IsLegalOp c q in
    record {
      answers = λ later earlier p answer given parts is. answers_authorize c later earlier p (subst L parts legal) answer given is;
      tokens = λ later earlier p access id parts is. tokens_redeem c later earlier p (subst L parts legal) access id is;
      infos = λ later earlier p claims parts is. infos_inform c later earlier p (subst L parts legal) claims is;
    }
