-- The ID Token in a reply is for the client of the wish, and the reply that has an access token beside an ID Token is the one that gave
-- the access token.
use Rattle.std.proofs.Common.{◌≡◌, ◌<◌, ℕ, Bool, true, false, List, [], ◌∷◌, length, Option, Some, None, option_map, Ok, refl, sym, ◌∙◌, ap, subst, inl, inr, arith}
use Rattle.std.proofs.lemmas.Option.{same_Some}
use Rattle.sso_base.specs.Words.{Word, Text, IsWord, word_text, word_of_text, fresh_word}
use Rattle.sso_base.specs.declared.http.Ask.{Ask}
use Rattle.sso_base.proofs.WordTexts.{word_text_inj}
use Rattle.client_registry.specs.Configuration.{Configuration}
use Rattle.client_registry.specs.Registered.{IsRegistry}
use Rattle.client_registry.specs.Numbers.{client_id, client_sealing}
use Rattle.sso_model.specs.Lists.{Has}
use Rattle.auth_request.specs.declared.wish.Wish.{Wish}
use Rattle.auth_answer.specs.declared.answer.Answer.{Answer}
use Rattle.authorization.specs.Reached.{IsAnsweredTo, IsRedeemedBy}
use Rattle.authorization.proofs.Answering.{AnswersIn, answers_in}
use Rattle.authorization.proofs.Places.{legal_at}
use Rattle.authorization.proofs.WrittenTokens.{answer_may_issue}
use Rattle.id_token.specs.declared.claims.IdClaims.{IdClaims}
use Rattle.id_token.specs.Reading.{id_read}
use Rattle.token_endpoint.specs.declared.granting.Grant.{Grant}
use Rattle.code_grant.specs.declared.rows.SessionRow.{SessionRow}
use Rattle.op_issue.specs.declared.issuing.Authentication.{Authentication}
use Rattle.op_issue.specs.Issued.{if_wished, issued_access, issued_code}
use Rattle.op_issue.specs.IdTokens.{id_claims, issued_id}
use Rattle.op_issue.specs.Issuing.{MayIssue}
use Rattle.op_issue.proofs.Sealable.{is_read_back}
use Rattle.op_exchange.specs.declared.reply.OpReply.{OpReply}
use Rattle.op_exchange.specs.declared.reply.OpReply.TheVariants as op
use Rattle.op_exchange.specs.declared.ask.OpAsk.{OpAsk}
use Rattle.op_exchange.specs.declared.ask.OpAsk.TheVariants as op_ask
use Rattle.op_answer.specs.Past.{OpPair, OpPast}
use Rattle.op_answer.specs.Authentications.{session_authentication, code_authentication}
use Rattle.op_answer.specs.Legal.{IsLegalOp}
use Rattle.op_answer.specs.OwnRows.{IsOwnCode}
use Rattle.op_answer.specs.Causes.{TokensCause}
use Rattle.op_answer.proofs.TokenResponses.{tokens_have_a_cause}
use Rattle.sso_places.specs.Site.{Site}
use Rattle.sso_places.specs.World.{Place, Provider, Party, Nothing, World, op_past, fresh_of}
use Rattle.sso_places.specs.Legal.{IsLegalWorld}
use Rattle.sso_places.specs.Premises.{HasDistinctWords}
use Rattle.sso_places.specs.Binding.{HasAccessBeside}
use Rattle.sso_places.proofs.Places.{distinct_before, drawn_other, fresh_other, place_drawn, has_words, one_place}
use Rattle.sign_on.proofs.Pairs.{place_has}
use Rattle.sign_on.proofs.IssuedHashes.{code_found, may_issue}
use Rattle.sign_on.proofs.Bound.{IsCut, cut}
use Rattle.sign_on.proofs.Texts.{id_once}

-- ---- an answer's ID Token is for the client of the wish

module _ (c : Configuration) (past : OpPast) (p : OpPair) (answer : Answer) (registry : IsRegistry c) (legal : IsLegalOp c (p ∷ past)) (a : AnswersIn c past p answer) where
  wished : (flag : Bool) (text id : Text) → if_wished flag text ≡ Some id → text ≡ id
  wished true text id is = same_Some text id is
  wished false text id is = absurd (cc)

  -- read under whatever secret, it has the id of the client of the wish
  pub meant_for : (key id : Text) (x : IdClaims) → answer.id ≡ Some id → id_read key id ≡ Ok x → x.aud ≡ client_id c a.wish.client ∷ []
  unfolding id_claims
  meant_for key id x there read =
      let who : Authentication = session_authentication a.session in
      let access : Option Word = issued_access a.wish p.entry.fresh in
      let code : Option Word = issued_code a.wish p.entry.fresh in
      let text : Text = issued_id c a.wish who p.entry.at access code in
      let is : text ≡ id = wished a.wish.types.id_token text id (ap (λ (z : Answer). z.id) a.authorizes.issued_so ∙ there) in
      let may : MayIssue c a.wish who p.entry.at = answer_may_issue c past p answer registry legal a in
      let R : Text → Type 0 = λ t. id_read (client_sealing c a.wish.client) t ≡ Ok (id_claims c a.wish who p.entry.at access code) in
      let own : R id = subst R is (is_read_back c a.wish who p.entry.at access code may a.own_wish.value) in
      let same : id_claims c a.wish who p.entry.at access code ≡ x = id_once (client_sealing c a.wish.client) key id (id_claims c a.wish who p.entry.at access code) x own read in
      sym (ap (λ (y : IdClaims). y.aud) same)

-- ---- words that were drawn under different numbers differ

other_index : (world : World) (x y : Place) (j k : ℕ) → HasDistinctWords world → j < k → k < 4 → length (fresh_of x) ≡ 4 → length (fresh_of y) ≡ 4 → Has world x → Has world y
    → fresh_word (fresh_of x) j ≡ fresh_word (fresh_of y) k → ⊥
other_index [] x y j k distinct order low whole_x whole_y has_x has_y same = absurd has_x
other_index (z ∷ world) x y j k distinct order low whole_x whole_y (inl a) (inl b) same =
    let F : Place → Word = λ v. fresh_word (fresh_of v) j in
    let G : Place → Word = λ v. fresh_word (fresh_of v) k in
    fresh_other z world j k distinct order low (ap (λ (v : Place). length (fresh_of v)) a ∙ whole_x) (ap F a ∙ same ∙ sym (ap G b))
other_index (z ∷ world) x y j k distinct order low whole_x whole_y (inl a) (inr b) same =
    let F : Place → Word = λ v. fresh_word (fresh_of v) j in
    drawn_other z world j (fresh_word (fresh_of y) k) distinct (omega (arith, order, low)) (ap (λ (v : Place). length (fresh_of v)) a ∙ whole_x) (place_drawn world y k b low whole_y) (sym same ∙ sym (ap F a))
other_index (z ∷ world) x y j k distinct order low whole_x whole_y (inr a) (inl b) same =
    let G : Place → Word = λ v. fresh_word (fresh_of v) k in
    drawn_other z world k (fresh_word (fresh_of x) j) distinct low (ap (λ (v : Place). length (fresh_of v)) b ∙ whole_y) (place_drawn world x j a (omega (arith, order, low)) whole_x) (same ∙ sym (ap G b))
other_index (z ∷ world) x y j k distinct order low whole_x whole_y (inr a) (inr b) same =
    other_index world x y j k (distinct_before z world distinct) order low whole_x whole_y a b same

-- ---- small steps

word_wished : (flag : Bool) (v w : Word) → if_wished flag v ≡ Some w → v ≡ w
word_wished true v w is = same_Some v w is
word_wished false v w is = absurd (cc)

text_of : (o : Option Word) (t : Text) → option_map word_text o ≡ Some t → (w : Word) × (o ≡ Some w) × (word_text w ≡ t)
text_of None t is = absurd (cc)
text_of (Some w) t is = (w, refl, same_Some (word_text w) t is)

abbrev pub replied_at : Place → OpReply
replied_at (Provider from request p) = p.reply
replied_at (Party n from request p) = op.NotHere
replied_at Nothing = op.NotHere

-- an access token of an answer is the fourth word that was drawn for it, and that of a token response the first
access_drawn : (c : Configuration) (past : OpPast) (p : OpPair) (answer : Answer) (a : AnswersIn c past p answer) (w : Word) → answer.access ≡ Some w → fresh_word p.entry.fresh 3 ≡ w
access_drawn c past p answer a w is = word_wished a.wish.types.token (fresh_word p.entry.fresh 3) w (ap (λ (z : Answer). z.access) a.authorizes.issued_so ∙ is)

drawn_by : (c : Configuration) (past : OpPast) (p : OpPair) (w : Word) (id : Text) (asked : OpAsk) → TokensCause c past p.entry asked w id → fresh_word p.entry.fresh 0 ≡ w
drawn_by c past p w id (op_ask.Token (Ok grant)) cause = cause.drawn
drawn_by c past p w id asked cause = absurd cause

-- ---- the reply that has the access token beside an ID Token is the answer that gave it

module _ (s : Site) (world : World) (legal : IsLegalWorld s world) (distinct : HasDistinctWords world) (access : Word) (word : IsWord access) (browser : ℕ) (answer : Answer) (wish : Wish) (session : SessionRow)
    (answered : IsAnsweredTo s world browser answer wish session) (has_access : answer.access ≡ Some access) where
  abbrev y : Place
  y = Provider browser answered.request answered.pair

  has_y : Has world y
  has_y = place_has world answered.later answered.earlier y answered.parts

  legal_y : IsLegalWorld s (y ∷ answered.earlier)
  legal_y = legal_at s world answered.later (y ∷ answered.earlier) answered.parts legal

  pub answers : AnswersIn s.configuration (op_past answered.earlier) answered.pair answer
  answers = answers_in s.configuration (op_past answered.earlier) answered.pair answer answered.authorizes.given legal_y.provider answered.authorizes.replied

  drawn_y : fresh_word answered.pair.entry.fresh 3 ≡ access
  drawn_y = access_drawn s.configuration (op_past answered.earlier) answered.pair answer answers access has_access

  module _ (id : Text) (from : ℕ) (request : Ask) (pair : OpPair) (has_z : Has world (Provider from request pair)) where
    abbrev z : Place
    z = Provider from request pair

    at_z : IsCut world z
    at_z = cut world z has_z

    legal_z : IsLegalWorld s (z ∷ at_z.before)
    legal_z = legal_at s world at_z.after (z ∷ at_z.before) at_z.parts legal

    pub that_answer : (r : OpReply) → pair.reply ≡ r → HasAccessBeside id (word_text access) r → answer.id ≡ Some id
    that_answer (op.Answered other given) is beside =
        let there = text_of other.access (word_text access) beside.1 in
        let a : AnswersIn s.configuration (op_past at_z.before) pair other = answers_in s.configuration (op_past at_z.before) pair other given legal_z.provider is in
        let drawn_z : fresh_word pair.entry.fresh 3 ≡ there.0 = access_drawn s.configuration (op_past at_z.before) pair other a there.0 there.1 in
        let own : IsWord there.0 = subst IsWord drawn_z (has_words s world z 3 legal has_z (omega arith) legal_z.provider.1.four) in
        let same : there.0 ≡ access = word_text_inj there.0 access own word there.2 in
        let one : z ≡ y = one_place world z y 3 distinct (omega arith) legal_z.provider.1.four legal_y.provider.1.four has_z has_y (drawn_z ∙ same ∙ sym drawn_y) in
        let replies : op.Answered other given ≡ op.Answered answer answered.authorizes.given = sym is ∙ ap replied_at one ∙ answered.authorizes.replied in
        let both : other ≡ answer = cc in
        sym (ap (λ (v : Answer). v.id) both) ∙ beside.0
    that_answer (op.Tokens w text) is beside =
        let drawn_z : fresh_word pair.entry.fresh 0 ≡ w =
        drawn_by s.configuration (op_past at_z.before) pair w text pair.entry.ask (tokens_have_a_cause s.configuration (op_past at_z.before) pair.entry w text (sym legal_z.provider.3 ∙ is)) in
        let own : IsWord w = subst IsWord drawn_z (has_words s world z 0 legal has_z (omega arith) legal_z.provider.1.four) in
        let same : w ≡ access = word_text_inj w access own word beside.1 in
        absurd (other_index world z y 0 3 distinct (omega arith) (omega arith) legal_z.provider.1.four legal_y.provider.1.four has_z has_y (drawn_z ∙ same ∙ sym drawn_y))
    that_answer r is beside = absurd beside

-- ---- the same of a token response

pub meant_by : (c : Configuration) (past : OpPast) (p : OpPair) (registry : IsRegistry c) (legal : IsLegalOp c (p ∷ past)) (access : Word) (key id : Text) (x : IdClaims) (grant : Grant) (asked : OpAsk) → asked ≡ op_ask.Token (Ok grant)
    → TokensCause c past p.entry asked access id → id_read key id ≡ Ok x → (grant.client < length c.clients) × (x.aud ≡ client_id c grant.client ∷ [])
unfolding id_claims
meant_by c past p registry legal access key id x grant (op_ask.Token (Ok g)) is cause read =
    let own : IsOwnCode c past cause.code = code_found c past p.entry.at (word_of_text g.code) cause.code legal.0 cause.held in
    let issuing : MayIssue c cause.code.wish (code_authentication cause.code) p.entry.at = may_issue c past p registry legal cause.code own in
    let grants : g ≡ grant = cc in
    let clients : cause.code.wish.client ≡ grant.client = cause.own_client ∙ ap (λ (v : Grant). v.client) grants in
    let claims : IdClaims = id_claims c cause.code.wish (code_authentication cause.code) p.entry.at (Some access) None in
    let R : Text → Type 0 = λ t. id_read (client_sealing c cause.code.wish.client) t ≡ Ok claims in
    let back : R id = subst R cause.token (is_read_back c cause.code.wish (code_authentication cause.code) p.entry.at (Some access) None issuing own.wish.value) in
    let same : claims ≡ x = id_once (client_sealing c cause.code.wish.client) key id claims x back read in
    let L : ℕ → Type 0 = λ k. k < length c.clients in
    let I : ℕ → List Text = λ k. client_id c k ∷ [] in
    (subst L clients issuing.client, sym (ap (λ (v : IdClaims). v.aud) same) ∙ ap I clients)
meant_by c past p registry legal access key id x grant asked is cause read = absurd cause

module _ (s : Site) (world : World) (legal : IsLegalWorld s world) (distinct : HasDistinctWords world) (access : Word) (word : IsWord access) (redeemer : ℕ) (wish : Wish) (session : SessionRow) (by : IsRedeemedBy s world redeemer access wish session) where
  abbrev gave : Place
  gave = Provider redeemer by.request by.pair

  has_gave : Has world gave
  has_gave = place_has world by.later by.earlier gave by.parts

  pub legal_gave : IsLegalWorld s (gave ∷ by.earlier)
  legal_gave = legal_at s world by.later (gave ∷ by.earlier) by.parts legal

  pub cause_gave : TokensCause s.configuration (op_past by.earlier) by.pair.entry by.pair.entry.ask access by.id
  cause_gave = tokens_have_a_cause s.configuration (op_past by.earlier) by.pair.entry access by.id (sym legal_gave.provider.3 ∙ by.redeems.replied)

  drawn_gave : fresh_word by.pair.entry.fresh 0 ≡ access
  drawn_gave = drawn_by s.configuration (op_past by.earlier) by.pair access by.id by.pair.entry.ask cause_gave

  module _ (id : Text) (from : ℕ) (request : Ask) (pair : OpPair) (has_z : Has world (Provider from request pair)) where
    abbrev there : Place
    there = Provider from request pair

    at_there : IsCut world there
    at_there = cut world there has_z

    legal_there : IsLegalWorld s (there ∷ at_there.before)
    legal_there = legal_at s world at_there.after (there ∷ at_there.before) at_there.parts legal

    pub those_tokens : (r : OpReply) → pair.reply ≡ r → HasAccessBeside id (word_text access) r → by.id ≡ id
    those_tokens (op.Answered other given) is beside =
        let found = text_of other.access (word_text access) beside.1 in
        let a : AnswersIn s.configuration (op_past at_there.before) pair other = answers_in s.configuration (op_past at_there.before) pair other given legal_there.provider is in
        let drawn_z : fresh_word pair.entry.fresh 3 ≡ found.0 = access_drawn s.configuration (op_past at_there.before) pair other a found.0 found.1 in
        let own : IsWord found.0 = subst IsWord drawn_z (has_words s world there 3 legal has_z (omega arith) legal_there.provider.1.four) in
        let same : found.0 ≡ access = word_text_inj found.0 access own word found.2 in
        absurd (other_index world gave there 0 3 distinct (omega arith) (omega arith) legal_gave.provider.1.four legal_there.provider.1.four has_gave has_z (drawn_gave ∙ sym same ∙ sym drawn_z))
    those_tokens (op.Tokens w text) is beside =
        let drawn_z : fresh_word pair.entry.fresh 0 ≡ w =
        drawn_by s.configuration (op_past at_there.before) pair w text pair.entry.ask (tokens_have_a_cause s.configuration (op_past at_there.before) pair.entry w text (sym legal_there.provider.3 ∙ is)) in
        let own : IsWord w = subst IsWord drawn_z (has_words s world there 0 legal has_z (omega arith) legal_there.provider.1.four) in
        let same : w ≡ access = word_text_inj w access own word beside.1 in
        let one : there ≡ gave = one_place world there gave 0 distinct (omega arith) legal_there.provider.1.four legal_gave.provider.1.four has_z has_gave (drawn_z ∙ same ∙ sym drawn_gave) in
        let replies : op.Tokens w text ≡ op.Tokens access by.id = sym is ∙ ap replied_at one ∙ by.redeems.replied in
        let both : text ≡ by.id = cc in
        sym both ∙ beside.0
    those_tokens r is beside = absurd beside
