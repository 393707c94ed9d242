-- A party that requests UserInfo with an access token that came in front is the client to which the provider gave it.
use Rattle.std.proofs.Common.{◌≡◌, ◌<◌, ℕ, Bool, true, false, cond, List, [], ◌∷◌, length, Option, Some, None, Ok, refl, sym, ◌∙◌, ap, subst, inr, Result}
use Rattle.std.specs.Str.{bytes_eq}
use Rattle.std.proofs.lemmas.Bool.{and_parts}
use Rattle.std.proofs.lemmas.Option.{same_Some}
use Rattle.sso_base.specs.Words.{Word, Text, IsWord, word_text, word_of_text}
use Rattle.sso_base.specs.Texts.{is_only}
use Rattle.sso_base.specs.declared.http.Ask.{Ask}
use Rattle.sso_base.proofs.RowLaws.{bytes_same}
use Rattle.sso_base.proofs.WordTexts.{word_of_text_some}
use Rattle.sso_base.specs.declared.message.Message.{Message}
use Rattle.client_registry.specs.declared.records.Client.{Client}
use Rattle.client_registry.specs.Records.{client_place}
use Rattle.client_registry.specs.Configuration.{Configuration}
use Rattle.client_registry.specs.Registered.{IsRegistry}
use Rattle.client_registry.specs.Numbers.{client_at, client_id, id_in, party_client}
use Rattle.client_keys.specs.Opening.{opening}
use Rattle.sso_model.specs.Lists.{Has}
use Rattle.sso_model.proofs.ListLaws.{all_has, has_append_right}
use Rattle.auth_request.specs.declared.wish.Wish.{Wish}
use Rattle.auth_answer.specs.declared.answer.Answer.{Answer}
use Rattle.authorization.specs.Reached.{IsAnsweredTo, IsRedeemedBy}
use Rattle.authorization.proofs.Answering.{AnswersIn}
use Rattle.authorization.proofs.Places.{legal_at}
use Rattle.auth_answer.specs.declared.heard.Heard.{Heard}
use Rattle.authorization.proofs.GivenTokens.{meant_for, answers, that_answer, meant_by, legal_gave, cause_gave, those_tokens}
use Rattle.authorization.proofs.WrittenTokens.{tokens_are_bound}
use Rattle.id_token.specs.declared.claims.IdClaims.{IdClaims}
use Rattle.id_token.specs.HalfHash.{half_hash_of}
use Rattle.id_token.specs.Reading.{id_read}
use Rattle.id_token.specs.Judging.{IsGoodIdToken, Meets}
use Rattle.id_token.proofs.Good.{passes_good}
use Rattle.id_token.specs.declared.no.IdNo.{IdNo}
use Rattle.token_endpoint.proofs.Clients.{place_of_client}
use Rattle.code_grant.specs.declared.rows.SessionRow.{SessionRow}
use Rattle.op_exchange.specs.Replied.{access_in}
use Rattle.op_answer.specs.Past.{OpPair}
use Rattle.rp_exchange.specs.declared.ask.RpAsk.{RpAsk}
use Rattle.rp_exchange.specs.declared.ask.RpAsk.TheVariants as ask
use Rattle.rp_exchange.specs.declared.reply.RpReply.TheVariants as rp
use Rattle.rp_request.proofs.Callbacks.{callback_opened}
use Rattle.rp_request.specs.Opened.{id_read_for}
use Rattle.rp_answer.specs.Past.{RpPair, RpPast}
use Rattle.rp_answer.specs.Setup.{PartySetup}
use Rattle.rp_answer.specs.Replies.{must_hash, front_rules}
use Rattle.rp_answer.specs.Causes.{FetchedAtOnce, FetchCause}
use Rattle.rp_answer.proofs.Answers.{fetches_have_a_cause}
use Rattle.sso_places.specs.declared.types.WorldAsk.{WorldAsk}
use Rattle.sso_places.specs.Site.{Site, IsSite, setup_at, client_of_party, types_at}
use Rattle.sso_places.specs.World.{Place, Provider, Party, World, op_past, rp_past}
use Rattle.sso_places.specs.Legal.{IsLegalWorld}
use Rattle.sso_places.specs.Premises.{HasDistinctWords, HasDistinctHashes, IsUnforged, issued_at}
use Rattle.sso_places.specs.Binding.{HasAccessBeside}
use Rattle.sso_places.specs.Tokens.{TokenText}
use Rattle.sso_places.specs.Written.{written}
use Rattle.sso_places.specs.Checked.{checked}
use Rattle.sso_places.proofs.Places.{legal_before, party_legal}
use Rattle.sign_on.proofs.AskKinds.{IsRequest, as_request}
use Rattle.sign_on.proofs.Pairs.{place_has}
use Rattle.sign_on.proofs.Registry.{get_some}
use Rattle.sign_on.proofs.IssuedHashes.{wish_parts}
use Rattle.sign_on.proofs.Bound.{IsIssued, issued_in, access_issued, same_text, IsCut, cut, access_beside, callback_checks}
use Rattle.sign_on.proofs.Entering.{ReadOf, read_of, wanted_id, unforged_from}
use Rattle.sign_on.proofs.Invariant.{HasReplied, IsTokenBound}
use Rattle.sign_on.proofs.Keys.{its_client, id_sealed_for}
use Rattle.sign_on.proofs.Shared.{was_written}

-- ---- clients by their ids

only_one : (client other : Text) → is_only client (other ∷ []) ≡ true → other ≡ client
only_one client other h = bytes_same other client (and_parts (bytes_eq other client) true h).0

one_client : (c : Configuration) (i j : ℕ) (one other : Client) → IsRegistry c → client_at c i ≡ Some one → client_at c j ≡ Some other → other.id ≡ one.id → i ≡ j
one_client c i j one other registry first second same =
    let P : Text → Option ℕ = λ t. client_place t c.clients in
    same_Some i j (sym (place_of_client c.clients i one registry.client_ids first) ∙ ap P (sym same) ∙ place_of_client c.clients j other registry.client_ids second)

front_some : (wanted : Bool) (o : Option Text) (t : Text) → cond wanted o None ≡ Some t → o ≡ Some t
front_some true o t is = is
front_some false o t is = absurd (cc)

-- ---- what a party verified beside the access token

-- a party requests UserInfo with an access token that a browser brought it
pub record FetchesInFront (pair : RpPair) (access : Word) : Type 0 where
  pub heard : Heard
  pub read : Option (Result IdClaims IdNo)
  pub browser : Option Word
  pub asked : pair.entry.ask ≡ ask.Callback (Ok heard) read browser
  pub text : Text
  pub text_is : heard.access ≡ Some text
  pub access_is : word_of_text text ≡ Some access
  pub word : Word
  pub message : Message
  pub replied : pair.reply ≡ rp.Fetch word message

record IsJudgedBeside (s : Site) (world : World) (n : ℕ) (access : Word) : Type 0 where
  word : IsWord access
  mine : n < length s.configuration.parties
  id : Text
  claims : IdClaims
  read : id_read_for (party_client s.configuration n) id ≡ Ok claims
  only : is_only (party_client s.configuration n).id claims.aud ≡ true
  from : ℕ
  request : Ask
  pair : OpPair
  has : Has world (Provider from request pair)
  beside : HasAccessBeside id (word_text access) pair.reply

module _ (s : Site) (world : World) (site : IsSite s) (legal : IsLegalWorld s world) (distinct : HasDistinctWords world) (unforged : IsUnforged s world) (hashes : HasDistinctHashes world) where
  -- an ID Token that a party reads was in a reply
  pub was_in_reply : (n : ℕ) (y : Place) (at : IsCut world y) (id : Text) (claims : IdClaims) (nonce : Text) → n < length s.configuration.parties → Has (checked s y) (client_of_party s n, id)
      → id_read_for (party_client s.configuration n) id ≡ Ok claims → claims.nonce ≡ Some nonce → HasReplied at.before id claims
  was_in_reply n y at id claims nonce mine checks read is =
      let c : Configuration = s.configuration in
      let U : World → Type 0 = λ w. IsUnforged s w in
      let clean : IsUnforged s (y ∷ at.before) = unforged_from s at.after (y ∷ at.before) (subst U at.parts unforged) in
      let older : IsLegalWorld s at.before = legal_before s y at.before (legal_at s world at.after (y ∷ at.before) at.parts legal) in
      let t : TokenText = (client_of_party s n, id) in
      let wrote : Has (written s at.before) t = was_written s at.before y t clean.1 checks (id_sealed_for c n id claims site.registry mine read) in
      all_has (IsTokenBound c at.before) (written s at.before) t (tokens_are_bound s at.before site older) wrote (opening (party_client c n) id) claims nonce read is

  judged_beside : (n from : ℕ) (brought : WorldAsk) (pair : RpPair) (access : Word) (giver : Place) → Has world (Party n from brought pair) → FetchesInFront pair access → Has world giver → Has (issued_at giver) access
      → IsJudgedBeside s world n access
  judged_beside n from brought pair access giver has f gave gives =
      let c : Configuration = s.configuration in
      let q : Place = Party n from brought pair in
      let at : IsCut world q = cut world q has in
      let legal_q : IsLegalWorld s (q ∷ at.before) = legal_at s world at.after (q ∷ at.before) at.parts legal in
      let mine : n < length c.parties = legal_q.asked.0.0 in
      let own = party_legal s n from brought pair at.before legal_q in
      let setup : PartySetup = setup_at s n in
      let past : RpPast = rp_past n at.before in
      let C : RpAsk → Type 0 = λ a. FetchCause setup past pair.entry a f.word f.message in
      let cause : FetchedAtOnce setup past pair.entry f.heard f.read f.browser f.word f.message = subst C f.asked (fetches_have_a_cause setup past pair.entry f.word f.message (sym own.3 ∙ f.replied)) in
      let x : IdClaims = cause.claims in
      let read_is : f.read ≡ Some (Ok x) = wanted_id (types_at s n).id_token f.read x cause.accepted.read in
      let good : IsGoodIdToken (front_rules setup cause.login f.heard) x pair.entry.at = passes_good (front_rules setup cause.login f.heard) x pair.entry.at cause.accepted.judged in
      let heard_is : f.heard.access ≡ Some cause.access = front_some (types_at s n).token f.heard.access cause.access cause.access_is in
      let texts : cause.access ≡ f.text = same_Some cause.access f.text (sym heard_is ∙ f.text_is) in
      let word = word_of_text_some f.text access f.access_is in
      let spelled : cause.access ≡ word_text access = texts ∙ word.0 in
      let came : IsRequest c n brought (ask.Callback (Ok f.heard) f.read f.browser) = as_request c n brought (ask.Callback (Ok f.heard) f.read f.browser) (sym f.asked ∙ legal_q.asked.0.1) refl in
      let text : ReadOf (party_client c n) f.heard.id x = read_of (party_client c n) f.heard.id f.read x (callback_opened c n came.request f.heard f.read f.browser came.asked_is) read_is in
      let M : Option Text → Type 0 = λ o. Meets (must_hash o) x.at_hash in
      let hash : x.at_hash ≡ Some (half_hash_of cause.access) = subst M cause.access_is good.token in
      let H : Text → Type 0 = λ t. x.at_hash ≡ Some (half_hash_of t) in
      let replied : HasReplied at.before text.text x =
      was_in_reply n q at text.text x (word_text cause.login.nonce) mine (callback_checks s n from brought pair f.heard f.read f.browser text.text f.asked text.there) text.read good.nonce in
      let z : Place = Provider replied.from replied.request replied.pair in
      let W : World → Type 0 = λ w. Has w z in
      let has_z : Has world z = subst W (sym at.parts) (has_append_right at.after (q ∷ at.before) z (inr replied.has)) in
      let issued_is : IsIssued world (word_text access) = record { word = access; has = issued_in world giver access gave gives; is = refl } in
      record {
        word = word.1;
        mine = mine;
        id = text.text;
        claims = x;
        read = text.read;
        only = good.for_client;
        from = replied.from;
        request = replied.request;
        pair = replied.pair;
        has = has_z;
        beside =
            access_beside text.text (word_text access) x replied.pair.reply (subst H spelled hash) replied.replied
            (λ w is digests. same_text world (word_text access) w hashes issued_is (issued_in world z w has_z (access_issued replied.from replied.request replied.pair w is)) digests);
      }

  -- a party whose ID Token is for a client is this client
  client_by : (n : ℕ) (access : Word) → (j : IsJudgedBeside s world n access) → (k : ℕ) → k < length s.configuration.clients → j.claims.aud ≡ client_id s.configuration k ∷ [] → client_of_party s n ≡ k
  client_by n access j k low aud =
      let c : Configuration = s.configuration in
      let client = get_some c.clients k low in
      let A : List Text → Type 0 = λ ids. is_only (party_client c n).id ids ≡ true in
      let only : client_id c k ≡ (party_client c n).id = only_one (party_client c n).id (client_id c k) (subst A aud j.only) in
      let I : Option Client → Text = λ o. id_in o in
      let ids : client.0.id ≡ (party_client c n).id = sym (ap I client.1) ∙ only in
      one_client c (client_of_party s n) k (party_client c n) client.0 site.registry (its_client c n site.registry j.mine) client.1 ids

  -- ---- the law

  pub party_is_client : (n from browser : ℕ) (brought : WorldAsk) (pair : RpPair) (access : Word) (answer : Answer) (wish : Wish) (session : SessionRow) → Has world (Party n from brought pair) → FetchesInFront pair access
      → IsAnsweredTo s world browser answer wish session → answer.access ≡ Some access → client_of_party s n ≡ wish.client
  party_is_client n from browser brought pair access answer wish session has f answered has_access =
      let c : Configuration = s.configuration in
      let y : Place = Provider browser answered.request answered.pair in
      let gave : Has world y = place_has world answered.later answered.earlier y answered.parts in
      let gives : Has (issued_at y) access = access_issued browser answered.request answered.pair access (ap access_in answered.authorizes.replied ∙ has_access) in
      let j : IsJudgedBeside s world n access = judged_beside n from brought pair access y has f gave gives in
      let id_is : answer.id ≡ Some j.id = that_answer s world legal distinct access j.word browser answer wish session answered has_access j.id j.from j.request j.pair j.has j.pair.reply refl j.beside in
      let a : AnswersIn c (op_past answered.earlier) answered.pair answer = answers s world legal distinct access j.word browser answer wish session answered has_access in
      let older : IsLegalWorld s (y ∷ answered.earlier) = legal_at s world answered.later (y ∷ answered.earlier) answered.parts legal in
      let aud : j.claims.aud ≡ client_id c a.wish.client ∷ [] =
      meant_for c (op_past answered.earlier) answered.pair answer site.registry older.provider a (opening (party_client c n) j.id) j.id j.claims id_is j.read in
      let wishes : a.wish ≡ wish = same_Some a.wish wish (sym a.authorizes.wished ∙ answered.authorizes.wished) in
      client_by n access j a.wish.client (wish_parts c a.wish a.own_wish.prepared).0 aud ∙ ap (λ (w : Wish). w.client) wishes

  pub party_is_redeeming_client : (n from redeemer : ℕ) (brought : WorldAsk) (pair : RpPair) (access : Word) (wish : Wish) (session : SessionRow) → Has world (Party n from brought pair) → FetchesInFront pair access
      → IsRedeemedBy s world redeemer access wish session → client_of_party s n ≡ wish.client
  party_is_redeeming_client n from redeemer brought pair access wish session has f by =
      let c : Configuration = s.configuration in
      let y : Place = Provider redeemer by.request by.pair in
      let gave : Has world y = place_has world by.later by.earlier y by.parts in
      let gives : Has (issued_at y) access = access_issued redeemer by.request by.pair access (ap access_in by.redeems.replied) in
      let j : IsJudgedBeside s world n access = judged_beside n from brought pair access y has f gave gives in
      let id_is : by.id ≡ j.id = those_tokens s world legal distinct access j.word redeemer wish session by j.id j.from j.request j.pair j.has j.pair.reply refl j.beside in
      let older : IsLegalWorld s (y ∷ by.earlier) = legal_gave s world legal distinct access j.word redeemer wish session by in
      let key : Text = opening (party_client c n) j.id in
      let R : Text → Type 0 = λ t. id_read key t ≡ Ok j.claims in
      let meant =
      meant_by c (op_past by.earlier) by.pair site.registry older.provider access key by.id j.claims by.redeems.grant by.pair.entry.ask by.redeems.asked
      (cause_gave s world legal distinct access j.word redeemer wish session by) (subst R (sym id_is) j.read) in
      client_by n access j by.redeems.grant.client meant.0 meant.1 ∙ by.redeems.own_client
