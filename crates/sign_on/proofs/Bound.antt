-- Codes and access tokens are bound to the ID Tokens with which a party received them.
use Rattle.std.proofs.Common.{◌≡◌, ℕ, ◌<◌, Bool, true, false, [], ◌∷◌, ◌++◌, length, Option, Some, None, is_some, option_map, Result, Ok, Err, refl, sym, ap, ◌∙◌, subst, inl, inr}
use Rattle.std.proofs.lemmas.Option.{same_Some}
use Rattle.std.specs.Prelude.{IfSome, ◌⊎◌}
use Rattle.sso_base.specs.Words.{Word, Text, word_text, word_of_text}
use Rattle.sso_base.specs.Rows.{row_of}
use Rattle.sso_base.specs.declared.http.Ask.{Ask}
use Rattle.sso_base.specs.declared.message.Message.{Message}
use Rattle.sso_base.proofs.WordTexts.{word_of_text_some}
use Rattle.sso_model.specs.Lists.{Has}
use Rattle.sso_model.proofs.ListLaws.{all_has, has_append_left, has_append_right}
use Rattle.oidc_words.specs.Lives.{code_life, access_life}
use Rattle.client_registry.specs.Configuration.{Configuration}
use Rattle.client_registry.specs.declared.records.Client.{Client}
use Rattle.client_registry.specs.Numbers.{party_client}
use Rattle.code_grant.specs.declared.rows.CodeRow.{CodeRow}
use Rattle.code_grant.specs.declared.rows.TokenRow.{TokenRow}
use Rattle.code_grant.specs.Rows.{code_name, code_begun, access_name, access_begun}
use Rattle.id_token.specs.declared.claims.IdClaims.{IdClaims}
use Rattle.id_token.specs.declared.no.IdNo.{IdNo}
use Rattle.id_token.specs.declared.rules.IdRules.{IdRules}
use Rattle.id_token.specs.HalfHash.{half_hash_of}
use Rattle.id_token.specs.Judging.{IsGoodIdToken, Meets}
use Rattle.id_token.proofs.Good.{passes_good}
use Rattle.auth_answer.specs.declared.heard.Heard.{Heard}
use Rattle.token_endpoint.specs.declared.reading.Tokens.{Tokens as ComeTokens}
use Rattle.op_issue.specs.IdTokens.{hash_of}
use Rattle.op_exchange.specs.declared.ask.OpAsk.{OpAsk}
use Rattle.op_exchange.specs.declared.reply.OpReply.{OpReply}
use Rattle.op_exchange.specs.declared.reply.OpReply.TheVariants as op
use Rattle.op_exchange.specs.Replied.{code_in, access_in}
use Rattle.op_answer.specs.Past.{OpPair, OpPast}
use Rattle.op_answer.specs.Codes.{codes_issued, held_code}
use Rattle.op_answer.specs.AccessTokens.{accesses}
use Rattle.op_answer.specs.Causes.{TokensForCode, TokensCause, InfoForToken, InfoCause}
use Rattle.op_answer.specs.Drawn.{CodeDrawn, InResponse, ForCode, AccessDrawn}
use Rattle.op_answer.proofs.TokenResponses.{tokens_have_a_cause}
use Rattle.op_answer.proofs.InfoResponses.{infos_have_a_cause}
use Rattle.op_answer.proofs.Drawn.{codes_are_drawn, accesses_are_drawn}
use Rattle.rp_exchange.specs.declared.ask.RpAsk.{RpAsk}
use Rattle.rp_exchange.specs.declared.ask.RpAsk.TheVariants as ask
use Rattle.client_keys.specs.Opening.{opening}
use Rattle.rp_request.specs.Opened.{id_read_for}
use Rattle.rp_request.specs.Requests.{IsOpened}
use Rattle.rp_request.proofs.Callbacks.{callback_opened}
use Rattle.rp_request.proofs.TokenAnswers.{tokens_opened}
use Rattle.rp_answer.specs.Past.{RpPair, RpPast}
use Rattle.rp_answer.specs.Setup.{PartySetup}
use Rattle.rp_answer.specs.Asked.{if_wanted, claims_read, claims_judged}
use Rattle.rp_answer.specs.Replies.{must_hash, front_code, front_rules, back_rules}
use Rattle.rp_answer.specs.Causes.{IfGood, CodeExchanged, ExchangeCause, FetchCause}
use Rattle.rp_answer.proofs.Answers.{exchanges_have_a_cause, fetches_have_a_cause}
use Rattle.sso_places.specs.declared.types.WorldAsk.{WorldAsk}
use Rattle.sso_places.specs.Site.{Site, IsSite, setup_at, client_of_party, types_at}
use Rattle.sso_places.specs.World.{Place, Provider, Party, World, op_past, rp_past}
use Rattle.sso_places.specs.Legal.{IsLegalWorld, party_prepared}
use Rattle.sso_places.specs.Cookies.{words_in}
use Rattle.sso_places.specs.Tokens.{TokenText, token_if}
use Rattle.sso_places.specs.Written.{written}
use Rattle.sso_places.specs.Checked.{rp_checked, checked}
use Rattle.sso_places.specs.Premises.{HasDistinctWords, HasDistinctHashes, IsUnleaked, IsUnforged, IsJoined, forges, issued_at, issued, half_digest}
use Rattle.sso_places.specs.Binding.{HasCodeBeside, HasAccessBeside, IsRedeemed, CodesAreBound, CameTogether, IsInformed, AccessTokensAreBound, IsBound}
use Rattle.sign_on.proofs.Lists.{row_of-has, lives_some}
use Rattle.sign_on.proofs.Invariant.{IsIdOf, HasReplied, IsTokenBound, IsKept}
use Rattle.sso_places.proofs.Places.{party_legal, legal_before, legal_from, distinct_before, distinct_from, unleaked_from}
use Rattle.sign_on.proofs.Shared.{was_written}
use Rattle.sign_on.proofs.Keys.{id_sealed_for}
use Rattle.sign_on.proofs.AskKinds.{IsRequest, as_request, IsTokens, as_tokens}
use Rattle.sign_on.proofs.OpSessions.{IsOpPlace, op_pair_place}
use Rattle.sign_on.proofs.Pairs.{joined_before, joined_from}
use Rattle.sign_on.proofs.Entering.{ReadOf, read_of, wanted_id, unforged_from}
use Rattle.sign_on.proofs.Agreeing.{agrees}

-- ---- words that were issued

-- a word with this text was issued
pub record IsIssued (world : World) (text : Text) : Type 0 where
  pub word : Word
  pub has : Has (issued world) word
  pub is : word_text word ≡ text

pub issued_in : (world : World) (y : Place) (w : Word) → Has world y → Has (issued_at y) w → Has (issued world) w
issued_in [] y w has has_w = absurd has
issued_in (x ∷ world) y w (inl same) has_w =
    let H : Place → Type 0 = λ z. Has (issued_at z) w in
    has_append_left (issued_at x) (issued world) w (subst H (sym same) has_w)
issued_in (x ∷ world) y w (inr has) has_w = has_append_right (issued_at x) (issued world) w (issued_in world y w has has_w)

-- the code of a reply, and its access token
code_issued : (from : ℕ) (request : Ask) (p : OpPair) (w : Word) → code_in p.reply ≡ Some w → Has (issued_at (Provider from request p)) w
code_issued from request p w is =
    let H : Option Word → Type 0 = λ o. Has (words_in o ++ words_in (access_in p.reply)) w in
    subst H (sym is) (inl refl)

pub access_issued : (from : ℕ) (request : Ask) (p : OpPair) (w : Word) → access_in p.reply ≡ Some w → Has (issued_at (Provider from request p)) w
access_issued from request p w is =
    let H : Option Word → Type 0 = λ o. Has (words_in o) w in
    has_append_right (words_in (code_in p.reply)) (words_in (access_in p.reply)) w (subst H (sym is) (inl refl))

-- what has the half digest of an issued text is that text
pub same_text : (world : World) (text : Text) (w : Word) → HasDistinctHashes world → IsIssued world text → Has (issued world) w → half_hash_of (word_text w) ≡ half_hash_of text → word_text w ≡ text
same_text world text w distinct v has hash =
    let digests : half_digest w ≡ half_digest v.word = hash ∙ ap (λ (t : Text). half_hash_of t) (sym v.is) in
    ap (λ (z : Word). word_text z) (distinct w v.word has v.has digests) ∙ v.is

-- ---- places and what was before them

pub record IsCut (world : World) (y : Place) : Type 0 where
  pub after : World
  pub before : World
  pub parts : world ≡ after ++ y ∷ before

pub cut : (world : World) (y : Place) → Has world y → IsCut world y
cut [] y has = absurd has
cut (x ∷ world) y (inl same) = record { after = []; before = world; parts = ap (λ (z : Place). z ∷ world) same }
cut (x ∷ world) y (inr has) =
    let old : IsCut world y = cut world y has in
    record { after = x ∷ old.after; before = old.before; parts = ap (λ (zs : World). x ∷ zs) old.parts }

has_before : (world after before : World) (y : Place) → world ≡ after ++ before → Has before y → Has world y
has_before world after before y is has =
    let H : World → Type 0 = λ z. Has z y in
    subst H (sym is) (has_append_right after before y has)

-- ---- what the provider answers for was issued

code_of_text : (past : OpPast) (at : ℕ) (o : Option Word) (row : CodeRow) → held_code past at o ≡ Some row → (w : Word) × (o ≡ Some w) × (row_of code_name w (codes_issued past) ≡ Some row)
code_of_text past at None row h = absurd (cc)
code_of_text past at (Some w) row h = (w, refl, lives_some code_life code_begun at (row_of code_name w (codes_issued past)) row h)

code_was_issued : (s : Site) (world : World) (code : Text) → IsLegalWorld s world → IsRedeemed world code → IsIssued world code
code_was_issued s world code legal r =
    let c : Configuration = s.configuration in
    let y : Place = Provider r.from r.request r.pair in
    let t : IsCut world y = cut world y r.has in
    let L : World → Type 0 = λ z. IsLegalWorld s z in
    let legal_y : IsLegalWorld s (y ∷ t.before) = legal_from s t.after (y ∷ t.before) (subst L t.parts legal) in
    let past : OpPast = op_past t.before in
    let C : OpAsk → Type 0 = λ a. TokensCause c past r.pair.entry a r.access r.id in
    let cause : TokensForCode c past r.pair.entry r.grant r.access r.id =
    subst C r.asked (tokens_have_a_cause c past r.pair.entry r.access r.id (sym legal_y.provider.3 ∙ r.replied)) in
    let named = code_of_text past r.pair.entry.at (word_of_text r.grant.code) cause.code cause.held in
    let row : CodeRow = cause.code in
    let drawn : CodeDrawn past row = codes_are_drawn c past legal_y.provider.0 named.0 row named.2 in
    let name : row.word ≡ named.0 = (row_of-has code_name named.0 (codes_issued past) row named.2).1 in
    let place : IsOpPlace t.before drawn.maker drawn.earlier = op_pair_place t.before drawn.later drawn.maker drawn.earlier drawn.parts in
    let z : Place = Provider place.from place.request drawn.maker in
    let has_code : code_in drawn.maker.reply ≡ Some row.word = ap code_in drawn.replied ∙ drawn.code_is in
    record {
      word = row.word;
      has = issued_in world z row.word (has_before world t.after (y ∷ t.before) z t.parts (inr place.has)) (code_issued place.from place.request drawn.maker row.word has_code);
      is = ap (λ (w : Word). word_text w) name ∙ sym (word_of_text_some r.grant.code named.0 named.1).0 ∙ r.code_is;
    }

access_came : (earlier : OpPast) (maker : OpPair) (row : TokenRow) → InResponse earlier maker row ⊎ ForCode earlier maker row → access_in maker.reply ≡ Some row.word
access_came earlier maker row (inl r) = ap access_in r.replied ∙ r.access_is
access_came earlier maker row (inr r) = ap access_in r.replied

access_was_issued : (s : Site) (world : World) (access : Text) → IsLegalWorld s world → IsInformed world access → IsIssued world access
access_was_issued s world access legal r =
    let c : Configuration = s.configuration in
    let y : Place = Provider r.from r.request r.pair in
    let t : IsCut world y = cut world y r.has in
    let L : World → Type 0 = λ z. IsLegalWorld s z in
    let legal_y : IsLegalWorld s (y ∷ t.before) = legal_from s t.after (y ∷ t.before) (subst L t.parts legal) in
    let past : OpPast = op_past t.before in
    let C : OpAsk → Type 0 = λ a. InfoCause c past r.pair.entry a r.claims in
    let cause : InfoForToken c past r.pair.entry r.w r.claims = subst C r.asked (infos_have_a_cause c past r.pair.entry r.claims (sym legal_y.provider.3 ∙ r.replied)) in
    let row : TokenRow = cause.token in
    let found : row_of access_name r.w (accesses past) ≡ Some row = lives_some access_life access_begun r.pair.entry.at (row_of access_name r.w (accesses past)) row cause.live in
    let drawn : AccessDrawn past row = accesses_are_drawn c past legal_y.provider.0 r.w row found in
    let name : row.word ≡ r.w = (row_of-has access_name r.w (accesses past) row found).1 in
    let place : IsOpPlace t.before drawn.maker drawn.earlier = op_pair_place t.before drawn.later drawn.maker drawn.earlier drawn.parts in
    let z : Place = Provider place.from place.request drawn.maker in
    record {
      word = row.word;
      has =
          issued_in world z row.word (has_before world t.after (y ∷ t.before) z t.parts (inr place.has))
          (access_issued place.from place.request drawn.maker row.word (access_came drawn.earlier drawn.maker row drawn.came));
      is = ap (λ (w : Word). word_text w) name ∙ r.access_is;
    }

-- ---- a reply with the ID Token that has the half hash also has the word

hashed : (o : Option Word) (text : Text) → hash_of o ≡ Some (half_hash_of text) → ((w : Word) → o ≡ Some w → half_hash_of (word_text w) ≡ half_hash_of text → word_text w ≡ text) → option_map word_text o ≡ Some text
hashed None text h same = absurd (cc)
hashed (Some w) text h same = ap (λ (t : Text). Some t) (same w refl (same_Some (half_hash_of (word_text w)) (half_hash_of text) h))

code_beside : (id code : Text) (x : IdClaims) (reply : OpReply) → x.c_hash ≡ Some (half_hash_of code) → IsIdOf id x reply
    → ((w : Word) → code_in reply ≡ Some w → half_hash_of (word_text w) ≡ half_hash_of code → word_text w ≡ code) → HasCodeBeside id code reply
code_beside id code x (op.Answered answer given) hash is same = (is.0, hashed answer.code code (sym is.1 ∙ hash) same)
code_beside id code x (op.Tokens access text) hash is same = (let never : None ≡ Some (half_hash_of code) = sym is.1 ∙ hash in absurd (cc))
code_beside id code x reply hash is same = absurd is

pub access_beside : (id access : Text) (x : IdClaims) (reply : OpReply) → x.at_hash ≡ Some (half_hash_of access) → IsIdOf id x reply
    → ((w : Word) → access_in reply ≡ Some w → half_hash_of (word_text w) ≡ half_hash_of access → word_text w ≡ access) → HasAccessBeside id access reply
access_beside id access x (op.Answered answer given) hash is same = (is.0, hashed answer.access access (sym is.2 ∙ hash) same)
access_beside id access x (op.Tokens w text) hash is same = (is.0, same w refl (same_Some (half_hash_of (word_text w)) (half_hash_of access) (sym is.2 ∙ hash)))
access_beside id access x reply hash is same = absurd is

-- ---- a place of a party, and the ID Token that it checks

record Stands (s : Site) (y : Place) (earlier : World) : Type 0 where
  legal : IsLegalWorld s (y ∷ earlier)
  clean : forges s earlier y ≡ false
  kept : IsKept s earlier

stands : (s : Site) (world later earlier : World) (y : Place) → IsSite s → IsLegalWorld s world → HasDistinctWords world → IsUnleaked world → IsUnforged s world → IsJoined world → world ≡ later ++ y ∷ earlier → Stands s y earlier
stands s world later earlier y site legal distinct unleaked unforged joined parts =
    let whole : World = y ∷ earlier in
    let L : World → Type 0 = λ z. IsLegalWorld s z in
    let D : World → Type 0 = λ z. HasDistinctWords z in
    let U : World → Type 0 = λ z. IsUnleaked z in
    let F : World → Type 0 = λ z. IsUnforged s z in
    let J : World → Type 0 = λ z. IsJoined z in
    let legal_y : IsLegalWorld s whole = legal_from s later whole (subst L parts legal) in
    let distinct_y : HasDistinctWords whole = distinct_from later whole (subst D parts distinct) in
    let unleaked_y : IsUnleaked whole = unleaked_from later whole (subst U parts unleaked) in
    let unforged_y : IsUnforged s whole = unforged_from s later whole (subst F parts unforged) in
    let joined_y : IsJoined whole = joined_from later whole (subst J parts joined) in
    record { legal = legal_y; clean = unforged_y.1; kept = agrees s earlier site (legal_before s y earlier legal_y) (distinct_before y earlier distinct_y) unleaked_y.0 unforged_y.0 (joined_before y earlier joined_y) }

-- that ID Token was in a reply
was_replied : (s : Site) (n : ℕ) (y : Place) (earlier : World) (id : Text) (claims : IdClaims) (nonce : Text) → IsSite s → n < length s.configuration.parties → Stands s y earlier → Has (checked s y) (client_of_party s n, id)
    → id_read_for (party_client s.configuration n) id ≡ Ok claims → claims.nonce ≡ Some nonce → HasReplied earlier id claims
was_replied s n y earlier id claims given site mine st checks read is =
    let c : Configuration = s.configuration in
    let t : TokenText = (client_of_party s n, id) in
    let wrote : Has (written s earlier) t = was_written s earlier y t st.clean checks (id_sealed_for c n id claims site.registry mine read) in
    all_has (IsTokenBound c earlier) (written s earlier) t st.kept.holds.bound wrote (opening (party_client c n) id) claims given read is

pub callback_checks : (s : Site) (n from : ℕ) (request : WorldAsk) (p : RpPair) (heard : Heard) (read : Option (Result IdClaims IdNo)) (browser : Option Word) (id : Text) → p.entry.ask ≡ ask.Callback (Ok heard) read browser → heard.id ≡ Some id
    → Has (checked s (Party n from request p)) (client_of_party s n, id)
callback_checks s n from request p heard read browser id callback id_is =
    let client : ℕ = client_of_party s n in
    let T : Option Text → Type 0 = λ o. Has {A = TokenText} (token_if (Some client) o) (client, id) in
    let A : RpAsk → Type 0 = λ a. Has {A = TokenText} (rp_checked client request a) (client, id) in
    subst A (sym callback) (subst T (sym id_is) (inl refl))

pub callback_reads : (s : Site) (n : ℕ) (request : WorldAsk) (asked : RpAsk) (heard : Heard) (read : Option (Result IdClaims IdNo)) (browser : Option Word) (id : Text) (claims : IdClaims)
    → asked ≡ ask.Callback (Ok heard) read browser → asked ≡ party_prepared s.configuration n request → heard.id ≡ Some id → read ≡ Some (Ok claims) → id_read_for (party_client s.configuration n) id ≡ Ok claims
callback_reads s n request asked heard read browser id claims callback prepared id_is is =
    let c : Configuration = s.configuration in
    let came : IsRequest c n request (ask.Callback (Ok heard) read browser) = as_request c n request (ask.Callback (Ok heard) read browser) (sym callback ∙ prepared) refl in
    let text : ReadOf (party_client c n) heard.id claims = read_of (party_client c n) heard.id read claims (callback_opened c n came.request heard read browser came.asked_is) is in
    let T : Text → Type 0 = λ t. id_read_for (party_client c n) t ≡ Ok claims in
    subst T (same_Some text.text id (sym text.there ∙ id_is)) text.read

tokens_checks : (s : Site) (n from : ℕ) (request : WorldAsk) (p : RpPair) (pending : Word) (came : ComeTokens) (read : Option (Result IdClaims IdNo)) → p.entry.ask ≡ ask.Tokens pending (Ok came) read
    → Has (checked s (Party n from request p)) (client_of_party s n, came.id)
tokens_checks s n from request p pending came read tokens =
    let client : ℕ = client_of_party s n in
    let A : RpAsk → Type 0 = λ a. Has {A = TokenText} (rp_checked client request a) (client, came.id) in
    subst A (sym tokens) (inl refl)

tokens_reads : (s : Site) (n : ℕ) (request : WorldAsk) (asked : RpAsk) (pending : Word) (came : ComeTokens) (read : Option (Result IdClaims IdNo)) (claims : IdClaims)
    → asked ≡ ask.Tokens pending (Ok came) read → asked ≡ party_prepared s.configuration n request → read ≡ Some (Ok claims) → id_read_for (party_client s.configuration n) came.id ≡ Ok claims
tokens_reads s n request asked pending came read claims tokens prepared is =
    let c : Configuration = s.configuration in
    let answer : IsTokens c n request (ask.Tokens pending (Ok came) read) pending = as_tokens c n request pending (Ok came) read (sym tokens ∙ prepared) in
    let text : ReadOf (party_client c n) (Some came.id) claims = read_of (party_client c n) (Some came.id) read claims (tokens_opened c n pending answer.answer pending came read answer.asked_is) is in
    let T : Text → Type 0 = λ t. id_read_for (party_client c n) t ≡ Ok claims in
    subst T (sym (same_Some came.id text.text text.there)) text.read

-- ---- codes

-- the ID Token of a response was read and verified
record IsJudged (rules : IdRules) (at : ℕ) (read : Option (Result IdClaims IdNo)) : Type 0 where
  claims : IdClaims
  is : read ≡ Some (Ok claims)
  good : IsGoodIdToken rules claims at

judged_by : (client : Client) (rules : IdRules) (at : ℕ) (wanted : Bool) (o : Option Text) (id : Text) (read : Option (Result IdClaims IdNo)) → IsOpened client o read → o ≡ Some id → wanted ≡ true → IfGood rules at (if_wanted wanted read) → IsJudged rules at read
judged_by client rules at wanted None id read opened is wants good = absurd (cc)
judged_by client rules at wanted (Some text) id None opened is wants good = absurd opened
judged_by client rules at wanted (Some text) id (Some (Err why)) opened is wants good =
    let G : Bool → Type 0 = λ b. IfGood rules at (if_wanted b (Some (Err why))) in
    absurd (subst G wants good)
judged_by client rules at wanted (Some text) id (Some (Ok claims)) opened is wants good =
    let G : Bool → Type 0 = λ b. IfGood rules at (if_wanted b (Some (Ok claims))) in
    let found : G true = subst G wants good in
    record { claims = claims; is = refl; good = passes_good rules claims at found.judged }

module _ (s : Site) (world : World) (site : IsSite s) (legal : IsLegalWorld s world) (distinct : HasDistinctWords world) (unleaked : IsUnleaked world) (unforged : IsUnforged s world) (joined : IsJoined world) (hashes : HasDistinctHashes world) where
  codes_bound : CodesAreBound s world
  codes_bound n from request p later earlier id code parts x redeemed =
      let c : Configuration = s.configuration in
      let y : Place = Party n from request p in
      let st : Stands s y earlier = stands s world later earlier y site legal distinct unleaked unforged joined parts in
      let mine : n < length c.parties = st.legal.asked.0.0 in
      let own = party_legal s n from request p earlier st.legal in
      let setup : PartySetup = setup_at s n in
      let past : RpPast = rp_past n earlier in
      let C : RpAsk → Type 0 = λ a. ExchangeCause setup past p.entry a x.word x.message in
      let cause : CodeExchanged setup past p.entry x.heard x.read x.browser x.word x.message = subst C x.asked (exchanges_have_a_cause setup past p.entry x.word x.message (sym own.3 ∙ x.replied)) in
      let came : IsRequest c n request (ask.Callback (Ok x.heard) x.read x.browser) = as_request c n request (ask.Callback (Ok x.heard) x.read x.browser) (sym x.asked ∙ st.legal.asked.0.1) refl in
      let rules : IdRules = front_rules setup cause.login x.heard in
      let judged : IsJudged rules p.entry.at x.read =
      judged_by (party_client c n) rules p.entry.at (types_at s n).id_token x.heard.id id x.read (callback_opened c n came.request x.heard x.read x.browser came.asked_is) x.id_is x.has_id cause.accepted in
      let claims : IdClaims = judged.claims in
      let replied : HasReplied earlier id claims =
      was_replied s n y earlier id claims (word_text cause.login.nonce) site mine st (callback_checks s n from request p x.heard x.read x.browser id x.asked x.id_is)
      (callback_reads s n request p.entry.ask x.heard x.read x.browser id claims x.asked st.legal.asked.0.1 x.id_is judged.is) judged.good.nonce in
      let W : Bool → Option Text = λ b. if_wanted b x.heard.code in
      let front : front_code setup x.heard ≡ Some code = ap W x.has_code ∙ x.code_is in
      let M : Option Text → Type 0 = λ o. Meets (must_hash o) claims.c_hash in
      let hash : claims.c_hash ≡ Some (half_hash_of code) = subst M front judged.good.code in
      let here : Place = Provider replied.from replied.request replied.pair in
      let has : Has world here = has_before world later (y ∷ earlier) here parts (inr replied.has) in
      let word : IsIssued world code = code_was_issued s world code legal redeemed in
      record {
        from = replied.from;
        request = replied.request;
        pair = replied.pair;
        has = replied.has;
        replied =
            code_beside id code claims replied.pair.reply hash replied.replied
            (λ w is digests. same_text world code w hashes word (issued_in world here w has (code_issued replied.from replied.request replied.pair w is)) digests);
      }

-- ---- access tokens

some_hash : (o : Option Text) (t : Text) → is_some o ≡ true → IfSome o (λ h. h ≡ t) → o ≡ Some t
some_hash None t some is = cc
some_hash (Some h) t some is = ap (λ (z : Text). Some z) is

-- the ID Token with the access token was in a reply, and has its half hash
record IsBeside (earlier : World) (id access : Text) : Type 0 where
  claims : IdClaims
  replied : HasReplied earlier id claims
  hash : claims.at_hash ≡ Some (half_hash_of access)

module _ (s : Site) (site : IsSite s) (n from : ℕ) (request : WorldAsk) (p : RpPair) (earlier : World) (st : Stands s (Party n from request p) earlier) (id access : Text) where
  beside_by : (asked : RpAsk) → p.entry.ask ≡ asked → CameTogether (setup_at s n) asked id access → (claims : IdClaims) → claims_judged (types_at s n) asked ≡ Some claims → is_some claims.at_hash ≡ true → (w : Word) (message : Message)
      → FetchCause (setup_at s n) (rp_past n earlier) p.entry asked w message → IsBeside earlier id access
  beside_by (ask.Callback (Ok heard) read browser) is came claims judged some w message cause =
      let setup : PartySetup = setup_at s n in
      let mine : n < length s.configuration.parties = st.legal.asked.0.0 in
      let x : IdClaims = cause.claims in
      let read_is : read ≡ Some (Ok x) = wanted_id (types_at s n).id_token read x cause.accepted.read in
      let good : IsGoodIdToken (front_rules setup cause.login heard) x p.entry.at = passes_good (front_rules setup cause.login heard) x p.entry.at cause.accepted.judged in
      let M : Option Text → Type 0 = λ o. Meets (must_hash o) x.at_hash in
      record {
        claims = x;
        replied =
            was_replied s n (Party n from request p) earlier id x (word_text cause.login.nonce) site mine st (callback_checks s n from request p heard read browser id is came.0)
            (callback_reads s n request p.entry.ask heard read browser id x is st.legal.asked.0.1 came.0 read_is) good.nonce;
        hash = subst M came.1 good.token;
      }
  beside_by (ask.Tokens pending (Ok tokens) read) is came claims judged some w message cause =
      let setup : PartySetup = setup_at s n in
      let mine : n < length s.configuration.parties = st.legal.asked.0.0 in
      let x : IdClaims = cause.claims in
      let good : IsGoodIdToken (back_rules setup cause.exchange tokens) x p.entry.at = passes_good (back_rules setup cause.exchange tokens) x p.entry.at cause.accepted.judged in
      let same : x ≡ claims = same_Some x claims (sym (ap claims_read cause.accepted.read) ∙ judged) in
      let S : IdClaims → Type 0 = λ z. is_some z.at_hash ≡ true in
      let hash : x.at_hash ≡ Some (half_hash_of tokens.access) = some_hash x.at_hash (half_hash_of tokens.access) (subst S (sym same) some) good.token in
      let R : Text → Type 0 = λ t. HasReplied earlier t x in
      let replied : R tokens.id =
      was_replied s n (Party n from request p) earlier tokens.id x (word_text cause.exchange.nonce) site mine st (tokens_checks s n from request p pending tokens read is)
      (tokens_reads s n request p.entry.ask pending tokens read x is st.legal.asked.0.1 cause.accepted.read) good.nonce in
      record { claims = x; replied = subst R came.0 replied; hash = hash ∙ ap (λ (t : Text). Some (half_hash_of t)) came.1 }
  beside_by asked is came claims judged some w message cause = absurd came

module _ (s : Site) (world : World) (site : IsSite s) (legal : IsLegalWorld s world) (distinct : HasDistinctWords world) (unleaked : IsUnleaked world) (unforged : IsUnforged s world) (joined : IsJoined world) (hashes : HasDistinctHashes world) where
  access_bound : AccessTokensAreBound s world
  access_bound n from request p later earlier id access parts x informed =
      let y : Place = Party n from request p in
      let st : Stands s y earlier = stands s world later earlier y site legal distinct unleaked unforged joined parts in
      let own = party_legal s n from request p earlier st.legal in
      let beside : IsBeside earlier id access =
      beside_by s site n from request p earlier st id access p.entry.ask refl x.came x.claims x.judged x.hash x.word x.message (fetches_have_a_cause (setup_at s n) (rp_past n earlier) p.entry x.word x.message (sym own.3 ∙ x.replied)) in
      let replied : HasReplied earlier id beside.claims = beside.replied in
      let here : Place = Provider replied.from replied.request replied.pair in
      let has : Has world here = has_before world later (y ∷ earlier) here parts (inr replied.has) in
      let word : IsIssued world access = access_was_issued s world access legal informed in
      record {
        from = replied.from;
        request = replied.request;
        pair = replied.pair;
        has = replied.has;
        replied =
            access_beside id access beside.claims replied.pair.reply beside.hash replied.replied
            (λ w is digests. same_text world access w hashes word (issued_in world here w has (access_issued replied.from replied.request replied.pair w is)) digests);
      }

-- Codes and access tokens are bound.
pub is_bound : (s : Site) (world : World) → IsSite s → IsLegalWorld s world → HasDistinctWords world → IsUnleaked world → IsUnforged s world → IsJoined world → HasDistinctHashes world → IsBound s world
is_bound s world site legal distinct unleaked unforged joined hashes =
    record { codes = codes_bound s world site legal distinct unleaked unforged joined hashes; access_tokens = access_bound s world site legal distinct unleaked unforged joined hashes }
