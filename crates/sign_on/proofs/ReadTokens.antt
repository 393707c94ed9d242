-- Of all that the roles print, the provider's token responses alone are read as tokens. No other reply with status 200 is JSON with an
-- access token: pages begin with `<`, lines with a letter, and the claims of a user, the metadata and the keys have no such member.
use Rattle.std.proofs.Common.{◌≡◌, ℕ, ◌==◌, Bool, true, false, List, [], ◌∷◌, ◌++◌, codes, Some, None, Result, Ok, refl, sym, ap, ◌∙◌, subst, true≢false}
use Rattle.std.proofs.lemmas.Bool.{eqb-true}
use Rattle.json.proofs.OnLiterals.{json_on_literals}
use Rattle.serde_json.specs.Data.{Members, no_members, member, object, array, string, no_items}
use Rattle.serde_json.specs.Find.{get_member}
use Rattle.serde_json.specs.Read.{read}
use Rattle.sso_base.specs.Words.{Word, Text, word_text}
use Rattle.sso_base.specs.declared.history.Entry.{Entry}
use Rattle.sso_base.specs.declared.http.HttpReply.{HttpReply}
use Rattle.sso_base.specs.declared.message.Answered.{Answered}
use Rattle.claim_set.specs.Reading.{Reads, claims_text}
use Rattle.claim_set.specs.Fitting.{ClaimsFit}
use Rattle.claim_set.proofs.Building.{get-put_all}
use Rattle.claim_set.proofs.Parsing.{read_reads}
use Rattle.claim_set.proofs.Written.{claims_read-claims_text}
use Rattle.client_registry.specs.Configuration.{Configuration}
use Rattle.client_registry.specs.Registered.{IsRegistry}
use Rattle.client_registry.specs.declared.records.Provider.{Provider}
use Rattle.token_kinds.proofs.Apart.{same_claims}
use Rattle.oidc_words.specs.Claims.{is_claim_of, profile_claims, email_claims, address_claims, phone_claims}
use Rattle.oidc_words.specs.declared.scopes.Scopes.{Scopes}
use Rattle.discovery_doc.specs.Metadata.{metadata_entries, metadata}
use Rattle.discovery_doc.proofs.Fitting.{ClaimsFit-metadata}
use Rattle.discovery_doc.proofs.Printed.{printable}
use Rattle.userinfo.specs.Held.{info_members}
use Rattle.userinfo.specs.declared.header.Bearer.TheVariants as bearer
use Rattle.userinfo.proofs.Told.{info_fit, unknown_is_unwanted, unwanted_is_untold}
use Rattle.token_endpoint.specs.declared.error.TokenError.TheVariants.{InvalidClient}
use Rattle.token_endpoint.specs.declared.reading.Tokens.{Tokens}
use Rattle.token_endpoint.specs.declared.no.TokensNo.{TokensNo}
use Rattle.token_endpoint.specs.Answer.{tokens_read, HasTokens}
use Rattle.token_endpoint.proofs.Responses.{read_has}
use Rattle.op_exchange.specs.declared.ask.OpAsk.{OpAsk}
use Rattle.op_exchange.specs.declared.ask.OpAsk.TheVariants as ask
use Rattle.op_exchange.specs.declared.reply.OpReply.{OpReply}
use Rattle.op_exchange.specs.declared.reply.OpReply.TheVariants as op
use Rattle.std.specs.Prelude.{decimal}
use Rattle.oidc_words.specs.Lives.{turn_life}
use Rattle.oidc_words.specs.Paths.{login_path}
use Rattle.html_pages.specs.Documents.{head_text, document, document_until, body_shown}
use Rattle.op_response.specs.Pages.{login_text, consent_text}
use Rattle.op_response.specs.FullPages.{login_content, consent_content, signed_out_content, full_signed_out_page, signed_out_page}
use Rattle.op_response.specs.Telling.{http_of as op_http, login_body, consent_body, application_title}
use Rattle.op_response.proofs.ReplyLaws.{tokens_are_read}
use Rattle.op_answer.specs.Past.{OpPast}
use Rattle.op_answer.specs.Answering.{op_reply, op_answer}
use Rattle.op_answer.specs.Causes.{InfoCause}
use Rattle.op_answer.proofs.Forms.{request_told, login_told, consent_told, token_told, info_told, sign_out_told}
use Rattle.op_answer.proofs.InfoResponses.{infos_have_a_cause}
use Rattle.op_answer.proofs.Standing.{own_replies_stand}
use Rattle.rp_exchange.specs.declared.no.RpNo.{RpNo}
use Rattle.rp_exchange.specs.declared.no.RpNo.TheVariants as no
use Rattle.rp_exchange.specs.declared.reply.RpReply.{RpReply}
use Rattle.rp_exchange.specs.declared.reply.RpReply.TheVariants as rp
use Rattle.rp_response.specs.Page.{fragment_page}
use Rattle.rp_response.specs.FullPages.{begin_link, user_content, full_user_page, full_nobody_page, full_left_page, user_page, nobody_page, left_page}
use Rattle.rp_response.specs.Telling.{http_of as rp_http, party_title}
use Rattle.sign_on.proofs.IssuedHashes.{tokens_are_text}

-- ---- what has no tokens

abbrev answered : ℕ → Text → Answered
answered status body = record { status = status; body = body }

abbrev answered_by : HttpReply → Answered
answered_by reply = answered reply.status reply.body

-- another status
other_status : (status : ℕ) (body : Text) (came : Tokens) → (status == 200) ≡ false → tokens_read (answered status body) ≡ Ok came → ⊥
other_status status body came other read =
    let has : HasTokens (answered status body) came = read_has (answered status body) came read in
    true≢false (sym (ap (λ (n : ℕ). n == 200) has.status) ∙ other)

-- what is no JSON
no_json : (status : ℕ) (body : Text) (came : Tokens) → read body ≡ None → tokens_read (answered status body) ≡ Ok came → ⊥
no_json status body came unread given =
    let has : HasTokens (answered status body) came = read_has (answered status body) came given in
    let is : read body ≡ Some (object has.members) = has.reads.is_object in
    let never : None ≡ Some (object has.members) = sym unread ∙ is in
    absurd (cc)

-- JSON without an access token
no_member : (status : ℕ) (body : Text) (came : Tokens) → ((ms : Members) → Reads body ms → get_member (codes "access_token") ms ≡ None) → tokens_read (answered status body) ≡ Ok came → ⊥
no_member status body came none given =
    let has : HasTokens (answered status body) came = read_has (answered status body) came given in
    let never : None ≡ Some (string came.access) = sym (none has.members has.reads) ∙ has.access in
    absurd (cc)

-- claims that are written, and have none
no_claim : (ms : Members) (came : Tokens) → ClaimsFit ms → get_member (codes "access_token") ms ≡ None → tokens_read (answered 200 (claims_text ms)) ≡ Ok came → ⊥
no_claim ms came fits none given =
    no_member 200 (claims_text ms) came
    (λ ns reads.
    let own : Reads (claims_text ms) ms = read_reads (claims_text ms) ms (claims_read-claims_text ms fits) in
    let same : ms ≡ ns = same_claims ms ns (claims_text ms) (claims_text ms) refl own reads in
    ap (get_member (codes "access_token")) (sym same) ∙ none)
    given

-- ---- pages and lines

page_unread : (rest : Text) → read (60 ∷ rest) ≡ None
unfolding json_on_literals
page_unread rest = refl

user_unread : (rest : Text) → read (117 ∷ rest) ≡ None
unfolding json_on_literals
user_unread rest = refl

signed_unread : (rest : Text) → read (115 ∷ rest) ≡ None
unfolding json_on_literals
signed_unread rest = refl

left_unread : (rest : Text) → read (108 ∷ rest) ≡ None
unfolding json_on_literals
left_unread rest = refl

nobody_unread : read (codes "nobody" ++ 10 ∷ []) ≡ None
unfolding json_on_literals
nobody_unread = refl

nothing_unread : read [] ≡ None
unfolding json_on_literals
nothing_unread = refl

-- the text begins with `<`
abbrev is_page : Text → Bool
is_page [] = false
is_page (b ∷ text) = b == 60

page_is_unread : (text : Text) → is_page text ≡ true → read text ≡ None
page_is_unread [] page = nothing_unread
page_is_unread (b ∷ text) page =
    let same : b ≡ 60 = eqb-true b 60 page in
    ap (λ (x : ℕ). read (x ∷ text)) same ∙ page_unread text

document_is_page : (heading site content : Text) → is_page (document heading site content) ≡ true
unfolding head_text
document_is_page heading site content = refl

document_until_is_page : (seconds to heading site content : Text) → is_page (document_until seconds to heading site content) ≡ true
unfolding head_text
document_until_is_page seconds to heading site content = refl

login_is_page : (is_full : Bool) (site prefix turn : Text) (again : Bool) → is_page (login_body is_full site prefix turn again) ≡ true
unfolding login_text
login_is_page false site prefix turn again = refl
login_is_page true site prefix turn again = document_until_is_page (decimal turn_life) (prefix ++ login_path) (codes "Sign in") site (login_content prefix turn again)

consent_is_page : (is_full : Bool) (c : Configuration) (turn client : Text) (scopes : Scopes) → is_page (consent_body is_full c turn client scopes) ≡ true
unfolding consent_text
consent_is_page false c turn client scopes = refl
consent_is_page true c turn client scopes = document_is_page (codes "Do you agree?") c.title (consent_content c.prefix turn (application_title c client) scopes)

signed_out_unread : (is_full : Bool) (site : Text) → read (body_shown (signed_out_page is_full site) (codes "signed out")) ≡ None
signed_out_unread false site = signed_unread (codes "igned out" ++ 10 ∷ [])
signed_out_unread true site = page_is_unread (full_signed_out_page site) (document_is_page (codes "You are signed out") site signed_out_content)

user_page_unread : (is_full : Bool) (title sub : Text) → read (body_shown (user_page is_full title sub) (codes "user " ++ sub)) ≡ None
user_page_unread false title sub = user_unread ((codes "ser " ++ sub) ++ 10 ∷ [])
user_page_unread true title sub = page_is_unread (full_user_page title sub) (document_is_page (codes "Welcome") title (user_content sub))

nobody_page_unread : (is_full : Bool) (title : Text) → read (body_shown (nobody_page is_full title) (codes "nobody")) ≡ None
nobody_page_unread false title = nobody_unread
nobody_page_unread true title = page_is_unread (full_nobody_page title) (document_is_page (codes "You are not signed in") title (begin_link (codes "Sign in")))

left_page_unread : (is_full : Bool) (title : Text) → read (body_shown (left_page is_full title) (codes "left")) ≡ None
left_page_unread false title = left_unread (codes "eft" ++ 10 ∷ [])
left_page_unread true title = page_is_unread (full_left_page title) (document_is_page (codes "You are signed out") title (begin_link (codes "Sign in again")))

fragment_is_page : is_page fragment_page ≡ true
unfolding fragment_page
fragment_is_page = refl

-- ---- JSON of the provider

keys_have_none : (ms : Members) → Reads (codes "{\"keys\":[]}") ms → get_member (codes "access_token") ms ≡ None
unfolding json_on_literals
keys_have_none ms reads =
    let is : read (codes "{\"keys\":[]}") ≡ Some (object (member (codes "keys") (array no_items) no_members)) = refl in
    let same : member (codes "keys") (array no_items) no_members ≡ ms = cc (reads.is_object, is) in
    ap (get_member (codes "access_token")) (sym same)

metadata_have_none : (p : Provider) → get_member (codes "access_token") (metadata p) ≡ None
unfolding metadata
metadata_have_none p = rw (get-put_all (codes "access_token") (metadata_entries p) no_members) refl

info_has_none : (c : Configuration) (client user : ℕ) (scopes : Scopes) (asked : List Text) → get_member (codes "access_token") (info_members c client user scopes asked) ≡ None
unfolding is_claim_of profile_claims email_claims address_claims phone_claims
info_has_none c client user scopes asked =
    unwanted_is_untold c client user scopes asked (codes "access_token") (λ e. cc e) (unknown_is_unwanted scopes asked (codes "access_token") refl)

-- what the provider's metadata are
module _ (c : Configuration) (past : OpPast) (e : Entry OpAsk) (text : Text) where
  metadata_asked : (asked : OpAsk) → op_reply c past e asked ≡ op.Metadata text → claims_text (metadata c.provider) ≡ text
  metadata_asked (ask.Authorize verdict browser presented) h = let told = request_told c past e (op.Metadata text) verdict browser presented h in cc
  metadata_asked (ask.Login turn signed browser presented) h = let told = login_told c past e (op.Metadata text) turn signed browser presented h in cc
  metadata_asked (ask.Consent turn agree browser presented) h = let told = consent_told c past e (op.Metadata text) turn agree browser presented h in cc
  metadata_asked (ask.Token grant) h = let told = token_told c past e (op.Metadata text) grant h in cc
  metadata_asked (ask.Info given) h = let told = info_told c past e (op.Metadata text) given h in cc
  metadata_asked (ask.SignOut presented) h = let told = sign_out_told c past e (op.Metadata text) presented h in cc
  metadata_asked ask.Metadata h = cc
  metadata_asked ask.Keys h = cc
  metadata_asked ask.Twice h = cc
  metadata_asked ask.NotHere h = cc

  metadata_are : op_answer c past e ≡ op.Metadata text → claims_text (metadata c.provider) ≡ text
  metadata_are h = metadata_asked e.ask (own_replies_stand c past e (op.Metadata text) refl h).reply_is

-- the claims of a user have no access token
info_has_no_tokens : (c : Configuration) (past : OpPast) (e : Entry OpAsk) (asked : OpAsk) (claims : Text) (came : Tokens) → IsRegistry c → InfoCause c past e asked claims → tokens_read (answered 200 claims) ≡ Ok came → ⊥
info_has_no_tokens c past e (ask.Info (bearer.Given w)) claims came registry cause given =
    let client : ℕ = cause.token.client in
    let user : ℕ = cause.token.user in
    let R : Text → Type 0 = λ t. tokens_read (answered 200 t) ≡ Ok came in
    no_claim (info_members c client user cause.token.scopes cause.token.asked) came (info_fit c client user cause.token.scopes cause.token.asked registry)
    (info_has_none c client user cause.token.scopes cause.token.asked)
    (subst R (sym cause.claims_are) given)
info_has_no_tokens c past e asked claims came registry cause given = absurd cause

-- ---- the provider

-- these tokens are those of the reply
pub record GaveTokens (reply : OpReply) (came : Tokens) : Type 0 where
  pub access : Word
  pub id : Text
  pub reply_is : reply ≡ op.Tokens access id
  pub access_is : word_text access ≡ came.access
  pub id_is : id ≡ came.id

same_tokens : (s t : Tokens) (r : Result Tokens TokensNo) → r ≡ Ok s → r ≡ Ok t → s ≡ t
same_tokens s t r first second = cc

-- What is read as tokens is a reply that gave them.
pub provider_gave : (c : Configuration) (past : OpPast) (e : Entry OpAsk) (reply : OpReply) (came : Tokens) → IsRegistry c → op_answer c past e ≡ reply → tokens_read (answered_by (op_http c reply)) ≡ Ok came
    → GaveTokens reply came
unfolding op_http
provider_gave c past e (op.LoginPage turn browser again) came registry is given =
    let body : Text = login_body c.full_pages c.title c.prefix (word_text turn) again in
    absurd (no_json 200 body came (page_is_unread body (login_is_page c.full_pages c.title c.prefix (word_text turn) again)) given)
provider_gave c past e (op.ConsentPage turn browser session client scopes) came registry is given =
    let body : Text = consent_body c.full_pages c (word_text turn) client scopes in
    absurd (no_json 200 body came (page_is_unread body (consent_is_page c.full_pages c (word_text turn) client scopes)) given)
provider_gave c past e (op.Answered answer session) came registry is given = absurd (other_status 303 _ came refl given)
provider_gave c past e (op.Refused refusal session) came registry is given = absurd (other_status 303 _ came refl given)
provider_gave c past e (op.ErrorPage why) came registry is given = absurd (other_status 400 _ came refl given)
provider_gave c past e (op.Tokens access id) came registry is given =
    let own : Tokens = record { access = word_text access; id = id } in
    let same : own ≡ came = same_tokens own came (tokens_read (answered_by (op_http c (op.Tokens access id)))) (tokens_are_read c access id (tokens_are_text c past e access id is)) given in
    record { access = access; id = id; reply_is = refl; access_is = ap (λ (t : Tokens). t.access) same; id_is = ap (λ (t : Tokens). t.id) same }
provider_gave c past e (op.TokenRefused InvalidClient) came registry is given = absurd (other_status 401 _ came refl given)
provider_gave c past e (op.TokenRefused other) came registry is given = absurd (other_status 400 _ came refl given)
provider_gave c past e (op.Info claims) came registry is given =
    absurd (info_has_no_tokens c past e e.ask claims came registry (infos_have_a_cause c past e claims is) given)
provider_gave c past e (op.InfoRefused other) came registry is given = absurd (other_status 401 _ came refl given)
provider_gave c past e (op.SignedOut messages) came registry is given =
    absurd (no_json 200 (body_shown (signed_out_page c.full_pages c.title) (codes "signed out")) came (signed_out_unread c.full_pages c.title) given)
provider_gave c past e (op.Metadata text) came registry is given =
    let R : Text → Type 0 = λ t. tokens_read (answered 200 t) ≡ Ok came in
    absurd (no_claim (metadata c.provider) came (ClaimsFit-metadata c.provider (printable c registry)) (metadata_have_none c.provider) (subst R (sym (metadata_are c past e text is)) given))
provider_gave c past e op.Keys came registry is given = absurd (no_member 200 _ came keys_have_none given)
provider_gave c past e op.NotHere came registry is given = absurd (other_status 404 _ came refl given)
provider_gave c past e op.Full came registry is given = absurd (other_status 503 _ came refl given)

-- ---- the parties

refused_gives_none : (c : Configuration) (n : ℕ) (why : RpNo) (came : Tokens) → tokens_read (answered_by (rp_http c n (rp.Refused why))) ≡ Ok came → ⊥
unfolding rp_http
refused_gives_none c n (no.Full table) came given = other_status 503 _ came refl given
refused_gives_none c n other came given = other_status 400 _ came refl given

-- No reply of a party is read as tokens.
pub party_gave_none : (c : Configuration) (n : ℕ) (reply : RpReply) (came : Tokens) → tokens_read (answered_by (rp_http c n reply)) ≡ Ok came → ⊥
unfolding rp_http
party_gave_none c n (rp.Ask to browser) came given = other_status 303 _ came refl given
party_gave_none c n rp.Fragment came given = no_json 200 _ came (page_is_unread _ fragment_is_page) given
party_gave_none c n (rp.Exchange pending message) came given = other_status 502 _ came refl given
party_gave_none c n (rp.Fetch pending message) came given = other_status 502 _ came refl given
party_gave_none c n (rp.Entered session sub) came given = other_status 303 _ came refl given
party_gave_none c n (rp.User sub) came given =
    no_json 200 (body_shown (user_page c.full_pages (party_title c n) sub) (codes "user " ++ sub)) came (user_page_unread c.full_pages (party_title c n) sub) given
party_gave_none c n rp.Nobody came given =
    no_json 200 (body_shown (nobody_page c.full_pages (party_title c n)) (codes "nobody")) came (nobody_page_unread c.full_pages (party_title c n)) given
party_gave_none c n (rp.Left ended) came given =
    no_json 200 (body_shown (left_page c.full_pages (party_title c n)) (codes "left")) came (left_page_unread c.full_pages (party_title c n)) given
party_gave_none c n (rp.Ended count) came given = no_json 200 _ came nothing_unread given
party_gave_none c n (rp.Refused why) came given = refused_gives_none c n why came given
party_gave_none c n rp.NotHere came given = other_status 404 _ came refl given
