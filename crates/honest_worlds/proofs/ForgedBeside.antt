-- A world that breaks only one premise. Alice logs in with browser 1 for the news, and gets an access token for it. The browser brings
-- this access token to the shop, beside an ID Token that somebody sealed under the shop's secret, with the half hash of the access token.
-- It is the ID Token that the provider would have written for the shop. So the shop's server requests UserInfo, and gets the claims that
-- alice's browser got for the news.
use Rattle.std.proofs.Common.{◌≡◌, ℕ, false, [], ◌∷◌, ◌++◌, codes, Option, Some, None, inl, inr, refl, sym, ap, ◌∙◌, arith}
use Rattle.std.specs.List.{list_any}
use Rattle.std.proofs.lemmas.Option.{same_Some}
use Rattle.sso_base.specs.Words.{Word, Text}
use Rattle.sso_base.specs.declared.history.Entry.{Entry}
use Rattle.sso_base.specs.declared.http.Ask.{Ask}
use Rattle.sso_model.specs.Lists.{Has}
use Rattle.oidc_words.specs.Claims.{scopes_with_any}
use Rattle.oidc_words.specs.Scopes.{joined}
use Rattle.oidc_words.specs.Types.{spellings, is_in_fragment}
use Rattle.oidc_words.specs.Words.{parameter_words}
use Rattle.claim_set.specs.Reading.{claims_text}
use Rattle.client_registry.specs.ClientSets.{no_clients}
use Rattle.client_registry.specs.Configuration.{Configuration}
use Rattle.request_params.proofs.OnLiterals.{request_params_on_literals}
use Rattle.auth_request.specs.ClaimsParameter.{claims_of}
use Rattle.auth_request.specs.Parameters.{asking_of}
use Rattle.auth_request.specs.Judgement.{errors, judgement}
use Rattle.auth_request.specs.declared.wish.Wish.{Wish}
use Rattle.auth_request.specs.declared.wish.Verdict.TheVariants.{Grant}
use Rattle.auth_answer.specs.declared.answer.Answer.{Answer}
use Rattle.userinfo.specs.Held.{info_members}
use Rattle.user_interaction.specs.Need.{needed, needed_scopes}
use Rattle.code_grant.specs.declared.rows.SessionRow.{SessionRow}
use Rattle.op_issue.specs.declared.issuing.Authentication.{Authentication}
use Rattle.op_issue.specs.Issued.{issued}
use Rattle.op_exchange.specs.Values.{IsOpAsk}
use Rattle.op_exchange.specs.declared.ask.OpAsk.{OpAsk}
use Rattle.op_exchange.specs.declared.ask.OpAsk.TheVariants as op_ask
use Rattle.op_exchange.specs.declared.reply.OpReply.{OpReply}
use Rattle.op_exchange.specs.declared.reply.OpReply.TheVariants as op
use Rattle.op_request.specs.Prepared.{prepared as op_prepared}
use Rattle.op_answer.specs.Answering.{op_answer}
use Rattle.op_answer.specs.Legal.{IsLegalOp}
use Rattle.op_answer.specs.Past.{OpPair, OpPast}
use Rattle.op_answer.specs.Sessions.{wish_by}
use Rattle.op_answer.proofs.FirstLogin.{entry_at, pair_of, login_page, login_entry}
use Rattle.rp_answer.specs.Past.{RpPair}
use Rattle.rp_answer.proofs.Sample.{word, words}
use Rattle.sso_places.specs.declared.types.WorldAsk.{WorldAsk}
use Rattle.sso_places.specs.Legal.{IsLegalWorld}
use Rattle.sso_places.specs.Premises.{HasDistinctWords, HasDistinctHashes, IsUnleaked, IsJoined, set_elsewhere, leaks}
use Rattle.sso_places.specs.Site.{Site, IsSite, own_site, client_of_party}
use Rattle.sso_places.specs.Unshared.{IsUnshared}
use Rattle.sso_places.specs.World.{Place, Provider, Party, Nothing, World, drawn}
use Rattle.sso_places.proofs.Clashes.{hashes_after}
use Rattle.sso_places.proofs.LoginByCode.{got}
use Rattle.sso_places.proofs.Sharing.{never_shown, quiet, gives_anew, shows_rightly}
use Rattle.sso_places.proofs.SmallSite.{drawn_word, are_distinct, legal_entry}
use Rattle.authorization.specs.Authorized.{IsAccessFor}
use Rattle.authorization.specs.Laws.{EachInfo}
use Rattle.authorization.specs.Reached.{IsTaken, ClientGetsClaims}
use Rattle.honest_worlds.proofs.AnyType.{types_of, registered, is_registry}
use Rattle.honest_worlds.proofs.NewsRequest.{news_query, news_wish, wish_is_value}
use Rattle.honest_worlds.proofs.UpToAnswer.{begins_there, logs_in, login_is_asked, word_5, word_6}
use Rattle.honest_worlds.proofs.Responding.{request, callback_entry, response_words, responded}
use Rattle.honest_worlds.proofs.Informing.{fetch, info_entry, informs, info_is_asked}
use Rattle.honest_worlds.proofs.OwnTokens.{response_shows, taken}
use Rattle.honest_worlds.proofs.WholeLogins.{asking, front_needs}

abbrev c : Configuration
c = registered asking

abbrev s : Site
s = own_site c

site_is : IsSite s
site_is = record { registry = is_registry asking; one_issuer = λ n. refl }

-- ---- the login for the news, which needs no consent

abbrev authorizes : Ask
authorizes = got (codes "/authorize") news_query None

abbrev authorize_entry : Entry OpAsk
authorize_entry = entry_at 1000 5 (op_ask.Authorize (Grant (news_wish false)) None None)

authorize_is_asked : op_prepared c authorizes ≡ authorize_entry.ask
unfolding op_prepared request_params_on_literals judgement errors asking_of parameter_words claims_of spellings
authorize_is_asked = refl

authorize_is_answered : op_answer c [] authorize_entry ≡ login_page
unfolding op_answer needed needed_scopes joined scopes_with_any no_clients
authorize_is_answered = refl

abbrev authorize_pair : OpPair
authorize_pair = pair_of authorize_entry login_page

-- it draws the words of the place at which the shop's login would be answered
abbrev news_entry : Entry OpAsk
news_entry = entry_at 1000 13 login_entry.ask

abbrev signed : Authentication
signed = record { user = 0; sid = word 14; auth_time = 1000 }

abbrev news_answer : OpReply
news_answer = op.Answered (issued c (news_wish false) signed 1000 (words 13)) (Some (word 13))

login_is_answered : op_answer c (authorize_pair ∷ []) news_entry ≡ news_answer
unfolding op_answer needed needed_scopes joined scopes_with_any no_clients
login_is_answered = refl

abbrev news_pair : OpPair
news_pair = pair_of news_entry news_answer

-- ---- the shop's server requests UserInfo with the access token of the news

abbrev past : OpPast
past = news_pair ∷ authorize_pair ∷ []

abbrev claims : Text
claims = claims_text (info_members c 1 0 (news_wish false).scopes [])

info_is_answered : op_answer c past (info_entry (word 16)) ≡ op.Info claims
unfolding op_answer no_clients
info_is_answered = refl

abbrev info_pair : OpPair
info_pair = pair_of (info_entry (word 16)) (op.Info claims)

provider_legal : IsLegalOp c (info_pair ∷ past)
provider_legal = (
  (
    (tt, legal_entry IsOpAsk 5 authorize_entry.ask refl (wish_is_value false, tt, tt), omega arith, sym authorize_is_answered),
    legal_entry IsOpAsk 13 news_entry.ask refl (word_6 asking, omega arith, word_5 asking, tt),
    omega arith,
    sym login_is_answered,
  ),
  legal_entry IsOpAsk 29 (info_entry (word 16)).ask refl (drawn_word (word 16) refl refl),
  omega arith,
  sym info_is_answered,
)

-- ---- the world

abbrev asks : Ask
asks = informs asking (word 16) (request asking) (callback_entry asking) []

abbrev shows : Place
shows = Provider 1 authorizes authorize_pair

abbrev answers : Place
answers = Provider 1 (logs_in asking) news_pair

-- what the shop replied in its own login
abbrev fetches : Place
fetches = responded asking (fetch (word 16))

abbrev before : World
before = fetches ∷ answers ∷ shows ∷ begins_there asking ∷ []

abbrev forged : World
forged = Provider 0 asks info_pair ∷ before

-- the parties' histories are those of the shop's own login
legal : IsLegalWorld s forged
legal =
    let own = front_needs.before.stands.legal in
    record {
      provider = provider_legal;
      parties = own.parties;
      asked = (
        sym (info_is_asked asking (word 16) (request asking) (callback_entry asking) [] (drawn_word (word 16) refl refl)),
        (own.asked.0, (sym (login_is_asked asking), (sym authorize_is_asked, (own.asked.1.1.1.1.0, tt)))),
      );
    }

distinct : HasDistinctWords forged
distinct = are_distinct (drawn forged) refl

tight : leaks (answers ∷ shows ∷ begins_there asking ∷ []) fetches ≡ false
tight = ap (list_any (set_elsewhere (answers ∷ shows ∷ begins_there asking ∷ []) 1)) (response_words asking (is_in_fragment (types_of asking)))

unleaked : IsUnleaked forged
unleaked = (((((tt, refl), refl), refl), tight), refl)

all_joined : IsJoined forged
all_joined = ((tt, tt), tt)

-- the one code or access token is `word 16`
hashes : HasDistinctHashes forged
hashes =
    hashes_after (Provider 0 asks info_pair) before
    (hashes_after fetches (answers ∷ shows ∷ begins_there asking ∷ [])
    (hashes_after answers (shows ∷ begins_there asking ∷ []) (λ v w has_v has_w same. absurd has_v) refl) refl) refl

unshared : IsUnshared forged
unshared =
    let shown = response_shows asking (fetch (word 16)) refl in
    let t = taken asking (word 16) (request asking) (callback_entry asking) (answers ∷ shows ∷ begins_there asking ∷ []) shown in (
      (
        (
          ((tt, quiet [] (begins_there asking) refl refl), quiet (begins_there asking ∷ []) shows refl refl),
          gives_anew (shows ∷ begins_there asking ∷ []) answers refl (never_shown answers (shows ∷ begins_there asking ∷ []) (refl, (refl, tt))),
        ),
        shows_rightly (answers ∷ shows ∷ begins_there asking ∷ []) fetches (word 16) shown refl (inr refl, (inl refl, (inl refl, tt))),
      ),
      shows_rightly before (Provider 0 asks info_pair) (word 16) refl refl (inr t, (inr t, (inr t, (inr t, tt)))),
    )

-- ---- the access token is that of the news, and the server that of the shop

wish_is : (later earlier : OpPast) (p : OpPair) (answer : Answer) (given : Option Word) (wish : Wish) → past ≡ later ++ p ∷ earlier → p.reply ≡ op.Answered answer given → wish_by earlier p.entry.ask ≡ Some wish → ◌≡◌ {A = ℕ} 1 wish.client
wish_is [] earlier p answer given wish parts replied wished =
    let first : news_pair ≡ p = cc in
    let rest : ◌≡◌ {A = OpPast} (authorize_pair ∷ []) earlier = cc in
    let W : OpPair → Option Wish = λ q. wish_by (authorize_pair ∷ []) q.entry.ask in
    let E : OpPast → Option Wish = λ e. wish_by e p.entry.ask in
    let is : ◌≡◌ {A = Option Wish} (Some (news_wish false)) (Some wish) = ap W first ∙ ap E rest ∙ wished in
    ap (λ (w : Wish). w.client) (same_Some (news_wish false) wish is)
wish_is (q ∷ []) earlier p answer given wish parts replied wished =
    let second : authorize_pair ≡ p = cc in
    let never : login_page ≡ op.Answered answer given = ap (λ (r : OpPair). r.reply) second ∙ replied in
    absurd (cc)
wish_is (q ∷ r ∷ []) earlier p answer given wish parts replied wished = absurd (cc)
wish_is (q ∷ r ∷ x ∷ later) earlier p answer given wish parts replied wished = absurd (cc)

no_tokens : (later earlier : OpPast) (p : OpPair) (access : Word) (id : Text) → past ≡ later ++ p ∷ earlier → p.reply ≡ op.Tokens access id → ⊥
no_tokens [] earlier p access id parts replied =
    let first : news_pair ≡ p = cc in
    let never : news_answer ≡ op.Tokens access id = ap (λ (r : OpPair). r.reply) first ∙ replied in
    absurd (cc)
no_tokens (q ∷ []) earlier p access id parts replied =
    let second : authorize_pair ≡ p = cc in
    let never : login_page ≡ op.Tokens access id = ap (λ (r : OpPair). r.reply) second ∙ replied in
    absurd (cc)
no_tokens (q ∷ r ∷ []) earlier p access id parts replied = absurd (cc)
no_tokens (q ∷ r ∷ x ∷ later) earlier p access id parts replied = absurd (cc)

for_news : (access : Word) (wish : Wish) (session : SessionRow) → IsAccessFor c past access wish session → ◌≡◌ {A = ℕ} 1 wish.client
for_news access wish session (inl a) = wish_is a.later a.earlier a.pair a.answer a.authorizes.given wish a.parts a.authorizes.replied a.authorizes.wished
for_news access wish session (inr r) = absurd (no_tokens r.later r.earlier r.pair access r.id r.parts r.redeems.replied)

-- the number of a party
abbrev number_of : Place → ℕ
number_of (Provider from asked p) = 0
number_of (Party n from asked p) = n
number_of Nothing = 0

shop_server : (n from : ℕ) (brought : WorldAsk) (p : RpPair) → Has before (Party n from brought p) → ◌≡◌ {A = ℕ} 0 n
shop_server n from brought p (inl same) = ap number_of same
shop_server n from brought p (inr (inl same)) = ap number_of same
shop_server n from brought p (inr (inr (inl same))) = ap number_of same
shop_server n from brought p (inr (inr (inr (inl same)))) = ap number_of same
shop_server n from brought p (inr (inr (inr (inr never)))) = absurd never

pub not_without_unforged_tokens : ((s : Site) (world : World) → IsSite s → IsLegalWorld s world → HasDistinctWords world → IsUnleaked world → IsJoined world → HasDistinctHashes world → IsUnshared world → EachInfo (ClientGetsClaims s) world)
    → ⊥
not_without_unforged_tokens law =
    let g : ClientGetsClaims s before 0 asks info_pair claims = law s forged site_is legal distinct unleaked all_joined hashes unshared [] before 0 asks info_pair claims refl refl in
    let own = g.own_server refl in
    let taker : IsTaken before asks g.gets.informs.access = own.0 in
    let number : ◌≡◌ {A = ℕ} 0 taker.number = shop_server taker.number taker.from taker.brought taker.pair taker.has in
    let C : ℕ → ℕ = λ n. client_of_party s n in
    let shop : ◌≡◌ {A = ℕ} 0 g.gets.wish.client = ap C number ∙ own.1 in
    let news : ◌≡◌ {A = ℕ} 1 g.gets.wish.client = for_news g.gets.informs.access g.gets.wish g.gets.session g.gets.informs.access_for in
    absurd (omega (arith, shop, news))
