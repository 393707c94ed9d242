-- A world that breaks only one premise: browser 1 begins a login at a relying party of the type `id_token token`, and presents
-- an ID Token of alice that somebody sealed under the client's secret. The provider received no request. The party's answers
-- are real, and it accepts the login of browser 1.
use Rattle.std.proofs.Common.{◌≡◌, ◌++◌, ℕ, zero, suc, ◌&&◌, ◌||◌, Bool, true, false, [], ◌∷◌, codes, Some, None, Ok, refl, sym, ap, ◌∙◌, arith}
use Rattle.std.specs.Str.{IsUtf8, bytes_eq}
use Rattle.sso_base.specs.Words.{Text}
use Rattle.sso_base.specs.declared.history.Entry.{Entry}
use Rattle.sso_base.specs.declared.http.Ask.{Ask}
use Rattle.sso_base.proofs.OnLiterals.{base64url_on_literals}
use Rattle.sso_base.proofs.Utf8Bytes.{IsUtf8-are_ascii}
use Rattle.hmac256.proofs.OnLiterals.{hmac_on_literals}
use Rattle.claim_set.proofs.Fitting.{ClaimsFit-none}
use Rattle.claim_set.proofs.OnLiterals.{claims_on_literals}
use Rattle.jws_compact.specs.declared.sealing.Typ.TheVariants.{Jwt}
use Rattle.jws_compact.specs.Jws.{seal_text}
use Rattle.jws_compact.proofs.OnLiterals.{jws_on_literals}
use Rattle.client_keys.specs.Opening.{opening}
use Rattle.id_token.specs.declared.claims.IdClaims.{IdClaims}
use Rattle.id_token.specs.HalfHash.{half_hash_of}
use Rattle.id_token.specs.Reading.{raw_in, whole, id_of, id_read}
use Rattle.auth_answer.specs.declared.heard.Heard.{Heard}
use Rattle.auth_answer.proofs.OnLiterals.{auth_answer_on_literals}
use Rattle.rp_exchange.specs.Values.{IsRpAsk}
use Rattle.rp_exchange.specs.declared.ask.RpAsk.{RpAsk}
use Rattle.rp_exchange.specs.declared.ask.RpAsk.TheVariants as ask
use Rattle.rp_request.specs.Prepared.{prepared}
use Rattle.rp_answer.specs.Past.{RpPair}
use Rattle.rp_answer.specs.Legal.{IsLegalRp}
use Rattle.rp_answer.specs.Answering.{rp_answer}
use Rattle.rp_answer.proofs.Sample.{word, entry_at, pair_of, news_client}
use Rattle.rp_answer.proofs.FirstVisit.{begin_entry}
use Rattle.rp_answer.proofs.FrontLogin.{asked_front, past_front, heard_front, with_hash, entered_front}
use Rattle.sso_places.specs.declared.types.WorldAsk.TheVariants.{Http}
use Rattle.sso_places.specs.Site.{setup_at}
use Rattle.sso_places.specs.Tokens.{is_sealed}
use Rattle.sso_places.specs.World.{Party, World, rp_past, drawn}
use Rattle.sso_places.specs.Legal.{IsLegalWorld}
use Rattle.sso_places.specs.Premises.{HasDistinctWords, IsUnleaked, IsUnforged, IsJoined}
use Rattle.sso_places.specs.Agreement.{SignsOn}
use Rattle.sign_on.proofs.Texts.{read_is_sealed}
use Rattle.sso_places.proofs.SmallSite.{configuration, site, drawn_word, are_distinct, legal_entry, is_other}
use Rattle.sso_places.proofs.LoginByCode.{begins, posted, nonce_text, nonce_fits}

-- ---- the login begins

pub news_is_asked : prepared configuration 1 begins ≡ ask.Begin None
unfolding prepared
news_is_asked = refl

pub news_is_answered : rp_answer (setup_at site 1) [] begin_entry ≡ asked_front
unfolding rp_answer
news_is_answered = refl

-- ---- the forged token, for this login and for the access token with it

abbrev hash_text : Text
hash_text = codes "oFYf1knNtrqnhAVfBRuteQ"

hash_is : bytes_eq hash_text (half_hash_of (codes "access")) ≡ true
unfolding hmac_on_literals base64url_on_literals
hash_is = refl

abbrev token : Text
token =
    seal_text news_client.secret Jwt
    (codes "{\"at_hash\":\"oFYf1knNtrqnhAVfBRuteQ\",\"aud\":\"news-client\",\"auth_time\":1000,\"exp\":1300,\"iat\":1000,\"iss\":\"http://127.0.0.1:8080\",\"nonce\":\"AAAAAAAAAAAAAAAAAAAAAAAAAAAAAAAAAAAAAAAAAAM\",\"sid\":\"sid\",\"sub\":\"alice\"}")

abbrev claims : IdClaims
claims = with_hash nonce_text hash_text

is_read : id_read news_client.secret token ≡ Ok claims
unfolding jws_on_literals claims_on_literals id_read id_of raw_in whole
is_read = refl

-- ---- the callback

abbrev brings_token : Ask
brings_token =
    posted (codes "/cb") (codes "state=AAAAAAAAAAAAAAAAAAAAAAAAAAAAAAAAAAAAAAAAAAI&access_token=access&token_type=Bearer&id_token=" ++ token) (Some (word 1)) None

abbrev heard : Heard
heard = record (heard_front (codes "access")) { id = Some token }

abbrev callback_entry : Entry RpAsk
callback_entry = entry_at 1000 17 (ask.Callback (Ok heard) (Some (Ok claims)) (Some (word 1)))

callback_is_asked : prepared configuration 1 brings_token ≡ callback_entry.ask
unfolding prepared opening auth_answer_on_literals jws_on_literals claims_on_literals id_read id_of raw_in whole
callback_is_asked = refl

callback_is_answered : rp_answer (setup_at site 1) past_front callback_entry ≡ entered_front
unfolding rp_answer
callback_is_answered = rw (nonce_fits, hash_is) refl

token_is_utf8 : IsUtf8 token
unfolding jws_on_literals
token_is_utf8 = IsUtf8-are_ascii token refl

-- ---- the world

abbrev begin_pair : RpPair
begin_pair = pair_of begin_entry asked_front

abbrev callback_pair : RpPair
callback_pair = pair_of callback_entry entered_front

abbrev pub forged : World
forged = Party 1 1 (Http brings_token) callback_pair ∷ Party 1 1 (Http begins) begin_pair ∷ []

asks : IsRpAsk callback_entry.ask
asks = (
  record { state = drawn_word (word 2) refl refl; code = tt; access = IsUtf8-are_ascii (codes "access") refl; id = token_is_utf8 },
  record {
    iss = IsUtf8-are_ascii claims.iss refl;
    sub = IsUtf8-are_ascii claims.sub refl;
    aud = (IsUtf8-are_ascii (codes "news-client") refl, tt);
    azp = tt;
    exp = omega arith;
    iat = omega arith;
    auth_time = omega arith;
    nonce = IsUtf8-are_ascii nonce_text refl;
    sid = IsUtf8-are_ascii (codes "sid") refl;
    at_hash = IsUtf8-are_ascii hash_text refl;
    c_hash = tt;
    more = ClaimsFit-none;
  },
  drawn_word (word 1) refl refl,
)

each_legal : (n : ℕ) → IsLegalRp (setup_at site n) (rp_past n forged)
each_legal zero = tt
each_legal (suc zero) = (
  (tt, legal_entry IsRpAsk 1 begin_entry.ask refl tt, omega arith, sym news_is_answered),
  legal_entry IsRpAsk 17 callback_entry.ask refl asks,
  omega arith,
  sym callback_is_answered,
)
each_legal (suc (suc n)) = rw (is_other 1 (suc (suc n)) (λ same. omega (arith, same))) tt

pub legal : IsLegalWorld site forged
legal = record { provider = tt; parties = each_legal; asked = ((omega arith, sym callback_is_asked), ((omega arith, sym news_is_asked), tt)) }

pub distinct : HasDistinctWords forged
distinct = are_distinct (drawn forged) refl

pub unleaked : IsUnleaked forged
unleaked = ((tt, refl), refl)

pub joined : IsJoined forged
joined = ((tt, tt), tt)

no_place_wrote_it : IsUnforged site forged → ⊥
no_place_wrote_it unforged =
    let seals : is_sealed news_client.secret token ≡ true = read_is_sealed news_client.secret token claims is_read in
    -- the client has no old secret
    let F : Bool → Bool = λ b. ((b || false) && true) || false in
    let never : true ≡ false = sym (ap F seals) ∙ unforged.1 in
    absurd (cc)

-- the provider answered nothing
pub no_run : SignsOn site forged → ⊥
unfolding SignsOn
no_run signs = signs.1.0.1.has
