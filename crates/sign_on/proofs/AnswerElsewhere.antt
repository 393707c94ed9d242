-- A world that breaks only one premise: browser 1 makes a whole login by code, and the answer of the token endpoint reaches the
-- shop under the number of browser 2. All answers are real, and the shop accepts the login for browser 2. The ID Token is what
-- the provider writes, and by the lemma about written tokens it is read back.
use Rattle.std.proofs.Common.{◌≡◌, ℕ, zero, suc, ◌&&◌, ◌||◌, not, Bool, true, false, [], ◌∷◌, Some, None, Result, Ok, codes, inl, inr, refl, sym, ap, ◌∙◌, arith}
use Rattle.std.specs.Str.{IsUtf8}
use Rattle.sso_base.specs.Words.{Text, word_text}
use Rattle.sso_base.specs.declared.history.Entry.{Entry}
use Rattle.sso_base.specs.declared.message.Answered.{Answered}
use Rattle.sso_base.proofs.RowLaws.{bytes_true}
use Rattle.sso_base.proofs.Utf8Bytes.{IsUtf8-are_ascii}
use Rattle.sso_base.proofs.WordUtf8.{IsUtf8-word_text}
use Rattle.sso_model.specs.Rows.{Began}
use Rattle.jws_compact.proofs.OnLiterals.{jws_on_literals}
use Rattle.claim_set.proofs.OnLiterals.{claims_on_literals}
use Rattle.client_registry.specs.ClientSets.{no_clients}
use Rattle.request_params.proofs.OnLiterals.{request_params_on_literals}
use Rattle.id_token.specs.declared.claims.IdClaims.{IdClaims}
use Rattle.id_token.specs.declared.no.IdNo.{IdNo}
use Rattle.id_token.specs.HalfHash.{half_hash_of}
use Rattle.id_token.specs.Reading.{id_read}
use Rattle.id_token.specs.Claims.{id_members}
use Rattle.id_token.specs.Sealing.{HasTexts, id_text}
use Rattle.token_endpoint.specs.declared.reading.Tokens.{Tokens}
use Rattle.token_endpoint.specs.declared.no.TokensNo.{TokensNo}
use Rattle.userinfo.specs.Held.{held_members, user_claims, text_claims}
use Rattle.op_issue.specs.IdTokens.{id_claims, issued_id}
use Rattle.op_issue.specs.Issuing.{MayIssue}
use Rattle.op_issue.proofs.Sealable.{has_texts, is_read_back}
use Rattle.op_exchange.specs.Values.{IsOpAsk}
use Rattle.op_exchange.specs.declared.reply.OpReply.{OpReply}
use Rattle.op_exchange.specs.declared.reply.OpReply.TheVariants as reply
use Rattle.op_response.specs.Telling.{http_of}
use Rattle.op_response.proofs.ReplyLaws.{tokens_are_read}
use Rattle.op_answer.specs.Legal.{IsLegalOp}
use Rattle.op_answer.specs.Answering.{op_answer}
use Rattle.op_answer.proofs.FirstLogin as op
use Rattle.rp_exchange.specs.Values.{IsRpAsk, IsIdValue}
use Rattle.rp_exchange.specs.declared.ask.RpAsk.{RpAsk}
use Rattle.rp_exchange.specs.declared.ask.RpAsk.TheVariants as ask
use Rattle.client_keys.specs.Opening.{opening}
use Rattle.rp_request.specs.Prepared.{tokens_asked, tokens_prepared}
use Rattle.rp_answer.specs.Past.{RpPair, RpPast}
use Rattle.rp_answer.specs.Legal.{IsLegalRp}
use Rattle.rp_answer.specs.Answering.{rp_answer}
use Rattle.rp_answer.proofs.Sample.{word, entry_at, pair_of, shop_client}
use Rattle.rp_answer.proofs.FirstVisit as rp
use Rattle.sso_places.specs.declared.types.WorldAsk.TheVariants as came
use Rattle.sso_places.specs.Site.{setup_at}
use Rattle.sso_places.specs.World.{Place, Provider, Party, World, rp_past, drawn}
use Rattle.sso_places.specs.Legal.{IsLegalWorld}
use Rattle.sso_places.specs.Premises.{HasDistinctWords, IsUnleaked, IsUnforged, IsJoined, is_written}
use Rattle.sso_places.specs.Agreement.{SignsOn}
use Rattle.sso_places.proofs.SmallSite.{configuration, site, registry, drawn_word, are_distinct, legal_entry, is_other}
use Rattle.sso_places.proofs.LoginByCode.{begins, authorizes, logs_in, consents, brings_code, redeems, authorize_entry, callback_entry, token_entry, code_answer, exchange, our_wish, nonce_fits, code_text, past_consent, begin_is_asked, begin_is_answered, authorize_is_asked, login_is_asked, consent_is_asked, callback_is_asked, callback_is_answered, token_is_asked, code_is, wish_is_value, consent_legal}

-- ---- the provider gives tokens

abbrev id : Text
id = issued_id configuration our_wish op.signed_alice 1000 (Some (word 21)) None

abbrev claims : IdClaims
claims = id_claims configuration our_wish op.signed_alice 1000 (Some (word 21)) None

abbrev tokens : OpReply
tokens = reply.Tokens (word 21) id

token_is_answered : op_answer configuration past_consent token_entry ≡ tokens
unfolding op_answer
token_is_answered = rw code_is refl

may_issue : MayIssue configuration our_wish op.signed_alice 1000
may_issue =
    record {
      registry = registry;
      client = omega arith;
      user = omega arith;
      nonce = refl;
      sid = drawn_word (word 10) refl refl;
      auth_time = omega arith;
      moment = omega arith;
    }

is_read : id_read shop_client.secret id ≡ Ok claims
is_read = is_read_back configuration our_wish op.signed_alice 1000 (Some (word 21)) None may_issue wish_is_value

id_is_utf8 : IsUtf8 id
unfolding issued_id id_text id_claims id_members held_members user_claims text_claims jws_on_literals claims_on_literals
id_is_utf8 = IsUtf8-are_ascii id refl

-- ---- its answer comes to the shop

abbrev answer : Answered
answer = record { status = (http_of configuration tokens).status; body = (http_of configuration tokens).body }

abbrev answer_entry : Entry RpAsk
answer_entry = entry_at 1000 25 (ask.Tokens (word 17) (Ok (record { access = word_text (word 21); id = id })) (Some (Ok claims)))

answer_is_asked : tokens_prepared configuration 0 (word 17) answer ≡ answer_entry.ask
unfolding tokens_prepared opening
answer_is_asked =
    let A : Result Tokens TokensNo → RpAsk = λ r. tokens_asked shop_client (word 17) r in
    let I : Result IdClaims IdNo → RpAsk = λ r. ask.Tokens (word 17) (Ok (record { access = word_text (word 21); id = id })) (Some r) in
    ap A (tokens_are_read configuration (word 21) id id_is_utf8) ∙ ap I is_read

abbrev past_callback : RpPast
past_callback = pair_of callback_entry exchange ∷ rp.past_begin

answer_is_answered : rp_answer (setup_at site 0) past_callback answer_entry ≡ rp.entered
unfolding rp_answer id_claims
answer_is_answered =
    let half = half_hash_of (word_text (word 21)) in
    rw (nonce_fits, bytes_true half half refl) refl

-- ---- the world

abbrev begin_pair : RpPair
begin_pair = pair_of rp.begin_entry rp.asked

abbrev callback_pair : RpPair
callback_pair = pair_of callback_entry exchange

abbrev answer_pair : RpPair
answer_pair = pair_of answer_entry rp.entered

abbrev callback : Place
callback = Party 0 1 (came.Http brings_code) callback_pair

abbrev exchanged : World
exchanged =
    Provider 0 redeems (op.pair_of token_entry tokens)
    ∷ callback
    ∷ Provider 1 consents (op.pair_of op.consent_entry code_answer)
    ∷ Provider 1 logs_in (op.pair_of op.login_entry op.consent_page)
    ∷ Provider 1 authorizes (op.pair_of authorize_entry op.login_page)
    ∷ Party 0 1 (came.Http begins) begin_pair
    ∷ []

abbrev pub elsewhere : World
elsewhere = Party 0 2 (came.Tokens (word 17) answer) answer_pair ∷ exchanged

-- ---- it is legal

provider_legal : IsLegalOp configuration (op.pair_of token_entry tokens ∷ past_consent)
provider_legal = (
  consent_legal,
  legal_entry IsOpAsk 21 token_entry.ask refl (record { client = omega arith; code = IsUtf8-are_ascii code_text refl; redirect = IsUtf8-are_ascii our_wish.redirect refl }),
  omega arith,
  sym token_is_answered,
)

claims_are_values : IsIdValue claims
unfolding id_claims
claims_are_values =
    let texts : HasTexts claims = has_texts configuration our_wish op.signed_alice 1000 (Some (word 21)) None may_issue wish_is_value in
    record {
      iss = texts.iss;
      sub = IsUtf8-are_ascii (codes "alice") refl;
      aud = texts.aud;
      azp = tt;
      exp = omega arith;
      iat = omega arith;
      auth_time = omega arith;
      nonce = texts.nonce;
      sid = texts.sid;
      at_hash = texts.at_hash;
      c_hash = tt;
      more = texts.more;
    }

answer_asks : IsRpAsk answer_entry.ask
answer_asks = (drawn_word (word 17) refl refl, (IsUtf8-word_text (word 21), id_is_utf8), claims_are_values)

callback_asks : IsRpAsk callback_entry.ask
callback_asks = (record { state = drawn_word (word 2) refl refl; code = IsUtf8-are_ascii code_text refl; access = tt; id = tt }, tt, drawn_word (word 1) refl refl)

each_legal : (n : ℕ) → IsLegalRp (setup_at site n) (rp_past n elsewhere)
each_legal zero = (
  (
    (tt, legal_entry IsRpAsk 1 rp.begin_entry.ask refl tt, omega arith, sym begin_is_answered),
    legal_entry IsRpAsk 17 callback_entry.ask refl callback_asks,
    omega arith,
    sym callback_is_answered,
  ),
  legal_entry IsRpAsk 25 answer_entry.ask refl answer_asks,
  omega arith,
  sym answer_is_answered,
)
each_legal (suc n) = rw (is_other 0 (suc n) (λ same. omega (arith, same))) tt

pub legal : IsLegalWorld site elsewhere
legal =
    record {
      provider = provider_legal;
      parties = each_legal;
      asked = (
        (omega arith, sym answer_is_asked),
        (
          sym token_is_asked,
          (
            (omega arith, sym callback_is_asked),
            (sym consent_is_asked, (sym login_is_asked, (sym authorize_is_asked, ((omega arith, sym begin_is_asked), tt)))),
          ),
        ),
      );
    }

-- ---- the premises

pub distinct : HasDistinctWords elsewhere
distinct = are_distinct (drawn elsewhere) refl

pub unleaked : IsUnleaked elsewhere
unleaked = (((((((tt, refl), refl), refl), refl), refl), refl), refl)

was_written : is_written site exchanged (0, id) ≡ true
was_written = rw (bytes_true id id refl) refl

not_forged : (seals written : Bool) → written ≡ true → ((seals && not written) || false) ≡ false
not_forged true true is = refl
not_forged false true is = refl
not_forged seals false is = absurd (cc)

pub unforged : IsUnforged site elsewhere
unfolding request_params_on_literals
unforged = (((((((tt, refl), refl), refl), refl), refl), refl), not_forged _ _ was_written)

apart : IsJoined elsewhere → ⊥
apart whole =
    let same : ◌≡◌ {A = ℕ} 1 2 = whole.1 callback refl in
    absurd (omega (arith, same))

-- browser 2 began no login
pub no_run : SignsOn site elsewhere → ⊥
unfolding SignsOn no_clients id_claims
no_run =
    rw code_is (λ signs.
    elim signs.1.0.0 [
      | inl same ↦ let other : ◌≡◌ {A = ℕ} 1 2 = ap (λ (b : Began). b.browser) same in absurd (omega (arith, other))
      | inr never ↦ never
    ])
