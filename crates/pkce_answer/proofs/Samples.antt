-- The definitions computed: what each accepts, and what it refuses.
use Rattle.std.proofs.Common.{◌≡◌, ℕ, Bool, true, cond, List, [], ◌∷◌, ◌++◌, Option, Some, None, codes, replicate, refl, ap, arith}
use Rattle.sso_base.proofs.RowLaws.{bytes_true}
use Rattle.auth_request.specs.declared.wish.Verdict.TheVariants.{Grant}
use Rattle.token_endpoint.specs.declared.error.TokenError.TheVariants.{InvalidRequest, InvalidGrant}
use Rattle.op_exchange.specs.declared.ask.OpAsk.{OpAsk}
use Rattle.op_exchange.specs.declared.ask.OpAsk.TheVariants as ask
use Rattle.op_exchange.specs.declared.reply.OpReply.{OpReply}
use Rattle.op_exchange.specs.declared.reply.OpReply.TheVariants.{LoginPage, Refused, TokenRefused}
use Rattle.op_exchange.proofs.Sample.{word, words, wish}
use Rattle.op_answer.proofs.FirstLogin.{login_page, code_answer}
use Rattle.pkce_answer.specs.declared.asks.Challenge.{Challenge}
use Rattle.pkce_answer.specs.declared.asks.Challenge.TheVariants as challenge
use Rattle.pkce_answer.specs.declared.asks.Verifier.TheVariants as verifier
use Rattle.pkce_answer.specs.declared.asks.PkceReply.{PkceReply}
use Rattle.pkce_answer.specs.declared.asks.PkceReply.TheVariants.{Through, Own}
use Rattle.pkce_answer.specs.Challenges.{Digest, challenge_of, IsChallenge}
use Rattle.pkce_answer.specs.Around.{Outer, inner_history, outer_given}
use Rattle.pkce_answer.specs.Answering.{token_refusal, invalid_request, wish_refusal, IsReply, code_challenge, pkce_answer}
use Rattle.pkce_answer.specs.Laws.{HasNewWords, Fits}

abbrev digest : Digest
digest = replicate 43 97

-- ---- token requests

needs_a_verifier : token_refusal (Some digest) verifier.Absent ≡ Some (TokenRefused InvalidGrant)
needs_a_verifier = refl

pub takes_its_verifier : (text : List ℕ) → token_refusal (Some (challenge_of text)) (verifier.Given text) ≡ None
takes_its_verifier text =
    let C : Bool → Option OpReply = λ b. cond b None (Some (TokenRefused InvalidGrant)) in
    ap C (bytes_true (challenge_of text) (challenge_of text) refl)

takes_no_other : token_refusal None (verifier.Given (codes "text")) ≡ Some (TokenRefused InvalidGrant)
takes_no_other = refl

needs_none : token_refusal None verifier.Absent ≡ None
needs_none = refl

bad_is_malformed : token_refusal None verifier.Bad ≡ Some (TokenRefused InvalidRequest)
bad_is_malformed = refl

fits_alone : Fits None verifier.Absent
fits_alone = refl

not_with_a_verifier : Fits None (verifier.Given (codes "text")) → ⊥
not_with_a_verifier h = absurd (cc)

fits_its_own : (text : List ℕ) → Fits (Some (challenge_of text)) (verifier.Given text)
fits_its_own text = (text, refl, refl)

not_without_a_verifier : Fits (Some digest) verifier.Absent → ⊥
not_without_a_verifier h = (let k = h.1 in cc)

-- ---- authorization requests

bad_challenge_is_refused : wish_refusal wish challenge.Bad ≡ Some (Refused (invalid_request wish) None)
bad_challenge_is_refused = refl

good_challenge_is_passed_on : wish_refusal wish (challenge.S256 digest) ≡ None
good_challenge_is_passed_on = refl

-- ---- a login by code, asked with a challenge

abbrev plain : OpAsk → Option OpAsk
plain asked = Some asked

abbrev given : OpReply → Option OpReply
given reply = Some reply

abbrev passed_pair : ℕ → OpAsk → Challenge → PkceReply OpReply → Outer OpAsk OpReply
passed_pair n asked c reply = record { entry = record { at = 1000; fresh = words n; ask = record { inner = asked; challenge = c; verifier = verifier.Absent } }; reply = reply }

abbrev asked_pair : Outer OpAsk OpReply
asked_pair = passed_pair 5 (ask.Authorize (Grant wish) None None) (challenge.S256 digest) (Through login_page)

abbrev again_pair : Outer OpAsk OpReply
again_pair = passed_pair 9 (ask.Login (Some (word 6)) None (Some (word 5)) None) challenge.Absent (Through (LoginPage (word 6) (word 5) true))

abbrev answer_pair : Outer OpAsk OpReply
answer_pair = passed_pair 13 (ask.Consent (Some (word 6)) true (Some (word 5)) (Some (word 9))) challenge.Absent (Through code_answer)

abbrev refused_pair : Outer OpAsk OpReply
refused_pair = passed_pair 1 (ask.Authorize (Grant wish) None None) challenge.Bad (Own (Refused (invalid_request wish) None))

-- the challenge stays through a wrong password
code_has_its_challenge : code_challenge plain given (answer_pair ∷ again_pair ∷ asked_pair ∷ []) 1000 (Some (word 15)) ≡ Some digest
code_has_its_challenge = refl

other_code_has_none : code_challenge plain given (answer_pair ∷ again_pair ∷ asked_pair ∷ []) 1000 (Some (word 16)) ≡ None
other_code_has_none = refl

-- what is refused is not passed on
one_is_passed_on : inner_history (refused_pair ∷ asked_pair ∷ []) ≡ record { entry = record { at = 1000; fresh = words 5; ask = ask.Authorize (Grant wish) None None }; reply = login_page } ∷ []
one_is_passed_on = refl

refused_is_the_answer : IsReply (pkce_answer plain given [] 1000 refused_pair.entry.ask) refused_pair.reply
refused_is_the_answer = refl

not_passed_on : IsReply (pkce_answer plain given [] 1000 refused_pair.entry.ask) (Through login_page) → ⊥
not_passed_on h = absurd (cc)

provider_gave_none : outer_given given refused_pair.reply ≡ None
provider_gave_none = refl

-- ---- values of their types

digest_is_one : IsChallenge (challenge.S256 digest)
digest_is_one = refl

-- ---- new words

nothing_before : (later earlier : List (Outer OpAsk OpReply)) (p : Outer OpAsk OpReply) → [] ≡ later ++ p ∷ earlier → ⊥
nothing_before [] earlier p is = cc
nothing_before (q ∷ later) earlier p is = cc

one_pair_draws_new_words : HasNewWords (asked_pair ∷ [])
one_pair_draws_new_words = (tt, λ n low drawn. nothing_before drawn.later drawn.earlier drawn.maker drawn.parts)

not_the_same_words_twice : HasNewWords (asked_pair ∷ asked_pair ∷ []) → ⊥
not_the_same_words_twice new = new.1 0 (omega arith) (record { later = []; maker = asked_pair; earlier = []; parts = refl; number = 0; low = omega arith; drawn = refl })
