-- The replies of the core (RFC 7636, 4.4 to 4.6). It stands around an inner core, whose requests and replies are A and R. `plain` gives
-- the provider's request in a request, and `given` the reply that the provider gave.
use Rattle.std.specs.Prelude.{◌≡◌, ℕ, Bool, true, false, List, reverse, Option, Some, None, Ok, if◌then◌else◌}
use Rattle.std.specs.Str.{bytes_eq}
use Rattle.sso_base.specs.Words.{Word, word_of_text}
use Rattle.sso_base.specs.declared.history.Entry.{Entry}
use Rattle.sso_base.specs.declared.history.Pair.{Pair}
use Rattle.oidc_words.specs.Types.{is_in_fragment}
use Rattle.oidc_words.specs.declared.errors.Refusal.{Refusal}
use Rattle.oidc_words.specs.declared.errors.AuthError.TheVariants as auth_error
use Rattle.client_registry.specs.Configuration.{Configuration}
use Rattle.auth_request.specs.declared.wish.Wish.{Wish}
use Rattle.auth_request.specs.declared.wish.Verdict.TheVariants.{Grant}
use Rattle.token_endpoint.specs.declared.error.TokenError.TheVariants as token_error
use Rattle.op_exchange.specs.declared.ask.OpAsk.{OpAsk}
use Rattle.op_exchange.specs.declared.ask.OpAsk.TheVariants.{Authorize, Token}
use Rattle.op_exchange.specs.declared.reply.OpReply.{OpReply}
use Rattle.op_exchange.specs.declared.reply.OpReply.TheVariants.{Refused, TokenRefused}
use Rattle.op_answer.specs.Past.{OpPair}
use Rattle.core_stack.specs.Marks.{mark_in_code, marked_code}
use Rattle.core_stack.specs.Stacked.{AreAnswered, IsLegalStack, IsProvided}
use Rattle.pkce_answer.specs.declared.asks.Challenge.{Challenge}
use Rattle.pkce_answer.specs.declared.asks.Challenge.TheVariants as challenge
use Rattle.pkce_answer.specs.declared.asks.Verifier.{Verifier}
use Rattle.pkce_answer.specs.declared.asks.Verifier.TheVariants as verifier
use Rattle.pkce_answer.specs.declared.asks.PkceAsk.{PkceAsk}
use Rattle.pkce_answer.specs.declared.asks.PkceReply.{PkceReply}
use Rattle.pkce_answer.specs.declared.asks.PkceReply.TheVariants.{Through, Own}
use Rattle.pkce_answer.specs.Challenges.{Digest, challenge_of, asked_mark, IsPkceAsk}
use Rattle.pkce_answer.specs.Around.{Outer, passed, inner_history, outer_plain, outer_given, outer_weight}

-- ---- which requests are refused

-- A token request for a code, by the challenge of the authorization request that the code answers: it needs the verifier of that
-- challenge, and none if there is no challenge (RFC 7636, 4.6).
abbrev pub token_refusal : Option Digest → Verifier → Option OpReply
token_refusal asked verifier.Bad = Some (TokenRefused token_error.InvalidRequest)
token_refusal (Some digest) verifier.Absent = Some (TokenRefused token_error.InvalidGrant)
token_refusal (Some digest) (verifier.Given text) =
    if bytes_eq (challenge_of text) digest then None else Some (TokenRefused token_error.InvalidGrant)
token_refusal None (verifier.Given text) = Some (TokenRefused token_error.InvalidGrant)
token_refusal None verifier.Absent = None

abbrev pub invalid_request : Wish → Refusal
invalid_request wish =
    record { redirect = wish.redirect; fragment = is_in_fragment wish.types; state = wish.state; code = auth_error.InvalidRequest }

abbrev pub refused_if : Bool → Wish → Option OpReply
refused_if true wish = Some (Refused (invalid_request wish) None)
refused_if false wish = None

-- an authorization request for a code, with a challenge that is none of the method S256 (RFC 7636, 4.4.1)
abbrev pub wish_refusal : Wish → Challenge → Option OpReply
wish_refusal wish challenge.Bad = refused_if wish.types.code wish
wish_refusal wish other = None

-- an entry that is refused gets that refusal, and any other is passed on
abbrev pub IsReply : {R : Type 0} → Option OpReply → PkceReply R → Type 0
IsReply (Some own) reply = reply ≡ Own own
IsReply {R} None reply = (inner : R) × (reply ≡ Through inner)

module _ {A R : Type 0} (plain : A → Option OpAsk) (given : R → Option OpReply) where
  -- the challenge of the authorization request that a code answers
  abbrev pub code_challenge : List (Outer A R) → ℕ → Option Word → Option Digest
  code_challenge past at w = mark_in_code None (marked_code (outer_plain plain) (outer_given given) asked_mark None past at w)

  abbrev pub refusal_by : List (Outer A R) → ℕ → Challenge → Verifier → Option OpAsk → Option OpReply
  refusal_by past at c v (Some (Authorize (Grant wish) browser session)) = wish_refusal wish c
  refusal_by past at c v (Some (Token (Ok grant))) = token_refusal (code_challenge past at (word_of_text grant.code)) v
  refusal_by past at c v asked = None

  -- the refusal of a request at a moment, if it is refused without the inner core
  abbrev pub pkce_answer : List (Outer A R) → ℕ → PkceAsk A → Option OpReply
  pkce_answer past at asked = refusal_by past at asked.challenge asked.verifier (plain asked.inner)

  abbrev pub IsPkceReply : List (Outer A R) → Entry (PkceAsk A) → PkceReply R → Type 0
  IsPkceReply past e reply = IsReply (pkce_answer past e.at e.ask) reply

-- ---- legal histories

abbrev pub IsLegalPkce : {A R S : Type 0} → (A → Option OpAsk) → (R → Option OpReply) → (A → Type 0) → (A → ℕ) → (S → ℕ)
    → (S → List (Pair A R) → Type 0) → S → List (Outer A R) → Type 0
IsLegalPkce plain given IsAsk weighs most IsLegalInner s h =
    IsLegalStack (IsPkceAsk IsAsk) (IsPkceReply plain given) passed (outer_weight weighs) most IsLegalInner s h

-- A history, oldest pair first, whatever it weighs: its replies are those of this core, and over what was passed on the provider's history
-- is legal. `told` gives the provider's reply in a reply, whoever gave it, and `provided` the provider's history.
pub record IsPkceHistory
    {A R : Type 0} (plain : A → Option OpAsk) (told given : R → Option OpReply) (provided : List (Pair A R) → List OpPair)
    (IsAsk : A → Type 0) (c : Configuration) (h : List (Outer A R)) : Type 0 where
  pub answered : AreAnswered (IsPkceAsk IsAsk) (IsPkceReply plain given) (reverse h)
  pub inner : IsProvided plain told given provided c (inner_history h)
