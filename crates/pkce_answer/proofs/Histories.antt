-- The laws over histories of any weight: the limit of such a history is its own weight.
use Rattle.std.proofs.Common.{◌≡◌, ◌≤◌, ℕ, List, [], ◌∷◌, ◌++◌, reverse, Option, Some, Ok, refl, arith}
use Rattle.sso_base.specs.Words.{Word, Text}
use Rattle.sso_base.specs.Journal.{history_weight}
use Rattle.sso_base.specs.declared.history.Pair.{Pair}
use Rattle.client_registry.specs.Configuration.{Configuration}
use Rattle.auth_request.specs.declared.wish.Wish.{Wish}
use Rattle.token_endpoint.specs.declared.granting.Grant.{Grant}
use Rattle.code_grant.specs.declared.rows.CodeRow.{CodeRow}
use Rattle.op_exchange.specs.declared.ask.OpAsk.{OpAsk}
use Rattle.op_exchange.specs.declared.ask.OpAsk.TheVariants.{Token}
use Rattle.op_exchange.specs.declared.reply.OpReply.{OpReply}
use Rattle.op_exchange.specs.declared.reply.OpReply.TheVariants.{Tokens}
use Rattle.op_answer.specs.Past.{OpPair}
use Rattle.op_answer.specs.Codes.{held_code}
use Rattle.core_stack.specs.Asked.{CodeAsked}
use Rattle.core_stack.specs.Stacked.{IsStack, IsProvided}
use Rattle.core_stack.proofs.Provided.{provided_front, provided_stack}
use Rattle.pkce_answer.specs.Challenges.{Digest, asked_mark}
use Rattle.pkce_answer.specs.Around.{Outer, inner_history, outer_plain, outer_told, outer_given, outer_weight}
use Rattle.pkce_answer.specs.Answering.{IsLegalPkce, IsPkceHistory}
use Rattle.pkce_answer.specs.Laws.{HasNewWords, WasAsked, IsRedeemed}
use Rattle.pkce_answer.proofs.Redeeming.{was_asked, is_redeemed}
use Rattle.pkce_answer.proofs.OneRequest.{one_request}

low_same : (n : ℕ) → n ≤ n
low_same n = omega arith

module _ {A R : Type 0} (plain : A → Option OpAsk) (told given : R → Option OpReply) (IsAsk : A → Type 0) (provided : List (Pair A R) → List OpPair) (begins : provided [] ≡ []) (c : Configuration) where
  abbrev IsHistory : List (Outer A R) → Type 0
  IsHistory h = IsPkceHistory plain told given provided IsAsk c h

  abbrev nothing : A → ℕ
  nothing asked = 0

  abbrev limit : ℕ → ℕ
  limit n = n

  abbrev Inside : ℕ → List (Pair A R) → Type 0
  Inside n h = IsProvided plain told given provided c h

  abbrev weight : List (Outer A R) → ℕ
  weight h = history_weight (outer_weight nothing) h

  begins_inside : (n : ℕ) (front rest : List (Pair A R)) → Inside n (front ++ rest) → Inside n front
  begins_inside n front rest is = provided_front plain told given provided c front rest is

  stack : (n : ℕ) → IsStack plain given provided (Inside n) c
  stack n = provided_stack plain told given provided c begins

  within_itself : (h : List (Outer A R)) → IsHistory h → IsLegalPkce plain given IsAsk nothing limit Inside (weight h) h
  within_itself h is = record { answered = is.answered; inner = is.inner; light = low_same (weight h) }

  pub asked_in : (h : List (Outer A R)) (at : ℕ) (w : Word) (code : CodeRow) → IsHistory h → held_code (reverse (provided (inner_history h))) at (Some w) ≡ Some code
      → WasAsked plain given (reverse h) at w code
  asked_in h at w code is held = was_asked plain given IsAsk nothing limit Inside begins_inside provided (weight h) c (stack (weight h)) h at w code (within_itself h is) held

  pub one_in : (h : List (Outer A R)) (w : Word) (one other : Option Digest) (wish wanted : Wish) → IsHistory h → HasNewWords (reverse h)
      → CodeAsked (outer_plain plain) (outer_given given) asked_mark (reverse h) w one wish → CodeAsked (outer_plain plain) (outer_given given) asked_mark (reverse h) w other wanted
      → (one ≡ other) × (wish ≡ wanted)
  one_in h w one other wish wanted is new a b =
      one_request plain given IsAsk nothing limit Inside begins_inside provided (weight h) c (stack (weight h)) h w one other wish wanted (within_itself h is) new a b

  pub redeemed_in : (h : List (Outer A R)) (p : Outer A R) (grant : Grant) (access : Word) (id : Text) → IsHistory (h ++ p ∷ []) → plain p.entry.ask.inner ≡ Some (Token (Ok grant))
      → outer_told told p.reply ≡ Some (Tokens access id) → IsRedeemed plain given (reverse h) (provided (inner_history h)) p.entry grant
  redeemed_in h p grant access id is asked said =
      let n : ℕ = weight (h ++ p ∷ []) in
      is_redeemed plain given IsAsk nothing limit Inside begins_inside provided n c (stack n) told (λ q l r inside is_told own. inside.gives l [] q r refl is_told own) h p grant access id
      (within_itself (h ++ p ∷ []) is) asked said
