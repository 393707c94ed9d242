-- What is true of codes and their verifiers, over the codes that the provider holds.
use Rattle.std.specs.Prelude.{◌≡◌, ◌<◌, ℕ, List, [], ◌∷◌, reverse, Option, Some, None}
use Rattle.sso_base.specs.Words.{Word, word_of_text, fresh_word}
use Rattle.sso_base.specs.Drawn.{IsDrawn}
use Rattle.sso_base.specs.declared.history.Entry.{Entry}
use Rattle.sso_base.specs.declared.history.Pair.{Pair}
use Rattle.token_endpoint.specs.declared.granting.Grant.{Grant}
use Rattle.code_grant.specs.declared.rows.CodeRow.{CodeRow}
use Rattle.op_exchange.specs.declared.ask.OpAsk.{OpAsk}
use Rattle.op_exchange.specs.declared.reply.OpReply.{OpReply}
use Rattle.op_answer.specs.Past.{OpPair}
use Rattle.op_answer.specs.Codes.{held_code}
use Rattle.core_stack.specs.Asked.{CodeAsked}
use Rattle.pkce_answer.specs.declared.asks.Verifier.{Verifier}
use Rattle.pkce_answer.specs.declared.asks.Verifier.TheVariants.{Absent, Given}
use Rattle.pkce_answer.specs.declared.asks.PkceAsk.{PkceAsk}
use Rattle.pkce_answer.specs.Challenges.{Digest, challenge_of, asked_mark}
use Rattle.pkce_answer.specs.Around.{Outer, outer_plain, outer_given}
use Rattle.pkce_answer.specs.Answering.{code_challenge}

-- the verifier is one of the challenge; without a challenge there is none
abbrev pub Fits : Option Digest → Verifier → Type 0
Fits (Some digest) sent = (text : List ℕ) × (sent ≡ Given text) × (challenge_of text ≡ digest)
Fits None sent = sent ≡ Absent

-- each verifier of a past that has the challenge of this text is this text
abbrev pub IsOnlyVerifier : {A R : Type 0} → List (Outer A R) → List ℕ → Type 0
IsOnlyVerifier [] text = Unit {0}
IsOnlyVerifier (p ∷ past) text =
    IsOnlyVerifier past text
    × ((other : List ℕ) → p.entry.ask.verifier ≡ Given other → challenge_of other ≡ challenge_of text → other ≡ text)

-- no pair of a past, newest pair first, drew a word that an earlier pair drew
abbrev pub HasNewWords : {A R : Type 0} → List (Pair A R) → Type 0
HasNewWords [] = Unit {0}
HasNewWords (p ∷ past) = HasNewWords past × ((n : ℕ) → n < 4 → IsDrawn past (fresh_word p.entry.fresh n) → ⊥)

module _ {A R : Type 0} (plain : A → Option OpAsk) (given : R → Option OpReply) where
  -- the code of a word answers an authorization request with this challenge, and the core finds it
  pub record WasAsked (past : List (Outer A R)) (at : ℕ) (w : Word) (code : CodeRow) : Type 0 where
    pub challenge : Option Digest
    pub asked : CodeAsked (outer_plain plain) (outer_given given) asked_mark past code.word challenge code.wish
    pub known : code_challenge plain given past at (Some w) ≡ challenge

  -- a token request redeems a code that the provider holds, with the verifier of the authorization request that the code answers;
  -- `before` is the provider's history before
  pub record IsRedeemed (past : List (Outer A R)) (before : List OpPair) (e : Entry (PkceAsk A)) (grant : Grant) : Type 0 where
    pub code : CodeRow
    pub held : held_code (reverse before) e.at (word_of_text grant.code) ≡ Some code
    pub challenge : Option Digest
    pub asked : CodeAsked (outer_plain plain) (outer_given given) asked_mark past code.word challenge code.wish
    pub known : code_challenge plain given past e.at (word_of_text grant.code) ≡ challenge
    pub fits : Fits challenge e.ask.verifier
