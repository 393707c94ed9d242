-- What a step adds to the provider's history, from what it adds by the reply that the provider gave.
use Rattle.std.proofs.Common.{◌≡◌, ℕ, ◌+◌, true, false, List, [], ◌∷◌, ◌++◌, length, Option, Some, None, refl, ap, sym, ◌∙◌, subst, inl, inr, arith}
use Rattle.std.proofs.lemmas.List.{length-append}
use Rattle.sso_base.specs.Words.{Word}
use Rattle.op_exchange.specs.declared.ask.OpAsk.{OpAsk}
use Rattle.op_exchange.specs.declared.reply.OpReply.{OpReply}
use Rattle.op_answer.specs.Past.{OpPair}
use Rattle.op_answer.proofs.KeptNames.{some_same}
use Rattle.core_stack.specs.Stacks.{is_shown, provider_pair, AddsPair, AddsGiven, AddsAtMostOne}
use Rattle.core_stack.specs.OpStack.{last_same}

one_apart : (m n k : ℕ) → m ≡ n → n ≡ m + k → k ≡ 1 → ⊥
one_apart m n k same apart one = omega (arith, same, apart, one)

-- a list with one more element is another one
pub no_more : {X : Type 0} (l : List X) (x : X) → l ≡ l ++ x ∷ [] → ⊥
no_more {X} l x same =
    let L : List X → ℕ = λ m. length m in
    one_apart (length l) (length (l ++ x ∷ [])) (length (x ∷ [])) (ap L same) (length-append l (x ∷ [])) refl

not_shown : (p q : OpPair) → q ≡ p → is_shown p.reply ≡ false → is_shown q.reply ≡ true → ⊥
not_shown p q same hidden shown =
    let S : OpPair → Type 0 = λ x. is_shown x.reply ≡ false in
    let other : is_shown q.reply ≡ false = subst S (sym same) hidden in
    absurd (cc)

pub one_at_most : (at : ℕ) (fresh : List Word) (asked : Option OpAsk) (given : Option OpReply) (before after : List OpPair) → AddsGiven at fresh asked given before after → AddsAtMostOne at fresh before after
one_at_most at fresh asked (Some told) before after adds = inr (provider_pair at fresh adds.request told, adds.added, refl, refl)
one_at_most at fresh asked None before after (inl same) = inl same
one_at_most at fresh asked None before after (inr more) = inr (more.pair, more.added, more.moment, more.words)

pub said_is_added : (at : ℕ) (fresh : List Word) (asked : Option OpAsk) (given : Option OpReply) (before after : List OpPair) (a : OpAsk) (r : OpReply) → AddsGiven at fresh asked given before after
    → asked ≡ Some a → given ≡ Some r → after ≡ before ++ provider_pair at fresh a r ∷ []
said_is_added at fresh asked given before after a r adds asks gave =
    let G : Option OpReply → Type 0 = λ g. AddsGiven at fresh asked g before after in
    let one : AddsPair at fresh asked r before after = subst G gave adds in
    let P : OpAsk → List OpPair = λ x. before ++ provider_pair at fresh x r ∷ [] in
    one.added ∙ ap P (some_same one.request a (sym one.asks ∙ asks))

pub shown_is_given : (at : ℕ) (fresh : List Word) (asked : Option OpAsk) (given : Option OpReply) (before after : List OpPair) (q : OpPair) → AddsGiven at fresh asked given before after
    → after ≡ before ++ q ∷ [] → is_shown q.reply ≡ true → (a : OpAsk) × (r : OpReply) × (asked ≡ Some a) × (given ≡ Some r) × (q ≡ provider_pair at fresh a r)
shown_is_given at fresh asked (Some r) before after q adds same shown =
    (adds.request, r, adds.asks, refl, last_same before q (provider_pair at fresh adds.request r) (sym same ∙ adds.added))
shown_is_given at fresh asked None before after q (inl stays) same shown = absurd (no_more before q (sym stays ∙ same))
shown_is_given at fresh asked None before after q (inr more) same shown =
    absurd (not_shown more.pair q (last_same before q more.pair (sym same ∙ more.added)) more.hidden shown)
