-- The provider's history in a history of a core, whatever it weighs: in its beginnings, and in each legal history.
use Rattle.std.proofs.Common.{◌≡◌, ℕ, false, List, [], ◌∷◌, ◌++◌, reverse, Option, Some, ◌⊎◌, inl, inr, refl, ap, sym, ◌∙◌, subst, append_assoc}
use Rattle.std.proofs.lemmas.List.{append-nil}
use Rattle.sso_base.specs.Words.{Word}
use Rattle.sso_base.specs.declared.history.Pair.{Pair}
use Rattle.sso_base.proofs.Histories.{past_more}
use Rattle.client_registry.specs.Configuration.{Configuration}
use Rattle.op_exchange.specs.declared.ask.OpAsk.{OpAsk}
use Rattle.op_exchange.specs.declared.reply.OpReply.{OpReply}
use Rattle.op_answer.specs.Past.{OpPair, OpPast}
use Rattle.op_answer.specs.Legal.{IsLegalOp}
use Rattle.core_stack.specs.Stacks.{may_be_own, AddsGiven, AddsAtMostOne}
use Rattle.core_stack.specs.Stacked.{IsStack, IsProvided}
use Rattle.core_stack.proofs.Added.{one_at_most}

-- the provider's history was legal before a step
legal_before : (c : Configuration) (at : ℕ) (fresh : List Word) (before after : List OpPair) → AddsAtMostOne at fresh before after → IsLegalOp c (reverse after) → IsLegalOp c (reverse before)
legal_before c at fresh before after (inl same) legal =
    let L : List OpPair → Type 0 = λ l. IsLegalOp c (reverse l) in
    subst L same legal
legal_before c at fresh before after (inr more) legal =
    let V : List OpPair → OpPast = λ l. reverse l in
    let L : OpPast → Type 0 = λ o. IsLegalOp c o in
    let longer : IsLegalOp c (more.0 ∷ reverse before) = subst L (ap V more.1 ∙ past_more before more.0) legal in
    longer.0

module _ {A R : Type 0} (plain : A → Option OpAsk) (told given : R → Option OpReply) (provided : List (Pair A R) → List OpPair) (c : Configuration) where
  abbrev Adds : List (Pair A R) → Pair A R → Type 0
  Adds h p = AddsGiven p.entry.at p.entry.fresh (plain p.entry.ask) (given p.reply) (provided h) (provided (h ++ p ∷ []))

  abbrev AllAdd : List (Pair A R) → Type 0
  AllAdd h = (first more : List (Pair A R)) (p : Pair A R) → h ≡ first ++ p ∷ more → Adds first p

  legal_front : (rest front : List (Pair A R)) → AllAdd (front ++ rest) → IsLegalOp c (reverse (provided (front ++ rest))) → IsLegalOp c (reverse (provided front))
  legal_front [] front adds legal =
      let L : List (Pair A R) → Type 0 = λ l. IsLegalOp c (reverse (provided l)) in
      subst L (append-nil front) legal
  legal_front (p ∷ rest) front adds legal =
      let same : (front ++ p ∷ []) ++ rest ≡ front ++ p ∷ rest = append_assoc front (p ∷ []) rest in
      let L : List (Pair A R) → Type 0 = λ l. IsLegalOp c (reverse (provided l)) in
      let longer : IsLegalOp c (reverse (provided (front ++ p ∷ []))) =
      legal_front rest (front ++ p ∷ []) (λ first more q parts. adds first more q (sym same ∙ parts)) (subst L (sym same) legal) in
      legal_before c p.entry.at p.entry.fresh (provided front) (provided (front ++ p ∷ []))
      (one_at_most p.entry.at p.entry.fresh (plain p.entry.ask) (given p.reply) (provided front) (provided (front ++ p ∷ [])) (adds front rest p refl)) longer

  longer_parts : (front rest first more : List (Pair A R)) (p : Pair A R) → front ≡ first ++ p ∷ more → front ++ rest ≡ first ++ p ∷ (more ++ rest)
  longer_parts front rest first more p parts =
      let E : List (Pair A R) → List (Pair A R) = λ l. l ++ rest in
      ap E parts ∙ append_assoc first (p ∷ more) rest

  -- each beginning has a legal one
  pub provided_front : (front rest : List (Pair A R)) → IsProvided plain told given provided c (front ++ rest) → IsProvided plain told given provided c front
  provided_front front rest is =
      record {
        provider = legal_front rest front (λ first more p parts. is.adds first more p parts) is.provider;
        adds = λ first more p parts. is.adds first (more ++ rest) p (longer_parts front rest first more p parts);
        gives = λ first more p r parts. is.gives first (more ++ rest) p r (longer_parts front rest first more p parts);
      }

  -- so these histories are enough for what `IsStack` says
  pub provided_stack : provided [] ≡ [] → IsStack plain given provided (IsProvided plain told given provided c) c
  provided_stack begins =
      record {
        begins = begins;
        beginnings = λ front rest is. provided_front front rest is;
        provider = λ h is. is.provider;
        adds = λ h p is. is.adds h [] p refl;
      }

  -- and each legal history is one of them
  pub provided_of : (IsLegal : List (Pair A R) → Type 0) → ((front rest : List (Pair A R)) → IsLegal (front ++ rest) → IsLegal front)
      → ((h : List (Pair A R)) → IsLegal h → IsLegalOp c (reverse (provided h))) → ((h : List (Pair A R)) (p : Pair A R) → IsLegal (h ++ p ∷ []) → Adds h p)
      → ((h : List (Pair A R)) (p : Pair A R) (r : OpReply) → IsLegal (h ++ p ∷ []) → told p.reply ≡ Some r → may_be_own r ≡ false → given p.reply ≡ Some r)
      → (h : List (Pair A R)) → IsLegal h → IsProvided plain told given provided c h
  provided_of IsLegal beginnings provider adds gives h legal =
      let L : List (Pair A R) → Type 0 = λ l. IsLegal l in
      let here : (first more : List (Pair A R)) (p : Pair A R) → h ≡ first ++ p ∷ more → IsLegal (first ++ p ∷ []) =
      λ first more p parts. beginnings (first ++ p ∷ []) more (subst L (parts ∙ sym (append_assoc first (p ∷ []) more)) legal) in
      record {
        provider = provider h legal;
        adds = λ first more p parts. adds first p (here first more p parts);
        gives = λ first more p r parts. gives first p r (here first more p parts);
      }
