-- What `unseal` answers.
use Rattle.std.proofs.Common.{◌≡◌, ℕ, List, Result, Ok, Err, IfErr, ◌⊎◌, inl, inr, sym, ◌∙◌}
use Rattle.jws_compact.specs.declared.unsealing.Unsealed.{Unsealed}
use Rattle.jws_compact.specs.declared.no.JwsNo.{JwsNo}
use Rattle.jws_compact.specs.declared.no.JwsNo.TheVariants.{NoMemory}
use Rattle.jws_compact.specs.Jws.{verdict, opened, Sealed}
use Rattle.jws_compact.proofs.Opening.{sealed_verdict, ok_same}

pub only_memory : (k h p t : List ℕ) (e : JwsNo) → Sealed k h p t → (e ≡ NoMemory) ⊎ (verdict k t ≡ Err e) → e ≡ NoMemory
only_memory k h p t e s (inl x) = x
only_memory k h p t e s (inr x) = let ok = sealed_verdict k h p t s in absurd (cc)

pub same_value : (k h p t : List ℕ) (u : Unsealed) → Sealed k h p t → verdict k t ≡ Ok u → u ≡ opened h p
same_value k h p t u s e = ok_same u (opened h p) (sym e ∙ sealed_verdict k h p t s)

pub at_err : {X : Type 0} (r : Result X JwsNo) (P Q : JwsNo → Type 0) → ((e : JwsNo) → P e → Q e) → IfErr r P → IfErr r Q
at_err (Ok u) P Q f h = tt
at_err (Err e) P Q f h = f e h
