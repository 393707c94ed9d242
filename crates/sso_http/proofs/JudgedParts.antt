-- The result of checking the parts of a head is that of checking the head.
use Rattle.std.proofs.Common.{◌≡◌, ℕ, List, Result, Ok, Err, IfErr, refl, ◌∙◌}
use Rattle.sso_base.specs.declared.http.Method.{Method}
use Rattle.sso_http.specs.Fields.{Fields}
use Rattle.sso_http.specs.Judging.{judgement_of, judgement, IsParts, IsJudged, RefusesHead}
use Rattle.sso_http.specs.Told.{IsTold}
use Rattle.sso_http.specs.declared.judge.Judged.{Judged}
use Rattle.sso_http.specs.declared.no.HttpNo.{HttpNo}
use Rattle.sso_http.specs.declared.no.HttpNo.TheVariants.{NoMemory, ReadFault, EndedEarly, HeadTooLong, BadHead}

module _ (first second bytes : List ℕ) (method : Method) (target : List ℕ) (fields : Fields) (p : IsParts bytes method target fields) where
  same : judgement first second p.head ≡ judgement_of first second method target fields
  same = rw (p.method_is, p.target_is, p.fields_are) refl

  told : (t : Result Judged HttpNo) → judgement_of first second method target fields ≡ t → IsJudged first second bytes t
  told t e = record { head = p.head; reads = p.reads; told_is = same ∙ e }

  pub refused : (r : Result Judged HttpNo) → IsTold r (judgement_of first second method target fields) → IfErr r (RefusesHead first second bytes)
  refused (Ok j) h = tt
  refused (Err NoMemory) h = tt
  refused (Err ReadFault) h = absurd h
  refused (Err EndedEarly) h = absurd h
  refused (Err HeadTooLong) h = absurd h
  refused (Err BadHead) h = absurd h
  refused (Err e) h = told (Err e) h
