-- What was written to a sink, and how the serving of its connection ended.
use Rattle.std.specs.Prelude.{◌≡◌, ◌⊎◌, ℕ, List, Option, Some, None}
use Rattle.sso_base.specs.Faults.{Rose}
use Rattle.sso_base.specs.Outside.{Takes, TakesFront}
use Rattle.serving.specs.Told.{end_without, bytes_without}
use Rattle.serving.specs.declared.ends.ServedEnd.{ServedEnd}
use Rattle.serving.specs.declared.ends.ServedEnd.TheVariants.{WriteFault}
use Rattle.serving.specs.declared.no_reply.NoReply.{NoReply}
use Rattle.serving.specs.declared.no_reply.NoReply.TheVariants.{NoMemory}

module _ {K : Type 0} (taken : K → Option (List ℕ)) (faults : K → ℕ) where
  -- all bytes were written and the end is as wanted, or the sink failed and a prefix of them was written
  abbrev pub Wrote : K → K → Option (List ℕ) → ServedEnd → ServedEnd → Type 0
  Wrote old new None wanted end = (end ≡ wanted) × (new ≡ old)
  Wrote old new (Some bytes) wanted end =
      ((end ≡ wanted) × Takes (taken old) (taken new) bytes)
      ⊎ ((end ≡ WriteFault) × TakesFront (taken old) (taken new) bytes × Rose (faults old) (faults new))

  -- either this was sent, or that memory ran out
  abbrev pub WroteWithout : K → K → NoReply → ServedEnd → Type 0
  WroteWithout old new why end =
      Wrote old new (bytes_without why) (end_without why) end
      ⊎ Wrote old new (bytes_without NoMemory) (end_without NoMemory) end
