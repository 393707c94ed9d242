-- A merge of legal histories is a legal world.
use Rattle.std.proofs.Common.{◌≡◌, ◌<◌, ◌≤◌, ℕ, ◌==◌, Bool, List, [], ◌∷◌, length, inl, inr, cond, refl, sym, subst, eqb-true, arith}
use Rattle.std.specs.Prelude.{nat_lt}
use Rattle.std.specs.List.{AllByRecursion}
use Rattle.std.proofs.lemmas.Bool.{ltb-true, ltb-false}
use Rattle.sso_base.proofs.RowLaws.{bool_cases}
use Rattle.op_answer.specs.Past.{OpPair, OpPast}
use Rattle.op_answer.specs.Legal.{IsLegalOp}
use Rattle.rp_answer.specs.Past.{RpPair, RpPast}
use Rattle.rp_answer.specs.Legal.{IsLegalRp}
use Rattle.client_registry.specs.Configuration.{Configuration}
use Rattle.sso_places.specs.Site.{Site, setup_at}
use Rattle.sso_places.specs.World.{Provider, Party, Nothing, World, rp_past}
use Rattle.sso_places.specs.Legal.{IsAsked, IsLegalWorld}
use Rattle.sso_places.specs.Merges.{AreHistories, IsMerge}

-- a party that the registry does not have received no request
nobody_asked : (c : Configuration) (n : ℕ) (world : World) → length c.parties ≤ n → AllByRecursion (IsAsked c) world → rp_past n world ≡ []
nobody_asked c n [] high asked = refl
nobody_asked c n (Provider from request p ∷ world) high asked = nobody_asked c n world high asked.1
nobody_asked c n (Nothing ∷ world) high asked = nobody_asked c n world high asked.1
nobody_asked c n (Party m from request p ∷ world) high asked =
    let low : m < length c.parties = asked.0.0 in
    let P : Bool → Type 0 = λ b. cond b (p ∷ rp_past n world) (rp_past n world) ≡ [] in
    elim (bool_cases (m == n)) [
      | inl same ↦ let is : m ≡ n = eqb-true m n same in absurd (omega (arith, low, high, is))
      | inr other ↦ subst P (sym other) (nobody_asked c n world high asked.1)
    ]

pub merged_legal : (s : Site) (provider : List OpPair) (parties : ℕ → List RpPair) (world : World) → AreHistories s provider parties → IsMerge s provider parties world → IsLegalWorld s world
merged_legal s provider parties world legal merge =
    let P : OpPast → Type 0 = λ past. IsLegalOp s.configuration past in
    let count : ℕ = length s.configuration.parties in
    record {
      provider = subst P (sym merge.provider_is) legal.provider_is;
      parties = λ n.
          let R : RpPast → Type 0 = λ past. IsLegalRp (setup_at s n) past in
          elim (bool_cases (nat_lt n count)) [
            | inl low ↦ subst R (sym (merge.parties_are n (ltb-true n count low))) (legal.parties_are n (ltb-true n count low))
            | inr high ↦ subst R (sym (nobody_asked s.configuration n world (ltb-false n count high) merge.asked)) tt
          ];
      asked = merge.asked;
    }
