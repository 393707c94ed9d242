-- Where a party of a name is found, it is one of the configuration; and the provider that it trusts has the configuration's issuer.
use Rattle.std.proofs.Common.{◌≡◌, ℕ, ◌<◌, ◌+◌, Bool, nat_le, cond, List, [], ◌∷◌, length, codes, Option, Some, None, Result, Ok, Err, inl, inr, arith, refl, ap, sym, ◌∙◌, subst}
use Rattle.std.proofs.lemmas.Option.{same_Some}
use Rattle.std.specs.List.{position_from}
use Rattle.std.specs.Str.{bytes_eq}
use Rattle.sso_base.specs.Words.{Text}
use Rattle.sso_base.proofs.RowLaws.{bool_cases}
use Rattle.client_registry.specs.declared.records.Party.{Party}
use Rattle.client_registry.specs.declared.records.Provider.{Provider}
use Rattle.client_registry.specs.Configuration.{Configuration}
use Rattle.client_registry.specs.Rules.{party_place}
use Rattle.discovery_doc.specs.declared.no.DiscNo.{DiscNo}
use Rattle.discovery_doc.specs.Reading.{discovery_read}
use Rattle.discovery_doc.proofs.Documents.{names_the_issuer}
use Rattle.sso.specs.Answer.{Answer}
use Rattle.sso.specs.Asked.{metadata_refusal, provider_read, described, trusted}

place_below : (test : Party → Bool) (from place : ℕ) (parties : List Party) → position_from test from parties ≡ Some place → place < from + length parties
place_below test from place [] found = absurd (cc)
place_below test from place (party ∷ parties) found =
    let P : Bool → Type 0 = λ b. cond b (Some from) (position_from test (from + 1) parties) ≡ Some place in
    elim (bool_cases (test party)) [
      | inl here ↦
          let same : from ≡ place = same_Some from place (subst P here found) in
          omega arith
      | inr later ↦
          let below : place < from + 1 + length parties = place_below test (from + 1) place parties (subst P later found) in
          omega arith
    ]

pub known_party : (c : Configuration) (name : Text) (place : ℕ) → party_place name c.parties ≡ Some place → place < length c.parties
known_party c name place found = (let below : place < 0 + length c.parties = place_below (λ (p : Party). bytes_eq p.name name) 0 place c.parties found in omega arith)

read_issuer : (c : Configuration) (metadata : List ℕ) (read : Result Provider DiscNo) → discovery_read c.provider.issuer metadata ≡ read
    → (p : Provider) → provider_read read ≡ Ok p → p.issuer ≡ c.provider.issuer
read_issuer c metadata (Ok provider) read p is = names_the_issuer c.provider.issuer metadata p (read ∙ cc)
read_issuer c metadata (Err why) read p is = absurd (cc)

described_issuer : (c : Configuration) (metadata : List ℕ) (p : Provider) → described c metadata ≡ Ok p → p.issuer ≡ c.provider.issuer
unfolding described
described_issuer c metadata p is =
    let P : Bool → Type 0 = λ b. cond b (provider_read (discovery_read c.provider.issuer metadata)) (Err (metadata_refusal (codes "Size"))) ≡ Ok p in
    elim (bool_cases (nat_le (length metadata) 65536)) [
      | inl fits ↦ read_issuer c metadata (discovery_read c.provider.issuer metadata) refl p (subst P fits is)
      | inr long ↦ (let never : ◌≡◌ {A = Result Provider Answer} (Err (metadata_refusal (codes "Size"))) (Ok p) = subst P long is in absurd (cc))
    ]

pub trusted_issuer : (c : Configuration) (metadata : Option (List ℕ)) (p : Provider) → trusted c metadata ≡ Ok p → p.issuer ≡ c.provider.issuer
trusted_issuer c (Some metadata) p is = described_issuer c metadata p is
trusted_issuer c None p is = (let same : c.provider ≡ p = cc in ap (λ (v : Provider). v.issuer) (sym same))
