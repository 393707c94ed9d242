-- The first premise that fails, after one more place.
use Rattle.std.proofs.Common.{◌≡◌, suc, List, ◌∷◌, length, Option, Some, None, inl, inr, refl, sym, ap, ◌∙◌}
use Rattle.std.specs.Option.{option_or}
use Rattle.sso_base.specs.Words.{Text}
use Rattle.sso_base.proofs.RowLaws.{option_cases}
use Rattle.client_registry.specs.Configuration.{Configuration}
use Rattle.sso_places.specs.declared.types.Broken.{Broken}
use Rattle.sso_places.specs.declared.types.To.{To}
use Rattle.sso_places.specs.declared.types.To.TheVariants as to
use Rattle.sso_places.specs.declared.types.WorldAsk.{WorldAsk}
use Rattle.sso_places.specs.declared.types.WorldAsk.TheVariants.{Http, Tokens, Info}
use Rattle.sso_places.specs.declared.types.WorldReply.{WorldReply}
use Rattle.sso_places.specs.declared.types.WorldReply.TheVariants as reply
use Rattle.sso_places.specs.FirstBroken.{first_clash, clash_at, broken_at, first_broken}
use Rattle.sso_places.specs.Premises.{issued_at, HasDistinctHashes}
use Rattle.sso_places.specs.Site.{Site, own_site}
use Rattle.sso_places.specs.World.{Place, Nothing, World}
use Rattle.sso_places.proofs.Clashes.{none_found}
use Rattle.sso_places.proofs.FirstBroken.{none_broken}
use Rattle.world_index.specs.Issuing.{issued_of}
use Rattle.world_index.specs.declared.halves.Issued.{Issued}
use Rattle.running_world.specs.declared.kept.Asked.{Asked}
use Rattle.running_world.specs.declared.kept.Kept.{Kept}
use Rattle.running_world.specs.Breaking.{judged_asked, clash_told}
use Rattle.running_world.specs.Indexed.{first_issued}
use Rattle.running_world.specs.Noting.{issued_by}
use Rattle.running_world.specs.Running.{place_asked, kept_place}
use Rattle.running_world.specs.Whole.{Answers}
use Rattle.running_world.proofs.HalfDigests.{clash_is_found}
use Rattle.running_world.proofs.KeptPlaces.{place_issues}
use Rattle.op_exchange.specs.Replied.{code_in, access_in}

or_else_none : (o : Option Broken) → option_or o None ≡ o
or_else_none None = refl
or_else_none (Some b) = refl

-- ---- a place without a request

nothing_breaks : (c : Configuration) (world : World) → broken_at (own_site c) world Nothing ≡ None
nothing_breaks c world =
    ap (λ o. clash_at (suc (length world)) o) (none_found Nothing (Nothing ∷ world) (λ y has. refl))

pub broken_nothing : (c : Configuration) (world : World) → first_broken (own_site c) (Nothing ∷ world) ≡ first_broken (own_site c) world
broken_nothing c world =
    ap (λ o. option_or (first_broken (own_site c) world) o) (nothing_breaks c world) ∙ or_else_none (first_broken (own_site c) world)

-- ---- a place with a request

module _ (c : Configuration) (world : World) (a : Asked) where
  abbrev Breaks : To → WorldAsk → Place → Type 0
  Breaks role ask x =
      option_or (judged_asked c world a.from role ask) (clash_at (suc (length world)) (first_clash x (x ∷ world))) ≡ broken_at (own_site c) world x

  breaks : (role : To) (ask : WorldAsk) (answer : WorldReply) → Answers role ask answer → Breaks role ask (place_asked c a role ask answer)
  breaks to.Provider (Http request) (reply.Provider answer) is = refl
  breaks to.Provider (Http request) (reply.Party answer) is = absurd is
  breaks to.Provider (Http request) reply.Nothing is = absurd is
  breaks to.Provider (Tokens w came) answer is = absurd is
  breaks to.Provider (Info w came) answer is = absurd is
  breaks (to.Party m) ask (reply.Provider answer) is = absurd is
  breaks (to.Party m) ask (reply.Party answer) is = refl
  breaks (to.Party m) ask reply.Nothing is = absurd is

clash_is_told : (halves : List (Text × Issued)) (world : World) (x : Place) (answer : WorldReply) → HasDistinctHashes world → ((half : Text) → issued_of halves half ≡ first_issued half world) → issued_at x ≡ issued_by answer
    → clash_at (suc (length world)) (first_clash x (x ∷ world)) ≡ clash_told halves (suc (length world)) answer
clash_is_told halves world x (reply.Provider answer) distinct is issues = clash_is_found halves world distinct is x (code_in answer) (access_in answer) issues
clash_is_told halves world x (reply.Party answer) distinct is issues = clash_is_found halves world distinct is x None None issues
clash_is_told halves world x reply.Nothing distinct is issues = clash_is_found halves world distinct is x None None issues

-- the first failure is an earlier one, or that of the request, or that of the reply
pub broken_more : (c : Configuration) (world : World) (a : Asked) (answer : WorldReply) (halves : List (Text × Issued)) → Answers a.to a.ask answer → ((half : Text) → issued_of halves half ≡ first_issued half world)
    → option_or (first_broken (own_site c) world) (option_or (judged_asked c world a.from a.to a.ask) (clash_told halves (suc (length world)) answer))
    ≡ first_broken (own_site c) (kept_place c (record { asked = Some a; reply = answer }) ∷ world)
broken_more c world a answer halves whole is =
    let k : Kept = record { asked = Some a; reply = answer } in
    let x : Place = kept_place c k in
    let s : Site = own_site c in
    let told : Option Broken = clash_told halves (suc (length world)) answer in
    let J : Option Broken → Option Broken = λ o. option_or (judged_asked c world a.from a.to a.ask) o in
    let F : Option Broken → Option Broken = λ o. option_or o (J told) in
    let G : Option Broken → Option Broken = λ o. option_or o (broken_at s world x) in
    elim (option_cases (first_broken s world)) [
      | inl none ↦
          (let distinct : HasDistinctHashes world = (none_broken s world none).hashes in
          ap F none
          ∙ ap J (sym (clash_is_told halves world x answer distinct is (place_issues c k whole)))
          ∙ breaks c world a a.to a.ask answer whole
          ∙ sym (ap G none))
      | inr some ↦ ap F some.1 ∙ sym (ap G some.1)
    ]
