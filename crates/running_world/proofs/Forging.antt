-- The premises at the next place: the index of the places before agrees with the world.
use Rattle.std.proofs.Common.{◌≡◌, ℕ, suc, Bool, true, false, ◌&&◌, ◌||◌, not, List, [], ◌∷◌, ◌++◌, length, Option, Some, None, refl, sym, ap, ◌∙◌}
use Rattle.std.specs.List.{list_any}
use Rattle.sso_base.specs.Words.{Word}
use Rattle.client_registry.specs.Configuration.{Configuration}
use Rattle.sso_places.specs.Cookies.{words_in}
use Rattle.sso_places.specs.Premises.{set_elsewhere}
use Rattle.sso_places.specs.Premises as premises
use Rattle.sso_places.specs.Site.{own_site}
use Rattle.sso_places.specs.Tokens.{TokenText as TokenPair, is_sealed_for}
use Rattle.sso_places.specs.World.{World}
use Rattle.sso_places.specs.declared.types.Broken.{Broken}
use Rattle.world_index.specs.Setting.{set_for_other}
use Rattle.world_index.specs.declared.setters.Setter.{Setter}
use Rattle.running_world.specs.declared.judging.TokenText.{TokenText}
use Rattle.running_world.specs.declared.noting.Index.{Index}
use Rattle.sso_places.specs.FirstBroken.{verdict}
use Rattle.running_world.specs.Forging.{set_if, forges}
use Rattle.running_world.specs.Indexed.{IsIndexed}
use Rattle.running_world.specs.Judging.{tokens_in, judged}

or_false : (b : Bool) → (b || false) ≡ b
or_false true = refl
or_false false = refl

-- of two words that may be there
pub any_of_two : (setters : List (Word × Setter)) (from : ℕ) (first second : Option Word) → list_any (λ (w : Word). set_for_other setters w from) (words_in first ++ words_in second) ≡ (set_if setters from first || set_if setters from second)
any_of_two setters from None None = refl
any_of_two setters from None (Some w) = or_false (set_for_other setters w from)
any_of_two setters from (Some v) None = refl
any_of_two setters from (Some v) (Some w) = ap (λ b. set_for_other setters v from || b) (or_false (set_for_other setters w from))

any_same : {A : Type 0} (test other : A → Bool) (xs : List A) → ((x : A) → test x ≡ other x) → list_any test xs ≡ list_any other xs
any_same test other [] same = refl
any_same test other (x ∷ xs) same = ap (λ b. b || list_any test xs) (same x) ∙ ap (λ b. other x || b) (any_same test other xs same)

module _ (c : Configuration) (index : Index) (world : World) (is : IsIndexed c index None world) where
  forged_is : (token : Option TokenText) → forges c index.written token ≡ list_any (premises.is_forged (own_site c) world) (tokens_in token)
  forged_is None = refl
  forged_is (Some t) =
      ap (λ b. is_sealed_for c (t.client, t.text) && not b) (is.wrote t.text t.client)
      ∙ sym (or_false (premises.is_forged (own_site c) world (t.client, t.text)))

  leaked_is : (from : ℕ) (words : List Word) → list_any (λ (w : Word). set_for_other index.setters w from) words ≡ list_any (set_elsewhere world from) words
  leaked_is from words = any_same (λ (w : Word). set_for_other index.setters w from) (set_elsewhere world from) words (λ w. is.set w from)

  -- the result by the index is the result for the world
  pub judged_is : (from : ℕ) (token : Option TokenText) (texts : List TokenPair) (words : List Word) → tokens_in token ≡ texts
      → verdict (suc (length world)) (forges c index.written token) (list_any (λ (w : Word). set_for_other index.setters w from) words) ≡ judged (own_site c) world from texts words
  judged_is from token texts words tokens =
      let n : ℕ = suc (length world) in
      let leaked : Bool = list_any (λ (w : Word). set_for_other index.setters w from) words in
      let F : Bool → Option Broken = λ b. verdict n b leaked in
      let forged : List TokenPair → Bool = λ ts. list_any (premises.is_forged (own_site c) world) ts in
      let L : Bool → Option Broken = λ b. verdict n (forged texts) b in
      ap F (forged_is token ∙ ap forged tokens) ∙ ap L (leaked_is from words)
