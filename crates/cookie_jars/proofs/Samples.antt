-- Jars of browsers, computed on small lists of what changed them.
use Rattle.std.proofs.Common.{◌≡◌, ℕ, [], ◌∷◌, Some, None, refl}
use Rattle.sso_base.specs.Words.{Word}
use Rattle.sso_places.specs.declared.types.To.TheVariants as to
use Rattle.sso_places.specs.declared.types.Jar.{Jar}
use Rattle.cookie_jars.specs.declared.jar_note.JarNote.TheVariants.{Set, Stolen}
use Rattle.sso_places.specs.Cookies.{no_jar}
use Rattle.cookie_jars.specs.Jars.{jar_of, jars_set, jars_stolen}

abbrev word : ℕ → Word
word n = n ∷ []

-- the cookie that a login page sets
abbrev page : Jar
page = record { first = Some (word 5); second = None }

kept_by_its_browser : jar_of (Set 1 to.Provider page ∷ []) 1 to.Provider ≡ record { first = Some (word 5); second = None }
kept_by_its_browser = refl

not_by_another : jar_of (Set 1 to.Provider page ∷ []) 2 to.Provider ≡ no_jar
not_by_another = refl

not_at_another_role : jar_of (Set 1 to.Provider page ∷ []) 1 (to.Party 0) ≡ no_jar
not_at_another_role = refl

-- a reply that sets one cookie leaves the other
other_cookie_stays : jar_of (Set 1 to.Provider page ∷ Set 1 to.Provider (record { first = Some (word 1); second = Some (word 9) }) ∷ []) 1 to.Provider
    ≡ record { first = Some (word 5); second = Some (word 9) }
other_cookie_stays = refl

-- a thief has the owner's cookies, and loses its own
stolen : jar_of (Stolen 2 1 ∷ Set 1 to.Provider page ∷ Set 2 (to.Party 0) page ∷ []) 2 to.Provider ≡ page
stolen = refl

lost : jar_of (Stolen 2 1 ∷ Set 1 to.Provider page ∷ Set 2 (to.Party 0) page ∷ []) 2 (to.Party 0) ≡ no_jar
lost = refl

owner_keeps : jar_of (Stolen 2 1 ∷ Set 1 to.Provider page ∷ []) 1 to.Provider ≡ page
owner_keeps = refl

-- a server has none
no_jar_of_servers : jars_set 0 to.Provider page [] ≡ []
no_jar_of_servers = refl

servers_steal_nothing : jars_stolen 0 1 [] ≡ []
servers_steal_nothing = refl
