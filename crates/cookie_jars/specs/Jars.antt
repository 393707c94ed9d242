-- The jars of browsers: for each role, the cookies that its replies set for the browser.
use Rattle.std.specs.Prelude.{ℕ, Bool, true, false, ◌==◌, ◌&&◌, List, [], ◌∷◌, if◌then◌else◌}
use Rattle.std.specs.Option.{option_or}
use Rattle.sso_places.specs.declared.types.To.{To}
use Rattle.sso_places.specs.declared.types.To.TheVariants as to
use Rattle.sso_places.specs.declared.types.Jar.{Jar}
use Rattle.sso_places.specs.World.{Place, Provider, Party, Nothing}
use Rattle.sso_places.specs.Cookies.{no_jar, jar_set}
use Rattle.cookie_jars.specs.declared.jar_note.JarNote.{JarNote}
use Rattle.cookie_jars.specs.declared.jar_note.JarNote.TheVariants.{Set, Stolen}

-- the cookies of a jar after others were set
abbrev pub jar_with : Jar → Jar → Jar
jar_with set jar = record { first = option_or set.first jar.first; second = option_or set.second jar.second }

abbrev pub is_role : To → To → Bool
is_role to.Provider to.Provider = true
is_role (to.Party n) (to.Party m) = n == m
is_role a b = false

-- ---- the jar of a browser at a role, by the changes of the jars, the newest first

-- a thief's jars are replaced by copies of the owner's
abbrev pub jar_by : JarNote → (ℕ → To → Jar) → ℕ → To → Jar
jar_by (Set b role set) was browser at = if (browser == b) && is_role at role then jar_with set (was browser at) else was browser at
jar_by (Stolen thief owner) was browser at = if browser == thief then was owner at else was browser at

abbrev pub jar_of : List JarNote → ℕ → To → Jar
jar_of [] browser at = no_jar
jar_of (note ∷ notes) browser at = jar_by note (jar_of notes) browser at

-- ---- changes of the jars; the number 0, of a server, has none

abbrev pub jars_set : ℕ → To → Jar → List JarNote → List JarNote
jars_set from role set notes = if from == 0 then notes else Set from role set ∷ notes

-- the changes with those of a place's reply
abbrev pub jars_after : Place → List JarNote → List JarNote
jars_after (Provider from request p) notes = jars_set from to.Provider (jar_set (Provider from request p)) notes
jars_after (Party n from request p) notes = jars_set from (to.Party n) (jar_set (Party n from request p)) notes
jars_after Nothing notes = notes

-- the changes with a theft
abbrev pub jars_stolen : ℕ → ℕ → List JarNote → List JarNote
jars_stolen thief owner notes = if thief == 0 then notes else Stolen thief owner ∷ notes
