-- The definitions of a relying party's core computed on leaving and logout requests: what each accepts, and what it refuses.
use Rattle.std.proofs.Common.{◌≡◌, true, false, [], ◌∷◌, Some, None, codes, refl}
use Rattle.sso_base.specs.Words.{Text}
use Rattle.logout_token.specs.declared.claims.LogoutClaims.{LogoutClaims}
use Rattle.rp_login.specs.declared.rows.SeenRow.{SeenRow}
use Rattle.rp_login.specs.declared.rows.DeadRow.{DeadRow}
use Rattle.rp_login.specs.Tables.{Tables, no_tables, with_room}
use Rattle.rp_exchange.specs.declared.no.RpNo.TheVariants as no
use Rattle.rp_exchange.specs.declared.reply.RpReply.TheVariants.{Left, Ended, Refused}
use Rattle.rp_answer.specs.Past.{RpPair}
use Rattle.rp_core.specs.Agreeing.{Agrees, IsBegun}
use Rattle.rp_core.specs.Making.{MakesRows}
use Rattle.rp_core.specs.Keeping.{IsUpdate, NamesSomebody, seen_put, dead_put}
use Rattle.rp_answer.proofs.Sample.{pair_of, only_code}
use Rattle.rp_answer.proofs.FirstVisit.{past_entered}
use Rattle.rp_answer.proofs.RowSamples.{visit}
use Rattle.rp_answer.proofs.LoggedOut.{claims, leave_entry, logout_at, past_out, seen}

abbrev leaving : RpPair
leaving = pair_of leave_entry (Left true)

abbrev logout : RpPair
logout = pair_of (logout_at 1100 claims) (Ended 1)

abbrev refused : RpPair
refused = pair_of (logout_at 1100 claims) (Refused (no.Seen 2))

abbrev with_session : Tables
with_session = with_room (record no_tables { visits = visit ∷ [] })

abbrev without_session : Tables
without_session = with_room no_tables

abbrev with_token : Tables
with_token = with_room (record no_tables { seens = seen ∷ [] })

-- ---- whom a token names

alice_is_named : NamesSomebody claims
alice_is_named = refl

nobody_is_named : NamesSomebody (record claims { sub = None }) → ⊥
nobody_is_named names = (let k : false ≡ true = names in cc)

-- ---- the row of a token

a_token_is_put : (seen_put (Some seen) without_session).seens ≡ seen ∷ []
a_token_is_put = refl

no_token_is_put : seen_put None without_session ≡ without_session
no_token_is_put = refl

a_logout_brings_its_token : (t : Text) → MakesRows only_code (past_entered t) logout None None None (Some seen) None
a_logout_brings_its_token t = record { login_is = refl; pending_is = refl; visit_is = refl; seen_is = refl; dead_is = refl }

a_refused_one_does_not : (t : Text) → MakesRows only_code (past_entered t) refused None None None (Some seen) None → ⊥
a_refused_one_does_not t rows = (let k : Some seen ≡ None = rows.seen_is in cc)

they_agree : (t : Text) → Agrees only_code with_token (past_out t) 1760
they_agree t = record { logins = refl; pendings = refl; visits = refl; seens = refl; deads = refl }

a_token_is_remembered : (t : Text) → Agrees only_code no_tables (past_out t) 1760 → ⊥
a_token_is_remembered t agrees = (let k : [] ≡ seen ∷ [] = agrees.seens in cc)

it_is_forgotten : (t : Text) → Agrees only_code no_tables (past_out t) 1761
it_is_forgotten t = record { logins = refl; pendings = refl; visits = refl; seens = refl; deads = refl }

it_is_begun : IsBegun with_token 1100
it_is_begun = record { logins = refl; pendings = refl; visits = refl; seens = refl; deads = refl }

not_one_second_before : IsBegun with_token 1099 → ⊥
not_one_second_before begun = (let k : false ≡ true = begun.seens in cc)

-- ---- one more pair

the_user_has_left : (t : Text) → IsUpdate only_code with_session without_session (past_entered t) leaving
the_user_has_left t = record { logins_are = refl; pendings_are = refl; visits_are = refl; seens_are = refl; deads_are = refl }

the_session_does_not_stay : (t : Text) → IsUpdate only_code with_session with_session (past_entered t) leaving → ⊥
the_session_does_not_stay t follows = (let k : visit ∷ [] ≡ [] = follows.visits_are in cc)

the_token_is_followed : (t : Text) → IsUpdate only_code with_session with_token (past_entered t) logout
the_token_is_followed t = record { logins_are = refl; pendings_are = refl; visits_are = refl; seens_are = refl; deads_are = refl }

not_without_its_row : (t : Text) → IsUpdate only_code with_session without_session (past_entered t) logout → ⊥
not_without_its_row t follows = (let k : [] ≡ seen ∷ [] = follows.seens_are in cc)

a_refused_one_ends_nothing : (t : Text) → IsUpdate only_code with_session with_session (past_entered t) refused
a_refused_one_ends_nothing t = record { logins_are = refl; pendings_are = refl; visits_are = refl; seens_are = refl; deads_are = refl }

-- ---- a token with a `sid` of no session

abbrev named : LogoutClaims
named = record claims { jti = codes "k"; sid = Some (codes "other") }

abbrev naming : RpPair
naming = pair_of (logout_at 1100 named) (Ended 0)

abbrev other_seen : SeenRow
other_seen = record { jti = codes "k"; place = 4; accepted = 1100 }

abbrev dead : DeadRow
dead = record { sid = codes "other"; place = 4; accepted = 1100 }

abbrev with_dead_sid : Tables
with_dead_sid = record with_session { seens = other_seen ∷ []; deads = dead ∷ [] }

it_brings_its_sid_too : (t : Text) → MakesRows only_code (past_entered t) naming None None None (Some other_seen) (Some dead)
it_brings_its_sid_too t = record { login_is = refl; pending_is = refl; visit_is = refl; seen_is = refl; dead_is = refl }

it_does_not_bring_its_token_alone : (t : Text) → MakesRows only_code (past_entered t) naming None None None (Some other_seen) None → ⊥
it_does_not_bring_its_token_alone t rows = (let k : None ≡ Some dead = rows.dead_is in cc)

its_sid_is_followed : (t : Text) → IsUpdate only_code with_session with_dead_sid (past_entered t) naming
its_sid_is_followed t = record { logins_are = refl; pendings_are = refl; visits_are = refl; seens_are = refl; deads_are = refl }

-- a later token of that `sid`: there is one row, with its place
a_later_one_replaces_it : (dead_put (Some (record dead { place = 9 })) with_dead_sid).deads ≡ record dead { place = 9 } ∷ []
a_later_one_replaces_it = refl

no_sid_is_put : dead_put None with_dead_sid ≡ with_dead_sid
no_sid_is_put = refl

its_sid_is_remembered : (t : Text) → Agrees only_code (record no_tables { visits = visit ∷ []; seens = other_seen ∷ [] }) (naming ∷ past_entered t) 1760 → ⊥
its_sid_is_remembered t agrees = (let k : [] ≡ dead ∷ [] = agrees.deads in cc)

its_sid_is_forgotten : (t : Text) → Agrees only_code (record no_tables { visits = visit ∷ [] }) (naming ∷ past_entered t) 1761
its_sid_is_forgotten t = record { logins = refl; pendings = refl; visits = refl; seens = refl; deads = refl }

not_begun_before_its_sid : IsBegun with_dead_sid 1099 → ⊥
not_begun_before_its_sid begun = (let k : false ≡ true = begun.deads in cc)
