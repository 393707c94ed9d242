-- Logouts that come before their login, by computation.
use Rattle.std.proofs.Common.{◌≡◌, ◌+◌, ℕ, true, [], ◌∷◌, ◌++◌, Some, None, codes, refl}
use Rattle.std.specs.Str.{bytes_eq}
use Rattle.sso_base.specs.Words.{Word, Text, word_text}
use Rattle.logout_token.specs.declared.claims.LogoutClaims.{LogoutClaims}
use Rattle.rp_login.specs.declared.rows.DeadRow.{DeadRow}
use Rattle.rp_exchange.specs.declared.no.RpNo.TheVariants as no
use Rattle.rp_exchange.specs.declared.reply.RpReply.TheVariants.{Nobody, Ended, Refused}
use Rattle.rp_answer.specs.Past.{RpPair, RpPast}
use Rattle.rp_answer.specs.Pendings.{live_pendings}
use Rattle.rp_answer.specs.Deads.{dead_at, dead_of, dead_by, dead_kept, deads, live_deads, live_dead}
use Rattle.rp_answer.specs.Alive.{sid_judged, dead_for, enter_unless, unless_dead}
use Rattle.rp_answer.specs.Answering.{rp_told, rp_answer}
use Rattle.rp_answer.specs.Causes.{MayEnter, EnteredCause, SidEnded, RefusedCause}
use Rattle.rp_answer.specs.Legal.{NamedBy}
use Rattle.rp_answer.proofs.Refusals.{refusals_have_a_cause, refused_sid}
use Rattle.rp_answer.proofs.NamedSids.{sids_were_named}
use Rattle.rp_answer.proofs.Sample.{word, pair_of, only_code, shop_setup}
use Rattle.rp_answer.proofs.FirstVisit.{begin_entry, past_callback, claims, tokens_entry, entered, visit_entry}
use Rattle.rp_answer.proofs.LoggedOut.{logout_at}
use Rattle.rp_answer.proofs.LoggedOut as out

-- ---- a logout while the exchange waits

abbrev named : Text → LogoutClaims
named sid = record out.claims { sid = Some sid }

abbrev past_named : Text → RpPast
past_named sid = pair_of (logout_at 1100 (named sid)) (Ended 0) ∷ past_callback

logout_ends_none : rp_answer shop_setup past_callback (logout_at 1100 (named (codes "sid"))) ≡ Ended 0
unfolding rp_answer
logout_ends_none = refl

overtaken : (t : Text) → bytes_eq t (word_text (word 3)) ≡ true → rp_answer shop_setup (past_named (codes "sid")) (tokens_entry 1119 t) ≡ Refused (no.EndedSid 3)
unfolding rp_answer
overtaken t same = rw same refl

another_sid_enters : (t : Text) → bytes_eq t (word_text (word 3)) ≡ true → rp_answer shop_setup (past_named (codes "other")) (tokens_entry 1119 t) ≡ entered
unfolding rp_answer
another_sid_enters t same = rw same refl

-- a token without a `sid` is remembered by its `jti` alone
no_sid_enters : (t : Text) → bytes_eq t (word_text (word 3)) ≡ true → rp_answer shop_setup (pair_of (logout_at 1100 out.claims) (Ended 0) ∷ past_callback) (tokens_entry 1119 t) ≡ entered
unfolding rp_answer
no_sid_enters t same = rw same refl

-- the exchange has ended
abbrev past_overtaken : Text → RpPast
past_overtaken t = pair_of (tokens_entry 1119 t) (Refused (no.EndedSid 3)) ∷ past_named (codes "sid")

no_exchange_is_left : (t : Text) → live_pendings only_code (past_overtaken t) 1119 ≡ []
no_exchange_is_left t = refl

nobody_is_there : (t : Text) → rp_answer shop_setup (past_overtaken t) (visit_entry 1119) ≡ Nobody
unfolding rp_answer
nobody_is_there t = refl

-- ---- it is remembered for 661 seconds after the last such token

abbrev early : ℕ → Text → LogoutClaims
early at jti = record (named (codes "sid")) { iat = at; exp = at + 60; jti = jti }

abbrev past_early : ℕ → RpPast
past_early at = past_callback ++ pair_of (logout_at at (early at (codes "j"))) (Ended 0) ∷ []

still_remembered : (t : Text) → bytes_eq t (word_text (word 3)) ≡ true → rp_answer shop_setup (past_early 459) (tokens_entry 1119 t) ≡ Refused (no.EndedSid 1)
unfolding rp_answer
still_remembered t same = rw same refl

forgotten : (t : Text) → bytes_eq t (word_text (word 3)) ≡ true → rp_answer shop_setup (past_early 458) (tokens_entry 1119 t) ≡ entered
unfolding rp_answer
forgotten t same = rw same refl

abbrev past_twice : RpPast
past_twice = past_callback ++ pair_of (logout_at 459 (early 459 (codes "k"))) (Ended 0) ∷ pair_of (logout_at 100 (early 100 (codes "j"))) (Ended 0) ∷ []

remembered_from_the_last : (t : Text) → bytes_eq t (word_text (word 3)) ≡ true → rp_answer shop_setup past_twice (tokens_entry 1119 t) ≡ Refused (no.EndedSid 2)
unfolding rp_answer
remembered_from_the_last t same = rw same refl

-- ---- the rows

abbrev dead : DeadRow
dead = record { sid = codes "sid"; place = 3; accepted = 1100 }

one_is_dead : deads (past_named (codes "sid")) ≡ dead ∷ []
one_is_dead = refl

dead_lives : live_deads (past_named (codes "sid")) 1760 ≡ dead ∷ []
dead_lives = refl

no_dead_lives : live_deads (past_named (codes "sid")) 1761 ≡ []
no_dead_lives = refl

dead_is_found : live_dead (past_named (codes "sid")) 1760 (codes "sid") ≡ Some dead
dead_is_found = refl

other_is_not_found : live_dead (past_named (codes "sid")) 1760 (codes "si") ≡ None
other_is_not_found = refl

all_keep_deads : dead_kept (past_named (codes "sid")) (pair_of begin_entry Nobody) dead ≡ Some dead
all_keep_deads = refl

dead_at-the_next_place : dead_at 2 1100 (codes "sid") ≡ dead
dead_at-the_next_place = refl

dead_of-no_sid : dead_of 2 1100 out.claims ≡ None
dead_of-no_sid = refl

dead_by-no_logout : dead_by 2 1100 begin_entry.ask (Ended 0) ≡ None
dead_by-no_logout = refl

-- ---- the rule

judged-of_tokens : (t : Text) → sid_judged only_code past_callback 1000 (tokens_entry 1000 t).ask ≡ (claims t).sid
judged-of_tokens t = refl

judged-of_no_token : sid_judged only_code past_callback 1000 begin_entry.ask ≡ None
judged-of_no_token = refl

for-the_sid : (t : Text) → dead_for only_code (past_named (codes "sid")) 1119 (tokens_entry 1119 t).ask ≡ Some dead
for-the_sid t = refl

for-another_sid : (t : Text) → dead_for only_code (past_named (codes "other")) 1119 (tokens_entry 1119 t).ask ≡ None
for-another_sid t = refl

enter-unless_it_is_dead : enter_unless entered (Some dead) ≡ Refused (no.EndedSid 3)
enter-unless_it_is_dead = refl

-- another reply is as it is
nobody-unless_it_is_dead : unless_dead Nobody (Some dead) ≡ Nobody
nobody-unless_it_is_dead = refl

told-before_a_table_is_full : (t : Text) → bytes_eq t (word_text (word 3)) ≡ true → rp_told shop_setup (past_named (codes "sid")) (tokens_entry 1119 t) (tokens_entry 1119 t).ask ≡ Refused (no.EndedSid 3)
told-before_a_table_is_full t same = rw same refl

-- ---- what the refusal says

the_sid_ended : (t : Text) → bytes_eq t (word_text (word 3)) ≡ true → RefusedCause shop_setup (past_named (codes "sid")) (tokens_entry 1119 t) (tokens_entry 1119 t).ask (no.EndedSid 3)
the_sid_ended t same = refusals_have_a_cause shop_setup (past_named (codes "sid")) (tokens_entry 1119 t) (no.EndedSid 3) (overtaken t same)

it_would_enter : (t : Text) → bytes_eq t (word_text (word 3)) ≡ true → SidEnded shop_setup (past_named (codes "sid")) (tokens_entry 1119 t) (tokens_entry 1119 t).ask 3
it_would_enter t same = refused_sid shop_setup (past_named (codes "sid")) (tokens_entry 1119 t) (tokens_entry 1119 t).ask 3 (the_sid_ended t same)

a_sid_that_is_not_dead : (t : Text) → SidEnded shop_setup past_callback (tokens_entry 1119 t) (tokens_entry 1119 t).ask 3 → ⊥
a_sid_that_is_not_dead t h = let remembered = h.remembered in cc

a_dead_sid_enters_none : (t u : Text) (w : Word) → EnteredCause shop_setup (past_named (codes "sid")) (tokens_entry 1119 t) (tokens_entry 1119 t).ask w u → ⊥
a_dead_sid_enters_none t u w h = let alive = h.alive in cc

nobody_may_enter : (u : Text) (w : Word) → MayEnter shop_setup past_callback begin_entry begin_entry.ask w u → ⊥
nobody_may_enter u w h = h

-- ---- who named it

it_was_named : NamedBy (past_named (codes "sid")) dead
it_was_named = sids_were_named (past_named (codes "sid")) (codes "sid") dead refl

no_parts : (later : RpPast) (p : RpPair) (earlier : RpPast) → [] ≡ later ++ p ∷ earlier → ⊥
no_parts [] p earlier h = cc
no_parts (q ∷ later) p earlier h = cc

nothing_was_named : NamedBy [] dead → ⊥
nothing_was_named h = no_parts h.later h.maker h.earlier h.parts
