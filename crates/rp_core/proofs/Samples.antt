-- The definitions of a relying party's core computed at the steps of a first login: what each accepts, and what it refuses.
use Rattle.std.proofs.Common.{◌≡◌, ◌≤◌, true, false, List, [], ◌∷◌, Some, None, refl, sym, ap, arith}
use Rattle.sso_base.specs.Words.{Text}
use Rattle.rp_login.specs.declared.rows.LoginRow.{LoginRow}
use Rattle.rp_login.specs.Rows.{login_name, login_begun}
use Rattle.rp_login.specs.Tables.{Tables, no_tables, with_room, purged}
use Rattle.rp_exchange.specs.declared.ask.RpAsk.TheVariants as ask
use Rattle.rp_exchange.specs.declared.no.RpNo.TheVariants as no
use Rattle.rp_exchange.specs.declared.reply.RpReply.TheVariants.{Refused, NotHere}
use Rattle.rp_answer.specs.Past.{RpPair, RpPast}
use Rattle.held_rows.specs.Held.{MayAddRow}
use Rattle.rp_core.specs.Relying.{past_of}
use Rattle.rp_core.specs.Agreeing.{Agrees, IsBegun, KeepsPast, Keeps}
use Rattle.rp_core.specs.Making.{pending_found, nonce_found, visit_found, MakesRows}
use Rattle.rp_core.specs.Keeping.{IsUpdate, MayUpdate, login_put, pending_put, visit_put}
use Rattle.rp_core.proofs.Beginning.{begins}
use Rattle.rp_answer.proofs.Sample.{word, entry_at, pair_of, only_code, shop_setup}
use Rattle.rp_answer.proofs.FirstVisit.{begin_entry, asked, past_begin, callback_entry, exchange, callback_exchanges_at_once, past_callback, tokens_entry, entered}
use Rattle.rp_answer.proofs.FrontLogin.{waiting}
use Rattle.rp_answer.proofs.RowSamples.{login, visit}
use Rattle.rp_answer.proofs.Legality.{begin_is_legal_history}

-- ---- the pairs of a first login by code, and the tables after each

abbrev begin_pair : RpPair
begin_pair = pair_of begin_entry asked

abbrev callback_pair : RpPair
callback_pair = pair_of (callback_entry 1000 (word 1)) exchange

abbrev tokens_pair : Text → RpPair
tokens_pair t = pair_of (tokens_entry 1000 t) entered

abbrev with_login_begun : Tables
with_login_begun = with_room (record no_tables { logins = login ∷ [] })

abbrev with_exchange : Tables
with_exchange = with_room (record no_tables { pendings = waiting ∷ [] })

abbrev with_session : Tables
with_session = with_room (record no_tables { visits = visit ∷ [] })

abbrev other_login : LoginRow
other_login = record login { state = word 6; nonce = word 7 }

-- ---- a relying party as a value

the_newest_pair_comes_first : past_of (record { setup = shop_setup; history = begin_pair ∷ callback_pair ∷ []; tables = no_tables }) ≡ past_callback
the_newest_pair_comes_first = refl

-- ---- tables that agree with the past

they_agree : Agrees only_code with_login_begun past_begin 1000
they_agree = record { logins = refl; pendings = refl; visits = refl; seens = refl; deads = refl }

a_login_that_is_over_may_be_gone : Agrees only_code no_tables past_begin 1600
a_login_that_is_over_may_be_gone = record { logins = refl; pendings = refl; visits = refl; seens = refl; deads = refl }

one_that_lives_may_not : Agrees only_code no_tables past_begin 1599 → ⊥
one_that_lives_may_not agrees = (let k : [] ≡ login ∷ [] = agrees.logins in cc)

they_are_begun : IsBegun with_login_begun 1000
they_are_begun = record { logins = refl; pendings = refl; visits = refl; seens = refl; deads = refl }

not_begun_one_second_before : IsBegun with_login_begun 999 → ⊥
not_begun_one_second_before begun = (let k : false ≡ true = begun.logins in cc)

the_tables_are_kept : KeepsPast only_code past_begin with_login_begun
the_tables_are_kept = record { agrees = they_agree; begun = they_are_begun }

not_without_the_login : KeepsPast only_code past_begin no_tables → ⊥
not_without_the_login keeps = (let k : [] ≡ login ∷ [] = keeps.agrees.logins in cc)

-- where a pair came when the login's life was over, the tables may have its row and may be without: so what a step leaves where it
-- answers an error is not told by this, and a purge would make other tables
abbrev past_over : RpPast
past_over = pair_of (entry_at 1600 5 ask.NotHere) NotHere ∷ past_begin

it_may_be_held : KeepsPast only_code past_over with_login_begun
it_may_be_held = record { agrees = record { logins = refl; pendings = refl; visits = refl; seens = refl; deads = refl }; begun = record { logins = refl; pendings = refl; visits = refl; seens = refl; deads = refl } }

it_may_be_purged : KeepsPast only_code past_over (purged 1600 with_login_begun)
it_may_be_purged = record { agrees = record { logins = refl; pendings = refl; visits = refl; seens = refl; deads = refl }; begun = record { logins = refl; pendings = refl; visits = refl; seens = refl; deads = refl } }

a_purge_makes_other_tables : purged 1600 with_login_begun ≡ with_login_begun → ⊥
a_purge_makes_other_tables same = (let L : Tables → List LoginRow = λ t. t.logins in let k : [] ≡ login ∷ [] = ap L same in cc)

nothing_is_kept_at_first : Keeps shop_setup [] no_tables 268435456
nothing_is_kept_at_first = begins shop_setup [] no_tables 268435456 refl refl refl

a_begun_login_is_kept : Keeps shop_setup (begin_pair ∷ []) with_login_begun 268435456
a_begun_login_is_kept =
    record { tables = the_tables_are_kept; legal = begin_is_legal_history; most_is = refl }

not_without_the_rows_of_its_login : Keeps shop_setup (begin_pair ∷ []) no_tables 268435456 → ⊥
not_without_the_rows_of_its_login keeps = not_without_the_login keeps.tables

-- ---- the rows that a pair makes

a_response_leaves_its_exchange : pending_found only_code past_begin (callback_entry 1599 (word 1)) exchange ≡ Some (record waiting { since = 1599 })
a_response_leaves_its_exchange = refl

a_late_one_leaves_none : pending_found only_code past_begin (callback_entry 1600 (word 1)) exchange ≡ None
a_late_one_leaves_none = refl

a_refused_one_leaves_none : pending_found only_code past_begin (callback_entry 1599 (word 1)) (Refused no.WrongBrowser) ≡ None
a_refused_one_leaves_none = refl

the_nonce_is_that_of_the_login : nonce_found only_code past_begin (callback_entry 1599 (word 1)) (callback_entry 1599 (word 1)).ask ≡ Some (word 3)
the_nonce_is_that_of_the_login = refl

there_is_none_after_its_life : nonce_found only_code past_begin (callback_entry 1600 (word 1)) (callback_entry 1600 (word 1)).ask ≡ None
there_is_none_after_its_life = refl

the_exchange_has_it_too : (t : Text) → nonce_found only_code past_callback (tokens_entry 1119 t) (tokens_entry 1119 t).ask ≡ Some (word 3)
the_exchange_has_it_too t = refl

tokens_let_a_session_in : (t : Text) → visit_found only_code past_callback (tokens_entry 1119 t) entered ≡ Some (record visit { entered = 1119 })
tokens_let_a_session_in t = refl

late_ones_let_none_in : (t : Text) → visit_found only_code past_callback (tokens_entry 1120 t) entered ≡ None
late_ones_let_none_in t = refl

refused_ones_let_none_in : (t : Text) → visit_found only_code past_callback (tokens_entry 1119 t) (Refused no.SubjectDiffers) ≡ None
refused_ones_let_none_in t = refl

begin_brings_a_login : MakesRows only_code [] begin_pair (Some login) None None None None
begin_brings_a_login = record { login_is = refl; pending_is = refl; visit_is = refl; seen_is = refl; dead_is = refl }

a_callback_brings_an_exchange : MakesRows only_code past_begin callback_pair None (Some waiting) None None None
a_callback_brings_an_exchange = record { login_is = refl; pending_is = refl; visit_is = refl; seen_is = refl; dead_is = refl }

tokens_bring_a_session : (t : Text) → MakesRows only_code past_callback (tokens_pair t) None None (Some visit) None None
tokens_bring_a_session t = record { login_is = refl; pending_is = refl; visit_is = refl; seen_is = refl; dead_is = refl }

a_callback_does_not_bring_nothing : MakesRows only_code past_begin callback_pair None None None None None → ⊥
a_callback_does_not_bring_nothing rows = (let k : None ≡ Some waiting = rows.pending_is in cc)

-- ---- rows that are put

another_login_may_be_added : MayAddRow login_name login_begun true (login ∷ []) other_login
another_login_may_be_added = record { room = refl; few = omega arith; unnamed = refl; latest = refl }

not_without_room : MayAddRow login_name login_begun false (login ∷ []) other_login → ⊥
not_without_room may = (let k : false ≡ true = may.room in cc)

one_of_that_state_may_not : MayAddRow login_name login_begun true (login ∷ []) login → ⊥
one_of_that_state_may_not may = (let k : Some login ≡ None = may.unnamed in cc)

an_earlier_one_may_not : MayAddRow login_name login_begun true (login ∷ []) (record other_login { begun = 999 }) → ⊥
an_earlier_one_may_not may = (let k : false ≡ true = may.latest in cc)

a_login_is_put_at_the_end : (login_put (Some other_login) with_login_begun).logins ≡ login ∷ other_login ∷ []
a_login_is_put_at_the_end = refl

no_login_is_put : login_put None with_login_begun ≡ with_login_begun
no_login_is_put = refl

an_exchange_uses_its_room : (pending_put (Some waiting) (with_room no_tables)).reserved ≡ record { logins = true; pendings = false; visits = true; seens = true; deads = true }
an_exchange_uses_its_room = refl

no_exchange_is_put : pending_put None with_exchange ≡ with_exchange
no_exchange_is_put = refl

a_session_is_put : (visit_put (Some visit) (with_room no_tables)).visits ≡ visit ∷ []
a_session_is_put = refl

no_session_is_put : visit_put None with_session ≡ with_session
no_session_is_put = refl

-- ---- one more pair

the_callback_is_followed : IsUpdate only_code with_login_begun with_exchange past_begin callback_pair
the_callback_is_followed = record { logins_are = refl; pendings_are = refl; visits_are = refl; seens_are = refl; deads_are = refl }

its_login_does_not_stay : IsUpdate only_code with_login_begun (record with_exchange { logins = login ∷ [] }) past_begin callback_pair → ⊥
its_login_does_not_stay follows = (let k : login ∷ [] ≡ [] = follows.logins_are in cc)

the_tokens_are_followed : (t : Text) → IsUpdate only_code with_exchange with_session past_callback (tokens_pair t)
the_tokens_are_followed t = record { logins_are = refl; pendings_are = refl; visits_are = refl; seens_are = refl; deads_are = refl }

their_exchange_does_not_stay : (t : Text) → IsUpdate only_code with_exchange (record with_session { pendings = waiting ∷ [] }) past_callback (tokens_pair t) → ⊥
their_exchange_does_not_stay t follows = (let k : waiting ∷ [] ≡ [] = follows.pendings_are in cc)

the_callback_is_taken_up : MayUpdate shop_setup past_begin 1000 with_login_begun callback_pair None (Some waiting) None None None
the_callback_is_taken_up =
    record { order = omega arith; agrees = they_agree; begun = they_are_begun; reply_is = sym callback_exchanges_at_once; rows = a_callback_brings_an_exchange; few = omega arith }

not_without_its_exchange : MayUpdate shop_setup past_begin 1000 with_login_begun callback_pair None None None None None → ⊥
not_without_its_exchange up = (let k : None ≡ Some waiting = up.rows.pending_is in cc)

not_before_the_moment_of_the_tables : MayUpdate shop_setup past_begin 1001 with_login_begun callback_pair None (Some waiting) None None None → ⊥
not_before_the_moment_of_the_tables up = (let k : 1001 ≤ 1000 = up.order in absurd (omega arith))
