-- Leaving and logout requests, by computation, and the causes of their replies.
use Rattle.std.proofs.Common.{◌≡◌, ℕ, true, false, [], ◌∷◌, ◌++◌, Some, None, Ok, Err, codes, refl}
use Rattle.sso_base.specs.Words.{Text}
use Rattle.sso_base.specs.declared.history.Entry.{Entry}
use Rattle.jws_compact.specs.declared.no.JwsNo.TheVariants as jws_no
use Rattle.logout_token.specs.declared.claims.LogoutClaims.{LogoutClaims}
use Rattle.logout_token.specs.declared.no.LogoutNo.TheVariants as logout_no
use Rattle.rp_login.specs.declared.rows.SeenRow.{SeenRow}
use Rattle.rp_login.specs.declared.table.RpTable.TheVariants as table
use Rattle.rp_exchange.specs.declared.ask.RpAsk.{RpAsk}
use Rattle.rp_exchange.specs.declared.ask.RpAsk.TheVariants as ask
use Rattle.rp_exchange.specs.declared.no.RpNo.TheVariants as no
use Rattle.rp_exchange.specs.declared.reply.RpReply.TheVariants.{Nobody, Left, Ended, Refused, NotHere}
use Rattle.rp_answer.specs.Past.{RpPast, RpPair}
use Rattle.rp_answer.specs.Asked.{token_accepted}
use Rattle.rp_answer.specs.Visits.{session_left, is_named, visit_kept, visits}
use Rattle.rp_answer.specs.Seens.{seen_of, seen_by, seen_kept, seens, live_seens, live_seen}
use Rattle.rp_answer.specs.Replies.{left, meant_count, logout_new, logout_good, logout}
use Rattle.rp_answer.specs.Room.{seen_lacking, table_lacking}
use Rattle.rp_answer.specs.Answering.{rp_answer}
use Rattle.rp_answer.specs.Causes.{LeftCause, EndedCause, LogoutAccepted, BadLogout, SeenBefore, LogoutRefused, RefusedCause}
use Rattle.rp_answer.specs.Legal.{AcceptedBy}
use Rattle.rp_answer.proofs.Answers.{left_has_a_cause, ended_has_a_cause}
use Rattle.rp_answer.proofs.Refusals.{refusals_have_a_cause}
use Rattle.rp_answer.proofs.Accepted.{seens_are_accepted}
use Rattle.rp_answer.proofs.Sample.{word, entry_at, pair_of, only_code, shop_setup}
use Rattle.rp_answer.proofs.FirstVisit.{begin_entry, past_entered, visit_entry}
use Rattle.rp_answer.proofs.RowSamples.{visit}

-- ---- leaving

abbrev pub leave_entry : Entry RpAsk
leave_entry = entry_at 1001 33 (ask.Leave (Some (word 26)))

pub alice_leaves : (t : Text) → rp_answer shop_setup (past_entered t) leave_entry ≡ Left true
unfolding rp_answer
alice_leaves t = refl

abbrev pub past_left : Text → RpPast
past_left t = pair_of leave_entry (Left true) ∷ past_entered t

alice_is_gone : (t : Text) → rp_answer shop_setup (past_left t) (visit_entry 1002) ≡ Nobody
unfolding rp_answer
alice_is_gone t = refl

there_is_nobody_to_leave : (t : Text) → rp_answer shop_setup (past_left t) leave_entry ≡ Left false
unfolding rp_answer
there_is_nobody_to_leave t = refl

-- nor after the life of the session
too_late_to_leave : (t : Text) → rp_answer shop_setup (past_entered t) (entry_at 29800 33 (ask.Leave (Some (word 26)))) ≡ Left false
unfolding rp_answer
too_late_to_leave t = refl

others_stay : (t : Text) → visits only_code (pair_of (entry_at 1001 33 (ask.Leave (Some (word 5)))) (Left false) ∷ past_entered t) ≡ visit ∷ []
others_stay t = refl

-- ---- logout requests

abbrev pub claims : LogoutClaims
claims =
    record {
      iss = codes "http://127.0.0.1:8080";
      aud = codes "shop-client" ∷ [];
      iat = 1000;
      exp = 1120;
      jti = codes "j";
      sub = Some (codes "alice");
      sid = None;
    }

abbrev pub logout_at : ℕ → LogoutClaims → Entry RpAsk
logout_at at told = entry_at at 37 (ask.Logout (Ok told))

pub by_subject : (t : Text) → rp_answer shop_setup (past_entered t) (logout_at 1100 claims) ≡ Ended 1
unfolding rp_answer
by_subject t = refl

abbrev pub past_out : Text → RpPast
past_out t = pair_of (logout_at 1100 claims) (Ended 1) ∷ past_entered t

out_is_out : (t : Text) → rp_answer shop_setup (past_out t) (visit_entry 1101) ≡ Nobody
unfolding rp_answer
out_is_out t = refl

no_visit_is_left : (t : Text) → visits only_code (past_out t) ≡ []
no_visit_is_left t = refl

-- a token with a `sid` ends the sessions of that `sid` alone
by_both : (t : Text) → rp_answer shop_setup (past_entered t) (logout_at 1100 (record claims { sid = Some (codes "sid") })) ≡ Ended 1
unfolding rp_answer
by_both t = refl

by_another_sid : (t : Text) → rp_answer shop_setup (past_entered t) (logout_at 1100 (record claims { sid = Some (codes "other") })) ≡ Ended 0
unfolding rp_answer
by_another_sid t = refl

another_sid_ends_none : (t : Text) → visits only_code (pair_of (logout_at 1100 (record claims { sid = Some (codes "other") })) (Ended 0) ∷ past_entered t) ≡ visit ∷ []
another_sid_ends_none t = refl

-- a `jti` is remembered for 661 seconds, with the place at which it was accepted
abbrev pub later : LogoutClaims
later = record claims { iat = 1700; exp = 1820 }

seen_is_refused : (t : Text) → rp_answer shop_setup (past_out t) (logout_at 1760 later) ≡ Refused (no.Seen 4)
unfolding rp_answer
seen_is_refused t = refl

pub forgotten_is_new : (t : Text) → rp_answer shop_setup (past_out t) (logout_at 1761 later) ≡ Ended 0
unfolding rp_answer
forgotten_is_new t = refl

bad_is_refused : (t : Text) → rp_answer shop_setup (past_entered t) (logout_at 1180 claims) ≡ Refused (no.Logout (logout_no.Expired 1120))
unfolding rp_answer
bad_is_refused t = refl

-- a bad one is refused before one that was seen
bad_before_seen : (t : Text) → rp_answer shop_setup (past_out t) (logout_at 1180 claims) ≡ Refused (no.Logout (logout_no.Expired 1120))
unfolding rp_answer
bad_before_seen t = refl

abbrev unsealed : Entry RpAsk
unsealed = entry_at 1100 37 (ask.Logout (Err (logout_no.Jws jws_no.BadMac)))

unsealed_is_refused : (t : Text) → rp_answer shop_setup (past_entered t) unsealed ≡ Refused (no.Logout (logout_no.Jws jws_no.BadMac))
unfolding rp_answer
unsealed_is_refused t = refl

-- a token that names nobody is read of no request
nobody_is_named : (t : Text) → rp_answer shop_setup (past_entered t) (logout_at 1100 (record claims { sub = None })) ≡ NotHere
unfolding rp_answer
nobody_is_named t = refl

-- ---- the parts

abbrev pub seen : SeenRow
seen = record { jti = codes "j"; place = 4; accepted = 1100 }

seen_is_made : seen_by 3 1100 (logout_at 1100 claims).ask (Ended 1) ≡ Some seen
seen_is_made = refl

refused_is_not_seen : seen_by 3 1100 (logout_at 1100 claims).ask (Refused (no.Seen 2)) ≡ None
refused_is_not_seen = refl

one_is_seen : (t : Text) → seens (past_out t) ≡ seen ∷ []
one_is_seen t = refl

all_keep_seens : (t : Text) → seen_kept (past_out t) (pair_of leave_entry (Left false)) seen ≡ Some seen
all_keep_seens t = refl

seens_live : (t : Text) → live_seens (past_out t) 1760 ≡ seen ∷ []
seens_live t = refl

no_seen_lives : (t : Text) → live_seens (past_out t) 1761 ≡ []
no_seen_lives t = refl

seen_lives : (t : Text) → live_seen (past_out t) 1760 (codes "j") ≡ Some seen
seen_lives t = refl

other_is_not_seen : (t : Text) → live_seen (past_out t) 1760 (codes "k") ≡ None
other_is_not_seen t = refl

one_session_is_left : session_left leave_entry.ask (Left true) ≡ Some (word 26)
one_session_is_left = refl

not_here_leaves_none : session_left leave_entry.ask NotHere ≡ None
not_here_leaves_none = refl

one_is_accepted : token_accepted (logout_at 1100 claims).ask (Ended 1) ≡ Some claims
one_is_accepted = refl

none_is_accepted : token_accepted (logout_at 1100 claims).ask (Refused (no.Seen 4)) ≡ None
none_is_accepted = refl

alice_is_named : is_named (Some claims) visit ≡ true
alice_is_named = refl

bob_is_named : is_named (Some (record claims { sub = Some (codes "bob") })) visit ≡ false
bob_is_named = refl

what_is_seen : seen_of 3 1100 claims ≡ seen
what_is_seen = refl

leaving_ends_its_visit : visit_kept [] (pair_of leave_entry (Left true)) visit ≡ None
leaving_ends_its_visit = refl

logout_ends_its_visit : visit_kept [] (pair_of (logout_at 1100 claims) (Ended 1)) visit ≡ None
logout_ends_its_visit = refl

refusal_ends_no_visit : visit_kept [] (pair_of (logout_at 1100 claims) (Refused (no.Seen 4))) visit ≡ Some visit
refusal_ends_no_visit = refl

one_left : left (Some visit) ≡ Left true
one_left = refl

none_left : left None ≡ Left false
none_left = refl

one_is_meant : meant_count claims (visit ∷ []) ≡ 1
one_is_meant = refl

none_is_meant : meant_count (record claims { sub = Some (codes "bob") }) (visit ∷ []) ≡ 0
none_is_meant = refl

new_is_accepted : (t : Text) → logout_new shop_setup (past_entered t) (logout_at 1100 claims) claims None ≡ Ended 1
new_is_accepted t = refl

seen_is_not : (t : Text) → logout_new shop_setup (past_entered t) (logout_at 1100 claims) claims (Some seen) ≡ Refused (no.Seen 4)
seen_is_not t = refl

good_is_accepted : (t : Text) → logout_good shop_setup (past_entered t) (logout_at 1100 claims) claims (Ok tt) ≡ Ended 1
good_is_accepted t = refl

bad_is_not : (t : Text) → logout_good shop_setup (past_entered t) (logout_at 1100 claims) claims (Err logout_no.Issuer) ≡ Refused (no.Logout logout_no.Issuer)
bad_is_not t = refl

read_is_judged : (t : Text) → logout shop_setup (past_entered t) (logout_at 1100 claims) (Ok claims) ≡ Ended 1
read_is_judged t = refl

unread_is_not : (t : Text) → logout shop_setup (past_entered t) unsealed (Err logout_no.WrongTyp) ≡ Refused (no.Logout logout_no.WrongTyp)
unread_is_not t = refl

seen_has_room : (t : Text) → table_lacking only_code (past_entered t) (logout_at 1100 claims) (Ended 1) ≡ None
seen_has_room t = refl

seen_has_none : (t : Text) → seen_lacking (past_out t) (logout_at 1100 claims) (logout_at 1100 claims).ask ≡ Some table.Seen
seen_has_none t = refl

others_need_no_room : (t : Text) → seen_lacking (past_out t) unsealed unsealed.ask ≡ None
others_need_no_room t = refl

-- ---- what the replies say

a_leave : (t : Text) → LeftCause shop_setup (past_entered t) leave_entry leave_entry.ask true
a_leave t = left_has_a_cause shop_setup (past_entered t) leave_entry true (alice_leaves t)

no_leave : (t : Text) → LeftCause shop_setup (past_entered t) begin_entry begin_entry.ask true → ⊥
no_leave t h = h

a_logout : (t : Text) → EndedCause shop_setup (past_entered t) (logout_at 1100 claims) (logout_at 1100 claims).ask 1
a_logout t = ended_has_a_cause shop_setup (past_entered t) (logout_at 1100 claims) 1 (by_subject t)

no_logout : (t : Text) → EndedCause shop_setup (past_entered t) begin_entry begin_entry.ask 1 → ⊥
no_logout t h = h

not_accepted_twice : (t : Text) → LogoutAccepted shop_setup (past_out t) (logout_at 1760 later) later 0 → ⊥
not_accepted_twice t h = let unseen = h.unseen in cc

a_bad_logout : (t : Text) → RefusedCause shop_setup (past_entered t) (logout_at 1180 claims) (logout_at 1180 claims).ask (no.Logout (logout_no.Expired 1120))
a_bad_logout t = refusals_have_a_cause shop_setup (past_entered t) (logout_at 1180 claims) (no.Logout (logout_no.Expired 1120)) (bad_is_refused t)

no_bad_logout : BadLogout shop_setup (logout_at 1100 claims) claims logout_no.Issuer → ⊥
no_bad_logout h = let judged = h.judged in cc

a_seen_logout : (t : Text) → RefusedCause shop_setup (past_out t) (logout_at 1760 later) (logout_at 1760 later).ask (no.Seen 4)
a_seen_logout t = refusals_have_a_cause shop_setup (past_out t) (logout_at 1760 later) (no.Seen 4) (seen_is_refused t)

not_seen_before : (t : Text) → SeenBefore shop_setup (past_out t) (logout_at 1761 later) later 4 → ⊥
not_seen_before t h = let live = h.live in cc

an_unread_logout : (t : Text) → LogoutRefused shop_setup (past_entered t) unsealed (Err (logout_no.Jws jws_no.BadMac)) (no.Logout (logout_no.Jws jws_no.BadMac))
an_unread_logout t = refl

no_state_of_a_logout : (t : Text) → LogoutRefused shop_setup (past_entered t) unsealed (Err (logout_no.Jws jws_no.BadMac)) no.NoState → ⊥
no_state_of_a_logout t h = h

-- ---- who accepted it

it_was_accepted : (t : Text) → AcceptedBy (past_out t) seen
it_was_accepted t = seens_are_accepted (past_out t) (codes "j") seen refl

no_parts : (later : RpPast) (p : RpPair) (earlier : RpPast) → [] ≡ later ++ p ∷ earlier → ⊥
no_parts [] p earlier h = cc
no_parts (q ∷ later) p earlier h = cc

nothing_was_accepted : AcceptedBy [] seen → ⊥
nothing_was_accepted h = no_parts h.later h.maker h.earlier h.parts
