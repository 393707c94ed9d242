-- How sessions end, and logout tokens that are accepted once, each met and refused on the sample logins, and the laws of both.
use Rattle.std.proofs.Common.{◌≡◌, ◌≤◌, ◌+◌, Bool, true, false, [], ◌∷◌, Some, None, codes, refl, sym, ap, inl, inr, arith}
use Rattle.std.specs.Str.{bytes_eq}
use Rattle.json.proofs.Printed.Utf8.{IsUtf8-are_ascii}
use Rattle.sso_base.specs.Words.{Text, is_word, word_text}
use Rattle.sso_base.specs.Rows.{row_of}
use Rattle.rp_login.specs.Rows.{visit_name}
use Rattle.rp_exchange.specs.Values.{IsLogoutValue}
use Rattle.rp_exchange.specs.declared.ask.RpAsk.{RpAsk}
use Rattle.rp_exchange.specs.declared.ask.RpAsk.TheVariants as ask
use Rattle.rp_exchange.specs.declared.no.RpNo.TheVariants as no
use Rattle.rp_exchange.specs.declared.reply.RpReply.TheVariants.{Left, Ended, Refused}
use Rattle.rp_answer.specs.Past.{RpPair}
use Rattle.rp_answer.specs.Visits.{session_left, visits}
use Rattle.rp_answer.specs.Answering.{rp_answer}
use Rattle.rp_answer.specs.Legal.{IsLegalRp}
use Rattle.rp_answer.specs.Endings.{Accepts, Leaves, LogsOut, EndsVisit}
use Rattle.rp_answer.proofs.Sample.{word, entry_at, pair_of, only_code, shop_setup}
use Rattle.rp_answer.proofs.FirstVisit.{past_entered}
use Rattle.rp_answer.proofs.EachRefusal.{second_begin, asked_second}
use Rattle.rp_answer.proofs.RowSamples.{visit}
use Rattle.rp_answer.proofs.Legality.{are_words, entered_is_legal}
use Rattle.rp_answer.proofs.LoggedOut.{leave_entry, claims, logout_at, by_subject, past_out, later, forgotten_is_new}
use Rattle.rp_answer.proofs.VisitEnds.{visits_end, visits_stay}
use Rattle.rp_answer.proofs.VisitsLive.{live_visits_stay}
use Rattle.rp_answer.proofs.TokensOnce.{tokens_apart, tokens_once}

-- ---- leaving

abbrev a_leave : RpPair
a_leave = pair_of leave_entry (Left true)

abbrev anothers_leave : RpPair
anothers_leave = pair_of (entry_at 1001 33 (ask.Leave (Some (word 5)))) (Left false)

abbrev a_begin : RpPair
a_begin = pair_of second_begin asked_second

alice_leaves : Leaves a_leave visit
alice_leaves = record { asked = refl; ended = true; replied = refl }

another_leaves : Leaves anothers_leave visit → ⊥
another_leaves h =
    let L : RpAsk → Bool = λ a. is_word (session_left a (Left false)) (word 5) in
    let never : true ≡ false = ap L h.asked in
    cc

-- ---- logout tokens

abbrev a_logout : RpPair
a_logout = pair_of (logout_at 1100 claims) (Ended 1)

abbrev bobs_logout : RpPair
bobs_logout = pair_of (logout_at 1100 (record claims { sub = Some (codes "bob") })) (Ended 0)

accepted : Accepts a_logout claims
accepted = record { asked = refl; count = 1; replied = refl }

refused : Accepts (pair_of (logout_at 1100 claims) (Refused (no.Seen 4))) claims → ⊥
refused h = let replied = h.replied in cc

logs_alice_out : LogsOut a_logout visit
logs_alice_out = record { claims = claims; accepts = record { asked = refl; count = 1; replied = refl }; means = record { subject = refl; session = tt } }

nobody_logged_out : LogsOut a_begin visit → ⊥
nobody_logged_out h = let asked = h.accepts.asked in cc

-- ---- the end of a session

ends_by_leaving : EndsVisit a_leave visit
ends_by_leaving = inl alice_leaves

ends_by_logout : EndsVisit a_logout visit
ends_by_logout = inr logs_alice_out

begin_ends_none : EndsVisit a_begin visit → ⊥
begin_ends_none (inl h) = let asked = h.asked in cc
begin_ends_none (inr h) = nobody_logged_out h

-- the law on a real session: it ends so, and another login that begins leaves it
alice_is_gone : (t : Text) → row_of visit_name (word 26) (visits only_code (a_leave ∷ past_entered t)) ≡ None
alice_is_gone t = (visits_end a_leave visit only_code (past_entered t) (word 26) refl).1 ends_by_leaving

alice_is_out : (t : Text) → row_of visit_name (word 26) (visits only_code (a_logout ∷ past_entered t)) ≡ None
alice_is_out t = (visits_end a_logout visit only_code (past_entered t) (word 26) refl).1 ends_by_logout

why_alice_is_gone : (t : Text) → EndsVisit a_leave visit
why_alice_is_gone t = (visits_end a_leave visit only_code (past_entered t) (word 26) refl).0 refl

bobs_logout_ends_none : (t : Text) → EndsVisit bobs_logout visit → ⊥
bobs_logout_ends_none t h =
    let gone : row_of visit_name (word 26) (visits only_code (bobs_logout ∷ past_entered t)) ≡ None = (visits_end bobs_logout visit only_code (past_entered t) (word 26) refl).1 h in
    cc

alice_stays : (t : Text) → row_of visit_name (word 26) (visits only_code (a_begin ∷ past_entered t)) ≡ Some visit
alice_stays t = visits_stay a_begin visit only_code (past_entered t) (word 26) refl refl begin_ends_none

second_begins : (t : Text) → rp_answer shop_setup (past_entered t) second_begin ≡ asked_second
unfolding rp_answer
second_begins t = refl

second_is_legal : (t : Text) → bytes_eq t (word_text (word 3)) ≡ true → IsLegalRp shop_setup (a_begin ∷ past_entered t)
second_is_legal t same = (
  entered_is_legal t same,
  record { moment = omega arith; four = refl; words = are_words 5 refl refl refl refl; ask = tt },
  omega arith,
  sym (second_begins t),
)

alice_lives_on : (t : Text) → bytes_eq t (word_text (word 3)) ≡ true → row_of visit_name (word 26) (visits only_code (a_begin ∷ past_entered t)) ≡ Some visit
alice_lives_on t same = live_visits_stay shop_setup (past_entered t) a_begin (word 26) visit (second_is_legal t same) refl begin_ends_none

-- ---- one `jti` is accepted again 661 seconds after, in a legal past

logout_is_value : IsLogoutValue claims
logout_is_value = record {
  iss = IsUtf8-are_ascii (codes "http://127.0.0.1:8080") refl;
  aud = (IsUtf8-are_ascii (codes "shop-client") refl, tt);
  iat = omega arith;
  exp = omega arith;
  jti = IsUtf8-are_ascii (codes "j") refl;
  sub = IsUtf8-are_ascii (codes "alice") refl;
  sid = tt;
}

later_is_value : IsLogoutValue later
later_is_value = record {
  iss = logout_is_value.iss;
  aud = logout_is_value.aud;
  iat = omega arith;
  exp = omega arith;
  jti = logout_is_value.jti;
  sub = logout_is_value.sub;
  sid = tt;
}

abbrev a_later_logout : RpPair
a_later_logout = pair_of (logout_at 1761 later) (Ended 0)

logout_is_legal : (t : Text) → bytes_eq t (word_text (word 3)) ≡ true → IsLegalRp shop_setup (past_out t)
logout_is_legal t same = (
  entered_is_legal t same,
  record { moment = omega arith; four = refl; words = are_words 37 refl refl refl refl; ask = logout_is_value },
  omega arith,
  sym (by_subject t),
)

later_is_legal : (t : Text) → bytes_eq t (word_text (word 3)) ≡ true → IsLegalRp shop_setup (a_later_logout ∷ past_out t)
later_is_legal t same = (
  logout_is_legal t same,
  record { moment = omega arith; four = refl; words = are_words 37 refl refl refl refl; ask = later_is_value },
  omega arith,
  sym (forgotten_is_new t),
)

far_apart : (t : Text) → bytes_eq t (word_text (word 3)) ≡ true → 1100 + 661 ≤ 1761
far_apart t same =
    tokens_apart shop_setup [] [] (past_entered t) a_logout a_later_logout (later_is_legal t same) claims later accepted (record { asked = refl; count = 0; replied = refl }) refl

-- the same token is not
no_sooner : (t : Text) (p : RpPair) → bytes_eq t (word_text (word 3)) ≡ true → IsLegalRp shop_setup (p ∷ past_out t) → Accepts p claims → ⊥
no_sooner t p same legal again = tokens_once shop_setup [] [] (past_entered t) a_logout p legal claims accepted again
