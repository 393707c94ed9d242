-- Every world that meets the premises keeps the invariant, and so signs on: by induction on its places.
use Rattle.std.proofs.Common.{◌≡◌, ℕ, ◌≤◌, ◌==◌, true, false, None, List, [], ◌∷◌, length, refl, sym}
use Rattle.sso_base.specs.Words.{Word}
use Rattle.sso_base.specs.Legal.{last_moment}
use Rattle.sso_model.specs.Rows.{Live}
use Rattle.rp_exchange.specs.declared.ask.RpAsk.{RpAsk}
use Rattle.rp_exchange.specs.declared.reply.RpReply.{RpReply}
use Rattle.rp_exchange.specs.declared.reply.RpReply.TheVariants as rp
use Rattle.rp_answer.specs.Past.{RpPair}
use Rattle.rp_answer.proofs.Answers.{entered_have_a_cause, users_have_a_cause, left_has_a_cause, ended_has_a_cause}
use Rattle.sso_places.specs.declared.types.WorldAsk.{WorldAsk}
use Rattle.sso_places.specs.Site.{Site, IsSite, setup_at, client_of_party, types_at}
use Rattle.sso_places.specs.World.{Place, Provider, Party, Nothing, World, rp_past}
use Rattle.sso_places.specs.Legal.{IsLegalWorld}
use Rattle.sso_places.specs.Premises.{HasDistinctWords, IsUnleaked, IsUnforged, IsJoined, IsJoinedAt, leaks, forges}
use Rattle.sso_places.specs.Reading.{machine_of, party_steps}
use Rattle.sso_places.specs.Written.{rp_written, written}
use Rattle.sso_places.specs.Agreement.{rows_of, SignsOn}
use Rattle.rp_answer.specs.Visits.{visits, visit_made, live_visits}
use Rattle.sso_model.proofs.ListLaws.{all_filter}
use Rattle.sso_model.specs.Rows.{Machine}
use Rattle.op_answer.specs.Sessions.{sessions}
use Rattle.op_answer.specs.Codes.{codes_issued}
use Rattle.sso_places.specs.World.{op_past}
use Rattle.sign_on.proofs.Invariant.{IsBegun, Agrees, Holds, IsKept}
use Rattle.sso_places.proofs.Places.{legal_before, distinct_before, party_legal}
use Rattle.sign_on.proofs.Shared.{began_more, signed_more, answered_more, redeemed_more, entered_more, sessions_more, codes_more, each_more, events_more, texts_more, sent_more, logouts_more, bound_more, ended_more, dead_more}
use Rattle.sign_on.proofs.OpPlaces.{provider_kept}
use Rattle.sign_on.proofs.RpPlaces.{Does, rp_frame, nothing_done, asked_done, user_done}
use Rattle.sign_on.proofs.Entering.{entering_done}
use Rattle.sign_on.proofs.Leaving.{left_done}
use Rattle.sign_on.proofs.Logouts.{ended_done}
use Rattle.sign_on.proofs.LiveRows.{ends_none, live_same}

-- ---- the party's places

module _ (s : Site) (n from at : ℕ) (request : WorldAsk) (fresh : List Word) (asked : RpAsk) (world : World) (site : IsSite s) (kept : IsKept s world) where
  abbrev pair : RpReply → RpPair
  pair reply = record { entry = record { at = at; fresh = fresh; ask = asked }; reply = reply }

  abbrev here : RpReply → Place
  here reply = Party n from request (pair reply)

  -- a reply that does nothing to sessions
  silent : (reply : RpReply) → IsLegalWorld s (here reply ∷ world) → ends_none reply ≡ true → visit_made (types_at s n) (visits (types_at s n) (rp_past n world)) (rp_past n world) (pair reply) ≡ None
      → party_steps s world (machine_of s world).out n from (rp_past n world) (pair reply) asked reply ≡ [] → rp_written s n fresh reply ≡ [] → IsBegun s (machine_of s world).began n from fresh reply
      → Does s n from request (pair reply) world
  silent reply legal ends unmade none unwritten begins =
      nothing_done s n from request (pair reply) world site legal.asked.0.0 (party_legal s n from request (pair reply) world legal).2 kept
      (live_same (types_at s n) (rp_past n world) (pair reply) at ends unmade) none unwritten begins

  does_by : (reply : RpReply) → IsLegalWorld s (here reply ∷ world) → HasDistinctWords (here reply ∷ world) → IsUnleaked world → leaks world (here reply) ≡ false
      → IsUnforged s world → forges s world (here reply) ≡ false → IsJoined world → IsJoinedAt world from request → Does s n from request (pair reply) world
  does_by (rp.Ask to browser) legal distinct unleaked tight unforged clean joined here_joined =
      asked_done s n from at request fresh asked to browser world site legal distinct kept
  does_by (rp.Entered w sub) legal distinct unleaked tight unforged clean joined here_joined =
      let own = party_legal s n from request (pair (rp.Entered w sub)) world legal in
      entering_done s n from at request fresh asked w sub world site legal distinct unleaked tight unforged clean joined here_joined kept
      (entered_have_a_cause (setup_at s n) (rp_past n world) (pair (rp.Entered w sub)).entry w sub (sym own.3))
  does_by (rp.User sub) legal distinct unleaked tight unforged clean joined here_joined =
      let own = party_legal s n from request (pair (rp.User sub)) world legal in
      user_done s n from at request fresh asked sub world site legal distinct tight kept (users_have_a_cause (setup_at s n) (rp_past n world) (pair (rp.User sub)).entry sub (sym own.3))
  does_by (rp.Left ended) legal distinct unleaked tight unforged clean joined here_joined =
      let own = party_legal s n from request (pair (rp.Left ended)) world legal in
      left_done s n from at request fresh asked ended world site legal distinct tight kept (left_has_a_cause (setup_at s n) (rp_past n world) (pair (rp.Left ended)).entry ended (sym own.3))
  does_by (rp.Ended count) legal distinct unleaked tight unforged clean joined here_joined =
      let own = party_legal s n from request (pair (rp.Ended count)) world legal in
      ended_done s n from at request fresh asked count world site legal distinct clean kept (ended_has_a_cause (setup_at s n) (rp_past n world) (pair (rp.Ended count)).entry count (sym own.3))
  does_by reply legal distinct unleaked tight unforged clean joined here_joined = silent reply legal refl refl refl refl tt

-- A place of a party keeps the invariant.
party_kept : (s : Site) (n from : ℕ) (request : WorldAsk) (p : RpPair) (world : World) → IsSite s → IsLegalWorld s (Party n from request p ∷ world) → HasDistinctWords (Party n from request p ∷ world)
    → IsUnleaked (Party n from request p ∷ world) → IsUnforged s (Party n from request p ∷ world) → IsJoined (Party n from request p ∷ world) → IsKept s world → IsKept s (Party n from request p ∷ world)
party_kept s n from request p world site legal distinct unleaked unforged joined kept =
    rp_frame s n from request p world kept
    (does_by s n from p.entry.at request p.entry.fresh p.entry.ask world site kept p.reply legal distinct unleaked.0 unleaked.1 unforged.0 unforged.1 joined.0 joined.1)

-- ---- a place without a request

nothing_kept : (s : Site) (world : World) → IsKept s world → IsKept s (Nothing ∷ world)
unfolding SignsOn
nothing_kept s world kept =
    let m : Machine = machine_of s world in
    let old : Holds s world m = kept.holds in
    let live : Agrees s (Nothing ∷ world) m.live =
    λ n known.
    each_more s Nothing world n (rows_of (client_of_party s n) m.live) (live_visits (types_at s n) (rp_past n world) (last_moment (rp_past n world)))
    (all_filter (λ (row : Live). row.event ≤ length world) (λ (row : Live). row.client == client_of_party s n) m.live old.events) (old.live n known) in
    record {
      run = (kept.run, tt, live);
      holds = record {
        closed = texts_more Nothing world m.closed old.closed;
        began = began_more Nothing world m.began old.began;
        begun = (tt, old.begun);
        signed = signed_more Nothing world m.signed old.signed;
        answered = answered_more (length world) m.answered old.answered;
        redeemed = redeemed_more Nothing world m.redeemed old.redeemed;
        entered = entered_more s Nothing world m.entered old.entered;
        ended = ended_more s Nothing world m.ended old.ended;
        dead = dead_more s Nothing world m.dead old.dead;
        dead_apart = old.dead_apart;
        sent = sent_more s.configuration Nothing world m.out old.sent;
        sent_apart = old.sent_apart;
        tokens = old.tokens;
        logouts = logouts_more s.configuration Nothing world m.out m.out (written s world) (λ row has. has) old.logouts;
        bound = bound_more s.configuration Nothing world (written s world) old.bound;
        turns = old.turns;
        sessions = sessions_more s.configuration Nothing world m.signed (sessions (op_past world)) old.sessions;
        unclosed = old.unclosed;
        clients = old.clients;
        codes = codes_more s.configuration Nothing world m.answered m.answered (codes_issued (op_past world)) (λ a has. has) old.codes;
        live = live;
        apart = old.apart;
        events = events_more (length world) m.live old.events;
      };
    }

-- ---- all worlds

empty_kept : (s : Site) → IsKept s []
unfolding SignsOn
empty_kept s = record {
  run = tt;
  holds = record {
    closed = tt;
    began = tt;
    begun = tt;
    signed = tt;
    answered = tt;
    redeemed = tt;
    entered = tt;
    ended = tt;
    dead = tt;
    dead_apart = tt;
    sent = tt;
    sent_apart = tt;
    tokens = tt;
    logouts = tt;
    bound = tt;
    turns = tt;
    sessions = tt;
    unclosed = tt;
    clients = tt;
    codes = tt;
    live = λ n known. tt;
    apart = tt;
    events = tt;
  };
}

-- Each world that meets the premises is kept.
pub agrees : (s : Site) (world : World) → IsSite s → IsLegalWorld s world → HasDistinctWords world → IsUnleaked world → IsUnforged s world → IsJoined world → IsKept s world
agrees s [] site legal distinct unleaked unforged joined = empty_kept s
agrees s (Provider from request p ∷ world) site legal distinct unleaked unforged joined =
    provider_kept s from request p world site legal distinct unleaked.1
    (agrees s world site (legal_before s (Provider from request p) world legal) (distinct_before (Provider from request p) world distinct) unleaked.0 unforged.0 joined)
agrees s (Party n from request p ∷ world) site legal distinct unleaked unforged joined =
    party_kept s n from request p world site legal distinct unleaked unforged joined
    (agrees s world site (legal_before s (Party n from request p) world legal) (distinct_before (Party n from request p) world distinct) unleaked.0 unforged.0 joined.0)
agrees s (Nothing ∷ world) site legal distinct unleaked unforged joined =
    nothing_kept s world (agrees s world site (legal_before s Nothing world legal) (distinct_before Nothing world distinct) unleaked.0 unforged.0 joined)
