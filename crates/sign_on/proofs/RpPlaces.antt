-- A party's places in general, and those that let nobody in: their steps may be taken, and the invariant still holds.
use Rattle.std.proofs.Common.{◌≡◌, ◌≢◌, ℕ, suc, ◌<◌, ◌≤◌, ◌==◌, not, Bool, true, false, cond, List, [], ◌∷◌, ◌++◌, length, filter, Option, Some, None, option_and_then, refl, sym, ap, ◌∙◌, subst, inl, inr, arith}
use Rattle.std.proofs.lemmas.Option.{same_Some}
use Rattle.std.proofs.lemmas.Bool.{eqb-true, eqb-false}
use Rattle.std.specs.List.{AllByRecursion}
use Rattle.sso_base.specs.Words.{Word, Text, IsWord, fresh_word, word_text}
use Rattle.sso_base.specs.Rows.{row_of, lives, if_lives}
use Rattle.sso_base.specs.Legal.{last_moment}
use Rattle.sso_base.proofs.RowLaws.{bool_cases}
use Rattle.sso_base.proofs.WordTexts.{word_text_inj}
use Rattle.sso_model.specs.Lists.{Has}
use Rattle.sso_model.specs.Rows.{Began, Sent, Entered, Dead, Live, Machine, Step, begin, see}
use Rattle.sso_model.specs.Machine.{IsRun, after, after_all}
use Rattle.sso_model.proofs.ListLaws.{all_weaker, all_filter, all_append, has_append_right, has_filter}
use Rattle.sso_model.proofs.RunLaws.{Apart, apart_filter, run_append, after_append, lapses_run, lapses_after}
use Rattle.sso_model.proofs.ForgetRuns.{DeadApart, deads_filter, forgets_run, forgets_after}
use Rattle.client_registry.specs.Configuration.{Configuration}
use Rattle.oidc_words.specs.declared.response_types.Types.{Types}
use Rattle.rp_login.specs.declared.rows.SessionRow.{SessionRow}
use Rattle.oidc_words.specs.Lives.{visit_life}
use Rattle.rp_login.specs.Rows.{visit_name, visit_begun}
use Rattle.sso_base.specs.declared.http.Ask.{Ask}
use Rattle.rp_exchange.specs.declared.ask.RpAsk.{RpAsk}
use Rattle.rp_exchange.specs.declared.ask.RpAsk.TheVariants as ask
use Rattle.rp_exchange.specs.declared.reply.RpReply.{RpReply}
use Rattle.rp_exchange.specs.declared.reply.RpReply.TheVariants as rp
use Rattle.op_answer.specs.Sessions.{sessions}
use Rattle.op_answer.specs.Codes.{codes_issued}
use Rattle.rp_response.specs.Told.{browser_given, session_given}
use Rattle.rp_request.specs.Requests.{HasCookies}
use Rattle.rp_request.proofs.Routing.{has_cookies}
use Rattle.rp_answer.specs.Past.{RpPair, RpPast}
use Rattle.rp_answer.specs.Visits.{visits, visit_made, live_visits, live_visit}
use Rattle.rp_answer.specs.Causes.{UserCause}
use Rattle.sso_places.specs.declared.types.WorldAsk.{WorldAsk}
use Rattle.sso_places.specs.declared.types.WorldAsk.TheVariants.{Http}
use Rattle.sso_places.specs.Site.{Site, IsSite, setup_at, client_of_party, types_at}
use Rattle.sso_places.specs.World.{Place, Provider, Party, Nothing, World, op_past, rp_past, fresh_of, entered_as}
use Rattle.sso_places.specs.Legal.{IsLegalWorld}
use Rattle.sso_places.specs.Cookies.{words_in, set_at, presented}
use Rattle.sso_places.specs.Tokens.{TokenText}
use Rattle.sso_places.specs.Written.{rp_written, written}
use Rattle.sso_places.proofs.Numbers.{place_at_has}
use Rattle.sso_places.specs.Premises.{HasDistinctWords, leaks}
use Rattle.sso_places.specs.Reading.{machine_of, steps_at, lapses, forgets, is_forgotten, party_steps, see_of, is_over, user_of_subject}
use Rattle.sso_places.specs.Each.{Each}
use Rattle.sso_places.specs.Agreement.{IsSameSession, rows_of, SignsOn}
use Rattle.sign_on.proofs.Lists.{each_has, each_filter, each_weaker, each_all, filter_had, filter_both, all_kept, all_of, row_of-has, lives_some}
use Rattle.sign_on.proofs.Invariant.{IsDrawnNonce, IsTokenAnswered, IsTokenSent, IsEnteredRow, IsEndedRow, IsDeadRow, IsBegun, IsBegunPlace, Agrees, Holds, IsKept, IsTokenBound}
use Rattle.sso_places.proofs.Places.{past_own, past_other, party_legal, legal_before, distinct_before, fresh_drawn, fresh_is_word, drawn_other}
use Rattle.sign_on.proofs.Shared.{began_more, signed_more, answered_more, redeemed_more, entered_more, sessions_more, codes_more, each_more, events_more, own_browser, texts_more, sent_more, logouts_more, bound_more, ended_more, dead_more}
use Rattle.sign_on.proofs.Registry.{parties_apart}
use Rattle.sign_on.proofs.Texts.{object_answered, object_sent, object_bound}
use Rattle.sign_on.proofs.AskKinds.{IsRequest, as_request}
use Rattle.sign_on.proofs.LiveRows.{settled, sessions_settled, other_settled, is_ended, live_left, live_same}
use Rattle.sign_on.proofs.Pairs.{entered_finds, entered_word}

-- ---- a place of a party in general

-- the machine after the lapses and the forgets of the place
abbrev pub unforgotten : RpPast → ℕ → ℕ → List Dead → List Dead
unforgotten past client at rows = filter (λ row. not (is_forgotten past client at row)) rows

abbrev pub lapsed : Site → ℕ → ℕ → World → Machine
lapsed s n at world =
    record (machine_of s world) {
      live = settled world (client_of_party s n) at (machine_of s world).live;
      dead = unforgotten (rp_past n world) (client_of_party s n) at (machine_of s world).dead;
    }

-- what the steps after those do, and what they leave
pub record Does (s : Site) (n from : ℕ) (request : WorldAsk) (p : RpPair) (world : World) : Type 0 where
  pub began : List Began
  pub entered : List Entered
  pub live : List Live
  pub ended : List Sent
  pub dead : List Dead
  pub run : IsRun (lapsed s n p.entry.at world) (party_steps s world (machine_of s world).out n from (rp_past n world) p p.entry.ask p.reply)
  pub leaves : after_all (lapsed s n p.entry.at world) (party_steps s world (machine_of s world).out n from (rp_past n world) p p.entry.ask p.reply)
      ≡ record (machine_of s world) { began = began; entered = entered; live = live; ended = ended; dead = dead }
  pub nonces : AllByRecursion (λ (row : Began). IsDrawnNonce (Party n from request p ∷ world) row.nonce) began
  pub begins : IsBegun s began n from p.entry.fresh p.reply
  pub still : (row : Began) → Has (machine_of s world).began row → Has began row
  pub entries : AllByRecursion (IsEnteredRow s (Party n from request p ∷ world)) entered
  pub endings : AllByRecursion (IsEndedRow s (Party n from request p ∷ world)) ended
  pub deaths : AllByRecursion (IsDeadRow s (Party n from request p ∷ world)) dead
  pub dead_once : DeadApart dead
  pub texts : AllByRecursion (IsTokenAnswered s.configuration (machine_of s world).answered) (rp_written s n p.entry.fresh p.reply)
  pub logouts : AllByRecursion (IsTokenSent s.configuration (Party n from request p ∷ world) (machine_of s world).out) (rp_written s n p.entry.fresh p.reply)
  pub bound : AllByRecursion (IsTokenBound s.configuration (Party n from request p ∷ world)) (rp_written s n p.entry.fresh p.reply)
  pub agrees : Agrees s (Party n from request p ∷ world) live
  pub apart : Apart live
  pub low : AllByRecursion (λ (row : Live). row.event ≤ suc (length world)) live

-- the begins of earlier places stay
begun_reply : (s : Site) (began after : List Began) (n from : ℕ) (fresh : List Word) (reply : RpReply) → ((row : Began) → Has began row → Has after row) → IsBegun s began n from fresh reply → IsBegun s after n from fresh reply
begun_reply s began after n from fresh (rp.Ask to browser) still old = still (record { client = client_of_party s n; browser = from; nonce = Some (word_text (fresh_word fresh 2)) }) old
begun_reply s began after n from fresh reply still old = tt

begun_still : (s : Site) (began after : List Began) (x : Place) → ((row : Began) → Has began row → Has after row) → IsBegunPlace s began x → IsBegunPlace s after x
begun_still s began after (Provider from request p) still old = tt
begun_still s began after (Party n from request p) still old = begun_reply s began after n from p.entry.fresh p.reply still old
begun_still s began after Nothing still old = tt

-- so the invariant still holds
pub rp_frame : (s : Site) (n from : ℕ) (request : WorldAsk) (p : RpPair) (world : World) → IsKept s world → Does s n from request p world → IsKept s (Party n from request p ∷ world)
unfolding SignsOn
rp_frame s n from request p world kept does =
    let x : Place = Party n from request p in
    let c : Configuration = s.configuration in
    let m : Machine = machine_of s world in
    let old : Holds s world m = kept.holds in
    let client : ℕ = client_of_party s n in
    let at : ℕ = p.entry.at in
    let mid : Machine = lapsed s n at world in
    let new : Machine = record m { began = does.began; entered = does.entered; live = does.live; ended = does.ended; dead = does.dead } in
    let first : List Step = lapses world client at m in
    let then : List Step = forgets (rp_past n world) client at m in
    let second : List Step = party_steps s world m.out n from (rp_past n world) p p.entry.ask p.reply in
    let over : Machine = record m { live = settled world client at m.live } in
    let left : after_all m first ≡ over = lapses_after m (is_over world client at) old.apart in
    let forgot : after_all over then ≡ mid = forgets_after over (is_forgotten (rp_past n world) client at) old.dead_apart in
    let R : Machine → Type 0 = λ z. IsRun z second in
    let rest : IsRun over (then ++ second) = run_append over then second (forgets_run over (is_forgotten (rp_past n world) client at) old.dead_apart) (subst R (sym forgot) does.run) in
    let S : Machine → Type 0 = λ z. IsRun z (then ++ second) in
    let run : IsRun m (steps_at s world m x) = run_append m first (then ++ second) (lapses_run m (is_over world client at) old.apart) (subst S (sym left) rest) in
    let A : Machine → Machine = λ z. after_all z second in
    let B : Machine → Machine = λ z. after_all z (then ++ second) in
    let leaves : machine_of s (x ∷ world) ≡ new = after_append m first (then ++ second) ∙ ap B left ∙ after_append over then second ∙ ap A forgot ∙ does.leaves in
    let holds : Holds s (x ∷ world) new =
    record {
      closed = texts_more x world m.closed old.closed;
      began = does.nonces;
      begun = (does.begins, all_weaker (IsBegunPlace s m.began) (IsBegunPlace s does.began) world (λ y was. begun_still s m.began does.began y does.still was) old.begun);
      signed = signed_more x world m.signed old.signed;
      answered = answered_more (length world) m.answered old.answered;
      redeemed = redeemed_more x world m.redeemed old.redeemed;
      entered = does.entries;
      ended = does.endings;
      dead = does.deaths;
      dead_apart = does.dead_once;
      sent = sent_more c x world m.out old.sent;
      sent_apart = old.sent_apart;
      tokens = all_append (IsTokenAnswered c m.answered) (rp_written s n p.entry.fresh p.reply) (written s world) does.texts old.tokens;
      logouts = all_append (IsTokenSent c (x ∷ world) m.out) (rp_written s n p.entry.fresh p.reply) (written s world) does.logouts (logouts_more c x world m.out m.out (written s world) (λ row has. has) old.logouts);
      bound = all_append (IsTokenBound c (x ∷ world)) (rp_written s n p.entry.fresh p.reply) (written s world) does.bound (bound_more c x world (written s world) old.bound);
      turns = old.turns;
      sessions = sessions_more c x world m.signed (sessions (op_past world)) old.sessions;
      unclosed = old.unclosed;
      clients = old.clients;
      codes = codes_more c x world m.answered m.answered (codes_issued (op_past world)) (λ a has. has) old.codes;
      live = does.agrees;
      apart = does.apart;
      events = does.low;
    } in
    let there : Holds s (x ∷ world) (machine_of s (x ∷ world)) = subst (Holds s (x ∷ world)) (sym leaves) holds in
    record { run = (kept.run, run, there.live); holds = there }

-- ---- the live rows

-- the sessions of the party itself, and those of the other parties
pub agrees_by : (s : Site) (world : World) (n : ℕ) (live : List Live)
    → Each (IsSameSession s world n) (rows_of (client_of_party s n) live) (live_visits (types_at s n) (rp_past n world) (last_moment (rp_past n world)))
    → ((k : ℕ) → k < length s.configuration.parties → (n ≡ k → ⊥) → Each (IsSameSession s world k) (rows_of (client_of_party s k) live) (live_visits (types_at s k) (rp_past k world) (last_moment (rp_past k world))))
    → Agrees s world live
agrees_by s world n live own others =
    λ k known.
    let E : ℕ → Type 0 = λ j. Each (IsSameSession s world j) (rows_of (client_of_party s j) live) (live_visits (types_at s j) (rp_past j world) (last_moment (rp_past j world))) in
    elim (bool_cases (n == k)) [
      | inl e ↦ subst E (eqb-true n k e) own
      | inr e ↦ others k known (eqb-false n k e)
    ]

low_rows : (client n : ℕ) (live : List Live) → AllByRecursion (λ (row : Live). row.event ≤ n) live → AllByRecursion (λ (row : Live). row.event ≤ n) (rows_of client live)
low_rows client n live low = all_filter (λ (row : Live). row.event ≤ n) (λ (row : Live). row.client == client) live low

-- the sessions of another party, which a place of this one leaves
pub others_agree : (s : Site) (n from : ℕ) (request : WorldAsk) (p : RpPair) (world : World) → IsSite s → n < length s.configuration.parties → IsKept s world
    → (k : ℕ) → k < length s.configuration.parties → (n ≡ k → ⊥)
    → Each (IsSameSession s (Party n from request p ∷ world) k) (rows_of (client_of_party s k) (settled world (client_of_party s n) p.entry.at (machine_of s world).live))
    (live_visits (types_at s k) (rp_past k (Party n from request p ∷ world)) (last_moment (rp_past k (Party n from request p ∷ world))))
others_agree s n from request p world site mine kept k known other =
    let x : Place = Party n from request p in
    let m : Machine = machine_of s world in
    let client : ℕ = client_of_party s k in
    let apart : client ≡ client_of_party s n → ⊥ = λ same. other (sym (parties_apart s.configuration k n site.registry known mine same)) in
    let V : RpPast → List SessionRow = λ past. live_visits (types_at s k) past (last_moment past) in
    let more : Each (IsSameSession s (x ∷ world) k) (rows_of client m.live) (V (rp_past k world)) =
    each_more s x world k (rows_of client m.live) (V (rp_past k world)) (low_rows client (length world) m.live kept.holds.events) (kept.holds.live k known) in
    let L : List Live → Type 0 = λ rows. Each (IsSameSession s (x ∷ world) k) rows (V (rp_past k world)) in
    let P : RpPast → Type 0 = λ past. Each (IsSameSession s (x ∷ world) k) (rows_of client (settled world (client_of_party s n) p.entry.at m.live)) (V past) in
    subst P (sym (past_other n k from request p world other)) (subst L (sym (other_settled world (client_of_party s n) client p.entry.at m.live apart)) more)

-- the sessions of the party itself, which a place that lets nobody in leaves
pub own_settled_agree : (s : Site) (n from : ℕ) (request : WorldAsk) (p : RpPair) (world : World) → n < length s.configuration.parties → last_moment (rp_past n world) ≤ p.entry.at → IsKept s world
    → Each (IsSameSession s (Party n from request p ∷ world) n) (rows_of (client_of_party s n) (settled world (client_of_party s n) p.entry.at (machine_of s world).live)) (live_visits (types_at s n) (rp_past n world) p.entry.at)
own_settled_agree s n from request p world mine order kept =
    let x : Place = Party n from request p in
    let m : Machine = machine_of s world in
    let client : ℕ = client_of_party s n in
    let at : ℕ = p.entry.at in
    let rows : List Live = settled world client at m.live in
    let low : AllByRecursion (λ (row : Live). row.event ≤ length world) rows = all_filter (λ (row : Live). row.event ≤ length world) (λ row. not (is_over world client at row)) m.live kept.holds.events in
    each_more s x world n (rows_of client rows) (live_visits (types_at s n) (rp_past n world) at) (low_rows client (length world) rows low)
    (sessions_settled s world n at m.live (rp_past n world) (kept.holds.live n mine) order)

-- all of them, if the live visits stay
quiet_agrees : (s : Site) (n from : ℕ) (request : WorldAsk) (p : RpPair) (world : World) → IsSite s → n < length s.configuration.parties → last_moment (rp_past n world) ≤ p.entry.at → IsKept s world
    → live_visits (types_at s n) (p ∷ rp_past n world) p.entry.at ≡ live_visits (types_at s n) (rp_past n world) p.entry.at → Agrees s (Party n from request p ∷ world) (settled world (client_of_party s n) p.entry.at (machine_of s world).live)
quiet_agrees s n from request p world site mine order kept stay =
    let x : Place = Party n from request p in
    let rows : List Live = settled world (client_of_party s n) p.entry.at (machine_of s world).live in
    let V : RpPast → List SessionRow = λ past. live_visits (types_at s n) past (last_moment past) in
    let same : V (rp_past n (x ∷ world)) ≡ live_visits (types_at s n) (rp_past n world) p.entry.at = ap V (past_own n from request p world) ∙ stay in
    let E : List SessionRow → Type 0 = λ vs. Each (IsSameSession s (x ∷ world) n) (rows_of (client_of_party s n) rows) vs in
    agrees_by s (x ∷ world) n rows (subst E (sym same) (own_settled_agree s n from request p world mine order kept)) (others_agree s n from request p world site mine kept)

-- the same, if a place drops those that it ends
fewer_agree : (s : Site) (n from : ℕ) (request : WorldAsk) (p : RpPair) (world : World) (k : Live → Bool) → IsSite s → n < length s.configuration.parties → last_moment (rp_past n world) ≤ p.entry.at → IsKept s world
    → visit_made (types_at s n) (visits (types_at s n) (rp_past n world)) (rp_past n world) p ≡ None
    → ((row : Live) (visit : SessionRow) → IsSameSession s (Party n from request p ∷ world) n row visit → row.client ≡ client_of_party s n → k row ≡ not (is_ended p visit))
    → ((j : ℕ) → j < length s.configuration.parties → (n ≡ j → ⊥) → (row : Live) (visit : SessionRow) → IsSameSession s (Party n from request p ∷ world) j row visit → row.client ≡ client_of_party s j → k row ≡ true)
    → Agrees s (Party n from request p ∷ world) (filter k (settled world (client_of_party s n) p.entry.at (machine_of s world).live))
fewer_agree s n from request p world k site mine order kept unmade own others =
    let x : Place = Party n from request p in
    let types : Types = types_at s n in
    let past : RpPast = rp_past n world in
    let client : ℕ = client_of_party s n in
    let at : ℕ = p.entry.at in
    let rows : List Live = settled world client at (machine_of s world).live in
    let V : RpPast → List SessionRow = λ z. live_visits types z (last_moment z) in
    let visits_are : V (rp_past n (x ∷ world)) ≡ filter (λ visit. not (is_ended p visit)) (live_visits types past at) = ap V (past_own n from request p world) ∙ live_left types past p at unmade in
    -- the sessions of a client are its own
    let Of : ℕ → Live → SessionRow → Type 0 = λ j row visit. IsSameSession s (x ∷ world) j row visit × (row.client ≡ client_of_party s j) in
    let with_client : (j : ℕ) (live : List Live) (vs : List SessionRow) → Each (IsSameSession s (x ∷ world) j) (rows_of (client_of_party s j) live) vs → Each (Of j) (rows_of (client_of_party s j) live) vs =
    λ j live vs each.
    each_weaker (λ (row : Live). (row.client == client_of_party s j) ≡ true) (IsSameSession s (x ∷ world) j) (Of j) (rows_of (client_of_party s j) live) vs
    (λ row visit is same. (same, eqb-true row.client (client_of_party s j) is)) (all_kept (λ (row : Live). row.client == client_of_party s j) live) each in
    let without : (j : ℕ) (rs : List Live) (vs : List SessionRow) → Each (Of j) rs vs → Each (IsSameSession s (x ∷ world) j) rs vs =
    λ j rs vs each. each_weaker (λ (row : Live). Unit {0}) (Of j) (IsSameSession s (x ∷ world) j) rs vs (λ row visit is of. of.0) (all_of (λ (row : Live). Unit {0}) rs (λ row has. tt)) each in
    -- this party's
    let mine_before : Each (Of n) (rows_of client rows) (live_visits types past at) = with_client n rows (live_visits types past at) (own_settled_agree s n from request p world mine order kept) in
    let mine_after : Each (Of n) (filter k (rows_of client rows)) (filter (λ visit. not (is_ended p visit)) (live_visits types past at)) =
    each_filter (Of n) k (λ (visit : SessionRow). not (is_ended p visit)) (rows_of client rows) (live_visits types past at) (λ row visit of. own row visit of.0 of.1) mine_before in
    let swap : (j : ℕ) → rows_of (client_of_party s j) (filter k rows) ≡ filter k (rows_of (client_of_party s j) rows) = λ j. filter_both (λ (row : Live). row.client == client_of_party s j) k rows in
    let A : List Live → Type 0 = λ rs. Each (IsSameSession s (x ∷ world) n) rs (filter (λ visit. not (is_ended p visit)) (live_visits types past at)) in
    let B : List SessionRow → Type 0 = λ vs. Each (IsSameSession s (x ∷ world) n) (rows_of client (filter k rows)) vs in
    agrees_by s (x ∷ world) n (filter k rows)
    (subst B (sym visits_are) (subst A (sym (swap n)) (without n (filter k (rows_of client rows)) (filter (λ visit. not (is_ended p visit)) (live_visits types past at)) mine_after)))
    (λ j known other.
    let past_j : RpPast = rp_past j (x ∷ world) in
    let vs : List SessionRow = live_visits (types_at s j) past_j (last_moment past_j) in
    let theirs : Each (Of j) (rows_of (client_of_party s j) rows) vs = with_client j rows vs (others_agree s n from request p world site mine kept j known other) in
    let all : Each (Of j) (filter k (rows_of (client_of_party s j) rows)) vs = each_all (Of j) k (rows_of (client_of_party s j) rows) vs (λ row visit of. others j known other row visit of.0 of.1) theirs in
    let C : List Live → Type 0 = λ rs. Each (IsSameSession s (x ∷ world) j) rs vs in
    subst C (sym (swap j)) (without j (filter k (rows_of (client_of_party s j) rows)) vs all))

-- ---- a place that lets nobody in

-- its steps leave the machine with these begun rows
unentered : (s : Site) (n from : ℕ) (request : WorldAsk) (p : RpPair) (world : World) (began : List Began) (steps : List Step) → IsSite s → n < length s.configuration.parties → last_moment (rp_past n world) ≤ p.entry.at → IsKept s world
    → live_visits (types_at s n) (p ∷ rp_past n world) p.entry.at ≡ live_visits (types_at s n) (rp_past n world) p.entry.at
    → party_steps s world (machine_of s world).out n from (rp_past n world) p p.entry.ask p.reply ≡ steps
    → IsRun (lapsed s n p.entry.at world) steps → after_all (lapsed s n p.entry.at world) steps ≡ record (lapsed s n p.entry.at world) { began = began }
    → AllByRecursion (λ (row : Began). IsDrawnNonce (Party n from request p ∷ world) row.nonce) began → IsBegun s began n from p.entry.fresh p.reply
    → ((row : Began) → Has (machine_of s world).began row → Has began row)
    → AllByRecursion (IsTokenAnswered s.configuration (machine_of s world).answered) (rp_written s n p.entry.fresh p.reply)
    → AllByRecursion (IsTokenSent s.configuration (Party n from request p ∷ world) (machine_of s world).out) (rp_written s n p.entry.fresh p.reply)
    → AllByRecursion (IsTokenBound s.configuration (Party n from request p ∷ world)) (rp_written s n p.entry.fresh p.reply)
    → Does s n from request p world
unentered s n from request p world began steps site mine order kept stay is run leaves nonces begins still texts logouts bound =
    let x : Place = Party n from request p in
    let m : Machine = machine_of s world in
    let old : Holds s world m = kept.holds in
    let client : ℕ = client_of_party s n in
    let at : ℕ = p.entry.at in
    let mid : Machine = lapsed s n at world in
    let test : Live → Bool = λ row. not (is_over world client at row) in
    let rows : List Live = settled world client at m.live in
    let R : List Step → Type 0 = λ taken. IsRun mid taken in
    record {
      began = began;
      entered = m.entered;
      live = rows;
      ended = m.ended;
      dead = unforgotten (rp_past n world) client at m.dead;
      run = subst R (sym is) run;
      leaves = ap (after_all mid) is ∙ leaves;
      nonces = nonces;
      begins = begins;
      still = still;
      entries = entered_more s x world m.entered old.entered;
      endings = ended_more s x world m.ended old.ended;
      deaths = dead_more s x world (unforgotten (rp_past n world) client at m.dead) (all_filter (IsDeadRow s world) (λ row. not (is_forgotten (rp_past n world) client at row)) m.dead old.dead);
      dead_once = deads_filter (λ row. not (is_forgotten (rp_past n world) client at row)) m.dead old.dead_apart;
      texts = texts;
      logouts = logouts;
      bound = bound;
      agrees = quiet_agrees s n from request p world site mine order kept stay;
      apart = apart_filter test m.live old.apart;
      low = events_more (length world) rows (all_filter (λ (row : Live). row.event ≤ length world) test m.live old.events);
    }

-- a place with no step
pub nothing_done : (s : Site) (n from : ℕ) (request : WorldAsk) (p : RpPair) (world : World) → IsSite s → n < length s.configuration.parties → last_moment (rp_past n world) ≤ p.entry.at → IsKept s world
    → live_visits (types_at s n) (p ∷ rp_past n world) p.entry.at ≡ live_visits (types_at s n) (rp_past n world) p.entry.at
    → party_steps s world (machine_of s world).out n from (rp_past n world) p p.entry.ask p.reply ≡ [] → rp_written s n p.entry.fresh p.reply ≡ [] → IsBegun s (machine_of s world).began n from p.entry.fresh p.reply
    → Does s n from request p world
nothing_done s n from request p world site mine order kept stay none unwritten begins =
    let x : Place = Party n from request p in
    let m : Machine = machine_of s world in
    let T : List TokenText → Type 0 = λ texts. AllByRecursion (IsTokenAnswered s.configuration m.answered) texts in
    let L : List TokenText → Type 0 = λ texts. AllByRecursion (IsTokenSent s.configuration (x ∷ world) m.out) texts in
    let G : List TokenText → Type 0 = λ texts. AllByRecursion (IsTokenBound s.configuration (x ∷ world)) texts in
    unentered s n from request p world m.began [] site mine order kept stay none tt refl (began_more x world m.began kept.holds.began) begins (λ row has. has) (subst T (sym unwritten) tt) (subst L (sym unwritten) tt) (subst G (sym unwritten) tt)

-- a place that drops those sessions that it ends
pub fewer_done : (s : Site) (n from : ℕ) (request : WorldAsk) (p : RpPair) (world : World) (k : Live → Bool) (ended : List Sent) (dead : List Dead) (steps : List Step) → IsSite s → n < length s.configuration.parties → last_moment (rp_past n world) ≤ p.entry.at → IsKept s world
    → visit_made (types_at s n) (visits (types_at s n) (rp_past n world)) (rp_past n world) p ≡ None
    → ((row : Live) (visit : SessionRow) → IsSameSession s (Party n from request p ∷ world) n row visit → row.client ≡ client_of_party s n → k row ≡ not (is_ended p visit))
    → ((j : ℕ) → j < length s.configuration.parties → (n ≡ j → ⊥) → (row : Live) (visit : SessionRow) → IsSameSession s (Party n from request p ∷ world) j row visit → row.client ≡ client_of_party s j → k row ≡ true)
    → party_steps s world (machine_of s world).out n from (rp_past n world) p p.entry.ask p.reply ≡ steps
    → IsRun (lapsed s n p.entry.at world) steps
    → after_all (lapsed s n p.entry.at world) steps ≡ record (lapsed s n p.entry.at world) { ended = ended; live = filter k (settled world (client_of_party s n) p.entry.at (machine_of s world).live); dead = dead }
    → AllByRecursion (IsEndedRow s (Party n from request p ∷ world)) ended
    → AllByRecursion (IsDeadRow s (Party n from request p ∷ world)) dead → DeadApart dead
    → rp_written s n p.entry.fresh p.reply ≡ [] → IsBegun s (machine_of s world).began n from p.entry.fresh p.reply
    → Does s n from request p world
fewer_done s n from request p world k ended dead steps site mine order kept unmade own others is run leaves endings deaths once unwritten begins =
    let x : Place = Party n from request p in
    let m : Machine = machine_of s world in
    let old : Holds s world m = kept.holds in
    let client : ℕ = client_of_party s n in
    let at : ℕ = p.entry.at in
    let mid : Machine = lapsed s n at world in
    let test : Live → Bool = λ row. not (is_over world client at row) in
    let rows : List Live = settled world client at m.live in
    let R : List Step → Type 0 = λ taken. IsRun mid taken in
    let T : List TokenText → Type 0 = λ texts. AllByRecursion (IsTokenAnswered s.configuration m.answered) texts in
    let L : List TokenText → Type 0 = λ texts. AllByRecursion (IsTokenSent s.configuration (x ∷ world) m.out) texts in
    let G : List TokenText → Type 0 = λ texts. AllByRecursion (IsTokenBound s.configuration (x ∷ world)) texts in
    record {
      began = m.began;
      entered = m.entered;
      live = filter k rows;
      ended = ended;
      dead = dead;
      run = subst R (sym is) run;
      leaves = ap (after_all mid) is ∙ leaves;
      nonces = began_more x world m.began old.began;
      begins = begins;
      still = λ row has. has;
      entries = entered_more s x world m.entered old.entered;
      endings = endings;
      deaths = deaths;
      dead_once = once;
      texts = subst T (sym unwritten) tt;
      logouts = subst L (sym unwritten) tt;
      bound = subst G (sym unwritten) tt;
      agrees = fewer_agree s n from request p world k site mine order kept unmade own others;
      apart = apart_filter k rows (apart_filter test m.live old.apart);
      low = events_more (length world) (filter k rows) (all_filter (λ (row : Live). row.event ≤ length world) k rows (all_filter (λ (row : Live). row.event ≤ length world) test m.live old.events));
    }

-- ---- Ask: a login begins

-- a nonce that was drawn before is not the new one
nonce_other : (x : Place) (world : World) (k : ℕ) (given : Option Text) → HasDistinctWords (x ∷ world) → k < 4 → length (fresh_of x) ≡ 4 → IsWord (fresh_word (fresh_of x) k) → IsDrawnNonce world given → given ≡ Some (word_text (fresh_word (fresh_of x) k)) → ⊥
nonce_other x world k given distinct low whole value old same =
    let word : Word = fresh_word (fresh_of x) k in
    let texts : old.text ≡ word_text word = same_Some old.text (word_text word) (sym old.is ∙ same) in
    drawn_other x world k old.drawn_text.word distinct low whole old.drawn_text.has (word_text_inj old.drawn_text.word word old.drawn_text.value value (sym old.drawn_text.is ∙ texts))

pub asked_done : (s : Site) (n from at : ℕ) (request : WorldAsk) (fresh : List Word) (asked : RpAsk) (to : Text) (browser : Word) (world : World) → IsSite s
    → IsLegalWorld s (Party n from request (record { entry = record { at = at; fresh = fresh; ask = asked }; reply = rp.Ask to browser }) ∷ world)
    → HasDistinctWords (Party n from request (record { entry = record { at = at; fresh = fresh; ask = asked }; reply = rp.Ask to browser }) ∷ world) → IsKept s world
    → Does s n from request (record { entry = record { at = at; fresh = fresh; ask = asked }; reply = rp.Ask to browser }) world
asked_done s n from at request fresh asked to browser world site legal distinct kept =
    let p : RpPair = record { entry = record { at = at; fresh = fresh; ask = asked }; reply = rp.Ask to browser } in
    let x : Place = Party n from request p in
    let m : Machine = machine_of s world in
    let mine : n < length s.configuration.parties = legal.asked.0.0 in
    let own = party_legal s n from request p world legal in
    let whole : length fresh ≡ 4 = own.1.four in
    let state : IsWord (fresh_word fresh 1) = fresh_is_word s x world 1 legal (omega arith) whole in
    let nonce : IsWord (fresh_word fresh 2) = fresh_is_word s x world 2 legal (omega arith) whole in
    let unmade : visit_made (types_at s n) (visits (types_at s n) (rp_past n world)) (rp_past n world) p ≡ None = refl in
    let text : Text = word_text (fresh_word fresh 2) in
    let row : Began = record { client = client_of_party s n; browser = from; nonce = Some text } in
    let new : IsDrawnNonce (x ∷ world) (Some text) = record { text = text; is = refl; drawn_text = record { word = fresh_word fresh 2; is = refl; has = fresh_drawn x world 2 (omega arith) whole; value = nonce } } in
    let others : AllByRecursion (λ (b : Began). b.nonce ≢ Some text) m.began =
    all_weaker (λ (b : Began). IsDrawnNonce world b.nonce) (λ (b : Began). b.nonce ≢ Some text) m.began (λ b old same. nonce_other x world 2 b.nonce distinct (omega arith) whole nonce old same) kept.holds.began in
    unentered s n from request p world (row ∷ m.began) (begin row ∷ []) site mine own.2 kept (live_same (types_at s n) (rp_past n world) p at refl unmade) refl (others, tt) refl (new, began_more x world m.began kept.holds.began) (inl refl) (λ b has. inr has)
    (object_answered s n fresh site mine state nonce m.answered) (object_sent s n fresh site mine state nonce (x ∷ world) m.out) (object_bound s n fresh site mine state nonce (x ∷ world))

-- ---- User: who is logged in is shown

-- a row that lives, lives
still_lives : {R : Type 0} (n : ℕ) (begun : R → ℕ) (at : ℕ) (found : Option R) (row : R) → option_and_then (if_lives n begun at) found ≡ Some row → lives n (begun row) at ≡ true
still_lives n begun at None row e = cc
still_lives {R} n begun at (Some r) row e =
    let F : Bool → Option R = λ b. cond b (Some r) None in
    elim (bool_cases (lives n (begun r) at)) [
      | inl t ↦ (let same : r ≡ row = same_Some r row (sym (ap F t) ∙ e) in ap (λ (z : R). lives n (begun z) at) (sym same) ∙ t)
      | inr f ↦ (let none : F false ≡ Some row = sym (ap F f) ∙ e in cc)
    ]

-- a place of the world that let a login in drew its word
pub place_entered : (s : Site) (world : World) (n from : ℕ) (request : WorldAsk) (p : RpPair) (w : Word) (sub : Text) → IsLegalWorld s world → Has world (Party n from request p) → p.reply ≡ rp.Entered w sub
    → (length p.entry.fresh ≡ 4) × (fresh_word p.entry.fresh 1 ≡ w)
place_entered s [] n from request p w sub legal has replied = absurd has
place_entered s (y ∷ world) n from request p w sub legal (inl same) replied =
    let L : Place → Type 0 = λ z. IsLegalWorld s (z ∷ world) in
    let own = party_legal s n from request p world (subst L same legal) in
    (own.1.four, entered_word (setup_at s n) (rp_past n world) p w sub own replied)
place_entered s (y ∷ world) n from request p w sub legal (inr has) replied = place_entered s world n from request p w sub (legal_before s y world legal) has replied

-- the session cookie of a request is presented
pub presents_second : (n from : ℕ) (request : WorldAsk) (p : RpPair) (r : Ask) (w : Word) → request ≡ Http r → Some w ≡ r.second → Has (presented (Party n from request p)) w
presents_second n from request p r w is cookie =
    let P : Option Word → Type 0 = λ o. Has (words_in r.first ++ words_in o) w in
    let Q : WorldAsk → Type 0 = λ z. Has (presented (Party n from z p)) w in
    subst Q (sym is) (subst P cookie (has_append_right (words_in r.first) (w ∷ []) w (inl refl)))

-- the session that a request presents, as the machine has it
pub record Shown (s : Site) (n from at : ℕ) (world : World) (w : Word) (visit : SessionRow) : Type 0 where
  pub row : Live
  pub has : Has (settled world (client_of_party s n) at (machine_of s world).live) row
  pub client_is : row.client ≡ client_of_party s n
  pub number : entered_as n w world ≡ Some row.event
  pub browser_is : row.browser ≡ from
  pub same : IsSameSession s world n row visit
  pub word_is : visit.word ≡ w

pub shown : (s : Site) (n from : ℕ) (request : WorldAsk) (p : RpPair) (world : World) (w : Word) (visit : SessionRow) → IsLegalWorld s (Party n from request p ∷ world) → HasDistinctWords (Party n from request p ∷ world)
    → leaks world (Party n from request p) ≡ false → IsKept s world → Has (presented (Party n from request p)) w → live_visit (types_at s n) (rp_past n world) p.entry.at (Some w) ≡ Some visit → Shown s n from p.entry.at world w visit
shown s n from request p world w visit legal distinct tight kept presents live =
    let x : Place = Party n from request p in
    let m : Machine = machine_of s world in
    let types : Types = types_at s n in
    let past : RpPast = rp_past n world in
    let client : ℕ = client_of_party s n in
    let at : ℕ = p.entry.at in
    let mine : n < length s.configuration.parties = legal.asked.0.0 in
    let own = party_legal s n from request p world legal in
    let before : IsLegalWorld s world = legal_before s x world legal in
    -- the visit is one of those that live
    let found : row_of visit_name w (visits types past) ≡ Some visit = lives_some visit_life visit_begun at (row_of visit_name w (visits types past)) visit live in
    let has = row_of-has visit_name w (visits types past) visit found in
    let alive : lives visit_life visit.entered at ≡ true = still_lives visit_life visit_begun at (row_of visit_name w (visits types past)) visit live in
    let among : Has (live_visits types past at) visit = has_filter (λ (row : SessionRow). lives visit_life row.entered at) (visits types past) visit alive has.0 in
    -- the related session of the machine
    let settled_rows : List Live = settled world client at m.live in
    let agree : Each (IsSameSession s world n) (rows_of client settled_rows) (live_visits types past at) = sessions_settled s world n at m.live past (kept.holds.live n mine) own.2 in
    let beside = each_has (IsSameSession s world n) (rows_of client settled_rows) (live_visits types past at) visit agree among in
    let row : Live = beside.0 in
    let same : IsSameSession s world n row visit = beside.2 in
    let held = filter_had (λ (r : Live). r.client == client) settled_rows row beside.1 in
    let place : Place = Party n row.browser same.request same.pair in
    let there : Has world place = place_at_has world row.event place same.place in
    -- the browser
    let sets : Has (set_at place) visit.word = (let S : RpReply → Type 0 = λ r. Has (words_in (browser_given r) ++ words_in (session_given r)) visit.word in subst S (sym same.reply) (inl refl)) in
    let W : Word → Type 0 = λ v. Has (presented x) v in
    let shows : Has (presented x) visit.word = subst W (sym has.1) presents in
    let browsers : from ≡ row.browser = own_browser x world row.browser visit.word tight shows (record { place = place; has = there; sets = sets; by = refl }) in
    -- the place
    let drew = place_entered s world n row.browser same.request same.pair visit.word visit.sub before there same.reply in
    let number : entered_as n visit.word world ≡ Some row.event =
    entered_finds s world n row.event row.browser same.request same.pair visit.word visit.sub before (distinct_before x world distinct) same.place same.reply drew.0 drew.1 in
    let N : Word → Option ℕ = λ v. entered_as n v world in
    record { row = row; has = held.0; client_is = eqb-true row.client client held.1; number = ap N (sym has.1) ∙ number; browser_is = sym browsers; same = same; word_is = has.1 }

seen_by : (s : Site) (n from at : ℕ) (request : WorldAsk) (fresh : List Word) (w : Word) (sub : Text) (world : World) (visit : SessionRow) → IsSite s
    → IsLegalWorld s (Party n from request (record { entry = record { at = at; fresh = fresh; ask = ask.Visit (Some w) }; reply = rp.User sub }) ∷ world)
    → HasDistinctWords (Party n from request (record { entry = record { at = at; fresh = fresh; ask = ask.Visit (Some w) }; reply = rp.User sub }) ∷ world)
    → leaks world (Party n from request (record { entry = record { at = at; fresh = fresh; ask = ask.Visit (Some w) }; reply = rp.User sub })) ≡ false → IsKept s world
    → live_visit (types_at s n) (rp_past n world) at (Some w) ≡ Some visit → visit.sub ≡ sub
    → Does s n from request (record { entry = record { at = at; fresh = fresh; ask = ask.Visit (Some w) }; reply = rp.User sub }) world
seen_by s n from at request fresh w sub world visit site legal distinct tight kept live sub_is =
    let p : RpPair = record { entry = record { at = at; fresh = fresh; ask = ask.Visit (Some w) }; reply = rp.User sub } in
    let x : Place = Party n from request p in
    let c : Configuration = s.configuration in
    let m : Machine = machine_of s world in
    let past : RpPast = rp_past n world in
    let client : ℕ = client_of_party s n in
    let mine : n < length c.parties = legal.asked.0.0 in
    let own = party_legal s n from request p world legal in
    let came : IsRequest c n request (ask.Visit (Some w)) = as_request c n request (ask.Visit (Some w)) legal.asked.0.1 refl in
    let C : RpAsk → Type 0 = λ a. HasCookies came.request a in
    let cookie : Some w ≡ came.request.second = subst C came.asked_is (has_cookies c n came.request) in
    let sh : Shown s n from at world w visit = shown s n from request p world w visit legal distinct tight kept (presents_second n from request p came.request w came.came_is cookie) live in
    let user : user_of_subject c client sub ≡ Some sh.row.user = ap (user_of_subject c client) (sym sub_is) ∙ sh.same.user in
    let S : Option ℕ → List Step = λ o. see_of o client from (user_of_subject c client sub) ∷ [] in
    let U : Option ℕ → List Step = λ o. see_of (Some sh.row.event) client from o ∷ [] in
    let steps : party_steps s world m.out n from past p p.entry.ask p.reply ≡ see sh.row.event client from sh.row.user ∷ [] = ap S sh.number ∙ ap U user in
    let unmade : visit_made (types_at s n) (visits (types_at s n) past) past p ≡ None = refl in
    unentered s n from request p world m.began (see sh.row.event client from sh.row.user ∷ []) site mine own.2 kept (live_same (types_at s n) past p at refl unmade) steps
    ((sh.row, sh.has, refl, sh.client_is, sh.browser_is, refl), tt) refl (began_more x world m.began kept.holds.began) tt (λ b was. was) tt tt tt

pub user_done : (s : Site) (n from at : ℕ) (request : WorldAsk) (fresh : List Word) (asked : RpAsk) (sub : Text) (world : World) → IsSite s
    → IsLegalWorld s (Party n from request (record { entry = record { at = at; fresh = fresh; ask = asked }; reply = rp.User sub }) ∷ world)
    → HasDistinctWords (Party n from request (record { entry = record { at = at; fresh = fresh; ask = asked }; reply = rp.User sub }) ∷ world)
    → leaks world (Party n from request (record { entry = record { at = at; fresh = fresh; ask = asked }; reply = rp.User sub })) ≡ false → IsKept s world
    → UserCause (setup_at s n) (rp_past n world) (record { at = at; fresh = fresh; ask = asked }) asked sub
    → Does s n from request (record { entry = record { at = at; fresh = fresh; ask = asked }; reply = rp.User sub }) world
user_done s n from at request fresh (ask.Visit (Some w)) sub world site legal distinct tight kept cause = seen_by s n from at request fresh w sub world cause.visit site legal distinct tight kept cause.live cause.sub_is
user_done s n from at request fresh (ask.Visit None) sub world site legal distinct tight kept cause = (let never : None ≡ Some cause.visit = cause.live in absurd (cc))
user_done s n from at request fresh asked sub world site legal distinct tight kept cause = absurd cause
