-- The play of a trace, line by line. Its words are distinct, it is joined and time goes on in it, so that the sign-on theorem needs no more
-- of it than that no text is forged and no cookie leaks, and the theorem on honest logins nothing more. So it plays well.
use Rattle.std.proofs.Common.{◌≡◌, ℕ, suc, ◌^◌, ◌<◌, ◌≤◌, List, [], ◌∷◌, ◌++◌, length, get_or, min, reverse, take, Option, Some, None, Result, Ok, Err, IfOk, refl, sym, ap, ◌∙◌, subst, arith}
use Rattle.std.proofs.lemmas.List.{length-reverse, length-take, reverse-append, take_all}
use Rattle.std.proofs.Math.Seq.{take-suc}
use Rattle.sso_base.specs.Words.{Text}
use Rattle.client_registry.specs.Configuration.{Configuration}
use Rattle.client_registry.specs.Registered.{IsRegistry}
use Rattle.sso_places.specs.declared.types.Broken.{Broken}
use Rattle.sso_places.specs.FirstBroken.{first_broken, IsUnbroken}
use Rattle.sso_places.specs.Premises.{HasDistinctWords, HasDistinctHashes, IsUnleaked, IsUnforged, IsJoined}
use Rattle.sso_places.specs.Site.{Site, IsSite, own_site}
use Rattle.sso_places.specs.World.{World, op_past}
use Rattle.sso_places.proofs.FirstBroken.{none_broken}
use Rattle.sso_places.proofs.Unshared.{none_shared}
use Rattle.authorization.proofs.Giving.{gives_by_right}
use Rattle.authorization.proofs.OwnServers.{claims_reach}
use Rattle.authorization.proofs.Reaching.{reaches_its_own, infos_reach_their_own}
use Rattle.running_world.specs.Running.{world_of}
use Rattle.running_world.specs.Theorem.{TheoremHolds}
use Rattle.trace_lines.specs.declared.line.Line.{Line}
use Rattle.trace_lines.specs.Order.{IsReadFor}
use Rattle.trace_lines.specs.Trace.{Told}
use Rattle.oidc_replay.specs.declared.replaying.ReplayEnd.{ReplayEnd}
use Rattle.oidc_replay.specs.declared.replaying.ReplayEnd.TheVariants as end
use Rattle.oidc_replay.specs.Bound.{IsWhollyBound}
use Rattle.oidc_replay.specs.Play.{Played, Playing, played_of, play_on, play_lines, play_of}
use Rattle.oidc_replay.specs.End.{ended_by, play_end, end_of}
use Rattle.oidc_replay.specs.Storm.{counts_text, storm_text}
use Rattle.oidc_replay.specs.Text.{line_told, lines_told, end_line, text_of}
use Rattle.oidc_replay.specs.Theorem.{SignsOnWell, PlaysWell}
use Rattle.oidc_replay.proofs.Beginnings.{WasPlayed, answers_who_asked, signs_well, binds_wholly, holds_until}
use Rattle.oidc_replay.proofs.Played.{HasPlayed, IsPlayed, lines_played}
use Rattle.oidc_replay.proofs.Distinct.{play_distinct}
use Rattle.oidc_replay.proofs.Joined.{play_joined}
use Rattle.oidc_replay.proofs.PlayTimes.{time_goes_on}

pub distinct : (c : Configuration) (seed : List ℕ) (lines : List Line) → length lines < 2 ^ 60 → HasDistinctWords (play_lines c seed lines).world
distinct c seed lines room =
    let played : HasPlayed c seed (length lines) (play_lines c seed lines).world = lines_played c seed lines in
    let few : length (play_lines c seed lines).world ≤ length lines = played.few in
    play_distinct c seed (play_lines c seed lines).world played.places (omega arith)

pub joined : (c : Configuration) (seed : List ℕ) (lines : List Line) → length lines < 2 ^ 60 → IsJoined (play_lines c seed lines).world
joined c seed lines room = play_joined c seed (play_lines c seed lines).world (lines_played c seed lines).places (distinct c seed lines room)

-- ---- line by line; here the lines of the trace are given the oldest first

next_line : (lines : List Line) (i : ℕ) (line : Line) → i < length lines → line ≡ get_or lines i line → reverse (take (suc i) lines) ≡ line ∷ reverse (take i lines)
next_line lines i line here is =
    ap reverse (take-suc lines i line here) ∙ reverse-append (take i lines) (get_or lines i line ∷ []) ∙ ap (λ (x : Line). x ∷ reverse (take i lines)) (sym is)

module _ (c : Configuration) (seed : List ℕ) (lines : List Line) where
  pub play_next : (i : ℕ) (line : Line) (before after : Played) → i < length lines → line ≡ get_or lines i line → before ≡ play_lines c seed (reverse (take i lines)) → after ≡ play_on c seed before line
      → after ≡ play_lines c seed (reverse (take (suc i) lines))
  play_next i line before after here is was now =
      now ∙ ap (λ (p : Played). play_on c seed p line) was ∙ sym (ap (play_lines c seed) (next_line lines i line here is))

  pub text_next : (i : ℕ) (line : Line) (after : Played) (old new : Text) → i < length lines → line ≡ get_or lines i line → after ≡ play_lines c seed (reverse (take (suc i) lines))
      → old ≡ lines_told c seed (reverse (take i lines)) → new ≡ old ++ line_told c after line → new ≡ lines_told c seed (reverse (take (suc i) lines))
  text_next i line after old new here is played was now =
      let P : List Line → Played = λ ls. play_lines c seed ls in
      let now_played : after ≡ P (line ∷ reverse (take i lines)) = played ∙ ap P (next_line lines i line here is) in
      now
      ∙ ap (λ (t : Text). t ++ line_told c after line) was
      ∙ ap (λ (p : Played). lines_told c seed (reverse (take i lines)) ++ line_told c p line) now_played
      ∙ sym (ap (lines_told c seed) (next_line lines i line here is))

  -- there is room for one more place
  pub places_few : (i count : ℕ) (play : Played) → length (reverse lines) ≤ count → play ≡ play_lines c seed (reverse (take i lines)) → length play.world ≤ count
  places_few i count play few is =
      let front : List Line = reverse (take i lines) in
      let same : length play.world ≡ length (play_lines c seed front).world = ap (λ (p : Played). length p.world) is in
      let played : length (play_lines c seed front).world ≤ length front = (lines_played c seed front).few in
      let turned : length front ≡ length (take i lines) = length-reverse (take i lines) in
      let cut : length (take i lines) ≡ min i (length lines) = length-take i lines in
      let whole : length (reverse lines) ≡ length lines = length-reverse lines in
      omega (arith, same, played, turned, cut, whole, few)

-- ---- all lines were played

module _ (c : Configuration) (told : Told) (lines : List Line) (i : ℕ) (over : length lines ≤ i) (are : reverse lines ≡ told.lines) where
  all_taken : reverse (take i lines) ≡ told.lines
  all_taken = ap reverse (take_all i lines over) ∙ are

  pub all_played : (p : Played) → p ≡ play_lines c told.seed (reverse (take i lines)) → p ≡ play_lines c told.seed told.lines
  all_played p is = is ∙ ap (play_lines c told.seed) all_taken

  pub end_is : (registry : Configuration) (p : Played) → registry ≡ c → p ≡ play_lines c told.seed (reverse (take i lines)) → play_end registry p ≡ end_of c told
  unfolding end_of play_of
  end_is registry p own is = ap (λ (d : Configuration). play_end d p) own ∙ ap (play_end c) (all_played p is)

  pub text_is : (registry : Configuration) (p : Played) (text : Text) → registry ≡ c → p ≡ play_lines c told.seed (reverse (take i lines)) → text ≡ lines_told c told.seed (reverse (take i lines))
      → text ++ end_line (play_end registry p) ≡ text_of c told
  unfolding text_of
  text_is registry p text own is was =
      ap (λ (t : Text). t ++ end_line (play_end registry p)) (was ∙ ap (lines_told c told.seed) all_taken)
      ∙ ap (λ (e : ReplayEnd). lines_told c told.seed told.lines ++ end_line e) (end_is registry p own is)

-- ---- the same of a whole play

module _ (c : Configuration) (told : Told) (registry : Configuration) (p : Played) (own : registry ≡ c) (is : p ≡ play_of c told) where
  pub end_played : play_end registry p ≡ end_of c told
  unfolding end_of
  end_played = ap (λ (d : Configuration). play_end d p) own ∙ ap (play_end c) is

  pub summary_is : (number count : ℕ) (text : Text) → text ≡ counts_text number count p.world → text ++ end_line (play_end registry p) ≡ storm_text c told number count
  unfolding storm_text
  summary_is number count text was =
      ap (λ (t : Text). t ++ end_line (play_end registry p)) (was ∙ ap (λ (q : Played). counts_text number count q.world) is)
      ∙ ap (λ (e : ReplayEnd). counts_text number count (play_of c told).world ++ end_line e) end_played

-- ---- the theorem of the running world is that of its play

-- if the play ends with no failed premise, none fails
none_fails : (ended : Option ℕ) (broken : Option Broken) → ended_by ended broken ≡ end.Met → broken ≡ None
none_fails None None is = refl
none_fails None (Some broken) is = absurd (cc)
none_fails (Some place) broken is = absurd (cc)

-- if it ends with a failed premise, that one fails first
one_fails : (ended : Option ℕ) (first : Option Broken) (broken : Broken) → ended_by ended first ≡ end.Broken broken → first ≡ Some broken
one_fails None None broken is = absurd (cc)
one_fails None (Some b) broken is = (let ends : end.Broken b ≡ end.Broken broken = is in let same : b ≡ broken = cc in ap (λ (x : Broken). Some x) same)
one_fails (Some place) first broken is = absurd (cc)

pub plays_well : (c : Configuration) (told : Told) (play : Playing) → TheoremHolds play.running.registry (world_of play.running) → play.running.registry ≡ c → played_of play ≡ play_lines c told.seed told.lines
    → IsReadFor c told → IsRegistry c → PlaysWell c told
unfolding play_of end_of
plays_well c told play holds registry played lines read =
    let whole : Played = play_lines c told.seed told.lines in
    let W : World = whole.world in
    let s : Site = own_site c in
    let world : world_of play.running ≡ W = ap (λ (p : Played). p.world) played in
    let own : TheoremHolds c (world_of play.running) = subst (λ (d : Configuration). TheoremHolds d (world_of play.running)) registry holds in
    let theorem : TheoremHolds c W = subst (TheoremHolds c) world own in
    let most : length told.lines ≤ 4194304 = lines.few in
    let few : length told.lines < 2 ^ 60 = omega (arith, most) in
    let places : IsPlayed c told.seed W = (lines_played c told.seed told.lines).places in
    let was : WasPlayed c told.seed W = record { legal = theorem.legal; places = places; distinct = distinct c told.seed told.lines few } in
    let site : IsSite s = record { registry = read; one_issuer = λ n. refl } in
    let well : IsUnforged s W → IsUnleaked W → SignsOnWell s W = signs_well c told.seed read W was in
    let bound : IsUnforged s W → IsUnleaked W → HasDistinctHashes W → IsWhollyBound s W = binds_wholly c told.seed read W was in
    record {
      legal = theorem.legal;
      signs = λ unforged unleaked. (well unforged unleaked).signs;
      founded = λ unforged unleaked. (let all : SignsOnWell s W = well unforged unleaked in (all.founded, all.once));
      same_browser = answers_who_asked c told.seed read W was;
      binds = bound;
      succeeds = theorem.succeeds was.distinct (time_goes_on c told.seed told.lines lines.order);
      met = λ is.
          (let unbroken : IsUnbroken s W = none_broken s W (none_fails whole.ended (first_broken s W) is) in
          (well unbroken.unforged unbroken.unleaked, bound unbroken.unforged unbroken.unleaked unbroken.hashes));
      until = λ broken later before ends is.
          holds_until c told.seed read W was later before is broken (one_fails whole.ended (first_broken s W) broken ends);
      gives = gives_by_right c (op_past W) theorem.legal.provider;
      reaches = λ unleaked. reaches_its_own s W theorem.legal unleaked;
      informs = λ unleaked unshared. infos_reach_their_own s W site theorem.legal unleaked unshared;
      clients = λ unforged unleaked hashes unshared. claims_reach s W site theorem.legal was.distinct unleaked unforged hashes unshared;
      tested = λ is none.
          (let unbroken : IsUnbroken s W = none_broken s W (none_fails whole.ended (first_broken s W) is) in
          claims_reach s W site theorem.legal was.distinct unbroken.unleaked unbroken.unforged unbroken.hashes (none_shared W none));
    }

-- whatever the answer is
pub always : {A E P : Type 0} (r : Result A E) → P → IfOk r (λ (a : A). P)
always (Ok a) p = p
always (Err e) p = tt
