-- A play is joined: each answer of a server comes under the number of the place with its request, since the word of a request
-- is drawn for one place only.
use Rattle.std.proofs.Common.{◌≡◌, ◌⊎◌, ℕ, Bool, true, cond, List, [], ◌∷◌, length, Option, Some, Ok, inl, inr, refl, sym, ap, ◌∙◌, subst, arith}
use Rattle.std.proofs.lemmas.Option.{same_Some}
use Rattle.std.proofs.lemmas.Slice.Eq.{bytes_eq-Decides}
use Rattle.sso_base.specs.Words.{Word, fresh_word}
use Rattle.sso_base.specs.declared.message.Message.{Message}
use Rattle.sso_base.proofs.RowLaws.{bool_cases}
use Rattle.sso_model.specs.Lists.{Has}
use Rattle.client_registry.specs.Configuration.{Configuration}
use Rattle.rp_exchange.specs.declared.ask.RpAsk.{RpAsk}
use Rattle.rp_exchange.specs.declared.ask.RpAsk.TheVariants as ask
use Rattle.rp_exchange.specs.declared.reply.RpReply.{RpReply}
use Rattle.rp_exchange.specs.declared.reply.RpReply.TheVariants as rp
use Rattle.rp_login.specs.declared.rows.Stage.TheVariants as stage
use Rattle.rp_answer.specs.Past.{RpPair, RpPast}
use Rattle.rp_answer.specs.Setup.{PartySetup, party_of}
use Rattle.rp_answer.specs.Pendings.{pendings}
use Rattle.rp_answer.specs.Causes.{ExchangeCause, FetchCause}
use Rattle.rp_answer.proofs.Answers.{exchanges_have_a_cause, fetches_have_a_cause}
use Rattle.rp_answer.proofs.Sending.{pending_found, named_row}
use Rattle.sso_places.specs.declared.types.WorldAsk.{WorldAsk}
use Rattle.sso_places.specs.declared.types.WorldAsk.TheVariants.{Http, Tokens, Info}
use Rattle.sso_places.specs.Premises.{HasDistinctWords, asks_under, holds, holder, IsJoinedAt, IsJoined}
use Rattle.sso_places.specs.Site.{own_site, setup_at}
use Rattle.sso_places.specs.World.{Place, Provider, Party, Nothing, World, from_of, fresh_of, drawn, rp_past}
use Rattle.sign_on.proofs.AskKinds.{IsTokens, as_tokens}
use Rattle.sso_places.proofs.Places.{distinct_before, drawn_more, drawn_other, fresh_drawn}
use Rattle.oidc_replay.proofs.Played.{Questioned, IsHanded, IsPartyPlace, IsPlaced, IsPlayed}

-- ---- the request of a reply under a word

abbrev Asks : Word → RpReply → Type 0
Asks w told = (message : Message) × ((told ≡ rp.Exchange w message) ⊎ (told ≡ rp.Fetch w message))

asks : (w : Word) (told : RpReply) → asks_under w told ≡ true → Asks w told
asks w (rp.Exchange v message) h = (message, inl (ap (λ (u : Word). rp.Exchange u message) ((bytes_eq-Decides v w).0 h)))
asks w (rp.Fetch v message) h = (message, inr (ap (λ (u : Word). rp.Fetch u message) ((bytes_eq-Decides v w).0 h)))
asks w told h = absurd (cc)

-- ---- the word of a question is drawn for its place, or is that of the question before

module _ (c : Configuration) (seed : List ℕ) (world : World) (n from : ℕ) (request : WorldAsk) (p : RpPair) (is : IsPartyPlace c seed world n from request p) where
  abbrev own_setup : PartySetup
  own_setup = setup_at (own_site c) n

  abbrev own_past : RpPast
  own_past = rp_past n world

  exchanged : (asked : RpAsk) (w : Word) (message : Message) → ExchangeCause own_setup own_past p.entry asked w message → w ≡ fresh_word p.entry.fresh 0
  exchanged (ask.Callback (Ok heard) id browser) w message cause = sym cause.drawn
  exchanged asked w message cause = absurd cause

  fetched : (asked : RpAsk) (w : Word) (message : Message) → p.entry.ask ≡ asked → FetchCause own_setup own_past p.entry asked w message → (w ≡ fresh_word p.entry.fresh 0) ⊎ Questioned world from w
  fetched (ask.Callback (Ok heard) id browser) w message asked_is cause = inl (sym cause.drawn)
  fetched (ask.Tokens pending (Ok came) id) w message asked_is cause =
      let types = (party_of own_setup).types in
      let same : cause.exchange.word ≡ pending = named_row pending (pendings types own_past) cause.exchange (pending_found types own_past p.entry.at pending stage.Tokens cause.exchange cause.live) in
      let answer : IsTokens c n request (ask.Tokens pending (Ok came) id) pending = as_tokens c n request pending (Ok came) id (sym asked_is ∙ is.asked) in
      let H : WorldAsk → Type 0 = λ r. IsHanded world from r in
      let Q : Word → Type 0 = λ v. Questioned world from v in
      inr (subst Q (sym same ∙ cause.word_kept) (subst H answer.came_is is.handed))
  fetched asked w message asked_is cause = absurd cause

  asked_by : (w : Word) → Asks w p.reply → (w ≡ fresh_word p.entry.fresh 0) ⊎ Questioned world from w
  asked_by w (message, inl exchange) =
      inl (exchanged p.entry.ask w message (exchanges_have_a_cause own_setup own_past p.entry w message (sym is.answered ∙ exchange)))
  asked_by w (message, inr fetch) =
      fetched p.entry.ask w message refl (fetches_have_a_cause own_setup own_past p.entry w message (sym is.answered ∙ fetch))

place_asks : (c : Configuration) (seed : List ℕ) (world : World) (x : Place) (w : Word) → IsPlaced c seed world x → holds w x ≡ true → (w ≡ fresh_word (fresh_of x) 0) ⊎ Questioned world (from_of x) w
place_asks c seed world (Provider from request p) w is h = absurd (cc)
place_asks c seed world (Party n from request p) w is h = asked_by c seed world n from request p is w (asks w p.reply h)
place_asks c seed world Nothing w is h = absurd (cc)

four_drawn : (c : Configuration) (seed : List ℕ) (world : World) (x : Place) (w : Word) → IsPlaced c seed world x → holds w x ≡ true → length (fresh_of x) ≡ 4
four_drawn c seed world (Provider from request p) w is h = ap length is
four_drawn c seed world (Party n from request p) w is h = ap length is.fresh
four_drawn c seed world Nothing w is h = absurd (cc)

-- ---- so all places that hold a question under one word have one number

pub record HasQuestions (world : World) : Type 0 where
  pub drawn_once : (w : Word) (x : Place) → Has world x → holds w x ≡ true → Has (drawn world) w
  pub one : (w : Word) (x y : Place) → Has world x → Has world y → holds w x ≡ true → holds w y ≡ true → from_of x ≡ from_of y

module _ (c : Configuration) (seed : List ℕ) (x : Place) (world : World) (old : HasQuestions world) (distinct : HasDistinctWords (x ∷ world)) (is : IsPlaced c seed world x) where
  now_drawn : (w : Word) → holds w x ≡ true → (w ≡ fresh_word (fresh_of x) 0) ⊎ Questioned world (from_of x) w → Has (drawn (x ∷ world)) w
  now_drawn w h (inl fresh) = subst (Has (drawn (x ∷ world))) (sym fresh) (fresh_drawn x world 0 (omega arith) (four_drawn c seed world x w is h))
  now_drawn w h (inr asked) = drawn_more x world w (old.drawn_once w asked.place asked.has asked.holds)

  more_drawn : (w : Word) (y : Place) → Has (x ∷ world) y → holds w y ≡ true → Has (drawn (x ∷ world)) w
  more_drawn w y (inl here) h =
      let h_x : holds w x ≡ true = ap (λ (z : Place). holds w z) here ∙ h in
      now_drawn w h_x (place_asks c seed world x w is h_x)
  more_drawn w y (inr has) h = drawn_more x world w (old.drawn_once w y has h)

  now_one : (w : Word) (y : Place) → Has world y → holds w x ≡ true → holds w y ≡ true → (w ≡ fresh_word (fresh_of x) 0) ⊎ Questioned world (from_of x) w → from_of x ≡ from_of y
  now_one w y has h_x h_y (inl fresh) =
      absurd (drawn_other x world 0 w distinct (omega arith) (four_drawn c seed world x w is h_x) (old.drawn_once w y has h_y) fresh)
  now_one w y has h_x h_y (inr asked) = sym asked.from_is ∙ old.one w asked.place y asked.has has asked.holds h_y

  more_one : (w : Word) (y z : Place) → Has (x ∷ world) y → Has (x ∷ world) z → holds w y ≡ true → holds w z ≡ true → from_of y ≡ from_of z
  more_one w y z (inl here) (inl there) h_y h_z = ap from_of (sym here ∙ there)
  more_one w y z (inl here) (inr has) h_y h_z =
      let h_x : holds w x ≡ true = ap (λ (v : Place). holds w v) here ∙ h_y in
      ap from_of (sym here) ∙ now_one w z has h_x h_z (place_asks c seed world x w is h_x)
  more_one w y z (inr has) (inl there) h_y h_z =
      let h_x : holds w x ≡ true = ap (λ (v : Place). holds w v) there ∙ h_z in
      sym (now_one w y has h_x h_y (place_asks c seed world x w is h_x)) ∙ ap from_of there
  more_one w y z (inr has) (inr has2) h_y h_z = old.one w y z has has2 h_y h_z

  more_questions : HasQuestions (x ∷ world)
  more_questions = record { drawn_once = more_drawn; one = more_one }

-- ---- and each answer comes under it

abbrev IsHolder : Word → World → Place → Type 0
IsHolder w world y = Has world y × (holds w y ≡ true)

holder_has : (w : Word) (world : World) (y : Place) → holder w world ≡ Some y → IsHolder w world y
holder_has w [] y h = absurd (cc)
holder_has w (x ∷ world) y h =
    let C : Bool → Option Place = λ b. cond b (Some x) (holder w world) in
    elim (bool_cases (holds w x)) [
      | inl here ↦
          (let same : x ≡ y = same_Some x y (sym (ap C here) ∙ h) in
          (inl same, ap (λ (z : Place). holds w z) (sym same) ∙ here))
      | inr other ↦
          (let older : IsHolder w world y = holder_has w world y (sym (ap C other) ∙ h) in
          (inr older.0, older.1))
    ]

joined_by : (world : World) (from : ℕ) (w : Word) (y : Place) → HasQuestions world → Questioned world from w → holder w world ≡ Some y → from_of y ≡ from
joined_by world from w y old asked h =
    let there : IsHolder w world y = holder_has w world y h in
    old.one w y asked.place there.0 asked.has there.1 asked.holds ∙ asked.from_is

joined_at : (world : World) (from : ℕ) (request : WorldAsk) → HasQuestions world → IsHanded world from request → IsJoinedAt world from request
joined_at world from (Http request) old handed = tt
joined_at world from (Tokens w answer) old handed = λ y h. joined_by world from w y old handed h
joined_at world from (Info w answer) old handed = λ y h. joined_by world from w y old handed h

joined_next : (c : Configuration) (seed : List ℕ) (x : Place) (world : World) → HasQuestions world → IsPlaced c seed world x → IsJoined world → IsJoined (x ∷ world)
joined_next c seed (Provider from request p) world old is before = before
joined_next c seed (Party n from request p) world old is before = (before, joined_at world from request old is.handed)
joined_next c seed Nothing world old is before = before

play_questions : (c : Configuration) (seed : List ℕ) (world : World) → IsPlayed c seed world → HasDistinctWords world → HasQuestions world
play_questions c seed [] played distinct = record { drawn_once = λ w x has h. absurd has; one = λ w x y has has2 h h2. absurd has }
play_questions c seed (x ∷ world) played distinct =
    more_questions c seed x world (play_questions c seed world played.0 (distinct_before x world distinct)) distinct played.1

pub play_joined : (c : Configuration) (seed : List ℕ) (world : World) → IsPlayed c seed world → HasDistinctWords world → IsJoined world
play_joined c seed [] played distinct = tt
play_joined c seed (x ∷ world) played distinct =
    let before : HasDistinctWords world = distinct_before x world distinct in
    joined_next c seed x world (play_questions c seed world played.0 before) played.1 (play_joined c seed world played.0 before)
