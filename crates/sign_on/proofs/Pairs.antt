-- The pairs of a party's history as places of the world: the place of each, the place that accepted a login, and the place that
-- holds a request to the provider.
use Rattle.std.proofs.Common.{◌≡◌, ℕ, suc, ◌<◌, ◌==◌, ◌&&◌, Bool, true, false, cond, [], ◌∷◌, ◌++◌, length, Option, Some, Ok, refl, sym, ap, ◌∙◌, subst, inl, inr, eq-eqb, arith}
use Rattle.std.proofs.lemmas.Bool.{eqb-true, and_parts}
use Rattle.std.proofs.lemmas.Option.{same_Some}
use Rattle.sso_base.specs.Words.{Word, Text, fresh_word, word_text}
use Rattle.sso_base.specs.declared.history.Entry.{Entry}
use Rattle.sso_base.specs.declared.message.Message.{Message}
use Rattle.sso_base.proofs.RowLaws.{bool_cases, bytes_same, bytes_true}
use Rattle.sso_base.proofs.WordTexts.{word_text_inj}
use Rattle.sso_model.specs.Lists.{Has}
use Rattle.sso_model.proofs.ListLaws.{has_append_right}
use Rattle.oidc_words.specs.declared.response_types.Types.{Types}
use Rattle.rp_login.specs.declared.rows.PendingRow.{PendingRow}
use Rattle.rp_login.specs.declared.rows.Stage.TheVariants as stage
use Rattle.rp_exchange.specs.declared.ask.RpAsk.{RpAsk}
use Rattle.rp_exchange.specs.declared.ask.RpAsk.TheVariants as ask
use Rattle.rp_exchange.specs.declared.reply.RpReply.{RpReply}
use Rattle.rp_exchange.specs.declared.reply.RpReply.TheVariants as rp
use Rattle.rp_answer.specs.Past.{RpPair, RpPast}
use Rattle.rp_answer.specs.Setup.{PartySetup}
use Rattle.rp_answer.specs.Pendings.{pendings, pending_of}
use Rattle.rp_answer.specs.Causes.{MayEnter, ExchangeCause, FetchCause}
use Rattle.rp_answer.specs.Legal.{IsLegalRp, ExchangedBy}
use Rattle.rp_answer.proofs.Answers.{entered_have_a_cause, exchanges_have_a_cause, fetches_have_a_cause}
use Rattle.rp_answer.proofs.Sending.{named_row, pending_found, pending_waits, stage_same}
use Rattle.rp_answer.proofs.Exchanges.{exchanges_are_sent}
use Rattle.sso_places.specs.declared.types.WorldAsk.{WorldAsk}
use Rattle.sso_places.specs.Site.{Site, setup_at, types_at}
use Rattle.sso_places.specs.World.{Place, Provider, Party, Nothing, World, place_at, from_of, rp_past, fresh_of, enters_as, lets_in, entered_as}
use Rattle.sso_places.specs.Legal.{IsLegalWorld}
use Rattle.sso_places.specs.Premises.{HasDistinctWords, asks_under, holds, holder, IsJoinedAt, IsJoined}
use Rattle.sso_places.proofs.Numbers.{place_at_has}
use Rattle.sign_on.proofs.Invariant.{IsBegunAt}
use Rattle.sso_places.proofs.Places.{legal_before, distinct_before, party_legal, drawn_other, place_drawn, one_place}
use Rattle.sign_on.proofs.AskKinds.{IsTokens, as_tokens}

-- ---- the place of a pair

pub record IsPlaceOf (world : World) (n : ℕ) (p : RpPair) (earlier : RpPast) : Type 0 where
  pub from : ℕ
  pub request : WorldAsk
  pub after : World
  pub before : World
  pub parts : world ≡ after ++ Party n from request p ∷ before
  pub past_is : rp_past n before ≡ earlier

place_more : (x : Place) (world : World) (n : ℕ) (p : RpPair) (earlier : RpPast) → IsPlaceOf world n p earlier → IsPlaceOf (x ∷ world) n p earlier
place_more x world n p earlier old =
    record { from = old.from; request = old.request; after = x ∷ old.after; before = old.before; parts = ap (λ (w : World). x ∷ w) old.parts; past_is = old.past_is }

-- the pair is the newest one of a party's place, or is before it
own_place : (n k from : ℕ) (request : WorldAsk) (q : RpPair) (world : World) (later : RpPast) (p : RpPair) (earlier : RpPast) → ((later : RpPast) → rp_past n world ≡ later ++ p ∷ earlier → IsPlaceOf world n p earlier)
    → k ≡ n → q ∷ rp_past n world ≡ later ++ p ∷ earlier → IsPlaceOf (Party k from request q ∷ world) n p earlier
own_place n k from request q world [] p earlier rest same is =
    let first : q ≡ p = cc in
    let past : rp_past n world ≡ earlier = cc in
    let P : ℕ → RpPair → World = λ j r. Party j from request r ∷ world in
    record { from = from; request = request; after = []; before = world; parts = ap (λ (j : ℕ). P j q) same ∙ ap (P n) first; past_is = past }
own_place n k from request q world (r ∷ later) p earlier rest same is =
    let past : rp_past n world ≡ later ++ p ∷ earlier = cc in
    place_more (Party k from request q) world n p earlier (rest later past)

party_place : (n k from : ℕ) (request : WorldAsk) (q : RpPair) (world : World) (later : RpPast) (p : RpPair) (earlier : RpPast) → ((later : RpPast) → rp_past n world ≡ later ++ p ∷ earlier → IsPlaceOf world n p earlier)
    → rp_past n (Party k from request q ∷ world) ≡ later ++ p ∷ earlier → IsPlaceOf (Party k from request q ∷ world) n p earlier
party_place n k from request q world later p earlier rest is =
    let F : Bool → RpPast = λ b. cond b (q ∷ rp_past n world) (rp_past n world) in
    elim (bool_cases (k == n)) [
      | inl e ↦ own_place n k from request q world later p earlier rest (eqb-true k n e) (sym (ap F e) ∙ is)
      | inr e ↦ place_more (Party k from request q) world n p earlier (rest later (sym (ap F e) ∙ is))
    ]

pub pair_place : (n : ℕ) (world : World) (later : RpPast) (p : RpPair) (earlier : RpPast) → rp_past n world ≡ later ++ p ∷ earlier → IsPlaceOf world n p earlier
pair_place n [] [] p earlier is = absurd (cc)
pair_place n [] (q ∷ later) p earlier is = absurd (cc)
pair_place n (Provider from request q ∷ world) later p earlier is = place_more (Provider from request q) world n p earlier (pair_place n world later p earlier is)
pair_place n (Party k from request q ∷ world) later p earlier is = party_place n k from request q world later p earlier (λ l e. pair_place n world l p earlier e) is
pair_place n (Nothing ∷ world) later p earlier is = place_more Nothing world n p earlier (pair_place n world later p earlier is)

-- the place is one of the world
pub place_has : (world after before : World) (x : Place) → world ≡ after ++ x ∷ before → Has world x
place_has world after before x parts = (let H : World → Type 0 = λ w. Has w x in subst H (sym parts) (has_append_right after (x ∷ before) x (inl refl)))

-- two places of a world that drew one word under one number have the same places before them
pub one_before : (world a b c d : World) (x y : Place) (k : ℕ) → HasDistinctWords world → k < 4 → length (fresh_of x) ≡ 4 → length (fresh_of y) ≡ 4
    → world ≡ a ++ x ∷ b → world ≡ c ++ y ∷ d → fresh_word (fresh_of x) k ≡ fresh_word (fresh_of y) k → b ≡ d
one_before [] [] b c d x y k distinct low whole_x whole_y first second same = absurd (cc)
one_before [] (z ∷ a) b c d x y k distinct low whole_x whole_y first second same = absurd (cc)
one_before (z ∷ world) [] b [] d x y k distinct low whole_x whole_y first second same = cc
one_before (z ∷ world) [] b (w ∷ c) d x y k distinct low whole_x whole_y first second same =
    let head : z ≡ x = cc in
    let rest : world ≡ c ++ y ∷ d = cc in
    let F : Place → Word = λ v. fresh_word (fresh_of v) k in
    let whole : length (fresh_of z) ≡ 4 = ap (λ (v : Place). length (fresh_of v)) head ∙ whole_x in
    absurd (drawn_other z world k (F y) distinct low whole (place_drawn world y k (place_has world c d y rest) low whole_y) (sym same ∙ sym (ap F head)))
one_before (z ∷ world) (v ∷ a) b [] d x y k distinct low whole_x whole_y first second same =
    let head : z ≡ y = cc in
    let rest : world ≡ a ++ x ∷ b = cc in
    let F : Place → Word = λ u. fresh_word (fresh_of u) k in
    let whole : length (fresh_of z) ≡ 4 = ap (λ (u : Place). length (fresh_of u)) head ∙ whole_y in
    absurd (drawn_other z world k (F x) distinct low whole (place_drawn world x k (place_has world a b x rest) low whole_x) (same ∙ sym (ap F head)))
one_before (z ∷ world) (v ∷ a) b (w ∷ c) d x y k distinct low whole_x whole_y first second same =
    let left : world ≡ a ++ x ∷ b = cc in
    let right : world ≡ c ++ y ∷ d = cc in
    one_before world a b c d x y k (distinct_before z world distinct) low whole_x whole_y left right same

-- so a nonce is that of one login
pub one_begun : (n : ℕ) (world : World) (j k : ℕ) (given : Option Text) → HasDistinctWords world → IsBegunAt (rp_past n world) j given → IsBegunAt (rp_past n world) k given → j ≡ k
one_begun n world j k given distinct first second =
    let one : IsPlaceOf world n first.maker first.earlier = pair_place n world first.later first.maker first.earlier first.parts in
    let two : IsPlaceOf world n second.maker second.earlier = pair_place n world second.later second.maker second.earlier second.parts in
    let texts : word_text (fresh_word first.maker.entry.fresh 2) ≡ word_text (fresh_word second.maker.entry.fresh 2) =
    same_Some (word_text (fresh_word first.maker.entry.fresh 2)) (word_text (fresh_word second.maker.entry.fresh 2)) (sym first.nonce_is ∙ second.nonce_is) in
    let words : fresh_word first.maker.entry.fresh 2 ≡ fresh_word second.maker.entry.fresh 2 = word_text_inj (fresh_word first.maker.entry.fresh 2) (fresh_word second.maker.entry.fresh 2) first.value second.value texts in
    let before : one.before ≡ two.before =
    one_before world one.after one.before two.after two.before (Party n one.from one.request first.maker) (Party n two.from two.request second.maker) 2 distinct (omega arith) first.whole second.whole one.parts two.parts words in
    sym first.at ∙ ap (λ (past : RpPast). length past) (sym one.past_is ∙ ap (rp_past n) before ∙ two.past_is) ∙ second.at

-- ---- the place that accepted a login

entered_drawn : (s : PartySetup) (past : RpPast) (e : Entry RpAsk) (asked : RpAsk) (w : Word) (sub : Text) → MayEnter s past e asked w sub → fresh_word e.fresh 1 ≡ w
entered_drawn s past e (ask.Callback (Ok heard) id browser) w sub cause = cause.drawn
entered_drawn s past e (ask.Tokens pending (Ok came) id) w sub cause = cause.drawn
entered_drawn s past e (ask.Info pending (Ok came)) w sub cause = cause.drawn
entered_drawn s past e asked w sub cause = absurd cause

-- the word of a session is drawn at the place that accepts the login
pub entered_word : (s : PartySetup) (past : RpPast) (p : RpPair) (w : Word) (sub : Text) → IsLegalRp s (p ∷ past) → p.reply ≡ rp.Entered w sub → fresh_word p.entry.fresh 1 ≡ w
entered_word s past p w sub legal replied = entered_drawn s past p.entry p.entry.ask w sub (entered_have_a_cause s past p.entry w sub (sym legal.3 ∙ replied)).enters

-- a reply that lets in under this word
entered_by : (w : Word) (reply : RpReply) → enters_as w reply ≡ true → (sub : Text) × (reply ≡ rp.Entered w sub)
entered_by w (rp.Entered v sub) h = (sub, ap (λ (u : Word). rp.Entered u sub) (bytes_same v w h))
entered_by w reply h = absurd (cc)

lets_drawn : (s : Site) (n : ℕ) (w : Word) (x : Place) (world : World) → IsLegalWorld s (x ∷ world) → lets_in n w x ≡ true → (length (fresh_of x) ≡ 4) × (fresh_word (fresh_of x) 1 ≡ w)
lets_drawn s n w (Provider from request p) world legal h = absurd (cc)
lets_drawn s n w (Party k from request p) world legal h =
    let parts = and_parts (k == n) (enters_as w p.reply) h in
    let reply = entered_by w p.reply parts.1 in
    let own = party_legal s k from request p world legal in
    (own.1.four, entered_word (setup_at s k) (rp_past k world) p w reply.0 own reply.1)
lets_drawn s n w Nothing world legal h = absurd (cc)

-- the place at which a login was let in under a word is found by the word
pub entered_finds : (s : Site) (world : World) (n k from : ℕ) (request : WorldAsk) (p : RpPair) (w : Word) (sub : Text) → IsLegalWorld s world → HasDistinctWords world
    → place_at world k ≡ Some (Party n from request p) → p.reply ≡ rp.Entered w sub → length p.entry.fresh ≡ 4 → fresh_word p.entry.fresh 1 ≡ w → entered_as n w world ≡ Some k
entered_finds s [] n k from request p w sub legal distinct at replied whole word = cc
entered_finds s (x ∷ world) n k from request p w sub legal distinct at replied whole word =
    let number : ℕ = suc (length world) in
    let F : Bool → Option Place = λ b. cond b (Some x) (place_at world k) in
    let E : Bool → Option ℕ = λ b. cond b (Some number) (entered_as n w world) in
    elim (bool_cases (k == number)) [
      | inl e ↦
          (let here : x ≡ Party n from request p = same_Some x (Party n from request p) (sym (ap F e) ∙ at) in
          let B : Bool → Bool = λ b. b && enters_as w p.reply in
          let lets : lets_in n w (Party n from request p) ≡ true = ap B (eq-eqb n n refl) ∙ ap (enters_as w) replied ∙ bytes_true w w refl in
          ap E (ap (lets_in n w) here ∙ lets) ∙ ap (λ (j : ℕ). Some j) (sym (eqb-true k number e)))
      | inr e ↦
          (let there : place_at world k ≡ Some (Party n from request p) = sym (ap F e) ∙ at in
          let has : Has world (Party n from request p) = place_at_has world k (Party n from request p) there in
          let away : lets_in n w x ≡ false =
          elim (bool_cases (lets_in n w x)) [
            | inl lets ↦
                (let drew = lets_drawn s n w x world legal lets in
                absurd (drawn_other x world 1 (fresh_word p.entry.fresh 1) distinct (omega arith) drew.0 (place_drawn world (Party n from request p) 1 has (omega arith) whole) (word ∙ sym drew.1)))
            | inr not_here ↦ not_here
          ] in
          ap E away ∙ entered_finds s world n k from request p w sub (legal_before s x world legal) (distinct_before x world distinct) there replied whole word)
    ]

-- ---- the place of a request to the provider

-- a place of the world drew the word, and has the number of this one
pub record IsDrewBy (world : World) (w : Word) (from : ℕ) : Type 0 where
  pub place : Place
  pub has : Has world place
  pub four : length (fresh_of place) ≡ 4
  pub word : fresh_word (fresh_of place) 0 ≡ w
  pub same : from_of place ≡ from

drew_more : (x : Place) (world : World) (w : Word) (from : ℕ) → IsDrewBy world w from → IsDrewBy (x ∷ world) w from
drew_more x world w from old = record { place = old.place; has = inr old.has; four = old.four; word = old.word; same = old.same }

-- if a place holds a request to the provider, some place is the newest that does
pub record IsHolder (world : World) (w : Word) : Type 0 where
  pub place : Place
  pub has : Has world place
  pub holds_it : holds w place ≡ true
  pub is : holder w world ≡ Some place

pub some_holder : (world : World) (w : Word) (y : Place) → Has world y → holds w y ≡ true → IsHolder world w
some_holder [] w y has does = absurd has
some_holder (x ∷ world) w y has does =
    let E : Bool → Option Place = λ b. cond b (Some x) (holder w world) in
    elim (bool_cases (holds w x)) [
      | inl here ↦ record { place = x; has = inl refl; holds_it = here; is = ap E here }
      | inr away ↦
          elim has [
            | inl same ↦ (let never : true ≡ false = sym does ∙ sym (ap (holds w) same) ∙ away in absurd (cc))
            | inr there ↦
                (let rest : IsHolder world w = some_holder world w y there does in
                record { place = rest.place; has = inr rest.has; holds_it = rest.holds_it; is = ap E away ∙ rest.is })
          ]
    ]

-- the place of the pair that sent an exchange
pub record IsSender (s : Site) (n : ℕ) (world : World) (exchange : PendingRow) : Type 0 where
  pub by : ExchangedBy (setup_at s n) (rp_past n world) exchange
  pub there : IsPlaceOf world n by.maker by.earlier

pub sends : (s : Site) (n : ℕ) (world : World) (w : Word) (exchange : PendingRow) → IsLegalWorld s world → pending_of (types_at s n) (rp_past n world) w ≡ Some exchange → exchange.stage ≡ stage.Tokens → IsSender s n world exchange
sends s n world w exchange legal found waits =
    let by : ExchangedBy (setup_at s n) (rp_past n world) exchange = exchanges_are_sent (setup_at s n) (rp_past n world) w exchange (legal.parties n) found waits in
    record { by = by; there = pair_place n world by.later by.maker by.earlier by.parts }

pub sender_has : (s : Site) (n : ℕ) (world : World) (exchange : PendingRow) (at : IsSender s n world exchange) → Has world (Party n at.there.from at.there.request at.by.maker)
sender_has s n world exchange at = place_has world at.there.after at.there.before (Party n at.there.from at.there.request at.by.maker) at.there.parts

pub sender_holds : (s : Site) (n : ℕ) (world : World) (exchange : PendingRow) (at : IsSender s n world exchange) → holds exchange.word (Party n at.there.from at.there.request at.by.maker) ≡ true
sender_holds s n world exchange at = ap (asks_under exchange.word) at.by.replied ∙ bytes_true exchange.word exchange.word refl

-- a place that holds a question has the number of the place that drew its word
module _ (s : Site) (world : World) (earlier : (w : Word) (y : Place) → Has world y → holds w y ≡ true → IsDrewBy world w (from_of y)) where
  -- the question of a token request draws its word, and so does that for UserInfo at once; that for UserInfo after a token
  -- request comes under the number of the latter
  fetch_drew : (n from : ℕ) (request : WorldAsk) (p : RpPair) (asked : RpAsk) (v : Word) (message : Message) → p.entry.ask ≡ asked → IsLegalWorld s (Party n from request p ∷ world) → IsJoinedAt world from request → length p.entry.fresh ≡ 4
      → FetchCause (setup_at s n) (rp_past n world) p.entry asked v message → IsDrewBy (Party n from request p ∷ world) v from
  fetch_drew n from request p (ask.Callback (Ok heard) id browser) v message is legal joined four cause =
      record { place = Party n from request p; has = inl refl; four = four; word = cause.drawn; same = refl }
  fetch_drew n from request p (ask.Tokens pending (Ok came) id) v message is legal joined four cause =
      let x : Place = Party n from request p in
      let before : IsLegalWorld s world = legal_before s x world legal in
      let types : Types = types_at s n in
      let past : RpPast = rp_past n world in
      let exchange : PendingRow = cause.exchange in
      let found : pending_of types past pending ≡ Some exchange = pending_found types past p.entry.at pending stage.Tokens exchange cause.live in
      let waits : exchange.stage ≡ stage.Tokens = stage_same stage.Tokens exchange.stage (pending_waits types past p.entry.at pending stage.Tokens exchange cause.live) in
      let at : IsSender s n world exchange = sends s n world pending exchange before found waits in
      let y : Place = Party n at.there.from at.there.request at.by.maker in
      let held : IsHolder world exchange.word = some_holder world exchange.word y (sender_has s n world exchange at) (sender_holds s n world exchange at) in
      let named : exchange.word ≡ pending = named_row pending (pendings types past) exchange found in
      let tokens : IsTokens s.configuration n request (ask.Tokens pending (Ok came) id) pending = as_tokens s.configuration n request pending (Ok came) id (sym is ∙ legal.asked.0.1) in
      let J : WorldAsk → Type 0 = λ r. IsJoinedAt world from r in
      let H : Word → Type 0 = λ u. holder u world ≡ Some held.place in
      let same : from_of held.place ≡ from = subst J tokens.came_is joined held.place (subst H named held.is) in
      let drew : IsDrewBy world exchange.word (from_of held.place) = earlier exchange.word held.place held.has held.holds_it in
      let D : Word → Type 0 = λ u. IsDrewBy world u from in
      let E : ℕ → Type 0 = λ b. IsDrewBy world exchange.word b in
      drew_more x world v from (subst D cause.word_kept (subst E same drew))
  fetch_drew n from request p asked v message is legal joined four cause = absurd cause

  exchange_drew : (n from : ℕ) (request : WorldAsk) (p : RpPair) (asked : RpAsk) (v : Word) (message : Message) → length p.entry.fresh ≡ 4
      → ExchangeCause (setup_at s n) (rp_past n world) p.entry asked v message → IsDrewBy (Party n from request p ∷ world) v from
  exchange_drew n from request p (ask.Callback (Ok heard) id browser) v message four cause =
      record { place = Party n from request p; has = inl refl; four = four; word = cause.drawn; same = refl }
  exchange_drew n from request p asked v message four cause = absurd cause

  reply_drew : (n from : ℕ) (request : WorldAsk) (p : RpPair) (w : Word) (reply : RpReply) → p.reply ≡ reply → IsLegalWorld s (Party n from request p ∷ world) → IsJoinedAt world from request → asks_under w reply ≡ true
      → IsDrewBy (Party n from request p ∷ world) w from
  reply_drew n from request p w (rp.Exchange v message) is legal joined asks =
      let own = party_legal s n from request p world legal in
      let D : Word → Type 0 = λ u. IsDrewBy (Party n from request p ∷ world) u from in
      subst D (bytes_same v w asks)
      (exchange_drew n from request p p.entry.ask v message own.1.four (exchanges_have_a_cause (setup_at s n) (rp_past n world) p.entry v message (sym own.3 ∙ is)))
  reply_drew n from request p w (rp.Fetch v message) is legal joined asks =
      let own = party_legal s n from request p world legal in
      let D : Word → Type 0 = λ u. IsDrewBy (Party n from request p ∷ world) u from in
      subst D (bytes_same v w asks)
      (fetch_drew n from request p p.entry.ask v message refl legal joined own.1.four (fetches_have_a_cause (setup_at s n) (rp_past n world) p.entry v message (sym own.3 ∙ is)))
  reply_drew n from request p w reply is legal joined asks = absurd (cc)

  here_drew : (x : Place) (w : Word) → IsLegalWorld s (x ∷ world) → IsJoined (x ∷ world) → holds w x ≡ true → IsDrewBy (x ∷ world) w (from_of x)
  here_drew (Provider from request p) w legal joined does = absurd (cc)
  here_drew (Party n from request p) w legal joined does = reply_drew n from request p w p.reply refl legal joined.1 does
  here_drew Nothing w legal joined does = absurd (cc)

pub joined_before : (x : Place) (world : World) → IsJoined (x ∷ world) → IsJoined world
joined_before (Provider from request p) world joined = joined
joined_before (Party n from request p) world joined = joined.0
joined_before Nothing world joined = joined

pub joined_from : (after before : World) → IsJoined (after ++ before) → IsJoined before
joined_from [] before joined = joined
joined_from (x ∷ after) before joined = joined_from after before (joined_before x (after ++ before) joined)

pub holds_drew : (s : Site) (world : World) → IsLegalWorld s world → IsJoined world → (w : Word) (y : Place) → Has world y → holds w y ≡ true → IsDrewBy world w (from_of y)
holds_drew s [] legal joined w y has does = absurd has
holds_drew s (x ∷ world) legal joined w y (inl same) does =
    let D : Place → Type 0 = λ z. IsDrewBy (x ∷ world) w (from_of z) in
    subst D same
    (here_drew s world (λ v z has does_too. holds_drew s world (legal_before s x world legal) (joined_before x world joined) v z has does_too) x w legal joined (ap (holds w) same ∙ does))
holds_drew s (x ∷ world) legal joined w y (inr has) does =
    drew_more x world w (from_of y) (holds_drew s world (legal_before s x world legal) (joined_before x world joined) w y has does)

-- so an answer comes under the number of the place that drew the word of its question
pub joins : (s : Site) (world : World) (from : ℕ) (w : Word) (y z : Place) → IsLegalWorld s world → HasDistinctWords world → IsJoined world → ((v : Place) → holder w world ≡ Some v → from_of v ≡ from)
    → Has world y → holds w y ≡ true → Has world z → length (fresh_of z) ≡ 4 → fresh_word (fresh_of z) 0 ≡ w → from_of z ≡ from
joins s world from w y z legal distinct joined at has does has_z four word =
    let held : IsHolder world w = some_holder world w y has does in
    let drew : IsDrewBy world w (from_of held.place) = holds_drew s world legal joined w held.place held.has held.holds_it in
    let places : drew.place ≡ z = one_place world drew.place z 0 distinct (omega arith) drew.four four drew.has has_z (drew.word ∙ sym word) in
    sym (ap from_of places) ∙ drew.same ∙ at held.place held.is
