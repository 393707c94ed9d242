-- The steps of a sign-out in the machine: a message to each notified client, and then the session is closed.
use Rattle.std.proofs.Common.{◌≡◌, ◌≢◌, ℕ, suc, ◌+◌, ◌<◌, ◌≤◌, Bool, true, false, List, [], ◌∷◌, ◌++◌, length, map, Option, Some, None, inl, inr, refl, ap, subst, arith}
use Rattle.std.specs.List.{AllByRecursion}
use Rattle.sso_base.specs.Words.{Text, word_text}
use Rattle.sso_model.specs.Lists.{Has, Lacks}
use Rattle.sso_model.specs.Rows.{Sent, Machine, Step, out}
use Rattle.sso_model.specs.Machine.{IsRun, after, after_all}
use Rattle.sso_model.proofs.ListLaws.{all_weaker}
use Rattle.client_registry.specs.declared.records.Client.{Client}
use Rattle.client_registry.specs.Configuration.{Configuration}
use Rattle.client_registry.specs.ClientSets.{has_client}
use Rattle.code_grant.specs.declared.rows.SessionRow.{SessionRow}
use Rattle.sso_places.specs.Told.{told_if, told_from, told_clients}
use Rattle.sso_places.specs.Reading.{sent_to}
use Rattle.sso_places.proofs.Lists.{has_append}
use Rattle.sign_on.proofs.Invariant.{AnsweredBy, AreSentApart}

-- ---- the notified clients

-- numbers that rise, from one on
abbrev pub AreRising : ℕ → List ℕ → Type 0
AreRising k [] = Unit {0}
AreRising k (n ∷ ns) = (k ≤ n) × AreRising (suc n) ns

rising_from : (k j : ℕ) (ns : List ℕ) → j ≤ k → AreRising k ns → AreRising j ns
rising_from k j [] low rising = tt
rising_from k j (n ∷ ns) low rising =
    let first : k ≤ n = rising.0 in
    (omega arith, rising.1)

one_rising : (n : ℕ) (b : Bool) (uri : Option Text) (ns : List ℕ) → AreRising (n + 1) ns → AreRising n (told_if n b uri ++ ns)
one_rising n true (Some uri) ns rising = (let next : n + 1 ≡ suc n = omega arith in let R : ℕ → Type 0 = λ k. AreRising k ns in (omega arith, subst R next rising))
one_rising n true None ns rising = rising_from (n + 1) n ns (omega arith) rising
one_rising n false uri ns rising = rising_from (n + 1) n ns (omega arith) rising

told_rising : (answered : List Bool) (n : ℕ) (clients : List Client) → AreRising n (told_from answered n clients)
told_rising answered n [] = tt
told_rising answered n (client ∷ clients) = one_rising n (has_client n answered) client.logout (told_from answered (n + 1) clients) (told_rising answered (n + 1) clients)

one_told : (n k : ℕ) (b : Bool) (uri : Option Text) → Has (told_if n b uri) k → (b ≡ true) × (n ≡ k)
one_told n k true (Some uri) (inl same) = (refl, same)
one_told n k true (Some uri) (inr has) = absurd has
one_told n k true None has = absurd has
one_told n k false uri has = absurd has

told_has : (answered : List Bool) (n k : ℕ) (clients : List Client) → Has (told_from answered n clients) k → (has_client k answered ≡ true) × (k < n + length clients)
told_has answered n k [] has = absurd has
told_has answered n k (client ∷ clients) has =
    elim (has_append (told_if n (has_client n answered) client.logout) (told_from answered (n + 1) clients) k has) [
      | inl here ↦
          (let first = one_told n k (has_client n answered) client.logout here in
          let H : ℕ → Type 0 = λ j. has_client j answered ≡ true in
          let same : n ≡ k = first.1 in
          (subst H same first.0, omega arith))
      | inr there ↦ (let rest = told_has answered (n + 1) k clients there in let low : k < (n + 1) + length clients = rest.1 in (rest.0, omega arith))
    ]

-- ---- the messages of one sign-out

module _ (c : Configuration) (number : ℕ) (session : SessionRow) where
  abbrev pub sent : ℕ → Sent
  sent client = sent_to c number session client

  abbrev pub outs : List ℕ → List Step
  outs told = map (λ client. out (sent_to c number session client)) told

  -- the messages that went out, with these
  abbrev pub with_sent : List ℕ → List Sent → List Sent
  with_sent [] rows = rows
  with_sent (n ∷ ns) rows = with_sent ns (sent n ∷ rows)

  -- those of this place are to clients below this number
  abbrev pub AreBelow : ℕ → List Sent → Type 0
  AreBelow k rows = AllByRecursion (λ (o : Sent). o.place ≡ number → o.client < k) rows

  below_more : (k n : ℕ) (rows : List Sent) → k ≤ n → AreBelow k rows → AreBelow (suc n) (sent n ∷ rows)
  below_more k n rows low below = (
    λ same. omega arith,
    all_weaker (λ (o : Sent). o.place ≡ number → o.client < k) (λ (o : Sent). o.place ≡ number → o.client < suc n) rows
        (λ o was same. let less : o.client < k = was same in omega arith) below,
  )

  none_yet : (k n : ℕ) (rows : List Sent) → k ≤ n → AreBelow k rows → AllByRecursion (λ (o : Sent). o.place ≡ number → o.client ≢ n) rows
  none_yet k n rows low below =
      all_weaker (λ (o : Sent). o.place ≡ number → o.client < k) (λ (o : Sent). o.place ≡ number → o.client ≢ n) rows
      (λ o was same is. let less : o.client < k = was same in let equal : o.client ≡ n = is in absurd (omega arith)) below

  pub outs_run : (m : Machine) (k : ℕ) (told : List ℕ) → AreRising k told → ((n : ℕ) → Has told n → AnsweredBy m.answered n session) → Lacks m.closed (word_text session.sid) → AreBelow k m.out → IsRun m (outs told)
  outs_run m k [] rising answers unclosed below = tt
  outs_run m k (n ∷ ns) rising answers unclosed below =
      let a : AnsweredBy m.answered n session = answers n (inl refl) in (
        ((a.answer, a.has, a.client_is, a.user_is, a.sid_is), unclosed, none_yet k n m.out rising.0 below),
        outs_run (after m (out (sent n))) (suc n) ns rising.1 (λ j has. answers j (inr has)) unclosed (below_more k n m.out rising.0 below),
      )

  pub outs_after : (m : Machine) (told : List ℕ) → after_all m (outs told) ≡ record m { out = with_sent told m.out }
  outs_after m [] = refl
  outs_after m (n ∷ ns) = outs_after (after m (out (sent n))) ns

  pub sent_before : (told : List ℕ) (rows : List Sent) (row : Sent) → Has rows row → Has (with_sent told rows) row
  sent_before [] rows row has = has
  sent_before (n ∷ ns) rows row has = sent_before ns (sent n ∷ rows) row (inr has)

  pub sent_now : (told : List ℕ) (rows : List Sent) (n : ℕ) → Has told n → Has (with_sent told rows) (sent n)
  sent_now [] rows n has = absurd has
  sent_now (k ∷ ns) rows n (inl same) = sent_before ns (sent k ∷ rows) (sent n) (inl (ap sent same))
  sent_now (k ∷ ns) rows n (inr has) = sent_now ns (sent k ∷ rows) n has

  pub sent_all : (P : Sent → Type 0) (told : List ℕ) (rows : List Sent) → ((n : ℕ) → Has told n → P (sent n)) → AllByRecursion P rows → AllByRecursion P (with_sent told rows)
  sent_all P [] rows new all = all
  sent_all P (n ∷ ns) rows new all = sent_all P ns (sent n ∷ rows) (λ k has. new k (inr has)) (new n (inl refl), all)

  pub sent_apart : (k : ℕ) (told : List ℕ) (rows : List Sent) → AreRising k told → AreBelow k rows → AreSentApart rows → AreSentApart (with_sent told rows)
  sent_apart k [] rows rising below apart = apart
  sent_apart k (n ∷ ns) rows rising below apart =
      sent_apart (suc n) ns (sent n ∷ rows) rising.1 (below_more k n rows rising.0 below) (none_yet k n rows rising.0 below, apart)

  -- nothing went out there before
  pub all_before : (rows : List Sent) → AllByRecursion (λ (o : Sent). o.place < number) rows → AreBelow 0 rows
  all_before rows all =
      all_weaker (λ (o : Sent). o.place < number) (λ (o : Sent). o.place ≡ number → o.client < 0) rows
      (λ o less same. let low : o.place < number = less in let is : o.place ≡ number = same in absurd (omega arith)) all

  -- what is true for each token that is made for a number
  pub all_map : {A : Type 0} (P : A → Type 0) (f : ℕ → A) (told : List ℕ) → ((n : ℕ) → Has told n → P (f n)) → AllByRecursion P (map f told)
  all_map P f [] each = tt
  all_map P f (n ∷ ns) each = (each n (inl refl), all_map P f ns (λ k has. each k (inr has)))

-- the clients that a sign-out notifies
pub told_is_rising : (c : Configuration) (answered : List Bool) → AreRising 0 (told_clients c answered)
told_is_rising c answered = told_rising answered 0 c.clients

pub told_is_answered : (c : Configuration) (answered : List Bool) (k : ℕ) → Has (told_clients c answered) k → (has_client k answered ≡ true) × (k < length c.clients)
told_is_answered c answered k has =
    let told = told_has answered 0 k c.clients has in
    let low : k < 0 + length c.clients = told.1 in
    (told.0, omega arith)
