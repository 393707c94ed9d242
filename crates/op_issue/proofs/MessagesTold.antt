-- The messages of a sign-out, one client after another; which they are, and in which order.
use Rattle.std.proofs.Common.{◌≡◌, ◌+◌, ◌<◌, ℕ, zero, suc, Bool, true, false, List, [], ◌∷◌, ◌++◌, drop, slice_get, Option, Some, None, ◌⊎◌, inl, inr, refl, sym, ap, ◌∙◌, subst, arith, append_assoc}
use Rattle.sso_base.specs.Lists.{Has}
use Rattle.sso_base.specs.Words.{Text}
use Rattle.sso_base.specs.declared.message.Message.{Message}
use Rattle.sso_base.proofs.ListSteps.{drop_at}
use Rattle.client_registry.specs.declared.records.Client.{Client}
use Rattle.client_registry.specs.Configuration.{Configuration}
use Rattle.client_registry.specs.ClientSets.{has_client}
use Rattle.op_issue.specs.declared.sign_out.SignOut.{SignOut}
use Rattle.op_issue.specs.LogoutMessages.{logout_message, message_if, messages_from, logout_messages}
use Rattle.op_issue.specs.Told.{TellsAt, Tells}

module _ (c : Configuration) (out : SignOut) (answered : List Bool) where
  -- ---- the loop

  abbrev from : ℕ → List Client → List Message
  from n clients = messages_from c out answered n clients

  abbrev one : ℕ → Client → List Message
  one n client = message_if c out n (has_client n answered) client.logout

  pub step : (n : ℕ) (client : Client) (has : Bool) (before after all : List Message) → slice_get c.clients n ≡ Some client → has ≡ has_client n answered
      → after ≡ before ++ message_if c out n has client.logout → before ++ from n (drop n c.clients) ≡ all → after ++ from (n + 1) (drop (n + 1) c.clients) ≡ all
  step n client has before after all there same pushed told =
      let F : List Client → List Message = λ clients. before ++ from n clients in
      let A : List Message → List Message = λ l. l ++ from (n + 1) (drop (n + 1) c.clients) in
      let B : Bool → List Message = λ b. before ++ message_if c out n b client.logout in
      ap A (pushed ∙ ap B same) ∙ append_assoc before (one n client) (from (n + 1) (drop (n + 1) c.clients)) ∙ sym (ap F (drop_at c.clients n client there)) ∙ told

  -- ---- a message is among them if and only if it tells the sign-out to a client

  -- it tells the client of this place among these, which are those from a number on
  record TellsFrom (n : ℕ) (clients : List Client) (place : ℕ) (message : Message) : Type 0 where
    client : Client
    client_is : slice_get clients place ≡ Some client
    answers : has_client (n + place) answered ≡ true
    uri : Text
    uri_is : client.logout ≡ Some uri
    message_is : logout_message c out (n + place) uri ≡ message

  at_first : (n : ℕ) → n ≡ n + 0
  at_first n = omega arith

  one_on : (n k : ℕ) → (n + 1) + k ≡ n + suc k
  one_on n k = omega arith

  tells_first : (n : ℕ) (client : Client) (clients : List Client) (message : Message) (uri : Text) → has_client n answered ≡ true → client.logout ≡ Some uri → logout_message c out n uri ≡ message
      → TellsFrom n (client ∷ clients) 0 message
  tells_first n client clients message uri answers uri_is message_is =
      let H : ℕ → Type 0 = λ k. has_client k answered ≡ true in
      let M : ℕ → Type 0 = λ k. logout_message c out k uri ≡ message in
      record { client = client; client_is = refl; answers = subst H (at_first n) answers; uri = uri; uri_is = uri_is; message_is = subst M (at_first n) message_is }

  tells_later : (n : ℕ) (client : Client) (clients : List Client) (place : ℕ) (message : Message) → TellsFrom (n + 1) clients place message → TellsFrom n (client ∷ clients) (suc place) message
  tells_later n client clients place message t =
      let H : ℕ → Type 0 = λ k. has_client k answered ≡ true in
      let M : ℕ → Type 0 = λ k. logout_message c out k t.uri ≡ message in
      record { client = t.client; client_is = t.client_is; answers = subst H (one_on n place) t.answers; uri = t.uri; uri_is = t.uri_is; message_is = subst M (one_on n place) t.message_is }

  first_or_later : (n : ℕ) (client : Client) (clients : List Client) (rest : List Message) (message : Message) (has : Bool) (logout : Option Text) → has_client n answered ≡ has → client.logout ≡ logout
      → Has (message_if c out n has logout ++ rest) message → TellsFrom n (client ∷ clients) 0 message ⊎ Has rest message
  first_or_later n client clients rest message true (Some uri) has logout (inl is) = inl (tells_first n client clients message uri has logout is)
  first_or_later n client clients rest message true (Some uri) has logout (inr later) = inr later
  first_or_later n client clients rest message true None has logout among = inr among
  first_or_later n client clients rest message false uri has logout among = inr among

  told_from : (n : ℕ) (clients : List Client) (message : Message) → Has (from n clients) message → (place : ℕ) × TellsFrom n clients place message
  told_from n [] message among = absurd among
  told_from n (client ∷ clients) message among =
      elim (first_or_later n client clients (from (n + 1) clients) message (has_client n answered) client.logout refl refl among) [
        | inl first ↦ (0, first)
        | inr later ↦ let t = told_from (n + 1) clients message later in (suc t.0, tells_later n client clients t.0 message t.1)
      ]

  after_others : (message : Message) (front rest : List Message) → Has rest message → Has (front ++ rest) message
  after_others message [] rest among = among
  after_others message (first ∷ front) rest among = inr (after_others message front rest among)

  among_from : (n : ℕ) (clients : List Client) (message : Message) (place : ℕ) (client : Client) → slice_get clients place ≡ Some client → has_client (n + place) answered ≡ true → (uri : Text)
      → client.logout ≡ Some uri → logout_message c out (n + place) uri ≡ message → Has (from n clients) message
  among_from n [] message place client there answers uri uri_is message_is = cc
  among_from n (k ∷ clients) message zero client there answers uri uri_is message_is =
      let same : k ≡ client = cc in
      let H : ℕ → Type 0 = λ i. has_client i answered ≡ true in
      let M : ℕ → Type 0 = λ i. logout_message c out i uri ≡ message in
      let has : has_client n answered ≡ true = subst H (sym (at_first n)) answers in
      let logout : k.logout ≡ Some uri = ap (λ (x : Client). x.logout) same ∙ uri_is in
      let O : Option Text → Type 0 = λ o. Has (message_if c out n true o ++ from (n + 1) clients) message in
      let B : Bool → Type 0 = λ b. Has (message_if c out n b k.logout ++ from (n + 1) clients) message in
      let first : O (Some uri) = inl (subst M (sym (at_first n)) message_is) in
      subst B (sym has) (subst O (sym logout) first)
  among_from n (k ∷ clients) message (suc place) client there answers uri uri_is message_is =
      let H : ℕ → Type 0 = λ i. has_client i answered ≡ true in
      let M : ℕ → Type 0 = λ i. logout_message c out i uri ≡ message in
      after_others message (one n k) (from (n + 1) clients)
      (among_from (n + 1) clients message place client there (subst H (sym (one_on n place)) answers) uri uri_is (subst M (sym (one_on n place)) message_is))

  from_none : (k : ℕ) → 0 + k ≡ k
  from_none k = omega arith

  at_number : (number : ℕ) (message : Message) → TellsFrom 0 c.clients number message → TellsAt c out answered number message
  at_number number message t =
      let H : ℕ → Type 0 = λ i. has_client i answered ≡ true in
      let M : ℕ → Type 0 = λ i. logout_message c out i t.uri ≡ message in
      record { client = t.client; client_is = t.client_is; answers = subst H (from_none number) t.answers; uri = t.uri; uri_is = t.uri_is; message_is = subst M (from_none number) t.message_is }

  pub among_tells : (message : Message) → Has (logout_messages c out answered) message → Tells c out answered message
  unfolding logout_messages
  among_tells message among = let t = told_from 0 c.clients message among in (t.0, at_number t.0 message t.1)

  pub tells_among : (message : Message) → Tells c out answered message → Has (logout_messages c out answered) message
  unfolding logout_messages
  tells_among message told =
      let number = told.0 in
      let t = told.1 in
      let H : ℕ → Type 0 = λ i. has_client i answered ≡ true in
      let M : ℕ → Type 0 = λ i. logout_message c out i t.uri ≡ message in
      among_from 0 c.clients message number t.client t.client_is (subst H (sym (from_none number)) t.answers) t.uri t.uri_is (subst M (sym (from_none number)) t.message_is)

  -- ---- of two messages the first tells the client of the lower number

  record BothFrom (n : ℕ) (clients : List Client) (m k : Message) : Type 0 where
    early : ℕ
    late : ℕ
    order : early < late
    first : TellsFrom n clients early m
    second : TellsFrom n clients late k

  above_none : (k : ℕ) → 0 < suc k
  above_none k = omega arith

  both_one_more : (i j : ℕ) → i < j → suc i < suc j
  both_one_more i j h = omega (arith, h)

  both_later : (n : ℕ) (client : Client) (clients : List Client) (m k : Message) → BothFrom (n + 1) clients m k → BothFrom n (client ∷ clients) m k
  both_later n client clients m k b =
      record {
        early = suc b.early;
        late = suc b.late;
        order = both_one_more b.early b.late b.order;
        first = tells_later n client clients b.early m b.first;
        second = tells_later n client clients b.late k b.second;
      }

  first_and_later : (n : ℕ) (client : Client) (clients : List Client) (m k : Message) → TellsFrom n (client ∷ clients) 0 m → Has (from (n + 1) clients) k → BothFrom n (client ∷ clients) m k
  first_and_later n client clients m k first later =
      let t = told_from (n + 1) clients k later in
      record { early = 0; late = suc t.0; order = above_none t.0; first = first; second = tells_later n client clients t.0 k t.1 }

  -- the first client is told first, or both come later
  both_or_later : (n : ℕ) (client : Client) (clients : List Client) (before between after : List Message) (m k : Message) (has : Bool) (logout : Option Text) → has_client n answered ≡ has
      → client.logout ≡ logout → message_if c out n has logout ++ from (n + 1) clients ≡ before ++ m ∷ (between ++ k ∷ after)
      → BothFrom n (client ∷ clients) m k ⊎ ((others : List Message) × (from (n + 1) clients ≡ others ++ m ∷ (between ++ k ∷ after)))
  both_or_later n client clients [] between after m k true (Some uri) has logout is =
      let first : logout_message c out n uri ≡ m = cc in
      let rest : from (n + 1) clients ≡ between ++ k ∷ after = cc in
      let later : Has (from (n + 1) clients) k = subst (λ (ms : List Message). Has ms k) (sym rest) (after_others k between (k ∷ after) (inl refl)) in
      inl (first_and_later n client clients m k (tells_first n client clients m uri has logout first) later)
  both_or_later n client clients (b ∷ before) between after m k true (Some uri) has logout is =
      let rest : from (n + 1) clients ≡ before ++ m ∷ (between ++ k ∷ after) = cc in
      inr (before, rest)
  both_or_later n client clients before between after m k true None has logout is = inr (before, is)
  both_or_later n client clients before between after m k false uri has logout is = inr (before, is)

  both_from : (n : ℕ) (clients : List Client) (before between after : List Message) (m k : Message) → from n clients ≡ before ++ m ∷ (between ++ k ∷ after) → BothFrom n clients m k
  both_from n [] [] between after m k is = absurd (cc)
  both_from n [] (b ∷ before) between after m k is = absurd (cc)
  both_from n (client ∷ clients) before between after m k is =
      elim (both_or_later n client clients before between after m k (has_client n answered) client.logout refl refl is) [
        | inl both ↦ both
        | inr later ↦ both_later n client clients m k (both_from (n + 1) clients later.0 between after m k later.1)
      ]

  pub told_in_order : (before between after : List Message) (m k : Message) → logout_messages c out answered ≡ before ++ m ∷ (between ++ k ∷ after)
      → (i : ℕ) × (j : ℕ) × (i < j) × TellsAt c out answered i m × TellsAt c out answered j k
  unfolding logout_messages
  told_in_order before between after m k is =
      let b = both_from 0 c.clients before between after m k is in
      (b.early, b.late, b.order, at_number b.early m b.first, at_number b.late k b.second)
