-- How many requests to the provider may follow a reply of a core that a relying party is in.
use Rattle.std.proofs.Common.{◌≡◌, ◌≢◌, ℕ, ◌≤◌, ◌<◌, Option, Some, None, option_map, refl, ◌∙◌, arith}
use Rattle.sso_base.specs.Words.{Word}
use Rattle.sso_base.specs.declared.message.Answered.{Answered}
use Rattle.rp_exchange.specs.declared.reply.RpReply.{RpReply}
use Rattle.rp_exchange.specs.declared.reply.RpReply.TheVariants as reply
use Rattle.core_stack.specs.declared.sending.Sending.{Sending}
use Rattle.core_stack.specs.Relied.{exchange_named}
use Rattle.core_stack.specs.Rounds.{rounds_of}
use Rattle.server_roles.specs.Roles.{message_in, answered_by}

at_most_two : (r : RpReply) → rounds_of r ≤ 2
at_most_two (reply.Ask to browser) = omega arith
at_most_two reply.Fragment = omega arith
at_most_two (reply.Exchange pending message) = omega arith
at_most_two (reply.Fetch pending message) = omega arith
at_most_two (reply.Entered session sub) = omega arith
at_most_two (reply.User sub) = omega arith
at_most_two reply.Nobody = omega arith
at_most_two (reply.Left ended) = omega arith
at_most_two (reply.Ended count) = omega arith
at_most_two (reply.Refused why) = omega arith
at_most_two reply.NotHere = omega arith

-- a reply with an exchange has rounds left
some_left : (r : RpReply) → exchange_named r ≢ None → 0 < rounds_of r
some_left (reply.Exchange pending message) names = omega arith
some_left (reply.Fetch pending message) names = omega arith
some_left (reply.Ask to browser) names = absurd (names refl)
some_left reply.Fragment names = absurd (names refl)
some_left (reply.Entered session sub) names = absurd (names refl)
some_left (reply.User sub) names = absurd (names refl)
some_left reply.Nobody names = absurd (names refl)
some_left (reply.Left ended) names = absurd (names refl)
some_left (reply.Ended count) names = absurd (names refl)
some_left (reply.Refused why) names = absurd (names refl)
some_left reply.NotHere names = absurd (names refl)

-- after the answer to the request that follows a reply, fewer may follow
fewer_left : {A : Type 0} (tokens info : Word → Answered → A) (none asked : A) (answer : Answered) (left : ℕ) (r : RpReply)
    → ((w : Word) → asked ≡ tokens w answer → left < 2) → ((w : Word) → asked ≡ info w answer → left < 1)
    → asked ≡ answered_by tokens info none r answer → exchange_named r ≢ None → left < rounds_of r
fewer_left tokens info none asked answer left (reply.Exchange pending message) tokens_end info_ends is names = tokens_end pending is
fewer_left tokens info none asked answer left (reply.Fetch pending message) tokens_end info_ends is names = info_ends pending is
fewer_left tokens info none asked answer left (reply.Ask to browser) tokens_end info_ends is names = absurd (names refl)
fewer_left tokens info none asked answer left reply.Fragment tokens_end info_ends is names = absurd (names refl)
fewer_left tokens info none asked answer left (reply.Entered session sub) tokens_end info_ends is names = absurd (names refl)
fewer_left tokens info none asked answer left (reply.User sub) tokens_end info_ends is names = absurd (names refl)
fewer_left tokens info none asked answer left reply.Nobody tokens_end info_ends is names = absurd (names refl)
fewer_left tokens info none asked answer left (reply.Left ended) tokens_end info_ends is names = absurd (names refl)
fewer_left tokens info none asked answer left (reply.Ended count) tokens_end info_ends is names = absurd (names refl)
fewer_left tokens info none asked answer left (reply.Refused why) tokens_end info_ends is names = absurd (names refl)
fewer_left tokens info none asked answer left reply.NotHere tokens_end info_ends is names = absurd (names refl)

-- a message is sent in an exchange
in_exchange : (o : Option Sending) → message_in o ≢ None → option_map (λ (s : Sending). s.pending) o ≢ None
in_exchange None question none = question refl
in_exchange (Some s) question none = absurd (cc)

module _ {R : Type 0} (told : R → RpReply) (sent : R → Option Sending)
    (named : (r : R) → option_map (λ (s : Sending). s.pending) (sent r) ≡ exchange_named (told r)) where
  asks_in_exchange : (r : R) → message_in (sent r) ≢ None → exchange_named (told r) ≢ None
  asks_in_exchange r question none = in_exchange (sent r) question (named r ∙ none)

  -- a reply with a question has rounds left, at most two
  pub rp_few_rounds : (r : R) → (rounds_of (told r) ≤ 2) × (message_in (sent r) ≢ None → 0 < rounds_of (told r))
  rp_few_rounds r = (at_most_two (told r), λ question. some_left (told r) (asks_in_exchange r question))

  -- after a question fewer may follow, if no token request follows a token response, and none a UserInfo response
  pub rp_fewer_rounds : {A : Type 0} (tokens info : Word → Answered → A) (none asked : A) (answer : Answered) (r next : R)
      → ((w : Word) → asked ≡ tokens w answer → rounds_of (told next) < 2) → ((w : Word) → asked ≡ info w answer → rounds_of (told next) < 1)
      → asked ≡ answered_by tokens info none (told r) answer → message_in (sent r) ≢ None → rounds_of (told next) < rounds_of (told r)
  rp_fewer_rounds tokens info none asked answer r next tokens_end info_ends is question =
      fewer_left tokens info none asked answer (rounds_of (told next)) (told r) tokens_end info_ends is (asks_in_exchange r question)
