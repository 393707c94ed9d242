-- What was passed on to the inner core: its moment, its words and its weight.
use Rattle.std.proofs.Common.{◌≡◌, ◌≤◌, ℕ, ◌+◌, List, length, Option, Some, None, refl, ap, sym, subst, arith}
use Rattle.sso_base.specs.Words.{Word}
use Rattle.sso_base.specs.Weights.{empty_weight}
use Rattle.sso_base.specs.declared.history.Pair.{Pair}
use Rattle.core_stack.proofs.Same.{some_same}
use Rattle.signout_answer.specs.declared.asks.EndAsk.{EndAsk}
use Rattle.signout_answer.specs.declared.asks.EndAsk.TheVariants as ask
use Rattle.signout_answer.specs.declared.asks.EndReply.{EndReply}
use Rattle.signout_answer.specs.declared.asks.EndReply.TheVariants as reply
use Rattle.signout_answer.specs.declared.parts.OwnReply.{OwnReply}
use Rattle.signout_answer.specs.declared.parts.OwnReply.TheVariants as own
use Rattle.signout_answer.specs.declared.parts.EndParts.{EndParts}
use Rattle.signout_answer.specs.declared.parts.EndParts.TheVariants as parts
use Rattle.signout_answer.specs.Around.{Outer, pair_inside, passed_by, passed, ask_around, around, own_reply, own_pair, end_weight}

low_same : (a : ℕ) → a ≤ a
low_same a = omega arith

module _ {A R : Type 0} where
  -- ---- what is kept of an entry says whether it was passed on

  own_is_none : (at : ℕ) (fresh : List Word) (asked : EndAsk A) (r : OwnReply) → ◌≡◌ {A = Option (Pair A R)} (passed_by at fresh asked (own_reply r)) None
  own_is_none at fresh (ask.Start form session) r = refl
  own_is_none at fresh (ask.Through a) (own.Sure w) = refl
  own_is_none at fresh (ask.Through a) (own.Wrong why) = refl
  own_is_none at fresh (ask.Through a) own.Kept = refl
  own_is_none at fresh (ask.Through a) own.Stale = refl
  own_is_none at fresh (ask.Through a) own.Full = refl
  own_is_none at fresh (ask.Confirm word agree session a) (own.Sure w) = refl
  own_is_none at fresh (ask.Confirm word agree session a) (own.Wrong why) = refl
  own_is_none at fresh (ask.Confirm word agree session a) own.Kept = refl
  own_is_none at fresh (ask.Confirm word agree session a) own.Stale = refl
  own_is_none at fresh (ask.Confirm word agree session a) own.Full = refl

  pub own_is_not_passed : (o : Pair (EndAsk A) OwnReply) → ◌≡◌ {A = Option (Pair A R)} (passed (own_pair o)) None
  own_is_not_passed o = own_is_none o.entry.at o.entry.fresh o.entry.ask o.reply

  pub around_is_passed : (p : EndParts) (q : Pair A R) → passed (around p q) ≡ Some q
  around_is_passed parts.Through q = refl
  around_is_passed (parts.Gone word agree session back) q = refl

  -- ---- the moment and the weight

  passed_at : (at : ℕ) (fresh : List Word) (asked : EndAsk A) (told : EndReply R) (q : Pair A R) → passed_by at fresh asked told ≡ Some q → q.entry.at ≡ at
  passed_at at fresh (ask.Through a) (reply.Through r) q is =
      let F : Pair A R → ℕ = λ x. x.entry.at in
      ap F (sym (some_same (pair_inside at fresh a r) q is))
  passed_at at fresh (ask.Confirm word agree session a) (reply.Gone back r) q is =
      let F : Pair A R → ℕ = λ x. x.entry.at in
      ap F (sym (some_same (pair_inside at fresh a r) q is))
  passed_at at fresh asked told q is = absurd (cc)

  pub passed_moment : (p : Outer A R) (q : Pair A R) → passed p ≡ Some q → q.entry.at ≡ p.entry.at
  passed_moment p q is = passed_at p.entry.at p.entry.fresh p.entry.ask p.reply q is

  module _ (weighs : A → ℕ) where
    passed_weighs : (at : ℕ) (fresh : List Word) (asked : EndAsk A) (told : EndReply R) (q : Pair A R) → passed_by at fresh asked told ≡ Some q → weighs q.entry.ask ≤ end_weight weighs asked
    passed_weighs at fresh (ask.Through a) (reply.Through r) q is =
        let L : Pair A R → Type 0 = λ x. weighs x.entry.ask ≤ weighs a in
        subst L (some_same (pair_inside at fresh a r) q is) (low_same (weighs a))
    passed_weighs at fresh (ask.Confirm word agree session a) (reply.Gone back r) q is =
        let L : Pair A R → Type 0 = λ x. weighs x.entry.ask ≤ weighs a in
        subst L (some_same (pair_inside at fresh a r) q is) (low_same (weighs a))
    passed_weighs at fresh asked told q is = absurd (cc)

    pub passed_weight : (p : Outer A R) (q : Pair A R) → passed p ≡ Some q → weighs q.entry.ask ≤ end_weight weighs p.entry.ask
    passed_weight p q is = passed_weighs p.entry.at p.entry.fresh p.entry.ask p.reply q is

-- a request that is passed on weighs what the inner core's request weighs
pub around_weighs : {A : Type 0} (weighs : A → ℕ) (p : EndParts) (asked : A) → end_weight weighs (ask_around p asked) ≡ weighs asked
around_weighs weighs parts.Through asked = refl
around_weighs weighs (parts.Gone word agree session back) asked = refl

form_weighs : (n : ℕ) → 1024 ≤ 1024 + n
form_weighs n = omega arith

-- no request weighs less than one that holds no texts
pub least_outer : {A : Type 0} (weighs : A → ℕ) → ((asked : A) → empty_weight ≤ weighs asked) → (asked : EndAsk A) → empty_weight ≤ end_weight weighs asked
least_outer weighs least (ask.Through a) = least a
least_outer weighs least (ask.Start form session) = form_weighs (length form)
least_outer weighs least (ask.Confirm word agree session a) = least a
