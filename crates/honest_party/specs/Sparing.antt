-- A pair of a party that has nothing to do with a word: it does not draw the word, and its request names no login and no
-- exchange of the word.
use Rattle.std.specs.Prelude.{◌≡◌, ◌<◌, ℕ, false}
use Rattle.sso_base.specs.Words.{Word, is_word, fresh_word}
use Rattle.rp_answer.specs.Past.{RpPair}
use Rattle.rp_answer.specs.Asked.{state_named}
use Rattle.honest_places.specs.Shown.{exchange_named}

pub record Spares (w : Word) (p : RpPair) : Type 0 where
  pub undrawn : (k : ℕ) → k < 4 → fresh_word p.entry.fresh k ≡ w → ⊥
  pub no_login : is_word (state_named p.entry.ask) w ≡ false
  pub no_exchange : is_word (exchange_named p.entry.ask) w ≡ false
