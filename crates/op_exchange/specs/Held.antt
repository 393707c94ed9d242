-- The bytes of the texts that rows of the provider's tables hold because of a request.
use Rattle.std.specs.Prelude.{ℕ, ◌+◌, Bool, nat_le, List, length, Option, Some, None}
use Rattle.sso_base.specs.Words.{Text}
use Rattle.sso_base.specs.Weights.{most_held, text_bytes, texts_bytes}
use Rattle.auth_request.specs.declared.wish.Wish.{Wish}
use Rattle.auth_request.specs.declared.wish.Verdict.{Verdict}
use Rattle.auth_request.specs.declared.wish.Verdict.TheVariants as verdict
use Rattle.op_exchange.specs.declared.ask.OpAsk.{OpAsk}
use Rattle.op_exchange.specs.declared.ask.OpAsk.TheVariants.{Authorize}

-- each text of a list takes one byte more
abbrev pub listed_bytes : List Text → ℕ
listed_bytes texts = texts_bytes texts + length texts

abbrev pub listed_bytes_if : Option (List Text) → ℕ
listed_bytes_if None = 0
listed_bytes_if (Some texts) = listed_bytes texts

-- The row of a turn and that of a code hold all texts of an authorization request, and the row of an access token some of them.
abbrev pub wish_held : Wish → ℕ
wish_held wish =
    length wish.redirect + text_bytes wish.state + text_bytes wish.nonce + listed_bytes_if wish.subs + listed_bytes wish.id_asked
    + listed_bytes wish.info_asked

abbrev pub verdict_held : Verdict → ℕ
verdict_held (verdict.Grant wish) = wish_held wish
verdict_held other = 0

abbrev pub held_bytes : OpAsk → ℕ
held_bytes (Authorize judged browser session) = verdict_held judged
held_bytes other = 0

-- a provider whose history lasts takes no other requests
abbrev pub is_small : OpAsk → Bool
is_small asked = nat_le (held_bytes asked) most_held
