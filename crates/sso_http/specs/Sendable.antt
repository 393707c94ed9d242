-- Replies that can be sent: a reader gets back what was written.
use Rattle.std.specs.Prelude.{◌≡◌, ℕ, ◌<◌, ◌≤◌, Bool, true, List, length, Option, Some, None}
use Rattle.std.specs.List.{list_all}
use Rattle.httparse.specs.Grammar.{is_value_byte}
use Rattle.sso_base.specs.declared.http.HttpReply.{HttpReply}

-- the text may be a field value (RFC 9110, 5.5): no byte of it is a control except the tab
abbrev pub is_field_text : List ℕ → Bool
is_field_text text = list_all is_value_byte text

abbrev pub is_field_text_if : Option (List ℕ) → Bool
is_field_text_if None = true
is_field_text_if (Some text) = is_field_text text

-- the status has three digits, the texts may be field values, there are at most 50 cookies, and the length of the body has at
-- most nine digits
pub record IsSendable (r : HttpReply) : Type 0 where
  pub low : 100 ≤ r.status
  pub high : r.status < 1000
  pub location : is_field_text_if r.location ≡ true
  pub cookies : list_all is_field_text r.cookies ≡ true
  pub few : length r.cookies ≤ 50
  pub challenge : is_field_text_if r.challenge ≡ true
  pub short : length r.body < 1000000000
