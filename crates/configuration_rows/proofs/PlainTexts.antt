-- URLs and the ids of clients are texts of printable ASCII.
use Rattle.std.proofs.Common.{◌≡◌, ◌≤◌, ◌<◌, ◌==◌, ◌&&◌, ◌||◌, ℕ, Bool, true, false, List, nat_le, nat_lt, refl, arith}
use Rattle.std.specs.List.{list_all}
use Rattle.std.proofs.lemmas.Bool.{leb-true, le-leb, ltb-true, lt-ltb}
use Rattle.std.proofs.lemmas.Bool.Decides.{nat_tests}
use Rattle.registered_url.specs.Rule.{is_visible}
use Rattle.configuration_rows.specs.declared.kind.Alphabet.TheVariants.{ClientId}
use Rattle.configuration_rows.specs.Kinds.{is_upper, is_lower, is_digit, allows}
use Rattle.sso_base.proofs.Spelling.{both_true}
use Rattle.claim_set.proofs.PlainTexts.{is_printable, is_plain, plain_by}

between : (b : ℕ) → 32 ≤ b → b < 128 → is_printable b ≡ true
between b low high = rw (le-leb 32 b low, lt-ltb b 128 high)

visible_byte : (b : ℕ) → is_visible b ≡ true → is_printable b ≡ true
visible_byte b h =
    let parts = both_true (nat_lt 32 b) (nat_lt b 127) h in
    let low = ltb-true 32 b parts.0 in
    let high = ltb-true b 127 parts.1 in
    between b (omega (arith, low)) (omega (arith, high))

pub visible_are_plain : (t : List ℕ) → list_all is_visible t ≡ true → is_plain t ≡ true
visible_are_plain t h = plain_by is_visible visible_byte t h

module _ {R : Type 0} where
  either : (a b : Bool) → (a ≡ true → R) → (b ≡ true → R) → (a || b) ≡ true → R
  either true b f g h = f refl
  either false b f g h = g h

within : (b least most : ℕ) → 32 ≤ least → most < 128 → (nat_le least b && nat_le b most) ≡ true → is_printable b ≡ true
within b least most low high h =
    let parts = both_true (nat_le least b) (nat_le b most) h in
    let above = leb-true least b parts.0 in
    let below = leb-true b most parts.1 in
    between b (omega (arith, low, above)) (omega (arith, high, below))

same : (b n : ℕ) → 32 ≤ n → n < 128 → (b == n) ≡ true → is_printable b ≡ true
same b n low high h = let is : b ≡ n = grind (arith, nat_tests, h) in between b (omega (arith, low, is)) (omega (arith, high, is))

client_id_byte : (b : ℕ) → allows ClientId b ≡ true → is_printable b ≡ true
client_id_byte b h =
    either (((((is_upper b || is_lower b) || is_digit b) || b == 46) || b == 95) || b == 126) (b == 45)
    (either ((((is_upper b || is_lower b) || is_digit b) || b == 46) || b == 95) (b == 126)
    (either (((is_upper b || is_lower b) || is_digit b) || b == 46) (b == 95)
    (either ((is_upper b || is_lower b) || is_digit b) (b == 46)
    (either (is_upper b || is_lower b) (is_digit b)
    (either (is_upper b) (is_lower b) (within b 65 90 (omega arith) (omega arith)) (within b 97 122 (omega arith) (omega arith)))
    (within b 48 57 (omega arith) (omega arith)))
    (same b 46 (omega arith) (omega arith)))
    (same b 95 (omega arith) (omega arith)))
    (same b 126 (omega arith) (omega arith)))
    (same b 45 (omega arith) (omega arith)) h

pub client_id_is_plain : (t : List ℕ) → list_all (allows ClientId) t ≡ true → is_plain t ≡ true
client_id_is_plain t h = plain_by (allows ClientId) client_id_byte t h
