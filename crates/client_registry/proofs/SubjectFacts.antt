-- Subjects are ASCII of 1 to 255 bytes.
use Rattle.std.proofs.Common.{◌≡◌, ◌<◌, ◌==◌, ◌&&◌, ◌||◌, ℕ, Bool, true, false, cond, List, [], ◌∷◌, ◌++◌, length, map, nat_le, nat_lt, get_or, refl, sym, ap, arith, true≢false}
use Rattle.std.specs.List.{list_all, AllByRecursion}
use Rattle.std.specs.Str.{IsAscii}
use Rattle.std.proofs.lemmas.Bool.{leb-true, le-leb, ltb-true}
use Rattle.std.proofs.lemmas.Bool.Decides.{nat_tests}
use Rattle.base64.specs.Engines.{url_safe_no_pad}
use Rattle.base64.proofs.EngineFacts.{IsAscii-encode_of}
use Rattle.sha2.specs.Sha256.{sha256}
use Rattle.sha2.proofs.Facts256.{length-sha256}
use Rattle.sso_base.specs.Base64Url.{b64u}
use Rattle.sso_base.specs.Texts.{is_ascii}
use Rattle.sso_base.proofs.Spelling.{at_each, length-b64u_32}
use Rattle.configuration_rows.specs.declared.kind.Alphabet.TheVariants.{UserId}
use Rattle.configuration_rows.specs.Kinds.{is_lower, is_digit, allows, is_within, is_name}
use Rattle.client_registry.specs.declared.records.User.{User}
use Rattle.client_registry.specs.declared.records.Client.{Client}
use Rattle.client_registry.specs.Rules.{sector_of, pairwise_subject, subjects_at}
use Rattle.client_registry.specs.Registered.{IsUser, IsSubject}

module _ {R : Type 0} where
  either : (a b : Bool) → (a ≡ true → R) → (b ≡ true → R) → (a || b) ≡ true → R
  either true b f g h = f refl
  either false b f g h = g h

both : (a b : Bool) → (a && b) ≡ true → (a ≡ true) × (b ≡ true)
both true b h = (refl, h)
both false b h = absurd (true≢false (sym h))

upto : (b least most : ℕ) → most < 128 → (nat_le least b && nat_le b most) ≡ true → b < 128
upto b least most less h = omega (arith, less, leb-true b most (both (nat_le least b) (nat_le b most) h).1)

same : (b n : ℕ) → n < 128 → (b == n) ≡ true → b < 128
same b n less h = let is : b ≡ n = grind (arith, nat_tests, h) in omega (arith, less, is)

pub user_id_byte : (b : ℕ) → allows UserId b ≡ true → b < 128
user_id_byte b h =
    either ((((is_lower b || is_digit b) || b == 46) || b == 95) || b == 64) (b == 45)
    (either (((is_lower b || is_digit b) || b == 46) || b == 95) (b == 64)
    (either ((is_lower b || is_digit b) || b == 46) (b == 95)
    (either (is_lower b || is_digit b) (b == 46)
    (either (is_lower b) (is_digit b) (upto b 97 122 (omega arith)) (upto b 48 57 (omega arith)))
    (same b 46 (omega arith)))
    (same b 95 (omega arith)))
    (same b 64 (omega arith)))
    (same b 45 (omega arith)) h

small : (t : List ℕ) → list_all (allows UserId) t ≡ true → is_ascii t ≡ true
small [] h = refl
small (b ∷ t) h =
    let halves : (allows UserId b ≡ true) × (list_all (allows UserId) t ≡ true) = both (allows UserId b) (list_all (allows UserId) t) h in
    let here : nat_lt b 128 ≡ true = grind (arith, nat_tests, user_id_byte b halves.0) in
    rw here (small t halves.1)

ascii_of : (t : List ℕ) → list_all (allows UserId) t ≡ true → IsAscii t
ascii_of t h = λ i. ltb-true (get_or t i 0) 128 (at_each (λ b. nat_lt b 128) t i refl (small t h))

within_more : (n : ℕ) → is_within 1 64 n ≡ true → is_within 1 255 n ≡ true
within_more n h =
    let halves : (nat_le 1 n ≡ true) × (nat_le n 64 ≡ true) = both (nat_le 1 n) (nat_le n 64) h in
    let most : nat_le n 255 ≡ true = le-leb n 255 (omega (arith, leb-true n 64 halves.1)) in
    rw (halves.0, most)

pub user_id_is_subject : (t : List ℕ) → is_name UserId 1 64 t ≡ true → IsSubject t
user_id_is_subject t h =
    let halves : (is_within 1 64 (length t) ≡ true) × (list_all (allows UserId) t ≡ true) = both (is_within 1 64 (length t)) (list_all (allows UserId) t) h in
    record { within = within_more (length t) halves.0; ascii = ascii_of t halves.1 }

pub pairwise_is_subject : (salt sector id : List ℕ) → IsSubject (pairwise_subject salt sector id)
unfolding pairwise_subject b64u
pairwise_is_subject salt sector id =
    let m : List ℕ = sector ++ 0 ∷ (id ++ 0 ∷ salt) in
    record {
      within = ap (is_within 1 255) (length-b64u_32 (sha256 m) (length-sha256 m));
      ascii = IsAscii-encode_of url_safe_no_pad (sha256 m);
    }

subject_at : (b : Bool) (s t : List ℕ) → IsSubject s → IsSubject t → IsSubject (cond b s t)
subject_at true s t p q = p
subject_at false s t p q = q

pub row_of_subjects : (salt : List ℕ) (k : Client) (users : List User) → AllByRecursion IsUser users → AllByRecursion IsSubject (subjects_at salt users k)
row_of_subjects salt k [] h = tt
row_of_subjects salt k (u ∷ users) h = (
  subject_at k.pairwise (pairwise_subject salt (sector_of k.redirect_urls) u.id) u.id (pairwise_is_subject salt (sector_of k.redirect_urls) u.id) (user_id_is_subject u.id h.0.id),
  row_of_subjects salt k users h.1,
)

pub rows_of_subjects : (salt : List ℕ) (users : List User) (clients : List Client) → AllByRecursion IsUser users → AllByRecursion (AllByRecursion IsSubject) (map (subjects_at salt users) clients)
rows_of_subjects salt users [] h = tt
rows_of_subjects salt users (k ∷ clients) h = (row_of_subjects salt k users h, rows_of_subjects salt users clients h)
