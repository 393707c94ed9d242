-- Which scope values cover which.
use Rattle.std.proofs.Common.{◌≡◌, Bool, true, false, not, ◌&&◌, ◌||◌, refl}
use Rattle.oidc_words.specs.declared.scopes.Scopes.{Scopes}
use Rattle.oidc_words.specs.Scopes.{no_scopes, all_scopes, joined, covers}

-- ---- one flag of each

over : (a : Bool) → (a || not a) ≡ true
over true = refl
over false = refl

under : (a : Bool) → (a || true) ≡ true
under true = refl
under false = refl

same_flag : (a b : Bool) → (a || not b) ≡ true → (b || not a) ≡ true → a ≡ b
same_flag true true h g = refl
same_flag true false h g = absurd (cc)
same_flag false true h g = absurd (cc)
same_flag false false h g = refl

through_flag : (a b c : Bool) → (a || not b) ≡ true → (b || not c) ≡ true → (a || not c) ≡ true
through_flag true b c h g = refl
through_flag false true c h g = absurd (cc)
through_flag false false true h g = absurd (cc)
through_flag false false false h g = refl

either_flag : (a b c : Bool) → (c || not (a || b)) ≡ ((c || not a) && (c || not b))
either_flag a b true = refl
either_flag true b false = refl
either_flag false true false = refl
either_flag false false false = refl

-- ---- all flags

pub both_true : (a b : Bool) → (a && b) ≡ true → (a ≡ true) × (b ≡ true)
both_true true true h = (refl, refl)
both_true true false h = absurd (cc)
both_true false b h = absurd (cc)

-- each flag of the second is one of the first
record Over (s t : Scopes) : Type 0 where
  openid : (s.openid || not t.openid) ≡ true
  profile : (s.profile || not t.profile) ≡ true
  email : (s.email || not t.email) ≡ true
  address : (s.address || not t.address) ≡ true
  phone : (s.phone || not t.phone) ≡ true

over_each : (s t : Scopes) → covers s t ≡ true → Over s t
over_each s t h =
    let four = both_true ((s.openid || not t.openid) && (s.profile || not t.profile) && (s.email || not t.email) && (s.address || not t.address)) (s.phone || not t.phone) h in
    let three = both_true ((s.openid || not t.openid) && (s.profile || not t.profile) && (s.email || not t.email)) (s.address || not t.address) four.0 in
    let two = both_true ((s.openid || not t.openid) && (s.profile || not t.profile)) (s.email || not t.email) three.0 in
    let one = both_true (s.openid || not t.openid) (s.profile || not t.profile) two.0 in
    record { openid = one.0; profile = one.1; email = two.1; address = three.1; phone = four.1 }

pub covers_each : (s t : Scopes) → (s.openid || not t.openid) ≡ true → (s.profile || not t.profile) ≡ true → (s.email || not t.email) ≡ true → (s.address || not t.address) ≡ true → (s.phone || not t.phone) ≡ true → covers s t ≡ true
covers_each s t a b c d e = rw (a, b, c, d, e)

pub covers_itself : (s : Scopes) → covers s s ≡ true
covers_itself s = covers_each s s (over s.openid) (over s.profile) (over s.email) (over s.address) (over s.phone)

abbrev made : Bool → Bool → Bool → Bool → Bool → Scopes
made a b c d e = record { openid = a; profile = b; email = c; address = d; phone = e }

made_same : (a b c d e f g h i j : Bool) → a ≡ f → b ≡ g → c ≡ h → d ≡ i → e ≡ j
    → made a b c d e ≡ made f g h i j
made_same a b c d e f g h i j p q r s t = cc

pub covers_same : (s t : Scopes) → covers s t ≡ true → covers t s ≡ true → s ≡ t
covers_same s t h g =
    let there = over_each s t h in
    let back = over_each t s g in
    made_same s.openid s.profile s.email s.address s.phone t.openid t.profile t.email t.address t.phone
    (same_flag s.openid t.openid there.openid back.openid)
    (same_flag s.profile t.profile there.profile back.profile)
    (same_flag s.email t.email there.email back.email)
    (same_flag s.address t.address there.address back.address)
    (same_flag s.phone t.phone there.phone back.phone)

pub covers_through : (s t u : Scopes) → covers s t ≡ true → covers t u ≡ true → covers s u ≡ true
covers_through s t u h g =
    let first = over_each s t h in
    let then = over_each t u g in
    covers_each s u
    (through_flag s.openid t.openid u.openid first.openid then.openid)
    (through_flag s.profile t.profile u.profile first.profile then.profile)
    (through_flag s.email t.email u.email first.email then.email)
    (through_flag s.address t.address u.address first.address then.address)
    (through_flag s.phone t.phone u.phone first.phone then.phone)

pub all_cover : (s : Scopes) → covers all_scopes s ≡ true
all_cover s = refl

pub none_is_covered : (s : Scopes) → covers s no_scopes ≡ true
none_is_covered s = covers_each s no_scopes (under s.openid) (under s.profile) (under s.email) (under s.address) (under s.phone)

shuffled : (p q a b : Bool) → ((p && q) && (a && b)) ≡ ((p && a) && (q && b))
shuffled true true a b = refl
shuffled true false true b = refl
shuffled true false false b = refl
shuffled false q a b = refl

-- five flags, each met by both
shuffled_all : (a b c d e f g h i j : Bool) → (((((a && f) && (b && g)) && (c && h)) && (d && i)) && (e && j)) ≡ (((((a && b) && c) && d) && e) && ((((f && g) && h) && i) && j))
shuffled_all a b c d e f g h i j =
    rw (shuffled a f b g, shuffled (a && b) (f && g) c h, shuffled ((a && b) && c) ((f && g) && h) d i)
    (shuffled (((a && b) && c) && d) (((f && g) && h) && i) e j)

pub covers_either : (s t u : Scopes) → covers u (joined s t) ≡ (covers u s && covers u t)
unfolding joined
covers_either s t u =
    rw (
      either_flag s.openid t.openid u.openid,
      either_flag s.profile t.profile u.profile,
      either_flag s.email t.email u.email,
      either_flag s.address t.address u.address,
      either_flag s.phone t.phone u.phone,
    )
    (shuffled_all
    (u.openid || not s.openid) (u.profile || not s.profile) (u.email || not s.email) (u.address || not s.address) (u.phone || not s.phone)
    (u.openid || not t.openid) (u.profile || not t.profile) (u.email || not t.email) (u.address || not t.address) (u.phone || not t.phone))
