-- The secrets of clients: those of rows without errors are distinct, and what seals is one of them.
use Rattle.std.proofs.Common.{◌≡◌, ◌||◌, ℕ, Bool, true, false, cond, List, [], ◌∷◌, ◌++◌, Option, Some, None, unwrap_or, refl, sym, ap, ◌∙◌, true≢false}
use Rattle.std.specs.Prelude.{IfSome}
use Rattle.std.specs.List.{AllByRecursion}
use Rattle.std.specs.Str.{bytes_eq}
use Rattle.std.proofs.lemmas.Slice.Eq.{bytes_eq-Decides}
use Rattle.sso_base.specs.Words.{Text}
use Rattle.sso_base.specs.Texts.{has_text}
use Rattle.configuration_rows.specs.Kinds.{is_name}
use Rattle.configuration_rows.specs.declared.kind.Alphabet.TheVariants.{Visible}
use Rattle.client_registry.specs.declared.records.Client.{Client}
use Rattle.client_registry.specs.Secrets.{old_in, secrets, sealing, is_old, has_secret, all_secrets}
use Rattle.client_registry.specs.Configuration.{Configuration}
use Rattle.client_registry.specs.Numbers.{client_at, sealing_in, client_sealing}
use Rattle.client_registry.specs.Registered.{AreApart, IsSecret, IsClient}
use Rattle.client_registry.proofs.Guiltless.{either_false, rows_weaker, Apart}

-- ---- the secrets of all clients are distinct

-- the old secret is another one
abbrev pub IsOther : Text → Option Text → Type 0
IsOther secret old = IfSome old (λ t. bytes_eq secret t ≡ false)

not_among : (t : Text) (ts : List Text) → AllByRecursion (λ u. bytes_eq t u ≡ false) ts → has_text t ts ≡ false
not_among t [] h = refl
not_among t (u ∷ us) h = rw h.0 (not_among t us h.1)

all_joined : (P : Text → Type 0) (ts us : List Text) → AllByRecursion P ts → AllByRecursion P us → AllByRecursion P (ts ++ us)
all_joined P [] us h g = g
all_joined P (t ∷ ts) us h g = (h.0, all_joined P ts us h.1 g)

all_of : (P : Text → Type 0) (ks : List Client) → AllByRecursion (λ k. AllByRecursion P (secrets k)) ks → AllByRecursion P (all_secrets ks)
all_of P [] h = tt
all_of P (k ∷ ks) h = all_joined P (secrets k) (all_secrets ks) h.0 (all_of P ks h.1)

-- neither secret is among the others
with_own : (secret : Text) (o : Option Text) (rest : List Text) → IsOther secret o → AllByRecursion (λ t. (bytes_eq secret t || is_old t o) ≡ false) rest → AreApart rest → AreApart (secret ∷ (old_in o ++ rest))
with_own secret None rest other all apart =
    (not_among secret rest (rows_weaker (λ t. (bytes_eq secret t || false) ≡ false) (λ t. bytes_eq secret t ≡ false) rest (λ t h. (either_false (bytes_eq secret t) false h).0) all), apart)
with_own secret (Some old) rest other all apart = (
  not_among secret (old ∷ rest) (other, rows_weaker (λ t. (bytes_eq secret t || bytes_eq old t) ≡ false) (λ t. bytes_eq secret t ≡ false) rest (λ t h. (either_false (bytes_eq secret t) (bytes_eq old t) h).0) all),
  (not_among old rest (rows_weaker (λ t. (bytes_eq secret t || bytes_eq old t) ≡ false) (λ t. bytes_eq old t ≡ false) rest (λ t h. (either_false (bytes_eq secret t) (bytes_eq old t) h).1) all), apart),
)

pub secrets_list : (ks : List Client) → Apart secrets has_secret ks → AllByRecursion (λ (k : Client). IsOther k.secret k.old_secret) ks → AreApart (all_secrets ks)
secrets_list [] h others = tt
secrets_list (k ∷ ks) h others =
    with_own k.secret k.old_secret (all_secrets ks) others.0 (all_of (λ t. has_secret t k ≡ false) ks h.0) (secrets_list ks h.1 others.1)

-- ---- what seals

-- what holds of each secret holds of the one that seals
chosen : (P : Text → Type 0) (old : Bool) (secret : Text) (o : Option Text) → P secret → IfSome o P → P (cond old (unwrap_or o secret) secret)
chosen P true secret None h g = h
chosen P true secret (Some t) h g = g
chosen P false secret o h g = h

pub of_sealing : (P : Text → Type 0) (k : Client) → P k.secret → IfSome k.old_secret P → P (sealing k)
of_sealing P k h g = chosen P k.seals_old k.secret k.old_secret h g

-- it has from 32 to 128 characters of visible ASCII
pub sealing_is_secret : (k : Client) → IsClient k → IsSecret (sealing k)
sealing_is_secret k r = of_sealing IsSecret k (record { name = r.secret; long = r.long_secret }) r.old_secret

pub sealing_named : (k : Client) → IsClient k → is_name Visible 0 128 (sealing k) ≡ true
sealing_named k r = (sealing_is_secret k r).name

-- it is a secret of the client
or_first : (a b : Bool) → a ≡ true → (a || b) ≡ true
or_first true b h = refl
or_first false b h = absurd (true≢false (sym h))

or_second : (a b : Bool) → b ≡ true → (a || b) ≡ true
or_second true b h = refl
or_second false b h = h

same : (t : Text) → bytes_eq t t ≡ true
same t = (bytes_eq-Decides t t).1 refl

old_is_own : (secret : Text) (o : Option Text) → IfSome o (λ t. (bytes_eq secret t || is_old t o) ≡ true)
old_is_own secret None = tt
old_is_own secret (Some old) = or_second (bytes_eq secret old) (bytes_eq old old) (same old)

pub seals_with_its_own : (k : Client) → has_secret (sealing k) k ≡ true
seals_with_its_own k = of_sealing (λ t. has_secret t k ≡ true) k (or_first (bytes_eq k.secret k.secret) (is_old k.secret k.old_secret) (same k.secret)) (old_is_own k.secret k.old_secret)

-- so what seals for the client with a number is a secret of that client
pub sealing_own : (c : Configuration) (n : ℕ) (k : Client) → client_at c n ≡ Some k → has_secret (client_sealing c n) k ≡ true
sealing_own c n k is =
    let key : client_sealing c n ≡ sealing k = ap sealing_in is in
    ap (λ t. has_secret t k) key ∙ seals_with_its_own k
