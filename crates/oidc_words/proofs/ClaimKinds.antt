-- The standard claims are those that have a kind.
use Rattle.std.proofs.Common.{◌≡◌, ℕ, Bool, true, false, cond, List, codes, Some, None, is_some, refl, sym}
use Rattle.oidc_words.specs.declared.claims.ClaimKind.TheVariants.{Text, Flag, Seconds, Address}
use Rattle.oidc_words.specs.Words.{is_one_of}
use Rattle.oidc_words.specs.Claims.{profile_claims, email_claims, address_claims, phone_claims, flag_claims, seconds_claims, is_claim_of, is_standard_claim, kind_of}
use Rattle.oidc_words.proofs.Asking.{at_name}

flag_is_standard : (k : List ℕ) → is_one_of flag_claims k ≡ true → is_standard_claim k ≡ true
unfolding flag_claims is_claim_of profile_claims email_claims address_claims phone_claims
flag_is_standard k h = at_name (λ n. is_standard_claim n ≡ true) flag_claims k (refl, (refl, tt)) h

seconds_are_standard : (k : List ℕ) → is_one_of seconds_claims k ≡ true → is_standard_claim k ≡ true
unfolding seconds_claims is_claim_of profile_claims email_claims address_claims phone_claims
seconds_are_standard k h = at_name (λ n. is_standard_claim n ≡ true) seconds_claims k (refl, tt) h

address_is_standard : (k : List ℕ) → is_one_of address_claims k ≡ true → is_standard_claim k ≡ true
unfolding is_claim_of profile_claims email_claims address_claims phone_claims
address_is_standard k h = at_name (λ n. is_standard_claim n ≡ true) address_claims k (refl, tt) h

kind_at : (p q r s : Bool) → (p ≡ true → s ≡ true) → (q ≡ true → s ≡ true) → (r ≡ true → s ≡ true)
    → is_some (cond p (Some Flag) (cond q (Some Seconds) (cond r (Some Address) (cond s (Some Text) None)))) ≡ s
kind_at true q r s f g h = sym (f refl)
kind_at false true r s f g h = sym (g refl)
kind_at false false true s f g h = sym (h refl)
kind_at false false false true f g h = refl
kind_at false false false false f g h = refl

pub has_kind : (k : List ℕ) → is_some (kind_of k) ≡ is_standard_claim k
has_kind k =
    kind_at (is_one_of flag_claims k) (is_one_of seconds_claims k) (is_one_of address_claims k) (is_standard_claim k)
    (flag_is_standard k) (seconds_are_standard k) (address_is_standard k)

pub sub_has_none : kind_of (codes "sub") ≡ None
unfolding flag_claims seconds_claims is_claim_of profile_claims email_claims address_claims phone_claims
sub_has_none = refl
