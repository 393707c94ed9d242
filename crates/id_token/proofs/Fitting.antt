-- The claim set of an ID Token whose claims are values of their types fits.
use Rattle.std.proofs.Common.{◌≡◌, ◌<◌, ◌^◌, ◌&&◌, ℕ, List, Bool, true, false, Some, length, nat_le, codes, refl}
use Rattle.std.specs.Prelude.{IfSome, IsTrue}
use Rattle.std.specs.Str.{IsUtf8}
use Rattle.json.proofs.Printed.Utf8.{IsUtf8-are_ascii}
use Rattle.sso_base.specs.Texts.{is_ascii}
use Rattle.claim_set.specs.Fitting.{ClaimsFit}
use Rattle.claim_set.proofs.Fitting.{ClaimsFit-put_all, text_fits, number_fits, audience_fits}
use Rattle.id_token.specs.declared.claims.IdClaims.{IdClaims}
use Rattle.id_token.specs.Claims.{id_entries, id_members, is_subject}
use Rattle.id_token.specs.Sealing.{HasTexts}

both : (a b : Bool) → (a && b) ≡ true → (a ≡ true) × (b ≡ true)
both true true h = (refl, refl)
both true false h = absurd (cc)
both false b h = absurd (cc)

subject_is_utf8 : (s : List ℕ) → IsTrue (is_subject s) → IsUtf8 s
subject_is_utf8 s h = IsUtf8-are_ascii s (both (nat_le 1 (length s) && nat_le (length s) 255) (is_ascii s) h).1

pub fits-id_members : (x : IdClaims) → HasTexts x → IsTrue (is_subject x.sub) → x.exp < 2 ^ 40 → x.iat < 2 ^ 40 → IfSome x.auth_time (λ n. n < 2 ^ 40) → ClaimsFit (id_members x)
unfolding id_members
fits-id_members x t s e i a =
    ClaimsFit-put_all (id_entries x) x.more (
      IsUtf8-are_ascii (codes "at_hash") refl,
      text_fits x.at_hash t.at_hash,
      (
        IsUtf8-are_ascii (codes "aud") refl,
        audience_fits x.aud t.aud,
        (
          IsUtf8-are_ascii (codes "auth_time") refl,
          number_fits x.auth_time a,
          (
            IsUtf8-are_ascii (codes "azp") refl,
            text_fits x.azp t.azp,
            (
              IsUtf8-are_ascii (codes "c_hash") refl,
              text_fits x.c_hash t.c_hash,
              (
                IsUtf8-are_ascii (codes "exp") refl,
                number_fits (Some x.exp) e,
                (
                  IsUtf8-are_ascii (codes "iat") refl,
                  number_fits (Some x.iat) i,
                  (
                    IsUtf8-are_ascii (codes "iss") refl,
                    text_fits (Some x.iss) t.iss,
                    (
                      IsUtf8-are_ascii (codes "nonce") refl,
                      text_fits x.nonce t.nonce,
                      (
                        IsUtf8-are_ascii (codes "sid") refl,
                        text_fits x.sid t.sid,
                        (IsUtf8-are_ascii (codes "sub") refl, text_fits (Some x.sub) (subject_is_utf8 x.sub s), tt),
                      ),
                    ),
                  ),
                ),
              ),
            ),
          ),
        ),
      ),
    ) t.more
