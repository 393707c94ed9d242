-- The claim set of a logout token whose claims are values of their types fits.
use Rattle.std.proofs.Common.{◌<◌, ◌^◌, Some, codes, refl, arith}
use Rattle.json.proofs.Printed.Utf8.{IsUtf8-are_ascii}
use Rattle.serde_json.specs.Data.{no_members}
use Rattle.claim_set.specs.Fitting.{Fits, ClaimsFit}
use Rattle.claim_set.proofs.Fitting.{ClaimsFit-none, ClaimsFit-put_all, text_fits, number_fits, audience_fits}
use Rattle.logout_token.specs.declared.claims.LogoutClaims.{LogoutClaims}
use Rattle.logout_token.specs.LogoutToken.{event_name, events, logout_entries, logout_members}
use Rattle.logout_token.specs.Fitting.{HasTexts}

events_fit : Fits events
events_fit = (IsUtf8-are_ascii event_name refl, tt, tt, tt)

pub fits-logout_members : (x : LogoutClaims) → HasTexts x → x.exp < 2 ^ 40 → x.iat < 2 ^ 40 → ClaimsFit (logout_members x)
unfolding logout_members
fits-logout_members x t e i =
    ClaimsFit-put_all (logout_entries x) no_members (
      IsUtf8-are_ascii (codes "aud") refl,
      audience_fits x.aud t.aud,
      (
        IsUtf8-are_ascii (codes "events") refl,
        (events_fit, omega arith),
        (
          IsUtf8-are_ascii (codes "exp") refl,
          number_fits (Some x.exp) e,
          (
            IsUtf8-are_ascii (codes "iat") refl,
            number_fits (Some x.iat) i,
            (
              IsUtf8-are_ascii (codes "iss") refl,
              text_fits (Some x.iss) t.iss,
              (
                IsUtf8-are_ascii (codes "jti") refl,
                text_fits (Some x.jti) t.jti,
                (IsUtf8-are_ascii (codes "sid") refl, text_fits x.sid t.sid, (IsUtf8-are_ascii (codes "sub") refl, text_fits x.sub t.sub, tt)),
              ),
            ),
          ),
        ),
      ),
    ) ClaimsFit-none
