-- The claim set of a request object fits where the identifier, the issuer and the parameters are in UTF-8.
use Rattle.std.proofs.Common.{ℕ, List, Some, codes, refl}
use Rattle.json.proofs.Printed.Utf8.{IsUtf8-are_ascii}
use Rattle.serde_json.specs.Data.{no_members}
use Rattle.claim_set.specs.Fitting.{ClaimsFit}
use Rattle.claim_set.proofs.Fitting.{ClaimsFit-none, ClaimsFit-put_all, text_fits}
use Rattle.client_registry.specs.declared.records.Client.{Client}
use Rattle.request_params.specs.declared.params.Params.{Params}
use Rattle.request_object.specs.Request.{request_entries, request_members}
use Rattle.request_object.specs.Sealing.{HasTexts}

pub fits-request_members : (client : Client) (issuer : List ℕ) (p : Params) → HasTexts client issuer p → ClaimsFit (request_members client issuer p)
unfolding request_members
fits-request_members client issuer p t =
    ClaimsFit-put_all (request_entries client issuer p) no_members (
      IsUtf8-are_ascii (codes "aud") refl,
      text_fits (Some issuer) t.issuer_text,
      (
        IsUtf8-are_ascii (codes "claims") refl,
        text_fits p.claims t.claims,
        (
          IsUtf8-are_ascii (codes "client_id") refl,
          text_fits p.client_id t.client_id,
          (
            IsUtf8-are_ascii (codes "iss") refl,
            text_fits (Some client.id) t.id,
            (
              IsUtf8-are_ascii (codes "max_age") refl,
              text_fits p.max_age t.max_age,
              (
                IsUtf8-are_ascii (codes "nonce") refl,
                text_fits p.nonce t.nonce,
                (
                  IsUtf8-are_ascii (codes "prompt") refl,
                  text_fits p.prompt t.prompt,
                  (
                    IsUtf8-are_ascii (codes "redirect_uri") refl,
                    text_fits p.redirect_uri t.redirect_uri,
                    (
                      IsUtf8-are_ascii (codes "response_mode") refl,
                      text_fits p.response_mode t.response_mode,
                      (
                        IsUtf8-are_ascii (codes "response_type") refl,
                        text_fits p.response_type t.response_type,
                        (
                          IsUtf8-are_ascii (codes "scope") refl,
                          text_fits p.scope t.scope,
                          (IsUtf8-are_ascii (codes "state") refl, text_fits p.state t.state, tt),
                        ),
                      ),
                    ),
                  ),
                ),
              ),
            ),
          ),
        ),
      ),
    ) ClaimsFit-none
