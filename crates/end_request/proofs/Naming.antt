-- A hint of a client names the client, so no key is tried for others.
use Rattle.std.proofs.Common.{◌≡◌, ℕ, Bool, true, false, ◌&&◌, List, Option, Some, Result, Ok, Err, refl, sym, ap, ◌∙◌, inl, inr}
use Rattle.std.specs.Str.{bytes_eq}
use Rattle.std.proofs.lemmas.Bool.{and_parts}
use Rattle.sso_base.specs.Words.{Text}
use Rattle.sso_base.specs.Texts.{has_text}
use Rattle.sso_base.proofs.RowLaws.{bool_cases}
use Rattle.client_registry.specs.declared.records.Client.{Client}
use Rattle.client_keys.specs.Opening.{opening}
use Rattle.id_token.specs.declared.claims.IdClaims.{IdClaims}
use Rattle.id_token.specs.declared.no.IdNo.{IdNo}
use Rattle.id_token.specs.Reading.{audience_in}
use Rattle.id_token.proofs.Audience.{id_read-audience}
use Rattle.end_request.specs.Hints.{id_read_for, is_for, is_hint_for, names, may_be, fits}

named_by : (issuer id hint : Text) (read : Result IdClaims IdNo) → ((x : IdClaims) → read ≡ Ok x → audience_in hint ≡ Some x.aud) → is_for issuer id read ≡ true → names (audience_in hint) id ≡ true
named_by issuer id hint (Ok x) told fit =
    let both = and_parts (bytes_eq x.iss issuer) (has_text id x.aud) fit in
    let N : Option (List Text) → Bool = λ o. names o id in
    ap N (told x refl) ∙ both.1
named_by issuer id hint (Err why) told fit = absurd (cc)

pub hint_names : (issuer hint : Text) (client : Client) → is_hint_for issuer hint client ≡ true → names (audience_in hint) client.id ≡ true
hint_names issuer hint client fit =
    named_by issuer client.id hint (id_read_for client hint) (λ x read. id_read-audience (opening client hint) hint x read) fit

both_false : (b : Bool) → (b && false) ≡ false
both_false true = refl
both_false false = refl

pub unnamed_misses : (issuer : Text) (named : Option ℕ) (hint : Text) (n : ℕ) (client : Client) → names (audience_in hint) client.id ≡ false → fits issuer named hint n client ≡ false
unnamed_misses issuer named hint n client unnamed =
    let M : Bool → Bool = λ b. may_be named n && b in
    elim (bool_cases (is_hint_for issuer hint client)) [
      | inl fit ↦ (let clash : true ≡ false = sym (hint_names issuer hint client fit) ∙ unnamed in absurd (cc))
      | inr misses ↦ ap M misses ∙ both_false (may_be named n)
    ]
