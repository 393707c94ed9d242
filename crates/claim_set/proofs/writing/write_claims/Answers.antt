use Rattle.std.proofs.Common.{◌≡◌, ap, ◌∙◌, subst, string_bytes, Ok}
use Rattle.std.specs.Str.{IsUtf8}
use Rattle.serde_json.specs.View.{view}
use Rattle.claim_set.proofs.Parsing.{claims_written}
use Rattle.claim_set.proofs.writing.write_claims.Goals as goal

pub returns-clause-reads_back : goal.returns-clause-reads_back
returns-clause-reads_back c =
    let text = c.in_ok-text.text in
    let utf8 : IsUtf8 (string_bytes text) = subst IsUtf8 c.as_str-written.ensures.value c.as_str-written.utf8 in
    let same : c.from_vec.result ≡ string_bytes text = rw (c.from_vec.ensures, c.into_bytes.ensures.value) in
    claims_written (view c.claims.inside.value) c.from_vec.result (string_bytes text) c.claims.invariant utf8 c.in_ok-text.ensures.reads_back same
    ∙ ap Ok c.claims.view_is
