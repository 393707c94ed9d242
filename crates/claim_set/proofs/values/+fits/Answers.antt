use Rattle.std.proofs.Common.{◌≡◌, ◌∷◌, ◌++◌, List, string_bytes, sym, ap, ◌∙◌, subst, append_assoc, []}
use Rattle.std.specs.Str.{IsUtf8}
use Rattle.std.specs.List.Sorted.{IsStrictlySortedBy}
use Rattle.std.specs.Map.{keys_of}
use Rattle.std.specs.String.{string_cmp}
use Rattle.serde_json.specs.Written.{members_have_float}
use Rattle.serde_json.specs.View.{members_view}
use Rattle.serde_json.proofs.Views.{Entry}
use Rattle.claim_set.specs.Fitting.{MembersFit}
use Rattle.claim_set.proofs.Ordered.{before_later, later_whole}
use Rattle.claim_set.proofs.values.+fits.Goals as goal

pub know_members-loop-name-preserved : goal.know_members-loop-name-preserved
know_members-loop-name-preserved t c =
    let l = c.loop-name in
    let done = l.invariant.done in
    let e : Entry = (c.in-Some.name.now, c.in-Some.member.now) in
    let left = c.next.new.self in
    let all : c.args.members.now.entries ≡ done ++ e ∷ left = l.invariant.parts ∙ ap (λ es. done ++ es) c.in-Some.ensures.steps in
    let before = before_later done e left (subst (λ es. IsStrictlySortedBy string_cmp (keys_of es)) all c.iter-name-items.ensures.ordered) in
    let utf8 : IsUtf8 (string_bytes e.0) = subst IsUtf8 c.as_str-name.ensures.value c.as_str-name.utf8 in
    let F : List Entry → Type 0 = λ es. MembersFit (members_view es) in
    record {
      done = done ++ e ∷ [];
      parts = all ∙ sym (append_assoc done (e ∷ []) left);
      whole = later_whole e left (sym (ap (λ es. members_have_float (members_view es)) c.in-Some.ensures.steps) ∙ l.invariant.whole);
      fit = λ rest. l.invariant.fit (subst F (sym c.in-Some.ensures.steps) (utf8, c.know_value.ensures, before, rest));
    }
