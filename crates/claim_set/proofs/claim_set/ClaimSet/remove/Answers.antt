use Rattle.std.proofs.Common.{ap, ◌∙◌}
use Rattle.serde_json.specs.View.{members_view}
use Rattle.serde_json.proofs.Views.{view-Object}
use Rattle.claim_set.specs.Claims.{members_in, without}
use Rattle.claim_set.proofs.Puts.{members_of_object}
use Rattle.claim_set.proofs.Lookups.{IsClaims-without, members_view-remove_entry}
use Rattle.claim_set.proofs.claim_set.ClaimSet.remove.Goals as goal

pub invariant_of-self : goal.invariant_of-self
invariant_of-self c =
    let left = ap members_view c.remove.ensures.entries ∙ members_view-remove_entry c.args.name.now c.in-Some.map.now.entries in
    IsClaims-without _ _ _ _ c.args.name.now c.self.invariant c.in-Some.ensures.value left (view-Object c.remove.new.self)

pub returns : goal.returns
returns c =
    let k = c.args.name.now in
    let left = ap members_view c.remove.ensures.entries ∙ members_view-remove_entry k c.in-Some.map.now.entries in
    let old = members_of_object _ _ c.in-Some.ensures.value ∙ c.self.view_is in
    ap members_in (view-Object c.remove.new.self) ∙ left ∙ ap (without k) old
