use Rattle.std.proofs.Common.{◌≡◌, false, List, ◌++◌, drop}
use Rattle.serde_json.specs.Written.{items_have_float, members_have_float}
use Rattle.serde_json.specs.View.{items_view, members_view}
use Rattle.serde_json.proofs.Views.{Entry}
use Rattle.claim_set.specs.Fitting.{ItemsFit, MembersFit}
use Rattle.claim_set.proofs.values.+fits.Given as goal

abbrev pub invariant-know_items-loop-item : goal.invariant-know_items-loop-item
invariant-know_items-loop-item l = record {
  whole : items_have_float (items_view (drop l.item-index l.item-items)) ≡ false;
  fit : ItemsFit (items_view (drop l.item-index l.item-items)) → ItemsFit (items_view l.items.items);
}

abbrev pub invariant-know_members-loop-name : goal.invariant-know_members-loop-name
invariant-know_members-loop-name l = record {
  done : List Entry;
  parts : l.members.entries ≡ done ++ l.name-iterator;
  whole : members_have_float (members_view l.name-iterator) ≡ false;
  fit : MembersFit (members_view l.name-iterator) → MembersFit (members_view l.members.entries);
}
