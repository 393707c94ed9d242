use Rattle.std.proofs.Common.{◌≡◌, ◌≤◌, ◌+◌, ◌-◌, length, drop}
use Rattle.std.specs.List.{prefix_len}
use Rattle.sso_http.specs.Blanks.{is_blank}
use Rattle.sso_http.proofs.blanks.without_front.Given as goal

abbrev pub invariant-loop-start : goal.invariant-loop-start
invariant-loop-start l =
    record {
      within : l.start ≤ length l.text;
      front : prefix_len (is_blank l.tabs) l.text ≡ l.start + prefix_len (is_blank l.tabs) (drop l.start l.text);
    }

abbrev pub decreases-loop-start : goal.decreases-loop-start
decreases-loop-start l = length l.text - l.start
