use Rattle.std.proofs.Common.{sym, subst}
use Rattle.refresh_book.specs.declared.renewing.Renewal.{Renewal}
use Rattle.refresh_book.specs.Renewing.{Noted}
use Rattle.refresh_book.proofs.renewing.note_renewal.Goals as goal

pub returns-in-Reused : goal.returns-in-Reused
returns-in-Reused c =
    let N = λ (x : Renewal). Noted c.args.book.now c.end_place.new.self x in
    record {
      noted = subst N (sym c.in-Reused.is) (record {
        families = c.end_place.ensures.families;
        tokens = c.end_place.ensures.tokens;
        accesses = c.end_place.ensures.accesses;
        last_is = c.end_place.ensures.last;
      });
    }
