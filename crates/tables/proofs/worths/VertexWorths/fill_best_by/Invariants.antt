use mathlib.Core.Path.{◌≡◌}
use Prim.Native.Nat.{◌≤◌}
use Rattle.kep.specs.Lists.{written_to}
use Rattle.kep.specs.Trying.{tried_over}
use Rattle.kep.specs.computed.Table.{best}
use Rattle.kep.specs.inner.BestFilling.{worth_by, offer}
use Rattle.tables.specs.Calls.{marked}
use Rattle.tables.proofs.worths.VertexWorths.fill_best_by.Given as goal

-- the sets below s are told with the mark, their entries are written, and the parts tried there counted
abbrev pub invariant-loop-s : goal.invariant-loop-s
invariant-loop-s g l =
    let v = worth_by l.self.each l.self.size in
    let m = marked l.exchanges in
    record {
      offered : l.offers ≡ written_to (offer v m) l.s l.initial.offers;
      written : l.table ≡ written_to (best v m) l.s l.initial.table;
      counted : l.tried ≡ tried_over v (best v m) m l.s;
      few : l.marks ≤ l.s;
    }
