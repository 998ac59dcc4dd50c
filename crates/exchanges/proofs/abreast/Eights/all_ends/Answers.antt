use mathlib.Core.Path.{◌≡◌, ap, ap₂, sym, ◌∙◌}
use Prim.Native.Nat.{ℕ, ◌+◌}
use native.Mathlib.Nat.{add-zero}
use lib.Bits.{bit_or}
use lib.ListN.{get_or}
use Rattle.pool.specs.Value.{graph_of}
use Rattle.kep.specs.inner.Filling.{ends}
use native.Mathlib.Omega.{arith}
use Rattle.exchanges.proofs.Given.{known_givers}
use Rattle.exchanges.proofs.EightLanes.{ends_3, ends_5, ends_6, ends_7, eight_listed}
use Rattle.exchanges.proofs.abreast.Eights.all_ends.Goals as goal

pub returns : goal.returns
returns c =
    let f = c.args.self.now.filling.now in
    let g = graph_of f.pool in
    let base = c.args.base in
    let m = c.requires.base_of_eight in
    let three = c.args.self.now.three_vertices in
    let lanes = c.requires.lanes in
    let one = known_givers f 1 (omega arith) in
    let two = known_givers f 2 (omega arith) in
    let e0 : get_or c.args.eight 0 0 ≡ ends g (base + 0) = lanes.lane0 ∙ ap (ends g) (sym (add-zero base)) in
    let e3 = ap (bit_or (get_or c.args.eight 3 0)) c.bit_where.ensures ∙ ends_3 g base m three lanes one two in
    let e5 = ap (bit_or (get_or c.args.eight 5 0)) c.bit_where-2.ensures ∙ ends_5 g base m three lanes one two in
    let e6 = ap (bit_or (get_or c.args.eight 6 0)) c.bit_where-3.ensures ∙ ends_6 g base m three lanes one two in
    let e7 = ap₂ (λ (x y : ℕ). bit_or (bit_or (get_or c.args.eight 7 0) x) y) c.bit_where-4.ensures c.bit_where-5.ensures ∙ ends_7 g base m three lanes one two e3 e5 in
    eight_listed (λ j. ends g (base + j)) e0 lanes.lane1 lanes.lane2 e3 lanes.lane4 e5 e6 e7
