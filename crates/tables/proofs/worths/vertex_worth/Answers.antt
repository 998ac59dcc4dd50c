use borrow.Author.Rules.{rules}
use mathlib.Core.Bool.{true, false}
use mathlib.Core.Path.{◌≡◌, refl}
use native.Mathlib.Omega.{arith}
use Rattle.kep.specs.Graph.{is_member}
use Rattle.kep.specs.Sets.{has, set_where}
use Rattle.kep.proofs.Tests.{is_true, is_false, from_true, from_false}
use Rattle.kep.proofs.Vertices.{in_where}
use Rattle.pool.specs.Value.{graph_of}
use Rattle.tables.proofs.worths.vertex_worth.Goals as goal

pub returns-then-has : goal.returns-then-has
returns-then-has c =
    let p = is_member (graph_of c.args.pool) in
    let inside : has (set_where 16 p) c.args.v ≡ true = search rules in
    let member : p c.args.v ≡ true = is_true _ ((in_where 16 p c.args.v).0 (from_true inside)).1 in
    rw member c.member_worth.ensures

pub returns-else-has : goal.returns-else-has
returns-else-has c =
    let p = is_member (graph_of c.args.pool) in
    let outside : has (set_where 16 p) c.args.v ≡ false = search rules in
    let none : p c.args.v ≡ false = is_false _ (λ t. from_false outside ((in_where 16 p c.args.v).1 (omega (arith, c.requires), t))) in
    rw none refl
