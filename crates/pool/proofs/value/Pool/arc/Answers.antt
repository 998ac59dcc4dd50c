use borrow.Author.Rules.{rules}
use borrow.Author.Tests.{le-ltb}
use mathlib.Core.Path.{◌≡◌, sym, ◌∙◌}
use native.Mathlib.Omega.{arith}
use lib.ListN.{length, get_or, get_or-eq_default}
use Rattle.pool.specs.Value.{graph_of}
use Rattle.kep.proofs.SetLaws.{not_in_empty}
use Rattle.kep.proofs.Tests.{is_false}
use Rattle.pool.proofs.ValueLaws.{arc_iff}
use Rattle.pool.proofs.value.Pool.arc.Goals as goal

-- nothing is given from a place for which there is no room
pub returns-else-u-lt14 : goal.returns-else-u-lt14
returns-else-u-lt14 c =
    let a = c.args in
    let room : length a.self.gives ≡ 14 = search rules in
    let behind : get_or a.self.gives a.u 0 ≡ 0 = get_or-eq_default a.self.gives 0 {n = a.u} (omega arith) in
    le-ltb a.u 14 c.if-u-lt14.false ∙ sym (is_false ((graph_of a.self).arc a.u a.v) (λ t. not_in_empty a.v (rw behind at ((arc_iff a.self a.u a.v).0 t).2)))
