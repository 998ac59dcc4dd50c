use mathlib.Core.Path.{sym, ap, ◌∙◌}
use Prim.Native.Nat.{suc}
use lib.Dec.{eqb}
use Rattle.kep.proofs.Trying.{one_tried}
use Rattle.kep.proofs.ByFours.{place_here, place_later}
use Rattle.tables.proofs.fours.Three.place_of.Goals as goal

pub returns-then-self-all : goal.returns-then-self-all
returns-then-self-all c x = sym (place_here c.args.all _ c.if-self-all.true)

pub returns-then-self-all-2 : goal.returns-then-self-all-2
returns-then-self-all-2 c x = sym (place_later c.args.all _ c.if-self-all.false ∙ ap suc (place_here c.args.all _ c.if-self-all-2.true))

pub returns-then-self-all-3 : goal.returns-then-self-all-3
returns-then-self-all-3 c x =
    sym (place_later c.args.all _ c.if-self-all.false ∙ ap suc (place_later c.args.all _ c.if-self-all-2.false ∙ ap suc (place_here c.args.all _ c.if-self-all-3.true)))

pub returns-else-self-all-3 : goal.returns-else-self-all-3
returns-else-self-all-3 c x =
    sym
    (place_later c.args.all _ c.if-self-all.false
    ∙ ap suc (place_later c.args.all _ c.if-self-all-2.false ∙ ap suc (place_later c.args.all _ c.if-self-all-3.false ∙ ap suc (one_tried (λ y. eqb y c.args.all) x))))
