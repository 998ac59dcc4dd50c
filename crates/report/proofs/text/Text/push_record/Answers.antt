use mathlib.Core.Bool.{not}
use mathlib.Core.Path.{◌≡◌, ap, subst, ◌∙◌}
use Prim.Native.Nat.{◌<◌}
use native.Mathlib.Omega.{arith}
use lib.Dec.{eqb}
use lib.ListN.{length, take, drop, get_or, length-append}
use Rattle.std.proofs.Common.{rules, tests}
use Rattle.std.proofs.lemmas.Iterator.{YieldsList-from_slice}
use Rattle.std.proofs.lemmas.Iterator.Consumers.{YieldsList-turn, YieldsList-end}
use Rattle.std.proofs.lemmas.Iterator.Search.{YieldsList-from_take_while}
use Rattle.std.proofs.lemmas.List.{at_drop_all, length_push}
use Rattle.plans.specs.Check.{listed, vertices_of}
use Rattle.report.specs.Text.{line_feed, decimal, place_text, places_text, record_line}
use Rattle.report.specs.inner.Writing.{pushed}
use Rattle.report.proofs.Lengths.{kind_short, places_short}
use Rattle.report.proofs.LineLaws.{listed_front, places_next}
use Rattle.report.proofs.Pushing.{then, going_start, going_on, going_end}
use Rattle.report.proofs.text.Text.push_record.Goals as goal

pub loop-place-init : goal.loop-place-init
loop-place-init c =
    let old = c.args.self.now in
    going_start old _ (places_text (vertices_of c.args.bytes.now)) (c.push.ensures ∙ ap (pushed old) c.kind_word.ensures)

pub loop-place-preserved : goal.loop-place-preserved
unfolding vertices_of place_text
loop-place-preserved c =
    let front = take 14 c.args.bytes.now in
    let text = c.loop-place.self in
    let i = length c.loop-place.yielded in
    let place = c.in-Some.place.now in
    let turn = YieldsList-turn (YieldsList-from_take_while {s = c.into_iter-place-iterator.result} _ (λ b. not (eqb b 255)) (YieldsList-from_slice front (cc)) (cc) (cc) (λ x b q k. search (rules, tests))) c.loop-place.yielded _ c.loop-place.yielded_by _ _ c.in-Some.place c.in-Some.is c.next.ensures.steps in
    let next = subst (λ ps. (i < length ps) × (place ≡ get_or ps i place)) (listed_front front) turn in
    let word = then text _ _ c.push-in-loop-place.ensures (c.push_number.ensures ∙ ap (λ n. pushed c.push-in-loop-place.new.self (decimal n)) c.from.ensures) in
    ap (λ k. pushed c.push_number.new.self (places_text (drop k (listed front)))) (length_push c.loop-place.yielded c.in-Some.place)
    ∙ going_on text (place_text place) _ (places_next (listed front) i place next) c.loop-place.invariant word

pub returns : goal.returns
unfolding vertices_of record_line places_text
returns c =
    let front = take 14 c.args.bytes.now in
    let end = YieldsList-end (YieldsList-from_take_while {s = c.into_iter-place-iterator.result} _ (λ b. not (eqb b 255)) (YieldsList-from_slice front (cc)) (cc) (cc) (λ x b q k. search (rules, tests))) c.loop-place.yielded _ c.loop-place.yielded_by _ _ c.in-None.is c.next.ensures.steps in
    let done = at_drop_all places_text (listed front) (length c.loop-place.yielded) (omega (arith, end.1, ap length (listed_front front))) in
    record {
      text = going_end c.args.self.now _ c.loop-place.self line_feed done c.loop-place.invariant c.push-2.ensures;
      short = simp length-append (omega (arith, kind_short (get_or c.args.bytes.now 14 0), places_short 14 c.args.bytes.now (λ i. omega (arith, c.fits-bytes i))));
    }
