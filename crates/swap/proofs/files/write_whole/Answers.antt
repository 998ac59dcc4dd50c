use Rattle.std.proofs.Common.{◌≡◌, ℕ, ◌+◌, ◌-◌, List, ◌++◌, rules, length, take, drop, sym, ap, ◌∙◌, subst}
use Rattle.std.proofs.lemmas.List.{take_rest}
use Rattle.std.specs.Io.KnownBytes.{Appends}
use Rattle.std.proofs.KnownBytes.{Appends-trans}
use Rattle.std.proofs.Math.Seq.{take-add}
use Rattle.swap.proofs.files.write_whole.Goals as goal

-- n bytes of what stands behind the first d
front_with : (d n : ℕ) (text : List ℕ) → take d text ++ take n (take (length text - d) (drop d text)) ≡ take (d + n) text
front_with d n text = ap (λ l. take d text ++ take n l) (take_rest text d) ∙ sym (take-add d n text)

pub loop-done-preserved : goal.loop-done-preserved
loop-done-preserved g c = record {
  inside = search rules;
  bytes = subst (Appends _ _) (front_with _ _ c.args.text.now) (Appends-trans _ _ _ _ _ c.loop-done.invariant.bytes c.in_ok-more.ensures.bytes);
}
