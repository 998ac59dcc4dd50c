use native.Mathlib.Omega.{arith}
use borrow.Author.Rules.{rules}
use mathlib.Core.Path.{◌≡◌, sym, ◌∙◌}
use Prim.Native.Nat.{◌≤◌}
use Rattle.pool.proofs.ValueLaws.{fits_size}
use Rattle.plans.proofs.RecordVertices.{lead, listed_none, parts_other, parts_listed, listed_below}
use Rattle.plans.proofs.rules.Rules.listed.Goals.{then-is_empty-via-then-is_empty, then-is_empty-via-else-is_empty+then-not-all_filler}
use Rattle.plans.proofs.rules.Rules.listed.Goals as goal

pub returns-then-is_empty : goal.returns-then-is_empty
unfolding lead
returns-then-is_empty c =
    let pool = c.args.self.now.pool in
    let small = fits_size pool c.args.self.now.pool_fits in
    let parts = c.split_at.ensures in
    elim c.then-is_empty.branch [
      | then-is_empty-via-then-is_empty w ↦ let none : c.lead.result ≡ 0 = search rules in listed_none pool c.args.bytes.now small c.told-bytes c.lead.ensures none
      | then-is_empty-via-else-is_empty+then-not-all_filler w ↦
          parts_other pool c.args.bytes.now small c.told-bytes c.lead.ensures parts.front parts.back (sym w.all_filler.ensures ∙ w.if-not-all_filler.true)
    ]

pub returns : goal.returns
unfolding lead
returns c =
    let pool = c.args.self.now.pool in
    let parts = c.split_at.ensures in
    let some : 1 ≤ c.lead.result = search rules in
    parts_listed pool c.args.bytes.now (fits_size pool c.args.self.now.pool_fits) c.told-bytes c.lead.ensures parts.front parts.back
    (sym c.all_filler.ensures ∙ c.if-not-all_filler.false) some

pub invariant_of-result : goal.invariant_of-result
unfolding lead
invariant_of-result c =
    let pool = c.args.self.now.pool in
    let small = fits_size pool c.args.self.now.pool_fits in
    let parts = c.split_at.ensures in
    let some : 1 ≤ c.lead.result = search rules in
    record {
      some = omega (arith, parts.front_len);
      few = omega (arith, parts.front_len);
      below =
          listed_below small
          (parts_listed pool c.args.bytes.now small c.told-bytes c.lead.ensures parts.front parts.back (sym c.all_filler.ensures ∙ c.if-not-all_filler.false) some);
    }
