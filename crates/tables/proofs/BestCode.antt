-- What the code that fills the best table works out: the worths of sets, what a set offers, sums that fit.
use mathlib.Core.List.{List}
use mathlib.Core.Path.{◌≡◌, refl, sym, ap, fun_ext, ◌∙◌}
use Prim.Native.Nat.{ℕ, ◌+◌, ◌-◌, ◌^◌, ◌≤◌, ◌<◌}
use native.Mathlib.Nat.{mul-le-mul_right}
use native.Mathlib.Omega.{arith}
use lib.ListN.{length, get_or, set}
use lib.Seq.{get_or-set_same, get_or-set_other}
use borrow.Author.Count.{below_more}
use mathlib.Core.Logic.{inl}
use Rattle.kep.specs.Sets.{has}
use Rattle.kep.proofs.Vertices.{in_with}
use lib.Dec.{T}
use Rattle.pool.specs.declared.value.Pool.{Pool}
use Rattle.kep.specs.Lists.{tabulate}
use Rattle.kep.specs.Graph.{is_member}
use Rattle.kep.specs.Table.{per_member}
use Rattle.pool.specs.Value.{graph_of, weeks_in, most_weeks_waited, pool_fits}
use Rattle.pool.proofs.ValueLaws.{fits_size, fits_weeks}
use Rattle.kep.specs.inner.BestFilling.{Worths, worth_by, mark}
use Rattle.tables.specs.Calls.{worth_in, set_worth}
use Rattle.kep.proofs.SetLaws.{has_below}
use Rattle.kep.proofs.Tables.{length_tabulate, get_d_whole}
use Rattle.kep.proofs.Worth.{counted_le, worth_none, worth_same, worth_le, worth_without}

-- ---- the worths of sets

module _ {size : ℕ} {each : List ℕ} (worths : Worths size each) where
  -- what a set is worth is below the mark
  pub worth_fits : (s : ℕ) → worth_by each size s < mark
  worth_fits s =
      omega (arith, worth_le (λ x. get_or each x 0) size s (2 ^ 26 - 1) (λ x l. omega (arith, worths.small x l)), mul-le-mul_right (2 ^ 26 - 1) worths.few)

  -- the first store: the empty set is worth nothing
  pub worth_first : (table : List ℕ) → 0 < length table → (s : ℕ) → s < 1 → get_or (set table 0 0) s 0 ≡ worth_by each size s
  worth_first table l = below_more (λ s. get_or (set table 0 0) s 0 ≡ worth_by each size s) 0 (λ s none. absurd (omega arith)) (get_or-set_same table 0 0 0 l ∙ sym (worth_none (λ x. get_or each x 0) size))

  -- a set with a vertex above all of its own
  worth_with : {v s : ℕ} → v < size → s < 2 ^ v → worth_by each size (2 ^ v + s) ≡ worth_by each size s + get_or each v 0
  worth_with {v} {s} l below =
      let without : T (has s v) → ⊥ = λ h. omega (arith, has_below v s v below h) in
      let e : 2 ^ v + s - 2 ^ v ≡ s = omega arith in
      rw e at (worth_without (λ x. get_or each x 0) size (2 ^ v + s) v l ((in_with s v v without).1 (inl refl)))

  -- a store, of the set s with v: by the entry of s
  module _ {v s : ℕ} (l : v < size) (below : s < 2 ^ v) (table : List ℕ) (held : (t : ℕ) → t < 2 ^ v + s → get_or table t 0 ≡ worth_by each size t) where
    pub worth_next : get_or table s 0 + get_or each v 0 ≡ worth_by each size (2 ^ v + s)
    worth_next = ap (λ (x : ℕ). x + get_or each v 0) (held s (omega arith)) ∙ sym (worth_with l below)

    pub worth_stored : 2 ^ v + s < length table → (t : ℕ) → t < 2 ^ v + s + 1 → get_or (set table (2 ^ v + s) (get_or table s 0 + get_or each v 0)) t 0 ≡ worth_by each size t
    worth_stored room =
        let k = 2 ^ v + s in
        let x = get_or table s 0 + get_or each v 0 in
        below_more (λ t. get_or (set table k x) t 0 ≡ worth_by each size t) k (λ t less. get_or-set_other table k t x 0 (λ e. omega arith) ∙ held t less) (get_or-set_same table k x 0 room ∙ worth_next)

-- the worths of a pool's vertices
module _ (p : Pool) (fits : T (pool_fits p)) where
  pub worth_most : (x : ℕ) → x < p.size → worth_in p x ≤ per_member + most_weeks_waited
  worth_most x l = omega (arith, counted_le (is_member (graph_of p) x) (per_member + weeks_in p x), fits_weeks p fits x l)

  pub worths_are : Worths p.size (tabulate (worth_in p) 14)
  worths_are = record {
    few = fits_size p fits;
    told = omega (arith, fits_size p fits, length_tabulate (worth_in p) 14);
    small = λ x l. rw (get_d_whole (worth_in p) 14 x (omega (arith, fits_size p fits))) (omega (arith, worth_most x l));
  }

  -- and of sets of them
  pub worth_is : worth_by (tabulate (worth_in p) 14) p.size ≡ set_worth p
  worth_is = fun_ext (λ s. worth_same (λ x. get_or (tabulate (worth_in p) 14) x 0) (worth_in p) p.size s (λ x l. get_d_whole (worth_in p) 14 x (omega (arith, fits_size p fits))))
