-- What trying the parts of s finds, where a marked set offers its worth above the mark and the entries below s are the best: the entry
-- of s, and the number of parts tried.
use mathlib.Core.Bool.{Bool, true, false, ◌&&◌}
use mathlib.Core.Logic.{⊎_elim}
use mathlib.Core.Path.{◌≡◌, refl, sym, ap, ap₂, ◌∙◌}
use Prim.Native.Nat.{ℕ, zero, suc, ◌+◌, ◌-◌, ◌*◌, ◌^◌, ◌≤◌, ◌<◌}
use native.Mathlib.Decide.{dec_lt}
use native.Mathlib.Nat.{le_antisymm}
use native.Mathlib.Numerals.{add-one}
use native.Mathlib.Omega.{arith}
use lib.Bits.{bit_and}
use lib.Dec.{eqb, eqb→eq}
use borrow.Author.Tests.{eq-eqb, ne_eqb}
use Rattle.kep.specs.Sets.{Part, counted, worth_of}
use Rattle.kep.specs.Trying.{falling_parts, tried_of, serves_all, tried, tried_over}
use Rattle.kep.specs.computed.Table.{greatest_of, most, best}
use Rattle.kep.specs.inner.BestFilling.{mark, offer, Tries}
use Rattle.kep.proofs.Tests.{passes?, from_true, is_true, is_false, same_test, eq→eqb}
use Rattle.kep.proofs.Parts.{part_le, part_refl}
use Rattle.kep.proofs.Down.{parts_from, from_step, in_falling}
use Rattle.kep.proofs.Worth.{counted_le, worth_rest}
use Rattle.kep.proofs.Greatest.{greatest_bound, greatest_least}
use Rattle.kep.proofs.BestTable.{best_with, best_choice, best_worth}
use Rattle.kep.proofs.Trying.{tried_yes, tried_same, tried_fit}

-- ---- the number tried at a set

module _ (v entry : ℕ → ℕ) (m : ℕ → Bool) where
  module _ (s : ℕ) where
    pub tried_none : v s ≡ 0 → tried v entry m s ≡ 0
    unfolding tried
    tried_none z = ap {B = ℕ} (λ (b : Bool). elim b [ true ↦ 0 | false ↦ tried_of (serves_all v entry m s) (falling_parts s) ]) (eq-eqb (v s) 0 z)

    tried_some : (v s ≡ 0 → ⊥) → tried v entry m s ≡ tried_of (serves_all v entry m s) (falling_parts s)
    unfolding tried
    tried_some n = ap {B = ℕ} (λ (b : Bool). elim b [ true ↦ 0 | false ↦ tried_of (serves_all v entry m s) (falling_parts s) ]) (ne_eqb (v s) 0 n)

    tried_le : tried v entry m s ≤ s
    unfolding tried
    tried_le = go (eqb (v s) 0)
      where
        go : (b : Bool) → elim b as (λ _. ℕ) [ true ↦ 0 | false ↦ tried_of (serves_all v entry m s) (falling_parts s) ] ≤ s
        go true = omega arith
        go false = tried_fit (serves_all v entry m s) s

  -- and over all sets
  pub over_more : (k : ℕ) → tried_over v entry m (k + 1) ≡ tried_over v entry m k + tried v entry m k
  unfolding tried_over
  over_more k = ap (tried_over v entry m) (add-one k)

  pub over_le : (k : ℕ) → k ≤ 2 ^ 14 → tried_over v entry m k ≤ k * 2 ^ 14
  unfolding tried_over
  over_le zero l = omega arith
  over_le (suc k) l = omega (arith, over_le k (omega arith), tried_le k)

-- ---- by two worths, or two bests, as many where the same parts serve all

module _ (v b v' b' : ℕ → ℕ) (m : ℕ → Bool) where
  pub tried_agree : (s : ℕ) → eqb (v s) 0 ≡ eqb (v' s) 0 → ((t : ℕ) → 0 < t → Part t s → serves_all v b m s t ≡ serves_all v' b' m s t) → tried v b m s ≡ tried v' b' m s
  unfolding tried
  tried_agree s none same =
      ap₂ {C = ℕ} (λ (e : Bool) (k : ℕ). elim e [ true ↦ 0 | false ↦ k ]) none
      (tried_same (serves_all v b m s) (serves_all v' b' m s) (falling_parts s) (λ t i. let (p, h) = (in_falling s t).0 i in same t p h))

  pub over_agree : (k : ℕ) → ((s : ℕ) → s < k → tried v b m s ≡ tried v' b' m s) → tried_over v b m k ≡ tried_over v' b' m k
  unfolding tried_over
  over_agree zero same = refl
  over_agree (suc k) same = ap₂ ◌+◌ (over_agree k (λ s l. same s (omega arith))) (same k (omega arith))

-- only the best of the sets below k is asked for
pub over_same : (v b b' : ℕ → ℕ) (m : ℕ → Bool) (k : ℕ) → ((s : ℕ) → s < k → b s ≡ b' s) → tried_over v b m k ≡ tried_over v b' m k
unfolding serves_all
over_same v b b' m k same =
    over_agree v b v b' m k
    (λ s l. tried_agree v b v b' m s refl (λ t p h. ap (λ (x : ℕ). m t && eqb (v t + x) (v s)) (same (s - t) (omega (arith, part_le h)))))

-- ---- one set

module _ (w : ℕ → ℕ) (n : ℕ) (m : ℕ → Bool) (s : ℕ) where
  abbrev v : ℕ → ℕ
  v t = worth_of w n t

  abbrev entry : ℕ → ℕ
  entry t = best (worth_of w n) m t

  abbrev value : ℕ → ℕ
  value t = offer v m t + entry (s - t)

  -- what a part brings: one that is marked its worth above the mark, with the best of the rest,
  value_marked : {t : ℕ} → 0 < t → Part t s → m t ≡ true → value t ≤ mark + entry s
  unfolding offer
  value_marked {t} p h e = rw e (omega (arith, best_with v m {s = s} {t = t} (record { nonempty = p; marked = from_true e; inside = h })))

  -- any other no more than s is worth,
  value_unmarked : {t : ℕ} → Part t s → m t ≡ false → value t ≤ v s
  unfolding offer
  value_unmarked {t} h e = rw e (omega (arith, worth_rest w n h, best_worth w m n (s - t)))

  -- and so does one that offers less than the mark
  pub value_idle : {t : ℕ} → Part t s → offer v m t < mark → offer v m t + best (worth_of w n) m (s - t) ≤ worth_of w n s
  unfolding offer
  value_idle {t} h less = value_unmarked h (is_false (m t) (λ q. omega (arith, rw (is_true (m t) q) at less)))

  -- it brings all that s is worth, and the mark, where it is marked and serves all
  value_ends : {t : ℕ} → Part t s → eqb (value t) (mark + v s) ≡ serves_all v entry m s t
  unfolding offer serves_all
  value_ends {t} h = go (m t)
    where
      go : (b : Bool) → eqb (v t + counted b mark + entry (s - t)) (mark + v s) ≡ (b && eqb (v t + entry (s - t)) (v s))
      go true =
          same_test (eqb (v t + mark + entry (s - t)) (mark + v s)) (eqb (v t + entry (s - t)) (v s))
          (λ q. eq→eqb (v t + entry (s - t)) (v s) (omega (arith, eqb→eq (v t + mark + entry (s - t)) (mark + v s) q)))
          (λ q. eq→eqb (v t + mark + entry (s - t)) (mark + v s) (omega (arith, eqb→eq (v t + entry (s - t)) (v s) q)))
      go false = ne_eqb (v t + 0 + entry (s - t)) (mark + v s) (λ e. omega (arith, best_worth w m n (s - t), worth_rest w n h))

  -- a marked set serves all its members itself
  module _ (some : 0 < s) (marked : m s ≡ true) where
    whole : entry (s - s) ≡ 0
    unfolding best most
    whole = let e : s - s ≡ 0 = omega arith in ap entry e

    pub marked_best : v s ≡ entry s
    marked_best =
        le_antisymm (omega (arith, best_with v m {s = s} {t = s} (record { nonempty = some; marked = from_true marked; inside = part_refl s }))) (best_worth w m n s)

    pub marked_tried : (v s ≡ 0 → ⊥) → tried v entry m s ≡ 1
    unfolding serves_all falling_parts
    marked_tried n =
        tried_some v entry m s n
        ∙ ap (tried_of (serves_all v entry m s)) (from_step s (part_refl s) some)
        ∙ tried_yes (serves_all v entry m s) s (parts_from (bit_and (s - 1) s) s) (rw marked (eq-eqb (v s + entry (s - s)) (v s) (omega (arith, whole))))

  module _ (f : ℕ → ℕ) (same : (t : ℕ) → 0 < t → Part t s → f t ≡ offer v m t + entry (s - t)) where
    pub value_under : (t : ℕ) → 0 < t → Part t s → f t ≤ mark + v s
    unfolding offer
    value_under t p h = omega (arith, same t p h, counted_le (m t) mark, worth_rest w n h, best_worth w m n (s - t))

    module _ (small : v s < mark) where
      greatest_is : greatest_of f (falling_parts s) - mark ≡ entry s
      unfolding offer
      greatest_is = le_antisymm (omega (arith, most)) (least (dec_lt 0 (entry s)))
        where
          value_le : {t : ℕ} → 0 < t → Part t s → value t ≤ mark + entry s
          value_le {t} p h = ⊎_elim (λ q. value_marked p h (is_true (m t) q)) (λ n. omega (arith, value_unmarked h (is_false (m t) n))) (passes? (m t))

          most : greatest_of f (falling_parts s) ≤ mark + entry s
          most = greatest_least f (falling_parts s) (mark + entry s) (λ t i. let (p, h) = (in_falling s t).0 i in omega (arith, same t p h, value_le p h))

          least : Dec (0 < entry s) → entry s ≤ greatest_of f (falling_parts s) - mark
          least (no z) = omega arith
          least (yes p) =
              let (t, k, e) = best_choice v m p in
              let offered : f t ≡ v t + mark + entry (s - t) = rw (is_true (m t) k.marked) at (same t k.nonempty k.inside) in
              omega (arith, greatest_bound f (falling_parts s) t ((in_falling s t).1 (k.nonempty, k.inside)))

    module _ {most count : ℕ} (h : Tries f (mark + v s) s most count) where
      -- what trying finds is the entry of s,
      pub entry_found : v s < mark → most - mark ≡ entry s
      entry_found small = h.greatest ∙ greatest_is small

      -- and the parts tried
      pub tried_found : (v s ≡ 0 → ⊥) → count ≡ tried v entry m s
      tried_found some =
          h.count
          ∙ tried_same (λ t. eqb (f t) (mark + v s)) (serves_all v entry m s) (falling_parts s)
          (λ t i. let (p, k) = (in_falling s t).0 i in ap (λ (x : ℕ). eqb x (mark + v s)) (same t p k) ∙ value_ends k)
          ∙ sym (tried_some v entry m s some)
