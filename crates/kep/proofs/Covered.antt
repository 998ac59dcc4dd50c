-- A set is served whole where a family of marked parts leaves out no vertex that is worth anything. So the number of parts tried is
-- the same for any two worths by which the same vertices are worth nothing.
use mathlib.Core.Bool.{Bool, true, false, ◌&&◌}
use mathlib.Core.List.{List, [], ◌∷◌}
use mathlib.Core.Logic.{◌↔◌}
use mathlib.Core.Path.{◌≡◌, refl, ap}
use Prim.Native.Nat.{ℕ, zero, suc, ◌+◌, ◌-◌, ◌<◌}
use native.Mathlib.Omega.{arith}
use lib.Dec.{T, eqb, eqb→eq}
use Rattle.kep.specs.Lists.{total}
use Rattle.kep.specs.Sets.{Part, counted, has, worth_of}
use Rattle.kep.specs.Table.{Family}
use Rattle.kep.specs.Trying.{serves_all, tried_over}
use Rattle.kep.specs.computed.Table.{best}
use Rattle.kep.proofs.Tests.{same_test, eq→eqb}
use Rattle.kep.proofs.Worth.{worth_rest}
use Rattle.kep.proofs.BestTable.{family_first, family_rest, best_attained, best_bound, best_worth}
use Rattle.kep.proofs.BestFilling.{tried_agree, over_agree}

-- what a family leaves of a set, whatever the worth
family_leaves : {m : ℕ → Bool} (n s : ℕ) (ts : List ℕ) → Family m s ts → (r : ℕ) × ((w : ℕ → ℕ) → total (worth_of w n) ts + worth_of w n r ≡ worth_of w n s)
unfolding total
family_leaves n s [] f = (s, λ w. omega arith)
family_leaves n s (t ∷ ts) f =
    let (r, e) = family_leaves n (s - t) ts (family_rest f) in
    (r, λ w. omega (arith, e w, worth_rest w n (family_first f).inside))

-- what is worth nothing by one worth is worth nothing by the other
worthless : (w w' : ℕ → ℕ) (n s : ℕ) → ((x : ℕ) → x < n → w x ≡ 0 → w' x ≡ 0) → worth_of w n s ≡ 0 → worth_of w' n s ≡ 0
unfolding worth_of
worthless w w' zero s none z = refl
worthless w w' (suc n) s none z = go (has s n) z (worthless w w' n s (λ x l. none x (omega arith)))
  where
    go : (b : Bool) → worth_of w n s + counted b (w n) ≡ 0 → (worth_of w n s ≡ 0 → worth_of w' n s ≡ 0) → worth_of w' n s + counted b (w' n) ≡ 0
    go true z ih = omega (arith, ih (omega arith), none n (omega arith) (omega arith))
    go false z ih = omega (arith, ih (omega arith))

whole : (w w' : ℕ → ℕ) (n : ℕ) → ((x : ℕ) → x < n → w x ≡ 0 → w' x ≡ 0) → (m : ℕ → Bool) (s : ℕ) → best (worth_of w n) m s ≡ worth_of w n s → best (worth_of w' n) m s ≡ worth_of w' n s
whole w w' n none m s e =
    let (ts, family, worth) = best_attained (worth_of w n) m s in
    let (r, left) = family_leaves n s ts family in
    let z : worth_of w' n r ≡ 0 = worthless w w' n r none (omega (arith, left w)) in
    omega (arith, left w', best_bound (worth_of w' n) m family, best_worth w' m n s)

module _ (w w' : ℕ → ℕ) (n : ℕ) (alike : (x : ℕ) → x < n → (w x ≡ 0) ↔ (w' x ≡ 0)) (m : ℕ → Bool) where
  -- a part with the best of the rest serves all by one worth where it does by the other
  serves_alike : {s t : ℕ} → Part t s → serves_all (worth_of w n) (best (worth_of w n) m) m s t ≡ serves_all (worth_of w' n) (best (worth_of w' n) m) m s t
  unfolding serves_all
  serves_alike {s} {t} h =
      ap (λ (b : Bool). m t && b)
      (same_test (eqb (worth_of w n t + best (worth_of w n) m (s - t)) (worth_of w n s)) (eqb (worth_of w' n t + best (worth_of w' n) m (s - t)) (worth_of w' n s))
      (λ q. go w w' (λ x l. (alike x l).0) (eqb→eq (worth_of w n t + best (worth_of w n) m (s - t)) (worth_of w n s) q))
      (λ q. go w' w (λ x l. (alike x l).1) (eqb→eq (worth_of w' n t + best (worth_of w' n) m (s - t)) (worth_of w' n s) q)))
    where
      go : (u u' : ℕ → ℕ) → ((x : ℕ) → x < n → u x ≡ 0 → u' x ≡ 0)
          → worth_of u n t + best (worth_of u n) m (s - t) ≡ worth_of u n s → T (eqb (worth_of u' n t + best (worth_of u' n) m (s - t)) (worth_of u' n s))
      go u u' none e =
          eq→eqb (worth_of u' n t + best (worth_of u' n) m (s - t)) (worth_of u' n s)
          (omega (arith, whole u u' n none m (s - t) (omega (arith, worth_rest u n h)), worth_rest u' n h))

  -- a set is without worth by one where it is by the other
  none_alike : (s : ℕ) → eqb (worth_of w n s) 0 ≡ eqb (worth_of w' n s) 0
  none_alike s =
      same_test (eqb (worth_of w n s) 0) (eqb (worth_of w' n s) 0)
      (λ q. eq→eqb (worth_of w' n s) 0 (worthless w w' n s (λ x l. (alike x l).0) (eqb→eq (worth_of w n s) 0 q)))
      (λ q. eq→eqb (worth_of w n s) 0 (worthless w' w n s (λ x l. (alike x l).1) (eqb→eq (worth_of w' n s) 0 q)))

  pub over_alike : (k : ℕ) → tried_over (worth_of w n) (best (worth_of w n) m) m k ≡ tried_over (worth_of w' n) (best (worth_of w' n) m) m k
  over_alike k =
      let v : ℕ → ℕ = worth_of w n in
      let v' : ℕ → ℕ = worth_of w' n in
      over_agree v (best v m) v' (best v' m) m k (λ s l. tried_agree v (best v m) v' (best v' m) m s (none_alike s) (λ t p h. serves_alike h))
