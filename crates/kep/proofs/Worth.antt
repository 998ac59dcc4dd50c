-- Laws of the worth of a set, and of the sum of worths over a list.
use mathlib.Core.Bool.{Bool, ◌||◌, true, false, ◌&&◌}
use mathlib.Core.List.{List, [], ◌∷◌, ◌++◌}
use mathlib.Core.Logic.{◌⊎◌, inl, inr, ◌↔◌}
use mathlib.Core.Path.{◌≡◌, refl, sym, ◌∙◌, ap, ap₂}
use Prim.Native.Nat.{◌-◌, ℕ, ◌+◌, zero, suc, ◌<◌, ◌≤◌, ◌*◌, ◌^◌}
use native.Mathlib.Nat.{suc-mul, eq-or-lt_of_le, le_of_suc-le-suc, add_comm, add-zero}
use native.Mathlib.Omega.{arith}
use lib.Bits.{bit_and}
use lib.Count.{ones}
use lib.Dec.{T}
use borrow.Author.Tests.{ne_eqb, eq-eqb}
use Rattle.kep.specs.Lists.{none, distinct, Each, total, also}
use Rattle.kep.specs.Sets.{Disjoint, worth_of, has, counted, Part, set_of, set_where}
use Rattle.kep.proofs.Tests.{and_iff}
use Rattle.kep.proofs.ListLaws.{distinct_rest}
use Rattle.kep.proofs.SetLaws.{has_none, same_set}
use Rattle.kep.proofs.Parts.{has_sum, part_le, rest_disjoint, has_and}
use Rattle.kep.proofs.Vertices.{has_power, power_disjoint, power_part, in_where, ones_with}
use Rattle.kep.proofs.SetOf.{set_of_new}

-- the worth of the union of disjoint sets is the sum of theirs
pub worth_sum : (w : ℕ → ℕ) (k : ℕ) {a b : ℕ} → Disjoint a b → worth_of w k (a + b) ≡ worth_of w k a + worth_of w k b
unfolding worth_of
worth_sum w zero h = refl
worth_sum w (suc k) {a} {b} h = rw (has_sum h k, worth_sum w k h) (go (has a k) (has b k) (h.never k))
  where
    go : (p q : Bool) → (T p → T q → ⊥)
        → worth_of w k a + worth_of w k b + counted (p || q) (w k) ≡ worth_of w k a + counted p (w k) + (worth_of w k b + counted q (w k))
    go true true f = absurd (f tt tt)
    go true false f = omega arith
    go false true f = omega arith
    go false false f = omega arith

-- the worth of a set is that of a part and that of what is left
pub worth_rest : (w : ℕ → ℕ) (k : ℕ) {t s : ℕ} → Part t s → worth_of w k t + worth_of w k (s - t) ≡ worth_of w k s
worth_rest w k {t} {s} h =
    let whole : t + (s - t) ≡ s = omega (arith, part_le h) in
    sym (worth_sum w k (rest_disjoint h)) ∙ ap (worth_of w k) whole

-- what is counted or not
pub counted_le : (b : Bool) (n : ℕ) → counted b n ≤ n
counted_le true n = omega arith
counted_le false n = omega arith

-- worths that agree below k
pub worth_same : (w w' : ℕ → ℕ) (k s : ℕ) → ((x : ℕ) → x < k → w x ≡ w' x) → worth_of w k s ≡ worth_of w' k s
unfolding worth_of
worth_same w w' zero s same = refl
worth_same w w' (suc k) s same = rw (worth_same w w' k s (λ x l. same x (omega arith)), same k (omega arith))

-- k vertices of worth at most c each
pub worth_le : (w : ℕ → ℕ) (k s c : ℕ) → ((x : ℕ) → x < k → w x ≤ c) → worth_of w k s ≤ k * c
unfolding worth_of
worth_le w zero s c h = omega arith
worth_le w (suc k) s c h = go (has s k) (h k (omega arith)) (worth_le w k s c (λ x l. h x (omega arith)))
  where
    go : (b : Bool) → w k ≤ c → worth_of w k s ≤ k * c → worth_of w k s + counted b (w k) ≤ suc k * c
    go true l ih = omega (arith, suc-mul k c)
    go false l ih = omega (arith, suc-mul k c)

-- ---- the worth of the set of a list is the sum of the worths in the list

power_above : (w : ℕ → ℕ) (k x : ℕ) → k ≤ x → worth_of w k (2 ^ x) ≡ 0
unfolding worth_of
power_above w zero x l = refl
power_above w (suc k) x l = rw (power_above w k x (omega arith), has_power x k, ne_eqb k x (λ e. omega arith))

worth_power : (w : ℕ → ℕ) (k x : ℕ) → x < k → worth_of w k (2 ^ x) ≡ w x
unfolding worth_of
worth_power w zero x l = absurd (omega arith)
worth_power w (suc k) x l = go (eq-or-lt_of_le (le_of_suc-le-suc l)) (worth_power w k x)
  where
    go : (x ≡ k) ⊎ (x < k) → (x < k → worth_of w k (2 ^ x) ≡ w x) → worth_of w k (2 ^ x) + counted (has (2 ^ x) k) (w k) ≡ w x
    go (inl e) ih = rw (has_power x k, eq-eqb k x (sym e), power_above w k x (omega arith), e) (omega arith)
    go (inr l) ih = rw (has_power x k, ne_eqb k x (λ e. omega arith), ih l) (omega arith)

pub worth_none : (w : ℕ → ℕ) (k : ℕ) → worth_of w k 0 ≡ 0
unfolding worth_of
worth_none w zero = refl
worth_none w (suc k) = rw (worth_none w k, has_none k)

pub list_worth : (w : ℕ → ℕ) (k : ℕ) (xs : List ℕ) → T (distinct xs) → Each (λ x. x < k) xs → worth_of w k (set_of xs) ≡ total w xs
unfolding set_of total
list_worth w k [] d none = worth_none w k
list_worth w k (x ∷ xs) d (also l ls) =
    worth_sum w k (power_disjoint x (set_of xs) (set_of_new x xs d)) ∙ ap₂ ◌+◌ (worth_power w k x l) (list_worth w k xs (distinct_rest x xs d) ls)

-- the worth of a set by that of the set without one of its vertices
pub worth_without : (w : ℕ → ℕ) (k s x : ℕ) → x < k → T (has s x) → worth_of w k s ≡ worth_of w k (s - 2 ^ x) + w x
worth_without w k s x l h = omega (arith, worth_rest w k (power_part s x h), worth_power w k x l)

-- lists put together
pub total_append : (w : ℕ → ℕ) (xs ys : List ℕ) → total w (xs ++ ys) ≡ total w xs + total w ys
unfolding total
total_append w [] ys = omega arith
total_append w (x ∷ xs) ys = omega (arith, total_append w xs ys)

-- ---- counting: where each vertex that passes a test is worth 1, the worth is the number of ones

pub worth_ones : (p : ℕ → Bool) (k s : ℕ) → worth_of (λ x. counted (p x) 1) k s ≡ ones (set_where k (λ x. has s x && p x))
unfolding worth_of set_where ones
worth_ones p zero s = refl
worth_ones p (suc k) s = go (has s k) (p k) (worth_ones p k s)
  where
    both : ℕ → Bool
    both x = has s x && p x

    new : T (has (set_where k both) k) → ⊥
    new h = let l = ((in_where k both k).0 h).0 in omega arith

    go : (a b : Bool) → worth_of (λ x. counted (p x) 1) k s ≡ ones (set_where k both)
        → worth_of (λ x. counted (p x) 1) k s + counted a (counted b 1) ≡ ones (set_where k both + counted (a && b) (2 ^ k))
    go true true e = rw (add_comm (set_where k both) (2 ^ k)) (omega (arith, ones_with (set_where k both) k new))
    go true false e = rw (add-zero (set_where k both)) (omega arith)
    go false b e = rw (add-zero (set_where k both)) (omega arith)

-- as code counts them: the ones of s and the set of those that pass
pub worth_and : (p : ℕ → Bool) (k s : ℕ) → worth_of (λ x. counted (p x) 1) k s ≡ ones (bit_and s (set_where k p))
worth_and p k s = worth_ones p k s ∙ ap ones (same_set (set_where k (λ x. has s x && p x)) (bit_and s (set_where k p)) same)
  where
    same : (v : ℕ) → T (has (set_where k (λ x. has s x && p x)) v) ↔ T (has (bit_and s (set_where k p)) v)
    same v =
        let r = and_iff (has s v) (p v) in
        let q = and_iff (has s v) (has (set_where k p) v) in
        let both = in_where k (λ x. has s x && p x) v in
        let one = in_where k p v in
        rw (has_and s (set_where k p) v) (
          λ t. let (l, c) = both.0 t in q.1 ((r.0 c).0, one.1 (l, (r.0 c).1)),
          λ t. let (a, b) = q.0 t in let (l, c) = one.0 b in both.1 (l, r.1 (a, c)),
        )
