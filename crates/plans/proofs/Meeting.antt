-- The vertices met, kept as a set while code goes through a record: 13.
use mathlib.Core.List.{List, ◌∷◌}
use mathlib.Core.Logic.{⊎_elim}
use mathlib.Core.Path.{◌≡◌, sym, ◌∙◌, ap}
use Prim.Native.Nat.{ℕ, ◌+◌, ◌^◌, ◌≤◌, ◌<◌}
use native.Mathlib.Omega.{arith}
use lib.Bits.{bit_or, or_lt}
use lib.Dec.{T}
use lib.ListN.{length, drop, get_or}
use lib.Pow.{pow-lt}
use Rattle.std.specs.Prelude.{Some, None}
use Rattle.kep.specs.Sets.{has, with_vertex}
use Rattle.plans.specs.inner.CheckSteps.{fresh_in, added, met_with}
use Rattle.kep.proofs.Tests.{is_true, is_false, passes?}
use Rattle.kep.proofs.Operations.{with_or}
use Rattle.kep.proofs.Rest.{rest_next, rest_none}
use Rattle.plans.proofs.CheckSteps.{fresh_seen, fresh_new}

-- a vertex met before ends it, another is added
met_seen : (m x : ℕ) (xs : List ℕ) → T (has m x) → met_with m (x ∷ xs) ≡ None
unfolding met_with
met_seen m x xs h = rw (fresh_seen m x xs h, met_with)

met_new : (m x : ℕ) (xs : List ℕ) → (T (has m x) → ⊥) → met_with m (x ∷ xs) ≡ met_with (bit_or m (2 ^ x)) xs
unfolding met_with added
met_new m x xs n = rw (fresh_new m x xs n, met_with)

-- m₀ are the vertices met before xs, m those met before its i-th: what is met with the rest and m is met with the whole and m₀
pub record Meeting (xs : List ℕ) (m₀ m i : ℕ) : Type 0 where
  pub narrow : m < 2 ^ 16
  pub left : met_with m (drop i xs) ≡ met_with m₀ xs

module _ {xs : List ℕ} {m₀ m i : ℕ} (k : Meeting xs m₀ m i) where
  module _ (h : i < length xs) where
    pub meeting_stop : T (has m (get_or xs i 0)) → None ≡ met_with m₀ xs
    meeting_stop t = sym (sym k.left ∙ ap (met_with m) (rest_next xs i h) ∙ met_seen m (get_or xs i 0) (drop (i + 1) xs) t)

    pub meeting_next : {next : ℕ} → get_or xs i 0 < 16 → (T (has m (get_or xs i 0)) → ⊥) → next ≡ with_vertex 16 m (get_or xs i 0) → Meeting xs m₀ next (i + 1)
    meeting_next b n e =
        let x = get_or xs i 0 in
        let same : with_vertex 16 m x ≡ bit_or m (2 ^ x) = with_or 16 m k.narrow x b in
        record {
          narrow = rw (e, same) (or_lt 16 m (2 ^ x) k.narrow (pow-lt b));
          left = rw (e, same) (sym (met_new m x (drop (i + 1) xs) n) ∙ ap (met_with m) (sym (rest_next xs i h)) ∙ k.left);
        }

  pub meeting_end : length xs ≤ i → Some m ≡ met_with m₀ xs
  unfolding met_with fresh_in added
  meeting_end h = ap (met_with m) (sym (rest_none xs i h)) ∙ k.left

-- ---- what the answer says

module _ (m : ℕ) (xs : List ℕ) where
  pub met_before : None ≡ met_with m xs → T (fresh_in m xs) → ⊥
  unfolding met_with
  met_before met t = let other : None ≡ Some (added m xs) = met ∙ rw (is_true (fresh_in m xs) t, met_with) in let z : ◌≡◌ {A = ℕ} 0 1 = cc in omega arith

  pub met_now : {n : ℕ} → Some n ≡ met_with m xs → T (fresh_in m xs) × (n ≡ added m xs)
  unfolding met_with
  met_now {n} met =
      ⊎_elim (λ t. let same : Some n ≡ Some (added m xs) = met ∙ rw (is_true (fresh_in m xs) t, met_with) in (t, cc))
      (λ no. let other : Some n ≡ None = met ∙ rw (is_false (fresh_in m xs) no, met_with) in let z : ◌≡◌ {A = ℕ} 0 1 = cc in absurd (omega arith))
      (passes? (fresh_in m xs))
