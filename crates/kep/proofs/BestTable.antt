-- What `best` means, its recursion, and its laws, for any worth v of sets and any marks m.
use mathlib.Core.Bool.{Bool, ◌&&◌}
use mathlib.Core.List.Memᴰ
use mathlib.Core.List.{Memᴰ, List, [], ◌∷◌}
use mathlib.Core.Logic.{◌↔◌, ◌⊎◌, inl, inr}
use mathlib.Core.Path.{◌≡◌, subst, sym, refl, ap, ◌∙◌, fun_ext}
use Prim.Native.Nat.{◌-◌, ℕ, ◌≤◌, ◌+◌, zero, suc, ◌<◌}
use native.Mathlib.Omega.{arith}
use lib.Bits.{bit_and}
use lib.Dec.{eqb, eqb→eq, T}
use lib.ListN.{length}
use Rattle.kep.specs.Lists.{keep, upto, nil, cons, Pairwise, total}
use Rattle.kep.specs.Sets.{Part, Disjoint, worth_of}
use Rattle.kep.specs.Table.{Marked, Family}
use Rattle.kep.specs.computed.Table.{marked_parts, most, greatest_of, best}
use Rattle.kep.proofs.Tests.{and_left, and_right, and_both, eq→eqb}
use Rattle.kep.proofs.Each.{keep_out, keep_in, each_of, each_at}
use Rattle.kep.proofs.ListLaws.{upto_out, upto_in}
use Rattle.kep.proofs.Parts.{part_of_and, part_le, part_and, part_trans, rest_part, disjoint_parts, rest_disjoint, part_refl, parts_of_rest, disjoint_sym}
use Rattle.kep.proofs.Worth.{worth_rest}
use Rattle.kep.proofs.Greatest.{greatest_bound, greatest_attained}

-- ---- the marked parts

pub in_marked : (m : ℕ → Bool) (s t : ℕ) → Memᴰ t (marked_parts m s) ↔ Marked m s t
unfolding marked_parts
in_marked m s t = (is_marked, has_marked)
  where
    part : ℕ → Bool
    part t = eqb (bit_and t s) t

    test : ℕ → Bool
    test t = m t && part t

    is_marked : Memᴰ t (keep test (upto s 1)) → Marked m s t
    is_marked i =
        let (among, passes) = keep_out test (upto s 1) i in
        record {
          nonempty = (upto_out s 1 among).0;
          marked = and_left (m t) (part t) passes;
          inside = part_of_and (eqb→eq (bit_and t s) t (and_right (m t) (part t) passes));
        }

    has_marked : Marked m s t → Memᴰ t (keep test (upto s 1))
    has_marked h =
        let le : t ≤ s = part_le h.inside in
        let both : T (test t) = and_both (m t) (part t) h.marked (eq→eqb (bit_and t s) t (part_and h.inside)) in
        keep_in test (upto_in s 1 t h.nonempty (omega arith)) both

-- ---- families

module _ {m : ℕ → Bool} where
  pub family_none : (s : ℕ) → Family m s []
  family_none s = record { each = λ t i. absurd (Memᴰ.not-nil i); disjoint = nil }

  pub marked_wider : {r s t : ℕ} → Part r s → Marked m r t → Marked m s t
  marked_wider h k = record { nonempty = k.nonempty; marked = k.marked; inside = part_trans k.inside h }

  -- a family of a part of s is one of s
  pub family_wider : {r s : ℕ} {ts : List ℕ} → Part r s → Family m r ts → Family m s ts
  family_wider h f = record { each = λ t i. marked_wider h (f.each t i); disjoint = f.disjoint }

  -- a marked part of s and a family of what is left of s are a family of s, and every family begins so
  pub family_cons : {s t : ℕ} {ts : List ℕ} → Marked m s t → Family m (s - t) ts → Family m s (t ∷ ts)
  family_cons {s} {t} {ts} h f = record { each = λ u i. go (Memᴰ.cases_cons i); disjoint = cons (each_of ts away) f.disjoint }
    where
      go : {u : ℕ} → (u ≡ t) ⊎ Memᴰ u ts → Marked m s u
      go (inl e) = subst (Marked m s) (sym e) h
      go {u} (inr i) = marked_wider (rest_part h.inside) (f.each u i)

      away : (u : ℕ) → Memᴰ u ts → Disjoint t u
      away u i = disjoint_parts (rest_disjoint h.inside) (part_refl t) (f.each u i).inside

  pub family_first : {s t : ℕ} {ts : List ℕ} → Family m s (t ∷ ts) → Marked m s t
  family_first {t = t} f = f.each t (Memᴰ.head refl)

  pub family_rest : {s t : ℕ} {ts : List ℕ} → Family m s (t ∷ ts) → Family m (s - t) ts
  family_rest {s} {t} {ts} f = go f.disjoint
    where
      go : Pairwise Disjoint (t ∷ ts) → Family m (s - t) ts
      go (cons away d) = record { each = left; disjoint = d }
        where
          left : (u : ℕ) → Memᴰ u ts → Marked m (s - t) u
          left u i =
              let k = f.each u (Memᴰ.tail i) in
              record { nonempty = k.nonempty; marked = k.marked; inside = (parts_of_rest (family_first f).inside u).1 (k.inside, each_at away i) }

  -- a family of s has at most s sets
  pub family_length : (s : ℕ) (ts : List ℕ) → Family m s ts → length ts ≤ s
  family_length s [] f = omega arith
  family_length s (t ∷ ts) f = omega (arith, family_length (s - t) ts (family_rest f), (family_first f).nonempty, part_le (family_first f).inside)

  -- a family without one of its sets is a family of what that set leaves
  pub family_take : (v : ℕ → ℕ) {s t : ℕ} (ts : List ℕ) → Family m s ts → Memᴰ t ts
      → (us : List ℕ) × Family m (s - t) us × (total v ts ≡ v t + total v us)
  unfolding total
  family_take v [] f i = absurd (Memᴰ.not-nil i)
  family_take v {s} {t} (u ∷ ts) f i = go (Memᴰ.cases_cons i) (family_take v {s = s - u} ts (family_rest f))
    where
      go : (t ≡ u) ⊎ Memᴰ t ts → (Memᴰ t ts → (us : List ℕ) × Family m (s - u - t) us × (total v ts ≡ v t + total v us))
          → (us : List ℕ) × Family m (s - t) us × (v u + total v ts ≡ v t + total v us)
      go (inl e) ih = (ts, rw e (family_rest f), rw e)
      go (inr j) ih =
          let r = ih j in
          let h = family_first f in
          let other = (parts_of_rest h.inside t).0 ((family_rest f).each t j).inside in
          let inside : Part u (s - t) = (parts_of_rest other.0 u).1 (h.inside, disjoint_sym other.1) in
          let left : Marked m (s - t) u = record { nonempty = h.nonempty; marked = h.marked; inside = inside } in
          let swap : s - u - t ≡ s - t - u = omega arith in
          (u ∷ r.0, family_cons left (subst (λ (x : ℕ). Family m x r.0) swap r.1), omega (arith, r.2))

  -- a family of s is worth at most s, where worth is summed over vertices
  pub family_worth : (w : ℕ → ℕ) (n s : ℕ) (ts : List ℕ) → Family m s ts → total (worth_of w n) ts ≤ worth_of w n s
  unfolding total
  family_worth w n s [] f = omega arith
  family_worth w n s (t ∷ ts) f = omega (arith, family_worth w n (s - t) ts (family_rest f), worth_rest w n (family_first f).inside)

-- ---- what `best` means

module _ (v : ℕ → ℕ) (m : ℕ → Bool) where
  -- a family of at most k sets is worth at most `most v m k s`
  most_bound : (k s : ℕ) (ts : List ℕ) → length ts ≤ k → Family m s ts → total v ts ≤ most v m k s
  unfolding total most
  most_bound k s [] l f = omega arith
  most_bound zero s (t ∷ ts) l f = absurd (omega arith)
  most_bound (suc k) s (t ∷ ts) l f =
      let value : ℕ → ℕ = λ u. v u + most v m k (s - u) in
      let one : value t ≤ most v m (suc k) s = greatest_bound value (marked_parts m s) t ((in_marked m s t).1 (family_first f)) in
      omega (arith, most_bound k (s - t) ts (omega arith) (family_rest f), one)

  -- and some family is worth that
  most_attained : (k s : ℕ) → (ts : List ℕ) × Family m s ts × (total v ts ≡ most v m k s)
  unfolding total most
  most_attained zero s = ([], family_none s, refl)
  most_attained (suc k) s = go (greatest_attained value (marked_parts m s)) (most_attained k)
    where
      value : ℕ → ℕ
      value t = v t + most v m k (s - t)

      go : (greatest_of value (marked_parts m s) ≡ 0) ⊎ ((t : ℕ) × Memᴰ t (marked_parts m s) × (greatest_of value (marked_parts m s) ≡ value t))
          → ((s : ℕ) → (ts : List ℕ) × Family m s ts × (total v ts ≡ most v m k s))
          → (ts : List ℕ) × Family m s ts × (total v ts ≡ greatest_of value (marked_parts m s))
      go (inl e) ih = ([], family_none s, sym e)
      go (inr (t, i, e)) ih =
          let r = ih (s - t) in
          (t ∷ r.0, family_cons ((in_marked m s t).0 i) r.1, ap (λ (x : ℕ). v t + x) r.2 ∙ sym e)

  -- the best is at least what any family is worth
  pub best_bound : {s : ℕ} {ts : List ℕ} → Family m s ts → total v ts ≤ best v m s
  unfolding best
  best_bound {s} {ts} f = most_bound s s ts (family_length s ts f) f

  -- and some family is worth it
  pub best_attained : (s : ℕ) → (ts : List ℕ) × Family m s ts × (total v ts ≡ best v m s)
  unfolding best
  best_attained s = most_attained s s

  -- these two tell the best: it is the worth of any family that none exceeds
  pub best_unique : {s : ℕ} {ts : List ℕ} → Family m s ts → ((us : List ℕ) → Family m s us → total v us ≤ total v ts) → total v ts ≡ best v m s
  best_unique {s} f h = let r = best_attained s in omega (arith, best_bound f, h r.0 r.1, r.2)

  -- fuel for as many sets as a family can have is enough
  most_enough : (k s : ℕ) → ((ts : List ℕ) → Family m s ts → length ts ≤ k) → most v m k s ≡ best v m s
  most_enough k s h =
      let r = most_attained k s in
      let q = best_attained s in
      omega (arith, best_bound r.1, r.2, most_bound k s q.0 (h q.0 q.1) q.1, q.2)

  pub most_fuel : (k s : ℕ) → s ≤ k → most v m k s ≡ best v m s
  most_fuel k s l = most_enough k s (λ ts f. omega (arith, family_length s ts f))

  -- the recursion: the greatest of v t + best (s - t) over the nonempty marked parts t of s, 0 if there is none
  pub best_step : (s : ℕ) → best v m s ≡ greatest_of (λ t. v t + best v m (s - t)) (marked_parts m s)
  unfolding most
  best_step s =
      sym (most_fuel (suc s) s (omega arith))
      ∙ ap (λ (f : ℕ → ℕ). greatest_of f (marked_parts m s)) (fun_ext (λ t. ap (λ (x : ℕ). v t + x) (most_fuel s (s - t) (omega arith))))

  -- a part has no better
  pub best_mono : {t s : ℕ} → Part t s → best v m t ≤ best v m s
  best_mono {t} {s} h = let r = best_attained t in omega (arith, r.2, best_bound (family_wider h r.1))

  -- one marked part and the best of what is left
  pub best_with : {s t : ℕ} → Marked m s t → v t + best v m (s - t) ≤ best v m s
  unfolding total
  best_with {s} {t} h = let r = best_attained (s - t) in omega (arith, r.2, best_bound (family_cons h r.1))

  -- where the best is not 0, a marked part and the best of what is left come to it
  pub best_choice : {s : ℕ} → 0 < best v m s → (t : ℕ) × Marked m s t × (best v m s ≡ v t + best v m (s - t))
  best_choice {s} p = go (greatest_attained value (marked_parts m s))
    where
      value : ℕ → ℕ
      value t = v t + best v m (s - t)

      go : (greatest_of value (marked_parts m s) ≡ 0) ⊎ ((t : ℕ) × Memᴰ t (marked_parts m s) × (greatest_of value (marked_parts m s) ≡ value t))
          → (t : ℕ) × Marked m s t × (best v m s ≡ value t)
      go (inl e) = absurd (omega (arith, best_step s))
      go (inr (t, i, e)) = (t, (in_marked m s t).0 i, best_step s ∙ e)

  -- what no best choice touches can be left out
  pub best_avoids : {s r : ℕ} → Part r s → ((t : ℕ) → Marked m s t → best v m s ≡ v t + best v m (s - t) → Disjoint t r) → best v m (s - r) ≡ best v m s
  best_avoids {s} {r} h away =
      let a = best_attained s in
      omega (arith, a.2, best_mono (rest_part h), best_bound (record { each = inner a.0 a.1 a.2; disjoint = a.1.disjoint }))
    where
      inner : (ts : List ℕ) → Family m s ts → total v ts ≡ best v m s → (t : ℕ) → Memᴰ t ts → Marked m (s - r) t
      inner ts f e t i =
          let k = f.each t i in
          let q = family_take v ts f i in
          let choice : best v m s ≡ v t + best v m (s - t) = omega (arith, q.2, best_bound q.1, best_with k) in
          record { nonempty = k.nonempty; marked = k.marked; inside = (parts_of_rest h t).1 (k.inside, disjoint_sym (away t k choice)) }

-- the best is at most the worth of the whole set
pub best_worth : (w : ℕ → ℕ) (m : ℕ → Bool) (n s : ℕ) → best (worth_of w n) m s ≤ worth_of w n s
best_worth w m n s = let a = best_attained (worth_of w n) m s in omega (arith, a.2, family_worth w n s a.0 a.1)

-- and that of a marked set is all of it
pub best_marked : (w : ℕ → ℕ) (m : ℕ → Bool) (n : ℕ) {s : ℕ} → 0 < s → T (m s) → best (worth_of w n) m s ≡ worth_of w n s
best_marked w m n {s} some mark = omega (arith, best_worth w m n s, best_with (worth_of w n) m {s = s} (record { nonempty = some; marked = mark; inside = part_refl s }))
