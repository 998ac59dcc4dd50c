-- Where a path that uses exactly the set s can end, and how that follows from the sets with one vertex less.
use mathlib.Core.Bool.{not}
use mathlib.Core.List.{List, ◌∷◌, Memᴰ, [], ◌++◌}
use mathlib.Core.Logic.{◌↔◌, ◌≢◌, ◌⊎◌, inl, inr}
use mathlib.Core.Path.{ap, ◌≡◌, subst, sym, ◌∙◌, ap₂, refl}
use Prim.Native.Nat.{ℕ, ◌-◌, ◌^◌, ◌+◌, ◌≤◌, ◌<◌}
use native.Mathlib.Nat.{add-zero}
use native.Mathlib.Omega.{arith}
use lib.Dec.{T, ltb, ltb→lt, not_T, lt→ltb}
use Rattle.kep.specs.Lists.{distinct, elem, all}
use Rattle.kep.specs.Graph.{Graph}
use Rattle.kep.specs.Exchange.{walk, last_of}
use Rattle.kep.specs.Sets.{set_of, has}
use Rattle.kep.specs.Table.{lowest_first}
use Rattle.kep.proofs.Tests.{and_iff}
use Rattle.kep.proofs.ListLaws.{from_end, distinct_snoc, elem_iff}
use Rattle.kep.proofs.SetLaws.{IsLowest, one_lowest}
use Rattle.kep.proofs.Vertices.{in_power, in_without, with_without}
use Rattle.kep.proofs.SetOf.{has_set_of, set_of_snoc}
use Rattle.kep.proofs.Walks.{first_lowest, last_in, lowest_first_snoc, walk_snoc, last_snoc}

-- a list of different vertices that uses exactly s, begins at its lowest, along which each gives to the next, and which ends at v
pub record PathEnd (g : Graph) (s v : ℕ) : Type 0 where
  pub first : ℕ
  pub rest : List ℕ
  pub different : T (distinct (first ∷ rest))
  pub uses : set_of (first ∷ rest) ≡ s
  pub rises : T (lowest_first (first ∷ rest))
  pub gives : T (walk g first rest)
  pub ends : last_of first rest ≡ v

module _ (g : Graph) where
  -- the vertices of a path are those of s
  pub path_vertices : (s v : ℕ) (p : PathEnd g s v) (u : ℕ) → T (has s u) ↔ Memᴰ u (p.first ∷ p.rest)
  path_vertices s v p u = subst (λ (x : ℕ). T (has x u) ↔ Memᴰ u (p.first ∷ p.rest)) p.uses (has_set_of (p.first ∷ p.rest) p.different u)

  pub path_lowest : (s v : ℕ) (p : PathEnd g s v) → IsLowest s p.first
  path_lowest s v p = subst (λ (x : ℕ). IsLowest x p.first) p.uses (first_lowest p.first p.rest p.different p.rises)

  pub path_end_in : (s v : ℕ) → PathEnd g s v → T (has s v)
  path_end_in s v p = (path_vertices s v p v).1 (mathlib.Core.List.Memᴰ.cast (sym p.ends) (last_in p.first p.rest))

  -- on one vertex alone a path ends where it begins
  pub path_alone : (l v : ℕ) → PathEnd g (2 ^ l) v ↔ (v ≡ l)
  unfolding distinct elem set_of lowest_first all walk last_of
  path_alone l v = (
    λ p. (in_power l v).0 (path_end_in (2 ^ l) v p),
    λ e. record { first = l; rest = []; different = tt; uses = add-zero (2 ^ l); rises = tt; gives = tt; ends = sym e },
  )

  -- a path on s taken apart at its end: v is in s and not the lowest, and a path on s without v ends at one that gives to v
  pub record Longer (s l v : ℕ) : Type 0 where
    pub is_in : T (has s v)
    pub later : v ≢ l
    pub before : ℕ
    pub path : PathEnd g (s - 2 ^ v) before
    pub arc : T (g.arc before v)

  -- take the last vertex off
  take_off : (s l v : ℕ) → IsLowest s l → s ≢ 2 ^ l → PathEnd g s v → Longer s l v
  take_off s l v low more p = go (from_end p.rest)
    where
      x : ℕ
      x = p.first

      is_first : x ≡ l
      is_first = one_lowest s x l (path_lowest s v p) low

      lone : p.rest ≡ [] → s ≡ 2 ^ l
      lone e = sym p.uses ∙ unfold set_of in (ap₂ (λ (y : ℕ) (r : List ℕ). 2 ^ y + set_of r) is_first e ∙ add-zero (2 ^ l))

      longer : (ys : List ℕ) → p.rest ≡ ys ++ v ∷ [] → Longer s l v
      longer ys e =
          let new = (and_iff (distinct (x ∷ ys)) (not (elem v (x ∷ ys)))).0 (rw (e, distinct_snoc (x ∷ ys) v) at p.different) in
          let rising = (and_iff (lowest_first (x ∷ ys)) (ltb x v)).0 (rw (e, lowest_first_snoc x ys v) at p.rises) in
          let giving = (and_iff (walk g x ys) (g.arc (last_of x ys) v)).0 (rw (e, walk_snoc g x ys v) at p.gives) in
          let sum : 2 ^ v + set_of (x ∷ ys) ≡ s = rw (e, set_of_snoc (x ∷ ys) v) at p.uses in
          record {
            is_in = path_end_in s v p;
            later = omega (arith, is_first, ltb→lt x v rising.1);
            before = last_of x ys;
            path = record { first = x; rest = ys; different = new.0; uses = omega arith; rises = rising.0; gives = giving.0; ends = refl };
            arc = giving.1;
          }

      go : (p.rest ≡ []) ⊎ ((ys : List ℕ) × (w : ℕ) × (p.rest ≡ ys ++ w ∷ [])) → Longer s l v
      go (inl e) = absurd (more (lone e))
      go (inr t) =
          let last : t.1 ≡ v = sym (last_snoc x t.0 t.1) ∙ ap (λ (r : List ℕ). last_of x r) (sym t.2) ∙ p.ends in
          longer t.0 (t.2 ∙ ap (λ (w : ℕ). t.0 ++ w ∷ []) last)

  -- put a last vertex on
  put_on : (s l v : ℕ) → IsLowest s l → Longer s l v → PathEnd g s v
  put_on s l v low q =
      let p = q.path in
      let x = p.first in
      let ys = p.rest in
      let x≤l : x ≤ l = (path_lowest (s - 2 ^ v) q.before p).least l ((in_without s v l q.is_in).1 (low.is_in, λ e. q.later (sym e))) in
      let x<v : x < v = omega (arith, low.least v q.is_in, q.later) in
      let absent : Memᴰ v (x ∷ ys) → ⊥ = λ m. ((in_without s v v q.is_in).0 ((path_vertices (s - 2 ^ v) q.before p v).1 m)).1 refl in
      let new = not_T (elem v (x ∷ ys)) (λ t. absent ((elem_iff v (x ∷ ys)).0 t)) in
      record {
        first = x;
        rest = ys ++ v ∷ [];
        different = rw (distinct_snoc (x ∷ ys) v) ((and_iff (distinct (x ∷ ys)) (not (elem v (x ∷ ys)))).1 (p.different, new));
        uses = set_of_snoc (x ∷ ys) v ∙ ap (λ (k : ℕ). 2 ^ v + k) p.uses ∙ with_without s v q.is_in;
        rises = rw (lowest_first_snoc x ys v) ((and_iff (lowest_first (x ∷ ys)) (ltb x v)).1 (p.rises, lt→ltb x v x<v));
        gives = rw (walk_snoc g x ys v, p.ends) ((and_iff (walk g x ys) (g.arc q.before v)).1 (p.gives, q.arc));
        ends = last_snoc x ys v;
      }

  -- on more than one vertex, the ends are those of the longer paths
  pub path_longer : (s l v : ℕ) → IsLowest s l → s ≢ 2 ^ l → PathEnd g s v ↔ Longer s l v
  path_longer s l v low more = (take_off s l v low more, put_on s l v low)
