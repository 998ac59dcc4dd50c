-- The vertices of a record, as code counts them: its first bytes that are vertices of the pool, and only 255 behind them.
use mathlib.Core.Bool.{Bool, true, false, ◌&&◌, and_assoc, and-false}
use mathlib.Core.List.{List, [], ◌∷◌}
use mathlib.Core.Logic.{⊎_elim}
use mathlib.Core.Path.{◌≡◌, refl, sym, ◌∙◌, ap}
use Prim.Native.Nat.{ℕ, suc, ◌≤◌, ◌<◌}
use native.Mathlib.Decide.{dec_le, ℕ_discrete}
use native.Mathlib.Omega.{arith}
use lib.Dec.{T, eqb, ltb, leb, leb→le, lt→ltb, ltb→lt}
use lib.ListN.{length, take, drop}
use lib.Seq.{take_at}
use borrow.Author.Tests.{lt-ltb, le-ltb, eq-eqb, ne_eqb, le-leb}
use Rattle.pool.specs.declared.value.Pool.{Pool}
use Rattle.std.specs.List.{list_all, prefix_len}
use Rattle.kep.specs.Lists.{all}
use Rattle.pool.specs.Value.{graph_of}
use Rattle.plans.specs.Check.{listed, unlisted, vertices_of, filler_of, all_below, all_filler, lists_vertices}
use Rattle.plans.specs.inner.CheckSteps.{Listed}
use Rattle.kep.proofs.Tests.{and_iff₃, from_true, from_false, is_true, is_false, passes?}
use Rattle.kep.proofs.Each.{each_map}
use Rattle.kep.proofs.ListLaws.{all_each, each_all, all_cons, all_list}
use Rattle.plans.proofs.Records.{listed_unlisted, listed_filler, listed_vertex}

module _ (s : ℕ) where
  -- how many bytes stand before the first that is not below s
  unfoldable pub lead : List ℕ → ℕ
  lead bs = prefix_len (λ b. ltb b s) bs

  lead_more : (b : ℕ) (bs : List ℕ) → b < s → lead (b ∷ bs) ≡ suc (lead bs)
  unfolding lead
  lead_more b bs h = rw (lt-ltb b s h) (omega arith)

  lead_none : (b : ℕ) (bs : List ℕ) → s ≤ b → lead (b ∷ bs) ≡ 0
  unfolding lead
  lead_none b bs h = rw (le-ltb b s h)

  -- the test of 12 on vertices and filler is that only 255 stands behind these bytes, and where it passes they are the vertices
  record Leading (bs : List ℕ) : Type 0 where
    same : (all_below s (listed bs) && all_filler (unlisted bs)) ≡ all_filler (drop (lead bs) bs)
    long : all_filler (drop (lead bs) bs) ≡ true → length (listed bs) ≡ lead bs

  leading : s ≤ 255 → (bs : List ℕ) → Leading bs
  unfolding all listed unlisted lead
  leading small [] = record { same = refl; long = λ t. refl }
  leading small (b ∷ bs) =
      elim (ℕ_discrete b 255) [
        | yes e ↦ record {
          same = rw (lead_none b bs (omega arith), eq-eqb b 255 e, listed, unlisted) refl;
          long = λ t. rw (lead_none b bs (omega arith), listed_filler b bs e) refl;
        }
        | no n ↦ elim (dec_le s b) [
          | yes out ↦ record {
            same = rw (lead_none b bs out, listed_vertex b bs n, all_cons (λ x. ltb x s) b (listed bs), le-ltb b s out) (rw (ne_eqb b 255 n, all) refl);
            long = λ t. let never : all_filler (b ∷ bs) ≡ false = rw (ne_eqb b 255 n, all) refl in absurd (from_false never (from_true (rw (lead_none b bs out) at t)));
          }
          | no inside ↦ record {
            same =
                rw (lead_more b bs (omega arith), listed_vertex b bs n, all_cons (λ x. ltb x s) b (listed bs), lt-ltb b s (omega arith), ne_eqb b 255 n, unlisted)
                (leading small bs).same;
            long = λ t. rw (lead_more b bs (omega arith), listed_vertex b bs n) (ap suc ((leading small bs).long (rw (lead_more b bs (omega arith)) at t)));
          }
        ]
      ]

-- ---- the part that code finds

module _ (p : Pool) (r : List ℕ) (small : p.size ≤ 14) (whole : length r ≡ 16) {n : ℕ} (count : n ≡ lead p.size (take 14 r)) where
  lists_is : lists_vertices (graph_of p) r ≡ (leb 1 (length (vertices_of r)) && all_filler (drop n (take 14 r)))
  unfolding lists_vertices vertices_of filler_of
  lists_is =
      let some = leb 1 (length (vertices_of r)) in
      rw count (and_assoc some (all_below p.size (vertices_of r)) (all_filler (filler_of r)) ∙ ap (λ b. some && b) (leading p.size (omega arith) (take 14 r)).same)

  passing : T (lists_vertices (graph_of p) r) → (1 ≤ length (vertices_of r)) × T (all_below p.size (vertices_of r))
  unfolding lists_vertices
  passing t =
      let (some, below, filler) = (and_iff₃ (leb 1 (length (vertices_of r))) (all_below p.size (vertices_of r)) (all_filler (filler_of r))).0 t in
      (leb→le 1 (length (vertices_of r)) some, below)

  -- the vertices are a part of the record
  vertices_part : take (length (vertices_of r)) (take 14 r) ≡ vertices_of r
  unfolding vertices_of filler_of
  vertices_part =
      let n = length (vertices_of r) in
      ap (take n) (sym (listed_unlisted (take 14 r))) ∙ take_at (vertices_of r) (filler_of r) n refl

  -- only 255 stands behind these bytes: they are the vertices
  vertices_found : all_filler (drop n (take 14 r)) ≡ true → length (vertices_of r) ≡ n
  unfolding vertices_of
  vertices_found e = rw count ((leading p.size (omega arith) (take 14 r)).long (rw count at e))

  -- another byte stands behind them, or none before: the record meets 12
  listed_other : all_filler (drop n (take 14 r)) ≡ false → T (lists_vertices (graph_of p) r) → ⊥
  listed_other e t = from_false (rw (lists_is, e, and-false (leb 1 (length (vertices_of r))))) t

  pub listed_none : n ≡ 0 → T (lists_vertices (graph_of p) r) → ⊥
  listed_none z t =
      let filler = all_filler (drop n (take 14 r)) in
      ⊎_elim (λ f. omega (arith, passing t, vertices_found (is_true filler f))) (λ f. listed_other (is_false filler f) t) (passes? filler)

  listed_part : all_filler (drop n (take 14 r)) ≡ true → 1 ≤ n → Listed p r (take n (take 14 r))
  listed_part e some =
      let long = vertices_found e in
      let t : T (lists_vertices (graph_of p) r) = from_true (rw (lists_is, e, le-leb 1 (length (vertices_of r)) (omega arith)) refl) in
      rw (← long, vertices_part) record { passed = t; vertices = refl }

  -- by the two parts that code splits the places into
  module _ {xs rest : List ℕ} (front : xs ≡ take n (take 14 r)) (back : rest ≡ drop n (take 14 r)) where
    filler_is : {b : Bool} → list_all (λ x. eqb x 255) rest ≡ b → all_filler (drop n (take 14 r)) ≡ b
    filler_is e = ap all_filler (sym back) ∙ sym (all_list (λ x. eqb x 255) rest) ∙ e

    pub parts_other : list_all (λ x. eqb x 255) rest ≡ false → T (lists_vertices (graph_of p) r) → ⊥
    parts_other e = listed_other (filler_is e)

    pub parts_listed : list_all (λ x. eqb x 255) rest ≡ true → 1 ≤ n → Listed p r xs
    parts_listed e some = rw front (listed_part (filler_is e) some)

-- the vertices listed are those of a largest pool
pub listed_below : {p : Pool} {r xs : List ℕ} → p.size ≤ 14 → Listed p r xs → T (all_below 14 xs)
unfolding lists_vertices
listed_below {p} {r} small k =
    let tests = (and_iff₃ (leb 1 (length (vertices_of r))) (all_below p.size (vertices_of r)) (all_filler (filler_of r))).0 k.passed in
    rw k.vertices (each_all (λ x. ltb x 14) (each_map (λ x t. let h = ltb→lt x p.size t in lt→ltb x 14 (omega arith)) (all_each (λ x. ltb x p.size) (vertices_of r) tests.1)))
