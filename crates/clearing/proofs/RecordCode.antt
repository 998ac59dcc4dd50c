-- The record of an exchange as code writes it: the vertices in front, the part behind them filled up, and the last two bytes.
use mathlib.Core.Bool.{Bool, true, false, ◌&&◌}
use mathlib.Core.List.{List, [], ◌∷◌, ◌++◌, append_assoc}
use mathlib.Core.Path.{◌≡◌, refl, sym, ap, ap₂, ◌∙◌}
use Prim.Native.Nat.{ℕ, suc, ◌+◌, ◌-◌, ◌^◌, ◌≤◌, ◌<◌}
use native.Mathlib.Omega.{arith}
use borrow.Rule.Slice.PartMut.{mid_of, put_mid}
use lib.Bits.{bit_and, and_le_r}
use lib.Count.{ones}
use lib.Dec.{T}
use Rattle.std.proofs.lemmas.List.{take-replicate, drop-replicate, replicate-append-replicate}
use lib.ListN.{length, take, drop, set, replicate, length-append}
use lib.Seq.{set_at, append_snoc}
use borrow.Author.Tests.{lt-ltb, le-ltb}
use Rattle.pool.specs.declared.value.Pool.{Pool}
use Rattle.kep.specs.Graph.{Graph, is_altruist, is_member}
use Rattle.kep.specs.Sets.{has, set_where, size_below, worth_of}
use Rattle.pool.specs.Value.{graph_of, pool_fits}
use Rattle.kep.specs.Table.{member_worth, served}
use Rattle.kep.specs.Plan.{kind_of, record_of}
use Rattle.kep.proofs.Vertices.{where_lt}
use Rattle.kep.proofs.Operations.{size_ones, both_and}
use Rattle.pool.proofs.ValueLaws.{fits_size}
use Rattle.kep.proofs.Worth.{worth_and}
use Rattle.kep.proofs.SetLoops.{where_reach}
use Rattle.kep.proofs.ExchangeFacts.{member_between}
use Rattle.kep.proofs.Bytes.{padded, padded_length}

-- ---- its last two bytes

-- the members in a set, as code counts them
pub members_counted : (p : Pool) → T (pool_fits p) → (s : ℕ)
    → size_below 16 (set_where 16 (λ u. has s u && has (set_where 16 (is_member (graph_of p))) u)) ≡ worth_of (member_worth (graph_of p)) p.size s
members_counted p fits s =
    let members = set_where 16 (is_member (graph_of p)) in
    let wide : members < 2 ^ 16 = where_lt 16 (is_member (graph_of p)) in
    rw (both_and 16 s members wide)
    (size_ones 16 (bit_and s members) (omega (arith, and_le_r s members)))
    ∙ sym (worth_and (is_member (graph_of p)) p.size s ∙ ap (λ (x : ℕ). ones (bit_and s x)) (where_reach p.size 16 (is_member (graph_of p)) inside))
  where
    inside : (u : ℕ) → T (is_member (graph_of p) u) → (u < p.size) × (u < 16)
    inside u t = let h = (member_between (graph_of p) u t).1 in (h, omega (arith, fits_size p fits))

-- the kind goes by the first vertex
module _ (g : Graph) (x : ℕ) (xs : List ℕ) where
  kind_is : {b : Bool} → is_altruist g x ≡ b → kind_of g (x ∷ xs) ≡ elim b as (λ _. ℕ) [ true ↦ 67 | false ↦ 82 ]
  unfolding kind_of
  kind_is e = ap (λ (b : Bool). elim b as (λ _. ℕ) [ true ↦ 67 | false ↦ 82 ]) e

  pub chain_kind : x < g.altruists → 67 ≡ kind_of g (x ∷ xs)
  chain_kind l = sym (kind_is (lt-ltb x g.altruists l))

  pub ring_kind : g.altruists ≤ x → 82 ≡ kind_of g (x ∷ xs)
  ring_kind l = sym (kind_is (le-ltb x g.altruists l))

  pub kind_alone : kind_of g (x ∷ []) ≡ kind_of g (x ∷ xs)
  unfolding kind_of
  kind_alone = refl

-- ---- the whole record

-- what is filled behind n vertices that follow the first, up to the vertex k and from it on
filled_behind : (n k filler : ℕ) → n ≤ k → k ≤ 14 → n < 14
    → drop n (take k (replicate 15 filler)) ++ drop k (replicate 15 filler) ≡ replicate (14 - suc n) filler ++ replicate 2 filler
filled_behind n k filler inside few room =
    ap₂ ◌++◌ (ap (drop n) (take-replicate k 15 filler (omega arith)) ∙ drop-replicate n k filler) (drop-replicate k 15 filler)
    ∙ replicate-append-replicate (k - n) (15 - k) filler
    ∙ ap (λ (m : ℕ). replicate m filler) (omega arith)
    ∙ sym (replicate-append-replicate (14 - suc n) 2 filler)

-- all bytes but the first are filled, and the vertices that follow it written from the second on
pub vertices_written : (x : ℕ) (ys : List ℕ) {k : ℕ} → length ys ≤ k → k ≤ 14 → length (x ∷ ys) ≤ 14
    → put_mid 1 k (x ∷ replicate 15 255) (ys ++ drop (length ys) (mid_of 1 k (x ∷ replicate 15 255))) ≡ padded 14 255 (x ∷ ys) ++ 255 ∷ 255 ∷ []
unfolding padded
vertices_written x ys {k} inside few room =
    ap (λ (l : List ℕ). x ∷ l)
    (append_assoc ys (drop (length ys) (take k (replicate 15 255))) (drop k (replicate 15 255))
    ∙ ap (λ (l : List ℕ). ys ++ l) (filled_behind (length ys) k 255 inside few (omega arith))
    ∙ sym (append_assoc ys (replicate (14 - suc (length ys)) 255) (255 ∷ 255 ∷ [])))

module _ (g : Graph) (xs : List ℕ) (short : length xs ≤ 14) where
  -- the last two bytes are set
  pub record_written : {kind members : ℕ} → kind ≡ kind_of g xs → members ≡ served g xs
      → set (set (padded 14 255 xs ++ 255 ∷ 255 ∷ []) 14 kind) 15 members ≡ record_of g xs
  unfolding record_of padded
  record_written {kind} {members} k m =
      let body = padded 14 255 xs in
      let long = padded_length 14 255 xs short in
      let first = set_at body 255 (255 ∷ []) kind 14 long in
      let longer : length (body ++ kind ∷ []) ≡ 15 = length-append body (kind ∷ []) ∙ ap (λ (n : ℕ). n + 1) long in
      let second = set_at (body ++ kind ∷ []) 255 [] members 15 longer in
      ap (λ (l : List ℕ). set l 15 members) (first ∙ sym (append_snoc body kind (255 ∷ [])))
      ∙ second
      ∙ append_snoc body kind (members ∷ [])
      ∙ rw (k, m)
