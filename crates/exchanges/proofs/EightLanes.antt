-- Eight sets abreast: from what is found of the vertices that they have in common to the ends of paths on each.
use mathlib.Core.List.{List, [], ◌∷◌}
use mathlib.Core.Logic.{◌≢◌, ⊎_elim}
use mathlib.Core.Path.{◌≡◌, ap, sym, refl, ◌∙◌}
use Prim.Native.Nat.{ℕ, zero, suc, ◌+◌, ◌-◌, ◌%◌, ◌^◌, ◌≤◌, ◌<◌}
use native.Mathlib.Decide.{dec_lt}
use native.Mathlib.Nat.{add-zero}
use native.Mathlib.Omega.{arith}
use lib.Bits.{bit_and, bit_or, and_mask}
use lib.Dec.{T}
use lib.ListN.{length, get_or, set}
use lib.Seq.{get_or-set_same, get_or-set_other}
use lib.Pow.{pow_mono}
use Rattle.kep.specs.Graph.{Graph, givers}
use Rattle.kep.specs.Lists.{tabulate}
use Rattle.kep.specs.Sets.{has}
use Rattle.kep.specs.inner.Lowest.{lowest}
use Rattle.kep.specs.inner.Filling.{comes, ends}
use Rattle.exchanges.specs.inner.Abreast.{bit_where, common, Lanes}
use Rattle.exchanges.specs.inner.ByLowest.{Known}
use Rattle.exchanges.specs.inner.Changed.{Changed}
use Rattle.kep.proofs.Tables.{get_d_whole}
use Rattle.kep.proofs.Tests.{and_both}
use Rattle.kep.proofs.SetLaws.{lowest_eq, not_in_empty, has_full}
use Rattle.kep.proofs.Parts.{has_and}
use Rattle.kep.proofs.Vertices.{or_with, bit_le, in_with}
use Rattle.kep.proofs.Down.{step_part}
use Rattle.kep.proofs.LowestBit.{remainder_lowest, lowest_out, lowest_le}
use Rattle.kep.proofs.Sifting.{sift, sift_none, sift_more, sift_fewer}
use Rattle.kep.proofs.Ends.{ends_none, ends_alone, ends_several}

-- base has none of the vertices 0, 1 and 2
module _ (base : ℕ) (m : base % 8 ≡ 0) where
  high : (v : ℕ) → v < 3 → T (has base v) → ⊥
  high v l h =
      let low : bit_and base (2 ^ 3 - 1) ≡ 0 = and_mask base 3 ∙ m in
      not_in_empty v (rw (← low, has_and base (2 ^ 3 - 1) v) (and_both (has base v) (has (2 ^ 3 - 1) v) h (has_full 3 v l)))

  -- so all eight rest on sets below base
  pub eight_known : (g : Graph) (table : List ℕ) → ((i : ℕ) → i < base → get_or table i 0 ≡ ends g i) → (j : ℕ) → j < 8 → Known g (base + j) base table
  eight_known g table known j l = record { each = each }
    where
      each : (v : ℕ) → T (has base v) → get_or table (base + j - 2 ^ v) 0 ≡ ends g (base + j - 2 ^ v)
      each zero h = absurd (high 0 (omega arith) h)
      each (suc zero) h = absurd (high 1 (omega arith) h)
      each (suc (suc zero)) h = absurd (high 2 (omega arith) h)
      each (suc (suc (suc v))) h =
          let three : 3 ≤ suc (suc (suc v)) = omega arith in
          let eight : 2 ^ 3 ≤ 2 ^ suc (suc (suc v)) = pow_mono three in
          known (base + j - 2 ^ suc (suc (suc v))) (omega (arith, bit_le base (suc (suc (suc v))) h))

module _ (g : Graph) (base : ℕ) where
  -- the ends on a set of two vertices or more, of which l is the lowest and r the others
  lane : (l j r : ℕ) → (base + j) % 2 ^ suc l ≡ 2 ^ l → r + 2 ^ l ≡ base + j → 2 ^ l < base + j → ends g (base + j) ≡ sift g.size (comes g (ends g) (base + j)) r
  lane l j r low sum more =
      let is : lowest (base + j) ≡ l = lowest_eq (base + j) l (remainder_lowest low) in
      let rest : base + j - 2 ^ lowest (base + j) ≡ r = rw is (omega arith) in
      ends_several g (base + j) (λ e. omega (arith, ap (λ (v : ℕ). 2 ^ v) is)) ∙ ap (sift g.size (comes g (ends g) (base + j))) rest

  -- a vertex more, by the ends on the set without it
  lane_more : (j i v r : ℕ) {found e gs : ℕ} → v < g.size → i + 2 ^ v ≡ j → found ≡ sift g.size (comes g (ends g) (base + j)) r → e ≡ ends g (base + i) → gs ≡ givers g v
      → bit_or found (bit_where (bit_and e gs) (2 ^ v)) ≡ sift g.size (comes g (ends g) (base + j)) (bit_or r (2 ^ v))
  unfolding comes
  lane_more j i v r {found} {e} {gs} l sum f k given =
      let without : base + j - 2 ^ v ≡ base + i = omega arith in
      rw (f, k, given) (sym (sift_more g.size (comes g (ends g) (base + j)) r v l ∙ rw without))

  -- ---- the vertices in common

  -- no vertex is: those alone are paths
  pub lanes_none : base ≡ 0 → Lanes g base (0 ∷ 1 ∷ 2 ∷ 0 ∷ 4 ∷ 0 ∷ 0 ∷ 0 ∷ [])
  lanes_none z = rw z (record {
    lane0 = sym (ends_none g);
    lane1 = sym (ends_alone g 0);
    lane2 = sym (ends_alone g 1);
    lane3 = sym (sift_none g.size (comes g (ends g) 3));
    lane4 = sym (ends_alone g 2);
    lane5 = sym (sift_none g.size (comes g (ends g) 5));
    lane6 = sym (sift_none g.size (comes g (ends g) 6));
    lane7 = sym (sift_none g.size (comes g (ends g) 7));
  })

  module _ (pos : 0 < base) (m : base % 8 ≡ 0) (eight : List ℕ) (found : (j : ℕ) → j < 8 → get_or eight j 0 ≡ common g base j) where
    -- the first set has its lowest vertex among them
    pub first_alone : bit_and (base - 1) base ≡ 0 → base ≡ ends g base
    first_alone z =
        let e : base ≡ 2 ^ lowest base = omega (arith, lowest_out base pos, lowest_le base pos) in
        e ∙ sym (ap (ends g) e ∙ ends_alone g (lowest base))

    pub first_several : bit_and (base - 1) base ≢ 0 → bit_and (get_or eight 0 0) (bit_and (base - 1) base) ≡ ends g base
    first_several ne =
        let here : get_or eight 0 0 ≡ sift g.size (comes g (ends g) base) base = rw add-zero at (found 0 (omega arith)) in
        rw here (sift_fewer g.size (comes g (ends g) base) (step_part base base))
        ∙ ap (sift g.size (comes g (ends g) base)) (lowest_out base pos)
        ∙ sym (ends_several g base (λ e. ne (omega (arith, lowest_out base pos, lowest_le base pos))))

    pub lanes_found : length eight ≡ 8 → {x : ℕ} → x ≡ ends g base → Lanes g base (set eight 0 x)
    lanes_found size {x} e = record {
      lane0 = get_or-set_same eight 0 x 0 (omega arith) ∙ e;
      lane1 = at 1 (omega arith) (omega arith) ∙ sym (lane 0 1 base (omega arith) (omega arith) (omega arith));
      lane2 = at 2 (omega arith) (omega arith) ∙ sym (lane 1 2 base (omega arith) (omega arith) (omega arith));
      lane3 = at 3 (omega arith) (omega arith);
      lane4 = at 4 (omega arith) (omega arith) ∙ sym (lane 2 4 base (omega arith) (omega arith) (omega arith));
      lane5 = at 5 (omega arith) (omega arith);
      lane6 = at 6 (omega arith) (omega arith);
      lane7 = at 7 (omega arith) (omega arith);
    }
      where
        at : (j : ℕ) → 0 < j → j < 8 → get_or (set eight 0 x) j 0 ≡ common g base j
        at j p l = get_or-set_other eight 0 j x 0 (λ q. omega arith) ∙ found j l

  -- ---- and the vertices 1 and 2, where a set has them beside a lower one

  module _ (m : base % 8 ≡ 0) (three : 3 ≤ g.size) {eight : List ℕ} (lanes : Lanes g base eight) {one two : ℕ} (is_one : one ≡ givers g 1) (is_two : two ≡ givers g 2) where
    with_one : bit_or base (2 ^ 1) ≡ 2 ^ 1 + base
    with_one = or_with base 1 (high base m 1 (omega arith))

    with_two : bit_or base (2 ^ 2) ≡ 2 ^ 2 + base
    with_two = or_with base 2 (high base m 2 (omega arith))

    with_both : bit_or (bit_or base (2 ^ 1)) (2 ^ 2) ≡ 6 + base
    with_both =
        rw with_one
        (or_with (2 ^ 1 + base) 2 (λ h. ⊎_elim (λ e. omega arith) (high base m 2 (omega arith)) ((in_with base 1 2 (high base m 1 (omega arith))).0 h)) ∙ omega arith)

    pub ends_3 : bit_or (get_or eight 3 0) (bit_where (bit_and (get_or eight 1 0) one) 2) ≡ ends g (base + 3)
    ends_3 = lane_more 3 1 1 base (omega arith) refl lanes.lane3 lanes.lane1 is_one ∙ sym (lane 0 3 (bit_or base (2 ^ 1)) (omega arith) (omega (arith, with_one)) (omega arith))

    pub ends_5 : bit_or (get_or eight 5 0) (bit_where (bit_and (get_or eight 1 0) two) 4) ≡ ends g (base + 5)
    ends_5 = lane_more 5 1 2 base (omega arith) refl lanes.lane5 lanes.lane1 is_two ∙ sym (lane 0 5 (bit_or base (2 ^ 2)) (omega arith) (omega (arith, with_two)) (omega arith))

    pub ends_6 : bit_or (get_or eight 6 0) (bit_where (bit_and (get_or eight 2 0) two) 4) ≡ ends g (base + 6)
    ends_6 = lane_more 6 2 2 base (omega arith) refl lanes.lane6 lanes.lane2 is_two ∙ sym (lane 1 6 (bit_or base (2 ^ 2)) (omega arith) (omega (arith, with_two)) (omega arith))

    pub ends_7 : {e3 e5 : ℕ} → e3 ≡ ends g (base + 3) → e5 ≡ ends g (base + 5)
        → bit_or (bit_or (get_or eight 7 0) (bit_where (bit_and e5 one) 2)) (bit_where (bit_and e3 two) 4) ≡ ends g (base + 7)
    ends_7 k3 k5 =
        lane_more 7 3 2 (bit_or base (2 ^ 1)) (omega arith) refl (lane_more 7 5 1 base (omega arith) refl lanes.lane7 k5 is_one) k3 is_two
        ∙ sym (lane 0 7 (bit_or (bit_or base (2 ^ 1)) (2 ^ 2)) (omega arith) (omega (arith, with_both)) (omega arith))

-- eight entries more
pub eight_more : (g : Graph) (base : ℕ) {found d t u : List ℕ} → found ≡ tabulate (λ j. ends g (base + j)) 8 → Changed (λ i. i ≡ i) base (ends g) d t
    → Changed (λ i. base ≤ i) (base + 8) (λ i. get_or found (i - base) 0) t u → Changed (λ i. i ≡ i) (base + 8) (ends g) d u
eight_more g base {found} {d} {t} {u} e c more = record {
  same_length = more.same_length ∙ c.same_length;
  done = λ i b _. go i b (dec_lt i base);
  kept = λ i m. more.kept i (λ b _. m b refl) ∙ c.kept i (λ b _. m (omega arith) refl);
}
  where
    go : (i : ℕ) → i < base + 8 → Dec (i < base) → get_or u i 0 ≡ ends g i
    go i b (yes less) = more.kept i (λ _ h. omega arith) ∙ c.done i less refl
    go i b (no n) =
        let sum : base + (i - base) ≡ i = omega arith in
        more.done i b (omega arith) ∙ ap (λ (l : List ℕ). get_or l (i - base) 0) e ∙ get_d_whole (λ j. ends g (base + j)) 8 (i - base) (omega arith) ∙ ap (ends g) sum

-- eight numbers are the values of a function
pub eight_listed : (f : ℕ → ℕ) {x0 x1 x2 x3 x4 x5 x6 x7 : ℕ} → x0 ≡ f 0 → x1 ≡ f 1 → x2 ≡ f 2 → x3 ≡ f 3 → x4 ≡ f 4 → x5 ≡ f 5 → x6 ≡ f 6 → x7 ≡ f 7
    → x0 ∷ x1 ∷ x2 ∷ x3 ∷ x4 ∷ x5 ∷ x6 ∷ x7 ∷ [] ≡ tabulate f 8
unfolding tabulate
eight_listed f e0 e1 e2 e3 e4 e5 e6 e7 = rw (e0, e1, e2, e3, e4, e5, e6, e7)

-- the number of sets is a multiple of eight
pub eights : (n : ℕ) → 3 ≤ n → 2 ^ n % 8 ≡ 0
eights (suc (suc (suc n))) _ = omega arith
eights zero h = absurd (omega arith)
eights (suc zero) h = absurd (omega arith)
eights (suc (suc zero)) h = absurd (omega arith)
