-- Trying a set's parts from the set down, four at a time: for a part t of the set without its two lowest vertices a and b, t with both,
-- with b, with a, and t alone.
use mathlib.Core.Bool.{Bool, true, false}
use mathlib.Core.List.{List, [], ◌∷◌, ◌++◌}
use mathlib.Core.Path.{◌≡◌, refl, sym, ap, ◌∙◌}
use Prim.Native.Nat.{ℕ, suc, min, max, ◌+◌, ◌-◌, ◌≤◌, ◌<◌}
use native.Mathlib.Numerals.{lt_of_le_of_ne}
use native.Mathlib.Omega.{arith}
use lib.Bits.{bit_and}
use lib.Dec.{eqb}
use lib.ListN.{get_or}
use borrow.Author.Tests.{eq-eqb, ne_eqb}
use Rattle.kep.specs.Sets.{Part}
use Rattle.kep.specs.Trying.{falling_parts, tried_of}
use Rattle.kep.specs.computed.Table.{greatest_of}
use Rattle.kep.specs.inner.BestFilling.{mark, looked, Tries, CanTry, TwoAside, Unmarked}
use Rattle.kep.proofs.Parts.{part_refl}
use Rattle.kep.proofs.Down.{parts_from, from_step, from_none}
use Rattle.kep.proofs.Twos.{two_sum, two_some, part_both, part_second, part_first, part_neither, by_fours, last_three}
use Rattle.kep.proofs.Trying.{tried_yes, tried_no, one_tried, Trying, trying_start, trying_over, trying_ends, trying_done}

-- how many of the values of a group are tried, where trying ends at `all`; for a group of three the fourth is not there
abbrev pub place : ℕ → List ℕ → ℕ
place all values = tried_of (λ x. eqb x all) values

pub place_here : (all : ℕ) {x : ℕ} (xs : List ℕ) → x ≡ all → place all (x ∷ xs) ≡ 1
place_here all {x} xs e = tried_yes (λ y. eqb y all) x xs (eq-eqb x all e)

pub place_later : (all : ℕ) {x : ℕ} (xs : List ℕ) → (x ≡ all → ⊥) → place all (x ∷ xs) ≡ suc (place all xs)
place_later all {x} xs n = tried_no (λ y. eqb y all) x xs (ne_eqb x all n)

-- whatever the fourth is, three are tried at most without it
pub place_three : (all c d e g : ℕ) → min (place all (c ∷ d ∷ e ∷ g ∷ [])) 3 ≡ place all (c ∷ d ∷ e ∷ [])
unfolding tried_of
place_three all c d e g = go (eqb c all) (eqb d all) (eqb e all) (eqb g all)
  where
    go : (i j k l : Bool)
        → min (elim i as (λ _. ℕ) [ true ↦ 1 | false ↦ suc (elim j as (λ _. ℕ) [ true ↦ 1 | false ↦ suc (elim k as (λ _. ℕ) [ true ↦ 1 | false ↦ suc (elim l as (λ _. ℕ) [ true ↦ 1 | false ↦ 1 ]) ]) ]) ]) 3
        ≡ elim i as (λ _. ℕ) [ true ↦ 1 | false ↦ suc (elim j as (λ _. ℕ) [ true ↦ 1 | false ↦ suc (elim k as (λ _. ℕ) [ true ↦ 1 | false ↦ 1 ]) ]) ]
    go true j k l = refl
    go false true k l = refl
    go false false true l = refl
    go false false false true = refl
    go false false false false = refl

module _ {offers table : List ℕ} {all s a b : ℕ} (can : CanTry offers table all s) (l : TwoAside s a b) where
  -- what a part brings
  abbrev f : ℕ → ℕ
  f t = looked offers table s t

  abbrev r : ℕ
  r = s - a - b

  pub fours_start : Trying (looked offers table s) all s (parts_from (b + (s - a - b + a)) s) 0 0
  unfolding falling_parts
  fours_start = let e : b + (r + a) ≡ s = omega (arith, two_sum l) in rw e (trying_start f all s (omega (arith, can.above)))

  module _ {t most before : ℕ} (h : Part t (s - a - b)) (now : Trying (looked offers table s) all s (parts_from (b + (t + a)) s) most before) where
    abbrev behind : List ℕ
    behind = parts_from (b + (bit_and (t - 1) r + a)) s

    abbrev four : List ℕ
    four = (b + (t + a)) ∷ (b + t) ∷ (t + a) ∷ t ∷ []

    here : 0 < t → Trying f all s (four ++ behind) most before
    here p = rw (by_fours l h p) at now

    four_most : {k : ℕ} → f (b + (t + a)) ≤ k → f (b + t) ≤ k → f (t + a) ≤ k → f t ≤ k → greatest_of f four ≤ k
    unfolding greatest_of
    four_most i j k o = omega arith

    -- a group in which none is marked is passed over
    module _ (p : 0 < t) (u : Unmarked offers a b t) where
      idle : greatest_of f four ≤ mark
      idle =
          let (some_a, some_b) = two_some l in
          four_most (can.idle (b + (t + a)) (omega arith) (part_both l h) u.both) (can.idle (b + t) (omega arith) (part_second l h) u.second)
          (can.idle (t + a) (omega arith) (part_first l h) u.first) (can.idle t p (part_neither l h) u.alone)

      pub fours_idle : Trying (looked offers table s) all s (parts_from (b + (bit_and (t - 1) (s - a - b) + a)) s) most (before + 4)
      fours_idle = trying_over f all four behind (here p) most (omega (arith, idle)) now.under (omega (arith, idle, can.above)) refl

    -- the values of a group
    module _ {c d e : ℕ} (vc : c ≡ looked offers table s (b + (t + a))) (vd : d ≡ looked offers table s (b + t)) (ve : e ≡ looked offers table s (t + a)) where
      module _ {g next : ℕ} (p : 0 < t) (vg : g ≡ looked offers table s t) (n : next ≡ max (max most (max c (max d e))) g) where
        greatest_four : next ≡ max most (greatest_of f four)
        unfolding greatest_of
        greatest_four = n ∙ rw (vc, vd, ve, vg) (omega arith)

        four_le : greatest_of f four ≤ all
        four_le =
            let (some_a, some_b) = two_some l in
            four_most (can.under (b + (t + a)) (omega arith) (part_both l h)) (can.under (b + t) (omega arith) (part_second l h))
            (can.under (t + a) (omega arith) (part_first l h)) (can.under t p (part_neither l h))

        -- none of them ends the trying
        pub fours_next : (next ≡ all → ⊥) → Trying (looked offers table s) all s (parts_from (b + (bit_and (t - 1) (s - a - b) + a)) s) next (before + 4)
        fours_next other =
            let less : next < all = lt_of_le_of_ne (omega (arith, greatest_four, four_le, now.under)) other in
            trying_over f all four behind (here p) next (ap (λ (x : ℕ). x - mark) greatest_four) less (omega (arith, greatest_four)) refl

        -- one of them does
        pub fours_end : next ≡ all → {k : ℕ} → ((x : ℕ) → k ≡ tried_of (λ y. eqb y all) (c ∷ d ∷ e ∷ x ∷ [])) → Tries (looked offers table s) all s next (before + k)
        unfolding tried_of
        fours_end x q = trying_ends f all four behind (here p) can.under greatest_four x (ap (λ (y : ℕ). before + y) (q (f t) ∙ rw (vc, vd, ve)))

      -- the last group: the empty part is not tried
      pub last_end : t ≡ 0 → {next k : ℕ} → next ≡ max most (max c (max d e)) → ((x : ℕ) → k ≡ tried_of (λ y. eqb y all) (c ∷ d ∷ e ∷ x ∷ []))
          → Tries (looked offers table s) all s next (before + min k 3)
      unfolding tried_of greatest_of
      last_end z {k = k} n q =
          trying_done f all ((b + (t + a)) ∷ (b + t) ∷ (t + a) ∷ []) (rw (last_three l h z) at now)
          (n ∙ rw (vc, vd, ve) (omega arith))
          (ap (λ (y : ℕ). before + y) (ap (λ (y : ℕ). min y 3) (q 0) ∙ place_three all c d e 0 ∙ rw (vc, vd, ve)))

-- ---- a set that has no other part than itself, which is not marked

pub lone_tries : {offers table : List ℕ} {all s : ℕ} → CanTry offers table all s → get_or offers s 0 < mark → bit_and (s - 1) s ≡ 0 → Tries (looked offers table s) all s 0 1
unfolding falling_parts greatest_of
lone_tries {offers} {table} {all} {s} can less z =
    let alone : falling_parts s ≡ s ∷ [] = from_step s (part_refl s) can.some ∙ rw (z, from_none s) in
    record {
      greatest = rw alone (omega (arith, can.idle s can.some (part_refl s) less));
      count = rw alone (sym (one_tried (λ t. eqb (looked offers table s t) all) s));
    }
