-- How many of a list are tried; and trying the parts of a set, a group at a time, for any value f t of trying t, up to the first of the value `all`.
use mathlib.Core.Bool.{Bool, true, false}
use mathlib.Core.List.{List, [], ◌∷◌, ◌++◌, Memᴰ}
use mathlib.Core.Path.{◌≡◌, refl, sym, ap, ap₂, ◌∙◌}
use Prim.Native.Nat.{ℕ, suc, max, ◌+◌, ◌-◌, ◌≤◌, ◌<◌}
use native.Mathlib.Decide.{dec_lt}
use native.Mathlib.Nat.{zero-max}
use native.Mathlib.Omega.{arith}
use lib.Dec.{eqb}
use lib.ListN.{length}
use borrow.Author.Tests.{eq-eqb, ne_eqb}
use Rattle.kep.specs.Sets.{Part}
use Rattle.kep.specs.Trying.{falling_parts, tried_of}
use Rattle.kep.specs.computed.Table.{greatest_of}
use Rattle.kep.specs.inner.BestFilling.{mark, Tries}
use Rattle.kep.proofs.Greatest.{greatest_least, greatest_append}
use Rattle.kep.proofs.Down.{in_falling, falling_length}

-- ---- how many of a list are tried

module _ (p : ℕ → Bool) (t : ℕ) (ts : List ℕ) where
  pub tried_yes : p t ≡ true → tried_of p (t ∷ ts) ≡ 1
  unfolding tried_of
  tried_yes e = ap {B = ℕ} (λ (b : Bool). elim b [ true ↦ 1 | false ↦ suc (tried_of p ts) ]) e

  pub tried_no : p t ≡ false → tried_of p (t ∷ ts) ≡ suc (tried_of p ts)
  unfolding tried_of
  tried_no e = ap {B = ℕ} (λ (b : Bool). elim b [ true ↦ 1 | false ↦ suc (tried_of p ts) ]) e

-- the last is tried, whatever its test
pub one_tried : (p : ℕ → Bool) (t : ℕ) → tried_of p (t ∷ []) ≡ 1
unfolding tried_of
one_tried p t = go (p t)
  where
    go : (b : Bool) → ◌≡◌ {A = ℕ} (elim b [ true ↦ 1 | false ↦ 1 ]) 1
    go true = refl
    go false = refl

-- it depends only on the tests of those in the list
pub tried_same : (p q : ℕ → Bool) (ts : List ℕ) → ((t : ℕ) → Memᴰ t ts → p t ≡ q t) → tried_of p ts ≡ tried_of q ts
unfolding tried_of
tried_same p q [] h = refl
tried_same p q (t ∷ ts) h =
    ap₂ {C = ℕ} (λ (b : Bool) (k : ℕ). elim b [ true ↦ 1 | false ↦ suc k ]) (h t (Memᴰ.head refl)) (tried_same p q ts (λ u i. h u (Memᴰ.tail i)))

tried_length : (p : ℕ → Bool) (ts : List ℕ) → tried_of p ts ≤ length ts
unfolding tried_of
tried_length p [] = omega arith
tried_length p (t ∷ ts) = go (p t) (tried_length p ts)
  where
    go : (b : Bool) → tried_of p ts ≤ length ts → elim b as (λ _. ℕ) [ true ↦ 1 | false ↦ suc (tried_of p ts) ] ≤ suc (length ts)
    go true ih = omega arith
    go false ih = omega arith

-- at most as many as a set has parts
pub tried_fit : (p : ℕ → Bool) (s : ℕ) → tried_of p (falling_parts s) ≤ s
tried_fit p s = omega (arith, tried_length p (falling_parts s), falling_length s)

-- ---- groups

max_sub : (x y k : ℕ) → max x y - k ≡ max (x - k) (y - k)
max_sub x y k = omega arith

max_assoc : (x y z : ℕ) → max (max x y) z ≡ max x (max y z)
max_assoc x y z = omega arith

-- a group's greatest value joined to the greatest so far, above the mark
joined : (n m x y : ℕ) → n - mark ≡ max m x - mark → max n y - mark ≡ max m (max x y) - mark
joined n m x y e = max_sub n y mark ∙ ap (λ (z : ℕ). max z (y - mark)) e ∙ sym (max_sub (max m x) y mark) ∙ ap (λ (z : ℕ). z - mark) (max_assoc m x y)

-- what is not exceeded is the greatest
reached : (x g d : ℕ) → x ≤ g → g - mark ≡ d - mark → d ≤ x → x - mark ≡ d - mark
reached x g d l e h = omega arith

module _ (f : ℕ → ℕ) (all : ℕ) where
  abbrev ends : ℕ → Bool
  ends t = eqb (f t) all

  abbrev count : List ℕ → ℕ
  count ts = tried_of (λ t. eqb (f t) all) ts

  -- a group without the value `all` is passed,
  count_over : (ts us : List ℕ) → greatest_of f ts < all → count (ts ++ us) ≡ length ts + count us
  unfolding greatest_of
  count_over [] us l = omega arith
  count_over (t ∷ ts) us l = omega (arith, tried_no ends t (ts ++ us) (ne_eqb (f t) all (λ e. omega arith)), count_over ts us (omega arith))

  -- and with it ends the trying
  count_within : (ts us : List ℕ) → 0 < all → greatest_of f ts ≡ all → count (ts ++ us) ≡ count ts
  unfolding greatest_of
  count_within [] us p e = absurd (omega arith)
  count_within (t ∷ ts) us p e = go (dec_lt (f t) all) (count_within ts us p)
    where
      go : Dec (f t < all) → (greatest_of f ts ≡ all → count (ts ++ us) ≡ count ts) → count ((t ∷ ts) ++ us) ≡ count (t ∷ ts)
      go (yes l) ih = let no = ne_eqb (f t) all (λ e. omega arith) in tried_no ends t (ts ++ us) no ∙ ap suc (ih (omega arith)) ∙ sym (tried_no ends t ts no)
      go (no n) ih = let yes = eq-eqb (f t) all (omega arith) in tried_yes ends t (ts ++ us) yes ∙ sym (tried_yes ends t ts yes)

  -- `most` is the greatest value so far, of `before` parts of s, and none ended it: those listed are left to try
  pub record Trying (s : ℕ) (left : List ℕ) (most before : ℕ) : Type 0 where
    pub greatest : max most (greatest_of f left) - mark ≡ greatest_of f (falling_parts s) - mark
    pub tried : before + count left ≡ count (falling_parts s)
    pub under : most < all

  pub trying_start : (s : ℕ) → 0 < all → Trying s (falling_parts s) 0 0
  trying_start s p = record { greatest = ap (λ (x : ℕ). x - mark) (zero-max (greatest_of f (falling_parts s))); tried = omega arith; under = p }

  module _ {s most before : ℕ} (ts us : List ℕ) (now : Trying s (ts ++ us) most before) where
    -- no part of the group ends it; values up to the mark may be left out
    pub trying_over : (next : ℕ) {k : ℕ} → next - mark ≡ max most (greatest_of f ts) - mark → next < all → greatest_of f ts < all → k ≡ before + length ts → Trying s us next k
    trying_over next e l g d = record {
      greatest = joined next most (greatest_of f ts) (greatest_of f us) e ∙ ap (λ (x : ℕ). max most x - mark) (sym (greatest_append f ts us)) ∙ now.greatest;
      tried = omega (arith, now.tried, count_over ts us g);
      under = l;
    }

    -- one does
    pub trying_ends : {next k : ℕ} → ((t : ℕ) → 0 < t → Part t s → f t ≤ all) → next ≡ max most (greatest_of f ts) → next ≡ all → k ≡ before + count ts → Tries f all s next k
    trying_ends {next} under e d c =
        let bound : greatest_of f (falling_parts s) ≤ all = greatest_least f (falling_parts s) all (λ t i. let (p, h) = (in_falling s t).0 i in under t p h) in
        record {
          greatest = reached next (max most (greatest_of f (ts ++ us))) (greatest_of f (falling_parts s)) (omega (arith, greatest_append f ts us)) now.greatest (omega arith);
          count = omega (arith, now.tried, now.under, count_within ts us (omega (arith, now.under)) (omega (arith, now.under)));
        }

  -- the last group: whether it ends the trying or not
  pub trying_done : {s most before next k : ℕ} (ts : List ℕ) → Trying s ts most before → next ≡ max most (greatest_of f ts) → k ≡ before + count ts → Tries f all s next k
  trying_done ts now e d = record { greatest = ap (λ (x : ℕ). x - mark) e ∙ now.greatest; count = d ∙ now.tried }

  -- ---- counts that fit

  pub tries_fit : {s most tried : ℕ} → Tries f all s most tried → tried ≤ s
  tries_fit {s} h = omega (arith, h.count, tried_fit (λ t. eqb (f t) all) s)

  pub trying_fit : {s most before : ℕ} (left : List ℕ) → Trying s left most before → before ≤ s
  trying_fit {s} left h = omega (arith, h.tried, tried_fit (λ t. eqb (f t) all) s)
