-- How the best table is filled: what code works out for a set, and what it finds by trying the set's parts. That this gives `best` and `tried` is
-- proved (`entry_found`, `tried_found`).
use Rattle.std.specs.Prelude.{Bool, List, ◌≡◌, ℕ, ◌+◌, ◌-◌, ◌^◌, ◌≤◌, ◌<◌, eqb, length, get_or}
use Rattle.std.specs.Int.Bits.{bit_and}
use Rattle.kep.specs.Sets.{Part, counted, worth_of}
use Rattle.kep.specs.Trying.{falling_parts, tried_of}
use Rattle.kep.specs.computed.Table.{greatest_of}

-- what each vertex below `size` is worth, as a list: so little that any set is worth less than the mark
pub record Worths (size : ℕ) (each : List ℕ) : Type 0 where
  pub few : size ≤ 14
  pub told : size ≤ length each
  pub small : (x : ℕ) → x < size → get_or each x 0 < 2 ^ 26

-- the worth of a set by that list
abbrev pub worth_by : List ℕ → ℕ → ℕ → ℕ
worth_by each size s = worth_of (λ x. get_or each x 0) size s

-- above the worth of any set: it rides on what a marked set offers, so that a sum tells whether its part is marked
abbrev pub mark : ℕ
mark = 2 ^ 30

-- what a set offers: its worth, and the mark where it is marked
unfoldable pub offer : (ℕ → ℕ) → (ℕ → Bool) → ℕ → ℕ
offer v m t = v t + counted (m t) mark

-- what trying the part t of s brings: what it offers, and the entry of what it leaves
abbrev pub looked : List ℕ → List ℕ → ℕ → ℕ → ℕ
looked offers table s t = get_or offers t 0 + get_or table (s - t) 0

-- ---- trying the parts of s, for any value f t of trying t, up to the first of the value `all`

-- what comes of it: what the greatest value has above the mark, and how many parts were tried
pub record Tries (f : ℕ → ℕ) (all s most tried : ℕ) : Type 0 where
  pub greatest : most - mark ≡ greatest_of f (falling_parts s) - mark
  pub count : tried ≡ tried_of (λ t. eqb (f t) all) (falling_parts s)

-- what it wants of the tables looked up: they reach to s, no part brings more than `all`, which is above the mark and fits 32 bits, and
-- a part that is not marked brings no more than the mark
pub record CanTry (offers table : List ℕ) (all s : ℕ) : Type 0 where
  pub some : 0 < s
  pub above : mark < all
  pub fits : all < 2 ^ 32
  pub offered : s < length offers
  pub held : s < length table
  pub under : (t : ℕ) → 0 < t → Part t s → looked offers table s t ≤ all
  pub idle : (t : ℕ) → 0 < t → Part t s → get_or offers t 0 < mark → looked offers table s t ≤ mark

-- a is the lowest vertex of s, as a set
pub record Aside (s a : ℕ) : Type 0 where
  pub some : 0 < s
  pub lowest : a ≡ s - bit_and (s - 1) s

-- a is the lowest vertex of s, and b the next
pub record TwoAside (s a b : ℕ) : Type 0 where
  pub first : Aside s a
  pub second : Aside (s - a) b

-- of the parts that a part t of what is left stands for, with both, with b, with a and alone, none is marked, by what they offer
pub record Unmarked (offers : List ℕ) (a b t : ℕ) : Type 0 where
  pub both : get_or offers (b + (t + a)) 0 < mark
  pub second : get_or offers (b + t) 0 < mark
  pub first : get_or offers (t + a) 0 < mark
  pub alone : get_or offers t 0 < mark
