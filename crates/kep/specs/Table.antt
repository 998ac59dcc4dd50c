-- The meaning of the two tables.
use Rattle.std.specs.Prelude.{◌≡◌, Bool, true, ℕ, ◌+◌, ◌≤◌, ◌<◌, T, ltb}
use mathlib.Core.List.{List, [], ◌∷◌, Memᴰ}
use Rattle.kep.specs.Lists.{all, total, Pairwise}
use Rattle.kep.specs.Graph.{Graph, is_member}
use Rattle.kep.specs.Exchange.{is_exchange, last_of}
use Rattle.kep.specs.Sets.{set_of, Part, Disjoint, counted}

-- ---- the exchange table

-- the list begins with its lowest vertex
unfoldable pub lowest_first : List ℕ → Bool
lowest_first [] = true
lowest_first (x ∷ xs) = all (λ y. ltb x y) xs

-- v can stand last in an exchange that uses exactly s and begins at the lowest vertex of s
pub record CanEnd (g : Graph) (lc lp s v : ℕ) : Type 0 where
  pub first : ℕ
  pub rest : List ℕ
  pub exchange : T (is_exchange g lc lp (first ∷ rest))
  pub lowest : T (lowest_first (first ∷ rest))
  pub uses : set_of (first ∷ rest) ≡ s
  pub last : last_of first rest ≡ v

-- ---- what a vertex counts: members and weeks of members, as "a house's weeks count nowhere" (P3)

-- a member counts 1, an altruist nothing
abbrev pub member_worth : Graph → ℕ → ℕ
member_worth g x = counted (is_member g x) 1

-- the weeks that a member has waited
abbrev pub weeks_worth : Graph → (ℕ → ℕ) → ℕ → ℕ
weeks_worth g weeks x = counted (is_member g x) (weeks x)

-- the members among the vertices listed
abbrev pub served : Graph → List ℕ → ℕ
served g xs = total (member_worth g) xs

-- and the weeks that they have waited
abbrev pub waited : Graph → (ℕ → ℕ) → List ℕ → ℕ
waited g weeks xs = total (weeks_worth g weeks) xs

-- what a member counts beside its weeks where both stand in one number, "members × 65,536 + weeks"
abbrev pub per_member : ℕ
per_member = 65536

-- what a vertex counts there
abbrev pub member_weeks : Graph → (ℕ → ℕ) → ℕ → ℕ
member_weeks g weeks x = counted (is_member g x) (per_member + weeks x)

-- ---- the best table, for any worth v of sets and any marks m

-- t is a nonempty marked part of s
pub record Marked (m : ℕ → Bool) (s t : ℕ) : Type 0 where
  pub nonempty : 0 < t
  pub marked : T (m t)
  pub inside : Part t s

-- pairwise disjoint nonempty marked parts of s: `best v m s` is what some family is worth, and none is worth more
pub record Family (m : ℕ → Bool) (s : ℕ) (ts : List ℕ) : Type 0 where
  pub each : (t : ℕ) → Memᴰ t ts → Marked m s t
  pub disjoint : Pairwise Disjoint ts

-- the most members that a family can hold, and the most weeks of those that hold so many: some holds a and b,
pub record MostHeld (members weeks : ℕ → ℕ) (m : ℕ → Bool) (s a b : ℕ) : Type 0 where
  pub attained : (ts : List ℕ) × Family m s ts × (total members ts ≡ a) × (total weeks ts ≡ b)
  -- none holds more members,
  pub most_members : {ts : List ℕ} → Family m s ts → total members ts ≤ a
  -- and of those that hold as many none holds more weeks.
  pub most_weeks : {ts : List ℕ} → Family m s ts → total members ts ≡ a → total weeks ts ≤ b
