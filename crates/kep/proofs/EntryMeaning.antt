-- What an entry of the exchange table means, in lists of vertices.
use mathlib.Core.Bool.{Bool, ◌&&◌}
use mathlib.Core.List.{List, Memᴰ, [], ◌∷◌}
use mathlib.Core.Logic.{◌↔◌, ◌≢◌}
use mathlib.Core.Path.{refl, ◌≡◌, ◌∙◌}
use Prim.Native.Nat.{ℕ, ◌<◌, ◌^◌}
use native.Mathlib.Decide.{ℕ_discrete}
use native.Mathlib.Omega.{arith}
use lib.Dec.{T, eqb, eqb→eq}
use Rattle.kep.specs.Lists.{keep}
use Rattle.kep.specs.Graph.{Graph}
use Rattle.kep.specs.Exchange.{last_of, is_exchange, turned}
use Rattle.kep.specs.Sets.{set_of, has}
use Rattle.kep.specs.Table.{CanEnd}
use Rattle.kep.specs.computed.Table.{some, ends_at, exchanges, entry, marks}
use Rattle.kep.proofs.Tests.{and_iff, eq→eqb, and_both, differ_iff}
use Rattle.kep.proofs.Each.{keep_out, keep_in, each_at}
use Rattle.kep.proofs.SetLaws.{some_bit, not_in_empty}
use Rattle.kep.proofs.Vertices.{in_where, in_power}
use Rattle.kep.proofs.SetOf.{set_of_perm, has_set_of}
use Rattle.kep.proofs.Walks.{last_in}
use Rattle.kep.proofs.Rotations.{turned_perm}
use Rattle.kep.proofs.ExchangeFacts.{Told, exchange_is, is_exchange_lem, exchange_below, exchange_some, told_turned, Member, exchange_member, exchange_distinct, member_between}
use Rattle.kep.proofs.Listing.{exchanges_are}

some_out : {A : Type 0} (xs : List A) → T (some xs) → (x : A) × Memᴰ x xs
unfolding some
some_out [] t = absurd t
some_out (x ∷ xs) t = (x, mathlib.Core.List.Memᴰ.head refl)

some_in : {A : Type 0} (xs : List A) {x : A} → Memᴰ x xs → T (some xs)
unfolding some
some_in [] m = absurd (mathlib.Core.List.Memᴰ.not-nil m)
some_in (y ∷ ys) m = tt

module _ (g : Graph) (lc lp s : ℕ) where
  -- the tests of the definition of `entry`
  abbrev uses_and_ends : ℕ → List ℕ → Bool
  uses_and_ends v xs = eqb (set_of xs) s && ends_at v xs

  abbrev is_end : ℕ → Bool
  is_end v = some (keep (uses_and_ends v) (exchanges g lc lp))

  can_end : (v : ℕ) (xs : List ℕ) → Told g lc lp xs → set_of xs ≡ s → T (ends_at v xs) → CanEnd g lc lp s v
  unfolding ends_at
  can_end v [] told uses last = absurd last
  can_end v (x ∷ xs) told uses last =
      record { first = x; rest = xs; exchange = exchange_is g told.0; lowest = told.1; uses = uses; last = eqb→eq (last_of x xs) v last }

  -- the exchange that a possible end is the end of
  pub end_told : {v : ℕ} (e : CanEnd g lc lp s v) → Told g lc lp (e.first ∷ e.rest)
  end_told e = (is_exchange_lem g lc lp (e.first ∷ e.rest) e.exchange, e.lowest)

  end_out : (v : ℕ) → T (is_end v) → CanEnd g lc lp s v
  end_out v t =
      let (xs, m) = some_out (keep (uses_and_ends v) (exchanges g lc lp)) t in
      let (among, passes) = keep_out (uses_and_ends v) (exchanges g lc lp) m in
      let (uses, last) = (and_iff (eqb (set_of xs) s) (ends_at v xs)).0 passes in
      can_end v xs ((exchanges_are g lc lp xs).0 among) (eqb→eq (set_of xs) s uses) last

  end_in : (v : ℕ) → CanEnd g lc lp s v → T (is_end v)
  unfolding ends_at
  end_in v e =
      let xs : List ℕ = e.first ∷ e.rest in
      let among : Memᴰ xs (exchanges g lc lp) = (exchanges_are g lc lp xs).1 (end_told e) in
      let last : T (ends_at v xs) = eq→eqb (last_of e.first e.rest) v e.last in
      let passes : T (uses_and_ends v xs) = and_both (eqb (set_of xs) s) (ends_at v xs) (eq→eqb (set_of xs) s e.uses) last in
      some_in (keep (uses_and_ends v) (exchanges g lc lp)) (keep_in (uses_and_ends v) among passes)

  end_inside : (v : ℕ) → CanEnd g lc lp s v → v < g.size
  end_inside v e = rw e.last at (each_at (exchange_below g (end_told e).0) (last_in e.first e.rest))

  -- a vertex is in the entry of s exactly where it can stand last in an exchange that uses exactly s and begins at its lowest vertex
  pub entry_ends : (v : ℕ) → T (has (entry g lc lp s) v) ↔ CanEnd g lc lp s v
  unfolding entry
  entry_ends v = (λ t. end_out v ((in_where g.size is_end v).0 t).1, λ e. (in_where g.size is_end v).1 (end_inside v e, end_in v e))

  -- a set is marked exactly where an exchange told from its lowest vertex on uses exactly s
  pub marks_iff : T (marks g lc lp s) ↔ (entry g lc lp s ≢ 0)
  unfolding marks
  marks_iff = differ_iff (entry g lc lp s) 0

  pub marked_told : T (marks g lc lp s) → (xs : List ℕ) × Told g lc lp xs × (set_of xs ≡ s)
  marked_told t =
      let ne : entry g lc lp s ≢ 0 = marks_iff.0 t in
      let (v, b) = some_bit (entry g lc lp s) (omega arith) in
      let e : CanEnd g lc lp s v = (entry_ends v).0 b in
      (e.first ∷ e.rest, end_told e, e.uses)

  pub told_marked : (xs : List ℕ) → Told g lc lp xs → set_of xs ≡ s → T (marks g lc lp s)
  told_marked [] told uses = absurd (omega (arith, exchange_some g told.0))
  told_marked (x ∷ xs) told uses =
      let e : CanEnd g lc lp s (last_of x xs) =
      record { first = x; rest = xs; exchange = exchange_is g told.0; lowest = told.1; uses = uses; last = refl } in
      marks_iff.1 (λ z. not_in_empty (last_of x xs) (rw z at ((entry_ends (last_of x xs)).1 e)))

  -- the entry of s is not 0 exactly where some exchange, a cycle begun anywhere, uses exactly s
  pub entry_some : (entry g lc lp s ≢ 0) ↔ ((xs : List ℕ) × T (is_exchange g lc lp xs) × (set_of xs ≡ s))
  entry_some = (
    λ n. let (xs, told, uses) = marked_told (marks_iff.1 n) in (xs, exchange_is g told.0, uses),
    λ x. marks_iff.0 (told_marked (turned x.0) (told_turned g (is_exchange_lem g lc lp x.0 x.1)) (set_of_perm (turned_perm x.0) ∙ x.2)),
  )

  -- a set without a member is no exchange
  pub entry_memberless : ((v : ℕ) → T (has s v) → Member g v → ⊥) → entry g lc lp s ≡ 0
  entry_memberless memberless = elim (ℕ_discrete (entry g lc lp s) 0) [ yes e ↦ e | no n ↦ absurd (never (entry_some.0 n)) ]
    where
      never : (xs : List ℕ) × T (is_exchange g lc lp xs) × (set_of xs ≡ s) → ⊥
      never (xs, t, u) =
          let e = is_exchange_lem g lc lp xs t in
          let (v, m, i) = exchange_member g e in
          memberless v (rw u at ((has_set_of xs (exchange_distinct g e) v).1 m)) i

-- so the empty set has 0
pub entry_empty : (g : Graph) (lc lp : ℕ) → entry g lc lp 0 ≡ 0
entry_empty g lc lp = entry_memberless g lc lp 0 (λ v t m. not_in_empty v t)

-- and so has a lone altruist
pub entry_altruist : (g : Graph) (lc lp a : ℕ) → a < g.altruists → entry g lc lp (2 ^ a) ≡ 0
entry_altruist g lc lp a h = entry_memberless g lc lp (2 ^ a) (λ v t m. omega (arith, (in_power a v).0 t, member_between g v m))
