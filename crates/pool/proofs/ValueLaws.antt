-- A pool value that passes its test (6): its arcs, and its graph.
use mathlib.Core.Bool.{Bool, true, false, not, ◌&&◌, ◌||◌}
use mathlib.Core.List.{List}
use mathlib.Core.Logic.{◌↔◌}
use mathlib.Core.Path.{◌≡◌}
use Prim.Native.Nat.{ℕ, ◌*◌, ◌%◌, ◌^◌, ◌≤◌, ◌<◌}
use native.Mathlib.Decide.{dec_lt}
use native.Mathlib.Nat.{le_trans, mul-le-mul_right}
use native.Mathlib.Omega.{arith}
use borrow.Author.Tests.{lt-ltb}
use lib.Dec.{T, eqb, ltb, leb, ltb→lt, lt→ltb, leb→le, le→leb}
use lib.ListN.{length, get_or, get_or-eq_default}
use lib.Pow.{pow_mono}
use Rattle.pool.specs.declared.value.Pool.{Pool}
use Rattle.kep.specs.Sets.{has, counted, set_where, worth_of, Part}
use Rattle.kep.specs.Graph.{WellFormed, is_member, givers}
use Rattle.kep.specs.Table.{weeks_worth, per_member}
use Rattle.pool.specs.Value.{graph_of, arc_allowed, takers_fit, arcs_fit, weeks_in, most_weeks_waited, weeks_fit, pool_fits}
use Rattle.kep.proofs.Tests.{and_iff, and_iff₃, implies_iff, same_test}
use Rattle.kep.proofs.ListLaws.{all_below_lem}
use Rattle.kep.proofs.SetLaws.{has_below, not_in_empty}
use Rattle.kep.proofs.Vertices.{in_where}
use Rattle.kep.proofs.Operations.{one_shl, none_left}
use Rattle.kep.proofs.SetLoops.{where_reach}
use Rattle.kep.proofs.Worth.{counted_le, worth_le}

-- the takers allowed: the members where u is a place, and else nobody
abbrev pub takers_allowed : ℕ → ℕ → ℕ → ℕ
takers_allowed size altruists u = counted (ltb u size) (set_where 16 (λ v. leb altruists v && ltb v size))

module _ (size altruists : ℕ) (gives : List ℕ) where
  in_allowed : (u v : ℕ) → v < 16 → T (has (takers_allowed size altruists u) v) ↔ T (arc_allowed size altruists u v)
  in_allowed u v l = go (ltb u size)
    where
      go : (a : Bool) → T (has (counted a (set_where 16 (λ v. leb altruists v && ltb v size))) v) ↔ T (a && leb altruists v && ltb v size)
      go true = let (to, from) = in_where 16 (λ v. leb altruists v && ltb v size) v in (λ t. (to t).1, λ t. from (l, t))
      go false = (not_in_empty v, λ t. absurd t)

  -- the arcs from u are allowed where its takers are a part of those
  takers_part : (u : ℕ) → get_or gives u 0 < 2 ^ 16 → T (takers_fit size altruists gives u) ↔ Part (get_or gives u 0) (takers_allowed size altruists u)
  unfolding takers_fit
  takers_part u b = (
    λ t. record { within = λ v h. let l = has_below 16 (get_or gives u 0) v b h in (in_allowed u v l).1 ((implies v).0 ((all_below_lem fits 16).0 t v l) h) },
    λ p. (all_below_lem fits 16).1 (λ v l. (implies v).1 (λ h. (in_allowed u v l).0 (p.within v h))),
  )
    where
      fits : ℕ → Bool
      fits v = not (has (get_or gives u 0) v) || arc_allowed size altruists u v

      implies : (v : ℕ) → T (fits v) ↔ (T (has (get_or gives u 0) v) → T (arc_allowed size altruists u v))
      implies v = implies_iff (has (get_or gives u 0) v) (arc_allowed size altruists u v)

  -- as code tests it
  pub takers_test : (u : ℕ) → get_or gives u 0 < 2 ^ 16 → {allowed : ℕ} → allowed ≡ takers_allowed size altruists u
      → eqb (set_where 16 (λ v. has (get_or gives u 0) v && not (has allowed v))) 0 ≡ takers_fit size altruists gives u
  takers_test u b {allowed} e =
      let (to, from) = none_left 16 (get_or gives u 0) b allowed in
      same_test _ (takers_fit size altruists gives u) (λ t. (takers_part u b).1 (rw e at (to t))) (λ t. from (rw e ((takers_part u b).0 t)))

-- ---- the test

module _ (p : Pool) where
  pub fits_iff : T (pool_fits p) ↔ ((p.size ≤ 14) × (p.altruists ≤ p.size) × T (arcs_fit p.size p.altruists p.gives) × T (weeks_fit p.size p.weeks))
  fits_iff =
      let (to, from) = and_iff₃ (leb p.size 14) (leb p.altruists p.size) (arcs_fit p.size p.altruists p.gives) in
      let last = and_iff (leb p.size 14 && leb p.altruists p.size && arcs_fit p.size p.altruists p.gives) (weeks_fit p.size p.weeks) in (
        λ t. let (a, b, c) = to (last.0 t).0 in (leb→le p.size 14 a, leb→le p.altruists p.size b, c, (last.0 t).1),
        λ h. last.1 (from (le→leb p.size 14 h.0, le→leb p.altruists p.size h.1, h.2), h.3),
      )

-- ---- the graph of a pool value that passes

module _ (p : Pool) where
  -- an arc leads from a place to a place, and the set says so
  pub arc_iff : (u v : ℕ) → T ((graph_of p).arc u v) ↔ ((u < p.size) × (v < p.size) × T (has (get_or p.gives u 0) v))
  arc_iff u v =
      let (to, from) = and_iff₃ (ltb u p.size) (ltb v p.size) (has (get_or p.gives u 0) v) in (
        λ t. let (a, b, c) = to t in (ltb→lt u p.size a, ltb→lt v p.size b, c),
        λ h. from (lt→ltb u p.size h.0, lt→ltb v p.size h.1, h.2),
      )

  -- a value has room for 14 places, so the givers of v are among the first 14 vertices
  pub givers_found : (v : ℕ) → length p.gives ≡ 14 → set_where 14 (λ u. (graph_of p).arc u v) ≡ givers (graph_of p) v
  unfolding givers
  givers_found v room = where_reach 14 p.size (λ u. (graph_of p).arc u v) (λ u t. let (here, _, arc) = (arc_iff u v).0 t in (inside u arc, here))
    where
      inside : (u : ℕ) → T (has (get_or p.gives u 0) v) → u < 14
      inside u arc =
          elim (dec_lt u 14) [
            | yes l ↦ l
            | no n ↦ absurd (not_in_empty v (rw (get_or-eq_default p.gives 0 {n = u} (omega arith)) at arc))
          ]

  module _ (fits : T (pool_fits p)) where
    pub fits_size : p.size ≤ 14
    fits_size = ((fits_iff p).0 fits).0

    pub fits_altruists : p.altruists ≤ p.size
    fits_altruists = ((fits_iff p).0 fits).1

    -- no place has waited longer than it may
    pub fits_weeks : (v : ℕ) → v < p.size → weeks_in p v ≤ most_weeks_waited
    unfolding weeks_fit
    fits_weeks v l =
        let within = (all_below_lem (λ v. leb (weeks_in p v) (counted (ltb v p.size) most_weeks_waited)) 14).0 ((fits_iff p).0 fits).3 v (omega (arith, fits_size)) in
        rw (lt-ltb v p.size l) at (leb→le (weeks_in p v) (counted (ltb v p.size) most_weeks_waited) within)

    -- so the weeks in any set are less than a member counts
    pub few_weeks : (s : ℕ) → worth_of (weeks_worth (graph_of p) (weeks_in p)) p.size s < per_member
    few_weeks s =
        let most = worth_le (weeks_worth (graph_of p) (weeks_in p)) p.size s most_weeks_waited (λ x l. le_trans (counted_le (is_member (graph_of p) x) (weeks_in p x)) (fits_weeks x l)) in
        omega (arith, most, mul-le-mul_right most_weeks_waited fits_size)

    -- its arcs lead from places that are there to members
    pub fits_formed : WellFormed (graph_of p)
    unfolding arcs_fit takers_fit
    fits_formed = record {
      giver_below = λ u v t. ((arc_iff u v).0 t).0;
      taker_above = λ u v t. member u v t;
      taker_below = λ u v t. ((arc_iff u v).0 t).1;
    }
      where
        member : (u v : ℕ) → T ((graph_of p).arc u v) → p.altruists ≤ v
        member u v t =
            let (lu, lv, h) = (arc_iff u v).0 t in
            let allowed = (all_below_lem (takers_fit p.size p.altruists p.gives) 14).0 ((fits_iff p).0 fits).2 u (omega (arith, fits_size)) in
            let here = (all_below_lem (λ x. not (has (get_or p.gives u 0) x) || arc_allowed p.size p.altruists u x) 16).0 allowed v (omega (arith, fits_size)) in
            let (a, b, c) = (and_iff₃ (ltb u p.size) (leb p.altruists v) (ltb v p.size)).0 ((implies_iff (has (get_or p.gives u 0) v) (arc_allowed p.size p.altruists u v)).0 here h) in
            leb→le p.altruists v b

    -- a table has as many entries as there are sets, and a set has 14 bits
    pub entries_are : 1 * 2 ^ p.size % 2 ^ 64 ≡ 2 ^ p.size
    entries_are = one_shl 64 p.size (omega (arith, fits_size))

    pub entries_few : 2 ^ p.size ≤ 2 ^ 14
    entries_few = pow_mono fits_size
