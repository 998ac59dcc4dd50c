-- One record: it meets no cause exactly where it is the record of an exchange that may come next.
use mathlib.Core.Bool.{Bool, ◌&&◌, and-true, and_assoc, and_comm}
use mathlib.Core.List.{List, [], ◌∷◌, ◌++◌}
use mathlib.Core.Logic.{⊎_elim}
use mathlib.Core.Path.{◌≡◌}
use Prim.Native.Nat.{ℕ, ◌-◌, ◌≤◌, ◌<◌}
use native.Mathlib.Omega.{arith}
use lib.Dec.{eqb, ltb, leb, T, leb→le, le→leb, ltb→lt, lt→ltb, eqb→eq, eqb_refl}
use lib.ListN.{length, get_or}
use Rattle.kep.specs.Lists.{Each, none, also, all, distinct}
use Rattle.kep.specs.Graph.{Graph, WellFormed, is_altruist}
use Rattle.kep.specs.Exchange.{walk, last_of, head_of}
use Rattle.kep.specs.Table.{lowest_first, served}
use Rattle.kep.specs.Plan.{kind_of, record_of, FitRecords}
use Rattle.plans.specs.Check.{vertices_of, filler_of, none_lower, lists_vertices, fresh, rising, joined, within_limits, ends_right, record_tests}
use Rattle.kep.proofs.Tests.{and_left, and_right, and_both, and_iff, passes?, is_true, is_false}
use Rattle.kep.proofs.Each.{each_map, each_both, each_rest}
use Rattle.kep.proofs.ListLaws.{all_each, each_all, distinct_first, distinct_append_right}
use Rattle.pool.specs.Causes.{Pass}
use Rattle.kep.proofs.Walks.{lower_lowest_first}
use Rattle.kep.proofs.ExchangeFacts.{Exchange, Told, exchange_below, exchange_some, exchange_walk, fits_few}
use Rattle.kep.proofs.Fits.{fits, fits_chain, fits_cycle, exchange_fits, fits_exchange}
use Rattle.kep.proofs.Canonical.{head_least}
use Rattle.plans.proofs.Records.{Places, filler_all, record_vertices, record_filler, record_kind_lem, record_count, record_back}

-- ---- the tests together

-- what a record that meets no cause passes
pub record Passes (g : Graph) (lc lp : ℕ) (new : List ℕ → Bool) (least : ℕ) (r : List ℕ) : Type 0 where
  pub some : 1 ≤ length (vertices_of r)
  pub below : Each (λ x. x < g.size) (vertices_of r)
  pub filler : T (all (λ b. eqb b 255) (filler_of r))
  pub new_here : T (new (vertices_of r))
  pub rises : T (rising least (vertices_of r))
  pub arcs : T (joined g (vertices_of r))
  pub size : T (within_limits g lc lp (vertices_of r))
  pub kind : get_or r 14 0 ≡ kind_of g (vertices_of r)
  pub count : get_or r 15 0 ≡ served g (vertices_of r)

module _ (g : Graph) (lc lp : ℕ) (new : List ℕ → Bool) (least : ℕ) (r : List ℕ) where
  pub no_cause_passes : Each Pass (record_tests g lc lp new least r) → Passes g lc lp new least r
  unfolding record_tests lists_vertices ends_right
  no_cause_passes tests = go tests
    where
      xs : List ℕ
      xs = vertices_of r

      go : Each Pass ((12, lists_vertices g r) ∷ (13, new xs) ∷ (14, rising least xs) ∷ (15, joined g xs) ∷ (16, within_limits g lc lp xs) ∷ (17, ends_right g r) ∷ [])
          → Passes g lc lp new least r
      go (also p (also f (also o (also j (also s (also c none)))))) = record {
        some = leb→le 1 (length xs) (search (and_left, and_right));
        below = each_map (λ x. ltb→lt x g.size) (all_each (λ x. ltb x g.size) xs (search (and_left, and_right)));
        filler = search and_right;
        new_here = f;
        rises = o;
        arcs = j;
        size = s;
        kind = eqb→eq (get_or r 14 0) (kind_of g xs) (search and_left);
        count = eqb→eq (get_or r 15 0) (served g xs) (search and_right);
      }

  pub passes_no_cause : Passes g lc lp new least r → Each Pass (record_tests g lc lp new least r)
  unfolding record_tests lists_vertices ends_right
  passes_no_cause p =
      let xs = vertices_of r in
      let some = le→leb 1 (length xs) p.some in
      let below = each_all (λ x. ltb x g.size) (each_map (λ x. lt→ltb x g.size) p.below) in
      let kind : T (eqb (get_or r 14 0) (kind_of g xs)) = rw p.kind (eqb_refl (kind_of g xs)) in
      let count : T (eqb (get_or r 15 0) (served g xs)) = rw p.count (eqb_refl (served g xs)) in
      let places : T (lists_vertices g r) = search and_both in
      let end : T (ends_right g r) = search and_both in
      also places (also p.new_here (also p.rises (also p.arcs (also p.size (also end none)))))

-- ---- what the tests say of the vertices

-- xs is an exchange, told from its lowest vertex on, that may come next: after the vertices `met`, with a first vertex not under `least`
pub record Next (g : Graph) (lc lp : ℕ) (met : List ℕ) (least : ℕ) (xs : List ℕ) : Type 0 where
  pub told : Told g lc lp xs
  pub apart : T (distinct (met ++ xs))
  pub after : least ≤ head_of xs

module _ (g : Graph) (lc lp : ℕ) where
  -- the tests for arcs and length pass where the list is a walk that fits
  tests_fit : (x : ℕ) (xs : List ℕ)
      → (joined g (x ∷ xs) && within_limits g lc lp (x ∷ xs)) ≡ (walk g x xs && fits g lc lp x (length (x ∷ xs)) (last_of x xs))
  unfolding joined within_limits
  tests_fit x xs = ⊎_elim as_chain as_cycle (passes? (is_altruist g x))
    where
      Same : Type 0
      Same = (joined g (x ∷ xs) && within_limits g lc lp (x ∷ xs)) ≡ (walk g x xs && fits g lc lp x (length (x ∷ xs)) (last_of x xs))

      as_chain : T (is_altruist g x) → Same
      as_chain a = rw (fits_chain g lc lp x (length xs) (last_of x xs) a, is_true (is_altruist g x) a, within_limits, and-true)

      as_cycle : (T (is_altruist g x) → ⊥) → Same
      as_cycle m =
          let closes = g.arc (last_of x xs) x in
          let short = leb (length (x ∷ xs)) lc in
          rw (fits_cycle g lc lp x (length (x ∷ xs)) (last_of x xs) m, is_false (is_altruist g x) m, within_limits, and_assoc, and_comm closes short)

  exchange_tests : (xs : List ℕ) → Exchange g lc lp xs → T (joined g xs) × T (within_limits g lc lp xs)
  exchange_tests [] e = absurd (omega (arith, exchange_some g e))
  exchange_tests (x ∷ xs) e =
      (and_iff (joined g (x ∷ xs)) (within_limits g lc lp (x ∷ xs))).0
      (rw tests_fit (and_both (walk g x xs) (fits g lc lp x (length (x ∷ xs)) (last_of x xs)) (exchange_walk g e) (exchange_fits g lc lp x xs e)))

  -- that for order passes for a list that begins at its lowest vertex, not under the least
  lowest_rising : (least : ℕ) (xs : List ℕ) → T (lowest_first xs) → least ≤ head_of xs → T (rising least xs)
  unfolding rising
  lowest_rising least xs l h =
      let above = each_map (λ y. le→leb (head_of xs) y) (head_least xs l) in
      and_both (leb least (head_of xs)) (none_lower (head_of xs) xs) (le→leb least (head_of xs) h) (each_all (λ y. leb (head_of xs) y) above)

  -- vertices that pass the tests are an exchange that may come next
  next_passed : WellFormed g → (met : List ℕ) (least : ℕ) (xs : List ℕ) → 1 ≤ length xs
      → T (fresh met xs) → T (rising least xs) → T (joined g xs) → T (within_limits g lc lp xs) → Next g lc lp met least xs
  unfolding fresh rising head_of
  next_passed wf met least [] some f r j s = absurd (omega arith)
  next_passed wf met least (x ∷ xs) some f r j s =
      let apart : T (distinct (x ∷ xs)) = distinct_append_right met (x ∷ xs) f in
      let (after, above) = (and_iff (leb least x) (all (λ y. leb x y) (x ∷ xs))).0 r in
      let other = each_both (each_rest (all_each (λ y. leb x y) (x ∷ xs) above)) (distinct_first x xs apart) in
      let both = and_both (joined g (x ∷ xs)) (within_limits g lc lp (x ∷ xs)) j s in
      let (path, fit) = (and_iff (walk g x xs) (fits g lc lp x (length (x ∷ xs)) (last_of x xs))).0 (rw tests_fit at both) in
      record {
        told = (fits_exchange g lc lp wf x xs apart path fit, lower_lowest_first x (each_map (λ y h. omega (arith, leb→le x y h.0, h.1)) other));
        apart = f;
        after = leb→le least x after;
      }

  -- ---- a record and its exchange

  -- sixteen bytes that meet no cause are the record of such an exchange
  pub record_accepted : WellFormed g → (met : List ℕ) (least : ℕ) (r : List ℕ) → length r ≡ 16
      → Each Pass (record_tests g lc lp (fresh met) least r) → Next g lc lp met least (vertices_of r) × (record_of g (vertices_of r) ≡ r)
  record_accepted wf met least r whole e =
      let p = no_cause_passes g lc lp (fresh met) least r e in (
        next_passed wf met least (vertices_of r) p.some p.new_here p.rises p.arcs p.size,
        record_back r whole g p.filler p.kind p.count,
      )

  module _ (fit : FitRecords g lc lp) where
    exchange_places : {xs : List ℕ} → Exchange g lc lp xs → Places xs
    exchange_places h = each_map (λ x l. omega (arith, fit.below_filler)) (exchange_below g h)

    -- an exchange is read back from its record
    pub exchange_back : {xs : List ℕ} → Exchange g lc lp xs → vertices_of (record_of g xs) ≡ xs
    exchange_back {xs} h = record_vertices g xs (fits_few fit h) (exchange_places h)

    -- the record of an exchange that may come next meets no cause
    pub record_passes : (met : List ℕ) (least : ℕ) {xs : List ℕ} → Next g lc lp met least xs
        → Each Pass (record_tests g lc lp (fresh met) least (record_of g xs))
    unfolding fresh
    record_passes met least {xs} n =
        let x = n.told.0 in
        let back = exchange_back x in
        let tests = exchange_tests xs x in
        passes_no_cause g lc lp (fresh met) least (record_of g xs) record {
          some = rw back (exchange_some g x);
          below = rw back (exchange_below g x);
          filler = rw (record_filler g xs (fits_few fit x) (exchange_places x)) (filler_all (14 - length xs));
          new_here = rw back n.apart;
          rises = rw back (lowest_rising least xs n.told.1 n.after);
          arcs = rw back tests.0;
          size = rw back tests.1;
          kind = rw back (record_kind_lem g xs (fits_few fit x));
          count = rw back (record_count g xs (fits_few fit x));
        }
