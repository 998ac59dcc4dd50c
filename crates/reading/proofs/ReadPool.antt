-- What pool bytes that are read hold: a pool value that passes its test, with arcs by the rule of document 01.
use mathlib.Core.Bool.{not, ◌||◌}
use mathlib.Core.List.{List, [], ◌∷◌, ◌++◌}
use mathlib.Core.Logic.{◌↔◌}
use mathlib.Core.Path.{◌≡◌, refl, ap, ◌∙◌}
use Prim.Native.Nat.{ℕ, zero, suc, ◌/◌, ◌%◌, ◌≤◌, ◌<◌}
use native.Mathlib.Decide.{dec_lt}
use native.Mathlib.Omega.{arith}
use borrow.Author.Tests.{lt-ltb, le-ltb}
use lib.Dec.{T, leb, ltb, eqb→eq, leb→le, le→leb, lt→ltb, T_not}
use lib.ListN.{length, get_or, take}
use Rattle.pool.specs.declared.value.Pool.{Pool}
use Rattle.kep.specs.Lists.{keep}
use Rattle.kep.specs.Sets.{has, counted}
use Rattle.kep.specs.Graph.{WellFormed}
use Rattle.pool.specs.Refusals.{Outcome, accepted}
use Rattle.pool.specs.Value.{graph_of, arc_allowed, arcs_fit, takers_fit, weeks_in, most_weeks_waited, weeks_fit, pool_fits}
use Rattle.reading.specs.Records.{length_tests, none_of, records_tested, read_pool, GivesTo}
use Rattle.reading.specs.computed.Pool.{record_gives, takers_of, weeks_at, pool_of}
use Rattle.reading.proofs.ForPlaces.{place_at, place_behind}
use Rattle.reading.specs.Fields.{record_width, most_records, class_of, grade_of, least_of, taken_of, weeks_of, tells_house, tells_member, pool_records}
use Rattle.kep.proofs.Tests.{is_false, and_left, and_right, and_iff₃, implies_iff}
use Rattle.kep.proofs.Each.{each_first, each_rest, keep_no, keep_one, keep_length}
use Rattle.kep.proofs.ListLaws.{all_below_lem}
use Rattle.kep.proofs.SetLaws.{not_in_empty}
use Rattle.kep.proofs.Vertices.{in_where}
use Rattle.pool.proofs.ValueLaws.{fits_iff, fits_formed, arc_iff}
use Rattle.kep.proofs.Cut.{length_cut}
use Rattle.pool.proofs.Tested.{all_held}
use Rattle.reading.proofs.RecordLaws.{other_kind, none_more}
use Rattle.reading.proofs.Passed.{Passes, first_passed, each_passed}
use Rattle.reading.proofs.Scanning.{houses}
use Rattle.reading.proofs.ReadLaws.{records_accepted}

-- ---- houses come first

-- no house comes after a member
none_later : {A : Type 0} {a : A} (before rs : List (List ℕ)) (o : Outcome A) → (T (none_of tells_member before) → ⊥) → records_tested before rs o ≡ accepted a
    → houses rs ≡ 0
unfolding keep
none_later before [] o n e = refl
none_later before (r ∷ rs) o n e =
    let (passed, rest) = first_passed o before r rs e in
    ap length (keep_no tells_house r rs (is_false (tells_house r) (λ t. n (passed.in_turn t))))
    ∙ none_later (before ++ (r ∷ [])) rs o (λ t. n (and_left (none_of tells_member before) (not (tells_member r)) (rw (none_more tells_member r before) at t))) rest

-- so a member's place is not below the number of houses
pub member_above : {A : Type 0} {a : A} (before rs : List (List ℕ)) (o : Outcome A) → records_tested before rs o ≡ accepted a
    → (v : ℕ) → T (tells_member (get_or rs v [])) → houses rs ≤ v
unfolding keep
member_above before [] o e v t = omega arith
member_above before (r ∷ rs) o e zero t =
    let (passed, rest) = first_passed o before r rs e in
    let met : T (none_of tells_member (before ++ (r ∷ []))) → ⊥ =
    λ n. T_not (tells_member r) (and_right (none_of tells_member before) (not (tells_member r)) (rw (none_more tells_member r before) at n)) t in
    omega (arith, ap length (keep_no tells_house r rs (other_kind r (eqb→eq _ _ t))) ∙ none_later (before ++ (r ∷ [])) rs o met rest)
member_above before (r ∷ rs) o e (suc v) t =
    omega (arith, keep_one tells_house r rs, member_above (before ++ (r ∷ [])) rs o (first_passed o before r rs e).1 v t)

-- what it is for one record to give to another
pub gives_iff : (giver taker : List ℕ)
    → T (record_gives giver taker) ↔ (T (tells_member taker) × T (has (taken_of taker) (class_of giver)) × T (leb (least_of taker) (grade_of giver)))
unfolding record_gives
gives_iff giver taker = and_iff₃ (tells_member taker) (has (taken_of taker) (class_of giver)) (leb (least_of taker) (grade_of giver))

-- ---- the pool of records that pass

module _ {A : Type 0} {a : A} (rs : List (List ℕ)) (few : length rs ≤ most_records) (o : Outcome A) (passed : records_tested [] rs o ≡ accepted a) where
  -- an arc leads from a place to a member's, by the rule
  pub in_gives : (u v : ℕ) → T (has (get_or (pool_of rs).gives u 0) v) ↔ ((u < length rs) × (v < length rs) × T (record_gives (get_or rs u []) (get_or rs v [])))
  unfolding pool_of
  in_gives u v = go (dec_lt u (length rs))
    where
      go : Dec (u < length rs) → T (has (get_or (pool_of rs).gives u 0) v) ↔ ((u < length rs) × (v < length rs) × T (record_gives (get_or rs u []) (get_or rs v [])))
      go (yes h) = rw (place_at (takers_of rs) (length rs) u h) (unfold takers_of in let (to, from) = in_where (length rs) (λ w. record_gives (get_or rs u []) (get_or rs w [])) v in (λ t. let (l, g) = to t in (h, l, g), λ p. from (p.1, p.2)))
      go (no n) = rw (place_behind (takers_of rs) (length rs) u (omega arith)) (λ t. absurd (not_in_empty v t), λ p. absurd (n p.0))

  -- it passes the test of a pool value
  pub records_fit : T (pool_fits (pool_of rs))
  unfolding pool_of arcs_fit takers_fit weeks_fit
  records_fit =
      (fits_iff (pool_of rs)).1 (
        few,
        keep_length tells_house rs,
        (all_below_lem (takers_fit (length rs) (houses rs) (pool_of rs).gives) 14).1
            (λ u _. (all_below_lem (λ v. not (has (get_or (pool_of rs).gives u 0) v) || arc_allowed (length rs) (houses rs) u v) 16).1
            (λ v _. (implies_iff (has (get_or (pool_of rs).gives u 0) v) (arc_allowed (length rs) (houses rs) u v)).1 (allowed u v))),
        (all_below_lem (λ u. leb (weeks_in (pool_of rs) u) (counted (ltb u (length rs)) most_weeks_waited)) 14).1
            (λ u _. le→leb (weeks_in (pool_of rs) u) (counted (ltb u (length rs)) most_weeks_waited) (in_weeks u (dec_lt u (length rs)))),
      )
    where
      in_weeks : (u : ℕ) → Dec (u < length rs) → weeks_in (pool_of rs) u ≤ counted (ltb u (length rs)) most_weeks_waited
      in_weeks u (yes h) = rw (lt-ltb u (length rs) h, place_at (weeks_at rs) (length rs) u h) (each_passed o [] rs passed u h).weeks
      in_weeks u (no n) = rw (le-ltb u (length rs) (omega arith), place_behind (weeks_at rs) (length rs) u (omega arith)) (omega arith)

      allowed : (u v : ℕ) → T (has (get_or (pool_of rs).gives u 0) v) → T (arc_allowed (length rs) (houses rs) u v)
      allowed u v t =
          let (lu, lv, g) = (in_gives u v).0 t in
          let member = ((gives_iff (get_or rs u []) (get_or rs v [])).0 g).0 in
          (and_iff₃ (ltb u (length rs)) (leb (houses rs) v) (ltb v (length rs))).1
          (lt→ltb u (length rs) lu, le→leb (houses rs) v (member_above [] rs o passed v member), lt→ltb v (length rs) lv)

-- ---- pool bytes that are read

module _ (bytes : List ℕ) {p : Pool} (read : read_pool bytes ≡ accepted p) where
  -- their records pass, and the pool is made of them
  pub read_tests : (length bytes % record_width ≡ 0) × (length bytes / record_width ≤ most_records) × (records_tested [] (pool_records bytes) (accepted (pool_of (pool_records bytes))) ≡ accepted p)
  unfolding read_pool
  read_tests =
      let (hs, rest) = all_held (length_tests bytes) 0 (records_tested [] (pool_records bytes) (accepted (pool_of (pool_records bytes)))) read in
      (eqb→eq (length bytes % record_width) 0 (each_first hs), leb→le (length bytes / record_width) most_records (each_first (each_rest hs)), rest)

  pub read_is : p ≡ pool_of (pool_records bytes)
  read_is = records_accepted [] (pool_records bytes) read_tests.2

  pub read_few : length (pool_records bytes) ≤ most_records
  read_few = rw (length_cut record_width (length bytes / record_width) bytes) read_tests.1

  -- it has a place for each record
  pub read_records : p.size ≡ length (pool_records bytes)
  unfolding pool_of
  read_records = ap (λ q. q.size) read_is

  pub read_size : p.size ≡ length bytes / record_width
  read_size = read_records ∙ length_cut record_width (length bytes / record_width) bytes

  -- and no record meets a cause
  pub read_passed : (u : ℕ) → u < p.size → Passes (take u (pool_records bytes)) (get_or (pool_records bytes) u [])
  read_passed u there = each_passed (accepted (pool_of (pool_records bytes))) [] (pool_records bytes) read_tests.2 u (omega (arith, read_records))

  -- an accepted pool passes the test of a pool value, and its graph is well formed
  pub read_fits : T (pool_fits p)
  read_fits = rw read_is (records_fit (pool_records bytes) read_few (accepted (pool_of (pool_records bytes))) read_tests.2)

  pub read_formed : WellFormed (graph_of p)
  read_formed = fits_formed p read_fits

  -- its weeks are those of the records
  pub read_weeks : (u : ℕ) → u < p.size → weeks_in p u ≡ weeks_of (get_or (pool_records bytes) u [])
  unfolding pool_of
  read_weeks u there = ap (λ q. weeks_in q u) read_is ∙ place_at (weeks_at (pool_records bytes)) (length (pool_records bytes)) u (omega (arith, read_records))

  -- in its graph u has an arc to v exactly where document 01 says that u gives to v
  pub read_arcs : (u v : ℕ) → T ((graph_of p).arc u v) ↔ GivesTo bytes u v
  read_arcs u v =
      let rs = pool_records bytes in
      let (to, from) = in_gives rs read_few (accepted (pool_of rs)) read_tests.2 u v in
      let (rule, back) = gives_iff (get_or rs u []) (get_or rs v []) in
      rw read_is (
        λ t. let (a, b, c) = (arc_iff (pool_of rs) u v).0 t in
            let (lu, lv, g) = to c in
            let (m, k, l) = rule g in
            record { giver_there = there lu; taker_there = there lv; taker_member = m; class_taken = k; grade_enough = leb→le (least_of (get_or rs v [])) (grade_of (get_or rs u [])) l },
        λ h. let lu = places h.giver_there in let lv = places h.taker_there in
            (arc_iff (pool_of rs) u v).1 (size lu, size lv, from (lu, lv, back (h.taker_member, h.class_taken, le→leb (least_of (get_or rs v [])) (grade_of (get_or rs u [])) h.grade_enough))),
      )
    where
      there : {i : ℕ} → i < length (pool_records bytes) → i < length bytes / record_width
      there h = rw (length_cut record_width (length bytes / record_width) bytes) at h

      places : {i : ℕ} → i < length bytes / record_width → i < length (pool_records bytes)
      places h = rw (length_cut record_width (length bytes / record_width) bytes) h

      size : {i : ℕ} → i < length (pool_records bytes) → i < (pool_of (pool_records bytes)).size
      size h = unfold pool_of in h
