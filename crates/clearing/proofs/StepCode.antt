-- A step of choosing as code makes it: the tables that it reads hold their meaning, so the paths that it searches are those of the
-- graph; the search begun, and the exchange that it takes.
use mathlib.Core.Bool.{Bool, true, false}
use mathlib.Core.List.{List, [], ◌∷◌, ◌++◌}
use mathlib.Core.Logic.{◌↔◌}
use mathlib.Core.Path.{◌≡◌, refl, sym, ap, ap₂, ◌∙◌}
use Prim.Native.Nat.{ℕ, zero, suc, ◌+◌, ◌-◌, ◌^◌, ◌≤◌, ◌<◌}
use native.Mathlib.Omega.{arith}
use borrow.Author.Tests.{lt-ltb, le-ltb}
use borrow.Rule.Slice.PartMut.{mid_of, put_mid, mid_len}
use lib.Dec.{T, eqb, eqb→eq, ltb, leb, leb→le}
use Rattle.std.proofs.Common.{Option, Some, None}
use lib.ListN.{length, get_or, take, drop, replicate, length-take}
use lib.ListN.{set as put}
use lib.Pow.{pow_mono}
use lib.Seq.{get_or-take}
use Rattle.pool.specs.declared.value.Pool.{Pool}
use Rattle.pool.specs.declared.limits.Limits.{Limits}
use Rattle.kep.specs.Lists.{tabulate}
use Rattle.kep.specs.Sets.{has, Part, counted, set_of, lowest_below, with_vertex, worth_of}
use Rattle.kep.specs.inner.Lowest.{lowest}
use Rattle.pool.specs.Value.{graph_of}
use Rattle.kep.specs.Exchange.{last_of}
use Rattle.kep.specs.Graph.{givers}
use Rattle.kep.specs.computed.Table.{best_of, entry}
use Rattle.tables.specs.Calls.{worth_in}
use Rattle.sets.specs.declared.vertex_set.VertexSet.{VertexSet}
use Rattle.clearing.specs.declared.step.Taken.{Taken}
use Rattle.kep.specs.Plan.{record_of, kind_of}
use Rattle.kep.specs.Table.{member_worth}
use Rattle.kep.specs.inner.Paths.{Field, Completes}
use Rattle.clearing.specs.inner.Seeking.{Ways, field_of, ends_of, KeptBut, Entering, Sought, nowhere, found}
use Rattle.clearing.specs.inner.Taking.{TablesHold, Choosing, Clean, more_by, goal_by, pool_ways, pool_field, Stepped, nothing, first}
use Rattle.kep.proofs.Each.{each_first}
use Rattle.kep.proofs.Operations.{with_new}
use Rattle.kep.proofs.Parts.{part_le, part_trans, rest_part}
use Rattle.kep.proofs.SetLaws.{IsLowest, lowest_is, lowest_below_lem, has_below, has_full, not_in_empty}
use Rattle.kep.proofs.Tables.{length_tabulate, get_d_whole}
use Rattle.kep.proofs.Tests.{and_iff, eq→eqb}
use Rattle.pool.proofs.ValueLaws.{fits_size, fits_formed, arc_iff}
use Rattle.kep.proofs.Vertices.{in_power, in_without, power_part}
use Rattle.kep.proofs.Ends.{in_givers}
use Rattle.kep.proofs.ExchangeFacts.{Exchange, cycle, chain, member_between, exchange_distinct, exchange_below, fits_few, small_fits}
use Rattle.kep.proofs.Worth.{list_worth}
use Rattle.clearing.proofs.RecordCode.{vertices_written, record_written, kind_alone}
use Rattle.kep.proofs.Completion.{MayEnd, Means, good_iff}
use Rattle.clearing.proofs.Seek.{last_fresh, some_none, some_same}

-- ---- tables that hold their meaning

front_long : (f : ℕ → ℕ) (k : ℕ) (table : List ℕ) → take k table ≡ tabulate f k → k ≤ length table
front_long f k table e = omega (arith, ap length e, length-take k table, length_tabulate f k)

front_at : (f : ℕ → ℕ) (k : ℕ) (table : List ℕ) → take k table ≡ tabulate f k → (i : ℕ) → i < k → get_or table i 0 ≡ f i
front_at f k table e i l = sym (get_or-take k table i 0 l) ∙ ap (λ (t : List ℕ). get_or t i 0) e ∙ get_d_whole f k i l

abbrev entry_in : Pool → Limits → ℕ → ℕ
entry_in p l = entry (graph_of p) l.cycle l.chain

abbrev best_in : Pool → Limits → ℕ → ℕ
best_in p l = best_of (worth_in p) (graph_of p) l.cycle l.chain

module _ {p : Pool} {l : Limits} {exchanges best : List ℕ} (hold : TablesHold p l exchanges best) where
  pub exchanges_long : 2 ^ p.size ≤ length exchanges
  exchanges_long = front_long (entry_in p l) (2 ^ p.size) exchanges hold.exchanges_hold

  pub best_long : 2 ^ p.size ≤ length best
  best_long = front_long (best_in p l) (2 ^ p.size) best hold.best_hold

  pub best_at : (s : ℕ) → s < 2 ^ p.size → get_or best s 0 ≡ best_in p l s
  best_at = front_at (best_in p l) (2 ^ p.size) best hold.best_hold

  -- ---- so paths go by the graph and its best

  pub means : (free : ℕ) → free < 2 ^ p.size → Means (graph_of p) l.cycle l.chain (worth_in p) (pool_field p exchanges best free)
  unfolding ends_of
  means free wide = record { arcs = arcs; ends = λ u part. ends u part }
    where
      arcs : (u v : ℕ) → T (has free u) → T (has free v) → T (has (get_or p.gives u 0) v) ↔ T ((graph_of p).arc u v)
      arcs u v i k = (λ t. (arc_iff p u v).1 (has_below p.size free u wide i, has_below p.size free v wide k, t), λ t. ((arc_iff p u v).0 t).2)

      in_counted : (b : Bool) (e u : ℕ) → T (has (counted b e) u) ↔ (T b × T (has e u))
      in_counted true e u = (λ t. (tt, t), λ h. h.1)
      in_counted false e u = (λ t. absurd (not_in_empty u t), λ h. absurd h.0)

      ends : {S : ℕ} (u : ℕ) → Part S free → T (has (ends_of (pool_ways p exchanges best free) S) u) ↔ MayEnd (graph_of p) l.cycle l.chain (worth_in p) free S u
      ends {S} u part =
          let below : S < 2 ^ p.size = omega (arith, part_le part) in
          let reached = get_or best S 0 + get_or best (free - S) 0 in
          let entry_is : get_or exchanges S 0 ≡ entry_in p l S = front_at (entry_in p l) (2 ^ p.size) exchanges hold.exchanges_hold S below in
          let r = in_counted (eqb reached (get_or best free 0)) (get_or exchanges S 0) u in (
            λ t. record { last = rw entry_is at (r.0 t).1; exact = rw (best_at S below, best_at (free - S) (omega arith), best_at free wide) at (eqb→eq reached (get_or best free 0) (r.0 t).0) },
            λ m. r.1 (eq→eqb reached (get_or best free 0) (rw (best_at S below, best_at (free - S) (omega arith), best_at free wide) m.exact), rw entry_is m.last),
          )

-- ---- the search from the lowest free vertex on

-- at first nothing has failed
pub all_clean : (sets : ℕ) {free : ℕ} → Clean free (replicate sets 0)
all_clean sets = record { none = λ S i l. zeros sets S }
  where
    zeros : (n i : ℕ) → ◌≡◌ {A = ℕ} (get_or (replicate n 0) i 0) 0
    zeros zero i = refl
    zeros (suc n) zero = refl
    zeros (suc n) (suc i) = zeros n i

module _ {p : Pool} {l : Limits} {gs exchanges best : List ℕ} (c : Choosing p l gs exchanges best) {free v : ℕ}
    (some : 0 < free)
    (wide : free < 2 ^ p.size)
    (found_low : v ≡ lowest_below 16 free)
  where
    abbrev F : Field
    F = pool_field p exchanges best free

    pub small : free < 2 ^ 14
    small = let all : 2 ^ p.size ≤ 2 ^ 14 = pow_mono (fits_size p c.fits) in omega arith

    pub low : v ≡ lowest free
    low = found_low ∙ lowest_below_lem 16 free some (omega (arith, small))

    is_low : IsLowest free (lowest free)
    is_low = lowest_is free some

    pub first_lt : v < 14
    first_lt = rw low (has_below 14 free (lowest free) small is_low.is_in)

    -- within the limits there is room for it
    module _ {more : ℕ} (more_is : more ≡ more_by (ltb v p.altruists) l.cycle l.chain) where
      pub more_le : more ≤ 14
      more_le = rw more_is (by (ltb v p.altruists))
        where
          both : (l.cycle ≤ 14) × (l.chain ≤ 14)
          both = let (a, b) = (and_iff (leb l.cycle 14) (leb l.chain 14)).0 c.fitting_limits in (leb→le l.cycle 14 a, leb→le l.chain 14 b)

          by : (b : Bool) → more_by b l.cycle l.chain ≤ 14
          by true = both.1
          by false = omega (arith, both.0)

      pub part_long : length (mid_of 1 (1 + more - 1) (v ∷ replicate 15 255)) ≡ more_by (ltb v p.altruists) l.cycle l.chain
      part_long = mid_len 1 (1 + more) (v ∷ replicate 15 255) (omega (arith, more_le)) ∙ omega arith

    -- what completes it is a good exchange
    exchange : (ys : List ℕ) → Completes F (2 ^ lowest free) (lowest free) ys → Exchange (graph_of p) l.cycle l.chain (lowest free ∷ ys)
    exchange ys k = ((good_iff (graph_of p) l.cycle l.chain (worth_in p) (means c.hold free wide) is_low ys).1 k).told.0

    -- no longer than the limits allow
    short : (ys : List ℕ) → Completes F (2 ^ lowest free) (lowest free) ys → length ys ≤ more_by (ltb (lowest free) p.altruists) l.cycle l.chain
    short ys k = go (exchange ys k)
      where
        go : Exchange (graph_of p) l.cycle l.chain (lowest free ∷ ys) → length ys ≤ more_by (ltb (lowest free) p.altruists) l.cycle l.chain
        go (cycle x) = rw (le-ltb (lowest free) p.altruists (member_between (graph_of p) (lowest free) (each_first x.members)).0) (omega (arith, x.short))
        go (chain x) = rw (lt-ltb (lowest free) p.altruists x.altruist) x.short

    -- where it goes on, it ends at a vertex of the goal
    aims : (x : ℕ) (ys : List ℕ) → Completes F (2 ^ lowest free) (lowest free) (x ∷ ys) → T (has (pool_ways p exchanges best free).goal (last_of x ys))
    unfolding last_of
    aims x ys k = go (exchange (x ∷ ys) k)
      where
        go : Exchange (graph_of p) l.cycle l.chain (lowest free ∷ x ∷ ys) → T (has (pool_ways p exchanges best free).goal (last_of x ys))
        go (cycle e) =
            rw (le-ltb (lowest free) p.altruists (member_between (graph_of p) (lowest free) (each_first e.members)).0)
            ((in_givers (graph_of p) (fits_formed p c.fits) (lowest free) (last_of x ys)).1 e.closes)
        go (chain e) =
            let below = has_below 14 free (last_of x ys) small (last_fresh F ys (2 ^ lowest free) (lowest free) x k).0 in
            rw (lt-ltb (lowest free) p.altruists e.altruist) (has_full 16 (last_of x ys) (omega arith))

    -- as the code makes it
    module _ {goal path : ℕ}
        (goal_is : goal ≡ goal_by (ltb v p.altruists) (get_or gs v 0))
        (path_is : path ≡ with_vertex 16 0 v)
      where
        abbrev step : Ways
        step = record { gives = p.gives; exchanges = exchanges; best = best; free = free; goal = goal }

        step_is : step ≡ pool_ways p exchanges best free
        step_is = rw (goal_is, c.givers_are, get_d_whole (givers (graph_of p)) 14 v first_lt, low)

        first_bit : path ≡ 2 ^ lowest free
        first_bit = path_is ∙ with_new 16 0 (omega arith) v (omega (arith, first_lt)) (not_in_empty v) ∙ rw low (omega arith)

        pub starts : {more : ℕ} → more ≡ more_by (ltb v p.altruists) l.cycle l.chain → {dead : List ℕ} → Clean free dead → Entering step dead path v more
        starts e clean =
            rw (first_bit, step_is, e, low)
            (record {
              part = power_part free (lowest free) is_low.is_in;
              last = (in_power (lowest free) (lowest free)).1 refl;
              short = short;
              aims = aims;
              failed = record { sound = λ path x i l h k. not_in_empty x (rw (clean.none path i l) at h) };
            })

        -- what it keeps is on sets with the lowest free vertex, so it is clean on the others
        still_clean : {dead dead' : List ℕ} → Clean free dead → KeptBut path v dead dead' → Clean (free - 2 ^ lowest free) dead'
        still_clean {dead} {dead'} clean kept = record { none = none }
          where
            rest : Part (free - 2 ^ lowest free) free
            rest = rest_part (power_part free (lowest free) is_low.is_in)

            kept_low : KeptBut (2 ^ lowest free) (lowest free) dead dead'
            kept_low = rw (first_bit, low) at kept

            none : (S : ℕ) → Part S (free - 2 ^ lowest free) → 0 < S → get_or dead' S 0 ≡ 0
            none S i some_in =
                kept_low.same S
                (λ k. ((in_without free (lowest free) (lowest free) is_low.is_in).0 (i.within (lowest free) (k.within (lowest free) ((in_power (lowest free) (lowest free)).1 refl)))).1 refl)
                (λ e. omega arith)
                ∙ clean.none S (part_trans i rest) some_in

        -- ---- what it keeps and takes

        module _ {dead dead' filled written : List ℕ} {told : Option VertexSet}
            (clean : Clean free dead)
            (kept : KeptBut path v dead dead')
            (sought : Sought (field_of step) path v filled told written)
          where
            sought_low : Sought F (2 ^ lowest free) (lowest free) filled told written
            sought_low = rw (first_bit, step_is, low) at sought

            pub none_taken : told ≡ None → {taken : Option Taken} → taken ≡ None → Clean (free - 2 ^ lowest free) dead' × Stepped (graph_of p) F taken
            none_taken z {taken} e = (still_clean clean kept, go sought_low)
              where
                go : Sought F (2 ^ lowest free) (lowest free) filled told written → Stepped (graph_of p) F taken
                go (nowhere t b n) = nothing e n
                go (found w x t b) = absurd (some_none t z)

            -- the record as the code writes it: filled up, the vertices from the first on, the kind and the members
            module _ {more : ℕ} (more_is : more ≡ more_by (ltb v p.altruists) l.cycle l.chain) (filled_is : filled ≡ mid_of 1 (1 + more - 1) (v ∷ replicate 15 255)) where
              abbrev record_made : ℕ → ℕ → List ℕ
              record_made kind members = put (put (put_mid 1 (1 + more - 1) (v ∷ replicate 15 255) written) 14 kind) 15 members

              record_is : (ys : List ℕ) {kind members : ℕ} → Completes F (2 ^ lowest free) (lowest free) ys → written ≡ ys ++ drop (length ys) filled → kind ≡ kind_of (graph_of p) (v ∷ [])
                  → members ≡ worth_of (member_worth (graph_of p)) p.size (set_of (lowest free ∷ ys)) → record_made kind members ≡ record_of (graph_of p) (lowest free ∷ ys)
              record_is ys {kind} {members} w b k m =
                  let g = graph_of p in
                  let x = exchange ys w in
                  let few = fits_few (small_fits (fits_size p c.fits)) x in
                  let inside : length ys ≤ 1 + more - 1 = omega (arith, short ys w, more_is ∙ ap (λ (u : ℕ). more_by (ltb u p.altruists) l.cycle l.chain) low) in
                  ap (λ (l : List ℕ). put (put l 14 kind) 15 members)
                  (ap (put_mid 1 (1 + more - 1) (v ∷ replicate 15 255)) b ∙ rw (filled_is, low) (vertices_written (lowest free) ys inside (omega (arith, more_le more_is)) few))
                  ∙ record_written g (lowest free ∷ ys) few (k ∙ rw low (kind_alone g (lowest free) ys)) (m ∙ list_worth (member_worth g) p.size (lowest free ∷ ys) (exchange_distinct g x) (exchange_below g x))

              pub one_taken : {set : VertexSet} {kind members : ℕ} → told ≡ Some set → kind ≡ kind_of (graph_of p) (v ∷ []) → members ≡ worth_of (member_worth (graph_of p)) p.size set.0
                  → Clean (free - 2 ^ lowest free) dead' × Stepped (graph_of p) F (Some (record { set = set; bytes = record_made kind members }))
              unfolding set_of
              one_taken {set} {kind} {members} z k m = (still_clean clean kept, go sought_low)
                where
                  go : Sought F (2 ^ lowest free) (lowest free) filled told written → Stepped (graph_of p) F (Some (record { set = set; bytes = record_made kind members }))
                  go (nowhere t b n) = absurd (some_none z t)
                  go (found {ys = ys} w x t b) =
                      let set_is : set ≡ record { 0 = set_of (lowest free ∷ ys) } = some_same (sym z ∙ t) ∙ ap (λ (s : ℕ). record { 0 = s }) (omega arith) in
                      let bytes_are = record_is ys w b k (m ∙ ap (λ (s : VertexSet). worth_of (member_worth (graph_of p)) p.size s.0) set_is) in
                      first {ys = ys} w x (ap₂ (λ (s : VertexSet) (r : List ℕ). Some (record { set = s; bytes = r })) set_is bytes_are)
