-- The first good exchange by paths that go on. A path from the lowest free vertex on is known by the set S of its vertices and its
-- last vertex u. The leftmost way, always on to the lowest next vertex from which the path can be completed to a good exchange and
-- ending only where there is none, gives the good exchange that comes first.
use mathlib.Core.List.{List, [], ◌∷◌}
use mathlib.Core.Logic.{◌↔◌, ◌⊎◌, inl, inr, ⊎_elim, ◌≢◌}
use mathlib.Core.Path.{◌≡◌, sym, refl}
use Prim.Native.Nat.{ℕ, ◌+◌, ◌-◌, ◌^◌}
use native.Mathlib.Omega.{arith}
use lib.Dec.{T}
use Rattle.kep.specs.Lists.{distinct, Each, also, none}
use Rattle.kep.specs.Graph.{Graph}
use Rattle.kep.specs.Exchange.{walk, last_of}
use Rattle.kep.specs.Sets.{has, set_of, Part}
use Rattle.kep.specs.Table.{CanEnd, lowest_first}
use Rattle.kep.specs.computed.Table.{best_of, entry}
use Rattle.kep.specs.inner.Paths.{Field, Next, Completes, Completable, Leftmost, stop, go_on}
use Rattle.kep.proofs.Tests.{above, compared, Compared, below, equal}
use Rattle.kep.proofs.Each.{each_map, each_first, each_both, each_rest}
use Rattle.kep.proofs.ListLaws.{distinct_more, distinct_first, distinct_rest}
use Rattle.kep.proofs.SetLaws.{IsLowest, one_lowest}
use Rattle.kep.proofs.Vertices.{in_with, in_power}
use Rattle.kep.proofs.SetOf.{part_set_of, set_of_part}
use Rattle.kep.proofs.Walks.{walk_iff, Lower, lower_lowest_first, first_lowest}
use Rattle.kep.proofs.ExchangeFacts.{Told, exchange_distinct, Exchange, exchange_again, exchange_is, exchange_walk}
use Rattle.kep.proofs.EntryMeaning.{end_told, entry_ends}
use Rattle.kep.proofs.Bytes.{lower, ◌◁◌, longer, next}
use Rattle.kep.proofs.Greedy.{Good, told_best, FirstGood, NoneGood}

-- ---- the leftmost way comes first: going on comes before ending, and a lower vertex before a higher

leftmost_first : {f : Field} {S u : ℕ} {ys : List ℕ} (zs : List ℕ) → Leftmost f S u ys → Completes f S u zs → (ys ≡ zs) ⊎ (ys ◁ zs)
leftmost_first [] (stop nothing) c = inl refl
leftmost_first (x ∷ zs) (stop nothing) c = absurd (nothing x c.0 (zs, c.1))
leftmost_first [] (go_on n least rest) c = inr longer
leftmost_first {f} {S} (x ∷ zs) (go_on {v = v} {ys = ys} n least rest) c = go (λ d. leftmost_first {S = 2 ^ v + S} zs rest d) (compared v x)
  where
    join : (ys ≡ zs) ⊎ (ys ◁ zs) → v ≡ x → (v ∷ ys ≡ x ∷ zs) ⊎ (v ∷ ys ◁ x ∷ zs)
    join (inl r) e = inl (cc)
    join (inr r) e = inr (next e r)

    go : (Completes f (2 ^ v + S) v zs → (ys ≡ zs) ⊎ (ys ◁ zs)) → Compared v x → (v ∷ ys ≡ x ∷ zs) ⊎ (v ∷ ys ◁ x ∷ zs)
    go deeper (below l) = inr (lower l)
    go deeper (equal e) = join (deeper (rw (← e) at c.1)) e
    go deeper (above l) = absurd (least x l c.0 (zs, c.1))

-- ---- the lists that complete the lowest free vertex are the good exchanges

-- the path may end here: u is in the entry of S, and the best of S, which is all of it, and of what it leaves come to that of U
pub record MayEnd (g : Graph) (lc lp : ℕ) (w : ℕ → ℕ) (U S u : ℕ) : Type 0 where
  pub last : T (has (entry g lc lp S) u)
  pub exact : best_of w g lc lp S + best_of w g lc lp (U - S) ≡ best_of w g lc lp U

-- what paths go by is the graph and its best
pub record Means (g : Graph) (lc lp : ℕ) (w : ℕ → ℕ) (f : Field) : Type 0 where
  pub arcs : (u v : ℕ) → T (has f.free u) → T (has f.free v) → T (f.arc u v) ↔ T (g.arc u v)
  pub ends : {S : ℕ} (u : ℕ) → Part S f.free → T (has (f.ends S) u) ↔ MayEnd g lc lp w f.free S u

module _ (g : Graph) (lc lp : ℕ) (w : ℕ → ℕ) {f : Field} (means : Means g lc lp w f) where
  abbrev U : ℕ
  U = f.free

  -- a path that goes on from u: its arcs are there, and its vertices are different, in U and not in S
  record Path (S u : ℕ) (ys : List ℕ) : Type 0 where
    arcs : T (walk g u ys)
    different : T (distinct ys)
    fresh : Each (λ v. T (has U v) × (T (has S v) → ⊥)) ys

  path_from : {S u y : ℕ} {ys : List ℕ} → T (has U u) → Next f S u y → Path (2 ^ y + S) y ys → Path S u (y ∷ ys)
  path_from {S} {u} {y} {ys} i n p =
      record {
        arcs = (walk_iff g u y ys).1 ((means.arcs u y i n.free).0 n.arc, p.arcs);
        different = distinct_more y ys (each_map (λ v h e. h.1 ((in_with S y v n.new).1 (inl (sym e)))) p.fresh) p.different;
        fresh = also (n.free, n.new) (each_map (λ v h. (h.0, λ k. h.1 ((in_with S y v n.new).1 (inr k)))) p.fresh);
      }

  path_to : {S u y : ℕ} {ys : List ℕ} → T (has U u) → Path S u (y ∷ ys) → Next f S u y × Path (2 ^ y + S) y ys
  path_to {S} {u} {y} {ys} i p =
      let (arc, arcs) = (walk_iff g u y ys).0 p.arcs in
      let (free, new) = each_first p.fresh in
      let others = each_both (distinct_first y ys p.different) (each_rest p.fresh) in (
        record { arc = (means.arcs u y i free).1 arc; free = free; new = new },
        record {
          arcs = arcs;
          different = distinct_rest y ys p.different;
          fresh = each_map (λ v h. (h.1.0, λ k. ⊎_elim (λ e. h.0 (sym e)) h.1.1 ((in_with S y v new).0 k))) others;
        },
      )

  completes_iff : (S u : ℕ) (ys : List ℕ) → T (has U u) → Completes f S u ys ↔ (Path S u ys × T (has (f.ends (set_of ys + S)) (last_of u ys)))
  unfolding set_of last_of walk distinct
  completes_iff S u [] i =
      let same : 0 + S ≡ S = omega arith in
      rw same (λ e. (record { arcs = tt; different = tt; fresh = none }, e), λ h. h.1)
  completes_iff S u (y ∷ ys) i =
      let deeper = completes_iff (2 ^ y + S) y ys in
      let same : 2 ^ y + set_of ys + S ≡ set_of ys + (2 ^ y + S) = omega arith in
      rw same (
        λ c. let (path, ends) = (deeper c.0.free).0 c.1 in (path_from i c.0 path, ends),
        λ h. let (on, path) = path_to i h.0 in (on, (deeper on.free).1 (path, h.1)),
      )

  module _ {l : ℕ} (low : IsLowest U l) where
    -- the path rises above its first vertex
    path_above : (ys : List ℕ) → Path (2 ^ l) l ys → Lower l ys
    path_above ys p = each_map (λ v h. let differs : v ≢ l = λ e. h.1 ((in_power l v).1 e) in omega (arith, low.least v h.0)) p.fresh

    path_different : (ys : List ℕ) → Path (2 ^ l) l ys → T (distinct (l ∷ ys))
    path_different ys p = distinct_more l ys (each_map (λ v h. omega arith) (path_above ys p)) p.different

    -- some exchange uses the vertices of the path and ends where it ends: the path is an exchange
    path_told : (ys : List ℕ) → Path (2 ^ l) l ys → CanEnd g lc lp (set_of (l ∷ ys)) (last_of l ys) → Told g lc lp (l ∷ ys)
    path_told ys p e = (again, lowest)
      where
        once : T (distinct (l ∷ ys))
        once = path_different ys p

        lowest : T (lowest_first (l ∷ ys))
        lowest = lower_lowest_first l (path_above ys p)

        told : Told g lc lp (e.first ∷ e.rest)
        told = end_told g lc lp (set_of (l ∷ ys)) e

        same : e.first ≡ l
        same =
            one_lowest (set_of (l ∷ ys)) e.first l
            (rw e.uses at (first_lowest e.first e.rest (exchange_distinct g told.0) e.lowest))
            (first_lowest l ys once lowest)

        again : Exchange g lc lp (l ∷ ys)
        again = exchange_again g ys (rw same at told.0) once p.arcs (sym (rw same at e.uses)) (sym (rw same at e.last))

    set_sum : (ys : List ℕ) → set_of ys + 2 ^ l ≡ set_of (l ∷ ys)
    unfolding set_of
    set_sum ys = omega arith

    -- the good exchanges from l on are l and what completes it
    pub good_iff : (ys : List ℕ) → Good g lc lp w U (l ∷ ys) ↔ Completes f (2 ^ l) l ys
    good_iff ys = (λ good. complete.1 (rw (set_sum ys) (to good)), λ c. from (rw (set_sum ys) at (complete.0 c)))
      where
        complete : Completes f (2 ^ l) l ys ↔ (Path (2 ^ l) l ys × T (has (f.ends (set_of ys + 2 ^ l)) (last_of l ys)))
        complete = completes_iff (2 ^ l) l ys low.is_in

        to : Good g lc lp w U (l ∷ ys) → Path (2 ^ l) l ys × T (has (f.ends (set_of (l ∷ ys))) (last_of l ys))
        to good =
            let (exchange, lowest) = good.told in
            let once = exchange_distinct g exchange in
            let inside = each_rest (part_set_of (l ∷ ys) once good.inside) in
            let end : CanEnd g lc lp (set_of (l ∷ ys)) (last_of l ys) =
            record { first = l; rest = ys; exchange = exchange_is g exchange; lowest = lowest; uses = refl; last = refl } in (
              record {
                arcs = exchange_walk g exchange;
                different = distinct_rest l ys once;
                fresh = each_map (λ v h. (h.0, λ t. h.1 (sym ((in_power l v).0 t)))) (each_both inside (distinct_first l ys once));
              },
              (means.ends (last_of l ys) good.inside).1
                  record { last = (entry_ends g lc lp (set_of (l ∷ ys)) (last_of l ys)).1 end; exact = rw (told_best g lc lp w good.told) good.exact },
            )

        from : Path (2 ^ l) l ys × T (has (f.ends (set_of (l ∷ ys))) (last_of l ys)) → Good g lc lp w U (l ∷ ys)
        from (path, ends) =
            let inside : Part (set_of (l ∷ ys)) U = set_of_part (l ∷ ys) (path_different ys path) (also low.is_in (each_map (λ v h. h.0) path.fresh)) in
            let m = (means.ends (last_of l ys) inside).0 ends in
            let told : Told g lc lp (l ∷ ys) = path_told ys path ((entry_ends g lc lp (set_of (l ∷ ys)) (last_of l ys)).0 m.last) in
            record {
              told = told;
              inside = inside;
              exact = rw (told_best g lc lp w told) at m.exact;
            }

  -- the lowest free vertex can be completed: the leftmost way from it gives the first good exchange; if it cannot, there is none
  pub leftmost_first_good : {l : ℕ} {ys : List ℕ} → IsLowest U l → Completes f (2 ^ l) l ys → Leftmost f (2 ^ l) l ys → FirstGood g lc lp w U l ys
  leftmost_first_good {ys = ys} low c way = record { good = (good_iff low ys).1 c; first = λ zs good. leftmost_first zs way ((good_iff low zs).0 good) }

  pub none_good : {l : ℕ} → IsLowest U l → (Completable f (2 ^ l) l → ⊥) → NoneGood g lc lp w U l
  none_good low cannot ys good = cannot (ys, (good_iff low ys).0 good)
