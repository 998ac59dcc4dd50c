-- The choice of the plan as a loop over the tables: the exchanges made so far, their records, and the vertices still free.
use mathlib.Core.Bool.{Bool, true, false, not, ◌&&◌}
use mathlib.Core.List.Memᴰ
use mathlib.Core.List.{List, [], ◌∷◌, ◌++◌, append_assoc}
use mathlib.Core.Logic.{◌≢◌}
use mathlib.Core.Path.{◌≡◌, refl, sym, ap, ap₂, ◌∙◌}
use Prim.Native.Nat.{ℕ, suc, ◌+◌, ◌-◌, ◌*◌, ◌^◌, ◌≤◌, ◌<◌}
use native.Mathlib.Omega.{arith}
use borrow.Rule.Slice.PartMut.{put_mid}
use Rattle.std.proofs.Common.{Option, Some, None}
use lib.Dec.{T, ltb}
use lib.ListN.{length, take, drop, length-append}
use lib.Pow.{pow_pos}
use lib.Seq.{take_at, drop_at, drop-drop}
use Rattle.pool.specs.declared.value.Pool.{Pool}
use Rattle.pool.specs.declared.limits.Limits.{Limits}
use Rattle.kep.specs.Lists.{distinct, Each, none, also}
use Rattle.pool.specs.Value.{graph_of}
use Rattle.kep.specs.Graph.{Graph}
use Rattle.kep.specs.Sets.{has, Part, set_of, set_where, lowest_below, without_vertex}
use Rattle.kep.specs.inner.Lowest.{lowest}
use Rattle.kep.specs.computed.Table.{best_of, everything}
use Rattle.tables.specs.Calls.{worth_in}
use Rattle.kep.specs.Exchange.{head_of}
use Rattle.kep.specs.Plan.{insert, in_order, record_of, records_of, record_form, FitRecords}
use Rattle.kep.specs.computed.Answer.{answer}
use Rattle.kep.specs.inner.Paths.{Field}
use Rattle.clearing.specs.declared.step.Taken.{Taken}
use Rattle.clearing.specs.inner.Taking.{Stepped, nothing, first, Clean}
use Rattle.clearing.proofs.Seek.{some_none, some_same}
use Rattle.kep.proofs.Each.{each_map}
use Rattle.kep.proofs.SetLaws.{IsLowest, lowest_is, lowest_below_lem, has_below}
use Rattle.kep.proofs.Parts.{part_le, part_trans, in_rest}
use Rattle.kep.proofs.SetOf.{has_set_of}
use Rattle.kep.proofs.Vertices.{bit_le, in_without}
use Rattle.kep.proofs.Operations.{without_old, rest_less}
use Rattle.kep.proofs.ExchangeFacts.{exchange_distinct, fits_few}
use Rattle.kep.proofs.Bytes.{records_snoc, record_length}
use Rattle.kep.proofs.Legal.{Legal, in_order_told}
use Rattle.kep.proofs.Answer.{best_determines, answer_best, answer_legal}
use Rattle.kep.proofs.Canonical.{plan_in_order}
use Rattle.kep.proofs.Greedy.{Leads, leads_start, leads_skip, leads_take, leads_done, Chosen, chosen_optimal, chosen_best, FirstGood, NoneGood, best_nonempty}
use Rattle.kep.proofs.Completion.{Means, leftmost_first_good, none_good}

-- ---- the length of records

insert_length : (x : List ℕ) (ys : List (List ℕ)) → length (insert x ys) ≡ suc (length ys)
unfolding insert
insert_length x [] = refl
insert_length x (y ∷ ys) = go (ltb (head_of x) (head_of y)) (insert_length x ys)
  where
    go : (b : Bool) → length (insert x ys) ≡ suc (length ys) → length {A = List ℕ} (elim b [ true ↦ x ∷ y ∷ ys | false ↦ y ∷ insert x ys ]) ≡ suc (suc (length ys))
    go true e = refl
    go false e = ap suc e

in_order_length : (p : List (List ℕ)) → length (in_order p) ≡ length p
unfolding in_order
in_order_length [] = refl
in_order_length (x ∷ p) = insert_length _ (in_order p) ∙ ap suc (in_order_length p)

records_length : (g : Graph) {p : List (List ℕ)} → Each (λ x. length x ≤ 14) p → length (records_of g p) ≡ 16 * length p
unfolding records_of
records_length g none = refl
records_length g (also {x = x} {xs = p} h hs) = length-append (record_of g x) (records_of g p) ∙ ap₂ ◌+◌ (record_length g x h) (records_length g hs) ∙ omega arith

-- ---- the loop

-- what is clean on a set is clean on its parts
clean_part : {U U' : ℕ} {dead : List ℕ} → Part U' U → Clean U dead → Clean U' dead
clean_part i c = record { none = λ S k. c.none S (part_trans k i) }

-- the plan buffer with the next record
abbrev pub with_next : List ℕ → ℕ → List ℕ → List ℕ
with_next plan records bytes = put_mid (16 * records) (16 * records + 16 - 16 * records) plan bytes

-- the exchanges made lead to what is free, and their records stand at the front of the plan buffer
pub record Made (g : Graph) (lc lp : ℕ) (w : ℕ → ℕ) (plan₀ plan : List ℕ) (free records : ℕ) : Type 0 where
  pub made : List (List ℕ)
  pub leads : Leads g lc lp w (everything g) made free
  pub long : length (records_of g made) ≡ 16 * records
  pub written : plan ≡ records_of g made ++ drop (16 * records) plan₀
  pub inside : free < 2 ^ g.size
  pub room : (u : ℕ) → T (has free u) → records ≤ u

module _ (g : Graph) (lc lp : ℕ) (fit : FitRecords g lc lp) where
  pub form_length : (p : List (List ℕ)) → Legal g lc lp p → length (record_form g p) ≡ 16 * length p
  unfolding record_form
  form_length p legal = records_length g (each_map (λ x t. fits_few fit t.0) (in_order_told g lc lp p legal)) ∙ ap (λ (n : ℕ). 16 * n) (in_order_length p)

  module _ (w : ℕ → ℕ) where
    pub made_start : (plan : List ℕ) → Made g lc lp w plan plan (everything g) 0
    unfolding records_of
    made_start plan = record {
      made = [];
      leads = leads_start g lc lp w (everything g);
      long = refl;
      written = refl;
      inside = omega (arith, pow_pos g.size);
      room = λ u _. omega arith;
    }

    module _ {plan₀ plan : List ℕ} {free records : ℕ} (m : Made g lc lp w plan₀ plan free records) where
      -- while something can be gained there is room for a record more
      pub made_room : 0 < best_of w g lc lp free → records < g.size
      made_room gain =
          let low = lowest_is free (best_nonempty g lc lp w gain) in
          omega (arith, m.room (lowest free) low.is_in, has_below g.size free (lowest free) m.inside low.is_in)

      -- the lowest vertex is left out
      made_skip : 0 < free → NoneGood g lc lp w free (lowest free) → Made g lc lp w plan₀ plan (free - 2 ^ lowest free) records
      made_skip some none_good = record {
        made = m.made;
        leads = leads_skip g lc lp w m.made (lowest_is free some) none_good m.leads;
        long = m.long;
        written = m.written;
        inside = omega (arith, m.inside);
        room = λ u h. m.room u ((in_without free (lowest free) u (lowest_is free some).is_in).0 h).0;
      }

      -- an exchange is taken: its record stands behind the others
      made_take : {xs bytes : List ℕ} → 0 < best_of w g lc lp free → FirstGood g lc lp w free (lowest free) xs → bytes ≡ record_of g (lowest free ∷ xs)
          → Made g lc lp w plan₀ (with_next plan records bytes) (free - set_of (lowest free ∷ xs)) (records + 1)
      made_take {xs} {bytes} positive f e =
          record {
            made = m.made ++ x ∷ [];
            leads = leads_take g lc lp w m.made positive low f m.leads;
            long =
                ap length (records_snoc g m.made x)
                ∙ length-append (records_of g m.made) (record_of g x)
                ∙ ap₂ ◌+◌ m.long (record_length g x (fits_few fit f.good.told.0))
                ∙ omega arith;
            written = stands;
            inside = omega (arith, m.inside);
            room = λ u h. let (was, new) = (in_rest f.good.inside u).0 h in above u was (λ e. new (rw e first_in));
          }
        where
          x : List ℕ
          x = lowest free ∷ xs

          low : IsLowest free (lowest free)
          low = lowest_is free (best_nonempty g lc lp w positive)

          first_in : T (has (set_of x) (lowest free))
          first_in = (has_set_of x (exchange_distinct g f.good.told.0) (lowest free)).1 (Memᴰ.head refl)

          above : (u : ℕ) → T (has free u) → u ≢ lowest free → records + 1 ≤ u
          above u h ne = omega (arith, m.room (lowest free) low.is_in, low.least u h)

          front : take (16 * records) plan ≡ records_of g m.made
          front = ap (take (16 * records)) m.written ∙ take_at (records_of g m.made) (drop (16 * records) plan₀) (16 * records) m.long

          behind : drop (16 * records) plan ≡ drop (16 * records) plan₀
          behind = ap (drop (16 * records)) m.written ∙ drop_at (records_of g m.made) (drop (16 * records) plan₀) (16 * records) m.long

          sixteen : 16 * records + 16 - 16 * records ≡ 16
          sixteen = omega arith

          next : 16 * records + 16 ≡ 16 * (records + 1)
          next = omega arith

          stands : with_next plan records bytes ≡ records_of g (m.made ++ x ∷ []) ++ drop (16 * (records + 1)) plan₀
          stands =
              rw (front, e, behind, sixteen, drop-drop 16 (16 * records) plan₀, next, records_snoc g m.made x)
              (sym (append_assoc (records_of g m.made) (record_of g x) (drop (16 * (records + 1)) plan₀)))

      -- ---- nothing more can be gained: the records are those of the answer

      module _ (end : best_of w g lc lp free ≡ 0) where
        chosen : Chosen g lc lp w (everything g) m.made
        chosen = leads_done g lc lp w m.made end m.leads

        form_is : records_of g m.made ≡ record_form g (answer w g lc lp)
        unfolding record_form
        form_is =
            sym (ap (records_of g) (plan_in_order g lc lp (chosen_optimal g lc lp w chosen).plan))
            ∙ (best_determines (chosen_best g lc lp w fit chosen) (answer_best g lc lp w)).0

        pub made_count : records ≡ length (answer w g lc lp)
        made_count = omega (arith, m.long, ap length form_is, form_length (answer w g lc lp) (answer_legal g lc lp w))

        pub made_plan : plan ≡ record_form g (answer w g lc lp) ++ drop (length (record_form g (answer w g lc lp))) plan₀
        made_plan = m.written ∙ ap₂ (λ (r : List ℕ) (k : ℕ). r ++ drop k plan₀) form_is (sym m.long ∙ ap length form_is)

    -- ---- by what a step tells and keeps: what was clean beside the lowest vertex is clean on what is free next

    -- what is taken lies within the free vertices
    pub taken_inside : {f : Field} {told : Option Taken} {taken : Taken} → Means g lc lp w f → 0 < f.free → Stepped g f told → told ≡ Some taken → Part taken.set.0 f.free
    unfolding set_of
    taken_inside {f} {told} {taken} means some step one = go step
      where
        go : Stepped g f told → Part taken.set.0 f.free
        go (nothing t cannot) = absurd (some_none one t)
        go (first c way t) = rw (some_same (sym one ∙ t)) (leftmost_first_good g lc lp w means (lowest_is f.free some) c way).good.inside

    module _ {f : Field} {plan₀ plan : List ℕ} {records : ℕ} {told : Option Taken}
        (means : Means g lc lp w f)
        (m : Made g lc lp w plan₀ plan f.free records)
        (positive : 0 < best_of w g lc lp f.free)
        (step : Stepped g f told)
      where
        low : IsLowest f.free (lowest f.free)
        low = lowest_is f.free (best_nonempty g lc lp w positive)

        pub step_none : {v next : ℕ} {dead : List ℕ} → told ≡ None → f.free < 2 ^ 16 → v ≡ lowest_below 16 f.free → next ≡ without_vertex 16 f.free v → Clean (f.free - 2 ^ lowest f.free) dead
            → (next < f.free) × (Made g lc lp w plan₀ plan next records × Clean next dead)
        unfolding set_of
        step_none {v} {next} {dead} z wide found e clean = go step
          where
            some : 0 < f.free
            some = best_nonempty g lc lp w positive

            without : next ≡ f.free - 2 ^ lowest f.free
            without = e ∙ rw (found ∙ lowest_below_lem 16 f.free some wide) (without_old 16 f.free wide (lowest f.free) low.is_in)

            go : Stepped g f told → (next < f.free) × (Made g lc lp w plan₀ plan next records × Clean next dead)
            go (nothing t cannot) =
                rw without (omega (arith, bit_le f.free (lowest f.free) low.is_in, pow_pos (lowest f.free)), (made_skip m some (none_good g lc lp w means low cannot), clean))
            go (first c way t) = absurd (some_none t z)

        pub step_one : {taken : Taken} {next : ℕ} {dead : List ℕ} → told ≡ Some taken → f.free < 2 ^ 16 → next ≡ set_where 16 (λ u. has f.free u && not (has taken.set.0 u))
            → Clean (f.free - 2 ^ lowest f.free) dead → (next < f.free) × (Made g lc lp w plan₀ (with_next plan records taken.bytes) next (records + 1) × Clean next dead)
        unfolding set_of
        step_one {taken} {next} {dead} one wide e clean = go step
          where
            -- the exchange takes the lowest vertex with it
            less : (ys : List ℕ) → Part (set_of (lowest f.free ∷ ys)) f.free → T (distinct (lowest f.free ∷ ys)) → Part (f.free - set_of (lowest f.free ∷ ys)) (f.free - 2 ^ lowest f.free)
            less ys inside once = record {
              within = λ x h.
                  let (was, new) = (in_rest inside x).0 h in
                  (in_without f.free (lowest f.free) x low.is_in).1 (was, λ e. new ((has_set_of (lowest f.free ∷ ys) once x).1 (Memᴰ.head e)));
            }

            go : Stepped g f told → (next < f.free) × (Made g lc lp w plan₀ (with_next plan records taken.bytes) next (records + 1) × Clean next dead)
            go (nothing t cannot) = absurd (some_none one t)
            go (first {ys = ys} c way t) =
                let taken_first = leftmost_first_good g lc lp w means low c way in
                let rest : next ≡ f.free - set_of (lowest f.free ∷ ys) = rw (some_same (sym one ∙ t)) at e ∙ rest_less 16 f.free wide taken_first.good.inside in
                rw (rest, some_same (sym one ∙ t)) (omega (arith, part_le taken_first.good.inside, pow_pos (lowest f.free)), (made_take m positive taken_first refl, clean_part (less ys taken_first.good.inside (exchange_distinct g taken_first.good.told.0)) clean))

-- a record more is within a plan buffer that has one for each vertex
pub part_end : {size records k k₀ : ℕ} → records < size → 16 * size ≤ k₀ → k ≡ k₀ → 16 * records + 16 ≤ k
part_end l b e = omega arith

-- ---- the same for a pool and its tables

abbrev pub MadeOf : Pool → Limits → List ℕ → List ℕ → ℕ → ℕ → Type 0
MadeOf p l = Made (graph_of p) l.cycle l.chain (worth_in p)
