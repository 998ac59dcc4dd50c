-- Laws of the code that checks one record.
use mathlib.Core.Bool.{false, not, ◌&&◌, ◌||◌}
use mathlib.Core.List.{List, [], ◌∷◌}
use mathlib.Core.Logic.{◌≢◌}
use mathlib.Core.Path.{◌≡◌, sym, ◌∙◌, ap}
use Prim.Native.Nat.{ℕ, ◌+◌, ◌≤◌, ◌<◌}
use native.Mathlib.Decide.{dec_le}
use native.Mathlib.Omega.{arith}
use lib.Dec.{T, eqb, ltb, eqb→eq}
use lib.ListN.{length, get_or}
use borrow.Author.Tests.{le-leb, lt-leb, lt-ltb, le-ltb, ne_eqb}
use Rattle.std.specs.Prelude.{Ok, Err}
use Rattle.pool.specs.declared.limits.Limits.{Limits}
use Rattle.pool.specs.declared.refusal.Cause.TheVariants as cause
use Rattle.pool.specs.declared.value.Pool.{Pool}
use Rattle.kep.specs.Lists.{none, also, total}
use Rattle.kep.specs.Graph.{Graph, WellFormed, is_altruist}
use Rattle.pool.specs.Refusals.{Outcome, accepted, tested}
use Rattle.pool.specs.Value.{graph_of}
use Rattle.kep.specs.Exchange.{walk, last_of, head_of}
use Rattle.kep.specs.Table.{member_worth, served}
use Rattle.plans.specs.declared.check_record.Before.{Before}
use Rattle.plans.specs.declared.rules.Rules.{Rules}
use Rattle.kep.specs.Plan.{kind_of}
use Rattle.plans.specs.Check.{vertices_of, none_lower, lists_vertices, rising, joined, within_limits, ends_right, record_tests}
use Rattle.plans.specs.inner.CheckSteps.{fresh_in, added, record_check, RecordChecked, Listed}
use Rattle.kep.proofs.Tests.{same_test, eq→eqb, and_left, and_right, and_iff}
use Rattle.kep.proofs.ExchangeFacts.{members_served}
use Rattle.kep.proofs.Fits.{taker, walk_members}
use Rattle.pool.proofs.Tested.{all_pass, first_fails}

-- ---- 14, from the first vertex

module _ (least : ℕ) (xs : List ℕ) where
  pub rising_low : head_of xs < least → false ≡ rising least xs
  unfolding rising
  rising_low h = rw (lt-leb least (head_of xs) h)

  pub rising_high : {first : ℕ} → first ≡ head_of xs → least ≤ first → none_lower first xs ≡ rising least xs
  unfolding rising
  rising_high {first} e h = rw (← e, le-leb least first h)

-- ---- 17, by the bytes 14 and 15

-- no arc leads to an altruist, so all but a chain's first vertex are members
served_chain : (g : Graph) → WellFormed g → (xs : List ℕ) → 1 ≤ length xs → T (joined g xs) → head_of xs < g.altruists → served g xs + 1 ≡ length xs
unfolding head_of joined total
served_chain g wf [] some j h = absurd (omega arith)
served_chain g wf (x ∷ xs) some j h =
    let path = and_left (walk g x xs) (is_altruist g x || g.arc (last_of x xs) x) j in
    let first : member_worth g x ≡ 0 = rw (lt-leb g.altruists x h) in
    omega (arith, first, members_served g (walk_members g 0 0 wf x xs path))

served_cycle : (g : Graph) → WellFormed g → (xs : List ℕ) → 1 ≤ length xs → T (joined g xs) → g.altruists ≤ head_of xs → served g xs ≡ length xs
unfolding head_of joined
served_cycle g wf [] some j h = absurd (omega arith)
served_cycle g wf (x ∷ xs) some j h =
    let (path, end) = (and_iff (walk g x xs) (is_altruist g x || g.arc (last_of x xs) x)).0 j in
    let closes : T (g.arc (last_of x xs) x) = rw (le-ltb x g.altruists h) at end in
    members_served g (also (taker g 0 0 wf (last_of x xs) x closes) (walk_members g 0 0 wf x xs path))

module _ (g : Graph) (wf : WellFormed g) (r : List ℕ) where
  -- what is right where the first vertex is an altruist, and where it is not
  ends_altruist : (xs : List ℕ) → xs ≡ vertices_of r → 1 ≤ length xs → T (joined g xs) → head_of xs < g.altruists
      → ends_right g r ≡ (eqb (get_or r 14 0) 67 && eqb (get_or r 15 0 + 1) (length xs))
  unfolding head_of ends_right kind_of
  ends_altruist [] list some arcs h = absurd (omega arith)
  ends_altruist (x ∷ xs) list some arcs h =
      let long = served_chain g wf (x ∷ xs) some arcs h in
      let b = get_or r 15 0 in
      rw (← list, lt-ltb x g.altruists h, kind_of)
      (ap (λ t. eqb (get_or r 14 0) 67 && t)
      (same_test (eqb b (served g (x ∷ xs))) (eqb (b + 1) (length (x ∷ xs)))
      (λ t. eq→eqb (b + 1) (length (x ∷ xs)) (omega (arith, long, eqb→eq b (served g (x ∷ xs)) t)))
      (λ t. eq→eqb b (served g (x ∷ xs)) (omega (arith, long, eqb→eq (b + 1) (length (x ∷ xs)) t)))))

  ends_member : (xs : List ℕ) → xs ≡ vertices_of r → 1 ≤ length xs → T (joined g xs) → g.altruists ≤ head_of xs
      → ends_right g r ≡ (eqb (get_or r 14 0) 82 && eqb (get_or r 15 0) (length xs))
  unfolding head_of ends_right kind_of
  ends_member [] list some arcs h = absurd (omega arith)
  ends_member (x ∷ xs) list some arcs h = rw (← list, le-ltb x g.altruists h, kind_of, served_cycle g wf (x ∷ xs) some arcs h)

  module _ (xs : List ℕ) (list : xs ≡ vertices_of r) (some : 1 ≤ length xs) (arcs : T (joined g xs)) where
    -- by the byte 14
    pub ends_chain : get_or r 14 0 ≡ 67 → (ltb (head_of xs) g.altruists && eqb (get_or r 15 0 + 1) (length xs)) ≡ ends_right g r
    ends_chain e =
        elim (dec_le g.altruists (head_of xs)) [
          | yes m ↦ rw (ends_member xs list some arcs m, le-ltb (head_of xs) g.altruists m, e)
          | no a ↦ rw (ends_altruist xs list some arcs (omega arith), lt-ltb (head_of xs) g.altruists (omega arith), e)
        ]

    pub ends_cycle : get_or r 14 0 ≡ 82 → (not (ltb (head_of xs) g.altruists) && eqb (get_or r 15 0) (length xs)) ≡ ends_right g r
    ends_cycle e =
        elim (dec_le g.altruists (head_of xs)) [
          | yes m ↦ rw (ends_member xs list some arcs m, le-ltb (head_of xs) g.altruists m, e)
          | no a ↦ rw (ends_altruist xs list some arcs (omega arith), lt-ltb (head_of xs) g.altruists (omega arith), e)
        ]

    pub ends_other : get_or r 14 0 ≢ 67 → get_or r 14 0 ≢ 82 → false ≡ ends_right g r
    ends_other m n =
        elim (dec_le g.altruists (head_of xs)) [
          | yes h ↦ rw (ends_member xs list some arcs h, ne_eqb (get_or r 14 0) 82 n)
          | no a ↦ rw (ends_altruist xs list some arcs (omega arith), ne_eqb (get_or r 14 0) 67 m)
        ]

-- a byte 15 that is right tells the members served
pub ends_served : (g : Graph) (r xs : List ℕ) → xs ≡ vertices_of r → T (ends_right g r) → get_or r 15 0 ≡ served g xs
unfolding ends_right
ends_served g r xs list t =
    eqb→eq (get_or r 15 0) (served g xs) (rw (← list) at (and_right (eqb (get_or r 14 0) (kind_of g (vertices_of r))) (eqb (get_or r 15 0) (served g (vertices_of r))) t))

-- ---- the record's answer, by the first of its tests that fails

-- the tests, made of the vertices that the record lists
on_vertices : (l : Limits) (b : Before) {p : Pool} {r xs : List ℕ} → Listed p r xs → (at : ℕ)
    → tested
    ((12, lists_vertices (graph_of p) r)
    ∷ (13, fresh_in b.met.0 xs)
    ∷ (14, rising b.least xs)
    ∷ (15, joined (graph_of p) xs)
    ∷ (16, within_limits (graph_of p) l.cycle l.chain xs)
    ∷ (17, ends_right (graph_of p) r)
    ∷ [])
    at
    (accepted (added b.met.0 xs, head_of xs + 1, b.served + served (graph_of p) xs))
    ≡ record_check (graph_of p) l.cycle l.chain b at r
unfolding record_tests
on_vertices l b k at = rw k.vertices

module _ {s : Rules} {b : Before} {r : List ℕ} where
  pub stop_12 : (T (lists_vertices (graph_of s.pool) r) → ⊥) → RecordChecked s b r (Err cause.PlanVertex)
  unfolding record_tests
  stop_12 n = record { at_spot = λ at. sym (first_fails at _ [] 12 _ _ none n) }

  module _ {xs : List ℕ} (k : Listed s.pool r xs) where
    pub stop_13 : (T (fresh_in b.met.0 xs) → ⊥) → RecordChecked s b r (Err cause.VertexMet)
    stop_13 n = record { at_spot = λ at. sym (first_fails at _ ((12, _) ∷ []) 13 _ _ (also k.passed none) n) ∙ on_vertices s.limits b k at }

    module _ (new : T (fresh_in b.met.0 xs)) where
      pub stop_14 : (T (rising b.least xs) → ⊥) → RecordChecked s b r (Err cause.PlanOrder)
      stop_14 n = record {
        at_spot = λ at. sym (first_fails at _ ((12, _) ∷ (13, _) ∷ []) 14 _ _ (also k.passed (also new none)) n) ∙ on_vertices s.limits b k at;
      }

      module _ (high : T (rising b.least xs)) where
        pub stop_15 : (T (joined (graph_of s.pool) xs) → ⊥) → RecordChecked s b r (Err cause.ArcMissing)
        stop_15 n = record {
          at_spot = λ at.
              sym (first_fails at _ ((12, _) ∷ (13, _) ∷ (14, _) ∷ []) 15 _ _ (also k.passed (also new (also high none))) n)
              ∙ on_vertices s.limits b k at;
        }

        module _ (arcs : T (joined (graph_of s.pool) xs)) where
          pub stop_16 : (T (within_limits (graph_of s.pool) s.limits.cycle s.limits.chain xs) → ⊥) → RecordChecked s b r (Err cause.ExchangeLength)
          stop_16 n = record {
            at_spot = λ at.
                sym (first_fails at _ ((12, _) ∷ (13, _) ∷ (14, _) ∷ (15, _) ∷ []) 16 _ _ (also k.passed (also new (also high (also arcs none)))) n)
                ∙ on_vertices s.limits b k at;
          }

          module _ (short : T (within_limits (graph_of s.pool) s.limits.cycle s.limits.chain xs)) where
            pub stop_17 : (T (ends_right (graph_of s.pool) r) → ⊥) → RecordChecked s b r (Err cause.PlanEnd)
            stop_17 n = record {
              at_spot = λ at.
                  sym
                  (first_fails at _ ((12, _) ∷ (13, _) ∷ (14, _) ∷ (15, _) ∷ (16, _) ∷ []) 17 _ _
                  (also k.passed (also new (also high (also arcs (also short none)))))
                  n)
                  ∙ on_vertices s.limits b k at;
            }

            -- no cause is met
            pub passes_all : {next : Before} → T (ends_right (graph_of s.pool) r) → next.met.0 ≡ added b.met.0 xs → next.least ≡ head_of xs + 1
                → next.served ≡ b.served + served (graph_of s.pool) xs → RecordChecked s b r (Ok next)
            passes_all {next} end met least count = record {
              at_spot = λ at.
                  same
                  ∙ sym (all_pass at _ (also k.passed (also new (also high (also arcs (also short (also end none)))))))
                  ∙ on_vertices s.limits b k at;
            }
              where
                same : ◌≡◌ {A = Outcome (ℕ × ℕ × ℕ)} (accepted (next.met.0, next.least, next.served))
                    (accepted (added b.met.0 xs, head_of xs + 1, b.served + served (graph_of s.pool) xs))
                same = rw (met, least, count)
