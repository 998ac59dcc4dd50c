-- Laws for code that checks a plan record by record and keeps the vertices met as a set.
use mathlib.Core.Bool.{false, not}
use mathlib.Core.List.{List, [], ◌∷◌, ◌++◌, append-nil, Memᴰ}
use mathlib.Core.Logic.{◌↔◌, ⊎_elim}
use mathlib.Core.Path.{◌≡◌, refl, sym, ◌∙◌, ap}
use Prim.Native.Nat.{ℕ, suc, ◌+◌, ◌-◌, ◌*◌, ◌/◌, ◌%◌, ◌^◌, ◌≤◌, ◌<◌}
use native.Mathlib.Omega.{arith}
use lib.Bits.{bit_or}
use lib.Dec.{T, not_T}
use lib.ListN.{length, drop}
use lib.Seq.{append_snoc}
use Rattle.kep.specs.Lists.{Each, none, elem, distinct, total, cut}
use Rattle.kep.specs.Graph.{Graph, is_member}
use Rattle.kep.specs.Sets.{has, set_of, worth_of}
use Rattle.pool.specs.Refusals.{accepted, refused, tested}
use Rattle.kep.specs.Exchange.{head_of}
use Rattle.kep.specs.Table.{member_worth, served}
use Rattle.plans.specs.Record.{record_at}
use Rattle.plans.specs.Check.{vertices_of, fresh, record_tests, check_from, check}
use Rattle.plans.specs.inner.CheckSteps.{fresh_in, added}
use Rattle.kep.proofs.Tests.{passes?, is_true, is_false, and_both}
use Rattle.kep.proofs.Each.{each_append}
use Rattle.kep.proofs.ListLaws.{distinct_append, distinct_snoc, elem_iff}
use Rattle.kep.proofs.Cut.{cut_from, cut_none}
use Rattle.pool.proofs.Tested.{all_held}
use Rattle.pool.specs.Causes.{Pass}
use Rattle.kep.proofs.Vertices.{or_with}
use Rattle.kep.proofs.SetOf.{has_set_of, set_of_snoc}
use Rattle.kep.proofs.Worth.{counted_le, total_append, list_worth, worth_le}
use Rattle.plans.proofs.CheckRecord.{no_cause_passes}
use Rattle.plans.proofs.CheckPlan.{check_next, check_stop, check_end}
use Rattle.plans.proofs.PlanChecked.{check_whole}

-- ---- the vertices met

-- m is the set of the vertices met, none of them twice
pub record Kept (met : List ℕ) (m : ℕ) : Type 0 where
  pub once : T (distinct met)
  pub set : set_of met ≡ m

-- the scan of 13, vertex by vertex: one met before ends it, another is added
pub fresh_seen : (m x : ℕ) (xs : List ℕ) → T (has m x) → fresh_in m (x ∷ xs) ≡ false
unfolding fresh_in
fresh_seen m x xs h = rw (is_true (has m x) h, fresh_in)

pub fresh_new : (m x : ℕ) (xs : List ℕ) → (T (has m x) → ⊥) → fresh_in m (x ∷ xs) ≡ fresh_in (bit_or m (2 ^ x)) xs
unfolding fresh_in
fresh_new m x xs n = rw (is_false (has m x) n, fresh_in)

-- a vertex is in the set where it was met
kept_seen : {met : List ℕ} {m : ℕ} → Kept met m → (x : ℕ) → T (has m x) ↔ Memᴰ x met
kept_seen {met} k x = rw (← k.set) (has_set_of met k.once x)

kept_none : Kept [] 0
unfolding distinct set_of
kept_none = record { once = tt; set = refl }

kept_one : {met : List ℕ} {m : ℕ} → Kept met m → (x : ℕ) → (T (has m x) → ⊥) → Kept (met ++ x ∷ []) (bit_or m (2 ^ x))
kept_one {met} {m} k x n = record {
  once =
      rw (distinct_snoc met x)
      (and_both (distinct met) (not (elem x met)) k.once (not_T (elem x met) (λ t. n ((kept_seen k x).1 ((elem_iff x met).0 t)))));
  set = set_of_snoc met x ∙ ap (λ (s : ℕ). 2 ^ x + s) k.set ∙ sym (or_with m x n);
}

-- a vertex that passes 13 was not met before
fresh_unseen : {met : List ℕ} {m : ℕ} → Kept met m → (x : ℕ) (xs : List ℕ) → T (fresh met (x ∷ xs)) → T (has m x) → ⊥
unfolding fresh
fresh_unseen {met} k x xs f h = ((distinct_append met (x ∷ xs)).0 f).2 x ((kept_seen k x).0 h) (Memᴰ.head refl)

-- the test of 13 on the set is the test on the list
pub fresh_in_lem : (xs : List ℕ) {met : List ℕ} {m : ℕ} → Kept met m → fresh met xs ≡ fresh_in m xs
unfolding fresh fresh_in
fresh_in_lem [] {met} k = rw append-nil (is_true (distinct met) k.once)
fresh_in_lem (x ∷ xs) {met} {m} k =
    ⊎_elim
    (λ h. is_false (fresh met (x ∷ xs)) (λ f. fresh_unseen k x xs f h) ∙ sym (fresh_seen m x xs h))
    (λ n. ap distinct (sym (append_snoc met x xs)) ∙ fresh_in_lem xs (kept_one k x n) ∙ sym (fresh_new m x xs n))
    (passes? (has m x))

-- the vertices of a record that passes it are added
pub kept_added : (xs : List ℕ) {met : List ℕ} {m : ℕ} → Kept met m → T (fresh met xs) → Kept (met ++ xs) (added m xs)
unfolding added fresh
kept_added [] k f = rw append-nil k
kept_added (x ∷ xs) {met} k f = rw (append_snoc met x xs) at (kept_added xs (kept_one k x (fresh_unseen k x xs f)) (rw (append_snoc met x xs) f))

-- ---- what is left to check

pub served_most : (g : Graph) (xs : List ℕ) → served g xs ≤ length xs
unfolding total
served_most g [] = omega arith
served_most g (x ∷ xs) = omega (arith, counted_le (is_member g x) 1, served_most g xs)

module _ (g : Graph) (lc lp : ℕ) (bytes : List ℕ) where
  -- the records from record i on
  abbrev rest : ℕ → List (List ℕ)
  rest i = cut 16 (length bytes / 16 - i) (drop (16 * i) bytes)

  -- Records 0 to i - 1 have met no cause: m is the set of their vertices, `count` the members among them, `least` the least first
  -- vertex allowed next; and the check of the rest is the check of the whole.
  pub record Checking (m least count i : ℕ) : Type 0 where
    pub met : List ℕ
    pub kept : Kept met m
    pub below : Each (λ x. x < g.size) met
    pub counts : served g met ≡ count
    pub left : check_from g lc lp met least i (rest i) ≡ check g lc lp bytes

  -- at first
  pub checking_start : length bytes % 16 ≡ 0 → Checking 0 0 0 0
  unfolding total
  checking_start h =
      let all : length bytes / 16 - 0 ≡ length bytes / 16 = omega arith in
      record {
        met = [];
        kept = kept_none;
        below = none;
        counts = refl;
        left = ap (λ k. check_from g lc lp [] 0 0 (cut 16 k bytes)) all ∙ sym (check_whole g lc lp bytes h);
      }

  module _ {m least count i : ℕ} (c : Checking m least count i) where
    -- the tests on the set are the tests on the list: only that of 13 looks at the vertices met
    on_list : (r : List ℕ) → record_tests g lc lp (fresh c.met) least r ≡ record_tests g lc lp (fresh_in m) least r
    unfolding record_tests
    on_list r = rw (fresh_in_lem (vertices_of r) c.kept)

    -- the rest is record i and the rest from the next on
    split : i < length bytes / 16 → check_from g lc lp c.met least i (record_at bytes i ∷ rest (suc i)) ≡ check g lc lp bytes
    split h = sym (ap (check_from g lc lp c.met least i) (cut_from 16 (length bytes / 16) i bytes h)) ∙ c.left

    -- its tests end the check where they end in a refusal
    pub checking_stop : {A : Type 0} (a : A) {cause at : ℕ} → i < length bytes / 16
        → tested (record_tests g lc lp (fresh_in m) least (record_at bytes i)) i (accepted a) ≡ refused cause at → check g lc lp bytes ≡ refused cause at
    checking_stop a h e =
        let r = record_at bytes i in
        sym (split h) ∙ check_stop g lc lp c.met least i r (rest (suc i)) a (ap (λ ts. tested ts i (accepted a)) (on_list r) ∙ e)

    -- and lead on where they pass
    pub checking_next : {A : Type 0} (a : A) {b : A} → i < length bytes / 16
        → tested (record_tests g lc lp (fresh_in m) least (record_at bytes i)) i (accepted a) ≡ accepted b
        → let xs = vertices_of (record_at bytes i) in Checking (added m xs) (suc (head_of xs)) (count + served g xs) (suc i)
    checking_next a h e =
        let r = record_at bytes i in
        let xs = vertices_of r in
        let tests : Each Pass (record_tests g lc lp (fresh c.met) least r) = rw (on_list r) (all_held (record_tests g lc lp (fresh_in m) least r) i (accepted a) e).0 in
        let p = no_cause_passes g lc lp (fresh c.met) least r tests in
        record {
          met = c.met ++ xs;
          kept = kept_added xs c.kept p.new_here;
          below = each_append c.below p.below;
          counts = total_append (member_worth g) c.met xs ∙ ap (λ k. k + served g xs) c.counts;
          left = sym (check_next g lc lp c.met least i r (rest (suc i)) tests) ∙ split h;
        }

    -- no record is left
    pub checking_end : length bytes / 16 ≤ i → check g lc lp bytes ≡ accepted count
    checking_end h =
        let none_left : length bytes / 16 - i ≡ 0 = omega arith in
        sym c.left
        ∙ ap (check_from g lc lp c.met least i) (cut_none 16 (length bytes / 16) i (drop (16 * i) bytes) none_left)
        ∙ check_end g lc lp c.met least i
        ∙ ap (λ k. accepted k) c.counts

    -- ---- the numbers kept: m is a set of vertices of the graph, and the count is the number of members in it

    pub checking_count : worth_of (member_worth g) g.size m ≡ count
    checking_count = rw (← c.kept.set) (list_worth (member_worth g) g.size c.met c.kept.once c.below ∙ c.counts)

    pub checking_most : count ≤ g.size
    checking_most = omega (arith, checking_count, worth_le (member_worth g) g.size m 1 (λ x h. counted_le (is_member g x) 1))
