-- Cycles and chains as facts: what each is made of, that a cycle may begin anywhere, and that an exchange serves a member.
use mathlib.Core.Bool.{◌&&◌}
use mathlib.Core.List.Memᴰ
use mathlib.Core.List.Permᴰ
use mathlib.Core.List.{List, ◌∷◌, [], ◌++◌, Memᴰ}
use mathlib.Core.Logic.{⊎_elim, ◌⊎◌, inl, inr}
use mathlib.Core.Path.{ap, ◌≡◌, refl, sym, ◌∙◌}
use Prim.Native.Nat.{ℕ, suc, ◌≤◌, ◌<◌}
use native.Mathlib.Nat.{le_trans}
use native.Mathlib.Omega.{arith}
use lib.Count.{ones}
use lib.Dec.{T, leb→le, le→leb, ltb→lt, lt→ltb}
use lib.ListN.{length, length-append}
use Rattle.kep.specs.Lists.{Each, distinct, also, total, none}
use Rattle.kep.specs.Graph.{Graph, is_member}
use Rattle.kep.specs.Plan.{FitRecords}
use Rattle.kep.specs.Exchange.{walk, last_of, is_cycle, is_chain, is_exchange, turned}
use Rattle.kep.specs.Sets.{set_of}
use Rattle.kep.specs.Table.{member_worth, lowest_first, served}
use Rattle.kep.proofs.Tests.{and_left, and_right, and_both, or_cases, or_left, or_right, is_true}
use Rattle.kep.proofs.Each.{each_map, each_first, each_of, each_at}
use Rattle.kep.proofs.ListLaws.{all_each, each_all, distinct_more, distinct_rest, distinct_first}
use Rattle.kep.proofs.Permutations.{each_perm, distinct_perm}
use Rattle.kep.proofs.SetOf.{ones_set_of, has_set_of, below_length}
use Rattle.kep.proofs.Walks.{walk_cons, last_cons, walk_snoc, last_snoc, lower_lowest_first}
use Rattle.kep.proofs.Rotations.{turned_keeps, turned_fixed, turned_lowest}

module _ (g : Graph) where
  abbrev pub Member : ℕ → Type 0
  Member x = T (is_member g x)

-- what a cycle is made of
pub record Cycle (g : Graph) (lc : ℕ) (x : ℕ) (xs : List ℕ) : Type 0 where
  pub short : suc (length xs) ≤ lc
  pub members : Each (Member g) (x ∷ xs)
  pub apart : T (distinct (x ∷ xs))
  pub path : T (walk g x xs)
  pub closes : T (g.arc (last_of x xs) x)

-- what a chain is made of
pub record Chain (g : Graph) (lp : ℕ) (x : ℕ) (xs : List ℕ) : Type 0 where
  pub altruist : x < g.altruists
  pub some : 1 ≤ length xs
  pub short : length xs ≤ lp
  pub members : Each (Member g) xs
  pub apart : T (distinct xs)
  pub path : T (walk g x xs)

-- an exchange is a cycle or a chain
pub data Exchange (g : Graph) (lc lp : ℕ) : List ℕ → Type 0 where
  cycle : {x : ℕ} {xs : List ℕ} → Cycle g lc x xs → Exchange g lc lp (x ∷ xs)
  chain : {x : ℕ} {xs : List ℕ} → Chain g lp x xs → Exchange g lc lp (x ∷ xs)

module _ (g : Graph) where
  cycle_parts : {lc : ℕ} {x : ℕ} {xs : List ℕ} → T (is_cycle g lc (x ∷ xs)) → Cycle g lc x xs
  unfolding is_cycle
  cycle_parts {lc} {x} {xs} h = record {
    short = leb→le (suc (length xs)) lc (search (and_left, and_right));
    members = all_each (is_member g) (x ∷ xs) (search (and_left, and_right));
    apart = search (and_left, and_right);
    path = search (and_left, and_right);
    closes = search (and_left, and_right);
  }

  pub cycle_of : {lc : ℕ} {x : ℕ} {xs : List ℕ} → Cycle g lc x xs → T (is_cycle g lc (x ∷ xs))
  unfolding is_cycle
  cycle_of {lc} {x} {xs} c =
      let short = le→leb (suc (length xs)) lc c.short in
      let members = each_all (is_member g) c.members in
      search and_both

  chain_parts : {lp : ℕ} {x : ℕ} {xs : List ℕ} → T (is_chain g lp (x ∷ xs)) → Chain g lp x xs
  unfolding is_chain
  chain_parts {lp} {x} {xs} h = record {
    altruist = ltb→lt x g.altruists (search (and_left, and_right) depth 7);
    some = leb→le 1 (length xs) (search (and_left, and_right));
    short = leb→le (length xs) lp (search (and_left, and_right));
    members = all_each (is_member g) xs (search (and_left, and_right));
    apart = search (and_left, and_right);
    path = search (and_left, and_right);
  }

  chain_of : {lp : ℕ} {x : ℕ} {xs : List ℕ} → Chain g lp x xs → T (is_chain g lp (x ∷ xs))
  unfolding is_chain
  chain_of {lp} {x} {xs} c =
      let altruist = lt→ltb x g.altruists c.altruist in
      let some = le→leb 1 (length xs) c.some in
      let short = le→leb (length xs) lp c.short in
      let members = each_all (is_member g) c.members in
      search and_both depth 7

  -- the test `is_exchange` passes for the exchanges, and for nothing else
  pub is_exchange_lem : (lc lp : ℕ) (xs : List ℕ) → T (is_exchange g lc lp xs) → Exchange g lc lp xs
  unfolding is_exchange is_cycle is_chain
  is_exchange_lem lc lp [] h = absurd h
  is_exchange_lem lc lp (x ∷ xs) h =
      ⊎_elim (λ c. cycle (cycle_parts c)) (λ c. chain (chain_parts c)) (or_cases (is_cycle g lc (x ∷ xs)) (is_chain g lp (x ∷ xs)) h)

  pub cycle_exchange : (lc lp : ℕ) (xs : List ℕ) → T (is_cycle g lc xs) → Exchange g lc lp xs
  unfolding is_exchange
  cycle_exchange lc lp xs h = is_exchange_lem lc lp xs (or_left (is_cycle g lc xs) (is_chain g lp xs) h)

  pub exchange_is : {lc lp : ℕ} {xs : List ℕ} → Exchange g lc lp xs → T (is_exchange g lc lp xs)
  unfolding is_exchange
  exchange_is {lc} {lp} (cycle {x = x} {xs = xs} c) = or_left (is_cycle g lc (x ∷ xs)) (is_chain g lp (x ∷ xs)) (cycle_of c)
  exchange_is {lc} {lp} (chain {x = x} {xs = xs} c) = or_right (is_cycle g lc (x ∷ xs)) (is_chain g lp (x ∷ xs)) (chain_of c)

  -- a cycle may begin one vertex later
  pub cycle_turn : (lc x : ℕ) (xs : List ℕ) → T (is_cycle g lc (x ∷ xs)) → T (is_cycle g lc (xs ++ x ∷ []))
  cycle_turn lc x [] h = h
  cycle_turn lc x (y ∷ ys) h =
      let c = cycle_parts h in
      let turn = Permᴰ.append_comm (x ∷ []) (y ∷ ys) in
      let step : T (g.arc x y && walk g y ys) = rw (walk_cons g x y ys) at c.path in
      let closes : T (g.arc (last_of y ys) x) = rw last_cons at c.closes in
      cycle_of (record {
        short = omega (arith, c.short, length-append ys (x ∷ []));
        members = each_perm turn c.members;
        apart = distinct_perm turn c.apart;
        path = rw (walk_snoc g y ys x) (and_both (walk g y ys) (g.arc (last_of y ys) x) (and_right (g.arc x y) (walk g y ys) step) closes);
        closes = rw (last_snoc y ys x) (and_left (g.arc x y) (walk g y ys) step);
      })

  pub member_between : (x : ℕ) → Member g x → (g.altruists ≤ x) × (x < g.size)
  member_between x h = (leb→le g.altruists x (search and_left), ltb→lt x g.size (search and_right))

  -- a chain's altruist is lower than its members
  pub chain_lowest : {lp x : ℕ} {xs : List ℕ} → Chain g lp x xs → Each (λ y. x < y) xs
  chain_lowest {x = x} c = each_map (λ y m. omega (arith, c.altruist, member_between y m)) c.members

  chain_below : {lp x : ℕ} {xs : List ℕ} → Chain g lp x xs → Each (λ y. y < g.size) (x ∷ xs)
  chain_below {xs = []} c = absurd (omega (arith, c.some))
  chain_below {x = x} {xs = y ∷ ys} c =
      also {x = x}
      (omega (arith, c.altruist, member_between y (each_first c.members)))
      (each_map (λ z m. (member_between z m).1) c.members)

  chain_apart : {lp x : ℕ} {xs : List ℕ} → Chain g lp x xs → T (distinct (x ∷ xs))
  chain_apart {x = x} {xs = xs} c = distinct_more x xs (each_map (λ y l e. omega arith) (chain_lowest c)) c.apart

  member_worth_lem : (x : ℕ) → Member g x → member_worth g x ≡ 1
  member_worth_lem x h = rw (is_true (is_member g x) h)

  members_serve : {xs : List ℕ} → Each (Member g) xs → 1 ≤ length xs → 1 ≤ served g xs
  unfolding total
  members_serve none h = absurd (omega arith)
  members_serve (also {x = x} m ms) h = omega (arith, member_worth_lem x m)

  pub members_served : {xs : List ℕ} → Each (Member g) xs → served g xs ≡ length xs
  unfolding total
  members_served none = refl
  members_served (also {x = x} m ms) = omega (arith, member_worth_lem x m, members_served ms)

  served_more : (x : ℕ) (xs : List ℕ) → served g xs ≤ served g (x ∷ xs)
  unfolding total
  served_more x xs = omega arith

  -- an exchange repeats no vertex
  pub exchange_distinct : {lc lp : ℕ} {xs : List ℕ} → Exchange g lc lp xs → T (distinct xs)
  exchange_distinct (cycle c) = c.apart
  exchange_distinct (chain c) = chain_apart c

  -- its vertices are vertices of the graph
  pub exchange_below : {lc lp : ℕ} {xs : List ℕ} → Exchange g lc lp xs → Each (λ x. x < g.size) xs
  exchange_below (cycle c) = each_map (λ z m. (member_between z m).1) c.members
  exchange_below (chain c) = chain_below c

  -- there are not more of them than the graph has
  pub exchange_length : {lc lp : ℕ} {xs : List ℕ} → Exchange g lc lp xs → length xs ≤ g.size
  exchange_length {xs = xs} h = below_length g.size xs (exchange_distinct h) (exchange_below h)

  -- it is not empty
  pub exchange_some : {lc lp : ℕ} {xs : List ℕ} → Exchange g lc lp xs → 1 ≤ length xs
  exchange_some (cycle c) = omega arith
  exchange_some (chain c) = omega arith

  -- it has a member
  pub exchange_member : {lc lp : ℕ} {xs : List ℕ} → Exchange g lc lp xs → (v : ℕ) × Memᴰ v xs × Member g v
  exchange_member (cycle {x = x} c) = (x, Memᴰ.head refl, each_first c.members)
  exchange_member (chain {xs = []} c) = absurd (omega (arith, c.some))
  exchange_member (chain {xs = y ∷ ys} c) = (y, Memᴰ.tail (Memᴰ.head refl), each_first c.members)

  -- it serves a member
  pub exchange_serves : {lc lp : ℕ} {xs : List ℕ} → Exchange g lc lp xs → 1 ≤ served g xs
  exchange_serves (cycle c) = members_serve c.members (omega arith)
  exchange_serves (chain {x = x} {xs = xs} c) = le_trans (members_serve c.members c.some) (served_more x xs)

  -- turned to begin at its lowest vertex it is an exchange still
  pub exchange_turned : {lc lp : ℕ} {xs : List ℕ} → Exchange g lc lp xs → Exchange g lc lp (turned xs)
  exchange_turned {lc} {lp} (cycle {x = x} {xs = xs} c) =
      cycle_exchange lc lp (turned (x ∷ xs)) (turned_keeps (λ ys. T (is_cycle g lc ys)) (cycle_turn lc) (x ∷ xs) (cycle_of c))
  exchange_turned (chain {x = x} {xs = xs} c) = rw (turned_fixed (x ∷ xs) (lower_lowest_first x (chain_lowest c))) (chain c)

-- an exchange told from its lowest vertex on
abbrev pub Told : Graph → ℕ → ℕ → List ℕ → Type 0
Told g lc lp xs = Exchange g lc lp xs × T (lowest_first xs)

module _ (g : Graph) where
  pub told_turned : {lc lp : ℕ} {xs : List ℕ} → Exchange g lc lp xs → Told g lc lp (turned xs)
  told_turned {xs = xs} e = (exchange_turned g e, turned_lowest xs (exchange_distinct g e))

  pub exchange_walk : {lc lp x : ℕ} {xs : List ℕ} → Exchange g lc lp (x ∷ xs) → T (walk g x xs)
  exchange_walk (cycle c) = c.path
  exchange_walk (chain c) = c.path

  -- a path on the vertices of an exchange, with the same first and last vertex, is an exchange too
  pub exchange_again :
      {lc lp x : ℕ} {xs : List ℕ} (ys : List ℕ) → Exchange g lc lp (x ∷ xs) → T (distinct (x ∷ ys)) → T (walk g x ys)
      → set_of (x ∷ ys) ≡ set_of (x ∷ xs) → last_of x ys ≡ last_of x xs → Exchange g lc lp (x ∷ ys)
  exchange_again {x = x} {xs = xs} ys e d w same last = go e
    where
      long : length (x ∷ ys) ≡ length (x ∷ xs)
      long = sym (ones_set_of (x ∷ ys) d) ∙ ap ones same ∙ ones_set_of (x ∷ xs) (exchange_distinct g e)

      was : (v : ℕ) → Memᴰ v (x ∷ ys) → Memᴰ v (x ∷ xs)
      was v m = (has_set_of (x ∷ xs) (exchange_distinct g e) v).0 (rw same at ((has_set_of (x ∷ ys) d v).1 m))

      go : {lc lp : ℕ} → Exchange g lc lp (x ∷ xs) → Exchange g lc lp (x ∷ ys)
      go (cycle c) =
          cycle {x = x} {xs = ys} record {
            short = omega (arith, c.short, long);
            members = each_of (x ∷ ys) (λ v m. each_at c.members (was v m));
            apart = d;
            path = w;
            closes = rw last c.closes;
          }
      go (chain c) =
          chain {x = x} {xs = ys} record {
            altruist = c.altruist;
            some = omega (arith, c.some, long);
            short = omega (arith, c.short, long);
            members = each_of ys (λ v m. member v m (Memᴰ.cases_cons (was v (Memᴰ.tail m))));
            apart = distinct_rest x ys d;
            path = w;
          }
        where
          member : (v : ℕ) → Memᴰ v ys → (v ≡ x) ⊎ Memᴰ v xs → Member g v
          member v m (inl e) = absurd (each_at (distinct_first x ys d) m (sym e))
          member v m (inr n) = each_at c.members n

-- ---- every exchange fits into a record

pub fits_few : {g : Graph} {lc lp : ℕ} → FitRecords g lc lp → {xs : List ℕ} → Exchange g lc lp xs → length xs ≤ 14
fits_few {g} fit {xs} x = fit.few xs (exchange_is g x)

-- as in every graph of at most 14 vertices
pub small_fits : {g : Graph} {lc lp : ℕ} → g.size ≤ 14 → FitRecords g lc lp
small_fits {g} {lc} {lp} small = record { few = λ xs t. omega (arith, exchange_length g (is_exchange_lem g lc lp xs t)); below_filler = omega arith }
