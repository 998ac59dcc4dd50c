-- The turns of the search, on plain numbers and lists: a path that ends, one that goes on to the lowest vertex left, and what is left then.
use mathlib.Core.Bool.{Bool, true, false, not, ◌&&◌}
use mathlib.Core.List.{List, [], ◌∷◌, append-nil}
use mathlib.Core.Logic.{◌≢◌, ◌↔◌, inl, inr, ⊎_elim}
use mathlib.Core.Path.{◌≡◌, refl, sym, ap, ◌∙◌}
use Prim.Native.Nat.{ℕ, suc, ◌+◌, ◌-◌, ◌^◌, ◌≤◌, ◌<◌}
use native.Mathlib.Decide.{ℕ_discrete}
use native.Mathlib.Nat.{pos_of_ne-zero}
use native.Mathlib.Omega.{arith}
use lib.Bits.{bit_and, bit_or}
use Rattle.std.proofs.Common.{Option, Some, None, if◌then◌else◌}
use lib.Dec.{T, eqb, eqb→eq}
use lib.ListN.{length, get_or, set, drop_of_length-le}
use lib.Pow.{pow_pos}
use lib.Seq.{get_or-set_same, get_or-set_other, take-length}
use borrow.Author.Tests.{not-true, not-false}
use borrow.Rule.Slice.PartMut.{put_mid, mid_of, put_same}
use Rattle.kep.specs.Sets.{has, Part, counted, set_of, set_where, lowest_below, with_vertex, without_vertex}
use Rattle.kep.specs.Exchange.{last_of}
use Rattle.kep.proofs.Told.{some_told}
use Rattle.kep.proofs.Tests.{or_right, is_false, from_true, from_false, eq→eqb, and_iff}
use Rattle.kep.proofs.SetLaws.{IsLowest, nonempty, lowest_is, lowest_below_lem, has_below, has_none, not_in_empty}
use Rattle.kep.proofs.Parts.{part_le, part_refl, part_trans, has_and, has_or, in_rest, and_part}
use Rattle.kep.proofs.Operations.{with_cases, with_or, with_new, without_old, both_and, rest_and, rest_less}
use Rattle.kep.proofs.Vertices.{where_lt, in_power, in_with, with_part, with_without, in_without, bit_le}
use Rattle.sets.specs.declared.vertex_set.VertexSet.{VertexSet}
use Rattle.kep.specs.inner.Paths.{Field, Next, Completes, Completable, stop, go_on}
use Rattle.clearing.specs.inner.Seeking.{Ways, field_of, ends_of, open_at, DeadEnds, KeptBut, kept_dead, Entering, Sought, nowhere, found}

pub some_none : {A : Type 0} {o : Option A} {a : A} → o ≡ Some a → o ≡ None → ⊥
some_none s n = cc

pub some_same : {A : Type 0} {a b : A} → ◌≡◌ {A = Option A} (Some a) (Some b) → a ≡ b
some_same e = cc

-- ---- where a path may end, as code tests it

module _ (b : Bool) (e u : ℕ) {t : Bool} (test : t ≡ has e u) where
  pub no_end : not t ≡ true → false ≡ has (counted b e) u
  no_end n = go b
    where
      go : (b : Bool) → false ≡ has (counted b e) u
      go true = sym (not-true t n) ∙ test
      go false = sym (has_none u)

  pub end_by : not t ≡ false → b ≡ has (counted b e) u
  end_by n = go b
    where
      go : (b : Bool) → b ≡ has (counted b e) u
      go true = sym (not-false t n) ∙ test
      go false = sym (has_none u)

-- a failure as code keeps it, by bits
pub kept_as : (dead : List ℕ) (path u : ℕ) → path < 2 ^ 16 → T (has path u) → u < 16 → get_or dead (path - 2 ^ u) 0 < 2 ^ 16
    → set dead (path - 2 ^ u) (bit_or (get_or dead (path - 2 ^ u) 0) (2 ^ u)) ≡ kept_dead false dead path u
kept_as dead path u wide i l small = rw (without_old 16 path wide u i, with_or 16 (get_or dead (path - 2 ^ u) 0) small u l)

-- ---- the vertices to try, as code finds them

module _ (w : Ways) {path rest met : ℕ}
    (wide : w.free < 2 ^ 16)
    (part : Part path w.free)
    (beside : rest ≡ set_where 16 (λ v. has w.free v && not (has path v)))
    (common : met ≡ set_where 16 (λ v. has w.goal v && has rest v))
  where
    rest_is : rest ≡ w.free - path
    rest_is = beside ∙ rest_less 16 w.free wide part

    met_is : met ≡ bit_and w.goal (w.free - path)
    met_is = common ∙ both_and 16 w.goal rest (omega (arith, rest_is)) ∙ ap (bit_and w.goal) rest_is

    pub open_none : (dead : List ℕ) (u more : ℕ) → eqb met 0 ≡ true → 0 ≡ open_at w dead path u more
    unfolding open_at
    open_none dead u more z = rw (← met_is, z) (go (not (eqb more 0)) _)
      where
        go : (b : Bool) (n : ℕ) → 0 ≡ counted (b && false) n
        go true n = refl
        go false n = refl

    pub open_some : (dead : List ℕ) (u more : ℕ) {on left : ℕ} → more ≢ 0 → eqb met 0 ≡ false → on ≡ set_where 16 (λ v. has (get_or w.gives u 0) v && has rest v)
        → left ≡ set_where 16 (λ v. has on v && not (has (get_or dead path 0) v)) → left ≡ open_at w dead path u more
    unfolding open_at
    open_some dead u more {on} {left} some z ways untried =
        let on_is : on ≡ bit_and (get_or w.gives u 0) (w.free - path) = ways ∙ both_and 16 (get_or w.gives u 0) rest (omega (arith, rest_is)) ∙ ap (bit_and (get_or w.gives u 0)) rest_is in
        rw (← met_is, z, is_false (eqb more 0) (λ t. some (eqb→eq more 0 t)), ← on_is)
        (untried ∙ rest_and 16 on (rw ways (where_lt 16 _)) (get_or dead path 0))

-- ---- a path by its set and its last vertex

pub few_last : {free path u : ℕ} → free < 2 ^ 14 → path ≤ free → T (has path u) → u < 14
few_last {free} {path} {u} wide inside h = has_below 14 path u (omega (arith, inside, wide)) h

-- it goes on to v
pub has_with : {r : ℕ} (s v : ℕ) → r ≡ with_vertex 16 s v → s < 2 ^ 16 → v < 14 → T (has r v)
has_with s v e small l = rw (e, with_or 16 s small v (omega arith), has_or s (2 ^ v) v) (or_right (has s v) (has (2 ^ v) v) ((in_power v v).1 refl))

-- where a path goes on, its last vertex is free and was not on it
pub last_fresh : (f : Field) (ys : List ℕ) (path u v : ℕ) → Completes f path u (v ∷ ys) → T (has f.free (last_of v ys)) × (T (has path (last_of v ys)) → ⊥)
unfolding last_of
last_fresh f [] path u v c = (c.0.free, c.0.new)
last_fresh f (w ∷ ys) path u v c =
    let r = last_fresh f ys (2 ^ v + path) v w c.1 in
    (r.0, λ t. r.1 ((in_with path v (last_of w ys) c.0.new).1 (inr t)))

-- ---- the vertices left to try may come next, and from the others the path cannot be completed
pub record Open (f : Field) (path u left more : ℕ) : Type 0 where
  pub nexts : (v : ℕ) → T (has left v) → Next f path u v × (0 < more)
  pub tried : (v : ℕ) → Next f path u v → (T (has left v) → ⊥) → Completable f (2 ^ v + path) v → ⊥

-- ---- what take_lowest tells of the vertices left

-- ---- what is lent

module _ {s : Ways} {dead : List ℕ} {path u more : ℕ} (wide : s.free < 2 ^ 14) (e : Entering s dead path u more) where
  path_le : path ≤ s.free
  path_le = part_le e.part

  wide_path : path < 2 ^ 16
  wide_path = omega (arith, path_le, wide)

  came_from : without_vertex 16 path u ≡ path - 2 ^ u
  came_from = without_old 16 path wide_path u e.last

  -- ---- the vertices to try

  abbrev F : Field
  F = field_of s

  -- all that u gives to and that is free beside the path
  abbrev ways : ℕ
  ways = bit_and (get_or s.gives u 0) (s.free - path)

  pub opens : {left : ℕ} → left ≡ open_at s dead path u more → Open F path u left more
  unfolding open_at
  opens {left} q = rw q (go (eqb more 0) (eqb (bit_and s.goal (s.free - path)) 0) refl refl)
    where
      none_open : ((v : ℕ) → Next F path u v → Completable F (2 ^ v + path) v → ⊥) → Open F path u 0 more
      none_open n = record { nexts = λ v h. absurd (not_in_empty v h); tried = λ v m h c. n v m c }

      -- where the path goes on, a vertex of the goal is left
      met : (v : ℕ) → Next F path u v → (c : Completable F (2 ^ v + path) v) → T (has (bit_and s.goal (s.free - path)) (last_of v c.0))
      met v n c =
          let end = last_of v c.0 in
          rw (has_and s.goal (s.free - path) end)
          ((and_iff (has s.goal end) (has (s.free - path) end)).1 (e.aims v c.0 (n, c.1), (in_rest e.part end).1 (last_fresh F c.0 path u v (n, c.1))))

      in_ways : (v : ℕ) → T (has ways v) ↔ (T (has (get_or s.gives u 0) v) × T (has (s.free - path) v))
      in_ways v = rw (has_and (get_or s.gives u 0) (s.free - path) v) (and_iff (has (get_or s.gives u 0) v) (has (s.free - path) v))

      untried : (v : ℕ) → T (has (ways - bit_and (get_or dead path 0) ways) v) ↔ (T (has ways v) × (T (has (bit_and (get_or dead path 0) ways) v) → ⊥))
      untried v = in_rest (and_part (get_or dead path 0) ways) v

      failed : (v : ℕ) → T (has (bit_and (get_or dead path 0) ways) v) → T (has (get_or dead path 0) v)
      failed v t = ((and_iff (has (get_or dead path 0) v) (has ways v)).0 (rw has_and at t)).0

      next : (v : ℕ) → T (has (get_or s.gives u 0) v) × T (has (s.free - path) v) → Next F path u v
      next v (arc, rest) = let (free, new) = (in_rest e.part v).0 rest in record { arc = arc; free = free; new = new }

      go : (full lost : Bool) → eqb more 0 ≡ full → eqb (bit_and s.goal (s.free - path)) 0 ≡ lost → Open F path u (counted (not full && not lost) (ways - bit_and (get_or dead path 0) ways)) more
      go true lost z _ = none_open (λ v n c. omega (arith, eqb→eq more 0 (from_true z), e.short (v ∷ c.0) (n, c.1)))
      go false true _ z = none_open (λ v n c. not_in_empty (last_of v c.0) (rw (eqb→eq (bit_and s.goal (s.free - path)) 0 (from_true z)) at (met v n c)))
      go false false z _ = record {
        nexts = λ v h. (next v ((in_ways v).0 ((untried v).0 h).0), pos_of_ne-zero (λ k. from_false z (eq→eqb more 0 k)));
        tried = λ v n h c. h ((untried v).1 ((in_ways v).1 (n.arc, (in_rest e.part v).1 (n.free, n.new)), λ t. e.failed.sound path v e.part (nonempty path u e.last) (failed v t) c));
      }

  -- ---- nothing is left to go on to

  module _ {left : ℕ} (o : Open F path u left more) (none : left ≡ 0) where
    no_next : (v : ℕ) → Next F path u v → Completable F (2 ^ v + path) v → ⊥
    no_next v n c = o.tried v n (λ h. not_in_empty v (rw none at h)) c

    not_here : (T (has (ends_of s path) u) → ⊥) → Completable F path u → ⊥
    not_here n ([], c) = n c
    not_here n (v ∷ ys, c) = no_next v c.0 (ys, c.1)

    one_more : s.free < length dead → (T (has (ends_of s path) u) → ⊥) → DeadEnds F (kept_dead false dead path u)
    one_more long n = record { sound = λ p x i l h c. go p x i l h c (ℕ_discrete p before) }
      where
        before : ℕ
        before = without_vertex 16 path u

        more_dead : ℕ
        more_dead = with_vertex 16 (get_or dead before 0) u

        here : get_or (set dead before more_dead) before 0 ≡ more_dead
        here = get_or-set_same dead before more_dead 0 (omega (arith, came_from, path_le, wide, long))

        at_before : (x : ℕ) → Part before s.free → 0 < before → T (has more_dead x) → Completable F (2 ^ x + before) x → ⊥
        at_before x i l h c =
            ⊎_elim
            (λ k. e.failed.sound before x i l k c)
            (λ k. let whole : 2 ^ x + before ≡ path = ap (λ (y : ℕ). 2 ^ y + before) k ∙ omega (arith, came_from, with_without path u e.last) in not_here n (rw k at (rw whole at c)))
            (with_cases 16 (get_or dead before 0) u x h)

        go : (p x : ℕ) → Part p s.free → 0 < p → T (has (get_or (set dead before more_dead) p 0) x) → Completable F (2 ^ x + p) x → Dec (p ≡ before) → ⊥
        go p x i l h c (yes q) = at_before x (rw q at i) (rw q at l) (rw (q, here) at h) (rw q at c)
        go p x i l h c (no ne) = e.failed.sound p x i l (rw (get_or-set_other dead before p more_dead 0 ne) at h) c

    -- what is told and kept is right
    module _ {bytes bytes₀ dead₀ dead' : List ℕ} {at : VertexSet} {told : Option VertexSet} (at_path : at.0 ≡ path) (long : s.free < length dead) (same : bytes ≡ bytes₀) (untouched : (S : ℕ) → (Part path S → ⊥) → get_or dead S 0 ≡ get_or dead₀ S 0) where
      pub ended : told ≡ (if has (ends_of s path) u then Some at else None) → dead' ≡ kept_dead (has (ends_of s path) u) dead path u
          → DeadEnds F dead' × (KeptBut path u dead₀ dead' × Sought F path u bytes₀ told bytes)
      unfolding set_of
      ended = go (has (ends_of s path) u) refl
        where
          go : (b : Bool) → has (ends_of s path) u ≡ b → told ≡ (if b then Some at else None) → dead' ≡ kept_dead b dead path u
              → DeadEnds F dead' × (KeptBut path u dead₀ dead' × Sought F path u bytes₀ told bytes)
          go true q t d = (rw d e.failed, (record { same = λ S n _. rw d (untouched S n) }, found {ys = []} (rw q tt) (stop no_next) (t ∙ ap (λ (p : ℕ). Some (record { 0 = p })) (at_path ∙ omega arith)) same))
          go false q t d =
              let no : T (has (ends_of s path) u) → ⊥ = λ h. rw q at h in
              let before = without_vertex 16 path u in (
                rw d (one_more long no),
                (
                  record { same = λ S n ne. rw d (get_or-set_other dead before S (with_vertex 16 (get_or dead before 0) u) 0 (λ q. ne (q ∙ came_from)) ∙ untouched S n) },
                  nowhere t same (not_here no),
                ),
              )

-- ---- the loop: some vertices are left to try, and nothing is written yet
pub record Trying (s : Ways) (dead₀ bytes₀ : List ℕ) (path u : ℕ) (dead bytes : List ℕ) (left : ℕ) : Type 0 where
  pub long : s.free < length dead
  pub untouched : (S : ℕ) → (Part path S → ⊥) → get_or dead S 0 ≡ get_or dead₀ S 0
  pub same_bytes : bytes ≡ bytes₀
  pub fits : left < 2 ^ 16
  pub entering : Entering s dead path u (length bytes)
  pub opens : Open (field_of s) path u left (length bytes)

-- v, the lowest of them, is tried
module _ {s : Ways} {dead₀ bytes₀ dead bytes : List ℕ} {path u left v : ℕ}
    (wide : s.free < 2 ^ 14)
    (t : Trying s dead₀ bytes₀ path u dead bytes left)
    {lowest_told : Option ℕ}
    (tells : lowest_told ≡ (if eqb left 0 then None else Some (lowest_below 16 left)))
    (one : lowest_told ≡ Some v)
  where
    some : left ≢ 0
    some = (some_told _ tells one).0

    low : v ≡ lowest_below 16 left
    low = (some_told _ tells one).1

    abbrev G : Field
    G = field_of s

    is_low : IsLowest left v
    is_low = rw (low ∙ lowest_below_lem 16 left (pos_of_ne-zero some) t.fits) (lowest_is left (pos_of_ne-zero some))

    next : Next G path u v
    next = (t.opens.nexts v is_low.is_in).0

    pub room : 0 < length bytes
    room = (t.opens.nexts v is_low.is_in).1

    pub next_lt : v < 14
    next_lt = has_below 14 s.free v wide next.free

    longer_part : Part (2 ^ v + path) s.free
    longer_part = with_part v t.entering.part next.free next.new

    pub longer_le : 2 ^ v + path ≤ s.free
    longer_le = part_le longer_part

    -- v left out of those left
    others_are : {rest : ℕ} → rest ≡ without_vertex 16 left (lowest_below 16 left) → rest ≡ left - 2 ^ v
    others_are e = rw (← low) at e ∙ without_old 16 left t.fits v is_low.is_in

    -- fewer are left
    pub onward_falls : {rest : ℕ} → rest ≡ without_vertex 16 left (lowest_below 16 left) → rest < left
    onward_falls e = omega (arith, others_are e, bit_le left v is_low.is_in, pow_pos v)

    -- the path with v, as code makes it
    module _ {longer : ℕ} (put : longer ≡ with_vertex 16 path v) where
      longer_is : longer ≡ 2 ^ v + path
      longer_is = put ∙ with_new 16 path (wide_path wide t.entering) v (omega (arith, next_lt)) next.new

      -- fewer vertices are free beside it
      pub deeper_falls : s.free - longer < s.free - path
      deeper_falls = omega (arith, longer_is, longer_le, pow_pos v)

      -- the search from v on
      pub deeper : {more : ℕ} → more ≡ length bytes - 1 → Entering s dead longer v more
      unfolding last_of
      deeper q =
          rw longer_is
          (record {
            part = longer_part;
            last = (in_with path v v next.new).1 (inl refl);
            short = λ ys c. omega (arith, t.entering.short (v ∷ ys) (next, c));
            aims = λ w ys c. t.entering.aims v (w ∷ ys) (next, c);
            failed = t.entering.failed;
          })

      -- the sets whose entries it changes hold the path too
      still_untouched : {dead' : List ℕ} → KeptBut longer v dead dead' → (S : ℕ) → (Part path S → ⊥) → get_or dead' S 0 ≡ get_or dead₀ S 0
      still_untouched k S n = k.same S (λ i. n (part_trans within_longer (rw longer_is at i))) (λ e. n (rw (e ∙ path_is) (part_refl path))) ∙ t.untouched S n
        where
          path_is : longer - 2 ^ v ≡ path
          path_is = omega (arith, longer_is)

          within_longer : Part path (2 ^ v + path)
          within_longer = record { within = λ x h. (in_with path v x next.new).1 (inr h) }

      pub kept_there : {dead' : List ℕ} → KeptBut longer v dead dead' → KeptBut path u dead₀ dead'
      kept_there k = record { same = λ S n _. still_untouched k S n }

      -- what it tells and writes
      module _ {written : List ℕ} {told : Option VertexSet} (rest : Sought G longer v (mid_of 1 (length bytes - 1) bytes) told written) where
        -- it finds an exchange
        pub found_there : {taken : VertexSet} → told ≡ Some taken → Sought G path u bytes₀ told (set (put_mid 1 (length bytes - 1) bytes written) 0 v)
        unfolding set_of
        found_there {taken} one = rw (← t.same_bytes) (go bytes room (rw longer_is at rest))
          where
            lower : (x : ℕ) → x < v → Next G path u x → Completable G (2 ^ x + path) x → ⊥
            lower x l n c = t.opens.tried x n (λ h. omega (arith, is_low.least x h)) c

            go : (bytes : List ℕ) → 0 < length bytes → Sought G (2 ^ v + path) v (mid_of 1 (length bytes - 1) bytes) told written → Sought G path u bytes told (set (put_mid 1 (length bytes - 1) bytes written) 0 v)
            go bytes l (nowhere z w n) = absurd (some_none one z)
            go [] l (found c w k b) = absurd (omega arith)
            go (x ∷ bytes) l (found {ys = ys} c w k b) =
                let whole : suc (length bytes) - 1 ≡ length bytes = omega arith in
                found {ys = v ∷ ys} (next, c) (go_on next lower w) (k ∙ ap (λ (p : ℕ). Some (record { 0 = p })) (omega arith))
                (ap (λ (l : List ℕ). v ∷ l) (rw (b, whole, take-length bytes, drop_of_length-le bytes {i = length bytes} (omega arith), append-nil)))

        -- it finds nothing: the others are left, and nothing is written
        pub none_there : {dead' : List ℕ} {others : ℕ} → others ≡ without_vertex 16 left (lowest_below 16 left) → told ≡ None → s.free < length dead' → DeadEnds G dead' → KeptBut longer v dead dead'
            → Trying s dead₀ bytes₀ path u dead' (put_mid 1 (length bytes - 1) bytes written) others
        none_there {dead'} {others} removed z long failed kept = go (rw longer_is at rest)
          where
            still_open : (Completable G (2 ^ v + path) v → ⊥) → Open G path u (left - 2 ^ v) (length bytes)
            still_open vain = record { nexts = λ x h. t.opens.nexts x ((in_without left v x is_low.is_in).0 h).0; tried = λ x n h c. tried x n h c (ℕ_discrete x v) }
              where
                tried : (x : ℕ) → Next G path u x → (T (has (left - 2 ^ v) x) → ⊥) → Completable G (2 ^ x + path) x → Dec (x ≡ v) → ⊥
                tried x n h c (yes q) = vain (rw q at c)
                tried x n h c (no ne) = t.opens.tried x n (λ k. h ((in_without left v x is_low.is_in).1 (k, ne))) c

            go : Sought G (2 ^ v + path) v (mid_of 1 (length bytes - 1) bytes) told written
                → Trying s dead₀ bytes₀ path u dead' (put_mid 1 (length bytes - 1) bytes written) others
            go (found c w k b) = absurd (some_none k z)
            go (nowhere _ w vain) =
                rw (w, put_same 1 (length bytes - 1) bytes, others_are removed)
                (record {
                  long = long;
                  untouched = still_untouched kept;
                  same_bytes = t.same_bytes;
                  fits = omega (arith, t.fits);
                  entering = record {
                    part = t.entering.part;
                    last = t.entering.last;
                    short = t.entering.short;
                    aims = t.entering.aims;
                    failed = failed;
                  };
                  opens = still_open vain;
                })
