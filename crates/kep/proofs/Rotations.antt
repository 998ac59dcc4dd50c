-- Turning a cycle to begin at its lowest vertex.
use mathlib.Core.Bool.{Bool, true, false}
use mathlib.Core.List.Memᴰ
use mathlib.Core.List.Permᴰ
use mathlib.Core.List.{List, ◌∷◌, ◌++◌, [], Permᴰ, append-nil, append_assoc, head-eq_of_cons-eq, tail-eq_of_cons-eq}
use mathlib.Core.Path.{◌≡◌, refl, ap, ◌∙◌, sym}
use Prim.Native.Nat.{ℕ, suc, zero, ◌≤◌}
use native.Mathlib.Omega.{arith}
use lib.Dec.{T, ltb}
use lib.ListN.{length, length-append}
use Rattle.kep.specs.Lists.{all, also, none, distinct}
use Rattle.kep.specs.Table.{lowest_first}
use Rattle.kep.specs.Exchange.{turned, turned_by}
use Rattle.kep.proofs.Tests.{compared, Compared, below, equal, above}
use Rattle.kep.proofs.Each.{each_at, each_append, each_map}
use Rattle.kep.proofs.ListLaws.{distinct_rest, Apart, distinct_first}
use Rattle.kep.proofs.Walks.{Lower, lower_lowest_first, lowest_first_lower}

-- turning stops at a list that begins at its lowest vertex, and goes on at any other
turned_stop : (k x : ℕ) (xs : List ℕ) → T (lowest_first (x ∷ xs)) → turned_by (suc k) (x ∷ xs) ≡ x ∷ xs
unfolding turned_by lowest_first
turned_stop k x xs h = go (all (λ y. ltb x y) xs) h
  where
    go : (b : Bool) → T b → ◌≡◌ {A = List ℕ} (elim b [ true ↦ x ∷ xs | false ↦ turned_by k (xs ++ x ∷ []) ]) (x ∷ xs)
    go true t = refl
    go false t = absurd t

turned_step : (k x : ℕ) (xs : List ℕ) → (T (lowest_first (x ∷ xs)) → ⊥) → turned_by (suc k) (x ∷ xs) ≡ turned_by k (xs ++ x ∷ [])
unfolding turned_by lowest_first
turned_step k x xs h = go (all (λ y. ltb x y) xs) h
  where
    go : (b : Bool) → (T b → ⊥) → ◌≡◌ {A = List ℕ} (elim b [ true ↦ x ∷ xs | false ↦ turned_by k (xs ++ x ∷ []) ]) (turned_by k (xs ++ x ∷ []))
    go true t = absurd (t tt)
    go false t = refl

fixed_by : (k : ℕ) (xs : List ℕ) → T (lowest_first xs) → turned_by k xs ≡ xs
unfolding turned_by
fixed_by zero xs h = refl
fixed_by (suc k) [] h = refl
fixed_by (suc k) (x ∷ xs) h = turned_stop k x xs h

-- what begins at its lowest vertex is not turned
pub turned_fixed : (xs : List ℕ) → T (lowest_first xs) → turned xs ≡ xs
unfolding turned
turned_fixed xs h = fixed_by (length xs) xs h

module _ (P : List ℕ → Type 0) (turn : (x : ℕ) (xs : List ℕ) → P (x ∷ xs) → P (xs ++ x ∷ [])) where
  kept_by : (k : ℕ) (xs : List ℕ) → P xs → P (turned_by k xs)
  unfolding turned_by
  kept_by zero xs h = h
  kept_by (suc k) [] h = h
  kept_by (suc k) (x ∷ xs) h = go (all (λ y. ltb x y) xs) (kept_by k (xs ++ x ∷ []) (turn x xs h))
    where
      go : (b : Bool) → P (turned_by k (xs ++ x ∷ [])) → P (elim b [ true ↦ x ∷ xs | false ↦ turned_by k (xs ++ x ∷ []) ])
      go true r = h
      go false r = r

  -- what is kept when the first vertex is put last is kept when a list is turned
  pub turned_keeps : (xs : List ℕ) → P xs → P (turned xs)
  unfolding turned
  turned_keeps xs h = kept_by (length xs) xs h

-- turning keeps the vertices
pub turned_perm : (xs : List ℕ) → Permᴰ (turned xs) xs
turned_perm xs = turned_keeps (λ ys. Permᴰ ys xs) (λ y ys p. Permᴰ.trans (Permᴰ.append_comm ys (y ∷ [])) p) xs (Permᴰ.refl xs)

pub turned_some : (xs : List ℕ) → 1 ≤ length xs → 1 ≤ length (turned xs)
turned_some = turned_keeps (λ ys. 1 ≤ length ys) (λ y ys h. omega (arith, length-append ys (y ∷ [])))

to_by : (k : ℕ) (front : List ℕ) (x : ℕ) (back : List ℕ) → length front ≤ k → Lower x front → Lower x back → turned_by k (front ++ x ∷ back) ≡ x ∷ back ++ front
to_by k [] x back h lf lb = rw append-nil (fixed_by k (x ∷ back) (lower_lowest_first x lb))
to_by zero (y ∷ ys) x back h lf lb = absurd (omega arith)
to_by (suc k) (y ∷ ys) x back h (also l ls) lb =
    turned_step k y (ys ++ x ∷ back) (λ t. omega (arith, each_at (lowest_first_lower y (ys ++ x ∷ back) t) (Memᴰ.append_right ys (Memᴰ.head refl))))
    ∙ ap (turned_by k) (append_assoc ys (x ∷ back) (y ∷ []))
    ∙ to_by k ys x (back ++ y ∷ []) (omega arith) ls (each_append lb (also l none))
    ∙ ap (λ zs. x ∷ zs) (append_assoc back (y ∷ []) ys)

-- turning brings the lowest vertex to the front, and then what stood behind and before it
turned_to : (front : List ℕ) (x : ℕ) (back : List ℕ) → Lower x front → Lower x back → turned (front ++ x ∷ back) ≡ x ∷ back ++ front
unfolding turned
turned_to front x back = to_by (length (front ++ x ∷ back)) front x back (omega (arith, length-append front (x ∷ back)))

-- where the lowest vertex of a list stands
record LowestAt (xs : List ℕ) : Type 0 where
  front : List ℕ
  lowest : ℕ
  back : List ℕ
  split : xs ≡ front ++ lowest ∷ back
  under_front : Lower lowest front
  under_back : Lower lowest back

lowest_at : (x : ℕ) (xs : List ℕ) → T (distinct (x ∷ xs)) → LowestAt (x ∷ xs)
lowest_at x [] h = record { front = []; lowest = x; back = []; split = refl; under_front = none; under_back = none }
lowest_at x (y ∷ ys) h = step (lowest_at y ys (distinct_rest x (y ∷ ys) h))
  where
    step : LowestAt (y ∷ ys) → LowestAt (x ∷ y ∷ ys)
    step r = decide (compared x r.lowest)
      where
        decide : Compared x r.lowest → LowestAt (x ∷ y ∷ ys)
        decide (below l) =
            let before_it : Lower x r.front = each_map (λ z k. omega arith) r.under_front in
            let behind_it : Lower x (r.lowest ∷ r.back) = also l (each_map (λ z k. omega arith) r.under_back) in
            record { front = []; lowest = x; back = y ∷ ys; split = refl; under_front = none; under_back = rw r.split (each_append before_it behind_it) }
        decide (equal e) =
            let apart : Apart x (r.front ++ r.lowest ∷ r.back) = rw r.split at (distinct_first x (y ∷ ys) h) in
            absurd (each_at apart (Memᴰ.append_right r.front (Memᴰ.head refl)) e)
        decide (above m) = record {
          front = x ∷ r.front;
          lowest = r.lowest;
          back = r.back;
          split = ap (λ zs. x ∷ zs) r.split;
          under_front = also m r.under_front;
          under_back = r.under_back;
        }

-- a list that repeats no vertex, turned, begins at its lowest
pub turned_lowest : (xs : List ℕ) → T (distinct xs) → T (lowest_first (turned xs))
unfolding lowest_first
turned_lowest [] h = rw (turned_fixed [] tt) tt
turned_lowest (x ∷ xs) h =
    let r = lowest_at x xs h in
    let lowest : T (lowest_first (r.lowest ∷ r.back ++ r.front)) = lower_lowest_first r.lowest (each_append r.under_back r.under_front) in
    rw (r.split, turned_to r.front r.lowest r.back r.under_front r.under_back) lowest

-- wherever a list that repeats no vertex begins, turned it is the same
pub turned_turn : (x : ℕ) (xs : List ℕ) → T (distinct (x ∷ xs)) → turned (xs ++ x ∷ []) ≡ turned (x ∷ xs)
turned_turn x xs h = let r = lowest_at x xs h in go r.front r.lowest r.back r.under_front r.under_back r.split
  where
    go : (front : List ℕ) (m : ℕ) (back : List ℕ) → Lower m front → Lower m back → x ∷ xs ≡ front ++ m ∷ back → turned (xs ++ x ∷ []) ≡ turned (x ∷ xs)
    go [] m back lf lb e =
        rw (head-eq_of_cons-eq e, tail-eq_of_cons-eq e)
        (turned_to back m [] lb none ∙ ap (λ zs. m ∷ zs) (sym (append-nil back)) ∙ sym (turned_to [] m back none lb))
    go (f ∷ fs) m back (also l ls) lb e =
        rw (head-eq_of_cons-eq e, tail-eq_of_cons-eq e, append_assoc fs (m ∷ back) (f ∷ []))
        (turned_to fs m (back ++ f ∷ []) ls (each_append lb (also l none))
        ∙ ap (λ zs. m ∷ zs) (append_assoc back (f ∷ []) fs)
        ∙ sym (turned_to (f ∷ fs) m back (also l ls) lb))
