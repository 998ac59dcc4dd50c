-- Which record comes first. `before` is a total order on lists of bytes. Lists of vertices are compared by their first differing
-- vertex, and a list comes before its own beginning; the bytes of records are in the same order.
use mathlib.Core.Bool.{true, false, true≢false}
use mathlib.Core.List.{List, ◌∷◌, ◌++◌, [], append-nil, append_assoc}
use mathlib.Core.Path.{◌≡◌, refl, sym, ◌∙◌, ap}
use Prim.Native.Nat.{◌-◌, ℕ, ◌<◌, suc, zero, ◌≤◌}
use native.Mathlib.Nat.{sub-zero, suc-sub-suc}
use native.Mathlib.Omega.{arith}
use lib.Dec.{T}
use lib.ListN.{replicate, length, get_or, drop, length-append, length-replicate, drop_of_length-le}
use lib.Seq.{drop-cons}
use borrow.Author.Tests.{lt-ltb, le-ltb, eq-eqb, ne_eqb}
use Rattle.kep.specs.Lists.{before, Each}
use Rattle.kep.specs.Graph.{Graph}
use Rattle.kep.specs.Plan.{records_of, record_of, kind_of}
use Rattle.kep.specs.Table.{served}
use Rattle.kep.proofs.Tests.{below, equal, above, compared, Compared}
use Rattle.kep.proofs.Each.{each_first, each_rest}

-- ---- the test `before`, by the first bytes

pub before_below : (a b : ℕ) (s t : List ℕ) → a < b → before (a ∷ s) (b ∷ t) ≡ true
unfolding before
before_below a b s t h = rw (lt-ltb a b h, before)

pub before_equal : (a b : ℕ) (s t : List ℕ) → a ≡ b → before (a ∷ s) (b ∷ t) ≡ before s t
unfolding before
before_equal a b s t e = rw (le-ltb a b (omega arith), eq-eqb a b e, before)

pub before_above : (a b : ℕ) (s t : List ℕ) → b < a → before (a ∷ s) (b ∷ t) ≡ false
unfolding before
before_above a b s t h = rw (le-ltb a b (omega arith), ne_eqb a b (omega arith), before)

-- behind the same bytes the rest decides
pub before_after : (u s t : List ℕ) → before (u ++ s) (u ++ t) ≡ before s t
before_after [] s t = refl
before_after (c ∷ u) s t = rw (before_equal c c (u ++ s) (u ++ t) refl) (before_after u s t)

-- ---- a total order

pub before_refl : (s : List ℕ) → T (before s s)
unfolding before
before_refl [] = tt
before_refl (a ∷ s) = rw (before_equal a a s s refl) (before_refl s)

pub before_antisym : (s t : List ℕ) → T (before s t) → T (before t s) → s ≡ t
unfolding before
before_antisym [] [] h k = refl
before_antisym [] (b ∷ t) h k = absurd k
before_antisym (a ∷ s) [] h k = absurd h
before_antisym (a ∷ s) (b ∷ t) h k = go (λ h' k'. before_antisym s t h' k') (compared a b)
  where
    go : (T (before s t) → T (before t s) → s ≡ t) → Compared a b → a ∷ s ≡ b ∷ t
    go rest (below l) = absurd (rw (before_above b a t s l) at k)
    go rest (equal e) =
        let r : s ≡ t = rest (rw (before_equal a b s t e) at h) (rw (before_equal b a t s (sym e)) at k) in cc
    go rest (above l) = absurd (rw (before_above a b s t l) at h)

pub before_trans : (s t u : List ℕ) → T (before s t) → T (before t u) → T (before s u)
unfolding before
before_trans [] t u h k = tt
before_trans (a ∷ s) [] u h k = absurd h
before_trans (a ∷ s) (b ∷ t) [] h k = absurd k
before_trans (a ∷ s) (b ∷ t) (c ∷ u) h k = go (before_trans s t u) (compared a b) (compared b c)
  where
    less : a < c → T (before (a ∷ s) (c ∷ u))
    less l = rw (before_below a c s u l) tt

    go : (T (before s t) → T (before t u) → T (before s u)) → Compared a b → Compared b c → T (before (a ∷ s) (c ∷ u))
    go rest (above l) m = absurd (rw (before_above a b s t l) at h)
    go rest (below l) (below m) = less (omega arith)
    go rest (below l) (equal m) = less (omega arith)
    go rest (below l) (above m) = absurd (rw (before_above b c t u m) at k)
    go rest (equal l) (below m) = less (omega arith)
    go rest (equal l) (equal m) = rw (before_equal a c s u (l ∙ m)) (rest (rw (before_equal a b s t l) at h) (rw (before_equal b c t u m) at k))
    go rest (equal l) (above m) = absurd (rw (before_above b c t u m) at k)

-- of two lists that are not in order, the other comes first
pub before_other : (s t : List ℕ) → before s t ≡ false → T (before t s)
unfolding before
before_other [] t e = absurd (true≢false e)
before_other (a ∷ s) [] e = tt
before_other (a ∷ s) (b ∷ t) e = go (before_other s t) (compared a b)
  where
    go : (before s t ≡ false → T (before t s)) → Compared a b → T (before (b ∷ t) (a ∷ s))
    go rest (below l) = absurd (true≢false (sym (before_below a b s t l) ∙ e))
    go rest (equal q) = rw (before_equal b a t s (sym q)) (rest (sym (before_equal a b s t q) ∙ e))
    go rest (above l) = rw (before_below b a t s l) tt

-- ---- strictly before

infix 4 ◌≺◌
-- the lists differ at a byte of both, and at the first such byte this one has the smaller
pub data ◌≺◌ : List ℕ → List ℕ → Type 0 where
  differ : {a b : ℕ} {s t : List ℕ} → a < b → a ∷ s ≺ b ∷ t
  agree : {a b : ℕ} {s t : List ℕ} → a ≡ b → s ≺ t → a ∷ s ≺ b ∷ t

-- what follows the differing byte does not matter
pub ≺-append : {s t : List ℕ} (u v : List ℕ) → s ≺ t → s ++ u ≺ t ++ v
≺-append u v (differ h) = differ h
≺-append u v (agree e r) = agree e (≺-append u v r)

pub ≺-before : {s t : List ℕ} → s ≺ t → T (before s t)
≺-before (differ {a} {b} {s} {t} h) = rw (before_below a b s t h) tt
≺-before (agree {a} {b} {s} {t} e r) = rw (before_equal a b s t e) (≺-before r)

-- ---- the order of lists of vertices

infix 4 ◌◁◌
-- the first differing vertex decides, and a longer list comes before its own beginning
pub data ◌◁◌ : List ℕ → List ℕ → Type 0 where
  lower : {a b : ℕ} {xs ys : List ℕ} → a < b → a ∷ xs ◁ b ∷ ys
  longer : {a : ℕ} {xs : List ℕ} → a ∷ xs ◁ []
  next : {a b : ℕ} {xs ys : List ℕ} → a ≡ b → xs ◁ ys → a ∷ xs ◁ b ∷ ys

-- filled up to the width
unfoldable pub padded : ℕ → ℕ → List ℕ → List ℕ
padded width filler xs = xs ++ replicate (width - length xs) filler

pub padded_length : (k c : ℕ) (xs : List ℕ) → length xs ≤ k → length (padded k c xs) ≡ k
unfolding padded
padded_length k c xs h = simp (length-append, length-replicate) (omega arith)

pub padded_nil : (k c : ℕ) → padded (suc k) c [] ≡ c ∷ padded k c []
unfolding padded
padded_nil k c = simp sub-zero

pub padded_cons : (k c x : ℕ) (xs : List ℕ) → padded (suc k) c (x ∷ xs) ≡ x ∷ padded k c xs
unfolding padded
padded_cons k c x xs = rw suc-sub-suc

◁-length : {xs ys : List ℕ} → xs ◁ ys → 0 < length xs
◁-length (lower h) = omega arith
◁-length longer = omega arith
◁-length (next e r) = omega arith

-- a list that comes first has the filled-up bytes that come first: its vertices are below the filler
pub ◁-padded : (k c : ℕ) {xs ys : List ℕ} → length xs ≤ k → Each (λ v. v < c) xs → xs ◁ ys → padded k c xs ≺ padded k c ys
◁-padded zero c l b r = absurd (omega (arith, ◁-length r))
◁-padded (suc k) c l b (lower {a} {b = d} {xs} {ys} h) = rw (padded_cons k c a xs, padded_cons k c d ys) (differ h)
◁-padded (suc k) c l b (longer {a} {xs}) = rw (padded_cons k c a xs, padded_nil k c) (differ (each_first b))
◁-padded (suc k) c l b (next {a} {b = d} {xs} {ys} e r) =
    rw (padded_cons k c a xs, padded_cons k c d ys) (agree e (◁-padded k c (omega arith) (each_rest b) r))

-- ---- records

module _ (g : Graph) where
  -- the record that comes first is that of the list that comes first, whatever records follow
  pub records_order : {x y : List ℕ} (p q : List (List ℕ)) → length x ≤ 14 → Each (λ v. v < 255) x → x ◁ y → records_of g (x ∷ p) ≺ records_of g (y ∷ q)
  unfolding records_of record_of padded
  records_order {x} {y} p q short small r =
      ≺-append (records_of g p) (records_of g q)
      (≺-append (kind_of g x ∷ served g x ∷ []) (kind_of g y ∷ served g y ∷ []) (◁-padded 14 255 short small r))

  -- the same first record leaves the decision to the rest
  pub records_same : (x : List ℕ) (p q : List (List ℕ)) → before (records_of g (x ∷ p)) (records_of g (x ∷ q)) ≡ before (records_of g p) (records_of g q)
  unfolding records_of
  records_same x p q = before_after (record_of g x) (records_of g p) (records_of g q)

  -- one record more behind those that stand, and its length
  pub records_snoc : (p : List (List ℕ)) (x : List ℕ) → records_of g (p ++ x ∷ []) ≡ records_of g p ++ record_of g x
  unfolding records_of
  records_snoc [] x = append-nil (record_of g x)
  records_snoc (y ∷ p) x = rw (records_snoc p x) (sym (append_assoc (record_of g y) (records_of g p) (record_of g x)))

  pub record_length : (xs : List ℕ) → length xs ≤ 14 → length (record_of g xs) ≡ 16
  unfolding record_of
  record_length xs l = simp (length-append, length-replicate) (omega arith)

-- the two bytes of a record behind its vertices
pub last_two : (bytes : List ℕ) → length bytes ≡ 16 → drop 14 bytes ≡ get_or bytes 14 0 ∷ get_or bytes 15 0 ∷ []
last_two bytes e =
    let end : drop 16 bytes ≡ [] = drop_of_length-le bytes {i = 16} (omega arith) in
    drop-cons bytes 14 0 (omega arith) ∙ ap (λ l. get_or bytes 14 0 ∷ l) (drop-cons bytes 15 0 (omega arith) ∙ ap (λ l. get_or bytes 15 0 ∷ l) end)
