-- Reading records back: the vertices of a record, and the records of plan bytes.
use mathlib.Core.Bool.{Bool, true, false}
use mathlib.Core.List.{List, [], ◌∷◌, ◌++◌}
use mathlib.Core.Logic.{◌≢◌}
use mathlib.Core.Path.{◌≡◌, refl, sym, ◌∙◌, ap, ap₂}
use Prim.Native.Nat.{ℕ, zero, suc, ◌+◌, ◌-◌, ◌/◌, ◌≤◌, ◌<◌}
use native.Mathlib.Omega.{arith}
use lib.Dec.{eqb, T, eqb→eq}
use lib.ListN.{length, take, get_or, replicate, length-append, take-append-drop}
use lib.Seq.{take_at, get_or_at, length-take-le, append_snoc}
use borrow.Author.Tests.{eq-eqb, ne_eqb}
use Rattle.kep.specs.Lists.{Each, none, also, all, flat, cut}
use Rattle.kep.specs.Graph.{Graph}
use Rattle.kep.specs.Table.{served}
use Rattle.kep.specs.Plan.{kind_of, record_of}
use Rattle.plans.specs.Check.{listed, unlisted, vertices_of, filler_of, records_in}
use Rattle.kep.proofs.WholeRecords.{Whole, whole_length, cut_flat}
use Rattle.kep.proofs.ListLaws.{all_each}
use Rattle.kep.proofs.Bytes.{padded, padded_length, last_two}

-- ---- the places of a record

-- bytes are those listed, followed by the others
pub listed_unlisted : (bs : List ℕ) → listed bs ++ unlisted bs ≡ bs
unfolding listed unlisted
listed_unlisted [] = refl
listed_unlisted (b ∷ bs) = go (eqb b 255) (listed_unlisted bs)
  where
    go : (t : Bool) → listed bs ++ unlisted bs ≡ bs
        → ◌≡◌ {A = List ℕ} (elim t [ true ↦ [] | false ↦ b ∷ listed bs ] ++ elim t [ true ↦ b ∷ bs | false ↦ unlisted bs ]) (b ∷ bs)
    go true r = refl
    go false r = ap (λ cs. b ∷ cs) r

pub listed_filler : (b : ℕ) (bs : List ℕ) → b ≡ 255 → listed (b ∷ bs) ≡ []
unfolding listed
listed_filler b bs e = rw (eq-eqb b 255 e, listed)

pub listed_vertex : (b : ℕ) (bs : List ℕ) → b ≢ 255 → listed (b ∷ bs) ≡ b ∷ listed bs
unfolding listed
listed_vertex b bs n = rw (ne_eqb b 255 n, listed)

-- numbers that can stand as places in a record
abbrev pub Places : List ℕ → Type 0
Places xs = Each (λ x. x < 255) xs

-- places followed by 255s are what is listed, and the 255s what is not
listed_filled : {xs : List ℕ} (k : ℕ) → Places xs → listed (xs ++ replicate k 255) ≡ xs
unfolding listed
listed_filled zero none = refl
listed_filled (suc k) none = refl
listed_filled k (also {x = x} {xs = xs} h hs) = rw (listed_vertex x (xs ++ replicate k 255) (λ e. omega arith)) (ap (λ ys. x ∷ ys) (listed_filled k hs))

unlisted_filled : {xs : List ℕ} (k : ℕ) → Places xs → unlisted (xs ++ replicate k 255) ≡ replicate k 255
unfolding unlisted
unlisted_filled zero none = refl
unlisted_filled (suc k) none = refl
unlisted_filled k (also {x = x} {xs = xs} h hs) = rw (ne_eqb x 255 (λ e. omega arith), unlisted) (unlisted_filled k hs)

-- the test that bytes are all 255
pub filler_all : (k : ℕ) → T (all (λ b. eqb b 255) (replicate k 255))
unfolding all
filler_all zero = tt
filler_all (suc k) = filler_all k

all_filler_lem : {bs : List ℕ} → Each (λ b. T (eqb b 255)) bs → bs ≡ replicate (length bs) 255
all_filler_lem none = refl
all_filler_lem (also {x = b} h hs) = ap₂ (λ c cs. c ∷ cs) (eqb→eq b 255 h) (all_filler_lem hs)

-- ---- the record of a list of vertices, read

module _ (g : Graph) (xs : List ℕ) (few : length xs ≤ 14) where
  places_length : length (padded 14 255 xs) ≡ 14
  places_length = padded_length 14 255 xs few

  -- the last two bytes are its kind and its count
  pub record_kind_lem : get_or (record_of g xs) 14 0 ≡ kind_of g xs
  unfolding record_of padded
  record_kind_lem = get_or_at (padded 14 255 xs) (kind_of g xs) (served g xs ∷ []) 0 14 places_length

  pub record_count : get_or (record_of g xs) 15 0 ≡ served g xs
  unfolding record_of padded
  record_count =
      ap (λ bs. get_or bs 15 0) (sym (append_snoc (padded 14 255 xs) (kind_of g xs) (served g xs ∷ [])))
      ∙ get_or_at (padded 14 255 xs ++ (kind_of g xs ∷ [])) (served g xs) [] 0 15 (rw (length-append, places_length) refl)

  record_places : take 14 (record_of g xs) ≡ padded 14 255 xs
  unfolding record_of padded
  record_places = take_at (padded 14 255 xs) (kind_of g xs ∷ served g xs ∷ []) 14 places_length

  module _ (places : Places xs) where
    -- its vertices are those it was made of
    pub record_vertices : vertices_of (record_of g xs) ≡ xs
    unfolding vertices_of padded
    record_vertices = ap listed record_places ∙ listed_filled (14 - length xs) places

    pub record_filler : filler_of (record_of g xs) ≡ replicate (14 - length xs) 255
    unfolding filler_of padded
    record_filler = ap unlisted record_places ∙ unlisted_filled (14 - length xs) places

-- ---- sixteen bytes, made again from what they tell

module _ (r : List ℕ) (whole : length r ≡ 16) where
  -- the places, the kind, the count
  record_parts : r ≡ take 14 r ++ (get_or r 14 0 ∷ get_or r 15 0 ∷ [])
  record_parts = sym (take-append-drop 14 r) ∙ ap (λ bs. take 14 r ++ bs) (last_two r whole)

  pub vertices_few : length (vertices_of r) + length (filler_of r) ≡ 14
  unfolding vertices_of filler_of
  vertices_few =
      sym (length-append (listed (take 14 r)) (unlisted (take 14 r))) ∙ ap length (listed_unlisted (take 14 r)) ∙ length-take-le 14 r (omega arith)

  -- filled up with 255, and with the right kind and count, they are the record of their vertices
  pub record_back : (g : Graph) → T (all (λ b. eqb b 255) (filler_of r)) → get_or r 14 0 ≡ kind_of g (vertices_of r) → get_or r 15 0 ≡ served g (vertices_of r)
      → record_of g (vertices_of r) ≡ r
  unfolding record_of vertices_of filler_of
  record_back g h kind count =
      let xs = vertices_of r in
      let rest : length (filler_of r) ≡ 14 - length xs = omega (arith, vertices_few) in
      let fill : filler_of r ≡ replicate (14 - length xs) 255 = all_filler_lem (all_each (λ b. eqb b 255) (filler_of r) h) ∙ ap (λ k. replicate k 255) rest in
      let front : xs ++ replicate (14 - length xs) 255 ≡ take 14 r = ap (λ bs. xs ++ bs) (sym fill) ∙ listed_unlisted (take 14 r) in
      ap₂ (λ bs cs. bs ++ cs) front (ap₂ (λ k c. k ∷ c ∷ []) (sym kind) (sym count)) ∙ sym record_parts

-- ---- the records of plan bytes

pub records_joined : {rs : List (List ℕ)} → Whole 16 rs → records_in (flat rs) ≡ rs
records_joined {rs} h =
    let k : length (flat rs) / 16 ≡ length rs = omega (arith, whole_length 16 h) in
    ap (λ n. cut 16 n (flat rs)) k ∙ cut_flat 16 h
