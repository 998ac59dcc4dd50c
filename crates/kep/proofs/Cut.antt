-- Bytes cut into records.
use mathlib.Core.List.{List, [], ◌∷◌}
use mathlib.Core.Path.{◌≡◌, refl, ap, sym, ◌∙◌}
use Prim.Native.Nat.{ℕ, zero, suc, ◌+◌, ◌-◌, ◌*◌, ◌<◌}
use native.Mathlib.Nat.{mul-suc, mul-zero}
use native.Mathlib.Omega.{arith}
use lib.ListN.{length, get_or, take, drop}
use lib.Seq.{drop-drop}
use Rattle.std.specs.Simd.{first_chunks}
use Rattle.kep.specs.Lists.{cut}

pub length_cut : (w k : ℕ) (bytes : List ℕ) → length (cut w k bytes) ≡ k
unfolding cut
length_cut w zero bytes = refl
length_cut w (suc k) bytes = ap suc (length_cut w k (drop w bytes))

-- the records that the library's chunks are
pub chunks_cut : (w k : ℕ) (bytes : List ℕ) → first_chunks w k bytes ≡ cut w k bytes
unfolding cut
chunks_cut w zero bytes = refl
chunks_cut w (suc k) bytes = ap (λ rs. take w bytes ∷ rs) (chunks_cut w k (drop w bytes))

-- record i
pub get_d_cut : (w k i : ℕ) (bytes : List ℕ) → i < k → get_or (cut w k bytes) i [] ≡ take w (drop (w * i) bytes)
unfolding cut
get_d_cut w zero i bytes h = absurd (omega arith)
get_d_cut w (suc k) zero bytes h = rw (mul-zero w)
get_d_cut w (suc k) (suc i) bytes h =
    let further : w + w * i ≡ w * suc i = omega (arith, mul-suc w i) in
    get_d_cut w k i (drop w bytes) (omega arith) ∙ ap (take w) (drop-drop (w * i) w bytes ∙ ap (λ j. drop j bytes) further)

pub chunk_at : (w k i : ℕ) (bytes : List ℕ) {rs : List (List ℕ)} → rs ≡ first_chunks w k bytes → i < k → get_or rs i [] ≡ take w (drop (w * i) bytes)
chunk_at w k i bytes e h = ap (λ rs. get_or rs i []) (e ∙ chunks_cut w k bytes) ∙ get_d_cut w k i bytes h

-- of n records those from record i on: record i, and those from the next on
pub cut_from : (w n i : ℕ) (bytes : List ℕ) → i < n
    → cut w (n - i) (drop (w * i) bytes) ≡ take w (drop (w * i) bytes) ∷ cut w (n - suc i) (drop (w * suc i) bytes)
unfolding cut
cut_from w n i bytes h =
    let more : n - i ≡ suc (n - suc i) = omega arith in
    let on : drop w (drop (w * i) bytes) ≡ drop (w * suc i) bytes = drop-drop w (w * i) bytes ∙ ap (λ k. drop k bytes) (sym (mul-suc w i)) in
    ap (λ k. cut w k (drop (w * i) bytes)) more ∙ ap (λ bs. take w (drop (w * i) bytes) ∷ cut w (n - suc i) bs) on

-- none is left from record n on
pub cut_none : (w n i : ℕ) (bytes : List ℕ) → n - i ≡ 0 → cut w (n - i) bytes ≡ []
unfolding cut
cut_none w n i bytes e = ap (λ k. cut w k bytes) e

-- record i as code lends it, a part from w * i on, and its length where it stands there
pub part : (w i : ℕ) (bytes : List ℕ) → take (w * i + w - w * i) (drop (w * i) bytes) ≡ take w (drop (w * i) bytes)
part w i bytes = let width : w * i + w - w * i ≡ w = omega arith in ap (λ k. take k (drop (w * i) bytes)) width

-- which is record i
pub record_part_lem : (w n i : ℕ) (bytes : List ℕ) → i < n → take (w * i + w - w * i) (drop (w * i) bytes) ≡ get_or (cut w n bytes) i []
record_part_lem w n i bytes h = part w i bytes ∙ sym (get_d_cut w n i bytes h)
