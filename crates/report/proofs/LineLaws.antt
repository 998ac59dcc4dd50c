-- The lines, piece by piece, as loops write them.
use mathlib.Core.Bool.{Bool, true, false, not, cond}
use mathlib.Core.List.{List, [], ◌∷◌, ◌++◌}
use mathlib.Core.Path.{◌≡◌, refl, sym, ap, ◌∙◌}
use mathlib.Core.Logic.{◌≢◌}
use Prim.Native.Nat.{ℕ, zero, suc, ◌+◌, ◌≤◌, ◌<◌}
use native.Mathlib.Omega.{arith}
use lib.Dec.{eqb}
use lib.ListN.{length, take, drop, get_or}
use borrow.Author.Tests.{eq-eqb, ne_eqb}
use Rattle.std.specs.Simd.{first_chunks}
use Rattle.std.specs.List.{take_while}
use Rattle.std.proofs.lemmas.List.{at_drop_more}
use Rattle.std.proofs.lemmas.List.Sums.{take_while-cons}
use Rattle.kep.specs.Lists.{cut}
use Rattle.plans.specs.Check.{listed}
use Rattle.report.specs.Text.{kind_word, place_text, places_text, record_line, record_lines}

-- ---- the kind

pub chain_word : (kind : ℕ) → kind ≡ 67 → 99 ∷ 104 ∷ 97 ∷ 105 ∷ 110 ∷ [] ≡ kind_word kind
unfolding kind_word
chain_word kind e = rw (eq-eqb kind 67 e, kind_word)

pub ring_word : (kind : ℕ) → kind ≢ 67 → 114 ∷ 105 ∷ 110 ∷ 103 ∷ [] ≡ kind_word kind
unfolding kind_word
ring_word kind n = rw (ne_eqb kind 67 n, kind_word)

-- ---- the places of a record

-- those that are listed stand before the first filler
pub listed_front : (bytes : List ℕ) → take_while (λ b. not (eqb b 255)) bytes ≡ listed bytes
unfolding listed
listed_front [] = refl
listed_front (b ∷ bs) = take_while-cons (λ b. not (eqb b 255)) b bs ∙ go (eqb b 255) (listed_front bs)
  where
    go : (t : Bool) → take_while (λ b. not (eqb b 255)) bs ≡ listed bs
        → cond (not t) (b ∷ take_while (λ b. not (eqb b 255)) bs) [] ≡ elim t as (λ _. List ℕ) [ true ↦ [] | false ↦ b ∷ listed bs ]
    go true e = refl
    go false e = ap (λ l. b ∷ l) e

pub places_next : (places : List ℕ) (i place : ℕ) → (i < length places) × (place ≡ get_or places i place)
    → places_text (drop i places) ≡ place_text place ++ places_text (drop (i + 1) places)
unfolding places_text
places_next places i place h = at_drop_more places_text places i place h.0 ∙ ap (λ v. place_text v ++ places_text (drop (i + 1) places)) (sym h.1)

-- ---- the lines of records

pub lines_next : (records : List (List ℕ)) (i : ℕ) → i < length records → record_lines (drop i records) ≡ record_line (get_or records i []) ++ record_lines (drop (i + 1) records)
unfolding record_lines
lines_next records i h = at_drop_more record_lines records i [] h

pub lines_cut : (k m : ℕ) (bytes : List ℕ) → k ≤ m → take k (first_chunks 16 m bytes) ≡ cut 16 k bytes
unfolding cut
lines_cut zero m bytes h = refl
lines_cut (suc k) zero bytes h = absurd (omega arith)
lines_cut (suc k) (suc m) bytes h = ap (λ rs. take 16 bytes ∷ rs) (lines_cut k m (drop 16 bytes) (omega arith))
