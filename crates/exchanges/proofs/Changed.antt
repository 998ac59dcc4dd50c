-- Part of a table rewritten, entry by entry.
use mathlib.Core.List.{List}
use mathlib.Core.Path.{◌≡◌, ap, sym, refl, ◌∙◌}
use Prim.Native.Nat.{ℕ, ◌+◌, ◌-◌, ◌≤◌, ◌<◌}
use native.Mathlib.Decide.{dec_lt}
use native.Mathlib.Omega.{arith}
use lib.ListN.{length, length-append, length-drop, length-set, drop, get_or, set}
use lib.Seq.{ext_get_or, get_or-drop, get_or-set_same, get_or-set_other}
use Rattle.kep.specs.Lists.{tabulate, written_to}
use Rattle.kep.proofs.Tables.{length_tabulate, get_d_tabulate, get_d_after}
use Rattle.kep.proofs.Tests.{Compared, compared, below, equal, above}
use Rattle.exchanges.specs.inner.Changed.{Changed}

module _ {P : ℕ → Type 0} {f : ℕ → ℕ} where
  -- a table as it is, where it has the values already or none is meant
  pub changed_none : {d : List ℕ} (k : ℕ) → ((i : ℕ) → i < k → P i → get_or d i 0 ≡ f i) → Changed P k f d d
  changed_none k same = record { same_length = refl; done = same; kept = λ i _. refl }

  -- a store at k; the entries up to the next have their values already
  pub changed_store : {d t : List ℕ} {k x : ℕ} (next : ℕ) → Changed P k f d t → k < length d → P k → x ≡ f k → k < next
      → ((i : ℕ) → k < i → i < next → P i → get_or d i 0 ≡ f i) → Changed P next f d (set t k x)
  changed_store {d} {t} {k} {x} next c room here e less between = record { same_length = length-set t k x ∙ c.same_length; done = λ i b h. go i b h (compared i k); kept = kept }
    where
      go : (i : ℕ) → i < next → P i → Compared i k → get_or (set t k x) i 0 ≡ f i
      go i b h (below l) = get_or-set_other t k i x 0 (λ e. omega arith) ∙ c.done i l h
      go i b h (equal q) = rw q (get_or-set_same t k x 0 (omega (arith, c.same_length)) ∙ e)
      go i b h (above l) = get_or-set_other t k i x 0 (λ e. omega arith) ∙ c.kept i (λ m _. omega arith) ∙ between i l b h

      kept : (i : ℕ) → (i < next → P i → ⊥) → get_or (set t k x) i 0 ≡ get_or d i 0
      kept i n = get_or-set_other t k i x 0 (λ q. n (omega arith) (rw q here)) ∙ c.kept i (λ l h. n (omega arith) h)

  -- past the end of the table
  pub changed_end : {d t : List ℕ} {k : ℕ} (n : ℕ) → Changed (λ i. (i < n) × P i) k f d t → n ≤ k → Changed P n f d t
  changed_end n c le = record { same_length = c.same_length; done = λ i b h. c.done i (omega arith) (b, h); kept = λ i m. c.kept i (λ _ h. m h.0 h.1) }

  -- changed twice
  pub changed_over : {h g : ℕ → ℕ} {d t u : List ℕ} {n : ℕ} → Changed P n g d t → Changed P n h t u → ((i : ℕ) → i < n → P i → h i ≡ f i) → Changed P n f d u
  changed_over c e same = record {
    same_length = e.same_length ∙ c.same_length;
    done = λ i b p. e.done i b p ∙ same i b p;
    kept = λ i m. e.kept i m ∙ c.kept i m;
  }

-- every entry below n
pub changed_all : (f : ℕ → ℕ) (n : ℕ) (d : List ℕ) {t : List ℕ} → Changed (λ i. i ≡ i) n f d t → n ≤ length d → t ≡ written_to f n d
changed_all f n d {t} c room = ext_get_or 0 t (written_to f n d) (c.same_length ∙ sym whole) (λ i _. elim (dec_lt i n) [
  | yes l ↦ c.done i l refl ∙ sym (get_d_tabulate f n i (drop n d) l)
  | no m ↦
      let sum : n + (i - n) ≡ i = omega arith in
      c.kept i (λ l _. m l) ∙ sym (get_d_after f n i (drop n d) (omega arith) ∙ get_or-drop n d (i - n) 0 ∙ ap (λ (j : ℕ). get_or d j 0) sum)
])
  where
    whole : length (written_to f n d) ≡ length d
    whole = length-append (tabulate f n) (drop n d) ∙ omega (arith, length_tabulate f n, length-drop n d)
