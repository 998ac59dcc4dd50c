-- Tables filled upward: the laws of `tabulate`.
use mathlib.Core.List.{◌∷◌, [], List, ◌++◌, append-nil}
use mathlib.Core.Logic.{◌⊎◌, inl, inr}
use mathlib.Core.Path.{◌≡◌, refl, ap, sym, ◌∙◌, subst}
use Prim.Native.Nat.{ℕ, zero, suc, ◌+◌, ◌-◌, ◌≤◌, ◌<◌}
use native.Mathlib.Nat.{eq-or-lt_of_le, le_of_suc-le-suc, add-zero}
use native.Mathlib.Numerals.{add-one}
use native.Mathlib.Omega.{arith}
use lib.ListN.{length, length-append, get_or, take, drop, set}
use lib.Seq.{append_snoc, drop-cons, take_at, drop_at, set_at, get_or_at, get_or-append-add, get_or-drop}
use Rattle.kep.specs.Lists.{tabulate}

pub length_tabulate : (f : ℕ → ℕ) (k : ℕ) → length (tabulate f k) ≡ k
unfolding tabulate
length_tabulate f zero = refl
length_tabulate f (suc k) = length-append (tabulate f k) (f k ∷ []) ∙ ap (λ (n : ℕ). n + 1) (length_tabulate f k) ∙ add-one k

-- a turn of a loop that fills a table from the front: the store at k takes the table of k entries to that of k + 1
pub tabulate_more : (f : ℕ → ℕ) (k : ℕ) (t : List ℕ) → k < length t → set (tabulate f k ++ drop k t) k (f k) ≡ tabulate f (k + 1) ++ drop (k + 1) t
unfolding tabulate
tabulate_more f k t h =
    ap (λ (r : List ℕ). set (tabulate f k ++ r) k (f k)) (drop-cons t k 0 h)
    ∙ set_at (tabulate f k) (get_or t k 0) (drop (suc k) t) (f k) k (length_tabulate f k)
    ∙ sym (append_snoc (tabulate f k) (f k) (drop (suc k) t))
    ∙ ap (λ (n : ℕ). tabulate f n ++ drop n t) (sym (add-one k))

-- as code has it
pub tabulate_store : (f : ℕ → ℕ) (k : ℕ) (t : List ℕ) {filled : List ℕ} {x : ℕ} → k < length t → filled ≡ tabulate f k ++ drop k t → x ≡ f k
    → set filled k x ≡ tabulate f (k + 1) ++ drop (k + 1) t
tabulate_store f k t h p q = rw (p, q) (tabulate_more f k t h)

-- an entry that holds its value already
pub tabulate_keep : (f : ℕ → ℕ) (k : ℕ) (t : List ℕ) → k < length t → get_or t k 0 ≡ f k → tabulate f k ++ drop k t ≡ tabulate f (k + 1) ++ drop (k + 1) t
unfolding tabulate
tabulate_keep f k t h e =
    ap (λ (r : List ℕ). tabulate f k ++ r) (drop-cons t k 0 h ∙ ap (λ (x : ℕ). x ∷ drop (suc k) t) e)
    ∙ sym (append_snoc (tabulate f k) (f k) (drop (suc k) t))
    ∙ ap (λ (n : ℕ). tabulate f n ++ drop n t) (sym (add-one k))

-- entry i of the table, whatever follows it
pub get_d_tabulate : (f : ℕ → ℕ) (k i : ℕ) (rest : List ℕ) → i < k → get_or (tabulate f k ++ rest) i 0 ≡ f i
unfolding tabulate
get_d_tabulate f zero i rest h = absurd (omega arith)
get_d_tabulate f (suc k) i rest h =
    ap (λ (l : List ℕ). get_or l i 0) (append_snoc (tabulate f k) (f k) rest) ∙ go (get_d_tabulate f k i (f k ∷ rest)) (eq-or-lt_of_le (le_of_suc-le-suc h))
  where
    go : (i < k → get_or (tabulate f k ++ f k ∷ rest) i 0 ≡ f i) → (i ≡ k) ⊎ (i < k) → get_or (tabulate f k ++ f k ∷ rest) i 0 ≡ f i
    go ih (inl e) = rw e (get_or_at (tabulate f k) (f k) rest 0 k (length_tabulate f k))
    go ih (inr l) = ih l

-- of a table that was written
pub written_at : (f : ℕ → ℕ) (k : ℕ) (table : List ℕ) {left : List ℕ} → left ≡ tabulate f k ++ drop k table → (i : ℕ) → i < k → get_or left i 0 ≡ f i
written_at f k table e i h = ap (λ (l : List ℕ). get_or l i 0) e ∙ get_d_tabulate f k i (drop k table) h

-- where nothing follows
pub get_d_whole : (f : ℕ → ℕ) (k i : ℕ) → i < k → get_or (tabulate f k) i 0 ≡ f i
get_d_whole f k i h = ap (λ (l : List ℕ). get_or l i 0) (sym (append-nil (tabulate f k))) ∙ get_d_tabulate f k i [] h

-- entry k of a table that is overwritten from the front, when its turn comes
pub get_d_behind : (f : ℕ → ℕ) (k : ℕ) (t : List ℕ) → get_or (tabulate f k ++ drop k t) k 0 ≡ get_or t k 0
get_d_behind f k t =
    let here : length (tabulate f k) + 0 ≡ k = omega (arith, length_tabulate f k) in
    subst (λ (i : ℕ). get_or (tabulate f k ++ drop k t) i 0 ≡ get_or t k 0) here
    (get_or-append-add (tabulate f k) (drop k t) 0 0 ∙ get_or-drop k t 0 0 ∙ ap (λ (i : ℕ). get_or t i 0) (add-zero k))

-- what stands behind the table
pub get_d_after : (f : ℕ → ℕ) (k i : ℕ) (rest : List ℕ) → k ≤ i → get_or (tabulate f k ++ rest) i 0 ≡ get_or rest (i - k) 0
get_d_after f k i rest h =
    let here : length (tabulate f k) + (i - k) ≡ i = omega (arith, length_tabulate f k) in
    subst (λ (j : ℕ). get_or (tabulate f k ++ rest) j 0 ≡ get_or rest (i - k) 0) here (get_or-append-add (tabulate f k) rest (i - k) 0)

-- tables of functions that agree below k
pub tabulate_below : (f g : ℕ → ℕ) (k : ℕ) → ((i : ℕ) → i < k → f i ≡ g i) → tabulate f k ≡ tabulate g k
unfolding tabulate
tabulate_below f g zero same = refl
tabulate_below f g (suc k) same = rw (tabulate_below f g k (λ i l. same i (omega arith)), same k (omega arith))

-- the front of a table that was written
pub written_front : (f : ℕ → ℕ) (k : ℕ) (table : List ℕ) {left : List ℕ} → left ≡ tabulate f k ++ drop k table → take k left ≡ tabulate f k
written_front f k table e = ap (take k) e ∙ take_at (tabulate f k) (drop k table) k (length_tabulate f k)

-- a table that is filled twice holds what was stored last
pub tabulate_over : (f g : ℕ → ℕ) (k : ℕ) (d : List ℕ) → tabulate f k ++ drop k (tabulate g k ++ drop k d) ≡ tabulate f k ++ drop k d
tabulate_over f g k d = ap (λ (l : List ℕ). tabulate f k ++ l) (drop_at (tabulate g k) (drop k d) k (length_tabulate g k))
