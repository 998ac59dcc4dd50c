-- The sets that begin at one vertex, filled in turn: pass one by jumps over those of too many vertices, pass two over all; and vertex after
-- vertex.
use mathlib.Core.Bool.{Bool, true, false}
use mathlib.Core.List.{List}
use mathlib.Core.Logic.{◌⊎◌, inl, inr}
use Rattle.std.specs.Prelude.{Option, Some, None}
use mathlib.Core.Path.{◌≡◌, ap, ap₂, sym, refl, ◌∙◌, subst}
use Prim.Native.Nat.{ℕ, suc, ◌+◌, ◌-◌, ◌*◌, ◌/◌, ◌^◌, ◌≤◌, ◌<◌}
use native.Mathlib.Decide.{ℕ_discrete, dec_lt}
use native.Mathlib.Nat.{eq-zero-or-pos, mod-eq_of_lt}
use native.Mathlib.Omega.{arith}
use lib.Bits.{bit_and, and_zero_l, and_zero_r}
use lib.Count.{ones, ones-le, ones_cat}
use lib.Dec.{T}
use lib.ListN.{length, length-set, get_or, set}
use lib.Seq.{get_or-set_same, get_or-set_other}
use lib.Pow.{pow_pos, pow-lt, split, shr_lt}
use borrow.Author.Tests.{le-leb, lt-leb}
use Rattle.kep.specs.Graph.{Graph, WellFormed}
use Rattle.kep.specs.Sets.{has, counted}
use Rattle.kep.specs.inner.Lowest.{lowest}
use Rattle.kep.proofs.SetLaws.{IsLowest, lowest_is, has_below}
use Rattle.kep.proofs.Vertices.{bit_le, in_without}
use Rattle.kep.proofs.LowestBit.{remainder_lowest, lowest_remainder, remainder_more, remainder_apart, ones_without, ones_add, ones_some, Jump, jump, lowest_bit}
use Rattle.kep.specs.computed.Table.{entry}
use Rattle.kep.specs.inner.Filling.{ends}
use Rattle.exchanges.specs.inner.Changed.{Changed}
use Rattle.exchanges.specs.inner.ByLowest.{Begins, Closes, Allowed, Next, Held, Known, entry_of, ends_within, closing_at, kept_of, limit_at}
use Rattle.exchanges.proofs.Changed.{changed_none, changed_store, changed_over, changed_all}
use Rattle.exchanges.specs.declared.filling.Filling.{Filling}
use Rattle.pool.specs.Value.{graph_of}
use Rattle.kep.specs.Lists.{written_to}
use Rattle.kep.proofs.Ends.{ends_alone, ends_none}
use Rattle.kep.proofs.EntryMeaning.{entry_empty, entry_altruist}
use Rattle.exchanges.proofs.Keeping.{lowest_of, ones_alone, chain_entry}

-- ---- the sets that begin at l

pub begins_alone : (l : ℕ) → Begins l (2 ^ l)
begins_alone l = record { remainder = mod-eq_of_lt (omega (arith, pow_pos l)) }

-- the next comes after twice the first
pub stride : (l : ℕ) {first : ℕ} → first ≡ 2 ^ l → 2 * first ≡ 2 ^ suc l
stride l e = omega arith

module _ {l s : ℕ} (b : Begins l s) where
  pub begins_next : Begins l (s + 2 ^ suc l)
  begins_next = record { remainder = remainder_more s l (suc l) (omega arith) b.remainder }

  pub begun : IsLowest s l
  begun = remainder_lowest b.remainder

  pub begins_le : 2 ^ l ≤ s
  begins_le = bit_le s l begun.is_in

  ones_begun : ones s ≡ suc (ones (s - 2 ^ l))
  ones_begun = ones_without s l begun.is_in

-- of those below 2 ^ n each has at most n - l vertices
pub ones_few : (l n s : ℕ) → l < n → s < 2 ^ n → Begins l s → ones s + l ≤ n
ones_few l n s h small b =
    let e : n ≡ n - suc l + suc l = omega arith in
    let q : s / 2 ^ suc l < 2 ^ (n - suc l) = shr_lt (n - suc l) (suc l) (subst (λ (k : ℕ). s < 2 ^ k) e small) in
    let whole : s / 2 ^ suc l * 2 ^ suc l + 2 ^ l ≡ s = omega (arith, split s (suc l), b.remainder) in
    let c : ones (s / 2 ^ suc l * 2 ^ suc l + 2 ^ l) ≡ ones (s / 2 ^ suc l) + ones (2 ^ l) = ones_cat (suc l) (s / 2 ^ suc l) (2 ^ l) (omega (arith, pow_pos l)) in
    omega (arith, ap ones whole, ones-le (n - suc l) (s / 2 ^ suc l) q, ones_alone l)

-- ---- the next set of at most cap vertices

module _ {l cap s : ℕ} (b : Begins l s) (fits : ones s ≤ cap) where
  -- below the limit it is the next that begins at l
  next_step : ones s < cap → Next l cap s (s + 2 ^ suc l)
  next_step less = record {
    further = omega (arith, pow_pos l);
    begins = begins_next b;
    few = omega (arith, ones_add s (suc l));
    many = λ i m k c. absurd (omega (arith, remainder_apart (suc l) (b.remainder ∙ sym c.remainder) m));
  }

  -- at the limit the lowest bit of the others is added
  next_jump : 2 ^ l < s → cap ≤ ones s → Next l cap s (s + 2 ^ lowest (s - 2 ^ l))
  next_jump more full = record {
    further = omega (arith, pow_pos v);
    begins = added;
    few = omega (arith, ones_begun added, ones_begun b, leap.few, ap ones rest);
    many = λ i m k c. omega (arith, ones_begun c, ones_begun b, begins_le c, leap.many (i - 2 ^ l) (omega (arith, begins_le b)) (omega (arith, begins_le c)));
  }
    where
      v : ℕ
      v = lowest (s - 2 ^ l)

      leap : Jump (s - 2 ^ l) (s - 2 ^ l + 2 ^ lowest (s - 2 ^ l))
      leap = jump (s - 2 ^ l) (omega arith)

      later : l < v
      later =
          let low = begun b in
          let (i, ne) = (in_without s l v low.is_in).0 (lowest_is (s - 2 ^ l) (omega arith)).is_in in
          omega (arith, low.least v i)

      added : Begins l (s + 2 ^ lowest (s - 2 ^ l))
      added = record { remainder = remainder_more s l v later b.remainder }

      rest : s + 2 ^ v - 2 ^ l ≡ s - 2 ^ l + 2 ^ v
      rest = omega (arith, begins_le b)

-- a limit of one vertex allows no more than the first alone
pub none_more : {l cap i : ℕ} → cap ≡ 1 → 2 ^ l < i → Begins l i → cap < ones i
none_more {l} {i = i} one m b = omega (arith, ones_begun b, ones_some (i - 2 ^ l) (omega arith))

-- the second, which a larger limit allows; between the two none begins there
module _ {l cap set : ℕ} (e : set ≡ 2 ^ l + 2 ^ suc l) where
  pub second_set : 2 ≤ cap → Allowed l cap set
  second_set two = rw e (record { begins = begins_next (begins_alone l); more = omega (arith, pow_pos l); fits = omega (arith, ones_add (2 ^ l) (suc l), ones_alone l) })

  pub none_between : (i : ℕ) → 2 ^ l < i → i < set → Begins l i → cap < ones i
  none_between i m k b = absurd (omega (arith, remainder_apart (suc l) ((begins_alone l).remainder ∙ sym b.remainder) m))

-- as code finds it
module _ {l cap s first : ℕ} (f : first ≡ 2 ^ l) (ok : Allowed l cap s) where
  pub steps : ones s < cap → Next l cap s (s + 2 * first)
  steps less = rw (stride l f) (next_step ok.begins ok.fits less)

  pub jumps : cap ≤ ones s → Next l cap s (s + (s - first - bit_and (s - first - 1) (s - first)))
  jumps full = rw (f, lowest_bit (s - 2 ^ l) (omega (arith, ok.more))) (next_jump ok.begins ok.fits ok.more full)

pub next_allowed : {l cap s next : ℕ} → Allowed l cap s → Next l cap s next → Allowed l cap next
next_allowed ok n = record { begins = n.begins; more = omega (arith, ok.more, n.further); fits = n.few }

-- ---- ends within a limit

module _ (g : Graph) (cap s : ℕ) where
  pub within : ones s ≤ cap → ends_within g cap s ≡ ends g s
  unfolding ends_within
  within h = rw (le-leb (ones s) cap h)

  pub beyond : cap < ones s → ends_within g cap s ≡ 0
  unfolding ends_within
  beyond h = rw (lt-leb (ones s) cap h)

-- ---- pass one by jumps, from a table that holds nothing for the sets that begin at l but for the vertex alone

pub record Alone (g : Graph) (l n cap : ℕ) (d : List ℕ) : Type 0 where
  pub one : get_or d (2 ^ l) 0 ≡ ends_within g cap (2 ^ l)
  pub none : (i : ℕ) → i < n → Begins l i → 2 ^ l < i → get_or d i 0 ≡ 0

-- the vertex alone is put in
module _ (g : Graph) (l n cap : ℕ) (d : List ℕ) (h : l < n) where
  pub alone_put : 2 ^ n ≤ length d → Held false g l (2 ^ n) d → 0 < cap → Alone g l (2 ^ n) cap (set d (2 ^ l) (2 ^ l))
  alone_put room bare some = record {
    one = get_or-set_same d (2 ^ l) (2 ^ l) 0 (omega (arith, pow-lt h)) ∙ sym (within g cap (2 ^ l) (omega (arith, ones_alone l)) ∙ ends_alone g l);
    none = λ i small b more. get_or-set_other d (2 ^ l) i (2 ^ l) 0 (λ q. omega arith) ∙ bare.each i small b;
  }

  pub put_changed : {t : List ℕ} {f : ℕ → ℕ} → Changed (Begins l) (2 ^ n) f (set d (2 ^ l) (2 ^ l)) t → Changed (Begins l) (2 ^ n) f d t
  put_changed c = record {
    same_length = c.same_length ∙ length-set d (2 ^ l) (2 ^ l);
    done = c.done;
    kept = λ i m. c.kept i m ∙ get_or-set_other d (2 ^ l) i (2 ^ l) 0 (λ q. m (rw q (pow-lt h)) (rw q (begins_alone l)));
  }

-- where the limit allows none
pub begun_none : (g : Graph) (l n : ℕ) {d : List ℕ} → Held false g l n d → Changed (Begins l) n (ends_within g 0) d d
begun_none g l n held = changed_none n (λ s small b. held.each s small b ∙ sym (beyond g 0 s (ones_some s (omega (arith, begins_le b, pow_pos l)))))

module _ (g : Graph) (l n cap : ℕ) {d : List ℕ} (room : 2 ^ n ≤ length d) (alone : Alone g l (2 ^ n) cap d) where
  abbrev Filled : ℕ → List ℕ → Type 0
  Filled k t = Changed (λ i. (i < 2 ^ n) × Begins l i) k (ends_within g cap) d t

  -- a set that is passed over
  passed : (i : ℕ) → i < 2 ^ n → Begins l i → 2 ^ l < i → cap < ones i → get_or d i 0 ≡ ends_within g cap i
  passed i small b more many = alone.none i small b more ∙ sym (beyond g cap i many)

  -- before the first
  pub begun_start : (next : ℕ) → ((i : ℕ) → 2 ^ l < i → i < next → Begins l i → cap < ones i) → Filled next d
  begun_start next many = changed_none next (λ i b (small, c). go i b small c (dec_lt (2 ^ l) i))
    where
      go : (i : ℕ) → i < next → i < 2 ^ n → Begins l i → Dec (2 ^ l < i) → get_or d i 0 ≡ ends_within g cap i
      go i b small c (yes more) = passed i small c more (many i more b c)
      go i b small c (no n) = let e : i ≡ 2 ^ l = omega (arith, begins_le c) in rw e alone.one

  module _ {t : List ℕ} {s : ℕ} (small : s < 2 ^ n) (ok : Allowed l cap s) (filled : Filled s t) where
    b : Begins l s
    b = ok.begins

    -- a set rests on sets of fewer vertices that begin at l
    pub begun_known : Known g s (s - 2 ^ l) t
    begun_known = record { each = each }
      where
        each : (v : ℕ) → T (has (s - 2 ^ l) v) → get_or t (s - 2 ^ v) 0 ≡ ends g (s - 2 ^ v)
        each v h =
            let (i, ne) = (in_without s l v (begun b).is_in).0 h in
            let less : s - 2 ^ v < s = omega (arith, bit_le s v i, pow_pos v) in
            let low : IsLowest (s - 2 ^ v) l = record {
              is_in = (in_without s v l i).1 ((begun b).is_in, λ e. ne (sym e));
              least = λ u k. (begun b).least u ((in_without s v u i).0 k).0;
            } in
            filled.done (s - 2 ^ v) less (omega arith, record { remainder = lowest_remainder low }) ∙ within g cap (s - 2 ^ v) (omega (arith, ones_without s v i, ok.fits))

    pub begun_more : {x next : ℕ} → x ≡ ends g s → Next l cap s next → Filled next (set t s x)
    begun_more {next = next} e n =
        changed_store next filled (omega arith) (small, b) (e ∙ sym (within g cap s ok.fits)) n.further (λ i m k c. passed i c.0 c.1 (omega (arith, ok.more)) (n.many i m k c.1))

-- ---- pass two

module _ (l n closing : ℕ) (most : Option ℕ) (d : List ℕ) where
  abbrev Kept : ℕ → List ℕ → Type 0
  Kept k t = Changed (λ i. (i < 2 ^ n) × Begins l i) k (kept_of most closing d) d t

  pub kept_more : {t : List ℕ} {s kept : ℕ} → 2 ^ n ≤ length d → s < 2 ^ n → Begins l s → Kept s t → kept ≡ closing_at most closing s
      → Kept (s + 2 ^ suc l) (set t s (bit_and (get_or t s 0) kept))
  kept_more {t} {s} room small b c e =
      changed_store (s + 2 ^ suc l) c (omega arith) (small, b) (ap₂ bit_and (c.kept s (λ m _. omega arith)) e) (omega (arith, pow_pos l))
      (λ i m k h. absurd (omega (arith, remainder_apart (suc l) (b.remainder ∙ sym h.1.remainder) m)))

-- what is kept of the ends of paths is the entry, where larger sets have none
module _ {g : Graph} {lc lp l n : ℕ} {f : ℕ → ℕ} {d between after : List ℕ} {closing : ℕ} (closes : Closes g lc lp l closing)
    (c : Changed (Begins l) n f d between) (same : (s : ℕ) → s < n → Begins l s → ones s ≤ limit_at g lc lp l → f s ≡ ends g s) where
  pub kept_counted : Changed (Begins l) n (kept_of (Some (limit_at g lc lp l)) closing between) between after → Changed (Begins l) n (entry g lc lp) d after
  kept_counted k = changed_over c k (λ s small b. go s small b (dec_lt (limit_at g lc lp l) (ones s)))
    where
      go : (s : ℕ) → s < n → (b : Begins l s) → Dec (limit_at g lc lp l < ones s) → kept_of (Some (limit_at g lc lp l)) closing between s ≡ entry g lc lp s
      go s small b (yes more) = rw (closes.each s b, lt-leb (ones s) (limit_at g lc lp l) more) (and_zero_r (get_or between s 0))
      go s small b (no few) = rw (closes.each s b, c.done s small b ∙ same s small b (omega arith), le-leb (ones s) (limit_at g lc lp l) (omega arith))

  pub kept_all : ((s : ℕ) → s < n → Begins l s → limit_at g lc lp l < ones s → f s ≡ 0) → Changed (Begins l) n (kept_of None closing between) between after
      → Changed (Begins l) n (entry g lc lp) d after
  kept_all spare k = changed_over c k (λ s small b. go s small b (dec_lt (limit_at g lc lp l) (ones s)))
    where
      go : (s : ℕ) → s < n → (b : Begins l s) → Dec (limit_at g lc lp l < ones s) → kept_of None closing between s ≡ entry g lc lp s
      go s small b (yes more) = rw (closes.each s b, c.done s small b ∙ spare s small b more, lt-leb (ones s) (limit_at g lc lp l) more) (and_zero_l closing)
      go s small b (no few) = rw (closes.each s b, c.done s small b ∙ same s small b (omega arith), le-leb (ones s) (limit_at g lc lp l) (omega arith))

-- for an altruist pass two is one store
pub chains_entered : (g : Graph) → WellFormed g → (lc lp l n : ℕ) → l < n → l < g.altruists → {d t : List ℕ} → 2 ^ n ≤ length d
    → Changed (Begins l) (2 ^ n) (ends_within g (limit_at g lc lp l)) d t → Changed (Begins l) (2 ^ n) (entry g lc lp) d (set t (2 ^ l) 0)
unfolding ends_within
chains_entered g wf lc lp l n h altruist {d} {t} room c = record {
  same_length = length-set t (2 ^ l) 0 ∙ c.same_length;
  done = λ s small b. go s small b (ℕ_discrete s (2 ^ l));
  kept = λ i m. get_or-set_other t (2 ^ l) i 0 0 (λ q. m (rw q (pow-lt h)) (rw q (begins_alone l))) ∙ c.kept i m;
}
  where
    go : (s : ℕ) → s < 2 ^ n → Begins l s → Dec (s ≡ 2 ^ l) → get_or (set t (2 ^ l) 0) s 0 ≡ entry g lc lp s
    go s small b (yes q) = rw q (get_or-set_same t (2 ^ l) 0 0 (omega (arith, pow-lt h, c.same_length)) ∙ sym (entry_altruist g lc lp l altruist))
    go s small b (no ne) = get_or-set_other t (2 ^ l) s 0 0 ne ∙ c.done s small b ∙ sym (chain_entry g wf lc lp l altruist s b ne)

-- ---- vertex after vertex

-- a set that begins below k
abbrev pub Before : ℕ → ℕ → Type 0
Before k s = (0 < s) × (lowest s < k)

-- the table t, begun from d
module _ (f : Filling) (filled : Bool) {d t : List ℕ} (begun : Changed (λ i. i ≡ i) (2 ^ f.pool.size) (λ s. counted filled (ends (graph_of f.pool) s)) d t) where
  abbrev Entries : (ℕ → Type 0) → List ℕ → List ℕ → Type 0
  Entries P u v = Changed P (2 ^ f.pool.size) (entry_of f.pool f.limits) u v

  module _ {u : List ℕ} {l : ℕ} (c : Entries (Before l) t u) where
    pub still_held : Held filled (graph_of f.pool) l (2 ^ f.pool.size) u
    still_held = record { each = λ s small b. c.kept s (λ _ h. omega (arith, lowest_of b)) ∙ begun.done s small refl }

    pub before_more : {v : List ℕ} → Entries (Begins l) u v → Entries (Before (l + 1)) t v
    before_more {v} e = record {
      same_length = e.same_length ∙ c.same_length;
      done = λ s small h. go s small h (dec_lt (lowest s) l);
      kept = λ s m. e.kept s (λ small b. m small (omega (arith, begins_le b, pow_pos l), omega (arith, lowest_of b))) ∙ c.kept s (λ small h. m small (h.0, omega (arith, h.1)));
    }
      where
        go : (s : ℕ) → s < 2 ^ f.pool.size → Before (l + 1) s → Dec (lowest s < l) → get_or v s 0 ≡ entry_of f.pool f.limits s
        go s small h (yes less) = e.kept s (λ _ b. omega (arith, lowest_of b)) ∙ c.done s small (h.0, less)
        go s small h (no nl) =
            let low : lowest s ≡ l = omega (arith, h.1) in
            e.done s small (record { remainder = lowest_remainder (rw low at (lowest_is s h.0)) })

    -- after the last
    pub before_all : l ≡ f.pool.size → 2 ^ f.pool.size ≤ length d → u ≡ written_to (entry_of f.pool f.limits) (2 ^ f.pool.size) d
    before_all last room =
        let all : Entries (λ i. i ≡ i) d u = record {
          same_length = c.same_length ∙ begun.same_length;
          done = λ s small _. go s small (eq-zero-or-pos s);
          kept = λ s m. c.kept s (λ small _. m small refl) ∙ begun.kept s m;
        } in
        changed_all (entry_of f.pool f.limits) (2 ^ f.pool.size) d all room
      where
        none : (b : Bool) → counted b (ends (graph_of f.pool) 0) ≡ 0
        none true = ends_none (graph_of f.pool)
        none false = refl

        go : (s : ℕ) → s < 2 ^ f.pool.size → (s ≡ 0) ⊎ (0 < s) → get_or u s 0 ≡ entry_of f.pool f.limits s
        go s small (inr p) = c.done s small (p, rw last (has_below f.pool.size s (lowest s) small (lowest_is s p).is_in))
        go s small (inl z) = c.kept s (λ _ h. omega (arith, h.0)) ∙ begun.done s small refl ∙ rw z (none filled ∙ sym (entry_empty (graph_of f.pool) f.limits.cycle f.limits.chain))
