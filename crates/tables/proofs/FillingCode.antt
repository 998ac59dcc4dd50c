-- A turn of the loop that fills the best table: the sets below s offer what they do with the mark, and their entries are written; from s on
-- each set offers its worth alone.
use mathlib.Core.Bool.{Bool, true, false, not}
use mathlib.Core.List.{List}
use mathlib.Core.Logic.{◌⊎◌, inl, inr, ⊎_elim}
use mathlib.Core.Path.{◌≡◌, sym, ap, ap₂, ◌∙◌}
use Prim.Native.Nat.{ℕ, ◌+◌, ◌-◌, ◌^◌, ◌≤◌, ◌<◌}
use native.Mathlib.Nat.{eq-zero-or-pos, eq-or-lt_of_le}
use native.Mathlib.Omega.{arith}
use lib.Dec.{eqb}
use lib.ListN.{length, get_or, set}
use mir.Val.{bool_byte}
use lib.Pow.{pow_mono}
use borrow.Author.Tests.{eq-eqb, ne_eqb}
use Rattle.kep.specs.Lists.{written_to}
use Rattle.kep.specs.Sets.{Part}
use Rattle.kep.specs.Trying.{tried, tried_over}
use Rattle.kep.specs.computed.Table.{best}
use Rattle.kep.specs.inner.BestFilling.{Worths, worth_by, mark, offer, looked, Tries, CanTry}
use Rattle.tables.specs.Calls.{marked}
use Rattle.kep.proofs.Parts.{part_le}
use Rattle.kep.proofs.Tables.{written_at, get_d_behind, tabulate_store, tabulate_keep}
use Rattle.kep.proofs.Worth.{worth_none}
use Rattle.kep.proofs.BestTable.{best_worth}
use Rattle.kep.proofs.BestFilling.{tried_none, over_more, over_le, marked_best, marked_tried, value_under, value_idle, entry_found, tried_found}
use Rattle.tables.proofs.BestCode.{worth_fits}

-- what the turn of s comes to: its entry, and the parts tried
pub record Turn (size : ℕ) (each exchanges : List ℕ) (s most count : ℕ) : Type 0 where
  pub entry : most - mark ≡ best (worth_by each size) (marked exchanges) s
  pub parts : count ≡ tried (worth_by each size) (best (worth_by each size) (marked exchanges)) (marked exchanges) s

-- the parts tried, with those of the sets before
pub parts_over : {size : ℕ} {each exchanges : List ℕ} {s most count before : ℕ} → Turn size each exchanges s most count
    → before ≡ tried_over (worth_by each size) (best (worth_by each size) (marked exchanges)) (marked exchanges) s
    → before + count ≡ tried_over (worth_by each size) (best (worth_by each size) (marked exchanges)) (marked exchanges) (s + 1)
parts_over {size} {each} {exchanges} {s} t so_far =
    omega (arith, t.parts, so_far, over_more (worth_by each size) (best (worth_by each size) (marked exchanges)) (marked exchanges) s)

-- and they are few
pub over_fits : {size : ℕ} {each : List ℕ} → Worths size each → (m : ℕ → Bool) {s tried : ℕ} → s < 2 ^ size → tried ≡ tried_over (worth_by each size) (best (worth_by each size) m) m (s + 1) → tried < 2 ^ 64
over_fits {size} {each} worths m {s} inside e =
    let room : 2 ^ size ≤ 2 ^ 14 = pow_mono worths.few in
    omega (arith, over_le (worth_by each size) (best (worth_by each size) m) m (s + 1) (omega arith))

module _ {size : ℕ} {each : List ℕ} (worths : Worths size each) (exchanges filled old : List ℕ) {offers table : List ℕ} {s : ℕ}
    (full : (t : ℕ) → t < 2 ^ size → get_or filled t 0 ≡ worth_by each size t)
    (offered : offers ≡ written_to (offer (worth_by each size) (marked exchanges)) s filled)
    (written : table ≡ written_to (best (worth_by each size) (marked exchanges)) s old)
    (inside : s < 2 ^ size)
  where
    abbrev w : ℕ → ℕ
    w x = get_or each x 0

    abbrev v : ℕ → ℕ
    v t = worth_by each size t

    abbrev m : ℕ → Bool
    m t = marked exchanges t

    worth_first : get_or filled s 0 ≡ v s
    worth_first = full s inside

    -- its offer still is what s is worth
    pub worth_held : get_or offers s 0 ≡ worth_by each size s
    worth_held = ap (λ (l : List ℕ). get_or l s 0) offered ∙ get_d_behind (offer v m) s filled ∙ worth_first

    pub worth_below : get_or offers s 0 < mark
    worth_below = omega (arith, worth_held, worth_fits worths s)

    positive : (v s ≡ 0 → ⊥) → 0 < s
    positive some = ⊎_elim (λ z. absurd (some (ap v z ∙ worth_none w size))) (λ p. p) (eq-zero-or-pos s)

    -- it is worth nothing
    pub idle_turn : get_or offers s 0 ≡ 0 → Turn size each exchanges s 0 0
    idle_turn z =
        let worthless : v s ≡ 0 = sym worth_held ∙ z in
        record { entry = omega (arith, best_worth w m size s); parts = sym (tried_none v (best v m) m s worthless) }

    -- it is marked
    module _ (found : get_or exchanges s 0 ≡ 0 → ⊥) where
      is_marked : m s ≡ true
      is_marked = ap not (ne_eqb (get_or exchanges s 0) 0 found)

      pub mark_set : s < length filled → {x : ℕ} → x ≡ mark + get_or offers s 0 → set offers s x ≡ written_to (offer (worth_by each size) (marked exchanges)) (s + 1) filled
      unfolding offer
      mark_set l {x} e = tabulate_store (offer v m) s filled l offered (rw is_marked (omega (arith, worth_held)))

      pub marked_turn : Turn size each exchanges s (mark + get_or offers s 0) (bool_byte (not (eqb (get_or offers s 0) 0)))
      marked_turn = go (eq-zero-or-pos (get_or offers s 0))
        where
          go : (get_or offers s 0 ≡ 0) ⊎ (0 < get_or offers s 0) → Turn size each exchanges s (mark + get_or offers s 0) (bool_byte (not (eqb (get_or offers s 0) 0)))
          go (inl z) = let t = idle_turn z in record { entry = omega (arith, t.entry); parts = rw (eq-eqb (get_or offers s 0) 0 z) t.parts }
          go (inr p) =
              let some : v s ≡ 0 → ⊥ = λ z. omega (arith, worth_held) in
              record {
                entry = omega (arith, worth_held, marked_best w size m s (positive some) is_marked);
                parts = rw (ne_eqb (get_or offers s 0) 0 (λ z. omega arith)) (sym (marked_tried w size m s (positive some) is_marked some));
              }

    -- it is not
    module _ (none : get_or exchanges s 0 ≡ 0) where
      not_marked : m s ≡ false
      not_marked = ap not (eq-eqb (get_or exchanges s 0) 0 none)

      offer_is : get_or offers s 0 ≡ offer v m s
      unfolding offer
      offer_is = worth_held ∙ rw not_marked (omega arith)

      pub offer_kept : s < length filled → offers ≡ written_to (offer (worth_by each size) (marked exchanges)) (s + 1) filled
      offer_kept l = offered ∙ tabulate_keep (offer v m) s filled l (worth_first ∙ sym worth_held ∙ offer_is)

      module _ (some : get_or offers s 0 ≡ 0 → ⊥) where
        nonzero : v s ≡ 0 → ⊥
        nonzero z = some (worth_held ∙ z)

        offer_at : {t : ℕ} → Part t s → get_or offers t 0 ≡ offer v m t
        offer_at {t} h = ⊎_elim (λ e. rw e offer_is) (λ l. written_at (offer v m) s filled offered t l) (eq-or-lt_of_le (part_le h))

        look : (t : ℕ) → 0 < t → Part t s → looked offers table s t ≡ offer v m t + best v m (s - t)
        look t p h = ap₂ ◌+◌ (offer_at h) (written_at (best v m) s old written (s - t) (omega (arith, part_le h)))

        pub can_try : s < length offers → s < length table → CanTry offers table (mark + get_or offers s 0) s
        can_try o d = rw worth_held (record {
          some = positive nonzero;
          above = omega (arith, nonzero);
          fits = omega (arith, worth_below, worth_held);
          offered = o;
          held = d;
          under = value_under w size m s (looked offers table s) look;
          idle = λ t p h less. omega (arith, look t p h, value_idle w size m s h (omega (arith, offer_at h)), worth_fits worths s);
        })

        pub tried_turn : {most count : ℕ} → Tries (looked offers table s) (mark + get_or offers s 0) s most count → Turn size each exchanges s most count
        tried_turn h =
            let there = rw worth_held at h in
            record { entry = entry_found w size m s (looked offers table s) look there (worth_fits worths s); parts = tried_found w size m s (looked offers table s) look there nonzero }
