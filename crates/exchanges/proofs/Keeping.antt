-- Pass two, for the sets that begin at one vertex: an exchange has at most so many vertices, and ends in a closing set. For a member that
-- is the set of its givers, and for an altruist every vertex but itself: alone it is no chain, and on any other set no path ends at it.
use mathlib.Core.Bool.{Bool, true, false}
use mathlib.Core.Logic.{◌≢◌}
use mathlib.Core.Path.{◌≡◌, ap, sym, refl, ◌∙◌}
use Prim.Native.Nat.{ℕ, ◌-◌, ◌^◌, ◌≤◌, ◌<◌}
use native.Mathlib.Decide.{ℕ_discrete}
use native.Mathlib.Omega.{arith}
use lib.Bits.{bit_and}
use lib.Count.{ones}
use lib.Dec.{T, leb}
use borrow.Author.Tests.{lt-ltb, le-ltb, le-leb}
use Rattle.kep.specs.Graph.{Graph, WellFormed, givers}
use Rattle.kep.specs.Sets.{has, counted, Part}
use Rattle.kep.specs.inner.Lowest.{lowest}
use Rattle.kep.specs.computed.Table.{entry}
use Rattle.kep.specs.inner.Filling.{ends, mask_at, masked, comes}
use Rattle.exchanges.specs.inner.ByLowest.{Begins, Closes, limit_at}
use Rattle.kep.proofs.SetLaws.{lowest_eq, has_full}
use Rattle.kep.proofs.Parts.{part_and, disjoint_and, rest_disjoint}
use Rattle.kep.proofs.Vertices.{in_power, in_without, power_part, bit_le}
use Rattle.kep.proofs.LowestBit.{remainder_lowest, ones_without, ones_none, ones_some}
use Rattle.kep.proofs.Sifting.{in_sift}
use Rattle.kep.proofs.Ends.{in_later, ends_several, ends_alone}
use Rattle.kep.proofs.EntryMeaning.{entry_altruist}
use Rattle.kep.proofs.Masking.{masked_entry}

pub ones_alone : (l : ℕ) → ones (2 ^ l) ≡ 1
ones_alone l = let none : 2 ^ l - 2 ^ l ≡ 0 = omega arith in ones_without (2 ^ l) l ((in_power l l).1 refl) ∙ rw none (omega (arith, ones_none))

pub lowest_of : {l s : ℕ} → Begins l s → lowest s ≡ l
lowest_of {l} {s} b = lowest_eq s l (remainder_lowest b.remainder)

module _ (g : Graph) (wf : WellFormed g) (lc lp l : ℕ) where
  is_entry : (s : ℕ) → mask_at g lc lp s (ends g s) ≡ entry g lc lp s
  unfolding masked
  is_entry s = masked_entry g wf lc lp s

  pub member_closes : {closing : ℕ} → g.altruists ≤ l → closing ≡ givers g l → Closes g lc lp l closing
  unfolding mask_at limit_at
  member_closes {closing} member e = record { each = λ s b. sym (is_entry s) ∙ cycle s (lowest_of b) }
    where
      cycle : (s : ℕ) → lowest s ≡ l → mask_at g lc lp s (ends g s) ≡ counted (leb (ones s) (limit_at g lc lp l)) (bit_and (ends g s) closing)
      cycle s low = rw (le-ltb (lowest s) g.altruists (omega arith), mask_at, le-ltb l g.altruists member, limit_at, e, low)

  -- a chain may end anywhere, and is not the altruist alone
  pub chain_entry : l < g.altruists → (s : ℕ) → Begins l s → s ≢ 2 ^ l → entry g lc lp s ≡ counted (leb (ones s) (limit_at g lc lp l)) (ends g s)
  unfolding mask_at limit_at
  chain_entry altruist s b ne =
      let i = (remainder_lowest b.remainder).is_in in
      let low = lowest_of b in
      let more : 2 ≤ ones s = omega (arith, ones_without s l i, ones_some (s - 2 ^ l) (omega (arith, bit_le s l i))) in
      sym (is_entry s) ∙ rw (lt-ltb (lowest s) g.altruists (omega arith), mask_at, le-leb 2 (ones s) more, lt-ltb l g.altruists altruist, limit_at)

  pub altruist_closes : {closing : ℕ} → g.size ≤ 14 → l < g.size → l < g.altruists → closing ≡ 65535 - 2 ^ l → Closes g lc lp l closing
  altruist_closes {closing} size inside altruist e = record { each = λ s b. go s b (ℕ_discrete s (2 ^ l)) }
    where
      all : T (has (2 ^ 16 - 1) l)
      all = has_full 16 l (omega arith)

      others : (s : ℕ) → Begins l s → s ≢ 2 ^ l → Part (ends g s) (65535 - 2 ^ l)
      others s b ne = record {
        within = λ v h.
            let low = lowest_of b in
            let several = ends_several g s (λ q. ne (q ∙ ap (λ (u : ℕ). 2 ^ u) low)) in
            let (below, later, _) = (in_sift g.size (comes g (ends g) s) (s - 2 ^ lowest s) v).0 (rw several at h) in
            (in_without (2 ^ 16 - 1) l v all).1 (has_full 16 v (omega arith), λ q. ((in_later s v).0 later).1 (q ∙ sym low));
      }

      none : (c : Bool) → 0 ≡ counted c 0
      none true = refl
      none false = refl

      go : (s : ℕ) → Begins l s → Dec (s ≡ 2 ^ l) → entry g lc lp s ≡ counted (leb (ones s) (limit_at g lc lp l)) (bit_and (ends g s) closing)
      go s b (yes q) =
          rw (q, e, ends_alone g l, disjoint_and (rest_disjoint (power_part 65535 l all))) (entry_altruist g lc lp l altruist ∙ none (leb (ones (2 ^ l)) (limit_at g lc lp l)))
      go s b (no ne) = chain_entry altruist s b ne ∙ rw (e, part_and (others s b ne))
