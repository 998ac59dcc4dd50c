-- Pass two: what it leaves of the ends of paths are the ends of exchanges. So the two passes compute `entry`.
use mathlib.Core.Bool.{Bool, true, ◌&&◌, false}
use mathlib.Core.List.{◌∷◌}
use mathlib.Core.Logic.{◌↔◌}
use mathlib.Core.Path.{◌≡◌}
use Prim.Native.Nat.{ℕ, ◌+◌}
use lib.Bits.{bit_and}
use lib.Count.{ones}
use lib.Dec.{leb, T}
use lib.ListN.{length}
use Rattle.kep.specs.Graph.{Graph, is_altruist, WellFormed, givers}
use Rattle.kep.specs.Exchange.{last_of}
use Rattle.kep.specs.Sets.{counted, has}
use Rattle.kep.specs.inner.Lowest.{lowest}
use Rattle.kep.specs.Table.{CanEnd}
use Rattle.kep.specs.computed.Table.{entry}
use Rattle.kep.specs.inner.Filling.{mask_at, masked, ends}
use Rattle.kep.proofs.Tests.{and_iff}
use Rattle.kep.proofs.SetLaws.{lowest_eq, same_set}
use Rattle.kep.proofs.Sifting.{in_counted}
use Rattle.kep.proofs.Parts.{has_and}
use Rattle.kep.proofs.SetOf.{ones_set_of}
use Rattle.kep.proofs.ExchangeFacts.{Exchange, exchange_is, is_exchange_lem, exchange_distinct, exchange_walk}
use Rattle.kep.proofs.Fits.{fits, exchange_fits, fits_exchange}
use Rattle.kep.proofs.EntryMeaning.{entry_ends}
use Rattle.kep.proofs.Paths.{PathEnd, path_lowest}
use Rattle.kep.proofs.Ends.{in_givers, ends_is}

module _ (g : Graph) (wf : WellFormed g) (lc lp : ℕ) where
  -- what pass two leaves are the ends that fit
  in_mask : (s e v : ℕ) → T (has (mask_at g lc lp s e) v) ↔ (T (has e v) × T (fits g lc lp (lowest s) (ones s) v))
  unfolding mask_at fits
  in_mask s e v = go (is_altruist g (lowest s))
    where
      fit : Bool
      fit = leb 2 (ones s) && leb (ones s) (lp + 1)

      short : Bool
      short = leb (ones s) lc

      closing : ℕ
      closing = bit_and e (givers g (lowest s))

      go : (b : Bool) → T (has (elim b as (λ _. ℕ) [ true ↦ counted fit e | false ↦ counted short closing ]) v)
          ↔ (T (has e v) × T (elim b as (λ _. Bool) [ true ↦ fit | false ↦ short && g.arc v (lowest s) ]))
      go true = let r = in_counted fit e v in (λ h. ((r.0 h).1, (r.0 h).0), λ h. r.1 (h.1, h.0))
      go false =
          let r = in_counted short closing v in
          let c = and_iff short (g.arc v (lowest s)) in
          let m = and_iff (has e v) (has (givers g (lowest s)) v) in (
            λ h.
                let both = m.0 (rw (has_and e (givers g (lowest s)) v) at (r.0 h).1) in
                (both.0, c.1 ((r.0 h).0, (in_givers g wf (lowest s) v).0 both.1)),
            λ h.
                let both = c.0 h.1 in
                r.1 (both.0, rw (has_and e (givers g (lowest s)) v) (m.1 (h.0, (in_givers g wf (lowest s) v).1 both.1))),
          )

  -- the ends of paths that pass two leaves are the ends of exchanges
  pub mask_is : (s e v : ℕ) → (T (has e v) ↔ PathEnd g s v) → T (has (mask_at g lc lp s e) v) ↔ CanEnd g lc lp s v
  mask_is s e v path = (to, from)
    where
      same_fit : (p : PathEnd g s v)
          → fits g lc lp (lowest s) (ones s) v ≡ fits g lc lp p.first (length (p.first ∷ p.rest)) (last_of p.first p.rest)
      same_fit p = rw (
        lowest_eq s p.first (path_lowest g s v p),
        ← ones_set_of (p.first ∷ p.rest) p.different,
        p.uses,
        p.ends,
      )

      to : T (has (mask_at g lc lp s e) v) → CanEnd g lc lp s v
      to h =
          let (end, fit) = (in_mask s e v).0 h in
          let p = path.0 end in
          record {
            first = p.first;
            rest = p.rest;
            exchange = exchange_is g (fits_exchange g lc lp wf p.first p.rest p.different p.gives (rw (same_fit p) at fit));
            lowest = p.rises;
            uses = p.uses;
            last = p.ends;
          }

      from : CanEnd g lc lp s v → T (has (mask_at g lc lp s e) v)
      from c =
          let x : Exchange g lc lp (c.first ∷ c.rest) = is_exchange_lem g lc lp (c.first ∷ c.rest) c.exchange in
          let p : PathEnd g s v = record {
            first = c.first;
            rest = c.rest;
            different = exchange_distinct g x;
            uses = c.uses;
            rises = c.lowest;
            gives = exchange_walk g x;
            ends = c.last;
          } in
          (in_mask s e v).1 (path.1 p, rw (same_fit p) (exchange_fits g lc lp c.first c.rest x))

  -- the table after both passes is the table of the meaning
  pub masked_entry : (s : ℕ) → masked g lc lp s ≡ entry g lc lp s
  unfolding masked
  masked_entry s = same_set (masked g lc lp s) (entry g lc lp s) same
    where
      same : (v : ℕ) → T (has (masked g lc lp s) v) ↔ T (has (entry g lc lp s) v)
      same v =
          let (to, from) = mask_is s (ends g s) v (ends_is g wf s v) in
          let (means, meant) = entry_ends g lc lp s v in
          (λ h. meant (to h), λ h. from (means h))
