-- A path of different vertices is an exchange where its length and its ends fit.
use mathlib.Core.Bool.{Bool, true, false, ◌&&◌}
use mathlib.Core.List.{List, [], ◌∷◌}
use mathlib.Core.Logic.{◌⊎◌, inl, inr}
use mathlib.Core.Path.{◌≡◌, ap₂}
use Prim.Native.Nat.{ℕ, ◌+◌, suc}
use native.Mathlib.Numerals.{add-one}
use native.Mathlib.Omega.{arith}
use lib.Dec.{T, leb, leb-suc-suc, ltb, le→leb, lt→ltb, ltb→lt, leb→le}
use lib.ListN.{length}
use Rattle.kep.specs.Lists.{Each, none, also, distinct}
use Rattle.kep.specs.Graph.{Graph, is_altruist, WellFormed}
use Rattle.kep.specs.Exchange.{walk, last_of}
use Rattle.kep.proofs.Tests.{is_true, is_false, and_both, and_iff, passes?}
use Rattle.kep.proofs.Each.{each_first}
use Rattle.kep.proofs.ListLaws.{distinct_rest}
use Rattle.kep.proofs.Walks.{walk_iff}
use Rattle.kep.proofs.ExchangeFacts.{chain, cycle, Member, member_between, Exchange}

-- is a path of n vertices from x to u an exchange?
unfoldable pub fits : Graph → ℕ → ℕ → ℕ → ℕ → ℕ → Bool
fits g lc lp x n u = elim (is_altruist g x) [ true ↦ leb 2 n && leb n (lp + 1) | false ↦ leb n lc && g.arc u x ]

-- by a chain where x is an altruist, and else by a cycle
pub fits_chain : (g : Graph) (lc lp x n u : ℕ) → T (is_altruist g x) → fits g lc lp x (suc n) u ≡ (leb 1 n && leb n lp)
unfolding fits
fits_chain g lc lp x n u a = rw (is_true (is_altruist g x) a, fits, add-one lp) (ap₂ ◌&&◌ (leb-suc-suc 1 n) (leb-suc-suc n lp))

pub fits_cycle : (g : Graph) (lc lp x n u : ℕ) → (T (is_altruist g x) → ⊥) → fits g lc lp x n u ≡ (leb n lc && g.arc u x)
unfolding fits
fits_cycle g lc lp x n u m = rw (is_false (is_altruist g x) m, fits)

module _ (g : Graph) (lc lp : ℕ) where
  -- a member is no altruist
  not_altruist : (x : ℕ) → Member g x → T (is_altruist g x) → ⊥
  not_altruist x m a = omega (arith, member_between g x m, ltb→lt x g.altruists a)

  -- exchanges are paths that fit
  pub exchange_fits : (x : ℕ) (xs : List ℕ) → Exchange g lc lp (x ∷ xs) → T (fits g lc lp x (length (x ∷ xs)) (last_of x xs))
  exchange_fits x xs (cycle c) =
      let n = length (x ∷ xs) in
      let end = last_of x xs in
      rw (fits_cycle g lc lp x n end (not_altruist x (each_first c.members))) (and_both (leb n lc) (g.arc end x) (le→leb n lc c.short) c.closes)
  exchange_fits x xs (chain c) =
      let n = length xs in
      rw (fits_chain g lc lp x n (last_of x xs) (lt→ltb x g.altruists c.altruist))
      (and_both (leb 1 n) (leb n lp) (le→leb 1 n c.some) (le→leb n lp c.short))

  module _ (wf : WellFormed g) where
    -- who is given to is a member
    pub taker : (u v : ℕ) → T (g.arc u v) → Member g v
    taker u v a =
        and_both (leb g.altruists v) (ltb v g.size) (le→leb g.altruists v (wf.taker_above u v a)) (lt→ltb v g.size (wf.taker_below u v a))

    -- so all but the first of a walk are members
    pub walk_members : (x : ℕ) (xs : List ℕ) → T (walk g x xs) → Each (Member g) xs
    walk_members x [] w = none
    walk_members x (y ∷ ys) w = let (a, r) = (walk_iff g x y ys).0 w in also (taker x y a) (walk_members y ys r)

    -- and the paths that fit are exchanges
    pub fits_exchange : (x : ℕ) (xs : List ℕ) → T (distinct (x ∷ xs)) → T (walk g x xs) → T (fits g lc lp x (length (x ∷ xs)) (last_of x xs))
        → Exchange g lc lp (x ∷ xs)
    fits_exchange x xs d w f = go (passes? (is_altruist g x))
      where
        n : ℕ
        n = length xs

        end : ℕ
        end = last_of x xs

        go : T (is_altruist g x) ⊎ (T (is_altruist g x) → ⊥) → Exchange g lc lp (x ∷ xs)
        go (inl a) =
            let (some, short) = (and_iff (leb 1 n) (leb n lp)).0 (rw (fits_chain g lc lp x n end a) at f) in
            chain record {
              altruist = ltb→lt x g.altruists a;
              some = leb→le 1 n some;
              short = leb→le n lp short;
              members = walk_members x xs w;
              apart = distinct_rest x xs d;
              path = w;
            }
        go (inr m) =
            let (short, closes) = (and_iff (leb (suc n) lc) (g.arc end x)).0 (rw (fits_cycle g lc lp x (suc n) end m) at f) in
            cycle record {
              short = leb→le (suc n) lc short;
              members = also (taker end x closes) (walk_members x xs w);
              apart = d;
              path = w;
              closes = closes;
            }
