-- `exchanges` lists the exchanges told from their lowest vertex on, and nothing else, by rising first vertex.
use mathlib.Core.Bool.{◌&&◌, Bool}
use mathlib.Core.List.{List, map, [], ◌∷◌, Memᴰ}
use mathlib.Core.Logic.{◌↔◌}
use mathlib.Core.Path.{◌≡◌, refl}
use Prim.Native.Nat.{ℕ, ◌≤◌, ◌<◌, zero, suc}
use native.Mathlib.Omega.{arith}
use Rattle.kep.specs.Lists.{Each, Pairwise, none, nil, also, cons, upto, keep}
use Rattle.kep.specs.computed.Arrangements.{concat_map, arrangements, remove}
use Rattle.kep.specs.Graph.{Graph}
use Rattle.kep.specs.Exchange.{is_exchange, head_of}
use Rattle.kep.specs.Table.{lowest_first}
use Rattle.kep.specs.computed.Table.{exchanges}
use Rattle.kep.proofs.Tests.{and_iff, and_both}
use Rattle.kep.proofs.Each.{each_map, each_append, each_of, each_any, each_mapped, keep_part, keep_out, keep_in}
use Rattle.kep.proofs.ListLaws.{upto_out}
use Rattle.kep.proofs.Ordered.{pairwise_append, pairwise_part}
use Rattle.kep.proofs.ExchangeFacts.{Told, is_exchange_lem, exchange_distinct, exchange_below, exchange_is}
use Rattle.kep.proofs.Arrangements.{arrangements_complete}

-- by rising first vertex
abbrev pub HeadsRise : List ℕ → List ℕ → Type 0
HeadsRise xs ys = head_of xs ≤ head_of ys

-- lists with the same first vertex are in order
heads_same : (x : ℕ) {ls : List (List ℕ)} → Each (λ l. head_of l ≡ x) ls → Pairwise HeadsRise ls
heads_same x none = nil
heads_same x (also {x = l} e es) = cons {x = l} (each_map (λ l' e'. omega arith) es) (heads_same x es)

module _ (f : ℕ → List (List ℕ)) (begins : (x : ℕ) → Each (λ l. head_of l ≡ x) (f x)) where
  -- the first vertices of what the numbers of a list give are numbers of that list
  concat_heads : {P : ℕ → Type 0} {xs : List ℕ} → Each P xs → Each (λ l. P (head_of l)) (concat_map f xs)
  unfolding concat_map
  concat_heads none = none
  concat_heads (also {x = x} h hs) = each_append (each_map (λ l e. rw e h) (begins x)) (concat_heads hs)

  -- from rising numbers, each giving lists that begin with it, come lists in order
  concat_ordered : {xs : List ℕ} → Pairwise ◌<◌ xs → Pairwise HeadsRise (concat_map f xs)
  unfolding concat_map
  concat_ordered nil = nil
  concat_ordered (cons {x = x} {xs = xs} r o) =
      let after : Each (λ l. x < head_of l) (concat_map f xs) = concat_heads r in
      pairwise_append (heads_same x (begins x)) (concat_ordered o) (each_map (λ l e. each_map (λ l' h. omega arith) after) (begins x))

pub upto_ordered : (k from : ℕ) → Pairwise ◌<◌ (upto k from)
unfolding upto
upto_ordered zero from = nil
upto_ordered (suc k) from = cons (each_of (upto k (suc from)) (λ x m. (upto_out k (suc from) m).0)) (upto_ordered k (suc from))

-- `arrangements` of rising numbers are in order
arrangements_ordered : (k : ℕ) {left : List ℕ} → Pairwise ◌<◌ left → Pairwise HeadsRise (arrangements k left)
unfolding arrangements head_of
arrangements_ordered zero o = cons none nil
arrangements_ordered (suc k) {left} o =
    cons {x = []}
    (each_any (λ l. omega arith) (concat_map f left))
    (concat_ordered f (λ x. each_mapped (λ xs. x ∷ xs) (λ xs h. refl) (each_any (λ xs. tt {0}) (arrangements k (remove x left)))) o)
  where
    f : ℕ → List (List ℕ)
    f x = map (λ xs. x ∷ xs) (arrangements k (remove x left))

module _ (g : Graph) (lc lp : ℕ) where
  -- and so are the exchanges
  pub exchanges_ordered : Pairwise HeadsRise (exchanges g lc lp)
  unfolding exchanges
  exchanges_ordered =
      pairwise_part
      (keep_part (λ xs. is_exchange g lc lp xs && lowest_first xs) (arrangements g.size (upto g.size 0)))
      (arrangements_ordered g.size (upto_ordered g.size 0))

  -- a list is among the exchanges exactly where it is one and begins at its lowest vertex
  pub exchanges_are : (xs : List ℕ) → Memᴰ xs (exchanges g lc lp) ↔ Told g lc lp xs
  unfolding exchanges
  exchanges_are xs = (out, listed)
    where
      candidates : List (List ℕ)
      candidates = arrangements g.size (upto g.size 0)

      test : List ℕ → Bool
      test ys = is_exchange g lc lp ys && lowest_first ys

      out : Memᴰ xs (keep test candidates) → Told g lc lp xs
      out m =
          let (e, l) = (and_iff (is_exchange g lc lp xs) (lowest_first xs)).0 (keep_out test candidates m).1 in
          (is_exchange_lem g lc lp xs e, l)

      listed : Told g lc lp xs → Memᴰ xs (keep test candidates)
      listed (e, l) =
          let arranged = arrangements_complete g.size xs (exchange_distinct g e) (exchange_below g e) in
          keep_in test arranged (and_both (is_exchange g lc lp xs) (lowest_first xs) (exchange_is g e) l)
