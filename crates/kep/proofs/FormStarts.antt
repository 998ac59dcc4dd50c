-- Where the record form of a legal plan is the start of another's, the other plan has the first one's exchanges and perhaps more. So of two
-- that are worth as much neither form is the start of the other, unless they are the same.
use mathlib.Core.List.{List, [], ◌∷◌, ◌++◌, append-nil, append_assoc, head-eq_of_cons-eq, tail-eq_of_cons-eq}
use mathlib.Core.Path.{◌≡◌, refl, sym, ap, ap₂, ◌∙◌}
use Prim.Native.Nat.{ℕ, zero, suc, ◌+◌, ◌≤◌, ◌<◌}
use native.Mathlib.Omega.{arith}
use lib.ListN.{length, take, drop, length-append, length-replicate}
use lib.Seq.{take_at, drop_at}
use Rattle.kep.specs.Lists.{Each, none, also, flat, total}
use Rattle.kep.specs.Graph.{Graph}
use Rattle.kep.specs.Plan.{in_order, kind_of, record_of, records_of, record_form, FitRecords}
use Rattle.kep.specs.Table.{served}
use Rattle.kep.proofs.Each.{each_map, each_append_right}
use Rattle.kep.proofs.Worth.{total_append}
use Rattle.kep.proofs.ExchangeFacts.{Told, exchange_below, fits_few}
use Rattle.kep.proofs.Bytes.{padded, padded_nil, padded_cons, record_length}
use Rattle.kep.proofs.InOrder.{in_order_total}
use Rattle.kep.proofs.Legal.{Legal, in_order_told}
use Rattle.kep.proofs.Answer.{Worthy}

-- what is filled up determines the list, where nothing in it is the filler
padded_same : (c k : ℕ) {xs ys : List ℕ} → length xs ≤ k → length ys ≤ k → Each (λ v. v < c) xs → Each (λ v. v < c) ys
    → padded k c xs ≡ padded k c ys → xs ≡ ys
padded_same c k l m none none e = refl
padded_same c zero l m (also h hs) ks e = absurd (omega arith)
padded_same c zero l m none (also k ks) e = absurd (omega arith)
padded_same c (suc n) l m none (also {x = y} {xs = ys} k ks) e =
    let same : c ∷ padded n c [] ≡ y ∷ padded n c ys = sym (padded_nil n c) ∙ e ∙ padded_cons n c y ys in
    absurd (omega (arith, head-eq_of_cons-eq same))
padded_same c (suc n) l m (also {x = x} {xs = xs} h hs) none e =
    let same : x ∷ padded n c xs ≡ c ∷ padded n c [] = sym (padded_cons n c x xs) ∙ e ∙ padded_nil n c in
    absurd (omega (arith, head-eq_of_cons-eq same))
padded_same c (suc n) l m (also {x = x} {xs = xs} h hs) (also {x = y} {xs = ys} k ks) e =
    let same : x ∷ padded n c xs ≡ y ∷ padded n c ys = sym (padded_cons n c x xs) ∙ e ∙ padded_cons n c y ys in
    ap₂ (λ z zs. z ∷ zs) (head-eq_of_cons-eq same) (padded_same c n (omega arith) (omega arith) hs ks (tail-eq_of_cons-eq same))

module _ (g : Graph) (lc lp : ℕ) (fit : FitRecords g lc lp) where
  -- records tell exchanges apart
  record_same : {x y : List ℕ} → Told g lc lp x → Told g lc lp y → record_of g x ≡ record_of g y → x ≡ y
  unfolding record_of padded
  record_same {x} {y} t u e =
      padded_same 255 14 (fits_few fit t.0) (fits_few fit u.0) (small t) (small u)
      (sym (take_at (padded 14 255 x) (kind_of g x ∷ served g x ∷ []) 14 (long t))
      ∙ ap (take 14) e
      ∙ take_at (padded 14 255 y) (kind_of g y ∷ served g y ∷ []) 14 (long u))
    where
      small : {z : List ℕ} → Told g lc lp z → Each (λ v. v < 255) z
      small v = each_map (λ w h. omega (arith, fit.below_filler)) (exchange_below g v.0)

      long : {z : List ℕ} → Told g lc lp z → length (padded 14 255 z) ≡ 14
      long v = let few = fits_few fit v.0 in simp (length-append, length-replicate) (omega arith)

  -- records that begin with those of other exchanges begin with these exchanges
  starts : {p q : List (List ℕ)} (rest : List ℕ) → Each (Told g lc lp) p → Each (Told g lc lp) q → records_of g p ++ rest ≡ records_of g q
      → (more : List (List ℕ)) × (p ++ more ≡ q)
  unfolding records_of
  starts {q = q} rest none us e = (q, refl)
  starts rest (also {x = x} {xs = p} t ts) none e =
      absurd (omega (arith, record_length g x (fits_few fit t.0), length-append (record_of g x) (records_of g p), length-append (record_of g x ++ records_of g p) rest, ap length e))
  starts rest (also {x = x} {xs = p} t ts) (also {x = y} {xs = q} u us) e =
      let both : record_of g x ++ (records_of g p ++ rest) ≡ record_of g y ++ records_of g q = sym (append_assoc (record_of g x) (records_of g p) rest) ∙ e in
      let front : record_of g x ≡ record_of g y =
      sym (take_at (record_of g x) (records_of g p ++ rest) 16 (record_length g x (fits_few fit t.0)))
      ∙ ap (take 16) both
      ∙ take_at (record_of g y) (records_of g q) 16 (record_length g y (fits_few fit u.0)) in
      let back : records_of g p ++ rest ≡ records_of g q =
      sym (drop_at (record_of g x) (records_of g p ++ rest) 16 (record_length g x (fits_few fit t.0)))
      ∙ ap (drop 16) both
      ∙ drop_at (record_of g y) (records_of g q) 16 (record_length g y (fits_few fit u.0)) in
      let (more, same) = starts rest ts us back in
      (more, ap₂ (λ z zs. z ∷ zs) (record_same t u front) same)

  -- exchanges that follow add what they are worth
  worth_more : (w : ℕ → ℕ) (p more : List (List ℕ)) → total w (flat (p ++ more)) ≡ total w (flat p) + total w (flat more)
  unfolding flat total
  worth_more w [] more = omega arith
  worth_more w (x ∷ p) more = omega (arith, total_append w x (flat (p ++ more)), total_append w x (flat p), worth_more w p more)

  -- and where they are worth nothing there are none
  none_more : (w : ℕ → ℕ) {more : List (List ℕ)} → Worthy g lc lp w → Each (Told g lc lp) more → total w (flat more) ≡ 0 → more ≡ []
  unfolding flat
  none_more w worthy none e = refl
  none_more w worthy (also {x = x} {xs = more} t ts) e = absurd (omega (arith, worthy x t.0, total_append w x (flat more)))

  -- where every exchange is worth something, no form is the start of another that is worth as much
  pub no_start : (w : ℕ → ℕ) → Worthy g lc lp w → (p q : List (List ℕ)) → Legal g lc lp p → Legal g lc lp q → total w (flat p) ≡ total w (flat q)
      → (rest : List ℕ) → record_form g p ++ rest ≡ record_form g q → record_form g p ≡ record_form g q
  unfolding record_form
  no_start w worthy p q h k worth rest e =
      let told = in_order_told g lc lp q k in
      let (more, same) = starts rest (in_order_told g lc lp p h) told e in
      let rest_told : Each (Told g lc lp) more = each_append_right (in_order p) (rw (← same) at told) in
      let nothing : total w (flat more) ≡ 0 =
      omega (arith, worth, in_order_total w p, in_order_total w q, worth_more w (in_order p) more, ap (λ r. total w (flat r)) same) in
      ap (records_of g) (sym (append-nil (in_order p)) ∙ ap (λ r. in_order p ++ r) (sym (none_more w worthy rest_told nothing)) ∙ same)
