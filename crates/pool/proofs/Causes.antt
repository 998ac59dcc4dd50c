-- By which cause a call refuses: the first test that fails decides, and nothing else does; what is accepted passes them all. For one list of
-- tests, and for the tests of record after record.
use mathlib.Core.Bool.{Bool, true, false}
use mathlib.Core.List.{List, [], ◌∷◌}
use mathlib.Core.Logic.{◌↔◌, ◌⊎◌, inl, inr, ⊎_elim}
use mathlib.Core.Path.{◌≡◌, refl, sym, ap, ◌∙◌}
use Prim.Native.Nat.{ℕ, suc, ◌+◌}
use native.Mathlib.Omega.{arith}
use Rattle.kep.specs.Lists.{Each, none, also}
use Rattle.kep.proofs.Each.{each_first, each_rest}
use Rattle.pool.specs.Causes.{Pass, FirstFails, FirstRecord, FirstMet, here as fails_here, later as fails_later, in_this, in_later}
use Rattle.pool.specs.Refusals.{Outcome, accepted, refused, tested, and_then}
use Rattle.pool.proofs.Tested.{not_both, all_held, all_pass}
use Rattle.pool.proofs.TestsInOrder.{refuses}

module _ {A : Type 0} (rest : Outcome A) where
  -- a refusal is that of the first test that fails, or all pass and it is that of the rest
  first_or_rest : (ts : List (ℕ × Bool)) (at : ℕ) {n i : ℕ} → tested ts at rest ≡ refused n i
      → (FirstFails ts n × (i ≡ at)) ⊎ (Each Pass ts × (rest ≡ refused n i))
  unfolding tested
  first_or_rest [] at e = inr (none, e)
  first_or_rest ((k, b) ∷ ts) at {n} {i} e = go b e (first_or_rest ts at)
    where
      go : (b : Bool) → tested ((k, b) ∷ ts) at rest ≡ refused n i
          → (tested ts at rest ≡ refused n i → (FirstFails ts n × (i ≡ at)) ⊎ (Each Pass ts × (rest ≡ refused n i)))
          → (FirstFails ((k, b) ∷ ts) n × (i ≡ at)) ⊎ (Each Pass ((k, b) ∷ ts) × (rest ≡ refused n i))
      go true e ih = ⊎_elim (λ f. inl (fails_later tt f.0, f.1)) (λ h. inr (also tt h.0, h.1)) (ih e)
      go false e ih = let same : n ≡ k = cc in let spot : i ≡ at = cc in inl (rw same (fails_here (λ t. t)), spot)

  -- so it is told by the tests and the rest
  pub refused_by : (ts : List (ℕ × Bool)) (at : ℕ) {n i : ℕ}
      → (tested ts at rest ≡ refused n i) ↔ ((FirstFails ts n × (i ≡ at)) ⊎ (Each Pass ts × (rest ≡ refused n i)))
  refused_by ts at {n} {i} = (
    first_or_rest ts at,
    ⊎_elim (λ f. sym (refuses ts at rest f.0) ∙ ap (λ k. refused n k) (sym f.1)) (λ h. all_pass at rest h.0 ∙ h.1),
  )

  -- and so is what is accepted
  pub accepted_by : (ts : List (ℕ × Bool)) (at : ℕ) {a : A} → (tested ts at rest ≡ accepted a) ↔ (Each Pass ts × (rest ≡ accepted a))
  accepted_by ts at = (all_held ts at rest, λ h. all_pass at rest h.0 ∙ h.1)

-- what was accepted is one
pub same_given : {A : Type 0} {a b : A} → accepted a ≡ accepted b → a ≡ b
same_given e = cc

-- tests after which something is accepted
module _ {A : Type 0} (a : A) (ts : List (ℕ × Bool)) (at : ℕ) where
  pub alone_refused : {n i : ℕ} → (tested ts at (accepted a) ≡ refused n i) ↔ (FirstFails ts n × (i ≡ at))
  alone_refused = (
    λ e. ⊎_elim (λ f. f) (λ h. absurd (not_both h.1)) ((refused_by (accepted a) ts at).0 e),
    λ f. (refused_by (accepted a) ts at).1 (inl f),
  )

  pub alone_accepted : {b : A} → (tested ts at (accepted a) ≡ accepted b) ↔ (Each Pass ts × (a ≡ b))
  alone_accepted =
      let (to, from) = accepted_by (accepted a) ts at in
      (λ e. let h = to e in (h.0, same_given h.1), λ h. from (h.0, ap (λ x. accepted x) h.1))

-- ---- one call after another

-- a refusal is told whatever would have been given back
same_refusal : {A B : Type 0} {m n i at : ℕ} → ◌≡◌ {A = Outcome A} (refused m i) (refused n at) → ◌≡◌ {A = Outcome B} (refused m i) (refused n at)
same_refusal {m = m} {n = n} {i = i} {at = at} e = let k : m ≡ n = cc in let j : i ≡ at = cc in rw (k, j)

module _ {A B : Type 0} {f : A → Outcome B} where
  pub then_refused : (o : Outcome A) {n at : ℕ} → (and_then o f ≡ refused n at) ↔ ((o ≡ refused n at) ⊎ ((a : A) × (o ≡ accepted a) × (f a ≡ refused n at)))
  then_refused (accepted a) = (λ e. inr (a, refl, e), ⊎_elim (λ e. absurd (not_both e)) (λ h. ap f (same_given h.1) ∙ h.2))
  then_refused (refused m i) = (λ e. inl (same_refusal e), ⊎_elim same_refusal (λ h. absurd (not_both (sym h.1))))

  pub then_accepted : (o : Outcome A) {b : B} → (and_then o f ≡ accepted b) ↔ ((a : A) × (o ≡ accepted a) × (f a ≡ accepted b))
  then_accepted (accepted a) = (λ e. (a, refl, e), λ h. ap f (same_given h.1) ∙ h.2)
  then_accepted (refused m i) = (λ e. absurd (not_both (sym e)), λ h. absurd (not_both (sym h.1)))

-- ---- record after record

-- the lists one after another, each with the next spot
unfoldable pub in_turn : {A : Type 0} → List (List (ℕ × Bool)) → ℕ → Outcome A → Outcome A
in_turn [] at rest = rest
in_turn (ts ∷ more) at rest = tested ts at (in_turn more (suc at) rest)

module _ {A : Type 0} (a : A) where
  turn_refused : (tss : List (List (ℕ × Bool))) (at : ℕ) {n i : ℕ}
      → (in_turn tss at (accepted a) ≡ refused n i) ↔ ((k : ℕ) × (i ≡ at + k) × FirstRecord tss n k)
  unfolding in_turn
  turn_refused tss at = (to tss at, λ h. from at h.1 h.2)
    where
      to : (tss : List (List (ℕ × Bool))) (at : ℕ) {n i : ℕ} → in_turn tss at (accepted a) ≡ refused n i → (k : ℕ) × (i ≡ at + k) × FirstRecord tss n k
      to [] at e = absurd (not_both e)
      to (ts ∷ more) at e =
          ⊎_elim (λ f. (0, omega (arith, f.1), in_this f.0))
          (λ h. let (k, spot, first) = to more (suc at) h.1 in (suc k, omega arith, in_later h.0 first))
          ((refused_by (in_turn more (suc at) (accepted a)) ts at).0 e)

      from : {tss : List (List (ℕ × Bool))} (at : ℕ) {n i k : ℕ} → i ≡ at + k → FirstRecord tss n k → in_turn tss at (accepted a) ≡ refused n i
      from at spot (in_this {ts = ts} {more = more} f) = (refused_by (in_turn more (suc at) (accepted a)) ts at).1 (inl (f, omega arith))
      from at spot (in_later {ts = ts} {more = more} h first) =
          (refused_by (in_turn more (suc at) (accepted a)) ts at).1 (inr (h, from (suc at) (omega arith) first))

  turn_accepted : (tss : List (List (ℕ × Bool))) (at : ℕ) {b : A} → (in_turn tss at (accepted a) ≡ accepted b) ↔ (Each (Each Pass) tss × (accepted a ≡ accepted b))
  unfolding in_turn
  turn_accepted [] at = (λ e. (none, e), λ h. h.1)
  turn_accepted (ts ∷ more) at =
      let (to, from) = accepted_by (in_turn more (suc at) (accepted a)) ts at in
      let (all, back) = turn_accepted more (suc at) in (
        λ e. let h = to e in let hs = all h.1 in (also h.0 hs.0, hs.1),
        λ h. from (each_first h.0, back (each_rest h.0, h.1)),
      )

module _ {A : Type 0} (a : A) (whole : List (ℕ × Bool)) (records : List (List (ℕ × Bool))) where
  pub met_refused : {n at : ℕ} → (tested whole 0 (in_turn records 0 (accepted a)) ≡ refused n at) ↔ FirstMet whole records n at
  met_refused {n} {at} =
      let (to, from) = refused_by (in_turn records 0 (accepted a)) whole 0 in
      let (turn, back) = turn_refused a records 0 in (
        λ e. ⊎_elim inl (λ h. let (k, spot, first) = turn h.1 in let same : k ≡ at = omega arith in inr (h.0, rw same at first)) (to e),
        ⊎_elim (λ f. from (inl f)) (λ h. from (inr (h.0, back (at, omega arith, h.1)))),
      )

  pub met_accepted : {b : A} → (tested whole 0 (in_turn records 0 (accepted a)) ≡ accepted b) ↔ (Each Pass whole × Each (Each Pass) records × (a ≡ b))
  met_accepted {b} =
      let (to, from) = accepted_by (in_turn records 0 (accepted a)) whole 0 in
      let (turn, back) = turn_accepted a records 0 in (
        λ e. let h = to e in let hs = turn h.1 in (h.0, hs.0, same_given hs.1),
        λ h. from (h.0, back (h.1, ap (λ x. accepted x) h.2)),
      )
