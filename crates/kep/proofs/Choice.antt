-- `pick` chooses the first of the best: by any score, and by any form in bytes.
use mathlib.Core.Bool.{Bool, true, false}
use mathlib.Core.List.{List, [], ◌∷◌}
use mathlib.Core.Logic.{◌⊎◌, inr, inl}
use mathlib.Core.Path.{◌≡◌, refl}
use Prim.Native.Nat.{ℕ, ◌<◌, ◌≤◌}
use native.Mathlib.Omega.{arith}
use lib.Dec.{T, ltb}
use borrow.Author.Tests.{ltb-true, ltb-false}
use Rattle.kep.specs.Lists.{before, Each, none, also}
use Rattle.kep.specs.computed.Answer.{better, pick}
use Rattle.kep.proofs.Each.{each_map}
use Rattle.kep.proofs.Bytes.{before_refl, before_trans, before_other}

module _ {A : Type 0} (score : A → ℕ) (form : A → List ℕ) where
  -- p is as good as q: its score is greater, or the same with a form that does not come after q's
  abbrev pub AsGood : A → A → Type 0
  AsGood p q = (score q < score p) ⊎ ((score q ≡ score p) × T (before (form p) (form q)))

  pub as_good_refl : (p : A) → AsGood p p
  as_good_refl p = inr (refl, before_refl (form p))

  pub as_good_trans : (p q r : A) → AsGood p q → AsGood q r → AsGood p r
  as_good_trans p q r (inl h) (inl k) = inl (omega arith)
  as_good_trans p q r (inl h) (inr k) = inl (omega arith)
  as_good_trans p q r (inr h) (inl k) = inl (omega arith)
  as_good_trans p q r (inr h) (inr k) = inr (omega arith, before_trans (form p) (form q) (form r) h.1 k.1)

  -- as good: the score is no less, and where it is the same the form does not come after
  pub as_good_score : (p q : A) → AsGood p q → score q ≤ score p
  as_good_score p q (inl h) = omega arith
  as_good_score p q (inr h) = omega arith

  pub as_good_form : (p q : A) → AsGood p q → score q ≡ score p → T (before (form p) (form q))
  as_good_form p q (inl h) e = absurd (omega arith)
  as_good_form p q (inr h) e = h.1

  -- `better` gives one of the two, and it is as good as the other
  better_cases : (p q : A) → ((better score form p q ≡ p) × AsGood p q) ⊎ ((better score form p q ≡ q) × AsGood q p)
  unfolding better
  better_cases p q = go (ltb (score q) (score p)) (ltb (score p) (score q)) (before (form p) (form q)) refl refl refl
    where
      chosen : Bool → Bool → Bool → A
      chosen a b c = elim a [ true ↦ p | false ↦ elim b [ true ↦ q | false ↦ elim c [ true ↦ p | false ↦ q ] ] ]

      go :
          (a b c : Bool)
          → ltb (score q) (score p) ≡ a
          → ltb (score p) (score q) ≡ b
          → before (form p) (form q) ≡ c
          → ((chosen a b c ≡ p) × AsGood p q) ⊎ ((chosen a b c ≡ q) × AsGood q p)
      go true b c ea eb ec = inl (refl, inl (ltb-true (score q) (score p) ea))
      go false true c ea eb ec = inr (refl, inl (ltb-true (score p) (score q) eb))
      go false false true ea eb ec = inl (refl, inr (omega (arith, ltb-false), rw ec tt))
      go false false false ea eb ec = inr (refl, inr (omega (arith, ltb-false), before_other (form p) (form q) ec))

  -- what holds of both holds of the better one
  better_keeps : (P : A → Type 0) (p q : A) → P p → P q → P (better score form p q)
  better_keeps P p q h k = go (better_cases p q)
    where
      go : ((better score form p q ≡ p) × AsGood p q) ⊎ ((better score form p q ≡ q) × AsGood q p) → P (better score form p q)
      go (inl c) = rw c.0 h
      go (inr c) = rw c.0 k

  better_left : (p q : A) → AsGood (better score form p q) p
  better_left p q = go (better_cases p q)
    where
      go : ((better score form p q ≡ p) × AsGood p q) ⊎ ((better score form p q ≡ q) × AsGood q p) → AsGood (better score form p q) p
      go (inl c) = rw c.0 (as_good_refl p)
      go (inr c) = rw c.0 c.1

  better_right : (p q : A) → AsGood (better score form p q) q
  better_right p q = go (better_cases p q)
    where
      go : ((better score form p q ≡ p) × AsGood p q) ⊎ ((better score form p q ≡ q) × AsGood q p) → AsGood (better score form p q) q
      go (inl c) = rw c.0 c.1
      go (inr c) = rw c.0 (as_good_refl q)

  -- the one picked is one of those given
  pub pick_keeps : (P : A → Type 0) (p : A) (qs : List A) → P p → Each P qs → P (pick score form p qs)
  unfolding pick
  pick_keeps P p [] h none = h
  pick_keeps P p (q ∷ qs) h (also k ks) = better_keeps P q (pick score form p qs) k (pick_keeps P p qs h ks)

  -- and it is as good as each of them
  pub pick_best : (p : A) (qs : List A) → Each (AsGood (pick score form p qs)) qs
  unfolding pick
  pick_best p [] = none
  pick_best p (q ∷ qs) =
      let r = pick score form p qs in
      let b = better score form q r in
      also (better_left q r) (each_map (λ s. as_good_trans b r s (better_right q r)) (pick_best p qs))
