-- Laws of calls that are tried again.
use mathlib.Core.List.{List}
use mathlib.Core.Path.{◌≡◌, ◌∙◌, subst}
use Prim.Native.Nat.{ℕ}
use Rattle.std.specs.Prelude.{Option, None, Some, Result, Ok, Err}
use Rattle.std.specs.Io.KnownBytes.{Keeps, ReadConsumes, WriteAppends}
use Rattle.swap.specs.inner.Retrying.{Retried, last, again}

module _ {S T E : Type 0} {step : S → Result T E → S → Type 0} where
  -- what no call changes
  pub none_changes : {N : Type 0} (name : S → N) → ((a b : S) (r : Result T E) → step a r b → name a ≡ name b) → {a b : S} {r : Result T E}
      → Retried step a r b → name a ≡ name b
  none_changes name each (last x) = each _ _ _ x
  none_changes name each (again x more) = each _ _ _ x ∙ none_changes name each more

  -- what the last call gives
  pub last_gives : (P : Result T E → S → Type 0) → ((a b : S) (r : Result T E) → step a r b → P r b) → {a b : S} {r : Result T E} → Retried step a r b → P r b
  last_gives P each (last x) = each _ _ _ x
  last_gives P each (again x more) = last_gives P each more

  -- and what all of them do to known bytes, where one that fails keeps them
  pub all_give : (known : S → Option (List ℕ)) (P : Option (List ℕ) → Result T E → S → Type 0)
      → ((old mid : Option (List ℕ)) (r : Result T E) (b : S) → Keeps old mid → P mid r b → P old r b)
      → ((a b : S) (e : E) → step a (Err e) b → Keeps (known a) (known b)) → ((a b : S) (r : Result T E) → step a r b → P (known a) r b)
      → {a b : S} {r : Result T E} → Retried step a r b → P (known a) r b
  all_give known P earlier kept each (last x) = each _ _ _ x
  all_give known P earlier kept each (again x more) = earlier _ _ _ _ (kept _ _ _ x) (all_give known P earlier kept each more)

module _ {E : Type 0} where
  pub read_earlier : (old mid new : Option (List ℕ)) (r : Result ℕ E) (buffer : List ℕ) → Keeps old mid → ReadConsumes mid new r buffer → ReadConsumes old new r buffer
  read_earlier None mid new (Ok n) buffer k h = (tt, h.1)
  read_earlier None mid new (Err e) buffer k h = tt
  read_earlier (Some xs) None new r buffer k h = absurd k
  read_earlier (Some xs) (Some ys) new r buffer k h = subst (λ zs. ReadConsumes (Some zs) new r buffer) k h

  pub write_earlier : (old mid new : Option (List ℕ)) (r : Result ℕ E) (text : List ℕ) → Keeps old mid → WriteAppends mid new r text → WriteAppends old new r text
  write_earlier None mid new (Ok n) text k h = tt
  write_earlier None mid new (Err e) text k h = tt
  write_earlier (Some xs) None new r text k h = absurd k
  write_earlier (Some xs) (Some ys) new r text k h = subst (λ zs. WriteAppends (Some zs) new r text) k h
