-- What was read before a failure.
use Rattle.std.specs.Prelude.{ℕ, ◌≤◌, List, length, take, Option}
use Rattle.std.specs.Io.KnownBytes.{Consumes}

-- some first bytes of xs are those that were consumed
pub record ConsumesFront (old new : Option (List ℕ)) (xs : List ℕ) : Type 0 where
  pub count : ℕ
  pub inside : count ≤ length xs
  pub bytes : Consumes old new (take count xs)
