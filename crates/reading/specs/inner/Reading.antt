-- What the functions that read a record answer, as outcomes.
use Rattle.std.specs.Prelude.{Bool, true, false, ℕ, Result, Ok, Err}
use Rattle.pool.specs.declared.refusal.Cause.{Cause}
use Rattle.reading.specs.declared.kind.Kind.{Kind}
use Rattle.reading.specs.declared.kind.Kind.TheVariants as kind
use Rattle.pool.specs.Refusals.{number_of, Outcome, accepted, refused}

-- the byte that tells a kind
abbrev pub byte_of : Kind → ℕ
byte_of kind.House = 72
byte_of kind.Member = 77

-- is it a member's?
abbrev pub is_member : Kind → Bool
is_member kind.House = false
is_member kind.Member = true

-- is the record read at a spot a member's?
abbrev pub record_outcome : Result Kind Cause → ℕ → Outcome Bool
record_outcome (Ok k) at = accepted (is_member k)
record_outcome (Err c) at = refused (number_of c) at
