-- Calls that are tried again.
use Rattle.std.specs.Prelude.{Err, Result}

-- the last of some calls gave r, and each before it failed
pub data Retried {S T E : Type 0} (step : S → Result T E → S → Type 0) : S → Result T E → S → Type 0 where
  last : {before after : S} {r : Result T E} → step before r after → Retried step before r after
  again : {before mid after : S} {e : E} {r : Result T E} → step before (Err e) mid → Retried step mid r after → Retried step before r after
