-- The program: what its text says. `text_of` is the text of the bytes of its two files, by the contract of `report`; of the pool file it goes by those
-- that count as the whole file.
use mathlib.Core.List.{List}
use mathlib.Core.Logic.{◌↔◌, ◌⊎◌}
use mathlib.Core.Path.{◌≡◌, ap}
use Prim.Native.Nat.{ℕ, ◌<◌}
use lib.Dec.{T}
use lib.ListN.{length, take, drop}
use Rattle.pool.specs.declared.value.Pool.{Pool}
use Rattle.pool.specs.Refusals.{accepted, refused}
use Rattle.pool.specs.Limits.{limits_fit}
use Rattle.reading.specs.Records.{read_pool}
use Rattle.std.specs.Prelude.{Some, None}
use Rattle.report.specs.Text.{decimal, refused_line, outcome_text, limits_in, printed, whole_text, counted, text_of, text_outcome, text_left}
use Rattle.claims.specs.Printed.{limits_tests, PrintsPlan, BaseTen}
use Rattle.pool.specs.Causes.{FirstFails}
use Rattle.claims.proofs.PrintedLaws.{printed_refused_by, printed_accepted_by, plan_printed, text_written, text_short, decimal_base_ten}

-- ---- what is accepted: a refused pool first, then the limits

module _ (pool limits : List ℕ) where
  pub printed_refuses : {n at : ℕ} → (printed pool limits ≡ refused n at)
      ↔ ((read_pool pool ≡ refused n at) ⊎ ((p : Pool) × (read_pool pool ≡ accepted p) × FirstFails (limits_tests limits) n × (at ≡ 0)))
  printed_refuses = printed_refused_by pool limits

  pub printed_accepts : {p : Pool} → (printed pool limits ≡ accepted p) ↔ ((read_pool pool ≡ accepted p) × (length limits ≡ 2) × T (limits_fit (limits_in limits)))
  printed_accepts = printed_accepted_by pool limits

-- ---- the text

module _ (pool limits : List ℕ) where
  -- Where the pool or the limits are refused, it is `refused N P`, with the number and the spot.
  pub prints_refusal : {n at : ℕ} → printed (counted pool) limits ≡ refused n at → text_of pool limits ≡ refused_line n at
  unfolding whole_text outcome_text
  prints_refusal e = ap (λ o. outcome_text o (limits_in limits)) e

  -- Where they are accepted, it is that of the best plan.
  pub prints_plan : {p : Pool} → printed (counted pool) limits ≡ accepted p → PrintsPlan pool limits p
  prints_plan e = plan_printed pool limits e

-- Every number in it is in base ten.
pub decimal_is_base_ten : (n : ℕ) → BaseTen n (decimal n)
decimal_is_base_ten n = decimal_base_ten n

-- ---- the call `report`

module _ (pool limits out : List ℕ) where
  -- Where it tells a length, that is the length of the text; the text stands at the front of the buffer, and all behind it is untouched.
  pub report_writes : {n : ℕ} → text_outcome pool limits (length out) ≡ Some n
      → (n ≡ length (text_of pool limits)) × (take n (text_left pool limits out) ≡ text_of pool limits) × (drop n (text_left pool limits out) ≡ drop n out)
  report_writes e = text_written pool limits out e

  -- Where it tells that the room is too short, it is, and the buffer is untouched.
  pub report_untouched : text_outcome pool limits (length out) ≡ None → (length out < length (text_of pool limits)) × (text_left pool limits out ≡ out)
  report_untouched e = text_short pool limits out e
