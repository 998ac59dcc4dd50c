-- What the program's text says.
use Rattle.std.specs.Prelude.{Bool, ◌&&◌, List, [], ◌∷◌, ◌++◌, ◌≡◌, ℕ, ◌+◌, ◌-◌, ◌*◌, ◌≤◌, T, eqb, length}
use Rattle.pool.specs.declared.value.Pool.{Pool}
use Rattle.kep.specs.Lists.{Each, keep, flat}
use Rattle.kep.specs.Graph.{Graph}
use Rattle.kep.specs.Exchange.{head_of}
use Rattle.kep.specs.Table.{served}
use Rattle.kep.specs.Plan.{is_legal, in_order, kind_of, record_form, Optimum}
use Rattle.pool.specs.Refusals.{accepted}
use Rattle.pool.specs.Limits.{limits_fit}
use Rattle.reading.specs.Records.{read_pool}
use Rattle.reading.specs.Fields.{tells_member, pool_records}
use Rattle.pool.specs.Value.{graph_of, weeks_in}
use Rattle.report.specs.Text.{kind_word, line_feed, served_line, places_text, limits_in, counted, text_of}

-- the test of the limits' bytes: 7 is met also by other than two
abbrev pub limits_tests : List ℕ → List (ℕ × Bool)
limits_tests limits = (7, eqb (length limits) 2 && limits_fit (limits_in limits)) ∷ []

-- ---- a plan

-- a line for each exchange: `chain` where it begins at a house, else `ring`, and its places
unfoldable pub exchange_lines : Graph → List (List ℕ) → List ℕ
exchange_lines g [] = []
exchange_lines g (xs ∷ p) = (kind_word (kind_of g xs) ++ places_text xs ++ line_feed) ++ exchange_lines g p

-- The text of the pool p that the counted bytes of the pool file hold, under the limits that the limits' two bytes hold, is that of the best plan:
pub record PrintsPlan (pool limits : List ℕ) (p : Pool) : Type 0 where
  pub read : read_pool (counted pool) ≡ accepted p
  pub two : length limits ≡ 2
  pub fitting_limits : T (limits_fit (limits_in limits))
  -- the exchanges of a legal plan, each ring from its lowest place on and in rising order of first place, and the members that it serves;
  pub plan : List (List ℕ)
  pub count : ℕ
  pub legal : T (is_legal (graph_of p) (limits_in limits).cycle (limits_in limits).chain plan)
  pub stands_in_order : in_order plan ≡ plan
  pub serves : served (graph_of p) (flat plan) ≡ count
  -- no legal plan serves more, of those that serve as many none has more weeks, and of those none has a record form that comes first;
  pub optimum : Optimum (graph_of p) (weeks_in p) (limits_in limits).cycle (limits_in limits).chain (record_form (graph_of p) plan) count
  -- the text is `served S of M` with this count and the number of records that tell a member, and a line for each exchange.
  pub text : text_of pool limits ≡ served_line count (length (keep tells_member (pool_records (counted pool)))) ++ exchange_lines (graph_of p) plan

-- ---- numbers

-- the number that digits tell, behind digits that told `high`
unfoldable pub number : ℕ → List ℕ → ℕ
number high [] = high
number high (d ∷ ds) = number (10 * high + (d - 48)) ds

-- digits tell n: ASCII digits, from `0` (48) to `9` (57), that read in base ten are n, with no needless zero in front
pub record BaseTen (n : ℕ) (ds : List ℕ) : Type 0 where
  pub value : number 0 ds ≡ n
  pub are_digits : Each (λ d. (48 ≤ d) × (d ≤ 57)) ds
  pub no_zero : 1 ≤ n → 49 ≤ head_of ds
  pub zero_alone : n ≡ 0 → ds ≡ 48 ∷ []
