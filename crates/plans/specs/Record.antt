-- "Record k" of lent plan bytes: the caller's own sixteen bytes, or an empty part.
use Rattle.std.specs.Prelude.{Bool, true, false, List, [], ℕ, suc, ◌+◌, ◌*◌, leb, length, take, drop}

-- the sixteen bytes of record k
abbrev pub record_at : List ℕ → ℕ → List ℕ
record_at plan k = take 16 (drop (16 * k) plan)

-- do k + 1 whole records stand there?
abbrev pub has_record : List ℕ → ℕ → Bool
has_record plan k = leb (16 * suc k) (length plan)

-- what the call returns: its bytes
unfoldable pub record_part : List ℕ → ℕ → List ℕ
record_part plan k = elim (has_record plan k) [ true ↦ record_at plan k | false ↦ [] ]

-- and where these bytes lie, in the block and at the index of a plan that begins at `start`: an empty part lies at the start
unfoldable pub record_place : ℕ × ℕ → List ℕ → ℕ → ℕ × ℕ
record_place start plan k = (start.0, elim (has_record plan k) as (λ _. ℕ) [ true ↦ 16 * k | false ↦ 0 ] + start.1)
