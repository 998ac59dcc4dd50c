-- Laws of "record k": where the record stands there and where it does not.
use mathlib.Core.List.{List, []}
use mathlib.Core.Path.{◌≡◌}
use Prim.Native.Nat.{ℕ, suc, ◌+◌, ◌*◌, ◌≤◌, ◌<◌}
use lib.ListN.{length}
use borrow.Author.Tests.{le-leb, lt-leb}
use Rattle.plans.specs.Record.{record_at, record_part, record_place}

module _ (start : ℕ × ℕ) (plan : List ℕ) (k : ℕ) where
  module _ (h : 16 * suc k ≤ length plan) where
    pub part_there : record_at plan k ≡ record_part plan k
    unfolding record_part
    part_there = rw (le-leb (16 * suc k) (length plan) h, record_part)

    pub place_there : (start.0, 16 * k + start.1) ≡ record_place start plan k
    unfolding record_place
    place_there = rw (le-leb (16 * suc k) (length plan) h, record_place)

  module _ (h : length plan < 16 * suc k) where
    pub part_missing : [] ≡ record_part plan k
    unfolding record_part
    part_missing = rw (lt-leb (16 * suc k) (length plan) h, record_part)

    pub place_missing : (start.0, 0 + start.1) ≡ record_place start plan k
    unfolding record_place
    place_missing = rw (lt-leb (16 * suc k) (length plan) h, record_place)
