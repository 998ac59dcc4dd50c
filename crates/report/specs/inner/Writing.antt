-- What the functions that write the text promise of their parts of it.
use Rattle.std.specs.Prelude.{List, [], ◌∷◌, ◌++◌, ℕ, take}
use Rattle.pool.specs.declared.value.Pool.{Pool}
use Rattle.pool.specs.declared.limits.Limits.{Limits}
use Rattle.pool.specs.Limits.{limits_fit}
use Rattle.pool.specs.Refusals.{accepted, tested}
use Rattle.report.specs.Text.{outcome_text}

-- a text and one word more, as far as there is memory for them
unfoldable pub pushed : List ℕ → List ℕ → List ℕ
pushed text word = take 1024 (text ++ word)

-- the text of a pool that was read, under limits of two bytes
unfoldable pub cleared_text : Pool → Limits → List ℕ
cleared_text p l = outcome_text (tested ((7, limits_fit l) ∷ []) 0 (accepted p)) l
