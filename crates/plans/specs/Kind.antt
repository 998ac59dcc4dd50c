-- The kinds of exchanges, as byte 14 of a record tells them.
use Rattle.std.specs.Prelude.{ℕ}
use Rattle.plans.specs.declared.kind.ExchangeKind.{ExchangeKind}
use Rattle.plans.specs.declared.kind.ExchangeKind.TheVariants.{Chain, Ring}

abbrev pub byte_of : ExchangeKind → ℕ
byte_of Chain = 67
byte_of Ring = 82
