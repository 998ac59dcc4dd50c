use borrow.Author.Rules.{rules}
use mathlib.Core.Path.{◌≡◌, ap, ◌∙◌}
use Prim.Native.Nat.{◌%◌}
use native.Mathlib.Omega.{arith}
use lib.ListN.{length}
use Rattle.std.proofs.lemmas.Result.{err_from_is_err_and}
use Rattle.pool.specs.Refusals.{accepted}
use Rattle.reading.specs.Fields.{record_width, pool_records}
use Rattle.kep.proofs.Cut.{chunks_cut}
use Rattle.reading.proofs.ReadLaws.{read_by, pool_read}
use Rattle.reading.proofs.pool_bytes.read_pool.Goals as goal

pub returns-in_err-count_houses : goal.returns-in_err-count_houses
returns-in_err-count_houses c =
    let p = err_from_is_err_and c.from_residual.result c.from_residual.ensures.1 in
    let bytes = c.args.bytes.now in
    let same : c.as_chunks.result.0.now ≡ pool_records bytes = c.as_chunks.ensures.front ∙ chunks_cut _ _ bytes in
    let even : length bytes % record_width ≡ 0 = search rules in
    rw (p.1, p.2) (read_by bytes same even (omega arith) c.in_err-count_houses.ensures)

pub returns : goal.returns
returns c =
    let bytes = c.args.bytes.now in
    let same : c.as_chunks.result.0.now ≡ pool_records bytes = c.as_chunks.ensures.front ∙ chunks_cut _ _ bytes in
    let even : length bytes % record_width ≡ 0 = search rules in
    ap accepted (pool_read _ c.in_ok-count_houses.ensures c.takers.ensures c.waited.ensures) ∙ read_by bytes same even (omega arith) c.in_ok-count_houses.ensures
