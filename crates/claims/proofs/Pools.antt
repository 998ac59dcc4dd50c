-- What pool bytes that are accepted hold: a place for each record, its fields, and the arcs, by the rules of the documents.
use mathlib.Core.List.{List, []}
use mathlib.Core.Logic.{◌↔◌}
use mathlib.Core.Path.{◌≡◌}
use Prim.Native.Nat.{ℕ, ◌-◌, ◌/◌, ◌≤◌, ◌<◌}
use lib.Dec.{T}
use lib.ListN.{length, get_or}
use Rattle.pool.specs.declared.value.Pool.{Pool}
use Rattle.kep.specs.Lists.{keep}
use Rattle.kep.specs.Graph.{is_altruist, is_member, WellFormed}
use Rattle.pool.specs.Refusals.{accepted}
use Rattle.reading.specs.Records.{read_pool, GivesTo}
use Rattle.reading.specs.Fields.{record_width, tells_house, tells_member, class_of, grade_of, least_of, taken_of, weeks_of, machine_of, pool_records}
use Rattle.pool.specs.Value.{graph_of, weeks_in, pool_fits}
use Rattle.kep.specs.Plan.{FitRecords}
use Rattle.reading.proofs.ReadPool.{read_size, read_passed, read_fits, read_formed, read_weeks, read_arcs}
use Rattle.reading.proofs.Houses.{read_altruists, read_members, read_members_count}
use Rattle.claims.proofs.CheckerLaws.{read_fit_records}

module _ (bytes : List ℕ) {p : Pool} (read : read_pool bytes ≡ accepted p) where
  -- There is a place for each record.
  pub places_are_records : p.size ≡ length bytes / record_width
  places_are_records = read_size bytes read

  -- Place u is an altruist of the graph exactly where record u is a house's, of kind 72, and a member where it is a member's, of kind 77.
  pub altruists_by_kind : (u : ℕ) → u < p.size → T (is_altruist (graph_of p) u) ↔ T (tells_house (get_or (pool_records bytes) u []))
  altruists_by_kind u there = read_altruists bytes read u there

  pub members_by_kind : (u : ℕ) → u < p.size → T (is_member (graph_of p) u) ↔ T (tells_member (get_or (pool_records bytes) u []))
  members_by_kind u there = read_members bytes read u there

  -- Its members are as many as the records of members.
  pub members_counted : p.size - p.altruists ≡ length (keep tells_member (pool_records bytes))
  members_counted = read_members_count bytes read

  -- Of every place the class is 0 to 31, and both grades are 0 to 100; a house takes nothing: its least grade is 0, and so are its classes taken.
  pub classes_in_range : (u : ℕ) → u < p.size → class_of (get_or (pool_records bytes) u []) ≤ 31
  classes_in_range u there = (read_passed bytes read u there).class

  pub grades_in_range : (u : ℕ) → u < p.size → (grade_of (get_or (pool_records bytes) u []) ≤ 100) × (least_of (get_or (pool_records bytes) u []) ≤ 100)
  grades_in_range u there = (read_passed bytes read u there).grades

  pub houses_take_nothing : (u : ℕ) → u < p.size → T (tells_house (get_or (pool_records bytes) u []))
      → (least_of (get_or (pool_records bytes) u []) ≡ 0) × (taken_of (get_or (pool_records bytes) u []) ≡ 0)
  houses_take_nothing u there = (read_passed bytes read u there).house_takes_nothing

  -- Of every place the weeks waited are 0 to 999, and the machine has a number other than 0.
  pub weeks_in_range : (u : ℕ) → u < p.size → weeks_of (get_or (pool_records bytes) u []) ≤ 999
  weeks_in_range u there = (read_passed bytes read u there).weeks

  -- The pool value has them, of houses too.
  pub weeks_by_record : (u : ℕ) → u < p.size → weeks_in p u ≡ weeks_of (get_or (pool_records bytes) u [])
  weeks_by_record u there = read_weeks bytes read u there

  pub machines_numbered : (u : ℕ) → u < p.size → 0 < machine_of (get_or (pool_records bytes) u [])
  machines_numbered u there = (read_passed bytes read u there).machine

  -- The graph has an arc from u to v exactly where place u gives to place v: v is a member, takes the class of u's machine, and its grade is enough.
  pub arcs_by_rule : (u v : ℕ) → T ((graph_of p).arc u v) ↔ GivesTo bytes u v
  arcs_by_rule u v = read_arcs bytes read u v

  -- The pool is accepted as a value too, and its arcs lead from places that are there to members.
  pub pool_is_value : T (pool_fits p) × WellFormed (graph_of p)
  pool_is_value = (read_fits bytes read, read_formed bytes read)

  -- Its exchanges fit into plan records, whatever the limits.
  pub exchanges_fit_records : (lc lp : ℕ) → FitRecords (graph_of p) lc lp
  exchanges_fit_records lc lp = read_fit_records bytes read lc lp
