-- Houses come first among records that are accepted: the places below their number, and no others.
use mathlib.Core.Bool.{false}
use mathlib.Core.List.{List, [], ◌∷◌, ◌++◌}
use mathlib.Core.Logic.{◌↔◌, ◌⊎◌, inl, inr, ⊎_elim}
use mathlib.Core.Path.{◌≡◌, refl, ap}
use Prim.Native.Nat.{ℕ, zero, suc, ◌+◌, ◌-◌, ◌<◌}
use native.Mathlib.Omega.{arith}
use lib.Dec.{T, leb, ltb, eqb→eq, leb→le, le→leb, ltb→lt, lt→ltb}
use lib.ListN.{length, get_or}
use borrow.Author.Tests.{ne_eqb}
use Rattle.pool.specs.declared.value.Pool.{Pool}
use Rattle.kep.specs.Lists.{keep}
use Rattle.kep.specs.Graph.{is_altruist, is_member}
use Rattle.pool.specs.Refusals.{Outcome, accepted}
use Rattle.pool.specs.Value.{graph_of}
use Rattle.reading.specs.Records.{records_tested, read_pool}
use Rattle.reading.specs.computed.Pool.{pool_of}
use Rattle.reading.specs.Fields.{record_kind, tells_house, tells_member, pool_records}
use Rattle.kep.proofs.Tests.{and_left, and_both, is_true, from_false}
use Rattle.kep.proofs.Each.{keep_yes, keep_no}
use Rattle.reading.proofs.RecordLaws.{other_kind}
use Rattle.reading.proofs.Passed.{first_passed}
use Rattle.reading.proofs.Scanning.{houses}
use Rattle.reading.proofs.ReadPool.{member_above, read_tests, read_is, read_records, read_passed}

module _ {A : Type 0} {a : A} (o : Outcome A) where
  pub house_places : (before rs : List (List ℕ)) → records_tested before rs o ≡ accepted a → (v : ℕ) → v < length rs → (v < houses rs) ↔ T (tells_house (get_or rs v []))
  house_places before [] e v l = absurd (omega arith)
  house_places before (r ∷ rs) e v l =
      let (passed, rest) = first_passed o before r rs e in
      go (house_places (before ++ (r ∷ [])) rs rest) passed.kind v l
    where
      Says : List (List ℕ) → ℕ → Type 0
      Says ks v = (v < houses ks) ↔ T (tells_house (get_or ks v []))

      go : ((v : ℕ) → v < length rs → Says rs v) → T (tells_house r) ⊎ T (tells_member r) → (v : ℕ) → v < suc (length rs) → Says (r ∷ rs) v
      go ih (inl t) zero l = rw (keep_yes tells_house r rs (is_true (tells_house r) t)) (λ _. t, λ _. omega arith)
      go ih (inl t) (suc v) l =
          let (to, from) = ih v (omega arith) in
          rw (keep_yes tells_house r rs (is_true (tells_house r) t)) (λ k. to (omega arith), λ h. let k = from h in omega arith)
      go ih (inr m) v l = (λ k. absurd (omega (arith, member_above before (r ∷ rs) o e zero m)), behind v l)
        where
          no_house : tells_house r ≡ false
          no_house = other_kind r (eqb→eq (record_kind r) 77 m)

          behind : (v : ℕ) → v < suc (length rs) → T (tells_house (get_or (r ∷ rs) v [])) → v < houses (r ∷ rs)
          behind zero l h = absurd (from_false no_house h)
          behind (suc v) l h =
              let none : houses rs ≡ 0 = omega (arith, member_above before (r ∷ rs) o e zero m, ap length (keep_no tells_house r rs no_house)) in
              absurd (omega (arith, (ih v (omega arith)).1 h))

  -- so the houses and the members are all of them
  kinds_sum : (before rs : List (List ℕ)) → records_tested before rs o ≡ accepted a → houses rs + length (keep tells_member rs) ≡ length rs
  unfolding keep
  kinds_sum before [] e = refl
  kinds_sum before (r ∷ rs) e =
      let (passed, rest) = first_passed o before r rs e in
      let others = kinds_sum (before ++ (r ∷ [])) rs rest in
      ⊎_elim
      (λ h. let member = ne_eqb (record_kind r) 77 (λ f. omega (arith, eqb→eq (record_kind r) 72 h)) in
      omega (arith, ap length (keep_yes tells_house r rs (is_true (tells_house r) h)), ap length (keep_no tells_member r rs member)))
      (λ m. omega (arith, ap length (keep_no tells_house r rs (other_kind r (eqb→eq (record_kind r) 77 m))), ap length (keep_yes tells_member r rs (is_true (tells_member r) m))))
      passed.kind

-- ---- in the graph of pool bytes that are read

module _ (bytes : List ℕ) {p : Pool} (read : read_pool bytes ≡ accepted p) where
  altruists_are : p.altruists ≡ houses (pool_records bytes)
  unfolding pool_of
  altruists_are = ap (λ q. q.altruists) (read_is bytes read)

  -- there are as many members as records that tell one
  pub read_members_count : p.size - p.altruists ≡ length (keep tells_member (pool_records bytes))
  read_members_count = omega (arith, read_records bytes read, altruists_are, kinds_sum (accepted (pool_of (pool_records bytes))) [] (pool_records bytes) (read_tests bytes read).2)

  -- it is an altruist exactly where the record tells a house, and a member where it tells a member
  module _ (u : ℕ) (there : u < p.size) where
    places : (u < houses (pool_records bytes)) ↔ T (tells_house (get_or (pool_records bytes) u []))
    places = house_places (accepted (pool_of (pool_records bytes))) [] (pool_records bytes) (read_tests bytes read).2 u (omega (arith, read_records bytes read))

    pub read_altruists : T (is_altruist (graph_of p) u) ↔ T (tells_house (get_or (pool_records bytes) u []))
    read_altruists = (
      λ t. places.0 (omega (arith, altruists_are, ltb→lt u p.altruists t)),
      λ h. lt→ltb u p.altruists (omega (arith, altruists_are, places.1 h)),
    )

    pub read_members : T (is_member (graph_of p) u) ↔ T (tells_member (get_or (pool_records bytes) u []))
    read_members = (
      λ t. ⊎_elim (λ h. absurd (omega (arith, altruists_are, places.1 h, leb→le p.altruists u (and_left (leb p.altruists u) (ltb u p.size) t)))) (λ m. m)
          (read_passed bytes read u there).kind,
      λ m. and_both (leb p.altruists u) (ltb u p.size)
          (le→leb p.altruists u (omega (arith, altruists_are, member_above [] (pool_records bytes) (accepted (pool_of (pool_records bytes))) (read_tests bytes read).2 u m)))
          (lt→ltb u p.size there),
    )
