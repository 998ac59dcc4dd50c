-- The theorems about the definitions, for any graph and any limits, and of the best table for any worth and any marks: what the calls' promises
-- say, they say through these. Their proofs stand in the modules cited.
--
-- The problem is (Lc, Lp)-KEP of Xiao and Wang (001): `Graph` is their compatibility graph with self-loops and altruistic vertices,
-- `is_cycle` and `is_chain` are their packing units (Definition 1), `is_legal` is a vertex-disjoint set of them, `served` counts the
-- non-altruistic vertices covered, and `Best` says that no such set covers more.
use mathlib.Core.Bool.{Bool}
use mathlib.Core.List.{List, ◌++◌}
use mathlib.Core.Logic.{◌↔◌, ◌≢◌}
use mathlib.Core.Path.{◌≡◌}
use Prim.Native.Nat.{ℕ, ◌^◌, ◌≤◌, ◌<◌}
use lib.Dec.{T}
use Rattle.kep.specs.Lists.{total, flat}
use Rattle.kep.specs.Sets.{has, set_of, worth_of}
use Rattle.kep.specs.Graph.{Graph, WellFormed}
use Rattle.kep.specs.Exchange.{is_exchange}
use Rattle.kep.specs.Table.{CanEnd, Family, member_worth, weeks_worth, member_weeks, per_member, served}
use Rattle.kep.specs.computed.Table.{entry, best, best_of, everything}
use Rattle.kep.specs.Plan.{is_legal, record_form, Best, Optimum, FitRecords}
use Rattle.kep.specs.computed.Answer.{answer}
use Rattle.pool.specs.Refusals.{accepted, refused}
use Rattle.plans.specs.Check.{check, LegalForm}
use Rattle.kep.proofs.EntryMeaning.{entry_ends, entry_some, entry_empty, entry_altruist}
use Rattle.kep.proofs.BestTable.{best_attained, best_bound, best_unique}
use Rattle.kep.proofs.Answer.{member_worthy}
use Rattle.kep.proofs.BestPlan.{weeks_most}
use Rattle.kep.proofs.Weeks.{only_best, weeks_optimum}
use Rattle.kep.proofs.OneForm.{retold_legal, one_form, one_total}
use Rattle.kep.specs.Retold.{Retold}
use Rattle.kep.proofs.Retelling.{same_order_retold}
use Rattle.kep.proofs.FormStarts.{no_start}
use Rattle.plans.proofs.PlanChecked.{accepted_legal, legal_accepted, form_determines, refused_none, none_refused}

module _ (g : Graph) (lc lp : ℕ) where
  -- ---- the exchange table

  -- A vertex is in the entry of s exactly where a list of vertices is an exchange, uses exactly s, begins at its lowest vertex and ends
  -- there.
  pub entry_holds_ends : (s v : ℕ) → T (has (entry g lc lp s) v) ↔ CanEnd g lc lp s v
  entry_holds_ends s v = entry_ends g lc lp s v

  -- An entry is not 0 exactly where some exchange, a cycle begun anywhere, uses exactly s.
  pub entry_marks_exchanges : (s : ℕ) → (entry g lc lp s ≢ 0) ↔ ((xs : List ℕ) × T (is_exchange g lc lp xs) × (set_of xs ≡ s))
  entry_marks_exchanges s = entry_some g lc lp s

  -- The empty set and a lone altruist have 0.
  pub entry_of_none : entry g lc lp 0 ≡ 0
  entry_of_none = entry_empty g lc lp

  pub entry_of_altruist : (a : ℕ) → a < g.altruists → entry g lc lp (2 ^ a) ≡ 0
  entry_of_altruist a h = entry_altruist g lc lp a h

  -- ---- the answer

  -- Where the weeks in any set are less than a member counts, as in every pool value that is accepted (`few_weeks`, pool, proofs/ValueLaws):
  module _ (weeks : ℕ → ℕ) (few : (s : ℕ) → worth_of (weeks_worth g weeks) g.size s < per_member) where
    -- Of the definition that clearing answers with: it is a legal plan, none serves more, none that serves as many has more weeks, none that also has as
    -- many has a record form that comes first, and it serves nobody exactly where there is no cycle and no chain.
    pub answer_is_optimum : let p = answer (member_weeks g weeks) g lc lp in Optimum g weeks lc lp (record_form g p) (served g (flat p))
    answer_is_optimum = weeks_optimum g weeks few lc lp

    -- It serves as many as the best table of members alone holds for all vertices: weeks choose between plans, and cost nobody the machine.
    pub answer_serves_most : served g (flat (answer (member_weeks g weeks) g lc lp)) ≡ best_of (member_worth g) g lc lp (everything g)
    answer_serves_most = weeks_most g lc lp answer_is_optimum.best

  -- What is best of the plans allowed is one, records and count.
  pub best_is_one : {Allowed : List (List ℕ) → Type 0} {weeks : ℕ → ℕ} {r r' : List ℕ} {c c' : ℕ}
      → Best Allowed g weeks r c → Best Allowed g weeks r' c' → (r ≡ r') × (c ≡ c')
  best_is_one b b' = only_best b b'

  -- ---- the record form

  -- Told in another order, or with cycles begun elsewhere, a legal plan is legal, has the same records and is worth the same.
  pub told_otherwise : (w : ℕ → ℕ) {p q : List (List ℕ)} → Retold g lc lp p q → T (is_legal g lc lp p)
      → T (is_legal g lc lp q) × (record_form g p ≡ record_form g q) × (total w (flat p) ≡ total w (flat q))
  told_otherwise w r h = (retold_legal g lc lp r h, one_form g lc lp r h, one_total g lc lp w r h)

  -- For exchanges that fit into records, as those of every pool that was read do (`exchanges_fit_records`, proofs/Pools):
  module _ (fit : FitRecords g lc lp) (p q : List (List ℕ)) (legal : T (is_legal g lc lp p)) (legal' : T (is_legal g lc lp q)) where
    -- a plan has just one record form, and a record form just one plan: the same form is the same plan, told otherwise;
    pub form_is_plan : (record_form g p ≡ record_form g q) ↔ Retold g lc lp p q
    form_is_plan = (λ e. same_order_retold g lc lp p q legal legal' (form_determines g lc lp fit p q legal legal' e), λ r. one_form g lc lp r legal)

    -- and no two plans that serve as many are one the start of the other.
    pub none_starts_another : served g (flat p) ≡ served g (flat q) → (rest : List ℕ) → record_form g p ++ rest ≡ record_form g q → record_form g p ≡ record_form g q
    none_starts_another = no_start g lc lp fit (member_worth g) (member_worthy g lc lp) p q legal legal'

  -- ---- the checker: it accepts exactly the record forms of legal plans, with the members served, and refuses exactly what is none
  module _ (wf : WellFormed g) (fit : FitRecords g lc lp) (bytes : List ℕ) where
    pub accepted_means : (k : ℕ) → (check g lc lp bytes ≡ accepted k) ↔ LegalForm g lc lp bytes k
    accepted_means k = (accepted_legal g lc lp wf bytes k, legal_accepted g lc lp fit bytes k)

    pub refused_means : ((cause : ℕ) × (at : ℕ) × (check g lc lp bytes ≡ refused cause at)) ↔ ((k : ℕ) → LegalForm g lc lp bytes k → ⊥)
    refused_means = (λ r. refused_none g lc lp fit bytes r.2, none_refused g lc lp wf bytes)

-- ---- the best table, for any worth v of sets and any marks m

module _ (v : ℕ → ℕ) (m : ℕ → Bool) where
  -- Some family of pairwise disjoint nonempty marked parts of s is worth the entry of s, and none is worth more.
  pub best_is_attained : (s : ℕ) → (ts : List ℕ) × Family m s ts × (total v ts ≡ best v m s)
  best_is_attained s = best_attained v m s

  pub best_is_bound : {s : ℕ} {ts : List ℕ} → Family m s ts → total v ts ≤ best v m s
  best_is_bound f = best_bound v m f

  -- And that tells it: it is the worth of any family that none exceeds.
  pub best_is_told : {s : ℕ} {ts : List ℕ} → Family m s ts → ((us : List ℕ) → Family m s us → total v us ≤ total v ts) → total v ts ≡ best v m s
  best_is_told f most_of_all = best_unique v m f most_of_all
