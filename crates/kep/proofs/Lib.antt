-- lists, and the tests on them
pub mod Tests
pub mod Told
pub mod Each
pub mod ListLaws
pub mod Permutations
pub mod Tables
pub mod FromFn
pub mod OverRange
pub mod Cut
pub mod WholeRecords
pub mod Rest
-- sets as numbers
pub mod SetLaws
pub mod Parts
pub mod Down
pub mod Vertices
pub mod SetOf
pub mod Worth
pub mod Operations
pub mod SetLoops
pub mod LowestBit
pub mod Twos
pub mod Sifting
-- exchanges and the exchange table
pub mod Walks
pub mod Rotations
pub mod ExchangeFacts
pub mod Arrangements
pub mod Ordered
pub mod Listing
pub mod EntryMeaning
pub mod Paths
pub mod Ends
pub mod Fits
pub mod Masking
-- the best table
pub mod Greatest
pub mod BestTable
pub mod Trying
pub mod ByFours
pub mod BestFilling
pub mod Covered
-- plans and the answer
pub mod PlanLists
pub mod Bytes
pub mod InOrder
pub mod Legal
pub mod Choice
pub mod Answer
pub mod OneForm
pub mod Retelling
pub mod FormStarts
-- members first, then weeks
pub mod Digits
pub mod Weeks
-- the first plan, chosen exchange by exchange
pub mod Canonical
pub mod Greedy
pub mod Completion
pub mod BestPlan
pub mod FewExchanges
