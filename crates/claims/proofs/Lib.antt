-- demand 1: every call takes every input
pub mod Refusals
pub mod Pools
-- demand 2: the tables and the checker
pub mod Tables
pub mod Checker
-- demand 3: clearing
pub mod Clearing
-- the program
pub mod Program
-- the definitions that all of them speak of, for any graph and any limits
pub mod Problem
-- the rows of document 01
pub mod Rows
-- the proofs that join the crates: nobody has to read them
pub mod TableLaws
pub mod CheckerLaws
pub mod ClearingLaws
pub mod PrintedLaws
