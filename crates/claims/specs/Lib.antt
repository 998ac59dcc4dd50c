-- What is promised of the calls, as records: the statements of the theorems in proofs/. Nothing rests on them.
pub mod Tables
pub mod Plans
pub mod Printed
