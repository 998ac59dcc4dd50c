pub mod ChoosingCode
pub mod ClearingCode
pub mod FilledTables
pub mod RecordCode
pub mod Seek
pub mod StepCode
