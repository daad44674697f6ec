mod Entries
mod RecordFields
mod RecordWeights
mod HeaderGroups
mod HeaderLinks
mod HeaderWeights
pub mod RootTables
pub mod ColumnTypes
pub mod Known
