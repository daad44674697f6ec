pub mod OwnedFeature
pub mod OwnedProp
pub mod OwnedValue
pub mod Records
