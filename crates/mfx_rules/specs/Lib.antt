pub mod ArithRules
pub mod ArithSoundness
pub mod ScaledRules
pub mod ScaledSoundness
pub mod ArithCorners
pub mod ScaledCorners
pub mod OperationRules
