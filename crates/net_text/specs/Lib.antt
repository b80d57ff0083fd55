pub mod TypeWords
pub mod RoutineWords
pub mod Forms
pub mod Names
pub mod Text
pub mod Printing
