pub mod Lines
pub mod Names
pub mod Numbers
pub mod Steps
pub mod Readers
pub mod Printed
