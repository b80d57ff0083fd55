pub mod Cuts
pub mod Feeds
pub mod Held
pub mod Digits
pub mod ReaderSteps
pub mod PrintedWords
pub mod PrintedNumbers
pub mod PrintedLines
mod Examples
