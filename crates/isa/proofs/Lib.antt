pub mod Answering
pub mod Breaks
pub mod Joins
pub mod Numbers
pub mod Records
pub mod Rounds
