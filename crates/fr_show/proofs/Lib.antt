pub mod Verdicts
pub mod Writing
pub mod Courses
pub mod Judged
pub mod Numbers
pub mod Numbered
pub mod Keeping
