pub mod Results
pub mod Reading
pub mod Saying
