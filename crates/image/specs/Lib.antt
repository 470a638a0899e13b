pub mod InnerRecords
