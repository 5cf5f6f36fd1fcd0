pub mod Signs
pub mod OptimumRecords
