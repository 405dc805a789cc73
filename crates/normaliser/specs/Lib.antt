pub mod IsWritten
pub mod Rows
pub mod WholeTask
