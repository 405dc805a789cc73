pub mod Below
pub mod Asked
pub mod Known
