pub mod Args
pub mod Inside
