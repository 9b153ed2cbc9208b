pub mod Inside
pub mod Connection
pub mod Serving
