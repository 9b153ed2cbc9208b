pub mod Inside
pub mod Numbers
pub mod Store
pub mod Sender
pub mod Inbox
pub use Rattle.ddcmp_num.specs.Sequence
