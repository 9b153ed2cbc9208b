pub mod Inside
pub mod Fields
pub mod Naks
pub mod Spelling
pub mod Wire
pub mod Rows
pub mod Reading
pub mod Resume
pub mod Reader
pub mod Step
pub use Rattle.ddcmp_io.specs.Device
pub use Rattle.ddcmp_io.specs.Failing
pub use Rattle.ddcmp_io.specs.Written
pub use Rattle.ddcmp_num.specs.Check
pub use Rattle.ddcmp_num.specs.declared.limits.TheConstants as Limits
