pub mod Across
pub mod Cuts
pub mod Fronts
pub mod Rings
