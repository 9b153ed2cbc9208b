pub mod WrittenLaws
pub mod Inputs
pub mod TextLaws
pub mod VectorLaws
