pub mod BinaryGrammars
pub mod TextGrammars
pub mod BoundCopies
