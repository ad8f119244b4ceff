-- What mirrors the code for its proofs: codes by which trees are told apart, and measures. A reader of the promises may skip it.
pub mod CodeParts
pub mod LabelCode
pub mod LabelHeight
pub mod LabelFalls
pub mod TreeCode
pub mod Height
pub mod Falls
pub mod PatternCode
pub mod PatternHeight
pub mod PatternFalls
pub mod Escapes
