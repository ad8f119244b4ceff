pub mod Depth
pub mod LabelGrammar
pub mod ExprWords
pub mod Grammar
pub mod Machinery
