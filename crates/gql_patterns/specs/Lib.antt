pub mod PatternWords
pub mod EdgeGrammar
pub mod QuantifierGrammar
pub mod PrefixGrammar
pub mod PathGrammar
pub mod PatternGrammar
pub mod Machinery
