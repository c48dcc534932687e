pub mod KeywordLemmas
pub mod TokenLemmas
