pub mod NestedAnswers
