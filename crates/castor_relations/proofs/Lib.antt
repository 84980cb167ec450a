pub mod RelationAnswers
