pub mod AnswerFacts
