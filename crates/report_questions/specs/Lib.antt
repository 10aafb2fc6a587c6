pub mod QuestionText
