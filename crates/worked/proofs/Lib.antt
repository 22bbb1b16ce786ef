-- The tables meet the definitions: each row by a test that computes. Callers read `worked_cases` and `requested_cases`.
pub mod Tests
pub mod CaseTests
pub mod WorkedCases
pub mod CaseBytes
pub mod Refusing
pub mod RejectionTests
pub mod RejectedCases
pub mod QuestionTests
pub mod RejectedQuestionCases
pub mod SlackCases
pub mod RejectedSlackCases
pub mod RequestedCases
