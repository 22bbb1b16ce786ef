-- The theorems about the two public functions: Unique, Numbers, Demands, ReadBack and WorkedResults of the scheduler, QuestionLaws of the
-- rule question, Joined and Slacks of both. Charged holds the scheduler's contract against the one with the hold rule as it was. Calls and
-- Asking say of any network and any refusals before 7 what Numbers, Demands and QuestionLaws say of a file. The others serve the proofs of
-- the functions' parts.
pub mod Limits
pub mod Replies
pub mod Unique
pub mod Calls
pub mod Asking
pub mod QuestionLaws
pub mod Numbers
pub mod Demands
pub mod WorkedResults
pub mod Joined
pub mod Slacks
pub mod Charged
pub mod ReadBack
pub mod Results
