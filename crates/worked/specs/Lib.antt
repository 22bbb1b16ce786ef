-- Tables of single cases, as data: what comes of networks, what slacks are told, and what must be refused, of the paper's first sections and
-- then of the requests.
pub mod Cases
pub mod Rejected
pub mod RejectedQuestions
pub mod Slacks
pub mod RejectedSlacks
pub mod RequestCases
pub mod RequestRejected
