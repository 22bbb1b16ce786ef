-- The paper, which is docs/RULES.md, as definitions, one file a topic, in the paper's order.
pub mod Network
pub mod Limits
pub mod Legal
pub mod Rules
pub mod Chains
pub mod Schedule
pub mod File
pub mod Table
pub mod Refusals
pub mod Numbers
pub mod Output
pub mod Outcome
pub mod Question
