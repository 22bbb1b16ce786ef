-- Laws of the definitions. Callers read Legal for what an accepted file says, and the laws of rules, loops, tables, numbers, slacks and bytes.
pub mod Legal
pub mod ChargeLaws
pub mod RuleLaws
pub mod LoopLaws
pub mod ListedLaws
pub mod Cut
pub mod Naturals
pub mod TableLaws
pub mod NumberLaws
pub mod SlackLaws
pub mod OutputLaws
pub mod Greatest
