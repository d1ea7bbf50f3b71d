mod AnswerLaws
mod RuleLaws
pub mod Lists
pub mod Same
pub mod Laws
mod Causes
mod MadeLaws
