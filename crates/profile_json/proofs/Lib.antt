pub mod Lists
pub mod PartsLemmas
pub mod RulesSteps
pub mod reading
pub mod clashing
pub mod unbroken
