pub mod SaidLaws
pub mod SampleLaws
pub mod CallLaws
pub mod BundleLaws
pub mod WordLaws
pub mod ProductLaws
