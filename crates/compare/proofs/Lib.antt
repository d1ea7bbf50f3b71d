pub mod MachineLaws
mod EqualLaws
mod SidesLaws
mod ToldLaws
mod LineLaws
mod FilterLineLaws
pub mod CounterexampleLineLaws
mod PastLaws
mod SpelledLaws
mod LintedLaws
pub mod BehindLaws
pub mod WriteLaws
pub mod AnyLaws
pub mod StubRunLaws
pub mod SplitLaws
pub mod SparedLaws
pub mod RightLaws
pub mod EachCallLaws
pub mod CompleteLaws
