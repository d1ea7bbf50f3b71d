mod LineLaws
mod EntryLaws
mod Following
mod Spanning
