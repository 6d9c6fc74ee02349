mod Again
mod Drafts
pub mod Fewer
mod Indexes
mod Lines
mod Numbers
mod Placed
mod PlainText
mod Ranges
mod ReadBack
mod RecordTexts
mod Recorded
mod Records
mod Right
mod Sections
mod SeenLines
mod Windows
