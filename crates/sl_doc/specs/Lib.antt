pub mod Document
pub mod Drafts
pub mod Laws
pub mod Reading
pub mod ResultText
pub mod SeenText
pub mod VerdictText
