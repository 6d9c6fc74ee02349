pub mod Count
pub mod Shelf
pub mod MemFiles
pub mod Reading
pub mod Sink
pub mod MemBytes
pub mod OutSink
