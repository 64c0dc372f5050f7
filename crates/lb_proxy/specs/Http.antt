-- HTTP/1.1 as a proxy passes it on: heads, how a body is framed, and where it ends.
pub mod Body
pub mod Chunked
pub mod Fields
pub mod Framing
pub mod Heads
pub mod Refusals
pub mod Write
