-- Definitions that only private functions need.
pub mod RefusedSpans
