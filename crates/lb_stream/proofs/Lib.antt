pub mod StreamLemmas
pub mod LinesLemmas
pub mod ReadAheadLemmas
