pub mod EventsIn
pub mod ReadChanges
