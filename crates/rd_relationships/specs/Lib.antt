pub mod ReadRelationships
