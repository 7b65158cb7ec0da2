pub mod CreateRelationship
