pub mod ReadActions
