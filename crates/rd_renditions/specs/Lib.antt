pub mod ReadRenditions
