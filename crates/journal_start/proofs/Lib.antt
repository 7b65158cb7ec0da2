pub mod Beginning
