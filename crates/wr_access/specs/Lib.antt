pub mod ApplyAcl
