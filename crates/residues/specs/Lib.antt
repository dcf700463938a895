pub mod Residues
pub mod ResidueLaws
