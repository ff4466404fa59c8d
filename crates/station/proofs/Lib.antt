-- Lemmas of this crate's proofs.
mod Closed
mod Opened
mod Put
mod Unused
