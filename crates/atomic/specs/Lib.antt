pub mod Atomic
