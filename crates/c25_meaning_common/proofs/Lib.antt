pub mod ItemsHold
