pub mod lemmas
mod Bodies
