pub mod lemmas
mod NumeralLemmas
mod ShelfLemmas
mod TextLemmas
mod ContentLemmas
mod FindLemmas
mod KeeperLemmas
mod RecordLemmas
