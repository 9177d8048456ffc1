pub mod Told
pub mod Records
pub mod Texts
pub mod Laws
pub mod RecordLaws
pub mod Worked
pub mod RecordRows
