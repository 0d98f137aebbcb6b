pub mod Woven
pub mod WovenLaws
pub mod Texts
pub mod TextsLaws
pub mod Chosen
pub mod Shown
pub mod Column
pub mod ColumnLaws
