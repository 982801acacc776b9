pub mod LayoutLaws
pub mod Table
pub mod PutLaws
pub mod Both
pub mod SearchLaws
pub mod FindLaws
pub mod LocateLaws
