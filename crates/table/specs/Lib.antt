pub mod Books
pub mod Table
