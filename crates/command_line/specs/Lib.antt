pub mod Asked
pub mod Command
pub mod Forms
pub mod Grammar
