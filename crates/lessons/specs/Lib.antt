-- the small drawings of 01
pub mod Small
