pub mod Signs
pub mod Texts
pub mod Words
pub mod Reports
pub mod Listed
pub mod Requests
