pub mod Line
pub mod inner

-- Sessions of runner lines.
