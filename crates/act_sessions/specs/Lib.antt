pub mod Ends
pub mod Exchange
pub mod Joined
pub mod Rules
pub mod Session
pub mod Taking
pub mod inner

-- What a session submits, and how bytes encode requests.
