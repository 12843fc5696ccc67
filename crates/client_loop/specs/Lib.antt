pub mod Clients
pub mod Conversation
pub mod Entering
pub mod Events
pub mod Hearing
pub mod Looking
pub mod Service
pub mod Slots
pub mod Streams
pub mod inner

-- A service of many clients over one store, in one thread.
