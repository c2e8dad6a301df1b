pub mod PlainSessions
