pub mod AllowedReads
pub mod EditsBack
pub mod IntentBits
pub mod LinesBack
pub mod MessagesBack
pub mod ReadsBack
pub mod ThreadsBack
pub mod VoicesBack
