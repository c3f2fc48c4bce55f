pub mod Voices
pub mod Presences
pub mod VoicePresence
