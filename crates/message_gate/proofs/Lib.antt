pub mod ByMember
