pub mod Lists
pub mod NamesBack
