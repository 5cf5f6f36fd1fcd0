pub mod PartsValue
