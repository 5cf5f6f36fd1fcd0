pub mod SlotValue
