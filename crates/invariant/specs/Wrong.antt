-- Wrong readings of 01, each as a definition with a computed run on which it breaks what 01 or the minutes' third demand says.
pub mod Sample
mod Place
mod Later
mod Beginning
mod Order
mod PortsSeen
mod Step
mod Times
mod Live
mod Words
