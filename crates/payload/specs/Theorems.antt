-- What 01 asks of payload order, proved on the definitions.
pub mod Laid
pub mod NoSecondAnswer
pub mod RoundTrip
