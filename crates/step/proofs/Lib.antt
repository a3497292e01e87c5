pub mod SteadyTests
