-- What 2026-05 asks of a replay, proved on the definitions.
pub mod Cuts
pub mod Ends
pub mod Lending
pub mod Lines
pub mod Printed
pub mod Used
pub mod WhateverLent
pub mod Why
