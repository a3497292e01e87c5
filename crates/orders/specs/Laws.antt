-- Laws on the definitions, for the theorems, the walk and the C face.
pub mod Folding
