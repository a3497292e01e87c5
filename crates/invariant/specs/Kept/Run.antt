-- What holds of a port's run of frames after any calls: step's own record of it.
pub use Rattle.step.specs.RunKept.{FirstTold, RunKept}
