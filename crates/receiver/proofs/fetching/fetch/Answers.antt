-- The record has its eight bytes because the lengths were found right (`record_length`).
use Rattle.std.proofs.Common.{rules, ◌∙◌, sym}
use Rattle.receiver.proofs.Sizes.{record_length}
use Rattle.receiver.proofs.fetching.fetch.Goals as goal

pub copy_from_slice-requires : goal.copy_from_slice-requires
copy_from_slice-requires c = let e = record_length _ _ _ _ _ _ (sym c.is_fetch.ensures ∙ c.if-not-is_fetch.false) in search (rules, e)
