-- What the answers of writing a packet and of spreading mean to the sender's caller: the same numbers of 01.
use Rattle.std.specs.Prelude.{Ok, Err}
use Rattle.packet.specs.Writing.{Writing}
use Rattle.packet.specs.declared.writer.Unwritten.TheVariants as W
use Rattle.payload.specs.declared.answer.Answer as P
use Rattle.sender.specs.Answers.{Answer}
use Rattle.sender.specs.Answers.{Answer as A}

abbrev pub written : Writing → Answer
written (Ok u) = A.Done
written (Err W.Length) = A.Length
written (Err W.Field) = A.Field

abbrev pub spread_told : P.Answer → Answer
spread_told P.Answer.Done = A.Done
spread_told P.Answer.Range = A.OutOfRange
spread_told P.Answer.Length = A.Length

-- before the first epoch starts: 4, 9, 2
abbrev pub spread_early : P.Answer → Answer
spread_early P.Answer.Done = A.NotAllowed
spread_early P.Answer.Range = A.OutOfRange
spread_early P.Answer.Length = A.Length
