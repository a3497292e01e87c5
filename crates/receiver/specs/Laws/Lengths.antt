-- Neither a start nor a report changes how many rows there are, and no group frame how long the output is.
use Rattle.std.specs.Prelude.{◌≡◌, refl, List, ℕ, zero, suc, ◌*◌, length}
use Rattle.std.proofs.Common.{◌∙◌}
use Rattle.ground.specs.Drawn.{fill_at, length_fill_at}
use Rattle.judge.specs.declared.order.Order.{Order}
use Rattle.payload.specs.declared.answer.Answer.{Answer}
use Rattle.payload.specs.declared.answer.Answer.TheVariants.{Done, Range, Length}
use Rattle.payload.specs.Answers.{under_done}
use Rattle.payload.specs.Joining.{from_answer, started_byte}
use Rattle.payload.specs.Order.{group_byte}
use Rattle.receiver.specs.Report.{frame_into, frames_into, starts_of, state_put, states_put}
use Rattle.receiver.specs.Starting.{fresh_port, fresh_ports}
use Rattle.reply.specs.declared.waiting.Standing.{Standing}
use Rattle.rows.specs.declared.group.Group.{Group}
use Rattle.rows.specs.Laws.Port.{length_put}
use Rattle.rows.specs.Part.{TheMarks, TheMember, ThePackets, TheStep}

pub length_fresh_port : (kind : ℕ) (hold restore : List ℕ) (i : ℕ) (s : List (List ℕ)) → length (fresh_port kind hold restore i s) ≡ length s
unfolding fresh_port
length_fresh_port kind hold restore i s = length_put _ i (TheMarks _) ∙ length_put _ i (ThePackets _) ∙ length_put _ i (TheMember _) ∙ length_put s i (TheStep _)

pub length_fresh_ports : (kind : ℕ) (hold restore : List ℕ) (n : ℕ) (s : List (List ℕ)) → length (fresh_ports kind hold restore n s) ≡ length s
unfolding fresh_ports
length_fresh_ports kind hold restore zero s = refl
length_fresh_ports kind hold restore (suc n) s =
    length_fresh_port kind hold restore n (fresh_ports kind hold restore n s) ∙ length_fresh_ports kind hold restore n s

pub length_told_port : (states : List Standing) (i : ℕ) (s : List (List ℕ)) → length (state_put states i s) ≡ length s
unfolding state_put
length_told_port states i s = length_put s i (TheMember _)

pub length_told_ports : (states : List Standing) (n : ℕ) (s : List (List ℕ)) → length (states_put states n s) ≡ length s
unfolding states_put
length_told_ports states zero s = refl
length_told_ports states (suc n) s = length_told_port states n (states_put states n s) ∙ length_told_ports states n s

pub length_frame_into : (g : Group) (o : Order) (store : List ℕ) (k : ℕ) (out : List ℕ) → length (frame_into g o store k out) ≡ length out
unfolding frame_into
length_frame_into g o store k out = go (from_answer o.x g.payload (starts_of g o.ports o.x k) (length store) (k * (o.x * g.payload)) (length out))
  where
    go : (a : Answer)
        → length (under_done a (fill_at (k * (o.x * g.payload)) (o.x * g.payload) (group_byte o.x (started_byte (starts_of g o.ports o.x k) store)) out) out) ≡ length out
    go Done = length_fill_at (k * (o.x * g.payload)) (o.x * g.payload) (group_byte o.x (started_byte (starts_of g o.ports o.x k) store)) out
    go Range = refl
    go Length = refl

pub length_frames_into : (g : Group) (o : Order) (store : List ℕ) (k : ℕ) (out : List ℕ) → length (frames_into g o store k out) ≡ length out
unfolding frames_into
length_frames_into g o store zero out = refl
length_frames_into g o store (suc k) out = length_frame_into g o store k (frames_into g o store k out) ∙ length_frames_into g o store k out
