-- What comes together of an epoch, judged: a pure function of the frames' contents (01, 'Report of an epoch').
use Rattle.std.specs.Prelude.{true, cond, List, [], ◌++◌, ℕ, zero, suc, ◌+◌, ◌*◌, eqb, drop, get_or, length, replicate}
use Rattle.ground.specs.Counting.Each.{each}
use Rattle.judge.specs.declared.seen.Seen.{Seen}
use Rattle.judge.specs.Order.{active_in, port_of}
use Rattle.judge.specs.Verdict.{HELD, judge_of}
use Rattle.packet.specs.Kinds.{epoch_of, tag_of}
use Rattle.packet.specs.Symbols.{row_from}
use Rattle.payload.specs.Order.{group_frame}
use Rattle.step.specs.OwnCount.{own_ruling}
use Rattle.receiver.specs.Report.{no_seen}
use Rattle.link.specs.Road.{L, Road}
use Rattle.link.specs.Told.{Told}

module _ (r : Road) where
  -- the number of the epoch that starts at position i L
  unfoldable pub number_of : ℕ → ℕ
  number_of i = epoch_of r.kind (tag_of r.kind (r.offset + i * L r))

  -- the packet that came to port p in epoch i
  unfoldable pub packet_of : ℕ → ℕ → List ℕ
  packet_of i p = row_from r.kind (λ k. r.h4 p (i * L r + k))

  -- what is seen of port p in the epoch after epoch i, which the packets of epoch i rule
  unfoldable pub seen_after : ℕ → ℕ → Seen
  seen_after i p =
      let q = own_ruling r.kind (number_of i) (packet_of i p) in
      record { whole = true; good = q.good; word = q.word; number = q.number; gid = q.gid; here = true }

  unfoldable pub all_seen_after : ℕ → List Seen
  all_seen_after i = each r.ports (seen_after i) (replicate 64 no_seen)

  -- the group frame at position x under an order
  unfoldable pub frame_at : List Seen → ℕ → List ℕ
  frame_at seen x =
      group_frame (active_in seen r.ports) r.payload (λ rank j. get_or (r.bytes (port_of seen r.ports rank) x) j 0)

  -- k group frames from position x on
  unfoldable pub frames_from : List Seen → ℕ → ℕ → List ℕ
  frames_from seen x zero = []
  frames_from seen x (suc k) = frames_from seen x k ++ frame_at seen (x + k)

  -- the report of epoch i + 1, into an output
  unfoldable pub report_after : ℕ → List ℕ → Told
  report_after i out =
      let seen = all_seen_after i in
      let mark = judge_of r.kind seen r.ports in
      let bytes = cond (eqb mark HELD) [] (frames_from seen (suc i * L r) (L r)) in
      record { epoch = number_of (suc i); mark = mark; bytes = bytes; rest = drop (length bytes) out }
