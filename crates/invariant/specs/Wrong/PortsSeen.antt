-- A fixed group (request 2026-12): X by the ports seen. The port with the highest number is dark, and the other two have exactly 0 and 1: the report would be sure, with bytes that are not the client's.
use Rattle.std.specs.Prelude.{◌≡◌, refl, not, ◌||◌, List, [], ◌∷◌, ◌++◌, ℕ, ◌/◌, ◌%◌, get_or, replicate, if◌then◌else◌, ◌==◌}
use Rattle.ground.specs.Counting.Words.{count, every, some}
use Rattle.invariant.specs.Wrong.Sample.{sample_step}
use Rattle.ground.specs.Table.{tabulate}
use Rattle.judge.specs.declared.seen.Seen.{Seen}
use Rattle.judge.specs.Order.{order_of}
use Rattle.judge.specs.Seen.{lacking_seen, numbered_seen, refused_seen, seen_at}
use Rattle.judge.specs.Verdict.{HELD, SURE, repeats, takes}
use Rattle.packet.specs.Fixed.{fixed_nibbles}
use Rattle.packet.specs.Kinds.{fixed_kind}
use Rattle.packet.specs.Layout.{h4_of}
use Rattle.phases.specs.Passing.{group_to}
use Rattle.receiver.specs.Fetch.{fetch_of, report_if_due}
use Rattle.receiver.specs.Report.{frames_into, seen_all}
use Rattle.receiver.specs.Starting.{group_with}
use Rattle.rows.specs.declared.group.Group.{Group}
use Rattle.rows.specs.Group.{put_group}
use Rattle.rows.specs.Packets.{put_marks, put_packets}
use Rattle.rows.specs.Step.{put_step}
use Rattle.receiver.specs.Opened.{receiver_open}

-- three ports with P = 1, begun; the oldest epoch is 1
group : Group
group = group_to (group_with fixed_kind 3 1 16) 1 1 1 0 0

-- port i has the number i
port : ℕ → List (List ℕ) → List (List ℕ)
port i s = put_marks (put_packets (put_step s i (sample_step 32 24 1 0 0 1)) i (replicate 16 0 ∷ fixed_nibbles 0 i ∷ [])) i (1 ∷ replicate 15 0)

-- port 2 is not in step, and has no whole packet
rows : List (List ℕ)
rows = put_group (put_step (port 1 (port 0 (replicate 16 (replicate 16 0)))) 2 (sample_step 0 0 0 0 0 0)) group

-- the frames of epoch 1: the client's bytes are 10, 11, 12 and so on again, of which port 2 would have brought 12
sent : ℕ → ℕ → List ℕ
sent byte i = tabulate 32 (λ k. if k % 2 == 0 then byte else get_or (h4_of (fixed_nibbles 1 i)) (k / 2) 0)

store : List ℕ
store = sent 10 0 ++ sent 11 1 ++ replicate 32 0

-- the verdict without its test for a missing port, and with the numbers 0 to as many as were seen
wrong_mark : List Seen → ℕ → ℕ
wrong_mark ports n =
    if some n (λ i. refused_seen (seen_at ports i))
    || some n (λ i. lacking_seen (seen_at ports i))
    || repeats ports n
    || not (every (count n (λ i. numbered_seen (seen_at ports i))) (λ q. takes ports n q))
    then HELD
    else SURE

seen : List Seen
seen = seen_all group rows 3

-- group frames of two bytes where the client's have three
wrong_out : List ℕ
wrong_out = frames_into group (order_of seen 3) store 16 (replicate 48 0)

ports_seen_breaks :
    (wrong_mark seen 3 ≡ SURE)
    × (wrong_out ≡ tabulate 32 (λ k. if k % 2 == 0 then 10 else 11) ++ replicate 16 0)
    × ((report_if_due group 3 rows).mark ≡ HELD)
    × ((fetch_of rows store (replicate 48 0) (replicate 8 0)).out ≡ replicate 48 0)
unfolding receiver_open group port rows sent store wrong_mark seen wrong_out
ports_seen_breaks = (refl, refl, refl, refl)
