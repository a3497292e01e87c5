-- Slip 2: 'Using a new packet's numbers for its own epoch.'
use Rattle.std.specs.Prelude.{◌≡◌, refl, List, [], ◌∷◌, ◌++◌, ℕ, ◌/◌, ◌%◌, get_or, replicate, if◌then◌else◌, ◌==◌}
use Rattle.invariant.specs.Wrong.Sample.{sample_group, sample_step}
use Rattle.ground.specs.Table.{tabulate}
use Rattle.judge.specs.declared.seen.Seen.{Seen}
use Rattle.judge.specs.Order.{order_of}
use Rattle.judge.specs.Verdict.{SURE}
use Rattle.packet.specs.Layout.{h4_of, nibbles_of}
use Rattle.packet.specs.Words.{EOS, NORM}
use Rattle.step.specs.OwnCount.{own_ruling}
use Rattle.receiver.specs.Fetch.{fetch_of, report_if_due}
use Rattle.receiver.specs.Report.{frames_into}
use Rattle.rows.specs.declared.group.Group.{Group}
use Rattle.rows.specs.Group.{put_group}
use Rattle.rows.specs.Packets.{marks_at, put_marks, put_packets}
use Rattle.rows.specs.Step.{put_step}
use Rattle.store.specs.Frames.{packet_in}
use Rattle.store.specs.Marks.{first_mark}
use Rattle.receiver.specs.Opened.{receiver_open}

-- the nibbles of a packet
packet : ℕ → ℕ → ℕ → List ℕ
packet epoch word number = nibbles_of (record { epoch = epoch; word = record { 0 = word }; gid = 0; mst = 255; rs_ack = 0; sq = number; reserved = 0 })

-- The packets of epoch 0 rule: port 0 is NORM 0, port 1 is EOS 1. With the packets of epoch 1 they change places. All came as sent.
group : Group
group = sample_group 2 16 1 1 1

port : ℕ → List ℕ → List (List ℕ) → List (List ℕ)
port i ruling s = put_marks (put_packets (put_step s i (sample_step 32 24 1 0 0 1)) i (replicate 16 0 ∷ ruling ∷ [])) i (1 ∷ replicate 15 0)

rows : List (List ℕ)
rows = put_group (port 1 (packet 0 EOS 1) (port 0 (packet 0 NORM 0) (replicate 11 (replicate 16 0)))) group

-- the frames of epoch 1: port 0 brings the byte 10, port 1 the byte 11
sent : ℕ → List ℕ → List ℕ
sent byte ns = tabulate 32 (λ k. if k % 2 == 0 then byte else get_or (h4_of ns) (k / 2) 0)

store : List ℕ
store = sent 10 (packet 1 EOS 1) ++ sent 11 (packet 1 NORM 0)

-- a port as the packet of the epoch itself shows it
wrong_seen : Group → List (List ℕ) → List ℕ → ℕ → Seen
wrong_seen g s d i =
    let r = own_ruling g.kind g.oldest (packet_in g i d) in
    record { whole = first_mark (marks_at s i); good = r.good; word = r.word; number = r.number; gid = r.gid; here = first_mark (marks_at s i) }

wrong_out : List ℕ
wrong_out = frames_into group (order_of (wrong_seen group rows store 0 ∷ wrong_seen group rows store 1 ∷ []) 2) store 16 (replicate 32 0)

-- sixteen group frames of two bytes
sixteen : ℕ → ℕ → List ℕ
sixteen a b = tabulate 32 (λ k. if k % 2 == 0 then a else b)

order_breaks :
    ((fetch_of rows store (replicate 32 0) (replicate 8 0)).out ≡ sixteen 10 11)
    × ((report_if_due group 2 rows).mark ≡ SURE)
    × (wrong_out ≡ sixteen 11 10)
unfolding receiver_open packet group port rows sent store wrong_seen wrong_out sixteen
order_breaks = (refl, refl, refl)
