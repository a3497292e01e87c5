-- The step rule of request 2026-04 read wrongly, each with a run on which it breaks.
use Rattle.std.specs.Prelude.{◌≡◌, refl, Bool, true, false, not, ◌&&◌, List, [], ◌∷◌, ℕ, zero, suc, ◌+◌, ◌%◌, get_or, replicate, set, if◌then◌else◌, ◌==◌}
use Rattle.packet.specs.Counts.{h4_counts, starts_count}
use Rattle.packet.specs.Kinds.{tag_after}
use Rattle.packet.specs.Layout.{h4_of, nibbles_of}
use Rattle.packet.specs.Reading.{read_nibbles, reading_number}
use Rattle.packet.specs.Symbols.{with_symbol}
use Rattle.packet.specs.Words.{NORM}
use Rattle.receiver.specs.Frame.{gathered_by}
use Rattle.step.specs.declared.run.Run.{Run}
use Rattle.step.specs.Run.{begun_run, loses, no_run, odd_after, run_on}
use Rattle.invariant.specs.Wrong.Sample.{sent_h4}
use Rattle.receiver.specs.Opened.{receiver_open}

-- a port in step, with the tag to come
at : ℕ → Run
at t = record { count = 32; next = t; breaks = 0; odd = 0; bits = 0 }

-- A frame with MFI1 0 amid the count taken as a new start at once. One hit makes MFI1 4 a 0, and the port is out.

wrong_start : Run → Bool → ℕ → Run
wrong_start run odd h = if starts_count 0 h && not (h4_counts run.next h) then begun_run 0 h else run_on 0 run odd h

start_breaks : ((wrong_start (at 4) false 0x00).count ≡ 1) × (run_on 0 (at 4) false 0x00 ≡ record { count = 32; next = 5; breaks = 1; odd = 0; bits = 0 })
unfolding receiver_open at wrong_start
start_breaks = (refl, refl)

-- Breaks counted over all time and not in a row. Every other frame of eight is hit in MFI1, so that no two in a row break the count.

wrong_breaks : Run → Bool → ℕ → Run
wrong_breaks run odd h =
    let counted = h4_counts run.next h in
    if loses counted run odd then no_run
    else (record { count = run.count; next = tag_after 0 run.next; breaks = run.breaks + (if counted then 0 else 1); odd = odd_after 0 run odd; bits = run.bits })

hit : ℕ → ℕ
hit t = if t % 2 == 0 then sent_h4 (t + 1) else sent_h4 t

-- n frames from tag 8 on by a rule
by : (Run → Bool → ℕ → Run) → ℕ → Run
by rule zero = at 8
by rule (suc n) = rule (by rule n) false (hit (8 + n))

row_breaks : ((by wrong_breaks 7).count ≡ 0) × (by (run_on 0) 8 ≡ record { count = 32; next = 16; breaks = 0; odd = 0; bits = 0 })
unfolding receiver_open at wrong_breaks hit by
row_breaks = (refl, refl)

-- Odd packets counted over a damaged one. An odd packet ends, then one with a wrong CRC, then an odd one: not two in a row.

wrong_odd : Run → Bool → ℕ → Run
wrong_odd run odd h =
    if loses (h4_counts run.next h) run odd then no_run else (record { count = run.count; next = tag_after 0 run.next; breaks = 0; odd = if odd then 1 else run.odd; bits = run.bits })

-- the last frames of three packets, each as the rule finds the row of odd packets
three : (Run → Bool → ℕ → Run) → Run
three rule = rule (record { count = 32; next = 39; breaks = 0; odd = (rule (record { count = 32; next = 23; breaks = 0; odd = (rule (at 7) true 0x07).odd; bits = 0 }) false 0x07).odd; bits = 0 }) true 0x07

odd_breaks : ((three wrong_odd).count ≡ 0) × (three (run_on 0) ≡ record { count = 32; next = 40; breaks = 0; odd = 1; bits = 0 })
unfolding receiver_open at wrong_odd three
odd_breaks = (refl, refl)

-- The packet being gathered put together by the MFI1 that frames carry. One hit makes MFI1 2, which brings the word, a 3: the word stays that of the packet before, and what is read is no longer the packet that came.

wrong_gathered : List (List ℕ) → ℕ → List (List ℕ)
wrong_gathered pair h = set pair 0 (with_symbol 0 (get_or pair 0 []) ((h % 16 + 8) % 16) h)

packet : List ℕ
packet = nibbles_of (record { epoch = 1; word = record { 0 = NORM }; gid = 0; mst = 255; rs_ack = 0; sq = 3; reserved = 0 })

-- the frame at place k of it
frame : ℕ → ℕ
frame k = get_or (h4_of packet) k 0 + (if k == 10 then 1 else 0)

-- n frames of it, after a packet of zeros
gathered : (List (List ℕ) → ℕ → ℕ → List (List ℕ)) → ℕ → List (List ℕ)
gathered rule zero = replicate 16 0 ∷ replicate 16 0 ∷ []
gathered rule (suc n) = rule (gathered rule n) (8 + n) (frame n)

row_of_lem : List (List ℕ) → List ℕ
row_of_lem pair = get_or pair 0 []

gathered_breaks :
    (row_of_lem (gathered (λ pair tag h. gathered_by 0 pair true tag h) 16) ≡ packet)
    × (reading_number (read_nibbles (row_of_lem (gathered (λ pair tag h. gathered_by 0 pair true tag h) 16))) ≡ 0)
    × (reading_number (read_nibbles (row_of_lem (gathered (λ pair tag h. wrong_gathered pair h) 16))) ≡ 5)
unfolding receiver_open wrong_gathered packet frame gathered row_of_lem
gathered_breaks = (refl, refl, refl)
