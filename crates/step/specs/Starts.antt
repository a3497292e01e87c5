-- VC-12's step rule (request 2026-01): 'A port is in step after two whole packets in a row whose counts differ by one'. A frame has one bit of its packet, and the host says with which a packet starts.
use Rattle.std.specs.Prelude.{not, ◌&&◌, ◌||◌, ℕ, ◌+◌, ◌*◌, ◌/◌, ◌%◌, if◌then◌else◌, ◌==◌}
use Rattle.ground.specs.Plain.{◌<?◌}
use Rattle.packet.specs.Counts.{says_start}
use Rattle.step.specs.declared.run.Run.{Run}

-- no frame counted
abbrev pub no_run : Run
no_run = record { count = 0; next = 0; breaks = 0; odd = 0; bits = 0 }

-- 'a frame said to be a start is always taken as a first bit'
unfoldable pub begun_packet : ℕ → Run
begun_packet byte = if says_start byte then (record { count = 1; next = 1; breaks = 0; odd = 0; bits = byte % 2 }) else no_run

-- two packets are 64 frames
unfoldable pub count_after : ℕ → ℕ
count_after count = if count <? 64 then count + 1 else count

-- what the bits of the packet's count say so far, with that at a place
unfoldable pub bits_after : (bits place bit : ℕ) → ℕ
bits_after bits place bit = if place == 0 then bit else if place <? 5 then bits % 16 * 2 + bit else bits

unfoldable pub goes_on : Run → ℕ → Run
goes_on run bits = record { count = count_after run.count; next = (run.next % 1024 + 1) % 1024; breaks = 0; odd = 0; bits = bits }

-- a packet with this count as the first of a new two
unfoldable pub first_of_two : ℕ → Run
first_of_two bits = record { count = 5; next = bits % 32 * 32 + 5; breaks = 0; odd = 0; bits = bits }

-- 'a packet that breaks this loses step at the fifth bit of its count': the first packet's is taken, a later one is to be one more than the one before, which is what the tag says
unfoldable pub fifth_bit : Run → ℕ → Run
fifth_bit run bits = if run.count <? 5 || not (bits == run.next % 1024 / 32) then first_of_two bits else goes_on run bits

-- a frame more: 'A start said early or left out loses step at that frame'
unfoldable pub starts_run : Run → ℕ → Run
starts_run run byte =
    let place = run.next % 32 in
    let start = says_start byte in
    let due = place == 0 in
    if run.count == 0 || not ((start && due) || (not start && not due)) then begun_packet byte
    else (let bits = bits_after run.bits place (byte % 2) in
    if place == 4 then fifth_bit run bits else goes_on run bits)
