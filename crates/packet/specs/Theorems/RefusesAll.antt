-- Shut out by name (01, 'What the promises have to say'): a reader that refuses all. It breaks on every packet that is written.
use Rattle.std.specs.Prelude.{◌≡◌, ℕ, List, replicate, ◌≢◌, refl, Ok}
use Rattle.std.proofs.Common.{◌∙◌, ap}
use Rattle.packet.specs.declared.layout.Fields.{Fields}
use Rattle.packet.specs.Reading.{read_answer, reading_number, Reading}
use Rattle.packet.specs.Theorems.ReadBack.{written_back}
use Rattle.packet.specs.Words.{IDLE, assigned}
use Rattle.packet.specs.Writing.{fitting, write_answer, write_bytes}

some_packet : Fields
some_packet = record { epoch = 0; word = record { 0 = IDLE }; gid = 0; mst = 255; rs_ack = 0; sq = 255; reserved = 0 }

is_written : write_answer some_packet (replicate 16 0) ≡ Ok tt
unfolding some_packet write_answer fitting assigned
is_written = refl

pub refuses_all : (read : List ℕ → Reading) → ((h4 : List ℕ) → read h4 ≡ read_answer h4) → ((h4 : List ℕ) → reading_number (read h4) ≢ 0) → ⊥
refuses_all read meets refuses =
    let sent : List ℕ = write_bytes some_packet (replicate 16 0) in
    refuses sent (ap reading_number (meets sent ∙ written_back some_packet (replicate 16 0) is_written))
