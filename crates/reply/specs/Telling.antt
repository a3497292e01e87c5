-- What is told to the far end: MST and RS-Ack (01, 'Member states and reply').
use Rattle.std.specs.Prelude.{Bool, not, ◌&&◌, ◌||◌, List, ℕ, ◌+◌, ◌*◌, if◌then◌else◌, ◌==◌}
use Rattle.std.specs.Bool.{beq}
use Rattle.ground.specs.Types.{Epoch}
use Rattle.ground.specs.Counting.Words.{some}
use Rattle.packet.specs.Kinds.{mst_first}
use Rattle.packet.specs.Words.{ADD, DNU, EOS, IDLE, NORM}
use Rattle.reply.specs.declared.members.Port.{Port}
use Rattle.reply.specs.Members.{ok_state, port_at}

-- an OK port holds q
unfoldable pub ok_holds : (ports : List Port) (count number : ℕ) → Bool
ok_holds ports n q = some n (λ i. (port_at ports i).state == ok_state && (port_at ports i).state_number == q)

-- 'MST for q is 0 exactly if an OK port holds q.'
abbrev pub fail_bit : (ports : List Port) (count number : ℕ) → ℕ
fail_bit ports n q = if ok_holds ports n q then 0 else 1

-- eight numbers, 'first bit the lowest' (01, 'The control packet')
unfoldable pub mst_from : (ports : List Port) (count number : ℕ) → ℕ
mst_from ports n q =
    fail_bit ports n q * 128
    + fail_bit ports n (q + 1) * 64
    + fail_bit ports n (q + 2) * 32
    + fail_bit ports n (q + 3) * 16
    + fail_bit ports n (q + 4) * 8
    + fail_bit ports n (q + 5) * 4
    + fail_bit ports n (q + 6) * 2
    + fail_bit ports n (q + 7)

unfoldable pub mst_of : (kind : ℕ) (ports : List Port) (count : ℕ) (epoch : Epoch) → ℕ
mst_of kind ports n e = mst_from ports n (mst_first kind e)

-- 'the list of active and DNU ports'
abbrev pub is_listed : ℕ → Bool
is_listed word = word == NORM || word == EOS || word == DNU

-- 'with their numbers changes'
abbrev pub has_changed : Port → Bool
has_changed p =
    not (beq (is_listed p.word) (is_listed p.told_word))
    || is_listed p.word && not (p.number == p.told_number)

-- 'an ADD port becomes IDLE'
abbrev pub has_left : Port → Bool
has_left p = p.told_word == ADD && p.word == IDLE

unfoldable pub turns_over : List Port → ℕ → Bool
turns_over ports n = some n (λ i. has_changed (port_at ports i) || has_left (port_at ports i))

-- 'RS-Ack, 0 at first, turns over'
unfoldable pub ack_of : (ports : List Port) (count bit : ℕ) → ℕ
ack_of ports n bit = if turns_over ports n then (if bit == 0 then 1 else 0) else bit
