-- The list that RS-Ack tells of (01): 'the list of active and DNU ports with their numbers', now and at the last report, and ports that have left it.
use Rattle.std.specs.Prelude.{◌≡◌, ◌||◌, List, ℕ, if◌then◌else◌, ◌==◌}
use Rattle.std.proofs.Math.Option.{Option, none, some}
use Rattle.ground.specs.Table.{tabulate}
use Rattle.reply.specs.Members.{port_at}
use Rattle.reply.specs.declared.members.Port.{Port}

-- 'the list of active and DNU ports with their numbers', port by port: the number of one whose word is NORM, EOS or DNU
abbrev pub entry : ℕ → ℕ → Option ℕ
entry word number = if word == 2 || word == 3 || word == 15 then some number else none

abbrev pub list_now : List Port → ℕ → List (Option ℕ)
list_now ports n = tabulate n (λ i. entry (port_at ports i).word (port_at ports i).number)

-- the one of the last report
abbrev pub list_told : List Port → ℕ → List (Option ℕ)
list_told ports n = tabulate n (λ i. entry (port_at ports i).told_word (port_at ports i).told_number)

-- a port whose word was ADD at the last report and is IDLE now
abbrev pub Left : Port → Type 0
Left p = (p.told_word ≡ 1) × (p.word ≡ 5)
