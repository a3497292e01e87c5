-- When the added slot is active, computed on the loop by epochs against starts worked out apart: of the starts j from a + 2 + r on the first with (e + j) mod 32 = q / 8, where e is the number of the back epoch that runs at the add and q the slot's number, and then b + 1.
use Rattle.std.specs.Prelude.{◌≡◌, refl, true, false, List, [], ◌∷◌, ◌++◌, ℕ, zero, suc, ◌+◌, if◌then◌else◌, ◌==◌}
use Rattle.ground.specs.Plain.{◌≤?◌}
use Rattle.sender.specs.declared.table.Table.{Table}
use Rattle.sender.specs.Calls.{Call}
use Rattle.sender.specs.Calls.Call.{AddSlot, Lapse, RemoveSlot, Report}
use Rattle.sender.specs.Shown.{after}
use Rattle.reply.specs.Members.{port_at}
use Rattle.sure_add.specs.Samples.Loop.{At, Setting, active_at, starts}
use Rattle.sure_add.specs.Samples.Opened.{active_at_start}

-- adds of slots from the first on, so many
abbrev pub adds : ℕ → ℕ → List Call
adds from zero = []
adds from (suc n) = AddSlot from ∷ adds (suc from) n

-- a table of so many slots of which some, from the first on, are active
abbrev pub with_active : (slots from n : ℕ) → Table
with_active slots from n = after slots (adds from n ++ (Report 0 0x00 0 ∷ Lapse ∷ []))

-- a slot added between start 0 and start 1, and nothing else amiss
abbrev pub plain : (slots n a b e slot : ℕ) → Setting
plain slots n a b e slot =
    record {
      before = with_active slots 0 n;
      calls = λ k. if k == 0 then AddSlot slot ∷ [] else [];
      out = a;
      back = b;
      ahead = 0;
      late = 0;
      starts_first = false;
      number = e;
      hold = [];
      restore = [];
      readable = λ k p. true;
    }

-- port 1 was OK, is dark at the reports by starts 0 and 1 and so FAIL, and is heard again with the report by start 2, with which its claim first stands: its slot is removed, lapsed and added again between two starts, so that it is never heard to be IDLE
abbrev pub failed : (r e : ℕ) → Setting
failed r e =
    record {
      before = with_active 2 0 2;
      calls = λ k. if k == 0 then RemoveSlot 1 ∷ Lapse ∷ AddSlot 1 ∷ [] else [];
      out = 0;
      back = 0;
      ahead = 0;
      late = 0;
      starts_first = false;
      number = e;
      hold = [];
      restore = 0 ∷ r ∷ [];
      readable = λ k p. if p == 1 then 2 ≤? k else true;
    }

record Row : Type 0 where
  setting : Setting
  slot : ℕ
  start : ℕ

rows : List Row
rows =
    record { setting = plain 1 0 0 0 31 0; slot = 0; start = 34 }
    ∷ record { setting = plain 1 0 0 0 30 0; slot = 0; start = 3 }
    ∷ record { setting = plain 2 1 2 3 29 1; slot = 1; start = 39 }
    ∷ record { setting = plain 9 8 0 0 31 8; slot = 8; start = 3 }
    ∷ record { setting = plain 9 8 0 0 0 8; slot = 8; start = 34 }
    ∷ record { setting = plain 1 0 7 31 24 0; slot = 0; start = 72 }
    ∷ record { setting = failed 5 26; slot = 1; start = 39 }
    ∷ []

-- the rows that come out otherwise, by the start that is computed
failing : List Row → List ℕ
failing [] = []
failing (r ∷ rest) = let at = active_at r.setting r.slot (r.start + 1) in if at == r.start then failing rest else at ∷ failing rest

all_come : failing rows ≡ []
unfolding active_at_start failing rows
all_come = refl

-- port 1's state, number and counter at starts 8 to 0 of the last row: FAIL by having been dark, restoring for five reports, OK
abbrev second : At → List ℕ
second x = let p = port_at x.ports 1 in p.state ∷ p.state_number ∷ p.elapsed ∷ []

abbrev seconds : List At → List (List ℕ)
seconds [] = []
seconds (x ∷ rest) = second x ∷ seconds rest

dark_then : seconds (starts (failed 5 26) 8)
    ≡ (2 ∷ 1 ∷ 0 ∷ []) ∷ (2 ∷ 1 ∷ 0 ∷ []) ∷ (1 ∷ 1 ∷ 5 ∷ []) ∷ (1 ∷ 1 ∷ 4 ∷ []) ∷ (1 ∷ 1 ∷ 3 ∷ []) ∷ (1 ∷ 1 ∷ 2 ∷ []) ∷ (1 ∷ 1 ∷ 1 ∷ []) ∷ (1 ∷ 1 ∷ 0 ∷ []) ∷ (1 ∷ 1 ∷ 0 ∷ []) ∷ []
unfolding active_at_start
dark_then = refl
