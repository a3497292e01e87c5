-- Changes in runs: slots next to each other, whose old and new words are alike and whose numbers rise by one with each slot or are alike, are told at once.
use Rattle.std.specs.Prelude.{Bool, ◌&&◌, ◌||◌, List, [], ◌∷◌, ◌++◌, ℕ, suc, ◌+◌, ◌-◌, if◌then◌else◌, ◌==◌}
use Rattle.ground.specs.Table.{tabulate}
use Rattle.sender.specs.declared.board.Row.{Row}
use Rattle.spoken.specs.declared.lists.Change.{Change}
use Rattle.spoken.specs.declared.runs.Run.{Run}

-- What a run says of the slot that is i behind its first: 'numbers all rise by one (or are alike)', which its first and its last say.
abbrev pub number_in : (first : ℕ) (last : ℕ) (i : ℕ) → ℕ
number_in first last i = if first == last then first else first + i

abbrev pub row_in : (first : Row) (last : Row) (i : ℕ) → Row
row_in first last i = record { word = first.word; number = number_in first.number last.number i }

abbrev pub in_run : (run : Run) (i : ℕ) → Change
in_run run i =
    record {
      slot = run.first.slot + i;
      old = row_in run.first.old run.last.old i;
      new = row_in run.first.new run.last.new i;
    }

-- a run spread out again: a change for each of its slots
unfoldable pub spread_run : (run : Run) → List Change
spread_run run = tabulate (suc (run.last.slot - run.first.slot)) (in_run run)

abbrev pub spread : (runs : List Run) → List Change
spread [] = []
spread (run ∷ runs) = spread_run run ++ spread runs

-- The numbers of a run from one slot to another, and the next slot's: all are alike, or each is as far from the first as its slot.
abbrev pub numbers_continue : (first : ℕ) (last : ℕ) (next : ℕ) (from : ℕ) (to : ℕ) → Bool
numbers_continue first last next from to = (last == first && next == first) || (last + from == first + to && next == last + 1)

abbrev pub row_continues : (first : Row) (last : Row) (next : Row) (from : ℕ) (to : ℕ) → Bool
row_continues first last next from to = next.word.0 == first.word.0 && numbers_continue first.number last.number next.number from to

-- whether a change is the next of a run
unfoldable pub continues : (run : Run) (next : Change) → Bool
continues run next =
    next.slot == run.last.slot + 1
    && row_continues run.first.old run.last.old next.old run.first.slot run.last.slot
    && row_continues run.first.new run.last.new next.new run.first.slot run.last.slot

abbrev pub single : (change : Change) → Run
single change = record { first = change; last = change }

abbrev pub longer : (run : Run) (next : Change) → Run
longer run next = record { first = run.first; last = next }

-- The runs of a list, the first one as far as it goes, and so on: of a run that has begun and what is still to come.
abbrev pub runs_from : (run : Run) (rest : List Change) → List Run
runs_from run [] = run ∷ []
runs_from run (next ∷ rest) = if continues run next then runs_from (longer run next) rest else run ∷ runs_from (single next) rest

abbrev pub runs_of : (list : List Change) → List Run
runs_of [] = []
runs_of (change ∷ rest) = runs_from (single change) rest
