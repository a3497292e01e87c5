-- Wrong readings of a session told to a listener, each as a definition with a run on which it breaks.
use Rattle.std.specs.Prelude.{◌≡◌, refl, true, false, List, [], ◌∷◌, take, if◌then◌else◌}
use Rattle.ground.specs.Types.{Bytes}
use Rattle.session_lines.specs.Line.{line_of}
use Rattle.sender.specs.Board.{board_of}
use Rattle.sender.specs.declared.board.Board.{Board}
use Rattle.sender.specs.declared.table.Table.{Table}
use Rattle.spoken.specs.Changes.{compared_of}
use Rattle.text.specs.Ascii.{ascii}
use Rattle.speak_lines.specs.declared.listening.Listener.{Listener}
use Rattle.speak_lines.specs.Lines.{change_lines, said_of}
use Rattle.speak_lines.specs.Listening.{after_line, beginning, is_epoch, next_place, table_after, text_of}
use Rattle.speak_lines.specs.Opened.{listener_open}
use Rattle.speak_lines.specs.Runs.{printed, whole_output}
use Rattle.speak_lines.specs.Told.{behind}

-- the request's own lines: a group of two whose second slot is told by itself
abbrev story : List Bytes
story = ascii "size\t2" ∷ ascii "add\t0" ∷ ascii "epoch" ∷ ascii "remove\t1" ∷ ascii "epoch" ∷ []

story_said : printed (beginning true) story ≡ ascii "size\t2\nslot\t0\twas\tIDLE\t255\tnow\tADD\t0\nanswer\t2\tline\t4\tremove\tslot\t1\tnot in use\n"
unfolding listener_open
story_said = refl

-- The board that she holds left as it was at `epoch`. Then all is told again at the next one.
wrong_heard : Listener → Bytes → Listener
wrong_heard l line =
    if is_epoch line then (record { table = l.table; heard = l.heard; kept = l.kept; place = next_place l.place; runs = l.runs }) else after_line l line

heard_breaks :
    (let l = behind (beginning true) (ascii "size\t1" ∷ ascii "add\t0" ∷ []) in
    (text_of (wrong_heard l (ascii "epoch")) (ascii "epoch") ≡ ascii "slot\t0\twas\tIDLE\t255\tnow\tADD\t0\n") × (text_of (after_line l (ascii "epoch")) (ascii "epoch") ≡ []))
unfolding listener_open wrong_heard
heard_breaks = (refl, refl)

-- Her board kept over a new size. Then the counts differ, and she is told nothing of the new group for ever.
wrong_anew : Table → Board → Bytes → Board
wrong_anew table heard line = if is_epoch line then board_of table else heard

anew_breaks :
    (let t = table_after (beginning true).table (ascii "size\t1") in
    ((wrong_anew (beginning true).table (beginning true).heard (ascii "size\t1")).count ≡ 0) × ((board_of t).count ≡ 1) × (change_lines true (compared_of (beginning true).heard (board_of t)).changes ≡ []))
unfolding listener_open wrong_anew
anew_breaks = (refl, refl, refl)

-- Lines counted from 0, or refused ones alone. Then the line that is named is another one.
wrong_place : Listener → Bytes → Bytes
wrong_place l line = said_of l.runs l.table (line_of line) 0

place_breaks :
    (wrong_place (beginning true) (ascii "add\t0") ≡ ascii "answer\t1\tline\t0\tadd\tslot\t0\tno such slot\n")
    × (text_of (beginning true) (ascii "add\t0") ≡ ascii "answer\t1\tline\t1\tadd\tslot\t0\tno such slot\n")
unfolding listener_open wrong_place
place_breaks = (refl, refl)

-- `epoch` by a line's first five bytes. Then `epochs` starts one, and is not named as malformed.
wrong_epoch : Bytes → Bytes
wrong_epoch line = if is_epoch (take 5 line) then [] else text_of (beginning true) line

epoch_breaks : (wrong_epoch (ascii "epochs") ≡ []) × (text_of (beginning true) (ascii "epochs") ≡ ascii "answer\t13\tline\t1\tmalformed\n")
unfolding listener_open wrong_epoch
epoch_breaks = (refl, refl)

-- A last line without its end left out: nothing is lost at the end.
last_said : whole_output false (ascii "size\t1\nboard") ≡ ascii "size\t1\nslot\t0\tIDLE\t255\nwait\t0\n"
unfolding listener_open
last_said = refl
