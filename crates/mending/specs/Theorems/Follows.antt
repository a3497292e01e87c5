-- The automaton that the code has is the request's following, and the counts that come out are those of the following.
use Rattle.std.specs.Prelude.{◌≡◌, List, [], ℕ, drop}
use Rattle.mending.specs.Follow.{beginning, following}
use Rattle.mending.specs.Following.{Counts, followed, followed_if, has_count}
use Rattle.mending.specs.Laws.Automaton.{following_is}
use Rattle.mending.specs.Laws.Lines.{counts_out, fits_followed, followed_left}
use Rattle.mending.specs.Laws.Opened.{mended_lines_lem, counted_in, ports_in, size_in}
use Rattle.mending.specs.Lines.{counts_of, lines_with}
use Rattle.mending.specs.Mending.{Opened, mended_of}

-- of every list of counts, which are below 16
pub follows_same : (counts : List ℕ) → Counts counts → following beginning [] counts ≡ followed counts
follows_same counts h = following_is counts h

-- Of every port the counts of the mended recording are its counts followed, so that what is to be restored is; where lines have no count they are as they were.
pub counts_followed : (t : List ℕ) (o : Opened t) (port : ℕ)
    → counts_of o.settings.ports o.settings.size port (drop 1 (lines_with (mended_of t))) ≡ followed_if (has_count o.settings.kind) (counts_of o.settings.ports o.settings.size port o.rest)
counts_followed t o port = rw (mended_lines_lem t o) (counts_out (ports_in t o) (size_in t o) o.rest (followed_left (ports_in t o) (size_in t o) (counted_in t o) o.rest) (fits_followed (ports_in t o) (size_in t o) (counted_in t o) o.rest) port)
