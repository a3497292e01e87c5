-- All that the loop by epochs is made of, opened for the checker to compute.
use Rattle.std.specs.Prelude.{ℕ}
use Rattle.reply.specs.Opened.{reply_open}
use Rattle.sender.specs.Opened.{sender_open}
use Rattle.sure_add.specs.Samples.Loop.{Setting, active_at, starts}

-- the first start at which a slot is active; 0 where it is none up to `most`
unfoldable pub active_at_start : (s : Setting) (slot most : ℕ) → ℕ
unfolding sender_open reply_open starts
active_at_start s slot most = active_at s slot most
