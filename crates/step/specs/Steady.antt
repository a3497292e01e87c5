-- The frame of H4 that comes most often: steady, with the tag that was to come, of a joined port in step; and in mid-epoch, which is in the window and not the last of its epoch.
-- Of the port's records it changes the next tag and one nibble alone.
use Rattle.std.specs.declared.option.Option.TheVariants.{Some}
use Rattle.std.specs.Prelude.{Bool, true, false, not, ◌&&◌, ℕ, ◌==◌}
use Rattle.ground.specs.Plain.{◌<?◌}
use Rattle.packet.specs.Counts.{h4_counts}
use Rattle.packet.specs.Kinds.{ends_epoch, tag_after}
use Rattle.rows.specs.declared.group.Group.{Group}
use Rattle.rows.specs.declared.step.Step.{Step}
use Rattle.rows.specs.Step.{with_next}
use Rattle.step.specs.Arrival.{distance_in, flag_of, in_step}
use Rattle.step.specs.declared.arrival.Taken.{Taken}

unfoldable pub steady : (g : Group) (s : Step) (flag : Bool) (h4 : ℕ) → Bool
steady g s flag h =
    not flag
    && s.heard == 1
    && s.failed == 0
    && s.breaks == 0
    && in_step g s
    && h4_counts s.next h
    && flag_of g.begun
    && flag_of s.joined

-- of a frame d after the window's first
unfoldable pub mid_epoch : Group → ℕ → Bool
mid_epoch g d = d <? g.window && not (ends_epoch g.kind d)

unfoldable pub steady_taken : Group → Step → Taken
steady_taken g s =
    record {
      step = with_next s (tag_after g.kind s.next);
      answer = 0;
      counted = true;
      kept = Some (distance_in g s.next);
      joins = false;
      settles = false;
    }
