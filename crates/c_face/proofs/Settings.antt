-- A sender's settings, as five bytes.
use mathlib.Core.Path.{◌≡◌, refl, ◌∙◌}
use mathlib.Core.List.{List, [], ◌∷◌}
use Prim.Native.Nat.{ℕ}
use Rattle.ground.specs.Flags.{one_if}
use Rattle.sender.specs.declared.epochs.Sender.{Sender}
use Rattle.sender.specs.Epochs.{started_epoch}
use Rattle.sender.specs.Table.{slot_count}
use Rattle.c_face.specs.Settings.{sender_settings}

pub settings_put : (s : Sender) (n e w : ℕ) (out : List ℕ) → n ≡ slot_count s.table.count → e ≡ started_epoch s → w ≡ one_if s.table.wait
    → out ≡ s.table.kind ∷ n ∷ e ∷ w ∷ s.table.remembered ∷ [] → out ≡ sender_settings s
unfolding sender_settings
settings_put s n e w out en ee ew eo = eo ∙ rw (en, ee, ew) refl
