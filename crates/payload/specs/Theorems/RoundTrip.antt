-- Joining undoes spreading and spreading undoes joining, for every X and P and wherever the members lie.
use Rattle.std.specs.Prelude.{◌≡◌, List, ℕ, ◌+◌, ◌*◌, ◌/◌, ◌%◌, ◌<◌, length, get_or}
use Rattle.std.proofs.Common.{ap, ◌∙◌, mul_comm, arith, lt-ltb}
use Rattle.std.proofs.Math.Arith.{digits_lt, digits_div, digits_mod}
use Rattle.ground.specs.Drawn.{fill_at, fill_at_ext, get_or_fill_at}
use Rattle.ground.specs.Table.{tabulate, length_tabulate, get_or_tabulate, tabulate_ext, tabulate_self}
use Rattle.payload.specs.Answers.{Sizes}
use Rattle.payload.specs.Laws.Fits.{FromFits, spread_done, joined_done, joined_from_done}
use Rattle.payload.specs.Joining.{ranked_byte, joined, started_byte, joined_from}
use Rattle.payload.specs.Laws.Ranks.{ranked}
use Rattle.payload.specs.Order.{group_byte, group_frame, member_byte, member_frame}
use Rattle.payload.specs.Spreading.{all_members, spread_all}

-- the two sides of 01's sentence say the same of each byte
pub same_byte : (X P : ℕ) (g : List ℕ) (p : ℕ) → p < X * P → group_byte X (member_byte X g) p ≡ get_or g p 0
same_byte X P g p h = let k = ranked X P p h in rw (lt-ltb (p % X) X k.rank, k.whole)

pub member_byte_lem : (X P : ℕ) (m : ℕ → ℕ → ℕ) (r j : ℕ) → r < X → j < P → member_byte X (group_frame X P m) r j ≡ m r j
member_byte_lem X P m r j hr hj =
    let b : j * X + r < X * P = rw (mul_comm X P) (digits_lt hj hr) in
    rw (lt-ltb r X hr) (get_or_tabulate (X * P) (group_byte X m) (j * X + r) 0 b ∙ rw (digits_div j hr, digits_mod j hr))

-- members that hold the spread bytes of a frame, wherever they lie, are joined to that frame
pub join_spreads : (X P : ℕ) (g : List ℕ) (m : ℕ → ℕ → ℕ) → length g ≡ X * P → ((r j : ℕ) → r < X → j < P → m r j ≡ member_byte X g r j)
    → group_frame X P m ≡ g
join_spreads X P g m l h =
    tabulate_ext (X * P) (group_byte X m) (λ p. get_or g p 0)
    (λ p b. let k = ranked X P p b in h (p % X) (p / X) k.rank k.byte ∙ same_byte X P g p b)
    ∙ rw (← l) (tabulate_self g 0)

-- each spread of a join is the member, wherever it lies
pub spread_join : (X P : ℕ) (m : ℕ → ℕ → ℕ) (r : ℕ) → r < X → member_frame X P (group_frame X P m) r ≡ tabulate P (m r)
spread_join X P m r h = tabulate_ext P (member_byte X (group_frame X P m) r) (m r) (λ j b. member_byte_lem X P m r j h b)

-- the same on what the entry points leave
module _ (X P : ℕ) (s : Sizes X P) where
  pub join_of_spread : (frame members after : List ℕ) → length frame ≡ X * P → length members ≡ X * P → length after ≡ X * P
      → joined X P (spread_all X P frame members) after ≡ frame
  join_of_spread frame members after lf lm la =
      ap (λ (l : List ℕ). joined X P l after) (spread_done X P frame members s lf lm)
      ∙ joined_done X P (all_members X P frame) after s (length_tabulate (X * P) place) la
      ∙ join_spreads X P frame (ranked_byte P (all_members X P frame)) lf lies
    where
      place : ℕ → ℕ
      place k = member_byte X frame (k / P) (k % P)

      lies : (r j : ℕ) → r < X → j < P → ranked_byte P (all_members X P frame) r j ≡ member_byte X frame r j
      lies r j hr hj = get_or_tabulate (X * P) place (r * P + j) 0 (digits_lt hr hj) ∙ rw (digits_div r hj, digits_mod r hj)

  pub spread_of_join : (members frame after : List ℕ) → length members ≡ X * P → length frame ≡ X * P → length after ≡ X * P
      → spread_all X P (joined X P members frame) after ≡ members
  spread_of_join members frame after lm lf la =
      ap (λ (l : List ℕ). spread_all X P l after) (joined_done X P members frame s lm lf)
      ∙ spread_done X P (group_frame X P m) after s (length_tabulate (X * P) (group_byte X m)) la
      ∙ tabulate_ext (X * P) (λ k. member_byte X (group_frame X P m) (k / P) (k % P)) (λ k. get_or members k 0) lies
      ∙ rw (← lm) (tabulate_self members 0)
    where
      m : ℕ → ℕ → ℕ
      m = ranked_byte P members

      lies : (k : ℕ) → k < X * P → member_byte X (group_frame X P m) (k / P) (k % P) ≡ get_or members k 0
      lies k b =
          let q = ranked P X k (rw (mul_comm X P) at b) in
          member_byte_lem X P m (k / P) (k % P) q.byte q.rank ∙ ap (λ (i : ℕ). get_or members i 0) q.whole

  -- members that hold the spread bytes of a frame lie anywhere in a store: the frame comes to its place, and the rest of the output stays
  pub join_from_spreads : (starts store : List ℕ) (place : ℕ) (out frame : List ℕ) → FromFits X P starts (length store) place (length out)
      → ((r j : ℕ) → r < X → j < P → started_byte starts store r j ≡ member_byte X frame r j)
      → joined_from X P starts store place out ≡ fill_at place (X * P) (λ p. get_or frame p 0) out
  join_from_spreads starts store place out frame f h =
      joined_from_done X P starts store place out f
      ∙ fill_at_ext place (X * P) (group_byte X (started_byte starts store)) (λ p. get_or frame p 0) out
      (λ p b. let k = ranked X P p b in h (p % X) (p / X) k.rank k.byte ∙ same_byte X P frame p b)

  -- and the member ranked r, spread from what stands there, is the one that lies at its start
  pub spread_of_join_from : (starts store : List ℕ) (place : ℕ) (out frame : List ℕ) → FromFits X P starts (length store) place (length out)
      → ((p : ℕ) → p < X * P → get_or frame p 0 ≡ get_or (joined_from X P starts store place out) (place + p) 0)
      → (r : ℕ) → r < X → member_frame X P frame r ≡ tabulate P (started_byte starts store r)
  spread_of_join_from starts store place out frame f h r hr =
      tabulate_ext P (member_byte X frame r) (started_byte starts store r) lies
    where
      lies : (j : ℕ) → j < P → member_byte X frame r j ≡ started_byte starts store r j
      lies j hj =
          let b : j * X + r < X * P = rw (mul_comm X P) (digits_lt hj hr) in
          rw (lt-ltb r X hr)
          (h (j * X + r) b ∙ rw (joined_from_done X P starts store place out f)
          (get_or_fill_at place (X * P) (group_byte X (started_byte starts store)) out (j * X + r) 0 b (omega (arith, f.frame_in))
          ∙ rw (digits_div j hr, digits_mod j hr)))
