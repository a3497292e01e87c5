-- A frame that stands in the store: put there, kept as others are put, and nearer as the window passes an epoch.
use Rattle.std.specs.Prelude.{◌≡◌, List, ℕ, ◌+◌, ◌*◌, ◌%◌, ◌≤◌, ◌<◌, length, get_or}
use Rattle.std.proofs.Common.{sym, ap, ◌∙◌, ⊎_elim, arith}
use Rattle.packet.specs.Kinds.{frames}
use Rattle.packet.specs.Symbols.{row_from}
use Rattle.packet.specs.Theorems.Symbols.{row_ext}
use Rattle.rows.specs.declared.group.Group.{Group}
use Rattle.store.specs.Frames.{Stands, byte_at, h4_at, packet_in, place_in, stored_at}
use Rattle.store.specs.Laws.Places.{place_apart, place_moved, place_same, place_within}
use Rattle.store.specs.Laws.Stored.{stored_after, stored_before, stored_h4, stored_payload}

pub stands_h4 : (g : Group) (i d : ℕ) (payload : List ℕ) (h : ℕ) (s : List ℕ) → Stands g i d payload h s → h4_at g i d s ≡ h
unfolding h4_at byte_at
stands_h4 g i d payload h s f = f.last

-- a frame that is put stands
pub stands_put : (g : Group) (n i d : ℕ) (payload : List ℕ) (h : ℕ) (s : List ℕ) → 0 < g.window → i < n → length s ≡ n * g.window * (g.payload + 1)
    → length payload ≡ g.payload → Stands g i d payload h (stored_at s (place_in g i d) payload h)
stands_put g n i d payload h s w b l p =
    let room : place_in g i d + length payload < length s = rw (l, p) (place_within g n i d w b) in
    record {
      bytes = λ k m. stored_payload s (place_in g i d) payload h room k (rw p m);
      last = ap (λ (m : ℕ). get_or (stored_at s (place_in g i d) payload h) (place_in g i d + m) 0) (sym p) ∙ stored_h4 s (place_in g i d) payload h room;
    }

-- each byte of a frame reads as before, where a frame is put elsewhere
pub stored_elsewhere : (g : Group) (i j d e : ℕ) (payload : List ℕ) (h : ℕ) (s : List ℕ) → d < g.window → e < g.window → (i ≡ j → d ≡ e → ⊥)
    → length payload ≡ g.payload → (k : ℕ) → k ≤ g.payload
    → get_or (stored_at s (place_in g j e) payload h) (place_in g i d + k) 0 ≡ get_or s (place_in g i d + k) 0
stored_elsewhere g i j d e payload h s hd he differ p k m =
    ⊎_elim (λ (q : place_in g i d + g.payload < place_in g j e). stored_before s (place_in g j e) payload h (place_in g i d + k) (omega arith))
    (λ (q : place_in g j e + g.payload < place_in g i d). stored_after s (place_in g j e) payload h (place_in g i d + k) (omega arith))
    (place_apart g i j d e hd he differ)

-- a frame put elsewhere leaves it
pub stands_kept : (g : Group) (i j d e : ℕ) (payload other : List ℕ) (h o : ℕ) (s : List ℕ) → d < g.window → e < g.window → (i ≡ j → d ≡ e → ⊥)
    → length other ≡ g.payload → Stands g i d payload h s → Stands g i d payload h (stored_at s (place_in g j e) other o)
stands_kept g i j d e payload other h o s hd he differ p f =
    let same = stored_elsewhere g i j d e other o s hd he differ p in
    record { bytes = λ k m. same k (omega arith) ∙ f.bytes k m; last = same g.payload (omega arith) ∙ f.last }

-- P, W and the origin as they were
pub stands_same : (g g' : Group) (i d : ℕ) (payload : List ℕ) (h : ℕ) (s : List ℕ) → g'.payload ≡ g.payload → g'.window ≡ g.window → g'.origin ≡ g.origin
    → Stands g i d payload h s → Stands g' i d payload h s
stands_same g g' i d payload h s p w o f =
    let e : place_in g' i d ≡ place_in g i d = place_same g g' i d p w o in
    record { bytes = λ k m. rw e (f.bytes k (rw p at m)); last = rw (e, p) f.last }

-- the window's first frame L frames later
pub stands_moved : (g g' : Group) (L i d : ℕ) (payload : List ℕ) (h : ℕ) (s : List ℕ) → g'.payload ≡ g.payload → g'.window ≡ g.window
    → g'.origin ≡ (g.origin + L) % g.window → Stands g i (d + L) payload h s → Stands g' i d payload h s
stands_moved g g' L i d payload h s p w o f =
    let e : place_in g' i d ≡ place_in g i (d + L) = place_moved g g' L i d p w o in
    record { bytes = λ k m. rw e (f.bytes k (rw p at m)); last = rw (e, p) f.last }

-- the packet of an epoch whose frames all stand
pub packet_stands : (g : Group) (i : ℕ) (payload : ℕ → List ℕ) (h : ℕ → ℕ) (s : List ℕ) → ((k : ℕ) → k < frames g.kind → Stands g i k (payload k) (h k) s)
    → packet_in g i s ≡ row_from g.kind h
unfolding packet_in
packet_stands g i payload h s f = row_ext g.kind (λ k. h4_at g i k s) h (λ k b. stands_h4 g i k (payload k) (h k) s (f k b))
