-- What a test on lent lengths says.
use Rattle.std.specs.Prelude.{◌≡◌, ℕ, ◌≤◌, Bool, true, ◌&&◌, nat_le}
use borrow.Author.Tests.{leb-true, le-leb}
use Rattle.ground.specs.Truth.{and_left, and_right, and-true}
use Rattle.replay_lines.specs.declared.replay.Replay.{Replay}
use Rattle.replay_lines.specs.Output.{ROOM}
use Rattle.replay_lines.specs.Replay.{output_of, store_of}
use Rattle.replay_lines.specs.Turn.{is_lent}
use Rattle.rows.specs.Rows.{rows_for}

pub record Lent (r : Replay) (rows store out said : ℕ) : Type 0 where
  pub room : ROOM ≤ said
  pub ports_most : r.ports ≤ 64
  pub size_most : r.size ≤ 2340
  pub rows_there : rows_for r.ports ≤ rows
  pub store_there : store_of r.ports r.size r.window ≤ store
  pub out_there : output_of r.kind r.ports r.size ≤ out

module _ (r : Replay) (rows store out said : ℕ) where
  abbrev a : Bool
  a = nat_le ROOM said

  abbrev b : Bool
  b = nat_le r.ports 64

  abbrev c : Bool
  c = nat_le r.size 2340

  abbrev d : Bool
  d = nat_le (rows_for r.ports) rows

  abbrev e : Bool
  e = nat_le (store_of r.ports r.size r.window) store

  abbrev f : Bool
  f = nat_le (output_of r.kind r.ports r.size) out

  pub lent_says : is_lent r rows store out said ≡ true → Lent r rows store out said
  unfolding is_lent
  lent_says t =
      let t5 : (a && b && c && d && e) ≡ true = and_left (a && b && c && d && e) f t in
      let t4 : (a && b && c && d) ≡ true = and_left (a && b && c && d) e t5 in
      let t3 : (a && b && c) ≡ true = and_left (a && b && c) d t4 in
      let t2 : (a && b) ≡ true = and_left (a && b) c t3 in
      record {
        room = leb-true ROOM said (and_left a b t2);
        ports_most = leb-true r.ports 64 (and_right a b t2);
        size_most = leb-true r.size 2340 (and_right (a && b) c t3);
        rows_there = leb-true (rows_for r.ports) rows (and_right (a && b && c) d t4);
        store_there = leb-true (store_of r.ports r.size r.window) store (and_right (a && b && c && d) e t5);
        out_there = leb-true (output_of r.kind r.ports r.size) out (and_right (a && b && c && d && e) f t);
      }

  pub lent_is : Lent r rows store out said → is_lent r rows store out said ≡ true
  unfolding is_lent
  lent_is l =
      and-true (a && b && c && d && e) f (and-true (a && b && c && d) e (and-true (a && b && c) d (and-true (a && b) c (and-true a b (le-leb ROOM said l.room) (le-leb r.ports 64 l.ports_most)) (le-leb r.size 2340 l.size_most)) (le-leb (rows_for r.ports) rows l.rows_there)) (le-leb (store_of r.ports r.size r.window) store l.store_there)) (le-leb (output_of r.kind r.ports r.size) out l.out_there)
