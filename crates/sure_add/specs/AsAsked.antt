-- The request's first sentences (02, 2026-13), with all that they let be so asked at the add and, of the ports, at the reports from that of the first ADD on.
use Rattle.std.specs.Prelude.{◌≡◌, ◌⊎◌, ◌≢◌, true, false, ℕ, ◌+◌, ◌≤◌, ◌<◌}
use Rattle.reply.specs.Members.{ok_state, port_at}
use Rattle.rows.specs.Member.{member_at}
use Rattle.rows.specs.Packets.{marks_at}
use Rattle.sender.specs.Answers.Answer.{Done}
use Rattle.sender.specs.Commands.{add_of}
use Rattle.sender.specs.Numbering.{number_in, slots_in, state_in}
use Rattle.sender.specs.Table.{is_add}
use Rattle.store.specs.Marks.{first_mark}
use Rattle.sure_add.specs.Rounds.{Rounds, before, heard, ports, seen, table_of}

module _ (r : Rounds) (a slot port most : ℕ) where
  -- at every report a port is readable, and a whole good packet of it has come
  pub record HeardAlways (p : ℕ) : Type 0 where
    pub readable : (k : ℕ) → a + 2 ≤ k → k ≤ most → (port_at (seen r k) p).readable ≡ true
    pub whole : (k : ℕ) → a + 2 ≤ k → k ≤ most → first_mark (marks_at (r.far k).rows p) ≡ true
    pub good : (k : ℕ) → a + 2 ≤ k → k ≤ most → (heard r k p).good ≡ true

  abbrev pub NeverReadable : ℕ → Type 0
  NeverReadable p = (k : ℕ) → a + 2 ≤ k → k ≤ most → (port_at (seen r k) p).readable ≡ false

  pub record AsAsked : Type 0 where
    -- 'Let the new member's port be readable'
    pub below : port < ports r (a + 2)
    pub readable : (k : ℕ) → a + 2 ≤ k → k ≤ most → (port_at (seen r k) port).readable ≡ true
    -- 'and its number not held by another OK port': before the report of the first ADD
    pub not_held : (p : ℕ) → p < ports r (a + 2) → p ≢ port → (member_at (r.far (a + 2)).rows p).state ≡ ok_state → (member_at (r.far (a + 2)).rows p).state_number ≢ number_in (table_of r slot 0) slot
    -- 'timers zero'
    pub no_hold : (k p : ℕ) → a + 2 ≤ k → k ≤ most → p < ports r (a + 2) → (port_at (seen r k) p).hold_off ≡ 0
    pub no_restore : (k p : ℕ) → a + 2 ≤ k → k ≤ most → p < ports r (a + 2) → (port_at (seen r k) p).restore ≡ 0
    -- 'no wait open when the add is accepted'
    pub no_wait : (before r).wait ≡ false
    pub accepted : (add_of (before r) slot).answer ≡ Done
    -- 'and every other port in a settled state': no other slot is on its way from ADD, and each other port is heard for good or not at all
    pub settled : (s : ℕ) → s < slots_in (before r) → s ≢ slot → is_add (state_in (before r) s) ≡ false
    pub others : (p : ℕ) → p < ports r (a + 2) → p ≢ port → HeardAlways p ⊎ NeverReadable p
