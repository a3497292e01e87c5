-- By the loop: the card and the answers are as i commands leave them (`card_at`, `list_at` of Turned.antt).
use Rattle.std.proofs.Common.{◌≡◌, length}
use Rattle.orders.proofs.Turned.{card_at, list_at}
use Rattle.orders.proofs.lists.order.Given as goal

abbrev pub invariant-loop-i : goal.invariant-loop-i
invariant-loop-i l = record {
  as_many : length l.commands ≡ length l.answers;
  card : l.left ≡ card_at l.fn.card l.commands l.i;
  list : l.answers ≡ list_at l.fn.card l.commands l.fn.answers l.i;
}
