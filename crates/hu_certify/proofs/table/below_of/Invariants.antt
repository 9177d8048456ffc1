use Rattle.std.proofs.Common.{◌≡◌, [], drop, length, map, take}
use Rattle.hu_certify.specs.Slots.{list_at, lists_of, no_slot, opened, slot_of, slot_over}
use Rattle.hu_certify.specs.Spots.{child_at, rank_pair, spots_of}
use Rattle.hu_certify.proofs.SlotLemmas.{IsLeft}
use Rattle.hu_certify.proofs.table.below_of.Given as goal

abbrev pub invariant-loop-rank : goal.invariant-loop-rank
invariant-loop-rank l = record {
  children : map rank_pair l.children.items ≡ map (child_at (spots_of l.places)) (take l.rank-index l.rank-items);
  places : lists_of l.opened.items ≡ map (opened l.least (spots_of l.places)) (take l.rank-index l.rank-items);
  many_slots : length l.table.slots.items ≡ length l.fn.table.slots.items;
  many_lists : length (lists_of l.table.lists.items) ≡ length l.fn.table.slots.items;
  slots : IsLeft no_slot (slot_over (spots_of l.places)) (drop l.rank-index l.rank-items) (slot_of l.table.slots.items);
  lists : IsLeft [] (opened l.least (spots_of l.places)) (drop l.rank-index l.rank-items) (list_at l.table.lists.items);
}
