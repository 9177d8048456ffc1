use Rattle.std.proofs.Common.{◌≡◌, ℕ, ◌<◌, [], ◌∷◌, ◌++◌, List, cond, int_le, length, take, get_or, map, replicate, sym, ap, ◌∙◌}
use Rattle.std.proofs.Common.{subst, arith, to_z, of_z}
use Rattle.std.specs.Int.{w128}
use Rattle.std.specs.declared.vec.Vec.{Vec}
use Rattle.std.specs.declared.alloc.Global.{Global}
use Rattle.std.proofs.lemmas.Int.{to_z-of_z}
use Rattle.std.proofs.lemmas.List.{take_all, take_more, drop_all, length-map, length-replicate, length-set, map-append}
use Rattle.hu_certify.specs.declared.place.Place.{Place}
use Rattle.hu_certify.specs.declared.slots.Slot.{Slot}
use Rattle.hu_certify.specs.Slots.{list_at, lists_of, no_slot, opened, slot_of, slot_over}
use Rattle.hu_certify.specs.Spots.{SpotOf, child_at, narrowed, rank_pair, spots_of, standing}
use Rattle.hu_certify.proofs.ListLemmas.{at-set, opened-absent}
use Rattle.hu_certify.proofs.SlotLemmas.{IsLeft, all-same, left-at, left-next, replicate-at, slot-set, slot_over-absent, stands-at}
use Rattle.hu_certify.proofs.TreeLemmas.{standing-below}
use Rattle.hu_certify.proofs.table.below_of.Goals as goal

pub loop-rank-init : goal.loop-rank-init
loop-rank-init c =
    let spots = spots_of c.args.places.now in
    let least = to_z w128 (of_z w128 c.args.least) in
    let n = length c.args.table.now.slots.items in
    let same : c.deref-rank-items.result.now ≡ standing spots = c.deref-rank-items.ensures.value ∙ c.in_ok-ranks.ensures.ranks in
    let filled : (z : ℕ) → slot_of c.deref.result.now z ≡ slot_over spots z =
    λ z. ap (λ slots. slot_of slots z) c.deref.ensures.value ∙ c.in_ok-ranks.ensures.slots z in
    let none : (z : ℕ) → list_at c.args.table.now.lists.items z ≡ [] = λ z. ap (λ ls. get_or ls z []) c.requires.rest.lists ∙ replicate-at [] n z in
    let handed : (z : ℕ) → list_at c.hand_out.new.lists.items z ≡ opened least spots z =
    λ z. c.in_ok-hand_out.ensures.lists z ∙ (λ j. none z j ++ cond (int_le least (filled z j).bound) (narrowed z spots) []) in
    record {
      children = ap (map rank_pair) c.in_ok-children.ensures.items;
      places = ap lists_of c.in_ok-opened.ensures.items;
      many_slots = c.in_ok-ranks.ensures.length;
      many_lists = length-map c.hand_out.new.lists.items (λ (list : Vec Place Global). spots_of list.items)
          ∙ c.in_ok-hand_out.ensures.length
          ∙ sym (length-map c.args.table.now.lists.items (λ (list : Vec Place Global). spots_of list.items))
          ∙ ap length c.requires.rest.lists ∙ length-replicate n [];
      slots = subst (λ ranks. IsLeft no_slot (slot_over spots) ranks (slot_of c.fill.new.slots.items)) (sym same)
          (record { left = λ z m. c.in_ok-ranks.ensures.slots z; done = λ z out. c.in_ok-ranks.ensures.slots z ∙ slot_over-absent spots z out });
      lists = subst (λ ranks. IsLeft [] (opened least spots) ranks (list_at c.hand_out.new.lists.items)) (sym same)
          (record { left = λ z m. handed z; done = λ z out. handed z ∙ opened-absent least spots z out });
    }

pub take_child-requires : goal.take_child-requires
take_child-requires c =
    let spots = spots_of c.args.places.now in
    let same : c.deref-rank-items.result.now ≡ standing spots = c.deref-rank-items.ensures.value ∙ c.in_ok-ranks.ensures.ranks in
    let below = standing-below (length c.args.table.now.slots.items) spots _ c.requires.ranks
    (stands-at spots c.deref-rank-items.result.now same c.loop-rank.rank-index c.loop-rank-test.true) in
    omega (arith, below, c.loop-rank.invariant.many_slots)

pub take-requires : goal.take-requires
take-requires c =
    let spots = spots_of c.args.places.now in
    let lists = c.loop-rank.table.lists.items in
    let same : c.deref-rank-items.result.now ≡ standing spots = c.deref-rank-items.ensures.value ∙ c.in_ok-ranks.ensures.ranks in
    let below = standing-below (length c.args.table.now.slots.items) spots _ c.requires.ranks
    (stands-at spots c.deref-rank-items.result.now same c.loop-rank.rank-index c.loop-rank-test.true) in
    omega (arith, below, c.loop-rank.invariant.many_lists, length-map lists (λ (list : Vec Place Global). spots_of list.items))

pub loop-rank-preserved : goal.loop-rank-preserved
loop-rank-preserved c =
    let spots = spots_of c.args.places.now in
    let least = to_z w128 (of_z w128 c.args.least) in
    let ranks = c.deref-rank-items.result.now in
    let i = c.loop-rank.rank-index in
    let within = c.loop-rank-test.true in
    let slots = c.loop-rank.table.slots.items in
    let lists = lists_of c.loop-rank.table.lists.items in
    let same : ranks ≡ standing spots = c.deref-rank-items.ensures.value ∙ c.in_ok-ranks.ensures.ranks in
    let rank = get_or ranks i 0 in
    let below = standing-below (length c.args.table.now.slots.items) spots rank c.requires.ranks (stands-at spots ranks same i within) in
    let in_slots : rank < length slots = omega (arith, below, c.loop-rank.invariant.many_slots) in
    let in_lists : rank < length lists = omega (arith, below, c.loop-rank.invariant.many_lists) in
    let slot = left-at spots ranks same i within no_slot (slot_over spots) (slot_of slots) c.loop-rank.invariant.slots in
    let list = left-at spots ranks same i within [] (opened least spots) (list_at c.loop-rank.table.lists.items) c.loop-rank.invariant.lists in
    let child : rank_pair c.take_child.result ≡ child_at spots rank = c.take_child.ensures.child ∙ ap (λ (s : Slot). (rank, s.bound)) slot in
    let places : spots_of c.take.result.items ≡ opened least spots rank = c.take.ensures.value ∙ list in
    let front = take_more ranks i 0 within in
    record {
      children = ap (map rank_pair) c.in_ok-push.ensures.items ∙ map-append rank_pair c.loop-rank.children.items (c.take_child.result ∷ [])
          ∙ (λ j. c.loop-rank.invariant.children j ++ child j ∷ [])
          ∙ sym (ap (map (child_at spots)) front ∙ map-append (child_at spots) (take i ranks) (rank ∷ []));
      places = ap lists_of c.in_ok-push-2.ensures.items
          ∙ map-append (λ (list : Vec Place Global). spots_of list.items) c.loop-rank.opened.items (c.take.result ∷ [])
          ∙ (λ j. c.loop-rank.invariant.places j ++ places j ∷ [])
          ∙ sym (ap (map (opened least spots)) front ∙ map-append (opened least spots) (take i ranks) (rank ∷ []));
      many_slots = ap length c.take_child.ensures.slots ∙ length-set slots rank no_slot ∙ c.loop-rank.invariant.many_slots;
      many_lists = ap length c.take.ensures.left ∙ length-set lists rank [] ∙ c.loop-rank.invariant.many_lists;
      slots = left-next spots ranks same i within no_slot (slot_over spots) (slot_of slots) (slot_of c.take_child.new.slots.items)
          (λ z. ap (λ (s : List Slot). slot_of s z) c.take_child.ensures.slots ∙ slot-set slots rank no_slot in_slots z) c.loop-rank.invariant.slots;
      lists = left-next spots ranks same i within [] (opened least spots) (list_at c.loop-rank.table.lists.items) (list_at c.take.new.lists.items)
          (λ z. ap (λ (ls : List (List SpotOf)). get_or ls z []) c.take.ensures.left ∙ at-set lists rank [] in_lists z) c.loop-rank.invariant.lists;
    }

pub returns-clause-places : goal.returns-clause-places
returns-clause-places c =
    let spots = spots_of c.args.places.now in
    let ranks = c.deref-rank-items.result.now in
    let same : ranks ≡ standing spots = c.deref-rank-items.ensures.value ∙ c.in_ok-ranks.ensures.ranks in
    let whole = take_all c.loop-rank.rank-index ranks c.loop-rank-test.false ∙ same in
    c.loop-rank.invariant.places ∙ (λ j. map (opened (to_z-of_z w128 c.args.least c.ranges.least j) spots) (whole j))

pub returns-clause-rest : goal.returns-clause-rest
returns-clause-rest c =
    let ranks = c.deref-rank-items.result.now in
    let none = drop_all c.loop-rank.rank-index ranks c.loop-rank-test.false in
    let slots = subst (λ rs. IsLeft no_slot (slot_over (spots_of c.args.places.now)) rs (slot_of c.loop-rank.table.slots.items)) none c.loop-rank.invariant.slots in
    let lists = subst (λ rs. IsLeft [] (opened (to_z w128 (of_z w128 c.args.least)) (spots_of c.args.places.now)) rs
    (list_at c.loop-rank.table.lists.items)) none c.loop-rank.invariant.lists in
    record {
      slots = all-same no_slot c.loop-rank.table.slots.items (λ z. slots.done z (λ m. m)) ∙ ap (λ n. replicate n no_slot) c.loop-rank.invariant.many_slots;
      lists = all-same [] (lists_of c.loop-rank.table.lists.items) (λ z. lists.done z (λ m. m))
          ∙ ap (λ n. replicate n []) c.loop-rank.invariant.many_lists;
    }
