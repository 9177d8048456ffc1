use Rattle.std.proofs.Common.{◌≡◌, ◌≤◌, ◌+◌, ◌++◌, ◌∷◌, [], ℕ, List, None, map, length}
use Rattle.hu_base.specs.Base.{records_of}
use Rattle.hu_collect.specs.Limited.{all_state}
use Rattle.hu_collect.specs.State.{fresh, offered}
use Rattle.hu_proof.specs.Check.{root, walk}
use Rattle.hu_proof.specs.Opened.{prefix_entry, prefixes_in}
use Rattle.hu_proof.specs.Text.{pieces}
use Rattle.hu_proof.specs.Waiting.{nodes_now, stack_of, Stands}
use Rattle.hu_proof.specs.Words.{numbers_of}
use Rattle.hu_proof.proofs.walk.walk.Given as goal

abbrev pub invariant-lines : goal.invariant-lines
invariant-lines l = record {
  line : l.number + length l.rest ≤ 3 + length l.text;
  stands : Stands (records_of l.base) l.order (numbers_of l.progress.path.items) (stack_of l.progress.waiting.items) l.current;
  walks : walk (records_of l.base) l.least l.number (nodes_now l.order (numbers_of l.progress.path.items) (stack_of l.progress.waiting.items) l.current) (pieces l.rest) ≡
      walk (records_of l.base) l.least 3 (root l.order ∷ []) (pieces l.text);
  found : (done : List (List ℕ)) × (all_state l.progress.found ≡ offered (fresh l.least None) (map (prefix_entry (records_of l.base)) done)) ×
      (done ++ prefixes_in (pieces l.rest) ≡ prefixes_in (pieces l.text));
}

abbrev pub decreases-lines : goal.decreases-lines
decreases-lines l = length l.rest
