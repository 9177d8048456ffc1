use Rattle.std.proofs.Common.{take}
use Rattle.std.specs.List.{list_any}
use Rattle.hu_kind.specs.Record.{has}
use Rattle.hu_proof.specs.Judged.{IsLowest}
use Rattle.hu_proof.specs.Places.{places_of}
use Rattle.hu_proof.proofs.children.missing.Given as goal

abbrev pub invariant-loop-place : goal.invariant-loop-place
invariant-loop-place l = IsLowest l.order l.named l.from (λ item. list_any (λ place. has item place.0) (places_of (take l.place-index l.places))) l.low
