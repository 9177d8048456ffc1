-- What is true of the fields of a collector of the first k.
use Rattle.std.specs.Prelude.{◌≡◌, ℤ, pos, ◌≤ℤ◌, List}
use Rattle.hu_kind.specs.declared.entry.Entry.{Entry}
use Rattle.hu_collect.specs.Rule.{Rule, floor_of, IsKept}

-- a floor and entries as a rule asks for them
pub record IsTop (rule : Rule) (floor : ℤ) (entries : List Entry) : Type 0 where
  pub least : pos 1 ≤ℤ floor
  pub value : floor ≡ floor_of rule entries
  pub kept : IsKept rule entries
