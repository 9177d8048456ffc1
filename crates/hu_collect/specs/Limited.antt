-- The states of the collectors of all entries and of the first k.
use Rattle.std.specs.Prelude.{ℕ, ℤ, None, Some, List}
use Rattle.hu_kind.specs.declared.entry.Entry.{Entry}
use Rattle.hu_collect.specs.declared.limited.Limited.{Limited}
use Rattle.hu_collect.specs.declared.limited.Limited.TheVariants.{All, First}
use Rattle.hu_collect.specs.Rule.{rule_of}
use Rattle.hu_collect.specs.State.{State}

-- that of all entries, seen as its start and what it holds
abbrev pub all_state : ℤ × List Entry → State
all_state all = record { rule = rule_of all.0 None; content = all.1 }

-- that of the first k, seen as k, its start and what it holds
abbrev pub top_state : ℕ × ℤ × List Entry → State
top_state top = record { rule = rule_of top.1 (Some top.0); content = top.2 }

-- that of either
abbrev pub limited_state : Limited → State
limited_state (All all) = all_state all
limited_state (First top) = top_state top
