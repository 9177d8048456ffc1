-- Which engines a task offers.
use Rattle.std.specs.Prelude.{Bool, true, false}
use Rattle.hu_kind.specs.declared.task.Task.{Task}
use Rattle.hu_kind.specs.declared.task.Task.TheVariants.{Items, Closed, Sequences}
use Rattle.hu_mine.specs.declared.engine.Engine.{Engine}
use Rattle.hu_mine.specs.declared.engine.Engine.TheVariants.{Plain, Lists, Chain}

-- whether a task offers an engine
abbrev pub offers : Task → Engine → Bool
offers Items Chain = false
offers Items engine = true
offers Closed Chain = false
offers Closed engine = true
offers Sequences Plain = true
offers Sequences Chain = true
offers Sequences engine = false

-- whether the further tasks offer an engine: itemsets of some lengths, and those of a high average utility
abbrev pub offers_further : Engine → Bool
offers_further Plain = true
offers_further Lists = true
offers_further engine = false
