-- The rule and the content of a collector of all entries, or of the first k.
use Rattle.std.specs.Prelude.{List}
use Rattle.hu_kind.specs.declared.entry.Entry.{Entry}
use Rattle.hu_collect.specs.declared.limited.Limited.{Limited}
use Rattle.hu_collect.specs.Limited.{limited_state}
use Rattle.hu_collect.specs.Rule.{Rule}

abbrev pub rule_in : Limited → Rule
rule_in collect = (limited_state collect).rule

abbrev pub content_in : Limited → List Entry
content_in collect = (limited_state collect).content
