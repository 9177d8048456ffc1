-- Parts of a line on the error stream, and what stands there after a line was told.
use Rattle.std.specs.Prelude.{ℕ, ◌⊎◌, List}
use Rattle.std.specs.Fmt.{signed_decimal}
use Rattle.hu_io.specs.State.{SinkState, Appended, Broke}
use Rattle.hu_input.specs.declared.part.Part.{Part}
use Rattle.hu_input.specs.declared.part.Part.TheVariants.{Text, Number}

-- the text of a part
abbrev pub part_text : Part → List ℕ
part_text (Text text) = text.now
part_text (Number n) = signed_decimal n

-- the line was appended, or a proper front of it and the count rose
abbrev pub Tells : SinkState → SinkState → List ℕ → Type 0
Tells old new line = Appended old new line ⊎ Broke old new line
