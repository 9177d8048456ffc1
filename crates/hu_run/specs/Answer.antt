-- The text of an answer.
use Rattle.std.specs.Prelude.{ℕ, List, flat_map}
use Rattle.hu_report.specs.Text.{answer_text}
use Rattle.hu_average.specs.Text.{average_text}
use Rattle.hu_drill.specs.Summary.{summary_line}
use Rattle.hu_run.specs.declared.answer.Line.{Line}
use Rattle.hu_run.specs.declared.answer.Answer.{Answer}
use Rattle.hu_run.specs.declared.answer.Answer.TheVariants.{Entries, Averages, Text, Lines}

-- the text of a line
abbrev pub line_text : Line → List ℕ
line_text line = summary_line line.name.now line.summary

-- the text of an answer
abbrev pub text_of : Answer → List ℕ
text_of (Entries task entries) = answer_text task entries.items
text_of (Averages entries) = average_text entries.items
text_of (Text text) = text.items
text_of (Lines lines) = flat_map line_text lines.items
