-- The names of files, as texts.
use Rattle.std.specs.Prelude.{ℕ, List, map}
use Rattle.std.specs.String.{string_bytes}
use Rattle.std.specs.declared.string.String.{String}
use Rattle.std.specs.declared.alloc.Global.{Global}

-- the bytes of strings
abbrev pub texts_of : List (String Global) → List (List ℕ)
texts_of words = map string_bytes words
