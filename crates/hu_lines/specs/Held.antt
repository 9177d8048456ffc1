-- The fields of a `Lines` as what it is seen as, and what they keep.
use Rattle.std.specs.Prelude.{◌<◌, vec_capacity}
use Rattle.hu_lines.specs.declared.limits.TheConstants.{LONGEST_LINE}
use Rattle.hu_lines.specs.declared.lines.Lines.TheInside.{Inside}
use Rattle.hu_lines.specs.Lines.{State, IsHeld}

-- the fields as a state
abbrev pub state_of : Inside → State
state_of a =
    record {
      bytes = a.bytes.items;
      whole = a.whole;
      number = a.number;
      before = a.before;
      ended =
          a.ended;
      refused = a.refused;
    }

-- the bytes held are those of one piece, and there is room for a longest line with its line feed
pub record IsKept (a : Inside) : Type 0 where
  pub held : IsHeld (state_of a)
  pub room : LONGEST_LINE < vec_capacity a.bytes
