-- Worked rows: texts of stores, and texts that are none, by computation.
use Rattle.std.specs.Prelude.{
  ◌≡◌,
  pos,
  None,
  Some,
  true,
  false,
  [],
  ◌++◌,
  codes,
  refl,
  take,
  length,
  ◌-◌,
  List,
  ℕ,
}
use Rattle.std.specs.Fmt.{digits}
use Rattle.hu_kind.specs.Worked.{base_a}
use Rattle.hu_kept.specs.Kept.{Keeping, fresh, with_batch}
use Rattle.hu_shelf.specs.Store.{store_of, store_text}

-- the first three records of base A, kept at 30
abbrev three : Keeping
three = with_batch (fresh (pos 30) None false) (take 3 base_a)

abbrev three_text : List ℕ
three_text =
    codes "hupm shelf 1\n"
    ++ codes "items 30 all\n"
    ++ codes "1 2 3 4 5 6:30:5 10 1 6 3 5\n"
    ++ codes "2 3 4 5:20:8 3 6 3\n"
    ++ codes "1 3 4:8:5 1 2\n"

pub text_of_three : store_text three ≡ three_text
unfolding digits
text_of_three = refl

pub store_of_three : store_of three_text ≡ Some three
unfolding digits
store_of_three = refl

-- no record, and a limit
pub text_of_none : store_text (fresh (pos 1) (Some 20) true) ≡ codes "hupm shelf 1\nclosed 1 20\n"
unfolding digits
text_of_none = refl

pub store_of_none : store_of (codes "hupm shelf 1\nclosed 1 20\n") ≡ Some (fresh (pos 1) (Some 20) true)
unfolding digits
store_of_none = refl

-- without its last line feed it is no store
pub line_feed_missing : store_of (take (length three_text - 1) three_text) ≡ None
unfolding digits
line_feed_missing = refl

-- so it is with another word, a zero in front, a limit out of range, and a line that is no canonical one
pub word_cut : store_of (codes "hupm shelf 1\nitems 30 al\n") ≡ None
unfolding digits
word_cut = refl

pub other_task : store_of (codes "hupm shelf 1\nseq 30 all\n") ≡ None
unfolding digits
other_task = refl

pub other_form : store_of (codes "hupm shelf 2\nitems 30 all\n") ≡ None
unfolding digits
other_form = refl

pub zero_in_front : store_of (codes "hupm shelf 1\nitems 030 all\n") ≡ None
unfolding digits
zero_in_front = refl

pub nothing_asked : store_of (codes "hupm shelf 1\nitems 0 all\n") ≡ None
unfolding digits
nothing_asked = refl

pub top_too_great : store_of (codes "hupm shelf 1\nitems 1 1000001\n") ≡ None
unfolding digits
top_too_great = refl

pub space_after : store_of (codes "hupm shelf 1\nitems 1 all\n1:5:5 \n") ≡ None
unfolding digits
space_after = refl

pub blank_line : store_of (codes "hupm shelf 1\nitems 1 all\n\n1:5:5\n") ≡ None
unfolding digits
blank_line = refl

pub empty_text : store_of [] ≡ None
unfolding digits
empty_text = refl
