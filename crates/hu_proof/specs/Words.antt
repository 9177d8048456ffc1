-- A text that is read word by word: what is still to come, and what was said of it.
use Rattle.std.specs.Prelude.{
  ◌≡◌,
  ℕ,
  ℤ,
  Bool,
  true,
  false,
  Option,
  None,
  Some,
  unwrap_or,
  is_some,
  List,
  [],
  ◌++◌,
  map,
}
use Rattle.std.specs.Borrow.{Bor}
use Rattle.std.specs.List.{slice_split}
use Rattle.std.specs.Option.{option_map}
use Rattle.std.specs.Str.{bytes_eq}
use Rattle.hu_kind.specs.declared.item.Item.{Item}
use Rattle.hu_kind.specs.Token.{is_space}
use Rattle.hu_proof.specs.Text.{plain_item, token_of, each, words, said_of}

-- the words that are still to come
abbrev pub words_left : Option (Bor (List ℕ)) → List (List ℕ)
words_left None = []
words_left (Some text) = slice_split is_space text.now

-- the numbers of items
abbrev pub numbers_of : List Item → List ℕ
numbers_of items = map (λ item. item.0) items

-- what each word says after these, where each says something
abbrev pub after_these : {A : Type 0} → List A → Option (List A) → Option (List A)
after_these before more = option_map (λ later. before ++ later) more

-- what was said, nothing where it is of no form
abbrev pub told : {A : Type 0} → Option (List A) → List A
told said = unwrap_or said []

-- whether these items are said, and are those
abbrev pub are_those : Option (List ℕ) → List ℕ → Bool
are_those None items = false
are_those (Some said) items = bytes_eq said items

-- a line of its form: the texts of its prefix and of its tokens, and its utility
pub record IsLine (line prefix : List ℕ) (utility : ℤ) (tokens : List ℕ) : Type 0 where
  pub prefixed : is_some (each plain_item (words prefix)) ≡ true
  pub tokened : is_some (each token_of (words tokens)) ≡ true
  pub is : said_of line
      ≡ Some (record {
        prefix = told (each plain_item (words prefix));
        utility = utility;
        tokens =
            told (each token_of (words tokens));
      })
