-- Keys linked from the last one back: each tells where the one before it of its kind stands. Items are numbered with such
-- links by their remainders, and the places at which an item is met are linked by the item.
use Rattle.std.specs.Prelude.{◌≡◌, ◌==◌, if◌then◌else◌, ◌≢◌, ◌<◌, ◌≤◌, ◌-◌, ◌%◌, ◌++◌, ◌⊎◌, ◌∷◌, [], ℕ, List, length, map, slice_index_or}
use Rattle.hu_span.specs.declared.links.Links.{Links}
use Rattle.hu_span.specs.declared.links.Numbers.{Numbers}
use Rattle.hu_span.specs.declared.mark.Mark.{Mark}

-- a number, by its place
abbrev pub at : List ℕ → ℕ → ℕ
at keys place = slice_index_or keys place 0

-- a key doesn't stand among keys
abbrev pub IsAbsent : List ℕ → ℕ → Type 0
IsAbsent keys key = (place : ℕ) → place < length keys → at keys place ≢ key

-- a key's place
pub record IsNumber (keys : List ℕ) (key place : ℕ) : Type 0 where
  pub within : place < length keys
  pub here : at keys place ≡ key

-- of the keys in front of a place, the last one equal to a key stands just before another place, or there is none and that is 0
pub record IsBack (keys : List ℕ) (key upto place : ℕ) : Type 0 where
  pub within : upto ≤ place
  pub none : (later : ℕ) → upto ≤ later → later < place → at keys later ≢ key
  pub here : 0 < upto → at keys (upto - 1) ≡ key

-- each key tells where the last one equal to it stands in front of it
pub record AreLinked (keys olders : List ℕ) : Type 0 where
  pub size : length olders ≡ length keys
  pub each : (place : ℕ) → place < length keys → IsBack keys (at keys place) (at olders place) place

-- remainders
abbrev pub buckets : ℕ → List ℕ → List ℕ
buckets room items = map (λ item. item % room) items

-- the rules of numbers: items of a remainder are linked, the last one of each is known
pub record AreNumbers (numbers : Numbers) : Type 0 where
  pub room : 0 < length numbers.heads.items
  pub linked : AreLinked (buckets (length numbers.heads.items) numbers.items.items)
      numbers.olders.items
  pub heads : (bucket : ℕ) → bucket < length numbers.heads.items
      → IsBack (buckets (length numbers.heads.items) numbers.items.items) bucket
      (at numbers.heads.items bucket) (length numbers.items.items)

-- the rules of links of keys: each key has a number, the last place of each is known, and the others are linked from there
pub record AreLinks (links : Links) (keys : List ℕ) : Type 0 where
  pub numbers : AreNumbers links.numbers
  pub linked : AreLinked keys links.olders.items
  pub size : length links.lasts.items ≡ length links.numbers.items.items
  pub lasts : (number : ℕ) → number < length links.numbers.items.items
      → IsBack keys (at links.numbers.items.items number) (at links.lasts.items number)
      (length keys)
  pub some : (number : ℕ) → number < length links.numbers.items.items
      → 0 < at links.lasts.items number
  pub known : (key : ℕ) → IsAbsent links.numbers.items.items key → IsAbsent keys key
  pub once : (first second : ℕ) → first < length links.numbers.items.items
      → second < length links.numbers.items.items
      → at links.numbers.items.items first ≡ at links.numbers.items.items second → first ≡ second

-- items with one more, if it is a new one, by the number that it has
pub record IsNumbered (old new : List ℕ) (item number : ℕ) : Type 0 where
  pub is : IsNumber new item number
  pub grows : ((new ≡ old) × (number < length old))
      ⊎ ((new ≡ old ++ item ∷ []) × (number ≡ length old) × IsAbsent old item)

-- the items of marks
abbrev pub keys_of : List Mark → List ℕ
keys_of marks = map (λ mark. mark.item.0) marks

-- those of values that stand beside a key
abbrev pub picked : {A : Type 0} → ℕ → List ℕ → List A → List A
picked item [] values = []
picked item (key ∷ keys) [] = []
picked item (key ∷ keys) (value ∷ values) =
    if item == key then value ∷ picked item keys values else picked item keys values
