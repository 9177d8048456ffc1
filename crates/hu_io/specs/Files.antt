-- What a call of `Files::get` gives, and files by name as a list of pairs (name, bytes).
use Rattle.std.specs.Prelude.{
  ◌≡◌,
  ◌≢◌,
  ℕ,
  ◌<◌,
  ◌≤◌,
  ◌↔◌,
  ⊤,
  List,
  length,
  take,
  drop,
  Option,
  None,
  Some,
  MatchOption,
  [],
  unwrap_or,
}
use Rattle.std.specs.Str.{bytes_eq}
use Rattle.std.specs.Map.{lookup}

-- the first n bytes of `into` are the content's from `at` on, and a place to fill stays empty only at the end
pub record Gives (content : List ℕ) (at n : ℕ) (into : List ℕ) : Type 0 where
  pub bytes : take n into ≡ take n (drop at content)
  pub end : 0 < length into → (n ≡ 0) ↔ (length content ≤ at)

-- where the contents are told, the name is there, and these are bytes of its content
abbrev pub GivesTold : Option (List ℕ → Option (List ℕ)) → List ℕ → ℕ → List ℕ → ℕ → Type 0
GivesTold None name at into n = ⊤
GivesTold (Some told) name at into n = MatchOption (told name) ⊥ (λ content. Gives content at n into)

-- the bytes of a name, if it is there
abbrev pub content_in : List (List ℕ × List ℕ) → List ℕ → Option (List ℕ)
content_in files name = lookup (bytes_eq name) files

-- the bytes of a name, and none where it isn't there
abbrev pub content_or_empty : List (List ℕ × List ℕ) → List ℕ → List ℕ
content_or_empty files name = unwrap_or (content_in files name) []

-- the name has these bytes, and every other name is as before
pub record Adds (old new : List (List ℕ × List ℕ)) (name bytes : List ℕ) : Type 0 where
  pub added : content_in new name ≡ Some bytes
  pub others : (other : List ℕ) → other ≢ name → content_in new other ≡ content_in old other
