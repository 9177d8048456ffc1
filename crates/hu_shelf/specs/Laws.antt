-- What holds of stores and their texts.
use Rattle.std.specs.Prelude.{◌≡◌, ℕ, Some, List}
use Rattle.hu_kept.specs.Kept.{Keeping}
use Rattle.hu_shelf.specs.Store.{IsStore, store_of, store_text}

-- the text of a store tells it, so two stores have two texts
pub record TextsTellStores : Type 0 where
  pub same : (s : Keeping) → IsStore s → store_of (store_text s) ≡ Some s

-- a text that tells a store is its text
pub record StoresHaveOneText : Type 0 where
  pub same : (text : List ℕ) (s : Keeping) → store_of text ≡ Some s → text ≡ store_text s
