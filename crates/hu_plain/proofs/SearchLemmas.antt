-- What a search makes of a prefix.
use Rattle.std.proofs.Common.{◌≡◌, ℕ, ℤ, Option, None, Some, IsNone, IfSome, length-append, List, [], ◌∷◌, ◌++◌, length, refl, sym, ap, ◌∙◌, arith, ◌↔◌}
use Rattle.std.proofs.Common.{append-nil}
use Rattle.std.proofs.lemmas.List.{length-map, same_from_push}
use Rattle.hu_kind.specs.declared.entry.Entry.{Entry}
use Rattle.hu_plain.specs.declared.row.Row.{Row}
use Rattle.hu_plain.specs.Row.{earned, grown_entry}
use Rattle.hu_plain.specs.View.{row_of, rows_of}
use Rattle.hu_plain.proofs.Growth.{support-none}

-- an entry with these fields
abbrev pub entry_with : List ℤ → ℤ → ℕ → Entry
entry_with key utility support = record { key = key; utility = utility; support = support }

-- the entry of the prefix itself
pub own_entry : (prefix key : List ℤ) (rows : List Row) (utility : ℤ) → key ≡ prefix → utility ≡ earned (rows_of rows) []
    → entry_with key utility (length rows) ≡ grown_entry prefix (rows_of rows) []
own_entry prefix key rows utility k u =
    let key' = append-nil prefix in
    let count = support-none (rows_of rows) ∙ length-map rows row_of in
    cc

-- what `pop` leaves of a list with one more number
pub popped : (r : Option ℤ) (old new p : List ℤ) (n : ℤ) → old ≡ p ++ n ∷ [] → IsNone r ↔ (old ≡ [])
    → IfSome r (λ m. old ≡ new ++ m ∷ []) → new ≡ p
popped None old new p n e empty last = absurd (omega (arith, ap length (sym e ∙ empty.0 refl), length-append p (n ∷ [])))
popped (Some m) old new p n e empty last = (same_from_push new p m n (sym last ∙ e)).0
