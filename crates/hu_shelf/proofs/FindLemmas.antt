-- What the text of a name is found to be.
use Rattle.std.proofs.Common.{◌≡◌, ℕ, ◌<◌, Bool, true, false, ◌&&◌, Option, None, Some, MatchOption, Result, Ok, Err, Vec, List, [], ◌∷◌, length, refl, ap, sym}
use Rattle.std.proofs.Common.{subst, ◌∙◌, arith, ◌⊎◌, inl, inr, nat_le}
use Rattle.std.specs.Bool.{then_some}
use Rattle.std.specs.Prelude.{MatchBool, ⊤, IfSome, ℤ}
use Rattle.std.specs.Result.{IfOk, IfErr}
use Rattle.std.specs.Str.{bytes_eq}
use Rattle.std.proofs.lemmas.Bool.{lt-leb, and_right, and_left}
use Rattle.hu_base.specs.Base.{records_of}
use Rattle.hu_kept.specs.Kept.{Keeping, with_batch}
use Rattle.hu_shelf.specs.declared.fault.ShelfFault.{ShelfFault}
use Rattle.hu_shelf.specs.declared.fault.ShelfFault.TheVariants.{Absent, Damaged, NoMemory, Present}
use Rattle.hu_shelf.specs.Keeper.{KeeperState, Told}
use Rattle.hu_shelf.specs.Shelf.{IsCause, IsFaultOf, Refuses, create_fault, find_fault}
use Rattle.hu_shelf.specs.Store.{IsStore, after_byte, before_byte, is_lawful, records_in, settings_in, store_of, store_text, told_by}
use Rattle.hu_shelf.proofs.ContentLemmas.{Told-map}
use Rattle.hu_shelf.proofs.lemmas.StoreLemmas.{store_of-text, text_of-store, still_same}

-- a text that isn't the one of what it tells is no store's
pub none_by_text : (text : List ℕ) (s : Keeping) → told_by text ≡ s → bytes_eq (store_text s) text ≡ false → store_of text ≡ None
none_by_text text s told other =
    ap (λ t. then_some (is_lawful t text && bytes_eq (store_text t) text) t) told
    ∙ ap (λ b. then_some b s) (and_right (is_lawful s text) (bytes_eq (store_text s) text) other)

-- a store's text is its own
pub some_by_text : (text : List ℕ) (s : Keeping) (result : Result Keeping ShelfFault) → text ≡ store_text s → IfOk result (λ shelf. shelf ≡ s)
    → IfOk result IsStore → IfOk result (λ shelf. store_of text ≡ Some shelf)
some_by_text text s (Ok shelf) is same store = ap store_of (is ∙ ap store_text (sym same)) ∙ store_of-text shelf store
some_by_text text s (Err fault) is same store = tt

-- a text that is too long is no store's
none_by_length : (text : List ℕ) → 268435456 < length text → store_of text ≡ None
none_by_length text long =
    let unlawful : is_lawful (told_by text) text ≡ false = and_right _ (nat_le (length text) 268435456) (lt-leb (length text) 268435456 long) in
    ap (λ b. then_some b (told_by text)) (and_left (is_lawful (told_by text) text) (bytes_eq (store_text (told_by text)) text) unlawful)

damaged : (text : List ℕ) → 0 < length text → store_of text ≡ None → find_fault text ≡ Some Damaged
damaged [] some none = absurd (omega (arith, some))
damaged (b ∷ bs) some none = rw none refl

-- a fault that the name's text has, where it is told, and otherwise any other one
pub fault_found : (state : KeeperState) (name : List ℕ) (told : List ℕ → Option ShelfFault) (fault : ShelfFault) (other : List ℕ)
    → told other ≡ Some fault → Told state name (λ t. told t ≡ Some fault) → IsFaultOf state name told fault
fault_found state name told fault other here found = by state.texts found
  where
    by : (texts : Option (List ℕ → List ℕ)) → MatchOption texts ⊤ (λ t. told (t name) ≡ Some fault)
        → (text : List ℕ) × MatchOption texts ⊤ (λ t. t name ≡ text) × (told text ≡ Some fault)
    by None h = (other, tt, here)
    by (Some t) h = (t name, refl, h)

present : (text : List ℕ) → 0 < length text → create_fault text ≡ Some Present
present [] some = absurd (omega (arith, some))
present (b ∷ bs) some = refl

pub found_present : (state : KeeperState) (name : List ℕ) → Told state name (λ t. 0 < length t) → IsFaultOf state name create_fault Present
found_present state name told =
    fault_found state name create_fault Present (0 ∷ []) refl
    (Told-map state name (λ t. 0 < length t) (λ t. create_fault t ≡ Some Present) present told)

-- a text that is there, by a test
pub found_there : (state : KeeperState) (name : List ℕ) (empty : Bool) → Told state name (λ t. MatchBool empty (t ≡ []) (0 < length t))
    → empty ≡ false → IsFaultOf state name create_fault Present
found_there state name true told is = absurd (cc)
found_there state name false told is = found_present state name told

pub found_absent : (state : KeeperState) (name : List ℕ) → Told state name (λ t. t ≡ []) → IsFaultOf state name find_fault Absent
found_absent state name told =
    fault_found state name find_fault Absent [] refl
    (Told-map state name (λ t. t ≡ []) (λ t. find_fault t ≡ Some Absent) (λ t none. ap find_fault none) told)

found_damaged : (state : KeeperState) (name : List ℕ) → Told state name (λ t. find_fault t ≡ Some Damaged) → IsFaultOf state name find_fault Damaged
found_damaged state name told = fault_found state name find_fault Damaged (0 ∷ []) refl told

-- a text that is too long to be read is damaged
pub long_damaged : {A : Type 0} (state : KeeperState) (name : List ℕ) (found : Option (Vec ℕ A))
    → Told state name (λ text. MatchOption found (268435456 < length text) (λ bytes. bytes.items ≡ text))
    → found ≡ None → IsFaultOf state name find_fault Damaged
long_damaged state name None told none =
    found_damaged state name (Told-map state name (λ text. 268435456 < length text) (λ text. find_fault text ≡ Some Damaged)
    (λ text long. damaged text (omega (arith, long)) (none_by_length text long)) told)
long_damaged state name (Some v) told none = absurd (cc)

-- the text that was read is that of the name
pub read_text : {A : Type 0} (state : KeeperState) (name : List ℕ) (found : Option (Vec ℕ A)) (v : Vec ℕ A)
    → Told state name (λ text. MatchOption found (268435456 < length text) (λ bytes. bytes.items ≡ text))
    → found ≡ Some v → Told state name (λ text. v.items ≡ text)
read_text state name found v told some =
    subst (λ f. Told state name (λ text. MatchOption f (268435456 < length text) (λ bytes. bytes.items ≡ text))) some told

-- what is so of the text that was read is so of the name's
pub found_told : (state : KeeperState) (name text : List ℕ) (result : Result Keeping ShelfFault) → Told state name (λ t. text ≡ t)
    → IfOk result (λ s. store_of text ≡ Some s) → IfOk result (λ s. Told state name (λ t. store_of t ≡ Some s))
found_told state name text (Ok s) told found =
    Told-map state name (λ t. text ≡ t) (λ t. store_of t ≡ Some s) (λ t same. ap store_of (sym same) ∙ found) told
found_told state name text (Err fault) told found = tt

pub found_text : (state : KeeperState) (name text : List ℕ) (result : Result Keeping ShelfFault) → Told state name (λ t. text ≡ t)
    → IfOk result (λ s. store_of text ≡ Some s) → IfOk result (λ s. Told state name (λ t. t ≡ store_text s))
found_text state name text (Ok s) told found =
    Told-map state name (λ t. text ≡ t) (λ t. t ≡ store_text s) (λ t same. sym same ∙ text_of-store text s found) told
found_text state name text (Err fault) told found = tt

pub found_none : (state now : KeeperState) (name text : List ℕ) (result : Result Keeping ShelfFault) → Told state name (λ t. text ≡ t)
    → 0 < length text → now ≡ state → IfErr result (λ fault. (fault ≡ NoMemory) ⊎ ((fault ≡ Damaged) × (store_of text ≡ None)))
    → IfErr result (Refuses state now name (IsFaultOf state name find_fault))
found_none state now name text (Ok s) told some same cause = tt
found_none state now name text (Err fault) told some same cause = record { cause = by cause; stays = still_same state now same }
  where
    by : (fault ≡ NoMemory) ⊎ ((fault ≡ Damaged) × (store_of text ≡ None)) → IsCause state now name (IsFaultOf state name find_fault) fault
    by (inl memory) = subst (IsCause state now name (IsFaultOf state name find_fault)) (sym memory) tt
    by (inr bad) = subst (IsCause state now name (IsFaultOf state name find_fault)) (sym bad.0)
        (found_damaged state name (Told-map state name (λ t. text ≡ t) (λ t. find_fault t ≡ Some Damaged)
        (λ t same'. damaged t (omega (arith, some, ap length same')) (ap store_of (sym same') ∙ bad.1)) told))

-- what a text tells, by its parts
pub told_by-parts : (text after line rest : List ℕ) (settings : Keeping) (found : Option (ℕ × List (List (ℕ × ℤ))))
    (base : ℕ × List (List (ℕ × ℤ))) (records : List (List (ℕ × ℤ)))
    → after ≡ after_byte 10 text → line ≡ before_byte 10 after → rest ≡ after_byte 10 after → settings_in line ≡ settings
    → IfSome found (λ b. b ≡ (0, records_in rest)) → found ≡ Some base → records ≡ records_of base → told_by text ≡ with_batch settings records
told_by-parts text after line rest settings found base records one two three told read some are =
    let whole : base ≡ (0, records_in rest) = subst (λ f. IfSome f (λ b. b ≡ (0, records_in rest))) some read in
    ap (λ r. with_batch (settings_in (before_byte 10 r)) (records_in (after_byte 10 r))) (sym one)
    ∙ ap (λ l. with_batch (settings_in l) (records_in (after_byte 10 after))) (sym two)
    ∙ ap (λ r. with_batch (settings_in line) (records_in r)) (sym three)
    ∙ ap (λ k. with_batch k (records_in rest)) told
    ∙ ap (with_batch settings) (sym (are ∙ ap (λ b. b.1) whole))
