-- What the calls on a store and the reading of the file come to.
use Rattle.std.proofs.Common.{◌≡◌, ◌∙◌, ℕ, ◌+◌, ◌<◌, ◌^◌, nat_lt, ℤ, pos, unsigned_abs, Bool, true, false, List, [], ◌∷◌}
use Rattle.std.proofs.Common.{Result, Ok, Err, Option, Some, None, MatchOption, length, ap, sym, subst, refl, if◌then◌else◌}
use Rattle.std.specs.Prelude.{IfSome, IsOkAnd, ⊤}
use Rattle.std.proofs.lemmas.Bool.{lt-leb}
use Rattle.hu_io.specs.Count.{Rose}
use Rattle.hu_io.specs.State.{FilesState, SinkState}
use Rattle.hu_io.proofs.lemmas.PutLemmas.{Appended-nil}
use Rattle.hu_input.specs.Formats.{transaction_reading}
use Rattle.hu_input.specs.Input.{Unread, refused_line, input_from}
use Rattle.hu_kind.specs.Record.{absolute_of}
use Rattle.hu_kept.specs.Changes.{changes}
use Rattle.hu_kept.specs.Kept.{Keeping, answer_of, with_batch}
use Rattle.hu_report.specs.Text.{answer_text}
use Rattle.hu_shelf.specs.Keeper.{KeeperState, Told, keeping_text}
use Rattle.hu_shelf.specs.Shelf.{IsFaultOf, Refuses, IsCause, absolute_sum, add_fault, create_fault, find_fault}
use Rattle.hu_shelf.specs.Store.{IsStore, store_of, store_text}
use Rattle.hu_shelf.specs.Worked.{empty_text}
use Rattle.hu_shelf.proofs.lemmas.StoreLemmas.{store_of-text}
use Rattle.hu_shelf.specs.declared.fault.ShelfFault.{ShelfFault}
use Rattle.hu_shelf.specs.declared.fault.ShelfFault.TheVariants as shelf
use Rattle.hu_run.specs.declared.stop.Stop.{Stop}
use Rattle.hu_run.specs.declared.stop.Stop.TheVariants.{Words, Refused, ReadFailed, Denied, TooLong, WriteFailed, NoMemory}
use Rattle.hu_run.specs.declared.shelf.fault.StoreFault.{StoreFault}
use Rattle.hu_run.specs.declared.shelf.fault.StoreFault.TheVariants.{Absent, Present, Damaged, TooLarge}
use Rattle.hu_run.specs.declared.shelf.stop.ShelfStop.{ShelfStop}
use Rattle.hu_run.specs.declared.shelf.stop.ShelfStop.TheVariants.{Job, Declined, StoreFailed}
use Rattle.hu_run.specs.ShelfJob.{Shelving, make, add, show, shelf_job, store_name, file_names}
use Rattle.hu_run.specs.ShelfEnding.{ShelfEnding, leaves, declines, refuses, Given, given_by, adding, making, on_store, changes_line, task_of}
use Rattle.hu_run.specs.ShelfRun.{Finds, HasLeft}
use Rattle.hu_run.specs.ShelfAttempt.{Scene, scene, shelf_fault, IsStopOf, StopsCall, IfRead, HasRead, StopsRead, Leaves}
use Rattle.hu_run.specs.ShelfAttempt.{StopsShelf, ShelfEnds, Attempts}
use Rattle.hu_run.proofs.ShelfEndLemmas.{stays-same}

-- ---- stops of calls

-- the cause of a refusal that is told by a fault of the store
cause_of : (old new : KeeperState) (name : List ℕ) (IsSuch : ShelfFault → Type 0) (fault : StoreFault)
    → IsCause old new name IsSuch (shelf_fault fault) → IsSuch (shelf_fault fault)
cause_of old new name IsSuch Absent cause = cause
cause_of old new name IsSuch Present cause = cause
cause_of old new name IsSuch Damaged cause = cause
cause_of old new name IsSuch TooLarge cause = cause

pub stops-call : (old new : KeeperState) (name : List ℕ) (IsSuch : ShelfFault → Type 0) (fault : ShelfFault) (stop : ShelfStop)
    → Refuses old new name IsSuch fault → IsStopOf name fault stop → StopsCall old new name (λ f. IsSuch (shelf_fault f)) stop
stops-call old new name IsSuch fault (Declined named told) why is =
    (is.0, cause_of old new name IsSuch told (subst (IsCause old new name IsSuch) is.1 why.cause), why.stays)
stops-call old new name IsSuch fault (StoreFailed named) why is =
    (is.0, subst (IsCause old new name IsSuch) is.1 why.cause, why.stays)
stops-call old new name IsSuch fault (Job NoMemory) why is = why.stays
stops-call old new name IsSuch fault (Job (Words f)) why is = absurd is
stops-call old new name IsSuch fault (Job (Refused n number reason)) why is = absurd is
stops-call old new name IsSuch fault (Job (ReadFailed n)) why is = absurd is
stops-call old new name IsSuch fault (Job (Denied cert f)) why is = absurd is
stops-call old new name IsSuch fault (Job TooLong) why is = absurd is
stops-call old new name IsSuch fault (Job WriteFailed) why is = absurd is

-- no text was changed, so that what is asked was stopped
pub stops-shelf : (asked : Shelving) (sc : Scene) (IsSuch : StoreFault → Type 0) (stop : ShelfStop) → sc.files_after ≡ sc.files
    → sc.out_after ≡ sc.out → ((fault : StoreFault) → IsSuch fault → Finds sc.keeper sc.files asked (λ e. e ≡ declines fault))
    → StopsCall sc.keeper sc.keeper_after (store_name asked) IsSuch stop → StopsShelf asked sc stop
stops-shelf asked sc IsSuch (Declined named fault) files out found stops = record {
  named = stops.0;
  finds = found fault stops.1;
  untouched = record { files = files; out = out; keeper = stops.2 };
}
stops-shelf asked sc IsSuch (StoreFailed named) files out found stops = record {
  named = stops.0;
  rose = subst (λ n. Rose (sc.keeper.faults n) (sc.keeper_after.faults n)) (sym stops.0) stops.1;
  untouched = record { files = files; out = out; keeper = stops.2 };
}
stops-shelf asked sc IsSuch (Job NoMemory) files out found stops = record { files = files; out = out; keeper = stops }
stops-shelf asked sc IsSuch (Job (Words f)) files out found stops = absurd stops
stops-shelf asked sc IsSuch (Job (Refused n number reason)) files out found stops = absurd stops
stops-shelf asked sc IsSuch (Job (ReadFailed n)) files out found stops = absurd stops
stops-shelf asked sc IsSuch (Job (Denied cert f)) files out found stops = absurd stops
stops-shelf asked sc IsSuch (Job TooLong) files out found stops = absurd stops
stops-shelf asked sc IsSuch (Job WriteFailed) files out found stops = absurd stops

-- ---- what texts come to

pub some_of : {A : Type 0} (x y : A) → Some x ≡ Some y → x ≡ y
some_of x y is = cc

-- a fault of the shelf tells that of the store
fault_is : (a b : StoreFault) → shelf_fault a ≡ shelf_fault b → b ≡ a
fault_is Absent Absent is = refl
fault_is Present Present is = refl
fault_is Damaged Damaged is = refl
fault_is TooLarge TooLarge is = refl
fault_is Absent Present is = absurd (cc)
fault_is Absent Damaged is = absurd (cc)
fault_is Absent TooLarge is = absurd (cc)
fault_is Present Absent is = absurd (cc)
fault_is Present Damaged is = absurd (cc)
fault_is Present TooLarge is = absurd (cc)
fault_is Damaged Absent is = absurd (cc)
fault_is Damaged Present is = absurd (cc)
fault_is Damaged TooLarge is = absurd (cc)
fault_is TooLarge Absent is = absurd (cc)
fault_is TooLarge Present is = absurd (cc)
fault_is TooLarge Damaged is = absurd (cc)

declines-same : (a b : StoreFault) → Some (shelf_fault a) ≡ Some (shelf_fault b) → declines a ≡ declines b
declines-same a b is = sym (ap declines (fault_is a b (some_of (shelf_fault a) (shelf_fault b) is)))

making-declines : (s : Keeping) (text : List ℕ) (fault : StoreFault) → create_fault text ≡ Some (shelf_fault fault) → making s text ≡ declines fault
making-declines s [] fault is = absurd (cc)
making-declines s (b ∷ bs) fault is = declines-same Present fault is

free_is_empty : (text : List ℕ) → create_fault text ≡ None → text ≡ []
free_is_empty [] free = refl
free_is_empty (b ∷ bs) free = absurd (cc)

on_store-declines : (text : List ℕ) (made : Keeping → ShelfEnding) (fault : StoreFault) → find_fault text ≡ Some (shelf_fault fault)
    → on_store text made ≡ declines fault
on_store-declines [] made fault is = declines-same Absent fault is
on_store-declines (b ∷ bs) made fault is = by (store_of (b ∷ bs)) refl
  where
    by : (found : Option Keeping) → store_of (b ∷ bs) ≡ found → on_store (b ∷ bs) made ≡ declines fault
    by None none = simp none (declines-same Damaged fault (simp none at is))
    by (Some s) some = let no_fault : None ≡ Some (shelf_fault fault) = simp some at is in absurd (cc)

pub on_store-found : (text : List ℕ) (made : Keeping → ShelfEnding) (s : Keeping) → store_of text ≡ Some s → on_store text made ≡ made s
on_store-found [] made s is = absurd (cc (is, empty_text))
on_store-found (b ∷ bs) made s is = simp is refl

pub found_no_fault : (text : List ℕ) (s : Keeping) → store_of text ≡ Some s → find_fault text ≡ None
found_no_fault [] s is = absurd (cc (is, empty_text))
found_no_fault (b ∷ bs) s is = simp is refl

-- ---- what is found

module _ (keeper : KeeperState) (files : FilesState) where
  -- what the file gives after a sum, where it is told, and otherwise what it gave
  pub record Gives (asked : Shelving) (sum : ℕ) (result : Result (List (List (ℕ × ℤ))) Unread) : Type 0 where
    pub given : Given
    pub read : IfSome files.contents (λ told. given ≡ given_by told asked)
    pub is : given sum ≡ result

  pub gives_by : (asked : Shelving) (sum : ℕ) (result : Result (List (List (ℕ × ℤ))) Unread)
      → IfRead files sum (file_names asked) (λ g. g ≡ result) → Gives asked sum result
  gives_by asked sum result read = by files.contents read
    where
      Picked : Option (List ℕ → Option (List ℕ)) → Type 0
      Picked contents = (given : Given) × IfSome contents (λ told. given ≡ given_by told asked) × (given sum ≡ result)

      pick : (contents : Option (List ℕ → Option (List ℕ)))
          → IfSome contents (λ told. input_from transaction_reading absolute_of told 0 sum (file_names asked) ≡ result) → Picked contents
      pick None r = ((λ n. result), tt, refl)
      pick (Some told) r = (given_by told asked, refl, r)

      by : (contents : Option (List ℕ → Option (List ℕ)))
          → IfSome contents (λ told. input_from transaction_reading absolute_of told 0 sum (file_names asked) ≡ result) → Gives asked sum result
      by contents r = let p = pick files.contents read in record { given = p.0; read = p.1; is = p.2 }

  -- whatever the file gives
  pub gives_any : (asked : Shelving) → (given : Given) × IfSome files.contents (λ told. given ≡ given_by told asked)
  gives_any asked = by files.contents
    where
      by : (contents : Option (List ℕ → Option (List ℕ))) → (given : Given) × IfSome contents (λ told. given ≡ given_by told asked)
      by None = ((λ n. Ok []), tt)
      by (Some told) = (given_by told asked, refl)

  -- the text of a store under a name
  pub record HasText (name : List ℕ) (s : Keeping) : Type 0 where
    pub text : List ℕ
    pub there : Told keeper name (λ t. t ≡ text)
    pub is : store_of text ≡ Some s

  pub text_there : (name : List ℕ) (s : Keeping) → IsStore s → Told keeper name (λ t. store_of t ≡ Some s) → HasText name s
  text_there name s store told = let p = pick keeper.texts told in record { text = p.0; there = p.1; is = p.2 }
    where
      pick : (texts : Option (List ℕ → List ℕ)) → MatchOption texts ⊤ (λ t. store_of (t name) ≡ Some s)
          → (text : List ℕ) × MatchOption texts ⊤ (λ t. t name ≡ text) × (store_of text ≡ Some s)
      pick None t = (store_text s, tt, store_of-text s store)
      pick (Some texts) t = (texts name, refl, t)

  pub told-map : (name : List ℕ) (P Q : List ℕ → Type 0) → ((text : List ℕ) → P text → Q text) → Told keeper name P → Told keeper name Q
  told-map name P Q f told = by keeper.texts told
    where
      by : (texts : Option (List ℕ → List ℕ)) → MatchOption texts ⊤ (λ t. P (t name)) → MatchOption texts ⊤ (λ t. Q (t name))
      by None h = tt
      by (Some t) h = f (t name) h

  -- a fault of the text under the name of a store that is to be there
  pub show-declines : (name : List ℕ) (fault : StoreFault) → IsFaultOf keeper name find_fault (shelf_fault fault)
      → Finds keeper files (show name) (λ e. e ≡ declines fault)
  show-declines name fault is =
      let given = gives_any (show name) in
      record { text = is.0; given = given.0; there = is.1; read = given.1; is = on_store-declines is.0 _ fault is.2 }

  pub add-declines : (name file : List ℕ) (fault : StoreFault) → IsFaultOf keeper name find_fault (shelf_fault fault)
      → Finds keeper files (add name file) (λ e. e ≡ declines fault)
  add-declines name file fault is =
      let given = gives_any (add name file) in
      record { text = is.0; given = given.0; there = is.1; read = given.1; is = on_store-declines is.0 _ fault is.2 }

  pub make-declines : (name : List ℕ) (s : Keeping) (fault : StoreFault) → IsFaultOf keeper name create_fault (shelf_fault fault)
      → Finds keeper files (make name s) (λ e. e ≡ declines fault)
  make-declines name s fault is =
      let given = gives_any (make name s) in
      record { text = is.0; given = given.0; there = is.1; read = given.1; is = making-declines s is.0 fault is.2 }

  -- the ending of adding what the file gave to the store that was found
  pub add-finds : (name file : List ℕ) (s : Keeping) (result : Result (List (List (ℕ × ℤ))) Unread) (P : ShelfEnding → Type 0) → IsStore s
      → Told keeper name (λ t. store_of t ≡ Some s) → IfRead files (absolute_sum s.records) (file ∷ []) (λ g. g ≡ result)
      → P (adding s result) → Finds keeper files (add name file) P
  add-finds name file s result P store told read is =
      let found = text_there name s store told in
      let gives = gives_by (add name file) (absolute_sum s.records) result read in
      record {
        text = found.text;
        given = gives.given;
        there = found.there;
        read = gives.read;
        is = subst P (sym (on_store-found found.text _ s found.is ∙ ap (adding s) gives.is)) is;
      }

-- ---- a store is made

pub made : (name : List ℕ) (s : Keeping) (files : FilesState) (out : SinkState) (old new : KeeperState) → IsStore s → new ≡ keeping_text name (store_text s) old
    → Told old name (λ t. create_fault t ≡ None) → ShelfEnds (make name s) (scene files files out out old new) (Ok tt)
made name s files out old new store put free =
    let given = gives_any old files (make name s) in
    record {
      finds = record {
        text = [];
        given = given.0;
        there = told-map old files name _ _ free_is_empty free;
        read = given.1;
        is = (store, put, Appended-nil out);
      };
      files = refl;
    }

pub unmade : (name : List ℕ) (s : Keeping) (files : FilesState) (out : SinkState) (old new : KeeperState) (fault : ShelfFault) (stop : ShelfStop)
    → Refuses old new name (IsFaultOf old name create_fault) fault → IsStopOf name fault stop
    → ShelfEnds (make name s) (scene files files out out old new) (Err stop)
unmade name s files out old new fault stop why is =
    stops-shelf (make name s) (scene files files out out old new) (λ f. IsFaultOf old name create_fault (shelf_fault f)) stop refl refl
    (make-declines old files name s) (stops-call old new name (IsFaultOf old name create_fault) fault stop why is)

-- no fault of these is that of a sum
pub create_no_sum : (old new : KeeperState) (name : List ℕ) (before added : ℤ) → Refuses old new name (IsFaultOf old name create_fault) (shelf.SumTooLarge before added) → ⊥
create_no_sum old new name before added why = by why.cause.0 why.cause.2
  where
    by : (text : List ℕ) → create_fault text ≡ Some (shelf.SumTooLarge before added) → ⊥
    by [] is = cc
    by (b ∷ bs) is = cc

pub find_no_sum : (old new : KeeperState) (name : List ℕ) (before added : ℤ) → Refuses old new name (IsFaultOf old name find_fault) (shelf.SumTooLarge before added) → ⊥
find_no_sum old new name before added why = by why.cause.0 why.cause.2
  where
    by : (text : List ℕ) → find_fault text ≡ Some (shelf.SumTooLarge before added) → ⊥
    by [] is = cc
    by (b ∷ bs) is = found (store_of (b ∷ bs)) refl
      where
        found : (o : Option Keeping) → store_of (b ∷ bs) ≡ o → ⊥
        found None none = let damaged : Some shelf.Damaged ≡ Some (shelf.SumTooLarge before added) = simp none at is in cc
        found (Some s) some = let no_fault : None ≡ Some (shelf.SumTooLarge before added) = simp some at is in cc

-- ---- a store is shown

pub shown : (name : List ℕ) (s : Keeping) (files : FilesState) (out out_after : SinkState) (old new : KeeperState) (W : List ℕ → Type 0)
    → IsStore s → Told old name (λ t. store_of t ≡ Some s) → new ≡ old → W (answer_text (task_of s.closed) (answer_of s))
    → Leaves (show name) (scene files files out out_after old new) W
shown name s files out out_after old new W store told same wrote =
    let given = gives_any old files (show name) in
    let found = text_there old files name s store told in
    record {
      finds = record {
        text = found.text;
        given = given.0;
        there = found.there;
        read = given.1;
        is = subst (HasLeft old new (show name) W) (sym (on_store-found found.text _ s found.is)) (store, same, wrote);
      };
      files = refl;
    }

pub unshown : (name : List ℕ) (files : FilesState) (out : SinkState) (old new : KeeperState) (stop : ShelfStop)
    → StopsCall old new name (λ f. IsFaultOf old name find_fault (shelf_fault f)) stop
    → ShelfEnds (show name) (scene files files out out old new) (Err stop)
unshown name files out old new stop stops =
    stops-shelf (show name) (scene files files out out old new) (λ f. IsFaultOf old name find_fault (shelf_fault f)) stop refl refl
    (show-declines old files name) stops

-- ---- records are added

-- records that fit have no fault but that of the length
grown : (s : Keeping) (records : List (List (ℕ × ℤ))) → absolute_sum s.records + absolute_sum records < 2 ^ 127
    → (b : Bool) → nat_lt 268435456 (length (store_text (with_batch s records))) ≡ b
    → add_fault s records ≡ if b then Some shelf.TooLarge else None
grown s records fits b test = rw (lt-leb (2 ^ 127) (absolute_sum s.records + absolute_sum records) fits) (rw test refl)

-- the ending by the same test
pub adding-by : (s : Keeping) (records : List (List (ℕ × ℤ))) (b : Bool) → nat_lt 268435456 (length (store_text (with_batch s records))) ≡ b
    → adding s (Ok records) ≡ if b then declines TooLarge
    else leaves (with_batch s records) (changes_line (changes (answer_of s) (answer_of (with_batch s records))))
adding-by s records b test = rw test refl

pub grow_no_sum : (old new : KeeperState) (name : List ℕ) (s : Keeping) (records : List (List (ℕ × ℤ))) (before added : ℤ)
    → absolute_sum s.records + absolute_sum records < 2 ^ 127
    → Refuses old new name (λ f. add_fault s records ≡ Some f) (shelf.SumTooLarge before added) → ⊥
grow_no_sum old new name s records before added fits why = by (nat_lt 268435456 (length (store_text (with_batch s records)))) refl
  where
    by : (b : Bool) → nat_lt 268435456 (length (store_text (with_batch s records))) ≡ b → ⊥
    by true test = let is = sym why.cause ∙ grown s records fits true test in cc
    by false test = let is = sym why.cause ∙ grown s records fits false test in cc

adding-leaves : (s : Keeping) (records : List (List (ℕ × ℤ))) → absolute_sum s.records + absolute_sum records < 2 ^ 127
    → add_fault s records ≡ None
    → adding s (Ok records) ≡ leaves (with_batch s records) (changes_line (changes (answer_of s) (answer_of (with_batch s records))))
adding-leaves s records fits none = by (nat_lt 268435456 (length (store_text (with_batch s records)))) refl
  where
    by : (b : Bool) → nat_lt 268435456 (length (store_text (with_batch s records))) ≡ b
        → adding s (Ok records) ≡ leaves (with_batch s records) (changes_line (changes (answer_of s) (answer_of (with_batch s records))))
    by true test = let is = sym none ∙ grown s records fits true test in absurd (cc)
    by false test = adding-by s records false test

adding-declines : (s : Keeping) (records : List (List (ℕ × ℤ))) (fault : StoreFault) → absolute_sum s.records + absolute_sum records < 2 ^ 127
    → add_fault s records ≡ Some (shelf_fault fault) → adding s (Ok records) ≡ declines fault
adding-declines s records fault fits some = by (nat_lt 268435456 (length (store_text (with_batch s records)))) refl
  where
    by : (b : Bool) → nat_lt 268435456 (length (store_text (with_batch s records))) ≡ b → adding s (Ok records) ≡ declines fault
    by true test = adding-by s records true test ∙ declines-same TooLarge fault (sym (grown s records fits true test) ∙ some)
    by false test = let is = sym some ∙ grown s records fits false test in absurd (cc)

module _ (name file : List ℕ) (s : Keeping) (store : IsStore s) (files read : FilesState) (old : KeeperState)
    (told : Told old name (λ t. store_of t ≡ Some s)) where
  pub added : (records : List (List (ℕ × ℤ))) (out out_after : SinkState) (after : KeeperState) (W : List ℕ → Type 0)
      → HasRead (absolute_sum s.records) files read (file ∷ []) records → add_fault s records ≡ None → IsStore (with_batch s records)
      → after ≡ keeping_text name (store_text (with_batch s records)) old → W (changes_line (changes (answer_of s) (answer_of (with_batch s records))))
      → Leaves (add name file) (scene files read out out_after old after) W
  added records out out_after after W has none grows put wrote = record {
    finds = add-finds old files name file s (Ok records) (HasLeft old after (add name file) W) store told has.read
        (subst (HasLeft old after (add name file) W) (sym (adding-leaves s records has.fits none)) (grows, put, wrote));
    files = has.same;
  }

  pub unadded : (records : List (List (ℕ × ℤ))) (out : SinkState) (after : KeeperState) (stop : ShelfStop)
      → HasRead (absolute_sum s.records) files read (file ∷ []) records
      → StopsCall old after name (λ f. add_fault s records ≡ Some (shelf_fault f)) stop
      → ShelfEnds (add name file) (scene files read out out old after) (Err stop)
  unadded records out after stop has stops =
      stops-shelf (add name file) (scene files read out out old after) (λ f. add_fault s records ≡ Some (shelf_fault f)) stop has.same refl
      (λ fault is. add-finds old files name file s (Ok records) (λ e. e ≡ declines fault) store told has.read (adding-declines s records fault has.fits is))
      stops

  pub unread_batch : (out : SinkState) (after : KeeperState) (stop : Stop) → StopsRead (absolute_sum s.records) files read (file ∷ []) stop
      → after ≡ old → ShelfEnds (add name file) (scene files read out out old after) (Err (Job stop))
  unread_batch out after (Refused n number reason) stops same = record {
    named = stops.1;
    finds = add-finds old files name file s (Err (refused_line n.now (record { number = number; reason = reason })))
        (λ e. e ≡ refuses n.now (record { number = number; reason = reason })) store told stops.2 refl;
    untouched = record { files = stops.0; out = refl; keeper = stays-same old after same };
  }
  unread_batch out after (ReadFailed n) stops same = record {
    named = stops.1;
    there = told-map old files name _ _ (λ t is. found_no_fault t s is) told;
    missed = stops.0;
    out = refl;
    keeper = stays-same old after same;
  }
  unread_batch out after NoMemory stops same = record { files = stops; out = refl; keeper = stays-same old after same }
  unread_batch out after (Words f) stops same = absurd stops
  unread_batch out after (Denied cert f) stops same = absurd stops
  unread_batch out after TooLong stops same = absurd stops
  unread_batch out after WriteFailed stops same = absurd stops

-- what was read after the sum that the store tells
pub read_after : (sum : ℤ) (n : ℕ) (names : List (List ℕ)) (file : List ℕ) (files read : FilesState) (records : List (List (ℕ × ℤ)))
    → sum ≡ pos n → names ≡ file ∷ [] → HasRead (unsigned_abs sum) files read names records → HasRead n files read (file ∷ []) records
read_after sum n names file files read records tells named has =
    subst (λ k. HasRead k files read (file ∷ []) records) (ap unsigned_abs tells)
    (subst (λ ns. HasRead (unsigned_abs sum) files read ns records) named has)

pub unread_after : (sum : ℤ) (n : ℕ) (names : List (List ℕ)) (file : List ℕ) (files read : FilesState) (stop : Stop)
    → sum ≡ pos n → names ≡ file ∷ [] → StopsRead (unsigned_abs sum) files read names stop → StopsRead n files read (file ∷ []) stop
unread_after sum n names file files read stop tells named stops =
    subst (λ k. StopsRead k files read (file ∷ []) stop) (ap unsigned_abs tells)
    (subst (λ ns. StopsRead (unsigned_abs sum) files read ns stop) named stops)

pub unfound : (name file : List ℕ) (files : FilesState) (out : SinkState) (old new : KeeperState) (stop : ShelfStop)
    → StopsCall old new name (λ f. IsFaultOf old name find_fault (shelf_fault f)) stop
    → ShelfEnds (add name file) (scene files files out out old new) (Err stop)
unfound name file files out old new stop stops =
    stops-shelf (add name file) (scene files files out out old new) (λ f. IsFaultOf old name find_fault (shelf_fault f)) stop refl refl
    (add-declines old files name file) stops

-- ---- the words

pub attempted : (words : List (List ℕ)) (sc : Scene) (asked : Shelving) (result : Result (Unit {0}) ShelfStop) → shelf_job words ≡ Ok asked
    → ShelfEnds asked sc result → Attempts words sc result
attempted words sc asked result is ends = by result ends
  where
    ok : (r : Result (Unit {0}) ShelfStop) → ShelfEnds asked sc r → IsOkAnd (shelf_job words) (λ a. ShelfEnds a sc r)
    ok r e = subst (λ j. IsOkAnd j (λ a. ShelfEnds a sc r)) (sym is) e

    by : (r : Result (Unit {0}) ShelfStop) → ShelfEnds asked sc r → Attempts words sc r
    by (Ok u) e = ok (Ok u) e
    by (Err (Job (Words f))) e = absurd e
    by (Err (Job (Refused n number reason))) e = ok (Err (Job (Refused n number reason))) e
    by (Err (Job (ReadFailed n))) e = ok (Err (Job (ReadFailed n))) e
    by (Err (Job (Denied cert f))) e = absurd e
    by (Err (Job TooLong)) e = absurd e
    by (Err (Job WriteFailed)) e = ok (Err (Job WriteFailed)) e
    by (Err (Job NoMemory)) e = ok (Err (Job NoMemory)) e
    by (Err (Declined n f)) e = ok (Err (Declined n f)) e
    by (Err (StoreFailed n)) e = ok (Err (StoreFailed n)) e
