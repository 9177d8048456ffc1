-- What reading one more file makes of the input of named files.
use Rattle.std.proofs.Common.{◌≡◌, ℕ, ◌+◌, ◌<◌, ◌≤◌, ◌^◌, List, [], ◌∷◌, ◌++◌, length, take, drop, Result, Ok, Err, Option, Some, None, refl, sym, ap, ◌∙◌}
use Rattle.std.proofs.Common.{subst, arith, append_assoc, append-nil, length-append, take-append-drop, get_or, sum_by, inl, inr}
use Rattle.std.specs.Prelude.{slice_get, IfSome, IsSomeAnd, IsOk, Contains, ℤ, unsigned_abs}
use Rattle.std.specs.Option.{option_map}
use Rattle.std.specs.String.{string_bytes}
use Rattle.std.specs.declared.string.String.{String}
use Rattle.std.specs.declared.alloc.Global.{Global}
use Rattle.std.proofs.lemmas.Bool.{cases_lt}
use Rattle.std.proofs.lemmas.Option.{slice_get-get_or, slice_get_within, get_or_from_slice_get}
use Rattle.std.proofs.lemmas.List.{take_more, take_all, take-append-le, get_or-map, length-map}
use Rattle.std.proofs.lemmas.List.Concat.{flat_map-append}
use Rattle.std.proofs.lemmas.List.Sums.{sum_by-append}
use Rattle.hu_base.specs.Base.{carried_of, records_of, records_in}
use Rattle.hu_io.specs.State.{FilesState, Missed}
use Rattle.hu_input.specs.declared.reason.Reason.{Reason}
use Rattle.hu_input.specs.declared.input.InputStop.{InputStop}
use Rattle.hu_input.specs.declared.input.InputStop.TheVariants.{Refused, ReadFailed, NoMemory}
use Rattle.hu_input.specs.View.{View}
use Rattle.hu_input.specs.Names.{texts_of}
use Rattle.hu_input.specs.Input.{Refusal, Unread, refused_line, with_front, after_file, content_length, input_from}
use Rattle.hu_input.specs.Intake.{StopsAt, TookFile, RefusesFile}
use Rattle.hu_input.specs.Reading.{IfTold, ReadsAll, ReadsFiles}
use Rattle.hu_input.proofs.IntakeLemmas.{with_front-append}
use Rattle.hu_input.specs.Input as spec

pub with_front-nil : {R E : Type 0} (rest : Result (List R) E) → with_front [] rest ≡ rest
with_front-nil (Ok more) = refl
with_front-nil (Err e) = refl

-- the records of one more base
records_in-push : {R : Type 0} (bases : List (ℕ × List R)) (base : ℕ × List R) → records_in (bases ++ base ∷ []) ≡ records_in bases ++ records_of base
records_in-push bases base = flat_map-append records_of bases (base ∷ []) ∙ ap (λ l. records_in bases ++ l) (append-nil (records_of base))

-- a name at a place: the names before it, and those after it
pub record IsAt (names : List (List ℕ)) (i : ℕ) (name : List ℕ) : Type 0 where
  pub place : slice_get names i ≡ Some name
  pub cut : take (i + 1) names ≡ take i names ++ name ∷ []
  pub whole : names ≡ take i names ++ name ∷ drop (i + 1) names

pub text_at : (names : List (String Global)) (i : ℕ) (item : String Global) (name : List ℕ) → i < length names → item
    ≡ get_or names i item → name ≡ string_bytes item
    → IsAt (texts_of names) i name
text_at names i item name within is text =
    let all = texts_of names in
    let inside : i < length all = omega (arith, length-map names string_bytes) in
    let found : get_or all i [] ≡ name = get_or-map string_bytes names i item [] within ∙ ap string_bytes (sym is) ∙ sym text in
    let cut : take (i + 1) all ≡ take i all ++ name ∷ [] = take_more all i [] inside ∙ ap (λ n. take i all ++ n ∷ []) found in
    record {
      place = slice_get-get_or all i [] inside ∙ ap Some found;
      cut = cut;
      whole = sym (take-append-drop (i + 1) all) ∙ ap (λ front. front ++ drop (i + 1) all) cut ∙ append_assoc (take i all) (name ∷ []) (drop (i + 1) all);
    }

module _ {R : Type 0} (reading : List ℕ → Result R Reason) (absolute : R → ℕ) where
  -- some files were read, and the next begins after their bytes and their sum
  pub record AreRead (sum : ℕ) (files : FilesState) (done : List (List ℕ)) (v : View R) (bases : List (ℕ × List R)) : Type 0 where
    pub one_each : length bases ≡ length done
    pub carried : carried_of v.base ≡ sum + sum_by absolute (records_in bases)
    pub fits : sum + sum_by absolute (records_in bases) < 2 ^ 127
    pub next : IfSome files.contents (λ told. (more : List (List ℕ)) → input_from reading absolute told 0 sum (done ++ more)
        ≡ with_front (records_in bases) (input_from reading absolute told v.lines.before (carried_of v.base) more))
    pub front : (n : ℕ) → IfTold reading absolute files sum (take n done) (λ input. input ≡ Ok (records_in (take n bases)))

  told_by : (contents : Option (List ℕ → Option (List ℕ))) (P : (List ℕ → Option (List ℕ)) → Type 0)
      → ((told : List ℕ → Option (List ℕ)) → P told) → IfSome contents P
  told_by None P always = tt
  told_by (Some told) P always = always told

  both_told : (contents : Option (List ℕ → Option (List ℕ))) (P Q S : (List ℕ → Option (List ℕ)) → Type 0)
      → ((told : List ℕ → Option (List ℕ)) → P told → Q told → S told)
      → IfSome contents P → IfSome contents Q → IfSome contents S
  both_told None P Q S so p q = tt
  both_told (Some told) P Q S so p q = so told p q

  one_told : (contents : Option (List ℕ → Option (List ℕ))) (P S : (List ℕ → Option (List ℕ)) → Type 0) → ((told : List ℕ → Option (List ℕ)) → P told → S told)
      → IfSome contents P → IfSome contents S
  one_told None P S so p = tt
  one_told (Some told) P S so p = so told p

  -- no file was read
  pub read_none : (sum : ℕ) (files : FilesState) (v : View R) → v.lines.before ≡ 0 → carried_of v.base ≡ sum → sum < 2 ^ 127 → AreRead sum files [] v []
  read_none sum files v first carried fits = record {
    one_each = refl;
    carried = omega (arith, carried);
    fits = omega (arith, fits);
    next = told_by files.contents _ (λ told more.
        sym (with_front-nil (input_from reading absolute told v.lines.before (carried_of v.base) more)
        ∙ ap (λ n. input_from reading absolute told n (carried_of v.base) more) first
        ∙ ap (λ n. input_from reading absolute told 0 n more) carried));
    front = λ n. told_by files.contents _ (λ told.
        ap (input_from reading absolute told 0 sum) (take_all n [] (omega arith)) ∙ ap (λ bases. Ok (records_in bases)) (sym (take_all n [] (omega arith))));
  }

  sum_in-push : (bases : List (ℕ × List R)) (base : ℕ × List R)
      → sum_by absolute (records_in (bases ++ base ∷ [])) ≡ sum_by absolute (records_in bases) + sum_by absolute (records_of base)
  sum_in-push bases base = ap (sum_by absolute) (records_in-push bases base) ∙ sum_by-append absolute (records_in bases) (records_of base)

  -- the records of one more file
  file_next : (told : List ℕ → Option (List ℕ)) (name : List ℕ) (v w : View R) (base : ℕ × List R) (content : Option (List ℕ)) (more : List (List ℕ))
      → carried_of w.base ≡ carried_of v.base + sum_by absolute (records_of base)
      → IsSomeAnd content (λ bytes. (w.lines.before ≡ v.lines.before + length bytes)
      × (spec.records_of reading absolute v.lines.before (carried_of v.base) bytes ≡ Ok (records_of base)))
      → after_file reading absolute name (carried_of v.base) (option_map (spec.records_of reading absolute v.lines.before (carried_of v.base)) content)
      (λ s. input_from reading absolute told (v.lines.before + content_length reading absolute content) s more)
      ≡ with_front (records_of base) (input_from reading absolute told w.lines.before (carried_of w.base) more)
  file_next told name v w base None more sum read = absurd read
  file_next told name v w base (Some bytes) more sum read =
      ap (λ r. after_file reading absolute name (carried_of v.base) (Some r)
      (λ s. input_from reading absolute told (v.lines.before + length bytes) s more)) read.1
      ∙ ap (λ s. with_front (records_of base) (input_from reading absolute told (v.lines.before + length bytes) s more)) (sym sum)
      ∙ ap (λ n. with_front (records_of base) (input_from reading absolute told n (carried_of w.base) more)) (sym read.0)

  module _ (sum : ℕ) (files : FilesState) (done : List (List ℕ)) (v w : View R) (bases : List (ℕ × List R)) where
    next_more : (name : List ℕ) (base : ℕ × List R) (told : List ℕ → Option (List ℕ)) → carried_of w.base
        ≡ carried_of v.base + sum_by absolute (records_of base)
        → ((more : List (List ℕ)) → input_from reading absolute told 0 sum (done ++ more)
        ≡ with_front (records_in bases) (input_from reading absolute told v.lines.before (carried_of v.base) more))
        → IsSomeAnd (told name) (λ bytes. (w.lines.before ≡ v.lines.before + length bytes)
        × (spec.records_of reading absolute v.lines.before (carried_of v.base) bytes ≡ Ok (records_of base)))
        → (more : List (List ℕ)) → input_from reading absolute told 0 sum ((done ++ name ∷ []) ++ more)
        ≡ with_front (records_in (bases ++ base ∷ [])) (input_from reading absolute told w.lines.before (carried_of w.base) more)
    next_more name base told carried next read more =
        let rest = input_from reading absolute told w.lines.before (carried_of w.base) more in
        ap (input_from reading absolute told 0 sum) (append_assoc done (name ∷ []) more)
        ∙ next (name ∷ more)
        ∙ ap (with_front (records_in bases)) (file_next told name v w base (told name) more carried read)
        ∙ sym (with_front-append (records_in bases) (records_of base) rest)
        ∙ ap (λ front. with_front front rest) (sym (records_in-push bases base))

    front_more : (name : List ℕ) (base : ℕ × List R) (told : List ℕ → Option (List ℕ)) → length bases ≡ length done
        → input_from reading absolute told 0 sum (done ++ name ∷ []) ≡ Ok (records_in (bases ++ base ∷ []))
        → (n : ℕ) → input_from reading absolute told 0 sum (take n done) ≡ Ok (records_in (take n bases))
        → input_from reading absolute told 0 sum (take n (done ++ name ∷ [])) ≡ Ok (records_in (take n (bases ++ base ∷ [])))
    front_more name base told one_each whole n front =
        elim (cases_lt (length done) n) [
          | inl over ↦
              let names_over : length (done ++ name ∷ []) ≤ n = omega (arith, length-append done (name ∷ [])) in
              let bases_over : length (bases ++ base ∷ []) ≤ n = omega (arith, one_each, length-append bases (base ∷ [])) in
              ap (input_from reading absolute told 0 sum) (take_all n (done ++ name ∷ []) names_over) ∙ whole
              ∙ ap (λ l. Ok (records_in l)) (sym (take_all n (bases ++ base ∷ []) bases_over))
          | inr within ↦
              let bases_within : n ≤ length bases = omega (arith, one_each) in
              ap (input_from reading absolute told 0 sum) (take-append-le n done (name ∷ []) within) ∙ front
              ∙ ap (λ l. Ok (records_in l)) (sym (take-append-le n bases (base ∷ []) bases_within))
        ]

    -- one more file was read
    pub read_more : (new : FilesState) (name : List ℕ) (base : ℕ × List R) → AreRead sum files done v bases → TookFile reading absolute v w files new name base
        → AreRead sum files (done ++ name ∷ []) w (bases ++ base ∷ [])
    read_more new name base read took =
        let carried : carried_of w.base ≡ carried_of v.base + sum_by absolute (records_of base) = omega (arith, took.sum, took.carried) in
        let next = both_told files.contents _ _ _ (λ told next took_. next_more name base told carried next took_) read.next took.told in
        record {
          one_each = omega (arith, read.one_each, length-append done (name ∷ []), length-append bases (base ∷ []));
          carried = omega (arith, carried, read.carried, sum_in-push bases base);
          fits = omega (arith, took.fits, took.carried, read.carried, sum_in-push bases base);
          next = next;
          front = λ n. both_told files.contents _ _ _
              (λ told next front. front_more name base told read.one_each
              (ap (input_from reading absolute told 0 sum) (sym (append-nil (done ++ name ∷ []))) ∙ next []
              ∙ ap Ok (append-nil (records_in (bases ++ base ∷ [])))) n front)
              next (read.front n);
        }

  -- all files were read
  pub read_all : (sum : ℕ) (files new : FilesState) (names : List (List ℕ)) (v : View R) (bases : List (ℕ × List R))
      → AreRead sum files names v bases → new ≡ files
      → ReadsAll reading absolute sum files new names bases
  read_all sum files new names v bases read same = record {
    same = same;
    fits = read.fits;
    one_each = read.one_each;
    all = one_told files.contents _ _ (λ told next. ap (input_from reading absolute told 0 sum) (sym (append-nil names))
        ∙ next [] ∙ ap Ok (append-nil (records_in bases))) read.next;
    front = read.front;
  }

  refused_here : (told : List ℕ → Option (List ℕ)) (name : List ℕ) (v : View R) (refusal : Refusal) (content : Option (List ℕ)) (more : List (List ℕ))
      → IsSomeAnd content (RefusesFile reading absolute v refusal)
      → after_file reading absolute name (carried_of v.base) (option_map (spec.records_of reading absolute v.lines.before (carried_of v.base)) content)
      (λ s. input_from reading absolute told (v.lines.before + content_length reading absolute content) s more) ≡ Err (refused_line name refusal)
  refused_here told name v refusal None more refused = absurd refused
  refused_here told name v refusal (Some bytes) more refused =
      ap (λ r. after_file reading absolute name (carried_of v.base) (Some r)
      (λ s. input_from reading absolute told (v.lines.before + length bytes) s more)) refused

  refused_after : (sum : ℕ) (files : FilesState) (names : List (List ℕ)) (i : ℕ) (name : List ℕ) (v : View R) (bases : List (ℕ × List R)) (refusal : Refusal)
      → IsAt names i name → AreRead sum files (take i names) v bases
      → IfSome files.contents (λ told. IsSomeAnd (told name) (RefusesFile reading absolute v refusal))
      → IfTold reading absolute files sum names (λ input. input ≡ Err (refused_line name refusal))
  refused_after sum files names i name v bases refusal at read refused =
      let more = drop (i + 1) names in
      both_told files.contents _ _ _
      (λ told next here.
      ap (input_from reading absolute told 0 sum) at.whole
      ∙ next (name ∷ more)
      ∙ ap (with_front (records_in bases)) (refused_here told name v refusal (told name) more here))
      read.next refused

  accepted_before : (sum : ℕ) (files : FilesState) (done : List (List ℕ)) (v : View R) (bases : List (ℕ × List R)) → AreRead sum files done v bases
      → IfTold reading absolute files sum done IsOk
  accepted_before sum files done v bases read =
      one_told files.contents _ _ (λ told next. subst IsOk (sym (ap (input_from reading absolute told 0 sum) (sym (append-nil done)) ∙ next [])) refl) read.next

  -- reading stopped in a file
  pub read_stopped : (carried : ℤ) (files new : FilesState) (names : List (List ℕ)) (i : ℕ) (name : List ℕ) (v : View R)
      (bases : List (ℕ × List R)) (stop : InputStop)
      → IsAt names i name → AreRead (unsigned_abs carried) files (take i names) v bases → StopsAt files new name (RefusesFile reading absolute v) stop
      → ReadsFiles reading absolute carried files new names (Err stop)
  read_stopped carried files new names i name v bases (Refused k number reason) at read stops =
      let refusal : Refusal = record { number = number; reason = reason } in
      let first = refused_after (unsigned_abs carried) files names i name v bases refusal at read stops.2 in
      record {
        same = stops.1;
        named = subst (Contains names) (sym stops.0) (i, slice_get_within names i name at.place, get_or_from_slice_get names i name name at.place);
        first = subst (λ text. IfTold reading absolute files (unsigned_abs carried) names
            (λ input. input ≡ Err (refused_line text refusal))) (sym stops.0) first;
      }
  read_stopped carried files new names i name v bases (ReadFailed k) at read stops = (
    i,
    record {
      named = at.place ∙ ap Some (sym stops.0);
      missed = subst (Missed files new) (sym stops.0) stops.1;
      accepted = accepted_before (unsigned_abs carried) files (take i names) v bases read;
    },
  )
  read_stopped carried files new names i name v bases NoMemory at read stops = stops
