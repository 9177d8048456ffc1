-- The settings of a store with its records.
use Rattle.std.specs.Prelude.{ℕ, ℤ, List}
use Rattle.hu_kept.specs.Kept.{Keeping, fresh, with_batch}
use Rattle.hu_shelf.specs.declared.settings.Settings.{Settings}

abbrev pub store_with : Settings → List (List (ℕ × ℤ)) → Keeping
store_with settings records = with_batch (fresh settings.least settings.top settings.closed) records
