-- That a checked file is within the limits that its tables and lines are loaded by.
use Rattle.std.proofs.Common.{◌≡◌, ◌≤◌, true, length}
use Rattle.std.specs.Prelude.{slice_index_or}
use Rattle.std.proofs.lemmas.Bool.{and_parts, leb-true}
use Rattle.std.proofs.lemmas.List.Sums.{AllPass-from_list_all}
use Rattle.castor_schema.specs.declared.checked.Checked.{Checked}
use Rattle.castor_names.specs.declared.table.Declared.{Declared}
use Rattle.castor_names.specs.NameForms.{is_table}
use Rattle.castor_schema.specs.WellTyped.{AreWithinLimits}
use Rattle.castor_cli.specs.Sound.{IsSmall}

narrow : (t : Declared) → is_table t ≡ true → length t.columns ≤ 64
narrow t h = leb-true _ _ (and_parts _ _ (and_parts _ _ h).0).1

pub small_within : (c : Checked) → AreWithinLimits c → IsSmall c
small_within c h = record {
  tables = h.few_tables;
  narrow = λ k d inside. narrow (slice_index_or c.tables k d) (AllPass-from_list_all is_table c.tables h.tables k d inside);
  params = h.few_params;
}
