-- What an image that is built answers: what its query means over its tables.
use Rattle.std.specs.Prelude.{◌≡◌, ℕ, List, true, false, Ok, None}
use Rattle.castor_base.specs.Files.{Files}
use Rattle.castor_val.specs.declared.row.Row.{Row}
use Rattle.castor_val.specs.declared.table.Table.{Table}
use Rattle.castor_val.specs.Values.{row_fits}
use Rattle.castor_alg.specs.Meaning.{meaning}
use Rattle.castor_alg.specs.Scopes.{unbound}
use Rattle.castor_code.specs.LayoutMeaning.{layout_meaning}
use Rattle.castor_image.specs.Images.{Content}
use Rattle.castor_schema.specs.declared.checked.Checked.{Checked}
use Rattle.castor_val.specs.Columns.{types_of}
use Rattle.castor_cli.specs.Building.{built}
use Rattle.castor_cli.specs.Preparation.{IsQueryIn, tables_behind}
use Rattle.castor_cli.specs.Sound.{IsSound}

-- the files have this checked query, which is sound as each is, and these tables for it, and so this image is built
pub record IsImageBuilt (files : Files) (query script : List ℕ) (c : Checked) (tables : List Table) (x : Content) : Type 0 where
  pub query_is : IsQueryIn false files query (Ok c)
  pub sound : IsSound c
  pub tables_are : tables_behind None files script c ≡ Ok tables
  pub image_is : built c tables ≡ Ok x

-- Under all parameters of the query's types, the image has the rows that the checked query means over its tables, in that
-- order and each as often, and the same faults.
abbrev pub MeansTheQuery : Checked → List Table → Content → Type 0
MeansTheQuery c tables x = (values : Row) → row_fits values (types_of c.params) ≡ true → layout_meaning x.code x.held unbound values ≡ meaning c.query tables unbound values

-- each image that is built means its query
abbrev pub ImagesMeanTheirQueries : Type 0
ImagesMeanTheirQueries = (files : Files) (query script : List ℕ) (c : Checked) (tables : List Table) (x : Content) → IsImageBuilt files query script c tables x → MeansTheQuery c tables x
