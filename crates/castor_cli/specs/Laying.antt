-- What is known of the layout of a final query before its image is written.
use Rattle.std.specs.Prelude.{◌≡◌, List, length, true, Ok}
use Rattle.castor_val.specs.declared.table.Table.{Table}
use Rattle.castor_alg.specs.declared.context.Context.{Context}
use Rattle.castor_alg.specs.declared.held.Held.{Held}
use Rattle.castor_alg.specs.declared.rel.Rel.{Rel}
use Rattle.castor_code.specs.CodeForms.{is_well_formed}
use Rattle.castor_code.specs.Data.{data_of, fits}
use Rattle.castor_image.specs.declared.head.Head.{Head}
use Rattle.castor_image.specs.Heads.{is_head}
use Rattle.castor_image.specs.Images.{fits_head}
use Rattle.castor_ltype.specs.declared.generation.Layout.{Layout}
use Rattle.castor_ltype.specs.Generation.{code_for}
use Rattle.castor_ltype.specs.Layouts.{FitsHeld, HasTypes, IsFormed}
use Rattle.castor_schema.specs.declared.checked.Checked.{Checked}
use Rattle.castor_schema.specs.WellTyped.{query_context}
use Rattle.castor_script.specs.Finish.{finish_of}
use Rattle.castor_script.specs.Kept.{MeansTheSame}
use Rattle.castor_alg.specs.HeldData.{held_data}
use Rattle.castor_alg.specs.Stages.{stage}
use Rattle.castor_cli.specs.Sound.{IsSound, TablesFit}

-- what the script `finish;` makes of a checked query
pub record IsFinal (c : Checked) (final : Rel) : Type 0 where
  pub finished : finish_of (query_context c).tables c.query ≡ Ok final
  pub same : MeansTheSame (query_context c) c.query final

-- what is held for a final query over tables, whose parts are each computed in time
pub record IsHeldFor (c : Checked) (final : Rel) (held : Held) : Type 0 where
  pub sound : IsSound c
  pub final_is : IsFinal c final
  pub staged : stage final ≡ Ok tt
  pub tables : List Table
  pub fit : TablesFit c tables
  pub held_is : held_data final tables ≡ Ok held

-- a layout of what is held for a query
pub record IsLayoutFor (q : Rel) (types : Context) (held : Held) (l : Layout) : Type 0 where
  pub code : l.code ≡ code_for q types held
  pub size : l.size ≡ length (data_of l.code held)
  pub typed : HasTypes q types l.code
  pub fits : FitsHeld q types held l.code
  pub formed : IsFormed q types l.code

-- a head, a layout and what is held make an image
pub record CanBeWritten (head : Head) (l : Layout) (held : Held) : Type 0 where
  pub valid : is_head head ≡ true
  pub formed : is_well_formed l.code ≡ true
  pub typed : fits_head l.code head ≡ true
  pub fitting : fits l.code held ≡ true
  pub size : l.size ≡ length (data_of l.code held)
