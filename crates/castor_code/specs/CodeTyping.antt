-- The column types of codes under a context, and what codes are well typed.
use Rattle.std.specs.Prelude.{List, [], ◌∷◌, map, Option, Some, None, option_and_then, if◌then◌else◌}
use Rattle.castor_val.specs.declared.value.Ty.{Ty}
use Rattle.castor_val.specs.declared.value.Ty.TheVariants.{Int, Bool as Truth, Text}
use Rattle.castor_alg.specs.declared.context.Context.{Context}
use Rattle.castor_alg.specs.Typing.{RelTyping, allowed, are_hash_keys, are_sorting_keys, common_types, cross_types, each, extended, group_types, is_context, is_of, is_range, type_under, types_of_each, within_limits}
use Rattle.castor_code.specs.declared.code.Code.{Code, fold-Code}
use Rattle.castor_code.specs.declared.code.Code.TheOpen.{Code-F}
use Rattle.castor_code.specs.declared.code.Code.TheOpen as code

-- one node: values give one column of their type, and children and entries those of the kid; the others are as the
-- operators of relations
abbrev pub code_types_step : Code-F RelTyping → RelTyping
code_types_step (code.Int lo hi) context = Some (Int ∷ [])
code_types_step code.Bool context = Some (Truth ∷ [])
code_types_step (code.Text min max) context = Some (Text ∷ [])
code_types_step (code.Cross ks) context = cross_types (map (λ (k : RelTyping). k context) ks)
code_types_step (code.Concat ks) context = option_and_then common_types (each (map (λ (k : RelTyping). k context) ks))
code_types_step (code.List count body kid) context = kid context
code_types_step (code.Hash count body key kid by) context = option_and_then (λ columns. if are_hash_keys columns (types_of_each by [] context) then kid context else None) (cross_types (map (λ (k : RelTyping). k context) key))
code_types_step (code.Ord count body key kid lo hi) context = option_and_then (λ columns. if is_range columns lo hi context then kid context else None) (key context)
code_types_step (code.Select es kid) context = option_and_then (λ columns. within_limits (types_of_each es columns context)) (kid context)
code_types_step (code.Filter e kid) context = option_and_then (λ columns. allowed (is_of Truth (type_under e columns context)) columns) (kid context)
code_types_step (code.Dep k first second) context = option_and_then (λ columns. second (extended context k columns)) (first context)
code_types_step (code.Group ks aggs kid) context = option_and_then (λ columns. group_types ks aggs columns) (kid context)
code_types_step (code.Order ks kid) context = option_and_then (λ columns. allowed (are_sorting_keys ks columns) columns) (kid context)
code_types_step (code.Dedup kid) context = kid context

-- the column types of a code under a context, and none where it isn't well typed there
abbrev pub code_types : Code → Context → Option (List Ty)
code_types c context = if is_context context then fold-Code RelTyping code_types_step c context else None
