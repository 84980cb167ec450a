use Rattle.std.proofs.Common.{◌∙◌, ◌+◌, ap, map, option_map, refl, rules, sym}
use Rattle.std.proofs.lemmas.List.{length-map}
use Rattle.castor_val.specs.Values.{value_of}
use Rattle.castor_ltype.proofs.KeyLaws.{codes_more, no_columns, sizes_more}
use Rattle.castor_ltype.proofs.keys.key_columns.Goals as goal

pub loop-ty-init : goal.loop-ty-init
loop-ty-init c = record {
  at = refl;
  codes = c.new.ensures;
  sizes = no_columns c.new.result c.in_ok-no_sizes.field-0.items c.args.entries.now _ c.new.ensures (sym (length-map c.args.entries.now (λ e. e.now))) c.in_ok-no_sizes.ensures;
}

pub loop-ty-preserved : goal.loop-ty-preserved
loop-ty-preserved c =
    let values = ap (map (option_map value_of)) c.as_slice.ensures.value ∙ c.in_ok-values.ensures in
    record {
      at = ap (λ n. n + 1) c.loop-ty.invariant.at;
      codes = codes_more c.args.types.now c.loop-ty.ty-index c.loop-ty.at _ _ _ c.loop-ty.laid c.in_ok-laid.laid c.in_ok-column.column c.loop-ty-test.true (search rules) c.loop-ty.invariant.at c.loop-ty.invariant.codes c.loop-ty.invariant.sizes values c.in_ok-column.ensures.code c.in_ok-column.ensures.sizes c.in_ok-laid.ensures.codes c.in_ok-laid.ensures.sizes;
      sizes = sizes_more c.args.types.now c.loop-ty.ty-index c.loop-ty.at _ _ _ c.loop-ty.laid c.in_ok-laid.laid c.in_ok-column.column c.loop-ty-test.true (search rules) c.loop-ty.invariant.at c.loop-ty.invariant.codes c.loop-ty.invariant.sizes values c.in_ok-column.ensures.code c.in_ok-column.ensures.sizes c.in_ok-laid.ensures.codes c.in_ok-laid.ensures.sizes;
    }
