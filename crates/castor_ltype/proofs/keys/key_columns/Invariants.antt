use Rattle.std.proofs.Common.{◌≡◌, map, take}
use Rattle.castor_ltype.specs.Generation as generation
use Rattle.castor_ltype.specs.Sizes as size
use Rattle.castor_ltype.proofs.keys.key_columns.Given as goal

abbrev pub invariant-loop-ty : goal.invariant-loop-ty
invariant-loop-ty l = record {
  at : l.at ≡ l.ty-index;
  codes : l.laid.codes ≡ generation.key_codes 0 (take l.ty-index l.types) (map (λ e. e.now) l.entries);
  sizes : l.laid.sizes.items ≡ map (size.key_size 0 l.laid.codes) (map (λ e. e.now) l.entries);
}
