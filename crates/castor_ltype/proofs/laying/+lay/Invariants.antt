use Rattle.std.proofs.Common.{◌≡◌, IfOk, map, take}
use Rattle.castor_alg.specs.TypeEnvs.{context_of}
use Rattle.castor_ltype.specs.Generation as generation
use Rattle.castor_ltype.specs.Sizes as size
use Rattle.castor_ltype.proofs.laying.+lay.Given as goal

abbrev pub invariant-lay_parts-loop-r : goal.invariant-lay_parts-loop-r
invariant-lay_parts-loop-r l = record {
  at : l.at ≡ l.r-index;
  codes : IfOk l.laid (λ p. p.codes ≡ generation.part_codes 0 (map generation.generator (take l.r-index l.rs)) (context_of l.env) (map (λ h. h.now) l.held));
  sizes : IfOk l.laid (λ p. p.sizes.items ≡ map (size.parts_size 0 p.codes) (map (λ h. h.now) l.held));
}
