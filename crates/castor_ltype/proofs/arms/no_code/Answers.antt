use Rattle.std.proofs.Common.{◌∙◌, ap, sym}
use Rattle.std.proofs.lemmas.List.{length-map}
use Rattle.castor_code.specs.declared.code.Code.{Cross}
use Rattle.castor_ltype.specs.Sizes.{held_size, parts_size}
use Rattle.castor_ltype.proofs.LayingLaws.{no_parts}
use Rattle.castor_ltype.proofs.SizeLaws.{map-same, size-Cross}
use Rattle.castor_ltype.proofs.arms.no_code.Goals as goal

pub returns : goal.returns
returns c = record {
  code = ap Cross c.new.ensures;
  sizes =
      no_parts c.new.result c.in_ok-no_sizes.field-0.items c.args.held.now _ c.new.ensures (sym (length-map c.args.held.now (λ h. h.now))) c.in_ok-no_sizes.ensures
      ∙ map-same (parts_size 0 c.new.result) (held_size (Cross c.new.result)) (λ h. sym (size-Cross c.new.result h)) _;
}
